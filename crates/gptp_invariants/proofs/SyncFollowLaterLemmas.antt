-- As time passes the time that is carried stays right; it is so from when the network is settled.
use Rattle.std.proofs.Common.{◌≡◌, ◌<◌, ◌≤◌, ◌+◌, ℕ, refl, sym, ap, subst, arith}
use Rattle.gptp_lists.specs.Members.{In}
use Rattle.gptp_links.specs.Queue.{Frame}
use Rattle.gptp_setup.specs.declared.setup.Params.{Params}
use Rattle.gptp_setup.specs.SettlingParams.{SettlingParams, largest_interval}
use Rattle.gptp_model.specs.Acts.{at as at_time}
use Rattle.gptp_model.specs.World.{WorldState, world_queue}
use Rattle.gptp_pdelay_machine.specs.Lanes.{LaneFrame as SeenFrame}
use Rattle.gptp_sync_machine.specs.Follower.{FollowerSetting}
use Rattle.gptp_sync_machine.specs.Follower as followers
use Rattle.gptp_sync_machine.specs.Invariant.{IsJustSettled}
use Rattle.gptp_sync_machine.proofs.FollowerLemmas.{inv_begins, inv_later}
use Rattle.gptp_invariants.specs.SyncFollowView.{tells}
use Rattle.gptp_invariants.specs.SyncFollowers.{HasWay, IsFollower, follower, follower_setting}
use Rattle.gptp_invariants.specs.WorldKnown.{IsKnown}
use Rattle.gptp_invariants.specs.DelayLinkView.{LinkPlace, link_frame_view}
use Rattle.gptp_invariants.specs.SyncTimed.{ArriveBy, CarriesTime, IsSettledFrom}
use Rattle.gptp_invariants.specs.SyncTimedLaws.{TimeBegins, TimeCarriesTime}
use Rattle.gptp_invariants.proofs.SyncFollowSettingLemmas.{is_setting, most_is, residence_is}
use Rattle.gptp_invariants.proofs.DelayLinkCallLemmas.{seen_from}

-- a system that follows later follows now
module _ (p : Params) (w : WorldState) (time : ℕ) (at : LinkPlace) (f' : IsFollower at (at_time time w)) (steps : ℕ)
    (h' : HasWay p at (at_time time w) f' steps) where
  abbrev earlier : IsFollower at w
  earlier = record {
    channel = f'.channel;
    here = f'.here;
    used = f'.used;
    lossless = f'.lossless;
    above = record {
      station = f'.above.station;
      here = f'.above.here;
      live = f'.above.live;
      named = f'.above.named;
    };
    own = record { station = f'.own.station; here = f'.own.here; live = f'.own.live; named = f'.own.named };
    near = f'.near;
    parent = f'.parent;
  }

  abbrev way_earlier : HasWay p at w earlier steps
  way_earlier =
      record { way = h'.way; phase = h'.phase; stamps = h'.stamps; is = h'.is; stamped = h'.stamped }

pub time_carries : TimeCarriesTime
time_carries p settled longest w time later carries = record {
  follow = λ at f' steps h'.
      inv_later
      (follower_setting p.params settled longest at (at_time time w) f' steps h') tells
      (follower at w (earlier p.params w time at f' steps h')) (follower at (at_time time w) f') (time, later, refl)
      (carries.follow at (earlier p.params w time at f' steps h') steps (way_earlier p.params w time at f' steps h'));
  roots = carries.roots;
}

-- frames in flight have arrived by an announce interval after the last change
pub known_arrive : (p : SettlingParams) (settled : ℕ) (w : WorldState) → IsKnown p w
    → w.last_change + largest_interval p ≤ settled → ArriveBy settled w
known_arrive p settled w known old link direction channel f here member =
    let due = known.fresh.frames link direction channel f here member in omega (arith, due, old)

module _ (p : SettlingParams) (settled longest : ℕ) (w : WorldState) (time : ℕ) (early : w.time < settled)
    (known : IsKnown p w) (arrive : ArriveBy settled w)
    (is : IsSettledFrom p settled longest (at_time time w)) where
  abbrev later : WorldState
  later = at_time time w

  module _ (at : LinkPlace) (f' : IsFollower at later) (steps : ℕ) (h' : HasWay p.params at later f' steps) where
    abbrev k : FollowerSetting
    k = follower_setting p.params settled longest at later f' steps h'

    -- what is in flight was sent before
    old_frame : (one : Frame) → In one (world_queue at.direction f'.channel)
        → one.due < settled + (followers.parent_link k).most
    old_frame one member =
        let due = arrive at.link at.direction f'.channel one f'.here member in
        let fits = is.world.sound.on_time.links at.link f'.channel f'.here in
        let least = fits.positive in
        let order = fits.ordered in
        let most = most_is p settled longest later is at f' steps h' in
        omega (arith, due, least, order, most, early)

    fresh : IsJustSettled k (follower at later f')
    fresh = record {
      lane = λ g member. by g (seen_from (world_queue at.direction f'.channel) g member);
      relay = λ due runs.
          let soon = (known.in_time at.answering f'.own.station f'.own.here f'.own.live).relay due runs in
          let params = ap (λ (x : Params). x.residence)
          (known.set at.answering f'.own.station f'.own.here).params in
          let residence = residence_is p settled longest later is at f' steps h' in
          omega (arith, soon, params, residence, early);
    }
      where
        by : (g : SeenFrame)
            → ((one : Frame) × In one (world_queue at.direction f'.channel) × (g ≡ link_frame_view one))
            → g.due < settled + (followers.parent_link k).most
        by g (one, member, same) =
            subst (λ (y : SeenFrame). y.due < settled + (followers.parent_link k).most) (sym same)
            (old_frame one member)

  pub begins : CarriesTime p.params settled longest later
  begins = record {
    follow = λ at f' steps h'.
        inv_begins (k at f' steps h') tells (follower at later f')
        (is_setting p settled longest later is at f' steps h') (fresh at f' steps h');
    roots = λ place station due here live root runs.
        let soon = (known.in_time place station here live).relay due runs in
        let params = ap (λ (x : Params). x.residence) (known.set place station here).params in
        omega (arith, soon, params, early);
  }

pub time_begins : TimeBegins
time_begins p settled longest w time early known arrive is = begins p settled longest w time early known arrive is
