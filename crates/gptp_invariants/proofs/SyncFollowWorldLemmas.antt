-- Worlds of which all is claimed, as the laws on the time that is carried ask for them.
use Rattle.std.proofs.Common.{◌≡◌, ◌⊎◌, ◌<◌, ◌≤◌, ℕ, zero, suc, Bool, true, false, List, [], ◌∷◌, Option, Some, slice_get, refl, sym, subst, arith, inl, inr}
use Rattle.std.proofs.lemmas.Bool.{cases_lt}
use Rattle.std.specs.Prelude.{if◌then◌else◌, max}
use Rattle.gptp_graph.specs.Distance.{IsDistance}
use Rattle.gptp_graph.specs.Snapshot.{System}
use Rattle.gptp_graph.proofs.ParentLemmas.{LeadsNearer-distance}
use Rattle.gptp_graph.proofs.TreeLemmas.{parent_of_other}
use Rattle.gptp_links.specs.declared.bounds.Bounds.{Bounds}
use Rattle.gptp_scenario.specs.declared.change.Act.TheVariants.{Deliver, Expire, Change as Changing}
use Rattle.gptp_scenario.specs.declared.change.Timed.{Timed}
use Rattle.gptp_setup.specs.SettlingParams.{SettlingParams}
use Rattle.gptp_system.specs.State.{clock}
use Rattle.gptp_model.specs.Acts.{at}
use Rattle.gptp_model.specs.Course.{WasDone}
use Rattle.gptp_model.specs.declared.done.Done.{Done}
use Rattle.gptp_model.specs.World.{Channel, WorldState}
use Rattle.gptp_sync_machine.proofs.TreeLemmas.{way_exists}
use Rattle.gptp_invariants.specs.ChoiceCalm.{greatest_channel_delay}
use Rattle.gptp_invariants.specs.SyncFollowers.{follower_clock, follower_parts, stamps_of}
use Rattle.gptp_invariants.specs.WorldStanding.{channel_is_used, live_stations, snapshot_of}
use Rattle.gptp_invariants.specs.WorldKnown.{IsKnown}
use Rattle.gptp_invariants.specs.ChoiceSeenLaws.{IsNoChange}
use Rattle.gptp_invariants.specs.SyncTimed.{AllMeasureRight, ArriveBy, CarriesTime, IsSettledFrom}
use Rattle.gptp_invariants.specs.SyncTimedLaws.{ActsCarryTime, ClaimedIsSettledFrom, OthersFollow}
use Rattle.gptp_invariants.proofs.SyncFollowDeliveryLemmas.{delivery_carries}
use Rattle.gptp_invariants.proofs.SyncFollowExpiryLemmas.{expiry_carries}
use Rattle.gptp_invariants.proofs.SyncFollowLaterLemmas.{known_arrive, time_begins, time_carries}
use Rattle.gptp_invariants.proofs.SyncFollowTreeLemmas.{well_formed}
use Rattle.gptp_invariants.proofs.SyncFollowWayLemmas.{follows_parent}
use Rattle.gptp_invariants.proofs.ChoiceSettledLemmas.{choice_stands}

-- ---- acts

pub acts_carry_time : ActsCarryTime
acts_carry_time p settled longest (Deliver link direction) w draws done w' none k is is' right carries =
    delivery_carries p settled longest w w' is is' carries link direction k.octets draws k.answer k.delivers
acts_carry_time p settled longest (Expire number timer) w draws done w' none (told, k) is is' right carries =
    expiry_carries p settled longest w w' is is' right carries k.place timer draws k.so
acts_carry_time p settled longest (Changing change) w draws done w' none k is is' right carries = absurd none

-- so it is from act to act
module _ {F : Type 0} (answers : Bounds → ℕ → F → Option ℕ → F → Type 0) where
  pub done_carries : (p : SettlingParams) (settled longest : ℕ) (timed : Timed) (fate fate_after : F)
      (w w' : WorldState)
      (done : Done) → IsNoChange timed.act → WasDone answers timed fate fate_after w w' done → IsKnown p w
      → ArriveBy settled w → IsSettledFrom p settled longest (at timed.at w) → AllMeasureRight p.params (at timed.at w)
      → IsSettledFrom p settled longest w' → (settled ≤ w.time → CarriesTime p.params settled longest w)
      → CarriesTime p.params settled longest w'
  done_carries p settled longest timed fate fate_after w w' done none k known arrive is right is' before =
      acts_carry_time p settled longest timed.act (at timed.at w) k.draws done w' none k.acts is is' right
      (by (cases_lt w.time settled))
    where
      by : (w.time < settled) ⊎ (settled ≤ w.time) → CarriesTime p.params settled longest (at timed.at w)
      by (inl early) = time_begins p settled longest w timed.at early known arrive is
      by (inr late) = time_carries p settled longest w timed.at k.ready.timely.now (before late)

-- ---- delays

-- the greatest delay of links in use is no more than what none of them exceeds
pub used_within : (systems : List System) (channels : List Channel) (bound : ℕ)
    → ((link : ℕ) (channel : Channel) → slice_get channels link ≡ Some channel → channel_is_used systems channel ≡ true
    → channel.bounds.max ≤ bound)
    → greatest_channel_delay systems channels ≤ bound
used_within systems [] bound each = omega arith
used_within systems (first ∷ channels) bound each =
    by (channel_is_used systems first) refl (used_within systems channels bound (λ link. each (suc link)))
  where
    by : (used : Bool) → channel_is_used systems first ≡ used → greatest_channel_delay systems channels ≤ bound
        → (if used then max first.bounds.max (greatest_channel_delay systems channels) else greatest_channel_delay
        systems channels)
        ≤ bound
    by true is later = let one = each zero first refl is in omega (arith, one, later)
    by false is later = later

pub claimed_is_settled_from : ClaimedIsSettledFrom
claimed_is_settled_from p settled w claimed quiet choice old late shown = record {
  pace = claimed.pace;
  world = claimed.world;
  measured = claimed.measured;
  links = quiet;
  choice = choice_stands w choice;
  arrive = known_arrive p settled w claimed.world.known old;
  late = late;
  shown = shown;
  short = used_within (live_stations w.stations) w.net.channels p.params.threshold
      (λ link channel here used. let good = (quiet link channel here used).good in omega (arith, good));
  limit = claimed.pace.params.ranges.threshold;
}

-- ---- systems that follow

pub others_follow : OthersFollow
others_follow p settled longest w place station best is here live near is_best other =
    let g = snapshot_of w in
    let wf = well_formed p settled longest w is in
    let (l, follows) = parent_of_other g (clock station.system) best wf is_best other in
    let f = follows_parent p settled longest w is place station here live near l follows in
    let (d, distance, less) = near in
    let farther : d ≡ suc follows.nearer.distance =
    LeadsNearer-distance g (clock station.system) d l wf distance follows.nearer in
    let there : IsDistance g (follower_clock f.at w f.follower) (suc follows.nearer.distance) =
    subst (λ n. IsDistance g n (suc follows.nearer.distance)) (sym f.named)
    (subst (IsDistance g (clock station.system)) farther distance) in
    let (way, phase, leads) = way_exists (follower_parts p.params w) g (suc follows.nearer.distance)
    (follower_clock f.at w f.follower) wf there in
    record {
      place = f.at;
      follower = f.follower;
      is = f.named;
      steps = follows.nearer.distance;
      way = record {
        way = way;
        phase = phase;
        stamps = stamps_of w.stations (follower_clock f.at w f.follower);
        is = leads;
        stamped = refl;
      };
    }
