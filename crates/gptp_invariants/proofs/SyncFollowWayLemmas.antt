-- The ways of a world: as long as distances are, over short links; and a parent with a parent follows that.
use Rattle.std.proofs.Common.{◌≡◌, ◌⊎◌, ◌<◌, ◌≤◌, ◌^◌, ◌+◌, ◌*◌, ℕ, zero, suc, true, Some, length, slice_get, refl, sym, ap, subst, ◌∙◌, inl, inr, arith}
use Rattle.std.proofs.Math.Nat.{mul-le-mul}
use Rattle.std.proofs.lemmas.Bool.{cases_lt}
use Rattle.gptp_graph.specs.Distance.{IsDistance, IsNear}
use Rattle.gptp_graph.specs.Parent.{IsParent, ParentLink}
use Rattle.gptp_graph.specs.Snapshot.{IsWellFormed, PortIdentity, Snapshot, System, port_of}
use Rattle.gptp_graph.proofs.DistanceLemmas.{IsDistance-unique}
use Rattle.gptp_graph.proofs.LinkLemmas.{Joins-sym}
use Rattle.gptp_pdelay.specs.Clock.{IsDrift, IsTime}
use Rattle.gptp_pdelay.proofs.ClockLemmas.{stamp_shows_time}
use Rattle.gptp_setup.specs.declared.setup.Params.{Params}
use Rattle.gptp_setup.specs.SettlingParams.{SettlingParams}
use Rattle.gptp_system.specs.State.{clock, stamping}
use Rattle.gptp_model.specs.declared.station.Station.{Station}
use Rattle.gptp_model.specs.World.{WorldState, receiver, sender}
use Rattle.gptp_error_laws.specs.TimeError.{WayLink, Way, link_at}
use Rattle.gptp_error_laws.specs.WayLaws.{IsDocumented}
use Rattle.gptp_error_laws.proofs.LongerLemmas.{link_same}
use Rattle.gptp_sync_machine.specs.Right.{most_correction_at}
use Rattle.gptp_sync_machine.specs.Tree.{IsWayTo, Parts, last_link}
use Rattle.gptp_sync_machine.specs.TreeLaws.{ArePartsOf}
use Rattle.gptp_sync_machine.proofs.SizeLemmas.{corrections_are_small}
use Rattle.gptp_sync_machine.proofs.TreeLemmas.{way_ends_at_parent, way_leads_to}
use Rattle.gptp_invariants.specs.SyncFollowers.{HasWay, IsFollower, follower_clock, follower_setting, parent_link, follower_parts, follower_state}
use Rattle.gptp_invariants.specs.DelayLinkView.{LinkPlace}
use Rattle.gptp_invariants.specs.WorldStanding.{live_stations, snapshot_of}
use Rattle.gptp_invariants.specs.SyncTimed.{IsSettledFrom}
use Rattle.gptp_invariants.proofs.SyncFollowSettingLemmas.{fit, is_setting, own_stamped}
use Rattle.gptp_invariants.proofs.SyncFollowTreeLemmas.{well_formed}
use Rattle.gptp_invariants.proofs.WorldStandsLemmas.{sender_lives}
use Rattle.gptp_invariants.proofs.WorldSystemLemmas.{clock_lives, live_from}
use Rattle.gptp_invariants.proofs.WorldWayLemmas.{way_of}

-- ---- any way

-- it is as long as the distance
pub way_distance : (x : Parts) (g : Snapshot) (steps clock : ℕ) (w : Way) (phase : ℕ → ℕ) → IsWellFormed g
    → IsWayTo x g steps clock w phase → IsDistance g clock steps
way_distance x g zero clock w phase wf (is, w_is, phase_is) = is
way_distance x g (suc steps) clock w phase wf (parent, above, follows, is, w_is, phase_is) =
    let there = way_distance x g steps parent.clock above phase wf is in
    let same : follows.nearer.distance ≡ steps =
    IsDistance-unique g parent.clock follows.nearer.distance steps wf follows.nearer.there there in
    subst (λ d. IsDistance g clock (suc d)) same follows.nearer.here

-- no link on it takes longer than the longest
links_short : (x : Parts) (g : Snapshot) (steps clock longest : ℕ) (w : Way) (phase : ℕ → ℕ) → ArePartsOf x longest
    → IsWayTo x g steps clock w phase → (i : ℕ) → i < steps → (link_at w i).most ≤ longest
links_short x g zero clock longest w phase fits is i on = absurd (omega (arith, on))
links_short x g (suc steps) clock longest w phase fits (parent, above, follows, is, w_is, phase_is) i on =
    by (cases_lt i steps) (links_short x g steps parent.clock longest above phase fits is i)
  where
    by : (i < steps) ⊎ (steps ≤ i) → (i < steps → (link_at above i).most ≤ longest) → (link_at w i).most ≤ longest
    by (inl before) shorter =
        let long = way_leads_to.long x g steps parent.clock above phase is in
        let same : link_at w i ≡ link_at above i =
        ap (λ v. link_at v i) w_is ∙ link_same above (last_link x clock parent) i (omega (arith, before, long)) in
        subst (λ (l : WayLink). l.most ≤ longest) (sym same) (shorter before)
    by (inr last) shorter =
        let here : i ≡ steps = omega (arith, on, last) in
        let same : link_at w i ≡ last_link x clock parent =
        ap (link_at w) here
        ∙ way_ends_at_parent.link x g steps clock parent w phase follows
        (parent, above, follows, is, w_is, phase_is) in
        subst (λ (l : WayLink). l.most ≤ longest) (sym same) (fits.short (port_of clock parent.own_port))

-- ---- the way of a system that follows

module _ (p : SettlingParams) (settled longest : ℕ) (w : WorldState) (is : IsSettledFrom p settled longest w)
    (at : LinkPlace)
    (f : IsFollower at w) (steps : ℕ) (h : HasWay p.params at w f steps) where
  abbrev x : Parts
  x = follower_parts p.params w

  abbrev g : Snapshot
  g = snapshot_of w

  wf : IsWellFormed g
  wf = well_formed p settled longest w is

  pub few : suc steps < 255
  few =
      let here = way_distance x g (suc steps) (follower_clock at w f) h.way h.phase wf h.is in
      let same = IsDistance-unique g (follower_clock at w f) (suc steps) f.near.0 wf here f.near.1 in
      let less = f.near.2 in
      omega (arith, same, less)

  pub long : length h.way.links ≡ suc steps
  long = way_leads_to.long x g (suc steps) (follower_clock at w f) h.way h.phase h.is

  pub common : (h.way.interval ≡ x.interval) × (h.way.turnaround ≡ x.turnaround) × (h.way.residence ≡ x.residence)
      × (h.way.blur ≡ x.blur) × (h.way.behind ≡ x.behind)
  common = way_ends_at_parent.common x g (suc steps) (follower_clock at w f) h.way h.phase h.is

  pub documented : IsDocumented h.way
  documented = (is_setting p settled longest w is at f steps h).documented

  link_short : (i : ℕ) → i < suc steps → (link_at h.way i).most ≤ longest
  link_short =
      links_short x g (suc steps) (follower_clock at w f) longest h.way h.phase
      (fit p settled longest w is at f steps h) h.is

  -- corrections on it have 63 bits
  pub correction_small : most_correction_at h.way (suc steps) < 2 ^ 63
  correction_small =
      let within = corrections_are_small h.way longest (suc steps) link_short in
      let params = is.pace.params.ranges.params in
      let most_turnaround = params.turnaround in
      let most_residence = params.residence in
      let turnaround : h.way.turnaround ≤ 1000000000 = omega (arith, most_turnaround, common.1) in
      let residence : h.way.residence ≤ 1000000000 = omega (arith, most_residence, common.2) in
      let limit = is.limit in
      let less = few in
      let little = documented.little in
      let each : 131072 * (2 * longest + 3 * h.way.blur + h.way.turnaround + h.way.residence + 1) ≤ 524289179779072 =
      omega (arith, turnaround, residence, limit, little) in
      let most_steps : suc steps ≤ 255 = omega (arith, less) in
      let product : suc steps * (131072 * (2 * longest + 3 * h.way.blur + h.way.turnaround + h.way.residence + 1))
      ≤ 255 * 524289179779072 = mul-le-mul most_steps each in
      omega (arith, within, product)

  -- its time stamps are times
  pub own_time_fits : (t : ℕ) → t ≤ w.time
      → IsTime ((follower_setting p.params settled longest at w f steps h).stamps t)
  own_time_fits t before =
      let shown = is.shown in
      let its = is.world.sound.wired.setups at.answering f.own.station f.own.here in
      let set_up = (is.measured.stations at.answering f.own.station f.own.here).set_up in
      let set = (is.world.known.set at.answering f.own.station f.own.here).params in
      subst IsTime (own_stamped p settled longest w is at f steps h t)
      (stamp_shows_time (stamping (follower_state at w f)) (follower_state at w f).phase (follower_state at w f).drift t
      (subst (λ n. n ≤ 10 ^ 18) (sym set_up.phase) its.phase) (omega (arith, before, shown))
      (subst (λ (q : Params). q.noise ≤ 1000) (sym set) is.pace.params.ranges.params.noise)
      (subst IsDrift (sym set_up.drift) its.drift))

-- ---- a parent

-- A system that has a parent follows it.
pub record Follows (w : WorldState) (place : ℕ) (station : Station) : Type 0 where
  pub at : LinkPlace
  pub follower : IsFollower at w
  pub own_place : at.answering ≡ place
  pub own_is : follower.own.station ≡ station
  pub named : (receiver at.direction follower.channel).clock ≡ clock station.system

pub follows_parent : (p : SettlingParams) (settled longest : ℕ) (w : WorldState) → IsSettledFrom p settled longest w
    → (place : ℕ)
    (station : Station) → slice_get w.stations place ≡ Some station → station.live ≡ true
    → IsNear (snapshot_of w) (clock station.system) → (l : ParentLink)
    → IsParent (snapshot_of w) (clock station.system) l → Follows w place station
follows_parent p settled longest w is place station here live near l follows =
    let v = clock station.system in
    let g = snapshot_of w in
    let joins = Joins-sym g (port_of v l.own_port) (port_of l.clock l.port) follows.nearer.joins in
    let way = way_of w (port_of l.clock l.port) (port_of v l.own_port) joins in
    let (s, member, same) = clock_lives w.stations (sender way.direction way.channel).clock
    (sender_lives (live_stations w.stations) way.direction way.channel way.used) in
    let there = live_from w.stations s member in
    let to : v ≡ (receiver way.direction way.channel).clock =
    ap (λ (q : PortIdentity). q.clock) (sym way.to) in
    let begins = sym way.from in
    let ends = sym way.to in
    let link : l ≡ parent_link way.direction way.channel = λ i. record {
      own_port = (ends i).port;
      clock = (begins i).clock;
      port = (begins i).port;
    } in
    record {
      at = record { link = way.link; direction = way.direction; asking = there.place; answering = place };
      follower = record {
        channel = way.channel;
        here = way.here;
        used = way.used;
        lossless = (is.links way.link way.channel way.here way.used).lossless;
        above = record {
          station = there.station;
          here = there.here;
          live = there.live;
          named = ap (λ (y : System). y.clock) (sym there.is) ∙ same;
        };
        own = record { station = station; here = here; live = live; named = to };
        near = subst (IsNear g) to near;
        parent = subst (λ n. IsParent g n (parent_link way.direction way.channel)) to
            (subst (IsParent g v) link follows);
      };
      own_place = refl;
      own_is = refl;
      named = sym to;
    }
