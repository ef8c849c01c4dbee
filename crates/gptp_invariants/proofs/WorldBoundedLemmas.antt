-- What the live systems of a settled world state of themselves is bounded.
use Rattle.std.proofs.Common.{◌≡◌, ◌≤◌, ◌<◌, ℕ, zero, suc, Bool, true, false, List, [], ◌∷◌, length, Some, slice_get, refl, sym, ap, subst, ◌∙◌, inl, inr, arith}
use Rattle.std.specs.Prelude.{if◌then◌else◌}
use Rattle.std.proofs.lemmas.Option.{none-some, same_Some}
use Rattle.gptp_setup.specs.SettlingParams.{SettlingParams}
use Rattle.gptp_lists.specs.Members.{In}
use Rattle.gptp_lists.proofs.SystemSpecLemmas.{In-map, from_map}
use Rattle.gptp_graph.specs.Best.{IsBest}
use Rattle.gptp_graph.specs.Distance.{IsDistance}
use Rattle.gptp_graph.specs.Marking.{Statement}
use Rattle.gptp_graph.specs.MarkingLaws.{IsBounded}
use Rattle.gptp_graph.specs.PathBound.{BoundsPaths}
use Rattle.gptp_graph.specs.Snapshot.{IsWellFormed, System, clocks}
use Rattle.gptp_graph.proofs.BestLemmas.{IsBest-unique}
use Rattle.gptp_graph.proofs.DistanceLemmas.{IsDistance-unique}
use Rattle.gptp_scenario.specs.Calm.{NothingLapses}
use Rattle.gptp_scenario.specs.SettlingTime.{settling_span_with}
use Rattle.gptp_system.specs.State.{clock}
use Rattle.gptp_model.specs.declared.station.Station.{Station}
use Rattle.gptp_model.specs.World.{WorldState}
use Rattle.gptp_bmca_machine.specs.Calm.{Calm}
use Rattle.gptp_bmca_machine.specs.Levels.{Invariant}
use Rattle.gptp_bmca_machine.specs.Network.{IsSettlingNetwork}
use Rattle.gptp_bmca_machine.proofs.SettledLemmas.{systems_bounded}
use Rattle.gptp_invariants.specs.WorldBounded.{IsBoundedWorld, statement_of, statements, statements_of}
use Rattle.gptp_invariants.specs.ChoiceCalm.{SettlingTimes, at_once, in_turn, network_with, paths_with, sound_from}
use Rattle.gptp_invariants.specs.WorldCalmFor.{IsCalmFor, at_once_span, span_over}
use Rattle.gptp_invariants.specs.WorldSettlingInvariant.{SettlingInvariant}
use Rattle.gptp_invariants.specs.ChoiceSettlesAsMachine.{IsWorld, start_of}
use Rattle.gptp_invariants.specs.ChoiceSettled.{Settled}
use Rattle.gptp_invariants.specs.WorldStanding.{live_stations, snapshot_of, standing_system}
use Rattle.gptp_invariants.specs.ChoiceView.{says_announce, station_view, view}
use Rattle.gptp_invariants.proofs.WorldClaimLemmas.{claim_capable}
use Rattle.gptp_invariants.proofs.WorldSettlingInvariantLemmas.{reach_of, set_alike, settled_at_once, settled_by_paths, span_within}
use Rattle.gptp_invariants.proofs.ChoiceSettlesAsMachineLemmas.{is_calm, is_network, is_quick_calm, is_quick_network, systems_bound}
use Rattle.gptp_invariants.proofs.ChoicePlaceLemmas.{station_there}
use Rattle.gptp_invariants.proofs.ChoiceSettledLemmas.{span_ends}
use Rattle.gptp_invariants.proofs.WorldStandsLemmas.{stands_well}
use Rattle.gptp_invariants.proofs.WorldSystemLemmas.{clock_in, live_from, live_there}

-- ---- who states what

-- a statement is that of a live system
pub record IsStatementAt (stations : List Station) (one : Statement) : Type 0 where
  pub place : ℕ
  pub station : Station
  pub here : slice_get stations place ≡ Some station
  pub live : station.live ≡ true
  pub is : one ≡ statement_of station

behind : (first : Station) (stations : List Station) (one : Statement) → IsStatementAt stations one
    → IsStatementAt (first ∷ stations) one
behind first stations one at =
    record { place = suc at.place; station = at.station; here = at.here; live = at.live; is = at.is }

pub statement_from : (stations : List Station) (one : Statement) → In one (statements stations)
    → IsStatementAt stations one
statement_from [] one member = absurd member
statement_from (first ∷ stations) one member = by first.live refl (statement_from stations one) member
  where
    by : (live : Bool) → first.live ≡ live → (In one (statements stations) → IsStatementAt stations one)
        → In one (if live then statement_of first ∷ statements stations else statements stations)
        → IsStatementAt (first ∷ stations) one
    by true is later (inl same) =
        record { place = zero; station = first; here = refl; live = is; is = same }
    by true is later (inr among) = behind first stations one (later among)
    by false is later among = behind first stations one (later among)

pub statement_there : (stations : List Station) (place : ℕ) (station : Station)
    → slice_get stations place ≡ Some station → station.live ≡ true
    → In (statement_of station) (statements stations)
statement_there [] place station here live = absurd (none-some station here)
statement_there (first ∷ stations) zero station here live =
    let same = same_Some first station here in
    let is : first.live ≡ true = ap (λ (x : Station). x.live) same ∙ live in
    rw is (inl (ap statement_of (sym same)))
statement_there (first ∷ stations) (suc place) station here live =
    by first.live (statement_there stations place station here live)
  where
    by : (live : Bool) → In (statement_of station) (statements stations)
        → In (statement_of station) (if live then statement_of first ∷ statements stations else statements stations)
    by true among = inr among
    by false among = among

-- each live system states something, and whatever is stated, a live system states it
stated : (w : WorldState) (v : ℕ) → In v (clocks (snapshot_of w))
    → (one : Statement) × In one (statements_of w) × (one.clock ≡ v)
stated w v known =
    let (s, member, same) = from_map clock_in v (live_stations w.stations) known in
    let at = live_from w.stations s member in (
      statement_of at.station,
      statement_there w.stations at.place at.station at.here at.live,
      ap clock_in (sym at.is) ∙ same,
    )

pub stated_lives : (w : WorldState) (one : Statement) → In one (statements_of w) → In one.clock (clocks (snapshot_of w))
stated_lives w one member =
    let at = statement_from w.stations one member in
    subst (λ (x : Statement). In x.clock (clocks (snapshot_of w))) (sym at.is)
    (In-map clock_in (standing_system at.station) (live_stations w.stations)
    (live_there w.stations at.place at.station at.here at.live))

-- ---- what is stated is bounded

-- a system has no root below its best's, nor that root over fewer steps than its distance
abbrev pub IsAbove : WorldState → Station → Type 0
IsAbove w station = (best : System) → IsBest (snapshot_of w) (clock station.system) best
    → (best.identity ≤ station.system.root)
    × ((d : ℕ) → IsDistance (snapshot_of w) (clock station.system) d → station.system.root ≡ best.identity
    → d ≤ station.system.steps)

-- so is each live system
abbrev pub AreAbove : WorldState → Type 0
AreAbove w = (place : ℕ) (station : Station) → slice_get w.stations place ≡ Some station → station.live ≡ true
    → IsAbove w station

-- they are where the world, as the machine sees it, holds what is sound
pub are_above : (p : SettlingParams) (m start : ℕ) (times : SettlingTimes) (w : WorldState)
    → IsSettlingNetwork (network_with p m start times w) → Calm (network_with p m start times w) (view w)
    → Invariant says_announce (network_with p m start times w) (view w) → sound_from p m start times w ≤ w.time
    → AreAbove w
are_above p m start times w network calm invariant late place station here live best is_best =
    systems_bounded says_announce (network_with p m start times w) (view w) place
    (station_view station) best network calm
    invariant (station_there w.stations place station here) live is_best late

-- so what a system of a settled world states is bounded
module _ (w : WorldState) (wf : IsWellFormed (snapshot_of w)) (settled : Settled w) (place : ℕ) (station : Station)
    (here : slice_get w.stations place ≡ Some station) (live : station.live ≡ true) (is_above : IsAbove w station) where
  is_near : (best : System) (d : ℕ) → IsBest (snapshot_of w) (clock station.system) best
      → IsDistance (snapshot_of w) (clock station.system) d → d < 255
      → (station.system.root ≡ best.identity) × (station.system.steps ≡ d)
  is_near best d is_best there near =
      let is = settled place station here live (d, there, near) in
      let (own, is_own, root) = is.root in (
        root
            ∙ ap (λ (s : System). s.identity)
            (IsBest-unique (snapshot_of w) (clock station.system) own best wf is_own is_best),
        IsDistance-unique (snapshot_of w) (clock station.system) station.system.steps d wf is.steps there,
      )

  is_bounded : IsBounded (snapshot_of w) (statement_of station)
  is_bounded = record {
    above = λ best is_best. (is_above best is_best).0;
    more = λ best d is_best there. (is_above best is_best).1 d there;
    near = is_near;
  }

-- ---- the world

-- it is bounded where it has settled, and nobody has a root below the best's
pub bounded_by : (p : SettlingParams) (w : WorldState) → IsWorld p w → Settled w → AreAbove w → IsBoundedWorld w
bounded_by p w is settled above = record {
  stated = stated w;
  no_other = stated_lives w;
  bounded = λ one member.
      let at = statement_from w.stations one member in
      subst (IsBounded (snapshot_of w)) (sym at.is)
      (is_bounded w (stands_well w is.sound is.between is.encodable) settled at.place at.station at.here at.live
      (above at.place at.station at.here at.live));
}

pub bounded_by_paths : (m : ℕ) (w : WorldState) → SettlingInvariant w → BoundsPaths (snapshot_of w) m
    → IsCalmFor (span_over m) w → IsBoundedWorld w
bounded_by_paths m w claimed bounded calm = bounded_by claimed.pace w claimed.is.world
    (settled_by_paths m w claimed bounded calm) (λ place station here live.
    let is = set_alike w claimed calm.pace calm.set place station here in
    let r = reach_of calm.pace m w is.world bounded calm.quiet in
    let capable = claim_capable calm.pace w is in
    let late = span_within calm.pace m w calm.late r in
    let ends = span_ends calm.pace w is.world capable is.settling r.reach r.bounded r.quiet m r.within late in
    are_above calm.pace r.reach (start_of calm.pace w) (in_turn calm.pace (paths_with r.reach w)) w
    (is_network calm.pace r.reach w is.world r.bounded) (is_calm calm.pace r.reach w is.world r.quiet.links capable)
    (is.settling r.reach r.bounded r.quiet).invariant (omega (arith, ends)) place station here live)

pub bounded_at_once : (m : ℕ) (w : WorldState) → SettlingInvariant w → BoundsPaths (snapshot_of w) m
    → (calm : IsCalmFor (at_once_span m) w) → NothingLapses calm.pace.params → IsBoundedWorld w
bounded_at_once m w claimed bounded calm off = bounded_by claimed.pace w claimed.is.world
    (settled_at_once m w claimed bounded calm off) (λ place station here live.
    let is = set_alike w claimed calm.pace calm.set place station here in
    let late = calm.late in
    are_above calm.pace m (start_of calm.pace w) (at_once calm.pace w) w
    (is_quick_network calm.pace m w is.world bounded)
    (is_quick_calm calm.pace m w is.world calm.quiet.links (claim_capable calm.pace w is))
    ((is.settling m bounded (record { links = calm.quiet.links; lapses = inl off })).at_once off)
    (omega (arith, late)) place station here live)

-- so it is by the number of live systems
pub claimed_bounded : (w : WorldState) → SettlingInvariant w → IsCalmFor settling_span_with w → IsBoundedWorld w
claimed_bounded w claimed calm =
    bounded_by_paths (length (snapshot_of w).systems) w claimed (systems_bound claimed.pace w claimed.is.world)
    (record { pace = calm.pace; set = calm.set; quiet = calm.quiet; late = calm.late })
