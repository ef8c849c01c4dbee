-- Each document has findings.
use Rattle.std.proofs.Common.{◌≡◌, ◌<◌, ◌≤◌, ◌^◌, ℕ, not, nat_le, List, [], ◌∷◌, length, map, flat_map, Some, None, refl, sym, ap, ap₂, subst, ◌∙◌, arith}
use Rattle.std.specs.Global.{Vec}
use Rattle.std.specs.List.{AllByRecursion}
use Rattle.std.proofs.lemmas.List.{length-map}
use Rattle.std.proofs.lemmas.List.Sorted.{length_permutation}
use denote.RawPtr.{null_ptr}
use native.Mathlib.Decide.{dec_le}
use Rattle.gptp_lists.specs.Members.{In}
use Rattle.gptp_lists.proofs.SystemSpecLemmas.{from_map, slice_get-In}
use Rattle.gptp_roles.specs.Selection.{clock_of}
use Rattle.gptp_graph.specs.PathBound.{path_bound}
use Rattle.gptp_setup.specs.SettlingParams.{lapse_span}
use Rattle.gptp_scenario.specs.Calm.{IsCalm}
use Rattle.gptp_scenario.specs.Change.{standing}
use Rattle.gptp_scenario.specs.Network.{IsNetwork, NetworkState, pace_of}
use Rattle.gptp_scenario.specs.SettlingTime.{settling_span_with}
use Rattle.gptp_scenario.specs.SyncWait.{sync_paths}
use Rattle.gptp_scenario.specs.declared.change.Timed.{Timed}
use Rattle.gptp_scenario.specs.declared.network.LinkSpec.{LinkSpec}
use Rattle.gptp_network.specs.Document.{DocumentState}
use Rattle.gptp_network.specs.Events.{AreEvents}
use Rattle.gptp_network.specs.Snapshot.{events_by}
use Rattle.gptp_network.proofs.ExistenceLemmas.{snapshot_exists}
use Rattle.gptp_network.proofs.MeantLemmas.{SetsOctets, meant_document, meant_octets, stands_below}
use Rattle.gptp_network.proofs.SnapshotLemmas.{from_filter}
use Rattle.gptp_network.proofs.TakingLemmas.{in_all}
use Rattle.gptp_topology.specs.After.{system_then, systems_after}
use Rattle.gptp_topology.specs.Course.{cable_of, cable_wire}
use Rattle.gptp_topology.specs.Tables.{clocks_of}
use Rattle.gptp_topology.specs.Times.{IsCalmTime, late_at, times_of}
use Rattle.gptp_topology.specs.declared.nodes.System.{System}
use Rattle.gptp_topology.specs.declared.times.CalmTime.{CalmTime}
use Rattle.gptp_topology.proofs.RestLemmas.{calm_dec}
use Rattle.gptp_lint.specs.Components.{AreComponents, IsChance, IsBestsMoment, apart_from, nobody_from}
use Rattle.gptp_lint.specs.Findings.{AreFound}
use Rattle.gptp_lint.specs.Graph.{GraphState, HaveOctets, graph_after}
use Rattle.gptp_lint.specs.Labels.{bests_in, labels_in}
use Rattle.gptp_lint.specs.Laws.{EachIsFound}
use Rattle.gptp_lint.specs.Moments.{AreSorted, chance_at}
use Rattle.gptp_lint.specs.Trouble.{longs_of, lossies_of}
use Rattle.gptp_lint.specs.Unlinked.{AreUnlinked, is_linked, unlinked_in}
use Rattle.gptp_lint.specs.declared.components.Apart.{Apart}
use Rattle.gptp_lint.specs.declared.components.Components.{Components}
use Rattle.gptp_lint.specs.declared.components.Moment.{Moment}
use Rattle.gptp_lint.specs.declared.components.Nobody.{Nobody}
use Rattle.gptp_lint.specs.declared.findings.Findings.{Findings}
use Rattle.gptp_lint.proofs.FewLemmas.{few_apart, few_bests, few_chances, few_kept, few_longs, few_lossies, few_meant, few_nobody, few_times}
use Rattle.gptp_lint.proofs.FoundLemmas.{found}
use Rattle.gptp_lint.proofs.MomentLemmas.{is_chance, is_moment}
use Rattle.gptp_lint.proofs.OrderedLemmas.{sorted_exists}
use Rattle.gptp_lint.proofs.UnlinkedLemmas.{are_unlinked, few_unlinked, own_clock}

-- a list as it stands in memory
abbrev held : {X : Type 0} (xs : List X) → length xs < 2 ^ 63 → Vec X
held xs few = record {
  ptr = null_ptr;
  len = length xs;
  cap = length xs;
  alloc = record { memory = record { seal = tt } };
  items = xs;
  ok = (refl, omega arith);
  small = few;
}

-- ---- how a network stands after events, and the bests then

module _ (n : NetworkState) (network : IsNetwork n) (events : List Timed) where
  few_systems : length (systems_after n events) ≤ 512
  few_systems =
      let long = length-map n.systems (system_then events) in
      let few = network.few_systems in
      omega arith

  abbrev graph_then : GraphState
  graph_then = graph_after n events

  have_octets : ((t : Timed) → In t events → SetsOctets t.act) → HaveOctets (systems_after n events)
  have_octets sets o member =
      let (m, among, is) = from_map (system_then events) o n.systems member in
      let (place, there) = slice_get-In m n.systems among in
      subst (λ (p : System). p.identity < 2 ^ 112) is
      (stands_below events sets (clock_of m.identity) (standing m) (network.identities place m there))

  -- these are the bests then, and no more of them than systems
  record HaveBests : Type 0 where
    bests : List ℕ
    are : AreSorted graph_then bests
    few : length bests ≤ 512

  bests_exist : ((t : Timed) → In t events → SetsOctets t.act) → HaveBests
  bests_exist sets =
      let (bests, moved, sorted) = sorted_exists (bests_in (labels_in graph_then)) in
      let long = length_permutation (bests_in (labels_in graph_then)) bests moved in
      let few : length (bests_in (labels_in graph_then)) ≤ length (systems_after n events) = few_bests graph_then in
      let most = few_systems in
      record {
        bests = bests;
        are = record { all = moved; sorted = sorted; octets = have_octets sets };
        few = omega arith;
      }

-- ---- systems that no link names

record HaveUnlinked (n : NetworkState) : Type 0 where
  clocks : List ℕ
  are : AreUnlinked n clocks
  few : length clocks ≤ 512

unlinked_exist : (n : NetworkState) → IsNetwork n → HaveUnlinked n
unlinked_exist n network = by (dec_le 2 (length n.systems))
  where
    by : Dec (2 ≤ length n.systems) → HaveUnlinked n
    by (no few) = record {
      clocks = [];
      are = few_unlinked n network (omega (arith, few)) [] refl;
      few = omega arith;
    }
    by (yes several) =
        let (ordered, moved, sorted) = sorted_exists (unlinked_in (map cable_of n.links) (clocks_of n)) in
        let long = length_permutation (unlinked_in (map cable_of n.links) (clocks_of n)) ordered moved in
        let kept : length (unlinked_in (map cable_of n.links) (clocks_of n)) ≤ length (clocks_of n) =
        few_kept (λ (clock : ℕ). not (is_linked (map cable_of n.links) clock)) (clocks_of n) in
        let all : length (clocks_of n) ≡ length n.systems = length-map n.systems own_clock in
        let most = network.few_systems in
        record {
          clocks = ordered;
          are = are_unlinked n network several (map cable_of n.links) refl
              (unlinked_in (map cable_of n.links) (clocks_of n)) ordered refl moved sorted;
          few = omega arith;
        }

-- ---- the times of a document

abbrev at_of : Moment → ℕ
at_of m = m.at

abbrev time_at : CalmTime → ℕ
time_at t = t.at

module _ (d : DocumentState) (network : IsNetwork d.network)
    (sets : (t : Timed) → In t d.events → SetsOctets t.act) where
  sets_by : (at : ℕ) → (t : Timed) → In t (events_by at d.events) → SetsOctets t.act
  sets_by at t member = sets t (from_filter (λ (u : Timed). nat_le u.at at) t d.events member).0

  -- a moment
  record HasMoment (at : ℕ) : Type 0 where
    moment : Moment
    is : IsBestsMoment d moment
    at_is : moment.at ≡ at
    few : length moment.bests.items ≤ 512

  moment_exists : (at : ℕ) → HasMoment at
  moment_exists at =
      let have = bests_exist d.network network (events_by at d.events) (sets_by at) in
      let m : Moment = record { at = at; bests = held have.bests (omega (arith, have.few)) } in
      record {
        moment = m;
        is = is_moment d network (events_by at d.events) at m (record { at_is = refl; bests = have.are }) refl;
        at_is = refl;
        few = have.few;
      }

  record HaveMoments (times : List ℕ) : Type 0 where
    moments : List Moment
    times_are : map at_of moments ≡ times
    each : AllByRecursion (IsBestsMoment d) moments
    few : AllByRecursion (λ (m : Moment). length m.bests.items ≤ 512) moments

  moments_exist : (times : List ℕ) → HaveMoments times
  moments_exist [] = record { moments = []; times_are = refl; each = tt; few = tt }
  moments_exist (at ∷ times) =
      let one = moment_exists at in
      let rest = moments_exist times in
      record {
        moments = one.moment ∷ rest.moments;
        times_are = ap₂ (λ (t : ℕ) (ts : List ℕ). t ∷ ts) one.at_is rest.times_are;
        each = (one.is, rest.each);
        few = (one.few, rest.few);
      }

  -- whether it is calm at a time, and what bounds its settling then
  record HasTime (at : ℕ) : Type 0 where
    time : CalmTime
    is : IsCalmTime d time
    at_is : time.at ≡ at

  time_exists : (at : ℕ) → HasTime at
  time_exists at = by (calm_dec d.network (events_by at d.events))
    where
      by : Dec (IsCalm d.network (events_by at d.events)) → HasTime at
      by (no restless) = record {
        time = record { at = at; bound = None; needs = late_at d at };
        is = record { bound = restless; needs = refl };
        at_is = refl;
      }
      by (yes calm) =
          let (g, stands) = snapshot_exists d at network in
          record {
            time = record {
              at = at;
              bound = Some (settling_span_with (pace_of d.network) (sync_paths d.network (events_by at d.events))
                  (path_bound g));
              needs = late_at d at;
            };
            is = record {
              bound = (calm, record { snapshot = g; stands = stands; is = refl });
              needs = refl;
            };
            at_is = refl;
          }

  record HaveTimes (times : List ℕ) : Type 0 where
    calm : List CalmTime
    times_are : map time_at calm ≡ times
    each : AllByRecursion (IsCalmTime d) calm

  calm_exist : (times : List ℕ) → HaveTimes times
  calm_exist [] = record { calm = []; times_are = refl; each = tt }
  calm_exist (at ∷ times) =
      let one = time_exists at in
      let rest = calm_exist times in
      record {
        calm = one.time ∷ rest.calm;
        times_are = ap₂ (λ (t : ℕ) (ts : List ℕ). t ∷ ts) one.at_is rest.times_are;
        each = (one.is, rest.each);
      }

  -- ---- components

  record HaveChances : Type 0 where
    pairs : List (ℕ × ℕ)
    are : IsChance d pairs
    few : length pairs ≤ 512

  chances_exist : HaveChances
  chances_exist =
      let have = bests_exist d.network network d.events sets in
      let g : GraphState = graph_after d.network d.events in
      let most = have.few in
      let short = few_chances (labels_in g) have.bests in
      record {
        pairs = flat_map (chance_at (labels_in g)) have.bests;
        are = is_chance d network (flat_map (chance_at (labels_in g)) have.bests)
            (record { bests = have.bests; are = have.are; pairs_are = refl });
        few = omega arith;
      }

  -- lists of what these moments show
  few_parted : length d.events ≤ 4096 → (ms : List Moment) → map at_of ms ≡ times_of d.events
      → length (apart_from 0 ms) < 2 ^ 63
  few_parted few ms are =
      let many : length ms ≡ length (times_of d.events) = sym (length-map ms at_of) ∙ ap length are in
      let times = few_times 0 d.events in
      let apart = few_apart 0 ms in
      omega arith

  few_unfit : length d.events ≤ 4096 → (ms : List Moment) → map at_of ms ≡ times_of d.events
      → AllByRecursion (λ (m : Moment). length m.bests.items ≤ 512) ms → length (nobody_from [] ms) < 2 ^ 63
  few_unfit few ms are bests =
      let many : length ms ≡ length (times_of d.events) = sym (length-map ms at_of) ∙ ap length are in
      let times = few_times 0 d.events in
      let nobody = few_nobody [] ms bests in
      omega arith

  components_exist : length d.events ≤ 4096 → (c : Components) × AreComponents d c
  components_exist few =
      let have = moments_exist (times_of d.events) in
      let chances = chances_exist in (
        record {
          apart = held (apart_from 0 have.moments) (few_parted few have.moments have.times_are);
          chance = held chances.pairs (omega (arith, chances.few));
          nobody = held (nobody_from [] have.moments) (few_unfit few have.moments have.times_are have.few);
        },
        record {
          moments = have.moments;
          are = record { times_are = have.times_are; each = have.each };
          apart = refl {A = List Apart};
          nobody = refl {A = List Nobody};
          chance = chances.are;
        },
      )

-- ---- all findings

wires_back : (ws : List LinkSpec) → map cable_wire (map cable_of ws) ≡ ws
wires_back [] = refl
wires_back (w ∷ ws) = ap (λ vs. w ∷ vs) (wires_back ws)

module _ (d : DocumentState) (network : IsNetwork d.network) (events : AreEvents d.network d.events)
    (few : length d.events ≤ 4096) (sets : (t : Timed) → In t d.events → SetsOctets t.act) where
  few_long : length (longs_of d d.network.links) < 2 ^ 63
  few_long =
      let each = few_longs d d.network.links in
      let most = network.few_links in
      omega arith

  few_lossy : length (lossies_of d d.network.links) < 2 ^ 63
  few_lossy =
      let each = few_lossies d d.network.links few in
      let most = network.few_links in
      omega arith

  few_calm : (calm : List CalmTime) → map time_at calm ≡ times_of d.events → length calm < 2 ^ 63
  few_calm calm are =
      let many : length calm ≡ length (times_of d.events) = sym (length-map calm time_at) ∙ ap length are in
      let times = few_times 0 d.events in
      omega arith

  findings_exist : (f : Findings) × AreFound d f
  findings_exist =
      let unlinked = unlinked_exist d.network network in
      let (components, are_components) = components_exist d network sets few in
      let times = calm_exist d network sets (times_of d.events) in
      let back = sym (wires_back d.network.links) in
      let f : Findings = record {
        long = held (longs_of d d.network.links) few_long;
        lossy = held (lossies_of d d.network.links) few_lossy;
        unlinked = held unlinked.clocks (omega (arith, unlinked.few));
        components = components;
        calm = held times.calm (few_calm times.calm times.times_are);
        limit = lapse_span d.network.params;
      } in (
        f,
        found d f (map cable_of d.network.links) network events refl (ap (longs_of d) back) (ap (lossies_of d) back)
            unlinked.are are_components (record { times_are = times.times_are; each = times.each }) refl,
      )

pub each_is_found : EachIsFound
each_is_found text d means =
    let (network, events) = meant_document text d means in
    findings_exist d network events (few_meant text d means)
    (λ t member. in_all (λ (u : Timed). SetsOctets u.act) t d.events (meant_octets text d means) member)
