-- What Sync has to cross in a world is what it has to cross in its network.
use Rattle.std.proofs.Common.{◌≡◌, ◌∙◌, ◌+◌, ℕ, min, cond, Bool, true, false, List, [], ◌∷◌, map, refl, sym, ap, ap₂}
use Rattle.std.specs.Prelude.{if◌then◌else◌, ◌&&◌, ◌||◌, ◌==◌, not, max}
use Rattle.std.specs.List.{count_by, list_any}
use Rattle.std.specs.List.Sorted.{IsPermutation}
use Rattle.std.proofs.lemmas.List.Sorted.{IsPermutation-map, length_permutation, list_any-IsPermutation, sum_by-IsPermutation}
use Rattle.gptp_graph.specs.PathBound.{has_two_neighbours, path_bound, with_two_neighbours}
use Rattle.gptp_graph.specs.Snapshot.{Link, Snapshot, System, clocks}
use Rattle.gptp_scenario.specs.declared.change.Timed.{Timed}
use Rattle.gptp_scenario.specs.declared.network.SystemSpec.{SystemSpec}
use Rattle.gptp_scenario.specs.declared.network.LinkSpec.{LinkSpec}
use Rattle.gptp_scenario.specs.Change.{link_after}
use Rattle.gptp_scenario.specs.InUse.{lives, path_systems}
use Rattle.gptp_scenario.specs.InUse as plans
use Rattle.gptp_scenario.specs.Network.{IsNetwork, NetworkState}
use Rattle.gptp_scenario.specs.SyncWait.{sync_paths}
use Rattle.gptp_model.specs.Sound.{IsSound}
use Rattle.gptp_model.specs.World.{Channel, WorldState}
use Rattle.gptp_network.specs.Snapshot as network
use Rattle.gptp_network.specs.Snapshot.{StandsAfter}
use Rattle.gptp_network.proofs.ExistenceLemmas.{stands_after}
use Rattle.gptp_network.proofs.InUseLemmas.{live_there, paths_are, there_live}
use Rattle.gptp_network.proofs.PassLemmas.{same_tests}
use Rattle.gptp_invariants.specs.ChoiceCalm.{delay_in, greatest_channel_delay, sync_paths_of}
use Rattle.gptp_invariants.specs.WorldStanding.{stations_have_clock, live_stations, snapshot_of}
use Rattle.gptp_theorem.specs.Reached.{StandsAsPlanned, channel_wire}
use Rattle.gptp_theorem.proofs.SnapshotLemmas.{clocks_stand, snapshots_stand}

-- ---- the greatest delay

-- a link is up between two systems that are so
abbrev is_between : (ℕ → Bool) → LinkSpec → Bool
is_between has v = v.up && (has v.a.clock && has v.b.clock)

-- the greatest delay of such links
abbrev delay_by : (ℕ → Bool) → List LinkSpec → ℕ
delay_by has [] = 0
delay_by has (v ∷ vs) = if is_between has v then max v.bounds.max (delay_by has vs) else delay_by has vs

world_delay : (systems : List System) (channels : List Channel)
    → greatest_channel_delay systems channels ≡ delay_by (stations_have_clock systems) (map channel_wire channels)
world_delay systems [] = refl
world_delay systems (first ∷ channels) =
    ap (λ rest. if is_between (stations_have_clock systems)
    (channel_wire first) then max first.bounds.max rest else rest)
    (world_delay systems channels)

and_both : (a b c : Bool) → ((a && b) && c) ≡ (a && (b && c))
and_both true b c = refl
and_both false b c = refl

network_delay : (members : List SystemSpec) (events : List Timed) (links : List LinkSpec)
    → plans.greatest_delay members events links ≡ delay_by (lives members events) (map (link_after events) links)
network_delay members events [] = refl
network_delay members events (v ∷ links) =
    let w : LinkSpec = link_after events v in
    ap (λ used. if used then max w.bounds.max (plans.greatest_delay members events links)
    else plans.greatest_delay members events links)
    (and_both w.up (lives members events w.a.clock) (lives members events w.b.clock))
    ∙ ap (λ rest. if is_between (lives members events) w then max w.bounds.max rest else rest)
    (network_delay members events links)

pub delay_stands : (systems : List System) (members : List SystemSpec) (events : List Timed) (channels : List Channel)
    (links : List LinkSpec) → ((number : ℕ) → stations_have_clock systems number ≡ lives members events number)
    → map channel_wire channels ≡ map (link_after events) links
    → greatest_channel_delay systems channels ≡ plans.greatest_delay members events links
delay_stands systems members events channels links same stands =
    world_delay systems channels ∙ ap (delay_by (stations_have_clock systems)) stands
    ∙ ap (λ has. delay_by has (map (link_after events) links)) (λ i number. same number i)
    ∙ sym (network_delay members events links)

-- ---- how many systems a path has

-- links among these join the two systems
abbrev joined_by : List Link → ℕ → ℕ → Bool
joined_by links v w =
    list_any (λ (l : Link). (l.a.clock == v && l.b.clock == w) || (l.a.clock == w && l.b.clock == v)) links

abbrev two_by : List Link → List ℕ → List ℕ → ℕ → Bool
two_by links xs ys v =
    list_any (λ x. list_any (λ y. not (x == y) && (joined_by links v x && joined_by links v y)) ys) xs

-- it doesn't depend on the order of systems
module _ (g h : Snapshot) (systems : IsPermutation g.systems h.systems) (links : g.links ≡ h.links) where
  moved : IsPermutation (clocks g) (clocks h)
  moved = IsPermutation-map (λ (s : System). s.clock) g.systems h.systems systems

  two_alike : (v : ℕ) → has_two_neighbours g v ≡ has_two_neighbours h v
  two_alike v =
      ap (λ ls. two_by ls (clocks g) (clocks g) v) links
      ∙ (λ i. list_any (λ x.
      list_any-IsPermutation (λ y. not (x == y) && (joined_by h.links v x && joined_by h.links v y)) (clocks g)
      (clocks h) moved i) (clocks g))
      ∙ list_any-IsPermutation
      (λ x. list_any (λ y. not (x == y) && (joined_by h.links v x && joined_by h.links v y)) (clocks h)) (clocks g)
      (clocks h) moved

  pub bound_alike : path_bound g ≡ path_bound h
  bound_alike =
      let each : has_two_neighbours g ≡ has_two_neighbours h = λ i v. two_alike v i in
      let counts : with_two_neighbours g ≡ with_two_neighbours h =
      ap (λ p. count_by p (clocks g)) each
      ∙ sym (sum_by-IsPermutation (λ c. cond (has_two_neighbours h c) 1 0) (clocks g) (clocks h) moved) in
      ap₂ (λ a b. min (a + 2) b) counts (sym (length_permutation g.systems h.systems systems))

-- ---- the whole world

pub paths_stand : (n : NetworkState) (events : List Timed) (w : WorldState) → IsNetwork n → StandsAsPlanned n events w
    → IsSound w → sync_paths n events ≡ sync_paths_of w
paths_stand n events w is so sound = λ i. record { systems = paths i; delay = delay i }
  where
    there : (g : Snapshot) × StandsAfter n events g
    there = stands_after n events is

    paths : path_systems n.systems n.links events ≡ path_bound (snapshot_of w)
    paths =
        let (g, stands) = there in
        let (systems, links) = snapshots_stand n events w g so sound stands in
        paths_are n is events g stands ∙ sym (bound_alike (snapshot_of w) g systems links)

    alike_clocks : (number : ℕ) → stations_have_clock (live_stations w.stations) number ≡ lives n.systems events number
    alike_clocks number =
        let (g, stands) = there in
        clocks_stand n events w g so sound stands number
        ∙ same_tests (network.has_clock g.systems number) (lives n.systems events number)
        (there_live n is events g stands number) (live_there n is events g stands number)

    delay : plans.greatest_delay n.systems events n.links ≡ delay_in w
    delay =
        sym (delay_stands (live_stations w.stations) n.systems events w.net.channels n.links alike_clocks so.links)
