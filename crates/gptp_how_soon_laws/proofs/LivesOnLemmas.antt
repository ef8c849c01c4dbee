-- A system that lives before events and after them: its place, what it chose, and what it chooses.
use Rattle.std.proofs.Common.{◌≡◌, ℕ, true, List, Some, slice_get, subst}
use Rattle.std.specs.Prelude.{◌==◌, ◌&&◌}
use Rattle.std.proofs.lemmas.Bool.{and_from, and_parts, eq-eqb}
use Rattle.gptp_lists.specs.Members.{In}
use Rattle.gptp_lists.proofs.SystemSpecLemmas.{from_map}
use Rattle.gptp_graph.specs.Snapshot.{IsWellFormed, Snapshot, System, clocks}
use Rattle.gptp_graph.proofs.SystemLemmas.{In-clocks}
use Rattle.gptp_roles.specs.Selection.{clock_of}
use Rattle.gptp_network.specs.Snapshot.{StandsAfter, has_clock}
use Rattle.gptp_network.proofs.InUseLemmas.{live_there, there_live}
use Rattle.gptp_network.proofs.PassLemmas.{passes, passes_at}
use Rattle.gptp_network.proofs.SnapshotLemmas.{with_clock}
use Rattle.gptp_scenario.specs.Change.{system_after}
use Rattle.gptp_scenario.specs.InUse.{lives}
use Rattle.gptp_scenario.specs.Network.{IsNetwork, NetworkState}
use Rattle.gptp_scenario.specs.declared.change.Timed.{Timed}
use Rattle.gptp_scenario.specs.declared.network.SystemSpec.{SystemSpec}
use Rattle.gptp_how_soon.specs.Chosen.{chosen_after}
use Rattle.gptp_how_soon.specs.declared.chosen.Chosen.{Chosen}
use Rattle.gptp_how_soon.proofs.ChosenLemmas.{IsAt, IsSettledChoice, at_clock, chosen_there, settled_choice}

-- who lives after events lived before them, where each system that does so did
pub clock_lived : (n : NetworkState) → IsNetwork n → (made events : List Timed)
    → ((m : SystemSpec) → In m n.systems → (system_after events m).live ≡ true → (system_after made m).live ≡ true)
    → (g h : Snapshot) → StandsAfter n made g → StandsAfter n events h → (v : ℕ) → In v (clocks h) → In v (clocks g)
clock_lived n network made events lived g h stands stands' v known =
    let (s, there, named) = from_map (λ (t : System). t.clock) v h.systems known in
    let has : has_clock h.systems v ≡ true =
    passes_at (λ (t : System). t.clock == v) h.systems s there (eq-eqb s.clock v named) in
    let (k, among, both) =
    passes (λ (k : SystemSpec). (clock_of k.identity == v) && (system_after events k).live) n.systems
    (there_live n network events h stands' v has) in
    let (is, live) = and_parts (clock_of k.identity == v) (system_after events k).live both in
    let lives_before : lives n.systems made v ≡ true =
    passes_at (λ (k : SystemSpec). (clock_of k.identity == v) && (system_after made k).live) n.systems k among
    (and_from (clock_of k.identity == v) (system_after made k).live is (lived k among live)) in
    let (t, here, same) = with_clock g.systems v (live_there n network made g stands v lives_before) in
    subst (λ c. In c (clocks g)) same (In-clocks g t here)

module _ (n : NetworkState) (network : IsNetwork n) (made events : List Timed) (g h : Snapshot)
    (stands : StandsAfter n made g) (stands' : StandsAfter n events h) (well : IsWellFormed g) (well' : IsWellFormed h)
    (lived : (v : ℕ) → In v (clocks h) → In v (clocks g)) where
  -- a system that lives, at its place: what it chose before, and now
  pub record LivesOn (i v : ℕ) : Type 0 where
    pub at : IsAt n i v
    pub known : In v (clocks h)
    pub was : Chosen
    pub was_there : slice_get (chosen_after n made) i ≡ Some was
    pub is : Chosen
    pub is_there : slice_get (chosen_after n events) i ≡ Some is
    pub chose : IsSettledChoice n network made g stands well v was
    pub chooses : IsSettledChoice n network events h stands' well' v is

  pub on_at : (i v : ℕ) → IsAt n i v → In v (clocks h) → LivesOn i v
  on_at i v at known =
      let (b, b_there) = chosen_there n network made g stands well i v at in
      let (c, c_there) = chosen_there n network events h stands' well' i v at in
      record {
        at = at;
        known = known;
        was = b;
        was_there = b_there;
        is = c;
        is_there = c_there;
        chose = settled_choice n network made g stands well i v at (lived v known) b b_there;
        chooses = settled_choice n network events h stands' well' i v at known c c_there;
      }

  pub on_of : (v : ℕ) → In v (clocks h) → (i : ℕ) × LivesOn i v
  on_of v known = let (i, at) = at_clock n network events h stands' well' v known in (i, on_at i v at known)
