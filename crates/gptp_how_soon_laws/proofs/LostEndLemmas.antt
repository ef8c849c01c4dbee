-- Systems that are moved, and those at ends of links that are lost, between two snapshots.
use Rattle.std.proofs.Common.{◌≡◌, inl, inr, ℕ, true, List, filter, Some, slice_get, sym, ap, subst, ◌∙◌}
use Rattle.std.specs.Prelude.{◌==◌, ◌&&◌}
use Rattle.std.proofs.lemmas.Bool.{and_from, and_parts, eq-eqb}
use Rattle.gptp_lists.specs.Members.{In}
use Rattle.gptp_lists.proofs.MappedLemmas.{mapped_there}
use Rattle.gptp_lists.proofs.SystemSpecLemmas.{In-slice_get, from_map, slice_get-In}
use Rattle.gptp_graph.specs.Snapshot.{IsWellFormed, Snapshot, clocks}
use Rattle.gptp_graph.proofs.SystemLemmas.{In-clocks}
use Rattle.gptp_network.specs.Snapshot.{StandsAfter}
use Rattle.gptp_network.proofs.InUseLemmas.{live_there}
use Rattle.gptp_network.proofs.PassLemmas.{passes_at}
use Rattle.gptp_network.proofs.SnapshotLemmas.{from_filter, with_clock}
use Rattle.gptp_roles.specs.Selection.{clock_of}
use Rattle.gptp_scenario.specs.Change.{system_after}
use Rattle.gptp_scenario.specs.InUse.{lives}
use Rattle.gptp_scenario.specs.Network.{IsNetwork, NetworkState}
use Rattle.gptp_scenario.specs.declared.change.Timed.{Timed}
use Rattle.gptp_scenario.specs.declared.network.SystemSpec.{SystemSpec}
use Rattle.gptp_topology.specs.After.{system_then, systems_after}
use Rattle.gptp_topology.specs.declared.nodes.System as ours
use Rattle.gptp_how_soon.specs.Chosen.{chosen_after, differs, ends_of, is_moved, is_moved_at}
use Rattle.gptp_how_soon.specs.Links.{is_lost}
use Rattle.gptp_how_soon.specs.declared.chosen.Chosen.{Chosen}
use Rattle.gptp_how_soon.specs.declared.chosen.Ends.{Ends}
use Rattle.gptp_how_soon.proofs.ChosenLemmas.{IsAt, at_port, chosen_there}
use Rattle.gptp_how_soon_laws.proofs.MovedTreesTestLemmas.{IsLostEnd}

module _ (n : NetworkState) (network : IsNetwork n) (made events : List Timed) (g h : Snapshot)
    (stands : StandsAfter n made g) (stands' : StandsAfter n events h) (well : IsWellFormed g)
    (well' : IsWellFormed h) where
  abbrev before : List Chosen
  before = chosen_after n made

  abbrev now : List Chosen
  now = chosen_after n events

  abbrev systems : List ours.System
  systems = systems_after n events

  -- who is moved lives
  pub moved_lives : (i v : ℕ) → IsAt n i v → is_moved_at systems before now i ≡ true → In v (clocks h)
  moved_lives i v at moved =
      let (b, there0) = chosen_there n network made g stands well i v at in
      let (c, therek) = chosen_there n network events h stands' well' i v at in
      let o : ours.System = system_then events at.system in
      let there : slice_get systems i ≡ Some o =
      mapped_there (system_then events) n.systems i at.system at.there in
      let here : (o.lives && differs b c) ≡ true =
      (λ k. is_moved (sym there k) (sym there0 k) (sym therek k)) ∙ moved in
      let live : (system_after events at.system).live ≡ true = (and_parts o.lives (differs b c) here).0 in
      let lives_so : lives n.systems events v ≡ true =
      passes_at (λ (m : SystemSpec). (clock_of m.identity == v) && (system_after events m).live) n.systems
      at.system (In-slice_get at.system n.systems i at.there)
      (and_from (clock_of at.system.identity == v) (system_after events at.system).live
      (eq-eqb (clock_of at.system.identity) v at.clock) live) in
      let (s, known, same) = with_clock h.systems v (live_there n network events h stands' v lives_so) in
      subst (λ c. In c (clocks h)) same (In-clocks h s known)

  -- the system at an end of a link that is lost
  pub at_end : (i : ℕ) → IsLostEnd n network made events i → (v : ℕ) × IsAt n i v
  at_end i x =
      let (w, member, of) = from_map (ends_of n) x.ends (filter (is_lost n made events) n.links) x.listed in
      let known = (from_filter (is_lost n made events) w n.links member).0 in
      let (place, there) = slice_get-In w n.links known in
      let wire = network.links place w there in
      elim x.end [
        | inl a ↦ (
          w.a.clock,
          subst (λ k. IsAt n k w.a.clock) (ap (λ (e : Ends). e.a) of ∙ a)
              (at_port n network made g stands well w.a wire.a),
        )
        | inr b ↦ (
          w.b.clock,
          subst (λ k. IsAt n k w.b.clock) (ap (λ (e : Ends). e.b) of ∙ b)
              (at_port n network made g stands well w.b wire.b),
        )
      ]
