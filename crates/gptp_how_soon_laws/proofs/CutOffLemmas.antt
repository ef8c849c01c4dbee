-- A link that goes down by the one event of a time, and cuts off a far end, does so as its event is told.
use Rattle.std.proofs.Common.{◌≡◌, ◌⊎◌, inl, inr, ℕ, true, false, List, [], ◌∷◌, ◌++◌, Some, slice_get, refl, sym, ap, subst, ◌∙◌, append-nil}
use Rattle.std.specs.Prelude.{not}
use Rattle.std.proofs.lemmas.Bool.{and_parts, not-true, or_cases}
use Rattle.gptp_graph.proofs.LinkLemmas.{Adjacent-clock}
use Rattle.gptp_graph.specs.Snapshot.{Snapshot}
use Rattle.gptp_network.proofs.ExistenceLemmas.{stands_after}
use Rattle.gptp_network.specs.Snapshot.{StandsAfter}
use Rattle.gptp_scenario.specs.Change.{link_after}
use Rattle.gptp_scenario.specs.Network.{IsEnd, IsNetwork, NetworkState}
use Rattle.gptp_scenario.specs.declared.change.Timed.{Timed}
use Rattle.gptp_scenario.specs.declared.network.LinkSpec.{LinkSpec}
use Rattle.gptp_scenario.proofs.AfterLemmas.{after_keeps}
use Rattle.gptp_model.specs.World.{port_id}
use Rattle.gptp_topology.specs.After.{systems_after}
use Rattle.gptp_topology.specs.declared.nodes.System as ours
use Rattle.gptp_how_soon.specs.Chosen.{chosen_after, ends_of, is_joined, lost_ends, used_ends}
use Rattle.gptp_how_soon.specs.Far.{cut_far_ends_after, cuts_far_end, is_cut_at, is_far_end}
use Rattle.gptp_how_soon.specs.Kinds.{is_link_down, is_loss, is_lowering}
use Rattle.gptp_how_soon.specs.Times.{told_at}
use Rattle.gptp_how_soon.specs.declared.chosen.Chosen.{Chosen}
use Rattle.gptp_how_soon.proofs.ChosenLemmas.{IsAt, at_clock, at_port, touched}
use Rattle.gptp_settling_time.specs.Losses.{CutsFarEnd, IsCutOff, IsFarEnd, LowersLink}
use Rattle.gptp_how_soon_laws.proofs.FailedLemmas.{each_is, far_at}
use Rattle.gptp_how_soon_laws.proofs.ToldLemmas.{loss_names}
use Rattle.gptp_how_soon_laws.proofs.LoweredLemmas.{TakesDown, is_lost_there, joined_by}
use Rattle.gptp_how_soon_laws.proofs.NamedLemmas.{at_end, end_first}
use Rattle.gptp_how_soon_laws.proofs.UnmovedLemmas.{AreWell}

module _ (n : NetworkState) (network : IsNetwork n) (made : List Timed) (event : Timed)
    (well : AreWell n (made ++ event ∷ [])) where
  abbrev later : List Timed
  later = made ++ event ∷ []

  abbrev systems : List ours.System
  systems = systems_after n later

  abbrev before : List Chosen
  before = chosen_after n made

  -- ---- a system at a place

  module _ (place clock : ℕ) (at : IsAt n place clock)
      (test : is_cut_at systems before (used_ends n made) (used_ends n later) place ≡ true) where
    parts : (is_far_end systems before (used_ends n made) place ≡ true)
        × (not (is_joined (used_ends n later) place) ≡ true)
    parts =
        and_parts (is_far_end systems before (used_ends n made) place) (not (is_joined (used_ends n later) place)) test

    was_far : (g : Snapshot) → StandsAfter n made g → IsFarEnd g clock
    was_far g stands =
        far_at n network made later g stands (well made (event ∷ []) refl g stands) place clock at parts.0

    is_cut_off : (h : Snapshot) → StandsAfter n later h → IsCutOff h clock
    is_cut_off h stands u adjacent =
        let well_h = well later [] (append-nil later) h stands in
        let (j, at_u) = at_clock n network later h stands well_h u (Adjacent-clock h clock u well_h adjacent) in
        let joined = joined_by n later place j
        (touched n network later h stands well_h clock u place j adjacent at at_u) in
        let no : true ≡ false = sym joined ∙ not-true (is_joined (used_ends n later) place) parts.1 in
        absurd cc

  -- ---- at an end of the link

  module _ (x : TakesDown n network made event) (cut : cut_far_ends_after n made later ≡ true) where
    record IsCut : Type 0 where
      clock : ℕ
      lost_end : (place : ℕ) (v : LinkSpec) → slice_get n.links place ≡ Some v
          → IsEnd (port_id x.clock x.port) (link_after made v)
          → ((link_after made v).a.clock ≡ clock) ⊎ ((link_after made v).b.clock ≡ clock)
      far : (g : Snapshot) → StandsAfter n made g → IsFarEnd g clock
      off : (h : Snapshot) → StandsAfter n later h → IsCutOff h clock

    is_cut : IsCut
    is_cut =
        let (s, one) = loss_names n network made x.clock x.port x.loss in
        let (g, stands) = stands_after n made network in
        let well_g = well made (event ∷ []) refl g stands in
        let wire = network.links one.place one.link one.there in
        let end = at_end x.clock x.port (link_after made one.link) one.at in
        let ends = ends_of n one.link in
        let test = each_is (cuts_far_end systems before (used_ends n made) (used_ends n later)) (lost_ends n made later)
        ends cut (is_lost_there n network made event x one.place one.link one.there end) in
        elim (or_cases (is_cut_at systems before (used_ends n made) (used_ends n later) ends.a)
        (is_cut_at systems before (used_ends n made) (used_ends n later) ends.b) test) [
          | inl a ↦
              let at = at_port n network made g stands well_g one.link.a wire.a in
              record {
                clock = one.link.a.clock;
                lost_end = λ place v there v_end.
                    inl (ap (λ p. p.clock) (after_keeps made v).a
                    ∙ ap (λ (w : LinkSpec). w.a.clock)
                    (one.only place v there (end_first made (port_id x.clock x.port) v v_end)));
                far = was_far ends.a one.link.a.clock at a;
                off = is_cut_off ends.a one.link.a.clock at a;
              }
          | inr b ↦
              let at = at_port n network made g stands well_g one.link.b wire.b in
              record {
                clock = one.link.b.clock;
                lost_end = λ place v there v_end.
                    inr (ap (λ p. p.clock) (after_keeps made v).b
                    ∙ ap (λ (w : LinkSpec). w.b.clock)
                    (one.only place v there (end_first made (port_id x.clock x.port) v v_end)));
                far = was_far ends.b one.link.b.clock at b;
                off = is_cut_off ends.b one.link.b.clock at b;
              }
        ]

  -- ---- the event

  pub cuts_far : cut_far_ends_after n made later ≡ true → is_lowering (told_at n made event.act) ≡ true
      → LowersLink n made event → CutsFarEnd n made event
  cuts_far cut is lowers =
      let loss = (and_parts (is_loss (told_at n made event.act)) (is_link_down (told_at n made event.act)) is).0 in
      let one = is_cut (record {
        clock = lowers.clock;
        port = lowers.port;
        act = lowers.act;
        loss = subst (λ a. is_loss (told_at n made a) ≡ true) lowers.act loss;
      }) cut in
      record { lowers = lowers; lost = one.clock; lost_end = one.lost_end; far = one.far; cut = one.off }
