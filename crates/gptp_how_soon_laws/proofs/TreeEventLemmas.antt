-- A link that goes down by the one event of a time, and so cuts off a tree or turns one, does so as its event is told.
use Rattle.std.proofs.Common.{◌≡◌, ◌≤◌, ◌⊎◌, inl, inr, ℕ, true, List, [], ◌∷◌, ◌++◌, Some, slice_get, refl, sym, ap, subst, ◌∙◌, append-nil}
use Rattle.gptp_lists.specs.Members.{In}
use Rattle.gptp_graph.specs.Snapshot.{IsWellFormed, Snapshot, clocks}
use Rattle.gptp_network.specs.Snapshot.{StandsAfter}
use Rattle.gptp_network.proofs.ExistenceLemmas.{stands_after}
use Rattle.gptp_scenario.specs.Change.{link_after}
use Rattle.gptp_scenario.specs.Network.{IsEnd, IsNetwork, NetworkState}
use Rattle.gptp_scenario.specs.SyncWait.{sync_paths}
use Rattle.gptp_scenario.specs.declared.change.Timed.{Timed}
use Rattle.gptp_scenario.specs.declared.network.LinkSpec.{LinkSpec}
use Rattle.gptp_scenario.proofs.AfterLemmas.{after_keeps}
use Rattle.gptp_model.specs.World.{port_id}
use Rattle.gptp_how_soon.specs.Chosen.{ends_of}
use Rattle.gptp_how_soon.specs.Kinds.{is_lowering}
use Rattle.gptp_how_soon.specs.Times.{told_at}
use Rattle.gptp_how_soon.specs.Tree.{cuts_tree_after}
use Rattle.gptp_how_soon.specs.TurnedTree.{turns_tree_after}
use Rattle.gptp_how_soon.proofs.ChosenLemmas.{IsAt, at_port, one_clock}
use Rattle.gptp_settling_time.specs.TreeLosses.{CutsTreeFrom, LowersTree, TurnsTreeFrom, TurnsTreeLink}
use Rattle.gptp_how_soon_laws.proofs.ToldLemmas.{loss_lowers}
use Rattle.gptp_how_soon_laws.proofs.LoweredLemmas.{TakesDown, is_lost_there, lives_still, takes_down}
use Rattle.gptp_how_soon_laws.proofs.OneLostLemmas.{OneLost, at_other, at_top, lost_between}
use Rattle.gptp_how_soon_laws.proofs.TreeLemmas.{Cuts, cut_so, cuts}
use Rattle.gptp_how_soon_laws.proofs.UnmovedLemmas.{AreWell}
use Rattle.gptp_how_soon_laws.proofs.TurnedTreeLemmas.{turned_so}
use Rattle.gptp_how_soon_laws.proofs.TurnedTreeTestLemmas.{Turns, turns}
use Rattle.gptp_how_soon_laws.proofs.WorseningLemmas.{clock_over}

module _ (n : NetworkState) (network : IsNetwork n) (made : List Timed) (event : Timed) where
  abbrev later : List Timed
  later = made ++ event ∷ []

  module _ (well : AreWell n later) (d : TakesDown n network made event) where
    well_before : (g : Snapshot) → StandsAfter n made g → IsWellFormed g
    well_before = well made (event ∷ []) refl

    well_then : (h : Snapshot) → StandsAfter n later h → IsWellFormed h
    well_then = well later [] (append-nil later)

    -- systems live as before
    lived : (g h : Snapshot) → StandsAfter n made g → StandsAfter n later h → (v : ℕ) → In v (clocks h)
        → In v (clocks g)
    lived g h stands stands' v known =
        clock_over n network later made (λ m member. lives_still n network made event d m member) h g stands' stands v
        known

    lives_then : (g h : Snapshot) → StandsAfter n made g → StandsAfter n later h → (v : ℕ) → In v (clocks g)
        → In v (clocks h)
    lives_then g h stands stands' v known =
        clock_over n network made later (λ m member. sym (lives_still n network made event d m member)) g h stands
        stands' v known

    -- the link that is lost is that of the event
    ends_so : (t : OneLost n network made later) (place : ℕ) (v : LinkSpec) → slice_get n.links place ≡ Some v
        → IsEnd (port_id d.clock d.port) (link_after made v)
        → (((link_after made v).a.clock ≡ t.top_clock) × ((link_after made v).b.clock ≡ t.other_clock))
        ⊎ (((link_after made v).b.clock ≡ t.top_clock) × ((link_after made v).a.clock ≡ t.other_clock))
    ends_so t place v there end =
        let (g, stands) = stands_after n made network in
        let well_g = well_before g stands in
        let wire = network.links place v there in
        let keeps = after_keeps made v in
        let top = at_top n network made later t g stands well_g in
        let other = at_other n network made later t g stands well_g in
        let a = at_port n network made g stands well_g v.a wire.a in
        let b = at_port n network made g stands well_g v.b wire.b in
        let named : (i : ℕ) (u w : ℕ) → IsAt n i u → IsAt n i w → u ≡ w = one_clock n network made g stands well_g in
        elim (lost_between n network made later t (ends_of n v)
        (is_lost_there n network made event d place v there end)) [
          | inl (is_top, is_other) ↦ inl (
            ap (λ p. p.clock) keeps.a
                ∙ named t.top v.a.clock t.top_clock (subst (λ i. IsAt n i v.a.clock) is_top a) top,
            ap (λ p. p.clock) keeps.b
                ∙ named t.other v.b.clock t.other_clock (subst (λ i. IsAt n i v.b.clock) is_other b) other,
          )
          | inr (is_top, is_other) ↦ inr (
            ap (λ p. p.clock) keeps.b
                ∙ named t.top v.b.clock t.top_clock (subst (λ i. IsAt n i v.b.clock) is_top b) top,
            ap (λ p. p.clock) keeps.a
                ∙ named t.other v.a.clock t.other_clock (subst (λ i. IsAt n i v.a.clock) is_other a) other,
          )
        ]

    cuts_from_top : (t : Cuts n network made later) → CutsTreeFrom n made event t.one.top_clock t.one.other_clock
    cuts_from_top t g h stands stands' =
        cut_so n network made later t g h stands stands' (well_before g stands) (well_then h stands')
        (lived g h stands stands') (lives_then g h stands stands')

    turns_from_top : (t : Turns n network made later) → TurnsTreeFrom n made event t.one.top_clock t.one.other_clock
    turns_from_top t g h stands stands' =
        turned_so n network made later t g h stands stands' (well_before g stands) (well_then h stands')
        (lived g h stands stands') (lives_then g h stands stands')

  module _ (well : AreWell n later) (delay : (sync_paths n later).delay ≤ (sync_paths n made).delay)
      (paths : (sync_paths n later).systems ≤ (sync_paths n made).systems)
      (few : (sync_paths n made).systems ≤ 255) (is : is_lowering (told_at n made event.act) ≡ true) where
    pub lowers_one_tree : cuts_tree_after n made later ≡ true → LowersTree n made event
    lowers_one_tree tree =
        let d = takes_down n network made event is in
        let t = cuts n network made later tree in
        record {
          clock = d.clock;
          port = d.port;
          act = d.act;
          used = loss_lowers n network made d.clock d.port d.loss;
          top = t.one.top_clock;
          other = t.one.other_clock;
          ends = ends_so well d t.one;
          cuts = cuts_from_top well d t;
          delay = delay;
          paths = paths;
          few = few;
        }

    pub turns_tree_link : turns_tree_after n made later ≡ true → TurnsTreeLink n made event
    turns_tree_link tree =
        let d = takes_down n network made event is in
        let t = turns n network made later tree in
        record {
          clock = d.clock;
          port = d.port;
          act = d.act;
          used = loss_lowers n network made d.clock d.port d.loss;
          top = t.one.top_clock;
          other = t.one.other_clock;
          ends = ends_so well d t.one;
          turns = turns_from_top well d t;
          delay = delay;
          paths = paths;
          few = few;
        }
