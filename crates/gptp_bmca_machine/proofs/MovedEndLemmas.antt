-- Once a tree that a loss moved has settled from its best on, or from the way out, each of its systems has.
use Rattle.std.proofs.Common.{◌≡◌, ◌⊎◌, ◌<◌, ◌≤◌, ℕ, zero, suc, true, Some, slice_get, sym, ap, subst, ◌∙◌, inl, inr, arith}
use Rattle.gptp_graph.specs.Distance.{IsDistance}
use Rattle.gptp_graph.specs.PathBound.{BoundsPaths}
use Rattle.gptp_graph.specs.Snapshot.{Snapshot, System, port_of}
use Rattle.gptp_graph.proofs.BestLemmas.{IsBest-unique}
use Rattle.gptp_graph.proofs.LinkLemmas.{Joins-sym}
use Rattle.gptp_graph.proofs.PathBoundLemmas.{IsDistance-within}
use Rattle.gptp_bmca_machine.specs.Frame.{Spelling}
use Rattle.gptp_bmca_machine.specs.Levels.{LeadsFarther}
use Rattle.gptp_bmca_machine.specs.Network.{Network}
use Rattle.gptp_bmca_machine.specs.Station.{HoldsAt, MachineState, Reception, Station}
use Rattle.gptp_bmca_machine.proofs.FallLemmas.{IsAftermath, IsFalling}
use Rattle.gptp_bmca_machine.proofs.MovedLevelLemmas.{LevelSettles, Times, ToldIn, TreeChooses, choose_by, choose_zero, clear_then, told_level}
use Rattle.gptp_bmca_machine.proofs.MovedTreeLemmas.{MovesTree}
use Rattle.gptp_bmca_machine.proofs.NearestLemmas.{equal_within}
use Rattle.gptp_bmca_machine.proofs.RestLemmas.{Chooses, IsClear}
use Rattle.gptp_bmca_machine.proofs.StillEndLemmas.{Follows, Hears, there}

module _ (says : Spelling) (g : Snapshot) (n : Network) (Tree : ℕ → Type 0) (Out : ℕ → ℕ → Type 0) (top : ℕ)
    (best next : System) (base : ℕ) (depth : ℕ → ℕ) (t : MovesTree g n Tree Out top best next base depth)
    (paths : BoundsPaths n.graph n.reach) (few : n.reach ≤ 255) (start over : ℕ) (before : ℕ → ℕ)
    (times : Times says g n Tree Out top best next base depth t paths few start over before) (w : MachineState)
    (is : IsAftermath says g n w) (falling : IsFalling says g n Tree Out top best next base depth t start w)
    (way : ToldIn says g n Tree Out top best next base depth t paths few start over before times w)
    (levels : (f : ℕ) → LevelSettles says g n Tree Out top best next base depth t paths few start over before times f w)
    (late : (e : ℕ) → suc (suc e) ≤ n.reach → before e ≤ w.time) (past : over < w.time) where
  -- a system that tells another is as near as that leaves room for
  pub in_time : (e v p u q : ℕ) (b : System) → LeadsFarther n.graph e b v p u q → before e ≤ w.time
  in_time e v p u q b leads = late e (elim leads.farther [
    | inl less ↦
        let within = IsDistance-within n.graph n.reach u leads.far paths leads.there in omega (arith, less, within)
    | inr (same, lower) ↦
        equal_within n.graph n.reach v u e t.well paths (suc p, suc q, leads.joins)
        (t.well.apart (port_of v (suc p)) (port_of u (suc q)) leads.joins) leads.here
        (subst (IsDistance n.graph u) (sym same) leads.there)
  ])

  pub choose : (e : ℕ) → e < n.reach
      → TreeChooses says g n Tree Out top best next base depth t paths few start over before times w is falling e
  choose zero close =
      choose_zero says g n Tree Out top best next base depth t paths few start over before times w is falling past
  choose (suc e) close =
      choose_by says g n Tree Out top best next base depth t paths few start over before times w is falling way e
      (λ f most. levels f) (late e close)

  module _ (i : ℕ) (s : Station) (at : slice_get w.stations i ≡ Some s) (live : s.live ≡ true) (d : ℕ)
      (here : IsDistance n.graph s.clock d) (near : d < 255) (in_s : Tree s.clock) where
    at_place : slice_get w.stations (n.place s.clock) ≡ Some s
    at_place = there n t.well w is.kept i s at live d here near

    one : next ≡ here.best
    one = IsBest-unique n.graph s.clock next here.best t.well (t.best_now s.clock in_s) here.is_best

    -- it is clear
    tree_clear : IsClear n.graph s
    tree_clear =
        clear_then says g n Tree Out top best next base depth t paths few start over before times w is falling s.clock
        in_s past s at_place

    tree_chooses : Chooses s here.best d
    tree_chooses =
        subst (λ b. Chooses s b d) one
        (choose d (IsDistance-within n.graph n.reach s.clock d paths here) s.clock s at_place in_s here)

    tree_hears : Hears n.graph s d here
    tree_hears e p q u close leads told_e =
        by_end (t.beside s.clock u in_s (
          suc p,
          suc q,
          Joins-sym n.graph (port_of u (suc q)) (port_of s.clock (suc p)) leads.joins,
        ))
      where
        now : before e ≤ w.time
        now = in_time e u q s.clock p here.best leads

        name : ((r : Reception) × HoldsAt s p r × (r.said.root ≡ next.identity) × (r.said.steps ≡ e)
            × (r.said.source ≡ port_of u (suc q)))
            → (r : Reception) × HoldsAt s p r × (r.said.root ≡ here.best.identity) × (r.said.steps ≡ e)
            × (r.said.source ≡ port_of u (suc q))
        name (r, holds, root, steps, source) = (r, holds, root ∙ ap (λ (b : System). b.identity) one, steps, source)

        by_end : Tree u ⊎ Out s.clock u
            → (r : Reception) × HoldsAt s p r × (r.said.root ≡ here.best.identity) × (r.said.steps ≡ e)
            × (r.said.source ≡ port_of u (suc q))
        by_end (inl in_u) =
            let of_next : LeadsFarther n.graph e next u q s.clock p =
            subst (λ b. LeadsFarther n.graph e b u q s.clock p) (sym one) leads in
            name (told_level says g n Tree Out top best next base depth t paths few start over before times w is falling
            e (choose e (IsDistance-within n.graph n.reach u e paths leads.here)) now u q s.clock p close in_u in_s
            of_next (levels e u q s.clock p close in_u in_s of_next) s at_place)
        by_end (inr out) =
            name (way s.clock u p q e in_s out
            (Joins-sym n.graph (port_of u (suc q)) (port_of s.clock (suc p)) leads.joins) leads.here now s at_place)

    pub tree_follows : Follows n.graph s d here
    tree_follows = record { clear = tree_clear; chosen = tree_chooses; hears = tree_hears }
