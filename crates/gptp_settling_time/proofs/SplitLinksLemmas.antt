-- Once trees that a failure moved have settled each link that leads farther is at rest.
use Rattle.std.proofs.Common.{◌≡◌, ◌<◌, ◌≤◌, ℕ, suc, subst, sym, inl, inr}
use Rattle.gptp_lists.specs.Members.{In}
use Rattle.gptp_graph.specs.Best.{IsBest}
use Rattle.gptp_graph.specs.Snapshot.{Joins, Snapshot, System, clocks, port_of}
use Rattle.gptp_graph.proofs.BestLemmas.{IsBest-neighbour, IsBest-unique}
use Rattle.gptp_graph.proofs.LinkLemmas.{Joins-clock, Joins-sym}
use Rattle.gptp_bmca_machine.specs.CutTree.{Tree}
use Rattle.gptp_bmca_machine.specs.FailureTrees.{FailureMoves, Turning}
use Rattle.gptp_bmca_machine.specs.Frame.{Spelling}
use Rattle.gptp_bmca_machine.specs.Levels.{LeadsFarther}
use Rattle.gptp_bmca_machine.specs.LossLaws.{Unmoved}
use Rattle.gptp_bmca_machine.specs.Network.{Network, wiring}
use Rattle.gptp_bmca_machine.specs.Station.{MachineState}
use Rattle.gptp_bmca_machine.specs.TwoTops.{TopsTree}
use Rattle.gptp_bmca_machine.proofs.CutTreeLemmas.{IsCutOff, LeadsNowhere, moves_off}
use Rattle.gptp_bmca_machine.proofs.FailureEndLemmas.{FailureSettles, system_follows, TopsTimes}
use Rattle.gptp_bmca_machine.proofs.FailureTreesLemmas.{FallBack, turns_back}
use Rattle.gptp_bmca_machine.proofs.FallLemmas.{is_moved}
use Rattle.gptp_bmca_machine.proofs.MovedLevelLemmas.{Times as MovedTimes}
use Rattle.gptp_bmca_machine.proofs.StillLemmas.{best_was, far_was}
use Rattle.gptp_bmca_machine.proofs.TurnLevelLemmas.{Times}
use Rattle.gptp_bmca_machine.proofs.TopsAfterLemmas.{tops_moved}
use Rattle.gptp_settling_time.proofs.AtRestLemmas.{LinkAtRest, LinksAreAtRest}
use Rattle.gptp_settling_time.proofs.MovedRestLemmas.{all_rest, moved_rests, still_rests}
use Rattle.gptp_settling_time.proofs.TurnedRestLemmas.{from_rests, to_rests}
use Rattle.gptp_settling_time.proofs.TopsRestLemmas.{tops_rest}

module _ (says : Spelling) (g : Snapshot) (n : Network) (lost : ℕ) (best : System) (IsCut : Tree → Type 0)
    (IsTurned : Turning → Type 0) (IsTwice : TopsTree → Type 0)
    (moves : FailureMoves g n lost best IsCut IsTurned IsTwice) (start over : ℕ) (before : ℕ → ℕ)
    (cut_times : (t : Tree) → (is : IsCut t) → MovedTimes says g n (IsCutOff n t.next) LeadsNowhere t.top best t.next
    t.base t.depth
    (moves_off g n t.top best t.next t.base t.depth (moves.cut t is)) moves.paths moves.few start over before)
    (turned_times : (t : Turning) → (is : IsTurned t) → Times says g n t.tree t.top lost t.last t.out best t.base
    t.depth (moves.turned t is)
    start over before) (tops_times : TopsTimes n start over before) (w : MachineState)
    (back : FallBack says g n lost best IsCut IsTurned IsTwice moves start w)
    (settles : FailureSettles says g n lost best IsCut IsTurned IsTwice moves start over before cut_times turned_times
    tops_times w)
    (late : (e : ℕ) → suc (suc e) ≤ n.reach → before e ≤ w.time) (past : over < w.time) where
  module _ (d : ℕ) (c : System) (v p u q : ℕ) (close : d < 255) (leads : LeadsFarther n.graph d c v p u q) where
    abbrev Rests : Type 0
    Rests = LinkAtRest says (wiring n d c v p u q) w

    over_back : Joins n.graph (port_of u (suc q)) (port_of v (suc p))
    over_back = Joins-sym n.graph (port_of v (suc p)) (port_of u (suc q)) leads.joins

    known_v : In v (clocks n.graph)
    known_v = Joins-clock n.graph (port_of v (suc p)) (port_of u (suc q)) moves.well leads.joins

    known_u : In u (clocks n.graph)
    known_u = Joins-clock n.graph (port_of u (suc q)) (port_of v (suc p)) moves.well over_back

    -- from one of a tree that is cut off: so is the other end
    from_cut : (t : Tree) → IsCut t → IsBest n.graph v t.next → Rests
    from_cut t is in_v =
        let in_u : IsBest n.graph u t.next =
        IsBest-neighbour n.graph v u t.next moves.well (suc p, suc q, leads.joins) in_v in
        let one : t.next ≡ c = IsBest-unique n.graph v t.next c moves.well in_v leads.is_best in
        subst (λ b. LinkAtRest says (wiring n d b v p u q) w) one
        (moved_rests says g n (IsCutOff n t.next) LeadsNowhere t.top best t.next t.base t.depth
        (moves_off g n t.top best t.next t.base t.depth (moves.cut t is)) moves.paths moves.few start over before
        (cut_times t is) w back.after (back.cut t is) (λ x y i k e in_x none. absurd none) (settles.cut t is) late past
        d v p u q close in_v in_u (subst (λ b. LeadsFarther n.graph d b v p u q) (sym one) leads))

    from_turned : (t : Turning) → IsTurned t → In v t.tree → Rests
    from_turned t is =
        from_rests says g n t.tree t.top lost t.last t.out best t.base t.depth (moves.turned t is) start over before
        (turned_times t is) w (turns_back says g n lost best IsCut IsTurned IsTwice moves start w back t is)
        (settles.turned t is) late d c v p u q close leads

    to_turned : (t : Turning) → IsTurned t → In u t.tree → Rests
    to_turned t is =
        to_rests says g n t.tree t.top lost t.last t.out best t.base t.depth (moves.turned t is) start over before
        (turned_times t is) w (turns_back says g n lost best IsCut IsTurned IsTwice moves start w back t is)
        (settles.turned t is) late d c v p u q close leads

    from_twice : (t : TopsTree) → IsTwice t → IsBest n.graph v t.next → Rests
    from_twice t is in_v =
        let one : t.next ≡ c = IsBest-unique n.graph v t.next c moves.well in_v leads.is_best in
        subst (λ b. LinkAtRest says (wiring n d b v p u q) w) one
        (tops_rest says g n t.top best t.next t.base t.depth (moves.twice t is) start over before tops_times w
        back.after (settles.twice t is) late past d v p u q close in_v
        (subst (λ b. LeadsFarther n.graph d b v p u q) (sym one) leads))

    between : Unmoved g n v → Unmoved g n u → Rests
    between u_v u_u =
        still_rests says g n moves.well moves.left w back.after.kept back.after.fits back.still d c v p u q close
        (record {
          unmoved = u_v;
          is_best = best_was g n moves.well moves.left v c u_v leads.is_best;
          here = far_was g n moves.well moves.left v d u_v leads.here;
          joins = leads.joins;
          far = leads.far;
          there = far_was g n moves.well moves.left u leads.far u_u leads.there;
          farther = leads.farther;
        })

    failure_link : Rests
    failure_link = elim (moves.all v known_v) [
      | inr (inl (t, is, in_v)) ↦ from_cut t is in_v
      | inr (inr (inl (t, is, in_v))) ↦ from_turned t is in_v
      | inr (inr (inr (t, is, in_v))) ↦ from_twice t is in_v
      | inl u_v ↦ elim (moves.all u known_u) [
        | inl u_u ↦ between u_v u_u
        | inr (inr (inl (t, is, in_u))) ↦ to_turned t is in_u
        | inr (inr (inr (t, is, in_u))) ↦
            absurd (tops_moved says g n t.top best t.next t.base t.depth (moves.twice t is) v
            (IsBest-neighbour n.graph u v t.next moves.well (suc q, suc p, over_back) in_u) u_v)
        | inr (inl (t, is, in_u)) ↦
            -- the best of its neighbours is the same
            absurd (is_moved says g n (IsCutOff n t.next) LeadsNowhere t.top best t.next t.base t.depth
            (moves_off g n t.top best t.next t.base t.depth (moves.cut t is)) start v
            (IsBest-neighbour n.graph u v t.next moves.well (suc q, suc p, over_back) in_u) u_v)
      ]
    ]

  -- each system follows its best, and so all are
  pub failure_rests : LinksAreAtRest says n w
  failure_rests =
      all_rest says n moves.well w back.after.kept.calm
      (λ i s at live d here close.
      system_follows says g n lost best IsCut IsTurned IsTwice moves start over before cut_times turned_times tops_times
      w back settles
      late past i s at live d here close) failure_link
