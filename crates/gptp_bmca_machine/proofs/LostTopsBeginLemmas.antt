-- A system of a network at rest fails, which cuts off a tree with one or two tops: these hold what it told last.
use Rattle.std.proofs.Common.{◌≡◌, ◌<◌, ◌≤◌, ◌+◌, ℕ, ℤ, suc, pred, Some, slice_get, subst, inl, arith}
use Rattle.gptp_graph.specs.Best.{IsBest}
use Rattle.gptp_graph.specs.Snapshot.{IsLinked, Joins, Snapshot, System, port_of}
use Rattle.gptp_graph.proofs.LinkLemmas.{Joins-sym}
use Rattle.gptp_bmca_machine.specs.CutTree.{LosesSystem}
use Rattle.gptp_bmca_machine.specs.Frame.{Lane, Spelling}
use Rattle.gptp_bmca_machine.specs.LossLaws.{IsAfterLoss, IsLoss}
use Rattle.gptp_bmca_machine.specs.Network.{IsSettlingNetwork, Network}
use Rattle.gptp_bmca_machine.specs.Station.{MachineState}
use Rattle.gptp_bmca_machine.specs.TwoTops.{Side, CutsOffTwice}
use Rattle.gptp_bmca_machine.proofs.LostLinkLemmas.{bare_begins, last_begins}
use Rattle.gptp_bmca_machine.proofs.LostPortLemmas.{StaysAsNamed}
use Rattle.gptp_bmca_machine.proofs.LostTopsLemmas.{HoldsOrNot, TopsHold, base_some, far_lost, lost_at}
use Rattle.gptp_bmca_machine.proofs.TwoTopsWayLemmas.{lost_far}

module _ (says : Spelling) (n0 n : Network) (net0 : IsSettlingNetwork n0) (w w' : MachineState)
    (loss : IsLoss says n0 n w w') (kept' : IsAfterLoss n w') (lost : ℕ) (top : Side → ℕ) (best next : System)
    (base : ℕ) (depth : Side → ℕ → ℕ) (loses : LosesSystem n0.graph n lost)
    (c : CutsOffTwice n0.graph n top best next base depth)
    (stood : (x p i : ℕ) → Joins n0.graph (port_of lost (suc p)) (port_of x (suc i)) → (l : Lane)
    → slice_get w'.lanes (n.lane (port_of lost (suc p))) ≡ Some l
    → slice_get w.lanes (n.lane (port_of lost (suc p))) ≡ Some l) (stay : ℤ → ℕ) (named : StaysAsNamed stay w)
    (shorter : n.most ≤ n0.most)
    (long : (x p i : ℕ) → Joins n0.graph (port_of lost (suc p)) (port_of x (suc i))
    → n.interval_of (port_of lost (suc p)) + n0.most < stay (n.log_of (port_of lost (suc p)))) where
  abbrev g : Snapshot
  g = n0.graph

  pub tops_begin : TopsHold says g n lost top best next base depth loses c stay w.time n0.most shorter long w'
  tops_begin = record {
    last = λ x p i in_x joins bare. last x p i in_x joins bare;
    bare = λ x in_x. bare_begins says n0 n w w' loss kept' x in_x.reached.1.begins;
  }
    where
      last : (x p i : ℕ) → IsBest n.graph x next → Joins g (port_of lost (suc p)) (port_of x (suc i))
          → (IsLinked n.graph (port_of x (suc i)) → ⊥)
          → HoldsOrNot says g n lost top best next base depth loses c stay w.time n0.most shorter long p x i w'
      last x p i in_x joins bare s pu l at there lane =
          inl (last_begins says n0 n net0 w w' loss kept' c.left.graph lost x in_x.reached.1.begins best (pred base)
          (c.was_best x in_x)
          (lost_far g n top best next base depth c lost loses is_top.0
          (subst (λ y. IsBest n.graph y next) is_top.1 in_x))
          (far_lost says g n lost top best next base depth loses c x in_x is_top) near (stood x) stay named p i joins s
          pu l at there lane)
        where
          is_top : (side : Side) × (x ≡ top side)
          is_top = (lost_at says g n lost top best next base depth loses c x (port_of lost (suc p)) i in_x
              (Joins-sym g (port_of lost (suc p)) (port_of x (suc i)) joins) bare).0

          near : suc (pred base) < 255
          near =
              let close = c.near is_top.0 x in_x in
              let some = base_some says g n lost top best next base depth loses c x in_x is_top in
              omega (arith, close, some)
