-- A system of a network at rest fails: the top of a tree that this moves holds what it told last.
use Rattle.std.proofs.Common.{◌≡◌, ◌<◌, ◌≤◌, ◌+◌, ℕ, ℤ, suc, pred, Some, slice_get, inl, arith}
use Rattle.gptp_graph.specs.Distance.{IsDistance}
use Rattle.gptp_graph.specs.Snapshot.{Joins, Snapshot, System, port_of}
use Rattle.gptp_bmca_machine.specs.CutTree.{LosesSystem}
use Rattle.gptp_bmca_machine.specs.Frame.{Lane, Spelling}
use Rattle.gptp_bmca_machine.specs.LossLaws.{IsAfterLoss, IsLoss}
use Rattle.gptp_bmca_machine.specs.Network.{IsSettlingNetwork, Network}
use Rattle.gptp_bmca_machine.specs.Station.{MachineState}
use Rattle.gptp_bmca_machine.proofs.LostLinkLemmas.{bare_begins, last_begins}
use Rattle.gptp_bmca_machine.proofs.LostPortLemmas.{StaysAsNamed}
use Rattle.gptp_bmca_machine.proofs.LostTopLemmas.{TopHolds, base_is, lost_far, top_far}
use Rattle.gptp_bmca_machine.proofs.MovedTreeLemmas.{MovesTree}

module _ (says : Spelling) (n0 n : Network) (net0 : IsSettlingNetwork n0) (w w' : MachineState)
    (loss : IsLoss says n0 n w w') (kept' : IsAfterLoss n w') (Tree : ℕ → Type 0) (Out : ℕ → ℕ → Type 0)
    (lost top : ℕ) (best next : System) (base : ℕ) (depth : ℕ → ℕ) (loses : LosesSystem n0.graph n lost)
    (t : MovesTree n0.graph n Tree Out top best next base depth) (in_top : Tree top)
    (stood : (p i : ℕ) → Joins n0.graph (port_of lost (suc p)) (port_of top (suc i)) → (l : Lane)
    → slice_get w'.lanes (n.lane (port_of lost (suc p))) ≡ Some l
    → slice_get w.lanes (n.lane (port_of lost (suc p))) ≡ Some l) (stay : ℤ → ℕ) (named : StaysAsNamed stay w) where
  abbrev g : Snapshot
  g = n0.graph

  abbrev d : ℕ
  d = pred base

  far : IsDistance g lost d
  far = lost_far says g n Tree Out lost top best next base depth loses t in_top d
      (base_is says g n Tree Out lost top best next base depth loses t in_top)

  far_top : IsDistance g top (suc d)
  far_top =
      top_far says g n Tree Out lost top best next base depth loses t in_top (suc d)
      (base_is says g n Tree Out lost top best next base depth loses t in_top)

  near : suc d < 255
  near =
      let close = t.near top in_top in
      let above = base_is says g n Tree Out lost top best next base depth loses t in_top in
      let none = t.first in
      omega (arith, close, above, none)

  module _ (shorter : n.most ≤ n0.most)
      (long : (p i : ℕ) → Joins g (port_of lost (suc p)) (port_of top (suc i))
      → n.interval_of (port_of lost (suc p)) + n0.most < stay (n.log_of (port_of lost (suc p)))) where
    pub top_begins : TopHolds says g n Tree Out lost top best next base depth loses t in_top stay w.time n0.most
        shorter long w'
    top_begins = record {
      last = λ p i joins bare s pu l at there lane.
          inl (last_begins says n0 n net0 w w' loss kept' t.left.graph lost top (t.lives top in_top) best d
          (t.was_best top in_top) far far_top near stood stay named p i joins s pu l at there lane);
      bare = λ x in_x. bare_begins says n0 n w w' loss kept' x (t.lives x in_x);
    }
