use Rattle.std.proofs.Common.{◌≡◌, arith}
use Rattle.std.proofs.lemmas.Bool.Decides.{nat_tests}
use Rattle.slab.specs.Slab.{slab_len}
use Rattle.gptp_chain.proofs.QueuesLemmas.{all_empty, empty_slab}
use Rattle.gptp_chain.proofs.queues.Queues.are_empty.Goals as goal

pub returns : goal.returns
returns g c =
    let q = c.self.inside in let test = c.is_empty.ensures in (
      λ yes.
          let none : slab_len q.nodes ≡ 0 = grind (arith, nat_tests, test, yes) in
          rw (← c.self.view_is) (all_empty q.nodes q.chains.items c.self.invariant none),
      λ none.
          let len = empty_slab q.nodes q.chains.items c.self.invariant (rw (← c.self.view_is) at none) in
          grind (arith, nat_tests, test, len),
    )
