use Rattle.std.proofs.Common.{◌≡◌, arith}
use Rattle.std.proofs.lemmas.Bool.Decides.{nat_tests}
use Rattle.slab.specs.Slab.{get}
use Rattle.gptp_chain.proofs.QueuesLemmas.{lent_there, none_there}
use Rattle.gptp_chain.proofs.queues.Queues.is_empty.Goals as goal

pub returns : goal.returns
returns g c =
    let q = c.self.inside in let test = c.is_empty.ensures in
    let there = lent_there (get q.nodes) q.chains.items c.args.place c.index.result.now
    (rw (← c.self.view_is) at c.requires) c.index.ensures in
    let both = none_there q.nodes q.chains.items c.args.place c.index.result.now c.self.invariant there in (
      λ yes.
          let none : c.index.result.now.count ≡ 0 = grind (arith, nat_tests, test, yes) in
          rw (← c.self.view_is) (both.0 none),
      λ empty. let none = both.1 (rw (← c.self.view_is) at empty) in grind (arith, nat_tests, test, none),
    )
