use Rattle.std.proofs.Common.{◌-◌, ◌<◌, arith}
use Rattle.std.proofs.lemmas.Bool.Decides.{nat_tests}
use Rattle.slab.specs.Slab.{get}
use Rattle.gptp_chain.proofs.ChainLemmas.{value_at}
use Rattle.gptp_chain.proofs.chain.Chain.last.Goals as goal

pub returns-in-Some : goal.returns-in-Some
returns-in-Some g c =
    let some : 0 < c.args.self.now.count = grind (arith, nat_tests, c.if-self-eq0.false) in
    let at = value_at (get c.args.nodes.now) c.args.self.now.count c.args.self.now.head (c.args.self.now.count - 1)
    c.args.self.now.tail (c.requires.tail (c.args.self.now.count - 1) (omega (arith, some))) in
    rw (← c.get.ensures, c.in-Some.is) at at

pub returns-in-None : goal.returns-in-None
returns-in-None g c =
    let some : 0 < c.args.self.now.count = grind (arith, nat_tests, c.if-self-eq0.false) in
    let at = value_at (get c.args.nodes.now) c.args.self.now.count c.args.self.now.head (c.args.self.now.count - 1)
    c.args.self.now.tail (c.requires.tail (c.args.self.now.count - 1) (omega (arith, some))) in
    rw (← c.get.ensures, c.in-None.is) at at
