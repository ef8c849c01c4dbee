use Rattle.std.proofs.Common.{arith}
use Rattle.std.proofs.lemmas.Bool.Decides.{nat_tests}
use Rattle.gptp_messages.proofs.PathLemmas.{looked_more, looked_all}
use Rattle.gptp_messages.proofs.path.has_clock.Goals as goal

pub loop-place-preserved : goal.loop-place-preserved
loop-place-preserved c =
    looked_more c.args.octets.now c.loop-place.place c.args.clock c.loop-place.found c.eq-found.result
    c.loop-place-test.true (λ same. grind (arith, nat_tests)) (λ other same. grind (arith, nat_tests))
    c.loop-place.invariant

pub returns : goal.returns
returns c =
    looked_all c.args.octets.now c.loop-place.place c.args.clock c.loop-place.found c.loop-place-test.false
    c.loop-place.invariant
