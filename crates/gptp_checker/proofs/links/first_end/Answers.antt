use Rattle.std.proofs.Common.{arith}
use Rattle.gptp_checker.proofs.EndLemmas.{all_agree, first_of_all}
use Rattle.gptp_checker.proofs.links.first_end.Goals as goal

pub returns : goal.returns
returns c =
    let g = c.args.snapshot.now in
    let lines = c.args.certificate.now.lines in
    let end = c.loop-place-test.false in
    let count = c.links-place-end.ensures in
    record {
      some = first_of_all g lines c.loop-place.place c.loop-place.first (omega arith) c.loop-place.invariant;
      none = all_agree g lines c.loop-place.place c.loop-place.first (omega arith) c.loop-place.invariant;
    }
