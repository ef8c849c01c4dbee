use Rattle.std.proofs.Common.{◌<◌, length, arith}
use Rattle.std.proofs.lemmas.List.{length-map}
use Rattle.gptp_certificate_text.specs.Certificate.{line_of, lines_of}
use Rattle.gptp_certificate.proofs.MarkingLemmas.{mark_next}
use Rattle.gptp_certificate.proofs.marking.mark_each.Goals as goal

pub loop-place-preserved : goal.loop-place-preserved
loop-place-preserved c =
    let old = c.args.lines.now.items in let place = c.loop-place.place in
    let test = c.loop-place-test.true in let all = c.len-place-end.ensures in
    let below : place < length old = omega arith in
    let long = length-map old line_of in
    let lowest_long = c.requires.lowest in
    mark_next place c.args.lowest.now c.args.links.now (lines_of old) c.loop-place.lines.items
    c.index_mut.result.now c.mark.new.line c.index-lowest-place.result (omega arith) (omega arith)
    c.index_mut.ensures.value c.index-lowest-place.is c.mark.ensures c.loop-place.invariant
