use Rattle.std.proofs.Common.{refl, option_map, arith}
use Rattle.gptp_certificate_text.specs.Certificate.{line_of}
use Rattle.gptp_checker.specs.Located.{IsFirstLine}
use Rattle.gptp_checker.proofs.EachLemmas.{one_more, all_hold}
use Rattle.gptp_checker.proofs.LocatedLemmas.{is_first_line, some_by_image}
use Rattle.gptp_checker.proofs.lines.first_failing.Goals as goal

pub returns-then-not-passes_at-clause-some : goal.returns-then-not-passes_at-clause-some
returns-then-not-passes_at-clause-some c =
    let g = c.args.snapshot.now in
    let lines = c.args.certificate.now.lines in
    some_by_image (λ line. line_of line.now) (IsFirstLine c.args.test g lines) c.line.result
    (is_first_line c.args.test g lines c.loop-place.place c.well_formed-2.ensures.order.clocks c.loop-place.invariant
    (λ passes. let t = c.if-not-passes_at.ensures.1 passes in absurd cc)
    (option_map (λ line. line_of line.now) c.line.result) c.line.ensures)

pub loop-place-preserved : goal.loop-place-preserved
loop-place-preserved c =
    one_more _ c.args.certificate.now.lines c.loop-place.place c.loop-place.invariant
    (c.if-not-passes_at.ensures.0 refl)

pub returns-clause-none : goal.returns-clause-none
returns-clause-none c =
    all_hold _ c.args.certificate.now.lines c.loop-place.place c.loop-place.invariant
    (let e = c.loop-place-test.false in let n = c.len-place-end.ensures in omega arith)
