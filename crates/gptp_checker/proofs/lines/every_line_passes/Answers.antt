use Rattle.gptp_certificate_text.specs.Certificate.{line_of}
use Rattle.gptp_checker.specs.LineTests.{PassesEachLine}
use Rattle.gptp_checker.specs.Located.{IsFirstLine}
use Rattle.gptp_checker.proofs.LocatedLemmas.{none_by}
use Rattle.gptp_checker.proofs.lines.every_line_passes.Goals as goal

pub returns : goal.returns
returns c =
    let g = c.args.snapshot.now in
    let lines = c.args.certificate.now.lines in
    none_by (λ line. IsFirstLine c.args.test g lines (line_of line.now)) (PassesEachLine c.args.test g lines)
    c.first_failing.result c.is_none.result c.is_none.ensures c.first_failing.ensures.some c.first_failing.ensures.none
    (λ line first passes. first.fails (passes (line_of line.now) first.stated))
