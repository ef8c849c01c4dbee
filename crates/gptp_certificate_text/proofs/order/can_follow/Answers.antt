use Rattle.std.proofs.Common.{◌≡◌, ◌∙◌, arith}
use Rattle.std.proofs.lemmas.Bool.Decides.{nat_tests}
use Rattle.gptp_certificate_text.specs.Certificate.{line_of}
use Rattle.gptp_certificate_text.proofs.OrderLemmas.{last_clock}
use Rattle.gptp_certificate_text.proofs.order.can_follow.Goals as goal

pub returns : goal.returns
returns c =
    let clock = last_clock (line_of c.args.line.now) in
    let number = c.last_number.ensures in
    let test = c.if-ne.ensures in
    let same : c.args.line.now.clock ≡ c.args.clock = grind (arith, nat_tests) in (
      λ lower. (clock ∙ same, grind (arith, nat_tests)),
      λ follows. let lower = follows.1 in grind (arith, nat_tests),
    )

pub returns-then-ne : goal.returns-then-ne
returns-then-ne c =
    let clock = last_clock (line_of c.args.line.now) in
    let test = c.if-ne.ensures in (
      λ no. absurd (grind arith),
      λ follows. let same = follows.0 in grind (arith, nat_tests),
    )
