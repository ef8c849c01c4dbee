use Rattle.std.proofs.Common.{arith}
use Rattle.std.proofs.lemmas.List.{nil_from_length}
use Rattle.std.proofs.lemmas.Bool.Decides.{nat_tests}
use Rattle.gptp_commands.proofs.LinesLemmas.{lines_fed, lines_unfed}
use Rattle.gptp_commands.proofs.lines.first_line.Goals as goal

pub returns-then-is_empty-clause-first : goal.returns-then-is_empty-clause-first
returns-then-is_empty-clause-first c =
    lines_unfed c.args.text.now c.split_at.result.0.now c.split_at.result.1.now c.requires (cc) (cc)
    (nil_from_length c.split_at.result.1.now (grind (arith, nat_tests)))

pub returns-clause-first : goal.returns-clause-first
returns-clause-first c =
    lines_fed c.args.text.now c.without_carriage_return.result.now c.split_at.result.1.now c.split_at-2.result.1.now
    (cc) (cc)
    (grind (arith, nat_tests)) (cc)
