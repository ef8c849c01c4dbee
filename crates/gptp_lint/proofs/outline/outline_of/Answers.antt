-- What isn't in UTF-8 is no TOML.
use Rattle.std.proofs.Common.{sym, ◌∙◌}
use Rattle.std.proofs.lemmas.Option.{none-some}
use Rattle.gptp_outline.proofs.OutlineLemmas.{no_table}
use Rattle.gptp_lint.proofs.outline.outline_of.Goals as goal

pub returns-in-Err : goal.returns-in-Err
returns-in-Err c t is =
    absurd (none-some t (sym (no_table c.args.text.now (λ utf8. absurd (c.in-Err.ensures.cases.0 utf8))) ∙ is))
