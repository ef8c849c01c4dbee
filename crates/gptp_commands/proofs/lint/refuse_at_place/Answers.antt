use Rattle.std.proofs.Common.{[], ◌∷◌, ◌++◌, ◌∙◌, ap, refl}
use Rattle.gptp_words.specs.Lines.{text_of}
use Rattle.gptp_lint.specs.LintText.{refused_line}
use Rattle.gptp_commands.proofs.lint.refuse_at_place.Goals as goal

-- the line that is written is the one that is refused
pub returns-clause-refuses : goal.returns-clause-refuses
returns-clause-refuses c =
    let (place, told, is) = c.in_ok-write_refusal.ensures in
    let lines = refused_line c.args.fault place ∷ [] in (
      lines,
      record { place = place; told = told; line = refl; status_is = c.of.ensures.status },
      c.of.ensures.text ∙ is ∙ ap (λ t. t ++ text_of lines) c.new-text.ensures.bytes,
    )
