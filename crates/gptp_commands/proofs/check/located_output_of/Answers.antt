use Rattle.std.proofs.Common.{◌++◌, ap, ◌∙◌, string_bytes}
use Rattle.gptp_commands.proofs.WhereLemmas.{with_place}
use Rattle.gptp_commands.proofs.check.located_output_of.Goals as goal

pub returns-clause-text : goal.returns-clause-text
returns-clause-text c =
    with_place c.args.until c.args.certificate.now c.args.document.now c.in_ok-output.output.text.items
    (string_bytes c.in_ok-place.place) c.extend_from_slice.new.self.items c.in_ok-output.output.status
    c.in_ok-output.ensures.text c.in_ok-place.ensures.locates
    (c.in_ok-extend_from_slice.ensures.items
    ∙ ap (λ xs. c.in_ok-output.output.text.items ++ xs) c.as_bytes.ensures.value)
