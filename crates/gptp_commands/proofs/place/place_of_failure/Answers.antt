use Rattle.std.proofs.Common.{inl, inr}
use Rattle.std.proofs.lemmas.Result.{IfOk-weaker}
use Rattle.gptp_certificate_text.specs.Parsing.{FailsFrom}
use Rattle.gptp_certificate_text.proofs.ReadingLemmas.{ends_with_part}
use Rattle.gptp_commands.proofs.place.place_of_failure.Goals as goal

pub line_of_part-requires : goal.line_of_part-requires
line_of_part-requires c = elim c.requires [
  | inl e ↦ absurd (c.in_default.not-OutOfMemory e)
  | inr fails ↦ ends_with_part c.args.input.now c.args.part.now c.args.fault fails
]

pub returns-in_default-clause-locates : goal.returns-in_default-clause-locates
returns-in_default-clause-locates c =
    let fails : FailsFrom c.args.input.now c.args.fault c.args.part.now = elim c.requires [
      | inl e ↦ absurd (c.in_default.not-OutOfMemory e)
      | inr fails ↦ fails
    ] in
    IfOk-weaker c.at_line.result _ _ (λ text said. (
      said.0,
      (c.args.fault, c.args.part.now, c.line_of_part.result, fails, c.line_of_part.ensures, said.1),
      said.2,
    ))
    c.at_line.ensures.says
