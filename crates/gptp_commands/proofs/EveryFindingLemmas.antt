-- Each input has a text of what is found in it.
use Rattle.std.proofs.Common.{◌==◌, ◌&&◌, ℕ, Bool, true, false, not, nat_le, List, [], ◌∷◌, ◌++◌, length, map, arith, refl, inl, inr}
use Rattle.std.specs.Bool.{MatchBool}
use Rattle.gptp_network.specs.Document.{DocumentState, Fails, Means}
use Rattle.gptp_network.specs.ReadDocument.{read_document}
use Rattle.gptp_network.specs.declared.fault.DocumentFault.{DocumentFault}
use Rattle.gptp_network.specs.declared.fault.DocumentFault.TheVariants.{TooMany}
use Rattle.gptp_network.proofs.LawLemmas.{MeansOrFails, means_or_fails}
use Rattle.gptp_lint.specs.LintText.{calm_time_line, found_lines, refused_line}
use Rattle.gptp_lint.specs.Refusal.{TellsPlace, no_toml_words, refusal_tail}
use Rattle.gptp_lint.proofs.EveryLemmas.{each_is_found}
use Rattle.gptp_commands.specs.declared.failure.Status.TheVariants.{Refused}
use Rattle.gptp_commands.specs.declared.question.Question.TheVariants.{Lint}
use Rattle.gptp_commands.specs.Documents.{RefusesFault, document_limit}
use Rattle.gptp_commands.specs.Every.{HasText, HaveText}
use Rattle.gptp_commands.specs.Failure.{status_by}
use Rattle.gptp_commands.specs.LintText.{RefusesAtPlace, TellsFindings}
use Rattle.gptp_commands.specs.QuestionText.{AnswersQuestionInput, QuestionText}
use Rattle.gptp_commands.proofs.EveryQuestionLemmas.{refused_so}

findings_told : (strict : Bool) (input : List ℕ) (d : DocumentState) → Means input d
    → HaveText (TellsFindings input d strict)
findings_told strict input d means =
    let (f, are) = each_is_found input d means in
    let said = found_lines input d.network.params.threshold f in (
      said ++ map calm_time_line f.calm.items,
      status_by (strict && not (length said == 0)),
      record {
        findings = f;
        are = are;
        found = not (length said == 0);
        text = record { lines_are = refl; found_is = refl };
        status_is = refl;
      },
    )

-- where a text stops being TOML is left open: its beginning is told here
told_at : (input : List ℕ) (fault : DocumentFault) → Fails input fault → (tail : List ℕ) × TellsPlace input tail
told_at input fault (inl (is, no_toml)) = (no_toml_words [], inl (no_toml, (0, omega arith, refl)))
told_at input fault (inr (t, parses, is)) = (refusal_tail input t (read_document t), inr (t, parses, refl))

refused_at : (input : List ℕ) (fault : DocumentFault) → Fails input fault → HaveText (RefusesAtPlace input fault)
refused_at input fault fails =
    let (tail, told) = told_at input fault fails in
    (refused_line fault tail ∷ [], Refused, record { place = tail; told = told; line = refl; status_is = refl })

module _ (strict : Bool) (input : List ℕ) where
  input_answered : MeansOrFails input → HaveText (AnswersQuestionInput (Lint strict) input)
  input_answered (inl (d, means)) =
      let (output, status, tells) = findings_told strict input d means in (output, status, inl (d, means, tells))
  input_answered (inr (fault, fails)) =
      let (output, status, refuses) = refused_at input fault fails in (output, status, inr (fault, fails, refuses))

  answered_by_size : (fits : Bool)
      → HaveText (λ output status. MatchBool fits (AnswersQuestionInput (Lint strict) input output status)
      (RefusesFault TooMany output status))
  answered_by_size true = input_answered (means_or_fails input)
  answered_by_size false = refused_so TooMany

  pub each_has_findings : HasText (QuestionText (Lint strict)) input
  each_has_findings = answered_by_size (nat_le (length input) document_limit)
