use Rattle.std.proofs.Common.{◌≡◌, ◌∙◌, ℕ, List, Option, Some, None, Result, IfNone, IfOk, IfSome, inl, inr, string_bytes}
use Rattle.std.proofs.lemmas.Result.{IfOk-weaker}
use Rattle.gptp_network.specs.Document.{DocumentState}
use Rattle.gptp_network.specs.declared.fault.DocumentFault.TheVariants.{NoSuchPort}
use Rattle.gptp_words.specs.Lines.{text_of}
use Rattle.gptp_explain.specs.Explained.{Explains, IsAbsent}
use Rattle.gptp_commands.specs.declared.failure.SimError.{SimError}
use Rattle.gptp_commands.specs.declared.failure.Status.TheVariants.{Done}
use Rattle.gptp_commands.specs.declared.output.Output.{Output}
use Rattle.gptp_commands.specs.CheckText.{moment_of}
use Rattle.gptp_commands.specs.ExplainText.{ExplainsAt}
use Rattle.gptp_commands.specs.Output.{IsOutput}
use Rattle.gptp_commands.specs.Documents.{RefusesFault}
use Rattle.gptp_commands.proofs.explain.explain_at.Goals as goal

-- what is told of the system, or that it doesn't live
tells : {X : Type 0} (bytes : X → List ℕ) (d : DocumentState) (until : Option ℕ) (clock : ℕ) (told : Option X)
    (r : Result Output SimError)
    → IfSome told (λ text. (lines : List (List ℕ)) × Explains d (moment_of until d) clock lines
    × (bytes text ≡ text_of lines))
    → IfNone told (IsAbsent d (moment_of until d) clock)
    → IfSome told (λ text. IfOk r (λ o. (o.status ≡ Done) × (o.text.items ≡ bytes text)))
    → IfNone told (IfOk r (IsOutput (RefusesFault NoSuchPort))) → IfOk r (IsOutput (ExplainsAt d until clock))
tells bytes d until clock (Some text) r (lines, explains, is) absent shown refused =
    IfOk-weaker r _ _ (λ o is_shown. (lines, inl (explains, is_shown.0), is_shown.1 ∙ is)) shown
tells bytes d until clock None r explains absent shown refused =
    IfOk-weaker r _ _ (λ o is_refused. (is_refused.0, inr (absent, is_refused.1), is_refused.2)) refused

pub returns-clause-explains : goal.returns-clause-explains
returns-clause-explains c =
    tells string_bytes c.args.document.now c.args.until c.args.clock c.in_ok-told.told c.show.result
    (rw c.moment_of.ensures at c.in_ok-told.ensures.some) (rw c.moment_of.ensures at c.in_ok-told.ensures.none)
    c.show.ensures.some c.show.ensures.none
