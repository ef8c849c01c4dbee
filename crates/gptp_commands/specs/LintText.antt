-- What `lint` writes for a document, and its status (profile).
use Rattle.std.specs.Prelude.{◌≡◌, ◌&&◌, ℕ, Bool, List, [], ◌∷◌}
use Rattle.gptp_network.specs.Document.{DocumentState}
use Rattle.gptp_network.specs.declared.fault.DocumentFault.{DocumentFault}
use Rattle.gptp_lint.specs.Findings.{AreFound}
use Rattle.gptp_lint.specs.LintText.{AreLines, refused_line}
use Rattle.gptp_lint.specs.Refusal.{TellsPlace}
use Rattle.gptp_lint.specs.declared.findings.Findings.{Findings}
use Rattle.gptp_commands.specs.declared.failure.Status.{Status}
use Rattle.gptp_commands.specs.declared.failure.Status.TheVariants.{Refused}
use Rattle.gptp_commands.specs.Failure.{status_by}

-- the line of an input that is refused by this fault, with where that is and why it is one
pub record RefusesAtPlace (input : List ℕ) (fault : DocumentFault) (output : List (List ℕ)) (status : Status)
    : Type 0 where
  pub place : List ℕ
  pub told : TellsPlace input place
  pub line : output ≡ refused_line fault place ∷ []
  pub status_is : status ≡ Refused

-- what is found in a document, which the input spells; it is refused where that is strict and there is a line but on
-- calm
pub record TellsFindings (input : List ℕ) (d : DocumentState) (strict : Bool) (output : List (List ℕ)) (status : Status)
    : Type 0 where
  pub findings : Findings
  pub are : AreFound d findings
  pub found : Bool
  pub text : AreLines input d.network.params.threshold findings output found
  pub status_is : status ≡ status_by (strict && found)
