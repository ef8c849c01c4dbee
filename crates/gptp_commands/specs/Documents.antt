-- What every command that reads a document answers where that can't be read, and what a command answers that tells of a
-- document line by line (profile).
use Rattle.std.specs.Prelude.{◌≡◌, ◌⊎◌, ℕ, List, [], ◌∷◌, ◌++◌, codes}
use Rattle.gptp_network.specs.declared.fault.DocumentFault.{DocumentFault}
use Rattle.gptp_network.specs.declared.fault.DocumentFault.TheVariants.{TooMany}
use Rattle.gptp_network.specs.Document.{DocumentState, Fails, Means}
use Rattle.gptp_network.specs.Faults.{fault_text}
use Rattle.gptp_commands.specs.declared.failure.Status.{Status}
use Rattle.gptp_commands.specs.declared.failure.Status.TheVariants.{Refused}
use Rattle.gptp_commands.specs.Limited.{Begins, Limited}

-- how many octets a document may have
abbrev pub document_limit : ℕ
document_limit = 33554432

-- a document that is refused
pub record RefusesFault (fault : DocumentFault) (output : List (List ℕ)) (status : Status) : Type 0 where
  pub shown : output ≡ (codes "refused " ++ fault_text fault) ∷ []
  pub status_is : status ≡ Refused

-- ---- line by line

-- some octets are this document
abbrev pub IsRead : DocumentState → Type 0
IsRead d = (octets : List ℕ) × Means octets d

-- an input is a document, of which this is told, or fails a test
abbrev pub Answers : (DocumentState → List (List ℕ) → Status → Type 0) → List ℕ → List (List ℕ) → Status → Type 0
Answers Tells input output status =
    ((d : DocumentState) × Means input d × Tells d output status)
    ⊎ ((fault : DocumentFault) × Fails input fault × RefusesFault fault output status)

abbrev pub AnswersInput : (DocumentState → List (List ℕ) → Status → Type 0) → List ℕ → List (List ℕ) → Status → Type 0
AnswersInput Tells = Limited document_limit (Answers Tells) (RefusesFault TooMany)

-- the lines until then, as far as a document is told of
abbrev pub AnswersSoFar : (DocumentState → List (List ℕ) → Type 0) → List ℕ → List (List ℕ) → Type 0
AnswersSoFar TellsSoFar input lines = (d : DocumentState) × Means input d × TellsSoFar d lines

abbrev pub BeginsInput : (DocumentState → List (List ℕ) → Status → Type 0)
    → (DocumentState → List (List ℕ) → Type 0) → List ℕ → List (List ℕ) → Type 0
BeginsInput Tells TellsSoFar = Begins document_limit (AnswersSoFar TellsSoFar) (AnswersInput Tells)

-- some lines of a text: none, as far as it has got, or all
abbrev pub SomeOf : (List (List ℕ) → Type 0) → (List (List ℕ) → Status → Type 0) → List (List ℕ) → Type 0
SomeOf SoFar Whole lines = (lines ≡ []) ⊎ (SoFar lines ⊎ ((status : Status) × Whole lines status))
