-- A run that certifies, and what `check` then says of its certificate (profile).
use Rattle.std.specs.Prelude.{◌≡◌, ◌≤◌, ℕ, true, List, [], ◌∷◌, ◌++◌, Option, codes, length}
use Rattle.gptp_network.specs.Document.{DocumentState, Means}
use Rattle.gptp_network.specs.Snapshot.{events_by}
use Rattle.gptp_theorem.specs.PlayedLaws.{DocumentIsAtRest}
use Rattle.gptp_words.specs.Lines.{text_of}
use Rattle.gptp_commands.specs.declared.failure.Status.TheVariants.{Done}
use Rattle.gptp_commands.specs.declared.question.Question.TheVariants.{Choice}
use Rattle.gptp_commands.specs.declared.run.RunOptions.{RunOptions}
use Rattle.gptp_commands.specs.CheckText.{CheckText, moment_of}
use Rattle.gptp_commands.specs.Documents.{document_limit}
use Rattle.gptp_commands.specs.QuestionText.{QuestionText}
use Rattle.gptp_commands.specs.RunText.{until_of}

-- a run is asked for the certificate of a document that is at rest at its end
pub record AsksAtRest (options : RunOptions) (input : List ℕ) (d : DocumentState) : Type 0 where
  pub asked : options.certificate ≡ true
  pub size : length input ≤ document_limit
  pub means : Means input d
  pub rest : DocumentIsAtRest d (until_of options d)

-- `check` at this time asks for the network as it stands at the end of the run: the same events lie before both
abbrev pub AsksTheSame : Option ℕ → RunOptions → DocumentState → Type 0
AsksTheSame at options d = events_by (moment_of at d) d.events ≡ events_by (until_of options d) d.events

-- the output ends with a certificate that `check` accepts of the document at this time, and that `choice` writes then
pub record EndsAccepted (at : Option ℕ) (input : List ℕ) (output : List (List ℕ)) : Type 0 where
  pub report : List (List ℕ)
  pub certificate : List (List ℕ)
  pub lines : output ≡ report ++ certificate
  pub accepted : CheckText at (text_of certificate) input (codes "accepted" ∷ []) Done
  pub chosen : QuestionText (Choice at) input certificate Done
