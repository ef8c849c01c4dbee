-- What the parts of `run` write.
use Rattle.std.specs.Prelude.{◌≡◌, ◌⊎◌, ℕ, Bool, List, [], ◌++◌}
use Rattle.gptp_model.specs.World.{WorldState}
use Rattle.gptp_network.specs.Document.{DocumentState}
use Rattle.gptp_report.specs.Report.{Reports}
use Rattle.gptp_report.specs.Run.{LeadsSoFar}
use Rattle.gptp_commands.specs.declared.failure.Status.TheVariants.{Done}
use Rattle.gptp_commands.specs.declared.run.RunOptions.{RunOptions}
use Rattle.gptp_commands.specs.RunText.{CertifiesIf, PlaysDocument, draws, generator, until_of}

-- the report of a world, and after it its certificate, where it is asked for
pub record TellsRun (d : DocumentState) (until : ℕ) (asked : Bool) (w : WorldState) (lines : List (List ℕ)) : Type
    0 where
  pub report : List (List ℕ)
  pub reports : Reports d until w report
  pub certificate : List (List ℕ)
  pub certifies : CertifiesIf asked w certificate
  pub are : lines ≡ report ++ certificate

-- the text of the run of a document, as far as it has got
abbrev pub PlaysSome : DocumentState → RunOptions → List (List ℕ) → Type 0
PlaysSome d options lines =
    (lines ≡ [])
    ⊎ (LeadsSoFar draws d (until_of options d) options.frames (generator options.seed) lines
    ⊎ PlaysDocument d options lines Done)
