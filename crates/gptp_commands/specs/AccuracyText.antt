-- What `accuracy` writes for a document, and its status (profile).
use Rattle.std.specs.Prelude.{◌≡◌, ℕ, Bool, List, Option}
use Rattle.gptp_network.specs.Document.{DocumentState}
use Rattle.gptp_accuracy.specs.AccuracyText as exact
use Rattle.gptp_accuracy.specs.declared.options.AccuracyOptions.{AccuracyOptions}
use Rattle.gptp_commands.specs.declared.failure.Status.{Status}
use Rattle.gptp_commands.specs.CheckText.{moment_of}
use Rattle.gptp_commands.specs.Failure.{status_by}

-- the time errors of its systems at the time that is meant; it is refused where one exceeds the greatest that is given
pub record TellsAccuracy (d : DocumentState) (until : Option ℕ) (options : AccuracyOptions) (output : List (List ℕ))
    (status : Status) : Type 0 where
  pub exceeded : Bool
  pub text : exact.AccuracyText d (moment_of until d) options output exceeded
  pub status_is : status ≡ status_by exceeded
