-- Whether the time errors of a document hold by a time.
use Rattle.std.proofs.Common.{◌≡◌, ◌≤◌, ℕ, Option, Some, None, sym, ◌∙◌}
use Rattle.gptp_network.specs.Document.{DocumentState}
use Rattle.gptp_accuracy.specs.TimeErrors.{AreTimeErrors, exact_from}
use Rattle.gptp_accuracy.specs.declared.errors.TimeErrors.{TimeErrors}
use Rattle.gptp_timeline.specs.Timeline.{AreErrorsBy}

pub some_by : (d : DocumentState) (at to exact : ℕ) (t : TimeErrors) → AreTimeErrors d at t
    → Some exact ≡ exact_from d at → exact ≤ to → AreErrorsBy d at to (Some t)
some_by d at to exact t are is early = (are, (exact, are.from ∙ sym is, early))

pub none_by : (d : DocumentState) (at to : ℕ) (from : Option ℕ) → from ≡ exact_from d at
    → ((exact : ℕ) → from ≡ Some exact → exact ≤ to → ⊥) → AreErrorsBy d at to None
none_by d at to from is late t are holds = late holds.0 (is ∙ sym are.from ∙ holds.1) holds.2
