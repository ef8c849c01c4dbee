-- The line is written with the times that the document gives.
use Rattle.std.proofs.Common.{◌≡◌, ◌++◌, ℕ, List, [], ◌∷◌, OnOk, string_bytes, ap₂, subst}
use Rattle.gptp_report.specs.Report.{calm_text}
use Rattle.gptp_report.proofs.report.write_calm.Goals as goal

pub returns : goal.returns
returns c =
    subst (λ (line : List ℕ). OnOk c.write_settling.result
    (string_bytes c.write_settling.new.text ≡ string_bytes c.args.text.now ++ (line ++ 10 ∷ [])))
    (ap₂ calm_text c.last_change-last.ensures c.settles-settles.ensures.time) c.write_settling.ensures
