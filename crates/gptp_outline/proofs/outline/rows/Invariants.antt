use Rattle.std.proofs.Common.{◌≡◌, ◌++◌, ℕ, ◌<◌, ◌≤◌, Some, length, map, option_map, suc}
use denote.Text.{Utf8}
use denote.Shadow.{shadow}
use Rattle.toml.specs.Parse.{lines, skip_bom}
use Rattle.toml.specs.Tables.{Document}
use Rattle.gptp_outline.specs.Lines.{IsCounted}
use Rattle.gptp_outline.specs.Rows.{IsDocument, rows_from, shown}
use Rattle.gptp_outline.proofs.outline.rows.Given as goal

abbrev pub invariant-lines : goal.invariant-lines
invariant-lines l =
    shadow (Utf8 l.rest) × (length l.rest ≤ length l.fn.text)
    × IsCounted l.fn.text l.mark
    × (IsDocument l.fn.text → (m : ℕ) × (doc : Document) × (all : Document) × (length l.rest < m)
    × (lines m doc l.rest ≡ Some all)
    × (rows_from l.fn.text (suc (length l.fn.text)) (skip_bom l.fn.text)
    ≡ option_map (λ more. map shown l.rows.items ++ more) (rows_from l.fn.text m l.rest)))

abbrev pub decreases-lines : goal.decreases-lines
decreases-lines l = length l.rest
