-- The lines so far are those of the first times.
use Rattle.std.proofs.Common.{◌≡◌, ◌++◌, take}
use Rattle.std.specs.List.{flat_map}
use Rattle.std.specs.Prelude.{string_bytes}
use Rattle.gptp_words.specs.Lines.{text_of}
use Rattle.gptp_lint.specs.LintText.{late_lines}
use Rattle.gptp_lint.proofs.text.write_lates.Given as goal

abbrev pub invariant-loop-time : goal.invariant-loop-time
invariant-loop-time l =
    string_bytes l.text
    ≡ string_bytes l.initial.text ++ text_of (flat_map (late_lines l.limit) (take l.time-index l.times))
