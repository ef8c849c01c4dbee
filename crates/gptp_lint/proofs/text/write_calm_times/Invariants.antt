-- The lines so far are those of the first times.
use Rattle.std.proofs.Common.{◌≡◌, ◌++◌, map, take}
use Rattle.std.specs.Prelude.{string_bytes}
use Rattle.gptp_words.specs.Lines.{text_of}
use Rattle.gptp_lint.specs.LintText.{calm_time_line}
use Rattle.gptp_lint.proofs.text.write_calm_times.Given as goal

abbrev pub invariant-loop-time : goal.invariant-loop-time
invariant-loop-time l =
    string_bytes l.text ≡ string_bytes l.initial.text ++ text_of (map calm_time_line (take l.time-index l.times))
