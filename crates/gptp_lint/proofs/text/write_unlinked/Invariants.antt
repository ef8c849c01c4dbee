-- The lines so far are those of the first systems.
use Rattle.std.proofs.Common.{◌≡◌, ◌++◌, map, take}
use Rattle.std.specs.Prelude.{string_bytes}
use Rattle.gptp_words.specs.Lines.{text_of}
use Rattle.gptp_lint.specs.LintText.{unlinked_line}
use Rattle.gptp_lint.proofs.text.write_unlinked.Given as goal

abbrev pub invariant-loop-clock : goal.invariant-loop-clock
invariant-loop-clock l =
    string_bytes l.text ≡ string_bytes l.initial.text ++ text_of (map unlinked_line (take l.clock-index l.clocks))
