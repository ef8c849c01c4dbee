-- The lines so far are those of the first systems.
use Rattle.std.proofs.Common.{◌≡◌, ◌++◌, map, take}
use Rattle.std.specs.Prelude.{string_bytes}
use Rattle.gptp_words.specs.Lines.{text_of}
use Rattle.gptp_accuracy.specs.AccuracyText.{system_line}
use Rattle.gptp_accuracy.proofs.text.write_systems.Given as goal

abbrev pub invariant-loop-system : goal.invariant-loop-system
invariant-loop-system l =
    string_bytes l.text
    ≡ string_bytes l.initial.text ++ text_of (map (system_line l.options l.age) (take l.system-index l.systems))
