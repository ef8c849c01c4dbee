-- The lines so far are those of the first pairs.
use Rattle.std.proofs.Common.{◌≡◌, ◌++◌, map, take}
use Rattle.std.specs.Prelude.{string_bytes}
use Rattle.gptp_words.specs.Lines.{text_of}
use Rattle.gptp_lint.specs.LintText.{chance_line}
use Rattle.gptp_lint.proofs.text.write_chance.Given as goal

abbrev pub invariant-loop-two : goal.invariant-loop-two
invariant-loop-two l =
    string_bytes l.text ≡ string_bytes l.initial.text ++ text_of (map chance_line (take l.two-index l.pairs))
