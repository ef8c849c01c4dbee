-- The lines so far are those of the first stretches.
use Rattle.std.proofs.Common.{◌≡◌, ◌++◌, map, take, slice_get}
use Rattle.std.specs.Prelude.{string_bytes}
use Rattle.gptp_words.specs.Lines.{text_of}
use Rattle.gptp_lint.specs.LintText.{lossy_line}
use Rattle.gptp_lint.specs.declared.trouble.Lossy.{Lossy}
use Rattle.gptp_lint.proofs.text.write_stretches.Given as goal

abbrev pub invariant-loop-lossy : goal.invariant-loop-lossy
invariant-loop-lossy l =
    string_bytes l.text
    ≡ string_bytes l.initial.text
    ++ text_of (map (λ (o : Lossy). lossy_line (slice_get l.outline.links.items o.link) o)
    (take l.lossy-index l.stretches))
