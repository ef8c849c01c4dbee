-- The lines so far are those of the first links.
use Rattle.std.proofs.Common.{◌≡◌, ◌++◌, map, take, slice_get}
use Rattle.std.specs.Prelude.{string_bytes}
use Rattle.gptp_words.specs.Lines.{text_of}
use Rattle.gptp_lint.specs.LintText.{long_line}
use Rattle.gptp_lint.specs.declared.trouble.Long.{Long}
use Rattle.gptp_lint.proofs.text.write_longs.Given as goal

abbrev pub invariant-loop-long : goal.invariant-loop-long
invariant-loop-long l =
    string_bytes l.text
    ≡ string_bytes l.initial.text
    ++ text_of (map (λ (o : Long). long_line l.threshold (slice_get l.outline.links.items o.link) o)
    (take l.long-index l.longs))
