use Rattle.std.proofs.Common.{◌≡◌, ◌+◌, ◌∷◌, ◌++◌, drop, string_bytes, ap, sym, ◌∙◌}
use Rattle.std.proofs.lemmas.List.{drop_more}
use Rattle.gptp_certificate_text.specs.Certificate.{lines_of}
use Rattle.gptp_certificate_text.specs.Entries.{entries_of}
use Rattle.gptp_certificate_text.proofs.TextLemmas.{entries_text, next_system}
use Rattle.gptp_certificate_text.proofs.text.write_systems.Goals as goal

pub loop-line-preserved : goal.loop-line-preserved
loop-line-preserved c =
    let lines = c.args.lines.now in
    let text = string_bytes c.loop-line.text in
    let left = drop_more lines c.loop-line.line-index c.line-item.result c.loop-line-test.true in
    let first : drop c.loop-line.line-index lines ≡ c.line-item.result ∷ drop (c.loop-line.line-index + 1) lines =
    left ∙ ap (λ line. line ∷ drop (c.loop-line.line-index + 1) lines) (sym c.line-item.is) in
    next_system c.line-item.result (drop (c.loop-line.line-index + 1) lines) text
    (string_bytes c.write_system.new.text) _
    c.in_ok-write_system.ensures
    (sym (ap (λ rest. text ++ entries_text (entries_of (lines_of rest))) first) ∙ c.loop-line.invariant)
