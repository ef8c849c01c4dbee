use Rattle.std.proofs.Common.{◌≡◌, ◌<◌, ◌+◌, ◌-◌, ◌∷◌, ◌++◌, [], Some, drop, length, slice_get, ap, sym, ◌∙◌, string_bytes, arith}
use Rattle.std.proofs.lemmas.List.{drop_more}
use Rattle.gptp_certificate_text.specs.Certificate.{lines_of}
use Rattle.gptp_certificate_text.specs.CertificateText.{certificate_lines}
use Rattle.gptp_certificate_text.proofs.LineTextLemmas.{behind_next, here_next, printed, texts_left}
use Rattle.gptp_certificate_text.proofs.text.write_line.Goals as goal

pub returns-then-left-count : goal.returns-then-left-count
returns-then-left-count c =
    let lines = c.args.lines.now in let i = c.loop-line.line-index in let left = c.loop-line.left in
    let line = c.line-item.result in
    let first : drop i lines ≡ line ∷ drop (i + 1) lines =
    drop_more lines i line c.loop-line-test.true ∙ ap (λ y. y ∷ drop (i + 1) lines) (sym c.line-item.is) in
    let below = c.if-left-count.true in let count = c.len-count.ensures in
    let within : left < 1 + length line.ports.items = omega (arith, below, count) in
    let entry = c.in_ok-write_entry.ensures in
    let at : slice_get (certificate_lines c.args.version (lines_of lines)) c.args.place ≡ Some entry.0 =
    c.loop-line.invariant.place ∙ ap (λ others. slice_get (texts_left others) left) first
    ∙ here_next line (drop (i + 1) lines) left entry.0 within entry.1 in
    printed (slice_get (certificate_lines c.args.version (lines_of lines)) c.args.place) entry.0
    (string_bytes c.args.text.now) (string_bytes c.write_entry.new.text) at
    (entry.2 ∙ ap (λ t. t ++ (entry.0 ++ 10 ∷ [])) c.loop-line.invariant.nothing)

pub loop-line-preserved : goal.loop-line-preserved
loop-line-preserved c =
    let lines = c.args.lines.now in let i = c.loop-line.line-index in let left = c.loop-line.left in
    let line = c.line-item.result in let rest = drop (i + 1) lines in
    let first : drop i lines ≡ line ∷ rest =
    drop_more lines i line c.loop-line-test.true ∙ ap (λ y. y ∷ rest) (sym c.line-item.is) in
    let past = c.if-left-count.false in let count = c.len-count.ensures in
    let same : length line.ports.items ≡ c.len-count.result = omega (arith, count) in
    record {
      place = c.loop-line.invariant.place ∙ ap (λ others. slice_get (texts_left others) left) first
          ∙ behind_next line rest left (omega (arith, past, count))
          ∙ ap (λ n. slice_get (texts_left rest) (left - (1 + n))) same;
      nothing = c.loop-line.invariant.nothing;
    }
