-- The lines of all findings, one kind after the other.
use Rattle.std.proofs.Common.{◌≡◌, ◌++◌, ℕ, List, Option, length, map, nat_lt, refl, ap, ap₂, ◌∙◌}
use Rattle.std.specs.Prelude.{string_bytes}
use Rattle.std.specs.List.{flat_map}
use Rattle.gptp_outline.specs.Rows.{table_of}
use Rattle.gptp_words.specs.Lines.{text_of}
use Rattle.gptp_lint.specs.LintText.{calm_time_line, found_lines, late_lines, long_line, lossy_line, other_lines}
use Rattle.gptp_lint.specs.Outline.{OutlineState, header_line, outline_of_text}
use Rattle.gptp_lint.specs.declared.place.Place.TheVariants.{Member}
use Rattle.gptp_lint.specs.declared.place.Section.TheVariants.{Link}
use Rattle.gptp_lint.specs.declared.trouble.Long.{Long}
use Rattle.gptp_lint.specs.declared.trouble.Lossy.{Lossy}
use Rattle.gptp_lint.specs.UnreadKeys.{unread_line, unread_lines, unread_of}
use Rattle.gptp_lint.proofs.TextLemmas.{five_kinds, joined, longer}
use Rattle.gptp_lint.proofs.UnreadLemmas.{unread_is}
use Rattle.gptp_lint.proofs.text.write_findings.Goals as goal

pub returns : goal.returns
returns c =
    let f = c.args.findings.now in
    let old = string_bytes c.args.text.now in
    let others = string_bytes c.write_others.new.text in
    let input = c.args.input.now in
    let outline_is = c.in_ok-source.ensures.outline in
    let links_are : c.in_ok-source.source.outline.links.items ≡ (outline_of_text input).links =
    ap (λ (o : OutlineState). o.links) outline_is in
    let header : ℕ → Option ℕ = λ link. header_line input (Member Link link) in
    let long : Long → List ℕ = λ l. long_line c.args.threshold (header l.link) l in
    let lossy : Lossy → List ℕ = λ l. lossy_line (header l.link) l in
    let unread : string_bytes c.write_unread.new.text ≡ old ++ text_of (unread_lines input) =
    c.in_ok-write_unread.ensures
    ∙ ap₂ (λ t o. old ++ text_of (map (unread_line t o) (unread_of t o))) c.in_ok-source.ensures.document outline_is
    ∙ ap (λ keys. old ++ text_of (map (unread_line (table_of input) (outline_of_text input)) keys)) (unread_is input) in
    let mid = five_kinds old (string_bytes c.write_unread.new.text) (string_bytes c.write_longs.new.text)
    (string_bytes c.write_stretches.new.text) (string_bytes c.write_lates.new.text) others
    (unread_lines input) (map long f.long.items) (map lossy f.lossy.items)
    (flat_map (late_lines f.limit) f.calm.items) (other_lines f) unread
    (rw (c.deref.ensures.value, links_are) at c.in_ok-write_longs.ensures)
    (rw (c.deref-2.ensures.value, links_are) at c.in_ok-write_stretches.ensures)
    (rw c.deref-3.ensures.value at c.in_ok-write_lates.ensures) c.in_ok-write_others.ensures in
    let lines = found_lines input c.args.threshold f in (
      lines ++ map calm_time_line f.calm.items,
      record {
        lines_are = refl;
        found_is = ap₂ nat_lt (ap length c.as_bytes-before.ensures.value) (ap length c.as_bytes.ensures.value)
            ∙ ap (λ t. nat_lt (length old) (length t)) mid
            ∙ longer old lines;
      },
      joined old others (string_bytes c.write_calm_times.new.text) lines (map calm_time_line f.calm.items) mid
          (rw c.deref-4.ensures.value at c.in_ok-write_calm_times.ensures),
    )
