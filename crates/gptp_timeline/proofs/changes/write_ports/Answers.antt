use Rattle.std.proofs.Common.{◌≡◌, ◌+◌, ◌∷◌, ◌++◌, drop, ap, subst, ◌∙◌}
use Rattle.std.specs.Prelude.{string_bytes}
use Rattle.std.proofs.lemmas.List.{drop_all}
use Rattle.gptp_report.proofs.ReportLemmas.{drop_here}
use Rattle.gptp_words.specs.Lines.{text_of}
use Rattle.gptp_timeline.specs.Changes.{port_lines, port_lines_if}
use Rattle.gptp_timeline.proofs.LineLemmas.{written_all, written_more, written_none, WrittenSoFar}
use Rattle.gptp_timeline.proofs.PortLemmas.{ports_next}
use Rattle.gptp_timeline.proofs.changes.write_ports.Goals as goal

pub loop-place-init : goal.loop-place-init
loop-place-init c = written_none (port_lines c.args.at c.args.clock 1 c.args.before.now c.args.ports.now)
    (string_bytes c.args.text.now)

pub loop-place-preserved : goal.loop-place-preserved
loop-place-preserved c =
    let i = c.loop-place.place in let before = c.args.before.now in let ports = c.args.ports.now in
    let q = c.port_at-shown.result in let text = string_bytes c.loop-place.text in
    let all = port_lines c.args.at c.args.clock 1 before ports in
    let here : drop i ports ≡ q ∷ drop (i + 1) ports = drop_here ports i q c.port_at-shown.ensures in
    let next = ap (port_lines c.args.at c.args.clock (i + 1) (drop i before)) here
    ∙ ports_next c.args.at c.args.clock (i + 1) i before q (drop (i + 1) ports) in
    let new = c.in_ok-write_port_if_changed.ensures
    ∙ ap (λ n. text ++ text_of (port_lines_if c.args.at c.args.clock n c.port_before-old.result q)) c.number_at.ensures
    ∙ ap (λ o. text ++ text_of (port_lines_if c.args.at c.args.clock (i + 1) o q)) c.port_before-old.ensures in
    written_more all _ _ (string_bytes c.args.text.now) text (string_bytes c.write_port_if_changed.new.text)
    (subst (λ rest. WrittenSoFar all rest (string_bytes c.args.text.now) text) next c.loop-place.invariant) new

pub returns : goal.returns
returns c =
    let i = c.loop-place.place in let before = c.args.before.now in let ports = c.args.ports.now in
    let all = port_lines c.args.at c.args.clock 1 before ports in
    let none = ap (port_lines c.args.at c.args.clock (i + 1) (drop i before))
    (drop_all i ports c.loop-place-test.false) in
    written_all all (string_bytes c.args.text.now) (string_bytes c.loop-place.text)
    (subst (λ rest. WrittenSoFar all rest (string_bytes c.args.text.now) (string_bytes c.loop-place.text)) none
    c.loop-place.invariant)
