-- Lines of one kind after those of another.
use Rattle.std.proofs.Common.{map}
use Rattle.std.specs.Prelude.{string_bytes}
use Rattle.std.proofs.lemmas.Result.{on_ok_weaker}
use Rattle.gptp_lint.specs.LintText.{apart_line, chance_line, nobody_line, unlinked_line}
use Rattle.gptp_lint.proofs.TextLemmas.{four_kinds}
use Rattle.gptp_lint.proofs.text.write_others.Goals as goal

pub returns : goal.returns
returns c =
    let f = c.args.findings.now in
    let unlinked = map unlinked_line f.unlinked.items in
    let apart = map apart_line f.components.apart.items in
    let chance = map chance_line f.components.chance.items in
    let nobody = map nobody_line f.components.nobody.items in
    on_ok_weaker c.write_nobody.result
    (four_kinds (string_bytes c.args.text.now) (string_bytes c.write_unlinked.new.text)
    (string_bytes c.write_apart.new.text) (string_bytes c.write_chance.new.text) (string_bytes c.write_nobody.new.text)
    unlinked apart chance nobody (rw c.deref.ensures.value at c.in_ok-write_unlinked.ensures)
    (rw c.deref-2.ensures.value at c.in_ok-write_apart.ensures)
    (rw c.deref-3.ensures.value at c.in_ok-write_chance.ensures))
    (rw c.deref-4.ensures.value at c.write_nobody.ensures)
