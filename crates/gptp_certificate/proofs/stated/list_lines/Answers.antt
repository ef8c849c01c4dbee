use Rattle.std.proofs.Common.{subst, arith}
use Rattle.std.proofs.lemmas.List.{drop_all}
use Rattle.gptp_model.specs.Views.{rising_clocks}
use Rattle.gptp_model.proofs.RisingLemmas.{rising_clocks-count}
use Rattle.gptp_certificate_text.specs.Certificate.{lines_of}
use Rattle.gptp_certificate.proofs.StatedLemmas.{stated_all, stated_next, StatedSoFar}
use Rattle.gptp_certificate.proofs.stated.list_lines.Goals as goal

pub loop-place-preserved : goal.loop-place-preserved
loop-place-preserved g c =
    stated_next c.args.world.now.world_core c.loop-place.place (lines_of c.loop-place.lines.items)
    (lines_of c.state_at.new.lines.items) (rw c.count-place-end.ensures.count at c.loop-place-test.true)
    c.loop-place.invariant c.in_ok-state_at.ensures

pub returns : goal.returns
returns g c =
    let w = c.args.world.now.world_core in let lines = lines_of c.loop-place.lines.items in
    let count = rising_clocks-count w in let test = c.loop-place-test.false in
    let total = c.count-place-end.ensures.count in
    let none = drop_all c.loop-place.place (rising_clocks w) (omega (arith, count, test, total)) in
    stated_all w lines c.well_formed-2.ensures.sound.wired.clocks
    (subst (λ left. StatedSoFar (rising_clocks w) left w lines) none c.loop-place.invariant)
