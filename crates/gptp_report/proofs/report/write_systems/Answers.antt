use Rattle.std.specs.Prelude.{string_bytes}
use Rattle.std.proofs.Common.{subst, arith}
use Rattle.std.proofs.lemmas.List.{drop_all}
use Rattle.gptp_model.specs.Views.{rising_clocks}
use Rattle.gptp_model.proofs.RisingLemmas.{rising_clocks-count}
use Rattle.gptp_report.proofs.ReportLemmas.{shown_all, shown_next, ShownSoFar}
use Rattle.gptp_report.proofs.report.write_systems.Goals as goal

pub loop-place-preserved : goal.loop-place-preserved
loop-place-preserved g c =
    let w = c.args.world.now.world_core in
    shown_next w c.loop-place.place (string_bytes c.args.text.now) (string_bytes c.loop-place.text)
    (string_bytes c.write_system_at.new.text) (rw c.count-place-end.ensures.count at c.loop-place-test.true)
    c.loop-place.invariant c.in_ok-write_system_at.ensures

pub returns : goal.returns
returns g c =
    let w = c.args.world.now.world_core in
    let count = rising_clocks-count w in let test = c.loop-place-test.false in
    let total = c.count-place-end.ensures.count in
    let none = drop_all c.loop-place.place (rising_clocks w) (omega (arith, count, test, total)) in
    shown_all (rising_clocks w) w (string_bytes c.args.text.now) (string_bytes c.loop-place.text)
    (subst (λ left. ShownSoFar (rising_clocks w) left w (string_bytes c.args.text.now)
    (string_bytes c.loop-place.text)) none
    c.loop-place.invariant)
