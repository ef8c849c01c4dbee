use Rattle.std.proofs.Common.{◌≡◌, true, false, inl, inr, refl}
use Rattle.std.proofs.lemmas.Result.{on_ok_weaker}
use Rattle.gptp_scenario.specs.Calm.{IsCalm}
use Rattle.gptp_report.specs.Report.{calm_line, restless_line}
use Rattle.gptp_report.proofs.report.write_change.Goals as goal

pub returns-in-true : goal.returns-in-true
returns-in-true c = on_ok_weaker c.write_calm.result (λ written.
    (calm_line c.args.document.now, inl (c.in-true.ensures.0 refl, refl), written)) c.write_calm.ensures

pub returns-in-false : goal.returns-in-false
returns-in-false c =
    let d = c.args.document.now in
    let restless : IsCalm d.network d.events → ⊥ = λ calm. let no : false ≡ true = c.in-false.ensures.1 calm in
    absurd cc in
    on_ok_weaker c.write_restless.result (λ written. (restless_line d, inr (restless, refl), written))
    c.write_restless.ensures
