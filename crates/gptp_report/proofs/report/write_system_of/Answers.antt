use Rattle.std.proofs.Common.{◌≡◌, true}
use Rattle.std.proofs.lemmas.Result.{on_ok_weaker}
use Rattle.gptp_report.proofs.ReportLemmas.{failed_lines}
use Rattle.gptp_report.proofs.report.write_system_of.Goals as goal

pub returns-in-None : goal.returns-in-None
returns-in-None g c = on_ok_weaker c.write_failed.result (λ written.
    let given = c.requires in
    let not_live : given.station.live ≡ true → ⊥ = λ live. c.in-None.ensures.none
    (record { place = given.place; station = given.station; is = given.is; so = live }) in
    record {
      place = given.place;
      station = given.station;
      is = given.is;
      so = rw (failed_lines given.station c.args.clock given.is.named not_live) written;
    }) c.write_failed.ensures
