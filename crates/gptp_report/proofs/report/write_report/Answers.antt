use Rattle.std.proofs.Common.{◌∷◌, refl}
use Rattle.std.specs.Prelude.{string_bytes}
use Rattle.std.proofs.lemmas.Result.{on_ok_weaker}
use Rattle.gptp_report.specs.Report.{time_line}
use Rattle.gptp_report.proofs.ReportLemmas.{report_text}
use Rattle.gptp_report.proofs.report.write_report.Goals as goal

pub returns : goal.returns
returns g c = on_ok_weaker c.write_systems.result (λ shown.
    let change = c.in_ok-write_change.ensures in (
      time_line c.args.until ∷ change.0 ∷ shown.0,
      record { change = change.0; changes = change.1; systems = shown.0; shows = shown.1; are = refl },
      report_text (string_bytes c.args.text.now) (string_bytes c.write_time.new.text)
          (string_bytes c.write_change.new.text)
          (string_bytes c.write_systems.new.text) (time_line c.args.until) change.0 shown.0 c.in_ok-write_time.ensures
          change.2 shown.2,
    )) c.write_systems.ensures
