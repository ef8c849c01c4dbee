use Rattle.std.proofs.Common.{◌≡◌, ◌-◌, Some, ap, sym, ◌∙◌, slice_get, arith}
use Rattle.std.proofs.lemmas.Bool.Decides.{nat_tests}
use Rattle.std.proofs.lemmas.Option.{slice_get-get_or}
use Rattle.std.proofs.lemmas.Result.{on_ok_weaker}
use Rattle.gptp_certificate_text.specs.Certificate.{line_of, port_line_of}
use Rattle.gptp_certificate_text.specs.CertificateText.{entry_text}
use Rattle.gptp_certificate_text.specs.Entries.{PortEntry, system_entry}
use Rattle.gptp_certificate_text.proofs.LineTextLemmas.{port_text, texts_of}
use Rattle.gptp_certificate_text.proofs.text.write_entry.Goals as goal

pub returns-then-place-eq0 : goal.returns-then-place-eq0
returns-then-place-eq0 c = on_ok_weaker c.write_head.result (λ written.
    let first : c.args.place ≡ 0 = grind (arith, nat_tests) in
    (entry_text (system_entry (line_of c.args.line.now)), ap (slice_get (texts_of c.args.line.now)) first, written))
    c.write_head.ensures

pub returns : goal.returns
returns c = on_ok_weaker c.write_port.result (λ written.
    let line = c.args.line.now in let port = c.index.result.now in
    let within = c.requires in let behind = c.if-place-eq0.false in
    let here : slice_get line.ports.items (c.args.place - 1) ≡ Some port =
    slice_get-get_or line.ports.items (c.args.place - 1) port (grind (arith, nat_tests))
    ∙ ap Some (sym c.index.ensures) in (
      entry_text (PortEntry line.clock (port_line_of port)),
      port_text line c.args.place port (grind (arith, nat_tests))
          here,
      written,
    )) c.write_port.ensures
