use Rattle.std.proofs.Common.{◌<◌, arith}
use Rattle.std.proofs.lemmas.Bool.Decides.{nat_tests}
use Rattle.gptp_certificate_text.specs.Certificate.{line_of}
use Rattle.gptp_certificate_text.specs.Entries.{SystemEntry, entry_clock}
use Rattle.gptp_certificate_text.specs.Lines.{last_entry}
use Rattle.gptp_certificate_text.proofs.OrderLemmas.{last_clock, line_follows, line_stands}
use Rattle.gptp_certificate_text.proofs.order.rises.Goals as goal

pub returns-in-Some-clause-yes : goal.returns-in-Some-clause-yes
returns-in-Some-clause-yes c = λ lower root steps far parent.
    let is = c.lt.ensures in
    let clock = last_clock (line_of c.in-Some.last.now) in
    let below : entry_clock (last_entry (line_of c.in-Some.last.now)) < c.args.clock = grind (arith, nat_tests) in
    line_stands c.args.lines.now c.in-Some.field-0-1.now c.in-Some.last.now
    (SystemEntry c.args.clock root steps far parent)
    c.in-Some.ensures.cases.0 c.requires below

pub returns-in-Some-clause-only : goal.returns-in-Some-clause-only
returns-in-Some-clause-only c = λ root steps far parent stand.
    let is = c.lt.ensures in
    let clock = last_clock (line_of c.in-Some.last.now) in
    let below : entry_clock (last_entry (line_of c.in-Some.last.now)) < c.args.clock =
    line_follows c.args.lines.now c.in-Some.field-0-1.now c.in-Some.last.now
    (SystemEntry c.args.clock root steps far parent)
    c.in-Some.ensures.cases.0 stand in
    grind (arith, nat_tests)
