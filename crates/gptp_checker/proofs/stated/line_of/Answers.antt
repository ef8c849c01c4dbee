use Rattle.std.proofs.Common.{◌∙◌}
use Rattle.gptp_certificate_text.specs.Certificate.{line_of}
use Rattle.gptp_checker.specs.Places.{IsLineAt}
use Rattle.gptp_checker.proofs.EachLemmas.{some_of_map, not_none_of_map}
use Rattle.gptp_checker.proofs.PlaceLemmas.{line_at_place, place_of_line}
use Rattle.gptp_checker.proofs.stated.line_of.Goals as goal

pub returns-in_err-place_of-clause-none : goal.returns-in_err-place_of-clause-none
returns-in_err-place_of-clause-none c =
    rw c.from_residual.ensures (λ line at.
    let (i, s, there, is) =
    place_of_line c.args.snapshot.now c.args.certificate.now.lines c.args.clock line c.requires at in
    let e = c.in_err-place_of.ensures.only i (record { system = s; there = there; is = is }) in absurd cc)

pub returns-clause-some : goal.returns-clause-some
returns-clause-some c =
    let h = c.in_ok-place_of.ensures.some in
    let (line, there, is) =
    line_at_place c.args.snapshot.now c.args.certificate.now.lines c.well_formed-2.ensures.rising
    c.well_formed-3.ensures.order.clocks c.requires c.args.clock c.in_ok-place_of.field-0 h.system h.there h.is in
    some_of_map (λ l. line_of l.now) (IsLineAt c.args.certificate.now.lines c.args.clock) c.line.result line
    (c.line.ensures ∙ there) is

pub returns-clause-none : goal.returns-clause-none
returns-clause-none c =
    let h = c.in_ok-place_of.ensures.some in
    let (line, there, is) =
    line_at_place c.args.snapshot.now c.args.certificate.now.lines c.well_formed-2.ensures.rising
    c.well_formed-3.ensures.order.clocks c.requires c.args.clock c.in_ok-place_of.field-0 h.system h.there h.is in
    not_none_of_map (λ l. line_of l.now) _ c.line.result line (c.line.ensures ∙ there)
