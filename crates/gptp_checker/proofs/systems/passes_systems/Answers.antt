use Rattle.std.proofs.Common.{refl, sym, ◌∙◌, arith}
use Rattle.gptp_checker.proofs.PlaceLemmas.{passed_at, passed_length, passes_where_agree}
use Rattle.gptp_checker.proofs.systems.passes_systems.Goals as goal

pub returns-then-systems-len : goal.returns-then-systems-len
returns-then-systems-len c = (
  (λ t. absurd cc),
  (λ h. absurd (c.if-systems-len.true (c.systems.ensures
      ∙ passed_length c.args.snapshot.now c.args.certificate.now.lines
      c.well_formed-2.ensures.rising c.well_formed-3.ensures.order.clocks h ∙ sym c.len.ensures))),
)

pub returns-then-not-agree_at : goal.returns-then-not-agree_at
returns-then-not-agree_at c = (
  (λ t. absurd cc),
  (λ h.
      let b = c.loop-place-test.true in
      let n = c.len-place-end.ensures in
      let t = c.if-not-agree_at.ensures.1 (passed_at c.args.snapshot.now c.args.certificate.now.lines
      c.well_formed-2.ensures.rising c.well_formed-3.ensures.order.clocks h c.loop-place.place (omega arith)) in
      absurd cc),
)

pub returns : goal.returns
returns c = (
  (λ t. passes_where_agree c.args.snapshot.now c.args.certificate.now.lines c.well_formed-3.ensures.order.clocks
      (sym c.systems.ensures ∙ c.if-systems-len.false ∙ c.len.ensures)
      (λ i b.
      let end = c.loop-place-test.false in
      let n = c.len-place-end.ensures in
      c.loop-place.invariant i (omega arith))),
  (λ h. refl),
)
