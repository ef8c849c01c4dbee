use Rattle.std.proofs.Common.{refl, arith}
use Rattle.gptp_lists.proofs.SystemSpecLemmas.{In-slice_get}
use Rattle.gptp_checker.proofs.EachLemmas.{one_more, all_hold}
use Rattle.gptp_checker.proofs.LineTestLemmas.{link_by_link}
use Rattle.gptp_checker.proofs.links.passes_link.Goals as goal

pub returns-then-not-agree_at : goal.returns-then-not-agree_at
returns-then-not-agree_at c = (
  (λ t. absurd cc),
  (λ h.
      let each = (link_by_link c.args.snapshot.now c.args.certificate.now.lines).1 h in
      let t = c.if-not-agree_at.ensures.1 (λ link there.
      each link (In-slice_get link c.args.snapshot.now.links c.loop-place.place there)) in
      absurd cc),
)

pub loop-place-preserved : goal.loop-place-preserved
loop-place-preserved c =
    one_more _ c.args.snapshot.now.links c.loop-place.place c.loop-place.invariant (c.if-not-agree_at.ensures.0 refl)

pub returns : goal.returns
returns c = (
  (λ t. (link_by_link c.args.snapshot.now c.args.certificate.now.lines).0
      (all_hold _ c.args.snapshot.now.links c.loop-place.place c.loop-place.invariant
      (let e = c.loop-place-test.false in let n = c.links-place-end.ensures in omega arith))),
  (λ h. refl),
)
