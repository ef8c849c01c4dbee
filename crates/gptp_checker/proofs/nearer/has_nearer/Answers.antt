use Rattle.std.proofs.Common.{refl, arith}
use Rattle.gptp_certificate_text.specs.Certificate.{line_of}
use Rattle.gptp_lists.proofs.SystemSpecLemmas.{In-slice_get}
use Rattle.gptp_checker.proofs.EachLemmas.{one_more, all_hold}
use Rattle.gptp_checker.proofs.LineTestLemmas.{nearer_by_link}
use Rattle.gptp_checker.proofs.nearer.has_nearer.Goals as goal

pub returns-then-leads_nearer_at : goal.returns-then-leads_nearer_at
returns-then-leads_nearer_at c = (
  (λ t.
      let (link, there, leads) = c.if-leads_nearer_at.ensures.0 refl in
      let at = In-slice_get link c.args.snapshot.now.links c.loop-place.place there in
      (nearer_by_link c.args.snapshot.now c.args.certificate.now.lines (line_of c.args.line.now)).0 (link, at, leads)),
  (λ h. refl),
)

pub loop-place-preserved : goal.loop-place-preserved
loop-place-preserved c =
    one_more _ c.args.snapshot.now.links c.loop-place.place c.loop-place.invariant
    (λ link there leads. let t = c.if-leads_nearer_at.ensures.1 (link, there, leads) in absurd cc)

pub returns : goal.returns
returns c = (
  (λ t. absurd cc),
  (λ h.
      let (link, at, leads) =
      (nearer_by_link c.args.snapshot.now c.args.certificate.now.lines (line_of c.args.line.now)).1 h in
      absurd (all_hold _ c.args.snapshot.now.links c.loop-place.place c.loop-place.invariant
      (let e = c.loop-place-test.false in let n = c.links-place-end.ensures in omega arith) link at leads)),
)
