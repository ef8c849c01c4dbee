use Rattle.std.proofs.Common.{refl, subst, arith}
use Rattle.gptp_graph.specs.Labelling.{SystemLine, line_clocks}
use Rattle.gptp_lists.specs.Members.{In}
use Rattle.gptp_lists.proofs.SystemSpecLemmas.{In-map, In-slice_get, from_map}
use Rattle.gptp_checker.proofs.EachLemmas.{one_more, all_hold}
use Rattle.gptp_checker.proofs.systems.is_stated.Goals as goal

pub returns-then-is_stated_at : goal.returns-then-is_stated_at
returns-then-is_stated_at c = (
  (λ t.
      let lines = c.args.certificate.now.lines in
      let (line, there, has) = c.if-is_stated_at.ensures.0 refl in
      subst (λ v. In v (line_clocks lines)) has
      (In-map (λ (l : SystemLine). l.clock) line lines (In-slice_get line lines c.loop-place.place there))),
  (λ h. refl),
)

pub loop-place-preserved : goal.loop-place-preserved
loop-place-preserved c =
    one_more _ c.args.certificate.now.lines c.loop-place.place c.loop-place.invariant
    (λ line there has. let t = c.if-is_stated_at.ensures.1 (line, there, has) in absurd cc)

pub returns : goal.returns
returns c = (
  (λ t. absurd cc),
  (λ h.
      let lines = c.args.certificate.now.lines in
      let (line, stated, has) = from_map (λ (l : SystemLine). l.clock) c.args.clock lines h in
      absurd (all_hold _ lines c.loop-place.place c.loop-place.invariant
      (let e = c.loop-place-test.false in let n = c.len-place-end.ensures in omega arith) line stated has)),
)
