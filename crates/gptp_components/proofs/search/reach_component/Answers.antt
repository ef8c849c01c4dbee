use Rattle.std.proofs.Common.{◌≡◌, ◌≤◌, ◌∙◌, suc, [], arith, length, refl, subst, sym}
use Rattle.std.proofs.lemmas.Bool.Decides.{nat_tests}
use Rattle.gptp_lists.specs.Members.{In}
use Rattle.gptp_graph.specs.SettledChoice.{IsBestIdentity}
use Rattle.gptp_components.specs.Search.{IsComponentFound, IsPut, IsSpread}
use Rattle.gptp_components.specs.declared.distance.Distance.{Distance}
use Rattle.gptp_components.proofs.RankedLemmas.{clock_named}
use Rattle.gptp_components.proofs.ReachedLemmas.{edge_before, found_first, found_next, whole_by_count, whole_by_edge}
use Rattle.gptp_components.proofs.search.reach_component.Goals as goal

pub loop-turn-init : goal.loop-turn-init
loop-turn-init c =
    let g = c.args.snapshot.now in let wf = c.well_formed-2.ensures.network in let new = c.requires.best in
    let far : Distance = record { root = c.args.root; steps = 0 } in
    let before = c.args.found.now.items in let after = c.put.new.found.items in let edge = c.put.new.waiting.items in
    let clock = clock_named g wf c.args.root c.clock.result c.clock.ensures new.best new.is.live (sym new.identity) in
    record {
      root = refl;
      steps = refl;
      found = found_first g wf far before after edge refl new
          (subst (λ v. IsPut g far v before [] after edge) (sym clock)
          (subst (λ ws. IsPut g far c.clock.result before ws after edge) c.new-edge.ensures.items c.in_ok-put.ensures));
    }

pub returns-then-is_empty : goal.returns-then-is_empty
returns-then-is_empty c =
    let g = c.args.snapshot.now in let l = c.loop-turn in
    let is = c.if-is_empty.ensures in
    let none : length l.edge.items ≡ 0 = grind (arith, nat_tests) in
    subst (λ root. IsComponentFound g root c.args.found.now.items l.found.items) l.invariant.root
    (whole_by_edge g c.well_formed-2.ensures.network l.distance c.args.found.now.items l.found.items l.edge.items
    l.invariant.found none)

pub reach_next-requires-clause-edge : goal.reach_next-requires-clause-edge
reach_next-requires-clause-edge c = λ u member.
    let l = c.loop-turn in
    edge_before c.args.snapshot.now c.well_formed-2.ensures.network l.distance c.args.found.now.items l.found.items
    l.edge.items l.invariant.found c.farther-distance.result c.farther-distance.ensures.root
    c.farther-distance.ensures.steps u (subst (In u) c.deref.ensures.value member)

pub loop-turn-preserved : goal.loop-turn-preserved
loop-turn-preserved c =
    let g = c.args.snapshot.now in let l = c.loop-turn in let next = c.farther-distance.result in
    let after = c.reach_next.new.found.items in let waiting = c.in_ok-edge.edge.items in
    let farther : next.steps ≡ suc l.distance.steps = c.farther-distance.ensures.steps in
    let so_far : l.distance.steps ≡ l._turn = l.invariant.steps in
    record {
      root = c.farther-distance.ensures.root ∙ l.invariant.root;
      steps = omega (arith, farther, so_far);
      found = found_next g c.well_formed-2.ensures.network l.distance next c.farther-distance.ensures.root farther
          c.args.found.now.items l.found.items after l.edge.items waiting
          (λ w d best. c.requires.best.unfound w d (subst (IsBestIdentity g w) l.invariant.root best))
          l.invariant.found
          (subst (λ us. IsSpread g next us 0 0 l.found.items after waiting) c.deref.ensures.value c.in_ok-edge.ensures);
    }

pub returns : goal.returns
returns c =
    let g = c.args.snapshot.now in let l = c.loop-turn in
    let end = c.systems-turns.ensures in let past = c.loop-turn-test.false in
    let so_far : l.distance.steps ≡ l._turn = l.invariant.steps in
    let all : length g.systems ≤ l.distance.steps = omega (arith, end, past, so_far) in
    subst (λ root. IsComponentFound g root c.args.found.now.items l.found.items) l.invariant.root
    (whole_by_count g c.well_formed-2.ensures.network l.distance c.args.found.now.items l.found.items l.edge.items
    l.invariant.found all)
