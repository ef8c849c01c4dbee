-- In the end all systems were looked at; of one system nothing is told.
use Rattle.std.proofs.Common.{◌≡◌, map, take, ap, ◌∙◌, arith}
use Rattle.std.proofs.lemmas.List.{take_all}
use Rattle.gptp_roles.specs.Selection.{clock_of}
use Rattle.gptp_scenario.specs.declared.network.SystemSpec.{SystemSpec}
use Rattle.gptp_lint.specs.Unlinked.{unlinked_in}
use Rattle.gptp_lint.proofs.UnlinkedLemmas.{are_unlinked, few_unlinked}
use Rattle.gptp_lint.proofs.unlinked.unlinked_clocks.Goals as goal

pub returns-then-systems-lt2 : goal.returns-then-systems-lt2
returns-then-systems-lt2 c =
    few_unlinked c.args.network.now c.well_formed-2.ensures
    (let few = c.if-systems-lt2.true in let is = c.systems.ensures in omega (arith, few, is))
    c.new-unlinked.result.items c.new-unlinked.ensures.items

pub returns : goal.returns
returns c =
    let n = c.args.network.now in
    let end = c.systems-place-end.ensures in
    let past = c.loop-place-test.false in
    let all : take c.loop-place.place n.systems ≡ n.systems =
    take_all c.loop-place.place n.systems (omega (arith, end, past)) in
    are_unlinked n c.well_formed-2.ensures
    (let many = c.if-systems-lt2.false in let is = c.systems.ensures in omega (arith, many, is))
    c.args.cables.now c.requires c.loop-place.unlinked.items c.sort_unstable.new.self.items
    (c.loop-place.invariant
    ∙ ap (λ ms. unlinked_in c.args.cables.now (map (λ (m : SystemSpec). clock_of m.identity) ms)) all)
    c.sort_unstable.ensures.permutation c.sort_unstable.ensures.sorted
