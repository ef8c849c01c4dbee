-- One round more is made; where it changes nothing, no further one does.
use Rattle.std.proofs.Common.{rules, ◌≡◌, ◌<◌, ◌+◌, ◌-◌, length, ap, sym, subst, ◌∙◌, arith}
use Rattle.std.specs.List.{AllByRecursion}
use Rattle.gptp_how_soon.specs.Chosen.{round, rounds}
use Rattle.gptp_how_soon.specs.declared.chosen.Chosen.{Chosen}
use Rattle.gptp_how_soon.proofs.RoundsLemmas.{AreWithin, none_away, one_round, same_choices, stays_still, steps_fit, steps_more}
use Rattle.gptp_how_soon.proofs.chosen.choose.Goals as goal

pub loop-turn-init : goal.loop-turn-init
loop-turn-init c =
    let links = c.args.links.now in
    let systems = c.args.systems.now in
    let is = c.in_ok-chosen.ensures in
    let all : length systems - 0 ≡ length systems = omega arith in (
      ap (λ k. rounds links k c.in_ok-chosen.chosen.items) all ∙ ap (rounds links (length systems)) is,
      subst (AreWithin 0) (sym is) (none_away systems),
    )

pub round-requires : goal.round-requires
round-requires c =
    let less : c.loop-turn.turn < 18446744073709551615 = search rules in
    subst (AllByRecursion (λ (x : Chosen). x.steps < 18446744073709551615)) (sym c.deref.ensures.value)
    (steps_fit c.loop-turn.turn 18446744073709551615 c.loop-turn.chosen.items less c.loop-turn.invariant.1)

pub loop-turn-preserved : goal.loop-turn-preserved
loop-turn-preserved c =
    let links = c.args.links.now in
    let all = length c.args.systems.now in
    let turn = c.loop-turn.turn in
    let next = c.in_ok-next.ensures ∙ ap (round links) c.deref.ensures.value in (
      ap (rounds links (all - (turn + 1))) next
          ∙ sym (one_round links all turn c.loop-turn.chosen.items c.loop-turn-test.true)
          ∙ c.loop-turn.invariant.0,
      subst (AreWithin (turn + 1)) (sym next)
          (steps_more links turn c.loop-turn.chosen.items c.loop-turn.invariant.1),
    )

pub returns-then-eq : goal.returns-then-eq
returns-then-eq c =
    let links = c.args.links.now in
    let items = c.loop-turn.chosen.items in
    let slices = same_choices c.as_slice.result.now c.as_slice-in-loop-turn.result.now c.eq.result c.eq.ensures
    c.if-eq.true in
    let same : c.in_ok-next.next.items ≡ items = search (rules, slices) in
    let next : c.in_ok-next.next.items ≡ round links items =
    c.in_ok-next.ensures ∙ ap (round links) c.deref.ensures.value in
    sym (stays_still links (length c.args.systems.now - c.loop-turn.turn) items (sym next ∙ same))
    ∙ c.loop-turn.invariant.0
