use Rattle.std.proofs.Common.{◌≡◌, Some, ap, slice_get, subst, sym, ◌∙◌, arith}
use Rattle.std.specs.Option.{option_copied}
use Rattle.gptp_faults.proofs.RootLemmas.{all_told, AreToldBefore, more_told, none_told, some_in_front}
use Rattle.gptp_faults.proofs.follows.follows_in_order.Goals as goal

pub loop-root-init : goal.loop-root-init
loop-root-init c =
    subst (AreToldBefore c.args.roots.now c.args.roots.now) (sym c.new-follows.ensures.items)
    (none_told c.args.roots.now c.requires)

pub loop-root-smaller : goal.loop-root-smaller
loop-root-smaller c =
    let rest = c.loop-root.rest.now in let root = c.in-Some.root.now in
    let first : slice_get rest 0 ≡ Some root = sym c.first.ensures.value ∙ ap option_copied c.in-Some.is in
    let some = some_in_front rest root c.front_of-systems.result first c.front_of-systems.ensures.length in
    let left = c.split_at.ensures.back_len in
    omega (arith, some, left)

pub loop-root-preserved : goal.loop-root-preserved
loop-root-preserved c =
    let rest = c.loop-root.rest.now in let root = c.in-Some.root.now in
    let first : slice_get rest 0 ≡ Some root = sym c.first.ensures.value ∙ ap option_copied c.in-Some.is in
    subst (AreToldBefore c.args.roots.now c.split_at.result.1.now) (sym c.in_ok-push.ensures.items)
    (more_told c.args.roots.now rest c.split_at.result.1.now c.loop-root.follows.items root c.front_of-systems.result
    c.loop-root.invariant first c.front_of-systems.ensures.length c.split_at.ensures.back)

pub returns : goal.returns
returns c =
    all_told c.args.roots.now c.loop-root.rest.now c.loop-root.follows.items c.loop-root.invariant
    (sym c.first.ensures.value ∙ ap option_copied c.in_default.is)
