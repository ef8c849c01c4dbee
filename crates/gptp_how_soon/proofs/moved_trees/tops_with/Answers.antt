-- One place more is looked at.
use Rattle.std.proofs.Common.{◌++◌, ◌+◌, ◌-◌, ◌∷◌, [], cond, append_assoc, filter, length, ap, ◌∙◌}
use Rattle.std.specs.List.{range_with_len}
use Rattle.gptp_how_soon.specs.MovedTrees.{is_top_with}
use Rattle.gptp_how_soon.proofs.TurnedLemmas.{places_more}
use Rattle.gptp_how_soon.proofs.moved_trees.tops_with.Goals as goal

pub loop-top-preserved : goal.loop-top-preserved
loop-top-preserved c =
    let systems = c.args.systems.now in
    let is = is_top_with systems c.args.lost.now c.args.before.now c.args.now.now c.args.place in
    let i = c.loop-top.top in
    let tops = c.loop-top.tops.items in
    let rest = filter is (range_with_len (i + 1) (length systems - (i + 1))) in
    ap (λ new. new ++ rest) c.in_ok-push_if.ensures
    ∙ ap (λ top. (tops ++ cond top (i ∷ []) []) ++ rest) c.is_top_with.ensures
    ∙ append_assoc tops (cond (is i) (i ∷ []) []) rest
    ∙ ap (λ new. tops ++ new) (places_more is i (length systems) c.loop-top-test.true)
    ∙ c.loop-top.invariant
