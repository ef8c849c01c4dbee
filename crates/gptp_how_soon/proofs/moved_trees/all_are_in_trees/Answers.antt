-- One place more is looked at.
use Rattle.std.proofs.Common.{◌+◌, ◌-◌, length, ap, ◌∙◌}
use Rattle.std.specs.Prelude.{◌&&◌}
use Rattle.std.specs.List.{list_all, range_with_len}
use Rattle.gptp_how_soon.specs.MovedTrees.{is_in_tree}
use Rattle.gptp_how_soon.proofs.TurnedLemmas.{all_more, both_more}
use Rattle.gptp_how_soon.proofs.moved_trees.all_are_in_trees.Goals as goal

pub loop-place-preserved : goal.loop-place-preserved
loop-place-preserved c =
    let systems = c.args.systems.now in
    let is = is_in_tree systems c.args.lost.now c.args.links.now c.args.before.now c.args.now.now in
    let i = c.loop-place.place in
    let all = c.loop-place.all in
    let rest = list_all is (range_with_len (i + 1) (length systems - (i + 1))) in
    ap (λ new. new && rest) c.both-all.ensures
    ∙ ap (λ new. (all && new) && rest) c.in_ok-is.ensures
    ∙ both_more all (is i) rest
    ∙ ap (λ new. all && new) (all_more is i (length systems) c.loop-place-test.true)
    ∙ c.loop-place.invariant
