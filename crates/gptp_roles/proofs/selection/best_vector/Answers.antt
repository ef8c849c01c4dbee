use Rattle.std.proofs.Common.{◌≡◌, ◌+◌, ◌∷◌, drop, sym, ap, ◌∙◌}
use Rattle.std.proofs.lemmas.List.{drop_more, drop_all}
use Rattle.gptp_receipt.specs.Held.{received}
use Rattle.gptp_roles.proofs.ChoiceLemmas.{least_alone, least_of_held, placed_at}
use Rattle.gptp_roles.proofs.selection.best_vector.Goals as goal

pub with_port-best-requires : goal.with_port-best-requires
with_port-best-requires c =
    let here = placed_at 1 c.args.held.now c.loop-one.one-index c.one-item.result c.requires c.loop-one-test.true in
    λ r is. (here r (ap received (sym c.one-item.is) ∙ is)).near

pub loop-one-preserved : goal.loop-one-preserved
loop-one-preserved c = λ v least.
    let rest = drop (c.loop-one.one-index + 1) c.args.held.now in
    let split : drop c.loop-one.one-index c.args.held.now ≡ c.one-item.result ∷ rest =
    drop_more c.args.held.now c.loop-one.one-index c.one-item.result c.loop-one-test.true
    ∙ ap (λ x. x ∷ rest) (sym c.one-item.is) in
    c.loop-one.invariant v
    (rw split (least_of_held c.loop-one.best c.one-item.result rest v (rw c.with_port-best.ensures at least)))

pub returns : goal.returns
returns c =
    let none_left = drop_all c.loop-one.one-index c.args.held.now c.loop-one-test.false in
    c.loop-one.invariant c.loop-one.best (rw none_left (least_alone c.loop-one.best))
