use Rattle.std.proofs.Common.{◌≡◌, ◌+◌, ◌++◌, ◌∷◌, [], List, drop, map, ap, sym, ◌∙◌, append-nil, append_assoc}
use Rattle.std.proofs.lemmas.List.{drop_all, drop_more}
use Rattle.gptp_faults.specs.Parts.{weigh_among}
use Rattle.gptp_faults.specs.declared.parts.Placed.{Placed}
use Rattle.gptp_faults.specs.declared.parts.Weighed.{Weighed}
use Rattle.gptp_faults.proofs.parts.weigh_all.Goals as goal

pub loop-one-preserved : goal.loop-one-preserved
loop-one-preserved c =
    let all = c.args.all.now in let i = c.loop-one.one-index in let x = c.one-item.result in
    let ys = c.loop-one.weights.items in let rest = drop (i + 1) all in
    let here : drop i all ≡ x ∷ rest =
    drop_more all i x c.loop-one-test.true ∙ ap (λ (y : Placed). y ∷ rest) (sym c.one-item.is) in
    ap (λ (vs : List Weighed). vs ++ map (weigh_among all) rest) c.in_ok-push.ensures.items
    ∙ ap (λ (w : Weighed). (ys ++ w ∷ []) ++ map (weigh_among all) rest) c.weigh.ensures
    ∙ append_assoc ys (weigh_among all x ∷ []) (map (weigh_among all) rest)
    ∙ ap (λ (xs : List Placed). ys ++ map (weigh_among all) xs) (sym here)
    ∙ c.loop-one.invariant

pub returns : goal.returns
returns c =
    sym (append-nil c.loop-one.weights.items)
    ∙ ap (λ (xs : List Placed). c.loop-one.weights.items ++ map (weigh_among c.args.all.now) xs)
    (sym (drop_all c.loop-one.one-index c.args.all.now c.loop-one-test.false))
    ∙ c.loop-one.invariant
