use Rattle.std.proofs.Common.{◌≡◌, ◌+◌, ◌++◌, ◌∷◌, ℕ, List, drop, filter, map, ap, sym, ◌∙◌, append-nil}
use Rattle.std.proofs.lemmas.List.{drop_all, drop_more}
use Rattle.gptp_faults.specs.Parts.{leads, part_of}
use Rattle.gptp_faults.specs.declared.parts.Placed.{Placed}
use Rattle.gptp_faults.proofs.KeptLemmas.{kept_more}
use Rattle.gptp_faults.proofs.parts.parts_of.Goals as goal

pub loop-one-preserved : goal.loop-one-preserved
loop-one-preserved c =
    let all = c.args.all.now in let i = c.loop-one.one-index in let x = c.one-item.result in
    let ys = c.loop-one.parts.items in let rest = drop (i + 1) all in
    let here : drop i all ≡ x ∷ rest =
    drop_more all i x c.loop-one-test.true ∙ ap (λ (y : Placed). y ∷ rest) (sym c.one-item.is) in
    ap (λ (vs : List (List ℕ)). vs ++ map (part_of c.args.all.now) (filter leads rest)) c.in_ok-push_part.ensures
    ∙ kept_more (part_of c.args.all.now) leads x rest ys
    ∙ ap (λ (xs : List Placed). ys ++ map (part_of c.args.all.now) (filter leads xs)) (sym here)
    ∙ c.loop-one.invariant

pub returns : goal.returns
returns c =
    sym (append-nil c.loop-one.parts.items)
    ∙ ap (λ (xs : List Placed). c.loop-one.parts.items ++ map (part_of c.args.all.now) (filter leads xs))
    (sym (drop_all c.loop-one.one-index c.args.all.now c.loop-one-test.false))
    ∙ c.loop-one.invariant
