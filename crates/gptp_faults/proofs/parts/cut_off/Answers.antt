use Rattle.std.proofs.Common.{◌≡◌, ◌+◌, ◌++◌, ◌∷◌, ℕ, List, drop, filter, map, ap, sym, ◌∙◌, append-nil}
use Rattle.std.proofs.lemmas.List.{drop_all, drop_more}
use Rattle.gptp_faults.specs.Parts.{clock_in, is_cut}
use Rattle.gptp_faults.specs.declared.parts.Weighed.{Weighed}
use Rattle.gptp_faults.proofs.KeptLemmas.{kept_more}
use Rattle.gptp_faults.proofs.parts.cut_off.Goals as goal

pub loop-one-preserved : goal.loop-one-preserved
loop-one-preserved c =
    let all = c.args.all.now in let i = c.loop-one.one-index in let x = c.one-item.result in
    let ys = c.loop-one.cut.items in let rest = drop (i + 1) all in
    let here : drop i all ≡ x ∷ rest =
    drop_more all i x c.loop-one-test.true ∙ ap (λ (y : Weighed). y ∷ rest) (sym c.one-item.is) in
    ap (λ (vs : List ℕ). vs ++ map clock_in (filter (is_cut c.args.all.now) rest)) c.in_ok-push_cut.ensures
    ∙ kept_more clock_in (is_cut c.args.all.now) x rest ys
    ∙ ap (λ (xs : List Weighed). ys ++ map clock_in (filter (is_cut c.args.all.now) xs)) (sym here)
    ∙ c.loop-one.invariant

pub returns : goal.returns
returns c =
    sym (append-nil c.loop-one.cut.items)
    ∙ ap (λ (xs : List Weighed). c.loop-one.cut.items ++ map clock_in (filter (is_cut c.args.all.now) xs))
    (sym (drop_all c.loop-one.one-index c.args.all.now c.loop-one-test.false))
    ∙ c.loop-one.invariant
