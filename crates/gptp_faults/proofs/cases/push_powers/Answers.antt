use Rattle.std.proofs.Common.{◌≡◌, ◌+◌, ◌++◌, ◌∷◌, [], ℕ, List, drop, map, ap, sym, ◌∙◌, append-nil, append_assoc}
use Rattle.std.proofs.lemmas.List.{drop_all, drop_more}
use Rattle.gptp_faults.specs.declared.cases.Case.{Case}
use Rattle.gptp_faults.specs.declared.cases.Case.TheVariants as cases
use Rattle.gptp_faults.proofs.cases.push_powers.Goals as goal

pub loop-clock-preserved : goal.loop-clock-preserved
loop-clock-preserved c =
    let all = c.args.clocks.now in let i = c.loop-clock.clock-index in let x = c.clock-item.result in
    let so_far = c.loop-clock.cases.items in let rest = drop (i + 1) all in
    let here : drop i all ≡ x ∷ rest =
    drop_more all i x c.loop-clock-test.true ∙ ap (λ (y : ℕ). y ∷ rest) (sym c.clock-item.is) in
    ap (λ (cs : List Case). cs ++ map cases.Power rest) c.in_ok-push.ensures.items
    ∙ append_assoc so_far (cases.Power x ∷ []) (map cases.Power rest)
    ∙ ap (λ xs. so_far ++ map cases.Power xs) (sym here)
    ∙ c.loop-clock.invariant

pub returns : goal.returns
returns c =
    sym (append-nil c.loop-clock.cases.items)
    ∙ ap (λ xs. c.loop-clock.cases.items ++ map cases.Power xs)
    (sym (drop_all c.loop-clock.clock-index c.args.clocks.now c.loop-clock-test.false))
    ∙ c.loop-clock.invariant
