use Rattle.std.proofs.Common.{◌≡◌, ◌+◌, ◌∷◌, drop, ap, sym, ◌∙◌}
use Rattle.std.proofs.lemmas.List.{drop_more}
use Rattle.gptp_timeline.specs.Looks.{error_in, looked_each, looked_error, measured_with}
use Rattle.gptp_timeline.specs.declared.readings.SystemReading.{SystemReading}
use Rattle.gptp_timeline.proofs.LookedLemmas.{measured_both}
use Rattle.gptp_timeline.proofs.looks.look_at_each.Goals as goal

pub loop-system-preserved : goal.loop-system-preserved
loop-system-preserved g c =
    let w = c.args.world.now.world_core in let at = c.args.at in let rs = c.args.systems.now in
    let i = c.loop-system.system-index in let item = c.system-item.result in let m = c.loop-system.measures in
    let rest = drop (i + 1) rs in
    let here : drop i rs ≡ item ∷ rest =
    drop_more rs i item c.loop-system-test.true
    ∙ ap (λ (x : SystemReading). x ∷ rest) (sym c.system-item.is) in
    ap (measured_with (looked_each at w rest)) (c.with_look-measures.ensures
    ∙ ap (λ e. measured_with (looked_error item.clock e) m) c.error_by.ensures.is)
    ∙ sym (measured_both (looked_error item.clock (error_in at w item)) (looked_each at w rest) m)
    ∙ ap (λ xs. measured_with (looked_each at w xs) m) (sym here)
    ∙ c.loop-system.invariant
