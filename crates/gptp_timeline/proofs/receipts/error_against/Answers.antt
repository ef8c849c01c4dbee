use Rattle.std.proofs.Common.{◌≡◌, ◌≤◌, ◌^◌, ◌+ℤ◌, unsigned_abs, subst, sym, ◌∙◌}
use Rattle.gptp_scaled.specs.ScaledNs.{FitsScaled}
use Rattle.gptp_system.specs.State.{local_time}
use Rattle.gptp_system.specs.Takeover.{told_time}
use Rattle.gptp_timeline.proofs.DifferenceLemmas.{difference, difference_fits}
use Rattle.gptp_timeline.proofs.receipts.error_against.Goals as goal

pub overflow_sub-result-2 : goal.overflow_sub-result-2
overflow_sub-result-2 c =
    difference_fits c.value.result c.value-2.result c.told_by.result
    (subst FitsScaled (sym c.value.ensures.value) c.value.ensures.fits)
    (subst FitsScaled (sym c.value-2.ensures.value) c.value-2.ensures.fits) c.told_by.ensures.small

pub returns : goal.returns
returns c =
    let at = c.args.at in
    let own = c.value-2.ensures.value ∙ c.local.ensures in
    let told : c.told_by.result ≡ told_time c.args.leader.now at =
    c.told_by.ensures.is ∙ (λ i. c.local-2.ensures i +ℤ c.base.ensures i) in
    rw (c.value.ensures.value, own, told)
    (difference c.args.offset (local_time c.args.system.now at) (told_time c.args.leader.now at) c.value.ensures.fits
    (subst FitsScaled c.local.ensures c.value-2.ensures.fits)
    (subst (λ z. unsigned_abs z ≤ 2 ^ 96) told c.told_by.ensures.small))
