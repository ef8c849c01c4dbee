use Rattle.gptp_correction.proofs.CarryLemmas.{OkIff-from_err}
use Rattle.gptp_system.proofs.syncing.offset_of.Goals as goal

pub returns-in_err-receipt_time : goal.returns-in_err-receipt_time
returns-in_err-receipt_time c =
    OkIff-from_err _ _ _ c.from_residual.ensures.0 (λ fits. c.in_err-receipt_time.ensures fits.receipt)
