use Rattle.std.proofs.Common.{◌∙◌, inl}
use Rattle.std.proofs.lemmas.Result.{err_from_is_err_and}
use Rattle.gptp_messages.proofs.follow_up.FollowUp.read.Goals as goal

pub returns-in_err-rate-clause-refused : goal.returns-in_err-rate-clause-refused
returns-in_err-rate-clause-refused c =
    let p = err_from_is_err_and c.from_residual.result c.from_residual.ensures.1 in
    let length_is = c.from-length.ensures ∙ c.u16_at.ensures in
    rw (p.1, p.2, ← length_is) (inl c.in_err-rate.ensures.refused)
