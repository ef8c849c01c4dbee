use Rattle.std.proofs.Common.{◌∙◌}
use Rattle.std.proofs.lemmas.Result.{err_from_is_err_and}
use Rattle.gptp_messages.proofs.announce.AnnounceView.read.Goals as goal

pub returns-in_err-read-clause-refused : goal.returns-in_err-read-clause-refused
returns-in_err-read-clause-refused c =
    let p = err_from_is_err_and c.from_residual.result c.from_residual.ensures.1 in
    let length_is = c.from-length.ensures ∙ c.u16_at.ensures in
    rw (p.1, p.2, ← length_is) c.in_err-read.ensures.refused
