-- The moment is told where the next time is another.
use Rattle.std.proofs.Common.{inr}
use Rattle.gptp_lint.proofs.components.tell.Goals as goal

pub returns-in_ok-push : goal.returns-in_ok-push
returns-in_ok-push c =
    inr (c.if-next-at.true, (c.in_ok-moment.moment, c.in_ok-moment.ensures, c.in_ok-push.ensures.items))
