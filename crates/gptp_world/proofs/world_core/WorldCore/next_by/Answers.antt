use Rattle.std.proofs.Common.{subst}
use Rattle.gptp_world.specs.Following.{IsUpcoming}
use Rattle.gptp_world.proofs.FollowLemmas.{later_than, nothing_upcoming}
use Rattle.gptp_world.proofs.world_core.WorldCore.next_by.Goals as goal

pub returns-in-true-clause-next : goal.returns-in-true-clause-next
returns-in-true-clause-next c =
    subst (λ next. IsUpcoming next c.args.self.now.net.pending) c.in-Some.is c.requires

pub returns-in-false-clause-none : goal.returns-in-false-clause-none
returns-in-false-clause-none c =
    later_than c.in-Some.time c.args.until c.in-Some.item c.args.self.now.net.pending c.in-false.is
    (subst (λ next. IsUpcoming next c.args.self.now.net.pending) c.in-Some.is c.requires)

pub returns-in-None-clause-none : goal.returns-in-None-clause-none
returns-in-None-clause-none c =
    nothing_upcoming c.args.until c.args.self.now.net.pending
    (subst (λ next. IsUpcoming next c.args.self.now.net.pending) c.in-None.is c.requires)
