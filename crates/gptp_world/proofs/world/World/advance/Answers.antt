use Rattle.std.proofs.Common.{arith}
use Rattle.gptp_world.proofs.FollowLemmas.{all_told, follows_stopped, seen_advanced}
use Rattle.gptp_world.proofs.world.World.advance.Goals as goal

pub returns-in-Ok-clause-advanced : goal.returns-in-Ok-clause-advanced
returns-in-Ok-clause-advanced g c =
    let seen = c.in-Ok.ensures.gone in
    (all_told seen.ts, seen_advanced g.F.Fate.answers _ c.args.until _ _ _ _ _ _ _ seen)

pub returns-in-Err-clause-refused : goal.returns-in-Err-clause-refused
returns-in-Err-clause-refused g c =
    let test = c.if-until-now.false in
    (omega (arith, test), follows_stopped g.F.Fate.answers _ c.args.until _ _ _ _ _ _ _ c.in-Err.ensures.broken.1)
