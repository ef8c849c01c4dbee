use Rattle.std.proofs.Common.{◌≤◌, ◌^◌, arith}
use Rattle.gptp_invariants.proofs.SyncExactLemmas.{receipts_are_exact}
use Rattle.gptp_invariants.proofs.ChoiceTraceLemmas.{frames_become_clean}
use Rattle.gptp_world.proofs.world_core.WorldCore.act.Goals as goal

pub returns-in-Ok-perform-clause-clean : goal.returns-in-Ok-perform-clause-clean
returns-in-Ok-perform-clause-clean g c =
    frames_become_clean g.F.Fate.answers c.args.timed.now c.args.fate.now c.perform.new.fate c.args.self.now
    c.perform.new.self c.in-Ok-perform.done c.well_formed-2.ensures.claimed c.in-Ok-perform.ensures.done

pub returns-in-Ok-perform-clause-exact : goal.returns-in-Ok-perform-clause-exact
returns-in-Ok-perform-clause-exact g c =
    let moment = c.requires.moment in
    let early : c.args.timed.now.at ≤ 10 ^ 18 = omega (arith, moment) in
    receipts_are_exact g.F.Fate.answers c.args.timed.now c.args.fate.now c.perform.new.fate c.args.self.now
    c.perform.new.self c.well_formed-2.ensures.timed early c.in-Ok-perform.done c.in-Ok-perform.ensures.done
