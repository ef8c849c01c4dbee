use Rattle.std.proofs.Common.{◌≤◌, ℕ, ℤ, pos, Option, Some, None}
use Rattle.std.specs.Prelude.{IfSome}
use Rattle.gptp_invariants.specs.SyncTimedClaim.{WorldInvariant}
use Rattle.gptp_invariants.specs.SyncExact.{IsHeardExact}
use Rattle.gptp_theorem.specs.Headline.{LeavesOffset}
use Rattle.gptp_scaled.specs.Counts.{AreWithin}
use Rattle.gptp_model.specs.World.{WorldState}
use Rattle.gptp_model.specs.declared.done.Done.{Done}
use Rattle.gptp_network_tests.specs.Pair.{IsPairWithin}
use Rattle.gptp_network_tests.proofs.ExactLemmas.{goes_on_within, second_is_exact}
use Rattle.gptp_network_tests.proofs.drawn.receive.Goals as goal

pub returns-in-Ok-clause-since : goal.returns-in-Ok-clause-since
returns-in-Ok-clause-since g c =
    let w = c.args.world.now.world_core in
    goes_on_within g.error g.F.Fate.answers 27000000000 c.in-Some.timed c.args.world.now.fate c.act.new.self.fate w
    c.act.new.self.world_core c.in-Ok.done c.requires.1 c.well_formed-2.ensures.sound c.in-Some.ensures.next
    c.in-Ok.ensures.done

-- what is left, if anything, is exact
within : (error : ℕ) (w : WorldState) (time : ℕ) (w' : WorldState) (done : Done) (left : Option ℤ)
    → IsPairWithin error 27000000000 w → WorldInvariant w → w.time ≤ time → IsHeardExact w time w' done
    → IfSome left (λ offset. LeavesOffset 2 offset w' done) → IfSome left (λ offset. AreWithin error offset (pos 0))
within error w time w' done None k all passed promised is = is
within error w time w' done (Some offset) k all passed promised is =
    second_is_exact error w time w' done offset k all passed promised is

pub returns-in-Ok-clause-exact : goal.returns-in-Ok-clause-exact
returns-in-Ok-clause-exact g c =
    within g.error c.args.world.now.world_core c.in-Some.timed.at c.act.new.self.world_core c.in-Ok.done
    c.second_offset.result c.requires.1 c.well_formed-2.ensures.timed c.in-Ok.ensures.done.ready.timely.now
    c.in-Ok.ensures.exact c.second_offset.ensures
