use Rattle.std.proofs.Common.{◌%◌, subst, inl, arith}
use Rattle.gptp_scheduler.specs.Places.{IsPlace}
use Rattle.gptp_scheduler.proofs.PlaceLemmas.{place-base, place-highest}
use Rattle.gptp_scheduler.proofs.places.slot_of.Goals as goal

pub returns-then-time-base-2-clause-place : goal.returns-then-time-base-2-clause-place
returns-then-time-base-2-clause-place c =
    subst (λ b. IsPlace b c.args.time (c.args.time % 256)) c.if-time-base-2.true (inl (place-base c.args.time))

pub returns-clause-place : goal.returns-clause-place
returns-clause-place c =
    let apart = c.if-time-base-2.false in
    inl (place-highest c.args.base c.args.time c.ilog2.result (omega arith) c.ilog2.ensures.power_le
    c.ilog2.ensures.next_power_gt (omega arith) c.ilog2.ensures.bound)
