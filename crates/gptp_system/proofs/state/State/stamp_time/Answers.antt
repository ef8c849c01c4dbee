use Rattle.std.proofs.Common.{rules, ◌≡◌, refl, sym, subst, arith}
use Rattle.std.proofs.lemmas.Int.{ints}
use Rattle.std.proofs.lemmas.Result.{Ok-from_Ok_iff}
use Rattle.std.specs.Result.{OkIff}
use Rattle.gptp_pdelay.specs.Clock.{IsTime}
use Rattle.gptp_scaled.specs.ScaledNs.{FitsScaled}
use Rattle.gptp_system.specs.Ready.{state_of}
use Rattle.gptp_system.specs.State.{stamp_time}
use Rattle.gptp_system.proofs.TakeoverLemmas.{stamps_time}
use Rattle.gptp_system.proofs.state.State.stamp_time.Goals as goal

pub unwrap-requires : goal.unwrap-requires
unwrap-requires c =
    let s = state_of c.args.self.now in
    let time = stamps_time s c.args.now c.requires.ready c.requires.moment in
    let fits : FitsScaled (stamp_time s c.args.now) =
    record { low = omega (arith, ints, time.low); high = omega (arith, ints, time.high) } in
    let stamped : OkIff c.time_stamp.result (FitsScaled (stamp_time s c.args.now)) (stamp_time s c.args.now) =
    rw (c.stamping.ensures, c.local_time.ensures.time) at c.time_stamp.ensures in
    rw (Ok-from_Ok_iff c.time_stamp.result (FitsScaled (stamp_time s c.args.now)) (stamp_time s c.args.now) stamped fits)
    refl

pub returns-clause-shown : goal.returns-clause-shown
returns-clause-shown c =
    let s = state_of c.args.self.now in
    let is : c.unwrap.result ≡ stamp_time s c.args.now = search rules in
    subst IsTime (sym is) (stamps_time s c.args.now c.requires.ready c.requires.moment)
