use Rattle.std.proofs.Common.{rules, ◌≡◌, refl, sym, subst, arith}
use Rattle.std.proofs.lemmas.Int.{ints}
use Rattle.std.proofs.lemmas.Result.{Ok-from_Ok_iff}
use Rattle.std.specs.Result.{OkIff}
use Rattle.gptp_scaled.specs.ScaledNs.{FitsScaled}
use Rattle.gptp_scaled.specs.Stamp.{FitsStamp}
use Rattle.gptp_system.specs.Ready.{state_of}
use Rattle.gptp_system.specs.Takeover.{told_stamp, told_time}
use Rattle.gptp_system.proofs.TakeoverLemmas.{told_fits}
use Rattle.gptp_system.proofs.state.State.told_stamp.Goals as goal

pub unwrap-requires : goal.unwrap-requires
unwrap-requires c =
    let s = state_of c.args.self.now in
    let stamp = told_fits s c.args.now c.requires.ready c.requires.moment c.requires.low in
    let fits : FitsScaled (told_stamp s c.args.now) =
    record { low = omega (arith, ints, stamp.low); high = omega (arith, ints, stamp.high) } in
    let told : c.unwrap-told.result ≡ told_time s c.args.now = search rules in
    let stamped : OkIff c.time_stamp.result (FitsScaled (told_stamp s c.args.now)) (told_stamp s c.args.now) =
    rw (c.stamping.ensures, told) at c.time_stamp.ensures in
    rw (Ok-from_Ok_iff c.time_stamp.result (FitsScaled (told_stamp s c.args.now)) (told_stamp s c.args.now) stamped fits)
    refl

pub returns-clause-fits : goal.returns-clause-fits
returns-clause-fits c =
    let s = state_of c.args.self.now in
    let is : c.unwrap.result ≡ told_stamp s c.args.now = search rules in
    subst FitsStamp (sym is) (told_fits s c.args.now c.requires.ready c.requires.moment c.requires.low)
