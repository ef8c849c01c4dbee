use Rattle.std.proofs.Common.{ap, ◌∙◌, arith}
use Rattle.std.specs.Int.{w32}
use Rattle.std.specs.Prelude.{bit_xor}
use Rattle.std.proofs.lemmas.Int.{ints, to_z-of_z}
use Rattle.gptp_scaled.specs.TimeStamp.{drawn_noise, mixed, noise_at}
use Rattle.gptp_scaled.proofs.TimeStampLemmas.{noise_is_within}
use Rattle.gptp_scaled.proofs.time_stamp.Stamping.noise_at.Goals as goal

pub returns-then-self-eq0 : goal.returns-then-self-eq0
returns-then-self-eq0 c =
    let within = noise_is_within c.args.self.now c.args.t in
    let none = c.if-self-eq0.true in
    omega (arith, ints, within.low, within.high, none)

pub returns : goal.returns
unfolding noise_at
returns c =
    let k = c.args.self.now in
    let fits = c.drawn_noise.type_inv in
    to_z-of_z w32 c.drawn_noise.result (omega (arith, ints)) ∙ c.drawn_noise.ensures
    ∙ ap (drawn_noise k.most_noise)
    (c.mixed-word.ensures
    ∙ ap (λ v. mixed (bit_xor v c.args.t)) (c.mixed-2.ensures ∙ ap (λ v. mixed (bit_xor v k.clock)) c.mixed.ensures))
