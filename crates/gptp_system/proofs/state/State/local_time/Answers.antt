use Rattle.std.proofs.Common.{ℤ, FitsSigned, w32, ap, ◌∙◌, arith}
use Rattle.std.proofs.lemmas.Int.{ints, to_z-of_z}
use Rattle.gptp_pdelay.specs.Clock.{local_clock}
use Rattle.gptp_system.proofs.state.State.local_time.Goals as goal

-- the drift is within 32 bits
pub returns-clause-time : goal.returns-clause-time
returns-clause-time c =
    let s = c.args.self.now in
    let fits : FitsSigned w32 s.drift = omega (arith, ints, c.requires.ready.drift.low, c.requires.ready.drift.high) in
    c.local_clock.ensures.time ∙ ap (λ (drift : ℤ). local_clock s.phase drift c.args.now) (to_z-of_z w32 s.drift fits)
