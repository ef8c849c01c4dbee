use Rattle.gptp_system.specs.Input.{given}
use Rattle.gptp_system.proofs.SystemLemmas.{stays_system}
use Rattle.gptp_system.proofs.system.System.step.Goals as goal

pub invariant_of-self : goal.invariant_of-self
invariant_of-self c =
    stays_system (given c.args.input) c.args.now _ _ _ c.step.result.answer c.self.invariant c.step.ensures.ready
    c.step.ensures.step
