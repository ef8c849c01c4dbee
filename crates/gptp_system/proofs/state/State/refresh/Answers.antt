use Rattle.std.proofs.Common.{refl}
use Rattle.gptp_system.proofs.state.State.refresh.Goals as goal

pub returns-clause-step : goal.returns-clause-step
returns-clause-step c = record {
  offset = c.held_offset-offset.result;
  offset_is = c.held_offset-offset.ensures;
  becomes = record {
    state = rw (c.unwrap_or.ensures, c.lapse_of-self.ensures, c.reads_with-reads.ensures) refl;
    silent = refl;
  };
  answer_is = refl;
}
