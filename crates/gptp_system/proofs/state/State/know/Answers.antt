use Rattle.std.proofs.Common.{inr, refl}
use Rattle.gptp_system.proofs.state.State.know.Goals as goal

pub returns-in-Err-clause-step : goal.returns-in-Err-clause-step
returns-in-Err-clause-step c =
    let forgotten = c.clear.ensures in
    inr (record {
      unfit = c.in-Err.ensures;
      becomes = record { state = rw forgotten refl; silent = refl };
      answer_is = refl;
    })
