use Rattle.std.proofs.Common.{inr}
use Rattle.gptp_system.proofs.state.State.told_of.Goals as goal

pub returns-in-Err : goal.returns-in-Err
returns-in-Err c =
    inr (
      rw (
        c.held_sum.ensures.held,
        c.slave_rate-rate.ensures,
        c.slave_delay.ensures,
        c.stamp_time-egress.ensures.time,
      ) at c.in-Err.ensures,
      c.as_received.ensures,
    )
