use Rattle.gptp_correction.proofs.CarryLemmas.{OkIff-from_err, bridge_read, slave_read, went_on, stopped, arrived}
use Rattle.gptp_correction.proofs.hops.carry.Goals as goal

pub returns-in_err-carried : goal.returns-in_err-carried
returns-in_err-carried c =
    let bridge = bridge_read _ _ _ c.loop-bridge-test.true c.bridge-item.is in
    let past = stopped _ _ _ _ _ c.loop-bridge.invariant bridge c.in_err-carried.ensures in
    OkIff-from_err _ _ _ c.from_residual.ensures.0 past

pub loop-bridge-preserved : goal.loop-bridge-preserved
loop-bridge-preserved c =
    let bridge = bridge_read _ _ _ c.loop-bridge-test.true c.bridge-item.is in
    went_on _ _ _ _ _ c.loop-bridge.invariant bridge c.in_ok-carried.ensures

pub returns : goal.returns
returns c =
    let end = c.loop-bridge.auto.bridge-index-end in
    let slave = slave_read _ _ _ c.in-len1-up.len_at_least end c.loop-bridge-test.false c.slave-item.is in
    arrived _ _ _ _ _ _ c.loop-bridge.invariant slave c.receipt.ensures
