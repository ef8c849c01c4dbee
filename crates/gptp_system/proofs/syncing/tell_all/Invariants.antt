use Rattle.std.proofs.Common.{◌≡◌, take}
use Rattle.gptp_system.specs.Syncing.{counted_by_rates, syncs}
use Rattle.gptp_system.proofs.syncing.tell_all.Given as goal

abbrev pub invariant-loop-one : goal.invariant-loop-one
invariant-loop-one l = record {
  number : l.number ≡ l.one-index;
  ports : l.ports ≡ counted_by_rates (take l.one-index l.held) l.initial.ports;
  sends : l.outbox.items ≡ syncs l.clock l.log_interval l.told 1 (take l.one-index l.held) l.initial.ports;
}
