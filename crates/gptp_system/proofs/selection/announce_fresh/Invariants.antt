use Rattle.std.proofs.Common.{◌≡◌, take}
use Rattle.gptp_system.specs.Selection.{all_announced, announcements}
use Rattle.gptp_system.proofs.selection.announce_fresh.Given as goal

abbrev pub invariant-loop-flag : goal.invariant-loop-flag
invariant-loop-flag l = record {
  number : l.number ≡ l.flag-index;
  ports : l.ports ≡ all_announced l.now (take l.flag-index l.fresh) l.initial.ports;
  sends : l.outbox.items ≡ announcements l.clock l.root l.steps 1 (take l.flag-index l.fresh) l.initial.ports;
}
