-- Whether the case is late at one of the moments that are left tells it of all, and the document is as it was.
use Rattle.std.proofs.Common.{◌≡◌, ◌≤◌, ◌-◌}
use Rattle.std.specs.List.{list_any, range_with_len}
use Rattle.gptp_faults.specs.Refusals.{is_late, is_late_at}
use Rattle.gptp_faults.specs.Times.{moment}
use Rattle.gptp_faults.proofs.refusals.is_late.Given as goal

abbrev pub invariant-loop-number : goal.invariant-loop-number
invariant-loop-number l = record {
  late : list_any (λ number. is_late_at l.initial.document l.asked l.events (moment l.times number))
      (range_with_len l.number (l.times.moments - l.number))
      ≡ is_late l.initial.document l.asked l.times l.events;
  most : l.number ≤ l.times.moments;
  same : l.document ≡ l.initial.document;
}
