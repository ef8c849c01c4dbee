-- The first refusal at one of the moments that are left is that of all, and the document is as it was.
use Rattle.std.proofs.Common.{◌≡◌, ◌≤◌, ◌-◌, map}
use Rattle.std.specs.List.{range_with_len}
use Rattle.gptp_faults.specs.Refusals.{first_some, refusal_at}
use Rattle.gptp_faults.specs.Times.{moment}
use Rattle.gptp_faults.proofs.refusals.refusal_of.Given as goal

abbrev pub invariant-loop-number : goal.invariant-loop-number
invariant-loop-number l = record {
  first : first_some (map (λ number. refusal_at l.initial.document l.asked l.events (moment l.times number))
      (range_with_len l.number (l.times.moments - l.number)))
      ≡ first_some (map (λ number. refusal_at l.initial.document l.asked l.events (moment l.times number))
      (range_with_len 0 l.times.moments));
  most : l.number ≤ l.times.moments;
  same : l.document ≡ l.initial.document;
}
