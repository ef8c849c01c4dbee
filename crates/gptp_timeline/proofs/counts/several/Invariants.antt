-- No more are counted than were looked at, and with those that are left they are all.
use Rattle.std.proofs.Common.{◌≡◌, ◌≤◌, ◌+◌, drop, nat_lt}
use Rattle.std.specs.List.{count_by}
use Rattle.gptp_timeline.specs.Stretch.{distinct, times}
use Rattle.gptp_timeline.proofs.counts.several.Given as goal

abbrev pub invariant-loop-place : goal.invariant-loop-place
invariant-loop-place l =
    (l.count + count_by (λ root. nat_lt 1 (times l.roots root)) (distinct (drop l.place l.roots))
    ≡ count_by (λ root. nat_lt 1 (times l.roots root)) (distinct l.roots)) × (l.count ≤ l.place)
