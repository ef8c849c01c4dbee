-- No more are counted than were looked at, and with those that are left they are all.
use Rattle.std.proofs.Common.{◌≡◌, ◌≤◌, ◌+◌, ◌==◌, drop}
use Rattle.std.specs.List.{count_by}
use Rattle.gptp_timeline.specs.Stretch.{times}
use Rattle.gptp_timeline.proofs.counts.alone.Given as goal

abbrev pub invariant-loop-place : goal.invariant-loop-place
invariant-loop-place l =
    (l.count + count_by (λ root. times l.roots root == 1) (drop l.place l.roots)
    ≡ count_by (λ root. times l.roots root == 1) l.roots) × (l.count ≤ l.place)
