-- The links that are left join as all did at first.
use Rattle.std.proofs.Common.{◌≡◌, drop}
use Rattle.gptp_lint.specs.Graph.{edges_in}
use Rattle.gptp_lint.specs.Labels.{joined_all}
use Rattle.gptp_lint.proofs.labels.join_all.Given as goal

abbrev pub invariant-loop-place : goal.invariant-loop-place
invariant-loop-place l =
    joined_all (drop l.place (edges_in l.ends l.standings)) l.labels
    ≡ joined_all (edges_in l.ends l.standings) l.initial.labels
