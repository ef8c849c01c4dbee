-- The longest so far, and that over the links that are left, is that over all.
use Rattle.std.proofs.Common.{◌≡◌, ◌≤◌, drop, max}
use Rattle.gptp_how_soon.specs.Silent.{held_among}
use Rattle.gptp_how_soon.proofs.silent.held_among.Given as goal

abbrev pub invariant-loop-place : goal.invariant-loop-place
invariant-loop-place l =
    (max (held_among l.network l.own (drop l.place l.heard) (drop l.place l.standings)) l.held
    ≡ held_among l.network l.own l.heard l.standings)
    × (l.held ≤ 4112000000000)
