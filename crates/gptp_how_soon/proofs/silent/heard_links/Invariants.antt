-- Those of the first links so far, then those of the links that are left.
use Rattle.std.proofs.Common.{◌≡◌, ◌++◌, drop}
use Rattle.gptp_how_soon.specs.Silent.{heard_links}
use Rattle.gptp_how_soon.proofs.silent.heard_links.Given as goal

abbrev pub invariant-loop-place : goal.invariant-loop-place
invariant-loop-place l =
    l.heard.items ++ heard_links l.systems l.before (drop l.place l.used_before) (drop l.place l.ends)
    ≡ heard_links l.systems l.before l.used_before l.ends
