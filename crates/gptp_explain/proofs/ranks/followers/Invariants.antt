use Rattle.gptp_explain.specs.Ranks.{FollowersAreFound}
use Rattle.gptp_explain.proofs.ranks.followers.Given as goal

-- the followers at the first places are found
abbrev pub invariant-loop-place : goal.invariant-loop-place
invariant-loop-place l = FollowersAreFound l.snapshot l.root l.place l.found.items
