-- Laws on members of lists.
use Rattle.std.specs.Prelude.{◌≤◌, ℕ, List, length}
use Rattle.gptp_lists.specs.Members.{In, Different}

-- the pigeonhole principle: different members of a list are no more than it has
abbrev pub DifferentMembersFit : Type 0
DifferentMembersFit = (xs ys : List ℕ) → Different xs → ((x : ℕ) → In x xs → In x ys) → length xs ≤ length ys
