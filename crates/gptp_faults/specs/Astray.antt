-- How many systems of the main parts are without the time that most of their part share (profile).
use Rattle.std.specs.Prelude.{ℕ, ◌+◌, ◌-◌, ◌==◌, max, if◌then◌else◌, List, [], ◌∷◌, ◌++◌, length, Option, Some, None}
use Rattle.std.specs.List.{filter_map}
use Rattle.gptp_timeline.specs.Stretch.{times}
use Rattle.gptp_timeline.specs.declared.keepers.Keeper.{Keeper}
use Rattle.gptp_faults.specs.declared.follows.Follow.{Follow}

-- the root that a system follows, where it keeps time
abbrev pub root_kept : List Keeper → ℕ → Option ℕ
root_kept [] name = None
root_kept (k ∷ ks) name = if k.clock == name then Some k.root else root_kept ks name

abbrev pub roots_kept : List Keeper → List ℕ → List ℕ
roots_kept keepers names = filter_map (root_kept keepers) names

-- how often the root is there that is there most often
abbrev pub most_from : List ℕ → List ℕ → ℕ
most_from roots [] = 0
most_from roots (root ∷ others) = max (times roots root) (most_from roots others)

abbrev pub most_of : List ℕ → ℕ
most_of roots = most_from roots roots

-- Of a main part: the number of its systems less the greatest number of them that keep time and follow one root.
abbrev pub astray_in : List Keeper → List ℕ → ℕ
astray_in keepers part = length part - most_of (roots_kept keepers part)

abbrev pub astray_of : List Keeper → List (List ℕ) → ℕ
astray_of keepers [] = 0
astray_of keepers (part ∷ parts) = astray_in keepers part + astray_of keepers parts

-- ---- by what the code keeps

abbrev pub with_root : Option ℕ → List ℕ → List ℕ
with_root None roots = roots
with_root (Some root) roots = roots ++ root ∷ []

-- how many systems follow the root that most do
abbrev pub most_systems : List Follow → ℕ
most_systems [] = 0
most_systems (f ∷ fs) = max f.systems (most_systems fs)
