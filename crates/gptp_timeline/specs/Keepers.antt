-- Who keeps time where a stretch ends, and whose (profile).
use Rattle.std.specs.Prelude.{ℕ, if◌then◌else◌, List, [], ◌∷◌, ◌++◌, Option, Some, None}
use Rattle.std.specs.List.{filter_map}
use Rattle.gptp_model.specs.World.{WorldState}
use Rattle.gptp_timeline.specs.Shown.{shown}
use Rattle.gptp_timeline.specs.Stretch.{goes_without}
use Rattle.gptp_timeline.specs.declared.keepers.Keeper.{Keeper}
use Rattle.gptp_timeline.specs.declared.shown.Shown.{Shown}
use Rattle.gptp_timeline.specs.declared.watched.Watched.{Watched}

-- A live system keeps time of its root, unless it goes without.
abbrev pub keeper_of : ℕ → Option Shown → Option Keeper
keeper_of name None = None
keeper_of name (Some s) = if goes_without s then None else Some (record { clock = name; root = s.root })

-- of these systems, in their order
abbrev pub keepers_in : List ℕ → WorldState → List Keeper
keepers_in names w = filter_map (λ name. keeper_of name (shown name w)) names

-- ---- by what an observer keeps

abbrev pub keepers_among : List Watched → List Keeper
keepers_among systems = filter_map (λ (x : Watched). keeper_of x.clock x.shown) systems

abbrev pub with_this : Option Keeper → List Keeper → List Keeper
with_this None keepers = keepers
with_this (Some keeper) keepers = keepers ++ keeper ∷ []

-- a system after others, if it keeps time
abbrev pub with_keeper : Watched → List Keeper → List Keeper
with_keeper x keepers = with_this (keeper_of x.clock x.shown) keepers
