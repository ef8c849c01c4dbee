-- Laws on what the calls of a world show.
use Rattle.std.specs.Prelude.{ℕ, Option}
use Rattle.gptp_roles.specs.declared.role.Role.{Role}
use Rattle.gptp_system.specs.State.{SystemState}
use Rattle.gptp_model.specs.Acts.{AtSystem}
use Rattle.gptp_model.specs.Views.{FollowsRoot, HasRole, ShowsLive}
use Rattle.gptp_model.specs.World.{WorldState}
use Rattle.gptp_invariants.specs.WorldSettlingInvariant.{SettlingInvariant}
use Rattle.gptp_invariants.specs.WorldShown.{FollowsAtOnce, FollowsByDistance, FollowsByPaths, FollowsInTime, IsCapableInTime, IsEnabledInTime}
use Rattle.gptp_invariants.specs.WorldShown.{PlaysAtOnce, PlaysByDistance, PlaysByPaths, PlaysInTime}

-- a live system that is shown has its ports capable in time
abbrev pub SystemsAreCapable : Type 0
SystemsAreCapable = (number : ℕ) (w : WorldState) (s : SystemState)
    → SettlingInvariant w → ShowsLive number w s
    → IsCapableInTime w s

-- once ports have had the time to become capable, a role that is shown is Disabled exactly where no link of the
-- snapshot is at its port
abbrev pub RolesAreEnabled : Type 0
RolesAreEnabled = (number port : ℕ) (w : WorldState) (role : Role)
    → SettlingInvariant w → AtSystem number w (HasRole port role)
    → IsEnabledInTime number port w role

-- what a live system is shown to follow is settled in time
abbrev pub SystemsSettle : Type 0
SystemsSettle = (number root steps : ℕ) (slave : Option ℕ) (w : WorldState)
    → SettlingInvariant w → AtSystem number w (FollowsRoot root steps slave)
    → FollowsInTime number w root steps slave

-- the role of each port that is shown is settled in time
abbrev pub RolesSettle : Type 0
RolesSettle = (number port : ℕ) (w : WorldState) (role : Role)
    → SettlingInvariant w → AtSystem number w (HasRole port role)
    → PlaysInTime number port w role

-- both are so sooner where paths are shorter than there are systems
abbrev pub SystemsSettleByPaths : Type 0
SystemsSettleByPaths = (number root steps : ℕ) (slave : Option ℕ) (w : WorldState)
    → SettlingInvariant w → AtSystem number w (FollowsRoot root steps slave)
    → FollowsByPaths number w root steps slave

abbrev pub RolesSettleByPaths : Type 0
RolesSettleByPaths = (number port : ℕ) (w : WorldState) (role : Role)
    → SettlingInvariant w → AtSystem number w (HasRole port role)
    → PlaysByPaths number port w role

-- where nothing lapses, what a live system is shown to follow, and the role of each port that is shown, are settled
-- once the world has been calm for the sharper span
abbrev pub SystemsSettleAtOnce : Type 0
SystemsSettleAtOnce = (number root steps : ℕ) (slave : Option ℕ) (w : WorldState)
    → SettlingInvariant w → AtSystem number w (FollowsRoot root steps slave)
    → FollowsAtOnce number w root steps slave

abbrev pub RolesSettleAtOnce : Type 0
RolesSettleAtOnce = (number port : ℕ) (w : WorldState) (role : Role)
    → SettlingInvariant w → AtSystem number w (HasRole port role)
    → PlaysAtOnce number port w role

-- what a live system is shown to follow, and the role of each port that is shown, are settled within a span that is the
-- shorter the nearer the system is to its best
abbrev pub SystemsSettleByDistance : Type 0
SystemsSettleByDistance = (number root steps : ℕ) (slave : Option ℕ) (w : WorldState)
    → SettlingInvariant w → AtSystem number w (FollowsRoot root steps slave)
    → FollowsByDistance number w root steps slave

abbrev pub RolesSettleByDistance : Type 0
RolesSettleByDistance = (number port : ℕ) (w : WorldState) (role : Role)
    → SettlingInvariant w → AtSystem number w (HasRole port role)
    → PlaysByDistance number port w role
