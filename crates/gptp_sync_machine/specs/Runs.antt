-- Runs of the machine.
use Rattle.std.specs.Prelude.{◌⊎◌, ⊤, ℕ, List, [], ◌∷◌}
use Rattle.gptp_sync_machine.specs.Messages.{Message}
use Rattle.gptp_sync_machine.specs.Follower.{Follower, FollowerSetting}
use Rattle.gptp_sync_machine.specs.Acts.{FollowerActs, FollowerWaits}

-- time passes, or one act happens
abbrev pub IsFollowerStep : FollowerSetting → (List ℕ → Message → Type 0) → Follower → Follower → Type 0
IsFollowerStep k says s s' = FollowerWaits s s' ⊎ FollowerActs k says s s'

-- from s the states of the list come in turn, each by one step
abbrev pub IsFollowerRun : FollowerSetting → (List ℕ → Message → Type 0) → Follower → List Follower → Type 0
IsFollowerRun k says s [] = ⊤
IsFollowerRun k says s (t ∷ rest) = IsFollowerStep k says s t × IsFollowerRun k says t rest
