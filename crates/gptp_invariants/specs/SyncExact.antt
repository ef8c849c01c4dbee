-- How exact offsets are in a world that has been calm for so long.
use Rattle.std.specs.Prelude.{◌≡◌, ◌+◌, ◌*◌, ℕ, ⊤, suc, ℤ, ◌-ℤ◌, Some}
use Rattle.gptp_graph.specs.Best.{IsBest}
use Rattle.gptp_graph.specs.Distance.{IsNear}
use Rattle.gptp_graph.specs.PathBound.{BoundsPaths}
use Rattle.gptp_graph.specs.Snapshot.{System}
use Rattle.gptp_scaled.specs.Counts.{AreWithin}
use Rattle.gptp_messages.specs.declared.follow_up.FollowUp.{FollowUp}
use Rattle.gptp_messages.specs.declared.message.Message.TheVariants as messages
use Rattle.gptp_messages.specs.Grammar.{Reads}
use Rattle.gptp_setup.specs.declared.setup.Params.{Params}
use Rattle.gptp_setup.specs.SettlingParams.{SettlingParams}
use Rattle.gptp_scenario.specs.SettlingTime.{settling_span_with, window_span}
use Rattle.gptp_scenario.specs.declared.sync_wait.SyncPaths.{SyncPaths}
use Rattle.gptp_system.specs.declared.answer.Answer.TheVariants as answers
use Rattle.gptp_system.specs.State.{SystemState, local_time}
use Rattle.gptp_system.specs.Takeover.{told_time}
use Rattle.gptp_error_laws.specs.TimeError.{Way, time_error}
use Rattle.gptp_model.specs.Acts.{at}
use Rattle.gptp_model.specs.declared.done.Done.{Done}
use Rattle.gptp_model.specs.declared.done.Done.TheVariants.{Quiet, Heard}
use Rattle.gptp_model.specs.Views.{ShowsLive}
use Rattle.gptp_model.specs.World.{WorldState}
use Rattle.gptp_sync_machine.specs.Tree.{IsWayTo}
use Rattle.gptp_invariants.specs.WorldCalmFor.{IsCalmFor}
use Rattle.gptp_invariants.specs.SyncFollowers.{follower_parts}
use Rattle.gptp_invariants.specs.WorldStanding.{snapshot_of}

-- The network has settled, where no path has more than m systems, rates are measured over whole windows, and what a
-- system so many steps from its root uses left the root since then: it took the threshold at most on each link of its
-- way, and stayed a residence at each system.
abbrev pub exact_span : ℕ → ℕ → SettlingParams → SyncPaths → ℕ → ℕ
exact_span m steps p paths n =
    settling_span_with p paths m + window_span p.params + steps * (p.params.threshold + p.params.residence)

-- how far the clock of a live system is ahead, at a time, of what the best of its component tells
pub record IsAhead (w : WorldState) (number time : ℕ) (amount : ℤ) : Type 0 where
  pub own : SystemState
  pub shows : ShowsLive number w own
  pub best : System
  pub is_best : IsBest (snapshot_of w) number best
  pub root : SystemState
  pub shows_root : ShowsLive best.clock w root
  pub is : amount ≡ local_time own time -ℤ told_time root time

-- The time error of a system so many steps from its root: that of its way, over its parent and the parents of that, in
-- units of 2^-16 ns. The delays of links are those between which frames are drawn.
pub record IsWayError (p : Params) (w : WorldState) (number steps error : ℕ) : Type 0 where
  pub way : Way
  pub phase : ℕ → ℕ
  pub leads : IsWayTo (follower_parts p w) (snapshot_of w) steps number way phase
  pub is : error ≡ time_error way

-- An offset that the near system with this clock has from a time on is exact: it is within the time error of what its
-- clock is ahead, once the world has been calm for so long. It isn't its own root.
abbrev pub IsExactInTime : ℕ → WorldState → ℕ → ℤ → Type 0
IsExactInTime number w time offset = (m steps error : ℕ) (ahead : ℤ)
    → (calm : IsCalmFor (exact_span m (suc steps)) (at time w)) → BoundsPaths (snapshot_of w) m
    → IsNear (snapshot_of w) number → IsWayError calm.pace.params w number (suc steps) error
    → IsAhead w number time ahead
    → AreWithin error offset ahead

-- each Follow_Up that a system uses leaves such an offset, if it leaves one (IEEE 802.1AS-2020, 11.2.14)
abbrev pub IsHeardExact : WorldState → ℕ → WorldState → Done → Type 0
IsHeardExact w time w' Quiet = ⊤
IsHeardExact w time w' (Heard number port answer frame) = (m : FollowUp) (s : SystemState) (offset : ℤ)
    → Reads frame.items (messages.FollowUp m) → answer ≡ Some answers.Used
    → ShowsLive number w' s → s.offset ≡ Some offset
    → IsExactInTime number w time offset
