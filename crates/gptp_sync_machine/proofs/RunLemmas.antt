-- The invariant along a run.
use Rattle.std.proofs.Common.{ℕ, List, [], ◌∷◌, sym, subst, inl, inr}
use Rattle.gptp_lists.specs.Members.{In}
use Rattle.gptp_sync_machine.specs.Messages.{Message}
use Rattle.gptp_sync_machine.specs.Follower.{Follower, IsSetting, FollowerSetting}
use Rattle.gptp_sync_machine.specs.Invariant.{FollowerInvariant, IsJustSettled}
use Rattle.gptp_sync_machine.specs.Runs.{IsFollowerRun, IsFollowerStep}
use Rattle.gptp_sync_machine.proofs.FollowerLemmas.{inv_begins, inv_kept, inv_later}

module _ (k : FollowerSetting) (says : List ℕ → Message → Type 0) where
  step_keeps : (s t : Follower) → IsFollowerStep k says s t → FollowerInvariant k says s → FollowerInvariant k says t
  step_keeps s t (inl passes) inv = inv_later k says s t passes inv
  step_keeps s t (inr act) inv = inv_kept k says s t act inv

  pub run_keeps : (run : List Follower) (s t : Follower) → IsFollowerRun k says s run → In t (s ∷ run)
      → FollowerInvariant k says s
      → FollowerInvariant k says t
  run_keeps [] s t on (inl same) inv = subst (λ (u : Follower). FollowerInvariant k says u) (sym same) inv
  run_keeps [] s t on (inr at) inv = absurd at
  run_keeps (u ∷ rest) s t on (inl same) inv = subst (λ (u : Follower). FollowerInvariant k says u) (sym same) inv
  run_keeps (u ∷ rest) s t (step, on) (inr at) inv = run_keeps rest u t on at (step_keeps s u step inv)

  pub runs_keep_inv : (s t : Follower) (run : List Follower) → IsSetting k → IsJustSettled k s
      → IsFollowerRun k says s run
      → In t (s ∷ run) → FollowerInvariant k says t
  runs_keep_inv s t run is fresh on at = run_keeps run s t on at (inv_begins k says s is fresh)
