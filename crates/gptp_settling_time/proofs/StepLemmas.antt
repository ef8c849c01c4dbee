-- An act of a run leaves what systems show where they have settled before and after it.
use Rattle.std.proofs.Common.{◌≡◌, ◌≤◌, ℕ, Option, arith}
use Rattle.gptp_links.specs.declared.bounds.Bounds.{Bounds}
use Rattle.gptp_setup.specs.SettlingParams.{SettlingParams}
use Rattle.gptp_system.specs.State.{SystemState}
use Rattle.gptp_model.specs.Acts.{at}
use Rattle.gptp_model.specs.Pending.{NothingBefore}
use Rattle.gptp_model.specs.Views.{ShowsLive}
use Rattle.gptp_model.specs.World.{WorldState}
use Rattle.gptp_world.specs.Transitions.{ActTrace}
use Rattle.gptp_invariants.specs.ChoiceSettled.{ChoiceStands, Settled}
use Rattle.gptp_invariants.specs.ChoiceSettlesAsMachine.{IsWorld}
use Rattle.gptp_invariants.specs.WorldStanding.{snapshot_of}
use Rattle.gptp_invariants.proofs.ChoiceCalmKeptLemmas.{acts_keep, same_snapshot}
use Rattle.gptp_invariants.proofs.SyncExactLemmas.{shows_then as shows_at}
use Rattle.gptp_bmca_machine.specs.SoundLaws.{AllAreNear}
use Rattle.gptp_settling_time.specs.Unchanged.{LeavesChoiceShown, LeavesShown}
use Rattle.gptp_settling_time.proofs.PassLemmas.{IsStep}
use Rattle.gptp_settling_time.proofs.SameShownLemmas.{leaves_choice, leaves_shown}

shows_then : (w : WorldState) (time number : ℕ) (s : SystemState) → ShowsLive number (at time w) s
    → ShowsLive number w s
shows_then w time number s shows = record {
  place = shows.place;
  station = shows.station;
  is = record { here = shows.is.here; named = shows.is.named };
  live = shows.live;
  state = shows.state;
}

module _ (p : SettlingParams) {F : Type 0} (answers : Bounds → ℕ → F → Option ℕ → F → Type 0) (So : WorldState → Type 0)
    (later : (w : WorldState) (time : ℕ) → w.time ≤ time → NothingBefore time w.net.pending → So w → So (at time w))
    (world : (w : WorldState) → So w → IsWorld p w) (settled : ℕ) (t : ActTrace) (step : IsStep answers So t)
    (on : settled ≤ t.told.timed.at) (near : AllAreNear (snapshot_of t.after)) where
  abbrev then : WorldState
  then = at t.told.timed.at t.before

  so_then : So then
  so_then =
      let timely = step.was.ready.timely in
      later t.before t.told.timed.at timely.now timely.first step.before

  same_then : snapshot_of t.after ≡ snapshot_of then
  same_then =
      same_snapshot then t.after
      (acts_keep t.told.timed.act then step.was.draws t.told.done t.after step.none step.was.acts)

  pub step_leaves : ((w : WorldState) → So w → settled ≤ w.time → Settled w) → LeavesShown t.before t.after
  step_leaves settles =
      let done = step.time in
      let is = leaves_shown p then t.after (world then so_then) (world t.after step.after) (settles then so_then on)
      (settles t.after step.after (omega (arith, on, done))) same_then near in
      record {
        stays = λ number s shows. is.stays number s (shows_at t.before t.told.timed.at number s shows);
        comes = λ number lives.
            let back = is.comes number lives in
            (back.0, shows_then t.before t.told.timed.at number back.0 back.1);
      }

  pub step_leaves_choice : ((w : WorldState) → So w → settled ≤ w.time → ChoiceStands w)
      → LeavesChoiceShown t.before t.after
  step_leaves_choice chooses =
      let done = step.time in
      let is = leaves_choice p then t.after (world then so_then) (chooses then so_then on)
      (chooses t.after step.after (omega (arith, on, done))) same_then near in
      record {
        stays = λ number s shows. is.stays number s (shows_at t.before t.told.timed.at number s shows);
        comes = λ number lives.
            let back = is.comes number lives in
            (back.0, shows_then t.before t.told.timed.at number back.0 back.1);
      }
