-- What is so before and after each act of a run that is later than a time with a choice bound.
use Rattle.std.proofs.Common.{◌≡◌, ◌<◌, ◌+◌, ℕ, suc, List, Option, sym, subst, arith}
use Rattle.gptp_lists.specs.Members.{In}
use Rattle.gptp_links.specs.declared.bounds.Bounds.{Bounds}
use Rattle.gptp_scenario.specs.Calm.{last_change}
use Rattle.gptp_scenario.specs.Network.{NetworkState}
use Rattle.gptp_scenario.specs.declared.change.Timed.{Timed}
use Rattle.gptp_links.specs.Fate.{Draw}
use Rattle.gptp_model.specs.Acts.{Acts, at}
use Rattle.gptp_model.specs.World.{WorldState}
use Rattle.gptp_network.specs.Document.{DocumentState}
use Rattle.gptp_network.specs.Snapshot.{events_by}
use Rattle.gptp_report.specs.Transitions.{ActTrace, Unfolds}
use Rattle.gptp_invariants.specs.WorldStanding.{snapshot_of}
use Rattle.gptp_invariants.proofs.ChoiceCalmKeptLemmas.{acts_keep, KeepsNetwork, same_snapshot}
use Rattle.gptp_theorem.specs.PlayedLaws.{IsPlayable}
use Rattle.gptp_settling_time.specs.HowSoon.{IsChoiceAloneBound, IsChoiceBound, NoneBetween}
use Rattle.gptp_settling_time.specs.Pasts.{Past}
use Rattle.gptp_settling_time.specs.InTurn.{ChoosesAfter, ComesByEvents, SettlesAfter}
use Rattle.gptp_settling_time.proofs.DocumentLemmas.{run_to}
use Rattle.gptp_settling_time.proofs.BoundSettlesLemmas.{bound_chooses, bound_settles}
use Rattle.gptp_settling_time.proofs.AfterLemmas.{after_keeps}
use Rattle.gptp_settling_time.proofs.InTurnLemmas.{passed_in_turn}
use Rattle.gptp_settling_time.proofs.KeptToLemmas.{KeepsTo}
use Rattle.gptp_settling_time.proofs.MomentLemmas.{last_by, none_later}

-- the worlds keep what all do and stand as the document does after these events, and the act leaves the network as it
-- was, and so its snapshot
pub record IsKept (d : DocumentState) (events : List Timed) (t : ActTrace) : Type 0 where
  pub before : KeepsTo d events t.before
  pub after : KeepsTo d events t.after
  pub draws : List Draw
  pub acts : Acts t.told.timed.act (at t.told.timed.at t.before) draws t.told.done t.after
  pub network : KeepsNetwork (at t.told.timed.at t.before) t.after
  pub same : snapshot_of t.after ≡ snapshot_of t.before

-- each act that is later than a time, and before the next event
module _ {F : Type 0} (answers : Bounds → ℕ → F → Option ℕ → F → Type 0) (d : DocumentState)
    (time choice next until : ℕ) (fate : F) (first w : WorldState) (ts : List ActTrace) (t : ActTrace)
    (playable : IsPlayable d) (k : Unfolds answers d until fate first ts w) (member : In t ts) where
  module _ (none : NoneBetween d.events time next) (late : time < t.told.timed.at) (early : t.told.timed.at < next)
    where
      abbrev now : ℕ
      now = t.told.timed.at

      same : events_by now d.events ≡ events_by time d.events
      same = none_later d.events time now next (omega (arith, late)) early none

      -- where the document settles, or its choice stands
      kept_by : (So : NetworkState → List Timed → Past → ℕ → Type 0) (settled : ℕ) → ComesByEvents So d now settled
          → IsKept d (events_by time d.events) t
      kept_by So settled is =
          let events : List Timed = events_by now d.events in
          let last = last_by time d.events in
          let later : last_change events < now =
          subst (λ es. last_change es < now) (sym same) (omega (arith, last, late)) in
          let run = run_to answers d until fate first w ts t playable k member in
          let steps = passed_in_turn answers So d now settled fate first run.w run.ts playable run.unfolds is in
          let step = steps.each t run.member later in
          let network =
          acts_keep t.told.timed.act (at now t.before) step.was.draws t.told.done t.after step.none step.was.acts in
          subst (λ es. IsKept d es t) same (record {
            before = after_keeps d events is.last t.before step.before;
            after = after_keeps d events is.last t.after step.after;
            draws = step.was.draws;
            acts = step.was.acts;
            network = network;
            same = same_snapshot (at now t.before) t.after network;
          })

  -- by a choice bound of the time
  pub kept : IsChoiceBound d time choice → NoneBetween d.events time next → time < t.told.timed.at
      → t.told.timed.at < next → IsKept d (events_by time d.events) t
  kept bound none late early =
      kept_by none late early SettlesAfter (suc (time + choice))
      (bound_settles d playable.network playable.events.in_order time choice t.told.timed.at (suc (time + choice))
      (same none late early) (omega arith) bound)

  -- or by one of its choice alone
  pub kept_alone : IsChoiceAloneBound d time choice → NoneBetween d.events time next → time < t.told.timed.at
      → t.told.timed.at < next → IsKept d (events_by time d.events) t
  kept_alone bound none late early =
      kept_by none late early ChoosesAfter (suc (time + choice))
      (bound_chooses d playable.network playable.events.in_order time choice t.told.timed.at (suc (time + choice))
      (same none late early) (omega arith) bound)
