-- Worlds of documents since a link went down that cut a tree off.
use Rattle.std.proofs.Common.{◌≡◌, ◌≤◌, ◌+◌, ◌*◌, ℕ, pred, Option, List, ◌<◌, refl, sym, subst, inl, inr, arith}
use Rattle.gptp_graph.specs.PathBound.{path_bound}
use Rattle.gptp_graph.specs.Snapshot.{Snapshot}
use Rattle.gptp_links.specs.declared.bounds.Bounds.{Bounds}
use Rattle.gptp_scenario.specs.Calm.{IsCalm, NothingLapses}
use Rattle.gptp_scenario.specs.Network.{pace_of}
use Rattle.gptp_scenario.specs.SettlingTime.{way_span}
use Rattle.gptp_scenario.specs.declared.change.Timed.{Timed}
use Rattle.gptp_model.specs.Acts.{at}
use Rattle.gptp_model.specs.Course.{WasDone}
use Rattle.gptp_model.specs.Pending.{NothingBefore}
use Rattle.gptp_model.specs.Views.{IsNextAct}
use Rattle.gptp_model.specs.World.{WorldState}
use Rattle.gptp_world.specs.Transitions.{ActTrace}
use Rattle.gptp_world.proofs.SettlingInvariantLemmas.{next_octet}
use Rattle.gptp_network.specs.Document.{DocumentState}
use Rattle.gptp_invariants.specs.ChoiceCalm.{delay_in, sync_paths_of}
use Rattle.gptp_invariants.specs.ChoiceSettled.{Settled}
use Rattle.gptp_invariants.specs.WorldBounded.{IsBoundedWorld}
use Rattle.gptp_invariants.specs.WorldStanding.{snapshot_of}
use Rattle.gptp_theorem.specs.PlayedLaws.{IsPlayable}
use Rattle.gptp_theorem.proofs.CalmLemmas.{quiet_stands}
use Rattle.gptp_theorem.proofs.CalmKeptLemmas.{no_change}
use Rattle.gptp_scenario.specs.SyncWait.{sync_paths}
use Rattle.gptp_settling_time.specs.Arrivals.{arrived_by}
use Rattle.gptp_settling_time.proofs.ArrivalsLemmas.{SetLimits}
use Rattle.gptp_settling_time.proofs.SinceSetLemmas.{AreLimitedBy}
use Rattle.gptp_settling_time.proofs.ClaimedToLemmas.{IsClaimedTo}
use Rattle.gptp_settling_time.proofs.FallenClaimedLemmas.{fallen_claimed}
use Rattle.gptp_settling_time.proofs.GoesToLemmas.{FlightGoes, delay_to, gone_to, paths_to}
use Rattle.gptp_settling_time.proofs.KeptToLemmas.{KeepsTo, keeps_act, keeps_later}
use Rattle.gptp_settling_time.proofs.FallAlwaysLemmas.{IsFallenAlways, fallen_acts, fallen_later, fallen_settles}
use Rattle.gptp_settling_time.specs.Rests.{HasFallenBack}

-- A world of a document after these events, by the last of which a tree was cut off at a time; ports without a link
-- aren't capable from a time on.
pub record IsFallenTo (d : DocumentState) (events : List Timed) (silent time : ℕ) (w : WorldState) : Type 0 where
  pub keeps : KeepsTo d events w
  pub before : Snapshot
  -- the events up to the one that cut it off: no later one has set a link
  pub ago : List Timed
  pub set : (limit : ℕ) → SetLimits d.network events limit → SetLimits d.network ago limit
  pub since : IsFallenAlways (pace_of d.network) before (SetLimits d.network ago) silent time w

-- what was in flight as a link was last set has arrived when the document says
pub limits_to : (d : DocumentState) (events : List Timed) (w : WorldState) → KeepsTo d events w → (limit : ℕ)
    → SetLimits d.network events limit → AreLimitedBy limit w
limits_to d events w keeps limit (most, within, is) =
    subst (λ t. AreLimitedBy t w) (sym is) (keeps.limited most within)

module _ (d : DocumentState) (events : List Timed) (silent time : ℕ) where
  pub fallen_to_later : (w : WorldState) (now : ℕ) → w.time ≤ now → NothingBefore now w.net.pending
      → IsFallenTo d events silent time w → IsFallenTo d events silent time (at now w)
  fallen_to_later w now later first so = record {
    keeps = keeps_later d events w now later first so.keeps;
    before = so.before;
    ago = so.ago;
    set = so.set;
    since = fallen_later (pace_of d.network) so.before (SetLimits d.network so.ago) silent time now w later first
        so.since;
  }

  pub fallen_to_act : {F : Type 0} (answers : Bounds → ℕ → F → Option ℕ → F → Type 0) (t : ActTrace) (fate drawn : F)
      (w : WorldState) → IsNextAct w t.told.timed → WasDone answers t.told.timed fate drawn w t.after t.told.done
      → IsFallenTo d events silent time w → IsFallenTo d events silent time t.after
  fallen_to_act answers t fate drawn w next was so =
      let timed = t.told.timed in
      let p = pace_of d.network in
      let Limits : ℕ → Type 0 = SetLimits d.network so.ago in
      let then = fallen_later p so.before Limits silent time timed.at w was.ready.timely.now was.ready.timely.first
      so.since in
      record {
        keeps = keeps_act d events answers t fate drawn w next was so.keeps;
        before = so.before;
        ago = so.ago;
        set = so.set;
        since = fallen_acts p so.before Limits silent time timed.act (at timed.at w) was.draws t.told.done t.after
            (no_change next.item timed.act w next.act) (next_octet next.item timed.act w next.act) was.acts then;
      }

  -- it has settled
  pub fallen_to_settled : (w : WorldState) → IsFallenTo d events silent time w → IsPlayable d → IsCalm d.network events
      → NothingLapses d.network.params → time + 1 + 2 * (pred (path_bound (snapshot_of w)) * delay_in w) ≤ w.time
      → Settled w × IsBoundedWorld w
  fallen_to_settled w so playable calm off late =
      fallen_settles (pace_of d.network) so.before (SetLimits d.network so.ago) silent time w so.since
      (quiet_stands d.network events w playable.network so.keeps.stands so.keeps.claim.world.sound calm).links off late

  -- once it has come to rest claims are made of all links always
  pub fallen_to_claimed : (w : WorldState) (start : ℕ) → IsFallenTo d events silent time w → IsPlayable d
      → HasFallenBack d.network events time start w.time → IsClaimedTo d events start w
  fallen_to_claimed w start so playable rest = record {
    keeps = so.keeps;
    since = fallen_claimed (pace_of d.network) so.before Limits silent time rest.flight w so.since
        (quiet_stands d.network events w playable.network so.keeps.stands so.keeps.claim.world.sound rest.calm).links
        rest.off late (delay_to d playable events w so.keeps Limits time rest.flight goes)
        (gone_to d playable events w so.keeps Limits time rest.flight goes rest.gone) rest.gone start
        (let over = begun in omega (arith, over));
  }
    where
      Limits : ℕ → Type 0
      Limits = SetLimits d.network so.ago

      paths : sync_paths d.network events ≡ sync_paths_of w
      paths = paths_to d playable events w so.keeps

      begun : time + way_span (sync_paths_of w) < start
      begun = subst (λ x. time + way_span x < start) paths rest.later

      late : time + 1 + 2 * (pred (path_bound (snapshot_of w)) * delay_in w) ≤ w.time
      late =
          let over : start + way_span (sync_paths_of w) ≤ w.time =
          subst (λ x. start + way_span x ≤ w.time) paths rest.over in
          let before = begun in
          omega (arith, before, over)

      goes : FlightGoes d playable events w so.keeps Limits time rest.flight
      goes = elim rest.is_gone [
        | inl is_gone ↦ inl is_gone
        | inr (within, (most, bounded, soon)) ↦
            inr (within, arrived_by most events, so.set (arrived_by most events) (most, bounded, refl), soon)
      ]
