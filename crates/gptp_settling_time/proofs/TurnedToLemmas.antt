-- Worlds of documents since a link went down by which one system was moved.
use Rattle.std.proofs.Common.{◌<◌, ◌≤◌, ◌+◌, ◌*◌, ℕ, pred, Option, List, subst, arith}
use Rattle.gptp_graph.specs.PathBound.{path_bound}
use Rattle.gptp_graph.specs.Snapshot.{Snapshot}
use Rattle.gptp_links.specs.declared.bounds.Bounds.{Bounds}
use Rattle.gptp_scenario.specs.Calm.{IsCalm, NothingLapses}
use Rattle.gptp_scenario.specs.Network.{pace_of}
use Rattle.gptp_scenario.specs.declared.change.Timed.{Timed}
use Rattle.gptp_scenario.specs.declared.sync_wait.SyncPaths.{SyncPaths}
use Rattle.gptp_setup.specs.SettlingParams.{largest_interval}
use Rattle.gptp_model.specs.Acts.{at}
use Rattle.gptp_model.specs.Course.{WasDone}
use Rattle.gptp_model.specs.Pending.{NothingBefore}
use Rattle.gptp_model.specs.Views.{IsNextAct}
use Rattle.gptp_model.specs.World.{WorldState}
use Rattle.gptp_world.specs.Transitions.{ActTrace}
use Rattle.gptp_world.proofs.SettlingInvariantLemmas.{next_octet}
use Rattle.gptp_network.specs.Document.{DocumentState}
use Rattle.gptp_invariants.specs.ChoiceCalm.{HaveQuietLinks, delay_in, sync_paths_of}
use Rattle.gptp_invariants.specs.ChoiceSettled.{Settled}
use Rattle.gptp_invariants.specs.WorldBounded.{IsBoundedWorld}
use Rattle.gptp_invariants.specs.WorldStanding.{snapshot_of}
use Rattle.gptp_theorem.specs.PlayedLaws.{IsPlayable}
use Rattle.gptp_theorem.proofs.CalmLemmas.{quiet_stands}
use Rattle.gptp_theorem.proofs.CalmKeptLemmas.{no_change}
use Rattle.gptp_settling_time.specs.Rests.{HasToldAnew}
use Rattle.gptp_settling_time.proofs.AlwaysClaimedLemmas.{IsClaimedAlways}
use Rattle.gptp_settling_time.proofs.ClaimedToLemmas.{IsClaimedTo}
use Rattle.gptp_settling_time.proofs.GoesToLemmas.{paths_to}
use Rattle.gptp_settling_time.proofs.KeptToLemmas.{KeepsTo, keeps_act, keeps_later}
use Rattle.gptp_settling_time.proofs.MovedAlwaysLemmas.{moved_settles}
use Rattle.gptp_settling_time.proofs.ToldAnewLemmas.{way_in}
use Rattle.gptp_settling_time.proofs.TurnedAlwaysLemmas.{IsTurnedAlways, turned_acts, turned_claimed, turned_later}

-- A world of a document after these events, by the last of which a system turned at a time; ports without a link aren't
-- capable from a time on.
pub record IsTurnedTo (d : DocumentState) (events : List Timed) (silent time : ℕ) (w : WorldState) : Type 0 where
  pub keeps : KeepsTo d events w
  pub before : Snapshot
  pub since : IsTurnedAlways (pace_of d.network) before silent time w

-- Two ways after a time, and then an announce interval and the greatest delay for each system of a path but one, claims
-- are made of a world of a document in which traces are told anew, as they are made of a world whose paths say so.
pub anew_claimed : (d : DocumentState) (events : List Timed) (time start : ℕ) (w : WorldState) → KeepsTo d events w
    → IsPlayable d → HasToldAnew d.network events time start w.time
    → (HaveQuietLinks (pace_of d.network).params w
    → time + 2 * way_in w
    + pred (path_bound (snapshot_of w)) * (largest_interval (pace_of d.network) + delay_in w) < w.time
    → time ≤ start → IsClaimedAlways (pace_of d.network) start w) → IsClaimedTo d events start w
anew_claimed d events time start w keeps playable rest claimed =
    let p = pace_of d.network in
    let told : time + echo (sync_paths_of w) < w.time =
    subst (λ x. time + echo x < w.time) (paths_to d playable events w keeps) rest.told in
    let later = rest.later in
    record {
      keeps = keeps;
      since = claimed
          (quiet_stands d.network events w playable.network keeps.stands keeps.claim.world.sound rest.calm).links
          (omega (arith, told)) (omega (arith, later));
    }
  where
    -- two ways, and then an announce interval and a delay for each system of a path but one
    echo : SyncPaths → ℕ
    echo x = 2 * (pred x.systems * x.delay) + pred x.systems * (largest_interval (pace_of d.network) + x.delay)

module _ (d : DocumentState) (events : List Timed) (silent time : ℕ) where
  pub turned_to_later : (w : WorldState) (now : ℕ) → w.time ≤ now → NothingBefore now w.net.pending
      → IsTurnedTo d events silent time w → IsTurnedTo d events silent time (at now w)
  turned_to_later w now later first so = record {
    keeps = keeps_later d events w now later first so.keeps;
    before = so.before;
    since = turned_later (pace_of d.network) so.before silent time now w later first so.since;
  }

  pub turned_to_act : {F : Type 0} (answers : Bounds → ℕ → F → Option ℕ → F → Type 0) (t : ActTrace) (fate drawn : F)
      (w : WorldState) → IsNextAct w t.told.timed → WasDone answers t.told.timed fate drawn w t.after t.told.done
      → IsTurnedTo d events silent time w → IsTurnedTo d events silent time t.after
  turned_to_act answers t fate drawn w next was so =
      let timed = t.told.timed in
      let p = pace_of d.network in
      let then = turned_later p so.before silent time timed.at w was.ready.timely.now was.ready.timely.first so.since in
      record {
        keeps = keeps_act d events answers t fate drawn w next was so.keeps;
        before = so.before;
        since = turned_acts p so.before silent time timed.act (at timed.at w) was.draws t.told.done t.after
            (no_change next.item timed.act w next.act) (next_octet next.item timed.act w next.act) was.acts then;
      }

  -- it has settled
  pub turned_to_settled : (w : WorldState) → IsTurnedTo d events silent time w → IsPlayable d → IsCalm d.network events
      → NothingLapses d.network.params → time + 1 + pred (path_bound (snapshot_of w)) * delay_in w ≤ w.time
      → Settled w × IsBoundedWorld w
  turned_to_settled w so playable calm off late =
      moved_settles (pace_of d.network) so.before silent time w so.since.moved
      (quiet_stands d.network events w playable.network so.keeps.stands so.keeps.claim.world.sound calm).links off late

  -- once traces are told anew claims are made of all links always
  pub turned_to_claimed : (w : WorldState) (start : ℕ) → IsTurnedTo d events silent time w → IsPlayable d
      → HasToldAnew d.network events time start w.time → IsClaimedTo d events start w
  turned_to_claimed w start so playable rest =
      anew_claimed d events time start w so.keeps playable rest (λ quiet over later.
      turned_claimed (pace_of d.network) so.before silent time w so.since quiet rest.off (omega (arith, over)) start
      later)
