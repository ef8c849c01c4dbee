-- Worlds of documents of which claims are made of all links always.
use Rattle.std.proofs.Common.{◌≡◌, ◌<◌, ◌≤◌, ◌+◌, ◌*◌, ℕ, pred, Option, sym, ap, subst, List}
use Rattle.gptp_lists.proofs.MappedLemmas.{alike}
use Rattle.gptp_lists.proofs.SystemSpecLemmas.{In-slice_get}
use Rattle.gptp_graph.specs.PathBound.{BoundsPaths}
use Rattle.gptp_graph.proofs.PathBoundLemmas.{paths_within}
use Rattle.gptp_links.specs.declared.bounds.Bounds.{Bounds}
use Rattle.gptp_scenario.specs.Calm.{IsCalm, IsUsed, NothingLapses}
use Rattle.gptp_scenario.specs.Change.{link_after}
use Rattle.gptp_scenario.specs.Network.{NetworkState, pace_of}
use Rattle.gptp_scenario.specs.SyncWait.{sync_paths}
use Rattle.gptp_scenario.specs.declared.change.Timed.{Timed}
use Rattle.gptp_scenario.specs.declared.network.LinkSpec.{LinkSpec}
use Rattle.gptp_scenario.specs.declared.sync_wait.SyncPaths.{SyncPaths}
use Rattle.gptp_model.specs.Acts.{at}
use Rattle.gptp_model.specs.Course.{WasDone}
use Rattle.gptp_model.specs.Pending.{NothingBefore}
use Rattle.gptp_model.specs.Views.{IsNextAct}
use Rattle.gptp_model.specs.World.{WorldState}
use Rattle.gptp_world.specs.Transitions.{ActTrace}
use Rattle.gptp_world.proofs.SettlingInvariantLemmas.{next_octet}
use Rattle.gptp_network.specs.Document.{DocumentState}
use Rattle.gptp_network.specs.Snapshot.{events_by}
use Rattle.gptp_invariants.specs.ChoiceCalm.{sync_paths_of}
use Rattle.gptp_invariants.specs.ChoiceSettled.{Settled}
use Rattle.gptp_invariants.specs.WorldBounded.{IsBoundedWorld}
use Rattle.gptp_invariants.specs.WorldStanding.{snapshot_of}
use Rattle.gptp_invariants.proofs.WorldStandsLemmas.{stands_well}
use Rattle.gptp_theorem.specs.PlayedLaws.{IsPlayable}
use Rattle.gptp_theorem.specs.Reached.{StandsAsPlanned, channel_wire}
use Rattle.gptp_theorem.proofs.CalmLemmas.{quiet_stands}
use Rattle.gptp_theorem.proofs.HeadlineLemmas.{is_settled}
use Rattle.gptp_theorem.proofs.SnapshotLemmas.{snapshots_stand}
use Rattle.gptp_theorem.proofs.SyncPathLemmas.{paths_stand}
use Rattle.gptp_theorem.proofs.CalmKeptLemmas.{no_change}
use Rattle.gptp_settling_time.specs.Documents.{IsSettledAs}
use Rattle.gptp_settling_time.specs.EventKinds.{UsedVaryLittle}
use Rattle.gptp_settling_time.specs.Starts.{DelaysVaryLittle, LinksVaryLittle}
use Rattle.gptp_settling_time.proofs.GainLemmas.{used_as}
use Rattle.gptp_settling_time.proofs.KeptToLemmas.{KeepsTo, keeps_act, keeps_later}
use Rattle.gptp_settling_time.proofs.AlwaysClaimedLemmas.{IsClaimedAlways, since_acts, since_later}
use Rattle.gptp_settling_time.proofs.StartLemmas.{since_settles}

-- delays vary little in a world that stands as a network in which they do
pub varies_little : (d : DocumentState) (events : List Timed) (w : WorldState) → KeepsTo d events w
    → UsedVaryLittle d.network events → DelaysVaryLittle w
varies_little d events w keeps vary link channel here used =
    let (v, there, same) = alike (link_after events) channel_wire d.network.links w.net.channels
    (sym keeps.stands.links) link channel here in
    subst (λ (b : Bounds). b.max < 2 * b.min) (ap (λ (x : LinkSpec). x.bounds) same)
    (vary link v there (subst (IsUsed d.network.systems events) (sym same)
    (used_as d.network events w keeps.stands keeps.claim.world.sound channel used)))

-- so they do where they do over each link
pub used_vary : (n : NetworkState) (events : List Timed) → LinksVaryLittle n events → UsedVaryLittle n events
used_vary n events vary place v there used = vary v (In-slice_get v n.links place there)

-- A world of a document after these events, of which claims are made of all links always, and whose ports are capable
-- from a start on.
pub record IsClaimedTo (d : DocumentState) (events : List Timed) (start : ℕ) (w : WorldState) : Type 0 where
  pub keeps : KeepsTo d events w
  pub since : IsClaimedAlways (pace_of d.network) start w

module _ (d : DocumentState) (events : List Timed) (start : ℕ) where
  pub claimed_later : (w : WorldState) (time : ℕ) → w.time ≤ time → NothingBefore time w.net.pending
      → IsClaimedTo d events start w → IsClaimedTo d events start (at time w)
  claimed_later w time later first so = record {
    keeps = keeps_later d events w time later first so.keeps;
    since = since_later (pace_of d.network) start time w later first so.since;
  }

  pub claimed_act : {F : Type 0} (answers : Bounds → ℕ → F → Option ℕ → F → Type 0) (t : ActTrace) (fate drawn : F)
      (w : WorldState) → IsNextAct w t.told.timed → WasDone answers t.told.timed fate drawn w t.after t.told.done
      → IsClaimedTo d events start w → IsClaimedTo d events start t.after
  claimed_act answers t fate drawn w next was so =
      let timed = t.told.timed in
      let p = pace_of d.network in
      let then = since_later p start timed.at w was.ready.timely.now was.ready.timely.first so.since in
      record {
        keeps = keeps_act d events answers t fate drawn w next was so.keeps;
        since = since_acts p start timed.act (at timed.at w) was.draws t.told.done t.after
            (no_change next.item timed.act w next.act) (next_octet next.item timed.act w next.act) was.acts then;
      }

  -- it has settled
  module _ (w : WorldState) (so : IsClaimedTo d events start w) (playable : IsPlayable d)
      (calm : IsCalm d.network events) (nothing : NothingLapses d.network.params)
      (late : start + pred (sync_paths d.network events).systems
      * (sync_paths d.network events).delay ≤ w.time) where
    paths : sync_paths d.network events ≡ sync_paths_of w
    paths = paths_stand d.network events w playable.network so.keeps.stands so.keeps.claim.world.sound

    pub claimed_settled : Settled w × IsBoundedWorld w
    claimed_settled =
        let world = so.keeps.claim.world in
        since_settles (pace_of d.network) start (sync_paths d.network events).systems w so.since
        (quiet_stands d.network events w playable.network so.keeps.stands world.sound calm).links
        (subst (BoundsPaths (snapshot_of w)) (sym (ap (λ (x : SyncPaths). x.systems) paths))
        (paths_within (snapshot_of w) (stands_well w world.sound world.between world.encodable)))
        nothing
        (subst (λ delay. start + pred (sync_paths d.network events).systems * delay ≤ w.time)
        (ap (λ (x : SyncPaths). x.delay) paths) late)

    pub claimed_settled_as : (until : ℕ) → events_by until d.events ≡ events → IsSettledAs d until w
    claimed_settled_as until same = record {
      settled = is_settled w (record { pace = pace_of d.network; is = so.keeps.claim }) claimed_settled.0
          claimed_settled.1;
      snapshot = λ g stands.
          let (systems, links) = snapshots_stand d.network (events_by until d.events) w g
          (subst (λ es. StandsAsPlanned d.network es w) (sym same) so.keeps.stands) so.keeps.claim.world.sound
          stands in
          record { systems = systems; links = links };
    }
