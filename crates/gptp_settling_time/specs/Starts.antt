-- How soon a network that starts has settled where delays vary little: no announce interval has to pass.
--
-- Where the greatest delay of a link is below twice the least, what makes a port at it capable comes before the first
-- Announce of its neighbour, which can't be capable sooner than two exchanges take at least. So that Announce is heard,
-- and none has to be waited for: the network has settled once its ports are capable, and the greatest delay has passed
-- for each system of a path but one.
use Rattle.std.specs.Prelude.{◌≡◌, ◌<◌, ◌≤◌, ◌+◌, ◌*◌, ℕ, pred, true, List, [], Option, Some, slice_get}
use Rattle.gptp_lists.specs.Members.{In}
use Rattle.gptp_graph.specs.PathBound.{BoundsPaths}
use Rattle.gptp_links.specs.declared.bounds.Bounds.{Bounds}
use Rattle.gptp_scenario.specs.Calm.{IsCalm, NothingLapses}
use Rattle.gptp_scenario.specs.Change.{link_after}
use Rattle.gptp_scenario.specs.Network.{IsNetwork, NetworkState, pace_of}
use Rattle.gptp_scenario.specs.SyncWait.{sync_paths}
use Rattle.gptp_scenario.specs.declared.change.Timed.{Timed}
use Rattle.gptp_scenario.specs.declared.network.LinkSpec.{LinkSpec}
use Rattle.gptp_model.specs.Advancing.{Advanced, Told}
use Rattle.gptp_model.specs.Course.{Begun}
use Rattle.gptp_model.specs.World.{Channel, WorldState}
use Rattle.gptp_network.specs.Document.{DocumentState}
use Rattle.gptp_network.specs.Snapshot.{events_by}
use Rattle.gptp_report.specs.Transitions.{ActTrace, Unfolds}
use Rattle.gptp_invariants.specs.ChoiceCalm.{delay_in}
use Rattle.gptp_invariants.specs.WorldNewsCourse.{capable_from}
use Rattle.gptp_invariants.specs.WorldStanding.{channel_is_used, live_stations, snapshot_of}
use Rattle.gptp_theorem.specs.Headline.{IsSettled, WorldIsCalm}
use Rattle.gptp_theorem.specs.PlayedLaws.{IsPlayable}
use Rattle.gptp_settling_time.specs.Documents.{IsSettledAs}
use Rattle.gptp_settling_time.specs.Gains.{exchanged_from}

-- over each link in use the greatest delay is below twice the least
abbrev pub DelaysVaryLittle : WorldState → Type 0
DelaysVaryLittle w = (link : ℕ) (channel : Channel) → slice_get w.net.channels link ≡ Some channel
    → channel_is_used (live_stations w.stations) channel ≡ true
    → channel.bounds.max < 2 * channel.bounds.min

-- A network that starts, and goes on by itself, is settled one peer delay interval, one exchange and 1 ns, and the
-- greatest delay for each system of a path but one, after time 0.
abbrev pub StartsSettleAtOnce : {F : Type 0} → (Bounds → ℕ → F → Option ℕ → F → Type 0) → Type 0
StartsSettleAtOnce {F} answers = (n : NetworkState) (fate begun fate_after : F) (until m : ℕ) (told : List Told)
    (w w' : WorldState)
    → IsNetwork n → Begun answers n fate begun w → Advanced answers until told begun fate_after w w'
    → WorldIsCalm (pace_of n) w' → NothingLapses n.params → DelaysVaryLittle w' → BoundsPaths (snapshot_of w') m
    → capable_from (pace_of n) w' 0 + pred m * delay_in w' ≤ w'.time
    → IsSettled w'

-- ---- documents

-- after these events the greatest delay is below twice the least over each link of the network
abbrev pub LinksVaryLittle : NetworkState → List Timed → Type 0
LinksVaryLittle n events = (v : LinkSpec) → In v n.links
    → (link_after events v).bounds.max < 2 * (link_after events v).bounds.min

-- A document that is calm before its first event, and in which nothing lapses, starts so by a time.
pub record StartsBy (d : DocumentState) (until settled : ℕ) : Type 0 where
  pub none : events_by until d.events ≡ []
  pub calm : IsCalm d.network []
  pub nothing : NothingLapses d.network.params
  pub little : LinksVaryLittle d.network []
  pub settles : exchanged_from (pace_of d.network) (sync_paths d.network []) 0
      + pred (sync_paths d.network []).systems * (sync_paths d.network []).delay
      ≤ settled

-- the world that such a document leads to before its first event is settled from that time on, and so is the world
-- after each act of its run
abbrev pub DocumentsStartAtOnce : {F : Type 0} → (Bounds → ℕ → F → Option ℕ → F → Type 0) → Type 0
DocumentsStartAtOnce {F} answers = (d : DocumentState) (until settled : ℕ) (fate : F) (first w : WorldState)
    (ts : List ActTrace) (t : ActTrace)
    → IsPlayable d → Unfolds answers d until fate first ts w → StartsBy d until settled → In t ts
    → settled ≤ t.told.timed.at
    → IsSettledAs d until t.after
