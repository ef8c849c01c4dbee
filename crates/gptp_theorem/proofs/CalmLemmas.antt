-- A world that a network and its events lead to is as calm as the network then is.
use Rattle.std.proofs.Common.{◌≡◌, ◌∙◌, ◌+◌, ◌≤◌, ℕ, Bool, true, false, List, ◌∷◌, length, map, Some, None, cond, slice_get, refl, sym, ap, subst, arith}
use Rattle.std.specs.Prelude.{if◌then◌else◌}
use Rattle.std.specs.List.{All, cons_option, filter_map}
use Rattle.std.proofs.lemmas.List.Recursion.{is_count_by}
use Rattle.std.proofs.lemmas.Option.{get_or_from_slice_get, slice_get_within}
use Rattle.gptp_roles.specs.Selection.{clock_of}
use Rattle.gptp_scenario.specs.declared.change.Timed.{Timed}
use Rattle.gptp_scenario.specs.declared.network.SystemSpec.{SystemSpec}
use Rattle.gptp_scenario.specs.declared.network.LinkSpec.{LinkSpec}
use Rattle.gptp_model.specs.declared.station.Station.{Station}
use Rattle.gptp_scenario.specs.Calm.{IsCalm, IsLive, IsQuiet, Rests, SyncsComeInTime}
use Rattle.gptp_scenario.specs.Change.{link_after, live_after, system_after}
use Rattle.gptp_scenario.specs.InUse as acts
use Rattle.gptp_scenario.specs.Network.{IsNetwork, NetworkState, pace_of}
use Rattle.gptp_scenario.specs.SettlingTime.{settling_span_with}
use Rattle.gptp_model.specs.Prompt.{HavePace}
use Rattle.gptp_model.specs.Sound.{IsSound}
use Rattle.gptp_model.specs.World.{Channel, WorldState}
use Rattle.gptp_lists.proofs.MappedLemmas.{alike}
use Rattle.gptp_network.specs.Document.{DocumentState}
use Rattle.gptp_network.specs.Snapshot as network
use Rattle.gptp_network.specs.Snapshot.{events_by}
use Rattle.gptp_network.proofs.SnapshotLemmas.{clock_after}
use Rattle.gptp_invariants.specs.ChoiceCalm.{IsQuietLink, IsQuietWorld, sync_paths_of}
use Rattle.gptp_invariants.specs.WorldCalmFor.{IsCalmFor}
use Rattle.gptp_invariants.specs.WorldSettlingInvariant.{SettlingInvariant}
use Rattle.gptp_invariants.specs.WorldKnown.{AreSet, IsSetTo}
use Rattle.gptp_invariants.specs.WorldStanding.{channel_is_used, stations_have_clock, live_stations, snapshot_of}
use Rattle.gptp_invariants.proofs.WorldStandsLemmas.{sender_lives, used_up}
use Rattle.gptp_invariants.proofs.WorldSystemLemmas.{clock_in, clock_lives, live_from}
use Rattle.gptp_links.specs.declared.link.Direction.TheVariants.{FromA, FromB}
use Rattle.gptp_theorem.specs.Reached.{Shape, StandsAsPlanned, shape, shape_after, channel_wire}
use Rattle.gptp_theorem.specs.PlayedLaws.{DocumentIsAtRest, IsReached}
use Rattle.gptp_theorem.proofs.SnapshotLemmas.{systems_stand}
use Rattle.gptp_theorem.proofs.SyncPathLemmas.{paths_stand}

-- ---- how many systems live

network_count : (events : List Timed) (members : List SystemSpec)
    → length (network.live_systems members events) ≡ acts.count_live members events
network_count events =
    is_count_by (λ members. length (network.live_systems members events)) (λ m. (system_after events m).live) refl one
  where
    one : (m : SystemSpec) (members : List SystemSpec)
        → length (network.live_systems (m ∷ members) events)
        ≡ cond (system_after events m).live (1 + length (network.live_systems members events))
        (length (network.live_systems members events))
    one m members = by (system_after events m).live
      where
        by : (live : Bool)
            → length (map network.system_of
            (cons_option (if live then Some ((system_after events m).identity, m.ports) else None)
            (filter_map (live_after events) members)))
            ≡ cond live (1 + length (network.live_systems members events))
            (length (network.live_systems members events))
        by true = omega arith
        by false = refl

pub count_stands : (n : NetworkState) (events : List Timed) (w : WorldState) → StandsAsPlanned n events w → IsSound w
    → length (snapshot_of w).systems ≡ acts.count_live n.systems events
count_stands n events w so sound = ap length (systems_stand n events w so sound) ∙ network_count events n.systems

-- ---- one of the network

-- what stands somewhere is one of the network's after the events
pub record IsMemberAt (n : NetworkState) (events : List Timed) (place : ℕ) (station : Station) : Type 0 where
  pub member : SystemSpec
  pub there : slice_get n.systems place ≡ Some member
  pub is : shape_after n events member ≡ shape station

member_at : (n : NetworkState) (events : List Timed) (w : WorldState) → StandsAsPlanned n events w → (place : ℕ)
    (station : Station) → slice_get w.stations place ≡ Some station → IsMemberAt n events place station
member_at n events w so place station here =
    let (m, there, is) = alike (shape_after n events) shape n.systems w.stations (sym so.systems) place
    station here in
    record { member = m; there = there; is = is }

-- ---- links

lives_so : (n : NetworkState) (events : List Timed) (w : WorldState) → StandsAsPlanned n events w → (number : ℕ)
    → stations_have_clock (live_stations w.stations) number ≡ true → IsLive n.systems events number
lives_so n events w so number has =
    let (s, among, same) = clock_lives w.stations number has in
    let at = live_from w.stations s among in
    let of = member_at n events w so at.place at.station at.here in
    let given : clock_of (shape at.station).identity ≡ clock_of at.station.system.identity = rw at.live refl in
    record {
      place = at.place;
      system = of.member;
      there = of.there;
      clock = sym (clock_after events of.member) ∙ ap (λ (x : Shape). clock_of x.identity) of.is ∙ given
          ∙ ap clock_in (sym at.is) ∙ same;
      live = ap (λ (x : Shape). x.live) of.is ∙ at.live;
    }

pub each_at : {X : Type 0} (P : X → Type 0) (xs : List X) → All P xs → (place : ℕ) (x : X)
    → slice_get xs place ≡ Some x → P x
each_at P xs each place x there =
    subst P (get_or_from_slice_get xs place x x there) (each place x (slice_get_within xs place x there))

quiet_link : (n : NetworkState) (events : List Timed) (w : WorldState) → StandsAsPlanned n events w → IsCalm n events
    → (link : ℕ) (channel : Channel) → slice_get w.net.channels link ≡ Some channel
    → channel_is_used (live_stations w.stations) channel ≡ true → IsQuietLink n.params channel
quiet_link n events w so calm link channel here used =
    let systems = live_stations w.stations in
    let (v, there, is) = alike (link_after events) channel_wire n.links w.net.channels
    (sym so.links) link channel here in
    let rests = each_at (Rests n.params n.systems events) n.links calm.links link v there in
    let a = lives_so n events w so channel.a.clock (sender_lives systems FromA channel used) in
    let b = lives_so n events w so channel.b.clock (sender_lives systems FromB channel used) in
    let quiet = rests (record {
      up = ap (λ (x : LinkSpec). x.up) is ∙ used_up systems channel used;
      a = subst (λ (x : LinkSpec). IsLive n.systems events x.a.clock) (sym is) a;
      b = subst (λ (x : LinkSpec). IsLive n.systems events x.b.clock) (sym is) b;
    }) in
    let same = subst (IsQuiet n.params) is quiet in
    record {
      lossless = same.lossless;
      good = same.good;
    }

pub quiet_stands : (n : NetworkState) (events : List Timed) (w : WorldState) → IsNetwork n → StandsAsPlanned n events w
    → IsSound w → IsCalm n events
    → IsQuietWorld n.params w
quiet_stands n events w is so sound calm = record {
  links = quiet_link n events w so calm;
  lapses = subst (SyncsComeInTime n.params) (paths_stand n events w is so sound) calm.lapses;
}

-- ---- parameters

pub pace_stands : (n : NetworkState) (events : List Timed) (w : WorldState) → StandsAsPlanned n events w
    → HavePace (pace_of n) w
pace_stands n events w so place station here =
    let of = member_at n events w so place station here in
    record {
      params = ap (λ (x : Shape). x.setup.params) (sym of.is);
      largest = ap (λ (x : Shape). x.setup.largest) (sym of.is);
    }

pub set_stands : (n : NetworkState) (events : List Timed) (w : WorldState) → StandsAsPlanned n events w
    → SettlingInvariant w
    → AreSet (pace_of n) w
set_stands n events w so claimed place station here =
    let set = claimed.is.world.known.set place station here in
    let is = pace_stands n events w so place station here in
    let params = sym set.starts.params ∙ is.params in
    let largest = sym set.starts.largest ∙ is.largest in
    subst (λ p. IsSetTo p station) (λ i. record { params = params i; largest = largest i }) set

-- ---- a document

pub document_calm : (d : DocumentState) (until : ℕ) (w : WorldState) → IsNetwork d.network → IsReached d until w
    → SettlingInvariant w → DocumentIsAtRest d until → IsCalmFor settling_span_with w
document_calm d until w is reached claimed rest = record {
  pace = pace_of n;
  set = pace_stands n events w so;
  quiet = quiet_stands n events w is so reached.sound rest.calm;
  late = late;
}
  where
    n : NetworkState
    n = d.network

    events : List Timed
    events = events_by until d.events

    so : StandsAsPlanned n events w
    so = reached.stands

    late : w.last_change + settling_span_with (pace_of n) (sync_paths_of w) (length (snapshot_of w).systems) ≤ w.time
    late =
        let count = count_stands n events w so reached.sound in
        subst (λ paths. w.last_change + settling_span_with (pace_of n) paths (length (snapshot_of w).systems) ≤ w.time)
        (paths_stand n events w is so reached.sound) (rw (so.last, count, reached.now) rest.settled)
