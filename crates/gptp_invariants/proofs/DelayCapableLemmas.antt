-- Each port of a live system at which a link of the snapshot is becomes capable.
use Rattle.std.proofs.Common.{◌≡◌, ◌≤◌, ◌+◌, ◌*◌, ℕ, suc, true, Some, slice_get, sym, ap, ◌∙◌}
use Rattle.gptp_graph.specs.Snapshot.{IsLinked, Joins, PortIdentity}
use Rattle.gptp_pdelay.specs.Peer.{is_capable}
use Rattle.gptp_receipt.specs.declared.held.Held.{Held}
use Rattle.gptp_system.specs.declared.port.Port.{Port}
use Rattle.gptp_setup.specs.SettlingParams.{SettlingParams, largest_interval}
use Rattle.gptp_system.specs.State.{own}
use Rattle.gptp_model.specs.declared.station.Station.{Station}
use Rattle.gptp_scenario.specs.Params.{KeepPace}
use Rattle.gptp_model.specs.World.{WorldState}
use Rattle.gptp_invariants.specs.DelayLinkView.{link_setting}
use Rattle.gptp_invariants.proofs.DelayWatchLemmas.{watched_capable}
use Rattle.gptp_invariants.specs.ChoiceView.{port_identity_number}
use Rattle.gptp_invariants.specs.ChoiceCalm.{HaveQuietLinks}
use Rattle.gptp_invariants.specs.WorldStanding.{snapshot_of}
use Rattle.gptp_invariants.specs.ChoiceSettlesAsMachine.{IsWorld, start_of}
use Rattle.gptp_invariants.specs.DelayWatch.{AreUsedCapable, IsCapablePort, GoodLinksMeasure}
use Rattle.gptp_invariants.proofs.DelayUsedLinkLemmas.{used_watched}

-- ---- a port at a link of the snapshot

module _ (p : SettlingParams) (w : WorldState) (pace : KeepPace p) (is : IsWorld p w)
    (quiet : HaveQuietLinks p.params w)
    (watches : GoodLinksMeasure p w) (late : start_of p w ≤ w.time) (place : ℕ) (station : Station)
    (here : slice_get w.stations place ≡ Some station) (live : station.live ≡ true) where
  -- the link is watched, so its port is capable
  link_capable : (i : ℕ) (q : Port) (to : PortIdentity) → slice_get station.system.ports i ≡ Some q
      → Joins (snapshot_of w) (port_identity_number (own station.system (suc i))) to → is_capable q.peer ≡ true
  link_capable i q to there joins =
      let x = used_watched p w pace is quiet watches place station here live i q to there joins in
      let past : w.last_change + ((link_setting x.at w x.watched.link).allowed + 5) * largest_interval p ≤ w.time =
      rw x.allowed late in
      ap (λ (state : Port). is_capable state.peer) (sym x.state)
      ∙ watched_capable x.at w.last_change (largest_interval p) w x.watched x.period past

  port_capable : (i : ℕ) (h : Held) (q : Port) → slice_get station.system.held i ≡ Some h
      → slice_get station.system.ports i ≡ Some q
      → IsLinked (snapshot_of w) (port_identity_number (own station.system (suc i))) → IsCapablePort h q
  port_capable i h q holds there (to, joins) =
      let shown = (is.sound.on_time.stations place station here).steady.shown in
      let capable = link_capable i q to there joins in
      record { capable = capable; enabled = (shown.each i h q holds there).on capable }

pub used_capable : (p : SettlingParams) (w : WorldState) → KeepPace p → IsWorld p w → HaveQuietLinks p.params w
    → GoodLinksMeasure p w
    → start_of p w ≤ w.time → AreUsedCapable w
used_capable p w pace is quiet watches late place station here live =
    port_capable p w pace is quiet watches late place station here live
