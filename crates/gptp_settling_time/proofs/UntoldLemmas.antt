-- Before a network begins no port has measured anything, and nothing is told; and calls without frames leave it so.
use Rattle.std.specs.Prelude.{if◌then◌else◌, ⊤}
use Rattle.std.proofs.Common.{◌≡◌, ◌⊎◌, ◌==◌, ℕ, suc, Bool, true, false, List, map, Some, None, slice_get, refl, sym, ap, subst, ◌∙◌, inl, inr}
use Rattle.gptp_lists.specs.Members.{In}
use Rattle.gptp_lists.proofs.MappedLemmas.{mapped}
use Rattle.gptp_lists.proofs.PlaceLemmas.{get-set_all}
use Rattle.gptp_links.specs.declared.link.Direction.{Direction}
use Rattle.gptp_links.specs.declared.link.Direction.TheVariants.{FromA, FromB}
use Rattle.gptp_links.specs.Fate.{Draw}
use Rattle.gptp_pdelay.specs.Peer.{after_interval, reset_peer}
use Rattle.gptp_roles.specs.Selection.{clock_of}
use Rattle.gptp_setup.specs.declared.setup.Setup.{Setup}
use Rattle.gptp_setup.specs.declared.timer.Timer.TheVariants as timers
use Rattle.gptp_scenario.specs.Network.{NetworkState}
use Rattle.gptp_scenario.specs.declared.network.LinkSpec.{LinkSpec}
use Rattle.gptp_system.specs.declared.answer.Answer.{Answer}
use Rattle.gptp_system.specs.declared.port.Port.{Port}
use Rattle.gptp_system.specs.Facts.{AreShown}
use Rattle.gptp_system.specs.Input.{Expires, Frame, Input, IsTimely, PortDown, PortUp, Priority}
use Rattle.gptp_system.specs.Measures.{IsPartAfter, Part, measure_at, only_at, part_answered, part_asked, part_down}
use Rattle.gptp_system.specs.Start.{started}
use Rattle.gptp_system.specs.State.{SystemState}
use Rattle.gptp_system.proofs.MeasureLemmas.{steps_measure}
use Rattle.gptp_system.proofs.StartLemmas.{new_port_at}
use Rattle.gptp_model.specs.Act.{Calls, in_state}
use Rattle.gptp_model.specs.declared.station.Station.{Station}
use Rattle.gptp_model.specs.Initial.{channel_from, channels_of, initial, station_of}
use Rattle.gptp_model.specs.Sound.{AreApart}
use Rattle.gptp_model.specs.World.{Channel, WorldState, world_queue}
use Rattle.gptp_bmca_machine.specs.Frame.{Announce, AnnounceFrame, Lane}
use Rattle.gptp_invariants.specs.ChoiceView.{frame_view, says_announce, touch_view, view}
use Rattle.gptp_invariants.proofs.ChoiceSeenCallLemmas.{calls_seen}
use Rattle.gptp_invariants.proofs.ChoiceSeenLaneLemmas.{lane_from}
use Rattle.gptp_invariants.proofs.ChoiceSendLemmas.{lanes_apart}
use Rattle.gptp_invariants.proofs.ChoiceTouchLemmas.{InputFits}
use Rattle.gptp_invariants.proofs.WorldAnsweringLemmas.{IsAnswering, calls_answering}
use Rattle.gptp_invariants.specs.FailedUnanswered.{IsUnmeasured}
use Rattle.gptp_invariants.proofs.UnmeasuredLemmas.{IsMuteTo, part_stays, unmeasured_off}
use Rattle.gptp_settling_time.proofs.MasterLemmas.{BeginsAtMaster, WasOnLane, answered, master_capable}

-- ---- what has measured nothing

-- none of its ports has measured anything, or is to answer a request
abbrev pub HasMeasuredNothing : Station → Type 0
HasMeasuredNothing station = (i : ℕ) (q : Port) → slice_get station.system.ports i ≡ Some q
    → IsUnmeasured q.peer × (q.respond ≡ None)

-- an input that is no frame
abbrev pub MeasuresNothing : Input → Type 0
MeasuresNothing (Frame p octets) = ⊥
MeasuresNothing input = ⊤

-- so it is no reply
mute_to : (n : ℕ) (input : Input) → MeasuresNothing input → IsMuteTo n input
mute_to n (PortUp p) nothing = tt
mute_to n (PortDown p) nothing = tt
mute_to n (Frame p octets) nothing = absurd nothing
mute_to n (Expires timer) nothing = tt
mute_to n (Priority value) nothing = tt

-- and by which no request is to be answered
only_owing : (p n : ℕ) (f : Part → Part) (x : Part) → (f x).respond ≡ None → x.respond ≡ None
    → (only_at p f n x).respond ≡ None
only_owing p n f x here_none none = by (n == p)
  where
    by : (here : Bool) → (if here then f x else x).respond ≡ None
    by true = here_none
    by false = none

owes_nothing : (s : SystemState) (now : ℕ) (input : Input) (n : ℕ) (x x' : Part) → MeasuresNothing input
    → IsPartAfter s now input n x x' → x.respond ≡ None → x'.respond ≡ None
owes_nothing s now (PortUp p) n x x' nothing is none =
    ap (λ (y : Part). y.respond) is ∙ only_owing p n (part_asked s now reset_peer) x none none
owes_nothing s now (PortDown p) n x x' nothing is none =
    ap (λ (y : Part). y.respond) is ∙ only_owing p n part_down x refl none
owes_nothing s now (Frame p octets) n x x' nothing is none = absurd nothing
owes_nothing s now (Expires (timers.Pdelay p)) n x x' nothing is none =
    ap (λ (y : Part). y.respond) is ∙ only_owing p n (part_asked s now after_interval) x none none
owes_nothing s now (Expires (timers.Respond p)) n x x' nothing is none =
    ap (λ (y : Part). y.respond) is ∙ only_owing p n part_answered x refl none
owes_nothing s now (Expires (timers.Announce p)) n x x' nothing is none = ap (λ (y : Part). y.respond) is ∙ none
owes_nothing s now (Expires (timers.Age p)) n x x' nothing is none = ap (λ (y : Part). y.respond) is ∙ none
owes_nothing s now (Expires timers.Sync) n x x' nothing is none = ap (λ (y : Part). y.respond) is ∙ none
owes_nothing s now (Expires timers.Relay) n x x' nothing is none = ap (λ (y : Part). y.respond) is ∙ none
owes_nothing s now (Expires timers.Lapse) n x x' nothing is none = ap (λ (y : Part). y.respond) is ∙ none
owes_nothing s now (Priority value) n x x' nothing is none = ap (λ (y : Part). y.respond) is ∙ none

pub started_unmeasured : (setup : Setup) (now : ℕ) (live : Bool)
    → HasMeasuredNothing (record { setup = setup; system = started setup now; live = live })
started_unmeasured setup now live i q there =
    let (log, here, is) = new_port_at (clock_of setup.identity) setup.params setup.intervals.items i q there in
    subst (λ (x : Port). IsUnmeasured x.peer × (x.respond ≡ None)) (sym is) ((refl, refl), refl)

-- ---- a world in which nothing is measured or told

pub record IsUntold (w : WorldState) : Type 0 where
  pub measured : (place : ℕ) (station : Station) → slice_get w.stations place ≡ Some station
      → HasMeasuredNothing station
  pub lanes : (j : ℕ) (l : Lane) (f : AnnounceFrame) (a : Announce) → slice_get (view w).lanes j ≡ Some l
      → In f l.frames → says_announce f.octets a → ⊥

module _ (place : ℕ) (input : Input) (w : WorldState) (draws : List Draw) (answer : Answer) (w' : WorldState)
    (k : Calls place input w draws answer w') (nothing : MeasuresNothing input) where
  abbrev called : Station
  called = in_state k.after k.station

  pub called_unmeasured : HasMeasuredNothing k.station → HasMeasuredNothing called
  called_unmeasured unmeasured i q' there =
      let (q, here, part) = steps_measure input w.time k.station.system k.after k.sends answer k.steps i q' there in
      let old = unmeasured i q here in (
        part_stays k.station.system w.time input (suc i) (measure_at q) (measure_at q') (mute_to (suc i) input nothing)
            part old.0,
        owes_nothing k.station.system w.time input (suc i) (measure_at q) (measure_at q') nothing part old.1,
      )

  call_unmeasured : ((other : ℕ) (station : Station) → slice_get w.stations other ≡ Some station
      → HasMeasuredNothing station) → (other : ℕ) (station : Station) → slice_get w'.stations other ≡ Some station
      → HasMeasuredNothing station
  call_unmeasured unmeasured other station there =
      get-set_all HasMeasuredNothing w.stations place k.station called k.here
      (called_unmeasured (unmeasured place k.station k.here)) unmeasured other station
      (ap (λ (v : WorldState). slice_get v.stations other) (sym k.is) ∙ there)

-- what begins at a master port is told where something was measured
master_measured : (w : WorldState) → ((place : ℕ) (station : Station) → slice_get w.stations place ≡ Some station
    → AreShown station.system) → ((place : ℕ) (station : Station) → slice_get w.stations place ≡ Some station
    → HasMeasuredNothing station) → (l : Lane) → BeginsAtMaster (view w) l → ⊥
master_measured w shown unmeasured l master =
    let port = master_capable w shown l master in
    let off = unmeasured_off port.state.peer (unmeasured master.place port.station port.here port.at port.state
    port.there).0 in
    let on = port.capable in
    cc

module _ (place : ℕ) (input : Input) (w : WorldState) (draws : List Draw) (answer : Answer) (w' : WorldState)
    (k : Calls place input w draws answer w') (nothing : MeasuresNothing input)
    (timely : IsTimely k.station.system w.time input) (fits : InputFits input) (is : IsAnswering w)
    (apart : AreApart w) (untold : IsUntold w) where
  pub answering : IsAnswering w'
  answering = calls_answering place input w draws answer w' is k timely fits

  abbrev stations : (other : ℕ) (station : Station) → slice_get w'.stations other ≡ Some station
      → HasMeasuredNothing station
  stations = call_unmeasured place input w draws answer w' k nothing untold.measured

  none_told : (j : ℕ) (l' : Lane) (f : AnnounceFrame) (a : Announce) → slice_get (view w').lanes j ≡ Some l'
      → In f l'.frames → says_announce f.octets a → ⊥
  none_told j l' f a at member said =
      let old = is.stations place k.station k.here in
      let c = calls_seen place input w draws answer w' k old.steady old.its timely
      (is.encodable.stations place k.station k.here).system fits
      (lanes_apart w apart (λ link channel here. (is.encodable.links link channel here).ends)) in
      by (answered says_announce j f a said (touch_view c.touch) (view w) (view w') c.call l' at member)
    where
      by : WasOnLane (view w) j f ⊎ BeginsAtMaster (view w') l' → ⊥
      by (inl was) = untold.lanes j was.lane f a was.there was.among said
      by (inr master) =
          master_measured w' (λ place station here. (answering.stations place station here).steady.shown) stations l'
          master

  pub call_untold : IsUntold w'
  call_untold = record { measured = stations; lanes = none_told }

-- nor is anything before its systems start
pub initial_untold : (n : NetworkState) → IsUntold (initial n)
initial_untold n = record {
  measured = λ place station there.
      let (member, stood, made) = mapped (station_of n) n.systems place station there in
      subst HasMeasuredNothing made (started_unmeasured (station_of n member).setup 0 false);
  lanes = λ j l f a there member said.
      let at = lane_from (channels_of n) j l there in
      let (wire, stood, made) = mapped channel_from n.links at.link at.channel at.here in
      still wire at.direction f
      (subst (λ (c : Channel). In f (map frame_view (world_queue at.direction c))) (sym made)
      (subst (λ (x : Lane). In f x.frames) at.is member));
}
  where
    still : (wire : LinkSpec) (direction : Direction) (f : AnnounceFrame)
        → In f (map frame_view (world_queue direction (channel_from wire))) → ⊥
    still wire FromA f member = member
    still wire FromB f member = member
