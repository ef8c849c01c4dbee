-- No system expects time as a world begins: none has measured anything, so none has a Slave port.
use Rattle.std.proofs.Common.{◌≡◌, ◌==◌, ℕ, zero, suc, ◌+◌, Bool, true, false, List, [], ◌∷◌, Option, Some, None, if◌then◌else◌, length, option_map, slice_get, refl, sym, subst, inl, inr}
use Rattle.std.specs.Prelude.{⊤}
use Rattle.std.specs.List.{range_with_len}
use Rattle.gptp_model.specs.declared.station.Station.{Station}
use Rattle.gptp_model.specs.Act.{in_state}
use Rattle.gptp_model.specs.Changing.{fresh, StartsAll}
use Rattle.gptp_model.specs.Course.{Begun}
use Rattle.gptp_model.specs.Initial.{initial, setup_of, station_of}
use Rattle.gptp_model.specs.World.{WorldState}
use Rattle.gptp_model.proofs.ActsByLemmas.{PortCallsKeep, systems_start}
use Rattle.gptp_links.specs.declared.bounds.Bounds.{Bounds}
use Rattle.gptp_links.specs.Fate.{Draw}
use Rattle.gptp_lists.proofs.MappedLemmas.{mapped}
use Rattle.gptp_lists.proofs.PlaceLemmas.{get-set_all}
use Rattle.gptp_pdelay.specs.Peer.{reset_peer}
use Rattle.gptp_scenario.specs.Network.{NetworkState}
use Rattle.gptp_setup.specs.Intervals.{interval_of}
use Rattle.gptp_setup.specs.declared.setup.Setup.{Setup}
use Rattle.gptp_system.specs.declared.port.Port.{Port}
use Rattle.gptp_system.specs.declared.sending.Sending.{Sending}
use Rattle.gptp_system.specs.Input.{PortUp}
use Rattle.gptp_system.specs.Measuring.{asking, is_turned, ComesUp, TurnsIf}
use Rattle.gptp_system.specs.Start.{started}
use Rattle.gptp_system.specs.State.{change, clock, number, SystemState, stamp_time, with_peer}
use Rattle.gptp_system.proofs.ChangedLemmas.{change-get, Changed}
use Rattle.gptp_system.proofs.SystemLemmas.{is_new}
use Rattle.gptp_timeline.specs.Shown.{is_expecting, live_among, shown, shown_of}

-- ---- one system

-- a port that has measured nothing
abbrev pub Unmeasured : Port → Type 0
Unmeasured q = q.peer.last ≡ None

-- it has no Slave port, and no port has measured anything
pub record HasMeasuredNothing (s : SystemState) : Type 0 where
  pub slave : s.slave ≡ None
  pub ports : (i : ℕ) (q : Port) → slice_get s.ports i ≡ Some q → Unmeasured q

starts_so : (setup : Setup) (now : ℕ) → HasMeasuredNothing (started setup now)
starts_so setup now = record { slave = refl; ports = (is_new setup now).unmeasured }

-- where a port changes and measures nothing by it, none has measured anything
changed_ports : (p : ℕ) (f : Port → Port) (qs : List Port) → ((q : Port) → Unmeasured q → Unmeasured (f q))
    → ((i : ℕ) (q : Port) → slice_get qs i ≡ Some q → Unmeasured q)
    → (i : ℕ) (q : Port) → slice_get (change f p qs) i ≡ Some q → Unmeasured q
changed_ports p f qs keeps all i q there = by (change-get f p qs i q there)
  where
    by : Changed f (p ≡ suc i) qs i q → Unmeasured q
    by (x, at, inl (here, is)) = subst Unmeasured (sym is) (keeps x (all i x at))
    by (x, at, inr (elsewhere, is)) = subst Unmeasured (sym is) (all i x at)

-- a port that begins anew doesn't become asCapable, nor stop being so
unturned : (p : ℕ) (s : SystemState) → HasMeasuredNothing s → is_turned reset_peer (number s.ports p) ≡ false
unturned p s nothing = by p
  where
    by_port : (i : ℕ) (o : Option Port) → slice_get s.ports i ≡ o → is_turned reset_peer o ≡ false
    by_port i None there = refl
    by_port i (Some q) there = rw (nothing.ports i q there) refl

    by : (p : ℕ) → is_turned reset_peer (number s.ports p) ≡ false
    by zero = refl
    by (suc i) = by_port i (slice_get s.ports i) refl

-- its link comes up
comes_up : (p now : ℕ) (s s' : SystemState) (sends : List Sending) → ComesUp p now s s' sends → HasMeasuredNothing s
    → HasMeasuredNothing s'
comes_up p now s s' sends k nothing =
    let becomes : TurnsIf false p reset_peer now s k.between k.first =
    subst (λ t. TurnsIf t p reset_peer now s k.between k.first) (unturned p s nothing) k.turns in
    let reset : SystemState = with_peer p reset_peer s in
    let between : HasMeasuredNothing reset = record {
      slave = nothing.slave;
      ports = changed_ports p (λ q. record q { peer = reset_peer q.peer }) s.ports (λ q none. refl) nothing.ports;
    } in
    let same : HasMeasuredNothing k.between = subst HasMeasuredNothing (sym becomes.state) between in
    subst HasMeasuredNothing (sym k.state) (record {
      slave = same.slave;
      ports = changed_ports p (asking (stamp_time k.between now) (now + interval_of k.between.params.pdelay))
          k.between.ports (λ q none. none) same.ports;
    })

-- ---- all systems

abbrev pub NoneMeasured : List Station → Type 0
NoneMeasured stations =
    (place : ℕ) (station : Station) → slice_get stations place ≡ Some station → HasMeasuredNothing station.system

calls_so : PortCallsKeep ⊤ PortUp (λ w. NoneMeasured w.stations)
calls_so place p w draws answer w' k of all =
    subst (λ (v : WorldState). NoneMeasured v.stations) (sym k.is)
    (get-set_all (λ (x : Station). HasMeasuredNothing x.system) w.stations place k.station
    (in_state k.after k.station) k.here
    (comes_up p w.time k.station.system k.after k.sends k.steps (all place k.station k.here)) all)

starts_all : (places : List ℕ) (w : WorldState) (draws : List Draw) (w' : WorldState) → StartsAll places w draws w'
    → NoneMeasured w.stations → NoneMeasured w'.stations
starts_all =
    systems_start ⊤ (λ w. NoneMeasured w.stations) calls_so
    (λ place station w here.
    get-set_all (λ (x : Station). HasMeasuredNothing x.system) w.stations place station (fresh w.time station) here
    (starts_so station.setup w.time))

initially : (n : NetworkState) → NoneMeasured (initial n).stations
initially n place station there =
    let (member, here, is) = mapped (station_of n) n.systems place station there in
    subst (λ (x : Station). HasMeasuredNothing x.system) is (starts_so (setup_of n member) 0)

-- ---- none expects time

expects_not : (name : ℕ) (stations : List Station) → NoneMeasured stations
    → is_expecting (option_map shown_of (live_among name stations)) ≡ false
expects_not name [] all = refl
expects_not name (x ∷ xs) all =
    by (clock x.system == name) x.live (expects_not name xs (λ place station there. all (suc place) station there))
  where
    by : (here live : Bool) → is_expecting (option_map shown_of (live_among name xs)) ≡ false
        → is_expecting (option_map shown_of
        (if here then (if live then Some x.system else None) else live_among name xs)) ≡ false
    by true true rest = rw (all 0 x refl).slave refl
    by true false rest = refl
    by false live rest = rest

pub none_expects : {F : Type 0} (answers : Bounds → ℕ → F → Option ℕ → F → Type 0) (n : NetworkState)
    (fate fate_after : F) (w : WorldState) → Begun answers n fate fate_after w
    → (name : ℕ) → is_expecting (shown name w) ≡ false
none_expects answers n fate fate_after w k name =
    expects_not name w.stations (starts_all (range_with_len 0 (length n.systems)) (initial n) k.draws w k.starts
    (initially n))
