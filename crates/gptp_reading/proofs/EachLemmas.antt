-- What each live system keeps in every world of a network; and that its Lapse timer runs wherever it may.
use Rattle.std.proofs.Common.{◌≡◌, ℕ, Bool, true, false, List, Option, Some, None, slice_get, sym, ap, subst, ◌∙◌, inl, inr}
use Rattle.std.specs.Prelude.{⊤}
use Rattle.gptp_lists.proofs.MappedLemmas.{mapped}
use Rattle.gptp_lists.proofs.PlaceLemmas.{get-set_all, get-set_same}
use Rattle.gptp_links.specs.Fate.{Draw}
use Rattle.gptp_setup.specs.declared.setup.Setup.{Setup}
use Rattle.gptp_setup.specs.declared.timer.Timer.{Timer}
use Rattle.gptp_setup.specs.declared.timer.Timer.TheVariants as timers
use Rattle.gptp_system.specs.declared.answer.Answer.{Answer}
use Rattle.gptp_system.specs.declared.sending.Sending.{Sending}
use Rattle.gptp_system.specs.Input.{Input, Steps, PortUp, PortDown, Frame as FrameHeard, Expires as TimerExpires, Priority}
use Rattle.gptp_system.specs.Start.{started}
use Rattle.gptp_system.specs.State.{SystemState}
use Rattle.gptp_scenario.specs.declared.change.Act.{Act}
use Rattle.gptp_scenario.specs.declared.change.Act.TheVariants.{Deliver, Expire, Change as Changing}
use Rattle.gptp_scenario.specs.declared.change.Change.{Change}
use Rattle.gptp_scenario.specs.declared.change.Change.TheVariants.{LinkDown, LinkUp, LinkSet, Fail, Recover, Priority1, Inject}
use Rattle.gptp_scenario.specs.Network.{NetworkState}
use Rattle.gptp_model.specs.Act.{Calls, Hears, in_state}
use Rattle.gptp_model.specs.Acts.{Acts, Changes}
use Rattle.gptp_model.specs.Agrees.{stopped}
use Rattle.gptp_model.specs.Ahead.{IsSteady}
use Rattle.gptp_model.specs.Changing.{CallsIfLive, ComesUpIf, FailsIf, GoesDownIf, InjectsIf, RecoversIf, StartsAll, brought_up, fresh, taken_down, with_setup, with_station}
use Rattle.gptp_model.specs.declared.done.Done.{Done}
use Rattle.gptp_model.specs.declared.station.Station.{Station}
use Rattle.gptp_model.proofs.AgreeLemmas.{replaced}
use Rattle.gptp_model.proofs.ActsByLemmas.{PortCallsKeep, ends_told, system_starts, systems_start}
use Rattle.gptp_model.specs.Initial.{initial, station_of}
use Rattle.gptp_model.specs.Sound.{IsSound}
use Rattle.gptp_model.specs.World.{Channel, WorldState, port_id, receiver}
use Rattle.gptp_vector.specs.declared.port.PortId.{PortId}
use Rattle.gptp_reading.proofs.LapseLemmas.{HasLapse, lapse_kept, lapse_starts}

-- an input that isn't a frame
abbrev pub IsNoFrame : Input → Type 0
IsNoFrame (FrameHeard port octets) = ⊥
IsNoFrame (PortUp port) = ⊤
IsNoFrame (PortDown port) = ⊤
IsNoFrame (TimerExpires timer) = ⊤
IsNoFrame (Priority value) = ⊤

-- a live system is so
abbrev pub IsIn : (SystemState → Type 0) → Station → Type 0
IsIn Q station = station.live ≡ true → Q station.system

-- all of them are
abbrev pub Each : (SystemState → Type 0) → WorldState → Type 0
Each Q w = (place : ℕ) (station : Station) → slice_get w.stations place ≡ Some station → IsIn Q station

-- Each step without a frame keeps it, and a system that starts has it.
module _ (Q : SystemState → Type 0)
    (keeps : (input : Input) (now : ℕ) (s s' : SystemState) (sends : List Sending) (answer : Answer)
    → Steps input now s s' sends answer → IsNoFrame input → (input ≡ TimerExpires timers.Lapse → IsSteady s') → Q s
    → Q s')
    (starts : (setup : Setup) (now : ℕ) → Q (started setup now)) where
  -- the world stays, but for what is between the systems
  same_world : (w w' : WorldState) → w' ≡ w → Each Q w → Each Q w'
  same_world w w' same each = subst (Each Q) (sym same) each

  -- ---- calls

  pub calls_keep : (place : ℕ) (input : Input) (w : WorldState) (draws : List Draw) (answer : Answer) (w' : WorldState)
      → (k : Calls place input w draws answer w') → (Q k.station.system → Q k.after) → Each Q w → Each Q w'
  calls_keep place input w draws answer w' k step each =
      subst (Each Q) (sym k.is)
      (get-set_all (IsIn Q) w.stations place k.station (in_state k.after k.station) k.here
      (λ live. step (each place k.station k.here k.live)) each)

  up_keeps : PortCallsKeep ⊥ PortUp (Each Q)
  up_keeps place port w draws answer w' k of =
      calls_keep place (PortUp port) w draws answer w' k
      (keeps (PortUp port) w.time k.station.system k.after k.sends answer k.steps tt (λ is. absurd cc))

  down_keeps : PortCallsKeep ⊥ PortDown (Each Q)
  down_keeps place port w draws answer w' k of =
      calls_keep place (PortDown port) w draws answer w' k
      (keeps (PortDown port) w.time k.station.system k.after k.sends answer k.steps tt (λ is. absurd cc))

  priority_keeps : (place value : ℕ) (w : WorldState) (draws : List Draw) (w' : WorldState)
      → CallsIfLive place (Priority value) w draws w' → Each Q w → Each Q w'
  priority_keeps place value w draws w' (inl (answer, k)) each =
      calls_keep place (Priority value) w draws answer w' k
      (keeps (Priority value) w.time k.station.system k.after k.sends answer k.steps tt (λ is. absurd cc)) each
  priority_keeps place value w draws w' (inr (failed, none, same)) each = same_world w w' same each

  -- ---- starts

  started_keeps : (place : ℕ) (station : Station) (w : WorldState) → slice_get w.stations place ≡ Some station
      → Each Q w → Each Q (replaced place (fresh w.time station) w)
  started_keeps place station w here each =
      get-set_all (IsIn Q) w.stations place station (fresh w.time station) here (λ live. starts station.setup w.time)
      each

  pub all_start : (places : List ℕ) (w : WorldState) (draws : List Draw) (w' : WorldState)
      → StartsAll places w draws w' → Each Q w → Each Q w'
  all_start = systems_start ⊥ (Each Q) up_keeps started_keeps

  -- no system lives before that
  pub none_lives : (n : NetworkState) → Each Q (initial n)
  none_lives n place station here live =
      let (member, there, same) = mapped (station_of n) n.systems place station here in
      let off : false ≡ true = ap (λ (x : Station). x.live) same ∙ live in absurd cc

  -- ---- changes

  goes_down_keeps : (up : Bool) (place : ℕ) (channel : Channel) (w : WorldState) (draws : List Draw) (w' : WorldState)
      → GoesDownIf up place channel w draws w' → Each Q w → Each Q w'
  goes_down_keeps true place channel w draws w' k each =
      ends_told ⊥ (Each Q) PortDown down_keeps channel (record w { net = taken_down place channel w.net }) draws w'
      (λ none. absurd none) k each
  goes_down_keeps false place channel w draws w' (none, same) each = same_world w w' same each

  comes_up_keeps : (up : Bool) (place : ℕ) (channel : Channel) (w : WorldState) (draws : List Draw) (w' : WorldState)
      → ComesUpIf up place channel w draws w' → Each Q w → Each Q w'
  comes_up_keeps false place channel w draws w' k each =
      ends_told ⊥ (Each Q) PortUp up_keeps channel (record w { net = brought_up place channel w.net }) draws w'
      (λ none. absurd none) k each
  comes_up_keeps true place channel w draws w' (none, same) each = same_world w w' same each

  fails_keep : (live : Bool) (place : ℕ) (station : Station) (w : WorldState) (draws : List Draw) (w' : WorldState)
      → slice_get w.stations place ≡ Some station → FailsIf live place station w draws w' → Each Q w → Each Q w'
  fails_keep true place station w draws w' here (none, same) each =
      subst (Each Q) (sym same)
      (get-set_all (IsIn Q) w.stations place station (record station { live = false }) here (λ live. absurd cc) each)
  fails_keep false place station w draws w' here (none, same) each = same_world w w' same each

  recovers_keep : (live : Bool) (place : ℕ) (w : WorldState) (draws : List Draw) (w' : WorldState)
      → RecoversIf live place w draws w' → Each Q w → Each Q w'
  recovers_keep true place w draws w' (none, same) each = same_world w w' same each
  recovers_keep false place w draws w' k each =
      system_starts ⊥ (Each Q) up_keeps started_keeps place w draws w' k each

  injects_keep : (up : Bool) (from : PortId) (octets : List ℕ) (w : WorldState) (draws : List Draw) (w' : WorldState)
      → InjectsIf up from octets w draws w' → Each Q w → Each Q w'
  injects_keep true from octets w draws w' k each = subst (Each Q) (sym k.is) each
  injects_keep false from octets w draws w' (none, same) each = same_world w w' same each

  pub changes_keep : (change : Change) (w : WorldState) (draws : List Draw) (w' : WorldState)
      → Changes change w draws w' → Each Q w → Each Q w'
  changes_keep (LinkDown number port) w draws w' k each =
      goes_down_keeps k.channel.up k.place k.channel w draws w' k.so each
  changes_keep (LinkUp number port) w draws w' k each =
      comes_up_keeps k.channel.up k.place k.channel w draws w' k.so each
  changes_keep (LinkSet number port min max loss) w draws w' k each = subst (Each Q) (sym k.so.1) each
  changes_keep (Fail number) w draws w' k each =
      fails_keep k.station.live k.place k.station w draws w' k.is.here k.so each
  changes_keep (Recover number) w draws w' k each = recovers_keep k.station.live k.place w draws w' k.so each
  changes_keep (Priority1 number value) w draws w' k each =
      priority_keeps k.place value (with_station k.place (with_setup value k.station) w) draws w' k.so
      (get-set_all (IsIn Q) w.stations k.place k.station (with_setup value k.station) k.is.here
      (each k.place k.station k.is.here) each)
  changes_keep (Inject number port octets) w draws w' k each =
      injects_keep k.channel.up (port_id number port) octets w draws w' k.so each

  -- a timer of a system expires
  pub expires_keep : (number : ℕ) (timer : Timer) (w : WorldState) (draws : List Draw) (done : Done)
      (w' : WorldState) → IsSound w' → Acts (Expire number timer) w draws done w' → Each Q w → Each Q w'
  expires_keep number timer w draws done w' sound (told, k) each =
      let c = k.so.calls in
      calls_keep k.place (TimerExpires timer) (stopped k.place timer w) draws k.so.answer w' c
      (keeps (TimerExpires timer) w.time c.station.system c.after c.sends k.so.answer c.steps tt
      (λ is.
      (sound.on_time.stations k.place (in_state c.after c.station)
      (subst (λ (v : WorldState). slice_get v.stations k.place ≡ Some (in_state c.after c.station)) (sym c.is)
      (get-set_same w.stations k.place c.station (in_state c.after c.station) c.here))).steady)) each

-- ---- its Lapse timer runs wherever it may

lapse_keeps : (input : Input) (now : ℕ) (s s' : SystemState) (sends : List Sending) (answer : Answer)
    → Steps input now s s' sends answer → IsNoFrame input → (input ≡ TimerExpires timers.Lapse → IsSteady s')
    → HasLapse s → HasLapse s'
lapse_keeps input now s s' sends answer k own steady has = lapse_kept input now s s' sends answer k steady has

abbrev pub EachLapses : WorldState → Type 0
EachLapses = Each HasLapse

pub lapses_start : (places : List ℕ) (w : WorldState) (draws : List Draw) (w' : WorldState)
    → StartsAll places w draws w' → EachLapses w → EachLapses w'
lapses_start = all_start HasLapse lapse_keeps lapse_starts

pub none_lapses : (n : NetworkState) → EachLapses (initial n)
none_lapses = none_lives HasLapse lapse_keeps lapse_starts

pub acts_lapse : (act : Act) (w : WorldState) (draws : List Draw) (done : Done) (w' : WorldState) → IsSound w'
    → Acts act w draws done w' → EachLapses w → EachLapses w'
acts_lapse (Deliver link direction) w draws done w' sound k each = by k.answer k.delivers.hears
  where
    by : (o : Option Answer)
        → Hears k.delivers.place (receiver direction k.delivers.channel).port k.octets
        (record w { net = k.delivers.net }) draws o w' → EachLapses w'
    by (Some told) c =
        calls_keep HasLapse lapse_keeps lapse_starts k.delivers.place
        (FrameHeard (receiver direction k.delivers.channel).port k.octets) (record w { net = k.delivers.net }) draws
        told w' c
        (lapse_kept (FrameHeard (receiver direction k.delivers.channel).port k.octets) w.time c.station.system c.after
        c.sends told c.steps (λ is. absurd cc)) each
    by None (failed, none, same) = subst EachLapses (sym same) each
acts_lapse (Expire number timer) w draws done w' sound k each =
    expires_keep HasLapse lapse_keeps lapse_starts number timer w draws done w' sound k each
acts_lapse (Changing change) w draws done w' sound (quiet, k) each =
    changes_keep HasLapse lapse_keeps lapse_starts change (record w { last_change = w.time }) draws w' k each
