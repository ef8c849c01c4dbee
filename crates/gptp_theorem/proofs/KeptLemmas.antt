-- What a delivery, an expiry and a call leave of how a world stands.
use Rattle.std.proofs.Common.{◌≡◌, ◌≢◌, ℕ, Bool, true, false, List, map, Option, Some, None, refl, sym, subst, ◌∙◌}
use Rattle.gptp_vector.specs.declared.port.PortId.{PortId}
use Rattle.gptp_links.specs.declared.link.Direction.{Direction}
use Rattle.gptp_links.specs.Fate.{Draw}
use Rattle.gptp_system.specs.declared.answer.Answer.{Answer}
use Rattle.gptp_setup.specs.declared.timer.Timer.{Timer}
use Rattle.gptp_system.specs.Input.{Input, Frame as FrameHeard, Priority, Expires as TimerExpires}
use Rattle.gptp_system.proofs.StepLemmas.{steps_steady}
use Rattle.gptp_scenario.specs.declared.change.Act.{Act}
use Rattle.gptp_scenario.specs.declared.change.Act.TheVariants.{Deliver, Expire, Change as Changing}
use Rattle.gptp_scenario.specs.declared.change.Timed.{Timed}
use Rattle.gptp_model.specs.declared.done.Done.{Done}
use Rattle.gptp_model.specs.declared.station.Station.{Station}
use Rattle.gptp_model.specs.Act.{Calls, Delivers, TimerRunsOut, Hears, in_state}
use Rattle.gptp_model.specs.Acts.{Acts, at}
use Rattle.gptp_model.specs.Agrees.{stopped}
use Rattle.gptp_model.specs.Changing.{InjectsIf, TellsEnds}
use Rattle.gptp_scenario.specs.Network.{NetworkState}
use Rattle.gptp_model.specs.World.{Channel, WorldState, receiver}
use Rattle.gptp_model.proofs.BareLemmas.{DifferInFlight, calls_bare, same_but_flight, sends_one_bare, takes_bare}
use Rattle.gptp_lists.proofs.PlaceLemmas.{map-set_same}
use Rattle.gptp_invariants.specs.ChoiceSeenLaws.{IsNoChange}
use Rattle.gptp_theorem.specs.Reached.{StandsAsPlanned, shape, channel_wire}
use Rattle.gptp_model.proofs.ActsByLemmas.{PortCallsKeep, ends_told}

-- ---- links

-- links join the same ports, have the same bounds, and are up where they were
abbrev pub KeepLinks : List Channel → List Channel → Type 0
KeepLinks before after = map channel_wire after ≡ map channel_wire before

-- channels that differ in what is in flight alone have the same links
bare_kept : (before after : List Channel) → DifferInFlight before after → KeepLinks before after
bare_kept = same_but_flight channel_wire (λ channel. refl)

pub calls_kept : (place : ℕ) (input : Input) (w : WorldState) (draws : List Draw) (answer : Answer) (w' : WorldState)
    → (calls : Calls place input w draws answer w') → KeepLinks w.net.channels calls.net.channels
calls_kept place input w draws answer w' calls =
    bare_kept w.net.channels calls.net.channels (calls_bare place input w draws answer w' calls)

-- ---- the whole world

-- its systems and links stand as they stood, and the last change is the same
pub record Keeps (w w' : WorldState) : Type 0 where
  pub systems : map shape w'.stations ≡ map shape w.stations
  pub links : KeepLinks w.net.channels w'.net.channels
  pub last : w'.last_change ≡ w.last_change

pub keeps_on : (first second third : WorldState) → Keeps first second → Keeps second third → Keeps first third
keeps_on first second third f g =
    record { systems = g.systems ∙ f.systems; links = g.links ∙ f.links; last = g.last ∙ f.last }

pub same_keeps : (w w' : WorldState) → w' ≡ w → Keeps w w'
same_keeps w w' same = subst (Keeps w) (sym same) (record { systems = refl; links = refl; last = refl })

-- ---- calls

-- a call that sets no priority1
pub calls_keep : (place : ℕ) (input : Input) (w : WorldState) (draws : List Draw) (answer : Answer) (w' : WorldState)
    → ((value : ℕ) → input ≢ Priority value) → Calls place input w draws answer w' → Keeps w w'
calls_keep place input w draws answer w' other k =
    subst (Keeps w) (sym k.is)
    (record {
      systems = map-set_same shape w.stations place k.station called k.here stands;
      links = calls_kept place input w draws answer w' k;
      last = refl;
    })
  where
    called : Station
    called = in_state k.after k.station

    stands : shape called ≡ shape k.station
    stands =
        let same = (steps_steady input w.time k.station.system k.after k.sends answer other k.steps).identity in
        rw same refl

pub port_calls_keep : (input : ℕ → Input) (first : WorldState) → ((port value : ℕ) → input port ≢ Priority value)
    → PortCallsKeep ⊥ input (Keeps first)
port_calls_keep input first other place port w draws answer w' k of keeps =
    keeps_on first w w' keeps (calls_keep place (input port) w draws answer w' (other port) k)

pub tells_keep : (input : ℕ → Input) (channel : Channel) (w : WorldState) (draws : List Draw) (w' : WorldState)
    → ((port value : ℕ) → input port ≢ Priority value) → TellsEnds input channel w draws w' → Keeps w w'
tells_keep input channel w draws w' other k =
    ends_told ⊥ (Keeps w) input (port_calls_keep input w other) channel w draws w' (λ none. absurd none) k
    (same_keeps w w refl)

-- ---- octets that enter a link

pub injects_keep : (up : Bool) (from : PortId) (octets : List ℕ) (w : WorldState) (draws : List Draw) (w' : WorldState)
    → InjectsIf up from octets w draws w' → Keeps w w'
injects_keep false from octets w draws w' k = same_keeps w w' k.1
injects_keep true from octets w draws w' k =
    subst (Keeps w) (sym k.is)
    (record {
      systems = refl;
      links = bare_kept w.net.channels k.net.channels (sends_one_bare w.time from octets k.draw w.net k.net k.sent);
      last = refl;
    })

-- ---- acts

hears_keep : (place port : ℕ) (octets : List ℕ) (w : WorldState) (draws : List Draw) (answer : Option Answer)
    (w' : WorldState) → Hears place port octets w draws answer w' → Keeps w w'
hears_keep place port octets w draws (Some answer) w' hears =
    calls_keep place (FrameHeard port octets) w draws answer w' (λ value e. cc) hears
hears_keep place port octets w draws None w' hears = same_keeps w w' hears.2

delivers_keep : (link : ℕ) (direction : Direction) (octets : List ℕ) (w : WorldState) (draws : List Draw)
    (answer : Option Answer) (w' : WorldState) → Delivers link direction octets w draws answer w' → Keeps w w'
delivers_keep link direction octets w draws answer w' k =
    let taken : WorldState = record w { net = k.net } in
    keeps_on w taken w'
    (record {
      systems = refl;
      links = bare_kept w.net.channels k.net.channels
          (takes_bare link direction w.time octets k.channel w.net k.net k.takes);
      last = refl;
    })
    (hears_keep k.place (receiver direction k.channel).port octets taken draws answer w' k.hears)

expires_keep : (place : ℕ) (timer : Timer) (w : WorldState) (draws : List Draw) (w' : WorldState)
    → TimerRunsOut place timer w draws w' → Keeps w w'
expires_keep place timer w draws w' k =
    let at : WorldState = stopped place timer w in
    keeps_on w at w' (record { systems = refl; links = refl; last = refl })
    (calls_keep place (TimerExpires timer) at draws k.answer w' (λ value e. cc) k.calls)

acts_keep : (act : Act) (w : WorldState) (draws : List Draw) (done : Done) (w' : WorldState) → IsNoChange act
    → Acts act w draws done w' → Keeps w w'
acts_keep (Deliver link direction) w draws done w' none k =
    delivers_keep link direction k.octets w draws k.answer w' k.delivers
acts_keep (Expire number timer) w draws done w' none (told, k) = expires_keep k.place timer w draws w' k.so
acts_keep (Changing change) w draws done w' none k = absurd none

-- ---- it stands as it stood

pub keeps_standing : (n : NetworkState) (events : List Timed) (w w' : WorldState) → Keeps w w'
    → StandsAsPlanned n events w
    → StandsAsPlanned n events w'
keeps_standing n events w w' k so =
    record { systems = k.systems ∙ so.systems; links = k.links ∙ so.links; last = k.last ∙ so.last }

pub acts_stand : (n : NetworkState) (events : List Timed) (act : Act) (w : WorldState) (draws : List Draw) (done : Done)
    (w' : WorldState) → IsNoChange act → Acts act w draws done w' → StandsAsPlanned n events w
    → StandsAsPlanned n events w'
acts_stand n events act w draws done w' none k =
    keeps_standing n events w w' (acts_keep act w draws done w' none k)

pub time_stands : (n : NetworkState) (events : List Timed) (w : WorldState) (time : ℕ) → StandsAsPlanned n events w
    → StandsAsPlanned n events (at time w)
time_stands n events w time so = record { systems = so.systems; links = so.links; last = so.last }
