-- What each act does to what is shown of systems, and what is told of it.
use Rattle.std.proofs.Common.{◌≡◌, ℕ, List, Option, Some, None, option_map, slice_get, sym, ap, ◌∙◌}
use Rattle.std.proofs.lemmas.Option.{same_Some}
use Rattle.gptp_model.specs.declared.done.Done.{Done}
use Rattle.gptp_model.specs.declared.done.Done.TheVariants.{Heard, Quiet}
use Rattle.gptp_model.specs.declared.station.Station.{Station}
use Rattle.gptp_model.specs.Act.{Calls, Delivers, TimerRunsOut, Hears}
use Rattle.gptp_model.specs.Acts.{AnySystem, AtSystem, Delivery}
use Rattle.gptp_model.specs.World.{Channel, WorldState, receiver}
use Rattle.gptp_links.specs.Fate.{Draw}
use Rattle.gptp_links.specs.declared.link.Direction.{Direction}
use Rattle.gptp_setup.specs.declared.timer.Timer.{Timer}
use Rattle.gptp_system.specs.Input.{Input}
use Rattle.gptp_system.specs.declared.answer.Answer.{Answer}
use Rattle.gptp_system.specs.State.{clock}
use Rattle.gptp_timeline.specs.Shown.{live_system, shown, shown_of}
use Rattle.gptp_timeline.proofs.ShownLemmas.{calls_other}

-- every system but that with a clock is what it was, and shows what it did
abbrev pub OthersLive : ℕ → WorldState → WorldState → Type 0
OthersLive name w w' = (other : ℕ) → (other ≡ name → ⊥) → live_system other w' ≡ live_system other w

abbrev pub OthersStay : ℕ → WorldState → WorldState → Type 0
OthersStay name w w' = (other : ℕ) → (other ≡ name → ⊥) → shown other w' ≡ shown other w

others_show : (name : ℕ) (w w' : WorldState) → OthersLive name w w' → OthersStay name w w'
others_show name w w' live other apart = ap (option_map shown_of) (live other apart)

-- a call of a system that stands at a place
called : (place : ℕ) (input : Input) (w : WorldState) (draws : List Draw) (answer : Answer) (w' : WorldState)
    (station : Station) (name : ℕ) → slice_get w.stations place ≡ Some station → clock station.system ≡ name
    → Calls place input w draws answer w' → OthersLive name w w'
called place input w draws answer w' station name here named calls other apart =
    let is : calls.station ≡ station = same_Some calls.station station (sym calls.here ∙ here) in
    calls_other other place input w draws answer w' calls
    (λ e. apart (sym e ∙ ap (λ (s : Station). clock s.system) is ∙ named))

-- an expiry
pub expiry_others : (name : ℕ) (timer : Timer) (w : WorldState) (draws : List Draw) (w' : WorldState)
    → AtSystem name w (λ place station. TimerRunsOut place timer w draws w') → OthersStay name w w'
expiry_others name timer w draws w' at =
    others_show name w w'
    (called at.place _ _ draws at.so.answer w' at.station name at.is.here at.is.named at.so.calls)

-- a frame is heard
hears_alone : (place port : ℕ) (octets : List ℕ) (w : WorldState) (draws : List Draw) (answer : Option Answer)
    (w' : WorldState) (station : Station) (name : ℕ) → slice_get w.stations place ≡ Some station
    → clock station.system ≡ name → Hears place port octets w draws answer w' → OthersLive name w w'
hears_alone place port octets w draws None w' station name here named (failed, none, is) =
    λ other apart. ap (live_system other) is
hears_alone place port octets w draws (Some answer) w' station name here named calls =
    called place _ w draws answer w' station name here named calls

-- the system at the end of a link is that of which is told
hearer_named : (link : ℕ) (direction : Direction) (octets : List ℕ) (w : WorldState) (draws : List Draw)
    (answer : Option Answer) (w' : WorldState) (channel : Channel) (name : ℕ)
    → slice_get w.net.channels link ≡ Some channel → name ≡ (receiver direction channel).clock
    → (delivers : Delivers link direction octets w draws answer w') → clock delivers.station.system ≡ name
hearer_named link direction octets w draws answer w' channel name here told delivers =
    let same : delivers.channel ≡ channel = same_Some delivers.channel channel (sym delivers.takes.here ∙ here) in
    delivers.is_end ∙ ap (λ (c : Channel). (receiver direction c).clock) same ∙ sym told

-- every system but that which heard it is what it was, and shows what it did
abbrev pub HearerAlone : Done → WorldState → WorldState → Type 0
HearerAlone Quiet w w' = ⊥
HearerAlone (Heard name port answer frame) w w' = OthersLive name w w'

pub delivery_alone : (link : ℕ) (direction : Direction) (done : Done) (w : WorldState) (draws : List Draw)
    (w' : WorldState) → Delivery link direction done w draws w' → HearerAlone done w w'
delivery_alone link direction Quiet w draws w' d = absurd d.told
delivery_alone link direction (Heard name port answer frame) w draws w' d =
    hears_alone d.delivers.place _ d.octets _ draws d.answer w' d.delivers.station name d.delivers.there
    (hearer_named link direction d.octets w draws d.answer w' d.channel name d.here d.told.0 d.delivers)
    d.delivers.hears

abbrev pub HearerShows : Done → WorldState → WorldState → Type 0
HearerShows Quiet w w' = ⊥
HearerShows (Heard name port answer frame) w w' = OthersStay name w w'

pub delivery_others : (link : ℕ) (direction : Direction) (done : Done) (w : WorldState) (draws : List Draw)
    (w' : WorldState) → Delivery link direction done w draws w' → HearerShows done w w'
delivery_others link direction Quiet w draws w' d = absurd d.told
delivery_others link direction (Heard name port answer frame) w draws w' d =
    others_show name w w' (delivery_alone link direction (Heard name port answer frame) w draws w' d)

-- and that is one of the world
abbrev pub HearerStands : Done → WorldState → Type 0
HearerStands Quiet w = ⊥
HearerStands (Heard name port answer frame) w = AtSystem name w AnySystem

pub delivery_stands : (link : ℕ) (direction : Direction) (done : Done) (w : WorldState) (draws : List Draw)
    (w' : WorldState) → Delivery link direction done w draws w' → HearerStands done w
delivery_stands link direction Quiet w draws w' d = absurd d.told
delivery_stands link direction (Heard name port answer frame) w draws w' d = record {
  place = d.delivers.place;
  station = d.delivers.station;
  is = record {
    here = d.delivers.there;
    named = hearer_named link direction d.octets w draws d.answer w' d.channel name d.here d.told.0 d.delivers;
  };
  so = tt;
}
