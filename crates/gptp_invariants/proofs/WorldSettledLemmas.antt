-- A world stays one.
use Rattle.std.proofs.Common.{◌≤◌, ℕ, zero, suc, ℤ, List, Option, arith}
use Rattle.gptp_links.specs.declared.bounds.Bounds.{Bounds}
use Rattle.gptp_links.specs.Fate.{Draw}
use Rattle.gptp_lists.proofs.PlaceLemmas.{member_there}
use Rattle.gptp_vector.specs.declared.port.PortId.{PortId}
use Rattle.gptp_setup.specs.Intervals.{interval_of}
use Rattle.gptp_setup.specs.SettlingParams.{SettlingParams, largest_interval}
use Rattle.gptp_system.specs.Steps.{HasPortNumber}
use Rattle.gptp_scenario.specs.declared.change.Act.{Act}
use Rattle.gptp_scenario.specs.declared.change.Act.TheVariants.{Deliver, Expire, Change as Changing}
use Rattle.gptp_scenario.specs.declared.change.Change.TheVariants.{LinkDown, LinkUp, LinkSet, Fail, Recover, Priority1, Inject}
use Rattle.gptp_scenario.specs.declared.change.Timed.{Timed}
use Rattle.gptp_model.specs.declared.done.Done.{Done}
use Rattle.gptp_model.specs.Acts.{Acts, IsReadyAct, at}
use Rattle.gptp_scenario.specs.Allowed.{IsFitAct}
use Rattle.gptp_model.specs.Course.{WasDone}
use Rattle.gptp_scenario.specs.Prompt.{DelayFitsInterval}
use Rattle.gptp_model.specs.Prompt.{DelaysFitIntervals}
use Rattle.gptp_model.specs.Sound.{IsSound}
use Rattle.gptp_model.specs.World.{WorldState}
use Rattle.gptp_model.proofs.SoundLemmas.{acts_sound, later_sound}
use Rattle.gptp_invariants.proofs.WorldKnownLemmas.{acts_known}
use Rattle.gptp_invariants.proofs.WorldLaterLemmas.{later_known}
use Rattle.gptp_invariants.specs.WorldEncodableLaws.{SetsAnOctet}
use Rattle.gptp_invariants.specs.ChoiceSeenLaws.{IsNoChange}
use Rattle.gptp_invariants.proofs.WorldActEncodableLemmas.{acts_encodable}
use Rattle.gptp_invariants.proofs.WorldBetweenLemmas.{acts_between}
use Rattle.gptp_invariants.specs.ChoiceSettlesAsMachine.{IsWorld}
use Rattle.gptp_invariants.specs.WorldKnown.{AreSet, IsLogAmong}
use Rattle.gptp_invariants.specs.WorldStanding.{StationsHavePort}
use Rattle.gptp_invariants.proofs.WorldSetLemmas.{log_among, log_shorter}

-- ---- what is prompt

-- a port of a system is set up with an interval
log_of_port : (p : SettlingParams) (w : WorldState) → AreSet p w → (port : PortId) → StationsHavePort w.stations port
    → (log : ℤ) × IsLogAmong w.stations log
log_of_port p w set port k = go port.port k.is
  where
    go : (n : ℕ) → HasPortNumber k.station.system n → (log : ℤ) × IsLogAmong w.stations log
    go zero is = let least = is.least in absurd (omega arith)
    go (suc i) is =
        let most = is.most in
        let (q, there) = member_there k.station.system.ports i (omega arith) in
        (q.log_interval, log_among p w.stations k.place k.station k.here (set k.place k.station k.here) i q there)

-- where a link is set, a port is at its end, so that its delay isn't above the largest interval either
prompt_most : (p : SettlingParams) (act : Act) (w : WorldState) (draws : List Draw) (done : Done) (w' : WorldState)
    → IsWorld p w
    → DelaysFitIntervals w act → Acts act w draws done w' → DelayFitsInterval (largest_interval p) act
prompt_most p (Deliver link direction) w draws done w' is prompt k = tt
prompt_most p (Expire number timer) w draws done w' is prompt k = tt
prompt_most p (Changing (LinkDown number port)) w draws done w' is prompt k = tt
prompt_most p (Changing (LinkUp number port)) w draws done w' is prompt k = tt
prompt_most p (Changing (LinkSet number port least greatest loss)) w draws done w' is prompt k =
    let channel = k.1.channel in
    let (log, at) = log_of_port p w is.known.set channel.a (is.between k.1.place channel k.1.is.here).a in
    let short = log_shorter p w is.known.set log at in
    let most : greatest ≤ interval_of log = prompt at.place at.station log at.here at.among in
    omega arith
prompt_most p (Changing (Fail number)) w draws done w' is prompt k = tt
prompt_most p (Changing (Recover number)) w draws done w' is prompt k = tt
prompt_most p (Changing (Priority1 number value)) w draws done w' is prompt k = tt
prompt_most p (Changing (Inject number port octets)) w draws done w' is prompt k = tt

-- ---- acts and time

module _ (p : SettlingParams) (act : Act) (w : WorldState) (draws : List Draw) (done : Done) (w' : WorldState) where
  pub acts_stay : IsFitAct act → DelaysFitIntervals w act → SetsAnOctet act → Acts act w draws done w' → IsWorld p w
      → IsWorld p w'
  acts_stay fit prompt octet k is = record {
    sound = acts_sound act w draws done w' is.sound fit k;
    encodable = acts_encodable act w draws done w' is.sound is.encodable octet k;
    known = acts_known p act w draws done w' is.sound (prompt_most p act w draws done w' is prompt k) prompt k is.known;
    between = acts_between act w draws done w' is.sound is.between k;
  }

-- an act that changes nothing of the network keeps every limit
pub still_acts_stay : (p : SettlingParams) (act : Act) (w : WorldState) (draws : List Draw) (done : Done)
    (w' : WorldState)
    → IsNoChange act → Acts act w draws done w' → IsWorld p w → IsWorld p w'
still_acts_stay p (Deliver link direction) w draws done w' none k is =
    acts_stay p (Deliver link direction) w draws done w' tt (λ place station log here among. tt) tt k is
still_acts_stay p (Expire number timer) w draws done w' none k is =
    acts_stay p (Expire number timer) w draws done w' tt (λ place station log here among. tt) tt k is
still_acts_stay p (Changing change) w draws done w' none k is = absurd none

pub time_stays : (p : SettlingParams) (w : WorldState) (time : ℕ) → w.time ≤ time → IsSound (at time w) → IsWorld p w
    → IsWorld p (at time w)
time_stays p w time later sound is = record {
  sound = sound;
  encodable = record { stations = is.encodable.stations; links = is.encodable.links };
  known = later_known p w time later is.known;
  between = is.between;
}

-- nothing is due before an act that is ready
pub ready_stays : (p : SettlingParams) (act : Act) (time : ℕ) (w : WorldState) → IsReadyAct act time w → IsWorld p w
    → IsWorld p (at time w)
ready_stays p act time w ready is =
    let timely = ready.timely in
    time_stays p w time timely.now (later_sound w time w.last_change is.sound timely.first) is

-- so a world stays one from act to act
pub done_stays : {F : Type 0} (answers : Bounds → ℕ → F → Option ℕ → F → Type 0) (p : SettlingParams) (timed : Timed)
    (fate fate_after : F) (w w' : WorldState) (done : Done) → IsFitAct timed.act → DelaysFitIntervals w timed.act
    → SetsAnOctet timed.act → WasDone answers timed fate fate_after w w' done → IsWorld p w → IsWorld p w'
done_stays answers p timed fate fate_after w w' done fit prompt octet k is =
    acts_stay p timed.act (at timed.at w) k.draws done w' fit prompt octet k.acts
    (ready_stays p timed.act timed.at w k.ready is)
