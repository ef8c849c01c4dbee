-- Every act leaves ports measuring only at links that are up.
use Rattle.std.proofs.Common.{◌≡◌, ℕ, Bool, true, false, List, Option, Some, None, IsSome, slice_get, refl, sym, subst}
use Rattle.std.specs.Prelude.{IsSomeAnd}
use Rattle.gptp_vector.specs.declared.port.PortId.{PortId}
use Rattle.gptp_links.specs.declared.bounds.Bounds.{Bounds}
use Rattle.gptp_links.specs.declared.link.Direction.{Direction}
use Rattle.gptp_links.specs.Fate.{Draw}
use Rattle.gptp_system.specs.declared.answer.Answer.{Answer}
use Rattle.gptp_setup.specs.declared.timer.Timer.{Timer}
use Rattle.gptp_setup.specs.declared.timer.Timer.TheVariants as timers
use Rattle.gptp_system.specs.Input.{Frame, Expires as TimerExpires, Priority}
use Rattle.gptp_system.specs.State.{due}
use Rattle.gptp_scenario.specs.declared.change.Act.{Act}
use Rattle.gptp_scenario.specs.declared.change.Act.TheVariants.{Deliver, Expire, Change as Changing}
use Rattle.gptp_scenario.specs.declared.change.Change.{Change}
use Rattle.gptp_scenario.specs.declared.change.Change.TheVariants.{LinkDown, LinkUp, LinkSet, Fail, Recover, Priority1, Inject}
use Rattle.gptp_model.specs.declared.done.Done.{Done}
use Rattle.gptp_model.specs.declared.station.Station.{Station}
use Rattle.gptp_model.specs.Act.{Delivers, TimerRunsOut, Hears}
use Rattle.gptp_model.specs.Acts.{Acts, Changes, set_to}
use Rattle.gptp_model.specs.Agrees.{stopped}
use Rattle.gptp_model.specs.Changing.{CallsIfLive, FailsIf, InjectsIf, with_bounds, with_setup, with_station}
use Rattle.gptp_model.specs.Sound.{IsWired}
use Rattle.gptp_model.specs.World.{Channel, WorldState, port_id, receiver}
use Rattle.gptp_model.proofs.WiredLemmas.{time_wired}
use Rattle.gptp_invariants.specs.DelayLinked.{MeasureLinks}
use Rattle.gptp_model.proofs.ActsByLemmas.{expires_timely}
use Rattle.gptp_invariants.proofs.DelayTimersLemmas.{sends_one_links, set_links, takes_links}
use Rattle.gptp_invariants.proofs.DelayOnLinkLemmas.{calls_measure, net_measure, replaced_measure, station_measure}
use Rattle.gptp_invariants.proofs.DelayComesUpLemmas.{calls_if_live_measure, comes_up_measures}
use Rattle.gptp_invariants.proofs.DelayGoesDownLemmas.{goes_down_measures}
use Rattle.gptp_invariants.proofs.DelayStartsLemmas.{recovers_measure}

-- ---- deliveries and expiries

delivers_measure : (link : ℕ) (direction : Direction) (octets : List ℕ) (w : WorldState) (draws : List Draw)
    (answer : Option Answer) (w' : WorldState) → Delivers link direction octets w draws answer w' → MeasureLinks w
    → MeasureLinks w'
delivers_measure link direction octets w draws answer w' k measure = by answer k.hears
  where
    emptied : WorldState
    emptied = record w { net = k.net }

    taken : MeasureLinks emptied
    taken =
        net_measure w k.net (takes_links link direction w.time octets k.channel w.net k.net k.takes) measure

    by : (a : Option Answer) → Hears k.place (receiver direction k.channel).port octets emptied draws a w'
        → MeasureLinks w'
    by (Some one) c =
        calls_measure k.place (Frame (receiver direction k.channel).port octets) emptied draws one w' c
        (λ n is. absurd cc) (λ n is. absurd cc) taken
    by None (failed, none, is) = subst MeasureLinks (sym is) taken

some_of : (o : Option ℕ) (So : ℕ → Type 0) → IsSomeAnd o So → IsSome o
some_of None So some = absurd some
some_of (Some x) So some = refl

expires_measure : (place : ℕ) (timer : Timer) (w : WorldState) (draws : List Draw) (w' : WorldState)
    → TimerRunsOut place timer w draws w' → MeasureLinks w → MeasureLinks w'
expires_measure place timer w draws w' k =
    calls_measure place (TimerExpires timer) (stopped place timer w) draws k.answer w' k.calls
    (λ n is. let same : timer ≡ timers.Pdelay n = cc in
    subst (λ t. IsSome (due t k.calls.station.system)) same
    (some_of (due timer k.calls.station.system) _ (expires_timely place timer w draws w' k)))
    (λ n is. absurd cc)

-- ---- other changes

fails_measure : (live : Bool) (place : ℕ) (station : Station) (w : WorldState) (draws : List Draw) (w' : WorldState)
    → slice_get w.stations place ≡ Some station → MeasureLinks w → FailsIf live place station w draws w'
    → MeasureLinks w'
fails_measure true place station w draws w' here measure (none, is) =
    subst MeasureLinks (sym is)
    (replaced_measure w place station (record station { live = false }) here (λ live n up. absurd cc) measure)
fails_measure false place station w draws w' here measure (none, is) = subst MeasureLinks (sym is) measure

prioritized_measure : (value place : ℕ) (station : Station) (w : WorldState) (draws : List Draw) (w' : WorldState)
    → slice_get w.stations place ≡ Some station → MeasureLinks w
    → CallsIfLive place (Priority value) (with_station place (with_setup value station) w) draws w' → MeasureLinks w'
prioritized_measure value place station w draws w' here measure =
    let set : WorldState = with_station place (with_setup value station) w in
    calls_if_live_measure place (Priority value) set draws w' (λ s n is. absurd cc) (λ x there n is. absurd cc)
    (station_measure w place station (with_setup value station) here (measure place station here) measure)

bounds_measure : (bounds : Bounds) (place : ℕ) (channel : Channel) (w : WorldState)
    → slice_get w.net.channels place ≡ Some channel → MeasureLinks w
    → MeasureLinks (record w { net = with_bounds bounds place channel w.net })
bounds_measure bounds place channel w here measure =
    net_measure w (with_bounds bounds place channel w.net)
    (set_links w.net.channels place channel (record channel { bounds = bounds }) here refl refl (λ up. up)) measure

injects_measure : (up : Bool) (from : PortId) (octets : List ℕ) (w : WorldState) (draws : List Draw) (w' : WorldState)
    → MeasureLinks w → InjectsIf up from octets w draws w' → MeasureLinks w'
injects_measure false from octets w draws w' measure (none, is) = subst MeasureLinks (sym is) measure
injects_measure true from octets w draws w' measure k =
    subst MeasureLinks (sym k.is)
    (net_measure w k.net (sends_one_links w.time from octets k.draw w.net k.net k.sent) measure)

changes_measure : (c : Change) (w : WorldState) (draws : List Draw) (w' : WorldState) → IsWired w → MeasureLinks w
    → Changes c w draws w' → MeasureLinks w'
changes_measure (LinkDown number port) w draws w' wired measure k =
    goes_down_measures k.channel.up k.place k.channel w draws w' k.is.here wired measure k.so
changes_measure (LinkUp number port) w draws w' wired measure k =
    comes_up_measures k.channel.up k.place k.channel w draws w' k.is.here measure k.so
changes_measure (LinkSet number port least greatest loss) w draws w' wired measure k =
    subst MeasureLinks (sym k.so.1)
    (bounds_measure (set_to least greatest loss k.channel) k.place k.channel w k.is.here measure)
changes_measure (Fail number) w draws w' wired measure k =
    fails_measure k.station.live k.place k.station w draws w' k.is.here measure k.so
changes_measure (Recover number) w draws w' wired measure k =
    recovers_measure k.station.live k.place w draws w' measure k.so
changes_measure (Priority1 number value) w draws w' wired measure k =
    prioritized_measure value k.place k.station w draws w' k.is.here measure k.so
changes_measure (Inject number port octets) w draws w' wired measure k =
    injects_measure k.channel.up (port_id number port) octets w draws w' measure k.so

-- ---- all acts

pub acts_measure : (act : Act) (w : WorldState) (draws : List Draw) (done : Done) (w' : WorldState) → IsWired w
    → Acts act w draws done w' → MeasureLinks w → MeasureLinks w'
acts_measure (Deliver link direction) w draws done w' wired k measure =
    delivers_measure link direction k.octets w draws k.answer w' k.delivers measure
acts_measure (Expire number timer) w draws done w' wired k measure =
    expires_measure k.1.place timer w draws w' k.1.so measure
acts_measure (Changing c) w draws done w' wired k measure =
    changes_measure c (record w { last_change = w.time }) draws w' (time_wired w w.time w.time wired) measure k.1
