-- A state that is ready stays so.
use Rattle.std.proofs.Common.{◌≡◌, ℕ, zero, suc, ◌+◌, ◌≤◌, ℤ, Bool, true, false, if◌then◌else◌, List, [], ◌∷◌, length, Option, Some, None, refl, sym, ◌∙◌, arith}
use Rattle.std.proofs.lemmas.Int.{ints}
use Rattle.std.specs.List.{AllByRecursion}
use Rattle.std.specs.Option.{ForSome, option_map_or}
use Rattle.gptp_vector.specs.declared.vector.Vector.{Vector}
use Rattle.gptp_receipt.specs.declared.held.Held.{Held}
use Rattle.gptp_receipt.specs.declared.held.Held.TheVariants as helds
use Rattle.gptp_vector.specs.declared.port.PortId.{PortId}
use Rattle.gptp_messages.specs.declared.announce.AnnounceView.{AnnounceView}
use Rattle.gptp_receipt.specs.declared.held.Heard.{Heard}
use Rattle.gptp_receipt.specs.declared.held.Heard.TheVariants as heards
use Rattle.gptp_receipt.specs.declared.held.Reception.{Reception}
use Rattle.gptp_receipt.specs.Held.{received, reception, comparison, aged, is_due}
use Rattle.gptp_receipt.specs.Held.{held_after as heard_after}
use Rattle.gptp_receipt.specs.Qualification.{Qualified}
use Rattle.gptp_roles.specs.Choice.{ArePlaced, IsPlaced}
use Rattle.gptp_roles.specs.Role.{each_from, held_after_selection, is_fresh, is_master, chosen_role}
use Rattle.gptp_roles.proofs.EachLemmas.{length-each_from}
use Rattle.std.specs.Prelude.{map}
use Rattle.std.specs.List.{range_with_len}
use Rattle.gptp_roles.specs.Selection.{clock_of}
use Rattle.gptp_pdelay.specs.Clock.{IsDrift}
use Rattle.gptp_setup.specs.declared.setup.Params.{Params}
use Rattle.gptp_setup.specs.declared.setup.Setup.{Setup}
use Rattle.gptp_system.specs.Start.{new_ports, started}
use Rattle.gptp_system.specs.declared.port.Port.{Port}
use Rattle.gptp_system.specs.declared.sending.Sending.{Sending}
use Rattle.gptp_setup.specs.declared.limits.TheConstants.{MOST_PORTS}
use Rattle.gptp_setup.specs.Intervals.{AreIntervals, AreParams, interval_of, IsLogUpTo, IsMoment}
use Rattle.gptp_receipt.specs.Span.{span_of}
use Rattle.gptp_system.specs.Announcing.{aged_by}
use Rattle.gptp_system.specs.Lapse.{dropped, lapsed}
use Rattle.gptp_system.specs.State.{SystemState, clock, change, change_at}
use Rattle.gptp_system.specs.Selection.{announced_again, all_announced, fresh_ports, choosing, Selects}
use Rattle.gptp_system.specs.Ready.{IsReady, IsRecent, IsReadyPort}
use Rattle.gptp_system.proofs.ChangedLemmas.{change-length}
use Rattle.gptp_system.proofs.LapseLemmas.{lapse_stays_off}
use Rattle.gptp_system.proofs.PlaceLemmas.{all_change}
use Rattle.gptp_system.proofs.AnnouncementLemmas.{length-all_announced}
use Rattle.gptp_system.proofs.StartLemmas.{length-all_disabled, length-new_ports}
use Rattle.gptp_system.proofs.TakeoverLemmas.{time_from_zero}

-- what a port holds after selection was received before, or is its own
recent_after : (v : Vector) (clock p : ℕ) (h : Held) (b : Bool) → is_master (chosen_role v clock p h) ≡ b → IsRecent h
    → IsRecent (held_after_selection v clock p h)
recent_after v clock p h true is recent = rw is (λ r none. absurd cc)
recent_after v clock p h false is recent = rw is recent

all_recent_after : (v : Vector) (clock p : ℕ) (hs : List Held) → AllByRecursion IsRecent hs
    → AllByRecursion IsRecent (each_from (held_after_selection v clock) p hs)
all_recent_after v clock p [] all = tt
all_recent_after v clock p (h ∷ hs) all = (
  recent_after v clock p h (is_master (chosen_role v clock p h)) refl all.0,
  all_recent_after v clock
      (p + 1) hs all.1,
)

-- announcing changes neither interval nor what is owed
pub port_announced : (now : ℕ) (f : Bool) (q : Port) → IsReadyPort q
    → IsReadyPort (if f then announced_again now q else q)
port_announced now true q is = record { log_interval = is.log_interval; waiting = is.waiting }
port_announced now false q is = is

all_ports_announced : (now : ℕ) (fs : List Bool) (qs : List Port) → AllByRecursion IsReadyPort qs
    → AllByRecursion IsReadyPort (all_announced now fs qs)
all_ports_announced now [] qs all = all
all_ports_announced now (f ∷ fs) [] all = tt
all_ports_announced now (f ∷ fs) (q ∷ qs) all = (port_announced now f q all.0, all_ports_announced now fs qs all.1)

-- selection leaves a ready state
pub selects_ready : (now : ℕ) (s s' : SystemState) (sends : List Sending) → IsReady s → ArePlaced 1 s'.held
    → Selects now s s' sends → IsReady s'
selects_ready now s s' sends ready placed selects =
    let v = selects.vector in
    let helds-length = length-each_from (held_after_selection v (clock s)) 1 s.held in
    let flags-length = length-each_from (is_fresh v (clock s)) 1 s.held in
    let few : length (fresh_ports v s) ≤ length s.ports = omega (arith, flags-length, ready.places) in
    let ports-length = length-all_announced now (fresh_ports v s) s.ports few in
    let placed-again : ArePlaced 1 (choosing v now s).held = rw selects.state at placed in
    rw selects.state (record {
      params = ready.params;
      largest = ready.largest;
      phase = ready.phase;
      drift = ready.drift;
      places = helds-length ∙ ready.places ∙ sym ports-length;
      few = omega (arith, ports-length, ready.few);
      placed = placed-again;
      recent = all_recent_after v (clock s) 1 s.held ready.recent;
      ports = all_ports_announced now (fresh_ports v s) s.ports ready.ports;
      lapses = λ off. lapse_stays_off v now s off (ready.lapses off);
      told = ready.told;
      based = ready.based;
    })

-- ---- what one port holds changes

-- what was received at the other ports was received there
placed_at : (f : Held → Held) (i n p : ℕ) (hs : List Held) → n + i ≡ p
    → ((h : Held) → ForSome (received h) (IsPlaced p) → ForSome (received (f h)) (IsPlaced p))
    → ArePlaced n hs → ArePlaced n (change_at f i hs)
placed_at f i n p [] here kept placed = tt
placed_at f zero n p (h ∷ hs) here kept placed =
    let is : n ≡ p = omega (arith, here) in
    (rw is (kept h (rw is at placed.0)), placed.1)
placed_at f (suc i) n p (h ∷ hs) here kept placed =
    (placed.0, placed_at f i (n + 1) p hs (omega (arith, here)) kept placed.1)

placed_change : (f : Held → Held) (p : ℕ) (hs : List Held)
    → ((h : Held) → ForSome (received h) (IsPlaced p) → ForSome (received (f h)) (IsPlaced p))
    → ArePlaced 1 hs → ArePlaced 1 (change f p hs)
placed_change f zero hs kept placed = placed
placed_change f (suc i) hs kept placed = placed_at f i 1 (suc i) hs (omega arith) kept placed

-- a change of what a port holds that leaves it recent and placed
pub record KeepsHeld (p : ℕ) (f : Held → Held) : Type 0 where
  pub recent : (h : Held) → IsRecent h → IsRecent (f h)
  pub placed : (h : Held) → ForSome (received h) (IsPlaced p) → ForSome (received (f h)) (IsPlaced p)

pub held_ready : (s : SystemState) (p : ℕ) (f : Held → Held) (held : List Held) → IsReady s → KeepsHeld p f
    → held ≡ change f p s.held
    → IsReady (record s { held = held })
held_ready s p f held ready keeps is =
    rw is (record {
      params = ready.params;
      largest = ready.largest;
      phase = ready.phase;
      drift = ready.drift;
      places = change-length f p s.held ∙ ready.places;
      few = ready.few;
      placed = placed_change f p s.held keeps.placed ready.placed;
      recent = all_change IsRecent f p s.held keeps.recent ready.recent;
      ports = ready.ports;
      lapses = ready.lapses;
      told = ready.told;
      based = ready.based;
    })

-- hearing a qualified Announce is such a change
heard_recent : (heard : Heard) (h : Held) (r : Reception) → IsMoment r.at → IsRecent h
    → IsRecent (heard_after heard h r)
heard_recent heards.Superior h r moment recent = λ x is. let same : x ≡ r = cc in rw same moment
heard_recent heards.Repeated h r moment recent = λ x is. let same : x ≡ r = cc in rw same moment
heard_recent heards.Inferior h r moment recent = recent

heard_placed : (p : ℕ) (heard : Heard) (h : Held) (r : Reception) → IsPlaced p r → ForSome (received h) (IsPlaced p)
    → ForSome (received (heard_after heard h r)) (IsPlaced p)
heard_placed p heards.Superior h r there placed = λ x is. let same : x ≡ r = cc in rw same there
heard_placed p heards.Repeated h r there placed = λ x is. let same : x ≡ r = cc in rw same there
heard_placed p heards.Inferior h r there placed = placed

pub hearing_keeps : (own : PortId) (a : AnnounceView) (now : ℕ) → Qualified a own.clock → IsMoment now
    → KeepsHeld own.port (λ h. heard_after (comparison h own a) h (reception a own now))
hearing_keeps own a now qualified moment = record {
  recent = λ h recent. heard_recent (comparison h own a) h (reception a own now) moment recent;
  placed = λ h placed. heard_placed own.port (comparison h own a) h (reception a own now)
      (record { receiver = refl; near = qualified.near; short = qualified.short }) placed;
}

-- and so is ageing
aged_recent : (h : Held) (b : Bool) → IsRecent h → IsRecent (if b then helds.Aged else h)
aged_recent h true recent = λ x none. absurd cc
aged_recent h false recent = recent

aged_placed : (p : ℕ) (h : Held) (b : Bool) → ForSome (received h) (IsPlaced p)
    → ForSome (received (if b then helds.Aged else h)) (IsPlaced p)
aged_placed p h true placed = λ x none. absurd cc
aged_placed p h false placed = placed

pub ageing_keeps : (p : ℕ) (params : Params) (largest : ℤ) (now : ℕ) → KeepsHeld p (aged_by params largest now)
ageing_keeps p params largest now = record {
  recent = λ h recent. by_recent h (span_of h params.timeout largest) recent;
  placed = λ h placed. by_placed h (span_of h params.timeout largest) placed;
}
  where
    ages : Held → Option ℕ → Held
    ages h o = option_map_or (λ span. aged h span now) o h

    by_recent : (h : Held) (o : Option ℕ) → IsRecent h → IsRecent (ages h o)
    by_recent h None recent = recent
    by_recent h (Some span) recent = aged_recent h (is_due h span now) recent

    by_placed : (h : Held) (o : Option ℕ) → ForSome (received h) (IsPlaced p)
        → ForSome (received (ages h o)) (IsPlaced p)
    by_placed h None placed = placed
    by_placed h (Some span) placed = aged_placed p h (is_due h span now) placed

-- and so is dropping what was received
dropping_keeps : (p : ℕ) → KeepsHeld p dropped
dropping_keeps p = record { recent = recent; placed = placed }
  where
    recent : (h : Held) → IsRecent h → IsRecent (dropped h)
    recent helds.Disabled is = is
    recent helds.Aged is = is
    recent (helds.Mine root steps) is = is
    recent (helds.Received r) is = λ x none. absurd cc

    placed : (h : Held) → ForSome (received h) (IsPlaced p) → ForSome (received (dropped h)) (IsPlaced p)
    placed helds.Disabled is = is
    placed helds.Aged is = is
    placed (helds.Mine root steps) is = is
    placed (helds.Received r) is = λ x none. absurd cc

pub lapsed_ready : (s : SystemState) → IsReady s → IsReady (lapsed s)
lapsed_ready s ready = go s.slave
  where
    stops : (t : SystemState) → IsReady t → IsReady (record t { lapse = None })
    stops t k = record {
      params = k.params;
      largest = k.largest;
      phase = k.phase;
      drift = k.drift;
      places = k.places;
      few = k.few;
      placed = k.placed;
      recent = k.recent;
      ports = k.ports;
      lapses = λ off. refl;
      told = k.told;
      based = k.based;
    }

    go : (o : Option ℕ)
        → IsReady (record s { held = option_map_or (λ p. change dropped p s.held) o s.held; lapse = None })
    go None = stops s ready
    go (Some p) =
        let t : SystemState = record s { held = change dropped p s.held } in
        stops t (held_ready s p dropped (change dropped p s.held) ready (dropping_keeps p) refl)

-- ---- one port changes beside what it holds

pub ports_ready : (s : SystemState) (p : ℕ) (f : Port → Port) (ports : List Port) → IsReady s
    → ((q : Port) → IsReadyPort q → IsReadyPort (f q))
    → ports ≡ change f p s.ports → IsReady (record s { ports = ports })
ports_ready s p f ports ready keeps is =
    let size = change-length f p s.ports in
    rw is (record {
      params = ready.params;
      largest = ready.largest;
      phase = ready.phase;
      drift = ready.drift;
      places = ready.places ∙ sym size;
      few = omega (arith, size, ready.few);
      placed = ready.placed;
      recent = ready.recent;
      ports = all_change IsReadyPort f p s.ports keeps ready.ports;
      lapses = ready.lapses;
      told = ready.told;
      based = ready.based;
    })

-- ---- a new system

new_ports_are : (clock : ℕ) (params : Params) (largest : ℤ) (n : ℕ) (logs : List ℤ)
    → AllByRecursion (IsLogUpTo largest) logs
    → AllByRecursion IsReadyPort (new_ports clock params n logs)
new_ports_are clock params largest n [] all = tt
new_ports_are clock params largest n (log ∷ logs) all = (
  record { log_interval = all.0.within; waiting = λ owed none. absurd cc },
  new_ports_are clock params largest (n + 1) logs all.1,
)

disabled_recent : (a n : ℕ) → AllByRecursion IsRecent (map (λ p. helds.Disabled) (range_with_len a n))
disabled_recent a zero = tt
disabled_recent a (suc n) = ((λ r none. absurd cc), disabled_recent (a + 1) n)

disabled_placed : (q a n : ℕ) → ArePlaced q (map (λ p. helds.Disabled) (range_with_len a n))
disabled_placed q a zero = tt
disabled_placed q a (suc n) = ((λ r none. absurd cc), disabled_placed (q + 1) (a + 1) n)

pub started_ready : (setup : Setup) (now : ℕ) → setup.ports ≤ MOST_PORTS → AreParams setup.params → AreIntervals setup
    → setup.phase ≤ 1000000000000000000 → IsDrift setup.drift
    → IsReady (started setup now)
started_ready setup now few params intervals phase drift =
    let logs = setup.intervals.items in
    let ports = length-new_ports (clock_of setup.identity) setup.params 1 logs in
    let many = intervals.many in
    record {
      params = params;
      largest = intervals.largest;
      phase = phase;
      drift = drift;
      places = length-all_disabled (length logs) ∙ sym ports;
      few = omega (arith, ports, many);
      placed = disabled_placed 1 1 (length logs);
      recent = disabled_recent 1 (length logs);
      ports = new_ports_are (clock_of setup.identity) setup.params setup.largest 1 logs intervals.each;
      lapses = λ off. refl;
      told =
          let from =
          time_from_zero setup.phase setup.drift (now + interval_of setup.params.sync) phase drift in
          omega (arith, ints, from);
      based = omega (arith, ints);
    }
