-- How far ahead the timers of a system are due, and those of a new one.
use Rattle.std.proofs.Common.{◌≡◌, ◌≤◌, ℕ, zero, suc, ◌+◌, ℤ, true, List, [], ◌∷◌, length, get_or, Option, Some, None, slice_get, refl, sym, ap, subst, ◌∙◌, arith}
use Rattle.std.specs.List.{AllByRecursion}
use Rattle.std.specs.Option.{option_map, option_map_or}
use Rattle.std.proofs.lemmas.Option.{none-some, same_Some, slice_get-get_or, slice_get_within}
use Rattle.gptp_receipt.specs.declared.held.Held.{Held}
use Rattle.gptp_receipt.specs.declared.held.Held.TheVariants as helds
use Rattle.gptp_receipt.specs.declared.held.Reception.{Reception}
use Rattle.gptp_receipt.specs.Held.{received}
use Rattle.gptp_roles.specs.Selection.{clock_of}
use Rattle.gptp_system.specs.declared.port.Port.{Port}
use Rattle.gptp_setup.specs.declared.setup.Setup.{Setup}
use Rattle.gptp_setup.specs.declared.timer.Timer.{Timer}
use Rattle.gptp_setup.specs.declared.timer.Timer.TheVariants as timers
use Rattle.gptp_setup.specs.Intervals.{AreIntervals, IsLog, IsLogUpTo, interval_of}
use Rattle.gptp_setup.specs.SettlingParams.{span_by}
use Rattle.gptp_system.specs.State.{SystemState, age_due, announce_due, due, held_at, is_mine, number}
use Rattle.gptp_system.specs.Ready.{IsReadyPort, IsReady}
use Rattle.gptp_system.specs.Start.{all_disabled, new_port, started}
use Rattle.gptp_system.specs.Times.{IsInTime, IsPortInTime}
use Rattle.gptp_setup.proofs.IntervalLemmas.{interval_most}
use Rattle.gptp_setup.proofs.SettlingParamsLemmas.{lapse_most, span_within}
use Rattle.gptp_system.proofs.StartLemmas.{disabled_at, new_port_at}
use Rattle.gptp_system.proofs.StartedLemmas.{at_number, mine_due}

all_at : {X : Type 0} (P : X → Type 0) (xs : List X) (i : ℕ) (x : X) → AllByRecursion P xs → slice_get xs i ≡ Some x
    → P x
all_at P [] i x all there = absurd (none-some x there)
all_at P (y ∷ xs) zero x all there = subst P (same_Some y x there) all.0
all_at P (y ∷ xs) (suc i) x all there = all_at P xs i x all.1 there

module _ (s : SystemState) (now : ℕ) (ready : IsReady s) (k : IsInTime s now) where
  -- what a port holds, and its timers
  port_in_time : (i : ℕ) (q : Port) → slice_get s.ports i ≡ Some q
      → (slice_get s.held i ≡ Some (held_at s (suc i))) × IsPortInTime s.params now (held_at s (suc i)) q
  port_in_time i q there =
      let within = slice_get_within s.ports i q there in
      let few = ready.places in
      let stands = slice_get-get_or s.held i helds.Disabled (omega arith) in
      let here : held_at s (suc i) ≡ get_or s.held i helds.Disabled =
      ap (λ o. option_map_or (λ h. h) o helds.Disabled) stands in
      let same : slice_get s.held i ≡ Some (held_at s (suc i)) = stands ∙ ap (λ h. Some h) (sym here) in
      (same, k.each i (held_at s (suc i)) q same there)

  interval_few : (i : ℕ) (q : Port) → slice_get s.ports i ≡ Some q → interval_of q.log_interval ≤ 16000000000
  interval_few i q there = interval_most q.log_interval (all_at IsReadyPort s.ports i q ready.ports there).log_interval

  age_few : (i : ℕ) (q : Port) → slice_get s.ports i ≡ Some q → (t : ℕ)
      → age_due s.params s.largest (held_at s (suc i)) ≡ Some t → t ≤ now + 160000000000
  age_few i q there t is = go (received (held_at s (suc i))) refl is
    where
      go : (o : Option Reception) → received (held_at s (suc i)) ≡ o
          → option_map (λ (r : Reception). r.at + span_by s.params.timeout s.largest r.interval) o ≡ Some t
          → t ≤ now + 160000000000
      go None none e = absurd (none-some t e)
      go (Some r) got e =
          let came = (port_in_time i q there).1.came r got in
          let span = (span_within s.params.timeout s.largest r.interval ready.params.timeout-least ready.params.timeout
          ready.largest).1 in
          let same = same_Some (r.at + span_by s.params.timeout s.largest r.interval) t e in
          omega arith

  -- each timer is due within ten announce intervals of sixteen seconds
  pub due_within : (timer : Timer) (t : ℕ) → due timer s ≡ Some t → t ≤ now + 160000000000
  due_within timers.Sync t is =
      let sync = k.sync in
      let few = interval_most s.params.sync ready.params.sync in
      let same = same_Some s.sync t is in
      omega arith
  due_within timers.Relay t is = let relay = k.relay t is in let few = ready.params.residence in omega arith
  due_within timers.Lapse t is =
      let lapse = k.lapse t is in
      let few = lapse_most s.params ready.params in
      omega arith
  due_within (timers.Announce p) t is =
      let (i, q, number_is, there, e) = at_number (λ q. announce_due q (held_at s p)) s.ports p t is in
      let here = (mine_due q (held_at s p) t e).0 in
      let same = (mine_due q (held_at s p) t e).1 in
      let soon = (port_in_time i q there).1.announce (subst (λ n. is_mine (held_at s n) ≡ true) number_is here) in
      let few = interval_few i q there in
      omega arith
  due_within (timers.Age p) t is =
      let ages : Port → Option ℕ = λ q. age_due s.params s.largest (held_at s p) in
      let (i, q, number_is, there, e) = at_number ages s.ports p t is in
      age_few i q there t (subst (λ n. age_due s.params s.largest (held_at s n) ≡ Some t) number_is e)
  due_within (timers.Pdelay p) t is =
      let (i, q, number_is, there, e) = at_number (λ (q : Port). q.pdelay) s.ports p t is in
      let soon = (port_in_time i q there).1.pdelay t e in
      let few = interval_most s.params.pdelay ready.params.pdelay in
      omega arith
  due_within (timers.Respond p) t is =
      let (i, q, number_is, there, e) = at_number (λ (q : Port). q.respond) s.ports p t is in
      let soon = (port_in_time i q there).1.respond t e in
      let few = ready.params.turnaround in
      omega arith

-- ---- the start

-- the ports of a new system are new, and hold nothing
abbrev new_of : Setup → ℕ → ℤ → Port
new_of setup p log = new_port (record { clock = clock_of setup.identity; port = p }) setup.params log

port_is : (setup : Setup) (now i : ℕ) (q : Port) → slice_get (started setup now).ports i ≡ Some q
    → (log : ℤ) × (slice_get setup.intervals.items i ≡ Some log) × (q ≡ new_of setup (suc i) log)
port_is setup now i q there = new_port_at (clock_of setup.identity) setup.params setup.intervals.items i q there

pub starts_in_time : (setup : Setup) (now : ℕ) → IsInTime (started setup now) now
starts_in_time setup now = record {
  each = each;
  sync = omega arith;
  relay = λ t is. absurd (none-some t is);
  lapse = λ t is. absurd (none-some t is);
}
  where
    quiet : (p : ℕ) (log : ℤ) → IsPortInTime setup.params now helds.Disabled (new_of setup p log)
    quiet p log = record {
      announce = λ mine. absurd cc;
      came = λ r is. absurd (none-some r is);
      pdelay = λ t is. absurd (none-some t is);
      respond = λ t is. absurd (none-some t is);
    }

    each : (i : ℕ) (h : Held) (q : Port) → slice_get (started setup now).held i ≡ Some h
        → slice_get (started setup now).ports i ≡ Some q → IsPortInTime setup.params now h q
    each i h q stands there =
        let off = disabled_at (length setup.intervals.items) i h stands in
        let (log, here, is) = port_is setup now i q there in
        rw (off, is) (quiet (suc i) log)

-- its ports announce at the intervals of its setup
pub starts_logs : (setup : Setup) (now : ℕ) → AreIntervals setup → (i : ℕ) (q : Port)
    → slice_get (started setup now).ports i ≡ Some q → IsLog q.log_interval
starts_logs setup now intervals i q there =
    let (log, here, is) = port_is setup now i q there in
    rw is (all_at (IsLogUpTo setup.largest) setup.intervals.items i log intervals.each here).within

-- what stands at its numbers is Disabled
off_at : (n p : ℕ) → option_map_or (λ h. h) (number (all_disabled n) p) helds.Disabled ≡ helds.Disabled
off_at n zero = refl
off_at n (suc i) = go (slice_get (all_disabled n) i) refl
  where
    go : (o : Option Held) → slice_get (all_disabled n) i ≡ o
        → option_map_or (λ h. h) o helds.Disabled ≡ helds.Disabled
    go None there = refl
    go (Some h) there = disabled_at n i h there

-- only its Sync timer runs, and none of its timers is due before now
pub starts_ahead : (setup : Setup) (now : ℕ) (timer : Timer) (t : ℕ) → due timer (started setup now) ≡ Some t → now ≤ t
starts_ahead setup now (timers.Announce p) t is =
    let s = started setup now in
    let (i, q, here, there, e) = at_number (λ q. announce_due q (held_at s p)) s.ports p t is in
    absurd (none-some t (sym (ap (announce_due q) (off_at (length setup.intervals.items) p)) ∙ e))
starts_ahead setup now (timers.Age p) t is =
    let s = started setup now in
    let ages : Port → Option ℕ = λ q. age_due s.params s.largest (held_at s p) in
    let (i, q, here, there, e) = at_number ages s.ports p t is in
    absurd (none-some t (sym (ap (age_due s.params s.largest) (off_at (length setup.intervals.items) p)) ∙ e))
starts_ahead setup now (timers.Pdelay p) t is =
    let s = started setup now in
    let (i, q, here, there, e) = at_number (λ (q : Port). q.pdelay) s.ports p t is in
    let (log, interval, new) = port_is setup now i q there in
    absurd (none-some t (sym (ap (λ (x : Port). x.pdelay) new) ∙ e))
starts_ahead setup now (timers.Respond p) t is =
    let s = started setup now in
    let (i, q, here, there, e) = at_number (λ (q : Port). q.respond) s.ports p t is in
    let (log, interval, new) = port_is setup now i q there in
    absurd (none-some t (sym (ap (λ (x : Port). x.respond) new) ∙ e))
starts_ahead setup now timers.Sync t is =
    let same = same_Some (now + interval_of setup.params.sync) t is in omega arith
starts_ahead setup now timers.Relay t is = absurd (none-some t is)
starts_ahead setup now timers.Lapse t is = absurd (none-some t is)
