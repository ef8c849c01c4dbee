-- What comes after an input that is timely: the port is there, and the timer has a moment.
use Rattle.std.proofs.Common.{◌≡◌, ◌≤◌, ◌<◌, ℕ, zero, suc, List, [], ◌∷◌, length, Option, Some, None, slice_get, refl, arith}
use Rattle.std.specs.Option.{option_and_then}
use Rattle.std.proofs.lemmas.Option.{none-some, slice_get_within}
use Rattle.std.specs.Prelude.{IsSomeAnd}
use Rattle.gptp_system.specs.declared.port.Port.{Port}
use Rattle.gptp_setup.specs.declared.timer.Timer.{Timer}
use Rattle.gptp_setup.specs.declared.timer.Timer.TheVariants as timers
use Rattle.gptp_system.specs.State.{SystemState, age_due, announce_due, due, held_at, number}
use Rattle.gptp_system.specs.Steps.{IsDue, HasPortNumber, IsTimerOf}

pub moment_of : (o : Option ℕ) (now : ℕ) → IsSomeAnd o (λ t. t ≤ now) → (t : ℕ) × (o ≡ Some t) × (t ≤ now)
moment_of None now is = absurd is
moment_of (Some t) now is = (t, refl, is)

stands : {X : Type 0} (xs : List X) (i : ℕ) → i < length xs → (x : X) × (slice_get xs i ≡ Some x)
stands [] i within = absurd (omega arith)
stands (x ∷ xs) zero within = (x, refl)
stands (x ∷ xs) (suc i) within = stands xs i (omega arith)

pub port_stands : (s : SystemState) (p : ℕ) → HasPortNumber s p → (q : Port) × (number s.ports p ≡ Some q)
port_stands s zero is = let least = is.least in absurd (omega arith)
port_stands s (suc i) is = let most = is.most in stands s.ports i (omega arith)

-- ---- a timer

number_within : (s : SystemState) (p : ℕ) (q : Port) → number s.ports p ≡ Some q → HasPortNumber s p
number_within s zero q here = absurd (none-some q here)
number_within s (suc i) q here =
    let within = slice_get_within s.ports i q here in record { least = omega arith; most = omega arith }

port_due : (runs : Port → Option ℕ) (s : SystemState) (p time : ℕ) → option_and_then runs (number s.ports p) ≡ Some time
    → HasPortNumber s p
port_due runs s p time is = by (number s.ports p) refl
  where
    by : (here : Option Port) → number s.ports p ≡ here → HasPortNumber s p
    by None none = let never : None ≡ Some time = rw none at is in absurd (none-some time never)
    by (Some q) here = number_within s p q here

-- a timer that runs is one of the system
pub due_timer : (timer : Timer) (s : SystemState) (time : ℕ) → due timer s ≡ Some time → IsTimerOf s timer
due_timer (timers.Announce p) s time is = port_due (λ q. announce_due q (held_at s p)) s p time is
due_timer (timers.Age p) s time is = port_due (λ (q : Port). age_due s.params s.largest (held_at s p)) s p time is
due_timer (timers.Pdelay p) s time is = port_due (λ (q : Port). q.pdelay) s p time is
due_timer (timers.Respond p) s time is = port_due (λ (q : Port). q.respond) s p time is
due_timer timers.Sync s time is = tt
due_timer timers.Relay s time is = tt
due_timer timers.Lapse s time is = tt

pub timely_timer : (timer : Timer) (s : SystemState) (now : ℕ) → IsDue s timer now → IsTimerOf s timer
timely_timer timer s now is = let at = moment_of (due timer s) now is in due_timer timer s at.0 at.1
