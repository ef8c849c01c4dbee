-- What a port has measured of its link, by the time of its last request.
use Rattle.std.specs.Prelude.{◌≡◌, ◌⊎◌, ℕ, zero, suc, ◌+◌, ◌*◌, ◌≤◌, List, [], ◌∷◌, length, Option, Some}
use Rattle.gptp_pdelay.specs.declared.exchange.Measurement.{Measurement}
use Rattle.gptp_pdelay.specs.declared.exchange.Times.{Times}
use Rattle.gptp_pdelay.specs.Measured.{AreMeasured, IsCarried, Moments}
use Rattle.gptp_pdelay_machine.specs.Messages.{Request, Reply}
use Rattle.gptp_pdelay_machine.specs.Setting.{Setting}
use Rattle.gptp_pdelay_machine.specs.Asker.{Asker, Closed}
use Rattle.gptp_pdelay_machine.specs.Invariant.{InvFrom}
use Rattle.gptp_pdelay_machine.specs.Meter.{Kept, Meter}

module _ (k : Setting) (least : ℕ) where
  -- These are t3 and t4 of an exchange whose messages took between the least and the greatest delay, and whose request
  -- was sent a period or more before a time.
  pub record IsTaken (before : ℕ) (times : Times) (moments : Moments) : Type 0 where
    pub carried : IsCarried least k.most k.turnaround moments
    pub t3_is : times.t3 ≡ k.answering_clock (moments.heard + k.turnaround)
    pub t4_is : times.t4 ≡ k.asking_clock moments.came
    pub asked : moments.asked + k.period ≤ before

  -- so many of the newest are those of such exchanges, each of which was asked a period or more before the next
  abbrev pub Chain : ℕ → ℕ → List Times → Type 0
  Chain zero before ts = zero ≡ zero
  Chain (suc n) before [] = ⊥
  Chain (suc n) before (t ∷ ts) = (moments : Moments) × IsTaken before t moments × Chain n moments.asked ts

  -- The last measurement is that of an exchange over the link and of the one a window before it: neighbour rate and
  -- mean link delay are what those measure.
  pub record HasMeasured (last : Option Measurement) : Type 0 where
    pub measured : Measurement
    pub is : last ≡ Some measured
    pub exchanges : AreMeasured least k.most k.turnaround (k.window * k.period) k.asking_clock k.answering_clock
        measured.rate measured.delay

  -- The first request from `calm` on begins an exchange that finds nothing old. With each period one more of the
  -- exchanges that are kept is such a one; that of the last request is once it is closed. With a whole window of them
  -- the next measures over it. From the first of them on no more are kept than the window has.
  pub record MeasuredSince (calm : ℕ) (a : Asker) (kept : Kept) : Type 0 where
    pub few : (calm + k.period ≤ a.asked) ⊎ (a.progress ≡ Closed) → length kept.past ≤ k.window
    pub open' : (n : ℕ) → n ≤ k.window → calm + n * k.period ≤ a.asked → (a.progress ≡ Closed → ⊥)
        → Chain n a.asked kept.past
    pub closed : (n : ℕ) → n ≤ k.window → calm + n * k.period ≤ a.asked + k.period → a.progress ≡ Closed
        → Chain n (a.asked + k.period) kept.past
    pub whole : (calm + suc k.window * k.period ≤ a.asked)
        ⊎ ((calm + k.window * k.period ≤ a.asked) × (a.progress ≡ Closed)) → HasMeasured kept.last

  -- exchanges are in their phases, and what had to be measured was
  pub record MeterInv (asks : List ℕ → Request → Type 0) (replies : List ℕ → Reply → Type 0) (gone calm : ℕ)
      (m : Meter) : Type 0
    where
      pub phases : InvFrom k least asks replies gone calm m.pair
      pub measured : calm ≤ m.pair.asker.asked → MeasuredSince calm m.pair.asker m.kept
