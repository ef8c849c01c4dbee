-- Laws on what a port has measured, on a good link between two live systems.
use Rattle.std.specs.Prelude.{ℕ, ◌+◌, ◌-◌, ◌*◌, ◌<◌, ◌≤◌, List, ◌∷◌}
use Rattle.gptp_lists.specs.Members.{In}
use Rattle.gptp_pdelay.specs.GoodLink.{IsGoodLink}
use Rattle.gptp_pdelay_machine.specs.Messages.{Request, Reply}
use Rattle.gptp_pdelay_machine.specs.Setting.{Setting}
use Rattle.gptp_pdelay_machine.specs.Facts.{Facts, IsGood, IsSentLate}
use Rattle.gptp_pdelay_machine.specs.Invariant.{PortInvariant, IsJustChanged}
use Rattle.gptp_pdelay_machine.specs.Meter.{Meter, MeterActs, MeterPasses}
use Rattle.gptp_pdelay_machine.specs.Measured.{HasMeasured, MeterInv}
use Rattle.gptp_pdelay_machine.specs.Runs.{IsMeterRun}

module _ (asks : List ℕ → Request → Type 0) (replies : List ℕ → Reply → Type 0) where
  -- every act keeps the invariant, where each frame that it sends takes the least delay or more
  abbrev pub MeterInvIsKept : Type 0
  MeterInvIsKept = (k : Setting) (least gone calm : ℕ) (m m' : Meter)
      → IsGood k gone calm → Facts k gone m.pair → Facts k gone m'.pair
      → IsSentLate least m.pair.time m.pair.out m'.pair.out → IsSentLate least m.pair.time m.pair.back m'.pair.back
      → MeterActs k asks replies m m' → MeterInv k least asks replies gone calm m
      → MeterInv k least asks replies gone calm m'

  -- time that passes keeps it
  abbrev pub MeterInvHoldsLater : Type 0
  MeterInvHoldsLater = (k : Setting) (least gone calm : ℕ) (m m' : Meter)
      → MeterPasses m m' → MeterInv k least asks replies gone calm m
      → MeterInv k least asks replies gone calm m'

  -- it holds just after every change
  abbrev pub MeterInvBegins : Type 0
  MeterInvBegins = (k : Setting) (least gone calm : ℕ) (m : Meter)
      → IsJustChanged k gone calm m.pair
      → MeterInv k least asks replies gone calm m

  -- from the invariant of measuring follows that of capability, in which nothing is known of the least delay
  abbrev pub MeterInvIsInv : Type 0
  MeterInvIsInv = (k : Setting) (least gone calm : ℕ) (m : Meter)
      → MeterInv k least asks replies gone calm m
      → PortInvariant k asks replies gone calm m.pair

  -- a window and two periods after `calm` the last measurement is that of two exchanges, a window apart
  abbrev pub MeasuredFromCalm : Type 0
  MeasuredFromCalm = (k : Setting) (least gone calm : ℕ) (m : Meter)
      → Facts k gone m.pair → MeterInv k least asks replies gone calm m
      → calm + (k.window + 2) * k.period ≤ m.pair.time
      → HasMeasured k least m.kept.last

  -- Five announce intervals after the last change, and a period more for each exchange of the window but one, the last
  -- measurement is that of two exchanges, a window apart, where old frames are gone after one such interval.
  abbrev pub MeasuringSettles : Type 0
  MeasuringSettles = (k : Setting) (least change interval : ℕ) (m : Meter)
      → k.period ≤ interval → Facts k (change + interval) m.pair
      → MeterInv k least asks replies (change + interval) (change + 2 * interval) m
      → change + 5 * interval + (k.window - 1) * k.period ≤ m.pair.time
      → HasMeasured k least m.kept.last

  -- In every run over a good link that begins just after the last change, the last measurement is that of two
  -- exchanges, a window apart, from then on. Threshold, turnaround and intervals keep their limits.
  abbrev pub RunsEndMeasured : Type 0
  RunsEndMeasured = (k : Setting) (least threshold change interval : ℕ) (m n : Meter) (run : List Meter)
      → IsGoodLink k.most k.turnaround threshold → 2 * threshold + k.turnaround < k.period → k.period ≤ interval
      → IsJustChanged k (change + interval) (change + 2 * interval) m.pair
      → IsMeterRun k least asks replies (change + interval) m run → In n (m ∷ run)
      → change + 5 * interval + (k.window - 1) * k.period ≤ n.pair.time
      → HasMeasured k least n.kept.last
