-- Laws on the facts, which are those of each item by itself.
use Rattle.std.specs.Prelude.{ℕ, ◌+◌, ◌*◌, ◌<◌, ◌≤◌, List}
use Rattle.gptp_pdelay.specs.GoodLink.{IsGoodLink}
use Rattle.gptp_pdelay_machine.specs.Messages.{Request, Reply}
use Rattle.gptp_pdelay_machine.specs.Setting.{Setting}
use Rattle.gptp_pdelay_machine.specs.Pair.{Pair, pair_at_time}
use Rattle.gptp_pdelay_machine.specs.Acts.{PortActs}
use Rattle.gptp_pdelay_machine.specs.Facts.{Facts, IsSentInTime, NothingIsDueBefore, IsGood}

-- every act keeps the facts, where it sends in time
abbrev pub FactsAreKept : (List ℕ → Request → Type 0) → (List ℕ → Reply → Type 0) → Type 0
FactsAreKept asks replies = (k : Setting) (gone : ℕ) (p p' : Pair)
    → PortActs k asks replies p p' → IsSentInTime k p.time p.out p'.out → IsSentInTime k p.time p.back p'.back
    → Facts k gone p
    → Facts k gone p'

-- time that passes keeps them, up to when something is due
abbrev pub FactsHoldLater : Type 0
FactsHoldLater = (k : Setting) (gone time : ℕ) (p : Pair)
    → p.time ≤ time → NothingIsDueBefore k time p → Facts k gone p
    → Facts k gone (pair_at_time p time)

-- The limits on threshold, turnaround and intervals leave an exchange over a good link its time, where old frames are
-- gone one announce interval after the last change, and exchanges that begin two after it find nothing old.
--
-- A document is tested for the limits, where the period is at most the announce interval of every port; no act changes
-- the setup. A calm world has good links in use, which lose nothing.
abbrev pub TimingIsEnough : Type 0
TimingIsEnough = (k : Setting) (threshold change interval : ℕ)
    → IsGoodLink k.most k.turnaround threshold → 2 * threshold + k.turnaround < k.period → k.period ≤ interval
    → IsGood k (change + interval) (change + 2 * interval)
