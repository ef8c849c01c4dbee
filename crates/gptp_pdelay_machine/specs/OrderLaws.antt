-- Laws: a port isn't capable before its second exchange can be complete, and what its neighbour tells from then on
-- finds it capable.
use Rattle.std.specs.Prelude.{◌≡◌, ◌⊎◌, ℕ, ◌+◌, ◌<◌, ◌≤◌, true, List}
use Rattle.gptp_lists.specs.Members.{In}
use Rattle.gptp_pdelay_machine.specs.Lanes.{LaneFrame}
use Rattle.gptp_pdelay_machine.specs.Messages.{Request, Reply}
use Rattle.gptp_pdelay_machine.specs.Setting.{Setting}
use Rattle.gptp_pdelay_machine.specs.Acts.{AskerHears}
use Rattle.gptp_pdelay_machine.specs.Facts.{Facts}
use Rattle.gptp_pdelay_machine.specs.Meter.{Meter, MeterActs, MeterPasses}
use Rattle.gptp_pdelay_machine.specs.First.{InvFirst}
use Rattle.gptp_pdelay_machine.specs.FirstLaws.{exchange_span}
use Rattle.gptp_pdelay_machine.specs.Order.{IsNotBefore, IsOrdered, least_exchange}

module _ (asks : List ℕ → Request → Type 0) (replies : List ℕ → Reply → Type 0) where
  -- every act keeps that the port isn't capable before its time
  abbrev pub NotBeforeIsKept : Type 0
  NotBeforeIsKept = (k : Setting) (least gone first : ℕ) (m m' : Meter)
      → exchange_span k < k.period → Facts k gone m.pair → MeterActs k asks replies m m'
      → InvFirst k least asks replies first m → IsNotBefore k least first m.pair
      → IsNotBefore k least first m'.pair

  abbrev pub NotBeforeHoldsLater : Type 0
  NotBeforeHoldsLater = (k : Setting) (least first : ℕ) (m m' : Meter)
      → MeterPasses m m' → IsNotBefore k least first m.pair → IsNotBefore k least first m'.pair

  -- the port isn't capable before its second exchange can be complete: a period and the least time of an exchange after
  -- its first request
  abbrev pub NotCapableBefore : Type 0
  NotCapableBefore = (k : Setting) (least gone first : ℕ) (m : Meter)
      → least ≤ k.most → exchange_span k < k.period → Facts k gone m.pair → InvFirst k least asks replies first m
      → IsNotBefore k least first m.pair → m.pair.asker.capable ≡ true
      → first + k.period + least_exchange k least ≤ m.pair.time

  -- Every act keeps the order of what is in flight to the port, where what tells is sent to it from a time on by which
  -- its second request was answered. That is so where the greatest delay of the link is below twice the least: the
  -- port at the other end isn't capable sooner. It isn't shown of worlds.
  abbrev pub OrderIsKept : (List ℕ → Type 0) → Type 0
  OrderIsKept tells = (k : Setting) (least gone first from : ℕ) (m m' : Meter)
      → exchange_span k < k.period → first + k.period + k.most + k.turnaround < from
      → Facts k gone m.pair → InvFirst k least asks replies first m → MeterActs k asks replies m m'
      → ((f : LaneFrame) → In f m'.pair.back → tells f.octets → In f m.pair.back ⊎ (from ≤ m.pair.time))
      → IsOrdered k tells replies first m.pair.asker m.pair.back
      → IsOrdered k tells replies first m'.pair.asker m'.pair.back

  -- Where what is in flight to the port is in order, what tells finds the port capable, if it is no reply. An Announce
  -- is none.
  abbrev pub ToldIsHeard : (List ℕ → Type 0) → Type 0
  ToldIsHeard tells = (k : Setting) (first : ℕ) (m m' : Meter)
      → ((octets : List ℕ) (reply : Reply) → tells octets → replies octets reply → ⊥)
      → IsOrdered k tells replies first m.pair.asker m.pair.back
      → (act : AskerHears k asks replies m.pair m'.pair) → tells act.front.octets
      → m.pair.asker.capable ≡ true
