-- Laws on a port on a good link between two live systems.
use Rattle.std.specs.Prelude.{◌≡◌, ◌⊎◌, ℕ, ◌+◌, ◌*◌, ◌<◌, ◌≤◌, ℤ, true, List, ◌∷◌}
use Rattle.gptp_lists.specs.Members.{In}
use Rattle.gptp_graph.specs.Snapshot.{PortIdentity}
use Rattle.gptp_pdelay.specs.GoodLink.{IsGoodLink}
use Rattle.gptp_pdelay_machine.specs.Messages.{Request, Reply}
use Rattle.gptp_pdelay_machine.specs.Setting.{Setting}
use Rattle.gptp_pdelay_machine.specs.Pair.{Pair, TimeOnlyPasses}
use Rattle.gptp_pdelay_machine.specs.Asker.{Closed, Answered, asker_completed}
use Rattle.gptp_pdelay_machine.specs.Acts.{AskerHears, PortActs}
use Rattle.gptp_pdelay_machine.specs.Facts.{Facts, IsGood}
use Rattle.gptp_pdelay_machine.specs.Invariant.{PortInvariant, IsJustChanged}
use Rattle.gptp_pdelay_machine.specs.Runs.{IsPortRun}

module _ (asks : List ℕ → Request → Type 0) (replies : List ℕ → Reply → Type 0) where
  -- every act keeps the invariant
  abbrev pub PortInvariantIsKept : Type 0
  PortInvariantIsKept = (k : Setting) (gone calm : ℕ) (p p' : Pair)
      → IsGood k gone calm → Facts k gone p → Facts k gone p' → PortActs k asks replies p p'
      → PortInvariant k asks replies gone calm p
      → PortInvariant k asks replies gone calm p'

  -- time that passes keeps it
  abbrev pub PortInvariantHoldsLater : Type 0
  PortInvariantHoldsLater = (k : Setting) (gone calm : ℕ) (p p' : Pair)
      → TimeOnlyPasses p p' → PortInvariant k asks replies gone calm p
      → PortInvariant k asks replies gone calm p'

  -- it holds just after every change
  abbrev pub PortInvariantBegins : Type 0
  PortInvariantBegins = (k : Setting) (gone calm : ℕ) (p : Pair)
      → IsJustChanged k gone calm p
      → PortInvariant k asks replies gone calm p

  -- a request that was sent at `calm` or later isn't lost: when its period ends it is closed
  abbrev pub NoRequestIsLost : Type 0
  NoRequestIsLost = (k : Setting) (gone calm : ℕ) (p : Pair)
      → IsGood k gone calm → Facts k gone p → PortInvariant k asks replies gone calm p → calm ≤ p.asker.asked
      → p.asker.asked + k.period ≡ p.time
      → p.asker.progress ≡ Closed

  -- its exchange is good: where its response is recorded, what is heard leaves that so, or completes the exchange well
  abbrev pub NoExchangeIsBad : Type 0
  NoExchangeIsBad = (k : Setting) (gone calm : ℕ) (p p' : Pair) (sequence : ℕ) (source : PortIdentity) (t1 t2 t4 : ℤ)
      → PortInvariant k asks replies gone calm p → calm ≤ p.asker.asked
      → p.asker.progress ≡ Answered sequence source t1 t2 t4
      → AskerHears k asks replies p p'
      → (p'.asker ≡ p.asker) ⊎ (p'.asker ≡ asker_completed true p.asker)

  -- three periods after `calm` the port is capable
  abbrev pub CapableFromCalm : Type 0
  CapableFromCalm = (k : Setting) (gone calm : ℕ) (p : Pair)
      → Facts k gone p → PortInvariant k asks replies gone calm p → calm + 3 * k.period ≤ p.time
      → p.asker.capable ≡ true

-- L + 5 announce intervals after the last change the port is capable, where old frames are gone after one of them and L
-- is the number of requests that may be lost
abbrev pub CapabilitySettles : (List ℕ → Request → Type 0) → (List ℕ → Reply → Type 0) → Type 0
CapabilitySettles asks replies = (k : Setting) (change interval : ℕ) (p : Pair)
    → k.period ≤ interval → Facts k (change + interval) p
    → PortInvariant k asks replies (change + interval) (change + 2 * interval) p
    → change + (k.allowed + 5) * interval ≤ p.time
    → p.asker.capable ≡ true

-- In every run over a good link that begins just after the last change, the port is capable from L + 5 announce
-- intervals after that change on. Threshold, turnaround and intervals keep their limits, and L is the number of
-- requests that may be lost.
abbrev pub RunsEndCapable : (List ℕ → Request → Type 0) → (List ℕ → Reply → Type 0) → Type 0
RunsEndCapable asks replies = (k : Setting) (threshold change interval : ℕ) (p q : Pair) (run : List Pair)
    → IsGoodLink k.most k.turnaround threshold → 2 * threshold + k.turnaround < k.period → k.period ≤ interval
    → IsJustChanged k (change + interval) (change + 2 * interval) p
    → IsPortRun k asks replies (change + interval) p run → In q (p ∷ run) → change + (k.allowed + 5) * interval ≤ q.time
    → q.asker.capable ≡ true
