-- Laws on a port on a link whose other end has failed.
use Rattle.std.specs.Prelude.{◌≡◌, ℕ, ◌+◌, ◌*◌, ◌<◌, ◌≤◌, true, List, ◌∷◌}
use Rattle.gptp_lists.specs.Members.{In}
use Rattle.gptp_pdelay_machine.specs.Setting.{Setting}
use Rattle.gptp_pdelay_machine.specs.Silence.{Unanswered, TimerFacts, ActsInVain, InvUnanswered, IsRunInVain}

-- every act keeps the invariant
abbrev pub InvUnansweredIsKept : Type 0
InvUnansweredIsKept = (k : Setting) (gone : ℕ) (s s' : Unanswered)
    → TimerFacts k s → ActsInVain k gone s s' → InvUnanswered k gone s
    → InvUnanswered k gone s'

-- time that passes keeps it
abbrev pub InvUnansweredHoldsLater : Type 0
InvUnansweredHoldsLater = (k : Setting) (gone time : ℕ) (s : Unanswered)
    → InvUnanswered k gone s
    → InvUnanswered k gone (record s { time = time })

-- It holds just after every change. At every time no more requests are lost than may be, and the last request was sent
-- by the last change. Shown of worlds by silent_at_first of gptp_invariants.
abbrev pub InvUnansweredBegins : Type 0
InvUnansweredBegins = (k : Setting) (gone : ℕ) (s : Unanswered)
    → s.asker.lost ≤ k.allowed → s.asker.asked ≤ gone
    → InvUnanswered k gone s

-- once as many periods have passed as requests may be lost, and two more, the port isn't capable
abbrev pub IncapableFromGone : Type 0
IncapableFromGone = (k : Setting) (gone : ℕ) (s : Unanswered)
    → TimerFacts k s → InvUnanswered k gone s → gone + (k.allowed + 2) * k.period < s.time
    → s.asker.capable ≡ true → ⊥

-- L + 5 announce intervals after the last change the port isn't capable, where old frames are gone after one of them
-- and L is the number of requests that may be lost
abbrev pub SilenceSettles : Type 0
SilenceSettles = (k : Setting) (change interval : ℕ) (s : Unanswered)
    → 0 < interval → k.period ≤ interval → TimerFacts k s → InvUnanswered k (change + interval) s
    → change + (k.allowed + 5) * interval ≤ s.time
    → s.asker.capable ≡ true → ⊥

-- In any run that begins at the last change, with a request sent by then and at most L lost, L + 5 announce intervals
-- later the port isn't capable. L is the number of requests that may be lost, and old frames are gone after one such
-- interval.
abbrev pub RunsInVainEndIncapable : Type 0
RunsInVainEndIncapable = (k : Setting) (change interval : ℕ) (s t : Unanswered) (run : List Unanswered)
    → 0 < interval → k.period ≤ interval → s.asker.lost ≤ k.allowed → s.asker.asked ≤ change
    → IsRunInVain k (change + interval) s run → In t (s ∷ run) → change + (k.allowed + 5) * interval ≤ t.time
    → t.asker.capable ≡ true → ⊥
