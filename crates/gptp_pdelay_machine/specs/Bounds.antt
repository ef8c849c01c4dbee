-- How late what belongs to an exchange can be, by the time of the last request, whatever was in flight before.
use Rattle.std.specs.Prelude.{◌≡◌, ℕ, ◌+◌, ◌≤◌, max, List, Some}
use Rattle.gptp_lists.specs.Members.{In}
use Rattle.gptp_pdelay_machine.specs.Lanes.{LaneFrame}
use Rattle.gptp_pdelay_machine.specs.Messages.{Request, Reply}
use Rattle.gptp_pdelay_machine.specs.Setting.{Setting}
use Rattle.gptp_pdelay_machine.specs.Answerer.{Waiting}
use Rattle.gptp_pdelay_machine.specs.Pair.{Pair}

-- the last that a request in flight can be due
abbrev pub last_arrival : Setting → ℕ → Pair → ℕ
last_arrival k gone p = max gone (p.asker.asked + k.most)

-- requests in flight, the answer that waits and replies in flight are due in turn
pub record Bounds (k : Setting) (asks : List ℕ → Request → Type 0) (replies : List ℕ → Reply → Type 0) (gone : ℕ)
    (p : Pair) : Type 0
  where
    pub request : (f : LaneFrame) (request : Request) → In f p.out → asks f.octets request
        → f.due ≤ last_arrival k gone p
    pub waiting : (w : Waiting) → p.waits ≡ Some w → w.due ≤ last_arrival k gone p + k.turnaround
    pub reply : (f : LaneFrame) (reply : Reply) → In f p.back → replies f.octets reply
        → f.due ≤ last_arrival k gone p + k.turnaround + k.most
