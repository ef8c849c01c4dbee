-- What is known of each item by itself, at every time: when what is pending is due, at the earliest and at the latest.
use Rattle.std.specs.Prelude.{◌≡◌, ◌⊎◌, ℕ, ◌+◌, ◌<◌, ◌≤◌, max, List, Some}
use Rattle.gptp_lists.specs.Members.{In}
use Rattle.gptp_pdelay_machine.specs.Lanes.{LaneFrame}
use Rattle.gptp_pdelay_machine.specs.Setting.{Setting}
use Rattle.gptp_pdelay_machine.specs.Answerer.{Waiting}
use Rattle.gptp_pdelay_machine.specs.Pair.{Pair}

-- the frame isn't late, and is due within the greatest delay from now, or by the time `gone` at which old frames are
-- gone, since it doesn't overtake an old one
pub record IsDueInTime (k : Setting) (gone time : ℕ) (f : LaneFrame) : Type 0 where
  pub earliest : time ≤ f.due
  pub latest : f.due ≤ max gone (time + k.most)

-- The last request isn't in the future, and nothing that is pending is late. Shown of worlds by facts_begin of
-- gptp_invariants. Acts keep it (facts_kept), and so does time that passes (nothing_is_late, facts_hold_later). At the
-- last change all frames are due within the largest announce interval, since no delay is longer (stays_short).
pub record Facts (k : Setting) (gone : ℕ) (p : Pair) : Type 0 where
  pub asked : p.asker.asked ≤ p.time
  pub request_timer : p.time ≤ p.asker.asked + k.period
  pub answer_timer : (w : Waiting) → p.waits ≡ Some w → p.time ≤ w.due
  pub out : (f : LaneFrame) → In f p.out → IsDueInTime k gone p.time f
  pub back : (f : LaneFrame) → In f p.back → IsDueInTime k gone p.time f

-- A frame that is new in the lane is due within the greatest delay from now, or with one that was in flight before it:
-- lanes are first in, first out. Shown of worlds by acts_are_acts of gptp_invariants.
abbrev pub IsSentInTime : Setting → ℕ → List LaneFrame → List LaneFrame → Type 0
IsSentInTime k time was now = (f : LaneFrame) → In f now
    → In f was ⊎ ((time ≤ f.due) × ((f.due ≤ time + k.most) ⊎ ((g : LaneFrame) × In g was × (f.due ≤ g.due))))

-- A frame that is new in the lane takes `least` ns or more: its delay is drawn between the bounds of the link, or it is
-- due with the frame before it. Shown of worlds by acts_are_acts.
abbrev pub IsSentLate : ℕ → ℕ → List LaneFrame → List LaneFrame → Type 0
IsSentLate least time was now = (f : LaneFrame) → In f now → In f was ⊎ (time + least ≤ f.due)

-- nothing that is pending is due before that time
pub record NothingIsDueBefore (k : Setting) (time : ℕ) (p : Pair) : Type 0 where
  pub request_timer : time ≤ p.asker.asked + k.period
  pub answer_timer : (w : Waiting) → p.waits ≡ Some w → time ≤ w.due
  pub out : (f : LaneFrame) → In f p.out → time ≤ f.due
  pub back : (f : LaneFrame) → In f p.back → time ≤ f.due

-- A request's answer is back before the next request, and an exchange that begins at `calm` finds nothing old, where
-- the frames that were in flight at the last change are due by `gone`. Shown by timing_is_enough.
pub record IsGood (k : Setting) (gone calm : ℕ) : Type 0 where
  pub short : k.most + k.turnaround + k.most < k.period
  pub late : gone + k.turnaround + k.most < calm
