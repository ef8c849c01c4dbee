-- The two ports of one direction of a link, as far as the one measures the delay to the other, and the two lanes
-- between them. The other direction of the link is a second such pair over the same lanes, exchanged.
use Rattle.std.specs.Prelude.{◌≡◌, ◌≤◌, ℕ, List, Option}
use Rattle.gptp_pdelay_machine.specs.Lanes.{LaneFrame}
use Rattle.gptp_pdelay_machine.specs.Asker.{Asker}
use Rattle.gptp_pdelay_machine.specs.Answerer.{Waiting}

-- `out` are the frames in flight to the port that answers, `back` those to the port that asks, the oldest first. A
-- request `waits` from when it came until it is answered, which is while the Respond timer runs (links_are_seen of
-- gptp_invariants).
pub record Pair : Type 0 where
  pub time : ℕ
  pub asker : Asker
  pub waits : Option Waiting
  pub out : List LaneFrame
  pub back : List LaneFrame

-- the pair at another time, with all else as it was
abbrev pub pair_at_time : Pair → ℕ → Pair
pair_at_time p time = record p { time = time }

-- time passes and nothing else happens
abbrev pub TimeOnlyPasses : Pair → Pair → Type 0
TimeOnlyPasses p p' = (time : ℕ) × (p.time ≤ time) × (p' ≡ pair_at_time p time)
