-- The time that a Sync carries over a list of hops: bridges, and a slave as the last.
use Rattle.std.specs.Prelude.{◌≡◌, ℕ, suc, ◌<◌, ℤ, pos, ◌+ℤ◌, ◌-ℤ◌, List, [], ◌∷◌, length, get_or}
use Rattle.gptp_scaled.specs.Rate.{scaled_by}
use Rattle.gptp_correction.specs.declared.correction.Hop.{Hop}
use Rattle.gptp_correction.specs.declared.correction.Carried.{Carried}
use Rattle.gptp_correction.specs.Sum.{sum_below}
use Rattle.gptp_correction.specs.Correction.{link_time, BridgeFits, SlaveFits}

-- the hop at a place, counted from 0; past the end one that takes no time
abbrev pub hop_at : List Hop → ℕ → Hop
hop_at hops i = get_or hops i (record { delay = pos 0; neighbour = pos 0; ingress = pos 0; egress = pos 0 })

-- the neighbour's rate there
abbrev pub neighbour_at : List Hop → ℕ → ℤ
neighbour_at hops i = (hop_at hops i).neighbour

-- how long the Sync was on the link to it, by the clock there
abbrev pub link_time_at : List Hop → ℕ → ℤ
link_time_at hops i = link_time (hop_at hops i).delay (neighbour_at hops i)

-- how long it stayed there, by the clock there
abbrev pub residence_at : List Hop → ℕ → ℤ
residence_at hops i = (hop_at hops i).egress -ℤ (hop_at hops i).ingress

-- the rate of the grandmaster's clock against the clock there: the sum of the neighbours' rates up to there
abbrev pub rate_at : List Hop → ℕ → ℤ
rate_at hops i = sum_below (suc i) (neighbour_at hops)

-- what a bridge there adds to the correction: link delay and residence at that rate
abbrev pub added_at : List Hop → ℕ → ℤ
added_at hops i = scaled_by (rate_at hops i) (link_time_at hops i +ℤ residence_at hops i)

-- The receipt time at the slave: the origin, what the bridges add, and the delay of the last link at its rate. Without
-- a hop it is the origin.
abbrev pub carry_of : ℤ → List Hop → ℤ
carry_of origin [] = origin
carry_of origin (h ∷ hs) =
    let hops = h ∷ hs in let last = length hs in
    (origin +ℤ sum_below last (added_at hops)) +ℤ scaled_by (rate_at hops last) (link_time_at hops last)

-- what is carried to the hop at a place: what the bridges before it add, and the sum of the rates before it
abbrev pub carried_to : List Hop → ℕ → Carried
carried_to hops i = record { correction = sum_below i (added_at hops); rate = sum_below i (neighbour_at hops) }

-- the numbers of a bridge at a place fit, and those of a slave there
abbrev pub BridgeFitsAt : List Hop → ℕ → Type 0
BridgeFitsAt hops i = BridgeFits (hop_at hops i) (carried_to hops (suc i))

abbrev pub SlaveFitsAt : ℤ → List Hop → ℕ → Type 0
SlaveFitsAt origin hops i = SlaveFits origin (carried_to hops i) (hop_at hops i).delay (neighbour_at hops i)

-- every number on the way fits: those of the bridges, and those of the slave, which is the last
pub record CarryFits (origin : ℤ) (hops : List Hop) : Type 0 where
  pub bridges : (i : ℕ) → suc i < length hops → BridgeFitsAt hops i
  pub slave : (last : ℕ) → length hops ≡ suc last → SlaveFitsAt origin hops last
