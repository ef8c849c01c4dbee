-- What follows for the time that is carried.
use Rattle.std.specs.Prelude.{◌≡◌, ℕ, suc, ◌<◌, ℤ, pos, ◌-ℤ◌, List, length}
use Rattle.gptp_correction.specs.declared.correction.Hop.{Hop}
use Rattle.gptp_correction.specs.Correction.{carried_on, receipt}
use Rattle.gptp_correction.specs.Carry.{carried_to, carry_of, hop_at, neighbour_at, residence_at}

-- the sums over all hops are what one hop after the other makes of them: the bridges relay, and the slave receives
pub record CarryGoesByHops : Type 0 where
  pub relayed : (hops : List Hop) (n : ℕ) → carried_on (carried_to hops n) (hop_at hops n) ≡ carried_to hops (suc n)
  pub received : (origin : ℤ) (hops : List Hop) (last : ℕ) → length hops ≡ suc last → let slave = hop_at hops last in
      carry_of origin hops ≡ receipt origin (carried_to hops last) slave.delay slave.neighbour

-- The way of a Sync by the grandmaster's clock, which shows `left i` as the Sync is sent to the hop at place i, and
-- `came i` as it comes there: no clock runs faster than its neighbour's, each link's delay is the time on the
-- grandmaster's clock, and a bridge keeps the Sync as long by that clock as by its own, whatever its own shows.
pub record OnOneClock (hops : List Hop) (left came : ℕ → ℤ) : Type 0 where
  pub rates : (i : ℕ) → i < length hops → neighbour_at hops i ≡ pos 0
  pub delays : (i : ℕ) → i < length hops → (hop_at hops i).delay ≡ came i -ℤ left i
  pub residences : (i : ℕ) → suc i < length hops → residence_at hops i ≡ left (suc i) -ℤ came i

-- the grandmaster's clock at its egress becomes that clock at the ingress of the slave, over any number of bridges
abbrev pub CarryKeepsTime : Type 0
CarryKeepsTime =
    (hops : List Hop) (left came : ℕ → ℤ) (last : ℕ) → length hops ≡ suc last → OnOneClock hops left came →
    carry_of (left 0) hops ≡ came last
