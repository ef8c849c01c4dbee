-- One direction of a link: a port that asks and a port that answers. The other direction is another such setting.
use Rattle.std.specs.Prelude.{◌≡◌, ℕ, ◌+◌, ◌≤◌, ℤ}
use Rattle.gptp_graph.specs.Snapshot.{PortIdentity}

-- The ports, and what doesn't change between two changes of the network; times in ns. `most` is the greatest delay of
-- the link, `turnaround` the time that an answer waits, `period` the interval between two requests, `allowed` how many
-- in a row may be lost (allowedLostResponses, IEEE 802.1AS-2020, 11.5.3), and `window` over how many exchanges a rate
-- is measured. The clocks give the time stamps that the two systems take of their local clocks, in 2^-16 ns, at each
-- time.
--
-- No act changes a phase, a drift or how time is stamped, and a system that recovers has those that it had. The ports
-- are of two systems, so a response never has the own clock as its source. Shown of worlds by acts_are_acts of
-- gptp_invariants.
pub record Setting : Type 0 where
  pub asking : PortIdentity
  pub answering : PortIdentity
  pub most : ℕ
  pub turnaround : ℕ
  pub period : ℕ
  pub allowed : ℕ
  pub window : ℕ
  pub asking_clock : ℕ → ℤ
  pub answering_clock : ℕ → ℤ

-- y is from s on, by s + most at the latest
abbrev pub IsByMost : ℕ → ℕ → ℕ → Type 0
IsByMost s y most = (s ≤ y) × (y ≤ s + most)

-- y is from s + least on, by s + most at the latest
abbrev pub IsBetween : ℕ → ℕ → ℕ → ℕ → Type 0
IsBetween s y least most = (s + least ≤ y) × (y ≤ s + most)

-- The four times are those of one exchange over the link (IEEE 802.1AS-2020, figure 11-1): the request was sent at one
-- time and came at another within the greatest delay, the response was sent the turnaround later, and came within the
-- greatest delay too.
pub record IsExchange (k : Setting) (t1 t2 t3 t4 : ℤ) : Type 0 where
  pub sent : ℕ
  pub came : ℕ
  pub back : ℕ
  pub is_t1 : t1 ≡ k.asking_clock sent
  pub is_t2 : t2 ≡ k.answering_clock came
  pub is_t3 : t3 ≡ k.answering_clock (came + k.turnaround)
  pub is_t4 : t4 ≡ k.asking_clock back
  pub there : IsByMost sent came k.most
  pub home : IsByMost (came + k.turnaround) back k.most
