-- The time error: how far the time that a system computes may be from the root's, by the way from the root to it.
use Rattle.std.specs.Prelude.{ℕ, zero, suc, min, ◌+◌, ◌-◌, ◌*◌, ◌/◌, ℤ, pos, ◌-ℤ◌, ◌*ℤ◌, unsigned_abs, List, length, get_or}
use Rattle.gptp_scaled.specs.Floor.{floor_div}
use Rattle.gptp_scaled.specs.Rate.{unit, rate_of}
use Rattle.gptp_pdelay.specs.GoodLink.{ceil_div}
use Rattle.gptp_pdelay.specs.Measured.{clock_rate}
use Rattle.gptp_correction.specs.Sum.{sum_below}

-- A link of the way: its least and its greatest delay, in ns, and the drift of the clock after it, in units of 2^-41.
pub record WayLink : Type 0 where
  pub least : ℕ
  pub most : ℕ
  pub drift : ℤ

-- The way to a system: the drift of the root's clock, and the links, the root's first; for all of them by how much two
-- time stamps of a clock are off together, in ns, and how many units of 2^-16 ns less than it shows they say; over
-- which interval a rate is measured, the turnaround and the residence, in ns.
pub record Way : Type 0 where
  pub drift : ℤ
  pub links : List WayLink
  pub blur : ℕ
  pub behind : ℕ
  pub interval : ℕ
  pub turnaround : ℕ
  pub residence : ℕ

-- the link at a place, counted from 0; past the end one that takes no time
abbrev pub link_at : Way → ℕ → WayLink
link_at w i = get_or w.links i (record { least = 0; most = 0; drift = pos 0 })

-- the drift of the clock so many links from the root
abbrev pub drift_at : Way → ℕ → ℤ
drift_at w zero = w.drift
drift_at w (suc i) = (link_at w i).drift

-- its rate, in units of 2^-41
abbrev pub clock_at : Way → ℕ → ℕ
clock_at w i = clock_rate (drift_at w i)

-- f 0 + f 1 + .. + f (n - 1)
abbrev pub total_below : ℕ → (ℕ → ℕ) → ℕ
total_below zero f = 0
total_below (suc n) f = total_below n f + f n

-- a link's jitter: how much its delays differ, in ns
abbrev pub jitter_at : Way → ℕ → ℕ
jitter_at w i = (link_at w i).most - (link_at w i).least

-- By time stamps a link costs what one costs by exact clocks that takes the blur less at least and the blur more at
-- most: its jitter and its greatest delay as they are measured.
abbrev pub measured_jitter_at : Way → ℕ → ℕ
measured_jitter_at w i = jitter_at w i + 2 * w.blur

abbrev pub measured_most_at : Way → ℕ → ℕ
measured_most_at w i = (link_at w i).most + w.blur

-- What the jitter makes of the neighbour rate that is measured on a link. Both are held at 200 parts in a million, so
-- no jitter makes more of it than that twice.
abbrev pub rate_error_at : Way → ℕ → ℕ
rate_error_at w i = min (ceil_div (2202000000000 * measured_jitter_at w i) w.interval) 879609302 + 4

-- the neighbour rate that is measured there without jitter
abbrev pub steady_rate_at : Way → ℕ → ℤ
steady_rate_at w i = rate_of (pos (clock_at w i)) (pos (clock_at w (suc i)))

-- how far the sum of these rates, up to the link at a place, misses the rate of the root's clock against the clock
-- after that link: rates are added where they ought to be multiplied
abbrev pub unlike_at : Way → ℕ → ℕ
unlike_at w i =
    unsigned_abs (sum_below (suc i) (steady_rate_at w) -ℤ
    floor_div ((pos (clock_at w 0) -ℤ pos (clock_at w (suc i))) *ℤ unit) (pos (clock_at w (suc i))))

-- the error of the rate so far; no rate of 32 bits misses that of two clocks by more than 2587332284 units
abbrev pub rates_error_at : Way → ℕ → ℕ
rates_error_at w i = min (total_below (suc i) (rate_error_at w) + unlike_at w i) 2587332284

-- what a link of this jitter and greatest delay adds: its jitter, and rounding
abbrev pub hop_error : ℕ → ℕ → ℕ → ℕ
hop_error jitter most turnaround = 65556 * jitter + (20 * most + turnaround) / 1500 + 12

-- what the link at a place adds
abbrev pub hop_error_at : Way → ℕ → ℕ
hop_error_at w i = hop_error (measured_jitter_at w i) (measured_most_at w i) w.turnaround

-- what the bridge after it adds, and the link after that: the time that passes there, times the error of the rate
abbrev pub wait_error_at : Way → ℕ → ℕ
wait_error_at w i =
    ceil_div ((w.residence + measured_jitter_at w i + measured_most_at w (suc i)) * rates_error_at w i) 33550000

-- The time error of a system so many links from the root, in units of 2^-16 ns: each link costs its jitter; each bridge
-- costs its residence times the error of the rate so far, to which each link above adds its jitter over the interval.
abbrev pub time_error_at : Way → ℕ → ℕ
time_error_at w h = total_below h (hop_error_at w) + total_below (h - 1) (wait_error_at w)

-- the time error at the end of the way; 0 at the root itself
abbrev pub time_error : Way → ℕ
time_error w = time_error_at w (length w.links)

-- The error of what is read after the link at a place, so long after the Follow_Up: the time error there; and what the
-- error of the rate makes of that span, and of the link's jitter, by which the Follow_Up may come after its Sync, and
-- of what the time stamp of its ingress is off.
abbrev pub reading_error_at : Way → ℕ → ℕ → ℕ
reading_error_at w i later =
    time_error_at w (suc i) + ceil_div ((later + measured_jitter_at w i) * rates_error_at w i) 33550000

-- the error of what a system reads so many links from the root, so long after the Follow_Up; 0 at the root itself
abbrev pub reading_error_after : Way → ℕ → ℕ → ℕ
reading_error_after w zero later = 0
reading_error_after w (suc i) later = reading_error_at w i later

-- the error of what is read at the end of the way, so long after the Follow_Up
abbrev pub reading_error : Way → ℕ → ℕ
reading_error w later = reading_error_after w (length w.links) later
