-- How exact the time is that is carried over a whole way.
use Rattle.std.specs.Prelude.{◌≡◌, ℕ, suc, ◌+◌, ◌-◌, ◌*◌, ◌<◌, ◌≤◌, ℤ, pos, ◌-ℤ◌, List, [], ◌∷◌, ◌++◌, length}
use Rattle.gptp_scaled.specs.Counts.{AreWithin}
use Rattle.gptp_pdelay.specs.Clock.{IsDrift, IsStampClock, local_clock}
use Rattle.gptp_pdelay.specs.GoodLink.{ceil_div}
use Rattle.gptp_pdelay.specs.Measured.{AreMeasured}
use Rattle.gptp_correction.specs.declared.correction.Hop.{Hop}
use Rattle.gptp_correction.specs.Carry.{carry_of, hop_at, neighbour_at, CarryFits}
use Rattle.gptp_error_laws.specs.TimeError.{WayLink, Way, drift_at, hop_error_at, jitter_at, link_at, measured_jitter_at, measured_most_at, time_error, time_error_at, total_below, unlike_at, wait_error_at}

-- the time error from the root down: nothing at the root; one link; and a system after a bridge adds to its parent's
-- what its own link and the wait before that add
pub record TimeErrorGoesByHops : Type 0 where
  pub root : (w : Way) → time_error_at w 0 ≡ 0
  pub first : (w : Way) → time_error_at w 1 ≡ hop_error_at w 0
  pub next : (w : Way) (i : ℕ) →
      time_error_at w (suc (suc i)) ≡ time_error_at w (suc i) + (hop_error_at w (suc i) + wait_error_at w i)

-- the error of the rate so far without its limits, those of a neighbour rate and of 32 bits
abbrev pub uncut_rates_error_at : Way → ℕ → ℕ
uncut_rates_error_at w i =
    total_below (suc i) (λ j. ceil_div (2202000000000 * measured_jitter_at w j) w.interval + 4) + unlike_at w i

-- the time error with it
abbrev pub uncut_time_error_at : Way → ℕ → ℕ
uncut_time_error_at w h = total_below h (hop_error_at w) + total_below (h - 1) (λ i.
    ceil_div ((w.residence + measured_jitter_at w i + measured_most_at w (suc i)) * uncut_rates_error_at w i) 33550000)

-- No time error is larger by the limits.
abbrev pub CutsAreNoMore : Type 0
CutsAreNoMore = (w : Way) (h : ℕ) → time_error_at w h ≤ uncut_time_error_at w h

-- the way to a system after the end of this one
abbrev pub longer : Way → WayLink → Way
longer w l = record w { links = w.links ++ (l ∷ []) }

-- The time error of the systems on a way stays as it is where the way goes on: with the law before it, those of all
-- systems are worked out in one pass from the root down.
abbrev pub ParentsErrorStays : Type 0
ParentsErrorStays = (w : Way) (l : WayLink) (h : ℕ) → h ≤ length w.links
    → time_error_at (longer w l) h ≡ time_error_at w h

-- what the clock so many links from the root shows at a time in ns, where the clocks begin with these phases
abbrev pub shown_at : Way → (ℕ → ℕ) → ℕ → ℕ → ℤ
shown_at w phase i t = local_clock (phase i) (drift_at w i) t

-- what is read of the clock so many links from the root: two readings are off by the blur together, and each is
-- `behind` units less than it shows
abbrev pub IsReadAt : Way → (ℕ → ℕ) → ℕ → (ℕ → ℤ) → Type 0
IsReadAt w phase i says = IsStampClock w.blur w.behind (phase i) (drift_at w i) says

-- so it is with each clock of the way
abbrev pub AreRead : Way → (ℕ → ℕ) → (ℕ → ℕ → ℤ) → Type 0
AreRead w phase says = (i : ℕ) → i ≤ length w.links → IsReadAt w phase i (says i)

-- the numbers of a way are those of a document: time stamps are off by 3000 ns at most, an interval has 2^-4 s at
-- least, an answer waits, and each clock keeps within 100 parts in a million (profile)
pub record IsDocumented (w : Way) : Type 0 where
  pub little : w.blur ≤ 3000
  pub long : 62500000 ≤ w.interval
  pub waits : 1 ≤ w.turnaround
  pub drifts : (i : ℕ) → i ≤ length w.links → IsDrift (drift_at w i)

-- A Sync goes over the way: it is sent over the link at each place at one time, `sent`, and comes at another, `came`,
-- in ns. It is on each link between the least and the greatest delay. A bridge sends it on one residence after its
-- Follow_Up, which comes at most the jitter later than it. The hops say when, by what is read of each own clock, and
-- what each port has measured of its link by two exchanges; of these the later begins 12 times the blur behind the
-- earlier.
pub record GoesOver (w : Way) (hops : List Hop) (says : ℕ → ℕ → ℤ) (sent came : ℕ → ℕ) : Type 0 where
  pub as_long : length hops ≡ length w.links
  pub carried_long : (i : ℕ) → i < length hops → sent i + (link_at w i).least ≤ came i
  pub carried_short : (i : ℕ) → i < length hops → came i ≤ sent i + (link_at w i).most
  pub kept_long : (i : ℕ) → suc i < length hops → came i ≤ sent (suc i)
  pub kept_short : (i : ℕ) → suc i < length hops → sent (suc i) ≤ came i + (w.residence + jitter_at w i)
  pub ingress : (i : ℕ) → suc i < length hops → (hop_at hops i).ingress ≡ says (suc i) (came i)
  pub egress : (i : ℕ) → suc i < length hops → (hop_at hops i).egress ≡ says (suc i) (sent (suc i))
  pub measured : (i : ℕ) → i < length hops → AreMeasured (link_at w i).least (link_at w i).most w.turnaround w.interval
      (says (suc i)) (says i) (neighbour_at hops i) (hop_at hops i).delay
  pub rested : (i : ℕ) (h : i < length hops) → (measured i h).earlier.came + 12 * w.blur ≤ (measured i h).later.asked

-- Where the first Follow_Up says what is read of the root's clock at its egress, the time that is carried to the last
-- system is within the time error of the root's clock as the Sync comes there, less what all readings are behind:
-- whatever the phases, and however the delays and the readings fall. (`CarryKeepsTime` of gptp_correction is the case
-- without jitter, drift and rounding, where both are the same.)
abbrev pub CarryIsWithin : Type 0
CarryIsWithin = (w : Way) (hops : List Hop) (phase : ℕ → ℕ) (says : ℕ → ℕ → ℤ) (sent came : ℕ → ℕ)
    (last : ℕ) → length hops ≡ suc last → IsDocumented w → AreRead w phase says →
    GoesOver w hops says sent came → CarryFits (says 0 (sent 0)) hops →
    AreWithin (time_error w) (carry_of (says 0 (sent 0)) hops) (shown_at w phase 0 (came last) -ℤ pos w.behind)

-- At the Follow_Up, which comes at most the jitter of the last link later, the offset of the last system, which is
-- what it read of its clock as the Sync came less the time that was carried, is within the time error of what its clock
-- shows then less what the root's does.
abbrev pub OffsetOfWayIsWithin : Type 0
OffsetOfWayIsWithin = (w : Way) (hops : List Hop) (phase : ℕ → ℕ) (says : ℕ → ℕ → ℤ)
    (sent came : ℕ → ℕ) (last now : ℕ) → length hops ≡ suc last → IsDocumented w → AreRead w phase says →
    GoesOver w hops says sent came → CarryFits (says 0 (sent 0)) hops → came last ≤ now →
    now ≤ came last + jitter_at w last → AreWithin (time_error w)
    (says (suc last) (came last) -ℤ carry_of (says 0 (sent 0)) hops)
    (shown_at w phase (suc last) now -ℤ shown_at w phase 0 now)
