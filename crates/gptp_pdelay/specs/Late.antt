-- What it does to a mean delay that clocks are read late. Counts are in units of 2^-16 ns, ratios in units of 2^-41.
use Rattle.std.specs.Prelude.{◌≡◌, ℕ, ◌+◌, ◌*◌, ◌^◌, ◌<◌, ◌≤◌}

-- The readings of two exchanges, each later than the time that it stands for by at most the blur: e4 and e3 are what is
-- read to have passed since the exchange before, by the requester's clock and by the responder's, own_all and up_all
-- what these counted. What passed from request to response, and from hearing the request to answering, may be less than
-- the blur, so these two aren't named.
pub record AreLate (blur own_all up_all e3 e4 : ℕ) : Type 0 where
  pub came_before : ℕ
  pub asked : ℕ
  pub came : ℕ
  pub sent_before : ℕ
  pub heard : ℕ
  pub sent : ℕ
  pub asked_late : asked ≤ blur
  pub came_late : came ≤ blur
  pub came_before_late : came_before ≤ blur
  pub sent_before_late : sent_before ≤ blur
  pub heard_late : heard ≤ blur
  pub sent_late : sent ≤ blur
  pub e4_is : e4 + came_before ≡ own_all + came
  pub e3_is : e3 + sent_before ≡ up_all + sent

-- The last readings of an exchange are in its counts and in its ratio, so what they are late is shared. Twice the mean
-- isn't above what the neighbour's clock counts, less its turnaround, but for one blur of either clock, also where
-- readings go backward.
abbrev pub LateIsBelow : Type 0
LateIsBelow = (blur own_all own_whole up_all up_wait e3 e4 r : ℕ) (s : AreLate blur own_all up_all e3 e4) →
    own_whole + blur ≤ own_all → r * e4 ≤ 2 ^ 41 * e3 →
    own_all * (r * (own_whole + s.came) + 2 ^ 41 * (up_wait + s.heard)) ≤
    2 ^ 41 * (up_all * (own_whole + blur)) + own_all * (2 ^ 41 * (up_wait + s.sent + blur) + r * s.asked)

-- It isn't below, but for the same, where what passed from request to response is a blur at least.
abbrev pub LateIsAbove : Type 0
LateIsAbove = (blur own_all own_whole up_all up_wait e3 e4 r : ℕ) (s : AreLate blur own_all up_all e3 e4) →
    blur ≤ own_whole → own_whole + blur ≤ own_all → 0 < e4 → 2 ^ 41 * e3 ≤ r * e4 →
    2 ^ 41 * (up_all * own_whole) + own_all * (2 ^ 41 * (up_wait + s.sent) + r * s.asked) ≤
    own_all * (r * (own_whole + s.came) + 2 ^ 41 * (up_wait + s.heard + blur)) + 2 ^ 41 * (up_all * blur)
