-- The law of good links: over a link that is short enough for the threshold, clocks within their limits measure no
-- delay above it, where two readings of them are off by at most w ns together.
use Rattle.std.specs.Prelude.{◌≡◌, ℕ, ◌+◌, ◌-◌, ◌*◌, ◌/◌, ◌≤◌, ℤ, ◌-ℤ◌, Bool, Option}
use Rattle.gptp_scaled.specs.Rate.{IsNeighborRate}
use Rattle.gptp_pdelay.specs.Clock.{IsDrift, IsElapsed, IsStampClock}
pub use Rattle.gptp_pdelay.specs.Exchange.{IsWithinThreshold}
use Rattle.gptp_pdelay.specs.Exchange.{mean_delay, measurement_of, shows_neighbor}
use Rattle.gptp_pdelay.specs.declared.exchange.Times.{Times}
use Rattle.gptp_pdelay.specs.declared.progress.Request.{Request}
use Rattle.gptp_pdelay.specs.declared.progress.Response.{Response}

-- x / d, rounded up
abbrev pub ceil_div : ℕ → ℕ → ℕ
ceil_div x d = (x + (d - 1)) / d

-- A link is good where its largest delay leaves room below the threshold for what the drift of two clocks and their
-- rounding add while a request crosses it, the responder waits the turnaround and the response crosses it; all in ns
-- (profile).
abbrev pub IsGoodLink : ℕ → ℕ → ℕ → Type 0
IsGoodLink most turnaround threshold = most + ceil_div most 1000 + ceil_div turnaround 2000 + 2 ≤ threshold

-- The core of the law: two clocks within their limits are read to count the two spans of an exchange over a link that
-- is good with w more, the requester's from the request to the response, and the responder's the turnaround. No time of
-- either clock is used, so the responder may have heard another request than the one that it answers. What is read may
-- go backward.
abbrev pub GoodLinkByElapsed : Type 0
GoodLinkByElapsed = (w most turnaround threshold span : ℕ) (rate requester responder : ℤ)
    → IsGoodLink (most + w) turnaround threshold → IsNeighborRate rate → span ≤ 2 * most + turnaround
    → IsElapsed w span requester → IsElapsed w turnaround responder
    → IsWithinThreshold threshold (mean_delay rate requester responder)

-- The times of an exchange over a link whose largest delay is `most`, by the clock of the requester, `mine`, and
-- that of the responder, `yours`: the request was sent at x, and the response received at z; t2 was kept at y, and
-- the response sent exactly one turnaround later.
pub record ExchangeIsTimely (most turnaround : ℕ) (mine yours : ℕ → ℤ) (t1 t2 t3 t4 : ℤ) : Type 0 where
  pub x : ℕ
  pub y : ℕ
  pub z : ℕ
  pub sent : t1 ≡ mine x
  pub received : t4 ≡ mine z
  pub heard : t2 ≡ yours y
  pub answered : t3 ≡ yours (y + turnaround)
  pub order : x ≤ z
  pub soon : z ≤ x + (2 * most + turnaround)

-- The law: whatever the phases, the drifts within their limits and the neighbour rate within its own, such an
-- exchange gives a delay of at most the threshold. The moment y isn't bound to x and z: t2 may be that of an older
-- request, which lies before t1 and makes the delay smaller.
abbrev pub GoodLink : Type 0
GoodLink = (w behind most turnaround threshold phase phase' : ℕ) (drift drift' : ℤ) (mine yours : ℕ → ℤ)
    (rate t1 t2 t3 t4 : ℤ) → IsGoodLink (most + w) turnaround threshold → IsNeighborRate rate → IsDrift drift
    → IsDrift drift' → IsStampClock w behind phase drift mine → IsStampClock w behind phase' drift' yours
    → ExchangeIsTimely most turnaround mine yours t1 t2 t3 t4
    → IsWithinThreshold threshold (mean_delay rate (t4 -ℤ t1) (t3 -ℤ t2))

-- On a good link each full exchange but the first since the reset shows the neighbour, since whichever exchange its
-- rate is measured.
abbrev pub GoodLinkShowsNeighbor : Type 0
GoodLinkShowsNeighbor = (w behind most turnaround threshold phase phase' : ℕ) (drift drift' : ℤ) (mine yours : ℕ → ℤ)
    (since : Option Times) (again : Bool) (request : Request) (response : Response) (t3 : ℤ)
    → IsGoodLink (most + w) turnaround threshold → IsDrift drift → IsDrift drift'
    → IsStampClock w behind phase drift mine → IsStampClock w behind phase' drift' yours
    → ExchangeIsTimely most turnaround mine yours request.t1 response.t2 t3 response.t4
    → shows_neighbor threshold (measurement_of since again request response t3) ≡ again
