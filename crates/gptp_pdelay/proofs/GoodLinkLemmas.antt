use Rattle.std.proofs.Common.{◌≡◌, ℕ, ◌*◌, ◌+◌, ◌-◌, ◌≤◌, ℤ, pos, neg_ℤ, ◌+ℤ◌, ◌-ℤ◌, ◌*ℤ◌, ◌≤ℤ◌, int_le, true, rules, arith}
use Rattle.std.proofs.lemmas.Int.{ints, clamps}
use Rattle.gptp_scaled.specs.Rate.{unit, limit, scaled_by}
use Rattle.gptp_scaled.proofs.FloorLemmas.{floor_is, floor_below}
use Rattle.gptp_scaled.proofs.ProductLemmas.{distribute, times_grows}
use Rattle.gptp_pdelay.specs.Clock.{IsElapsed}
use Rattle.gptp_pdelay.specs.GoodLink.{GoodLinkByElapsed, GoodLink, GoodLinkShowsNeighbor, IsGoodLink}
use Rattle.gptp_pdelay.specs.Exchange.{IsWithinThreshold, mean_delay, neighbor_rate}
use Rattle.gptp_pdelay.proofs.ClockLemmas.{clock_elapses}
use Rattle.gptp_pdelay.proofs.ExchangeLemmas.{neighbor_rate_is_within}
use Rattle.std.proofs.Math.Bool.{and-true}

-- The requester's clock counts at most 10001/10000 of the span, and 10003/10000 once it is brought to the
-- responder's rate; the responder's clock counts at least 9999/10000 of the turnaround. Half of the difference is
-- below the largest delay, its 1000th part and the 2000th part of the turnaround. What is read may be negative, so what
-- is brought to the other rate is it and what it may be off.
pub good_link_by_elapsed : GoodLinkByElapsed
good_link_by_elapsed w most turnaround threshold span rate requester responder good near soon own other =
    let k = pos (65536 * w + 1) in
    let floor = floor_is (requester *ℤ rate) unit (omega (arith, ints)) in
    let some : pos 0 ≤ℤ (requester +ℤ k) = omega (arith, ints, own.low) in
    let gained = times_grows (requester +ℤ k) rate limit some near.high in
    let back = times_grows k (neg_ℤ limit) rate (omega (arith, ints)) near.low in
    let sum = distribute rate requester k in
    let twice = scaled_by rate requester -ℤ responder in
    let small : twice ≤ℤ (pos 2 *ℤ pos (65536 * threshold)) =
    omega (arith, ints, floor.reached, gained, back, sum, own.high, other.low, good, soon) in
    let half = floor_below twice (pos 2) (pos (65536 * threshold)) (omega (arith, ints)) small in
    omega (arith, ints, clamps, half)

-- the same over the times of the exchange
pub good_link : GoodLink
good_link w behind most turnaround threshold phase phase' drift drift' mine yours rate t1 t2 t3 t4 good near d d' c c'
    e =
    let passed = clock_elapses w behind phase drift mine e.x (e.z - e.x) d c in
    let answered = clock_elapses w behind phase' drift' yours e.y turnaround d' c' in
    let z : e.x + (e.z - e.x) ≡ e.z = omega (arith, e.order) in
    let own : IsElapsed w (e.z - e.x) (t4 -ℤ t1) = rw (e.sent, e.received) (rw z at passed) in
    let other : IsElapsed w turnaround (t3 -ℤ t2) = rw (e.heard, e.answered) answered in
    let soon : e.z - e.x ≤ 2 * most + turnaround = omega (arith, e.soon) in
    good_link_by_elapsed w most turnaround threshold (e.z - e.x) rate (t4 -ℤ t1) (t3 -ℤ t2) good near soon own other

-- a link that is good with more delay is good
pub good_without : (more most turnaround threshold : ℕ) → IsGoodLink (most + more) turnaround threshold
    → IsGoodLink most turnaround threshold
good_without more most turnaround threshold good = omega (arith, good)

-- a delay within the threshold passes the test
is_at_most : (threshold : ℕ) (delay : ℤ) → IsWithinThreshold threshold delay
    → int_le delay (pos (65536 * threshold)) ≡ true
is_at_most threshold delay h = search rules

-- so the threshold's test passes, and only whether the exchange is the first is left of what it shows
pub good_link_shows_neighbor : GoodLinkShowsNeighbor
good_link_shows_neighbor w behind most turnaround threshold phase phase' drift drift' mine yours since again request
    response t3 good d d' c c' e =
    let rate = neighbor_rate since t3 response.t4 in
    let near = neighbor_rate_is_within since t3 response.t4 in
    let delay = mean_delay rate (response.t4 -ℤ request.t1) (t3 -ℤ response.t2) in
    let within : IsWithinThreshold threshold delay =
    good_link w behind most turnaround threshold phase phase' drift drift' mine yours rate _ _ _ _ good near d d' c c' e
    in
    rw (is_at_most threshold delay within) (and-true again)
