use Rattle.std.proofs.Common.{◌≡◌, ◌+◌, ◌-◌, ◌≤◌, ℕ, zero, suc, Bool, true, false, ◌&&◌, if◌then◌else◌, Option, Some, None, option_map, List, [], ◌∷◌, length, take, slice_get, refl, sym, ap, ◌∙◌, arith}
use Rattle.std.proofs.lemmas.List.{length-take}
use Rattle.std.specs.List.{AllByRecursion}
use Rattle.std.specs.Option.{ForSome, option_map_or}
use Rattle.gptp_pdelay.specs.declared.exchange.Measurement.{Measurement}
use Rattle.gptp_pdelay.specs.declared.exchange.Times.{Times}
use Rattle.gptp_pdelay.specs.declared.progress.Progress.{Progress}
use Rattle.gptp_pdelay.specs.declared.progress.Progress.TheVariants.{Closed}
use Rattle.gptp_pdelay.specs.Capability.{Event, Resets, Asks, IsAsked, Answers, HearsResponse, HearsFollowUp, IntervalEnds, after, after_all}
use Rattle.gptp_pdelay.specs.Earlier.{past_of}
use Rattle.gptp_pdelay.specs.Exchange.{AreTimes, oldest, times_of}
use Rattle.gptp_pdelay.specs.Past.{PastIsNewest, WindowStays, since_reset, since_reset_all}
use Rattle.gptp_pdelay.specs.Peer.{PeerState, answered_by, completed, is_open, loses_too_many, measured_by, new_peer, reset_peer}

-- ---- lists of times

-- one more in front
pub take_more : (n : ℕ) (t : Times) (ts : List Times) → take (n + 1) (t ∷ ts) ≡ t ∷ take n ts
take_more n t ts = let e : n + 1 ≡ suc n = omega arith in rw e refl

-- to leave so many first doesn't matter to what is left with one more in front
take_again : (n : ℕ) (t : Times) (ts : List Times) → take n (t ∷ take n ts) ≡ take n (t ∷ ts)
take_again zero t ts = refl
take_again (suc n) t [] = refl
take_again (suc n) t (u ∷ us) = ap (λ vs. t ∷ vs) (take_again n u us)

-- the oldest stands last
pub oldest_at : (ts : List Times) → oldest ts ≡ slice_get ts (length ts - 1)
oldest_at [] = refl
oldest_at (t ∷ []) = refl
oldest_at (t ∷ (u ∷ ts)) =
    let here : suc (suc (length ts)) - 1 ≡ suc (length ts) = omega arith in
    let behind : suc (length ts) - 1 ≡ length ts = omega arith in
    oldest_at (u ∷ ts) ∙ ap (slice_get (u ∷ ts)) behind ∙ ap (slice_get (t ∷ (u ∷ ts))) (sym here)

-- it is as all are
pub oldest_are : (ts : List Times) → AllByRecursion AreTimes ts → ForSome (oldest ts) AreTimes
oldest_are [] h = λ t is. absurd cc
oldest_are (t ∷ []) h = λ x is. let e : t ≡ x = cc in rw (sym e) h.0
oldest_are (t ∷ (u ∷ ts)) h = oldest_are (u ∷ ts) h.1

-- so many of the first are as all are
pub take_are : (n : ℕ) (ts : List Times) → AllByRecursion AreTimes ts → AllByRecursion AreTimes (take n ts)
take_are zero ts h = tt
take_are (suc n) [] h = tt
take_are (suc n) (t ∷ ts) h = (h.0, take_are n ts h.1)

-- ---- the window

-- the last exchange and those before it
pub oldest_of : (last : Option Measurement) (earlier : List Times) → oldest earlier ≡ None
    → oldest (past_of last earlier) ≡ option_map times_of last
oldest_of None earlier none = none
oldest_of (Some last) [] none = refl
oldest_of (Some last) (t ∷ ts) none = absurd (found t ts none)
  where
    found : (t : Times) (ts : List Times) → oldest (t ∷ ts) ≡ None → ⊥
    found t [] e = absurd cc
    found t (u ∷ ts) e = found u ts e

pub oldest_before : (last : Option Measurement) (earlier : List Times) (t : Times) → oldest earlier ≡ Some t
    → oldest (past_of last earlier) ≡ Some t
oldest_before None earlier t is = is
oldest_before (Some last) [] t is = absurd cc
oldest_before (Some last) (u ∷ us) t is = is

-- a state after an exchange, if there is one
abbrev exchanges : Option Measurement → PeerState → PeerState
exchanges o p = option_map_or (λ m. completed m p) o p

-- a state where the progress is another
abbrev progresses : Option Progress → PeerState → PeerState
progresses o p = option_map_or (λ progress. record p { progress = progress }) o p

-- a state at the end of an interval
abbrev ends : Bool → Bool → PeerState → PeerState
ends open' many p =
    if open' then (if many then reset_peer p else record p { progress = Closed; lost = p.lost + 1 }) else p

exchange_window : (o : Option Measurement) (p : PeerState) → (exchanges o p).window ≡ p.window
exchange_window None p = refl
exchange_window (Some m) p = refl

response_window : (o : Option Progress) (p : PeerState) → (progresses o p).window ≡ p.window
response_window None p = refl
response_window (Some progress) p = refl

interval_window : (open' many : Bool) (p : PeerState) → (ends open' many p).window ≡ p.window
interval_window true true p = refl
interval_window true false p = refl
interval_window false many p = refl

stays : (e : Event) (p : PeerState) → (after e p).window ≡ p.window
stays Resets p = refl
stays (Asks t1) p = refl
stays (IsAsked answer) p = refl
stays Answers p = refl
stays (HearsResponse r t4) p = response_window (answered_by r t4 p.own p.progress) p
stays (HearsFollowUp f) p = exchange_window (measured_by f p.own p.last p.past p.progress) p
stays IntervalEnds p = interval_window (is_open p.progress) (loses_too_many p) p

-- ---- what is kept

exchange_past : (o : Option Measurement) (p : PeerState) (ts : List Times) → p.past ≡ take p.window ts
    → (exchanges o p).past ≡ take p.window (option_map_or (λ m. times_of m ∷ ts) o ts)
exchange_past None p ts h = h
exchange_past (Some m) p ts h = ap (λ us. take p.window (times_of m ∷ us)) h ∙ take_again p.window (times_of m) ts

response_past : (o : Option Progress) (p : PeerState) (ts : List Times) → p.past ≡ take p.window ts
    → (progresses o p).past ≡ take p.window ts
response_past None p ts h = h
response_past (Some progress) p ts h = h

none_left : (n : ℕ) → take {A = Times} n [] ≡ []
none_left zero = refl
none_left (suc n) = refl

interval_past : (open' many : Bool) (p : PeerState) (ts : List Times) → p.past ≡ take p.window ts
    → (ends open' many p).past ≡ take p.window (if open' && many then [] else ts)
interval_past true true p ts h = sym (none_left p.window)
interval_past true false p ts h = h
interval_past false many p ts h = h

newest : (e : Event) (p : PeerState) (ts : List Times) → p.past ≡ take p.window ts
    → (after e p).past ≡ take p.window (since_reset e p ts)
newest Resets p ts h = sym (none_left p.window)
newest (Asks t1) p ts h = h
newest (IsAsked answer) p ts h = h
newest Answers p ts h = h
newest (HearsResponse r t4) p ts h = response_past (answered_by r t4 p.own p.progress) p ts h
newest (HearsFollowUp f) p ts h = exchange_past (measured_by f p.own p.last p.past p.progress) p ts h
newest IntervalEnds p ts h = interval_past (is_open p.progress) (loses_too_many p) p ts h

newest_all : (es : List Event) (p : PeerState) (ts : List Times) → p.past ≡ take p.window ts
    → (after_all es p).past ≡ take p.window (since_reset_all es p ts)
newest_all [] p ts h = h
newest_all (e ∷ es) p ts h =
    newest_all es (after e p) (since_reset e p ts)
    (newest e p ts h ∙ ap (λ n. take n (since_reset e p ts)) (sym (stays e p)))
    ∙ ap (λ n. take n (since_reset_all es (after e p) (since_reset e p ts))) (stays e p)

-- a port keeps the newest exchanges since its reset
pub past_is_newest : PastIsNewest
past_is_newest own threshold allowed window events =
    newest_all events (new_peer own threshold allowed window) [] (sym (none_left window))

few_taken : (n : ℕ) (ts : List Times) → length (take n ts) ≤ n
few_taken n ts = omega (arith, length-take n ts)

exchange_few : (o : Option Measurement) (p : PeerState) → length p.past ≤ p.window
    → length (exchanges o p).past ≤ (exchanges o p).window
exchange_few None p h = h
exchange_few (Some m) p h = few_taken p.window (times_of m ∷ p.past)

response_few : (o : Option Progress) (p : PeerState) → length p.past ≤ p.window
    → length (progresses o p).past ≤ (progresses o p).window
response_few None p h = h
response_few (Some progress) p h = h

interval_few : (open' many : Bool) (p : PeerState) → length p.past ≤ p.window
    → length (ends open' many p).past ≤ (ends open' many p).window
interval_few true true p h = omega arith
interval_few true false p h = h
interval_few false many p h = h

few : (e : Event) (p : PeerState) → length p.past ≤ p.window → length (after e p).past ≤ (after e p).window
few Resets p h = omega arith
few (Asks t1) p h = h
few (IsAsked answer) p h = h
few Answers p h = h
few (HearsResponse r t4) p h = response_few (answered_by r t4 p.own p.progress) p h
few (HearsFollowUp f) p h = exchange_few (measured_by f p.own p.last p.past p.progress) p h
few IntervalEnds p h = interval_few (is_open p.progress) (loses_too_many p) p h

-- the window of a port stays, and it keeps no more than that
pub window_stays : WindowStays
window_stays = record { window = stays; few = few }
