-- Syncs and Follow_Ups of Master ports, one port after the other.
use Rattle.std.proofs.Common.{◌≡◌, ℕ, zero, suc, ◌+◌, ◌*◌, ◌<◌, ◌≤◌, ℤ, Bool, true, false, if◌then◌else◌, List, [], ◌∷◌, ◌++◌, length, take, Some, Result, Ok, Err, OkIff, refl, sym, ap, ◌∙◌, inl, inr, arith}
use Rattle.std.specs.Result.{result_ok}
use Rattle.std.specs.Prelude.{slice_set, slice_index_or}
use Rattle.std.specs.List.{AllByRecursion}
use Rattle.gptp_receipt.specs.declared.held.Held.{Held}
use Rattle.gptp_messages.specs.declared.follow_up.FollowUp.{FollowUp}
use Rattle.gptp_correction.specs.declared.correction.Relayed.{Relayed}
use Rattle.gptp_correction.specs.declared.sync_in.SyncInfo.{SyncInfo}
use Rattle.gptp_system.specs.declared.answer.Answer.{Answer}
use Rattle.gptp_system.specs.declared.port.Port.{Port}
use Rattle.gptp_system.specs.declared.sending.Sending.{Sending}
use Rattle.gptp_setup.specs.SettlingParams.{has_sync_timeout}
use Rattle.gptp_system.specs.Ready.{IsReadyPort, IsReady}
use Rattle.gptp_system.specs.State.{SystemState, is_capable_at, is_mine}
use Rattle.gptp_system.specs.Syncing.{counting, counted_by_rates, sync_of, follow_up_of, syncs, telling, delay_at, root_rate_at, said_on, offset_of, HearsFollowUp, IsOffset, KnowsBy, OffsetFits}

-- ports keep their places
pub length-counted : (hs : List Held) (qs : List Port) → length hs ≤ length qs
    → length (counted_by_rates hs qs) ≡ length qs
length-counted [] qs few = refl
length-counted (h ∷ hs) [] few = refl
length-counted (h ∷ hs) (q ∷ qs) few =
    let ih = length-counted hs qs (omega arith) in omega (arith, ih)

-- no port sends more than two
two_more : (b : Bool) (x y : Sending) (xs : List Sending) (n : ℕ) → length xs ≤ 2 * n
    → length (if b then x ∷ y ∷ xs else xs) ≤ 2 * suc n
two_more true x y xs n few = omega arith
two_more false x y xs n few = omega arith

pub length-syncs : (clock : ℕ) (log : ℤ) (told : Relayed) (p : ℕ) (hs : List Held) (qs : List Port)
    → length (syncs clock log told p hs qs) ≤ 2 * length hs
length-syncs clock log told p [] qs = omega arith
length-syncs clock log told p (h ∷ hs) [] = omega arith
length-syncs clock log told p (h ∷ hs) (q ∷ qs) =
    let ih = length-syncs clock log told (p + 1) hs qs in
    two_more (is_mine h) _ _ (syncs clock log told (p + 1) hs qs) (length hs) ih

-- a port that isn't reached stays
pub not_reached : (i : ℕ) (hs : List Held) (qs : List Port) (d : Port) → length hs ≤ i
    → slice_index_or (counted_by_rates hs qs) i d ≡ slice_index_or qs i d
not_reached i [] qs d past = refl
not_reached i (h ∷ hs) [] d past = refl
not_reached zero (h ∷ hs) (q ∷ qs) d past = absurd (omega arith)
not_reached (suc i) (h ∷ hs) (q ∷ qs) d past = not_reached i hs qs d (omega arith)

-- one port more
pub counted-more : (i : ℕ) (hs : List Held) (qs : List Port) (h : Held) (d : Port) → i < length hs
    → h ≡ slice_index_or hs i h → length hs ≤ length qs
    → slice_set (counted_by_rates (take i hs) qs) i
    (if is_mine h then counting (slice_index_or qs i d) else slice_index_or qs i d)
    ≡ counted_by_rates (take (suc i) hs) qs
counted-more i [] qs h d within here few = absurd (omega arith)
counted-more i (g ∷ hs) [] h d within here few = absurd (omega arith)
counted-more zero (g ∷ hs) (q ∷ qs) h d within here few = let same : h ≡ g = here in rw same refl
counted-more (suc i) (g ∷ hs) (q ∷ qs) h d within here few =
    let ih = counted-more i hs qs h d (omega arith) here (omega arith) in
    ap (λ (rest : List Port). (if is_mine g then counting q else q) ∷ rest) ih

-- and its Sync with its Follow_Up, where it is a Master port
in_front : (b : Bool) (x y : Sending) (all some more : List Sending) → all ≡ some ++ more
    → (if b then x ∷ y ∷ all else all) ≡ (if b then x ∷ y ∷ some else some) ++ more
in_front true x y all some more is = ap (λ (xs : List Sending). x ∷ y ∷ xs) is
in_front false x y all some more is = is

pub syncs-more : (clock : ℕ) (log : ℤ) (told : Relayed) (p i : ℕ) (hs : List Held) (qs : List Port)
    (h : Held) (d : Port) → i < length hs → h ≡ slice_index_or hs i h → length hs ≤ length qs
    → syncs clock log told p (take (suc i) hs) qs
    ≡ syncs clock log told p (take i hs) qs
    ++ (if is_mine h
    then sync_of (record { clock = clock; port = p + i }) log (slice_index_or qs i d)
    ∷ follow_up_of (record { clock = clock; port = p + i }) log told (slice_index_or qs i d) ∷ []
    else [])
syncs-more clock log told p i [] qs h d within here few = absurd (omega arith)
syncs-more clock log told p i (g ∷ hs) [] h d within here few = absurd (omega arith)
syncs-more clock log told p zero (g ∷ hs) (q ∷ qs) h d within here few =
    let same : h ≡ g = here in
    let place : p ≡ p + 0 = omega arith in
    rw same
    (ap (λ (n : ℕ). if is_mine g
    then sync_of (record { clock = clock; port = n }) log q ∷ follow_up_of (record { clock = clock; port = n }) log
    told q ∷ []
    else [])
    place)
syncs-more clock log told p (suc i) (g ∷ hs) (q ∷ qs) h d within here few =
    let later : p + 1 + i ≡ p + suc i = omega arith in
    let ih = syncs-more clock log told (p + 1) i hs qs h d (omega arith) here (omega arith) in
    in_front (is_mine g) _ _ _ _ _ (rw later at ih)

-- counting changes neither interval nor what is owed
port_counted : (b : Bool) (q : Port) → IsReadyPort q → IsReadyPort (if b then counting q else q)
port_counted true q is = record { log_interval = is.log_interval; waiting = is.waiting }
port_counted false q is = is

all_ports_counted : (hs : List Held) (qs : List Port) → AllByRecursion IsReadyPort qs
    → AllByRecursion IsReadyPort (counted_by_rates hs qs)
all_ports_counted [] qs all = all
all_ports_counted (h ∷ hs) [] all = tt
all_ports_counted (h ∷ hs) (q ∷ qs) all = (port_counted (is_mine h) q all.0, all_ports_counted hs qs all.1)

pub telling_ready : (s : SystemState) → IsReady s → IsReady (telling s)
telling_ready s ready =
    let few : length s.held ≤ length s.ports = omega (arith, ready.places) in
    let kept = length-counted s.held s.ports few in
    record {
      params = ready.params;
      largest = ready.largest;
      phase = ready.phase;
      drift = ready.drift;
      places = ready.places ∙ sym kept;
      few = omega (arith, kept, ready.few);
      placed = ready.placed;
      recent = ready.recent;
      ports = all_ports_counted s.held s.ports ready.ports;
      lapses = ready.lapses;
      told = ready.told;
      based = ready.based;
    }

-- ---- what a Follow_Up says

pub follows : (p : ℕ) (m : FollowUp) (now : ℕ) (s s' : SystemState) (answer : Answer) (info : SyncInfo)
    → is_capable_at s p ≡ true
    → said_on p m s ≡ Some info
    → KnowsBy (has_sync_timeout s.params) info (delay_at s p) (root_rate_at s p) now s s' [] answer
    → HearsFollowUp p m now s s' [] answer
follows p m now s s' answer info capable said becomes = rw (capable, said) becomes

-- how far the own clock is ahead, where that fits
pub offset_ok : {E : Type 0} (r : Result ℤ E) (info : SyncInfo) (delay rate : ℤ)
    → OkIff r (OffsetFits info delay rate) (offset_of info delay rate) → IsOffset info delay rate (result_ok r)
offset_ok (Ok x) info delay rate k = inl (k.0, ap (λ v. Some v) k.1)
offset_ok (Err e) info delay rate k = inr (k, refl)
