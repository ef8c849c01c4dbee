-- What selection and the measuring of links make of a system exists.
use Rattle.std.proofs.Common.{◌≡◌, ◌<◌, ◌+◌, ◌*◌, ◌/◌, ◌%◌, ◌^◌, ℕ, zero, suc, ℤ, pos, negsuc, Bool, true, false, List, [], ◌∷◌, Option, Some, None, refl, arith}
use Rattle.std.specs.List.{AllByRecursion}
use Rattle.std.specs.Option.{option_map_or}
use Rattle.std.proofs.lemmas.Int.{ints}
use Rattle.std.proofs.lemmas.Nat.{div-add-mod', mod_below}
use Rattle.std.proofs.lemmas.Option.{none-some}
use Rattle.gptp_vector.specs.declared.vector.Vector.{Vector}
use Rattle.gptp_vector.specs.Vector.{system_vector}
use Rattle.gptp_scaled.specs.Stamp.{FitsStamp, IsSplit, IsTimestamp, Timestamp}
use Rattle.gptp_receipt.specs.declared.held.Held.{Held}
use Rattle.gptp_roles.specs.Choice.{path_vectors, with_held, IsLeast}
use Rattle.gptp_roles.proofs.ChoiceLemmas.{least_alone, least_of_held}
use Rattle.gptp_pdelay.specs.declared.answer.Answer.{Answer as Owed}
use Rattle.gptp_pdelay.specs.Clock.{IsTime}
use Rattle.gptp_pdelay.specs.Peer.{PeerState}
use Rattle.gptp_setup.specs.Intervals.{IsMoment}
use Rattle.gptp_system.specs.declared.port.Port.{Port}
use Rattle.gptp_system.specs.declared.sending.Sending.{Sending}
use Rattle.gptp_system.specs.Measuring.{port_asks, is_turned, owed_at, request_of, turned, RespondsIf, Turns, TurnsAndAsks, TurnsIf}
use Rattle.gptp_system.specs.Ready.{IsReadyPort, IsReady}
use Rattle.gptp_system.specs.Selection.{announcements, choosing, fresh_ports, Becomes, Selects, SelectsIf}
use Rattle.gptp_system.specs.Sends.{pdelay_response, response_follow_up, with_send}
use Rattle.gptp_system.specs.State.{SystemState, clock, number, own, stamp_time, with_peer}
use Rattle.gptp_system.proofs.TakeoverLemmas.{stamps_time}
use Rattle.gptp_theorem.proofs.SettlingInvariantLemmas.{each_there}

-- ---- selection

-- a vector is the least of one and of what ports received
least_exists : (best : Vector) (hs : List Held) → (v : Vector) × IsLeast (best ∷ path_vectors hs) v
least_exists best [] = (best, least_alone best)
least_exists best (h ∷ hs) =
    let rest = least_exists (with_held best h) hs in (rest.0, least_of_held best h hs rest.0 rest.1)

-- a system selects
pub selects_exists : (now : ℕ) (s : SystemState) → (t : SystemState) × (sends : List Sending) × Selects now s t sends
selects_exists now s =
    let chosen = least_exists (system_vector s.identity) s.held in (
      choosing chosen.0 now s,
      announcements (clock s) chosen.0.root chosen.0.steps 1 (fresh_ports chosen.0 s) s.ports,
      record { vector = chosen.0; is_chosen = chosen.1; state = refl; sends_are = refl },
    )

-- a state becomes itself
pub becomes_itself : (s : SystemState) → Becomes s s []
becomes_itself s = record { state = refl; silent = refl }

-- a system selects where it must
pub selects_if_exists : (selects : Bool) (now : ℕ) (s : SystemState)
    → (t : SystemState) × (sends : List Sending) × SelectsIf selects now s t sends
selects_if_exists true now s = selects_exists now s
selects_if_exists false now s = (s, [], becomes_itself s)

-- ---- a step of the measuring

turns_if_exists : (turns : Bool) (p : ℕ) (step : PeerState → PeerState) (now : ℕ) (s : SystemState)
    → (t : SystemState) × (sends : List Sending) × TurnsIf turns p step now s t sends
turns_if_exists true p step now s = selects_exists now (turned p step s)
turns_if_exists false p step now s = (with_peer p step s, [], becomes_itself (with_peer p step s))

-- the measuring of a port takes a step
pub turns_exists : (p : ℕ) (step : PeerState → PeerState) (now : ℕ) (s : SystemState)
    → (t : SystemState) × (sends : List Sending) × Turns p step now s t sends
turns_exists p step now s = turns_if_exists (is_turned step (number s.ports p)) p step now s

-- and the port asks then
pub asks_exists : (p : ℕ) (step : PeerState → PeerState) (now : ℕ) (s : SystemState)
    → (t : SystemState) × (sends : List Sending) × TurnsAndAsks p step now s t sends
asks_exists p step now s =
    let turn = turns_exists p step now s in (
      port_asks p now turn.0,
      with_send (request_of p turn.0) turn.1,
      record { between = turn.0; first = turn.1; turns = turn.2; state = refl; sends_are = refl },
    )

-- ---- times

-- a number of units of 2^-16 ns is that of a timestamp and a rest
record HasParts (n : ℕ) : Type 0 where
  stamp : Timestamp
  rest : ℕ
  is : IsTimestamp stamp
  small : rest < 2 ^ 16
  whole : (stamp.seconds * 1000000000 + stamp.nanos) * 2 ^ 16 + rest ≡ n

has_parts : (n : ℕ) → n < 2 ^ 48 * 1000000000 * 2 ^ 16 → HasParts n
has_parts n few =
    let units = div-add-mod' n 65536 in
    let less = mod_below n 65536 (omega arith) in
    let whole = div-add-mod' (n / 65536) 1000000000 in
    let below = mod_below (n / 65536) 1000000000 (omega arith) in
    let small : (n / 65536) / 1000000000 < 2 ^ 48 = omega (arith, units, whole, few) in
    record {
      stamp = record { seconds = (n / 65536) / 1000000000; nanos = (n / 65536) % 1000000000 };
      rest = n % 65536;
      is = record { seconds = small; nanos = below };
      small = omega (arith, less);
      whole = omega (arith, units, whole);
    }

-- a time that has a timestamp splits into it and a rest
pub split_exists : (x : ℤ) → FitsStamp x → (t : Timestamp) × (rest : ℕ) × IsSplit x t rest
split_exists (pos n) time =
    let high = time.high in
    let parts = has_parts n (omega (arith, ints, high)) in
    let whole = parts.whole in
    (parts.stamp, parts.rest, record { stamp = parts.is; small = parts.small; whole = omega (arith, ints, whole) })
split_exists (negsuc n) time = let low = time.low in absurd (omega (arith, ints, low))

-- so does one that a clock can show
time_fits : (x : ℤ) → IsTime x → FitsStamp x
time_fits x time =
    let high = time.high in record { low = time.low; high = omega (arith, ints, high) }

-- ---- responses

at_number : {X : Type 0} (P : X → Type 0) (xs : List X) (p : ℕ) (x : X) → AllByRecursion P xs
    → number xs p ≡ Some x → P x
at_number P xs zero x all there = absurd (none-some x there)
at_number P xs (suc i) x all there = each_there P xs all i x there

-- what a port owes came at such a time
owed_is_time : (s : SystemState) (p : ℕ) → IsReady s → (one : Owed) → owed_at s p ≡ Some one → IsTime one.t2
owed_is_time s p ready = go (number s.ports p) refl
  where
    go : (here : Option Port) → number s.ports p ≡ here → (one : Owed)
        → option_map_or (λ (q : Port). q.peer.waiting) here None ≡ Some one → IsTime one.t2
    go None none one is = absurd (none-some one is)
    go (Some q) here one is = (at_number IsReadyPort s.ports p q ready.ports here).waiting one is

responds_if_exists : (owed : Option Owed) (p now : ℕ) (s : SystemState) → IsTime (stamp_time s now)
    → ((one : Owed) → owed ≡ Some one → IsTime one.t2) → (sends : List Sending) × RespondsIf owed p now s sends
responds_if_exists None p now s time came = ([], refl)
responds_if_exists (Some one) p now s time came =
    let arrival = split_exists one.t2 (time_fits one.t2 (came one refl)) in
    let departure = split_exists (stamp_time s now) (time_fits (stamp_time s now) time) in (
      pdelay_response (own s p) one arrival.0 arrival.1 ∷ response_follow_up (own s p) one departure.0 departure.1 ∷ [],
      record {
        came = arrival.0;
        came-rest = arrival.1;
        went = departure.0;
        went-rest = departure.1;
        came_is = arrival.2;
        went_is = departure.2;
        sends_are = refl;
      },
    )

-- a port answers what it owes
pub responds_exists : (p now : ℕ) (s : SystemState) → IsReady s → IsMoment now
    → (sends : List Sending) × RespondsIf (owed_at s p) p now s sends
responds_exists p now s ready moment =
    responds_if_exists (owed_at s p) p now s (stamps_time s now ready moment) (owed_is_time s p ready)
