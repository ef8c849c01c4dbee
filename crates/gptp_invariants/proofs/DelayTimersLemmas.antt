-- When the Pdelay timers of ports start and stop, and that links which are up stay so.
use Rattle.std.proofs.Common.{◌≡◌, ◌≢◌, ◌⊎◌, ℕ, zero, suc, Bool, true, false, List, Some, IsSome, slice_get, slice_set, refl, sym, ap, subst, ◌∙◌, inl, inr, arith}
use Rattle.std.specs.Prelude.{if◌then◌else◌, ◌==◌}
use Rattle.std.specs.Option.{option_and_then}
use Rattle.std.proofs.lemmas.Bool.Decides.{nat_tests}
use Rattle.gptp_vector.specs.declared.port.PortId.{PortId}
use Rattle.gptp_messages.specs.declared.message.Message.{Message}
use Rattle.gptp_messages.specs.declared.message.Message.TheVariants as messages
use Rattle.gptp_links.specs.declared.link.Direction.{Direction}
use Rattle.gptp_links.specs.Fate.{Draw}
use Rattle.gptp_pdelay.specs.Peer.{after_interval, reset_peer}
use Rattle.gptp_system.specs.declared.answer.Answer.{Answer}
use Rattle.gptp_system.specs.declared.port.Port.{Port}
use Rattle.gptp_system.specs.declared.sending.Sending.{Sending}
use Rattle.gptp_setup.specs.declared.timer.Timer.TheVariants as timers
use Rattle.gptp_system.specs.Input.{Input, Steps, PortUp, PortDown, Frame, Expires, Priority}
use Rattle.gptp_system.specs.Measures.{IsPartAfter, Part, only_at, part_answered, part_asked, part_down, part_heard, measure_at}
use Rattle.gptp_system.specs.State.{SystemState}
use Rattle.gptp_system.specs.Steps.{IsUp}
use Rattle.gptp_system.proofs.MeasureLemmas.{steps_measure}
use Rattle.gptp_system.proofs.SystemLemmas.{up_is_port}
use Rattle.gptp_model.specs.Act.{Calls, TakesFrame}
use Rattle.gptp_model.specs.Sends.{SendsOne}
use Rattle.gptp_model.specs.World.{Channel, Net, WorldState, sender}
use Rattle.gptp_model.proofs.BareLemmas.{DifferInFlight, bare, calls_bare, sends_one_bare, takes_bare}
use Rattle.gptp_lists.proofs.MappedLemmas.{alike, same_there}
use Rattle.gptp_lists.proofs.PlaceLemmas.{get-set_other, get-set_same, member_there, same_place}
use Rattle.gptp_model.proofs.StayLemmas.{sender_same}
use Rattle.gptp_invariants.specs.DelayLinked.{BeginsLink}

-- ---- one step

-- its Pdelay timer runs
abbrev Runs : Part → Type 0
Runs x = IsSome x.pdelay

module _ (s : SystemState) (now : ℕ) where
  -- what is done at one port alone starts no timer there, or runs at another port
  only_runs : (n k : ℕ) (f : Part → Part) (x x' : Part) → (n ≡ k → Runs (f x) → Runs x) → x' ≡ only_at n f k x → Runs x'
      → Runs x
  only_runs n k f x x' here is runs = by (k == n) refl (subst Runs is runs)
    where
      by : (b : Bool) → (k == n) ≡ b → Runs (if b then f x else x) → Runs x
      by true same now_runs = here (grind (arith, nat_tests)) now_runs
      by false other now_runs = now_runs

  heard_runs : (m : Message) (x : Part) → Runs (part_heard s now m x) → Runs x
  heard_runs (messages.Announce m) x runs = runs
  heard_runs (messages.Sync head) x runs = runs
  heard_runs (messages.FollowUp m) x runs = runs
  heard_runs (messages.PdelayReq head) x runs = runs
  heard_runs (messages.PdelayResp m) x runs = runs
  heard_runs (messages.PdelayRespFollowUp m) x runs = runs

  -- the link of a port comes up
  up_runs : (n k : ℕ) (x x' : Part) → x' ≡ only_at n (part_asked s now reset_peer) k x → Runs x'
      → (PortUp n ≡ PortUp k) ⊎ Runs x
  up_runs n k x x' is runs = by (k == n) refl (subst Runs is runs)
    where
      by : (b : Bool) → (k == n) ≡ b → Runs (if b then part_asked s now reset_peer x else x)
          → (PortUp n ≡ PortUp k) ⊎ Runs x
      by true same now_runs = inl (ap PortUp (grind (arith, nat_tests)))
      by false other now_runs = inr now_runs

  -- Only that its link comes up starts the Pdelay timer of a port, where it didn't run out.
  part_runs : (input : Input) (k : ℕ) (x x' : Part) → (input ≡ Expires (timers.Pdelay k) → Runs x)
      → IsPartAfter s now input k x x' → Runs x' → (input ≡ PortUp k) ⊎ Runs x
  part_runs (PortUp n) k x x' out is runs = up_runs n k x x' is runs
  part_runs (PortDown n) k x x' out is runs = inr (only_runs n k part_down x x' (λ here none. absurd cc) is runs)
  part_runs (Frame n octets) k x x' out (inl (m, reads, is)) runs =
      inr (only_runs n k (part_heard s now m) x x' (λ here. heard_runs m x) is runs)
  part_runs (Frame n octets) k x x' out (inr (none, is)) runs = inr (subst Runs is runs)
  part_runs (Expires (timers.Pdelay n)) k x x' out is runs =
      inr (only_runs n k (part_asked s now after_interval) x x'
      (λ here again. out (ap (λ j. Expires (timers.Pdelay j)) here)) is runs)
  part_runs (Expires (timers.Respond n)) k x x' out is runs =
      inr (only_runs n k part_answered x x' (λ here before. before) is runs)
  part_runs (Expires (timers.Announce n)) k x x' out is runs = inr (subst Runs is runs)
  part_runs (Expires (timers.Age n)) k x x' out is runs = inr (subst Runs is runs)
  part_runs (Expires timers.Sync) k x x' out is runs = inr (subst Runs is runs)
  part_runs (Expires timers.Relay) k x x' out is runs = inr (subst Runs is runs)
  part_runs (Expires timers.Lapse) k x x' out is runs = inr (subst Runs is runs)
  part_runs (Priority value) k x x' out is runs = inr (subst Runs is runs)

-- the timer of the port at a place
runs_there : (s : SystemState) (i : ℕ) (q : Port) → slice_get s.ports i ≡ Some q
    → IsUp s (suc i) ≡ Runs (measure_at q)
runs_there s i q there = ap (λ o. IsSome (option_and_then (λ (r : Port). r.pdelay) o)) there

-- a port that measures its link after a step did so before, or its link came up
pub came_up : (input : Input) (now : ℕ) (s s' : SystemState) (sends : List Sending) (answer : Answer) (n : ℕ)
    → (input ≡ Expires (timers.Pdelay n) → IsUp s n) → Steps input now s s' sends answer → IsUp s' n
    → (input ≡ PortUp n) ⊎ IsUp s n
came_up input now s s' sends answer zero out steps up = inr up
came_up input now s s' sends answer (suc i) out steps up =
    let most = (up_is_port s' (suc i) up).most in
    let there = member_there s'.ports i (omega arith) in
    let was = steps_measure input now s s' sends answer steps i there.0 there.1 in
    let same = runs_there s i was.0 was.1 in
    by was.0 same
    (part_runs s now input (suc i) (measure_at was.0) (measure_at there.0) (λ is. subst (λ X. X) same (out is)) was.2
    (subst (λ X. X) (runs_there s' i there.0 there.1) up))
  where
    by : (q : Port) → IsUp s (suc i) ≡ Runs (measure_at q) → (input ≡ PortUp (suc i)) ⊎ Runs (measure_at q)
        → (input ≡ PortUp (suc i)) ⊎ IsUp s (suc i)
    by q same (inl up) = inl up
    by q same (inr runs) = inr (subst (λ X. X) (sym same) runs)

-- a port whose link goes down measures it no more
pub went_down : (now : ℕ) (s s' : SystemState) (sends : List Sending) (answer : Answer) (n : ℕ)
    → Steps (PortDown n) now s s' sends answer → IsUp s' n → ⊥
went_down now s s' sends answer zero steps up = absurd cc
went_down now s s' sends answer (suc i) steps up =
    let most = (up_is_port s' (suc i) up).most in
    let there = member_there s'.ports i (omega arith) in
    let was = steps_measure (PortDown (suc i)) now s s' sends answer steps i there.0 there.1 in
    let runs = subst (λ X. X) (runs_there s' i there.0 there.1) up in
    by (suc i == suc i) refl (measure_at was.0) (subst Runs was.2 runs)
  where
    by : (b : Bool) → (suc i == suc i) ≡ b → (x : Part) → Runs (if b then part_down x else x) → ⊥
    by true same x none = absurd cc
    by false other x runs = absurd (grind (arith, nat_tests))

-- ---- links that stay up

-- where a link that is up began, one still does
abbrev pub KeepLinks : List Channel → List Channel → Type 0
KeepLinks before after = (port : PortId) → BeginsLink before port → BeginsLink after port

pub keep_links : (channels : List Channel) → KeepLinks channels channels
keep_links channels port begins = begins

-- a link becomes another that joins the same ports, and stays up
pub set_links : (channels : List Channel) (place : ℕ) (old new : Channel) → slice_get channels place ≡ Some old
    → new.a ≡ old.a → new.b ≡ old.b → (old.up ≡ true → new.up ≡ true)
    → KeepLinks channels (slice_set channels place new)
set_links channels place old new here a b up port is = by (same_place is.link place)
  where
    by : (is.link ≡ place) ⊎ (is.link ≢ place) → BeginsLink (slice_set channels place new) port
    by (inl same) =
        let it : is.channel ≡ old =
        same_there channels place is.channel old (ap (slice_get channels) (sym same) ∙ is.here) here in
        record {
          link = place;
          direction = is.direction;
          channel = new;
          here = get-set_same channels place old new here;
          begins = sender_same is.direction old new a b ∙ ap (sender is.direction) (sym it) ∙ is.begins;
          up = up (ap (λ (c : Channel). c.up) (sym it) ∙ is.up);
        }
    by (inr apart) = record {
      link = is.link;
      direction = is.direction;
      channel = is.channel;
      here = get-set_other channels place is.link new apart ∙ is.here;
      begins = is.begins;
      up = is.up;
    }

-- links that differ in what is in flight alone begin where they began
bare_links : (before after : List Channel) → DifferInFlight before after → KeepLinks before after
bare_links before after alone port is =
    let (new, here, same) = alike bare bare after before alone is.link is.channel is.here in
    record {
      link = is.link;
      direction = is.direction;
      channel = new;
      here = here;
      begins = sender_same is.direction is.channel new (ap (λ (c : Channel). c.a) same) (ap (λ (c : Channel). c.b) same)
          ∙ is.begins;
      up = ap (λ (c : Channel). c.up) same ∙ is.up;
    }

pub takes_links : (place : ℕ) (direction : Direction) (now : ℕ) (octets : List ℕ) (channel : Channel) (net net' : Net)
    → TakesFrame place direction now octets channel net net' → KeepLinks net.channels net'.channels
takes_links place direction now octets channel net net' takes =
    bare_links net.channels net'.channels (takes_bare place direction now octets channel net net' takes)

pub sends_one_links : (now : ℕ) (from : PortId) (octets : List ℕ) (draw : Draw) (net net' : Net)
    → SendsOne now from octets draw net net' → KeepLinks net.channels net'.channels
sends_one_links now from octets draw net net' one =
    bare_links net.channels net'.channels (sends_one_bare now from octets draw net net' one)

pub calls_links : (place : ℕ) (input : Input) (w : WorldState) (draws : List Draw) (answer : Answer) (w' : WorldState)
    → (calls : Calls place input w draws answer w') → KeepLinks w.net.channels calls.net.channels
calls_links place input w draws answer w' calls =
    bare_links w.net.channels calls.net.channels (calls_bare place input w draws answer w' calls)
