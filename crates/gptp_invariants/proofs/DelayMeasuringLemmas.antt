-- Every step of a system keeps what is known of the measuring of its ports.
use Rattle.std.proofs.Common.{◌≡◌, ◌≢◌, ℕ, suc, ◌+◌, ◌≤◌, ℤ, Bool, true, false, List, Option, Some, None, IsSome, slice_get, refl, sym, ap, subst, ◌∙◌, inl, inr, arith}
use Rattle.std.specs.Prelude.{if◌then◌else◌, ◌==◌}
use Rattle.std.specs.Option.{option_and_then, option_map_or}
use Rattle.std.proofs.lemmas.Bool.Decides.{nat_tests}
use Rattle.std.proofs.lemmas.Option.{none-some}
use Rattle.gptp_vector.specs.declared.port.PortId.{PortId}
use Rattle.gptp_messages.specs.declared.message.Message.{Message}
use Rattle.gptp_messages.specs.declared.message.Message.TheVariants as messages
use Rattle.gptp_messages.specs.declared.peer_delay.PdelayResp.{PdelayResp}
use Rattle.gptp_messages.specs.declared.peer_delay.PdelayRespFollowUp.{PdelayRespFollowUp}
use Rattle.gptp_pdelay.specs.declared.exchange.Measurement.{Measurement}
use Rattle.gptp_pdelay.specs.declared.progress.Progress.{Progress}
use Rattle.gptp_pdelay.specs.declared.progress.Progress.TheVariants.{Closed}
use Rattle.gptp_pdelay.specs.Peer.{PeerState, after_follow_up, after_interval, after_response, answered, answered_by, completed, is_open, loses_too_many, measured_by, requested, reset_peer}
use Rattle.gptp_roles.specs.Selection.{clock_of}
use Rattle.gptp_system.specs.declared.answer.Answer.{Answer}
use Rattle.gptp_system.specs.declared.port.Port.{Port}
use Rattle.gptp_system.specs.declared.sending.Sending.{Sending}
use Rattle.gptp_setup.specs.declared.setup.Params.{Params}
use Rattle.gptp_setup.specs.declared.setup.Setup.{Setup}
use Rattle.gptp_setup.specs.declared.timer.Timer.TheVariants as timers
use Rattle.gptp_system.specs.Input.{Input, IsTimely, Steps, PortUp, PortDown, Frame, Expires, Priority}
use Rattle.gptp_system.specs.Measures.{IsPartAfter, Part, only_at, part_answered, part_asked, part_down, part_heard, measure_at, part_owing, part_stepped}
use Rattle.gptp_system.specs.Start.{started}
use Rattle.gptp_system.specs.State.{SystemState, own, stamp_time}
use Rattle.gptp_system.specs.Steps.{IsUp}
use Rattle.gptp_system.proofs.MeasureLemmas.{steps_measure}
use Rattle.gptp_system.proofs.StartLemmas.{new_port_at}
use Rattle.gptp_model.specs.World.{port_id}
use Rattle.gptp_model.proofs.SteadyLemmas.{same_clock}
use Rattle.gptp_invariants.specs.DelayMeasuring.{MeasuresWithItsOwn, IsPeerOf, PortsMeasure}

-- ---- what a port has measured

module _ (p : Params) (itself : PortId) where
  -- the port becomes another with the same setup, and its count stays allowed
  recounted : (old new : PeerState) → IsPeerOf p itself old → new.own ≡ old.own → new.threshold ≡ old.threshold
      → new.allowed ≡ old.allowed → new.lost ≤ new.allowed → IsPeerOf p itself new
  recounted old new is own_is threshold allowed lost = record {
    own_is = own_is ∙ is.own_is;
    threshold = threshold ∙ is.threshold;
    allowed = allowed ∙ is.allowed;
    lost = lost;
  }

  reset_peer_of : (peer : PeerState) → IsPeerOf p itself peer → IsPeerOf p itself (reset_peer peer)
  reset_peer_of peer is = recounted peer (reset_peer peer) is refl refl refl (omega arith)

  requested_peer_of : (t1 : ℤ) (peer : PeerState) → IsPeerOf p itself peer → IsPeerOf p itself (requested t1 peer)
  requested_peer_of t1 peer is = recounted peer (requested t1 peer) is refl refl refl is.lost

  -- a step of a port keeps its setup and what waits, and leaves its count allowed
  record KeepsPeer (old new : PeerState) : Type 0 where
    peer : IsPeerOf p itself new
    waits : new.waiting ≡ old.waiting

  -- an interval ends: by whether a request is open, and whether too many are lost
  interval_ends : (peer : PeerState) → IsPeerOf p itself peer → KeepsPeer peer (after_interval peer)
  interval_ends peer is = by (is_open peer.progress) (loses_too_many peer) refl
    where
      by : (open' many : Bool) → loses_too_many peer ≡ many
          → KeepsPeer peer
          (if open' then (if many then reset_peer peer else record peer { progress = Closed; lost = peer.lost + 1 })
          else peer)
      by true true few = record { peer = reset_peer_of peer is; waits = refl }
      by true false few =
          let given_up : PeerState = record peer { progress = Closed; lost = peer.lost + 1 } in
          record { peer = recounted peer given_up is refl refl refl (grind (arith, nat_tests)); waits = refl }
      by false many few = record { peer = is; waits = refl }

  response_heard : (m : PdelayResp) (now : ℤ) (peer : PeerState) → IsPeerOf p itself peer
      → KeepsPeer peer (after_response m now peer)
  response_heard m now peer is = by (answered_by m now peer.own peer.progress)
    where
      by : (o : Option Progress)
          → KeepsPeer peer (option_map_or (λ progress. record peer { progress = progress }) o peer)
      by None = record { peer = is; waits = refl }
      by (Some progress) =
          let new : PeerState = record peer { progress = progress } in
          record { peer = recounted peer new is refl refl refl is.lost; waits = refl }

  follow_up_heard : (m : PdelayRespFollowUp) (peer : PeerState) → IsPeerOf p itself peer
      → KeepsPeer peer (after_follow_up m peer)
  follow_up_heard m peer is = by (measured_by m peer.own peer.last peer.past peer.progress)
    where
      by : (o : Option Measurement) → KeepsPeer peer (option_map_or (λ x. completed x peer) o peer)
      by None = record { peer = is; waits = refl }
      by (Some x) = record { peer = recounted peer (completed x peer) is refl refl refl (omega arith); waits = refl }

  -- ---- what its timers do

  -- it asks after a step
  asked : (s : SystemState) (now : ℕ) (step : PeerState → PeerState) (x : Part) → MeasuresWithItsOwn p itself x
      → KeepsPeer x.peer (step x.peer) → MeasuresWithItsOwn p itself (part_asked s now step x)
  asked s now step x is on = record {
    peer = requested_peer_of (stamp_time s now) (step x.peer) on.peer;
    owes = λ t due. subst IsSome (sym on.waits) (is.owes t due);
    idle = λ none. absurd cc;
  }

  reset_asked : (s : SystemState) (now : ℕ) (x : Part) → MeasuresWithItsOwn p itself x
      → MeasuresWithItsOwn p itself (part_asked s now reset_peer x)
  reset_asked s now x is = asked s now reset_peer x is (record { peer = reset_peer_of x.peer is.peer; waits = refl })

  interval_asked : (s : SystemState) (now : ℕ) (x : Part) → MeasuresWithItsOwn p itself x
      → MeasuresWithItsOwn p itself (part_asked s now after_interval x)
  interval_asked s now x is = asked s now after_interval x is (interval_ends x.peer is.peer)

  went_down : (x : Part) → MeasuresWithItsOwn p itself x → MeasuresWithItsOwn p itself (part_down x)
  went_down x is = record {
    peer = reset_peer_of x.peer is.peer;
    owes = λ t due. absurd (none-some t due);
    idle = λ none. record { last = refl; progress = refl; lost = refl; respond = refl };
  }

  has_answered : (x : Part) → MeasuresWithItsOwn p itself x → MeasuresWithItsOwn p itself (part_answered x)
  has_answered x is = record {
    peer = recounted x.peer (answered x.peer) is.peer refl refl refl is.peer.lost;
    owes = λ t due. absurd (none-some t due);
    idle = λ none.
        let idle = is.idle none in
        record { last = idle.last; progress = idle.progress; lost = idle.lost; respond = refl };
  }

  -- ---- what it hears, where its link is up

  stepped : (step : PeerState → PeerState) (x : Part) → x.pdelay ≢ None → MeasuresWithItsOwn p itself x
      → KeepsPeer x.peer (step x.peer) → MeasuresWithItsOwn p itself (part_stepped step x)
  stepped step x runs is on = record {
    peer = on.peer;
    owes = λ t due. subst IsSome (sym on.waits) (is.owes t due);
    idle = λ none. absurd (runs none);
  }

  heard : (s : SystemState) (now : ℕ) (m : Message) (x : Part) → x.pdelay ≢ None → MeasuresWithItsOwn p itself x
      → MeasuresWithItsOwn p itself (part_heard s now m x)
  heard s now (messages.PdelayReq head) x runs is =
      let new : Part = part_owing s now head x in
      record {
        peer = recounted x.peer new.peer is.peer refl refl refl is.peer.lost;
        owes = λ t due. refl;
        idle = λ none. absurd (runs none);
      }
  heard s now (messages.PdelayResp m) x runs is =
      stepped (after_response m (stamp_time s now)) x runs is (response_heard m (stamp_time s now) x.peer is.peer)
  heard s now (messages.PdelayRespFollowUp m) x runs is =
      stepped (after_follow_up m) x runs is (follow_up_heard m x.peer is.peer)
  heard s now (messages.Announce m) x runs is = is
  heard s now (messages.Sync head) x runs is = is
  heard s now (messages.FollowUp m) x runs is = is

  -- ---- a step of its system

  -- what is done at one port alone
  only : (n k : ℕ) (f : Part → Part) (x x' : Part) → MeasuresWithItsOwn p itself x
      → (n ≡ k → MeasuresWithItsOwn p itself (f x)) → x' ≡ only_at n f k x → MeasuresWithItsOwn p itself x'
  only n k f x x' before after is = subst (MeasuresWithItsOwn p itself) (sym is) (by (k == n) refl)
    where
      by : (b : Bool) → (k == n) ≡ b → MeasuresWithItsOwn p itself (if b then f x else x)
      by true same = after (grind (arith, nat_tests))
      by false other = before

  same : (x x' : Part) → MeasuresWithItsOwn p itself x → x' ≡ x → MeasuresWithItsOwn p itself x'
  same x x' before is = subst (MeasuresWithItsOwn p itself) (sym is) before

  part_measures : (s : SystemState) (now : ℕ) (input : Input) (k : ℕ) (x x' : Part)
      → ((octets : List ℕ) → input ≡ Frame k octets → x.pdelay ≢ None) → MeasuresWithItsOwn p itself x
      → IsPartAfter s now input k x x' → MeasuresWithItsOwn p itself x'
  part_measures s now (PortUp n) k x x' runs before is =
      only n k (part_asked s now reset_peer) x x' before (λ here. reset_asked s now x before) is
  part_measures s now (PortDown n) k x x' runs before is =
      only n k part_down x x' before (λ here. went_down x before) is
  part_measures s now (Frame n octets) k x x' runs before (inl (m, reads, is)) =
      only n k (part_heard s now m) x x' before
      (λ here. heard s now m x (runs octets (ap (λ j. Frame j octets) here)) before) is
  part_measures s now (Frame n octets) k x x' runs before (inr (none, is)) = same x x' before is
  part_measures s now (Expires (timers.Pdelay n)) k x x' runs before is =
      only n k (part_asked s now after_interval) x x' before (λ here. interval_asked s now x before) is
  part_measures s now (Expires (timers.Respond n)) k x x' runs before is =
      only n k part_answered x x' before (λ here. has_answered x before) is
  part_measures s now (Expires (timers.Announce n)) k x x' runs before is = same x x' before is
  part_measures s now (Expires (timers.Age n)) k x x' runs before is = same x x' before is
  part_measures s now (Expires timers.Sync) k x x' runs before is = same x x' before is
  part_measures s now (Expires timers.Relay) k x x' runs before is = same x x' before is
  part_measures s now (Expires timers.Lapse) k x x' runs before is = same x x' before is
  part_measures s now (Priority value) k x x' runs before is = same x x' before is

-- a port whose link is up has a Pdelay timer that runs
up_runs : (s : SystemState) (i : ℕ) (q : Port) → slice_get s.ports i ≡ Some q → IsUp s (suc i) → q.pdelay ≢ None
up_runs s i q there up none =
    let some : IsSome q.pdelay = subst (λ o. IsSome (option_and_then (λ (r : Port). r.pdelay) o)) there up in
    let nothing : Option ℕ = None in
    let no : IsSome nothing = subst IsSome none some in absurd cc

pub ports_measure : (p : Params) (input : Input) (now : ℕ) (s s' : SystemState) (sends : List Sending) (answer : Answer)
    → IsTimely s now input → Steps input now s s' sends answer → PortsMeasure p s → PortsMeasure p s'
ports_measure p input now s s' sends answer timely steps measure i q' there =
    let was = steps_measure input now s s' sends answer steps i q' there in
    let itself : own s' (suc i) ≡ own s (suc i) =
    ap (λ c. port_id c (suc i)) (same_clock input now s s' sends answer steps) in
    subst (λ id. MeasuresWithItsOwn p id (measure_at q')) (sym itself)
    (part_measures p (own s (suc i)) s now input (suc i) (measure_at was.0) (measure_at q')
    (λ octets is. up_runs s i was.0 was.1 (subst (IsTimely s now) is timely)) (measure i was.0 was.1) was.2)

-- ---- a start

-- a port of a system that starts has measured nothing
pub started_measure : (p : Params) (setup : Setup) (now : ℕ) → setup.params ≡ p → PortsMeasure p (started setup now)
started_measure p setup now same i q there =
    let (log, here, is) = new_port_at (clock_of setup.identity) setup.params setup.intervals.items i q there in
    subst (λ x. MeasuresWithItsOwn p (own (started setup now) (suc i)) (measure_at x)) (sym is) (record {
      peer = record {
        own_is = refl;
        threshold = ap (λ (x : Params). x.threshold) same;
        allowed = ap (λ (x : Params). x.lost) same;
        lost = omega arith;
      };
      owes = λ t due. absurd (none-some t due);
      idle = λ none. record { last = refl; progress = refl; lost = refl; respond = refl };
    })
