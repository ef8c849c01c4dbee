-- The example's exchange is a run from whatever request came before it.
use Rattle.std.proofs.Common.{◌≡◌, ◌≤◌, ◌+◌, ◌*◌, ◌++◌, ℕ, ℤ, pos, negsuc, true, List, [], ◌∷◌, Some, None, refl, sym}
use Rattle.std.proofs.Common.{ap, subst, inl, inr, arith}
use Rattle.std.proofs.lemmas.Int.{ints}
use Rattle.gptp_lists.specs.Members.{In}
use Rattle.gptp_graph.specs.Snapshot.{port_of}
use Rattle.gptp_pdelay_machine.specs.Lanes.{LaneFrame}
use Rattle.gptp_pdelay_machine.specs.Messages.{Request}
use Rattle.gptp_pdelay_machine.specs.Asker.{Answered, TakesReply}
use Rattle.gptp_pdelay_machine.specs.Answerer.{Waiting, noted, IsOneRequest}
use Rattle.gptp_pdelay_machine.specs.Pair.{Pair, TimeOnlyPasses, pair_at_time}
use Rattle.gptp_pdelay_machine.specs.Acts.{RequestTimerExpires, AskerHears, AnswererHears, AnswerTimerExpires}
use Rattle.gptp_pdelay_machine.specs.Acts.{asks_again, asker_hears, answerer_hears, answers}
use Rattle.gptp_pdelay_machine.specs.Facts.{Facts, IsDueInTime}
use Rattle.gptp_pdelay_machine.specs.Invariant.{IsJustChanged}
use Rattle.gptp_pdelay_machine.specs.ExchangeLaws.{ReadsClocks}
use Rattle.gptp_pdelay.proofs.ClockLemmas.{clock_is_read}
use Rattle.gptp_pdelay_machine.specs.Runs.{IsPortRun}
use Rattle.gptp_pdelay_machine.specs.Example.{second, example_link, request_octets, stamp_octets, spells_request, replies, Start}
use Rattle.gptp_pdelay_machine.specs.Example.{frame_came, answered_port, home, request, response, follow_up}
use Rattle.gptp_pdelay_machine.specs.Example.{request_frame, response_frame, follow_up_frame, asking_port, recorded, done}
use Rattle.gptp_pdelay_machine.specs.Example.{timer_due, request_sent, request_due, request_heard, answer_due, answer_sent}
use Rattle.gptp_pdelay_machine.specs.Example.{replies_due, response_heard, follow_up_heard, next_due, exchange}
use Rattle.gptp_pdelay_machine.specs.Example.{first_exchange, next, TwoExchangesMakeCapable}
use Rattle.gptp_pdelay_machine.proofs.LaneLemmas.{no_frames_mute}

-- the request of that port with that sequence
abbrev request_with : ℕ → ℕ → ℕ → Request
request_with clock port sequence = record { source = port_of clock port; sequence = sequence }

-- requests with the same numbers are one
same_numbers : (c d m n i j : ℕ) → c ≡ d → m ≡ n → i ≡ j
    → request_with c m i ≡ request_with d n j
same_numbers c d m n i j clock port sequence = rw (clock, port, sequence)

-- requests that are spelled alike are one
same_request : (r q : Request) → request_octets r ≡ request_octets q → r ≡ q
same_request r q e = same_numbers r.source.clock q.source.clock r.source.port q.source.port r.sequence q.sequence
    (cc) (cc) (cc)

-- stamps that are spelled alike are one
pub same_stamp : (t u : ℤ) → stamp_octets t ≡ stamp_octets u → t ≡ u
same_stamp (pos m) (pos n) e = let same : m ≡ n = cc in ap pos same
same_stamp (pos m) (negsuc n) e = absurd cc
same_stamp (negsuc m) (pos n) e = absurd cc
same_stamp (negsuc m) (negsuc n) e = let same : m ≡ n = cc in ap negsuc same

-- time passes
passes : (p : Pair) (later : ℕ) → p.time ≤ later → TimeOnlyPasses p (record p { time = later })
passes p later on = (later, on, refl)

-- no frame is late
none_in_time : (time : ℕ) (f : LaneFrame) → In f [] → IsDueInTime example_link second time f
none_in_time time f at = absurd at

-- one frame more isn't
more_in_time : (time : ℕ) (front : LaneFrame) (fs : List LaneFrame) → time ≤ front.due
    → front.due ≤ time + example_link.most
    → ((f : LaneFrame) → In f fs → IsDueInTime example_link second time f) → (f : LaneFrame) → In f (front ∷ fs)
    → IsDueInTime example_link second time f
more_in_time time front fs since by rest f (inl e) =
    subst (λ g. IsDueInTime example_link second time g) (sym e) (record { earliest = since; latest = omega arith })
more_in_time time front fs since by rest f (inr at) = rest f at

-- what waits isn't late
waits_in_time : (time : ℕ) (v : Waiting) → time ≤ v.due → (w : Waiting) → Some v ≡ Some w → time ≤ w.due
waits_in_time time v since w e = let same : v ≡ w = cc in subst (λ (u : Waiting). time ≤ u.due) same since

-- nothing waits
none_waits : (time : ℕ) (w : Waiting) → None ≡ Some w → time ≤ w.due
none_waits time w e = absurd cc

module _ (x : Start) where
  -- the request timer expires
  pub sends_request : x.before.asked + example_link.period ≡ x.sent
      → RequestTimerExpires example_link spells_request replies (timer_due x) (request_sent x)
  sends_request now = record {
    time = refl;
    waits = refl;
    back = refl;
    now = now;
    sequence = x.sequence;
    asker = refl;
    news = request_frame x ∷ [];
    out = refl;
    sent = inl (refl, no_frames_mute spells_request);
  }

  -- the request arrives
  pub hears_request : AnswererHears example_link spells_request replies (request_due x) (request_heard x)
  hears_request = record {
    time = refl;
    asker = refl;
    front = request_frame x;
    rest = [];
    was = refl;
    now = refl;
    out = refl;
    waits = inr (request x, one_request, refl);
    news = [];
    back = refl;
    mute = no_frames_mute replies;
  }
    where
      one_request : IsOneRequest spells_request (request_frame x).octets (request x)
      one_request = record { said = refl; only = λ other says. sym (same_request (request x) other says) }

  -- the answer's timer expires
  pub sends_answer : AnswerTimerExpires example_link spells_request replies (answer_due x) (answer_sent x)
  sends_answer = record {
    time = refl;
    asker = refl;
    out = refl;
    waiting = noted example_link (request x) (frame_came x);
    was = refl;
    now = refl;
    waits = refl;
    news = response_frame x ∷ follow_up_frame x ∷ [];
    back = refl;
    sent = inl (refl, inl (refl, no_frames_mute replies));
  }

  -- the response is recorded
  pub takes_response : TakesReply example_link replies (home x) (response_frame x).octets (asking_port x) (recorded x)
  takes_response = record {
    nothing = λ none. absurd (none (response x) refl);
    asked = refl;
    response = λ sequence t1 t2 is says. as_recorded sequence t1 t2 (cc) (cc)
        (same_stamp (example_link.answering_clock (frame_came x)) t2 (cc));
    follow_up = λ sequence t1 t2 t3 t4 is says. absurd cc;
  }
    where
      as_recorded : (sequence : ℕ) (t1 t2 : ℤ) → x.sequence ≡ sequence → example_link.asking_clock x.sent ≡ t1
          → example_link.answering_clock (frame_came x) ≡ t2
          → recorded x
          ≡ record (asking_port x) {
            progress = Answered sequence example_link.answering t1 t2
                (example_link.asking_clock (home x));
          }
      as_recorded sequence t1 t2 same one two = rw (← same, ← one, ← two)

  -- the follow-up completes the exchange
  pub takes_follow_up : TakesReply example_link replies (home x) (follow_up_frame x).octets (recorded x) (done x)
  takes_follow_up = record {
    nothing = λ none. absurd (none (follow_up x) refl);
    asked = refl;
    response = λ sequence t1 t2 is says. absurd cc;
    follow_up = λ sequence t1 t2 t3 t4 is says. (true, (λ exchange. refl), refl);
  }

  -- the response arrives
  unfoldable pub hears_response : AskerHears example_link spells_request replies (replies_due x) (response_heard x)
  hears_response = record {
    time = refl;
    waits = refl;
    front = response_frame x;
    rest = follow_up_frame x ∷ [];
    was = refl;
    now = refl;
    back = refl;
    asker = takes_response;
    news = [];
    out = refl;
    mute = no_frames_mute spells_request;
  }

  -- the follow-up arrives
  unfoldable pub hears_follow_up : AskerHears example_link spells_request replies (response_heard x) (follow_up_heard x)
  hears_follow_up = record {
    time = refl;
    waits = refl;
    front = follow_up_frame x;
    rest = [];
    was = refl;
    now = refl;
    back = refl;
    asker = takes_follow_up;
    news = [];
    out = refl;
    mute = no_frames_mute spells_request;
  }

  -- before the request nothing is pending
  pub at_timer : x.before.asked + example_link.period ≡ x.sent → Facts example_link second (timer_due x)
  at_timer now = record {
    asked = omega arith;
    request_timer = omega arith;
    answer_timer = none_waits x.sent;
    out = none_in_time x.sent;
    back = none_in_time x.sent;
  }

  -- where frames and an answer that waits are due in time, and the last request isn't a period old, all is known
  known : (p : Pair) → p.asker.asked ≡ x.sent → x.sent ≤ p.time → p.time ≤ x.sent + example_link.period
      → ((w : Waiting) → p.waits ≡ Some w → p.time ≤ w.due)
      → ((f : LaneFrame) → In f p.out → IsDueInTime example_link second p.time f)
      → ((f : LaneFrame) → In f p.back → IsDueInTime example_link second p.time f) → Facts example_link second p
  known p asked since by waiting there back = record {
    asked = omega arith;
    request_timer = omega arith;
    answer_timer = waiting;
    out = there;
    back = back;
  }

  -- the request is in flight
  pub at_request : (time : ℕ) → x.sent ≤ time → time ≤ frame_came x
      → Facts example_link second (pair_at_time (request_sent x) time)
  at_request time since by = known (pair_at_time (request_sent x) time) refl since (omega arith) (none_waits time)
      (more_in_time time (request_frame x) [] by (omega arith) (none_in_time time)) (none_in_time time)

  -- the answer waits
  pub at_answer : (time : ℕ) → frame_came x ≤ time → time ≤ answered_port x
      → Facts example_link second (pair_at_time (request_heard x) time)
  at_answer time since by = known (pair_at_time (request_heard x) time) refl (omega arith) (omega arith)
      (waits_in_time time (noted example_link (request x) (frame_came x)) by) (none_in_time time) (none_in_time time)

  -- both replies are in flight
  pub at_replies : (time : ℕ) → answered_port x ≤ time → time ≤ home x
      → Facts example_link second (pair_at_time (answer_sent x) time)
  at_replies time since by = known (pair_at_time (answer_sent x) time) refl (omega arith) (omega arith)
      (none_waits time)
      (none_in_time time)
      (more_in_time time (response_frame x) (follow_up_frame x ∷ []) by (omega arith)
      (more_in_time time (follow_up_frame x) [] by (omega arith) (none_in_time time)))

  -- the follow-up is in flight
  pub at_follow_up : Facts example_link second (response_heard x)
  at_follow_up = known (response_heard x) refl (omega arith) (omega arith) (none_waits (home x)) (none_in_time (home x))
      (more_in_time (home x) (follow_up_frame x) [] (omega arith) (omega arith) (none_in_time (home x)))

  -- the exchange is complete
  pub at_rest : (time : ℕ) → home x ≤ time → time ≤ x.sent + example_link.period
      → Facts example_link second (pair_at_time (follow_up_heard x) time)
  at_rest time since by = known (pair_at_time (follow_up_heard x) time) refl (omega arith) by (none_waits time)
      (none_in_time time) (none_in_time time)

  -- the states from the answer on are a run, and what comes after them goes on
  answer_runs : (rest : List Pair) → IsPortRun example_link spells_request replies second (next_due x) rest
      → IsPortRun example_link spells_request replies second (answer_sent x)
      (replies_due x ∷ response_heard x ∷ follow_up_heard x ∷ next_due x ∷ rest)
  answer_runs rest on = (
    at_replies (answered_port x) (omega arith) (omega arith),
    inl (passes (answer_sent x) (home x) (omega arith)),
    (
      at_replies (home x) (omega arith) (omega arith),
      inr (asker_hears hears_response),
      (
        at_follow_up,
        inr (asker_hears hears_follow_up),
        (
          at_rest (home x) (omega arith) (omega arith),
          inl (passes (follow_up_heard x) (x.sent + example_link.period) (omega arith)),
          on,
        ),
      ),
    ),
  )

  -- so are all of the exchange
  exchange_runs : (rest : List Pair) → x.before.asked + example_link.period ≡ x.sent
      → IsPortRun example_link spells_request replies second (next_due x) rest
      → IsPortRun example_link spells_request replies second (timer_due x) (exchange x ++ rest)
  exchange_runs rest now on = (
    at_timer now,
    inr (asks_again (sends_request now)),
    (
      at_request x.sent (omega arith) (omega arith),
      inl (passes (request_sent x) (frame_came x) (omega arith)),
      (
        at_request (frame_came x) (omega arith) (omega arith),
        inr (answerer_hears hears_request),
        (
          at_answer (frame_came x) (omega arith) (omega arith),
          inl (passes (request_heard x) (answered_port x) (omega arith)),
          (
            at_answer (answered_port x) (omega arith) (omega arith),
            inr (answers sends_answer),
            answer_runs rest on,
          ),
        ),
      ),
    ),
  )

-- the clocks are within their limits
pub link_clocks : ReadsClocks 0 example_link
link_clocks = record {
  behind = 0;
  asking_phase = 0;
  asking_drift = pos 0;
  answering_phase = 1000;
  answering_drift = negsuc 99999999;
  asking_limit = record { low = omega (arith, ints); high = omega (arith, ints) };
  answering_limit = record { low = omega (arith, ints); high = omega (arith, ints) };
  asking = clock_is_read 0 0 0 (pos 0) (omega arith);
  answering = clock_is_read 0 0 1000 (negsuc 99999999) (omega arith);
}

-- at the first second nothing is pending
pub first_is_fresh : IsJustChanged example_link second (2 * second) (timer_due first_exchange)
first_is_fresh = record {
  asked = omega arith;
  out = λ f at. absurd at;
  waiting = λ w is. absurd cc;
  back = λ f at. absurd at;
}

-- two exchanges, a second apart
pub two_exchanges : TwoExchangesMakeCapable
two_exchanges = record {
  link_is_good = omega arith;
  clocks = link_clocks;
  timing = omega arith;
  fresh = first_is_fresh;
  run = exchange_runs first_exchange (exchange next) refl
      (exchange_runs next [] refl (at_rest next (3 * second) (omega arith) (omega arith)));
  one = refl;
  two = refl;
}
