-- The example's exchanges are a run that measures.
use Rattle.std.proofs.Common.{◌≡◌, ◌≤◌, ◌+◌, ◌*◌, ◌++◌, ℕ, ℤ, List, [], ◌∷◌, refl, ap, inl, inr, arith}
use Rattle.gptp_lists.specs.Members.{In}
use Rattle.gptp_pdelay_machine.specs.Lanes.{LaneFrame}
use Rattle.gptp_pdelay_machine.specs.Facts.{IsSentLate}
use Rattle.gptp_pdelay_machine.specs.Meter.{Kept, Measures, Meter, TakesMeasure, meter_answered, meter_asks, meter_heard, meter_hears}
use Rattle.gptp_pdelay_machine.specs.Runs.{IsMeterRun}
use Rattle.gptp_pdelay_machine.specs.Example.{Start, answered_port, asking_port, spells_request, frame_came, first_exchange, follow_up, follow_up_frame, home, example_link, next, next_due, recorded, replies, request_frame, response_frame, second, timer_due}
use Rattle.gptp_pdelay_machine.specs.MeterExample.{TwoExchangesMeasure, kept_then, measured_meter, example_meter, metered, nothing_kept, one_kept}
use Rattle.gptp_pdelay_machine.proofs.ExampleLemmas.{at_answer, at_follow_up, at_replies, at_request, at_rest, at_timer, first_is_fresh, hears_follow_up, hears_request, hears_response, same_stamp, sends_answer, sends_request}

-- no frame is new
none_new : (time : ℕ) (was now : List LaneFrame) → ((f : LaneFrame) → In f now → In f was) → IsSentLate 500 time was now
none_new time was now there f at = inl (there f at)

-- a frame that takes 500 ns
due_late : (time due : ℕ) (f g : LaneFrame) → g.due ≡ time + 500 → f ≡ g → time + 500 ≤ f.due
due_late time due f g is e = let same = ap (λ (h : LaneFrame). h.due) e in omega (arith, is, same)

module _ (x : Start) (kept : Kept) where
  -- a response measures nothing
  takes_response : TakesMeasure example_link replies (response_frame x).octets (asking_port x) kept kept
  takes_response = record {
    nothing = λ none. refl;
    response = λ sequence t1 t2 is says. refl;
    follow_up = λ sequence t1 t2 t3 t4 is says. absurd cc;
  }

  -- the follow-up measures by the four times of the exchange
  takes_follow_up : TakesMeasure example_link replies (follow_up_frame x).octets (recorded x) kept
      (kept_then x kept)
  takes_follow_up = record {
    nothing = λ none. absurd (none (follow_up x) refl);
    response = λ sequence t1 t2 is says. absurd cc;
    follow_up = λ sequence t1 t2 t3 t4 is says. measures t1 t2 t3 t4 (cc) (cc)
        (same_stamp (example_link.answering_clock (answered_port x)) t3 (cc)) (cc);
  }
    where
      measures : (t1 t2 t3 t4 : ℤ) → example_link.asking_clock x.sent ≡ t1
          → example_link.answering_clock (frame_came x) ≡ t2
          → example_link.answering_clock (answered_port x) ≡ t3 → example_link.asking_clock (home x) ≡ t4
          → Measures example_link.window kept (kept_then x kept) t1 t2 t3 t4
      measures t1 t2 t3 t4 first_is second_is third_is fourth_is = rw (← first_is, ← second_is, ← third_is, ← fourth_is)
          (record {
            some = omega arith;
            measured = measured_meter x kept;
            last_is = refl;
            past_is = refl;
            t3_is = refl;
            t4_is = refl;
            rate_is = refl;
            delay_is = refl;
          })

  request_late : IsSentLate 500 x.sent [] (request_frame x ∷ [])
  request_late f (inl e) = inr (due_late x.sent (frame_came x) f (request_frame x) refl e)
  request_late f (inr at) = absurd at

  answer_late : IsSentLate 500 (answered_port x) [] (response_frame x ∷ follow_up_frame x ∷ [])
  answer_late f (inl e) = inr (due_late (answered_port x) (home x) f (response_frame x) refl e)
  answer_late f (inr (inl e)) = inr (due_late (answered_port x) (home x) f (follow_up_frame x) refl e)
  answer_late f (inr (inr at)) = absurd at

  same : (f : LaneFrame) → In f [] → In f []
  same f at = at

  -- the exchange is a run, and what comes after it goes on
  measures_on : (rest : List Meter) → x.before.asked + example_link.period ≡ x.sent
      → IsMeterRun example_link 500 spells_request replies second
      (example_meter (next_due x) (kept_then x kept)) rest
      → IsMeterRun example_link 500 spells_request replies second (example_meter (timer_due x) kept)
      (metered x kept ++ rest)
  unfolding hears_response hears_follow_up
  measures_on rest now on = (
    at_timer x now,
    inr (meter_asks (sends_request x now) (λ closed. refl), request_late, none_new x.sent [] [] same),
    (
      at_request x x.sent (omega arith) (omega arith),
      inl (frame_came x, omega arith, refl),
      (
        at_request x (frame_came x) (omega arith) (omega arith),
        inr (
          meter_heard (hears_request x) refl,
          none_new (frame_came x) (request_frame x ∷ []) [] (λ f at. absurd at),
          none_new (frame_came x) [] [] same,
        ),
        (
          at_answer x (frame_came x) (omega arith) (omega arith),
          inl (answered_port x, omega arith, refl),
          (
            at_answer x (answered_port x) (omega arith) (omega arith),
            inr (
              meter_answered (sends_answer x) refl,
              none_new (answered_port x) [] [] same,
              answer_late,
            ),
            (
              at_replies x (answered_port x) (omega arith) (omega arith),
              inl (home x, omega arith, refl),
              (
                at_replies x (home x) (omega arith) (omega arith),
                inr (
                  meter_hears (hears_response x) takes_response,
                  none_new (home x) [] [] same,
                  none_new (home x) (response_frame x ∷ follow_up_frame x ∷ []) (follow_up_frame x ∷ [])
                      (λ f at. inr at),
                ),
                (
                  at_follow_up x,
                  inr (
                    meter_hears (hears_follow_up x) takes_follow_up,
                    none_new (home x) [] [] same,
                    none_new (home x) (follow_up_frame x ∷ []) [] (λ f at. absurd at),
                  ),
                  (
                    at_rest x (home x) (omega arith) (omega arith),
                    inl (x.sent + example_link.period, omega arith, refl),
                    on,
                  ),
                ),
              ),
            ),
          ),
        ),
      ),
    ),
  )

pub two_measurements : TwoExchangesMeasure
two_measurements = record {
  fresh = first_is_fresh;
  run = measures_on first_exchange nothing_kept (metered next one_kept) refl
      (measures_on next one_kept [] refl (at_rest next (3 * second) (omega arith) (omega arith)));
  first_delay = refl;
  rate = refl;
  delay = refl;
}
