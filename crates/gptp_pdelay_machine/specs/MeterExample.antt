-- What the two exchanges of the example measure.
use Rattle.std.specs.Prelude.{◌≡◌, ◌*◌, pos, neg_ℤ, ◌-ℤ◌, List, [], ◌∷◌, ◌++◌, take, Some, None, is_some}
use Rattle.gptp_pdelay.specs.declared.exchange.Measurement.{Measurement}
use Rattle.gptp_pdelay.specs.Exchange.{mean_delay, neighbor_rate, oldest, times_of}
use Rattle.gptp_pdelay_machine.specs.Pair.{Pair}
use Rattle.gptp_pdelay_machine.specs.Invariant.{IsJustChanged}
use Rattle.gptp_pdelay_machine.specs.Meter.{Kept, Meter}
use Rattle.gptp_pdelay_machine.specs.Runs.{IsMeterRun}
use Rattle.gptp_pdelay_machine.specs.Example.{Start, answer_due, answer_sent, answered_port, spells_request, frame_came, first_exchange, follow_up_heard, home, example_link, next, next_due, replies, replies_due, request_due, request_heard, request_sent, response_heard, second, timer_due}

abbrev pub example_meter : Pair → Kept → Meter
example_meter p kept = record { pair = p; kept = kept }

-- a port that has measured nothing
abbrev pub nothing_kept : Kept
nothing_kept = record { last = None; past = [] }

-- the exchange, with what was measured before it and what it measures
module _ (x : Start) (kept : Kept) where
  abbrev pub measured_meter : Measurement
  measured_meter =
      let t1 = example_link.asking_clock x.sent in
      let t2 = example_link.answering_clock (frame_came x) in
      let t3 = example_link.answering_clock (answered_port x) in
      let t4 = example_link.asking_clock (home x) in
      let rate = neighbor_rate (oldest kept.past) t3 t4 in
      record {
        t3 = t3;
        t4 = t4;
        rate = rate;
        delay = mean_delay rate (t4 -ℤ t1) (t3 -ℤ t2);
        again = is_some kept.last;
      }

  abbrev pub kept_then : Kept
  kept_then = record {
    last = Some measured_meter;
    past = take example_link.window (times_of measured_meter ∷ kept.past);
  }

  abbrev pub metered : List Meter
  metered = example_meter (request_sent x) kept ∷ example_meter (request_due x) kept ∷ example_meter
      (request_heard x) kept
      ∷ example_meter (answer_due x) kept ∷ example_meter (answer_sent x) kept ∷ example_meter (replies_due x) kept
      ∷ example_meter (response_heard x) kept ∷ example_meter (follow_up_heard x) kept_then
      ∷ example_meter (next_due x) kept_then ∷ []

abbrev pub one : Measurement
one = measured_meter first_exchange nothing_kept

abbrev pub one_kept : Kept
one_kept = kept_then first_exchange nothing_kept

abbrev pub two : Measurement
two = measured_meter next one_kept

-- The states of the two exchanges are a run, over a link of exactly 500 ns. The first takes the clocks for equal, and
-- measures 1490 units of 2^-16 ns above 500 ns. The second sees that the neighbour is slow by 10^8 parts in 2^41, and
-- measures 500 ns by the neighbour's clock.
pub record TwoExchangesMeasure : Type 0 where
  pub fresh : IsJustChanged example_link second (2 * second) (timer_due first_exchange)
  pub run : IsMeterRun example_link 500 spells_request replies second
      (example_meter (timer_due first_exchange) nothing_kept)
      (metered first_exchange nothing_kept ++ metered next one_kept)
  pub first_delay : one.delay ≡ pos 32769490
  pub rate : two.rate ≡ neg_ℤ (pos 100000000)
  pub delay : two.delay ≡ pos 32766509
