-- A port that asks, with what it has measured of its link (IEEE 802.1AS-2020, 11.2.19.3).
use Rattle.std.specs.Prelude.{◌≡◌, ℕ, ◌<◌, ◌≤◌, ℤ, ◌-ℤ◌, List, ◌∷◌, take, Option, Some}
use Rattle.gptp_pdelay.specs.declared.exchange.Measurement.{Measurement}
use Rattle.gptp_pdelay.specs.declared.exchange.Times.{Times}
use Rattle.gptp_pdelay.specs.Exchange.{mean_delay, neighbor_rate, oldest, times_of}
use Rattle.gptp_pdelay_machine.specs.Messages.{Request, Reply, Response, FollowUp}
use Rattle.gptp_pdelay_machine.specs.Setting.{Setting}
use Rattle.gptp_pdelay_machine.specs.Asker.{Asker, Closed, Asked, Answered, own_request}
use Rattle.gptp_pdelay_machine.specs.Pair.{Pair, pair_at_time}
use Rattle.gptp_pdelay_machine.specs.Acts.{RequestTimerExpires, AskerHears, AnswererHears, AnswerTimerExpires, OthersSend}
use Rattle.gptp_pdelay_machine.specs.Acts.{PortActs, asks_again, asker_hears, answerer_hears, answers, others_send}

-- what a port has measured since its reset: the last measurement, and the times of the exchanges of its window, the
-- newest first
pub record Kept : Type 0 where
  pub last : Option Measurement
  pub past : List Times

-- the two ports, and what the one that asks has measured
pub record Meter : Type 0 where
  pub pair : Pair
  pub kept : Kept

-- What the four times of an exchange measure, after those before it: the rate since the oldest of the window, which has
-- one exchange at least.
pub record Measures (window : ℕ) (kept kept' : Kept) (t1 t2 t3 t4 : ℤ) : Type 0 where
  pub some : 0 < window
  pub measured : Measurement
  pub last_is : kept'.last ≡ Some measured
  pub past_is : kept'.past ≡ take window (times_of measured ∷ kept.past)
  pub t3_is : measured.t3 ≡ t3
  pub t4_is : measured.t4 ≡ t4
  pub rate_is : measured.rate ≡ neighbor_rate (oldest kept.past) t3 t4
  pub delay_is : measured.delay ≡ mean_delay measured.rate (t4 -ℤ t1) (t3 -ℤ t2)

-- What octets that it hears make of what was measured. Where they are no reply, or a response to the open request, it
-- stays; a follow-up to the recorded response measures anew, by the contract of `on_follow_up`. No more is said of
-- other replies.
pub record TakesMeasure (k : Setting) (replies : List ℕ → Reply → Type 0) (octets : List ℕ) (a : Asker)
    (kept kept' : Kept) : Type 0
  where
    pub nothing : ((r : Reply) → replies octets r → ⊥) → kept' ≡ kept
    pub response : (sequence : ℕ) (t1 t2 : ℤ) → a.progress ≡ Asked sequence t1
        → replies octets (Response k.answering (own_request k sequence) t2) → kept' ≡ kept
    pub follow_up : (sequence : ℕ) (t1 t2 t3 t4 : ℤ) → a.progress ≡ Answered sequence k.answering t1 t2 t4
        → replies octets (FollowUp k.answering (own_request k sequence) t3) → Measures k.window kept kept' t1 t2 t3 t4

module _ (k : Setting) (asks : List ℕ → Request → Type 0) (replies : List ℕ → Reply → Type 0) (m m' : Meter) where
  -- One act of the two ports, and what becomes of what was measured: it stays but for what the port hears, and where an
  -- open request is given up it may go. Shown of worlds by acts_are_acts of gptp_invariants.
  pub data MeterActs : Type 0 where
    meter_asks : RequestTimerExpires k asks replies m.pair m'.pair
        → (m.pair.asker.progress ≡ Closed → m'.kept ≡ m.kept) → MeterActs
    meter_hears : (act : AskerHears k asks replies m.pair m'.pair)
        → TakesMeasure k replies act.front.octets m.pair.asker m.kept m'.kept → MeterActs
    meter_heard : AnswererHears k asks replies m.pair m'.pair → m'.kept ≡ m.kept → MeterActs
    meter_answered : AnswerTimerExpires k asks replies m.pair m'.pair → m'.kept ≡ m.kept → MeterActs
    meter_rests : OthersSend k asks replies m.pair m'.pair → m'.kept ≡ m.kept → MeterActs

  -- the act of the two ports alone
  abbrev pub act_of : MeterActs → PortActs k asks replies m.pair m'.pair
  act_of (meter_asks act kept) = asks_again act
  act_of (meter_hears act takes) = asker_hears act
  act_of (meter_heard act kept) = answerer_hears act
  act_of (meter_answered act kept) = answers act
  act_of (meter_rests act kept) = others_send act

-- time passes and nothing else happens
abbrev pub MeterPasses : Meter → Meter → Type 0
MeterPasses m m' = (time : ℕ) × (m.pair.time ≤ time)
    × (m' ≡ record { pair = pair_at_time m.pair time; kept = m.kept })
