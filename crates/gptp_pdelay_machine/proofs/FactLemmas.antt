-- The facts of each item are kept by every act that sends in time.
use Rattle.std.proofs.Common.{◌≡◌, ◌≤◌, ◌<◌, ◌+◌, ◌*◌, ◌⊎◌, ℕ, max, List, Some, None, sym, ap, subst, ◌∙◌, inl, inr}
use Rattle.std.proofs.Common.{arith}
use Rattle.gptp_lists.specs.Members.{In}
use Rattle.gptp_pdelay.specs.GoodLink.{IsGoodLink}
use Rattle.gptp_pdelay_machine.specs.Lanes.{LaneFrame}
use Rattle.gptp_pdelay_machine.specs.Messages.{Request, Reply}
use Rattle.gptp_pdelay_machine.specs.Setting.{Setting}
use Rattle.gptp_pdelay_machine.specs.Asker.{Asker}
use Rattle.gptp_pdelay_machine.specs.Answerer.{Waiting, noted}
use Rattle.gptp_pdelay_machine.specs.Pair.{Pair, pair_at_time}
use Rattle.gptp_pdelay_machine.specs.Acts.{PortActs, asks_again, asker_hears, answerer_hears, answers, others_send}
use Rattle.gptp_pdelay_machine.specs.Facts.{Facts, IsDueInTime, IsSentInTime, NothingIsDueBefore, IsGood}

module _ (k : Setting) (gone : ℕ) where
  -- a lane that is sent to in time stays in time
  lane_kept : (time : ℕ) (was now : List LaneFrame) → IsSentInTime k time was now
      → ((f : LaneFrame) → In f was → IsDueInTime k gone time f) → (f : LaneFrame) → In f now
      → IsDueInTime k gone time f
  lane_kept time was now sent before f at = elim (sent f at) [
    | inl old ↦ before f old
    | inr (since, inl by) ↦ record { earliest = since; latest = omega arith }
    | inr (since, inr (g, old, by)) ↦ record {
      earliest = since;
      latest = (let due : g.due ≤ max gone (time + k.most) = (before g old).latest in omega arith);
    }
  ]

  -- what an act does to the timers keeps them in time
  record TimersKept (p p' : Pair) : Type 0 where
    time : p'.time ≡ p.time
    asked : (p'.asker.asked ≡ p.time) ⊎ (p'.asker.asked ≡ p.asker.asked)
    waits : (w : Waiting) → p'.waits ≡ Some w → (p.waits ≡ Some w) ⊎ (p.time ≤ w.due)

  facts_from : (p p' : Pair) → TimersKept p p' → IsSentInTime k p.time p.out p'.out
      → IsSentInTime k p.time p.back p'.back → Facts k gone p → Facts k gone p'
  facts_from p p' timers out back facts = record {
    asked = elim timers.asked [
      | inl new ↦ (let time : p'.time ≡ p.time = timers.time in omega arith)
      | inr same ↦ (let time : p'.time ≡ p.time = timers.time in
          let before : p.asker.asked ≤ p.time = facts.asked in omega arith)
    ];
    request_timer = elim timers.asked [
      | inl new ↦ (let time : p'.time ≡ p.time = timers.time in omega arith)
      | inr same ↦ (let time : p'.time ≡ p.time = timers.time in
          let by : p.time ≤ p.asker.asked + k.period = facts.request_timer in omega arith)
    ];
    answer_timer = λ w is. elim (timers.waits w is) [
      | inl old ↦ (let due : p.time ≤ w.due = facts.answer_timer w old in
          let time : p'.time ≡ p.time = timers.time in omega arith)
      | inr due ↦ (let time : p'.time ≡ p.time = timers.time in omega arith)
    ];
    out = λ f at. subst (λ t. IsDueInTime k gone t f) (sym timers.time)
        (lane_kept p.time p.out p'.out out facts.out f at);
    back = λ f at. subst (λ t. IsDueInTime k gone t f) (sym timers.time)
        (lane_kept p.time p.back p'.back back facts.back f at);
  }

  timers_kept : (asks : List ℕ → Request → Type 0) (replies : List ℕ → Reply → Type 0) (p p' : Pair)
      → PortActs k asks replies p p' → TimersKept p p'
  timers_kept asks replies p p' (asks_again act) = record {
    time = act.time;
    asked = inl (ap (λ (b : Asker). b.asked) act.asker);
    waits = λ w e. inl (sym act.waits ∙ e);
  }
  timers_kept asks replies p p' (asker_hears act) = record {
    time = act.time;
    asked = inr act.asker.asked;
    waits = λ w e. inl (sym act.waits ∙ e);
  }
  timers_kept asks replies p p' (answerer_hears act) = record {
    time = act.time;
    asked = inr (ap (λ (b : Asker). b.asked) act.asker);
    waits = λ w e. elim act.waits [
      | inl (nothing, kept) ↦ inl (sym kept ∙ e)
      | inr (request, one, kept) ↦ inr (later w request (sym kept ∙ e))
    ];
  }
    where
      later : (w : Waiting) (request : Request) → Some (noted k request p.time) ≡ Some w → p.time ≤ w.due
      later w request e = let same : noted k request p.time ≡ w = cc in
          subst (λ (v : Waiting). p.time ≤ v.due) same (omega arith)
  timers_kept asks replies p p' (answers act) = record {
    time = act.time;
    asked = inr (ap (λ (b : Asker). b.asked) act.asker);
    waits = λ w e. absurd (nothing_waits w e act.waits);
  }
    where
      nothing_waits : (w : Waiting) → p'.waits ≡ Some w → p'.waits ≡ None → ⊥
      nothing_waits w e none = absurd cc
  timers_kept asks replies p p' (others_send act) = record {
    time = act.time;
    asked = inr (ap (λ (b : Asker). b.asked) act.asker);
    waits = λ w e. inl (sym act.waits ∙ e);
  }

  -- every act keeps the facts
  pub facts_kept : (asks : List ℕ → Request → Type 0) (replies : List ℕ → Reply → Type 0) (p p' : Pair)
      → PortActs k asks replies p p' → IsSentInTime k p.time p.out p'.out → IsSentInTime k p.time p.back p'.back
      → Facts k gone p → Facts k gone p'
  facts_kept asks replies p p' act = facts_from p p' (timers_kept asks replies p p' act)

  -- time that passes keeps them
  pub facts_later : (time : ℕ) (p : Pair) → p.time ≤ time → NothingIsDueBefore k time p → Facts k gone p
      → Facts k gone (pair_at_time p time)
  facts_later time p on due facts = record {
    asked = (let before : p.asker.asked ≤ p.time = facts.asked in omega arith);
    request_timer = due.request_timer;
    answer_timer = due.answer_timer;
    out = λ f at. record {
      earliest = due.out f at;
      latest = (let by : f.due ≤ max gone (p.time + k.most) = (facts.out f at).latest in omega arith);
    };
    back = λ f at. record {
      earliest = due.back f at;
      latest = (let by : f.due ≤ max gone (p.time + k.most) = (facts.back f at).latest in omega arith);
    };
  }

-- the limits leave an exchange over a good link its time
pub timing_is_enough : (k : Setting) (threshold change interval : ℕ) → IsGoodLink k.most k.turnaround threshold
    → 2 * threshold + k.turnaround < k.period → k.period ≤ interval
    → IsGood k (change + interval) (change + 2 * interval)
timing_is_enough k threshold change interval good short period = record { short = omega arith; late = omega arith }
