-- The bounds are kept by every act.
use Rattle.std.proofs.Common.{◌≡◌, ◌≤◌, ◌+◌, ◌++◌, ◌⊎◌, ℕ, max, List, Some, None, sym, ap, subst, ◌∙◌, inl, inr, arith}
use Rattle.gptp_lists.specs.Members.{In}
use Rattle.gptp_pdelay_machine.specs.Lanes.{LaneFrame, IsMute, AreMute}
use Rattle.gptp_pdelay_machine.specs.Messages.{Request, Reply}
use Rattle.gptp_pdelay_machine.specs.Setting.{Setting}
use Rattle.gptp_pdelay_machine.specs.Asker.{Asker}
use Rattle.gptp_pdelay_machine.specs.Answerer.{Waiting, noted}
use Rattle.gptp_pdelay_machine.specs.Pair.{Pair}
use Rattle.gptp_pdelay_machine.specs.Acts.{RequestTimerExpires, AskerHears, AnswererHears, AnswerTimerExpires, OthersSend}
use Rattle.gptp_pdelay_machine.specs.Acts.{PortActs, asks_again, asker_hears, answerer_hears, answers, others_send}
use Rattle.gptp_pdelay_machine.specs.Facts.{Facts}
use Rattle.gptp_pdelay_machine.specs.Bounds.{Bounds, last_arrival}
use Rattle.gptp_pdelay_machine.proofs.LaneLemmas.{was_or_new, left_was_there, front_was_there}

module _ (k : Setting) (asks : List ℕ → Request → Type 0) (replies : List ℕ → Reply → Type 0) (gone : ℕ) where
  -- what an act adds to what is pending is nothing to the exchange, or within the bounds
  record Adds (p p' : Pair) : Type 0 where
    asked : p.asker.asked ≤ p'.asker.asked
    out : (f : LaneFrame) → In f p'.out → In f p.out ⊎ (IsMute asks f ⊎ (f.due ≤ last_arrival k gone p'))
    waits : (w : Waiting) → p'.waits ≡ Some w → (p.waits ≡ Some w) ⊎ (w.due ≤ last_arrival k gone p' + k.turnaround)
    back : (f : LaneFrame) → In f p'.back
        → In f p.back ⊎ (IsMute replies f ⊎ (f.due ≤ last_arrival k gone p' + k.turnaround + k.most))

  -- then the bounds are kept: a later request only widens them
  widened : (p p' : Pair) → Adds p p' → Bounds k asks replies gone p → Bounds k asks replies gone p'
  widened p p' adds b = record {
    request = λ f request at says. elim (adds.out f at) [
      | inl old ↦ (let due : f.due ≤ last_arrival k gone p = b.request f request old says in wider f.due due)
      | inr (inl mute) ↦ absurd (mute request says)
      | inr (inr due) ↦ due
    ];
    waiting = λ w is. elim (adds.waits w is) [
      | inl old ↦ (let due : w.due ≤ last_arrival k gone p + k.turnaround = b.waiting w old in
          let on : p.asker.asked ≤ p'.asker.asked = adds.asked in omega arith)
      | inr due ↦ due
    ];
    reply = λ f reply at says. elim (adds.back f at) [
      | inl old ↦ (let due : f.due ≤ last_arrival k gone p + k.turnaround + k.most = b.reply f reply old says in
          let on : p.asker.asked ≤ p'.asker.asked = adds.asked in omega arith)
      | inr (inl mute) ↦ absurd (mute reply says)
      | inr (inr due) ↦ due
    ];
  }
    where
      wider : (due : ℕ) → due ≤ last_arrival k gone p → due ≤ last_arrival k gone p'
      wider due bound = let on : p.asker.asked ≤ p'.asker.asked = adds.asked in omega arith

  -- the lane is as it was
  same : (now was : List LaneFrame) → now ≡ was → (f : LaneFrame) → In f now → In f was
  same now was e f at = subst (λ fs. In f fs) e at

  -- mute frames were added
  mute_added : {X : Type 0} (says : List ℕ → X → Type 0) (now was news : List LaneFrame) (bound : ℕ)
      → now ≡ was ++ news → AreMute says news → (f : LaneFrame) → In f now
      → In f was ⊎ (IsMute says f ⊎ (f.due ≤ bound))
  mute_added says now was news bound e mute f at =
      elim (was_or_new f now was news e at) [ inl old ↦ inl old | inr new ↦ inr (inl (mute f new)) ]

  -- the last request is the same
  same_asked : (a a' : Asker) → a' ≡ a → a.asked ≤ a'.asked
  same_asked a a' e = let asked : a'.asked ≡ a.asked = ap (λ (b : Asker). b.asked) e in omega arith

  -- a request is sent: new frames are due within the greatest delay from now
  after_request : (p p' : Pair) → Facts k gone p → Facts k gone p' → RequestTimerExpires k asks replies p p'
      → Adds p p'
  after_request p p' was is act =
      let asked : p'.asker.asked ≡ p.time = ap (λ (b : Asker). b.asked) act.asker in
      record {
        asked = (let before : p.asker.asked ≤ p.time = was.asked in omega arith);
        out = λ f at. elim (was_or_new f p'.out p.out act.news act.out at) [
          | inl old ↦ inl old
          | inr new ↦ inr
              (inr (let due : f.due ≤ max gone (p'.time + k.most) = (is.out f at).latest in
              let same : p'.time ≡ p.time = act.time in omega arith))
        ];
        waits = λ w e. inl (sym act.waits ∙ e);
        back = λ f at. inl (same p'.back p.back act.back f at);
      }

  -- the port that asks hears a frame
  after_asker_hears : (p p' : Pair) → AskerHears k asks replies p p' → Adds p p'
  after_asker_hears p p' act = record {
    asked = (let asked : p'.asker.asked ≡ p.asker.asked = act.asker.asked in omega arith);
    out = mute_added asks p'.out p.out act.news _ act.out act.mute;
    waits = λ w e. inl (sym act.waits ∙ e);
    back = λ f at. inl
        (left_was_there f act.front act.rest p.back act.was (subst (λ fs. In f fs) act.back at));
  }

  -- the port that answers hears a frame: a request came by its bound
  after_answerer_hears : (p p' : Pair) → Bounds k asks replies gone p → AnswererHears k asks replies p p' → Adds p p'
  after_answerer_hears p p' b act = record {
    asked = same_asked p.asker p'.asker act.asker;
    out = λ f at. inl (left_was_there f act.front act.rest p.out act.was (subst (λ fs. In f fs) act.out at));
    waits = λ w is. elim act.waits [
      | inl (nothing, kept) ↦ inl (sym kept ∙ is)
      | inr (request, one, kept) ↦ inr
          (let due : act.front.due ≤ last_arrival k gone p =
          b.request act.front request (front_was_there act.front p.out act.rest act.was) one.said in
          let now : act.front.due ≡ p.time = act.now in
          let answered : w.due ≡ p.time + k.turnaround = due_of w p.time request (sym kept ∙ is) in
          let asked : p'.asker.asked ≡ p.asker.asked = ap (λ (c : Asker). c.asked) act.asker in omega arith)
    ];
    back = mute_added replies p'.back p.back act.news _ act.back act.mute;
  }
    where
      due_of : (w : Waiting) (time : ℕ) (request : Request) → Some (noted k request time) ≡ Some w
          → w.due ≡ time + k.turnaround
      due_of w time request e = let same : noted k request time ≡ w = cc in ap (λ (v : Waiting). v.due) (sym same)

  -- the answer is sent: it waited by its bound, and new frames are due within the greatest delay from then
  after_answer : (p p' : Pair) → Facts k gone p' → Bounds k asks replies gone p
      → AnswerTimerExpires k asks replies p p' → Adds p p'
  after_answer p p' is b act = record {
    asked = same_asked p.asker p'.asker act.asker;
    out = λ f at. inl (same p'.out p.out act.out f at);
    waits = λ w e. absurd (nothing_waits w e);
    back = λ f at. elim (was_or_new f p'.back p.back act.news act.back at) [
      | inl old ↦ inl old
      | inr new ↦ inr
          (inr (let due : f.due ≤ max gone (p'.time + k.most) = (is.back f at).latest in
          let same : p'.time ≡ p.time = act.time in
          let now : act.waiting.due ≡ p.time = act.now in
          let bound : act.waiting.due ≤ last_arrival k gone p + k.turnaround = b.waiting act.waiting act.was in
          let asked : p'.asker.asked ≡ p.asker.asked = ap (λ (c : Asker). c.asked) act.asker in omega arith))
    ];
  }
    where
      nothing_waits : (w : Waiting) → p'.waits ≡ Some w → ⊥
      nothing_waits w e = let none : p'.waits ≡ None = act.waits in absurd cc

  -- others send
  after_others : (p p' : Pair) → OthersSend k asks replies p p' → Adds p p'
  after_others p p' act = record {
    asked = same_asked p.asker p'.asker act.asker;
    out = mute_added asks p'.out p.out act.ahead _ act.out act.asks_nothing;
    waits = λ w e. inl (sym act.waits ∙ e);
    back = mute_added replies p'.back p.back act.behind _ act.back act.replies_nothing;
  }

  -- every act keeps the bounds
  pub bounds_kept : (p p' : Pair) → Facts k gone p → Facts k gone p' → PortActs k asks replies p p'
      → Bounds k asks replies gone p → Bounds k asks replies gone p'
  bounds_kept p p' was is act b = widened p p' (adds act) b
    where
      adds : PortActs k asks replies p p' → Adds p p'
      adds (asks_again a) = after_request p p' was is a
      adds (asker_hears a) = after_asker_hears p p' a
      adds (answerer_hears a) = after_answerer_hears p p' b a
      adds (answers a) = after_answer p p' is b a
      adds (others_send a) = after_others p p' a
