-- A port isn't capable before its second exchange can be full, and what its neighbour tells from then on comes after
-- the follow-up that makes it capable.
use Rattle.std.proofs.Common.{◌≡◌, ◌≢◌, ◌≤◌, ◌<◌, ◌+◌, ◌++◌, ◌*◌, ◌⊎◌, ℕ, zero, suc, ℤ, true, false, ◌&&◌, List, [], ◌∷◌, refl, sym, ap, subst, ◌∙◌, inl, inr, arith}
use Rattle.std.specs.Bool.{⊤}
use Rattle.std.proofs.lemmas.Bool.{cases_lt}
use Rattle.gptp_lists.specs.Members.{In}
use Rattle.gptp_graph.specs.Snapshot.{PortIdentity}
use Rattle.gptp_pdelay_machine.specs.Lanes.{LaneFrame, IsMute, AreMute, FirstIs}
use Rattle.gptp_pdelay_machine.specs.Messages.{Request, Reply, Response, FollowUp}
use Rattle.gptp_pdelay_machine.specs.Setting.{Setting}
use Rattle.gptp_pdelay_machine.specs.Asker.{Asker, Asked, Answered, Closed, Progress, asker_after_interval, asks_now, asker_completed, own_request}
use Rattle.gptp_pdelay_machine.specs.Answerer.{noted}
use Rattle.gptp_pdelay_machine.specs.Pair.{Pair}
use Rattle.gptp_pdelay_machine.specs.Acts.{RequestTimerExpires, AskerHears}
use Rattle.gptp_pdelay_machine.specs.Facts.{Facts}
use Rattle.gptp_pdelay_machine.specs.Phases.{Phase, Rests, RequestGoes, AnswerWaits, ResponseComes, FollowUpComes}
use Rattle.gptp_pdelay_machine.specs.Phases.{FollowUpInFlight, IsItsFollowUp, IsItsResponse, IsLastRequest}
use Rattle.gptp_pdelay_machine.specs.Meter.{Meter, MeterActs, MeterPasses}
use Rattle.gptp_pdelay_machine.specs.Meter.{meter_asks, meter_hears, meter_heard, meter_answered, meter_rests}
use Rattle.gptp_pdelay_machine.specs.First.{HasAsked, InvFirst}
use Rattle.gptp_pdelay_machine.specs.FirstLaws.{exchange_span}
use Rattle.gptp_pdelay_machine.specs.Order.{Answers, AnswersIt, AreUntold, FollowUpFirst, FollowsIt, IsNotBefore, IsOrdered, ResponseFirst, Tells, either_order, least_exchange}
use Rattle.gptp_pdelay_machine.specs.Order.{FollowUpAhead, IsCapable, ResponseAhead, Untold}
use Rattle.gptp_pdelay_machine.proofs.FirstLemmas.{IsOver, over}
use Rattle.gptp_pdelay_machine.proofs.InvariantLemmas.{completes_well}
use Rattle.gptp_pdelay_machine.proofs.LaneLemmas.{first_append, first_is_there}

-- ---- not before its time

module _ (k : Setting) (least : ℕ) (asks : List ℕ → Request → Type 0) (replies : List ℕ → Reply → Type 0)
    (first : ℕ) where
  -- it sent the first request, the second or a later one
  how_far : (asked : ℕ) → HasAsked k first asked
      → (asked ≡ first) ⊎ ((asked ≡ first + k.period) ⊎ (first + 2 * k.period ≤ asked))
  how_far asked (zero, is) = inl (omega (arith, is))
  how_far asked (suc zero, is) = inr (inl (omega (arith, is)))
  how_far asked (suc (suc n), is) = inr (inr (omega (arith, is)))

  -- the port that asks is as it was
  not_before_still : (p p' : Pair) → p'.time ≡ p.time → p'.asker ≡ p.asker → IsNotBefore k least first p
      → IsNotBefore k least first p'
  not_before_still p p' time same is = record {
    answered = λ sequence source t1 t2 t4 open'.
        let e : p'.asker.progress ≡ p.asker.progress = ap (λ (a : Asker). a.progress) same in
        let asked : p'.asker.asked ≡ p.asker.asked = ap (λ (a : Asker). a.asked) same in
        let by = is.answered sequence source t1 t2 t4 (sym e ∙ open') in omega (arith, by, asked, time);
    fresh = λ now. subst (λ (a : Asker). a.asked ≡ first → a.capable ≡ false) (sym same) is.fresh now;
    none = λ now. subst (λ (a : Asker). a.asked ≡ first → a.progress ≢ Closed → a.measured ≡ false) (sym same) is.none
        now;
    second = λ now on.
        let asked : p'.asker.asked ≡ p.asker.asked = ap (λ (a : Asker). a.asked) same in
        let capable : p'.asker.capable ≡ p.asker.capable = ap (λ (a : Asker). a.capable) same in
        let by = is.second (sym asked ∙ now) (sym capable ∙ on) in omega (arith, by, time);
  }

  -- the next request is sent
  not_before_asks : (gone : ℕ) (m m' : Meter) → exchange_span k < k.period → Facts k gone m.pair
      → RequestTimerExpires k asks replies m.pair m'.pair → InvFirst k least asks replies first m
      → IsNotBefore k least first m.pair → IsNotBefore k least first m'.pair
  not_before_asks gone m m' short facts act inv is =
      let p = m.pair in
      let p' = m'.pair in
      let now = act.now in
      let ended = over k least asks replies gone p facts (omega (arith, short, now)) inv.clean.phase in
      let left : asker_after_interval k.allowed p.asker.progress p.asker ≡ p.asker =
      ap (λ (q : Progress). asker_after_interval k.allowed q p.asker) ended.closed in
      let becomes : p'.asker ≡ asks_now p.time act.sequence (k.asking_clock p.time) p.asker =
      act.asker ∙ ap (asks_now p.time act.sequence (k.asking_clock p.time)) left in
      let asked : p'.asker.asked ≡ p.time = ap (λ (a : Asker). a.asked) becomes in
      let open' : p'.asker.progress ≡ Asked act.sequence (k.asking_clock p.time) =
      ap (λ (a : Asker). a.progress) becomes in
      let capable : p'.asker.capable ≡ p.asker.capable = ap (λ (a : Asker). a.capable) becomes in
      let since : first ≤ p.asker.asked = elim (how_far m.pair.asker.asked inv.since) [
        | inl one ↦ omega (arith, one)
        | inr (inl two) ↦ omega (arith, two)
        | inr (inr more) ↦ omega (arith, more)
      ] in
      record {
        answered = λ sequence source t1 t2 t4 answered. absurd cc;
        fresh = λ again. absurd (omega (arith, again, asked, now, since, short));
        none = λ again. absurd (omega (arith, again, asked, now, since, short));
        second = λ again on.
            let was : p.asker.capable ≡ false = is.fresh (omega (arith, again, asked, now)) in
            absurd cc;
      }

  -- a frame is heard
  not_before_hears : (m m' : Meter) → (act : AskerHears k asks replies m.pair m'.pair)
      → Phase k least asks replies m.pair.asker m.pair.waits m.pair.out (act.front ∷ act.rest)
      → IsNotBefore k least first m.pair → IsNotBefore k least first m'.pair
  not_before_hears m m' act phase is = by_phase phase
    where
      a : Asker
      a = m.pair.asker

      unmoved : IsMute replies act.front → IsNotBefore k least first m'.pair
      unmoved mute = not_before_still m.pair m'.pair act.time (act.asker.nothing mute) is

      by_phase : Phase k least asks replies a m.pair.waits m.pair.out (act.front ∷ act.rest)
          → IsNotBefore k least first m'.pair
      by_phase (Rests closed asks_none none replies_none) = unmoved (replies_none act.front (inl refl))
      by_phase (RequestGoes sequence progress request none replies_none) =
          unmoved (replies_none act.front (inl refl))
      by_phase (AnswerWaits sequence came there progress asks_none is replies_none) =
          unmoved (replies_none act.front (inl refl))
      by_phase (ResponseComes sequence came there progress asks_none none (inl ((said, in_time), behind))) =
          let becomes : m'.pair.asker ≡ record a {
            progress = Answered sequence k.answering (k.asking_clock a.asked) (k.answering_clock came)
                (k.asking_clock m.pair.time);
          } = act.asker.response sequence (k.asking_clock a.asked) (k.answering_clock came) progress said in
          let asked : m'.pair.asker.asked ≡ a.asked = ap (λ (b : Asker). b.asked) becomes in
          let capable : m'.pair.asker.capable ≡ a.capable = ap (λ (b : Asker). b.capable) becomes in
          let measured : m'.pair.asker.measured ≡ a.measured = ap (λ (b : Asker). b.measured) becomes in
          let due = act.now in
          let time = act.time in
          let opened : a.progress ≢ Closed = λ closed. absurd cc in
          record {
            answered = λ s source t1 t2 t4 answered. omega (arith, asked, there.0, in_time.0, due, time);
            fresh = λ now. capable ∙ is.fresh (sym asked ∙ now);
            none = λ now some. measured ∙ is.none (sym asked ∙ now) opened;
            second = λ now on.
                let by = is.second (sym asked ∙ now) (sym capable ∙ on) in omega (arith, by, time);
          }
      by_phase (ResponseComes sequence came there progress asks_none none (inr (mute, later))) = unmoved mute
      by_phase (FollowUpComes sequence came heard there home progress asks_none none (inl ((said, by), behind))) =
          let becomes : m'.pair.asker ≡ asker_completed true a =
          completes_well k least asks replies 0 0 a m'.pair.asker act.front.octets m.pair.time sequence came heard there
          home progress act.asker said in
          let asked : m'.pair.asker.asked ≡ a.asked = ap (λ (b : Asker). b.asked) becomes in
          let capable : m'.pair.asker.capable ≡ (a.measured && true) = ap (λ (b : Asker). b.capable) becomes in
          let closed : m'.pair.asker.progress ≡ Closed = ap (λ (b : Asker). b.progress) becomes in
          let time = act.time in
          let opened : a.progress ≢ Closed = λ shut. absurd cc in
          let back = is.answered sequence k.answering (k.asking_clock a.asked) (k.answering_clock came)
          (k.asking_clock heard) progress in
          record {
            answered = λ s source t1 t2 t4 answered. absurd cc;
            fresh = λ now. let never : a.measured ≡ false = is.none (sym asked ∙ now) opened in
                capable ∙ ap (λ b. b && true) never;
            none = λ now some. absurd (some closed);
            second = λ now on. omega (arith, asked, now, back, time);
          }
      by_phase (FollowUpComes sequence came heard there home progress asks_none none (inr (mute, later))) =
          unmoved mute

  pub not_before_kept : (gone : ℕ) (m m' : Meter) → exchange_span k < k.period → Facts k gone m.pair
      → MeterActs k asks replies m m' → InvFirst k least asks replies first m → IsNotBefore k least first m.pair
      → IsNotBefore k least first m'.pair
  not_before_kept gone m m' short facts (meter_asks act kept) inv is = not_before_asks gone m m' short facts act inv is
  not_before_kept gone m m' short facts (meter_hears act takes) inv is =
      not_before_hears m m' act
      (subst (λ b. Phase k least asks replies m.pair.asker m.pair.waits m.pair.out b) act.was inv.clean.phase) is
  not_before_kept gone m m' short facts (meter_heard act kept) inv is =
      not_before_still m.pair m'.pair act.time act.asker is
  not_before_kept gone m m' short facts (meter_answered act kept) inv is =
      not_before_still m.pair m'.pair act.time act.asker is
  not_before_kept gone m m' short facts (meter_rests act kept) inv is =
      not_before_still m.pair m'.pair act.time act.asker is

  pub not_before_later : (m m' : Meter) → MeterPasses m m' → IsNotBefore k least first m.pair
      → IsNotBefore k least first m'.pair
  not_before_later m m' (time, on, is) before =
      subst (λ (n : Meter). IsNotBefore k least first n.pair) (sym is)
      (record {
        answered = λ sequence source t1 t2 t4 open'.
            let by = before.answered sequence source t1 t2 t4 open' in omega (arith, by, on);
        fresh = before.fresh;
        none = before.none;
        second = λ now capable. let by = before.second now capable in omega (arith, by, on);
      })

  pub not_capable_before : (gone : ℕ) (m : Meter) → least ≤ k.most → exchange_span k < k.period → Facts k gone m.pair
      → InvFirst k least asks replies first m → IsNotBefore k least first m.pair → m.pair.asker.capable ≡ true
      → first + k.period + least_exchange k least ≤ m.pair.time
  not_capable_before gone m less short facts inv before capable = elim (how_far m.pair.asker.asked inv.since) [
    | inl one ↦ (let never = before.fresh one in absurd cc)
    | inr (inl two) ↦ before.second two capable
    | inr (inr more) ↦ (let since = facts.asked in omega (arith, more, since, less, short))
  ]

-- ---- in order

module _ (k : Setting) (least : ℕ) (asks : List ℕ → Request → Type 0) (replies : List ℕ → Reply → Type 0)
    (tells : List ℕ → Type 0) (first : ℕ) where
  abbrev Ordered : Asker → List LaneFrame → Type 0
  Ordered a back = IsOrdered k tells replies first a back

  -- a reply isn't mute
  answers_not_mute : (sequence : ℕ) (f : LaneFrame) → AnswersIt k tells replies sequence f → IsMute replies f → ⊥
  answers_not_mute sequence f (t2, said) mute = mute (Response k.answering (own_request k sequence) t2) said

  follows_not_mute : (sequence : ℕ) (f : LaneFrame) → FollowsIt k tells replies sequence f → IsMute replies f → ⊥
  follows_not_mute sequence f (t3, said) mute = mute (FollowUp k.answering (own_request k sequence) t3) said

  mute_of : (f : LaneFrame) → IsMute (either_order tells replies) f → IsMute replies f
  mute_of f mute reply said = mute (Answers reply) said

  -- frames of which none tells: what is known of the first reply is known of the first frame of either kind
  untold_first : (P P' : LaneFrame → Type 0) (Q Q' : List LaneFrame → Type 0) (fs : List LaneFrame) → AreUntold tells fs
      → ((f : LaneFrame) → P f → P' f) → ((gs : List LaneFrame) → AreUntold tells gs → Q gs → Q' gs)
      → FirstIs replies P Q fs → FirstIs (either_order tells replies) P' Q' fs
  untold_first P P' Q Q' [] untold one behind h = absurd h
  untold_first P P' Q Q' (f ∷ fs) untold one behind (inl here) =
      inl (one f here.0, behind fs (λ g at. untold g (inr at)) here.1)
  untold_first P P' Q Q' (f ∷ fs) untold one behind (inr later) =
      inr (mute, untold_first P P' Q Q' fs (λ g at. untold g (inr at)) one behind later.1)
    where
      mute : IsMute (either_order tells replies) f
      mute (Answers reply) said = later.0 reply said
      mute Tells said = untold f (inl refl) said

  -- more frames after
  follow_up_more : (sequence : ℕ) (back news : List LaneFrame) → FollowUpFirst k tells replies sequence back
      → FollowUpFirst k tells replies sequence (back ++ news)
  follow_up_more sequence back news =
      first_append (either_order tells replies) (FollowsIt k tells replies sequence) (λ gs. ⊤) back news (λ gs any. tt)

  response_more : (sequence : ℕ) (back news : List LaneFrame) → ResponseFirst k tells replies sequence back
      → ResponseFirst k tells replies sequence (back ++ news)
  response_more sequence back news =
      first_append (either_order tells replies) (AnswersIt k tells replies sequence)
      (FollowUpFirst k tells replies sequence) back news (λ gs. follow_up_more sequence gs news)

  ordered_more : (a : Asker) (back news : List LaneFrame) → Ordered a back
      → (AreUntold tells back → Ordered a (back ++ news))
      → Ordered a (back ++ news)
  ordered_more a back news (IsCapable late capable) untold = IsCapable late capable
  ordered_more a back news (Untold none) untold = untold none
  ordered_more a back news (ResponseAhead sequence t1 late open' ahead) untold =
      ResponseAhead sequence t1 late open' (response_more sequence back news ahead)
  ordered_more a back news (FollowUpAhead sequence source t1 t2 t4 late open' ahead) untold =
      FollowUpAhead sequence source t1 t2 t4 late open' (follow_up_more sequence back news ahead)

  -- From the time on by which the second request was answered, the port is capable or the answer is in flight.
  answer_is_ahead : (gone from : ℕ) (m : Meter) (news : List LaneFrame)
      → first + k.period + k.most + k.turnaround < from
      → from ≤ m.pair.time → Facts k gone m.pair → InvFirst k least asks replies first m
      → AreUntold tells m.pair.back → Ordered m.pair.asker (m.pair.back ++ news)
  answer_is_ahead gone from m news past late facts inv untold =
      elim (how_far k least asks replies first m.pair.asker.asked inv.since) [
        | inl one ↦ (let timer = facts.request_timer in absurd (omega (arith, one, timer, past, late)))
        | inr (inl two) ↦ by_phase two inv.clean.phase
        | inr (inr more) ↦ IsCapable (omega (arith, more)) (inv.clean.counts.two (inl more))
      ]
    where
      p : Pair
      p = m.pair

      by_phase : p.asker.asked ≡ first + k.period → Phase k least asks replies p.asker p.waits p.out p.back
          → Ordered p.asker (p.back ++ news)
      by_phase two (Rests closed asks_none none replies_none) =
          let second : first + k.period ≤ p.asker.asked = omega (arith, two) in
          IsCapable second (inv.clean.counts.two (inr (second, closed)))
      by_phase two (RequestGoes sequence progress request none replies_none) =
          let (f, at, is) =
          first_is_there asks (IsLastRequest k least asks replies sequence p.asker.asked) (AreMute asks) p.out
          request in
          let pending = (facts.out f at).earliest in
          absurd (omega (arith, pending, is.1.1, two, past, late))
      by_phase two (AnswerWaits sequence came there progress asks_none is replies_none) =
          let pending = facts.answer_timer (noted k (own_request k sequence) came) is in
          absurd (omega (arith, pending, there.1, two, past, late))
      by_phase two (ResponseComes sequence came there progress asks_none none response) =
          ResponseAhead sequence (k.asking_clock p.asker.asked) (omega (arith, two)) progress
          (response_more sequence p.back news
          (untold_first (IsItsResponse k least asks replies sequence came) (AnswersIt k tells replies sequence)
          (FollowUpInFlight k least asks replies sequence came) (FollowUpFirst k tells replies sequence) p.back untold
          (λ f is. (k.answering_clock came, is.0))
          (λ gs none.
          untold_first (IsItsFollowUp k least asks replies sequence came) (FollowsIt k tells replies sequence)
          (AreMute replies) (λ hs. ⊤) gs none (λ f is. (k.answering_clock (came + k.turnaround), is.0))
          (λ hs few mute. tt))
          response))
      by_phase two (FollowUpComes sequence came heard there home progress asks_none none follow_up) =
          FollowUpAhead sequence k.answering (k.asking_clock p.asker.asked) (k.answering_clock came)
          (k.asking_clock heard) (omega (arith, two)) progress
          (follow_up_more sequence p.back news
          (untold_first (IsItsFollowUp k least asks replies sequence came) (FollowsIt k tells replies sequence)
          (AreMute replies) (λ hs. ⊤) p.back untold (λ f is. (k.answering_clock (came + k.turnaround), is.0))
          (λ hs few mute. tt) follow_up))

  -- frames are sent to the port, which is as it was
  ordered_sent : (gone from : ℕ) (m m' : Meter) (news : List LaneFrame)
      → first + k.period + k.most + k.turnaround < from → Facts k gone m.pair → InvFirst k least asks replies first m
      → m'.pair.asker ≡ m.pair.asker → m'.pair.back ≡ m.pair.back ++ news
      → ((f : LaneFrame) → In f m'.pair.back → tells f.octets → In f m.pair.back ⊎ (from ≤ m.pair.time))
      → Ordered m.pair.asker m.pair.back → Ordered m'.pair.asker m'.pair.back
  ordered_sent gone from m m' news past facts inv same back sent order =
      subst (λ (a : Asker). Ordered a m'.pair.back) (sym same)
      (subst (λ fs. Ordered m.pair.asker fs) (sym back)
      (ordered_more m.pair.asker m.pair.back news order untold))
    where
      untold : AreUntold tells m.pair.back → Ordered m.pair.asker (m.pair.back ++ news)
      untold none = elim (cases_lt m.pair.time from) [
        | inl before ↦ Untold (λ f at told.
            elim (sent f (subst (In f) (sym back) at) told) [
              | inl old ↦ none f old told
              | inr late ↦ omega (arith, late, before)
            ])
        | inr late ↦ answer_is_ahead gone from m news past late facts inv none
      ]

  -- a frame is heard
  ordered_heard : (m m' : Meter) → (act : AskerHears k asks replies m.pair m'.pair)
      → InvFirst k least asks replies first m → IsOrdered k tells replies first m.pair.asker (act.front ∷ act.rest)
      → Phase k least asks replies m.pair.asker m.pair.waits m.pair.out (act.front ∷ act.rest)
      → Ordered m'.pair.asker act.rest
  ordered_heard m m' act inv order phase = by_order order phase
    where
      a : Asker
      a = m.pair.asker

      a' : Asker
      a' = m'.pair.asker

      unmoved : (rest : List LaneFrame) → IsMute replies act.front → Ordered a rest → Ordered a' rest
      unmoved rest mute was = subst (λ (b : Asker). Ordered b rest) (sym (act.asker.nothing mute)) was

      -- the follow-up of the second request or a later one is heard
      full : first + k.period ≤ a.asked → a' ≡ asker_completed true a → Ordered a' act.rest
      full late becomes =
          let asked : a'.asked ≡ a.asked = ap (λ (b : Asker). b.asked) becomes in
          let measured : a.measured ≡ true = inv.clean.counts.one (inl late) in
          IsCapable (omega (arith, asked, late))
          (ap (λ (b : Asker). b.capable) becomes ∙ ap (λ b. b && true) measured)

      recorded : (sequence : ℕ) (t1 t2 t4 : ℤ) → a' ≡ record a { progress = Answered sequence k.answering t1 t2 t4 }
          → first + k.period ≤ a.asked → (rest : List LaneFrame) → FollowUpFirst k tells replies sequence rest
          → Ordered a' rest
      recorded sequence t1 t2 t4 becomes late rest ahead =
          let asked : a'.asked ≡ a.asked = ap (λ (b : Asker). b.asked) becomes in
          FollowUpAhead sequence k.answering t1 t2 t4 (omega (arith, asked, late))
          (ap (λ (b : Asker). b.progress) becomes) ahead

      -- what the port holds stays where it is capable
      still : first + k.period ≤ a.asked → a.capable ≡ true
          → Phase k least asks replies a m.pair.waits m.pair.out (act.front ∷ act.rest) → Ordered a' act.rest
      still late capable (Rests closed asks_none none replies_none) =
          unmoved act.rest (replies_none act.front (inl refl)) (IsCapable late capable)
      still late capable (RequestGoes sequence progress request none replies_none) =
          unmoved act.rest (replies_none act.front (inl refl)) (IsCapable late capable)
      still late capable (AnswerWaits sequence came there progress asks_none is replies_none) =
          unmoved act.rest (replies_none act.front (inl refl)) (IsCapable late capable)
      still late capable (ResponseComes sequence came there progress asks_none none (inl ((said, in_time), behind))) =
          let becomes = act.asker.response sequence (k.asking_clock a.asked) (k.answering_clock came) progress said in
          let asked : a'.asked ≡ a.asked = ap (λ (b : Asker). b.asked) becomes in
          IsCapable (omega (arith, asked, late)) (ap (λ (b : Asker). b.capable) becomes ∙ capable)
      still late capable (ResponseComes sequence came there progress asks_none none (inr (mute, later))) =
          unmoved act.rest mute (IsCapable late capable)
      still late capable (FollowUpComes sequence came heard there home progress asks_none none
          (inl ((said, by), behind)))
          = full late (completes_well k least asks replies 0 0 a a' act.front.octets m.pair.time sequence came heard
          there home progress act.asker said)
      still late capable (FollowUpComes sequence came heard there home progress asks_none none (inr (mute, later))) =
          unmoved act.rest mute (IsCapable late capable)

      -- the response is heard
      response : (sequence : ℕ) (t1 : ℤ) → first + k.period ≤ a.asked → a.progress ≡ Asked sequence t1
          → AnswersIt k tells replies sequence act.front → FollowUpFirst k tells replies sequence act.rest
          → Phase k least asks replies a m.pair.waits m.pair.out (act.front ∷ act.rest) → Ordered a' act.rest
      response sequence t1 late open' is ahead (Rests closed asks_none none replies_none) =
          absurd (answers_not_mute sequence act.front is (replies_none act.front (inl refl)))
      response sequence t1 late open' is ahead (RequestGoes s progress request none replies_none) =
          absurd (answers_not_mute sequence act.front is (replies_none act.front (inl refl)))
      response sequence t1 late open' is ahead (AnswerWaits s came there progress asks_none noted_is replies_none) =
          absurd (answers_not_mute sequence act.front is (replies_none act.front (inl refl)))
      response sequence t1 late open' is ahead
          (ResponseComes s came there progress asks_none none (inl ((said, in_time), behind))) =
          let same : sequence ≡ s = same_sequence sequence s t1 (k.asking_clock a.asked) (sym open' ∙ progress) in
          recorded s (k.asking_clock a.asked) (k.answering_clock came) (k.asking_clock m.pair.time)
          (act.asker.response s (k.asking_clock a.asked) (k.answering_clock came) progress said) late act.rest
          (subst (λ n. FollowUpFirst k tells replies n act.rest) same ahead)
        where
          same_sequence : (m n : ℕ) (t u : ℤ) → Asked m t ≡ Asked n u → m ≡ n
          same_sequence m n t u e = cc
      response sequence t1 late open' is ahead
          (ResponseComes s came there progress asks_none none (inr (mute, later))) =
          absurd (answers_not_mute sequence act.front is mute)
      response sequence t1 late open' is ahead
          (FollowUpComes s came heard there home progress asks_none none follow_up) = absurd cc

      -- the follow-up is heard
      follow_up : (sequence : ℕ) (source : PortIdentity) (t1 t2 t4 : ℤ) → first + k.period ≤ a.asked
          → a.progress ≡ Answered sequence source t1 t2 t4 → FollowsIt k tells replies sequence act.front
          → Phase k least asks replies a m.pair.waits m.pair.out (act.front ∷ act.rest) → Ordered a' act.rest
      follow_up sequence source t1 t2 t4 late open' is (Rests closed asks_none none replies_none) = absurd cc
      follow_up sequence source t1 t2 t4 late open' is (RequestGoes s progress request none replies_none) = absurd cc
      follow_up sequence source t1 t2 t4 late open' is
          (AnswerWaits s came there progress asks_none noted_is replies_none) = absurd cc
      follow_up sequence source t1 t2 t4 late open' is (ResponseComes s came there progress asks_none none first_one) =
          absurd cc
      follow_up sequence source t1 t2 t4 late open' is
          (FollowUpComes s came heard there home progress asks_none none (inl ((said, by), behind))) =
          full late (completes_well k least asks replies 0 0 a a' act.front.octets m.pair.time s came heard there home
          progress act.asker said)
      follow_up sequence source t1 t2 t4 late open' is
          (FollowUpComes s came heard there home progress asks_none none (inr (mute, later))) =
          absurd (follows_not_mute sequence act.front is mute)

      by_order : Ordered a (act.front ∷ act.rest)
          → Phase k least asks replies a m.pair.waits m.pair.out (act.front ∷ act.rest) → Ordered a' act.rest
      by_order (IsCapable late capable) ph = still late capable ph
      by_order (Untold none) ph = Untold (λ f at. none f (inr at))
      by_order (ResponseAhead sequence t1 late open' (inl (is, behind))) ph =
          response sequence t1 late open' is behind ph
      by_order (ResponseAhead sequence t1 late open' (inr (mute, later))) ph =
          unmoved act.rest (mute_of act.front mute) (ResponseAhead sequence t1 late open' later)
      by_order (FollowUpAhead sequence source t1 t2 t4 late open' (inl (is, behind))) ph =
          follow_up sequence source t1 t2 t4 late open' is ph
      by_order (FollowUpAhead sequence source t1 t2 t4 late open' (inr (mute, later))) ph =
          unmoved act.rest (mute_of act.front mute) (FollowUpAhead sequence source t1 t2 t4 late open' later)

  -- the next request is sent
  ordered_asks : (gone : ℕ) (m m' : Meter) → exchange_span k < k.period → Facts k gone m.pair
      → (act : RequestTimerExpires k asks replies m.pair m'.pair) → InvFirst k least asks replies first m
      → Ordered m.pair.asker m.pair.back → Ordered m'.pair.asker m'.pair.back
  ordered_asks gone m m' short facts act inv order =
      subst (λ fs. Ordered m'.pair.asker fs) (sym act.back) (by order)
    where
      p : Pair
      p = m.pair

      ended : IsOver k least asks replies gone p
      ended = let now = act.now in over k least asks replies gone p facts (omega (arith, short, now)) inv.clean.phase

      becomes : m'.pair.asker ≡ asks_now p.time act.sequence (k.asking_clock p.time) p.asker
      becomes = act.asker ∙ ap (λ (q : Progress).
          asks_now p.time act.sequence (k.asking_clock p.time) (asker_after_interval k.allowed q p.asker)) ended.closed

      by : Ordered p.asker p.back → Ordered m'.pair.asker p.back
      by (IsCapable late capable) =
          let asked : m'.pair.asker.asked ≡ p.time = ap (λ (a : Asker). a.asked) becomes in
          let now = act.now in
          IsCapable (omega (arith, asked, late, now)) (ap (λ (a : Asker). a.capable) becomes ∙ capable)
      by (Untold none) = Untold none
      by (ResponseAhead sequence t1 late open' ahead) = let closed = ended.closed in absurd cc
      by (FollowUpAhead sequence source t1 t2 t4 late open' ahead) = let closed = ended.closed in absurd cc

  pub order_kept : (gone from : ℕ) (m m' : Meter) → exchange_span k < k.period
      → first + k.period + k.most + k.turnaround < from → Facts k gone m.pair → InvFirst k least asks replies first m
      → MeterActs k asks replies m m'
      → ((f : LaneFrame) → In f m'.pair.back → tells f.octets → In f m.pair.back ⊎ (from ≤ m.pair.time))
      → Ordered m.pair.asker m.pair.back → Ordered m'.pair.asker m'.pair.back
  order_kept gone from m m' short past facts inv (meter_asks act kept) sent order =
      ordered_asks gone m m' short facts act inv order
  order_kept gone from m m' short past facts inv (meter_hears act takes) sent order =
      subst (λ fs. Ordered m'.pair.asker fs) (sym act.back)
      (ordered_heard m m' act inv (subst (λ fs. Ordered m.pair.asker fs) act.was order)
      (subst (λ b. Phase k least asks replies m.pair.asker m.pair.waits m.pair.out b) act.was inv.clean.phase))
  order_kept gone from m m' short past facts inv (meter_heard act kept) sent order =
      ordered_sent gone from m m' act.news past facts inv act.asker act.back sent order
  order_kept gone from m m' short past facts inv (meter_answered act kept) sent order =
      ordered_sent gone from m m' act.news past facts inv act.asker act.back sent order
  order_kept gone from m m' short past facts inv (meter_rests act kept) sent order =
      ordered_sent gone from m m' act.behind past facts inv act.asker act.back sent order

  pub told_heard : (m m' : Meter)
      → ((octets : List ℕ) (reply : Reply) → tells octets → replies octets reply → ⊥)
      → Ordered m.pair.asker m.pair.back → (act : AskerHears k asks replies m.pair m'.pair)
      → tells act.front.octets → m.pair.asker.capable ≡ true
  told_heard m m' apart order act told = by (subst (λ fs. Ordered m.pair.asker fs) act.was order)
    where
      by : Ordered m.pair.asker (act.front ∷ act.rest) → m.pair.asker.capable ≡ true
      by (IsCapable late capable) = capable
      by (Untold none) = absurd (none act.front (inl refl) told)
      by (ResponseAhead sequence t1 late open' (inl ((t2, said), behind))) =
          absurd (apart act.front.octets (Response k.answering (own_request k sequence) t2) told said)
      by (ResponseAhead sequence t1 late open' (inr (mute, later))) = absurd (mute Tells told)
      by (FollowUpAhead sequence source t1 t2 t4 late open' (inl ((t3, said), behind))) =
          absurd (apart act.front.octets (FollowUp k.answering (own_request k sequence) t3) told said)
      by (FollowUpAhead sequence source t1 t2 t4 late open' (inr (mute, later))) = absurd (mute Tells told)
