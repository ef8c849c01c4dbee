-- What a port has measured: every act keeps what is known of it.
use Rattle.std.proofs.Common.{◌≡◌, ◌≤◌, ◌<◌, ◌+◌, ◌-◌, ◌*◌, ℕ, zero, suc, ℤ, ◌-ℤ◌, true, List, [], ◌∷◌, length, take, Some, refl, sym, ap, subst, ◌∙◌, inl, inr, arith}
use Rattle.std.proofs.lemmas.List.{length-take}
use Rattle.std.proofs.lemmas.Nat.{mul-le}
use Rattle.gptp_lists.specs.Members.{In}
use Rattle.gptp_graph.specs.Snapshot.{PortIdentity}
use Rattle.gptp_scaled.specs.Rate.{rate_of}
use Rattle.gptp_pdelay.specs.declared.exchange.Times.{Times}
use Rattle.gptp_pdelay.specs.Exchange.{neighbor_rate, oldest, times_of}
use Rattle.gptp_pdelay.specs.GoodLink.{IsGoodLink}
use Rattle.gptp_pdelay.specs.Measured.{IsCarried, Moments}
use Rattle.gptp_pdelay_machine.specs.Lanes.{IsMute}
use Rattle.gptp_pdelay_machine.specs.Messages.{Request, Reply}
use Rattle.gptp_pdelay_machine.specs.Setting.{Setting, IsBetween}
use Rattle.gptp_pdelay_machine.specs.Asker.{Asker, Closed, Asked, Answered, asker_after_interval, asks_now, asker_completed}
use Rattle.gptp_pdelay_machine.specs.Pair.{Pair, pair_at_time}
use Rattle.gptp_pdelay_machine.specs.Acts.{RequestTimerExpires, AskerHears}
use Rattle.gptp_pdelay_machine.specs.Facts.{Facts, IsGood, IsSentLate}
use Rattle.gptp_pdelay_machine.specs.Phases.{Phase, Rests, RequestGoes, AnswerWaits, ResponseComes, FollowUpComes}
use Rattle.gptp_pdelay_machine.specs.Invariant.{PortInvariant, IsJustChanged}
use Rattle.gptp_pdelay_machine.specs.Meter.{Kept, Measures, Meter, MeterActs, MeterPasses, TakesMeasure, act_of}
use Rattle.gptp_pdelay_machine.specs.Meter.{meter_asks, meter_hears, meter_heard, meter_answered, meter_rests}
use Rattle.gptp_pdelay_machine.specs.Measured.{Chain, HasMeasured, MeasuredSince, MeterInv}
use Rattle.gptp_pdelay_machine.specs.Runs.{IsMeterRun}
use Rattle.gptp_pdelay_machine.proofs.FactLemmas.{timing_is_enough}
use Rattle.gptp_pdelay_machine.proofs.InvariantLemmas.{inv_forgets, inv_from_begins, inv_from_kept, inv_from_later, nothing_pends, completes_well}
use Rattle.gptp_pdelay_machine.proofs.PhaseLemmas

module _ (k : Setting) (least : ℕ) where
  -- the first of a chain are one
  chain_front : (n v before : ℕ) (ts : List Times) → n ≤ v → Chain k least n before ts
      → Chain k least n before (take v ts)
  chain_front zero v before ts h chain = refl
  chain_front (suc n) zero before ts h chain = absurd (omega (arith, h))
  chain_front (suc n) (suc v) before [] h chain = absurd chain
  chain_front (suc n) (suc v) before (t ∷ ts) h (moments, taken, rest) =
      (moments, taken, chain_front n v moments.asked ts (omega (arith, h)) rest)

  -- the oldest of a chain that is all there is
  record IsOldest (n before : ℕ) (ts : List Times) : Type 0 where
    times : Times
    is : oldest ts ≡ Some times
    moments : Moments
    carried : IsCarried least k.most k.turnaround moments
    t3_is : times.t3 ≡ k.answering_clock (moments.heard + k.turnaround)
    t4_is : times.t4 ≡ k.asking_clock moments.came
    asked : moments.asked + n * k.period ≤ before

  chain_oldest : (n before : ℕ) (ts : List Times) → length ts ≤ suc n → Chain k least (suc n) before ts
      → IsOldest (suc n) before ts
  chain_oldest n before [] h chain = absurd chain
  chain_oldest n before (t ∷ []) h (moments, taken, rest) = only n rest
    where
      only : (n : ℕ) → Chain k least n moments.asked [] → IsOldest (suc n) before (t ∷ [])
      only zero c = record {
        times = t;
        is = refl;
        moments = moments;
        carried = taken.carried;
        t3_is = taken.t3_is;
        t4_is = taken.t4_is;
        asked = let x = taken.asked in omega (arith, x);
      }
      only (suc j) c = absurd c
  chain_oldest zero before (t ∷ (u ∷ ts)) h chain = absurd (omega (arith, h))
  chain_oldest (suc n) before (t ∷ (u ∷ ts)) h (moments, taken, rest) =
      let below = chain_oldest n moments.asked (u ∷ ts) (omega (arith, h)) rest in
      record {
        times = below.times;
        is = below.is;
        moments = below.moments;
        carried = below.carried;
        t3_is = below.t3_is;
        t4_is = below.t4_is;
        asked = let x = taken.asked in let y = below.asked in omega (arith, x, y);
      }

module _ (k : Setting) (least : ℕ) (calm : ℕ) where
  -- the port and what it measured are as they were
  pub measured_still : (a a' : Asker) (kept kept' : Kept) → a' ≡ a → kept' ≡ kept
      → MeasuredSince k least calm a kept → MeasuredSince k least calm a' kept'
  measured_still a a' kept kept' ea el since = rw (ea, el) since

  -- a response is recorded
  measured_recorded : (a : Asker) (kept : Kept) (sequence : ℕ) (source : PortIdentity)
      (t1 t2 t4 t : ℤ) → a.progress ≡ Asked sequence t → MeasuredSince k least calm a kept
      → MeasuredSince k least calm (record a { progress = Answered sequence source t1 t2 t4 }) kept
  measured_recorded a kept sequence source t1 t2 t4 t open' since = record {
    few = λ case. elim case [ inl late ↦ since.few (inl late) | inr closed ↦ absurd cc ];
    open' = λ n h late goes. since.open' n h late not_closed;
    closed = λ n h late is. absurd cc;
    whole = λ case. elim case [ inl late ↦ since.whole (inl late) | inr (late, is) ↦ absurd cc ];
  }
    where
      not_closed : a.progress ≡ Closed → ⊥
      not_closed e = absurd cc

  -- The next request is sent, one period after the last. Where that one was sent at `calm` or later, it is closed.
  pub measured_asked : (a : Asker) (kept kept' : Kept) (time sequence : ℕ) (t1 : ℤ)
      → a.asked + k.period ≡ time → (a.progress ≡ Closed → kept' ≡ kept)
      → (calm ≤ a.asked → (a.progress ≡ Closed) × MeasuredSince k least calm a kept)
      → MeasuredSince k least calm (asks_now time sequence t1 (asker_after_interval k.allowed a.progress a)) kept'
  measured_asked a kept kept' time sequence t1 now same known = record {
    few = λ case. elim case [
      | inl late ↦ (let (closed, since) = known (omega (arith, late, now)) in
          let past = ap (λ (x : Kept). length x.past) (same closed) in
          let before = since.few (inr closed) in omega (arith, past, before))
      | inr closed ↦ absurd cc
    ];
    open' = λ n h late goes. chain n h late;
    closed = λ n h late is. absurd cc;
    whole = λ case. elim case [
      | inl late ↦ (let (closed, since) = known (omega (arith, late, now)) in
          subst (HasMeasured k least) (sym (ap (λ (x : Kept). x.last) (same closed)))
          (since.whole (inr (omega (arith, late, now), closed))))
      | inr (late, is) ↦ absurd cc
    ];
  }
    where
      chain : (n : ℕ) → n ≤ k.window → calm + n * k.period ≤ time → Chain k least n time kept'.past
      chain zero h late = refl
      chain (suc n) h late =
          let (closed, since) = known (omega (arith, late, now)) in
          let past = ap (λ (x : Kept). x.past) (same closed) in
          let before = since.closed (suc n) h (omega (arith, late, now)) closed in
          rw (past, sym now) before

  -- a good exchange is complete
  measured_completed : (a : Asker) (kept kept' : Kept) (v sequence came heard : ℕ) → k.window ≡ suc v
      → k.most + k.turnaround + k.most < k.period
      → IsBetween a.asked came least k.most → IsBetween (came + k.turnaround) heard least k.most
      → a.progress ≡ Answered sequence k.answering (k.asking_clock a.asked) (k.answering_clock came)
      (k.asking_clock heard)
      → Measures k.window kept kept' (k.asking_clock a.asked) (k.answering_clock came)
      (k.answering_clock (came + k.turnaround)) (k.asking_clock heard)
      → MeasuredSince k least calm a kept → MeasuredSince k least calm (asker_completed true a) kept'
  measured_completed a kept kept' v sequence came heard some short there home progress measures since = record {
    few = λ case. few_taken;
    open' = λ n h late goes. absurd (goes refl);
    closed = λ n h late is. chain n h late;
    whole = λ case. measured (elim case [ inl late ↦ omega (arith, late) | inr (late, closed) ↦ late ]);
  }
    where
      goes : a.progress ≡ Closed → ⊥
      goes e = absurd cc

      times : Times
      times = times_of measures.measured

      few_taken : length kept'.past ≤ k.window
      few_taken =
          let is = ap length measures.past_is in
          let most = length-take k.window (times ∷ kept.past) in omega (arith, is, most)

      moments : Moments
      moments = record { asked = a.asked; heard = came; came = heard }

      carried : IsCarried least k.most k.turnaround moments
      carried = record {
        there_long = there.0;
        there_short = there.1;
        home_long = home.0;
        home_short = home.1;
      }

      past_is : kept'.past ≡ times ∷ take v kept.past
      past_is = measures.past_is ∙ ap (λ n. take n (times ∷ kept.past)) some

      chain : (n : ℕ) → n ≤ k.window → calm + n * k.period ≤ a.asked + k.period
          → Chain k least n (a.asked + k.period) kept'.past
      chain zero h late = refl
      chain (suc n) h late =
          let before = since.open' n (omega (arith, h)) (omega (arith, late)) goes in
          let front = chain_front k least n v a.asked kept.past (omega (arith, h, some)) before in
          rw past_is (
            moments,
            record { carried = carried; t3_is = measures.t3_is; t4_is = measures.t4_is; asked = omega arith },
            front,
          )

      rate_after : (o : IsOldest k least (suc v) a.asked kept.past) → measures.measured.rate
          ≡ rate_of (k.answering_clock (came + k.turnaround) -ℤ k.answering_clock (o.moments.heard + k.turnaround))
          (k.asking_clock heard -ℤ k.asking_clock o.moments.came)
      rate_after o = measures.rate_is
          ∙ ap (λ l. neighbor_rate l (k.answering_clock (came + k.turnaround)) (k.asking_clock heard)) o.is
          ∙ ap (λ t. rate_of (k.answering_clock (came + k.turnaround) -ℤ t)
          (k.asking_clock heard -ℤ o.times.t4)) o.t3_is
          ∙ ap (λ t. rate_of (k.answering_clock (came + k.turnaround)
          -ℤ k.answering_clock (o.moments.heard + k.turnaround)) (k.asking_clock heard -ℤ t)) o.t4_is

      far : (o : IsOldest k least (suc v) a.asked kept.past) → o.moments.asked + k.window * k.period ≤ a.asked
      far o =
          let x = o.asked in
          let e : k.window * k.period ≡ suc v * k.period = ap (λ n. n * k.period) some in omega (arith, x, e)

      measured : calm + k.window * k.period ≤ a.asked → HasMeasured k least kept'.last
      measured late =
          let e : k.window * k.period ≡ suc v * k.period = ap (λ n. n * k.period) some in
          let all = since.open' k.window (omega arith) late goes in
          let length_is = since.few (inl (omega (arith, late, e))) in
          let o =
          chain_oldest k least v a.asked kept.past (omega (arith, length_is, some))
          (subst (λ n. Chain k least n a.asked kept.past) some all) in
          let old = o.carried in
          let apart = far o in
          let x = o.asked in
          record {
            measured = measures.measured;
            is = measures.last_is;
            exchanges = record {
              earlier = o.moments;
              later = moments;
              earlier_carried = old;
              later_carried = carried;
              apart = apart;
              ended = omega (arith, x, old.there_short, old.home_short, short);
              rate_is = rate_after o;
              delay_is = measures.delay_is;
            };
          }

module _ (k : Setting) (least : ℕ) (asks : List ℕ → Request → Type 0) (replies : List ℕ → Reply → Type 0)
    (gone calm : ℕ) where
  -- the port that asks hears the oldest frame
  pub measured_heard : (m m' : Meter) (act : AskerHears k asks replies m.pair m'.pair)
      → k.most + k.turnaround + k.most < k.period
      → TakesMeasure k replies act.front.octets m.pair.asker m.kept m'.kept
      → Phase k least asks replies m.pair.asker m.pair.waits m.pair.out (act.front ∷ act.rest)
      → MeasuredSince k least calm m.pair.asker m.kept → MeasuredSince k least calm m'.pair.asker m'.kept
  measured_heard m m' act short takes phase since = by_phase phase
    where
      a : Asker
      a = m.pair.asker

      unmoved : IsMute replies act.front → MeasuredSince k least calm m'.pair.asker m'.kept
      unmoved mute = measured_still k least calm a m'.pair.asker m.kept m'.kept (act.asker.nothing mute)
          (takes.nothing mute) since

      by_phase : Phase k least asks replies a m.pair.waits m.pair.out (act.front ∷ act.rest)
          → MeasuredSince k least calm m'.pair.asker m'.kept
      by_phase (Rests closed asks_none none replies_none) = unmoved (replies_none act.front (inl refl))
      by_phase (RequestGoes sequence progress request none replies_none) =
          unmoved (replies_none act.front (inl refl))
      by_phase (AnswerWaits sequence came there progress asks_none is replies_none) =
          unmoved (replies_none act.front (inl refl))
      by_phase (ResponseComes sequence came there progress asks_none none (inl ((said, in_time), behind))) =
          measured_still k least calm
          (record a {
            progress = Answered sequence k.answering (k.asking_clock a.asked) (k.answering_clock came)
                (k.asking_clock m.pair.time);
          })
          m'.pair.asker m.kept m'.kept
          (act.asker.response sequence (k.asking_clock a.asked) (k.answering_clock came) progress said)
          (takes.response sequence (k.asking_clock a.asked) (k.answering_clock came) progress said)
          (measured_recorded k least calm a m.kept sequence k.answering (k.asking_clock a.asked)
          (k.answering_clock came) (k.asking_clock m.pair.time) (k.asking_clock a.asked) progress since)
      by_phase (ResponseComes sequence came there progress asks_none none (inr (mute, later))) = unmoved mute
      by_phase (FollowUpComes sequence came heard there home progress asks_none none (inl ((said, by), behind))) =
          measured_still k least calm (asker_completed true a) m'.pair.asker m'.kept m'.kept
          (completes_well k least asks replies gone calm a m'.pair.asker act.front.octets m.pair.time sequence came
          heard there home progress act.asker said) refl
          (let measures = takes.follow_up sequence (k.asking_clock a.asked) (k.answering_clock came)
          (k.answering_clock (came + k.turnaround)) (k.asking_clock heard) progress said in
          let some = measures.some in
          measured_completed k least calm a m.kept m'.kept (k.window - 1) sequence came heard (omega (arith, some))
          short there home progress measures since)
      by_phase (FollowUpComes sequence came heard there home progress asks_none none (inr (mute, later))) =
          unmoved mute

  -- the request timer expires
  measured_sent : (m m' : Meter) → IsGood k gone calm → Facts k gone m.pair
      → RequestTimerExpires k asks replies m.pair m'.pair → (m.pair.asker.progress ≡ Closed → m'.kept ≡ m.kept)
      → MeterInv k least asks replies gone calm m → calm ≤ m'.pair.asker.asked
      → MeasuredSince k least calm m'.pair.asker m'.kept
  measured_sent m m' good facts act kept inv since = measured_still k least calm
      (asks_now p.time act.sequence (k.asking_clock p.time) (asker_after_interval k.allowed p.asker.progress p.asker))
      m'.pair.asker m'.kept m'.kept act.asker refl
      (measured_asked k least calm p.asker m.kept m'.kept p.time act.sequence (k.asking_clock p.time) act.now kept
      known)
    where
      p : Pair
      p = m.pair

      late : calm ≤ p.time
      late =
          let asked : m'.pair.asker.asked ≡ p.time = ap (λ (b : Asker). b.asked) act.asker in
          omega (arith, since, asked)

      known : calm ≤ p.asker.asked → (p.asker.progress ≡ Closed) × MeasuredSince k least calm p.asker m.kept
      known old =
          let pends = nothing_pends k least asks replies gone calm p good facts act.now late inv.phases.bounds in (
            PhaseLemmas.closed_where_nothing_pends k least asks replies p.asker p.waits p.out p.back pends.out
                pends.waits pends.back (inv.phases.clean old).phase,
            inv.measured old,
          )

  -- the port that asks is as it was
  measured_rests : (m m' : Meter) → m'.pair.asker ≡ m.pair.asker → m'.kept ≡ m.kept
      → MeterInv k least asks replies gone calm m → calm ≤ m'.pair.asker.asked
      → MeasuredSince k least calm m'.pair.asker m'.kept
  measured_rests m m' same kept inv since =
      let asked = ap (λ (b : Asker). b.asked) same in
      measured_still k least calm m.pair.asker m'.pair.asker m.kept m'.kept same kept
      (inv.measured (omega (arith, asked, since)))

  measured_kept : (m m' : Meter) → IsGood k gone calm → Facts k gone m.pair → MeterActs k asks replies m m'
      → MeterInv k least asks replies gone calm m → calm ≤ m'.pair.asker.asked
      → MeasuredSince k least calm m'.pair.asker m'.kept
  measured_kept m m' good facts (meter_asks act kept) inv since = measured_sent m m' good facts act kept inv since
  measured_kept m m' good facts (meter_hears act takes) inv since =
      let same = act.asker.asked in
      let before : calm ≤ m.pair.asker.asked = omega (arith, same, since) in
      measured_heard m m' act good.short takes
      (subst (λ b. Phase k least asks replies m.pair.asker m.pair.waits m.pair.out b) act.was
      (inv.phases.clean before).phase) (inv.measured before)
  measured_kept m m' good facts (meter_heard act kept) inv since = measured_rests m m' act.asker kept inv since
  measured_kept m m' good facts (meter_answered act kept) inv since = measured_rests m m' act.asker kept inv since
  measured_kept m m' good facts (meter_rests act kept) inv since = measured_rests m m' act.asker kept inv since

-- every act keeps the invariant
pub meter_kept : (k : Setting) (least : ℕ) (asks : List ℕ → Request → Type 0) (replies : List ℕ → Reply → Type 0)
    (gone calm : ℕ) (m m' : Meter) → IsGood k gone calm → Facts k gone m.pair → Facts k gone m'.pair
    → IsSentLate least m.pair.time m.pair.out m'.pair.out → IsSentLate least m.pair.time m.pair.back m'.pair.back
    → MeterActs k asks replies m m' → MeterInv k least asks replies gone calm m
    → MeterInv k least asks replies gone calm m'
meter_kept k least asks replies gone calm m m' good facts facts' there home acts inv = record {
  phases = inv_from_kept k least asks replies gone calm m.pair m'.pair good facts facts' there home
      (act_of k asks replies m m' acts) inv.phases;
  measured = measured_kept k least asks replies gone calm m m' good facts acts inv;
}

-- time that passes keeps it
pub meter_later : (k : Setting) (least : ℕ) (asks : List ℕ → Request → Type 0) (replies : List ℕ → Reply → Type 0)
    (gone calm : ℕ) (m m' : Meter) → MeterPasses m m' → MeterInv k least asks replies gone calm m
    → MeterInv k least asks replies gone calm m'
meter_later k least asks replies gone calm m m' (time, on, is) inv =
    subst (λ (n : Meter). MeterInv k least asks replies gone calm n) (sym is)
    (record {
      phases = inv_from_later k least asks replies gone calm m.pair (pair_at_time m.pair time)
          (time, on, refl) inv.phases;
      measured = inv.measured;
    })

-- it holds just after every change
pub meter_begins : (k : Setting) (least : ℕ) (asks : List ℕ → Request → Type 0) (replies : List ℕ → Reply → Type 0)
    (gone calm : ℕ) (m : Meter) → IsJustChanged k gone calm m.pair → MeterInv k least asks replies gone calm m
meter_begins k least asks replies gone calm m fresh = record {
  phases = inv_from_begins k least asks replies gone calm m.pair fresh;
  measured = λ since. let before : m.pair.asker.asked < calm = fresh.asked in absurd (omega (arith, before, since));
}

-- a window and two periods after `calm` a whole window has been measured
pub measured_from_calm : (k : Setting) (least : ℕ) (asks : List ℕ → Request → Type 0)
    (replies : List ℕ → Reply → Type 0) (gone calm : ℕ) (m : Meter) → Facts k gone m.pair
    → MeterInv k least asks replies gone calm m → calm + (k.window + 2) * k.period ≤ m.pair.time
    → HasMeasured k least m.kept.last
measured_from_calm k least asks replies gone calm m facts inv late =
    let timer = facts.request_timer in
    let far : calm + suc k.window * k.period ≤ m.pair.asker.asked = omega (arith, timer, late) in
    (inv.measured (omega (arith, far))).whole (inl far)

-- a window and two periods are three periods and one for each of the other exchanges of the window
window_span : (window period interval : ℕ) → period ≤ interval
    → (window + 2) * period ≤ 3 * interval + (window - 1) * period
window_span window period interval short =
    let more = mul-le (window + 2) period (window - 1 + 3) period (omega arith) (omega arith) in
    let sum : (window - 1 + 3) * period ≡ (window - 1) * period + 3 * period = sum_of (window - 1) in
    omega (arith, more, sum, short)
  where
    sum_of : (n : ℕ) → (n + 3) * period ≡ n * period + 3 * period
    sum_of n = omega arith

-- and five announce intervals after the last change, and those periods more
pub measuring_settles : (k : Setting) (least : ℕ) (asks : List ℕ → Request → Type 0)
    (replies : List ℕ → Reply → Type 0) (change interval : ℕ) (m : Meter) → k.period ≤ interval
    → Facts k (change + interval) m.pair
    → MeterInv k least asks replies (change + interval) (change + 2 * interval) m
    → change + 5 * interval + (k.window - 1) * k.period ≤ m.pair.time → HasMeasured k least m.kept.last
measuring_settles k least asks replies change interval m short facts inv late =
    let span = window_span k.window k.period interval short in
    measured_from_calm k least asks replies (change + interval) (change + 2 * interval) m facts inv
    (omega (arith, span, late))

-- the facts are known of the state that a run begins with
first_facts : (k : Setting) (least : ℕ) (asks : List ℕ → Request → Type 0) (replies : List ℕ → Reply → Type 0)
    (gone : ℕ) (run : List Meter) (m : Meter) → IsMeterRun k least asks replies gone m run → Facts k gone m.pair
first_facts k least asks replies gone [] m facts = facts
first_facts k least asks replies gone (n ∷ run) m (facts, step, on) = facts

-- the invariant holds and the facts are known of each state of a run
measured_along : (k : Setting) (least : ℕ) (asks : List ℕ → Request → Type 0) (replies : List ℕ → Reply → Type 0)
    (gone calm : ℕ) (run : List Meter) (m n : Meter) → IsGood k gone calm → MeterInv k least asks replies gone calm m
    → IsMeterRun k least asks replies gone m run → In n (m ∷ run)
    → MeterInv k least asks replies gone calm n × Facts k gone n.pair
measured_along k least asks replies gone calm [] m n good inv facts (inl same) =
    subst (λ (o : Meter). MeterInv k least asks replies gone calm o × Facts k gone o.pair) (sym same) (inv, facts)
measured_along k least asks replies gone calm [] m n good inv facts (inr at) = absurd at
measured_along k least asks replies gone calm (o ∷ run) m n good inv (facts, step, on) (inl same) =
    subst (λ (l : Meter). MeterInv k least asks replies gone calm l × Facts k gone l.pair) (sym same) (inv, facts)
measured_along k least asks replies gone calm (o ∷ run) m n good inv (facts, inl passes, on) (inr at) =
    measured_along k least asks replies gone calm run o n good
    (meter_later k least asks replies gone calm m o passes inv) on at
measured_along k least asks replies gone calm (o ∷ run) m n good inv (facts, inr (acts, there, home), on) (inr at) =
    measured_along k least asks replies gone calm run o n good
    (meter_kept k least asks replies gone calm m o good facts (first_facts k least asks replies gone run o on) there
    home acts inv) on at

-- so it is in every run that begins just after the last change
pub runs_end_measured : (k : Setting) (least : ℕ) (asks : List ℕ → Request → Type 0)
    (replies : List ℕ → Reply → Type 0) (threshold change interval : ℕ) (m n : Meter) (run : List Meter)
    → IsGoodLink k.most k.turnaround threshold → 2 * threshold + k.turnaround < k.period → k.period ≤ interval
    → IsJustChanged k (change + interval) (change + 2 * interval) m.pair
    → IsMeterRun k least asks replies (change + interval) m run → In n (m ∷ run)
    → change + 5 * interval + (k.window - 1) * k.period ≤ n.pair.time
    → HasMeasured k least n.kept.last
runs_end_measured k least asks replies threshold change interval m n run link short period fresh is at late =
    let good = timing_is_enough k threshold change interval link short period in
    let (inv, facts) = measured_along k least asks replies (change + interval) (change + 2 * interval) run m n good
    (meter_begins k least asks replies (change + interval) (change + 2 * interval) m fresh) is at in
    measuring_settles k least asks replies change interval n period facts inv late

-- the invariant of capability
pub meter_is_inv : (k : Setting) (least : ℕ) (asks : List ℕ → Request → Type 0) (replies : List ℕ → Reply → Type 0)
    (gone calm : ℕ) (m : Meter) → MeterInv k least asks replies gone calm m
    → PortInvariant k asks replies gone calm m.pair
meter_is_inv k least asks replies gone calm m inv =
    inv_forgets k asks replies gone calm least m.pair inv.phases
