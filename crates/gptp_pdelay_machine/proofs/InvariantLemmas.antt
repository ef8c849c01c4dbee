-- The invariant of a good link: it begins, and every act keeps it.
use Rattle.std.proofs.Common.{◌≡◌, ◌≤◌, ◌<◌, ◌+◌, ◌++◌, ℕ, max, true, List, ◌∷◌, Option, Some, None, refl, sym, ap}
use Rattle.std.proofs.Common.{subst, ◌∙◌, inl, inr, arith}
use Rattle.gptp_lists.specs.Members.{In}
use Rattle.gptp_pdelay_machine.specs.Lanes.{LaneFrame, IsMute, AreMute}
use Rattle.gptp_pdelay_machine.specs.Messages.{Request, Reply, FollowUp}
use Rattle.gptp_pdelay_machine.specs.Setting.{Setting, IsBetween}
use Rattle.gptp_pdelay_machine.specs.Asker.{Asker, Closed, Answered, own_request, asker_after_interval, asks_now, asker_completed, TakesReply}
use Rattle.gptp_pdelay_machine.specs.Answerer.{Waiting}
use Rattle.gptp_pdelay_machine.specs.Pair.{Pair, TimeOnlyPasses}
use Rattle.gptp_pdelay_machine.specs.Acts.{RequestTimerExpires, AnswerTimerExpires, PortActs}
use Rattle.gptp_pdelay_machine.specs.Acts.{asks_again, asker_hears, answerer_hears, answers, others_send}
use Rattle.gptp_pdelay_machine.specs.Facts.{Facts, IsGood, IsSentLate}
use Rattle.gptp_pdelay_machine.specs.Bounds.{Bounds}
use Rattle.gptp_pdelay_machine.specs.Phases.{Phase, Rests, RequestGoes, AnswerWaits, ResponseComes, FollowUpComes}
use Rattle.gptp_pdelay_machine.specs.Counts.{RequestsMeasure}
use Rattle.gptp_pdelay_machine.specs.Invariant.{IsClean, InvFrom, PortInvariant, IsJustChanged}
use Rattle.gptp_pdelay_machine.proofs.LaneLemmas.{mute_rest, new_is_there}
use Rattle.gptp_pdelay_machine.proofs.BoundLemmas
use Rattle.gptp_pdelay_machine.proofs.PhaseLemmas
use Rattle.gptp_pdelay_machine.proofs.CountLemmas.{counts_recorded, counts_completed, counts_asked}

module _ (k : Setting) (least : ℕ) (asks : List ℕ → Request → Type 0) (replies : List ℕ → Reply → Type 0)
    (gone calm : ℕ) where
  -- the parts of a clean exchange are those of the state after the act
  pub moved : (a a' : Asker) (w w' : Option Waiting) (o o' b b' : List LaneFrame) → a' ≡ a → w' ≡ w → o' ≡ o → b' ≡ b
      → IsClean k least asks replies calm a w o b → IsClean k least asks replies calm a' w' o' b'
  moved a a' w w' o o' b b' ea ew eo eb clean = rw (ea, ew, eo, eb) clean

  -- a follow-up to the recorded response completes a good exchange
  pub completes_well : (a a' : Asker) (octets : List ℕ) (time sequence came heard : ℕ)
      → IsBetween a.asked came least k.most
      → IsBetween (came + k.turnaround) heard least k.most
      → a.progress ≡ Answered sequence k.answering (k.asking_clock a.asked) (k.answering_clock came)
      (k.asking_clock heard)
      → TakesReply k replies time octets a a'
      → replies octets (FollowUp k.answering (own_request k sequence) (k.answering_clock (came + k.turnaround)))
      → a' ≡ asker_completed true a
  completes_well a a' octets time sequence came heard there home progress takes said =
      let (good, is_good, is) = takes.follow_up sequence (k.asking_clock a.asked) (k.answering_clock came)
      (k.answering_clock (came + k.turnaround)) (k.asking_clock heard) progress said in
      is ∙ ap (λ good. asker_completed good a) (is_good (record {
        sent = a.asked;
        came = came;
        back = heard;
        is_t1 = refl;
        is_t2 = refl;
        is_t3 = refl;
        is_t4 = refl;
        there = (omega (arith, there.0), there.1);
        home = (omega (arith, home.0), home.1);
      }))

  -- the port that asks hears the oldest frame
  pub asker_heard : (a a' : Asker) (w : Option Waiting) (out : List LaneFrame) (front : LaneFrame)
      (rest : List LaneFrame)
      (time : ℕ) → front.due ≡ time → TakesReply k replies time front.octets a a'
      → IsClean k least asks replies calm a w out (front ∷ rest) → IsClean k least asks replies calm a' w out rest
  asker_heard a a' w out front rest time now takes clean = by_phase clean.phase
    where
      -- the oldest frame is no reply
      unmoved : IsMute replies front → Phase k least asks replies a w out rest
          → IsClean k least asks replies calm a' w out rest
      unmoved mute phase = moved a a' w w out out rest rest (takes.nothing mute) refl refl refl
          (record { phase = phase; counts = clean.counts })

      by_phase : Phase k least asks replies a w out (front ∷ rest) → IsClean k least asks replies calm a' w out rest
      by_phase (Rests closed asks_none none replies_none) = unmoved (replies_none front (inl refl))
          (Rests closed asks_none none (mute_rest replies front rest replies_none))
      by_phase (RequestGoes sequence progress request none replies_none) = unmoved (replies_none front (inl refl))
          (RequestGoes sequence progress request none (mute_rest replies front rest replies_none))
      by_phase (AnswerWaits sequence came there progress asks_none is replies_none) =
          unmoved (replies_none front (inl refl))
          (AnswerWaits sequence came there progress asks_none is (mute_rest replies front rest replies_none))
      by_phase (ResponseComes sequence came there progress asks_none none (inl ((said, in_time), behind))) =
          moved (record a {
            progress = Answered sequence k.answering (k.asking_clock a.asked) (k.answering_clock came)
                (k.asking_clock time);
          }) a' w w out out rest rest
          (takes.response sequence (k.asking_clock a.asked) (k.answering_clock came) progress said) refl refl refl
          (record {
            phase = FollowUpComes sequence came time there
                (subst (λ t. IsBetween (came + k.turnaround) t least k.most) now in_time) refl asks_none none behind;
            counts = counts_recorded k calm a sequence k.answering (k.asking_clock a.asked) (k.answering_clock came)
                (k.asking_clock time) clean.counts;
          })
      by_phase (ResponseComes sequence came there progress asks_none none (inr (mute, later))) = unmoved mute
          (ResponseComes sequence came there progress asks_none none later)
      by_phase (FollowUpComes sequence came heard there home progress asks_none none (inl ((said, by), behind))) =
          moved (asker_completed true a) a' w w out out rest rest
          (completes_well a a' front.octets time sequence came heard there home progress takes said) refl refl refl
          (record { phase = Rests refl asks_none none behind; counts = counts_completed k calm a clean.counts })
      by_phase (FollowUpComes sequence came heard there home progress asks_none none (inr (mute, later))) = unmoved mute
          (FollowUpComes sequence came heard there home progress asks_none none later)

  -- Where a request is sent at `calm` or later, nothing old and nothing of the last exchange is pending.
  pub record NothingPends (p : Pair) : Type 0 where
    pub out : AreMute asks p.out
    pub waits : p.waits ≡ None
    pub back : AreMute replies p.back

  pub nothing_pends : (p : Pair) → IsGood k gone calm → Facts k gone p → p.asker.asked + k.period ≡ p.time
      → calm ≤ p.time → Bounds k asks replies gone p → NothingPends p
  nothing_pends p good facts now late bounds = record {
    out = λ f at request says. over f.due (facts.out f at).earliest
        (let due : f.due ≤ max gone (p.asker.asked + k.most) = bounds.request f request at says in omega arith);
    waits = none p.waits refl;
    back = λ f at reply says. over f.due (facts.back f at).earliest (bounds.reply f reply at says);
  }
    where
      -- what is due by the latest bound is over
      over : (due : ℕ) → p.time ≤ due
          → due ≤ max gone (p.asker.asked + k.most) + k.turnaround + k.most → ⊥
      over due pending bound =
          let short : k.most + k.turnaround + k.most < k.period = good.short in
          let old : gone + k.turnaround + k.most < calm = good.late in
          omega arith

      none : (w : Option Waiting) → p.waits ≡ w → p.waits ≡ None
      none None e = e
      none (Some w) e =
          let due : w.due ≤ max gone (p.asker.asked + k.most) + k.turnaround = bounds.waiting w e in
          absurd (over w.due (facts.answer_timer w e) (omega arith))

  -- the request timer expires
  request_sent : (p p' : Pair) → IsGood k gone calm → Facts k gone p → Facts k gone p'
      → IsSentLate least p.time p.out p'.out → RequestTimerExpires k asks replies p p'
      → InvFrom k least asks replies gone calm p → calm ≤ p'.asker.asked
      → IsClean k least asks replies calm p'.asker p'.waits p'.out p'.back
  request_sent p p' good facts facts' long act inv since = moved
      (asks_now p.time act.sequence (k.asking_clock p.time) left) p'.asker
      p.waits p'.waits (p.out ++ act.news) p'.out p.back p'.back act.asker act.waits act.out act.back
      (record {
        phase = goes;
        counts = counts_asked k calm p.asker p.time act.sequence (k.asking_clock p.time) act.now known;
      })
    where
      -- what the interval before left
      left : Asker
      left = asker_after_interval k.allowed p.asker.progress p.asker

      late : calm ≤ p.time
      late = let asked : p'.asker.asked ≡ p.time = ap (λ (b : Asker). b.asked) act.asker in omega arith

      pends : NothingPends p
      pends = nothing_pends p good facts act.now late inv.bounds

      in_time : (f : LaneFrame) → In f act.news → asks f.octets (own_request k act.sequence)
          → IsBetween p.time f.due least k.most
      in_time f at says =
          let there = new_is_there f p'.out p.out act.news act.out at in
          let due : f.due ≤ max gone (p'.time + k.most) =
          (facts'.out f there).latest in
          let same : p'.time ≡ p.time = act.time in
          let old : gone + k.turnaround + k.most < calm = good.late in (
            elim (long f there) [
              | inl was ↦ absurd (pends.out f was (own_request k act.sequence) says)
              | inr new ↦ new
            ],
            omega arith,
          )

      goes : Phase k least asks replies (asks_now p.time act.sequence (k.asking_clock p.time) left) p.waits
          (p.out ++ act.news) p.back
      goes = PhaseLemmas.request_goes k least asks replies left p.waits p.out p.back act.news p.time act.sequence
          pends.out pends.waits pends.back in_time act.sent

      known : calm ≤ p.asker.asked → (p.asker.progress ≡ Closed) × RequestsMeasure k calm p.asker
      known old =
          let clean = inv.clean old in (
            PhaseLemmas.closed_where_nothing_pends k least asks replies p.asker p.waits p.out p.back pends.out
                pends.waits pends.back clean.phase,
            clean.counts,
          )

  -- the answer's timer expires
  answer_sent : (p p' : Pair) → IsGood k gone calm → Facts k gone p → Facts k gone p'
      → IsSentLate least p.time p.back p'.back → AnswerTimerExpires k asks replies p p' → calm ≤ p.asker.asked
      → IsClean k least asks replies calm p.asker p.waits p.out p.back
      → IsClean k least asks replies calm p'.asker p'.waits p'.out p'.back
  answer_sent p p' good facts facts' long act since clean = moved p.asker p'.asker None p'.waits p.out p'.out
      (p.back ++ act.news) p'.back act.asker act.waits act.out act.back
      (record {
        phase = PhaseLemmas.answered k least asks replies p.asker act.waiting p.out p.back act.news p.time act.now
            in_time act.sent (subst (λ w. Phase k least asks replies p.asker w p.out p.back) act.was clean.phase);
        counts = clean.counts;
      })
    where
      -- no reply is in flight while one waits
      silent : (f : LaneFrame) (reply : Reply) → In f p.back → replies f.octets reply → ⊥
      silent f reply at says = PhaseLemmas.silent_while_waiting k least asks replies p.asker p.waits p.out p.back
          act.waiting act.was clean.phase f at reply says

      in_time : (f : LaneFrame) (reply : Reply) → In f act.news → replies f.octets reply
          → IsBetween p.time f.due least k.most
      in_time f reply at says =
          let there = new_is_there f p'.back p.back act.news act.back at in
          let is = facts'.back f there in
          let latest : f.due ≤ max gone (p'.time + k.most) = is.latest in
          let same : p'.time ≡ p.time = act.time in
          let asked : p.asker.asked ≤ p.time = facts.asked in
          let old : gone + k.turnaround + k.most < calm = good.late in (
            elim (long f there) [ inl was ↦ absurd (silent f reply was says) | inr new ↦ new ],
            omega arith,
          )

  -- the last request is that of before
  still_calm : (a a' : Asker) → a' ≡ a → calm ≤ a'.asked → calm ≤ a.asked
  still_calm a a' e since = let asked : a'.asked ≡ a.asked = ap (λ (b : Asker). b.asked) e in omega arith

  -- every act keeps exchanges clean
  clean_kept : (p p' : Pair) → IsGood k gone calm → Facts k gone p → Facts k gone p'
      → IsSentLate least p.time p.out p'.out → IsSentLate least p.time p.back p'.back → PortActs k asks replies p p'
      → InvFrom k least asks replies gone calm p → calm ≤ p'.asker.asked
      → IsClean k least asks replies calm p'.asker p'.waits p'.out p'.back
  clean_kept p p' good facts facts' there home (asks_again act) inv since =
      request_sent p p' good facts facts' there act inv since
  clean_kept p p' good facts facts' there home (asker_hears act) inv since =
      let before : calm ≤ p.asker.asked =
      let asked : p'.asker.asked ≡ p.asker.asked = act.asker.asked in omega arith in
      let clean = inv.clean before in
      let heard = asker_heard p.asker p'.asker p.waits p.out act.front act.rest p.time act.now act.asker
      (subst (λ b. IsClean k least asks replies calm p.asker p.waits p.out b) act.was clean) in
      moved p'.asker p'.asker p.waits p'.waits (p.out ++ act.news) p'.out act.rest p'.back refl act.waits act.out
      act.back
      (record {
        phase = PhaseLemmas.more_out k least asks replies p'.asker p.waits p.out act.rest act.news act.mute heard.phase;
        counts = heard.counts;
      })
  clean_kept p p' good facts facts' there home (answerer_hears act) inv since =
      let clean = inv.clean (still_calm p.asker p'.asker act.asker since) in
      let heard = PhaseLemmas.answerer_heard k least asks replies p.asker p.waits p'.waits act.front act.rest p.back
      p.time act.now act.waits
      (subst (λ o. Phase k least asks replies p.asker p.waits o p.back) act.was clean.phase) in
      moved p.asker p'.asker p'.waits p'.waits act.rest p'.out (p.back ++ act.news) p'.back act.asker refl act.out
      act.back
      (record {
        phase = PhaseLemmas.more_back k least asks replies p.asker p'.waits act.rest p.back act.news act.mute heard;
        counts = clean.counts;
      })
  clean_kept p p' good facts facts' there home (answers act) inv since =
      let before = still_calm p.asker p'.asker act.asker since in
      answer_sent p p' good facts facts' home act before (inv.clean before)
  clean_kept p p' good facts facts' there home (others_send act) inv since =
      let clean = inv.clean (still_calm p.asker p'.asker act.asker since) in
      moved p.asker p'.asker p.waits p'.waits (p.out ++ act.ahead) p'.out (p.back ++ act.behind) p'.back act.asker
      act.waits act.out act.back
      (record {
        phase = PhaseLemmas.more_back k least asks replies p.asker p.waits (p.out ++ act.ahead) p.back act.behind
            act.replies_nothing
            (PhaseLemmas.more_out k least asks replies p.asker p.waits p.out p.back act.ahead act.asks_nothing
            clean.phase);
        counts = clean.counts;
      })

  -- every act keeps the invariant
  pub inv_from_kept : (p p' : Pair) → IsGood k gone calm → Facts k gone p → Facts k gone p'
      → IsSentLate least p.time p.out p'.out → IsSentLate least p.time p.back p'.back → PortActs k asks replies p p'
      → InvFrom k least asks replies gone calm p → InvFrom k least asks replies gone calm p'
  inv_from_kept p p' good facts facts' there home act inv = record {
    bounds = BoundLemmas.bounds_kept k asks replies gone p p' facts facts' act inv.bounds;
    clean = clean_kept p p' good facts facts' there home act inv;
  }

  -- time that passes keeps it
  pub inv_from_later : (p p' : Pair) → TimeOnlyPasses p p' → InvFrom k least asks replies gone calm p
      → InvFrom k least asks replies gone calm p'
  inv_from_later p p' (time, on, is) inv = subst (λ (q : Pair). InvFrom k least asks replies gone calm q) (sym is)
      (record {
        bounds = record {
          request = inv.bounds.request;
          waiting = inv.bounds.waiting;
          reply = inv.bounds.reply;
        };
        clean = inv.clean;
      })

  -- it holds just after every change
  pub inv_from_begins : (p : Pair) → IsJustChanged k gone calm p → InvFrom k least asks replies gone calm p
  inv_from_begins p fresh = record {
    bounds = record {
      request = λ f request at says. let due : f.due ≤ gone = fresh.out f at in omega arith;
      waiting = λ w is. let due : w.due ≤ gone + k.turnaround = fresh.waiting w is in omega arith;
      reply = λ f reply at says. let due : f.due ≤ gone = fresh.back f at in omega arith;
    };
    clean = λ since. let before : p.asker.asked < calm = fresh.asked in absurd (omega arith);
  }

-- an act takes no time
pub act_takes_no_time : (k : Setting) (asks : List ℕ → Request → Type 0) (replies : List ℕ → Reply → Type 0)
    (p p' : Pair) → PortActs k asks replies p p' → p'.time ≡ p.time
act_takes_no_time k asks replies p p' (asks_again act) = act.time
act_takes_no_time k asks replies p p' (asker_hears act) = act.time
act_takes_no_time k asks replies p p' (answerer_hears act) = act.time
act_takes_no_time k asks replies p p' (answers act) = act.time
act_takes_no_time k asks replies p p' (others_send act) = act.time

-- the same where nothing is known of the least delay
module _ (k : Setting) (asks : List ℕ → Request → Type 0) (replies : List ℕ → Reply → Type 0) (gone calm : ℕ) where
  pub inv_kept : (p p' : Pair) → IsGood k gone calm → Facts k gone p → Facts k gone p' → PortActs k asks replies p p'
      → PortInvariant k asks replies gone calm p → PortInvariant k asks replies gone calm p'
  inv_kept p p' good facts facts' act inv = inv_from_kept k 0 asks replies gone calm p p' good facts facts'
      (λ f at. inr (after f.due (facts'.out f at).earliest)) (λ f at. inr (after f.due (facts'.back f at).earliest))
      act inv
    where
      after : (due : ℕ) → p'.time ≤ due → p.time + 0 ≤ due
      after due since = let same = act_takes_no_time k asks replies p p' act in omega (arith, since, same)

  pub inv_later : (p p' : Pair) → TimeOnlyPasses p p' → PortInvariant k asks replies gone calm p
      → PortInvariant k asks replies gone calm p'
  inv_later = inv_from_later k 0 asks replies gone calm

  pub inv_begins : (p : Pair) → IsJustChanged k gone calm p → PortInvariant k asks replies gone calm p
  inv_begins = inv_from_begins k 0 asks replies gone calm

  -- and holds where it does for whatever least delay
  pub inv_forgets : (least : ℕ) (p : Pair) → InvFrom k least asks replies gone calm p
      → PortInvariant k asks replies gone calm p
  inv_forgets least p inv = record {
    bounds = inv.bounds;
    clean = λ since. (let clean = inv.clean since in
        record {
          phase = PhaseLemmas.phase_forgets k least asks replies p.asker p.waits p.out p.back clean.phase;
          counts = clean.counts;
        });
  }
