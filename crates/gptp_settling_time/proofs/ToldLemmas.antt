-- What is told over a link first finds the port that hears it capable, and that stays so.
use Rattle.std.proofs.Common.{◌≡◌, ◌≤◌, ◌<◌, ◌+◌, ◌*◌, ℕ, zero, suc, true, ◌&&◌, List, ◌∷◌, refl, ap, subst, ◌∙◌, inl, inr, arith}
use Rattle.gptp_pdelay_machine.specs.Acts.{AskerHears, RequestTimerExpires}
use Rattle.gptp_pdelay_machine.specs.Asker.{Asker, Progress, asker_after_interval, asker_completed, asks_now}
use Rattle.gptp_pdelay_machine.specs.Facts.{Facts}
use Rattle.gptp_pdelay_machine.specs.First.{InvFirst}
use Rattle.gptp_pdelay_machine.specs.FirstLaws.{exchange_span}
use Rattle.gptp_pdelay_machine.specs.Lanes.{LaneFrame, IsMute}
use Rattle.gptp_pdelay_machine.specs.Messages.{Reply, Request}
use Rattle.gptp_pdelay_machine.specs.Meter.{Meter, MeterActs, meter_answered, meter_asks, meter_heard, meter_hears, meter_rests}
use Rattle.gptp_pdelay_machine.specs.Order.{FollowUpAhead, IsCapable, IsNotBefore, IsOrdered, ResponseAhead, Tells, Untold}
use Rattle.gptp_pdelay_machine.specs.Phases.{AnswerWaits, FollowUpComes, Phase, RequestGoes, ResponseComes, Rests}
use Rattle.gptp_pdelay_machine.specs.Setting.{Setting}
use Rattle.gptp_pdelay_machine.proofs.FirstLemmas.{over}
use Rattle.gptp_pdelay_machine.proofs.InvariantLemmas.{completes_well}

-- ---- what is told first is heard

-- where frames are in order, and the oldest tells and is no reply, the port is capable
pub told_capable : (k : Setting) (tells : List ℕ → Type 0) (replies : List ℕ → Reply → Type 0) (first : ℕ) (a : Asker)
    (f : LaneFrame) (fs : List LaneFrame)
    → ((octets : List ℕ) (reply : Reply) → tells octets → replies octets reply → ⊥)
    → IsOrdered k tells replies first a (f ∷ fs) → tells f.octets → a.capable ≡ true
told_capable k tells replies first a f fs apart (IsCapable late capable) told = capable
told_capable k tells replies first a f fs apart (Untold none) told = absurd (none f (inl refl) told)
told_capable k tells replies first a f fs apart (ResponseAhead sequence t1 late open' (inl ((t2, said), behind))) told =
    absurd (apart f.octets _ told said)
told_capable k tells replies first a f fs apart (ResponseAhead sequence t1 late open' (inr (mute, later))) told =
    absurd (mute Tells told)
told_capable k tells replies first a f fs apart
    (FollowUpAhead sequence source t1 t2 t4 late open' (inl ((t3, said), behind))) told =
    absurd (apart f.octets _ told said)
told_capable k tells replies first a f fs apart
    (FollowUpAhead sequence source t1 t2 t4 late open' (inr (mute, later))) told =
    absurd (mute Tells told)

-- ---- it stays capable

module _ (k : Setting) (least : ℕ) (asks : List ℕ → Request → Type 0) (replies : List ℕ → Reply → Type 0)
    (first : ℕ) (m m' : Meter) where
  abbrev a : Asker
  a = m.pair.asker

  -- only its second exchange can have made it so
  second : InvFirst k least asks replies first m → IsNotBefore k least first m.pair → a.capable ≡ true
      → first + k.period ≤ a.asked
  second inv before capable = by inv.since.0 inv.since.1
    where
      by : (n : ℕ) → a.asked ≡ first + n * k.period → first + k.period ≤ a.asked
      by zero is = let never = before.fresh (omega (arith, is)) in absurd cc
      by (suc n) is = omega (arith, is)

  hears : (act : AskerHears k asks replies m.pair m'.pair) → InvFirst k least asks replies first m
      → first + k.period ≤ a.asked → a.capable ≡ true
      → Phase k least asks replies a m.pair.waits m.pair.out (act.front ∷ act.rest) → m'.pair.asker.capable ≡ true
  hears act inv late capable phase = by phase
    where
      unmoved : IsMute replies act.front → m'.pair.asker.capable ≡ true
      unmoved mute = ap (λ (b : Asker). b.capable) (act.asker.nothing mute) ∙ capable

      by : Phase k least asks replies a m.pair.waits m.pair.out (act.front ∷ act.rest) → m'.pair.asker.capable ≡ true
      by (Rests closed asks_none none replies_none) = unmoved (replies_none act.front (inl refl))
      by (RequestGoes sequence progress request none replies_none) = unmoved (replies_none act.front (inl refl))
      by (AnswerWaits sequence came there progress asks_none is replies_none) =
          unmoved (replies_none act.front (inl refl))
      by (ResponseComes sequence came there progress asks_none none (inl ((said, in_time), behind))) =
          ap (λ (b : Asker). b.capable)
          (act.asker.response sequence (k.asking_clock a.asked) (k.answering_clock came) progress said)
          ∙ capable
      by (ResponseComes sequence came there progress asks_none none (inr (mute, later))) = unmoved mute
      by (FollowUpComes sequence came heard there home progress asks_none none (inl ((said, soon), behind))) =
          let becomes : m'.pair.asker ≡ asker_completed true a =
          completes_well k least asks replies 0 0 a m'.pair.asker act.front.octets m.pair.time sequence came heard
          there home progress act.asker said in
          let measured : a.measured ≡ true = inv.clean.counts.one (inl late) in
          ap (λ (b : Asker). b.capable) becomes ∙ ap (λ b. b && true) measured
      by (FollowUpComes sequence came heard there home progress asks_none none (inr (mute, later))) = unmoved mute

  asks_again : (gone : ℕ) → exchange_span k < k.period → Facts k gone m.pair
      → RequestTimerExpires k asks replies m.pair m'.pair → InvFirst k least asks replies first m → a.capable ≡ true
      → m'.pair.asker.capable ≡ true
  asks_again gone short facts act inv capable =
      let now = act.now in
      let ended = over k least asks replies gone m.pair facts (omega (arith, short, now)) inv.clean.phase in
      let left : asker_after_interval k.allowed a.progress a ≡ a =
      ap (λ (q : Progress). asker_after_interval k.allowed q a) ended.closed in
      let becomes : m'.pair.asker ≡ asks_now m.pair.time act.sequence (k.asking_clock m.pair.time) a =
      act.asker ∙ ap (asks_now m.pair.time act.sequence (k.asking_clock m.pair.time)) left in
      ap (λ (b : Asker). b.capable) becomes ∙ capable

  -- every act leaves a capable port capable
  pub capable_on : (gone : ℕ) → exchange_span k < k.period → Facts k gone m.pair → MeterActs k asks replies m m'
      → InvFirst k least asks replies first m → IsNotBefore k least first m.pair → a.capable ≡ true
      → m'.pair.asker.capable ≡ true
  capable_on gone short facts (meter_asks act kept) inv before capable =
      asks_again gone short facts act inv capable
  capable_on gone short facts (meter_hears act takes) inv before capable =
      hears act inv (second inv before capable) capable
      (subst (λ b. Phase k least asks replies a m.pair.waits m.pair.out b) act.was inv.clean.phase)
  capable_on gone short facts (meter_heard act kept) inv before capable =
      ap (λ (b : Asker). b.capable) act.asker ∙ capable
  capable_on gone short facts (meter_answered act kept) inv before capable =
      ap (λ (b : Asker). b.capable) act.asker ∙ capable
  capable_on gone short facts (meter_rests act kept) inv before capable =
      ap (λ (b : Asker). b.capable) act.asker ∙ capable
