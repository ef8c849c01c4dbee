-- The invariant of a link whose other end has failed: it begins, every act keeps it, and the port stops being capable.
use Rattle.std.proofs.Common.{rules, ◌≡◌, ◌≤◌, ◌<◌, ◌+◌, ◌*◌, ℕ, Bool, true, false, nat_lt, if◌then◌else◌, refl, sym}
use Rattle.std.proofs.Common.{subst, inl, inr, arith, List, [], ◌∷◌}
use Rattle.std.proofs.Math.Nat.{add-mul, mul-le-mul_left, mul-le-mul_right}
use Rattle.gptp_lists.specs.Members.{In}
use Rattle.gptp_pdelay_machine.specs.Setting.{Setting}
use Rattle.gptp_pdelay_machine.specs.Asker.{Asker, Progress, Closed, Asked, Answered, asker_after_interval, asker_given_up, asks_now}
use Rattle.gptp_pdelay_machine.specs.Silence.{Unanswered, TimerFacts, AsksInVain, ActsInVain, InvUnanswered, IsRunInVain}
use Rattle.gptp_pdelay_machine.specs.SilenceLaws.{RunsInVainEndIncapable}

module _ (k : Setting) (gone : ℕ) where
  -- what an interval that ends leaves: the lost requests account for the time up to the last request
  AccountsFor : ℕ → Asker → Type 0
  AccountsFor asked b = (b.lost ≤ k.allowed) × (b.capable ≡ true → asked ≤ gone + b.lost * k.period)

  -- a request that is given up counts as lost, and when too many are the port isn't capable
  accounts_given_up : (a : Asker) → a.lost ≤ k.allowed
      → (a.capable ≡ true → a.asked ≤ gone + k.period + a.lost * k.period)
      → AccountsFor a.asked (asker_given_up k.allowed a)
  unfolding AccountsFor
  accounts_given_up a lost since = by_test (nat_lt k.allowed (a.lost + 1)) refl
    where
      is_not_less : (m n : ℕ) → nat_lt m n ≡ false → n ≤ m
      is_not_less m n is = search rules

      by_test : (over : Bool) → nat_lt k.allowed (a.lost + 1) ≡ over → AccountsFor a.asked
          (if over then record a { progress = Closed; measured = false; lost = 0; capable = false }
          else record a { progress = Closed; lost = a.lost + 1 })
      by_test true is = (omega arith, λ capable. absurd cc)
      by_test false is = (
        is_not_less k.allowed (a.lost + 1) is,
        λ capable.
            let before : a.asked ≤ gone + k.period + a.lost * k.period = since capable in
            let more : (a.lost + 1) * k.period ≡ a.lost * k.period + 1 * k.period = add-mul a.lost 1 k.period in
            omega arith,
      )

  -- where the port is capable the last request was sent by then
  still_open : (s : Unanswered) → InvUnanswered k gone s → s.asker.capable ≡ true
      → s.asker.asked ≤ gone + k.period + s.asker.lost * k.period
  still_open s inv capable = elim (inv.counts capable) [ inl old ↦ omega arith | inr (opened, since) ↦ since ]

  -- an interval that ends leaves as much
  accounts_after : (s : Unanswered) → InvUnanswered k gone s → (q : Progress) → s.asker.progress ≡ q
      → AccountsFor s.asker.asked (asker_after_interval k.allowed q s.asker)
  unfolding AccountsFor
  accounts_after s inv Closed is = (
    inv.lost,
    λ capable. elim (inv.counts capable) [
      | inl old ↦ omega arith
      | inr (opened, since) ↦ absurd (opened is)
    ],
  )
  accounts_after s inv (Asked sequence t1) is = accounts_given_up s.asker inv.lost (still_open s inv)
  accounts_after s inv (Answered sequence source t1 t2 t4) is = accounts_given_up s.asker inv.lost (still_open s inv)

  -- and then a request is sent
  asked_in_vain : (s s' : Unanswered) (act : AsksInVain k s s')
      → AccountsFor s.asker.asked (asker_after_interval k.allowed s.asker.progress s.asker) → InvUnanswered k gone s'
  unfolding AccountsFor
  asked_in_vain s s' act (lost, counts) = of_asker s'.asker act.asker
    where
      next : Asker
      next = asks_now s.time act.sequence act.t1 (asker_after_interval k.allowed s.asker.progress s.asker)

      of_asker : (a : Asker) → a ≡ next → InvUnanswered k gone (record { time = s'.time; asker = a })
      of_asker a e = rw e (record {
        lost = lost;
        counts = λ capable. inr (
          (λ closed. absurd cc),
          let before : s.asker.asked
              ≤ gone + (asker_after_interval k.allowed s.asker.progress s.asker).lost * k.period = counts capable in
              let now : s.asker.asked + k.period ≡ s.time = act.now in omega arith,
        );
      })

  -- every act keeps the invariant
  pub unanswered_kept : (s s' : Unanswered) → TimerFacts k s → ActsInVain k gone s s' → InvUnanswered k gone s
      → InvUnanswered k gone s'
  unanswered_kept s s' facts (inl act) inv = asked_in_vain s s' act (accounts_after s inv s.asker.progress refl)
  unanswered_kept s s' facts (inr (inl act)) inv = record {
    lost = (let l : s.asker.lost ≤ k.allowed = inv.lost in let fewer : s'.asker.lost ≤ s.asker.lost = act.lost in
        omega arith);
    counts = λ capable. inl (let old : s.time ≤ gone = act.old in
        let asked : s'.asker.asked ≡ s.asker.asked = act.asked in
        let before : s.asker.asked ≤ s.time = facts.asked in omega arith);
  }
  unanswered_kept s s' facts (inr (inr same)) inv =
      subst (λ (u : Unanswered). InvUnanswered k gone u) (sym same) inv

  -- time that passes keeps it
  pub unanswered_later : (time : ℕ) (s : Unanswered) → InvUnanswered k gone s
      → InvUnanswered k gone (record s { time = time })
  unanswered_later time s inv = record { lost = inv.lost; counts = inv.counts }

  -- it holds just after every change
  pub unanswered_begins : (s : Unanswered) → s.asker.lost ≤ k.allowed → s.asker.asked ≤ gone → InvUnanswered k gone s
  unanswered_begins s lost asked = record { lost = lost; counts = λ capable. inl asked }

  -- once as many periods have passed as requests may be lost, and two more, the port isn't capable
  pub incapable_from_gone : (s : Unanswered) → TimerFacts k s → InvUnanswered k gone s
      → gone + (k.allowed + 2) * k.period < s.time → s.asker.capable ≡ true → ⊥
  incapable_from_gone s facts inv late capable =
      let since : s.asker.asked ≤ gone + k.period + s.asker.lost * k.period = still_open s inv capable in
      let timer : s.time ≤ s.asker.asked + k.period = facts.request_timer in
      let lost : s.asker.lost * k.period ≤ k.allowed * k.period = mul-le-mul_right k.period inv.lost in
      let sum : (k.allowed + 2) * k.period ≡ k.allowed * k.period + 2 * k.period = add-mul k.allowed 2 k.period in
      omega arith

  -- the invariant holds and the facts are known of each state of a run
  pub unanswered_along : (s t : Unanswered) (run : List Unanswered) → InvUnanswered k gone s
      → IsRunInVain k gone s run → In t (s ∷ run) → InvUnanswered k gone t × TimerFacts k t
  unanswered_along s t [] inv facts (inl same) =
      subst (λ (u : Unanswered). InvUnanswered k gone u × TimerFacts k u) (sym same) (inv, facts)
  unanswered_along s t [] inv facts (inr at) = absurd at
  unanswered_along s t (next ∷ run) inv (facts, step, on) (inl same) =
      subst (λ (u : Unanswered). InvUnanswered k gone u × TimerFacts k u) (sym same) (inv, facts)
  unanswered_along s t (next ∷ run) inv (facts, inl (time, since, is), on) (inr at) =
      unanswered_along next t run
      (subst (λ (u : Unanswered). InvUnanswered k gone u) (sym is) (unanswered_later time s inv)) on at
  unanswered_along s t (next ∷ run) inv (facts, inr act, on) (inr at) =
      unanswered_along next t run (unanswered_kept s next facts act inv) on at

-- L + 5 announce intervals after the last change the port isn't capable
pub silence_settles : (k : Setting) (change interval : ℕ) (s : Unanswered) → 0 < interval → k.period ≤ interval
    → TimerFacts k s → InvUnanswered k (change + interval) s → change + (k.allowed + 5) * interval ≤ s.time
    → s.asker.capable ≡ true → ⊥
silence_settles k change interval s some short facts inv late =
    incapable_from_gone k (change + interval) s facts inv
    (let periods : (k.allowed + 2) * k.period ≤ (k.allowed + 2) * interval = mul-le-mul_left (k.allowed + 2) short in
    let two : (k.allowed + 2) * interval ≡ k.allowed * interval + 2 * interval = add-mul k.allowed 2 interval in
    let five : (k.allowed + 5) * interval ≡ k.allowed * interval + 5 * interval = add-mul k.allowed 5 interval in
    omega arith)

-- so it isn't in any run that begins at the last change
pub runs_end_incapable : RunsInVainEndIncapable
runs_end_incapable k change interval s t run some short lost asked is at late =
    let begins = unanswered_begins k (change + interval) s lost (omega arith) in
    let (inv, facts) = unanswered_along k (change + interval) s t run begins is at in
    silence_settles k change interval t some short facts inv late
