-- What each step of an exchange does to the counts.
use Rattle.std.proofs.Common.{◌≡◌, ◌≤◌, ◌+◌, ℕ, ℤ, true, ◌&&◌, refl, sym, ap, subst, inl, inr, arith}
use Rattle.gptp_graph.specs.Snapshot.{PortIdentity}
use Rattle.gptp_pdelay_machine.specs.Setting.{Setting}
use Rattle.gptp_pdelay_machine.specs.Asker.{Asker, Progress, Closed, Answered, asker_after_interval, asks_now, asker_completed}
use Rattle.gptp_pdelay_machine.specs.Counts.{RequestsMeasure}

module _ (k : Setting) (calm : ℕ) (a : Asker) where
  -- a response is recorded
  pub counts_recorded : (sequence : ℕ) (source : PortIdentity) (t1 t2 t4 : ℤ) → RequestsMeasure k calm a
      → RequestsMeasure k calm (record a { progress = Answered sequence source t1 t2 t4 })
  counts_recorded sequence source t1 t2 t4 counts = record {
    one = λ since. elim since [ inl late ↦ counts.one (inl late) | inr closed ↦ absurd cc ];
    two = λ since. elim since [ inl late ↦ counts.two (inl late) | inr (late, closed) ↦ absurd cc ];
  }

  -- a good exchange is complete
  pub counts_completed : RequestsMeasure k calm a → RequestsMeasure k calm (asker_completed true a)
  counts_completed counts = record {
    one = λ since. refl;
    two = λ since. second (elim since [ inl late ↦ omega arith | inr (late, closed) ↦ late ]);
  }
    where
      second : calm + k.period ≤ a.asked → (a.measured && true) ≡ true
      second late = rw (counts.one (inl late))

  -- The next request is sent, one period after the last. Where that one was sent at `calm` or later, it is closed.
  pub counts_asked : (time sequence : ℕ) (t1 : ℤ) → a.asked + k.period ≡ time
      → (calm ≤ a.asked → (a.progress ≡ Closed) × RequestsMeasure k calm a)
      → RequestsMeasure k calm (asks_now time sequence t1 (asker_after_interval k.allowed a.progress a))
  counts_asked time sequence t1 now known = record {
    one = λ since. elim since [
      | inl late ↦ (let since : calm ≤ a.asked = omega arith in
          let (closed, counts) = known since in
          subst (λ (b : Asker). b.measured ≡ true) (sym (nothing_given_up closed)) (counts.one (inr closed)))
      | inr closed ↦ absurd cc
    ];
    two = λ since. elim since [
      | inl late ↦ (let since : calm ≤ a.asked = omega arith in
          let (closed, counts) = known since in
          let one : calm + k.period ≤ a.asked = omega arith in
          subst (λ (b : Asker). b.capable ≡ true) (sym (nothing_given_up closed)) (counts.two (inr (one, closed))))
      | inr (late, closed) ↦ absurd cc
    ];
  }
    where
      nothing_given_up : a.progress ≡ Closed → asker_after_interval k.allowed a.progress a ≡ a
      nothing_given_up closed = ap (λ (q : Progress). asker_after_interval k.allowed q a) closed
