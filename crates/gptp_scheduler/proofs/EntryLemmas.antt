-- Lists of entries, by number.
use Rattle.std.proofs.Common.{◌≡◌, ℕ, List, [], ◌∷◌, refl, arith}
use Rattle.std.proofs.Common.{None}
use Rattle.std.proofs.lemmas.Bool.Decides.{nat_tests}
use Rattle.gptp_scheduler.specs.Pending.{AgendaEntry, entry_at, without_number}

module _ {T : Type 0} where
  -- entries of which none has this number are the same without it
  pub absent : (es : List (AgendaEntry T)) (n : ℕ) → entry_at es n ≡ None → without_number n es ≡ es
  absent [] n none = refl
  absent (e ∷ es) n none = grind (arith, nat_tests, absent es n)

  pub without-head : (e : AgendaEntry T) (es : List (AgendaEntry T)) (n : ℕ) → e.number ≡ n → entry_at es n ≡ None
      → without_number n (e ∷ es) ≡ es
  without-head e es n same none = grind (arith, nat_tests, absent es n none)

  pub without-other_head : (e : AgendaEntry T) (es : List (AgendaEntry T)) (n : ℕ) → (e.number ≡ n → ⊥)
      → without_number n (e ∷ es) ≡ e ∷ without_number n es
  without-other_head e es n other = grind (arith, nat_tests)
