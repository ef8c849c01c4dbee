-- The first of least time is one entry.
use Rattle.std.proofs.Common.{◌≡◌, ◌<◌, ◌≤◌, ◌==◌, ℕ, Bool, true, false, List, [], ◌∷◌, Option, Some, None, refl, sym, ap, subst, ◌∙◌, arith}
use Rattle.std.specs.List.{All}
use Rattle.std.specs.Option.{option_map}
use Rattle.std.proofs.lemmas.Bool.Decides.{nat_tests}
use Rattle.std.proofs.lemmas.List.Elements.{All-head, All-tail}
use Rattle.gptp_scheduler.specs.Pending.{AgendaEntry, entry_at, IsFirst, IsNoEarlier, NothingDue}

module _ {T : Type 0} where
  -- what holds of all entries, or of each under its number, holds of the one that a number has
  there-step : (P : AgendaEntry T → Type 0) (x : AgendaEntry T) (es : List (AgendaEntry T)) (n : ℕ) (e : AgendaEntry T)
      → All P (x ∷ es)
      → entry_at (x ∷ es) n ≡ Some e → (entry_at es n ≡ Some e → P e × (e.number ≡ n)) → (t : Bool)
      → (x.number == n) ≡ t
      → P e × (e.number ≡ n)
  there-step P x es n e all found ih true t =
      let heads : Some x ≡ Some e = rw t at found in
      let head : x ≡ e = cc in
      let same : x.number ≡ n = grind (arith, nat_tests) in
      (subst P head (All-head P x es all), ap (λ (y : AgendaEntry T). y.number) (sym head) ∙ same)
  there-step P x es n e all found ih false t = ih (rw t at found)

  there : (P : AgendaEntry T → Type 0) (es : List (AgendaEntry T)) (n : ℕ) (e : AgendaEntry T) → All P es
      → entry_at es n ≡ Some e
      → P e × (e.number ≡ n)
  there P [] n e all found = absurd (grind (arith, found))
  there P (x ∷ es) n e all found =
      there-step P x es n e all found (there P es n e (All-tail P x es all)) (x.number == n) refl

  -- the entry whose time is this
  timed : (o : Option (AgendaEntry T)) (time : ℕ) → option_map (λ (e : AgendaEntry T). e.time) o ≡ Some time
      → (e : AgendaEntry T) × (o ≡ Some e) × (e.time ≡ time)
  timed None time is = absurd (grind (arith, is))
  timed (Some e) time is = (e, refl, cc)

  -- two that are the first are one
  pub first-one : (es : List (AgendaEntry T)) (s t m n : ℕ) → IsFirst es s m → IsFirst es t n → m ≡ n
  first-one es s t m n a b =
      let one = timed (entry_at es m) s a.member in
      let other = timed (entry_at es n) t b.member in
      let above = there (IsNoEarlier {T = T} s m) es n other.0 a.least other.1 in
      let below = there (IsNoEarlier {T = T} t n) es m one.0 b.least one.1 in
      let s_low = above.0.not_before in
      let t_low = below.0.not_before in
      let s_is : one.0.time ≡ s = one.2 in
      let t_is : other.0.time ≡ t = other.2 in
      let m_is : one.0.number ≡ m = below.1 in
      let n_is : other.0.number ≡ n = above.1 in
      let m_low : m ≤ other.0.number = above.0.by_number (omega arith) in
      let n_low : n ≤ one.0.number = below.0.by_number (omega arith) in
      omega arith

  -- at its time something is due
  pub first-due : (es : List (AgendaEntry T)) (time n : ℕ) → IsFirst es time n → NothingDue es time → ⊥
  first-due es time n first nothing =
      let one = timed (entry_at es n) time first.member in
      let late = (there (λ (e : AgendaEntry T). time < e.time) es n one.0 nothing one.1).0 in
      let same : one.0.time ≡ time = one.2 in
      omega arith
