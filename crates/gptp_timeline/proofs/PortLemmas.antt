-- Ports, one after another.
use Rattle.std.proofs.Common.{◌≡◌, ◌<◌, ◌⊎◌, inl, inr, ℕ, zero, suc, ◌+◌, ◌&&◌, Bool, true, false, List, [], ◌∷◌, ◌++◌, length, map, drop, Some, None, slice_get, refl, sym, ap, ◌∙◌, arith}
use Rattle.std.specs.List.{range_with_len}
use Rattle.std.proofs.lemmas.Option.{none-some, same_Some}
use Rattle.std.proofs.lemmas.List.FromFn.{map-range_with_len_more}
use Rattle.gptp_system.specs.State.{SystemState, number}
use Rattle.gptp_system.specs.Steps.{HasPortNumber}
use Rattle.gptp_timeline.specs.Changes.{port_lines, port_lines_if}
use Rattle.gptp_timeline.specs.Ports.{shown_port, shown_ports, shows_same_port, same_ports}
use Rattle.gptp_timeline.specs.declared.ports.ShownPort.{ShownPort}

drop_none : (k : ℕ) → drop {A = ShownPort} k [] ≡ []
drop_none zero = refl
drop_none (suc k) = refl

-- the lines of the ports from a place on: that of the next, and the others
pub ports_next : (at name port place : ℕ) (before : List ShownPort) (q : ShownPort) (rest : List ShownPort)
    → port_lines at name port (drop place before) (q ∷ rest)
    ≡ port_lines_if at name port (slice_get before place) q
    ++ port_lines at name (port + 1) (drop (place + 1) before) rest
ports_next at name port zero [] q rest = refl
ports_next at name port zero (p ∷ ps) q rest = refl
ports_next at name port (suc place) [] q rest = rw (drop_none (suc place + 1)) refl
ports_next at name port (suc place) (p ∷ ps) q rest =
    let e : suc place + 1 ≡ suc (place + 1) = omega arith in
    rw e (ports_next at name port place ps q rest)

-- the ports up to one, and then the next
pub next_port : (f : ℕ → ShownPort) (items after : List ShownPort) (x : ShownPort) (place : ℕ)
    → items ≡ map f (range_with_len 1 place) → x ≡ f (place + 1) → after ≡ items ++ x ∷ []
    → after ≡ map f (range_with_len 1 (place + 1))
next_port f items after x place so_far is new =
    new ∙ ap (λ y. items ++ y ∷ []) is ∙ ap (λ xs. xs ++ f (place + 1) ∷ []) so_far
    ∙ sym (map-range_with_len_more f 1 place (place + 1) (omega arith))

both_false : (a b : Bool) → b ≡ false → a && b ≡ false
both_false true b is = is
both_false false b is = refl

-- lists of ports of other lengths aren't the same
pub other_lengths : (ps qs : List ShownPort) → (length ps ≡ length qs → ⊥) → same_ports ps qs ≡ false
other_lengths [] [] apart = absurd (apart refl)
other_lengths [] (q ∷ qs) apart = refl
other_lengths (p ∷ ps) [] apart = refl
other_lengths (p ∷ ps) (q ∷ qs) apart =
    both_false (shows_same_port p q) (same_ports ps qs) (other_lengths ps qs (λ e. apart (ap suc e)))

-- ---- the port with a number

mapped : {X : Type 0} (f : ℕ → X) (a n i : ℕ) → i < n → slice_get (map f (range_with_len a n)) i ≡ Some (f (a + i))
mapped f a zero i below = absurd (omega arith)
mapped f a (suc n) zero below = let here : a ≡ a + 0 = omega arith in ap (λ p. Some (f p)) here
mapped f a (suc n) (suc i) below =
    let there : a + 1 + i ≡ a + suc i = omega arith in
    mapped f (a + 1) n i (omega arith) ∙ ap (λ p. Some (f p)) there

mapped_past : {X : Type 0} (f : ℕ → X) (a n i : ℕ) → (i < n → ⊥) → slice_get (map f (range_with_len a n)) i ≡ None
mapped_past f a zero i past = refl
mapped_past f a (suc n) zero past = absurd (past (omega arith))
mapped_past f a (suc n) (suc i) past = mapped_past f (a + 1) n i (λ below. past (omega arith))

pub port_there : (s : SystemState) (p : ℕ) → HasPortNumber s p → number (shown_ports s) p ≡ Some (shown_port s p)
port_there s zero has = let least = has.least in absurd (omega arith)
port_there s (suc i) has =
    let most = has.most in
    let here : 1 + i ≡ suc i = omega arith in
    mapped (shown_port s) 1 (length s.ports) i (omega arith) ∙ ap (λ p. Some (shown_port s p)) here

pub no_port : (s : SystemState) (p : ℕ) → (HasPortNumber s p → ⊥) → number (shown_ports s) p ≡ None
no_port s zero none = refl
no_port s (suc i) none =
    mapped_past (shown_port s) 1 (length s.ports) i
    (λ below. none (record { least = omega arith; most = omega arith }))

pub shown_at : (s : SystemState) (i : ℕ) (q : ShownPort) → slice_get (shown_ports s) i ≡ Some q
    → q ≡ shown_port s (suc i)
shown_at s i q is = by (test i (length s.ports))
  where
    test : (i n : ℕ) → (i < n) ⊎ (i < n → ⊥)
    test i zero = inr (λ below. absurd (omega arith))
    test zero (suc n) = inl (omega arith)
    test (suc i) (suc n) = elim (test i n) [
      | inl below ↦ inl (omega arith)
      | inr past ↦ inr (λ below. past (omega arith))
    ]

    by : (i < length s.ports) ⊎ (i < length s.ports → ⊥) → q ≡ shown_port s (suc i)
    by (inl below) =
        same_Some q (shown_port s (suc i))
        (sym is ∙ port_there s (suc i) (record { least = omega arith; most = omega arith }))
    by (inr past) =
        absurd (none-some q (sym (mapped_past (shown_port s) 1 (length s.ports) i past) ∙ is))
