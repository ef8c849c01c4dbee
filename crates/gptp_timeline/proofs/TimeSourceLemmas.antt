-- Two sources of time are one where their clocks and their bases are.
use Rattle.std.proofs.Common.{◌≡◌, ◌==◌, true, false, refl, sym, ap, ◌∙◌}
use Rattle.std.specs.Ordering.{int_eq}
use Rattle.std.proofs.lemmas.Bool.{and_from, and_parts}
use Rattle.std.proofs.lemmas.Bool.Decides.{Decides-eqb, Decides-int_eq}
use Rattle.gptp_timeline.specs.Readings.{same_source}
use Rattle.gptp_timeline.specs.declared.readings.TimeSource.{TimeSource}

pub source_is : (a b : TimeSource) → same_source a b ≡ true → a ≡ b
source_is a b same =
    let both = and_parts (a.clock == b.clock) (int_eq a.base b.base) same in
    let clocks : a.clock ≡ b.clock = (Decides-eqb a.clock b.clock).0 both.0 in
    let bases : a.base ≡ b.base = (Decides-int_eq a.base b.base).0 both.1 in
    λ i. record { clock = clocks i; base = bases i }

pub source_own : (a : TimeSource) → same_source a a ≡ true
source_own a =
    and_from (a.clock == a.clock) (int_eq a.base a.base) ((Decides-eqb a.clock a.clock).1 refl)
    ((Decides-int_eq a.base a.base).1 refl)

pub source_apart : (a b : TimeSource) → same_source a b ≡ false → a ≡ b → ⊥
source_apart a b other same =
    let is : true ≡ false = sym (source_own a) ∙ ap (same_source a) same ∙ other in cc
