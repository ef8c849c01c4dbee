-- An entry or none, as it is kept: the number 2^64 - 1 says that there is none.
use Rattle.std.specs.Prelude.{◌≡◌, ℕ, ◌≤◌, ◌==◌, if◌then◌else◌, Bool, true, false, Option, Some, None, refl}
use Rattle.std.proofs.Common.{ap, sym, ◌∙◌, arith}
use Rattle.std.proofs.lemmas.Bool.Decides.{nat_tests}
use Rattle.gptp_queue.specs.Entry.{Entry}
use Rattle.gptp_queue.specs.declared.maybe_entry.MaybeEntry.TheInside.{Inside}

abbrev pub NONE : ℕ
NONE = 18446744073709551615

abbrev pub entry_or_none : Inside → Option Entry
entry_or_none h = if h.number == NONE then None else Some (record { time = h.time; number = h.number; place = h.place })

-- none has the greatest time, and place 0
pub record IsMaybeEntry (h : Inside) : Type 0 where
  pub time : h.number ≡ NONE → h.time ≡ NONE
  pub place : h.number ≡ NONE → h.place ≡ 0
  pub latest : h.time ≤ NONE
  pub highest : h.number ≤ NONE

abbrev none_at : ℕ → ℕ → ℕ → Inside
none_at time number place = record { time = time; number = number; place = place }

abbrev pub fields_of : Option Entry → Inside
fields_of None = record { time = NONE; number = NONE; place = 0 }
fields_of (Some e) = record { time = e.time; number = e.number; place = e.place }

pub fields_back : (h : Inside) → IsMaybeEntry h → fields_of (entry_or_none h) ≡ h
fields_back h is = by (h.number == NONE) refl where
  by : (t : Bool) → (h.number == NONE) ≡ t
      → fields_of (if t then None else Some (record { time = h.time; number = h.number; place = h.place })) ≡ h
  by true same =
      let number : h.number ≡ NONE = grind (arith, nat_tests, same) in
      let time = is.time number in let place = is.place number in
      ap (λ (n : ℕ). none_at n NONE 0) (sym time) ∙ ap (λ (n : ℕ). none_at h.time n 0) (sym number)
      ∙ ap (λ (n : ℕ). none_at h.time h.number n) (sym place)
  by false other = refl
