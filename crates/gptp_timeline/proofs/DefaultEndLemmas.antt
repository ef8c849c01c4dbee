-- The default end is behind the last time of a document.
use Rattle.std.proofs.Common.{◌≡◌, ◌+◌, ◌-◌, ℕ, suc, List, [], ◌∷◌, length, slice_get, Some, None, refl, sym, ap, ◌∙◌, arith}
use Rattle.std.specs.List.{AllByRecursion}
use Rattle.std.proofs.lemmas.Option.{same_Some}
use Rattle.gptp_setup.specs.Intervals.{IsMoment}
use Rattle.gptp_how_soon.specs.Times.{IsWatchedShortly}
use Rattle.gptp_how_soon.specs.declared.bounds.SettlingTime.{SettlingTime}
use Rattle.gptp_timeline.specs.End.{end_behind}

before_last : (n : ℕ) → suc n - 1 ≡ n
before_last n = omega arith

last_next : (t u : SettlingTime) (us : List SettlingTime)
    → slice_get (t ∷ u ∷ us) (length (t ∷ u ∷ us) - 1) ≡ slice_get (u ∷ us) (length (u ∷ us) - 1)
last_next t u us =
    ap (slice_get (t ∷ u ∷ us)) (before_last (suc (length us)))
    ∙ ap (slice_get (u ∷ us)) (sym (before_last (length us)))

-- it is that by the last time
pub end_by_last : (ts : List SettlingTime) (t : SettlingTime) → slice_get ts (length ts - 1) ≡ Some t
    → t.at + t.watch ≡ end_behind ts
end_by_last [] t there = absurd cc
end_by_last (x ∷ []) t there = ap (λ (y : SettlingTime). y.at + y.watch) (sym (same_Some x t there))
end_by_last (x ∷ (y ∷ ys)) t there = end_by_last (y ∷ ys) t (sym (last_next x y ys) ∙ there)

pub end_of_none : (ts : List SettlingTime) → slice_get ts (length ts - 1) ≡ None → 0 ≡ end_behind ts
end_of_none [] none = refl
end_of_none (x ∷ []) none = absurd cc
end_of_none (x ∷ (y ∷ ys)) none = end_of_none (y ∷ ys) (sym (last_next x y ys) ∙ none)

-- it isn't too late
pub end_in_time : (ts : List SettlingTime) → AllByRecursion IsWatchedShortly ts → IsMoment (end_behind ts)
end_in_time [] each = omega arith
end_in_time (t ∷ []) each = each.0.until
end_in_time (t ∷ (u ∷ us)) each = end_in_time (u ∷ us) each.1
