-- A time that is found among several is one of them.
use Rattle.std.proofs.Common.{◌≡◌, ◌==◌, ℕ, Bool, true, false, List, [], ◌∷◌, Some, refl, subst}
use Rattle.std.specs.List.{AllByRecursion, find}
use Rattle.std.proofs.lemmas.Option.{same_Some}
use Rattle.gptp_how_soon.specs.Times.{IsWatchedShortly, is_time_at}
use Rattle.gptp_how_soon.specs.declared.bounds.SettlingTime.{SettlingTime}

pub found_watch : (times : List SettlingTime) (at : ℕ) (t : SettlingTime) → AllByRecursion IsWatchedShortly times
    → find (is_time_at at) times ≡ Some t → IsWatchedShortly t
found_watch [] at t all is = absurd cc
found_watch (x ∷ xs) at t all is = by (x.at == at) refl is (found_watch xs at t all.1)
  where
    by : (b : Bool) → (x.at == at) ≡ b → find (is_time_at at) (x ∷ xs) ≡ Some t
        → (find (is_time_at at) xs ≡ Some t → IsWatchedShortly t) → IsWatchedShortly t
    by true here is later =
        let first : Some x ≡ Some t = rw here at is in subst IsWatchedShortly (same_Some x t first) all.0
    by false past is later = later (rw past at is)
