-- Lists of entries by rising number.
use Rattle.std.proofs.Common.{◌≡◌, ℕ, ◌+◌, ◌<◌, ◌≤◌, Bool, true, false, List, [], ◌∷◌, ◌++◌, refl, arith, filter}
use Rattle.std.specs.List.{AllByRecursion}
use Rattle.gptp_queue.specs.Waiting.{RiseFrom}
use Rattle.gptp_queue.specs.Entry.{Entry}

pub rise-weaken : (low : ℕ) (es : List Entry) (next less : ℕ) → less ≤ low → RiseFrom low es next
    → RiseFrom less es next
rise-weaken low [] next less h rises = omega arith
rise-weaken low (e ∷ es) next less h rises = let from : low ≤ e.number = rises.0 in (omega arith, rises.1)

pub rise-push : (low : ℕ) (es : List Entry) (e : Entry) → RiseFrom low es e.number
    → RiseFrom low (es ++ e ∷ []) (e.number + 1)
rise-push low [] e rises = (rises, omega arith)
rise-push low (x ∷ es) e rises = (rises.0, rise-push (x.number + 1) es e rises.1)

rise-filter_step : (p : Entry → Bool) (low : ℕ) (e : Entry) (es : List Entry) (next : ℕ) → RiseFrom low (e ∷ es) next
    → RiseFrom (e.number + 1) (filter p es) next → (t : Bool) → p e ≡ t → RiseFrom low (filter p (e ∷ es)) next
rise-filter_step p low e es next rises ih true h = rw h (rises.0, ih)
rise-filter_step p low e es next rises ih false h =
    let from : low ≤ e.number = rises.0 in
    rw h (rise-weaken (e.number + 1) (filter p es) next low (omega arith) ih)

pub rise-filter : (p : Entry → Bool) (low : ℕ) (es : List Entry) (next : ℕ) → RiseFrom low es next
    → RiseFrom low (filter p es) next
rise-filter p low [] next rises = rises
rise-filter p low (e ∷ es) next rises =
    rise-filter_step p low e es next rises (rise-filter p (e.number + 1) es next rises.1) (p e) refl

-- all lie below the next
pub below-next : (low : ℕ) (es : List Entry) (next : ℕ) → RiseFrom low es next
    → AllByRecursion (λ (e : Entry). e.number < next) es
below-next low [] next rises = tt
below-next low (e ∷ es) next rises =
    let ih = below-next (e.number + 1) es next rises.1 in
    let least = up_to (e.number + 1) es next rises.1 in (omega (arith, least), ih)
  where
    up_to : (low : ℕ) (es : List Entry) (next : ℕ) → RiseFrom low es next → low ≤ next
    up_to low [] next rises = rises
    up_to low (e ∷ es) next rises = let from : low ≤ e.number = rises.0 in
        let ih = up_to (e.number + 1) es next rises.1 in omega arith
