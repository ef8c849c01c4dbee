-- Numbers by key: the least from one on, and the greatest below one.
use Rattle.std.specs.Prelude.{◌≡◌, ℕ, ◌<◌, ◌≤◌, Option, Some, None}
use Rattle.gptp_scheduler.specs.declared.key.Key.{Key}

-- the key of a place
abbrev pub key_of : ℕ → Key
key_of place = record { place = place }

-- a key has the least of the numbers from `low` on
pub record HasLeastNumber (numbers : ℕ → Option ℕ) (low key : ℕ) : Type 0 where
  pub number : ℕ
  pub at : numbers key ≡ Some number
  pub from : low ≤ number
  pub least : (k n : ℕ) → numbers k ≡ Some n → low ≤ n → number ≤ n

-- a key has the greatest of the numbers below `high`
pub record IsGreatest (numbers : ℕ → Option ℕ) (high key : ℕ) : Type 0 where
  pub number : ℕ
  pub at : numbers key ≡ Some number
  pub below : number < high
  pub greatest : (k n : ℕ) → numbers k ≡ Some n → n < high → n ≤ number

-- a link leads to the least number from `low` on, if there is one
abbrev pub Least : (ℕ → Option ℕ) → ℕ → Option Key → Type 0
Least numbers low None = (k n : ℕ) → numbers k ≡ Some n → n < low
Least numbers low (Some key) = HasLeastNumber numbers low key.place

-- a link leads to the greatest number below `high`, if there is one
abbrev pub Greatest : (ℕ → Option ℕ) → ℕ → Option Key → Type 0
Greatest numbers high None = (k n : ℕ) → numbers k ≡ Some n → high ≤ n
Greatest numbers high (Some key) = IsGreatest numbers high key.place
