-- Values that pass over links from place to place, each link adding a step, until at every place the least stands that
-- comes there.
use Rattle.std.specs.Prelude.{◌≡◌, ◌⊎◌, ◌+◌, ◌*◌, ◌<◌, ◌≤◌, ℕ, zero, suc, List, length, slice_index_or}
use Rattle.gptp_lists.specs.Members.{In}

-- the value at a place
abbrev pub value : List ℕ → ℕ → ℕ
value xs i = slice_index_or xs i 0

-- a link joins the two places
abbrev pub LinkTouches : List (ℕ × ℕ) → ℕ → ℕ → Type 0
LinkTouches links i j = In (i, j) links ⊎ In (j, i) links

-- this many links, one after the other, lead from the one place to the other
abbrev pub Leads : List (ℕ × ℕ) → ℕ → ℕ → ℕ → Type 0
Leads links i j zero = i ≡ j
Leads links i j (suc k) = (m : ℕ) × LinkTouches links i m × Leads links m j k

-- links join places below this one
abbrev pub LinksAreWithin : ℕ → List (ℕ × ℕ) → Type 0
LinksAreWithin n links = (i j : ℕ) → In (i, j) links → (i < n) × (j < n)

-- Over the link between two places each value passed on: at neither end more is left than the value of the other with
-- the step of the link.
pub record ValuesPass (step a b : ℕ) (xs ys : List ℕ) : Type 0 where
  pub long : length ys ≡ length xs
  pub less : (i : ℕ) → value ys i ≤ value xs i
  pub meets_a : value ys a ≤ value xs b + step
  pub meets_b : value ys b ≤ value xs a + step
  pub from : (i : ℕ) → (value ys i ≡ value xs i)
      ⊎ ((i ≡ a) × (value ys i ≡ value xs b + step)) ⊎ ((i ≡ b) × (value ys i ≡ value xs a + step))

-- values passed on over each link in turn: none rose, and at neither end of a link is more left than the other end had
-- with the step of the link
pub record PassRound (step : ℕ) (links : List (ℕ × ℕ)) (xs ys : List ℕ) : Type 0 where
  pub long : length ys ≡ length xs
  pub less : (i : ℕ) → value ys i ≤ value xs i
  pub meets : (i j : ℕ) → In (i, j) links → (value ys i ≤ value xs j + step) × (value ys j ≤ value xs i + step)

-- each value came from where some links lead, with a step for each
pub record CameOver (step : ℕ) (links : List (ℕ × ℕ)) (starts xs : List ℕ) : Type 0 where
  pub long : length xs ≡ length starts
  pub from : (i : ℕ) → i < length starts
      → (j k : ℕ) × (j < length starts) × Leads links i j k × (value xs i ≡ value starts j + k * step)

-- what at most so many links lead to has come
abbrev pub HasCome : ℕ → List (ℕ × ℕ) → List ℕ → ℕ → List ℕ → Type 0
HasCome step links starts rounds xs = (i j k : ℕ) → k ≤ rounds → Leads links i j k
    → value xs i ≤ value starts j + k * step

-- the least that comes over at most so many links stands at each place
pub record AreLeast (step : ℕ) (links : List (ℕ × ℕ)) (rounds : ℕ) (starts xs : List ℕ) : Type 0 where
  pub came : CameOver step links starts xs
  pub all : HasCome step links starts rounds xs
