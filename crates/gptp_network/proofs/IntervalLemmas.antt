-- The announce intervals of a document.
use Rattle.std.proofs.Common.{◌≡◌, ◌≢◌, ◌+◌, ◌++◌, ◌&&◌, ◌==◌, if◌then◌else◌, true, false, ℕ, suc, ℤ, List, [], ◌∷◌, length, drop, Option, Some, None, Result, Ok, Err, IsOk, refl, sym, ap, subst, ◌∙◌, append-nil, append_assoc, arith}
use Rattle.std.specs.List.{list_all}
use Rattle.std.proofs.Math.Bool.{and-false}
use Rattle.std.proofs.lemmas.Bool.Decides.{nat_tests}
use Rattle.std.proofs.lemmas.List.Folds.{list_all-append}
use Rattle.toml.specs.Data.{Items, as_integer}
use Rattle.toml.specs.View.{items_view, view}
use Rattle.toml.specs.declared.value.Value.{Value}
use Rattle.gptp_scenario.specs.Params.{is_log}
use Rattle.gptp_network.specs.Faults.{◌>>=◌}
use Rattle.gptp_network.specs.Intervals.{intervals_in, one_for_each, whole_numbers}
use Rattle.gptp_network.specs.Values.{kind_of}
use Rattle.gptp_network.specs.declared.fault.DocumentFault.{DocumentFault}
use Rattle.gptp_network.specs.declared.fault.DocumentFault.TheVariants.{OutOfRange}

-- numbers, and after them those of what is left, if it has any fault of none
abbrev pub behind : List ℤ → Result (List ℤ) DocumentFault → Result (List ℤ) DocumentFault
behind zs (Ok more) = Ok (zs ++ more)
behind zs (Err e) = Err e

-- one number more has been read
pub one_more : (zs : List ℤ) (z : ℤ) (rest : Result (List ℤ) DocumentFault)
    → behind zs (rest >>= λ more. Ok (z ∷ more)) ≡ behind (zs ++ z ∷ []) rest
one_more zs z (Ok more) = ap Ok (sym (append_assoc zs (z ∷ []) more))
one_more zs z (Err e) = refl

-- the next member of an array is read
pub next_read : (values : List Value) (i : ℕ) (v : Value) (zs : List ℤ) (z : ℤ)
    → drop i values ≡ v ∷ drop (i + 1) values → kind_of (as_integer (view v)) ≡ Ok z
    → whole_numbers (items_view values) ≡ behind zs (whole_numbers (items_view (drop i values)))
    → whole_numbers (items_view values) ≡ behind (zs ++ z ∷ []) (whole_numbers (items_view (drop (i + 1) values)))
next_read values i v zs z next number read =
    let rest = whole_numbers (items_view (drop (i + 1) values)) in
    read ∙ ap (λ vs. behind zs (whole_numbers (items_view vs))) next
    ∙ ap (λ r. behind zs (r >>= λ y. rest >>= λ more. Ok (y ∷ more))) number ∙ one_more zs z rest

module _ (ports : ℕ) (ds : Items) where
  -- where a number is no interval, the array holds no intervals
  pub no_interval : (zs : List ℤ) (z : ℤ) (rest : Result (List ℤ) DocumentFault)
      → whole_numbers ds ≡ behind zs (rest >>= λ more. Ok (z ∷ more)) → IsOk (whole_numbers ds) → is_log z ≡ false
      → intervals_in ports ds ≡ Err OutOfRange
  unfolding intervals_in
  no_interval zs z (Err e) read is_ok out =
      let P : Result (List ℤ) DocumentFault → Type 0 = λ r. IsOk r in let none = subst P read is_ok in absurd cc
  no_interval zs z (Ok more) read is_ok out =
      let none : list_all is_log (zs ++ z ∷ more) ≡ false =
      list_all-append is_log zs (z ∷ more)
      ∙ ap (λ b. list_all is_log zs && (b && list_all is_log more)) out ∙ and-false (list_all is_log zs) in
      ap (λ r. r >>= one_for_each ports) read
      ∙ ap (λ b. if b then Ok (zs ++ z ∷ more) else Err OutOfRange)
      (ap (λ b. (length (zs ++ z ∷ more) == ports) && b) none ∙ and-false (length (zs ++ z ∷ more) == ports))

  -- where all have been read, and each is an interval, the array holds them
  pub all_intervals : (zs : List ℤ) → whole_numbers ds ≡ behind zs (Ok []) → list_all is_log zs ≡ true
      → length zs ≡ ports → intervals_in ports ds ≡ Ok zs
  unfolding intervals_in
  all_intervals zs read are many =
      let same : (length zs == ports) ≡ true = grind (arith, nat_tests) in
      ap (λ r. r >>= one_for_each ports) (read ∙ ap Ok (append-nil zs))
      ∙ ap (λ b. if b then Ok zs else Err OutOfRange) (ap (λ b. b && list_all is_log zs) same ∙ are)

-- there are as many numbers as members
length_numbers : (vs : List Value) (zs : List ℤ) → whole_numbers (items_view vs) ≡ Ok zs → length zs ≡ length vs
length_numbers [] zs e = let none : [] ≡ zs = cc in ap length (sym none)
length_numbers (v ∷ vs) zs e =
    by (as_integer (view v)) (whole_numbers (items_view vs)) (λ more. length_numbers vs more) e
  where
    by : (o : Option ℤ) (r : Result (List ℤ) DocumentFault) → ((more : List ℤ) → r ≡ Ok more → length more ≡ length vs)
        → (kind_of o >>= λ z. r >>= λ more. Ok (z ∷ more)) ≡ Ok zs → length zs ≡ suc (length vs)
    by None r many made = absurd cc
    by (Some z) (Err f) many made = absurd cc
    by (Some z) (Ok more) many made = let all : z ∷ more ≡ zs = cc in ap length (sym all) ∙ ap suc (many more refl)

pub other_length : (ports : ℕ) (vs : List Value) → IsOk (whole_numbers (items_view vs)) → length vs ≢ ports
    → intervals_in ports (items_view vs) ≡ Err OutOfRange
unfolding intervals_in
other_length ports vs is_ok other = by (whole_numbers (items_view vs)) refl is_ok where
  by : (r : Result (List ℤ) DocumentFault) → whole_numbers (items_view vs) ≡ r → IsOk r
      → intervals_in ports (items_view vs) ≡ Err OutOfRange
  by (Err e) read none = absurd cc
  by (Ok zs) read is =
      let many = length_numbers vs zs read in
      let differ : (length zs == ports) ≡ false = grind (arith, nat_tests) in
      ap (λ r. r >>= one_for_each ports) read
      ∙ ap (λ b. if b && list_all is_log zs then Ok zs else Err OutOfRange) differ
