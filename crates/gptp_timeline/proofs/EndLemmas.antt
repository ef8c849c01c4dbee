-- What is kept of all systems where a stretch ends.
use Rattle.std.proofs.Common.{◌≡◌, ◌-◌, ◌==◌, ℕ, Bool, true, false, List, [], ◌∷◌, map, Option, Some, None, option_map, refl, sym, ap, inl, inr, arith}
use Rattle.std.specs.List.{filter_map}
use Rattle.std.proofs.lemmas.Bool.Decides.{nat_tests}
use Rattle.gptp_model.specs.World.{WorldState}
use Rattle.gptp_lists.specs.Members.{In}
use Rattle.gptp_timeline.specs.Keepers.{keeper_of, keepers_among, keepers_in}
use Rattle.gptp_timeline.specs.Measures.{one_at}
use Rattle.gptp_timeline.specs.Shown.{shown}
use Rattle.gptp_timeline.specs.Stretch.{shown_of_all, under_way}
use Rattle.gptp_timeline.specs.StretchText.{error_among, wait_of}
use Rattle.gptp_timeline.specs.Watch.{without_error}
use Rattle.gptp_timeline.specs.declared.keepers.Keeper.{Keeper}
use Rattle.gptp_timeline.specs.declared.measures.Greatest.{Greatest}
use Rattle.gptp_timeline.proofs.StandLemmas.{kept}

module _ (since errors : ℕ → Option ℕ) (w : WorldState) where
  -- what they show
  pub kept_shown : (names : List ℕ) → shown_of_all (map (kept since errors w) names) ≡ map (λ name. shown name w) names
  kept_shown [] = refl
  kept_shown (n ∷ ns) = ap (λ rest. shown n w ∷ rest) (kept_shown ns)

  -- who keeps time
  pub kept_keepers : (names : List ℕ) → keepers_among (map (kept since errors w) names) ≡ keepers_in names w
  kept_keepers [] = refl
  kept_keepers (n ∷ ns) = by (keeper_of n (shown n w)) refl (kept_keepers ns)
    where
      by : (o : Option Keeper) → keeper_of n (shown n w) ≡ o
          → keepers_among (map (kept since errors w) ns) ≡ keepers_in ns w
          → keepers_among (map (kept since errors w) (n ∷ ns)) ≡ keepers_in (n ∷ ns) w
      by None is rest = rw is rest
      by (Some one) is rest = rw is (ap (λ ks. one ∷ ks) rest)

  -- the waits under way
  pub kept_waits : (to : ℕ) (names : List ℕ)
      → filter_map (wait_of to) (map (kept since errors w) names) ≡ under_way names since to
  kept_waits to [] = refl
  kept_waits to (n ∷ ns) = by (option_map (λ begun. one_at n (to - begun)) (since n)) refl (kept_waits to ns)
    where
      by : (o : Option Greatest) → option_map (λ begun. one_at n (to - begun)) (since n) ≡ o
          → filter_map (wait_of to) (map (kept since errors w) ns) ≡ under_way ns since to
          → filter_map (wait_of to) (map (kept since errors w) (n ∷ ns)) ≡ under_way (n ∷ ns) since to
      by None is rest = rw is rest
      by (Some one) is rest = rw is (ap (λ gs. one ∷ gs) rest)

  -- the error that is found with a clock, where there is none of a system that isn't among them
  pub kept_error : (clock : ℕ) (names : List ℕ) → ((In clock names → ⊥) → errors clock ≡ None)
      → error_among (map (kept since errors w) names) clock ≡ errors clock
  kept_error clock [] others = sym (others (λ member. absurd member))
  kept_error clock (n ∷ ns) others = by (n == clock) refl (λ rest. kept_error clock ns rest)
    where
      by : (t : Bool) → n == clock ≡ t
          → (((In clock ns → ⊥) → errors clock ≡ None) → error_among (map (kept since errors w) ns) clock ≡ errors
          clock)
          → error_among (map (kept since errors w) (n ∷ ns)) clock ≡ errors clock
      by true test next = let same : n ≡ clock = grind (arith, nat_tests) in rw test (ap errors same)
      by false test next =
          let apart : clock ≡ n → ⊥ = λ same.
          let found : n == clock ≡ true = grind (arith, nat_tests) in absurd cc in
          rw test (next (λ none. others (λ member. elim member [
            | inl same ↦ absurd (apart same)
            | inr later ↦ none later
          ])))

  -- errors that are cleared
  pub kept_cleared : (names : List ℕ)
      → map without_error (map (kept since errors w) names) ≡ map (kept since (λ name. None) w) names
  kept_cleared [] = refl
  kept_cleared (n ∷ ns) = ap (λ rest. kept since (λ name. None) w n ∷ rest) (kept_cleared ns)
