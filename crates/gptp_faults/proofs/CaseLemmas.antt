-- Cases, place after place.
use Rattle.std.proofs.Common.{◌≡◌, ◌+◌, ◌++◌, ◌∷◌, [], ℕ, zero, suc, List, Option, Some, None, map, filter_map, take, slice_get, option_map, refl, sym, ap, ◌∙◌, append-nil, arith}
use Rattle.std.specs.Option.{option_and_then}
use Rattle.std.proofs.lemmas.List.{map-append}
use Rattle.std.proofs.lemmas.List.Elements.{filter_map-append}
use Rattle.gptp_graph.specs.Snapshot.{Link}
use Rattle.gptp_network.specs.Snapshot.{link_of}
use Rattle.gptp_vector.specs.declared.port.PortId.{PortId}
use Rattle.gptp_lists.proofs.MappedLemmas.{taken}

-- past the end there is no more
pub none_more : {X : Type 0} (xs : List X) (i : ℕ) → slice_get xs i ≡ None → take (i + 1) xs ≡ take i xs
none_more [] zero none = refl
none_more [] (suc i) none = let e : suc i + 1 ≡ suc (i + 1) = omega arith in rw e refl
none_more (x ∷ xs) zero none = absurd cc
none_more (x ∷ xs) (suc i) none =
    let e : suc i + 1 ≡ suc (i + 1) = omega arith in rw e (ap (λ rest. x ∷ rest) (none_more xs i none))

-- one more of a mapped list
pub map_more : {X Y : Type 0} (f : X → Y) (xs : List X) (i : ℕ) (x : X) → slice_get xs i ≡ Some x
    → map f (take (i + 1) xs) ≡ map f (take i xs) ++ f x ∷ []
map_more f xs i x there = ap (map f) (taken xs i x there) ∙ map-append f (take i xs) (x ∷ [])

-- one more of those that a test lets through, or none
module _ {X Y Z : Type 0} (f : Y → Z) (h : X → Option Y) (xs : List X) (i : ℕ) where
  abbrev through : List X → List Z
  through ys = map f (filter_map h ys)

  one_through : (x : X) → slice_get xs i ≡ Some x
      → through (take (i + 1) xs) ≡ through (take i xs) ++ through (x ∷ [])
  one_through x there =
      ap through (taken xs i x there)
      ∙ ap (map f) (filter_map-append h (take i xs) (x ∷ []))
      ∙ map-append f (filter_map h (take i xs)) (filter_map h (x ∷ []))

  pub some_through : (y : Y) → option_and_then h (slice_get xs i) ≡ Some y
      → through (take (i + 1) xs) ≡ through (take i xs) ++ f y ∷ []
  some_through y is = by (slice_get xs i) refl is
    where
      by : (o : Option X) → slice_get xs i ≡ o → option_and_then h o ≡ Some y
          → through (take (i + 1) xs) ≡ through (take i xs) ++ f y ∷ []
      by None there none = absurd cc
      by (Some x) there lets = one_through x there ∙ ap (λ zs. through (take i xs) ++ zs) (rw lets refl)

  pub none_through : option_and_then h (slice_get xs i) ≡ None → through (take (i + 1) xs) ≡ through (take i xs)
  none_through is = by (slice_get xs i) refl is
    where
      by : (o : Option X) → slice_get xs i ≡ o → option_and_then h o ≡ None
          → through (take (i + 1) xs) ≡ through (take i xs)
      by None there none = ap through (none_more xs i there)
      by (Some x) there lets =
          one_through x there ∙ ap (λ zs. through (take i xs) ++ zs) (rw lets refl) ∙ append-nil (through (take i xs))

-- no link is there
pub no_link : (o : Option (PortId × PortId)) (links : List Link) (i : ℕ) → option_map link_of o ≡ slice_get links i
    → o ≡ None → slice_get links i ≡ None
no_link o links i is none = sym is ∙ ap (option_map link_of) none
