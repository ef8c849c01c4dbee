-- The keys of a document, a row at a time.
use Rattle.std.proofs.Common.{◌≡◌, ◌++◌, ◌+◌, ◌∷◌, ℕ, suc, zero, List, [], Some, None, append-nil, append_assoc, arith, length, map, slice_get, take, sym, subst, ap, ◌∙◌}
use Rattle.std.specs.List.{AllByRecursion, fold}
use Rattle.std.proofs.lemmas.List.{map-append}
use Rattle.std.proofs.lemmas.List.Sums.{fold_push}
use Rattle.toml_parser.specs.Reading.{key_view}
use Rattle.toml_parser.specs.Strings.{Key}
use Rattle.toml_parser.specs.declared.key.Key.{Key as CodeKey}
use Rattle.gptp_lists.proofs.MappedLemmas.{some_same, taken}
use Rattle.gptp_outline.specs.Inline.{HasValue}
use Rattle.gptp_outline.specs.Rows.{RowState, rows, shown, table_of}
use Rattle.gptp_outline.specs.declared.row.Row.{Row}
use Rattle.gptp_outline.proofs.OutlineLemmas.{no_rows}
use Rattle.gptp_lint.specs.Outline.{after, before_rows, first_part, keys_at, numbered, outline_of_text}
use Rattle.gptp_lint.specs.declared.place.Place.{Place}
use Rattle.gptp_lint.specs.declared.place.Place.TheVariants.{Member}
use Rattle.gptp_lint.specs.declared.place.Section.{Section}

-- one key more at a place
pub keys_more : (place : Place) (xs : List CodeKey) (i : ℕ) (x : CodeKey) → slice_get xs i ≡ Some x
    → keys_at place (map key_view (take (i + 1) xs))
    ≡ keys_at place (map key_view (take i xs)) ++ (place, first_part (key_view x)) ∷ []
keys_more place xs i x there =
    ap (λ ys. keys_at place (map key_view ys)) (taken xs i x there)
    ∙ ap (keys_at place) (map-append key_view (take i xs) (x ∷ []))
    ∙ map-append (λ (key : Key). (place, first_part key)) (map key_view (take i xs)) (key_view x ∷ [])

-- one member more of a section
pub numbered_more : (section : Section) (n : ℕ) (xs : List (List Key)) (keys : List Key)
    → numbered section n (xs ++ keys ∷ [])
    ≡ numbered section n xs ++ keys_at (Member section (n + length xs)) keys
numbered_more section n [] keys =
    let same : n ≡ n + 0 = omega arith in
    append-nil (keys_at (Member section n) keys) ∙ ap (λ m. keys_at (Member section m) keys) same
numbered_more section n (x ∷ xs) keys =
    let same : suc n + length xs ≡ n + suc (length xs) = omega arith in
    ap (λ rest. keys_at (Member section n) x ++ rest)
    (numbered_more section (suc n) xs keys
    ∙ ap (λ m. numbered section (suc n) xs ++ keys_at (Member section m) keys) same)
    ∙ sym (append_assoc (keys_at (Member section n) x) (numbered section (suc n) xs)
    (keys_at (Member section (n + suc (length xs))) keys))

-- two pieces after what was there
pub two_pieces : {X : Type 0} (old mid new xs ys : List X) → mid ≡ old ++ xs → new ≡ mid ++ ys → new ≡ old ++ (xs ++ ys)
two_pieces old mid new xs ys first second = second ∙ ap (λ zs. zs ++ ys) first ∙ append_assoc old xs ys

-- one row more
pub row_more : (xs : List Row) (i : ℕ) (x : Row) → slice_get xs i ≡ Some x
    → fold after before_rows (map shown (take (i + 1) xs))
    ≡ after (fold after before_rows (map shown (take i xs))) (shown x)
row_more xs i x there =
    ap (λ ys. fold after before_rows (map shown ys)) (taken xs i x there)
    ∙ ap (fold after before_rows) (map-append shown (take i xs) (x ∷ []))
    ∙ fold_push after before_rows (map shown (take i xs)) (shown x)

pub value_at : (xs : List Row) (i : ℕ) (x : Row) → AllByRecursion HasValue (map shown xs) → slice_get xs i ≡ Some x
    → HasValue (shown x)
value_at [] i x all there = absurd cc
value_at (y ∷ xs) zero x all there = subst (λ r. HasValue (shown r)) (some_same y x there) all.0
value_at (y ∷ xs) (suc i) x all there = value_at xs i x all.1 there

-- a text that is no TOML has the outline of no rows
pub no_outline : (text : List ℕ) → table_of text ≡ None → outline_of_text text ≡ before_rows
unfolding outline_of_text
no_outline text none = ap (fold after before_rows) (no_rows text none)

pub outline_is : (text : List ℕ) (found : List RowState) → found ≡ rows text
    → fold after before_rows found ≡ outline_of_text text
unfolding outline_of_text
outline_is text found are = ap (fold after before_rows) are
