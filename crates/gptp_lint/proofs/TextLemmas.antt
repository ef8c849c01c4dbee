-- Lines after one another are lines.
use Rattle.std.proofs.Common.{◌≡◌, ◌==◌, ℕ, not, nat_lt, List, [], ◌∷◌, ◌++◌, Some, slice_get, get_or, take, ◌+◌, ◌<◌, length, map, append_assoc, sym, ap, ◌∙◌, arith}
use Rattle.std.specs.List.{flat_map}
use Rattle.std.proofs.lemmas.Bool.Decides.{nat_tests}
use Rattle.std.proofs.lemmas.List.{append-nil, length-append, map-append}
use Rattle.std.proofs.lemmas.List.Concat.{flat_map-append}
use Rattle.std.proofs.lemmas.Option.{slice_get-get_or}
use Rattle.gptp_lists.proofs.MappedLemmas.{taken}
use Rattle.gptp_words.specs.Lines.{text_of}

-- a line with its line feed
abbrev fed : List ℕ → List ℕ
fed line = line ++ 10 ∷ []

pub text_append : (xs ys : List (List ℕ)) → text_of (xs ++ ys) ≡ text_of xs ++ text_of ys
text_append xs ys = flat_map-append fed xs ys

-- two texts of lines, one after the other
pub joined : (old mid new : List ℕ) (xs ys : List (List ℕ)) → mid ≡ old ++ text_of xs → new ≡ mid ++ text_of ys
    → new ≡ old ++ text_of (xs ++ ys)
joined old mid new xs ys first second =
    second ∙ ap (λ t. t ++ text_of ys) first ∙ append_assoc old (text_of xs) (text_of ys)
    ∙ ap (λ t. old ++ t) (sym (text_append xs ys))

-- a text and one line more
pub one_more : (old text new line : List ℕ) (xs : List (List ℕ)) → text ≡ old ++ text_of xs
    → new ≡ text ++ (line ++ 10 ∷ []) → new ≡ old ++ text_of (xs ++ line ∷ [])
one_more old text new line xs so_far is =
    joined old text new xs (line ∷ []) so_far (is ∙ ap (λ t. text ++ t) (sym (append-nil (line ++ 10 ∷ []))))

-- the lines of some, and of one more
pub mapped_more : {X : Type 0} (line : X → List ℕ) (xs : List X) (i : ℕ) (x : X) (old text new : List ℕ)
    → slice_get xs i ≡ Some x → text ≡ old ++ text_of (map line (take i xs)) → new ≡ text ++ (line x ++ 10 ∷ [])
    → new ≡ old ++ text_of (map line (take (i + 1) xs))
mapped_more line xs i x old text new there so_far is =
    one_more old text new (line x) (map line (take i xs)) so_far is
    ∙ ap (λ ys. old ++ text_of ys) (sym (ap (map line) (taken xs i x there) ∙ map-append line (take i xs) (x ∷ [])))

-- the same, where the item that is told is that at its place
pub item_more : {X : Type 0} (line : X → List ℕ) (xs : List X) (i : ℕ) (x : X) (old text new : List ℕ) → i < length xs
    → x ≡ get_or xs i x → text ≡ old ++ text_of (map line (take i xs)) → new ≡ text ++ (line x ++ 10 ∷ [])
    → new ≡ old ++ text_of (map line (take (i + 1) xs))
item_more line xs i x old text new below is =
    mapped_more line xs i x old text new (slice_get-get_or xs i x below ∙ ap Some (sym is))

-- a text is longer exactly where there are lines after it
pub longer : (old : List ℕ) (lines : List (List ℕ))
    → nat_lt (length old) (length (old ++ text_of lines)) ≡ not (length lines == 0)
longer old [] = ap (λ t. nat_lt (length old) (length t)) (append-nil old) ∙ grind (arith, nat_tests)
longer old (line ∷ lines) =
    let whole = length-append old (text_of (line ∷ lines)) in
    let parts = length-append (line ++ 10 ∷ []) (text_of lines) in
    let fed = length-append line (10 ∷ []) in
    grind (arith, nat_tests)

-- ---- all findings

-- four kinds of lines, one after the other
pub four_kinds : (t0 t1 t2 t3 t4 : List ℕ) (xs ys zs us : List (List ℕ)) → t1 ≡ t0 ++ text_of xs
    → t2 ≡ t1 ++ text_of ys → t3 ≡ t2 ++ text_of zs → t4 ≡ t3 ++ text_of us
    → t4 ≡ t0 ++ text_of (xs ++ ys ++ zs ++ us)
four_kinds t0 t1 t2 t3 t4 xs ys zs us first second third fourth =
    let two = joined t0 t1 t2 xs ys first second in
    let three = joined t0 t2 t3 (xs ++ ys) zs two third in
    joined t0 t3 t4 (xs ++ ys ++ zs) us three fourth

-- a fifth after them
pub five_kinds : (t0 t1 t2 t3 t4 t5 : List ℕ) (xs ys zs us vs : List (List ℕ)) → t1 ≡ t0 ++ text_of xs
    → t2 ≡ t1 ++ text_of ys → t3 ≡ t2 ++ text_of zs → t4 ≡ t3 ++ text_of us → t5 ≡ t4 ++ text_of vs
    → t5 ≡ t0 ++ text_of (xs ++ ys ++ zs ++ us ++ vs)
five_kinds t0 t1 t2 t3 t4 t5 xs ys zs us vs first second third fourth =
    joined t0 t4 t5 (xs ++ ys ++ zs ++ us) vs (four_kinds t0 t1 t2 t3 t4 xs ys zs us first second third fourth)

-- the lines of some, each of which may have several, and of one more
pub several_more : {X : Type 0} (lines : X → List (List ℕ)) (xs : List X) (i : ℕ) (x : X) (old text new : List ℕ)
    → slice_get xs i ≡ Some x → text ≡ old ++ text_of (flat_map lines (take i xs)) → new ≡ text ++ text_of (lines x)
    → new ≡ old ++ text_of (flat_map lines (take (i + 1) xs))
several_more lines xs i x old text new there so_far told =
    joined old text new (flat_map lines (take i xs)) (lines x) so_far told
    ∙ ap (λ ys. old ++ text_of ys)
    (ap (λ ys. flat_map lines (take i xs) ++ ys) (sym (append-nil (lines x)))
    ∙ sym (flat_map-append lines (take i xs) (x ∷ [])) ∙ ap (flat_map lines) (sym (taken xs i x there)))
