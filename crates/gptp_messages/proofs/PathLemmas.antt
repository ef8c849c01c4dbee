-- The clocks that octets spell, place by place, and the octets that spell clocks.
use Rattle.std.proofs.Common.{◌≡◌, ◌≢◌, Bool, true, false, ◌||◌, ◌↔◌, IsTrue, Contains}
use Rattle.std.proofs.Common.{ℕ, zero, suc, ◌+◌, ◌*◌, ◌/◌, ◌%◌, ◌^◌, ◌<◌, ◌≤◌, List, [], ◌∷◌, ◌++◌, length, get_or, take, drop, map, Some, None, refl, arith, ◌∙◌, ap, sym, inl, inr, append_assoc}
use Rattle.std.specs.Prelude.{slice_get}
use Rattle.std.specs.List.{range_with_len, AllByRecursion}
use Rattle.std.proofs.lemmas.Bool.{cases_lt}
use Rattle.std.proofs.lemmas.List.{take-append-drop, length-take, length-drop, drop-drop, nil_from_length, get_or-drop, get_or-take, get_or_past, take_more, take_at, drop_at, length-take-le, append-nil}
use Rattle.std.proofs.lemmas.Grind.{flat_map-append}
use Rattle.std.proofs.lemmas.List.FromFn.{length-map-range_with_len, get_or-map-range_with_len, fill_by_all}
use Rattle.std.proofs.lemmas.Nat.{be_bytes_8}
use Rattle.std.proofs.lemmas.Option.{slice_get-get_or}
use Rattle.byteorder.specs.Endian.{big_bytes, big_number}
use Rattle.byteorder.specs.Numbers.{big_number-reads_back, big_from-append}
use Rattle.gptp_messages.specs.Frame.{field}
use Rattle.gptp_messages.specs.Path.{path_octets}
use Rattle.gptp_vector.specs.Trace.{clocks}

-- each clock has eight octets
pub length-clocks : (octets : List ℕ) → length (clocks octets) ≡ length octets / 8
unfolding clocks field
length-clocks octets = length-map-range_with_len (λ k. field 8 (8 * k) octets) 0 (length octets / 8)

-- the clock at a place comes after eight octets for each place before it
pub get_or-clocks : (octets : List ℕ) (i d : ℕ) → i < length octets / 8
    → get_or (clocks octets) i d ≡ field 8 (8 * i) octets
unfolding clocks field
get_or-clocks octets i d within =
    get_or-map-range_with_len (λ k. field 8 (8 * k) octets) 0 (length octets / 8) i i d within (omega arith)

pub slice_get-clocks : (octets : List ℕ) (i : ℕ) → i < length octets / 8
    → slice_get (clocks octets) i ≡ Some (field 8 (8 * i) octets)
slice_get-clocks octets i within =
    let inside : i < length (clocks octets) = omega (arith, length-clocks octets) in
    slice_get-get_or (clocks octets) i 0 inside ∙ ap Some (get_or-clocks octets i 0 within)

-- a number stands in front of its own octets
pub field-big_bytes : (n x : ℕ) (rest : List ℕ) → x < 256 ^ n → field n 0 (big_bytes n x ++ rest) ≡ x
unfolding field
field-big_bytes n x rest fits = big_number-reads_back n x rest fits

-- places are counted from wherever one begins
field-drop : (n j i : ℕ) (f : List ℕ) → field n (j + i) f ≡ field n i (drop j f)
unfolding field
field-drop n j i f = ap (big_number n) (sym (drop-drop i j f))

pub length-path_octets : (path : List ℕ) → length (path_octets path) ≡ 8 * length path
length-path_octets [] = refl
length-path_octets (c ∷ path) = let ih = length-path_octets path in omega (arith, ih)

-- the clock at a place of a path is spelled after eight octets for each clock before it
field-path_octets : (path : List ℕ) (k : ℕ) → AllByRecursion (λ c. c < 2 ^ 64) path → k < length path
    → field 8 (8 * k) (path_octets path) ≡ get_or path k 0
field-path_octets [] k fit within = absurd (omega arith)
field-path_octets (c ∷ path) zero fit within = field-big_bytes 8 c (path_octets path) fit.0
field-path_octets (c ∷ path) (suc k) fit within =
    let behind : 8 * suc k ≡ 8 + 8 * k = omega arith in
    rw behind (field-drop 8 8 (8 * k) (path_octets (c ∷ path)) ∙ field-path_octets path k fit.1 (omega arith))

-- the octets of a path spell it
pub clocks-path_octets : (path : List ℕ) → AllByRecursion (λ c. c < 2 ^ 64) path → clocks (path_octets path) ≡ path
unfolding clocks field
clocks-path_octets path fit =
    let octets = length-path_octets path in
    let count : length path ≡ length (path_octets path) / 8 = omega arith in
    sym (fill_by_all (λ k. field 8 (8 * k) (path_octets path)) path (length (path_octets path) / 8) 0 count
    (λ k within. sym (field-path_octets path k fit (omega arith))))

-- ---- octets that are spelled again

-- the octets of the number that eight octets spell
big_bytes-field : (front rest : List ℕ) → length front ≡ 8 → ((i : ℕ) → get_or front i 0 < 256)
    → big_bytes 8 (field 8 0 (front ++ rest)) ≡ front
unfolding field
big_bytes-field front rest eight octets =
    let number : big_number 8 (front ++ rest) ≡ big_number 8 front = big_from-append 8 front rest (omega arith) in
    rw number (be_bytes_8 front (big_number 8 front) eight octets (omega arith))

-- numbers from one place on are those from the place before it, taken one later
map-range_later : (f g : ℕ → ℕ) (a n : ℕ) → ((k : ℕ) → f (k + 1) ≡ g k)
    → map f (range_with_len (a + 1) n) ≡ map g (range_with_len a n)
map-range_later f g a zero later = refl
map-range_later f g a (suc n) later =
    ap (λ (x : ℕ). x ∷ map f (range_with_len (a + 1 + 1) n)) (later a)
    ∙ ap (λ (x : List ℕ). g a ∷ x) (map-range_later f g (a + 1) n later)

-- a whole number of clocks is spelled by its octets
path_octets-map : (n : ℕ) (f : List ℕ) → length f ≡ 8 * n → ((i : ℕ) → get_or f i 0 < 256)
    → path_octets (map (λ k. field 8 (8 * k) f) (range_with_len 0 n)) ≡ f
path_octets-map zero f whole octets = sym (nil_from_length f (omega arith))
path_octets-map (suc n) f whole octets =
    let front = take 8 f in
    let behind = drop 8 f in
    let split : front ++ behind ≡ f = take-append-drop 8 f in
    let eight : length front ≡ 8 = omega (arith, length-take 8 f) in
    let first : big_bytes 8 (field 8 (8 * 0) f) ≡ front =
    ap (λ (x : List ℕ). big_bytes 8 (field 8 0 x)) (sym split)
    ∙ big_bytes-field front behind eight (octets_of_front 8 f octets) in
    let others : map (λ (k : ℕ). field 8 (8 * k) f) (range_with_len 1 n)
    ≡ map (λ k. field 8 (8 * k) behind) (range_with_len 0 n) =
    map-range_later (λ k. field 8 (8 * k) f) (λ k. field 8 (8 * k) behind) 0 n
    (λ k. let one_on : 8 * (k + 1) ≡ 8 + 8 * k = omega arith in rw one_on (field-drop 8 8 (8 * k) f)) in
    let ih : path_octets (map (λ k. field 8 (8 * k) behind) (range_with_len 0 n)) ≡ behind =
    path_octets-map n behind (omega (arith, length-drop 8 f)) (λ i. rw get_or-drop (octets (8 + i))) in
    ap (λ (x : List ℕ). big_bytes 8 (field 8 (8 * 0) f) ++ path_octets x) others
    ∙ ap (λ (x : List ℕ). big_bytes 8 (field 8 (8 * 0) f) ++ x) ih
    ∙ ap (λ (x : List ℕ). x ++ behind) first ∙ split
  where
    octets_of_front : (m : ℕ) (xs : List ℕ) → ((i : ℕ) → get_or xs i 0 < 256) → (i : ℕ) → get_or (take m xs) i 0 < 256
    octets_of_front m xs fit i =
        elim (cases_lt i m) [
          | inl lt ↦ rw (get_or-take m xs i 0 lt) (fit i)
          | inr le ↦ rw (get_or_past (take m xs) i 0 (omega (arith, length-take m xs))) (omega arith)
        ]

pub path_octets-clocks : (octets : List ℕ) → length octets % 8 ≡ 0 → ((i : ℕ) → get_or octets i 0 < 256)
    → path_octets (clocks octets) ≡ octets
unfolding clocks field
path_octets-clocks octets whole fit = path_octets-map (length octets / 8) octets (omega arith) fit

-- where no clock stands at a place, the path ends before it
pub ends_before : (path : List ℕ) (i : ℕ) → slice_get path i ≡ None → length path ≤ i
ends_before path i none =
    elim (cases_lt i (length path)) [
      | inl within ↦ absurd (let some = slice_get-get_or path i 0 within in cc)
      | inr past ↦ past
    ]

-- ---- octets that are written in turn

-- the octets of one clock more
path_octets-more : (path : List ℕ) (i : ℕ) → i < length path
    → path_octets (take (i + 1) path) ≡ path_octets (take i path) ++ big_bytes 8 (get_or path i 0)
path_octets-more path i within =
    ap path_octets (take_more path i 0 within)
    ∙ flat_map-append (λ c. big_bytes 8 c) (take i path) (get_or path i 0 ∷ [])
    ∙ ap (λ (x : List ℕ). path_octets (take i path) ++ x) (append-nil (big_bytes 8 (get_or path i 0)))

-- a clock that is written after those before it over octets
pub written_more : (path initial octets : List ℕ) (i : ℕ) → i < length path
    → octets ≡ path_octets (take i path) ++ drop (8 * i) initial
    → take (8 * i) octets ++ (big_bytes 8 (get_or path i 0) ++ drop 8 (drop (8 * i) octets))
    ≡ path_octets (take (i + 1) path) ++ drop (8 * (i + 1)) initial
written_more path initial octets i within so_far =
    let front = path_octets (take i path) in
    let clock = big_bytes 8 (get_or path i 0) in
    let behind = drop (8 * (i + 1)) initial in
    let eights : length front ≡ 8 * i =
    length-path_octets (take i path) ∙ ap (λ (n : ℕ). 8 * n) (length-take-le i path (omega arith)) in
    let before : take (8 * i) octets ≡ front =
    ap (take (8 * i)) so_far ∙ take_at front (drop (8 * i) initial) (8 * i) eights in
    let after : drop (8 * i) octets ≡ drop (8 * i) initial =
    ap (drop (8 * i)) so_far ∙ drop_at front (drop (8 * i) initial) (8 * i) eights in
    let one_on : 8 * i + 8 ≡ 8 * (i + 1) = omega arith in
    let rest : drop 8 (drop (8 * i) octets) ≡ behind =
    ap (drop 8) after ∙ drop-drop 8 (8 * i) initial ∙ ap (λ (n : ℕ). drop n initial) one_on in
    ap (λ (x : List ℕ). x ++ (clock ++ drop 8 (drop (8 * i) octets))) before
    ∙ ap (λ (x : List ℕ). front ++ (clock ++ x)) rest
    ∙ sym (append_assoc front clock behind) ∙ ap (λ (x : List ℕ). x ++ behind) (sym (path_octets-more path i within))

-- ---- looking for a clock

-- whether a clock is among those before a place
pub record Looked (octets : List ℕ) (place clock : ℕ) (found : Bool) : Type 0 where
  pub missed : found ≡ false → (k : ℕ) → k < place → field 8 (8 * k) octets ≢ clock
  pub held : found ≡ true → Contains (clocks octets) clock

-- one place more was looked at
pub looked_more : (octets : List ℕ) (place clock : ℕ) (found here : Bool) → place < length octets / 8
    → (here ≡ true → field 8 (8 * place) octets ≡ clock) → (here ≡ false → field 8 (8 * place) octets ≢ clock)
    → Looked octets place clock found → Looked octets (place + 1) clock (found || here)
looked_more octets place clock true here within is isnt looked =
    record { missed = λ e. absurd cc; held = λ _. looked.held refl }
looked_more octets place clock false true within is isnt looked =
    let inside : place < length (clocks octets) = omega (arith, length-clocks octets) in
    record { missed = λ e. absurd cc; held = λ _. (place, inside, get_or-clocks octets place clock within ∙ is refl) }
looked_more octets place clock false false within is isnt looked = record {
  missed = λ e k before.
      elim (cases_lt k place) [
        | inl lt ↦ looked.missed refl k lt
        | inr le ↦ let last : k ≡ place = omega arith in rw last (isnt refl)
      ];
  held = λ e. absurd cc;
}

-- the answer after the last place
pub looked_all : (octets : List ℕ) (place clock : ℕ) (found : Bool) → length octets / 8 ≤ place
    → Looked octets place clock found
    → IsTrue found ↔ Contains (clocks octets) clock
looked_all octets place clock true past looked = (λ _. looked.held refl, λ _. refl)
looked_all octets place clock false past looked = (
  λ never. absurd cc,
  λ found.
      let within : found.0 < length octets / 8 = omega (arith, length-clocks octets) in
      absurd (looked.missed refl found.0 (omega arith) (sym (get_or-clocks octets found.0 clock within) ∙ found.2)),
)
