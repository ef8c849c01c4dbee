-- Words and what stands between them: a text is cut at the first place where an octet stands, and in one way.
use Rattle.std.proofs.Common.{◌≡◌, ℕ, suc, ◌+◌, ◌==◌, Bool, true, false, not, List, [], ◌∷◌, ◌++◌, length, take, drop, refl, sym, ap, ◌∙◌, append-nil, arith}
use Rattle.std.specs.Prelude.{Option, Some, None, IfNone, IfSome, MatchOption}
use Rattle.std.specs.List.{list_all, position_or_len}
use Rattle.std.proofs.lemmas.List.{append_cancel_left, nil_from_length}
use Rattle.std.proofs.lemmas.Bool.Decides.{nat_tests}
use Rattle.gptp_certificate_text.specs.Words.{is_blank, IsWord, Lacks}

pub if_none : {X : Type 0} {P : Type 0} (o : Option X) → P → IfNone o P
if_none None p = p
if_none (Some x) p = search Rattle.std.proofs.Common.rules

pub if_none_weaker : {X : Type 0} {P Q : Type 0} (o : Option X) → (P → Q) → IfNone o P → IfNone o Q
if_none_weaker None f p = f p
if_none_weaker (Some x) f p = p

pub if_some_weaker : {X : Type 0} {P Q : X → Type 0} (o : Option X) → ((x : X) → P x → Q x) → IfSome o P → IfSome o Q
if_some_weaker None f p = p
if_some_weaker (Some x) f p = f x p

-- how many octets stand before the first of this value
abbrev before : ℕ → List ℕ → ℕ
before s text = position_or_len (λ other. other == s) text

lacks_step : (s x : ℕ) (xs : List ℕ) (test : Bool) → (x == s) ≡ test
    → Lacks s (take (before s xs) xs) → Lacks s (take (before s (x ∷ xs)) (x ∷ xs))
lacks_step s x xs true here rest =
    let e : before s (x ∷ xs) ≡ 0 = rw here refl in
    rw e refl
lacks_step s x xs false other rest =
    let e : before s (x ∷ xs) ≡ suc (before s xs) = rw other (omega arith) in
    rw e (rw other rest)

lacks_before : (s : ℕ) (xs : List ℕ) → Lacks s (take (before s xs) xs)
lacks_before s [] = refl
lacks_before s (x ∷ xs) = lacks_step s x xs (x == s) refl (lacks_before s xs)

first_step : (s x first : ℕ) (xs rest : List ℕ) (test : Bool) → (x == s) ≡ test
    → (drop (before s xs) xs ≡ first ∷ rest → first ≡ s) → drop (before s (x ∷ xs)) (x ∷ xs) ≡ first ∷ rest → first ≡ s
first_step s x first xs rest true here later found =
    let e : before s (x ∷ xs) ≡ 0 = rw here refl in
    let whole : x ∷ xs ≡ first ∷ rest = rw e at found in
    let same : x ≡ first = cc in
    grind (arith, nat_tests)
first_step s x first xs rest false other later found =
    let e : before s (x ∷ xs) ≡ suc (before s xs) = rw other (omega arith) in
    later (rw e at found)

first_is : (s first : ℕ) (xs rest : List ℕ) → drop (before s xs) xs ≡ first ∷ rest → first ≡ s
first_is s first [] rest found = absurd cc
first_is s first (x ∷ xs) rest found = first_step s x first xs rest (x == s) refl (first_is s first xs rest) found

pub cut_first : (s : ℕ) (text front : List ℕ) → front ≡ take (before s text) text → Lacks s front
cut_first s text front is = rw is (lacks_before s text)

pub cut_found : (s first : ℕ) (text front back rest : List ℕ) → back ≡ drop (before s text) text
    → text ≡ front ++ back → back ≡ first ∷ rest → text ≡ front ++ s ∷ rest
cut_found s first text front back rest is whole split =
    let same : first ≡ s = first_is s first text rest (sym is ∙ split) in
    whole ∙ ap (λ t. front ++ t) (split ∙ ap (λ x. x ∷ rest) same)

pub cut_absent : (s : ℕ) (text front back : List ℕ) → front ≡ take (before s text) text
    → text ≡ front ++ back → length back ≡ 0 → Lacks s text
cut_absent s text front back is whole none =
    let same : text ≡ front = whole ∙ ap (λ t. front ++ t) (nil_from_length back none) ∙ append-nil front in
    rw same (cut_first s text front is)

-- an octet that stands in a text isn't lacking
pub no_cut : (s : ℕ) (front rest : List ℕ) → Lacks s (front ++ s ∷ rest) → ⊥
no_cut s [] rest lacks = absurd (grind (arith, nat_tests))
no_cut s (x ∷ front) rest lacks = no_cut s front rest (grind (arith, nat_tests))

-- a text is cut at the first place in one way
pub one_cut : (s : ℕ) (v w x y : List ℕ) → Lacks s v → Lacks s w → v ++ s ∷ x ≡ w ++ s ∷ y → (v ≡ w) × (x ≡ y)
one_cut s [] [] x y f g e = (refl, cc)
one_cut s [] (b ∷ w) x y f g e =
    let same : s ≡ b = cc in
    absurd (grind (arith, nat_tests))
one_cut s (a ∷ v) [] x y f g e =
    let same : a ≡ s = cc in
    absurd (grind (arith, nat_tests))
one_cut s (a ∷ v) (b ∷ w) x y f g e =
    let same : a ≡ b = cc in
    let others : v ++ s ∷ x ≡ w ++ s ∷ y = cc in
    let rest = one_cut s v w x y (grind (arith, nat_tests)) (grind (arith, nat_tests)) others in
    (ap (λ t. a ∷ t) rest.0 ∙ ap (λ c. c ∷ w) same, rest.1)

plain_lacks_space : (text : List ℕ) → list_all (λ octet. not (is_blank octet)) text ≡ true → Lacks 32 text
plain_lacks_space [] plain = refl
plain_lacks_space (x ∷ xs) plain =
    let rest : list_all (λ octet. not (is_blank octet)) xs ≡ true = grind (arith, nat_tests) in
    let others = plain_lacks_space xs rest in
    grind (arith, nat_tests)

pub plain_lacks_feed : (text : List ℕ) → list_all (λ octet. not (is_blank octet)) text ≡ true → Lacks 10 text
plain_lacks_feed [] plain = refl
plain_lacks_feed (x ∷ xs) plain =
    let rest : list_all (λ octet. not (is_blank octet)) xs ≡ true = grind (arith, nat_tests) in
    let others = plain_lacks_feed xs rest in
    grind (arith, nat_tests)

-- one word stands before the first space
pub one_word : (v w x y : List ℕ) → IsWord v → IsWord w → v ++ 32 ∷ x ≡ w ++ 32 ∷ y → (v ≡ w) × (x ≡ y)
one_word v w x y f g = one_cut 32 v w x y (plain_lacks_space v f.plain) (plain_lacks_space w g.plain)

-- one value comes after a key
pub one_value : (key text v w x y : List ℕ) → IsWord v → IsWord w → text ≡ key ++ (v ++ 32 ∷ x)
    → text ≡ key ++ (w ++ 32 ∷ y)
    → (v ≡ w) × (x ≡ y)
one_value key text v w x y f g d e =
    one_word v w x y f g (append_cancel_left key (v ++ 32 ∷ x) (w ++ 32 ∷ y) (sym d ∙ e))

-- a word has no space in it
pub word_is_one : (v w x : List ℕ) → IsWord v → v ≡ w ++ 32 ∷ x → ⊥
word_is_one v w x f e =
    let lacks : Lacks 32 v = plain_lacks_space v f.plain in
    no_cut 32 w x (rw e at lacks)

-- what a clause says of each answer
pub some_of : {X : Type 0} (P : Type 0) (Q : X → Type 0) (o : Option X) → MatchOption o P Q → IfSome o Q
some_of P Q None m = search Rattle.std.proofs.Common.rules
some_of P Q (Some x) m = m

pub none_of : {X : Type 0} (P : Type 0) (Q : X → Type 0) (o : Option X) → MatchOption o P Q → IfNone o P
none_of P Q None m = m
none_of P Q (Some x) m = search Rattle.std.proofs.Common.rules

-- no word stands before the first space where what stands there is none
pub other_word : (text v w x y : List ℕ) → Lacks 32 v → (IsWord v → ⊥) → IsWord w → text ≡ v ++ 32 ∷ x
    → text ≡ w ++ 32 ∷ y → ⊥
other_word text v w x y lacks none is d e =
    let same = one_cut 32 v w x y lacks (plain_lacks_space w is.plain) (sym d ∙ e) in
    none (rw same.0 is)
