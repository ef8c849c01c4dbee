-- Lines that are written one after another.
use Rattle.std.proofs.Common.{◌≡◌, ℕ, zero, suc, true, false, List, [], ◌∷◌, ◌++◌, take, drop, Option, Some, None, slice_get, refl, sym, ap, subst, ◌∙◌, append-nil, take-append-drop}
use Rattle.std.specs.Io.KnownBytes.{Appends}
use Rattle.std.proofs.lemmas.Option.{none-some, same_Some}
use Rattle.gptp_words.specs.Lines.{text_of}
use Rattle.gptp_certificate_text.specs.CertificateText.{PrintsLine}
use Rattle.gptp_sink.specs.Sink.{AppendsSome}
use Rattle.gptp_world.proofs.FollowLemmas.{text_append}
use Rattle.gptp_sink.proofs.SinkLemmas.{all_of, appends_both, some_before, some_behind}

-- ---- the line at a place

-- where it was told that there is a line, it was printed
pub a_line : (at : Option (List ℕ)) (octets : List ℕ) → PrintsLine at true [] octets
    → (line : List ℕ) × (at ≡ Some line) × (octets ≡ line ++ 10 ∷ [])
a_line (Some line) octets (told, is) = (line, refl, is)
a_line None octets (told, is) = absurd (let no : true ≡ false = told in cc)

-- where it was told that there is none, there is none
pub no_line : (at : Option (List ℕ)) (octets : List ℕ) → PrintsLine at false [] octets → at ≡ None
no_line (Some line) octets (told, is) = absurd (let no : false ≡ true = told in cc)
no_line None octets (told, is) = refl

take_more : {X : Type 0} (xs : List X) (place : ℕ) (x : X) → slice_get xs place ≡ Some x
    → take (suc place) xs ≡ take place xs ++ x ∷ []
take_more [] place x here = absurd (none-some x here)
take_more (y ∷ ys) zero x here = ap (λ z. z ∷ []) (same_Some y x here)
take_more (y ∷ ys) (suc i) x here = ap (λ zs. y ∷ zs) (take_more ys i x here)

take_all : {X : Type 0} (xs : List X) (place : ℕ) → slice_get xs place ≡ None → take place xs ≡ xs
take_all [] zero past = refl
take_all [] (suc i) past = refl
take_all (y ∷ ys) zero past = absurd (none-some y (sym past))
take_all (y ∷ ys) (suc i) past = ap (λ zs. y ∷ zs) (take_all ys i past)

-- ---- lines so far

text_to : (lines : List (List ℕ)) (place : ℕ) → text_of lines ≡ text_of (take place lines) ++ text_of (drop place lines)
text_to lines place =
    ap text_of (sym (take-append-drop place lines)) ∙ text_append (take place lines) (drop place lines)

text_next : (lines : List (List ℕ)) (place : ℕ) (line : List ℕ) → slice_get lines place ≡ Some line
    → text_of (take (suc place) lines) ≡ text_of (take place lines) ++ (line ++ 10 ∷ [])
text_next lines place line here =
    ap text_of (take_more lines place line here) ∙ text_append (take place lines) (line ∷ [])
    ∙ ap (λ t. text_of (take place lines) ++ t) (append-nil (line ++ 10 ∷ []))

-- the lines before a place are a front of all
pub lines_some : (lines : List (List ℕ)) (place : ℕ) (old now : Option (List ℕ))
    → AppendsSome old now (text_of (take place lines)) → AppendsSome old now (text_of lines)
lines_some lines place old now some =
    rw (text_to lines place) (some_before old now (text_of (take place lines)) (text_of (drop place lines)) some)

pub lines_so_far : (lines : List (List ℕ)) (place : ℕ) (old now : Option (List ℕ))
    → Appends old now (text_of (take place lines)) → AppendsSome old now (text_of lines)
lines_so_far lines place old now written =
    lines_some lines place old now (all_of old now (text_of (take place lines)) written)

-- with the line at the place
pub lines_more : (lines : List (List ℕ)) (place : ℕ) (old between new : Option (List ℕ)) (octets : List ℕ)
    → Appends old between (text_of (take place lines)) → PrintsLine (slice_get lines place) true [] octets
    → Appends between new octets → Appends old new (text_of (take (suc place) lines))
lines_more lines place old between new octets written printed one =
    let line = a_line (slice_get lines place) octets printed in
    rw (text_next lines place line.0 line.1) (appends_both old between new (text_of (take place lines))
    (line.0 ++ 10 ∷ []) written (subst (Appends between new) line.2 one))

-- with some of it
pub lines_part : (lines : List (List ℕ)) (place : ℕ) (old between new : Option (List ℕ)) (octets : List ℕ)
    → Appends old between (text_of (take place lines)) → PrintsLine (slice_get lines place) true [] octets
    → AppendsSome between new octets → AppendsSome old new (text_of lines)
lines_part lines place old between new octets written printed some =
    let line = a_line (slice_get lines place) octets printed in
    lines_some lines (suc place) old new (rw (text_next lines place line.0 line.1) (some_behind old between new
    (text_of (take place lines)) (line.0 ++ 10 ∷ []) written (subst (AppendsSome between new) line.2 some)))

-- where there is no line at the place, all are written
pub lines_all : (lines : List (List ℕ)) (place : ℕ) (old now : Option (List ℕ)) (octets : List ℕ)
    → Appends old now (text_of (take place lines)) → PrintsLine (slice_get lines place) false [] octets
    → Appends old now (text_of lines)
lines_all lines place old now octets written printed =
    subst (λ xs. Appends old now (text_of xs)) (take_all lines place (no_line (slice_get lines place) octets printed))
    written
