-- What follows the fault of a text has no line feed.
use Rattle.std.proofs.Common.{◌≡◌, ◌==◌, ◌/◌, ◌%◌, ◌+◌, ◌++◌, ℕ, zero, suc, ℤ, pos, negsuc, Bool, true, false, not, codes, List, [], ◌∷◌, take, Option, Some, None, Result, Ok, Err, refl, sym, subst, ◌∙◌, inl, inr, arith}
use Rattle.std.specs.Prelude.{if◌then◌else◌, nat_lt, slice_index}
use Rattle.std.specs.Fmt.{decimal, digit_glyph, digits, digits_onto, signed_decimal}
use Rattle.std.specs.List.{flat_map, list_all}
use Rattle.std.proofs.lemmas.Bool.{and_parts}
use Rattle.std.proofs.lemmas.Bool.Decides.{nat_tests}
use Rattle.std.proofs.lemmas.List.Folds.{list_all-append}
use Rattle.hex.specs.Hex.{encode_lower, encode_with, lower_digits}
use Rattle.toml.specs.Data.{Members}
use Rattle.gptp_vector.specs.declared.port.PortId.{PortId}
use Rattle.gptp_setup.specs.declared.setup.Params.{Params}
use Rattle.gptp_scenario.specs.Faults as plans
use Rattle.gptp_scenario.specs.declared.fault.NetworkFault.{NetworkFault}
use Rattle.gptp_network.specs.Document.{DocumentState}
use Rattle.gptp_network.specs.Keys.{name_text}
use Rattle.gptp_network.specs.ReadDocument.{read_document}
use Rattle.gptp_network.specs.declared.keys.Name.{Name}
use Rattle.gptp_network.specs.declared.why.Refusal.{Refusal}
use Rattle.gptp_network.specs.declared.why.Shape.{Shape}
use Rattle.gptp_network.specs.declared.why.Why.{Why}
use Rattle.gptp_network.specs.declared.why.Why.TheVariants as whys
use Rattle.gptp_words.specs.Digits.{clock_text}
use Rattle.gptp_lint.specs.Ending.{column_at_end, line_at_end}
use Rattle.gptp_lint.specs.Outline.{header_line, outline_of_text}
use Rattle.gptp_lint.specs.Refusal.{HasNoFeed, TellsPlace, meant_at, no_toml_words, place_of, refusal_tail, refusal_words}
use Rattle.gptp_lint.specs.Unread.{escaped, escaped_octet, is_plain, line_words, near_words, place_words, section_name}
use Rattle.gptp_lint.specs.Why.{nanoseconds, port_words, shape_word, timing_words, why_words}
use Rattle.gptp_lint.specs.declared.place.Place.{Place}
use Rattle.gptp_lint.specs.declared.place.Place.TheVariants.{Member, Network, Top}
use Rattle.gptp_lint.specs.declared.place.Section.{Section}
use Rattle.gptp_lint.specs.declared.place.Section.TheVariants.{Event, Link, System}

-- ---- texts

two : (a b : List ℕ) → HasNoFeed a → HasNoFeed b → HasNoFeed (a ++ b)
two a b first second = list_all-append (λ octet. not (octet == 10)) a b ∙ rw first second

cons : (x : ℕ) (xs : List ℕ) → not (x == 10) ≡ true → HasNoFeed xs → HasNoFeed (x ∷ xs)
cons x xs first rest = rw first rest

either : (test : Bool) (a b : List ℕ) → HasNoFeed a → HasNoFeed b → HasNoFeed (if test then a else b)
either true a b first second = first
either false a b first second = second

-- ---- numbers

glyph_fits : (d : ℕ) → not (digit_glyph false d == 10) ≡ true
glyph_fits d = by (nat_lt d 10)
  where
    by : (test : Bool) → not ((if test then 48 + d else 87 + d) == 10) ≡ true
    by true = grind (arith, nat_tests)
    by false = grind (arith, nat_tests)

digits_fit : (k n : ℕ) (after : List ℕ) → HasNoFeed after → HasNoFeed (digits_onto k 10 false n after)
digits_fit zero n after h = h
digits_fit (suc k) n after h =
    let digit = digit_glyph false (n % 10) in
    let next : HasNoFeed (digit ∷ after) = cons digit after (glyph_fits (n % 10)) h in
    either (n / 10 == 0) (digit ∷ after) (digits_onto k 10 false (n / 10) (digit ∷ after)) next
    (digits_fit k (n / 10) (digit ∷ after) next)

number : (n : ℕ) → HasNoFeed (decimal n)
unfolding digits
number n = digits_fit 64 n [] refl

signed : (z : ℤ) → HasNoFeed (signed_decimal z)
signed (pos n) = number n
signed (negsuc n) = cons 45 (decimal (suc n)) refl (number (suc n))

-- ---- octets

index_fits : (xs : List ℕ) → HasNoFeed xs → (i : ℕ) → not (slice_index xs i == 10) ≡ true
index_fits [] h i = refl
index_fits (x ∷ xs) h zero = (and_parts (not (x == 10)) (list_all (λ octet. not (octet == 10)) xs) h).0
index_fits (x ∷ xs) h (suc i) =
    index_fits xs (and_parts (not (x == 10)) (list_all (λ octet. not (octet == 10)) xs) h).1 i

octets : (xs : List ℕ) → HasNoFeed (encode_lower xs)
unfolding encode_with
octets [] = refl
octets (x ∷ xs) =
    cons (slice_index lower_digits (x / 16)) (slice_index lower_digits (x % 16) ∷ encode_lower xs)
    (index_fits lower_digits refl (x / 16))
    (cons (slice_index lower_digits (x % 16)) (encode_lower xs) (index_fits lower_digits refl (x % 16)) (octets xs))

clock : (name : ℕ) → HasNoFeed (clock_text name)
clock name = octets _

one_octet : (x : ℕ) → HasNoFeed (escaped_octet x)
one_octet x = by (is_plain x) refl
  where
    by : (test : Bool) → is_plain x ≡ test
        → HasNoFeed (if test then x ∷ [] else 92 ∷ codes "x" ++ encode_lower (x ∷ []))
    by true plain = let other : not (x == 10) ≡ true = grind (arith, nat_tests) in cons x [] other refl
    by false plain =
        cons 92 (codes "x" ++ encode_lower (x ∷ [])) refl
        (two (codes "x") (encode_lower (x ∷ [])) refl (octets (x ∷ [])))

each_octet : (xs : List ℕ) → HasNoFeed (flat_map escaped_octet xs)
each_octet [] = refl
each_octet (x ∷ xs) = two (escaped_octet x) (flat_map escaped_octet xs) (one_octet x) (each_octet xs)

word : (text : List ℕ) → HasNoFeed (escaped text)
word [] = refl
word (octet ∷ more) = each_octet (take 64 (octet ∷ more))

-- ---- words

-- a part of a line
record IsPart (text : List ℕ) : Type 0 where
  has_no_feed : HasNoFeed text

part : (text : List ℕ) → HasNoFeed text → IsPart text
part text none = record { has_no_feed = none }

infixl 10 ◌then_part◌
◌then_part◌ : {a b : List ℕ} → IsPart a → IsPart b → IsPart (a ++ b)
◌then_part◌ {a} {b} first second = part (a ++ b) (two a b first.has_no_feed second.has_no_feed)

natural : (n : ℕ) → IsPart (decimal n)
natural n = part (decimal n) (number n)

whole : (z : ℤ) → IsPart (signed_decimal z)
whole z = part (signed_decimal z) (signed z)

digits_of : (name : ℕ) → IsPart (clock_text name)
digits_of name = part (clock_text name) (clock name)

escaped_word : (text : List ℕ) → IsPart (escaped text)
escaped_word text = part (escaped text) (word text)

name : (key : Name) → IsPart (name_text key)
name key = part (name_text key) (grind arith)

shape : (s : Shape) → IsPart (shape_word s)
shape s = part (shape_word s) (grind arith)

test : (fault : NetworkFault) → IsPart (plans.network_fault_text fault)
test fault = part (plans.network_fault_text fault) (grind arith)

port : (p : PortId) → IsPart (port_words p)
port p = digits_of p.clock then_part part (codes " ") refl then_part natural p.port

timing : (p : Params) (announce : ℤ) → IsPart (timing_words p announce)
timing p announce =
    part (codes "threshold ") refl then_part (natural p.threshold then_part (part (codes " turnaround ") refl
    then_part (natural p.turnaround then_part (part (codes " pdelay ") refl then_part (natural (nanoseconds p.pdelay)
    then_part (part (codes " announce ") refl then_part (natural (nanoseconds announce)
    then_part (part (codes " residence ") refl then_part (natural p.residence
    then_part (part (codes " sync ") refl then_part natural (nanoseconds p.sync)))))))))))

reason : (why : Why) → IsPart (why_words why)
reason (whys.Missing key) = part (codes "key ") refl then_part name key then_part part (codes " missing") refl
reason (whys.Kind key s) =
    part (codes "key ") refl then_part name key then_part part (codes " kind ") refl then_part shape s
reason (whys.Natural key value least most) =
    part (codes "key ") refl then_part name key then_part part (codes " value ") refl then_part whole value
    then_part part (codes " least ") refl then_part natural least then_part part (codes " most ") refl
    then_part natural most
reason (whys.Whole key value least most) =
    part (codes "key ") refl then_part name key then_part part (codes " value ") refl then_part whole value
    then_part part (codes " least ") refl then_part whole least then_part part (codes " most ") refl
    then_part whole most
reason (whys.Intervals count ports) =
    part (codes "key announce count ") refl then_part natural count then_part part (codes " of ") refl
    then_part natural ports
reason (whys.Text key front) =
    part (codes "key ") refl then_part name key then_part part (codes " value ") refl
    then_part escaped_word front.octets.items then_part part (codes " length ") refl then_part natural front.count
reason (whys.Above least greatest) =
    part (codes "key min value ") refl then_part natural least then_part part (codes " above ") refl
    then_part natural greatest
reason (whys.TooMany count most) =
    part (codes "count ") refl then_part natural count then_part part (codes " most ") refl then_part natural most
reason (whys.Duplicate own system) =
    part (codes "clock ") refl then_part (digits_of own then_part (part (codes " as system ") refl
    then_part natural system))
reason (whys.BothEnds own) =
    part (codes "clock ") refl then_part (digits_of own then_part part (codes " at both ends") refl)
reason (whys.UnknownClock own) =
    part (codes "clock ") refl then_part digits_of own then_part part (codes " unknown") refl
reason (whys.Beyond p ports) =
    part (codes "port ") refl then_part port p then_part part (codes " of ") refl then_part natural ports
reason (whys.Unlinked p) = part (codes "port ") refl then_part port p then_part part (codes " unlinked") refl
reason (whys.Taken p link) =
    part (codes "port ") refl then_part (port p then_part (part (codes " as link ") refl then_part natural link))
reason (whys.TooLong greatest most) =
    part (codes "key max value ") refl then_part natural greatest then_part part (codes " most ") refl
    then_part natural most
reason (whys.Before at before) =
    part (codes "at ") refl then_part natural at then_part part (codes " before ") refl then_part natural before
reason (whys.Timing params announce) = timing params announce
reason (whys.Other fault) = part (codes "fault ") refl then_part test fault
reason whys.Memory = part (codes "memory") refl

-- ---- places

header : (line : Option ℕ) → IsPart (line_words line)
header None = part [] refl
header (Some line) = part (codes " line ") refl then_part natural line

section : (s : Section) → IsPart (section_name s)
section System = part (codes "system") refl
section Link = part (codes "link") refl
section Event = part (codes "event") refl

place : (p : Place) (line : Option ℕ) → IsPart (place_words p line)
place Top line = part (codes "top") refl
place Network line = part (codes "network") refl
place (Member s count) line =
    section s then_part part (codes " ") refl then_part natural count then_part header line

known : (near : Option (List ℕ)) → IsPart (near_words near)
known None = part [] refl
known (Some key) = part (codes " near ") refl then_part escaped_word key

refusal : (r : Refusal) (line : Option ℕ) (near : Option (List ℕ)) → IsPart (refusal_words r line near)
refusal r line near =
    part (codes " ") refl then_part place (place_of r.place) line then_part part (codes " ") refl
    then_part reason r.why then_part known near

no_toml : (front : List ℕ) → IsPart (no_toml_words front)
no_toml front =
    part (codes " text line ") refl then_part natural (line_at_end front) then_part part (codes " column ") refl
    then_part natural (column_at_end front)

told : (text : List ℕ) (t : Members) (read : Result DocumentState Refusal) → HasNoFeed (refusal_tail text t read)
told text t (Ok d) = refl
told text t (Err r) =
    let place = place_of r.place in
    (refusal r (header_line text place) (meant_at t (outline_of_text text) place r.why)).has_no_feed

pub in_one_line : (text tail : List ℕ) → TellsPlace text tail → HasNoFeed tail
in_one_line text tail (inl (none, (n, within, is))) = subst HasNoFeed (sym is) (no_toml (take n text)).has_no_feed
in_one_line text tail (inr (t, parses, is)) = subst HasNoFeed (sym is) (told text t (read_document t))
