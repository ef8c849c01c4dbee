-- Octets have one reading as TLVs.
use Rattle.std.proofs.Common.{◌≡◌, ℕ, ◌+◌, ◌*◌, ◌/◌, ◌%◌, ◌^◌, ◌<◌, ◌≤◌, Bool, true, false, if◌then◌else◌, List, [], ◌∷◌, ◌++◌, length, get_or, take, drop, Option, Some, None, refl, sym, ap, ◌∙◌, append_assoc, arith}
use Rattle.std.specs.List.{flat_map, AllByRecursion}
use Rattle.std.proofs.lemmas.List.{append-nil, take-append-drop, length-append, length-take}
use Rattle.std.proofs.lemmas.Grind.{flat_map-append}
use Rattle.byteorder.specs.Endian.{big_bytes}
use Rattle.gptp_messages.specs.declared.tlv.TlvKind.{TlvKind}
use Rattle.gptp_messages.specs.Frame.{field}
use Rattle.gptp_messages.specs.Tlv.{Tlv, spelled, Fits, AreTlvs, HasTlvs, IsFront, HasFront, is_of_kind, either, first_value, FirstTlv}

abbrev pub IsOctets : List ℕ → Type 0
IsOctets f = (i : ℕ) → get_or f i 0 < 256

-- ---- one TLV

-- two octets are those of the number that they spell
two_octets : (a b : ℕ) → a < 256 → b < 256 → big_bytes 2 (a * 256 + (b * 1 + 0)) ≡ a ∷ b ∷ []
two_octets a b a-fits b-fits =
    let high : (a * 256 + (b * 1 + 0)) / 256 % 256 ≡ a = omega arith in
    let low : (a * 256 + (b * 1 + 0)) % 256 ≡ b = omega arith in
    rw (high, low) refl

-- the first four octets are those of the two numbers that they spell
type_and_length : (f : List ℕ) → IsOctets f → 4 ≤ length f
    → (big_bytes 2 (field 2 0 f) ++ big_bytes 2 (field 2 2 f)) ++ drop 4 f ≡ f
unfolding field
type_and_length [] octets long = absurd (omega arith)
type_and_length (a ∷ []) octets long = absurd (omega arith)
type_and_length (a ∷ b ∷ []) octets long = absurd (omega arith)
type_and_length (a ∷ b ∷ c ∷ []) octets long = absurd (omega arith)
type_and_length (a ∷ b ∷ c ∷ d ∷ rest) octets long =
    let front = two_octets a b (octets 0) (octets 1) in
    let back = two_octets c d (octets 2) (octets 3) in
    ap (λ (x : List ℕ). (x ++ big_bytes 2 (c * 256 + (d * 1 + 0))) ++ rest) front
    ∙ ap (λ (x : List ℕ). a ∷ b ∷ (x ++ rest)) back

-- the numbers in front of a TLV's value are its type and its length
field-spelled : (t : Tlv) (rest : List ℕ) → Fits t → (field 2 0 (spelled t ++ rest) ≡ t.tlv_type)
    × (field 2 2 (spelled t ++ rest) ≡ length t.value)
unfolding field
field-spelled t rest fits =
    let type-fits = fits.tlv_type in
    let length-fits = fits.length in
    (omega arith, omega arith)

-- octets that are long enough begin with a TLV
pub is_front : (f : List ℕ) → IsOctets f → 4 ≤ length f → field 2 2 f ≤ length (drop 4 f) → field 2 0 f < 2 ^ 16
    → field 2 2 f < 2 ^ 16
    → IsFront f (field 2 0 f) (take (field 2 2 f) (drop 4 f)) (drop (field 2 2 f) (drop 4 f))
is_front f octets long whole type-fits length-fits =
    let value-length : length (take (field 2 2 f) (drop 4 f))
    ≡ field 2 2 f = omega (arith, length-take (field 2 2 f) (drop 4 f)) in
    let head = big_bytes 2 (field 2 0 f) ++ big_bytes 2 (field 2 2 f) in
    let split : f ≡ (head ++ take (field 2 2 f) (drop 4 f)) ++ drop (field 2 2 f) (drop 4 f) =
    sym (append_assoc head (take (field 2 2 f) (drop 4 f)) (drop (field 2 2 f) (drop 4 f))
    ∙ ap (λ (x : List ℕ). head ++ x) (take-append-drop (field 2 2 f) (drop 4 f))
    ∙ type_and_length f octets long) in
    record {
      fits = record { tlv_type = type-fits; length = omega arith };
      spelling = rw value-length split;
    }

-- what begins with a TLV has its four octets and its value
pub front_is_long : (f : List ℕ) → HasFront f → (4 ≤ length f) × (field 2 2 f ≤ length (drop 4 f))
front_is_long f (tlv_type, value, rest, front) =
    let t : Tlv = record { tlv_type = tlv_type; value = value } in
    let numbers = field-spelled t rest front.fits in
    let long : length (spelled t ++ rest) ≡ 4 + length value + length rest = omega (arith, length-append value rest) in
    let behind : length (drop 4 (spelled t ++ rest))
    ≡ length value + length rest = omega (arith, length-append value rest) in
    rw front.spelling (omega arith, rw numbers.1 (omega arith))

-- ---- lists of TLVs

-- two lists with fronts of one length have the same front and the same rest
fronts : (v w x y : List ℕ) → length v ≡ length w → v ++ x ≡ w ++ y → (v ≡ w) × (x ≡ y)
fronts [] [] x y lengths e = (refl, e)
fronts [] (b ∷ w) x y lengths e = absurd (omega arith)
fronts (a ∷ v) [] x y lengths e = absurd (omega arith)
fronts (a ∷ v) (b ∷ w) x y lengths e =
    let heads : a ≡ b = cc in
    let tails : v ++ x ≡ w ++ y = cc in
    let ih = fronts v w x y (omega arith) tails in
    (ap (λ (h : ℕ). h ∷ v) heads ∙ ap (λ (z : List ℕ). b ∷ z) ih.0, ih.1)

-- the spelling of a TLV is no front of another's
one_front : (t u : Tlv) (x y : List ℕ) → Fits t → Fits u → spelled t ++ x ≡ spelled u ++ y → (t ≡ u) × (x ≡ y)
one_front t u x y t-fits u-fits e =
    let t-numbers = field-spelled t x t-fits in
    let u-numbers = field-spelled u y u-fits in
    let types : t.tlv_type ≡ u.tlv_type = sym t-numbers.0 ∙ ap (field 2 0) e ∙ u-numbers.0 in
    let lengths : length t.value ≡ length u.value = sym t-numbers.1 ∙ ap (field 2 2) e ∙ u-numbers.1 in
    let behind : t.value ++ x ≡ u.value ++ y = ap (drop 4) e in
    let values = fronts t.value u.value x y lengths behind in (
      ap (λ k. record { tlv_type = k; value = t.value }) types
          ∙ ap (λ v. record { tlv_type = u.tlv_type; value = v }) values.0,
      values.1,
    )

-- what comes after the first of some TLVs is the rest of them
record Cut (ts us : List Tlv) (rest : List ℕ) : Type 0 where
  others : List Tlv
  are : us ≡ ts ++ others
  fit : AllByRecursion Fits others
  spelling : rest ≡ flat_map spelled others

cut : (ts us : List Tlv) (rest : List ℕ) → AllByRecursion Fits ts → AllByRecursion Fits us
    → flat_map spelled ts ++ rest ≡ flat_map spelled us → Cut ts us rest
cut [] us rest ts-fit us-fit e = record { others = us; are = refl; fit = us-fit; spelling = e }
cut (t ∷ ts) [] rest ts-fit us-fit e = absurd cc
cut (t ∷ ts) (u ∷ us) rest ts-fit us-fit e =
    let first = one_front t u (flat_map spelled ts ++ rest) (flat_map spelled us) ts-fit.0 us-fit.0
    (sym (append_assoc (spelled t) (flat_map spelled ts) rest) ∙ e) in
    let ih = cut ts us rest ts-fit.1 us-fit.1 first.1 in
    record {
      others = ih.others;
      are = sym (ap (λ v. v ∷ us) first.0) ∙ ap (λ (v : List Tlv). t ∷ v) ih.are;
      fit = ih.fit;
      spelling = ih.spelling;
    }

-- octets are the spelling of one list of TLVs at most
pub one_list : (octets : List ℕ) (ts us : List Tlv) → AreTlvs octets ts → AreTlvs octets us → ts ≡ us
one_list octets ts us are also =
    let c = cut ts us [] are.fit also.fit (append-nil (flat_map spelled ts) ∙ sym are.spelling ∙ also.spelling) in
    sym (c.are ∙ ap (λ (v : List Tlv). ts ++ v) (none_left c.others c.spelling) ∙ append-nil ts)
  where
    none_left : (vs : List Tlv) → [] ≡ flat_map spelled vs → vs ≡ []
    none_left [] e = refl
    none_left (v ∷ vs) e = absurd cc

-- octets have one first TLV of a kind
pub one_first : (kind : TlvKind) (octets : List ℕ) (v w : Option (List ℕ)) → FirstTlv kind octets v
    → FirstTlv kind octets w → v ≡ w
one_first kind octets v w first also =
    first.first ∙ ap (first_value kind) (one_list octets first.tlvs also.tlvs first.are also.are) ∙ sym also.first

-- ---- a walk over TLVs

first_value-step : (kind : TlvKind) (t : Tlv) (ts us : List Tlv) (b : Bool) → is_of_kind kind t ≡ b
    → first_value kind (ts ++ us) ≡ either (first_value kind ts) (first_value kind us)
    → first_value kind (t ∷ (ts ++ us)) ≡ either (first_value kind (t ∷ ts)) (first_value kind us)
first_value-step kind t ts us true is behind = rw is refl
first_value-step kind t ts us false is behind = rw is behind

-- the first of a kind is looked for in the front, and then after it
first_value-append : (kind : TlvKind) (ts us : List Tlv)
    → first_value kind (ts ++ us) ≡ either (first_value kind ts) (first_value kind us)
first_value-append kind [] us = refl
first_value-append kind (t ∷ ts) us =
    first_value-step kind t ts us (is_of_kind kind t) refl (first_value-append kind ts us)

-- the octets are some TLVs that fit and then the rest, and `found` is the first value of a kind among them
pub record Walked (kind : TlvKind) (octets rest : List ℕ) (found : Option (List ℕ)) : Type 0 where
  pub passed : List Tlv
  pub fit : AllByRecursion Fits passed
  pub split : octets ≡ flat_map spelled passed ++ rest
  pub found_is : found ≡ first_value kind passed

-- one more TLV that fits
fits-append : (ts : List Tlv) (t : Tlv) → AllByRecursion Fits ts → Fits t → AllByRecursion Fits (ts ++ t ∷ [])
fits-append [] t fit t-fits = (t-fits, tt)
fits-append (u ∷ us) t fit t-fits = (fit.0, fits-append us t fit.1 t-fits)

spelled-push : (ts : List Tlv) (t : Tlv) → flat_map spelled ts ++ spelled t ≡ flat_map spelled (ts ++ t ∷ [])
spelled-push ts t =
    ap (λ (x : List ℕ). flat_map spelled ts ++ x) (sym (append-nil (spelled t)))
    ∙ sym (flat_map-append spelled ts (t ∷ []))

pub walk_goes_on : (kind : TlvKind) (octets rest : List ℕ) (found : Option (List ℕ)) (tlv_type : ℕ)
    (value behind : List ℕ)
    → Walked kind octets rest found → IsFront rest tlv_type value behind
    → Walked kind octets behind
    (either found (if is_of_kind kind (record { tlv_type = tlv_type; value = value }) then Some value else None))
walk_goes_on kind octets rest found tlv_type value behind walked front =
    let t : Tlv = record { tlv_type = tlv_type; value = value } in
    record {
      passed = walked.passed ++ t ∷ [];
      fit = fits-append walked.passed t walked.fit front.fits;
      split = walked.split ∙ ap (λ (x : List ℕ). flat_map spelled walked.passed ++ x) front.spelling
          ∙ sym (append_assoc (flat_map spelled walked.passed) (spelled t) behind)
          ∙ ap (λ (x : List ℕ). x ++ behind) (spelled-push walked.passed t);
      found_is = ap (λ (o : Option (List ℕ)). either o (first_value kind (t ∷ []))) walked.found_is
          ∙ sym (first_value-append kind walked.passed (t ∷ []));
    }

-- where no TLV begins, and yet octets are left, the whole isn't a list of TLVs
pub walk_is_stuck : (kind : TlvKind) (octets rest : List ℕ) (found : Option (List ℕ)) → Walked kind octets rest found
    → 0 < length rest → (HasFront rest → ⊥) → HasTlvs octets → ⊥
walk_is_stuck kind octets rest found walked some stuck (ts, are) =
    let c = cut walked.passed ts rest walked.fit are.fit (sym walked.split ∙ are.spelling) in
    front_of c.others c.fit c.spelling
  where
    front_of : (vs : List Tlv) → AllByRecursion Fits vs → rest ≡ flat_map spelled vs → ⊥
    front_of [] fit e = absurd (omega (arith, ap length e))
    front_of (v ∷ vs) fit e = stuck (v.tlv_type, v.value, flat_map spelled vs, record { fits = fit.0; spelling = e })
