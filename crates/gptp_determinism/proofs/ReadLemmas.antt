-- Every frame reads as a message, or is refused.
use Rattle.std.proofs.Common.{◌≡◌, ◌==◌, ◌⊎◌, ◌<◌, ◌≤◌, ◌%◌, ◌^◌, ◌-◌, ℕ, zero, suc, ℤ, pos, Bool, true, false, if◌then◌else◌, nat_lt, is_none, unwrap_or, List, [], ◌∷◌, length, get_or, take, drop, slice_range, Option, Some, None, refl, subst, ◌∙◌, inl, inr, arith, ltb-false}
use Rattle.std.specs.Int.{w32, cast_signed}
use Rattle.std.specs.List.{AllByRecursion, flat_map}
use Rattle.std.specs.Option.{option_map_or}
use Rattle.std.proofs.lemmas.List.{append-nil, length-drop}
use native.Mathlib.Decide.{ℕ_discrete, dec_le, dec_lt}
use Rattle.gptp_messages.specs.declared.message.Message.{Message}
use Rattle.gptp_messages.specs.declared.refused.Refused.{Refused}
use Rattle.gptp_messages.specs.declared.refused.Refused.TheVariants as refusals
use Rattle.gptp_messages.specs.Announce.{ReadsPath, announce_tlvs}
use Rattle.gptp_messages.specs.FollowUp.{ReadsRate, follow_up_tlvs}
use Rattle.gptp_messages.specs.Frame.{field}
use Rattle.gptp_messages.specs.Grammar.{PassesHeader, Reads, RefusesFrame, StampIsRead, TlvsAreRead, first_failed, header_fault, header_tests, message_of}
use Rattle.gptp_messages.specs.Head.{message_length, message_type}
use Rattle.gptp_messages.specs.MessageType.{least_length, type_of}
use Rattle.gptp_vector.specs.Trace.{clocks}
use Rattle.gptp_messages.specs.Timestamp.{HasStamp}
use Rattle.gptp_messages.specs.Tlv.{FirstTlv, HasFront, HasTlvs, IsFront, either, is_of_kind, spelled}
use Rattle.gptp_messages.proofs.GrammarLemmas.{no_rate, odd_path, odd_rate}
use Rattle.gptp_messages.proofs.TlvLemmas.{Walked, front_is_long, is_front, walk_goes_on, walk_is_stuck}
use Rattle.gptp_determinism.specs.ExistenceLaws.{FramesAreJudged}
use Rattle.gptp_determinism.specs.GoingOn.{AllAreOctets}

-- ---- octets

-- what stands at a place is below 256
octets_at : (f : List ℕ) → AllAreOctets f → (i : ℕ) → get_or f i 0 < 256
octets_at [] octets i = omega arith
octets_at (x ∷ xs) octets zero = octets.0
octets_at (x ∷ xs) octets (suc i) = octets_at xs octets.1 i

-- a rest and a front of octets are octets, and so is what stands between two places
octets_drop : (n : ℕ) (f : List ℕ) → AllAreOctets f → AllAreOctets (drop n f)
octets_drop zero f octets = octets
octets_drop (suc n) [] octets = tt
octets_drop (suc n) (x ∷ xs) octets = octets_drop n xs octets.1

octets_take : (n : ℕ) (f : List ℕ) → AllAreOctets f → AllAreOctets (take n f)
octets_take zero f octets = tt
octets_take (suc n) [] octets = tt
octets_take (suc n) (x ∷ xs) octets = (octets.0, octets_take n xs octets.1)

octets_between : (from to : ℕ) (f : List ℕ) → AllAreOctets f → AllAreOctets (slice_range f from to)
octets_between from to f octets = octets_take (to - from) (drop from f) (octets_drop from f octets)

-- the number in two octets fits them
two_fit : (i : ℕ) (f : List ℕ) → AllAreOctets f → field 2 i f < 2 ^ 16
unfolding field
two_fit i f octets =
    let behind = octets_drop i f octets in
    let high : get_or (drop i f) 0 0 < 256 = octets_at (drop i f) behind 0 in
    let low : get_or (drop i f) 1 0 < 256 = octets_at (drop i f) behind 1 in
    omega arith

-- ---- TLVs

-- octets are cut after the TLV at their front, and fewer are left
record CutFront (f : List ℕ) : Type 0 where
  tlv_type : ℕ
  value : List ℕ
  rest : List ℕ
  is : IsFront f tlv_type value rest
  shorter : length rest < length f
  octets : AllAreOctets rest

-- octets that are long enough can be cut so
cut_front : (f : List ℕ) → AllAreOctets f → 4 ≤ length f → field 2 2 f ≤ length (drop 4 f) → CutFront f
cut_front f octets long whole =
    let behind = length-drop 4 f in
    let left = length-drop (field 2 2 f) (drop 4 f) in
    record {
      tlv_type = field 2 0 f;
      value = take (field 2 2 f) (drop 4 f);
      rest = drop (field 2 2 f) (drop 4 f);
      is = is_front f (λ i. octets_at f octets i) long whole (two_fit 0 f octets) (two_fit 2 f octets);
      shorter = omega arith;
      octets = octets_drop (field 2 2 f) (drop 4 f) (octets_drop 4 f octets);
    }

-- any others begin with no TLV
front_or_none : (f : List ℕ) → AllAreOctets f → CutFront f ⊎ (HasFront f → ⊥)
front_or_none f octets = by (dec_le 4 (length f)) (dec_le (field 2 2 f) (length (drop 4 f)))
  where
    by : Dec (4 ≤ length f) → Dec (field 2 2 f ≤ length (drop 4 f)) → CutFront f ⊎ (HasFront f → ⊥)
    by (no short) whole = inr (λ front. short (front_is_long f front).0)
    by (yes long) (no part) = inr (λ front. part (front_is_long f front).1)
    by (yes long) (yes whole) = inl (cut_front f octets long whole)

-- all octets are walked over
all_walked : (kind : _) (f : List ℕ) (found : Option (List ℕ)) → Walked kind f [] found
    → (value : Option (List ℕ)) × FirstTlv kind f value
all_walked kind f found walked = (
  found,
  record {
    tlvs = walked.passed;
    are = record {
      fit = walked.fit;
      spelling = walked.split ∙ append-nil (flat_map spelled walked.passed);
    };
    first = walked.found_is;
  },
)

-- a walk over TLVs comes to the end of the octets, or is stuck
walk : (kind : _) (f : List ℕ) (fuel : ℕ) (rest : List ℕ) (found : Option (List ℕ)) → AllAreOctets rest
    → length rest ≤ fuel → Walked kind f rest found
    → ((value : Option (List ℕ)) × FirstTlv kind f value) ⊎ (HasTlvs f → ⊥)
walk kind f zero [] found octets few walked = inl (all_walked kind f found walked)
walk kind f zero (x ∷ xs) found octets few walked = absurd (omega arith)
walk kind f (suc fuel) [] found octets few walked = inl (all_walked kind f found walked)
walk kind f (suc fuel) (x ∷ xs) found octets few walked = elim (front_or_none (x ∷ xs) octets) [
  | inl cut ↦
      let less = cut.shorter in
      walk kind f fuel cut.rest
      (either found
      (if is_of_kind kind (record { tlv_type = cut.tlv_type; value = cut.value }) then Some cut.value else None))
      cut.octets (omega arith)
      (walk_goes_on kind f (x ∷ xs) found cut.tlv_type cut.value cut.rest walked cut.is)
  | inr stuck ↦ inr (walk_is_stuck kind f (x ∷ xs) found walked (omega arith) stuck)
]

-- octets are TLVs, of which there is a first of a kind or none, or they aren't TLVs
first_or_none : (kind : _) (f : List ℕ) → AllAreOctets f
    → ((value : Option (List ℕ)) × FirstTlv kind f value) ⊎ (HasTlvs f → ⊥)
first_or_none kind f octets =
    walk kind f (length f) f None octets (omega arith)
    (record { passed = []; fit = tt; split = refl; found_is = refl })

-- ---- a path and a rate

-- this is so, or it isn't
abbrev IsEither : Type 0 → Type 0
IsEither P = P ⊎ (P → ⊥)

by_test : {A : Type 0} (P : Type 0) → Dec A → (A → P) → ((A → ⊥) → P → ⊥) → IsEither P
by_test P (yes is) to other = inl (to is)
by_test P (no is) to other = inr (other is)

-- what is read of the first TLV of a kind is so, or it isn't
by_first : (kind : _) (f : List ℕ) (P : Type 0)
    → ((value : Option (List ℕ)) × FirstTlv kind f value) ⊎ (HasTlvs f → ⊥) → (FirstTlv kind f None → IsEither P)
    → ((value : List ℕ) → FirstTlv kind f (Some value) → IsEither P) → (P → HasTlvs f) → IsEither P
by_first kind f P (inl (None, first)) none some tlvs = none first
by_first kind f P (inl (Some value, first)) none some tlvs = some value first
by_first kind f P (inr stuck) none some tlvs = inr (λ is. stuck (tlvs is))

abbrev HasPath : List ℕ → Type 0
HasPath f = (path : List ℕ) × ReadsPath f path

path_or_none : (f : List ℕ) → AllAreOctets f → IsEither (HasPath f)
path_or_none f octets =
    by_first _ f (HasPath f) (first_or_none _ f octets)
    (λ first. inl ([], record { value = None; first = first; is = refl }))
    (λ value first. by_test (HasPath f) (ℕ_discrete (length value % 8) 0)
    (λ whole. (clocks value, record { value = Some value; first = first; is = (whole, refl) }))
    (λ odd has. odd_path f value has.0 first odd has.1))
    (λ has. (has.1.first.tlvs, has.1.first.are))

abbrev HasRate : List ℕ → Type 0
HasRate f = (rate : ℤ) × ReadsRate f rate

rate_or_none : (f : List ℕ) → AllAreOctets f → IsEither (HasRate f)
rate_or_none f octets =
    by_first _ f (HasRate f) (first_or_none _ f octets) (λ first. inr (λ has. no_rate f has.0 first has.1))
    (λ value first. by_test (HasRate f) (ℕ_discrete (length value) 28)
    (λ long. (cast_signed w32 (field 4 6 value), record { value = value; first = first; long = long; is = refl }))
    (λ odd has. odd_rate f value has.0 first odd has.1))
    (λ has. (has.1.first.tlvs, has.1.first.are))

-- ---- what comes after the fixed part, and the timestamp

-- of the message of a number, or of another
chosen : {X : Type 0} (P : X → Type 0) (test : Bool) (x : X) (others : Option X) (kind : X)
    → (if test then Some x else others) ≡ Some kind → P x → (others ≡ Some kind → P kind) → P kind
chosen P true x others kind is here behind = let same : x ≡ kind = cc in subst P same here
chosen P false x others kind is here behind = behind is

-- the messages have these numbers
by_number : (P : _ → Type 0) (n : ℕ) (kind : _) → type_of n ≡ Some kind → P (unwrap_or (type_of 0x0) kind)
    → P (unwrap_or (type_of 0x2) kind) → P (unwrap_or (type_of 0x3) kind) → P (unwrap_or (type_of 0x8) kind)
    → P (unwrap_or (type_of 0xA) kind) → P (unwrap_or (type_of 0xB) kind) → P kind
by_number P n kind is sync req resp follow_up resp_follow_up announce =
    chosen P (n == 0x0) _ _ kind is sync (λ is.
    chosen P (n == 0x2) _ _ kind is req (λ is.
    chosen P (n == 0x3) _ _ kind is resp (λ is.
    chosen P (n == 0x8) _ _ kind is follow_up (λ is.
    chosen P (n == 0xA) _ _ kind is resp_follow_up (λ is.
    chosen P (n == 0xB) _ _ kind is announce (λ is. absurd cc))))))

announce_by_path : (f : List ℕ) → IsEither (HasPath (announce_tlvs f))
    → IsEither ((path : List ℕ) × (rate : ℤ) × ReadsPath (announce_tlvs f) path)
announce_by_path f (inl has) = inl (has.0, pos 0, has.1)
announce_by_path f (inr none) = inr (λ tlvs. none (tlvs.0, tlvs.2))

follow_up_by_rate : (f : List ℕ) → IsEither (HasRate (follow_up_tlvs f))
    → IsEither ((path : List ℕ) × (rate : ℤ) × ReadsRate (follow_up_tlvs f) rate)
follow_up_by_rate f (inl has) = inl ([], has.0, has.1)
follow_up_by_rate f (inr none) = inr (λ tlvs. none (tlvs.1, tlvs.2))

-- TLVs are read or not
tlvs_or_none : (n : ℕ) (kind : _) (f : List ℕ) → type_of n ≡ Some kind → AllAreOctets f
    → IsEither (TlvsAreRead kind f)
tlvs_or_none n kind f is octets =
    by_number (λ k. IsEither (TlvsAreRead k f)) n kind is (inl ([], pos 0, tt)) (inl ([], pos 0, tt))
    (inl ([], pos 0, tt))
    (follow_up_by_rate f (rate_or_none (follow_up_tlvs f) (octets_between 44 (message_length f) f octets)))
    (inl ([], pos 0, tt))
    (announce_by_path f (path_or_none (announce_tlvs f) (octets_between 64 (message_length f) f octets)))

in_range : (f : List ℕ) → IsEither (HasStamp f)
in_range f = by_test (HasStamp f) (dec_lt (field 4 40 f) 1000000000) (λ within. within) (λ over within. over within)

-- a timestamp is read or not
stamp_or_none : (n : ℕ) (kind : _) (f : List ℕ) → type_of n ≡ Some kind → IsEither (StampIsRead kind f)
stamp_or_none n kind f is =
    by_number (λ k. IsEither (StampIsRead k f)) n kind is (inl tt) (inl tt) (in_range f) (in_range f) (in_range f)
    (inl tt)

-- ---- the header

-- a test that doesn't fail
abbrev Passes : Bool × Refused → Type 0
Passes test = test.0 ≡ false

passed_step : (fails : Bool) (refused : Refused) (tests : List (Bool × Refused))
    → (first_failed tests ≡ None → AllByRecursion Passes tests)
    → (if fails then Some refused else first_failed tests) ≡ None → (fails ≡ false) × AllByRecursion Passes tests
passed_step true refused tests behind none = absurd cc
passed_step false refused tests behind none = (refl, behind none)

-- where there is no first test that fails, none fails
each_passes : (tests : List (Bool × Refused)) → first_failed tests ≡ None → AllByRecursion Passes tests
each_passes [] none = tt
each_passes (test ∷ tests) none = passed_step test.0 test.1 tests (λ rest. each_passes tests rest) none

some_kind : {X : Type 0} (o : Option X) → is_none o ≡ false → (kind : X) × (o ≡ Some kind)
some_kind None is = absurd cc
some_kind (Some kind) is = (kind, refl)

least_of : {X : Type 0} (least : X → ℕ) (o : Option X) (kind : X) (n : ℕ) → o ≡ Some kind
    → nat_lt n (option_map_or least o 0) ≡ false → least kind ≤ n
least_of least None kind n is enough = absurd cc
least_of least (Some other) kind n is enough =
    let same : other ≡ kind = cc in subst (λ k. least k ≤ n) same (ltb-false n (least other) enough)

-- a frame none of whose tests fails has the whole of a message of some type
header_passes : (f : List ℕ) → header_fault f ≡ None → (kind : _) × PassesHeader f kind
header_passes f none =
    let passed : AllByRecursion Passes (header_tests f) = each_passes (header_tests f) none in
    let known = some_kind (type_of (message_type f)) passed.1.1.1.0 in (
      known.0,
      record {
        header = none;
        kind_is = known.1;
        least = least_of least_length (type_of (message_type f)) known.0 (message_length f) known.1 passed.1.1.1.1.0;
        whole = ltb-false (length f) (message_length f) passed.1.1.1.1.1.0;
      },
    )

-- ---- a frame

-- a frame reads as some message, or is refused somehow
abbrev IsJudged : List ℕ → Type 0
IsJudged f = ((message : Message) × Reads f message) ⊎ ((refused : Refused) × RefusesFrame f refused)

-- a frame whose header passes is judged by its TLVs, and then by its timestamp
judged_by_parts : (f : List ℕ) (kind : _) → PassesHeader f kind → IsEither (TlvsAreRead kind f)
    → IsEither (StampIsRead kind f) → IsJudged f
judged_by_parts f kind header (inr unread) stamp =
    inr (refusals.Tlv, inr (inl (record { kind = kind; header = header; unread = unread; is = refl })))
judged_by_parts f kind header (inl tlvs) (inr unread) =
    inr (
      refusals.StampRange,
      inr (inr (record { kind = kind; header = header; tlvs = tlvs; unread = unread; is = refl })),
    )
judged_by_parts f kind header (inl tlvs) (inl stamp) =
    inl (
      message_of kind f tlvs.0 tlvs.1,
      record {
        kind = kind;
        header = header;
        path = tlvs.0;
        rate = tlvs.1;
        tlvs = tlvs.2;
        stamp = stamp;
        is = refl;
      },
    )

-- and any other by the first test that it fails
judged_by_fault : (f : List ℕ) → AllAreOctets f → (fault : Option Refused) → header_fault f ≡ fault → IsJudged f
judged_by_fault f octets (Some refused) is = inr (refused, inl is)
judged_by_fault f octets None is =
    let passes = header_passes f is in
    let n = message_type f in
    judged_by_parts f passes.0 passes.1 (tlvs_or_none n passes.0 f passes.1.kind_is octets)
    (stamp_or_none n passes.0 f passes.1.kind_is)

pub frames_are_judged : FramesAreJudged
frames_are_judged frame octets = judged_by_fault frame octets (header_fault frame) refl
