-- A frame has one reading or one refusal, and never both.
use Rattle.std.proofs.Common.{◌≡◌, ℕ, ℤ, ◌%◌, refl, List, length, Option, Some, None, Result, Ok, Err, sym, ap, ◌∙◌, inl, inr}
use Rattle.std.specs.Prelude.{IfOk, IfErr}
use Rattle.std.specs.Int.{w32, cast_signed}
use Rattle.gptp_messages.specs.declared.message.Message.{Message}
use Rattle.gptp_messages.specs.declared.message_type.MessageType.{MessageType}
use Rattle.gptp_messages.specs.declared.message_type.MessageType.TheVariants.{Sync, PdelayReq, PdelayResp, FollowUp, PdelayRespFollowUp, Announce}
use Rattle.gptp_messages.specs.declared.refused.Refused.{Refused}
use Rattle.gptp_messages.specs.declared.tlv.TlvKind.TheVariants.{PathTrace, Information}
use Rattle.gptp_messages.specs.Frame.{field}
use Rattle.gptp_messages.specs.Tlv.{FirstTlv}
use Rattle.gptp_messages.specs.Announce.{IsPathTrace, ReadsPath, announce_tlvs}
use Rattle.gptp_messages.specs.FollowUp.{ReadsRate, follow_up_tlvs}
use Rattle.gptp_messages.specs.Grammar.{PassesHeader, ReadsTlvs, message_of, Reads, RefusesTlvs, RefusesStamp, RefusesFrame}
use Rattle.gptp_messages.proofs.TlvLemmas.{one_first}

-- a path trace whose length is no multiple of eight has no reading
pub odd_path : (octets value path : List ℕ) → FirstTlv PathTrace octets (Some value) → (length value % 8 ≡ 0 → ⊥)
    → ReadsPath octets path → ⊥
odd_path octets value path first odd reads =
    let e = one_first PathTrace octets reads.value (Some value) reads.first first in
    let is : IsPathTrace (Some value) path = rw e at reads.is in
    odd is.0

-- one value of a path trace is one path
one_value : (v : Option (List ℕ)) (p q : List ℕ) → IsPathTrace v p → IsPathTrace v q → p ≡ q
one_value None p q p-is q-is = p-is ∙ sym q-is
one_value (Some value) p q p-is q-is = p-is.1 ∙ sym q-is.1

-- octets have one path
one_path : (octets p q : List ℕ) → ReadsPath octets p → ReadsPath octets q → p ≡ q
one_path octets p q p-reads q-reads =
    let e = one_first PathTrace octets p-reads.value q-reads.value p-reads.first q-reads.first in
    let p-is : IsPathTrace q-reads.value p = rw e at p-reads.is in
    one_value q-reads.value p q p-is q-reads.is

-- without an information TLV, or with one of another length, no rate is read
pub no_rate : (octets : List ℕ) (rate : ℤ) → FirstTlv Information octets None → ReadsRate octets rate → ⊥
no_rate octets rate first reads =
    let e = one_first Information octets (Some reads.value) None reads.first first in
    absurd cc

pub odd_rate : (octets value : List ℕ) (rate : ℤ) → FirstTlv Information octets (Some value) → (length value ≡ 28 → ⊥)
    → ReadsRate octets rate → ⊥
odd_rate octets value rate first odd reads =
    let e = one_first Information octets (Some reads.value) (Some value) reads.first first in
    let values : reads.value ≡ value = cc in
    odd (sym (ap length values) ∙ reads.long)

-- octets have one rate
one_rate : (octets : List ℕ) (p q : ℤ) → ReadsRate octets p → ReadsRate octets q → p ≡ q
one_rate octets p q p-reads q-reads =
    let e = one_first Information octets (Some p-reads.value) (Some q-reads.value) p-reads.first q-reads.first in
    let values : p-reads.value ≡ q-reads.value = cc in
    p-reads.is ∙ ap (λ (v : List ℕ). cast_signed w32 (field 4 6 v)) values ∙ sym q-reads.is

-- a frame is of one type
one_kind : (f : List ℕ) (k l : MessageType) → PassesHeader f k → PassesHeader f l → k ≡ l
one_kind f k l k-passes l-passes = let a = k-passes.kind_is in let b = l-passes.kind_is in cc

-- of one type, a frame is one message
one_message : (kind : MessageType) (f p q : List ℕ) (r s : ℤ) → ReadsTlvs kind f p r → ReadsTlvs kind f q s
    → message_of kind f p r ≡ message_of kind f q s
one_message Sync f p q r s m-tlvs n-tlvs = refl
one_message PdelayReq f p q r s m-tlvs n-tlvs = refl
one_message PdelayResp f p q r s m-tlvs n-tlvs = refl
one_message FollowUp f p q r s m-tlvs n-tlvs =
    ap (message_of FollowUp f p) (one_rate (follow_up_tlvs f) r s m-tlvs n-tlvs)
one_message PdelayRespFollowUp f p q r s m-tlvs n-tlvs = refl
one_message Announce f p q r s m-tlvs n-tlvs =
    ap (λ (path : List ℕ). message_of Announce f path r) (one_path (announce_tlvs f) p q m-tlvs n-tlvs)

-- a frame reads as one message at most
pub one_reading : (f : List ℕ) (m n : Message) → Reads f m → Reads f n → m ≡ n
one_reading f m n m-reads n-reads =
    let kinds = one_kind f n-reads.kind m-reads.kind n-reads.header m-reads.header in
    let tlvs : ReadsTlvs m-reads.kind f n-reads.path n-reads.rate = rw (← kinds) n-reads.tlvs in
    let is : n ≡ message_of m-reads.kind f n-reads.path n-reads.rate = rw (← kinds) n-reads.is in
    m-reads.is ∙ one_message m-reads.kind f m-reads.path n-reads.path m-reads.rate n-reads.rate m-reads.tlvs tlvs
    ∙ sym is

-- what reads as a message isn't refused
pub never_both : (f : List ℕ) (m : Message) (e : Refused) → Reads f m → RefusesFrame f e → ⊥
never_both f m e reads (inl fault) = let none = reads.header.header in absurd cc
never_both f m e reads (inr (inl refuses)) =
    let kinds = one_kind f reads.kind refuses.kind reads.header refuses.header in
    refuses.unread (rw (← kinds) (reads.path, reads.rate, reads.tlvs))
never_both f m e reads (inr (inr refuses)) =
    let kinds = one_kind f reads.kind refuses.kind reads.header refuses.header in
    refuses.unread (rw (← kinds) reads.stamp)

-- a timestamp is refused only where the TLVs aren't
not_first : (f : List ℕ) (d e : Refused) → RefusesTlvs f d → RefusesStamp f e → ⊥
not_first f d e tlvs stamp =
    let kinds = one_kind f stamp.kind tlvs.kind stamp.header tlvs.header in
    tlvs.unread (rw (← kinds) stamp.tlvs)

-- a frame is refused in one way
pub one_refusal : (f : List ℕ) (d e : Refused) → RefusesFrame f d → RefusesFrame f e → d ≡ e
one_refusal f d e (inl d-fault) (inl e-fault) = cc
one_refusal f d e (inl d-fault) (inr (inl tlvs)) = absurd (let none = tlvs.header.header in cc)
one_refusal f d e (inl d-fault) (inr (inr stamp)) = absurd (let none = stamp.header.header in cc)
one_refusal f d e (inr (inl tlvs)) (inl e-fault) = absurd (let none = tlvs.header.header in cc)
one_refusal f d e (inr (inr stamp)) (inl e-fault) = absurd (let none = stamp.header.header in cc)
one_refusal f d e (inr (inl d-tlvs)) (inr (inl e-tlvs)) = d-tlvs.is ∙ sym e-tlvs.is
one_refusal f d e (inr (inr d-stamp)) (inr (inr e-stamp)) = d-stamp.is ∙ sym e-stamp.is
one_refusal f d e (inr (inl tlvs)) (inr (inr stamp)) = absurd (not_first f d e tlvs stamp)
one_refusal f d e (inr (inr stamp)) (inr (inl tlvs)) = absurd (not_first f e d tlvs stamp)

-- an answer that reads or refuses is the only one
pub only_reading : (f : List ℕ) (r : Result Message Refused) → IfOk r (Reads f) → IfErr r (RefusesFrame f)
    → (m : Message)
    → Reads f m → r ≡ Ok m
only_reading f (Ok n) reads refuses m m-reads = ap Ok (one_reading f n m reads m-reads)
only_reading f (Err e) reads refuses m m-reads = absurd (never_both f m e m-reads refuses)

pub only_refusal : (f : List ℕ) (r : Result Message Refused) → IfOk r (Reads f) → IfErr r (RefusesFrame f)
    → (e : Refused)
    → RefusesFrame f e → r ≡ Err e
only_refusal f (Ok n) reads refuses e e-refuses = absurd (never_both f n e reads e-refuses)
only_refusal f (Err d) reads refuses e e-refuses = ap Err (one_refusal f d e refuses e-refuses)
