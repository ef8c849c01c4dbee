-- What octets are read as: numbers that fit their octets.
use Rattle.std.proofs.Common.{◌≡◌, ◌<◌, ℕ, zero, suc, ◌*◌, ◌/◌, ◌^◌, Bool, true, false, List, [], ◌∷◌, ◌++◌, length, drop, Option, Some, None, refl, sym, ap, subst, ◌∙◌, inl, inr, arith}
use Rattle.std.specs.Prelude.{if◌then◌else◌, slice_index}
use Rattle.std.specs.List.{flat_map, range_with_len}
use Rattle.std.proofs.lemmas.Option.{none-some, same_Some}
use Rattle.gptp_lists.proofs.SystemSpecLemmas.{In-left, In-right, In-take, from_map}
use Rattle.byteorder.specs.Endian.{big_bytes}
use Rattle.byteorder.specs.Numbers.{big_from-lt}
use Rattle.gptp_lists.specs.Members.{In}
use Rattle.gptp_messages.specs.declared.announce.AnnounceView.{AnnounceView}
use Rattle.gptp_messages.specs.declared.head.Head.{Head}
use Rattle.gptp_messages.specs.declared.message.Message.TheVariants as messages
use Rattle.gptp_messages.specs.Announce.{IsPathTrace, ReadsPath, announce_body_of, announce_tlvs}
use Rattle.gptp_messages.specs.Frame.{field}
use Rattle.gptp_messages.specs.Grammar.{Reads, ReadsTlvs, message_of}
use Rattle.gptp_messages.specs.Head.{head_of}
use Rattle.gptp_messages.specs.MessageType.{type_of}
use Rattle.gptp_vector.specs.Trace.{clocks}
use Rattle.gptp_messages.specs.Tlv.{FirstTlv, Tlv, first_value, is_of_kind, spelled}
use Rattle.gptp_system.proofs.TypeLemmas.{type_is}
use Rattle.gptp_invariants.specs.WorldEncodable.{AreClocks, AreOctets, SayWhatFits}
use Rattle.gptp_invariants.specs.DelayLinkView.{RequestFits, RequestSaysWhatFits}

-- ---- octets

In-drop : {X : Type 0} (x : X) (n : ℕ) (xs : List X) → In x (drop n xs) → In x xs
In-drop x zero xs h = h
In-drop x (suc n) [] h = absurd h
In-drop x (suc n) (y ∷ ys) h = inr (In-drop x n ys h)

octet_at : (octets : List ℕ) → AreOctets octets → (k : ℕ) → slice_index octets k < 256
octet_at [] all k = omega arith
octet_at (x ∷ xs) all zero = all x (inl refl)
octet_at (x ∷ xs) all (suc k) = octet_at xs (λ y member. all y (inr member)) k

-- a number of n octets is below 256 to the power n
field_fits : (n i : ℕ) (octets : List ℕ) → AreOctets octets → field n i octets < 256 ^ n
unfolding field
field_fits n i octets all =
    big_from-lt 0 n (drop i octets) (octet_at (drop i octets) (λ x member. all x (In-drop x i octets member)))

clocks_fit : (octets : List ℕ) → AreOctets octets → AreClocks (clocks octets)
unfolding clocks field
clocks_fit octets all c member =
    let (k, among, is) = from_map (λ j. field 8 (8 * j) octets) c (range_with_len 0 (length octets / 8)) member in
    subst (λ x. x < 2 ^ 64) is (field_fits 8 (8 * k) octets all)

-- the value of the first TLV that passes a test stands among the octets
first_among : (test : Tlv → Bool) (first : List Tlv → Option (List ℕ)) → first [] ≡ None
    → ((t : Tlv) (ts : List Tlv) → first (t ∷ ts) ≡ (if test t then Some t.value else first ts))
    → (ts : List Tlv) (value : List ℕ) → first ts ≡ Some value → (x : ℕ) → In x value → In x (flat_map spelled ts)
first_among test first none more [] value is x member = absurd (none-some value (sym none ∙ is))
first_among test first none more (t ∷ ts) value is x member =
    go (test t) (sym (more t ts) ∙ is) (λ e. first_among test first none more ts value e x member)
  where
    go : (b : Bool) → (if b then Some t.value else first ts) ≡ Some value
        → (first ts ≡ Some value → In x (flat_map spelled ts))
        → In x (spelled t ++ flat_map spelled ts)
    go true e later =
        In-left x (spelled t) (flat_map spelled ts)
        (In-right x (big_bytes 2 t.tlv_type ++ big_bytes 2 (length t.value)) t.value
        (subst (In x) (sym (same_Some t.value value e)) member))
    go false e later = In-right x (spelled t) (flat_map spelled ts) (later e)

value_fits : (value : Option (List ℕ)) (path : List ℕ) → ((v : List ℕ) → value ≡ Some v → AreOctets v)
    → IsPathTrace value path → AreClocks path
value_fits None path all is = λ c member. absurd (subst (In c) is member)
value_fits (Some v) path all is = subst AreClocks (sym is.1) (clocks_fit v (all v refl))

-- what is true of every kind is true of one that has no name here
of_kind : {K : Type 0} (First : K → Type 0) (P : Type 0) → ((kind : K) → First kind → P) → (kind : K) → First kind → P
of_kind First P every kind first = every kind first

path_fits : (octets path : List ℕ) → AreOctets octets → ReadsPath octets path → AreClocks path
path_fits octets path all k =
    of_kind (λ kind. FirstTlv kind octets k.value) (AreClocks path)
    (λ kind first. value_fits k.value path
    (λ v is x member. all x
    (subst (In x) (sym first.are.spelling)
    (first_among (is_of_kind kind) (first_value kind) refl (λ t ts. refl) first.tlvs v (sym first.first ∙ is) x
    member)))
    k.is)
    _ k.first

-- ---- an Announce that is read

pub same_announce : (a b : AnnounceView) → messages.Announce a ≡ messages.Announce b → a ≡ b
same_announce a b e = cc

-- its parts are what stands at their places
module _ (octets : List ℕ) (a : AnnounceView) (reads : Reads octets (messages.Announce a)) where
  abbrev at_places : AnnounceView
  at_places = record { head = head_of octets; body = announce_body_of octets; path = reads.path }

  -- a type of which the number is that of an Announce is that of an Announce
  pub kind_is : type_of 0xB ≡ Some reads.kind
  kind_is = subst (λ n. type_of n ≡ Some reads.kind) (type_is octets (messages.Announce a) reads) reads.header.kind_is

  is_at_places : a ≡ at_places
  is_at_places =
      let same = same_Some _ reads.kind kind_is in
      same_announce a at_places
      (subst (λ k. messages.Announce a ≡ message_of k octets reads.path reads.rate) (sym same) reads.is)

  pub head_read : a.head ≡ head_of octets
  head_read = ap (λ (x : AnnounceView). x.head) is_at_places

  pub body_read : a.body ≡ announce_body_of octets
  body_read = ap (λ (x : AnnounceView). x.body) is_at_places

  pub same_path : a.path ≡ reads.path
  same_path = ap (λ (x : AnnounceView). x.path) is_at_places

  pub path_read : ReadsPath (announce_tlvs octets) a.path
  path_read =
      let same = same_Some _ reads.kind kind_is in
      subst (ReadsPath (announce_tlvs octets)) (sym same_path)
      (subst (λ k. ReadsTlvs k octets reads.path reads.rate) (sym same) reads.tlvs)

-- octets say only what fits
pub octets_say_what_fits : (octets : List ℕ) → AreOctets octets → SayWhatFits octets
octets_say_what_fits octets all a reads = record {
  root = subst (λ b. b.root < 2 ^ 112) (sym (body_read octets a reads)) (field_fits 14 47 octets all);
  path = path_fits (announce_tlvs octets) a.path
      (λ x member. all x (In-drop x 64 octets (In-take x _ (drop 64 octets) member))) (path_read octets a reads);
}

-- ---- a Pdelay_Req that is read

same_request : (a b : Head) → messages.PdelayReq a ≡ messages.PdelayReq b → a ≡ b
same_request a b e = cc

-- its header is what stands in front
request_read : (octets : List ℕ) (head : Head) → Reads octets (messages.PdelayReq head) → head ≡ head_of octets
request_read octets head reads =
    let kind_is : type_of 0x2 ≡ Some reads.kind =
    subst (λ n. type_of n ≡ Some reads.kind) (type_is octets (messages.PdelayReq head) reads) reads.header.kind_is in
    let same = same_Some _ reads.kind kind_is in
    same_request head (head_of octets)
    (subst (λ k. messages.PdelayReq head ≡ message_of k octets reads.path reads.rate) (sym same) reads.is)

-- octets say only requests that fit
pub octets_fit : (octets : List ℕ) → AreOctets octets → RequestSaysWhatFits octets
octets_fit octets all head reads =
    subst (λ h. RequestFits h.source h.sequence) (sym (request_read octets head reads)) (record {
      from = record { clock = field_fits 8 20 octets all; port = field_fits 2 28 octets all };
      numbered = field_fits 2 30 octets all;
    })
