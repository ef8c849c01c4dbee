-- A frame that reads as a message has the messageType of that message.
use Rattle.std.proofs.Common.{◌≡◌, ℕ, Bool, true, false, List, Option, Some, None, refl, sym, ap, ◌∙◌, eqb-true}
use Rattle.std.specs.Prelude.{if◌then◌else◌, ◌==◌}
use Rattle.std.proofs.lemmas.Option.{none-some, same_Some}
use Rattle.gptp_messages.specs.declared.message.Message.{Message}
use Rattle.gptp_messages.specs.declared.message.Message.TheVariants as messages
use Rattle.gptp_messages.specs.Grammar.{Reads, message_of}
use Rattle.gptp_messages.specs.Head.{message_type}

-- the messageType of a message
abbrev pub type_number : Message → ℕ
type_number (messages.Sync head) = 0x0
type_number (messages.PdelayReq head) = 0x2
type_number (messages.PdelayResp m) = 0x3
type_number (messages.FollowUp m) = 0x8
type_number (messages.PdelayRespFollowUp m) = 0xA
type_number (messages.Announce a) = 0xB

-- where one number stands for this kind, and the others are told by the rest
one_kind : {K : Type 0} (f : K → Message) (m : Message) (n k : ℕ) (a : K) (rest : Option K) (kind : K) → m ≡ f kind
    → type_number (f a) ≡ k
    → (rest ≡ Some kind → n ≡ type_number m) → (if n == k then Some a else rest) ≡ Some kind → n ≡ type_number m
one_kind f m n k a rest kind reads here others = go (n == k) refl
  where
    go : (b : Bool) → (n == k) ≡ b → (if b then Some a else rest) ≡ Some kind → n ≡ type_number m
    go true e is =
        eqb-true n k e ∙ sym (ap type_number (reads ∙ ap f (sym (same_Some a kind is))) ∙ here)
    go false e is = others is

-- a frame that reads as a message has its messageType
pub type_is : (octets : List ℕ) (m : Message) → Reads octets m → message_type octets ≡ type_number m
type_is octets m k =
    all_kinds (λ kind. message_of kind octets k.path k.rate) (message_type octets) _ _ _ _ _ _ k.kind k.is refl refl
    refl
    refl refl refl k.header.kind_is
  where
    all_kinds : {K : Type 0} (f : K → Message) (n : ℕ) (a b c d e g kind : K) → m ≡ f kind
        → type_number (f a) ≡ 0x0 → type_number (f b) ≡ 0x2 → type_number (f c) ≡ 0x3 → type_number (f d) ≡ 0x8
        → type_number (f e) ≡ 0xA → type_number (f g) ≡ 0xB
        → (if n == 0x0 then Some a
        else if n == 0x2 then Some b
        else if n == 0x3 then Some c
        else if n == 0x8 then Some d
        else if n == 0xA then Some e
        else if n == 0xB then Some g
        else None)
        ≡ Some kind
        → n ≡ type_number m
    all_kinds f n a b c d e g kind is first second third fourth fifth sixth =
        one_kind f m n 0x0 a _ kind is first
        (one_kind f m n 0x2 b _ kind is second
        (one_kind f m n 0x3 c _ kind is third
        (one_kind f m n 0x8 d _ kind is fourth
        (one_kind f m n 0xA e _ kind is fifth
        (one_kind f m n 0xB g _ kind is sixth (λ none. absurd (none-some kind none)))))))
