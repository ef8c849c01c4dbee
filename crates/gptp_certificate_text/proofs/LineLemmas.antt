-- Single lines: each is spelled in one way, by words.
use Rattle.std.proofs.Common.{◌≡◌, ◌≢◌, ℕ, zero, suc, ◌+◌, ◌<◌, ◌≤◌, ◌==◌, ◌%◌, ◌/◌, ◌^◌, Bool, true, false, not, if◌then◌else◌, List, [], ◌∷◌, ◌++◌, codes, inr, refl, sym, ap, subst, ◌∙◌, arith}
use Rattle.std.specs.Prelude.{Option, Some, None, Result, Ok, Err, IfErr, IfNone, OnErr, decimal, get_or, slice_index}
use Rattle.std.specs.List.{list_all}
use Rattle.std.proofs.lemmas.Bool.Decides.{nat_tests}
use Rattle.std.proofs.lemmas.Fmt.{decimal_by_steps, decimal_nonempty}
use Rattle.std.proofs.lemmas.List.Folds.{list_all-append}
use Rattle.hex.specs.Hex.{encode_lower, encode_with, lower_digits}
use Rattle.hex.proofs.HexLemmas.{length-encode_with}
use Rattle.byteorder.specs.Endian.{big_bytes}
use Rattle.byteorder.specs.Numbers.{length-bytes_high_first}
use Rattle.gptp_graph.specs.SettledRole.{Role, Disabled, Master, Slave, Passive}
use Rattle.gptp_graph.specs.Labelling.{PortLine}
use Rattle.gptp_graph.specs.Parent.{ParentLink}
use Rattle.gptp_certificate_text.specs.declared.fault.CertificateFault.{CertificateFault}
use Rattle.gptp_certificate_text.specs.declared.fault.CertificateFault.TheVariants.{Spelling}
use Rattle.gptp_certificate_text.specs.Words.{is_blank, IsWord}
use Rattle.gptp_certificate_text.specs.Forms.{Form, SystemForm, FarForm, PortForm, ParentWords, SystemWords, FarWords, PortWords, AreSystemWords, AreFarWords, ArePortWords, FitsHere, HasForm, HasParentWords, HasWords, far_text, form_text, parent_text, port_text, role_word, system_text}
use Rattle.gptp_certificate_text.specs.CertificateText.{far_words, parent_words, port_words, spelled_line, system_words}
use Rattle.std.specs.Option.{option_map}
use Rattle.gptp_certificate_text.specs.Entries.{LineKey, SystemEntry, PortEntry, IsReadableEntry, IsReadableParent}
use Rattle.gptp_certificate_text.specs.Lines.{LineFails}
use Rattle.gptp_certificate_text.proofs.WordLemmas.{word_is_one}
use Rattle.gptp_certificate_text.proofs.FormLemmas.{far_behind_clock, far_behind_steps, far_parts, far_rest_behind_clock, far_rest_behind_steps, rest_is_root, behind_clock, behind_root, behind_steps, link_behind_clock, link_behind_own, link_parts, port_behind_clock, port_behind_number, port_parts, rest_behind_clock, rest_behind_root, rest_behind_steps, rest_is_parent, system_parts}

-- the role that a word names, by its first letter
abbrev named : List ℕ → Role
named word =
    if slice_index word 0 == 100 then Disabled
    else if slice_index word 0 == 109 then Master
    else if slice_index word 0 == 115 then Slave
    else Passive

named_role : (role : Role) → named (role_word role) ≡ role
named_role Disabled = refl
named_role Master = refl
named_role Slave = refl
named_role Passive = refl

one_role : (a b : Role) → role_word a ≡ role_word b → a ≡ b
one_role a b e = sym (named_role a) ∙ ap named e ∙ named_role b

abbrev parent_of_words : List ℕ → List ℕ → List ℕ → ParentWords
parent_of_words own clock port = record { own_port = own; clock = clock; port = port }

one_parent : (p q : Option ParentWords) → HasParentWords p → HasParentWords q → parent_text p ≡ parent_text q → p ≡ q
one_parent None None a b e = refl
one_parent None (Some q) a b e =
    absurd (word_is_one (codes "none") q.own_port (q.clock ++ 32 ∷ q.port)
    (record { some = omega arith; plain = refl }) (e ∙ link_parts q))
one_parent (Some p) None a b e =
    absurd (word_is_one (codes "none") p.own_port (p.clock ++ 32 ∷ p.port)
    (record { some = omega arith; plain = refl }) (sym e ∙ link_parts p))
one_parent (Some p) (Some q) a b e =
    let own = link_behind_own q (parent_text (Some p)) p.own_port (p.clock ++ 32 ∷ p.port) b a.own_port (link_parts p)
    e in
    let clock = link_behind_clock q (p.clock ++ 32 ∷ p.port) p.clock p.port b a.clock refl own.1 in
    ap (λ (own : List ℕ). Some (parent_of_words own p.clock p.port)) own.0
    ∙ ap (λ (c : List ℕ). Some (parent_of_words q.own_port c p.port)) clock.0
    ∙ ap (λ (port : List ℕ). Some (parent_of_words q.own_port q.clock port)) clock.1

abbrev system_of_words : List ℕ → List ℕ → List ℕ → Option ParentWords → Form
system_of_words clock root steps parent =
    SystemForm (record { clock = clock; root = root; steps = steps; parent = parent })

abbrev port_of_words : List ℕ → List ℕ → Role → Form
port_of_words clock number role = PortForm (record { clock = clock; number = number; role = role })

abbrev far_of_words : List ℕ → List ℕ → List ℕ → Form
far_of_words clock steps root = FarForm (record { clock = clock; steps = steps; root = root })

-- after the clock of a far system's line stands another word than after that of another system's
not_far : (a : SystemWords) (b : FarWords) → AreSystemWords a → AreFarWords b → system_text a ≡ far_text b → ⊥
not_far a b f g e =
    let clock = rest_behind_clock a (far_text b) b.clock (far_behind_clock b) f g.clock (far_parts b) (sym e) in
    let same : ◌≡◌ {A = ℕ} 102 114 = ap (λ (text : List ℕ). get_or text 0 0) clock.1 in
    absurd (omega (arith, same))

other_head : (xs ys : List ℕ) → 115 ∷ xs ≡ 112 ∷ ys → ⊥
other_head xs ys e =
    let same : ◌≡◌ {A = ℕ} 115 112 = ap (λ (text : List ℕ). get_or text 0 0) e in
    absurd (omega (arith, same))

-- a text has one form
pub one_form : (f g : Form) → HasWords f → HasWords g → form_text f ≡ form_text g → f ≡ g
one_form (SystemForm a) (SystemForm b) f g e =
    let clock = rest_behind_clock b (form_text (SystemForm a)) a.clock (behind_clock a) g f.clock (system_parts a) e in
    let root = rest_behind_root b (behind_clock a) a.root (behind_root a) g f.root refl clock.1 in
    let steps = rest_behind_steps b (behind_root a) a.steps (behind_steps a) g f.steps refl root.1 in
    let parent = one_parent a.parent b.parent f.parent g.parent
    (rest_is_parent b (behind_steps a) (parent_text a.parent) refl steps.1) in
    ap (λ (c : List ℕ). system_of_words c a.root a.steps a.parent) clock.0
    ∙ ap (λ (r : List ℕ). system_of_words b.clock r a.steps a.parent) root.0
    ∙ ap (λ (s : List ℕ). system_of_words b.clock b.root s a.parent) steps.0
    ∙ ap (λ (p : Option ParentWords). system_of_words b.clock b.root b.steps p) parent
one_form (SystemForm a) (FarForm b) f g e = absurd (not_far a b f g e)
one_form (SystemForm a) (PortForm b) f g e = absurd (other_head _ _ e)
one_form (FarForm a) (SystemForm b) f g e = absurd (not_far b a g f (sym e))
one_form (FarForm a) (FarForm b) f g e =
    let clock =
    far_rest_behind_clock b (form_text (FarForm a)) a.clock (far_behind_clock a) g f.clock (far_parts a) e in
    let steps = far_rest_behind_steps b (far_behind_clock a) a.steps (far_behind_steps a) g f.steps refl clock.1 in
    let root = rest_is_root b (far_behind_steps a) a.root refl steps.1 in
    ap (λ (c : List ℕ). far_of_words c a.steps a.root) clock.0
    ∙ ap (λ (s : List ℕ). far_of_words b.clock s a.root) steps.0
    ∙ ap (λ (r : List ℕ). far_of_words b.clock b.steps r) root
one_form (FarForm a) (PortForm b) f g e = absurd (other_head _ _ e)
one_form (PortForm a) (SystemForm b) f g e = absurd (other_head _ _ (sym e))
one_form (PortForm a) (FarForm b) f g e = absurd (other_head _ _ (sym e))
one_form (PortForm a) (PortForm b) f g e =
    let clock = port_behind_clock b (form_text (PortForm a)) a.clock (a.number ++ 32 ∷ role_word a.role) g f.clock
    (port_parts a) e in
    let number = port_behind_number b (a.number ++ 32 ∷ role_word a.role) a.number (role_word a.role) g f.number refl
    clock.1 in
    ap (λ (c : List ℕ). port_of_words c a.number a.role) clock.0
    ∙ ap (λ (n : List ℕ). port_of_words b.clock n a.role) number.0
    ∙ ap (λ (r : Role). port_of_words b.clock b.number r) (one_role a.role b.role number.1)

abbrev plain : ℕ → Bool
plain octet = not (is_blank octet)

plain_at : (xs : List ℕ) (k : ℕ) → list_all plain xs ≡ true → plain (get_or xs k 0) ≡ true
plain_at [] k all = refl
plain_at (x ∷ xs) zero all = grind (arith, nat_tests)
plain_at (x ∷ xs) (suc k) all = plain_at xs k (grind (arith, nat_tests))

digits_plain : (xs : List ℕ) → list_all plain (encode_with lower_digits xs) ≡ true
unfolding encode_with
digits_plain [] = refl
digits_plain (x ∷ xs) =
    let high = plain_at lower_digits (x / 16) refl in
    let low = plain_at lower_digits (x % 16) refl in
    rw (high, low) (digits_plain xs)

digits_word : (n x : ℕ) → 0 < n → IsWord (encode_lower (big_bytes n x))
digits_word n x some =
    let size = length-encode_with lower_digits (big_bytes n x) in
    let octets = length-bytes_high_first n x in
    record { some = omega (arith, size, octets); plain = digits_plain (big_bytes n x) }

digit_plain : (n : ℕ) → n < 10 → plain (48 + n) ≡ true
digit_plain n small = grind (arith, nat_tests)

decimal_plain : (n : ℕ) → n < 2 ^ 64 → list_all plain (decimal n) ≡ true
decimal_plain = decimal_by_steps (λ n ds. list_all plain ds ≡ true)
    (λ n small. rw (digit_plain n small) refl)
    (λ n ds big so_far. list_all-append plain ds ((48 + n % 10) ∷ [])
    ∙ rw (so_far, digit_plain (n % 10) (omega arith)) refl)

pub decimal_word : (n : ℕ) → n ≤ 65535 → IsWord (decimal n)
decimal_word n h = record { some = decimal_nonempty n (omega arith); plain = decimal_plain n (omega arith) }

parent_spelled : (parent : Option ParentLink) → IsReadableParent parent
    → HasParentWords (option_map parent_words parent)
parent_spelled None r = r
parent_spelled (Some link) r = record {
  own_port = decimal_word link.own_port r.own_port.most;
  clock = digits_word 8 link.clock (omega arith);
  port = decimal_word link.port r.port.most;
}

-- a line that can be read is spelled by words
pub entry_words : (version : ℕ) (entry : LineKey) → IsReadableEntry version entry → HasWords (spelled_line entry)
entry_words version (SystemEntry clock root steps true parent) r = record {
  clock = digits_word 8 clock (omega arith);
  steps = decimal_word steps r.2;
  root = digits_word 14 root (omega arith);
}
entry_words version (SystemEntry clock root steps false parent) r = record {
  clock = digits_word 8 clock (omega arith);
  root = digits_word 14 root (omega arith);
  steps = decimal_word steps r.2;
  parent = parent_spelled parent r.3;
}
entry_words version (PortEntry clock port) r = record {
  clock = digits_word 8 clock (omega arith);
  number = decimal_word port.number r.1.most;
}

-- a line whose form spells no entry is the line of no entry
pub misspelled : {X : Type 0} (version : ℕ) (after_far : Bool) (line : List ℕ) (form : Form)
    (r : Result X CertificateFault) → HasWords form → FitsHere version after_far form → line ≡ form_text form
    → IfErr r (λ fault. fault ≡ Spelling)
    → OnErr r ((entry : LineKey) → IsReadableEntry version entry → spelled_line entry ≢ form)
    → IfErr r (λ fault. LineFails version after_far line fault)
misspelled version after_far line form (Ok x) words fits is fault none = search Rattle.std.proofs.Common.rules
misspelled version after_far line form (Err e) words fits is fault none = inr (
  fault,
  record { form = form; words = words; fits = fits; is = is },
  λ entry readable same.
      none entry readable (one_form (spelled_line entry) form (entry_words version entry readable) words
      (sym same ∙ is)),
)

-- a line with no words of any form
pub no_form : {X : Type 0} (line : List ℕ) (o : Option X)
    → ((words : SystemWords) → AreSystemWords words → line ≢ system_text words)
    → IfNone o ((words : FarWords) → AreFarWords words → line ≢ far_text words)
    → IfNone o ((words : PortWords) → ArePortWords words → line ≢ port_text words)
    → IfNone o ((form : Form) → HasWords form → line ≢ form_text form)
no_form line None system far port = by_form
  where
    by_form : (form : Form) → HasWords form → line ≢ form_text form
    by_form (SystemForm words) = system words
    by_form (FarForm words) = far words
    by_form (PortForm words) = port words
no_form line (Some x) system far port = search Rattle.std.proofs.Common.rules

-- a line whose form can't stand here
pub unfit : (version : ℕ) (after_far : Bool) (line : List ℕ) (form : Form) → HasWords form → line ≡ form_text form
    → (FitsHere version after_far form → ⊥) → HasForm version after_far line → ⊥
unfit version after_far line form words is no_fit h =
    no_fit (subst (FitsHere version after_far) (one_form h.form form h.words words (sym h.is ∙ is)) h.fits)

-- no entry is spelled by these words of a system
pub no_system : (version : ℕ) (words : SystemWords)
    → ((version clock root steps : ℕ) (parent : Option ParentLink)
    → IsReadableEntry version (SystemEntry clock root steps false parent)
    → system_words clock root steps parent ≢ words)
    → (entry : LineKey) → IsReadableEntry version entry → spelled_line entry ≢ SystemForm words
no_system version words none (SystemEntry clock root steps true parent) readable e = absurd cc
no_system version words none (SystemEntry clock root steps false parent) readable e =
    none version clock root steps parent readable (let same : system_words clock root steps parent ≡ words = cc in same)
no_system version words none (PortEntry clock port) readable e = absurd cc

-- nor by these of a far one
pub no_far_system : (version : ℕ) (words : FarWords)
    → ((version clock root steps : ℕ) (parent : Option ParentLink)
    → IsReadableEntry version (SystemEntry clock root steps true parent)
    → far_words clock root steps ≢ words)
    → (entry : LineKey) → IsReadableEntry version entry → spelled_line entry ≢ FarForm words
no_far_system version words none (SystemEntry clock root steps true parent) readable e =
    none version clock root steps parent readable (let same : far_words clock root steps ≡ words = cc in same)
no_far_system version words none (SystemEntry clock root steps false parent) readable e = absurd cc
no_far_system version words none (PortEntry clock port) readable e = absurd cc

-- nor by these of a port
pub no_port : (version : ℕ) (words : PortWords)
    → ((version clock : ℕ) (port : PortLine) → IsReadableEntry version (PortEntry clock port)
    → port_words clock port ≢ words)
    → (entry : LineKey) → IsReadableEntry version entry → spelled_line entry ≢ PortForm words
no_port version words none (SystemEntry clock root steps true parent) readable e = absurd cc
no_port version words none (SystemEntry clock root steps false parent) readable e = absurd cc
no_port version words none (PortEntry clock port) readable e =
    none version clock port readable (let same : port_words clock port ≡ words = cc in same)
