-- The forms of lines: what comes after each word of a line.
use Rattle.std.proofs.Common.{◌≡◌, ℕ, List, ◌∷◌, ◌++◌, codes, refl, sym, ◌∙◌, append_assoc}
use Rattle.std.specs.Prelude.{Some}
use Rattle.std.proofs.lemmas.List.{append_cancel_left}
use Rattle.gptp_certificate_text.specs.Words.{IsWord}
use Rattle.gptp_certificate_text.specs.Forms.{ParentWords, SystemWords, FarWords, PortWords, AreParentWords, AreSystemWords, AreFarWords, ArePortWords, parent_text, far_text, port_text, role_word, system_text}
use Rattle.gptp_certificate_text.proofs.WordLemmas.{one_value, one_word}

abbrev pub behind_steps : SystemWords → List ℕ
behind_steps words = codes "parent " ++ parent_text words.parent

abbrev pub behind_root : SystemWords → List ℕ
behind_root words = codes "steps " ++ (words.steps ++ 32 ∷ behind_steps words)

abbrev pub behind_clock : SystemWords → List ℕ
behind_clock words = codes "root " ++ (words.root ++ 32 ∷ behind_root words)

pub system_parts : (words : SystemWords)
    → system_text words ≡ codes "system " ++ (words.clock ++ 32 ∷ behind_clock words)
system_parts words = simp append_assoc refl

abbrev pub far_behind_steps : FarWords → List ℕ
far_behind_steps words = codes "root " ++ words.root

abbrev pub far_behind_clock : FarWords → List ℕ
far_behind_clock words = codes "far " ++ (words.steps ++ 32 ∷ far_behind_steps words)

pub far_parts : (words : FarWords) → far_text words ≡ codes "system " ++ (words.clock ++ 32 ∷ far_behind_clock words)
far_parts words = simp append_assoc refl

pub port_parts : (words : PortWords)
    → port_text words ≡ codes "port " ++ (words.clock ++ 32 ∷ (words.number ++ 32 ∷ role_word words.role))
port_parts words = simp append_assoc refl

pub link_parts : (link : ParentWords) → parent_text (Some link) ≡ link.own_port ++ 32 ∷ (link.clock ++ 32 ∷ link.port)
link_parts link = simp append_assoc refl

pub rest_behind_clock : (words : SystemWords) (line clock rest : List ℕ) → AreSystemWords words → IsWord clock
    → line ≡ codes "system " ++ (clock ++ 32 ∷ rest) → line ≡ system_text words → (clock ≡ words.clock)
    × (rest ≡ behind_clock words)
rest_behind_clock words line clock rest are is d e =
    one_value (codes "system ") line clock words.clock rest (behind_clock words) is are.clock d (e ∙ system_parts words)

pub rest_behind_root : (words : SystemWords) (text root rest : List ℕ) → AreSystemWords words → IsWord root
    → text ≡ codes "root " ++ (root ++ 32 ∷ rest) → text ≡ behind_clock words → (root ≡ words.root)
    × (rest ≡ behind_root words)
rest_behind_root words text root rest are is d e =
    one_value (codes "root ") text root words.root rest (behind_root words) is are.root d e

pub rest_behind_steps : (words : SystemWords) (text steps rest : List ℕ) → AreSystemWords words → IsWord steps
    → text ≡ codes "steps " ++ (steps ++ 32 ∷ rest) → text ≡ behind_root words → (steps ≡ words.steps)
    × (rest ≡ behind_steps words)
rest_behind_steps words text steps rest are is d e =
    one_value (codes "steps ") text steps words.steps rest (behind_steps words) is are.steps d e

pub rest_is_parent : (words : SystemWords) (text rest : List ℕ) → text ≡ codes "parent " ++ rest
    → text ≡ behind_steps words
    → rest ≡ parent_text words.parent
rest_is_parent words text rest d e = append_cancel_left (codes "parent ") rest (parent_text words.parent) (sym d ∙ e)

pub far_rest_behind_clock : (words : FarWords) (line clock rest : List ℕ) → AreFarWords words → IsWord clock
    → line ≡ codes "system " ++ (clock ++ 32 ∷ rest) → line ≡ far_text words → (clock ≡ words.clock)
    × (rest ≡ far_behind_clock words)
far_rest_behind_clock words line clock rest are is d e =
    one_value (codes "system ") line clock words.clock rest (far_behind_clock words) is are.clock d
    (e ∙ far_parts words)

pub far_rest_behind_steps : (words : FarWords) (text steps rest : List ℕ) → AreFarWords words → IsWord steps
    → text ≡ codes "far " ++ (steps ++ 32 ∷ rest) → text ≡ far_behind_clock words → (steps ≡ words.steps)
    × (rest ≡ far_behind_steps words)
far_rest_behind_steps words text steps rest are is d e =
    one_value (codes "far ") text steps words.steps rest (far_behind_steps words) is are.steps d e

pub rest_is_root : (words : FarWords) (text rest : List ℕ) → text ≡ codes "root " ++ rest
    → text ≡ far_behind_steps words → rest ≡ words.root
rest_is_root words text rest d e = append_cancel_left (codes "root ") rest words.root (sym d ∙ e)

pub port_behind_clock : (words : PortWords) (line clock rest : List ℕ) → ArePortWords words → IsWord clock
    → line ≡ codes "port " ++ (clock ++ 32 ∷ rest) → line ≡ port_text words
    → (clock ≡ words.clock) × (rest ≡ words.number ++ 32 ∷ role_word words.role)
port_behind_clock words line clock rest are is d e =
    one_value (codes "port ") line clock words.clock rest (words.number ++ 32 ∷ role_word words.role) is are.clock d
    (e ∙ port_parts words)

pub port_behind_number : (words : PortWords) (text number rest : List ℕ) → ArePortWords words → IsWord number
    → text ≡ number ++ 32 ∷ rest → text ≡ words.number ++ 32 ∷ role_word words.role
    → (number ≡ words.number) × (rest ≡ role_word words.role)
port_behind_number words text number rest are is d e =
    one_word number words.number rest (role_word words.role) is are.number (sym d ∙ e)

pub link_behind_own : (link : ParentWords) (text own rest : List ℕ) → AreParentWords link → IsWord own
    → text ≡ own ++ 32 ∷ rest → text ≡ parent_text (Some link) → (own ≡ link.own_port)
    × (rest ≡ link.clock ++ 32 ∷ link.port)
link_behind_own link text own rest are is d e =
    one_word own link.own_port rest (link.clock ++ 32 ∷ link.port) is are.own_port (sym d ∙ e ∙ link_parts link)

pub link_behind_clock : (link : ParentWords) (text clock rest : List ℕ) → AreParentWords link → IsWord clock
    → text ≡ clock ++ 32 ∷ rest → text ≡ link.clock ++ 32 ∷ link.port → (clock ≡ link.clock) × (rest ≡ link.port)
link_behind_clock link text clock rest are is d e = one_word clock link.clock rest link.port is are.clock (sym d ∙ e)
