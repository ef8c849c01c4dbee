-- Texts that grow by lines, and the words for roles.
use Rattle.std.proofs.Common.{◌≡◌, ℕ, List, [], ◌∷◌, ◌++◌, append_assoc, append-nil, refl, sym, ap, ◌∙◌}
use Rattle.std.proofs.lemmas.Grind.{flat_map-append}
use Rattle.gptp_certificate_text.specs.Certificate.{role_of}
use Rattle.gptp_certificate_text.specs.Forms as forms
use Rattle.gptp_roles.specs.declared.role.Role.{Role}
use Rattle.gptp_roles.specs.declared.role.Role.TheVariants.{Disabled, Master, Slave, Passive}
use Rattle.gptp_words.specs.Lines.{text_of}
use Rattle.gptp_words.specs.Roles.{role_text}

-- lines and then others
pub lines_behind : (before : List ℕ) (first later : List (List ℕ))
    → before ++ text_of first ++ text_of later ≡ before ++ text_of (first ++ later)
lines_behind before first later =
    append_assoc before (text_of first) (text_of later)
    ∙ ap (λ text. before ++ text) (sym (flat_map-append (λ (line : List ℕ). line ++ 10 ∷ []) first later))

-- a line after a text is the last of its lines
pub line_behind : (before text after : List ℕ) (lines : List (List ℕ)) (line : List ℕ)
    → text ≡ before ++ text_of lines → after ≡ text ++ (line ++ 10 ∷ [])
    → after ≡ before ++ text_of (lines ++ line ∷ [])
line_behind before text after lines line is appended =
    appended ∙ ap (λ t. t ++ (line ++ 10 ∷ [])) is
    ∙ ap (λ t. before ++ text_of lines ++ t) (sym (append-nil (line ++ 10 ∷ [])))
    ∙ lines_behind before lines (line ∷ [])

-- a role has one word
pub one_role_text : (role : Role) → role_text role ≡ forms.role_word (role_of role)
one_role_text Disabled = refl
one_role_text Master = refl
one_role_text Slave = refl
one_role_text Passive = refl

-- a line and then others, after a text
pub line_and_lines : (before mid after line : List ℕ) (lines : List (List ℕ)) → mid ≡ before ++ (line ++ 10 ∷ [])
    → after ≡ mid ++ text_of lines → after ≡ before ++ text_of (line ∷ lines)
line_and_lines before mid after line lines first rest =
    rest ∙ ap (λ t. t ++ text_of lines) first ∙ append_assoc before (line ++ 10 ∷ []) (text_of lines)

-- a line, lines and more lines are the whole text
pub all_parts : (none first second third line : List ℕ) (way ranks : List (List ℕ)) → none ≡ []
    → first ≡ none ++ (line ++ 10 ∷ []) → second ≡ first ++ text_of way → third ≡ second ++ text_of ranks
    → third ≡ text_of (line ∷ (way ++ ranks))
all_parts none first second third line way ranks empty one two three =
    three ∙ ap (λ t. t ++ text_of ranks) (line_and_lines none first second line way one two)
    ∙ lines_behind none (line ∷ way) ranks ∙ ap (λ t. t ++ text_of (line ∷ (way ++ ranks))) empty
