-- Whether a line has a form, and is that of an entry, can be decided.
use Rattle.std.proofs.Common.{◌≡◌, ◌⊎◌, ◌+◌, ◌<◌, ◌^◌, ◌==◌, ◌&&◌, ℕ, Bool, true, false, not, List, [], ◌∷◌, ◌++◌, length, codes, refl, sym, ap, ap₂, subst, ◌∙◌, inl, inr, arith}
use Rattle.std.specs.Prelude.{Option, Some, None}
use Rattle.std.specs.List.{list_all}
use Rattle.std.proofs.lemmas.Bool.Decides.{nat_tests}
use Rattle.std.proofs.lemmas.List.{append_cancel_left}
use native.Mathlib.Decide.{ℕ_discrete, dec_le, dec_lt}
use Rattle.gptp_graph.specs.Parent.{ParentLink}
use Rattle.gptp_graph.specs.SettledRole.{Role, Disabled, Master, Slave, Passive}
use Rattle.gptp_graph.proofs.DecisionLemmas.{below_dec, dec_both, dec_either, dec_iff}
use Rattle.gptp_certificate_text.specs.CertificateText.{entry_text}
use Rattle.gptp_certificate_text.specs.Entries.{LineKey, SystemEntry, PortEntry, IsPortNumber, IsReadableEntry}
use Rattle.gptp_certificate_text.specs.Forms.{Form, SystemForm, FarForm, PortForm, ParentWords, SystemWords, FarWords, PortWords, AreFarWords, ArePortWords, AreSystemWords, FitsHere, HasForm, HasParentWords, HasWords, far_text, form_text, parent_text, port_text, role_word, system_text}
use Rattle.gptp_certificate_text.specs.Words.{IsWord, Lacks, is_blank}
use Rattle.gptp_certificate_text.proofs.FormLemmas.{behind_clock, behind_root, behind_steps, far_behind_clock, far_behind_steps, far_parts, far_rest_behind_clock, far_rest_behind_steps, link_behind_clock, link_behind_own, link_parts, port_behind_clock, port_behind_number, port_parts, rest_behind_clock, rest_behind_root, rest_behind_steps, rest_is_parent, rest_is_root, system_parts}
use Rattle.gptp_certificate_text.proofs.LineLemmas.{unfit}
use Rattle.gptp_certificate_text.proofs.WordLemmas.{no_cut, other_word}

-- ---- octets

bool_dec : (test is : Bool) → Dec (test ≡ is)
bool_dec true true = yes refl
bool_dec true false = no (λ same. absurd cc)
bool_dec false true = no (λ same. absurd cc)
bool_dec false false = yes refl

pub octets_dec : (xs ys : List ℕ) → Dec (xs ≡ ys)
octets_dec [] [] = yes refl
octets_dec [] (y ∷ ys) = no (λ same. absurd cc)
octets_dec (x ∷ xs) [] = no (λ same. absurd cc)
octets_dec (x ∷ xs) (y ∷ ys) = by (ℕ_discrete x y) (octets_dec xs ys)
  where
    by : Dec (x ≡ y) → Dec (xs ≡ ys) → Dec (◌≡◌ {A = List ℕ} (x ∷ xs) (y ∷ ys))
    by (no f) rest = no (λ same. f cc)
    by (yes first) (no f) = no (λ same. f cc)
    by (yes first) (yes rest) = yes cc

-- the text begins with these
abbrev pub BeginsWith : List ℕ → List ℕ → Type 0
BeginsWith front text = (rest : List ℕ) × (text ≡ front ++ rest)

pub after_dec : (front text : List ℕ) → Dec (BeginsWith front text)
after_dec [] text = yes (text, refl)
after_dec (x ∷ front) [] = no (λ (rest, is). absurd cc)
after_dec (x ∷ front) (y ∷ text) = by (ℕ_discrete y x) (after_dec front text)
  where
    by : Dec (y ≡ x) → Dec (BeginsWith front text) → Dec (BeginsWith (x ∷ front) (y ∷ text))
    by (no f) rest = no (λ (behind, is). f cc)
    by (yes same) (no f) = no (λ (behind, is). f (behind, cc))
    by (yes same) (yes (behind, is)) = yes (behind, ap₂ (λ (z : ℕ) (zs : List ℕ). z ∷ zs) same is)

-- what stands before and after the first octet of a value
abbrev pub HasCut : ℕ → List ℕ → Type 0
HasCut s text = (front : List ℕ) × (rest : List ℕ) × Lacks s front × (text ≡ front ++ s ∷ rest)

cut_step : (s x : ℕ) (xs : List ℕ) (test : Bool) → (x == s) ≡ test → HasCut s xs ⊎ Lacks s xs
    → HasCut s (x ∷ xs) ⊎ Lacks s (x ∷ xs)
cut_step s x xs true here rest =
    let is : x ≡ s = grind (arith, nat_tests) in
    inl ([], xs, refl, ap (λ (z : ℕ). z ∷ xs) is)
cut_step s x xs false other (inl (front, rest, lacks, is)) =
    inl (x ∷ front, rest, ap₂ (λ (a b : Bool). not a && b) other lacks, ap (λ (zs : List ℕ). x ∷ zs) is)
cut_step s x xs false other (inr lacks) = inr (ap₂ (λ (a b : Bool). not a && b) other lacks)

pub cut_exists : (s : ℕ) (text : List ℕ) → HasCut s text ⊎ Lacks s text
cut_exists s [] = inr refl
cut_exists s (x ∷ xs) = cut_step s x xs (x == s) refl (cut_exists s xs)

-- ---- words

word_dec : (word : List ℕ) → Dec (IsWord word)
word_dec word =
    dec_iff (λ h. record { some = h.0; plain = h.1 }) (λ h. (h.some, h.plain))
    (dec_both (dec_lt 0 (length word)) (bool_dec (list_all (λ octet. not (is_blank octet)) word) true))

-- a word, a space, and what comes after it
abbrev HasFirst : List ℕ → Type 0
HasFirst text = (word : List ℕ) × (rest : List ℕ) × IsWord word × (text ≡ word ++ 32 ∷ rest)

first_dec : (text : List ℕ) → Dec (HasFirst text)
first_dec text = by (cut_exists 32 text)
  where
    by_word : (front rest : List ℕ) → Lacks 32 front → text ≡ front ++ 32 ∷ rest → Dec (IsWord front)
        → Dec (HasFirst text)
    by_word front rest lacks is (yes word) = yes (front, rest, word, is)
    by_word front rest lacks is (no none) =
        no (λ (word, behind, plain, same). other_word text front word rest behind lacks none plain is same)

    by : HasCut 32 text ⊎ Lacks 32 text → Dec (HasFirst text)
    by (inl (front, rest, lacks, is)) = by_word front rest lacks is (word_dec front)
    by (inr lacks) = no (λ (word, rest, plain, is). no_cut 32 word rest (subst (Lacks 32) is lacks))

-- so after a key
abbrev HasValue : List ℕ → List ℕ → Type 0
HasValue key text = (word : List ℕ) × (rest : List ℕ) × IsWord word × (text ≡ key ++ (word ++ 32 ∷ rest))

value_dec : (key text : List ℕ) → Dec (HasValue key text)
value_dec key text = by (after_dec key text)
  where
    by_first : (behind : List ℕ) → text ≡ key ++ behind → Dec (HasFirst behind) → Dec (HasValue key text)
    by_first behind is (yes (word, rest, plain, split)) =
        yes (word, rest, plain, is ∙ ap (λ (t : List ℕ). key ++ t) split)
    by_first behind is (no none) =
        no (λ (word, rest, plain, split). none (
          word,
          rest,
          plain,
          append_cancel_left key behind (word ++ 32 ∷ rest)
              (sym is ∙ split),
        ))

    by : Dec (BeginsWith key text) → Dec (HasValue key text)
    by (yes (behind, is)) = by_first behind is (first_dec behind)
    by (no none) = no (λ (word, rest, plain, is). none (word ++ 32 ∷ rest, is))

some_role_dec : (P : Role → Type 0) → ((role : Role) → Dec (P role)) → Dec ((role : Role) × P role)
some_role_dec P dec =
    dec_iff over back (dec_either (dec Disabled) (dec_either (dec Master) (dec_either (dec Slave) (dec Passive))))
  where
    over : P Disabled ⊎ (P Master ⊎ (P Slave ⊎ P Passive)) → (role : Role) × P role
    over (inl p) = (Disabled, p)
    over (inr (inl p)) = (Master, p)
    over (inr (inr (inl p))) = (Slave, p)
    over (inr (inr (inr p))) = (Passive, p)

    back : (role : Role) × P role → P Disabled ⊎ (P Master ⊎ (P Slave ⊎ P Passive))
    back (Disabled, p) = inl p
    back (Master, p) = inr (inl p)
    back (Slave, p) = inr (inr (inl p))
    back (Passive, p) = inr (inr (inr p))

role_dec : (text : List ℕ) → Dec ((role : Role) × (text ≡ role_word role))
role_dec text = some_role_dec (λ (role : Role). text ≡ role_word role) (λ role. octets_dec text (role_word role))

-- ---- the words of a parent

abbrev HasLink : List ℕ → Type 0
HasLink text = (link : ParentWords) × HasParentWords (Some link) × (text ≡ parent_text (Some link))

module _ (text : List ℕ) where
  module _ (own rest : List ℕ) (own_is : IsWord own) (is : text ≡ own ++ 32 ∷ rest) where
    link_by_port : (clock port : List ℕ) → IsWord clock → rest ≡ clock ++ 32 ∷ port → Dec (IsWord port)
        → Dec (HasLink text)
    link_by_port clock port clock_is split (yes port_is) =
        let link : ParentWords = record { own_port = own; clock = clock; port = port } in
        yes (
          link,
          record { own_port = own_is; clock = clock_is; port = port_is },
          is ∙ ap (λ (t : List ℕ). own ++ 32 ∷ t) split ∙ sym (link_parts link),
        )
    link_by_port clock port clock_is split (no none) =
        no (λ (link, are, same).
        let first = link_behind_own link text own rest are own_is is same in
        let second = link_behind_clock link rest clock port are clock_is split first.1 in
        none (subst IsWord (sym second.1) are.port))

    link_by_clock : Dec (HasFirst rest) → Dec (HasLink text)
    link_by_clock (yes (clock, port, clock_is, split)) = link_by_port clock port clock_is split (word_dec port)
    link_by_clock (no none) =
        no (λ (link, are, same).
        let first = link_behind_own link text own rest are own_is is same in
        none (link.clock, link.port, are.clock, first.1))

  link_by_own : Dec (HasFirst text) → Dec (HasLink text)
  link_by_own (yes (own, rest, own_is, is)) = link_by_clock own rest own_is is (first_dec rest)
  link_by_own (no none) =
      no (λ (link, are, same). none (
        link.own_port,
        link.clock ++ 32 ∷ link.port,
        are.own_port,
        same ∙ link_parts link,
      ))

  abbrev HasParent : Type 0
  HasParent = (parent : Option ParentWords) × HasParentWords parent × (text ≡ parent_text parent)

  parent_by : Dec (text ≡ codes "none") → Dec (HasLink text) → Dec HasParent
  parent_by (yes none) link = yes (None, tt, none)
  parent_by (no some) (yes (link, are, is)) = yes (Some link, are, is)
  parent_by (no some) (no none) = no out
    where
      out : HasParent → ⊥
      out (None, are, is) = some is
      out (Some link, are, is) = none (link, are, is)

  parent_dec : Dec HasParent
  parent_dec = parent_by (octets_dec text (codes "none")) (link_by_own (first_dec text))

-- ---- the words of a system line

module _ (line : List ℕ) where
  abbrev HasSystem : Type 0
  HasSystem = (words : SystemWords) × AreSystemWords words × (line ≡ system_text words)

  module _ (clock rest : List ℕ) (clock_is : IsWord clock) (is : line ≡ codes "system " ++ (clock ++ 32 ∷ rest)) where
    module _ (root more : List ℕ) (root_is : IsWord root) (root_at : rest ≡ codes "root " ++ (root ++ 32 ∷ more)) where
      module _ (steps last : List ℕ) (steps_is : IsWord steps)
          (steps_at : more ≡ codes "steps " ++ (steps ++ 32 ∷ last)) where
        behind_words : (words : SystemWords) → AreSystemWords words → line ≡ system_text words
            → last ≡ behind_steps words
        behind_words words are same =
            let first = rest_behind_clock words line clock rest are clock_is is same in
            let second = rest_behind_root words rest root more are root_is root_at first.1 in
            (rest_behind_steps words more steps last are steps_is steps_at second.1).1

        system_by_parent : (text : List ℕ) → last ≡ codes "parent " ++ text → Dec (HasParent text) → Dec HasSystem
        system_by_parent text at (yes (parent, are, parent_is)) =
            let words : SystemWords = record { clock = clock; root = root; steps = steps; parent = parent } in
            yes (
              words,
              record { clock = clock_is; root = root_is; steps = steps_is; parent = are },
              is ∙ ap (λ (t : List ℕ). codes "system " ++ (clock ++ 32 ∷ t)) (root_at
                  ∙ ap (λ (t : List ℕ). codes "root " ++ (root ++ 32 ∷ t)) (steps_at
                  ∙ ap (λ (t : List ℕ). codes "steps " ++ (steps ++ 32 ∷ t)) (at
                  ∙ ap (λ (t : List ℕ). codes "parent " ++ t) parent_is)))
                  ∙ sym (system_parts words),
            )
        system_by_parent text at (no none) =
            no (λ (words, are, same).
            none (words.parent, are.parent, rest_is_parent words last text at (behind_words words are same)))

        system_by_rest : Dec (BeginsWith (codes "parent ") last) → Dec HasSystem
        system_by_rest (yes (text, at)) = system_by_parent text at (parent_dec text)
        system_by_rest (no none) =
            no (λ (words, are, same). none (parent_text words.parent, behind_words words are same))

      system_by_steps : Dec (HasValue (codes "steps ") more) → Dec HasSystem
      system_by_steps (yes (steps, last, steps_is, at)) =
          system_by_rest steps last steps_is at (after_dec (codes "parent ") last)
      system_by_steps (no none) =
          no (λ (words, are, same).
          let first = rest_behind_clock words line clock rest are clock_is is same in
          let second = rest_behind_root words rest root more are root_is root_at first.1 in
          none (words.steps, behind_steps words, are.steps, second.1))

    system_by_root : Dec (HasValue (codes "root ") rest) → Dec HasSystem
    system_by_root (yes (root, more, root_is, at)) =
        system_by_steps root more root_is at (value_dec (codes "steps ") more)
    system_by_root (no none) =
        no (λ (words, are, same).
        let first = rest_behind_clock words line clock rest are clock_is is same in
        none (words.root, behind_root words, are.root, first.1))

  system_by_clock : Dec (HasValue (codes "system ") line) → Dec HasSystem
  system_by_clock (yes (clock, rest, clock_is, is)) =
      system_by_root clock rest clock_is is (value_dec (codes "root ") rest)
  system_by_clock (no none) =
      no (λ (words, are, same). none (words.clock, behind_clock words, are.clock, same ∙ system_parts words))

  -- ---- those of a far system's line

  abbrev HasFar : Type 0
  HasFar = (words : FarWords) × AreFarWords words × (line ≡ far_text words)

  module _ (clock rest : List ℕ) (clock_is : IsWord clock) (is : line ≡ codes "system " ++ (clock ++ 32 ∷ rest)) where
    module _ (steps last : List ℕ) (steps_is : IsWord steps)
        (steps_at : rest ≡ codes "far " ++ (steps ++ 32 ∷ last)) where
      behind_far : (words : FarWords) → AreFarWords words → line ≡ far_text words → last ≡ far_behind_steps words
      behind_far words are same =
          let first = far_rest_behind_clock words line clock rest are clock_is is same in
          (far_rest_behind_steps words rest steps last are steps_is steps_at first.1).1

      far_by_root : (root : List ℕ) → last ≡ codes "root " ++ root → Dec (IsWord root) → Dec HasFar
      far_by_root root at (yes root_is) =
          let words : FarWords = record { clock = clock; steps = steps; root = root } in
          yes (
            words,
            record { clock = clock_is; steps = steps_is; root = root_is },
            is ∙ ap (λ (t : List ℕ). codes "system " ++ (clock ++ 32 ∷ t)) (steps_at
                ∙ ap (λ (t : List ℕ). codes "far " ++ (steps ++ 32 ∷ t)) at)
                ∙ sym (far_parts words),
          )
      far_by_root root at (no none) =
          no (λ (words, are, same).
          none (subst IsWord (sym (rest_is_root words last root at (behind_far words are same))) are.root))

      far_by_rest : Dec (BeginsWith (codes "root ") last) → Dec HasFar
      far_by_rest (yes (root, at)) = far_by_root root at (word_dec root)
      far_by_rest (no none) = no (λ (words, are, same). none (words.root, behind_far words are same))

    far_by_steps : Dec (HasValue (codes "far ") rest) → Dec HasFar
    far_by_steps (yes (steps, last, steps_is, at)) =
        far_by_rest steps last steps_is at (after_dec (codes "root ") last)
    far_by_steps (no none) =
        no (λ (words, are, same).
        let first = far_rest_behind_clock words line clock rest are clock_is is same in
        none (words.steps, far_behind_steps words, are.steps, first.1))

  far_by_clock : Dec (HasValue (codes "system ") line) → Dec HasFar
  far_by_clock (yes (clock, rest, clock_is, is)) = far_by_steps clock rest clock_is is (value_dec (codes "far ") rest)
  far_by_clock (no none) =
      no (λ (words, are, same). none (words.clock, far_behind_clock words, are.clock, same ∙ far_parts words))

  -- ---- those of a port line

  abbrev HasPort : Type 0
  HasPort = (words : PortWords) × ArePortWords words × (line ≡ port_text words)

  module _ (clock rest : List ℕ) (clock_is : IsWord clock) (is : line ≡ codes "port " ++ (clock ++ 32 ∷ rest)) where
    port_by_role : (number last : List ℕ) → IsWord number → rest ≡ number ++ 32 ∷ last
        → Dec ((role : Role) × (last ≡ role_word role)) → Dec HasPort
    port_by_role number last number_is at (yes (role, role_is)) =
        let words : PortWords = record { clock = clock; number = number; role = role } in
        yes (
          words,
          record { clock = clock_is; number = number_is },
          is ∙ ap (λ (t : List ℕ). codes "port " ++ (clock ++ 32 ∷ t)) (at
              ∙ ap (λ (t : List ℕ). number ++ 32 ∷ t) role_is)
              ∙ sym (port_parts words),
        )
    port_by_role number last number_is at (no none) =
        no (λ (words, are, same).
        let first = port_behind_clock words line clock rest are clock_is is same in
        none (words.role, (port_behind_number words rest number last are number_is at first.1).1))

    port_by_number : Dec (HasFirst rest) → Dec HasPort
    port_by_number (yes (number, last, number_is, at)) = port_by_role number last number_is at (role_dec last)
    port_by_number (no none) =
        no (λ (words, are, same).
        let first = port_behind_clock words line clock rest are clock_is is same in
        none (words.number, role_word words.role, are.number, first.1))

  port_by_clock : Dec (HasValue (codes "port ") line) → Dec HasPort
  port_by_clock (yes (clock, rest, clock_is, is)) = port_by_number clock rest clock_is is (first_dec rest)
  port_by_clock (no none) =
      no (λ (words, are, same). none (
        words.clock,
        words.number ++ 32 ∷ role_word words.role,
        are.clock,
        same ∙ port_parts words,
      ))

  -- ---- the form of a line

  abbrev HasAny : Type 0
  HasAny = (form : Form) × HasWords form × (line ≡ form_text form)

  any_by : Dec HasSystem → Dec HasFar → Dec HasPort → Dec HasAny
  any_by (yes (words, are, is)) far port = yes (SystemForm words, are, is)
  any_by (no system) (yes (words, are, is)) port = yes (FarForm words, are, is)
  any_by (no system) (no far) (yes (words, are, is)) = yes (PortForm words, are, is)
  any_by (no system) (no far) (no port) = no out
    where
      out : HasAny → ⊥
      out (SystemForm words, are, is) = system (words, are, is)
      out (FarForm words, are, is) = far (words, are, is)
      out (PortForm words, are, is) = port (words, are, is)

  any_dec : Dec HasAny
  any_dec =
      any_by (system_by_clock (value_dec (codes "system ") line)) (far_by_clock (value_dec (codes "system ") line))
      (port_by_clock (value_dec (codes "port ") line))

  fits_dec : (version : ℕ) (after_far : Bool) (form : Form) → Dec (FitsHere version after_far form)
  fits_dec version after_far (SystemForm words) = yes tt
  fits_dec version after_far (FarForm words) = ℕ_discrete version 2
  fits_dec version after_far (PortForm words) = bool_dec after_far false

  form_by : (version : ℕ) (after_far : Bool) (form : Form) → HasWords form → line ≡ form_text form
      → Dec (FitsHere version after_far form) → Dec (HasForm version after_far line)
  form_by version after_far form words is (yes fits) =
      yes (record { form = form; words = words; fits = fits; is = is })
  form_by version after_far form words is (no out) = no (unfit version after_far line form words is out)

  form_by_any : (version : ℕ) (after_far : Bool) → Dec HasAny → Dec (HasForm version after_far line)
  form_by_any version after_far (yes (form, words, is)) =
      form_by version after_far form words is (fits_dec version after_far form)
  form_by_any version after_far (no none) = no (λ has. none (has.form, has.words, has.is))

  pub form_dec : (version : ℕ) (after_far : Bool) → Dec (HasForm version after_far line)
  form_dec version after_far = form_by_any version after_far any_dec

  -- ---- the entry of a line: numbers are bounded, so that it is among finitely many

  abbrev IsPortEntry : ℕ → ℕ → Role → Type 0
  IsPortEntry clock number role = line ≡ entry_text (PortEntry clock (record { number = number; role = role }))

  abbrev HasPortEntry : Type 0
  HasPortEntry =
      (clock : ℕ) × (clock < 2 ^ 64) × ((number : ℕ) × (number < 65536) × (IsPortNumber number
      × ((role : Role) × IsPortEntry clock number role)))

  number_dec : (number : ℕ) → Dec (IsPortNumber number)
  number_dec number =
      dec_iff (λ h. record { least = h.0; most = h.1 }) (λ h. (h.least, h.most))
      (dec_both (dec_le 1 number) (dec_le number 65535))

  port_entry_dec : Dec HasPortEntry
  port_entry_dec =
      below_dec
      (λ (clock : ℕ). (number : ℕ) × (number < 65536) × (IsPortNumber number
      × ((role : Role) × IsPortEntry clock number role)))
      (λ clock. below_dec (λ (number : ℕ). IsPortNumber number × ((role : Role) × IsPortEntry clock number role))
      (λ number. dec_both (number_dec number)
      (some_role_dec (IsPortEntry clock number) (λ role. octets_dec line
      (entry_text (PortEntry clock (record { number = number; role = role })))))) 65536) (2 ^ 64)

  -- a system's entry of these numbers
  abbrev HasNumbers : (ℕ → ℕ → ℕ → Type 0) → Type 0
  HasNumbers P =
      (clock : ℕ) × (clock < 2 ^ 64) × ((root : ℕ) × (root < 2 ^ 112) × ((steps : ℕ) × (steps < 65536)
      × P clock root steps))

  numbers_dec : (P : ℕ → ℕ → ℕ → Type 0) → ((clock root steps : ℕ) → Dec (P clock root steps)) → Dec (HasNumbers P)
  numbers_dec P dec =
      below_dec
      (λ (clock : ℕ). (root : ℕ) × (root < 2 ^ 112) × ((steps : ℕ) × (steps < 65536) × P clock root steps))
      (λ clock. below_dec (λ (root : ℕ). (steps : ℕ) × (steps < 65536) × P clock root steps)
      (λ root. below_dec (P clock root) (dec clock root) 65536) (2 ^ 112)) (2 ^ 64)

  module _ (version : ℕ) where
    abbrev IsFarEntry : ℕ → ℕ → ℕ → Type 0
    IsFarEntry clock root steps = (version ≡ 2) × (line ≡ entry_text (SystemEntry clock root steps true None))

    abbrev IsRootEntry : ℕ → ℕ → ℕ → Type 0
    IsRootEntry clock root steps = line ≡ entry_text (SystemEntry clock root steps false None)

    abbrev link_of : ℕ → ℕ → ℕ → ParentLink
    link_of own clock port = record { own_port = own; clock = clock; port = port }

    abbrev IsLinkedEntry : ℕ → ℕ → ℕ → Type 0
    IsLinkedEntry clock root steps =
        (there : ℕ) × (there < 2 ^ 64) × ((own : ℕ) × (own < 65536) × ((port : ℕ) × (port < 65536)
        × (IsPortNumber own × (IsPortNumber port
        × (line ≡ entry_text (SystemEntry clock root steps false (Some (link_of own there port))))))))

    linked_dec : (clock root steps : ℕ) → Dec (IsLinkedEntry clock root steps)
    linked_dec clock root steps =
        below_dec
        (λ (there : ℕ). (own : ℕ) × (own < 65536) × ((port : ℕ) × (port < 65536) × (IsPortNumber own
        × (IsPortNumber port
        × (line ≡ entry_text (SystemEntry clock root steps false (Some (link_of own there port))))))))
        (λ there. below_dec
        (λ (own : ℕ). (port : ℕ) × (port < 65536) × (IsPortNumber own × (IsPortNumber port
        × (line ≡ entry_text (SystemEntry clock root steps false (Some (link_of own there port)))))))
        (λ own. below_dec
        (λ (port : ℕ). IsPortNumber own × (IsPortNumber port
        × (line ≡ entry_text (SystemEntry clock root steps false (Some (link_of own there port))))))
        (λ port. dec_both (number_dec own) (dec_both (number_dec port) (octets_dec line
        (entry_text (SystemEntry clock root steps false (Some (link_of own there port))))))) 65536) 65536) (2 ^ 64)

    abbrev pub HasEntry : Type 0
    HasEntry = (entry : LineKey) × IsReadableEntry version entry × (line ≡ entry_text entry)

    abbrev IsOneOf : Type 0
    IsOneOf = HasPortEntry ⊎ (HasNumbers IsFarEntry ⊎ (HasNumbers IsRootEntry ⊎ HasNumbers IsLinkedEntry))

    to_entry : IsOneOf → HasEntry
    to_entry (inl (clock, below, (number, _, (is_number, (role, is))))) =
        (PortEntry clock (record { number = number; role = role }), (below, is_number), is)
    to_entry (inr (inl (clock, clock_below, (root, root_below, (steps, steps_below, (second, is)))))) = (
      SystemEntry clock root steps true None,
      (clock_below, root_below, omega (arith, steps_below), (refl, second)),
      is,
    )
    to_entry (inr (inr (inl (clock, clock_below, (root, root_below, (steps, steps_below, is)))))) =
        (SystemEntry clock root steps false None, (clock_below, root_below, omega (arith, steps_below), tt), is)
    to_entry (inr (inr (inr (
      clock,
      clock_below,
      (
        root,
        root_below,
        (
          steps,
          steps_below,
          (there, there_below, (own, _, (port, _, (own_is, (port_is, is))))),
        ),
      ),
    ))))
        = (
          SystemEntry clock root steps false (Some (link_of own there port)),
          (
            clock_below,
            root_below,
            omega (arith, steps_below),
            record { own_port = own_is; clock = there_below; port = port_is },
          ),
          is,
        )

    of_entry : HasEntry → IsOneOf
    of_entry (PortEntry clock port, readable, is) =
        let most = readable.1.most in
        inl (clock, readable.0, (port.number, omega (arith, most), (readable.1, (port.role, is))))
    of_entry (SystemEntry clock root steps true parent, readable, is) =
        let most = readable.2 in
        inr (inl (clock, readable.0, (root, readable.1, (steps, omega (arith, most), (readable.3.1, is)))))
    of_entry (SystemEntry clock root steps false None, readable, is) =
        let most = readable.2 in
        inr (inr (inl (clock, readable.0, (root, readable.1, (steps, omega (arith, most), is)))))
    of_entry (SystemEntry clock root steps false (Some link), readable, is) =
        let most = readable.2 in
        let own_most = readable.3.own_port.most in
        let port_most = readable.3.port.most in
        inr (inr (inr (
          clock,
          readable.0,
          (
            root,
            readable.1,
            (
              steps,
              omega (arith, most),
              (
                link.clock,
                readable.3.clock,
                (
                  link.own_port,
                  omega (arith, own_most),
                  (
                    link.port,
                    omega (arith, port_most),
                    (readable.3.own_port, (readable.3.port, is)),
                  ),
                ),
              ),
            ),
          ),
        )))

    pub entry_dec : Dec HasEntry
    entry_dec =
        dec_iff to_entry of_entry (dec_either port_entry_dec (dec_either
        (numbers_dec IsFarEntry (λ clock root steps. dec_both (ℕ_discrete version 2)
        (octets_dec line (entry_text (SystemEntry clock root steps true None)))))
        (dec_either
        (numbers_dec IsRootEntry (λ clock root steps.
        octets_dec line (entry_text (SystemEntry clock root steps false None))))
        (numbers_dec IsLinkedEntry linked_dec))))
