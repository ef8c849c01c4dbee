-- The first fault of a text (profile). Lines are looked at one after another, and of each its form, its spelling and
-- its order.
use Rattle.std.specs.Prelude.{◌≡◌, ◌≢◌, ◌⊎◌, ℕ, List, [], ◌∷◌, ◌++◌}
use Rattle.std.specs.List.{AllByRecursion}
use Rattle.gptp_certificate_text.specs.declared.fault.CertificateFault.{CertificateFault}
use Rattle.gptp_certificate_text.specs.declared.fault.CertificateFault.TheVariants.{Head, Line, Order, Spelling, OutOfMemory}
use Rattle.gptp_certificate_text.specs.Certificate.{IsVersion}
use Rattle.gptp_certificate_text.specs.CertificateText.{end_text, entry_text, front_text, head_text, spelled_line}
use Rattle.gptp_certificate_text.specs.Entries.{LineKey, IsReadableEntry, StandInOrder, ends_far}
use Rattle.gptp_certificate_text.specs.Forms.{FitsHere, HasForm}

-- after the head of this version and the lines of these entries, which can be read and stand in order, stands the rest
pub record StandBefore (version : ℕ) (before : List LineKey) (rest text : List ℕ) : Type 0 where
  pub readable : AllByRecursion (IsReadableEntry version) before
  pub order : StandInOrder before
  pub split : text ≡ front_text version before ++ rest

-- the rest isn't the end, and doesn't begin with a line that has a form which can stand there
pub record HasNoForm (version : ℕ) (before : List LineKey) (rest : List ℕ) : Type 0 where
  pub goes_on : rest ≢ end_text
  pub formless : (line more : List ℕ) → HasForm version (ends_far before) line → rest ≢ line ++ 10 ∷ more

-- the rest begins with a line that has such a form, but is the line of no entry
pub record IsMisspelled (version : ℕ) (before : List LineKey) (rest : List ℕ) : Type 0 where
  pub line : List ℕ
  pub more : List ℕ
  pub form : HasForm version (ends_far before) line
  pub first : rest ≡ line ++ 10 ∷ more
  pub unread : (entry : LineKey) → IsReadableEntry version entry → line ≢ entry_text entry

-- the rest begins with the line of an entry that has such a form, but can't stand after those before
pub record IsOutOfOrder (version : ℕ) (before : List LineKey) (rest : List ℕ) : Type 0 where
  pub entry : LineKey
  pub more : List ℕ
  pub readable : IsReadableEntry version entry
  pub fits : FitsHere version (ends_far before) (spelled_line entry)
  pub first : rest ≡ entry_text entry ++ 10 ∷ more
  pub order : StandInOrder (before ++ entry ∷ []) → ⊥

-- the fault of the first line of the rest
abbrev pub RestFails : ℕ → List LineKey → List ℕ → CertificateFault → Type 0
RestFails version before rest Head = ⊥
RestFails version before rest Line = HasNoForm version before rest
RestFails version before rest Order = IsOutOfOrder version before rest
RestFails version before rest Spelling = IsMisspelled version before rest
RestFails version before rest OutOfMemory = ⊥

-- the text doesn't begin with the head line of a version
abbrev pub LacksHead : List ℕ → Type 0
LacksHead text = (version : ℕ) (rest : List ℕ) → IsVersion version → text ≢ head_text version ++ 10 ∷ rest

-- the first lines are those of a certificate, and the next has the fault
pub record FailsBehind (text : List ℕ) (fault : CertificateFault) : Type 0 where
  pub version : ℕ
  pub before : List LineKey
  pub rest : List ℕ
  pub is_version : IsVersion version
  pub stand : StandBefore version before rest text
  pub fails : RestFails version before rest fault

-- the fault that is found first, by lines and then by form, spelling and order
abbrev pub FailsToParse : List ℕ → CertificateFault → Type 0
FailsToParse text fault = ((fault ≡ Head) × LacksHead text) ⊎ FailsBehind text fault

-- what of a rest that fails does so: what comes after the end, where the rest begins with that, else all of it
abbrev pub IsFailingPart : List ℕ → List ℕ → Type 0
IsFailingPart rest part = (rest ≡ end_text ++ part) ⊎ (((more : List ℕ) → rest ≢ end_text ++ more) × (part ≡ rest))

-- the fault that is found first, and the part of the text that begins with the line that has it
abbrev pub FailsFrom : List ℕ → CertificateFault → List ℕ → Type 0
FailsFrom text fault part =
    ((fault ≡ Head) × LacksHead text × (part ≡ text))
    ⊎ ((failure : FailsBehind text fault) × IsFailingPart failure.rest part)
