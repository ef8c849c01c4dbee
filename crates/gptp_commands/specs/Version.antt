-- What `gptp_sim --version` writes, and by which words it is asked for.
use Rattle.std.specs.Prelude.{◌≡◌, ℕ, List, [], ◌∷◌, codes, drop}
use Rattle.gptp_words.specs.Lines.{text_of}

-- the words of a command line, the program's name first
abbrev pub AsksVersion : List (List ℕ) → Type 0
AsksVersion words = drop 1 words ≡ codes "--version" ∷ []

-- its one line
abbrev pub version_text : List ℕ
version_text = text_of (codes "gptp_sim 4.11.0" ∷ [])
