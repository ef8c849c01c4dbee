-- Lines that are appended to a text, each with its line feed.
use Rattle.std.specs.Prelude.{◌≡◌, ℕ, List, [], ◌∷◌, ◌++◌}
use Rattle.gptp_words.specs.Lines.{text_of}

-- one of which this holds
abbrev pub AppendsLine : (List ℕ → Type 0) → List ℕ → List ℕ → Type 0
AppendsLine Is before after = (line : List ℕ) × Is line × (after ≡ before ++ (line ++ 10 ∷ []))

-- some of which this holds
abbrev pub AppendsLines : (List (List ℕ) → Type 0) → List ℕ → List ℕ → Type 0
AppendsLines Are before after = (lines : List (List ℕ)) × Are lines × (after ≡ before ++ text_of lines)
