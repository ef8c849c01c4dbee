-- What explanations promise beyond single calls.
use Rattle.std.specs.Prelude.{◌≡◌, ◌⊎◌, ℕ, List}
use Rattle.gptp_network.specs.Document.{DocumentState, Means}
use Rattle.gptp_explain.specs.Explained.{Explains, IsAbsent}

-- two texts of a system of a document at a time are one
abbrev pub OneExplanation : Type 0
OneExplanation = (text : List ℕ) (d : DocumentState) (at clock : ℕ) (lines others : List (List ℕ)) → Means text d
    → Explains d at clock lines → Explains d at clock others → lines ≡ others

-- a system that is explained isn't absent
abbrev pub NeverBoth : Type 0
NeverBoth = (d : DocumentState) (at clock : ℕ) (lines : List (List ℕ)) → Explains d at clock lines
    → IsAbsent d at clock → ⊥

-- at each time a system of a document is explained, or absent
abbrev pub EachIsExplained : Type 0
EachIsExplained = (text : List ℕ) (d : DocumentState) (at clock : ℕ) → Means text d
    → ((lines : List (List ℕ)) × Explains d at clock lines) ⊎ IsAbsent d at clock
