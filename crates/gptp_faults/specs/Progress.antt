-- What is told of the cases of a part as they begin (profile).
use Rattle.std.specs.Prelude.{ℕ, zero, suc, Bool, if◌then◌else◌, List, [], ◌∷◌, ◌++◌, codes, length, Option}
use Rattle.std.specs.Fmt.{decimal}
use Rattle.std.specs.Io.KnownBytes.{Appends}
use Rattle.gptp_network.specs.Document.{DocumentState}
use Rattle.gptp_words.specs.Lines.{text_of}
use Rattle.gptp_faults.specs.Cases.{AreCases}
use Rattle.gptp_faults.specs.Outcomes.{case_numbers}
use Rattle.gptp_faults.specs.declared.cases.Case.{Case}
use Rattle.gptp_faults.specs.declared.faults.Answer.{Answer}
use Rattle.gptp_faults.specs.declared.faults.Answer.TheVariants.{Refused, Table}
use Rattle.gptp_faults.specs.declared.options.FaultsOptions.{FaultsOptions}

-- a case by its place among so many, from 1
abbrev pub begun_line : ℕ → ℕ → List ℕ
begun_line place count = codes "case " ++ decimal place ++ codes " of " ++ decimal count

-- its line, where that is asked for
abbrev pub begun : Bool → ℕ → ℕ → List (List ℕ)
begun asked count place = if asked then begun_line place count ∷ [] else []

-- the lines of the first of them, in their order
abbrev pub all_begun : Bool → ℕ → ℕ → List (List ℕ)
all_begun asked count zero = []
all_begun asked count (suc before) = all_begun asked count before ++ begun asked count (suc before)

-- how many cases belong to the part, of so many
abbrev pub part_count : FaultsOptions → ℕ → ℕ
part_count options count = length (case_numbers options.parts options.part count)

-- the lines of all cases of the part
abbrev pub part_begun : FaultsOptions → ℕ → List (List ℕ)
part_begun options count = all_begun options.progress (part_count options count) (part_count options count)

-- Each case of the part is told as it begins, in their order, where none is refused.
abbrev pub TellsCases : DocumentState → FaultsOptions → Option (List ℕ) → Option (List ℕ) → Answer → Type 0
TellsCases d options old new (Refused fault) = Appends old new []
TellsCases d options old new (Table text exceeded) =
    (cases : List Case) × AreCases d options.only options.power cases
    × Appends old new (text_of (part_begun options (length cases)))
