-- The lines of what systems read in cases (profile).
use Rattle.std.specs.Prelude.{ℕ, Bool, if◌then◌else◌, List, [], ◌∷◌, ◌++◌, codes, Option, Some, None}
use Rattle.std.specs.Fmt.{decimal}
use Rattle.gptp_words.specs.Digits.{clock_text, or_none}
use Rattle.gptp_timeline.specs.Amounts.{near_text}
use Rattle.gptp_timeline.specs.Limits.{amount_of}
use Rattle.gptp_timeline.specs.StretchText.{worst_text}
use Rattle.gptp_timeline.specs.TimeLines.{sources_words}
use Rattle.gptp_timeline.specs.declared.measures.Greatest.{Greatest}
use Rattle.gptp_faults.specs.declared.extremes.Apart.{Apart}
use Rattle.gptp_faults.specs.declared.extremes.TimeExtremes.{TimeExtremes}

-- how long it took until a system changed its source last, with that system
abbrev pub first_text : Option Greatest → List ℕ
first_text None = codes "none none"
first_text (Some g) = decimal g.amount ++ codes " " ++ clock_text g.clock

abbrev pub read_words : List ℕ → Option Greatest → Apart → List ℕ
read_words word time apart =
    word ++ codes "_times time " ++ worst_text time
    ++ codes " apart " ++ near_text apart.amount ++ sources_words apart.sources

abbrev pub jump_words : Option Greatest → Option Greatest → List ℕ
jump_words step first = codes " step " ++ worst_text step ++ codes " first " ++ first_text first

-- the line of the greatest of all runs
abbrev pub times_line : List ℕ → TimeExtremes → List ℕ
times_line word t = read_words word t.time t.apart ++ jump_words t.step t.first

-- where it is asked for
abbrev pub times_lines : Bool → List ℕ → TimeExtremes → List (List ℕ)
times_lines asked word t = if asked then times_line word t ∷ [] else []

-- ---- the greatest of all cases, by its amounts alone

abbrev pub amount_text : Option Greatest → List ℕ
amount_text None = codes "0.000"
amount_text (Some g) = near_text g.amount

abbrev pub worst_read_words : List ℕ → Option Greatest → ℕ → List ℕ
worst_read_words word time apart =
    word ++ codes "_times time " ++ amount_text time ++ codes " apart " ++ near_text apart

abbrev pub worst_jump_words : Option Greatest → Option ℕ → List ℕ
worst_jump_words step first = codes " step " ++ amount_text step ++ codes " first " ++ or_none decimal first

abbrev pub worst_times_line : List ℕ → TimeExtremes → List ℕ
worst_times_line word t = worst_read_words word t.time t.apart.amount ++ worst_jump_words t.step (amount_of t.first)

abbrev pub worst_times_lines : Bool → List ℕ → TimeExtremes → List (List ℕ)
worst_times_lines asked word t = if asked then worst_times_line word t ∷ [] else []
