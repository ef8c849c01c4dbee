-- The lines of what systems read (profile).
use Rattle.std.specs.Prelude.{ℕ, ◌-◌, List, ◌++◌, codes, Option, Some, None, ℤ}
use Rattle.std.specs.Fmt.{decimal}
use Rattle.gptp_accuracy.specs.AccuracyText.{error_text, reading_at}
use Rattle.gptp_accuracy.specs.declared.errors.SystemError.{SystemError}
use Rattle.gptp_model.specs.World.{WorldState}
use Rattle.gptp_words.specs.Digits.{clock_text, or_none}
use Rattle.gptp_timeline.specs.Amounts.{near_text, signed_text}
use Rattle.gptp_timeline.specs.Jumps.{error_before}
use Rattle.gptp_timeline.specs.Looks.{apart}
use Rattle.gptp_timeline.specs.Readings.{reading_error, step_of}
use Rattle.gptp_timeline.specs.Sources.{DifferenceState}
use Rattle.gptp_timeline.specs.StretchText.{worst_text}
use Rattle.gptp_timeline.specs.declared.exact_reads.ExactReads.{ExactReads}
use Rattle.gptp_timeline.specs.declared.looks.TimeMeasures.{TimeMeasures}
use Rattle.gptp_timeline.specs.declared.measures.Greatest.{Greatest}
use Rattle.gptp_timeline.specs.declared.readings.NewReading.{NewReading}

abbrev pub sources_words : Option DifferenceState → List ℕ
sources_words None = codes " none none"
sources_words (Some d) = codes " " ++ clock_text d.ahead ++ codes " " ++ clock_text d.behind

abbrev pub first_words : ℕ → Option Greatest → List ℕ
first_words from None = codes "none none"
first_words from (Some g) = decimal (g.amount - from) ++ codes " " ++ clock_text g.clock

abbrev pub read_words : ℕ → ℕ → TimeMeasures → List ℕ
read_words from to m =
    codes "times " ++ decimal from ++ codes " to " ++ decimal to
    ++ codes " time " ++ worst_text m.time
    ++ codes " apart " ++ near_text (apart m) ++ sources_words m.sources

abbrev pub jump_words : ℕ → TimeMeasures → List ℕ
jump_words from m = codes " step " ++ worst_text m.step ++ codes " first " ++ first_words from m.changed

-- the line of what was measured in a stretch
abbrev pub times_line : ℕ → ℕ → TimeMeasures → List ℕ
times_line from to m = read_words from to m ++ jump_words from m

abbrev pub source_words : ℕ → NewReading → List ℕ
source_words at u =
    codes "reading " ++ decimal at ++ codes " " ++ clock_text u.clock ++ codes " from "
    ++ clock_text u.after.source.clock

abbrev pub new_words : Option ℤ → Option ℤ → Option ℤ → List ℕ
new_words before after step =
    codes " before " ++ or_none signed_text before
    ++ codes " after " ++ or_none signed_text after
    ++ codes " step " ++ or_none signed_text step

abbrev pub errors_words : ℕ → WorldState → NewReading → List ℕ
errors_words at w u = new_words (error_before at w u) (reading_error at w u.clock u.after) (step_of at w u)

-- the line of a reading that a system gets
abbrev pub reading_line : ℕ → WorldState → NewReading → List ℕ
reading_line at w u = source_words at u ++ errors_words at w u

-- how far off a system read, and how far it may be
abbrev pub reads_words : SystemError → Option ExactReads → List ℕ
reads_words s None = codes " reads none bound none"
reads_words s (Some r) =
    codes " reads " ++ or_none near_text r.worst ++ codes " bound " ++ or_none error_text (reading_at s r.longest)
