-- Time errors as text (profile).
use Rattle.std.specs.Prelude.{◌≡◌, ℕ, ◌*◌, ◌/◌, ◌%◌, Bool, true, false, nat_lt, if◌then◌else◌, List, [], ◌∷◌, ◌++◌, Option, Some, None, is_some, option_map, option_and_then, codes, map}
use Rattle.std.specs.Fmt.{decimal}
use Rattle.gptp_pdelay.specs.GoodLink.{ceil_div}
use Rattle.gptp_words.specs.Digits.{clock_text, identity_text, or_none}
use Rattle.gptp_network.specs.Document.{DocumentState}
use Rattle.gptp_accuracy.specs.Readings.{ReadingTerms, error_after}
use Rattle.gptp_accuracy.specs.TimeErrors.{AreTimeErrors}
use Rattle.gptp_accuracy.specs.declared.errors.SystemError.{SystemError}
use Rattle.gptp_accuracy.specs.declared.errors.TimeErrors.{TimeErrors}
use Rattle.gptp_accuracy.specs.declared.options.AccuracyOptions.{AccuracyOptions}

-- a number of thousandths, with three decimals
abbrev pub thousandths_text : ℕ → List ℕ
thousandths_text n =
    decimal (n / 1000) ++ codes "." ++ decimal (n % 1000 / 100) ++ decimal (n % 100 / 10) ++ decimal (n % 10)

-- a time error, in 2^-16 ns, in ns with three decimals, rounded up
abbrev pub error_text : ℕ → List ℕ
error_text error = thousandths_text (ceil_div (1000 * error) 65536)

-- how old the last receipt of a system is at most, where that is told
abbrev pub age_words : Bool → Option ℕ → List ℕ
age_words false age = []
age_words true age = codes " age " ++ or_none decimal age

-- the time, and from when on the errors hold
abbrev pub calm_words : ℕ → Option ℕ → List ℕ
calm_words time (Some from) = codes "time " ++ decimal time ++ codes " calm yes from " ++ decimal from
calm_words time None = codes "time " ++ decimal time ++ codes " calm no"

abbrev pub accuracy_time_line : AccuracyOptions → ℕ → Option ℕ → Option ℕ → List ℕ
accuracy_time_line options time from age = calm_words time from ++ age_words options.always age

-- the word for how far a root is, by whether the system is too far to follow it
abbrev pub steps_word : Bool → List ℕ
steps_word true = codes "far"
steps_word false = codes "steps"

-- the error of what a system reads so long after a receipt
abbrev pub reading_at : SystemError → ℕ → Option ℕ
reading_at s later = option_map (λ (r : ReadingTerms). error_after r later) s.reading

-- the error of what a system reads at any moment: that at the greatest age of a receipt; none where that isn't known
abbrev pub reading_always : Option ℕ → SystemError → Option ℕ
reading_always age s = option_and_then (reading_at s) age

-- an error by its word
abbrev pub error_words : List ℕ → Option ℕ → List ℕ
error_words word error = word ++ or_none error_text error

abbrev pub reads_words : Option ℕ → SystemError → List ℕ
reads_words None s = []
reads_words (Some later) s = error_words (codes " reads ") (reading_at s later)

abbrev pub always_words : Bool → Option ℕ → SystemError → List ℕ
always_words false age s = []
always_words true age s = error_words (codes " always ") (reading_always age s)

-- a system, the best of its component, how far that is, and its time error
abbrev pub system_words : SystemError → List ℕ
system_words s =
    codes "system " ++ clock_text s.clock ++ codes " root " ++ identity_text s.root ++ codes " "
    ++ steps_word s.far ++ codes " " ++ decimal s.steps ++ error_words (codes " error ") s.error

-- a system, with all errors that are told
abbrev pub system_line : AccuracyOptions → Option ℕ → SystemError → List ℕ
system_line options age s = system_words s ++ reads_words options.reads s ++ always_words options.always age s

-- the error of a system, or that of what it reads so long after a receipt
abbrev pub error_or_reading : Option ℕ → SystemError → Option ℕ
error_or_reading None s = s.error
error_or_reading (Some later) s = reading_at s later

-- the last error of its line, of which the greatest is asked
abbrev pub last_error : AccuracyOptions → Option ℕ → SystemError → Option ℕ
last_error options age s = if options.always then reading_always age s else error_or_reading options.reads s

-- an error is above so many ns, or there is none
abbrev pub error_is_above : ℕ → Option ℕ → Bool
error_is_above most None = true
error_is_above most (Some error) = nat_lt (65536 * most) error

-- the first system of which that is so
abbrev pub first_above : AccuracyOptions → Option ℕ → ℕ → List SystemError → Option ℕ
first_above options age most [] = None
first_above options age most (s ∷ systems) =
    if error_is_above most (last_error options age s) then Some s.clock else first_above options age most systems

abbrev pub accuracy_verdict_line : Option ℕ → List ℕ
accuracy_verdict_line None = codes "within"
accuracy_verdict_line (Some clock) = codes "exceeded " ++ clock_text clock

-- the first system above the greatest error, where one is given
abbrev pub accuracy_verdict : AccuracyOptions → TimeErrors → Option (Option ℕ)
accuracy_verdict options t =
    option_map (λ most. first_above options t.age most t.systems.items) options.max_error

-- the last line, where a greatest error is given
abbrev pub accuracy_verdict_lines : Option (Option ℕ) → List (List ℕ)
accuracy_verdict_lines None = []
accuracy_verdict_lines (Some exceeds) = accuracy_verdict_line exceeds ∷ []

-- a greatest error is given, and some system is above it
abbrev pub error_is_exceeded : AccuracyOptions → TimeErrors → Bool
error_is_exceeded options t = is_some (option_and_then (λ (exceeds : Option ℕ). exceeds) (accuracy_verdict options t))

-- the time, the systems by rising clock, and the last line
abbrev pub accuracy_lines : AccuracyOptions → TimeErrors → List (List ℕ)
accuracy_lines options t =
    accuracy_time_line options t.time t.from t.age
    ∷ map (system_line options t.age) t.systems.items ++ accuracy_verdict_lines (accuracy_verdict options t)

-- The lines for a document at a time, with what is asked for, and whether the greatest error is exceeded.
pub record AccuracyText (d : DocumentState) (until : ℕ) (options : AccuracyOptions) (lines : List (List ℕ))
    (exceeded : Bool) : Type 0 where
  pub errors : TimeErrors
  pub are : AreTimeErrors d until errors
  pub shown : lines ≡ accuracy_lines options errors
  pub exceeded_is : exceeded ≡ error_is_exceeded options errors
