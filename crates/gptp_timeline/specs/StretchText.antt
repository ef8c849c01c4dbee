-- The lines where a stretch ends (profile).
use Rattle.std.specs.Prelude.{ℕ, ◌-◌, ◌==◌, Bool, true, false, if◌then◌else◌, List, [], ◌∷◌, ◌++◌, codes, Option, Some, None}
use Rattle.std.specs.Fmt.{decimal}
use Rattle.std.specs.List.{filter_map}
use Rattle.std.specs.Option.{option_map}
use Rattle.gptp_roles.specs.Selection.{clock_of}
use Rattle.gptp_words.specs.Digits.{clock_text, or_none}
use Rattle.gptp_accuracy.specs.AccuracyText.{error_text}
use Rattle.gptp_accuracy.specs.declared.errors.SystemError.{SystemError}
use Rattle.gptp_how_soon.specs.declared.bounds.Settling.{Settling}
use Rattle.gptp_timeline.specs.Amounts.{near_text}
use Rattle.gptp_timeline.specs.Measures.{greatest_from, one_at}
use Rattle.gptp_timeline.specs.Stretch.{counted, shown_of_all}
use Rattle.gptp_timeline.specs.declared.counts.Counts.{Counts}
use Rattle.gptp_timeline.specs.declared.looks.TimeMeasures.{TimeMeasures}
use Rattle.gptp_timeline.specs.declared.measures.Greatest.{Greatest}
use Rattle.gptp_timeline.specs.declared.measures.Measures.{Measures}
use Rattle.gptp_timeline.specs.declared.stretch.Stretch.{Stretch}
use Rattle.gptp_timeline.specs.declared.watched.Watched.{Watched}

-- ---- the line where a stretch ends

abbrev pub longest_text : Option Greatest → List ℕ
longest_text None = codes "0 none"
longest_text (Some longest) = decimal longest.amount ++ codes " " ++ clock_text longest.clock

abbrev pub worst_text : Option Greatest → List ℕ
worst_text None = codes "0.000 none"
worst_text (Some worst) = near_text worst.amount ++ codes " " ++ clock_text worst.clock

-- how long after the begin of the stretch a time is, if there is one
abbrev pub behind : ℕ → Option ℕ → Option ℕ
behind from = option_map (λ time. time - from)

-- from when to when, and how long it took until the last change
abbrev pub changed_words : Stretch → List ℕ
changed_words s =
    codes "after " ++ decimal s.from ++ codes " to " ++ decimal s.to
    ++ codes " choice " ++ or_none decimal (behind s.from s.measures.choice)
    ++ codes " roles " ++ or_none decimal (behind s.from s.measures.roles)
    ++ codes " offsets " ++ or_none decimal (behind s.from s.measures.offsets)

abbrev pub greatest_words : Measures → List ℕ
greatest_words m = codes " holdover " ++ longest_text m.holdover ++ codes " error " ++ worst_text m.error

abbrev pub counted_words : Counts → List ℕ
counted_words c =
    codes " without " ++ decimal c.without
    ++ codes " roots " ++ decimal c.roots
    ++ codes " alone " ++ decimal c.alone

-- how soon the choice and the roles stand at most
abbrev pub settling_words : Option Settling → List ℕ
settling_words None = codes " bound none none"
settling_words (Some s) = codes " bound " ++ decimal s.choice ++ codes " " ++ decimal s.roles

abbrev pub after_line : Stretch → List ℕ
after_line s = changed_words s ++ greatest_words s.measures ++ counted_words s.counts ++ settling_words s.settling

-- ---- how exact systems were

abbrev pub exact_words : ℕ → Option ℕ → List ℕ
exact_words name error = codes "accuracy " ++ clock_text name ++ codes " error " ++ or_none near_text error

abbrev pub bound_words : ℕ → ℕ → List ℕ
bound_words from bound = codes " bound " ++ error_text bound ++ codes " from " ++ decimal from

-- the line of a system with the bound of its error, and after that what it reads, where that is asked
abbrev pub accuracy_line : ℕ → ℕ → Option ℕ → ℕ → List ℕ → List ℕ
accuracy_line from name error bound reads = exact_words name error ++ bound_words from bound ++ reads

-- where it has one, and isn't its own root
abbrev pub accuracy_of : ℕ → (ℕ → Option ℕ) → List ℕ → ℕ → Bool → Option ℕ → List (List ℕ)
accuracy_of from errors reads name is_root None = []
accuracy_of from errors reads name true (Some bound) = []
accuracy_of from errors reads name false (Some bound) = accuracy_line from name (errors name) bound reads ∷ []

abbrev pub system_accuracy : ℕ → (ℕ → Option ℕ) → (SystemError → List ℕ) → SystemError → List (List ℕ)
system_accuracy from errors reads s =
    accuracy_of from errors (reads s) s.clock (clock_of s.root == s.clock) s.error

-- ---- by what an observer keeps

-- the wait of a system that is under way at a time
abbrev pub wait_of : ℕ → Watched → Option Greatest
wait_of to x = option_map (λ since. one_at x.clock (to - since)) x.since

abbrev pub error_among : List Watched → ℕ → Option ℕ
error_among [] clock = None
error_among (x ∷ xs) clock = if x.clock == clock then x.error else error_among xs clock

-- what became of a stretch, by what was measured of its acts and what is kept of all systems
abbrev pub ended_stretch : ℕ → ℕ → Bool → Option Settling → Measures → List Watched → Option TimeMeasures → Stretch
ended_stretch from to begins_with_event settling m systems times = record {
  from = from;
  to = to;
  begins_with_event = begins_with_event;
  settling = settling;
  measures = record m { holdover = greatest_from m.holdover (filter_map (wait_of to) systems) };
  counts = counted (shown_of_all systems);
  times = times;
}
