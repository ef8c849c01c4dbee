-- What is asked of stretches, and which of it isn't so (profile).
use Rattle.std.specs.Prelude.{ℕ, ◌-◌, ◌*◌, ◌==◌, ◌&&◌, ◌||◌, nat_lt, Bool, true, false, if◌then◌else◌, List, [], ◌∷◌, ◌++◌, codes, Option, Some, None, is_some, replicate, slice_index_or}
use Rattle.std.specs.Option.{option_and_then, option_map}
use Rattle.gptp_how_soon.specs.declared.bounds.Settling.{Settling}
use Rattle.gptp_timeline.specs.declared.limits.Limit.{Limit}
use Rattle.gptp_timeline.specs.declared.limits.Limit.TheVariants.{Alone, Apart, Astray, Bound, Choice, Cut, Error, First, Holdover, Roots, Step, Time, Without}
use Rattle.gptp_timeline.specs.declared.limits.Limits.{Limits}
use Rattle.gptp_timeline.specs.Looks.{apart, changed_after}
use Rattle.gptp_timeline.specs.declared.looks.TimeMeasures.{TimeMeasures}
use Rattle.gptp_timeline.specs.declared.measures.Greatest.{Greatest}
use Rattle.gptp_timeline.specs.declared.stretch.Stretch.{Stretch}

-- ---- the limits

-- none is given
abbrev pub no_limits : Limits
no_limits = record { most = replicate 13 None }

-- in the order in which a verdict names the first that is exceeded
abbrev pub all_limits : List Limit
all_limits =
    Choice ∷ Holdover ∷ Error ∷ Without ∷ Roots ∷ Alone ∷ Cut ∷ Astray ∷ Bound ∷ Time ∷ Apart ∷ Step ∷ First ∷ []

-- the place of each among them
abbrev pub limit_number : Limit → ℕ
limit_number Choice = 0
limit_number Holdover = 1
limit_number Error = 2
limit_number Without = 3
limit_number Roots = 4
limit_number Alone = 5
limit_number Cut = 6
limit_number Astray = 7
limit_number Bound = 8
limit_number Time = 9
limit_number Apart = 10
limit_number Step = 11
limit_number First = 12

abbrev pub limit_text : Limit → List ℕ
limit_text Choice = codes "choice"
limit_text Holdover = codes "holdover"
limit_text Error = codes "error"
limit_text Without = codes "without"
limit_text Roots = codes "roots"
limit_text Alone = codes "alone"
limit_text Cut = codes "cut"
limit_text Astray = codes "astray"
limit_text Bound = codes "bound"
limit_text Time = codes "time"
limit_text Apart = codes "apart"
limit_text Step = codes "step"
limit_text First = codes "first"

-- the option that gives it
abbrev pub option_name : Limit → List ℕ
option_name limit = codes "max-" ++ limit_text limit

-- errors, and what systems read, are in 2^-16 ns
abbrev pub unit_of : Limit → ℕ
unit_of Error = 65536
unit_of Time = 65536
unit_of Apart = 65536
unit_of Step = 65536
unit_of limit = 1

-- what is given for it
abbrev pub most_of : Limits → Limit → Option ℕ
most_of limits limit = slice_index_or limits.most (limit_number limit) None

-- a limit is given that asks for what systems read
abbrev pub asks_times : Limits → Bool
asks_times limits = is_some (most_of limits Time)
    || (is_some (most_of limits Apart) || (is_some (most_of limits Step) || is_some (most_of limits First)))

-- ---- whether a stretch keeps to them

abbrev pub choice_after : Stretch → Option ℕ
choice_after s = option_map (λ time. time - s.from) s.measures.choice

-- how soon it stands at most
abbrev pub choice_bound : Stretch → Option ℕ
choice_bound s = option_map (λ (bounds : Settling). bounds.choice) s.settling

abbrev pub amount_of : Option Greatest → Option ℕ
amount_of = option_map (λ (g : Greatest). g.amount)

-- Until a system changed its source last; the whole stretch where a live system has no time at its end.
abbrev pub first_amount : Stretch → Option ℕ
first_amount s =
    if s.counts.without == 0 then option_and_then (λ m. changed_after m s.from) s.times else Some (s.to - s.from)

-- choice, holdover and bound are asked of the stretches that begin with an event, the others of all
abbrev pub is_asked_of : Stretch → Limit → Bool
is_asked_of s Choice = s.begins_with_event
is_asked_of s Holdover = s.begins_with_event
is_asked_of s Bound = s.begins_with_event
is_asked_of s limit = true

-- what a limit asks for in a stretch; who is cut off or astray isn't known of one
abbrev pub amount_in : Stretch → Limit → Option ℕ
amount_in s Choice = choice_after s
amount_in s Holdover = amount_of s.measures.holdover
amount_in s Error = amount_of s.measures.error
amount_in s Without = Some s.counts.without
amount_in s Roots = Some s.counts.roots
amount_in s Alone = Some s.counts.alone
amount_in s Cut = None
amount_in s Astray = None
amount_in s Bound = choice_bound s
amount_in s Time = option_and_then (λ (m : TimeMeasures). amount_of m.time) s.times
amount_in s Apart = option_map apart s.times
amount_in s Step = option_and_then (λ (m : TimeMeasures). amount_of m.step) s.times
amount_in s First = first_amount s

-- that there is no amount is above no limit; but no bound is above each
abbrev pub none_is_above : Limit → Bool
none_is_above Bound = true
none_is_above limit = false

-- a limit of so many units is given, and an amount is above it; where there is none, as is said
abbrev pub is_above : Option ℕ → ℕ → Bool → Option ℕ → Bool
is_above None unit none amount = false
is_above (Some most) unit none None = none
is_above (Some most) unit none (Some amount) = nat_lt (most * unit) amount

abbrev pub exceeds : Limits → Limit → Option ℕ → Bool
exceeds limits limit amount = is_above (most_of limits limit) (unit_of limit) (none_is_above limit) amount

-- a stretch exceeds a limit that is asked of it
abbrev pub exceeds_in : Limits → Stretch → Limit → Bool
exceeds_in limits s limit = is_asked_of s limit && exceeds limits limit (amount_in s limit)

-- the first of several limits that is exceeded
abbrev pub first_exceeded : (Limit → Bool) → List Limit → Option Limit
first_exceeded exceeded [] = None
first_exceeded exceeded (limit ∷ others) = if exceeded limit then Some limit else first_exceeded exceeded others

-- the one of two that comes first
abbrev pub earlier : Option Limit → Option Limit → Option Limit
earlier None b = b
earlier (Some a) None = Some a
earlier (Some a) (Some b) = if nat_lt (limit_number b) (limit_number a) then Some b else Some a

-- the first limit that some stretches exceed, with one more
abbrev pub exceeded_after : Limits → Stretch → Option Limit → Option Limit
exceeded_after limits s before = earlier before (first_exceeded (exceeds_in limits s) all_limits)

-- ---- the verdict

abbrev pub is_some_given : List (Option ℕ) → Bool
is_some_given [] = false
is_some_given (most ∷ others) = is_some most || is_some_given others

-- any limit is given
abbrev pub is_asked : Limits → Bool
is_asked limits = is_some_given limits.most

abbrev pub verdict_line : Option Limit → List ℕ
verdict_line None = codes "within"
verdict_line (Some limit) = codes "exceeded " ++ limit_text limit

abbrev pub verdict_lines : Limits → Option Limit → List (List ℕ)
verdict_lines limits first = if is_asked limits then verdict_line first ∷ [] else []

abbrev pub is_exceeded : Limits → Option Limit → Bool
is_exceeded limits first = is_asked limits && is_some first
