-- The lines of cases (profile).
use Rattle.std.specs.Prelude.{ℕ, List, [], ◌∷◌, ◌++◌, codes, length, map, is_some, Bool, Option, Some, None}
use Rattle.std.specs.Fmt.{decimal}
use Rattle.std.specs.List.{flat_map}
use Rattle.std.specs.Option.{option_map}
use Rattle.gptp_words.specs.Digits.{clock_text, identity_text, or_none}
use Rattle.gptp_timeline.specs.Amounts.{near_text}
use Rattle.gptp_timeline.specs.Limits.{all_limits, amount_of, exceeds, first_exceeded, verdict_line}
use Rattle.gptp_timeline.specs.StretchText.{longest_text, worst_text}
use Rattle.gptp_timeline.specs.declared.counts.Counts.{Counts}
use Rattle.gptp_timeline.specs.declared.limits.Limit.{Limit}
use Rattle.gptp_timeline.specs.declared.limits.Limit.TheVariants.{Alone, Apart, Astray, Bound, Choice, Cut, Error, First, Holdover, Roots, Step, Time, Without}
use Rattle.gptp_timeline.specs.declared.limits.Limits.{Limits}
use Rattle.gptp_vector.specs.declared.port.PortId.{PortId}
use Rattle.gptp_faults.specs.Extremes.{greatest_of_two, of_none}
use Rattle.gptp_faults.specs.Outcomes.{OutcomeState}
use Rattle.gptp_faults.specs.Ranking.{amount_or_0}
use Rattle.gptp_faults.specs.TimeText.{times_lines, worst_times_lines}
use Rattle.gptp_faults.specs.declared.cases.Case.{Case}
use Rattle.gptp_faults.specs.declared.cases.Case.TheVariants as cases
use Rattle.gptp_faults.specs.declared.extremes.Extremes.{Extremes}
use Rattle.gptp_faults.specs.declared.extremes.HowSoon.{HowSoon}
use Rattle.gptp_faults.specs.declared.follows.Follow.{Follow}
use Rattle.gptp_faults.specs.declared.options.FaultsOptions.{FaultsOptions}
use Rattle.gptp_faults.specs.declared.times.Times.{Times}

-- how many cases there are, and in how many runs each is tried, from when on
abbrev pub head_line : ℕ → Times → List ℕ
head_line count t =
    codes "cases " ++ decimal count
    ++ codes " moments " ++ decimal t.moments
    ++ codes " seeds " ++ decimal t.seeds
    ++ codes " from " ++ decimal t.from

-- ---- a case

abbrev pub case_port_text : PortId → List ℕ
case_port_text p = clock_text p.clock ++ codes " " ++ decimal p.port

abbrev pub case_text : Case → List ℕ
case_text (cases.Link a b) = codes "link " ++ case_port_text a ++ codes " " ++ case_port_text b
case_text (cases.System clock) = codes "system " ++ clock_text clock
case_text (cases.Power clock) = codes "power " ++ clock_text clock

abbrev pub case_line : ℕ → Case → List ℕ
case_line number c = codes "case " ++ decimal number ++ codes " " ++ case_text c

abbrev pub counts_text : Counts → List ℕ
counts_text c =
    codes " without " ++ decimal c.without
    ++ codes " roots " ++ decimal c.roots
    ++ codes " alone " ++ decimal c.alone

-- how soon the choice and the roles stand at most
abbrev pub bounds_text : Option HowSoon → List ℕ
bounds_text None = codes " bound none none"
bounds_text (Some b) = codes " bound " ++ decimal b.choice ++ codes " " ++ decimal b.roles

-- who is cut off, and who of the others is astray, behind that
abbrev pub counts_words : Extremes → List ℕ
counts_words e =
    counts_text e.counts
    ++ codes " cut " ++ decimal e.cut
    ++ codes " astray " ++ decimal e.astray
    ++ bounds_text e.bounds

abbrev pub amounts_words : List ℕ → Extremes → List ℕ
amounts_words word e =
    word
    ++ codes " choice " ++ or_none decimal e.choice
    ++ codes " holdover " ++ longest_text e.holdover
    ++ codes " error " ++ worst_text e.error

-- the greatest of all runs, with whose they are
abbrev pub extremes_line : List ℕ → Extremes → List ℕ
extremes_line word e =
    amounts_words word e ++ counts_words e

-- and behind it that of what systems read, where it is asked for
abbrev pub extremes_lines : Bool → List ℕ → Extremes → List (List ℕ)
extremes_lines asked word e = extremes_line word e ∷ times_lines asked word e.times

abbrev pub follow_line : Follow → List ℕ
follow_line f = codes "follow " ++ identity_text f.root ++ codes " " ++ decimal f.systems

-- while it is down, whom systems follow then, and when it is back
abbrev pub outcome_lines : Bool → OutcomeState → List (List ℕ)
outcome_lines asked o =
    case_line o.number o.failing ∷ extremes_lines asked (codes "down") o.down
    ++ (map follow_line o.follow ++ extremes_lines asked (codes "back") o.back)

-- ---- all cases

-- the greatest of all, after others
abbrev pub worst_behind : Extremes → List OutcomeState → Extremes
worst_behind e [] = e
worst_behind e (o ∷ os) = worst_behind (greatest_of_two (greatest_of_two e o.down) o.back) os

abbrev pub worst_of_all : List OutcomeState → Extremes
worst_of_all = worst_behind of_none

abbrev pub worst_words : Option ℕ → ℕ → ℕ → List ℕ
worst_words choice holdover error =
    codes "worst choice " ++ or_none decimal choice
    ++ codes " holdover " ++ decimal holdover
    ++ codes " error " ++ near_text error

abbrev pub worst_line : Extremes → List ℕ
worst_line e =
    worst_words e.choice (amount_or_0 (amount_of e.holdover)) (amount_or_0 (amount_of e.error))
    ++ counts_words e

abbrev pub worst_lines : Bool → Extremes → List (List ℕ)
worst_lines asked e = worst_line e ∷ worst_times_lines asked (codes "worst") e.times

abbrev pub choice_bound : Option HowSoon → Option ℕ
choice_bound = option_map (λ (b : HowSoon). b.choice)

-- what a limit asks for in it
abbrev pub worst_amount : Extremes → Limit → Option ℕ
worst_amount e Choice = e.choice
worst_amount e Holdover = amount_of e.holdover
worst_amount e Error = amount_of e.error
worst_amount e Without = Some e.counts.without
worst_amount e Roots = Some e.counts.roots
worst_amount e Alone = Some e.counts.alone
worst_amount e Cut = Some e.cut
worst_amount e Astray = Some e.astray
worst_amount e Bound = choice_bound e.bounds
worst_amount e Time = amount_of e.times.time
worst_amount e Apart = Some e.times.apart.amount
worst_amount e Step = amount_of e.times.step
worst_amount e First = e.times.first_asked

abbrev pub worst_exceeds : Limits → Extremes → Limit → Bool
worst_exceeds limits e limit = exceeds limits limit (worst_amount e limit)

-- the first limit that it exceeds
abbrev pub exceeded_by : Limits → Extremes → Option Limit
exceeded_by limits e = first_exceeded (worst_exceeds limits e) all_limits

abbrev pub exceeds_limit : Limits → List OutcomeState → Bool
exceeds_limit limits outcomes = is_some (exceeded_by limits (worst_of_all outcomes))

-- of cases in the order in which they are told
abbrev pub table_lines : FaultsOptions → Times → List OutcomeState → List (List ℕ)
table_lines options t outcomes =
    head_line (length outcomes) t ∷ flat_map (outcome_lines options.times) outcomes
    ++ (worst_lines options.times (worst_of_all outcomes)
    ++ verdict_line (exceeded_by options.limits (worst_of_all outcomes)) ∷ [])
