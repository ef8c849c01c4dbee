-- What becomes of the network of a document where something fails and comes back (profile).
use Rattle.std.specs.Prelude.{◌≡◌, ℕ, Bool, false, List, None, string_bytes}
use Rattle.gptp_network.specs.Document.{DocumentState}
use Rattle.gptp_words.specs.Lines.{text_of}
use Rattle.gptp_faults.specs.Cases.{AreCases}
use Rattle.gptp_faults.specs.FaultsText.{exceeds_limit, table_lines}
use Rattle.gptp_faults.specs.Outcomes.{AreOutcomes, OutcomeState}
use Rattle.gptp_faults.specs.Ranking.{OutcomesAreRanked}
use Rattle.gptp_faults.specs.Refusals.{any_late, fault_before, RefusesFaults}
use Rattle.gptp_faults.specs.Times.{AreTimes}
use Rattle.gptp_faults.specs.declared.cases.Case.{Case}
use Rattle.gptp_faults.specs.declared.faults.Answer.{Answer}
use Rattle.gptp_faults.specs.declared.faults.Answer.TheVariants.{Refused, Table}
use Rattle.gptp_faults.specs.declared.options.FaultsOptions.{FaultsOptions}
use Rattle.gptp_faults.specs.declared.times.Times.{Times}

-- Each case of a part fails and comes back in several runs, of which none is refused. These are the lines of what
-- becomes of them, the worst first; and whether a limit is exceeded.
pub record FaultsOf (d : DocumentState) (options : FaultsOptions) (lines : List (List ℕ)) (exceeded : Bool) : Type 0
  where
    pub cases : List Case
    pub are_cases : AreCases d options.only options.power cases
    pub times : Times
    pub are_times : AreTimes d options times
    pub before : fault_before d options times cases ≡ None
    pub in_time : any_late d options times cases ≡ false
    pub outcomes : List OutcomeState
    pub are_outcomes : AreOutcomes d times options cases outcomes
    pub told : List OutcomeState
    pub are_told : OutcomesAreRanked outcomes told
    pub are : lines ≡ table_lines options times told
    pub exceeded_is : exceeded ≡ exceeds_limit options.limits told

-- the table of cases of which none is refused
abbrev pub IsTable : DocumentState → FaultsOptions → Times → List Case → Answer → Type 0
IsTable d options t cases (Refused fault) = ⊥
IsTable d options t cases (Table text exceeded) =
    (outcomes told : List OutcomeState) × AreOutcomes d t options cases outcomes × OutcomesAreRanked outcomes told
    × (string_bytes text ≡ text_of (table_lines options t told)) × (exceeded ≡ exceeds_limit options.limits told)

-- the table, or why there is none
abbrev pub AnswersFaultsOf : DocumentState → FaultsOptions → Answer → Type 0
AnswersFaultsOf d options (Refused fault) = RefusesFaults d options fault
AnswersFaultsOf d options (Table text exceeded) =
    (lines : List (List ℕ)) × FaultsOf d options lines exceeded × (string_bytes text ≡ text_of lines)
