-- The table of cases of which none is refused.
use Rattle.std.proofs.Common.{◌≡◌, false, List, None, refl}
use Rattle.gptp_network.specs.Document.{DocumentState}
use Rattle.gptp_faults.specs.Cases.{AreCases}
use Rattle.gptp_faults.specs.Faults.{AnswersFaultsOf, IsTable}
use Rattle.gptp_faults.specs.FaultsText.{table_lines}
use Rattle.gptp_faults.specs.Refusals.{any_late, fault_before}
use Rattle.gptp_faults.specs.Times.{AreTimes}
use Rattle.gptp_faults.specs.declared.cases.Case.{Case}
use Rattle.gptp_faults.specs.declared.faults.Answer.{Answer}
use Rattle.gptp_faults.specs.declared.faults.Answer.TheVariants.{Refused, Table}
use Rattle.gptp_faults.specs.declared.options.FaultsOptions.{FaultsOptions}
use Rattle.gptp_faults.specs.declared.times.Times.{Times}

pub answered : (d : DocumentState) (options : FaultsOptions) (cases : List Case) (t : Times)
    → AreCases d options.only options.power cases → AreTimes d options t → fault_before d options t cases ≡ None
    → any_late d options t cases ≡ false
    → (answer : Answer) → IsTable d options t cases answer → AnswersFaultsOf d options answer
answered d options cases t are_cases are_times before in_time (Refused fault) none = absurd none
answered d options cases t are_cases are_times before in_time (Table text exceeded)
    (outcomes, told, are_outcomes, are_told, text_is, exceeded_is) = (
      table_lines options t told,
      record {
        cases = cases;
        are_cases = are_cases;
        times = t;
        are_times = are_times;
        before = before;
        in_time = in_time;
        outcomes = outcomes;
        are_outcomes = are_outcomes;
        told = told;
        are_told = are_told;
        are = refl;
        exceeded_is = exceeded_is;
      },
      text_is,
    )
