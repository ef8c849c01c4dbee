-- Why no case is run (profile).
use Rattle.std.specs.Prelude.{◌≡◌, ◌⊎◌, ℕ, ◌+◌, nat_lt, if◌then◌else◌, Bool, true, List, [], ◌∷◌, length, map, Option, Some, None}
use Rattle.std.specs.List.{list_any, range_with_len}
use Rattle.gptp_network.specs.declared.keys.TheConstants.{LATEST_EVENT}
use Rattle.gptp_setup.specs.declared.limits.TheConstants.{LAST_MOMENT}
use Rattle.gptp_network.specs.Document.{DocumentState}
use Rattle.gptp_network.specs.declared.fault.DocumentFault.{DocumentFault}
use Rattle.gptp_network.specs.declared.fault.DocumentFault.TheVariants.{EventOrder, OutOfRange, TooMany}
use Rattle.gptp_scenario.specs.Calm.{last_change}
use Rattle.gptp_faults.specs.Cables.{cables_after}
use Rattle.gptp_faults.specs.CaseEvents.{count_events, events_of, EventsState}
use Rattle.gptp_faults.specs.Cases.{AreCases}
use Rattle.gptp_faults.specs.Stays.{end_at, return_at}
use Rattle.gptp_faults.specs.Times.{AreTimes, moment}
use Rattle.gptp_faults.specs.declared.cases.Case.{Case}
use Rattle.gptp_faults.specs.declared.options.FaultsOptions.{FaultsOptions}
use Rattle.gptp_faults.specs.declared.times.Times.{Times}

-- the events of a case of a document
abbrev pub case_events : DocumentState → FaultsOptions → Case → EventsState
case_events d options c = events_of (cables_after d) options.detect c

-- A document would be refused with a case that fails at a moment: that is later than an event may be, or earlier than
-- the last, or the return is later than one may be.
abbrev pub refusal_at : DocumentState → Option ℕ → EventsState → ℕ → Option DocumentFault
refusal_at d asked e at =
    if nat_lt LATEST_EVENT at then Some OutOfRange
    else if nat_lt at (last_change d.events) then Some EventOrder
    else if nat_lt LATEST_EVENT (return_at d asked e at) then Some OutOfRange
    else None

-- the first of these
abbrev pub first_some : List (Option DocumentFault) → Option DocumentFault
first_some [] = None
first_some (None ∷ others) = first_some others
first_some (Some fault ∷ others) = Some fault

-- It would be refused with a case: there would be more than 4,096 events, or it is at one of its moments.
abbrev pub refusal_of : DocumentState → Option ℕ → Times → EventsState → Option DocumentFault
refusal_of d asked t e =
    if nat_lt 4096 (length d.events + count_events e) then Some TooMany
    else first_some (map (λ number. refusal_at d asked e (moment t number)) (range_with_len 0 t.moments))

-- with one of several cases, the least first; without a case nothing is refused
abbrev pub fault_before : DocumentState → FaultsOptions → Times → List Case → Option DocumentFault
fault_before d options t cases = first_some (map (λ c. refusal_of d options.hold t (case_events d options c)) cases)

-- the run of a case would end later than one may: that in which it fails at a moment, at one of its moments, or of one
-- of several cases
abbrev pub is_late_at : DocumentState → Option ℕ → EventsState → ℕ → Bool
is_late_at d asked e at = nat_lt LAST_MOMENT (end_at d asked e at)

abbrev pub is_late : DocumentState → Option ℕ → Times → EventsState → Bool
is_late d asked t e = list_any (λ number. is_late_at d asked e (moment t number)) (range_with_len 0 t.moments)

abbrev pub any_late : DocumentState → FaultsOptions → Times → List Case → Bool
any_late d options t cases = list_any (λ c. is_late d options.hold t (case_events d options c)) cases

pub record IsLate (d : DocumentState) (options : FaultsOptions) (t : Times) (cases : List Case) (fault : DocumentFault)
    : Type 0 where
  pub before : fault_before d options t cases ≡ None
  pub late : any_late d options t cases ≡ true
  pub is : fault ≡ OutOfRange

-- the document with the events of some run would be refused by this fault
pub record RefusesFaults (d : DocumentState) (options : FaultsOptions) (fault : DocumentFault) : Type 0 where
  pub cases : List Case
  pub are_cases : AreCases d options.only options.power cases
  pub times : Times
  pub are_times : AreTimes d options times
  pub refuses : (fault_before d options times cases ≡ Some fault) ⊎ IsLate d options times cases fault
