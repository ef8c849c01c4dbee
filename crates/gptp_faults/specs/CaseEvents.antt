-- What happens to the network of a document in a case (profile).
use Rattle.std.specs.Prelude.{◌≤◌, ⊤, ℕ, ◌+◌, List, [], ◌∷◌, map, length, Option, Some, None}
use Rattle.std.specs.List.{AllByRecursion}
use Rattle.gptp_setup.specs.declared.limits.TheConstants.{LAST_MOMENT}
use Rattle.gptp_links.specs.declared.bounds.Bounds.{Bounds}
use Rattle.gptp_network.specs.Adding.{with_event}
use Rattle.gptp_network.specs.Document.{DocumentState}
use Rattle.gptp_scenario.specs.declared.change.Change.{Change}
use Rattle.gptp_scenario.specs.declared.change.Change.TheVariants as changes
use Rattle.gptp_topology.specs.declared.course.Cable.{Cable}
use Rattle.gptp_vector.specs.declared.port.PortId.{PortId}
use Rattle.gptp_faults.specs.Cables.{bounds_at, up_ports}
use Rattle.gptp_faults.specs.declared.case_events.CaseChange.{CaseChange}
use Rattle.gptp_faults.specs.declared.case_events.CaseChange.TheVariants.{Fail, LinkDown, LinkSet, LinkUp, Recover}
use Rattle.gptp_faults.specs.declared.cases.Case.{Case}
use Rattle.gptp_faults.specs.declared.cases.Case.TheVariants as cases

abbrev pub change_of : CaseChange → Change
change_of (LinkDown p) = changes.LinkDown p.clock p.port
change_of (LinkUp p) = changes.LinkUp p.clock p.port
change_of (LinkSet p b) = changes.LinkSet p.clock p.port b.min b.max b.loss
change_of (Fail clock) = changes.Fail clock
change_of (Recover clock) = changes.Recover clock

-- what happens at the moment, when that is seen, so much later, and at the return
pub record EventsState : Type 0 where
  pub at : List CaseChange
  pub seen : List CaseChange
  pub delay : ℕ
  pub back : List CaseChange

abbrev pub events_record : List CaseChange → List CaseChange → ℕ → List CaseChange → EventsState
events_record at seen delay back = record { at = at; seen = seen; delay = delay; back = back }

-- how many events there are
abbrev pub count_events : EventsState → ℕ
count_events e = length e.at + length e.seen + length e.back

-- ---- a link

-- It goes down, and comes up.
abbrev pub plain_link : PortId → EventsState
plain_link p = events_record (LinkDown p ∷ []) [] 0 (LinkUp p ∷ [])

-- a link with these bounds that loses every frame
abbrev pub lossy : Bounds → Bounds
lossy b = record { link = b.link; min = b.min; max = b.max; loss = 1000 }

-- It loses every frame until it is seen to be down; its bounds are then as they were.
abbrev pub seen_link : PortId → Bounds → ℕ → EventsState
seen_link p b delay =
    events_record (LinkSet p (lossy b) ∷ []) (LinkDown p ∷ LinkSet p b ∷ []) delay (LinkUp p ∷ [])

abbrev pub link_if : PortId → Option Bounds → Option ℕ → EventsState
link_if p bounds None = plain_link p
link_if p None (Some delay) = plain_link p
link_if p (Some b) (Some delay) = seen_link p b delay

abbrev pub link_events : List Cable → Option ℕ → PortId → EventsState
link_events cables detect p = link_if p (bounds_at cables p) detect

-- ---- a system

-- It hangs: its links stay up. Then it starts again.
abbrev pub hang_events : ℕ → EventsState
hang_events clock = events_record (Fail clock ∷ []) [] 0 (Recover clock ∷ [])

-- It loses its power, and its links go down; then it starts again, and they come up.
abbrev pub power_events : ℕ → List PortId → EventsState
power_events clock ports = events_record (Fail clock ∷ map LinkDown ports) [] 0 (Recover clock ∷ map LinkUp ports)

-- how much later it is seen that links go down; not at all where there is none
abbrev pub delay_of : List PortId → ℕ → ℕ
delay_of [] delay = 0
delay_of (p ∷ ps) delay = delay

-- its links are seen to be down so much later
abbrev pub power_seen : ℕ → List PortId → ℕ → EventsState
power_seen clock ports delay =
    events_record (Fail clock ∷ []) (map LinkDown ports) (delay_of ports delay) (Recover clock ∷ map LinkUp ports)

abbrev pub power_if : Option ℕ → ℕ → List PortId → EventsState
power_if None clock ports = power_events clock ports
power_if (Some delay) clock ports = power_seen clock ports delay

-- ---- a case

-- where the links stand so after all events; a link is named by its first end
abbrev pub events_of : List Cable → Option ℕ → Case → EventsState
events_of cables detect (cases.Link a b) = link_events cables detect a
events_of cables detect (cases.System clock) = hang_events clock
events_of cables detect (cases.Power clock) = power_if detect clock (up_ports cables clock)

-- these changes after the events of a document, at one time
abbrev pub with_changes : ℕ → List CaseChange → DocumentState → DocumentState
with_changes at [] d = d
with_changes at (c ∷ cs) d = with_changes at cs (with_event at (change_of c) d)

-- ---- ranges

abbrev pub IsChangeInRange : CaseChange → Type 0
IsChangeInRange (LinkSet p b) = (1 ≤ b.min) × (b.loss ≤ 1000)
IsChangeInRange change = ⊤

pub record AreEventsInRange (e : EventsState) : Type 0 where
  pub at : AllByRecursion IsChangeInRange e.at
  pub seen : AllByRecursion IsChangeInRange e.seen
  pub delay : e.delay ≤ LAST_MOMENT
  pub back : AllByRecursion IsChangeInRange e.back
