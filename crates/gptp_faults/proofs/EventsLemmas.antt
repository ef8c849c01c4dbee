-- Each case begins and comes back with an event, and is seen later than it begins, or isn't.
use Rattle.std.proofs.Common.{◌≡◌, ◌≤◌, ℕ, List, [], ◌∷◌, map, Option, Some, None, IfSome, refl, arith}
use Rattle.gptp_links.specs.declared.bounds.Bounds.{Bounds}
use Rattle.gptp_topology.specs.declared.course.Cable.{Cable}
use Rattle.gptp_vector.specs.declared.port.PortId.{PortId}
use Rattle.gptp_faults.specs.Cables.{bounds_at, up_ports}
use Rattle.gptp_faults.specs.CaseEvents.{delay_of, events_of, events_record, EventsState, link_if, power_if}
use Rattle.gptp_faults.specs.declared.case_events.CaseChange.{CaseChange}
use Rattle.gptp_faults.specs.declared.case_events.CaseChange.TheVariants.{LinkDown}
use Rattle.gptp_faults.specs.declared.cases.Case.{Case}
use Rattle.gptp_faults.specs.declared.cases.Case.TheVariants as cases

-- nothing is seen, and at once; or something is, so much later at least
abbrev pub IsSeenFrom : ℕ → List CaseChange → ℕ → Type 0
IsSeenFrom least [] delay = delay ≡ 0
IsSeenFrom least (c ∷ cs) delay = least ≤ delay

pub record HasEvents (least : ℕ) (e : EventsState) : Type 0 where
  pub first : CaseChange
  pub others : List CaseChange
  pub at_is : e.at ≡ first ∷ others
  pub last : CaseChange
  pub rest : List CaseChange
  pub back_is : e.back ≡ last ∷ rest
  pub seen_from : IsSeenFrom least e.seen e.delay

module _ (least : ℕ) where
  events_have : (first : CaseChange) (others : List CaseChange) (last : CaseChange) (rest seen : List CaseChange)
      (delay : ℕ) → IsSeenFrom least seen delay
      → HasEvents least (events_record (first ∷ others) seen delay (last ∷ rest))
  events_have first others last rest seen delay seen_from = record {
    first = first;
    others = others;
    at_is = refl;
    last = last;
    rest = rest;
    back_is = refl;
    seen_from = seen_from;
  }

  link_has : (p : PortId) (bounds : Option Bounds) (detect : Option ℕ) → IfSome detect (λ delay. least ≤ delay)
      → HasEvents least (link_if p bounds detect)
  link_has p bounds None asked = events_have _ _ _ _ [] 0 refl
  link_has p None (Some delay) asked = events_have _ _ _ _ [] 0 refl
  link_has p (Some b) (Some delay) asked = events_have _ _ _ _ _ delay asked

  ports_seen : (ports : List PortId) (delay : ℕ) → least ≤ delay
      → IsSeenFrom least (map LinkDown ports) (delay_of ports delay)
  ports_seen [] delay asked = refl
  ports_seen (p ∷ ps) delay asked = asked

  power_has : (detect : Option ℕ) (clock : ℕ) (ports : List PortId) → IfSome detect (λ delay. least ≤ delay)
      → HasEvents least (power_if detect clock ports)
  power_has None clock ports asked = events_have _ _ _ _ [] 0 refl
  power_has (Some delay) clock ports asked =
      events_have _ _ _ _ (map LinkDown ports) (delay_of ports delay) (ports_seen ports delay asked)

  pub has_events : (cables : List Cable) (detect : Option ℕ) (c : Case) → IfSome detect (λ delay. least ≤ delay)
      → HasEvents least (events_of cables detect c)
  has_events cables detect (cases.Link a b) asked = link_has a (bounds_at cables a) detect asked
  has_events cables detect (cases.System clock) asked = events_have _ _ _ _ [] 0 refl
  has_events cables detect (cases.Power clock) asked = power_has detect clock (up_ports cables clock) asked

-- each number is no less than none
pub any_delay : (detect : Option ℕ) → IfSome detect (λ delay. 0 ≤ delay)
any_delay None = tt
any_delay (Some delay) = omega arith
