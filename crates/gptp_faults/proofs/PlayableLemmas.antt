-- A document in which a case fails and comes back can be played.
use Rattle.std.proofs.Common.{◌≡◌, ◌≤◌, ◌+◌, ◌||◌, ◌&&◌, ◌==◌, ℕ, Bool, true, false, if◌then◌else◌, List, [], ◌∷◌, Option, Some, None, filter_map, map, ◌++◌, refl, sym, ap, subst, ◌∙◌, inl, inr, arith}
use Rattle.std.specs.List.{AllByRecursion, list_any, range_with_len}
use Rattle.std.proofs.lemmas.Bool.Decides.{nat_tests}
use Rattle.std.proofs.lemmas.Option.{same_Some}
use Rattle.gptp_network.specs.declared.keys.TheConstants.{LATEST_EVENT}
use Rattle.gptp_setup.specs.declared.limits.TheConstants.{MOST_PORTS}
use Rattle.gptp_graph.specs.Snapshot.{Snapshot}
use Rattle.gptp_invariants.specs.WorldEncodableLaws.{SetsAnOctet}
use Rattle.gptp_links.specs.declared.bounds.Bounds.{Bounds}
use Rattle.gptp_lists.specs.Members.{In}
use Rattle.gptp_lists.proofs.SystemSpecLemmas.{from_map, In-parts}
use Rattle.gptp_lists.proofs.PlaceLemmas.{behind}
use Rattle.gptp_network.specs.Adding.{with_event}
use Rattle.gptp_network.specs.Document.{DocumentState}
use Rattle.gptp_network.specs.Events.{IsPossibleChange}
use Rattle.gptp_network.specs.Snapshot.{joins_two, link_of}
use Rattle.gptp_network.proofs.EventLemmas.{event_added}
use Rattle.gptp_network.proofs.PassLemmas.{passes}
use Rattle.gptp_network.proofs.SnapshotLemmas.{clock_after, from_filter, from_filter_map}
use Rattle.gptp_scenario.specs.Calm.{last_change}
use Rattle.gptp_scenario.specs.Change.{live_after, system_after}
use Rattle.gptp_scenario.specs.Network.{members_have_clock, is_taken, NetworkState, same_port}
use Rattle.gptp_scenario.specs.declared.change.Act.TheVariants as acts
use Rattle.gptp_scenario.specs.declared.change.Change.{Change}
use Rattle.gptp_scenario.specs.declared.change.Timed.{Timed}
use Rattle.gptp_scenario.specs.declared.network.SystemSpec.{SystemSpec}
use Rattle.gptp_scenario.specs.declared.network.LinkSpec.{LinkSpec}
use Rattle.gptp_theorem.specs.PlayedLaws.{IsPlayable}
use Rattle.gptp_theorem.proofs.EventLemmas.{last_behind}
use Rattle.gptp_roles.specs.Selection.{clock_of}
use Rattle.gptp_topology.specs.declared.course.Cable.{Cable}
use Rattle.gptp_topology.proofs.CourseLemmas.{same_a, same_b}
use Rattle.gptp_vector.specs.declared.port.PortId.{PortId}
use Rattle.gptp_faults.specs.Cables.{bounds_at, cable_after, cables_after, is_at_port, is_up_at, port_after, up_ports}
use Rattle.gptp_faults.specs.CaseEvents.{change_of, events_of, EventsState, link_if, power_if, with_changes}
use Rattle.gptp_faults.specs.Cases.{AreCases, has_links, has_power, has_systems, link_case, link_cases, live_clock, live_clocks, power_cases, system_cases}
use Rattle.gptp_faults.specs.Stays.{back_at, failed_document, with_case}
use Rattle.gptp_faults.specs.declared.case_events.CaseChange.{CaseChange}
use Rattle.gptp_faults.specs.declared.case_events.CaseChange.TheVariants.{Fail, LinkDown, LinkSet, LinkUp, Recover}
use Rattle.gptp_faults.specs.declared.cases.Case.{Case}
use Rattle.gptp_faults.specs.declared.cases.Case.TheVariants as cases
use Rattle.gptp_faults.specs.declared.options.Only.{Only}
use Rattle.gptp_faults.proofs.BoundsLemmas.{AreWithin, cable_within}
use Rattle.gptp_faults.proofs.RunLemmas.{changes_are, failed_are}

-- ---- what a case names is there

-- a member that passes a test is one of those of which some do
some_passes : {X : Type 0} (test : X → Bool) (x : X) (xs : List X) → In x xs → test x ≡ true → list_any test xs ≡ true
some_passes test x [] member is = absurd member
some_passes test x (y ∷ ys) (inl same) is = rw (ap test (sym same) ∙ is) refl
some_passes test x (y ∷ ys) (inr later) is = by (test y) refl (some_passes test x ys later is)
  where
    by : (t : Bool) → test y ≡ t → list_any test ys ≡ true → list_any test (y ∷ ys) ≡ true
    by true passes rest = rw passes refl
    by false fails rest = rw fails rest

-- what is given under a test
given_if : {X : Type 0} (test : Bool) (x y : X) → (if test then Some x else None) ≡ Some y → x ≡ y
given_if true x y is = same_Some x y is
given_if false x y is = absurd cc

same_itself : (n : ℕ) → (n == n) ≡ true
same_itself n = grind (arith, nat_tests)

port_itself : (p : PortId) → same_port p p ≡ true
port_itself p = let one = same_itself p.clock in let other = same_itself p.port in rw (one, other) refl

-- the changes of a case can be made in the network
abbrev AllPossible : NetworkState → List CaseChange → Type 0
AllPossible n = AllByRecursion (λ (c : CaseChange). IsPossibleChange n (change_of c))

pub record CanHappen (n : NetworkState) (e : EventsState) : Type 0 where
  at : AllPossible n e.at
  seen : AllPossible n e.seen
  back : AllPossible n e.back

-- ---- a link

module _ (n : NetworkState) (p : PortId) (taken : is_taken n.links p ≡ true) where
  link_can : (bounds : Option Bounds) (detect : Option ℕ)
      → ((b : Bounds) → bounds ≡ Some b → AreWithin n b) → CanHappen n (link_if p bounds detect)
  link_can bounds None within = record { at = (taken, tt); seen = tt; back = (taken, tt) }
  link_can None (Some delay) within = record { at = (taken, tt); seen = tt; back = (taken, tt) }
  link_can (Some b) (Some delay) within =
      let are = within b refl in record {
        at = (
          (
            taken,
            record { positive = are.positive; ordered = are.ordered; prompt = are.prompt; share = omega arith },
          ),
          tt,
        );
        seen = (taken, ((taken, are), tt));
        back = (taken, tt);
      }

-- ---- a system

module _ (n : NetworkState) (clock : ℕ) (there : members_have_clock n.systems clock ≡ true) where
  downs_can : (ports : List PortId) → ((p : PortId) → In p ports → is_taken n.links p ≡ true)
      → AllPossible n (map LinkDown ports)
  downs_can [] taken = tt
  downs_can (p ∷ ps) taken = (taken p (inl refl), downs_can ps (λ q member. taken q (inr member)))

  ups_can : (ports : List PortId) → ((p : PortId) → In p ports → is_taken n.links p ≡ true)
      → AllPossible n (map LinkUp ports)
  ups_can [] taken = tt
  ups_can (p ∷ ps) taken = (taken p (inl refl), ups_can ps (λ q member. taken q (inr member)))

  power_can : (detect : Option ℕ) (ports : List PortId) → ((p : PortId) → In p ports → is_taken n.links p ≡ true)
      → CanHappen n (power_if detect clock ports)
  power_can None ports taken =
      record { at = (there, downs_can ports taken); seen = tt; back = (there, ups_can ports taken) }
  power_can (Some delay) ports taken =
      record { at = (there, tt); seen = downs_can ports taken; back = (there, ups_can ports taken) }

-- ---- a case

module _ (d : DocumentState) (playable : IsPlayable d) (detect : Option ℕ) where
  abbrev cables : List Cable
  cables = cables_after d

  -- the bounds that are found are those of a link
  bounds_within : (p : PortId) (cs : List Cable) → ((c : Cable) → In c cs → AreWithin d.network c.bounds) → (b : Bounds)
      → bounds_at cs p ≡ Some b → AreWithin d.network b
  bounds_within p [] each b is = absurd cc
  bounds_within p (c ∷ cs) each b is =
      by (same_port c.a p) is (bounds_within p cs (λ x member. each x (inr member)) b)
    where
      by : (t : Bool) → (if t then Some c.bounds else bounds_at cs p) ≡ Some b
          → (bounds_at cs p ≡ Some b → AreWithin d.network b) → AreWithin d.network b
      by true here later = subst (AreWithin d.network) (same_Some c.bounds b here) (each c (inl refl))
      by false there later = later there

  -- a link is at the port of one that is up
  taken_by : (p : PortId) → is_up_at cables p ≡ true → is_taken d.network.links p ≡ true
  taken_by p up =
      let (c, member, both_pass) = passes (λ (x : Cable). x.up && is_at_port x p) cables up in
      let here : is_at_port c p ≡ true = both c.up (is_at_port c p) both_pass in
      let (w, wire, is) = from_map (cable_after d.events) c d.network.links member in
      let a : w.a ≡ c.a = sym (same_a d.events w) ∙ ap (λ (x : Cable). x.a) is in
      let b : w.b ≡ c.b = sym (same_b d.events w) ∙ ap (λ (x : Cable). x.b) is in
      let at : (same_port w.a p || same_port w.b p) ≡ true = rw (a, b) here in
      some_passes (λ (x : LinkSpec). same_port x.a p || same_port x.b p) w d.network.links wire at
    where
      both : (t u : Bool) → (t && u) ≡ true → u ≡ true
      both true u is = is
      both false u is = absurd cc

  up_taken : (clock : ℕ) (p : PortId) → In p (up_ports cables clock) → is_taken d.network.links p ≡ true
  up_taken clock p member =
      let kept = from_filter (is_up_at cables) p (map (port_after clock) (range_with_len 0 MOST_PORTS)) member in
      taken_by p kept.1

  -- a system that lives is one of the network
  live_there : (clock : ℕ) → In clock (live_clocks d) → members_have_clock d.network.systems clock ≡ true
  live_there clock member =
      let (pair, given, is) = from_map live_clock clock (filter_map (live_after d.events) d.network.systems) member in
      let (m, at, lives) = from_filter_map (live_after d.events) pair d.network.systems given in
      let same : ((system_after d.events m).identity, m.ports) ≡ pair =
      given_if (system_after d.events m).live _ pair lives in
      let own : clock_of m.identity ≡ clock =
      sym (clock_after d.events m) ∙ ap (λ (p : ℕ × ℕ). clock_of p.0) same ∙ is in
      some_passes (λ (x : SystemSpec). clock_of x.identity == clock) m d.network.systems at
      (rw own (same_itself clock))

  module _ (kind : Option Only) (power : Bool) (all : List Case) (are : AreCases d kind power all) (c : Case) where
    abbrev g : Snapshot
    g = are.snapshot

    of_link : In c (map link_case g.links) → CanHappen d.network (events_of cables detect c)
    of_link member =
        let (l, given, is) = from_map link_case c g.links member in
        let kept = subst (In l) are.stands.links given in
        let (used, both) = from_filter (joins_two g.systems) l _ kept in
        let (pair, joined, link) = from_map link_of l _ used in
        let (w, wire, up) = from_filter_map _ pair d.network.links joined in
        let ends : (w.a, w.b) ≡ pair = given_if _ (w.a, w.b) pair up in
        let taken : is_taken d.network.links w.a ≡ true =
        some_passes (λ (x : LinkSpec). same_port x.a w.a || same_port x.b w.a) w d.network.links wire
        (rw (port_itself w.a) refl) in
        let whole : link_case (link_of (w.a, w.b)) ≡ c =
        ap (λ p. link_case (link_of p)) ends ∙ ap link_case link ∙ is in
        subst (λ (x : Case). CanHappen d.network (events_of cables detect x)) whole
        (link_can d.network w.a taken (bounds_at cables w.a) detect
        (bounds_within w.a cables (cable_within d playable.network playable.events)))

    of_system : In c (map cases.System (live_clocks d)) → CanHappen d.network (events_of cables detect c)
    of_system member =
        let (clock, given, is) = from_map cases.System c (live_clocks d) member in
        let there = live_there clock given in
        subst (λ (x : Case). CanHappen d.network (events_of cables detect x)) is
        (record { at = (there, tt); seen = tt; back = (there, tt) })

    of_power : In c (map cases.Power (live_clocks d)) → CanHappen d.network (events_of cables detect c)
    of_power member =
        let (clock, given, is) = from_map cases.Power c (live_clocks d) member in
        subst (λ (x : Case). CanHappen d.network (events_of cables detect x)) is
        (power_can d.network clock (live_there clock given) detect (up_ports cables clock) (up_taken clock))

    pub can_happen : In c all → CanHappen d.network (events_of cables detect c)
    can_happen member =
        elim (In-parts c (link_cases kind g ++ system_cases kind d) (power_cases kind power d)
        (subst (In c) are.are member)) [
          | inl others ↦ elim (In-parts c (link_cases kind g) (system_cases kind d) others) [
            | inl link ↦ of_link (if_any (has_links kind) _ link)
            | inr system ↦ of_system (if_any (has_systems kind) _ system)
          ]
          | inr powered ↦ of_power (if_any (has_power kind power) _ powered)
        ]
      where
        if_any : (asked : Bool) (some : List Case) → In c (if asked then some else []) → In c some
        if_any true some one = one
        if_any false some one = absurd one

-- ---- the document with all events

sets_no_octet : (c : CaseChange) → SetsAnOctet (acts.Change (change_of c))
sets_no_octet (LinkDown p) = tt
sets_no_octet (LinkUp p) = tt
sets_no_octet (LinkSet p b) = tt
sets_no_octet (Fail clock) = tt
sets_no_octet (Recover clock) = tt

-- one event more can be played
more_playable : (d : DocumentState) (at : ℕ) (change : Change) → IsPlayable d → IsPossibleChange d.network change
    → SetsAnOctet (acts.Change change) → last_change d.events ≤ at → at ≤ LATEST_EVENT
    → IsPlayable (with_event at change d)
more_playable d at change playable fits octet later early = record {
  network = playable.network;
  events = event_added d.network d.events (record { at = at; change = change }) playable.events later early fits;
  octets = λ place timed there. elim (behind d.events _ timed place there) [
    | inl old ↦ playable.octets place timed old
    | inr new ↦ subst (λ (t : Timed). SetsAnOctet t.act) new.1 octet
  ];
}

-- several at one time, and the last of them is then
changes_playable : (at : ℕ) (cs : List CaseChange) (d : DocumentState) → IsPlayable d → AllPossible d.network cs
    → last_change d.events ≤ at → at ≤ LATEST_EVENT → IsPlayable (with_changes at cs d)
changes_playable at [] d playable can later early = playable
changes_playable at (c ∷ cs) d playable can later early =
    let last = last_behind d.events (record { at = at; act = acts.Change (change_of c) }) in
    changes_playable at cs (with_event at (change_of c) d)
    (more_playable d at (change_of c) playable can.0 (sets_no_octet c) later early) can.1 (omega (arith, last)) early

changes_last : (at : ℕ) (cs : List CaseChange) (d : DocumentState) → last_change d.events ≤ at
    → last_change (with_changes at cs d).events ≤ at
changes_last at [] d later = later
changes_last at (c ∷ cs) d later =
    let last = last_behind d.events (record { at = at; act = acts.Change (change_of c) }) in
    changes_last at cs (with_event at (change_of c) d) (omega (arith, last))

module _ (d : DocumentState) (e : EventsState) (playable : IsPlayable d) (can : CanHappen d.network e) where
  network_at : (at : ℕ) → (with_changes at e.at d).network ≡ d.network
  network_at at = ap (λ (x : DocumentState). x.network) (changes_are at e.at d)

  pub network_failed : (at : ℕ) → (failed_document at e d).network ≡ d.network
  network_failed at = ap (λ (x : DocumentState). x.network) (failed_are at e d)

  pub failed_playable : (at : ℕ) → last_change d.events ≤ at → at + e.delay ≤ LATEST_EVENT
      → IsPlayable (failed_document at e d)
  failed_playable at later early =
      let last = changes_last at e.at d later in
      changes_playable (at + e.delay) e.seen (with_changes at e.at d)
      (changes_playable at e.at d playable can.at later (omega (arith, early)))
      (subst (λ (n : NetworkState). AllPossible n e.seen) (sym (network_at at)) can.seen) (omega (arith, last)) early

  failed_last : (at : ℕ) → last_change d.events ≤ at → last_change (failed_document at e d).events ≤ at + e.delay
  failed_last at later =
      let last = changes_last at e.at d later in
      changes_last (at + e.delay) e.seen (with_changes at e.at d) (omega (arith, last))

  pub case_playable : (at hold : ℕ) → last_change d.events ≤ at → back_at at e hold ≤ LATEST_EVENT
      → IsPlayable (with_case at hold e d)
  case_playable at hold later early =
      let last = failed_last at later in
      changes_playable (back_at at e hold) e.back (failed_document at e d)
      (failed_playable at later (omega (arith, early)))
      (subst (λ (n : NetworkState). AllPossible n e.back) (sym (network_failed at)) can.back) (omega (arith, last))
      early
