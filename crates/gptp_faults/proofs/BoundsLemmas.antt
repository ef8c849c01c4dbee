-- Links as they stand after the events of a document have bounds that a link of its network can have.
use Rattle.std.proofs.Common.{◌≡◌, ◌<◌, ◌≤◌, inl, inr, ℕ, ℤ, Bool, true, false, if◌then◌else◌, length, List, [], ◌∷◌, Some, slice_get, refl, sym, subst, arith}
use Rattle.std.specs.Int.{int_min}
use Rattle.std.specs.List.{AllByRecursion, reduce}
use Rattle.std.specs.Option.{unwrap_or}
use Rattle.std.proofs.lemmas.Int.{fold-int_min_reached}
use Rattle.std.proofs.lemmas.Option.{same_Some}
use Rattle.gptp_links.specs.declared.bounds.Bounds.{Bounds}
use Rattle.gptp_lists.specs.Members.{In}
use Rattle.gptp_lists.proofs.MappedLemmas.{there_contains}
use Rattle.gptp_lists.proofs.PlaceLemmas.{member_there}
use Rattle.gptp_lists.proofs.SystemSpecLemmas.{from_map, In-slice_get, slice_get-In}
use Rattle.gptp_network.specs.Document.{DocumentState}
use Rattle.gptp_network.specs.Events.{AreBounds, AreEvents, IsEvent, IsPossibleChange}
use Rattle.gptp_scenario.specs.Change.{is_at, link_acted, link_after, link_changed, member_with_bounds, with_up}
use Rattle.gptp_scenario.specs.Network.{IsNetwork, logs_of, NetworkState, same_port, smallest_of}
use Rattle.gptp_scenario.specs.declared.change.Act.{Act}
use Rattle.gptp_scenario.specs.declared.change.Change.{Change}
use Rattle.gptp_scenario.specs.declared.change.Change.TheVariants as changes
use Rattle.gptp_scenario.specs.declared.change.Timed.{Timed}
use Rattle.gptp_scenario.specs.declared.network.LinkSpec.{LinkSpec}
use Rattle.gptp_scenario.specs.declared.network.SystemSpec.{SystemSpec}
use Rattle.gptp_scenario.proofs.LogLemmas.{In-flat_map}
use Rattle.gptp_topology.specs.declared.course.Cable.{Cable}
use Rattle.gptp_vector.specs.declared.port.PortId.{PortId}
use Rattle.gptp_faults.specs.Cables.{bounds_at, cable_after, cables_after, HasBounds}

-- such bounds
abbrev pub AreWithin : NetworkState → Bounds → Type 0
AreWithin n b = AreBounds n b.min b.max b.loss

-- ---- of a link as it is at first

-- the smallest interval of a network with a port is one of its own
smallest_among : (n : NetworkState) (log : ℤ) → In log (logs_of n) → In (smallest_of n) (logs_of n)
unfolding smallest_of
smallest_among n log member = by (logs_of n) member
  where
    by : (logs : List ℤ) → In log logs → In (unwrap_or (reduce int_min logs) n.params.announce) logs
    by [] none = absurd none
    by (first ∷ logs) some = elim (fold-int_min_reached first logs _ refl) [
      | inl same ↦ inl same
      | inr among ↦ let (place, there) = there_contains logs _ among in inr (In-slice_get _ logs place there)
    ]

first_within : (n : NetworkState) → IsNetwork n → (place : ℕ) (w : LinkSpec) → slice_get n.links place ≡ Some w
    → AreWithin n w.bounds
first_within n network place w there =
    let wire = network.links place w there in
    let port = wire.a in
    let many = (network.systems port.place port.system port.there).many in
    let first = port.first in let last = port.last in
    let some : 0 < length port.system.intervals.items = omega (arith, many, first, last) in
    let (log, at) = member_there port.system.intervals.items 0 some in
    let among = In-flat_map (λ (m : SystemSpec). m.intervals.items) log n.systems port.place port.system port.there
    (In-slice_get log port.system.intervals.items 0 at) in record {
      positive = wire.fit.positive;
      ordered = wire.fit.ordered;
      prompt = wire.prompt (smallest_of n) (smallest_among n log among);
      share = wire.fit.share;
    }

-- ---- after events

changed_within : (n : NetworkState) (change : Change) → IsPossibleChange n change → (w : LinkSpec)
    → AreWithin n w.bounds → AreWithin n (link_changed change w).bounds
changed_within n (changes.LinkDown name port) fits w is = by (is_at name port w)
  where
    by : (here : Bool) → AreWithin n (if here then with_up false w else w).bounds
    by true = is
    by false = is
changed_within n (changes.LinkUp name port) fits w is = by (is_at name port w)
  where
    by : (here : Bool) → AreWithin n (if here then with_up true w else w).bounds
    by true = is
    by false = is
changed_within n (changes.LinkSet name port least greatest loss) fits w is = by (is_at name port w)
  where
    by : (here : Bool) → AreWithin n (if here then member_with_bounds least greatest loss w else w).bounds
    by true = fits.1
    by false = is
changed_within n (changes.Fail name) fits w is = is
changed_within n (changes.Recover name) fits w is = is
changed_within n (changes.Priority1 name value) fits w is = is
changed_within n (changes.Inject name port octets) fits w is = is

after_within : (n : NetworkState) (events : List Timed) → AllByRecursion (IsEvent n) events → (w : LinkSpec)
    → AreWithin n w.bounds → AreWithin n (link_after events w).bounds
after_within n [] each w is = is
after_within n (t ∷ ts) each w is =
    let event = each.0 in
    after_within n ts each.1 (link_acted t.act w)
    (subst (λ (act : Act). AreWithin n (link_acted act w).bounds) (sym event.act)
    (changed_within n event.change event.fits w is))

module _ (d : DocumentState) (network : IsNetwork d.network) (events : AreEvents d.network d.events) where
  pub cable_within : (c : Cable) → In c (cables_after d) → AreWithin d.network c.bounds
  cable_within c member =
      let (w, at, is) = from_map (cable_after d.events) c d.network.links member in
      let (place, there) = slice_get-In w d.network.links at in
      subst (λ (x : Cable). AreWithin d.network x.bounds) is
      (after_within d.network d.events events.each w (first_within d.network network place w there))

  -- so they are in their ranges
  ranges_of : (cs : List Cable) → ((c : Cable) → In c cs → AreWithin d.network c.bounds)
      → AllByRecursion HasBounds cs
  ranges_of [] each = tt
  ranges_of (c ∷ cs) each =
      let first = each c (inl refl) in
      (record { least = first.positive; share = first.share }, ranges_of cs (λ x member. each x (inr member)))

  pub cables_in_range : AllByRecursion HasBounds (cables_after d)
  cables_in_range = ranges_of (cables_after d) cable_within

-- so are those that are found
pub found_in_range : (cs : List Cable) (p : PortId) (b : Bounds) → AllByRecursion HasBounds cs
    → bounds_at cs p ≡ Some b → (1 ≤ b.min) × (b.loss ≤ 1000)
found_in_range [] p b each is = absurd cc
found_in_range (c ∷ cs) p b each is = by (same_port c.a p) is (found_in_range cs p b each.1)
  where
    by : (t : Bool) → (if t then Some c.bounds else bounds_at cs p) ≡ Some b
        → (bounds_at cs p ≡ Some b → (1 ≤ b.min) × (b.loss ≤ 1000)) → (1 ≤ b.min) × (b.loss ≤ 1000)
    by true here later =
        let first = each.0 in
        subst (λ (k : Bounds). (1 ≤ k.min) × (k.loss ≤ 1000)) (same_Some c.bounds b here) (first.least, first.share)
    by false there later = later there
