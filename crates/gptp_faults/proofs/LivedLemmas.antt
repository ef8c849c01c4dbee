-- Who lives after a case failed lived before.
use Rattle.std.proofs.Common.{◌≡◌, ◌==◌, ◌&&◌, ◌+◌, ℕ, Bool, true, false, if◌then◌else◌, List, [], ◌∷◌, ◌++◌, map, Option, Some, None, refl, sym, subst, ◌∙◌, arith}
use Rattle.std.specs.List.{AllByRecursion, list_any}
use Rattle.std.specs.Prelude.{⊤}
use Rattle.std.proofs.lemmas.Bool.{and_from, and_parts, eq-eqb}
use Rattle.gptp_graph.specs.Snapshot.{clocks, Snapshot, System}
use Rattle.gptp_links.specs.declared.bounds.Bounds.{Bounds}
use Rattle.gptp_lists.specs.Members.{In}
use Rattle.gptp_lists.proofs.SystemSpecLemmas.{from_map, In-map}
use Rattle.gptp_network.specs.Document.{DocumentState}
use Rattle.gptp_network.specs.Snapshot.{events_by, has_clock, IsSnapshot, StandsAfter}
use Rattle.gptp_network.proofs.InUseLemmas.{live_there, there_live}
use Rattle.gptp_network.proofs.PassLemmas.{passes, passes_at}
use Rattle.gptp_network.proofs.SnapshotLemmas.{with_clock}
use Rattle.gptp_roles.specs.Selection.{clock_of}
use Rattle.gptp_scenario.specs.Calm.{last_change}
use Rattle.gptp_scenario.specs.Change.{standing, system_acted, system_after, system_stands, with_live}
use Rattle.gptp_scenario.specs.InUse.{lives}
use Rattle.gptp_scenario.specs.Network.{NetworkState}
use Rattle.gptp_scenario.specs.declared.change.Timed.{Timed}
use Rattle.gptp_scenario.specs.declared.network.SystemSpec.{SystemSpec}
use Rattle.gptp_theorem.specs.PlayedLaws.{IsPlayable}
use Rattle.gptp_timeline.proofs.PastLemmas.{all_past}
use Rattle.gptp_topology.specs.declared.course.Cable.{Cable}
use Rattle.gptp_vector.specs.declared.port.PortId.{PortId}
use Rattle.gptp_faults.specs.Cables.{bounds_at, up_ports}
use Rattle.gptp_faults.specs.CaseEvents.{events_of, EventsState, link_if, power_if}
use Rattle.gptp_faults.specs.Stays.{failed_document}
use Rattle.gptp_faults.specs.declared.case_events.CaseChange.{CaseChange}
use Rattle.gptp_faults.specs.declared.case_events.CaseChange.TheVariants.{Fail, LinkDown, LinkSet, LinkUp, Recover}
use Rattle.gptp_faults.specs.declared.cases.Case.{Case}
use Rattle.gptp_faults.specs.declared.cases.Case.TheVariants as cases
use Rattle.gptp_faults.proofs.PlayableLemmas.{CanHappen}
use Rattle.gptp_faults.proofs.ReturnLemmas.{all_by}
use Rattle.gptp_faults.proofs.RunLemmas.{all_at, failed_are, failing_events, timed_at}

-- ---- changes by which no system starts

abbrev pub StartsNone : CaseChange → Type 0
StartsNone (LinkUp p) = ⊥
StartsNone (Recover clock) = ⊥
StartsNone change = ⊤

pub record StartNone (e : EventsState) : Type 0 where
  at : AllByRecursion StartsNone e.at
  seen : AllByRecursion StartsNone e.seen

downs_start_none : (ports : List PortId) → AllByRecursion StartsNone (map LinkDown ports)
downs_start_none [] = tt
downs_start_none (p ∷ ps) = (tt, downs_start_none ps)

link_starts_none : (p : PortId) (bounds : Option Bounds) (detect : Option ℕ) → StartNone (link_if p bounds detect)
link_starts_none p bounds None = record { at = (tt, tt); seen = tt }
link_starts_none p None (Some delay) = record { at = (tt, tt); seen = tt }
link_starts_none p (Some b) (Some delay) = record { at = (tt, tt); seen = (tt, (tt, tt)) }

power_starts_none : (detect : Option ℕ) (clock : ℕ) (ports : List PortId) → StartNone (power_if detect clock ports)
power_starts_none None clock ports = record { at = (tt, downs_start_none ports); seen = tt }
power_starts_none (Some delay) clock ports = record { at = (tt, tt); seen = downs_start_none ports }

pub case_starts_none : (cables : List Cable) (detect : Option ℕ) (c : Case) → StartNone (events_of cables detect c)
case_starts_none cables detect (cases.Link a b) = link_starts_none a (bounds_at cables a) detect
case_starts_none cables detect (cases.System clock) = record { at = (tt, tt); seen = tt }
case_starts_none cables detect (cases.Power clock) = power_starts_none detect clock (up_ports cables clock)

-- ---- a system

lives_behind : (es fs : List Timed) (own : ℕ) (s : _)
    → (system_stands (es ++ fs) own s).live ≡ (system_stands fs own (system_stands es own s)).live
lives_behind [] fs own s = refl
lives_behind (e ∷ es) fs own s = lives_behind es fs own (system_acted e.act own s)

one_lived : (at : ℕ) (c : CaseChange) → StartsNone c → (own : ℕ) (s : _)
    → (system_acted (timed_at at c).act own s).live ≡ true → s.live ≡ true
one_lived at (LinkDown p) none own s live = live
one_lived at (LinkUp p) none own s live = absurd none
one_lived at (LinkSet p b) none own s live = live
one_lived at (Fail clock) none own s live = by (clock == own) live
  where
    by : (t : Bool) → (if t then with_live false s else s).live ≡ true → s.live ≡ true
    by true is = absurd cc
    by false is = is
one_lived at (Recover clock) none own s live = absurd none

lived : (at : ℕ) (cs : List CaseChange) → AllByRecursion StartsNone cs → (own : ℕ) (s : _)
    → (system_stands (all_at at cs) own s).live ≡ true → s.live ≡ true
lived at [] none own s live = live
lived at (c ∷ cs) none own s live =
    one_lived at c none.0 own s (lived at cs none.1 own (system_acted (timed_at at c).act own s) live)

both_lived : (at : ℕ) (e : EventsState) → StartNone e → (own : ℕ) (s : _)
    → (system_stands (failing_events at e) own s).live ≡ true → s.live ≡ true
both_lived at e none own s live =
    let later = sym (lives_behind (all_at at e.at) (all_at (at + e.delay) e.seen) own s) ∙ live in
    lived at e.at none.at own s
    (lived (at + e.delay) e.seen none.seen own (system_stands (all_at at e.at) own s) later)

-- ---- the systems of a network

any_so : {X : Type 0} (p q : X → Bool) (xs : List X) → ((x : X) → p x ≡ true → q x ≡ true)
    → list_any p xs ≡ true → list_any q xs ≡ true
any_so p q xs so some = let (x, member, is) = passes p xs some in passes_at q xs x member (so x is)

lives_before : (n : NetworkState) (events : List Timed) (at : ℕ) (e : EventsState) → StartNone e → (name : ℕ)
    → lives n.systems (events ++ failing_events at e) name ≡ true → lives n.systems events name ≡ true
lives_before n events at e none name live =
    any_so (λ (m : SystemSpec). clock_of m.identity == name && (system_after (events ++ failing_events at e) m).live)
    (λ (m : SystemSpec). clock_of m.identity == name && (system_after events m).live) n.systems (λ m both.
    let (named, is) = and_parts (clock_of m.identity == name) (system_after (events ++ failing_events at e) m).live
    both in
    let then_live =
    sym (lives_behind events (failing_events at e) (clock_of m.identity) (standing m)) ∙ is in
    and_from (clock_of m.identity == name) (system_after events m).live named
    (both_lived at e none (clock_of m.identity) (system_after events m) then_live)) live

-- the events of a document have all come by the last of them
all_come : (d : DocumentState) → IsPlayable d → events_by (last_change d.events) d.events ≡ d.events
all_come d playable =
    all_by (last_change d.events) d.events
    (all_past (last_change d.events) d.events playable.events.in_order (omega arith))

pub lived_before : (d : DocumentState) (e : EventsState) (playable : IsPlayable d) (can : CanHappen d.network e)
    → StartNone e → (at : ℕ) → IsPlayable (failed_document at e d) → (g g' : Snapshot)
    → IsSnapshot d (last_change d.events) g
    → IsSnapshot (failed_document at e d) (last_change (failed_document at e d).events) g'
    → (name : ℕ) → In name (clocks g') → In name (clocks g)
lived_before d e playable can none at failed_plays g g' stands stands' name member =
    let failed = failed_document at e d in
    let (s, there, is) = from_map (λ (x : System). x.clock) name g'.systems member in
    let has : has_clock g'.systems name ≡ true =
    passes_at (λ (x : System). x.clock == name) g'.systems s there (eq-eqb s.clock name is) in
    let whole : StandsAfter failed.network (events_by (last_change failed.events) failed.events) g' = stands' in
    let then_live : lives failed.network.systems failed.events name ≡ true =
    subst (λ es. lives failed.network.systems es name ≡ true) (all_come failed failed_plays)
    (there_live failed.network failed_plays.network (events_by (last_change failed.events) failed.events) g' whole name
    has) in
    let live_now : lives d.network.systems (d.events ++ failing_events at e) name ≡ true =
    subst (λ (x : DocumentState). lives x.network.systems x.events name ≡ true) (failed_are at e d) then_live in
    let live = lives_before d.network d.events at e none name live_now in
    let (t, among, named) = with_clock g.systems name
    (live_there d.network playable.network (events_by (last_change d.events) d.events) g stands name
    (subst (λ es. lives d.network.systems es name ≡ true) (sym (all_come d playable)) live)) in
    subst (λ n. In n (clocks g)) named (In-map (λ (x : System). x.clock) t g.systems among)
