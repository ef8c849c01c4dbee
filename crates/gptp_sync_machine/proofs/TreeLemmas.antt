-- The ways of a settled network.
use Rattle.std.proofs.Common.{◌≡◌, ◌≤◌, ℕ, ℤ, zero, suc, true, false, length, refl, sym, ap, ap₂, subst, ◌∙◌, arith}
use Rattle.std.specs.Prelude.{if◌then◌else◌, nat_lt}
use Rattle.std.proofs.lemmas.Bool.Decides.{nat_tests}
use Rattle.gptp_graph.specs.Best.{IsBest}
use Rattle.gptp_graph.specs.Distance.{IsDistance}
use Rattle.gptp_graph.specs.Parent.{ParentLink, IsParent}
use Rattle.gptp_graph.specs.Snapshot.{IsWellFormed, Snapshot, System}
use Rattle.gptp_graph.proofs.BestLemmas.{IsBest-neighbour}
use Rattle.gptp_graph.proofs.DistanceLemmas.{best_at_zero}
use Rattle.gptp_graph.proofs.ParentLemmas.{IsParent-unique, LeadsNearer-distance, parent_exists}
use Rattle.gptp_pdelay.specs.Clock.{IsDrift, IsStampClock, local_clock}
use Rattle.gptp_error_laws.specs.TimeError.{WayLink, Way, drift_at, link_at}
use Rattle.gptp_error_laws.specs.WayLaws.{IsDocumented, IsReadAt, longer, shown_at}
use Rattle.gptp_error_laws.proofs.LongerLemmas.{documented_longer, drift_last, drift_same, link_last, longer_length}
use Rattle.gptp_sync_machine.specs.Tree.{IsWayTo, Parts, last_link, tree_root_way}
use Rattle.gptp_sync_machine.specs.TreeLaws.{ArePartsOf, AreStampsOf, ParentsAreMeasured, ParentsAreParents, WayEndsAtParent, WayExists, WayIsOne, WayLeadsTo, WaysAreSettings}

-- a way is the same by phases that are the same on it
same_phases : (x : Parts) (g : Snapshot) (steps clock : ℕ) (w : Way) (phase phase' : ℕ → ℕ)
    → ((i : ℕ) → i ≤ steps → phase' i ≡ phase i) → IsWayTo x g steps clock w phase → IsWayTo x g steps clock w phase'
same_phases x g zero clock w phase phase' same (distance, is, first) = (distance, is, same 0 (omega arith) ∙ first)
same_phases x g (suc steps) clock w phase phase' same (parent, above, follows, way, is, last) = (
  parent,
  above,
  follows,
  same_phases x g steps parent.clock above phase phase' (λ i h. same i (omega (arith, h))) way,
  is,
  same (suc steps) (omega arith) ∙ last,
)

-- phases on a way, and that of one clock more
abbrev phases_with : ℕ → ℕ → (ℕ → ℕ) → ℕ → ℕ
phases_with steps own phase i = if nat_lt steps i then own else phase i

before : (steps own : ℕ) (phase : ℕ → ℕ) (i : ℕ) → i ≤ steps → phases_with steps own phase i ≡ phase i
before steps own phase i h = let e : nat_lt steps i ≡ false = grind (arith, nat_tests) in rw e refl

behind : (steps own : ℕ) (phase : ℕ → ℕ) → phases_with steps own phase (suc steps) ≡ own
behind steps own phase = let e : nat_lt steps (suc steps) ≡ true = grind (arith, nat_tests) in rw e refl

pub way_exists : WayExists
way_exists x g zero clock wf distance = (tree_root_way x clock, (λ i. x.phase clock), (distance, refl, refl))
way_exists x g (suc steps) clock wf distance =
    let (parent, follows) = parent_exists g clock steps wf distance in
    let nearer = follows.nearer in
    let as_far : suc steps ≡ suc nearer.distance = LeadsNearer-distance g clock (suc steps) parent wf distance nearer in
    let there : IsDistance g parent.clock steps =
    subst (λ d. IsDistance g parent.clock d) (omega (arith, as_far)) nearer.there in
    let (above, phase, way) = way_exists x g steps parent.clock wf there in (
      longer above (last_link x clock parent),
      phases_with steps (x.phase clock) phase,
      (
        parent,
        above,
        follows,
        same_phases x g steps parent.clock above phase (phases_with steps (x.phase clock) phase)
            (before steps (x.phase clock) phase) way,
        refl,
        behind steps (x.phase clock) phase,
      ),
    )

pub way_is_one : WayIsOne
way_is_one x g zero clock w v phase phase' (distance, is, first) (distance', is', first') =
    (is ∙ sym is', first ∙ sym first')
way_is_one x g (suc steps) clock w v phase phase' (parent, above, follows, way, is, last)
    (other, before, follows', way', is', last') =
    let same : other ≡ parent = IsParent-unique g clock other parent follows' follows in
    let up = way_is_one x g steps parent.clock above before phase phase' way
    (subst (λ (p : ParentLink). IsWayTo x g steps p.clock before phase') same way') in
    let link : last_link x clock other ≡ last_link x clock parent = ap (last_link x clock) same in
    (is ∙ ap₂ longer up.0 (sym link) ∙ sym is', up.1)

long : (x : Parts) (g : Snapshot) (steps clock : ℕ) (w : Way) (phase : ℕ → ℕ)
    → IsWayTo x g steps clock w phase → length w.links ≡ steps
long x g zero clock w phase (distance, is, first) = ap (λ (v : Way). length v.links) is
long x g (suc steps) clock w phase (parent, above, follows, way, is, last) =
    ap (λ (v : Way). length v.links) is ∙ longer_length above (last_link x clock parent)
    ∙ ap suc (long x g steps parent.clock above phase way)

-- the drift at the end
drift_is : (x : Parts) (g : Snapshot) (steps clock : ℕ) (w : Way) (phase : ℕ → ℕ)
    → IsWayTo x g steps clock w phase → drift_at w steps ≡ x.drift clock
drift_is x g zero clock w phase (distance, is, first) = ap (λ (v : Way). v.drift) is
drift_is x g (suc steps) clock w phase (parent, above, follows, way, is, last) =
    ap (λ (v : Way). drift_at v (suc steps)) is
    ∙ drift_last above (last_link x clock parent) (suc steps)
    (ap suc (sym (long x g steps parent.clock above phase way)))

phase_is : (x : Parts) (g : Snapshot) (steps clock : ℕ) (w : Way) (phase : ℕ → ℕ)
    → IsWayTo x g steps clock w phase → phase steps ≡ x.phase clock
phase_is x g zero clock w phase (distance, is, first) = first
phase_is x g (suc steps) clock w phase (parent, above, follows, way, is, last) = last

-- the drift and the phase at the beginning
root_is : (x : Parts) (g : Snapshot) (steps clock : ℕ) (best : System) (w : Way) (phase : ℕ → ℕ)
    → IsWellFormed g → IsBest g clock best → IsWayTo x g steps clock w phase
    → (w.drift ≡ x.drift best.clock) × (phase 0 ≡ x.phase best.clock)
root_is x g zero clock best w phase wf is_best (distance, is, first) =
    let same : best.clock ≡ clock = best_at_zero g clock best wf is_best distance in (
      ap (λ (v : Way). v.drift) is ∙ ap x.drift (sym same),
      first ∙ ap x.phase (sym same),
    )
root_is x g (suc steps) clock best w phase wf is_best (parent, above, follows, way, is, last) =
    let up = root_is x g steps parent.clock best above phase wf
    (IsBest-neighbour g clock parent.clock best wf (parent.own_port, parent.port, follows.nearer.joins) is_best) way in
    (ap (λ (v : Way). v.drift) is ∙ up.0, up.1)

pub way_leads_to : WayLeadsTo
way_leads_to = record {
  long = long;
  own = λ x g steps clock t w phase way.
      ap (λ p. local_clock p (drift_at w steps) t) (phase_is x g steps clock w phase way)
      ∙ ap (λ d. local_clock (x.phase clock) d t) (drift_is x g steps clock w phase way);
  root = λ x g steps clock t best w phase wf is_best way.
      (let is = root_is x g steps clock best w phase wf is_best way in
      ap (λ p. local_clock p w.drift t) is.1 ∙ ap (λ d. local_clock (x.phase best.clock) d t) is.0);
}

-- the last link is that to the parent
end_is : (x : Parts) (g : Snapshot) (steps clock : ℕ) (parent : ParentLink) (w : Way) (phase : ℕ → ℕ)
    → IsParent g clock parent → IsWayTo x g (suc steps) clock w phase → link_at w steps ≡ last_link x clock parent
end_is x g steps clock parent w phase follows (other, above, follows', way, is, last) =
    ap (λ (v : Way). link_at v steps) is
    ∙ link_last above (last_link x clock other) steps (sym (long x g steps other.clock above phase way))
    ∙ ap (last_link x clock) (IsParent-unique g clock other parent follows' follows)

-- and the clock before it is the parent's
drift_before : (x : Parts) (g : Snapshot) (steps clock : ℕ) (parent : ParentLink) (w : Way) (phase : ℕ → ℕ)
    → IsParent g clock parent → IsWayTo x g (suc steps) clock w phase → drift_at w steps ≡ x.drift parent.clock
drift_before x g steps clock parent w phase follows (other, above, follows', way, is, last) =
    let all = long x g steps other.clock above phase way in
    ap (λ (v : Way). drift_at v steps) is
    ∙ drift_same above (last_link x clock other) steps (omega (arith, all))
    ∙ drift_is x g steps other.clock above phase way
    ∙ ap (λ (p : ParentLink). x.drift p.clock) (IsParent-unique g clock other parent follows' follows)

phase_before : (x : Parts) (g : Snapshot) (steps clock : ℕ) (parent : ParentLink) (w : Way) (phase : ℕ → ℕ)
    → IsParent g clock parent → IsWayTo x g (suc steps) clock w phase → phase steps ≡ x.phase parent.clock
phase_before x g steps clock parent w phase follows (other, above, follows', way, is, last) =
    phase_is x g steps other.clock above phase way
    ∙ ap (λ (p : ParentLink). x.phase p.clock) (IsParent-unique g clock other parent follows' follows)

clock_is : (x : Parts) (g : Snapshot) (steps clock t : ℕ) (parent : ParentLink) (w : Way) (phase : ℕ → ℕ)
    → IsParent g clock parent → IsWayTo x g (suc steps) clock w phase
    → shown_at w phase steps t ≡ local_clock (x.phase parent.clock) (x.drift parent.clock) t
clock_is x g steps clock t parent w phase follows way =
    ap (λ p. local_clock p (drift_at w steps) t) (phase_before x g steps clock parent w phase follows way)
    ∙ ap (λ d. local_clock (x.phase parent.clock) d t) (drift_before x g steps clock parent w phase follows way)

common : (x : Parts) (g : Snapshot) (steps clock : ℕ) (w : Way) (phase : ℕ → ℕ) → IsWayTo x g steps clock w phase
    → (w.interval ≡ x.interval) × (w.turnaround ≡ x.turnaround) × (w.residence ≡ x.residence)
    × (w.blur ≡ x.blur) × (w.behind ≡ x.behind)
common x g zero clock w phase (distance, is, first) = (
  ap (λ (v : Way). v.interval) is,
  ap (λ (v : Way). v.turnaround) is,
  ap (λ (v : Way). v.residence) is,
  ap (λ (v : Way). v.blur) is,
  ap (λ (v : Way). v.behind) is,
)
common x g (suc steps) clock w phase (parent, above, follows, way, is, last) =
    let up = common x g steps parent.clock above phase way in (
      ap (λ (v : Way). v.interval) is ∙ up.0,
      ap (λ (v : Way). v.turnaround) is ∙ up.1,
      ap (λ (v : Way). v.residence) is ∙ up.2,
      ap (λ (v : Way). v.blur) is ∙ up.3,
      ap (λ (v : Way). v.behind) is ∙ up.4,
    )

pub way_ends_at_parent : WayEndsAtParent
way_ends_at_parent = record { link = end_is; clock = clock_is; common = common }

documented : (x : Parts) (g : Snapshot) (steps clock longest : ℕ) (w : Way) (phase : ℕ → ℕ) → ArePartsOf x longest
    → IsWayTo x g steps clock w phase → IsDocumented w
documented x g zero clock longest w phase parts (distance, is, first) = subst IsDocumented (sym is) (record {
  little = parts.little;
  long = parts.long;
  waits = parts.waits;
  drifts = drifts;
})
  where
    drifts : (i : ℕ) → i ≤ 0 → IsDrift (drift_at (tree_root_way x clock) i)
    drifts zero h = parts.drifts clock
    drifts (suc i) h = absurd (omega (arith, h))
documented x g (suc steps) clock longest w phase parts (parent, above, follows, way, is, last) =
    subst IsDocumented (sym is) (documented_longer above (last_link x clock parent)
    (documented x g steps parent.clock longest above phase parts way) (parts.drifts clock))

-- the time stamps of a clock with the same numbers
stamps_same : (blur blur' behind behind' phase phase' : ℕ) (drift drift' : ℤ) (stamps : ℕ → ℤ) → blur' ≡ blur
    → behind' ≡ behind → phase' ≡ phase → drift' ≡ drift → IsStampClock blur behind phase drift stamps
    → IsStampClock blur' behind' phase' drift' stamps
stamps_same blur blur' behind behind' phase phase' drift drift' stamps a b c d is = rw (a, b, c, d) is

-- those of the clock at the end of a way, and of the one before it
stamps_at_end : (x : Parts) (g : Snapshot) (steps clock : ℕ) (w : Way) (phase : ℕ → ℕ) (stamps : ℕ → ℤ)
    → IsWayTo x g steps clock w phase → AreStampsOf x clock stamps → IsReadAt w phase steps stamps
stamps_at_end x g steps clock w phase stamps way is =
    let all = common x g steps clock w phase way in
    stamps_same x.blur w.blur x.behind w.behind (x.phase clock) (phase steps) (x.drift clock) (drift_at w steps) stamps
    all.3 all.4 (phase_is x g steps clock w phase way) (drift_is x g steps clock w phase way) is

stamps_before : (x : Parts) (g : Snapshot) (steps clock : ℕ) (parent : ParentLink) (w : Way) (phase : ℕ → ℕ)
    (stamps : ℕ → ℤ) → IsParent g clock parent → IsWayTo x g (suc steps) clock w phase
    → AreStampsOf x parent.clock stamps → IsReadAt w phase steps stamps
stamps_before x g steps clock parent w phase stamps follows way is =
    let all = common x g (suc steps) clock w phase way in
    stamps_same x.blur w.blur x.behind w.behind (x.phase parent.clock) (phase steps) (x.drift parent.clock)
    (drift_at w steps) stamps all.3 all.4 (phase_before x g steps clock parent w phase follows way)
    (drift_before x g steps clock parent w phase follows way) is

pub ways_are_settings : WaysAreSettings
ways_are_settings x g steps clock settled longest stamps port w phase base parts
    (parent, above, follows, way, is, last) taken =
    let whole : IsWayTo x g (suc steps) clock w phase = (parent, above, follows, way, is, last) in
    let end = end_is x g steps clock parent w phase follows whole in
    let short = parts.short in
    record {
      documented = documented x g (suc steps) clock longest w phase parts whole;
      on_way = let all = long x g (suc steps) clock w phase whole in omega (arith, all);
      short = subst (λ (l : WayLink). l.most ≤ longest) (sym end) (short _);
      read = stamps_at_end x g (suc steps) clock w phase stamps whole taken;
    }

pub parents_are_parents : ParentsAreParents
parents_are_parents x g steps clock settled longest l stamps stamps' port port' w w' phase phase' base follows way
    (parent, above, follows', way', is, last) =
    let same : parent ≡ l = IsParent-unique g clock parent l follows' follows in
    let up = way_is_one x g (suc steps) l.clock above w phase' phase
    (subst (λ (p : ParentLink). IsWayTo x g (suc steps) p.clock above phase') same way') way in
    record {
      link = last_link x clock parent;
      way = is ∙ ap (λ (v : Way). longer v (last_link x clock parent)) up.0;
      end = long x g (suc steps) l.clock w phase way;
      place = refl;
      root = up.1;
      base = refl;
      settled = refl;
      longest = refl;
    }

pub parents_are_measured : ParentsAreMeasured
parents_are_measured x g steps clock longest parent w phase k parts follows way m =
    let end = end_is x g steps clock parent w phase follows way in
    let all = common x g (suc steps) clock w phase way in
    record {
      documented = documented x g (suc steps) clock longest w phase parts way;
      on_way = (let long = long x g (suc steps) clock w phase way in omega (arith, long));
      order = subst (λ (l : WayLink). l.least ≤ k.most) (sym end) m.least;
      most = m.most ∙ ap (λ (l : WayLink). l.most) (sym end);
      turnaround = m.turnaround ∙ sym all.1;
      interval = m.interval ∙ sym all.0;
      rested = omega (arith, all.3, all.0, m.rested);
      asking = stamps_at_end x g (suc steps) clock w phase k.asking_clock way m.asking;
      answering = stamps_before x g steps clock parent w phase k.answering_clock follows way m.answering;
    }
