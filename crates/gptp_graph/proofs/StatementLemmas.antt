-- Where the stated steps are the distances, what the lines state of ports is what holds of them.
use Rattle.std.proofs.Common.{◌≡◌, ◌⊎◌, ◌<◌, ℕ, Bool, true, false, List, Option, Some, None, refl, sym, ap, subst, ◌∙◌}
use Rattle.gptp_lists.specs.Members.{In}
use Rattle.gptp_graph.specs.Snapshot.{Snapshot, IsWellFormed, clocks, port_of}
use Rattle.gptp_graph.specs.Distance.{IsDistance}
use Rattle.gptp_graph.specs.Parent.{ParentLink}
use Rattle.gptp_graph.specs.SettledRole.{IsSlavePort, IsMasterPort}
use Rattle.gptp_graph.specs.Labelling.{PortLine, SystemLine, HasItsSystems}
use Rattle.gptp_graph.specs.SettledChoice.{IsParentIfAny}
use Rattle.gptp_graph.specs.LocalTests.{StatesSteps, StatesSlave, StatesMaster}
use Rattle.gptp_lists.proofs.SystemSpecLemmas.{same_image}
use Rattle.gptp_graph.proofs.SystemLemmas.{In-clocks, system_of}
use Rattle.gptp_graph.proofs.DistanceLemmas.{IsDistance-unique, IsDistance-clock}
use Rattle.gptp_graph.proofs.ParentLemmas.{IsParent-unique}

-- a clock's line
pub record HasLine (lines : List SystemLine) (v : ℕ) : Type 0 where
  pub line : SystemLine
  pub stated : In line lines
  pub clock : line.clock ≡ v

-- each system has a line
pub line_of : (g : Snapshot) (lines : List SystemLine) (v : ℕ) → HasItsSystems g lines → In v (clocks g)
    → HasLine lines v
line_of g lines v h here =
    let s = system_of g v here in
    let l = h.all s.0 s.1 in
    record { line = l.0; stated = l.1.stated; clock = l.1.clock ∙ s.2 }

-- each line is a system's
pub line_clock : (g : Snapshot) (lines : List SystemLine) (line : SystemLine) → HasItsSystems g lines
    → In line lines → In line.clock (clocks g)
line_clock g lines line h stated =
    let s = h.no_other line stated in
    subst (λ v. In v (clocks g)) (sym s.1.clock) (In-clocks g s.0 s.1.live)

-- a clock has one line
pub same_line : (g : Snapshot) (lines : List SystemLine) (one two : SystemLine) → HasItsSystems g lines
    → In one lines → In two lines → one.clock ≡ two.clock → one ≡ two
same_line g lines one two h a b e = same_image (λ (l : SystemLine). l.clock) one two lines h.different a b e

-- a line with a parent isn't far
pub near_with_parent : (g : Snapshot) (lines : List SystemLine) (line : SystemLine) (l : ParentLink)
    → HasItsSystems g lines → In line lines → line.parent ≡ Some l → line.far ≡ false
near_with_parent g lines line l h stated is = by_far line.far refl
  where
    by_far : (far : Bool) → line.far ≡ far → line.far ≡ false
    by_far false e = e
    by_far true e = let none : line.parent ≡ None = (h.bare line stated e).parent in absurd cc

-- nor is one with a port
pub near_with_port : (g : Snapshot) (lines : List SystemLine) (line : SystemLine) (port : PortLine)
    → HasItsSystems g lines → In line lines → In port line.ports → line.far ≡ false
near_with_port g lines line port h stated at = by_far line.far refl
  where
    by_far : (far : Bool) → line.far ≡ far → line.far ≡ false
    by_far false e = e
    by_far true e = absurd (subst (In port) (h.bare line stated e).ports at)

-- all stated steps are distances
abbrev pub StateDistances : Snapshot → List SystemLine → Type 0
StateDistances g lines = (line : SystemLine) → In line lines → IsDistance g line.clock line.steps

-- then what is stated of a clock is its distance
pub distance_of_stated : (g : Snapshot) (lines : List SystemLine) (v d : ℕ) → StateDistances g lines
    → StatesSteps lines v d → IsDistance g v d
distance_of_stated g lines v d are (line, stated, c, e) =
    subst (λ w. IsDistance g w d) c (subst (IsDistance g line.clock) e (are line stated))

-- and a distance is stated
pub stated_of_distance : (g : Snapshot) (lines : List SystemLine) (v d : ℕ) → IsWellFormed g
    → HasItsSystems g lines → StateDistances g lines → IsDistance g v d → StatesSteps lines v d
stated_of_distance g lines v d wf h are at =
    let l = line_of g lines v h (IsDistance-clock g v d wf at) in (
      l.line,
      l.stated,
      l.clock,
      IsDistance-unique g v l.line.steps d wf
          (subst (λ w. IsDistance g w l.line.steps) l.clock (are l.line l.stated)) at,
    )

-- stated to be a master port, and one
pub master_of_stated : (g : Snapshot) (lines : List SystemLine) (line : SystemLine) (n : ℕ)
    → StateDistances g lines → In line lines
    → StatesMaster g lines line n → IsMasterPort g (port_of line.clock n)
master_of_stated g lines line n are stated m = record {
  other = m.other;
  joins = m.joins;
  here = line.steps;
  there = m.there;
  is_here = are line stated;
  is_there = distance_of_stated g lines m.other.clock m.there are m.is_there;
  nearer = m.nearer;
}

-- a master port is stated to be one
pub stated_of_master : (g : Snapshot) (lines : List SystemLine) (line : SystemLine) (n : ℕ) → IsWellFormed g
    → HasItsSystems g lines → StateDistances g lines → In line lines
    → IsMasterPort g (port_of line.clock n) → StatesMaster g lines line n
stated_of_master g lines line n wf h are stated m = record {
  other = m.other;
  joins = m.joins;
  there = m.there;
  is_there = stated_of_distance g lines m.other.clock m.there wf h are m.is_there;
  nearer =
      subst (λ d. (d < m.there) ⊎ ((d ≡ m.there) × (line.clock < m.other.clock)))
      (IsDistance-unique g line.clock m.here line.steps wf m.is_here (are line stated)) m.nearer;
}

-- stated to be the slave port, and one
pub slave_of_stated : (g : Snapshot) (line : SystemLine) (n : ℕ) → IsParentIfAny g line.clock line.parent
    → StatesSlave line n → IsSlavePort g (port_of line.clock n)
slave_of_stated g line n parent (l, e, own) = (l, subst (IsParentIfAny g line.clock) e parent, own)

-- the slave port is stated to be it
pub stated_of_slave : (g : Snapshot) (line : SystemLine) (n : ℕ) → IsParentIfAny g line.clock line.parent
    → IsSlavePort g (port_of line.clock n) → StatesSlave line n
stated_of_slave g line n parent (l, is, own) = by_parent line.parent refl parent
  where
    by_parent : (o : Option ParentLink) → line.parent ≡ o → IsParentIfAny g line.clock o → StatesSlave line n
    by_parent None e none = absurd (none l is)
    by_parent (Some k) e some =
        (k, e, ap (λ (x : ParentLink). x.own_port) (IsParent-unique g line.clock k l some is) ∙ own)
