-- The settled choice passes the local tests.
use Rattle.std.proofs.Common.{◌≡◌, ◌≤◌, ◌<◌, ℕ, zero, suc, false, List, Some, None, refl, sym, ap, subst, ◌∙◌, arith}
use Rattle.gptp_lists.specs.Members.{In}
use Rattle.gptp_graph.specs.Snapshot.{System, Snapshot, IsWellFormed, clocks, Adjacent}
use Rattle.gptp_graph.specs.Path.{Reaches}
use Rattle.gptp_graph.specs.Distance.{IsDistance}
use Rattle.gptp_graph.specs.Parent.{ParentLink, JoinsAt, IsParent}
use Rattle.gptp_graph.specs.Labelling.{SystemLine}
use Rattle.gptp_graph.specs.SettledChoice.{IsParentIfAny, IsSettledChoice}
use Rattle.gptp_graph.specs.LocalTests.{StatesOneLess, PassesRoot, PassesSteps, PassesParent, PassesLink, PassesIdentity, PassesTie, PassesRole, PassesLocalTests}
use Rattle.gptp_graph.proofs.LinkLemmas.{Adjacent-sym}
use Rattle.gptp_graph.proofs.SystemLemmas.{In-clocks, same_clock}
use Rattle.gptp_graph.proofs.PathLemmas.{Reaches-self}
use Rattle.gptp_graph.proofs.BestLemmas.{IsBest-agree}
use Rattle.gptp_graph.proofs.DistanceLemmas.{IsDistance-neighbour, best_at_zero, nearer_neighbour}
use Rattle.gptp_graph.proofs.ParentLemmas.{LeadsNearer-distance, parent_exists}
use Rattle.gptp_graph.proofs.RoleLemmas.{RoleBy-map}
use Rattle.gptp_graph.proofs.StatementLemmas.{near_with_parent, near_with_port, StateDistances, distance_of_stated, stated_of_distance, master_of_stated, stated_of_master, slave_of_stated, stated_of_slave}

module _ (g : Snapshot) (lines : List SystemLine) (wf : IsWellFormed g) (h : IsSettledChoice g lines) where
  -- the stated steps are the distances
  stated_distances : StateDistances g lines
  stated_distances line stated = (h.settled line stated).steps

  -- the parent that is stated is one
  parent_of : (line : SystemLine) (l : ParentLink) → In line lines → line.parent ≡ Some l
      → IsParent g line.clock l
  parent_of line l stated is =
      let near = near_with_parent g lines line l h.systems stated is in
      subst (IsParentIfAny g line.clock) is ((h.settled line stated).parent near)

  -- a system that isn't far and states no parent is at distance zero
  zero_without_parent : (line : SystemLine) → In line lines → line.far ≡ false → line.parent ≡ None
      → line.steps ≡ 0
  zero_without_parent line stated near is = by_steps line.steps refl
    where
      by_steps : (d : ℕ) → line.steps ≡ d → line.steps ≡ 0
      by_steps zero e = e
      by_steps (suc d) e =
          let some =
          parent_exists g line.clock d wf
          (subst (IsDistance g line.clock) e (stated_distances line stated)) in
          let none : IsParentIfAny g line.clock None =
          subst (IsParentIfAny g line.clock) is ((h.settled line stated).parent near) in
          absurd (none some.0 some.1)

  -- the best is at distance zero, and of the systems that aren't far no other states no parent
  passes_root : PassesRoot g lines
  passes_root s line of near is =
      let (best, is_best, root) = (h.settled line of.stated).root in
      let here : IsDistance g line.clock 0 =
      subst (IsDistance g line.clock) (zero_without_parent line of.stated near is)
      (stated_distances line of.stated) in
      let same =
      same_clock g best s wf is_best.live of.live
      (best_at_zero g line.clock best wf is_best here ∙ of.clock) in
      root ∙ ap (λ (t : System). t.identity) same

  -- of the systems that aren't far the one at distance zero alone states no parent
  passes_steps : PassesSteps lines
  passes_steps = record {
    none = zero_without_parent;
    some = λ line l stated is.
        let p = parent_of line l stated is in
        let e : line.steps ≡ suc p.nearer.distance =
        LeadsNearer-distance g line.clock line.steps l wf (stated_distances line stated) p.nearer in
        omega arith;
    near = λ line stated. (h.settled line stated).near;
    far = λ line stated. (h.settled line stated).far;
  }

  -- some neighbour of a system with steps is one step nearer
  one_nearer : (line : SystemLine) (n : ℕ) → In line lines → line.steps ≡ n → 0 < n
      → (w : ℕ) × Adjacent g line.clock w × StatesOneLess lines w line
  one_nearer line zero stated e more = absurd (omega arith)
  one_nearer line (suc d) stated e more =
      let (w, at, there) =
      nearer_neighbour g line.clock d wf (subst (IsDistance g line.clock) e (stated_distances line stated)) in
      (w, at, (d, stated_of_distance g lines w d wf h.systems stated_distances there, omega arith))

  -- the parent is at the other end of a link, one step nearer
  passes_parent : PassesParent g lines
  passes_parent = record {
    near = at_parent;
    far = λ line stated is.
        let more : 255 ≤ line.steps = (h.settled line stated).far is in
        one_nearer line line.steps stated refl (omega arith);
  }
    where
      at_parent : (line : SystemLine) (l : ParentLink) → In line lines → line.parent ≡ Some l
          → JoinsAt g line.clock l × StatesOneLess lines l.clock line
      at_parent line l stated is =
          let p = parent_of line l stated is in
          let e : line.steps ≡ suc p.nearer.distance =
          LeadsNearer-distance g line.clock line.steps l wf (stated_distances line stated) p.nearer in
          let d = p.nearer.distance in (
            p.nearer.joins,
            (d, stated_of_distance g lines l.clock d wf h.systems stated_distances p.nearer.there, omega arith),
          )

  -- neighbours have one best, and distances that differ by one at most
  passes_link : PassesLink g lines
  passes_link one other a b adjacent =
      let (best, is_best, root) = (h.settled one a).root in
      let (best', is_best', root') = (h.settled other b).root in
      let same = IsBest-agree g one.clock other.clock best best' wf adjacent is_best is_best' in
      let there : other.steps ≤ suc one.steps =
      IsDistance-neighbour g one.clock other.clock one.steps other.steps wf adjacent (stated_distances one a)
      (stated_distances other b) in
      let back : one.steps ≤ suc other.steps =
      IsDistance-neighbour g other.clock one.clock other.steps one.steps wf
      (Adjacent-sym g one.clock other.clock adjacent) (stated_distances other b)
      (stated_distances one a) in
      (root ∙ ap (λ (t : System). t.identity) same ∙ sym root', omega arith, omega arith)

  -- no identity of the component is lower than its best's
  passes_identity : PassesIdentity g lines
  passes_identity s line of =
      let (best, is_best, root) = (h.settled line of.stated).root in
      let self = subst (λ v. In v (clocks g)) (sym of.clock) (In-clocks g s of.live) in
      let below : best.identity ≤ s.identity =
      is_best.least s of.live (subst (λ v. Reaches g line.clock v) of.clock
      (Reaches-self g line.clock self)) in
      omega arith

  -- no link that leads nearer is lower than the parent's
  passes_tie : PassesTie g lines
  passes_tie line l other d stated is joins steps less lower =
      let p = parent_of line l stated is in
      let e : line.steps ≡ suc d = omega arith in
      p.least other (record {
        joins = joins;
        distance = d;
        there = distance_of_stated g lines other.clock d stated_distances steps;
        here = subst (IsDistance g line.clock) e (stated_distances line stated);
      }) lower

  -- the settled roles are those that steps and parents give
  passes_role : PassesRole g lines
  passes_role line port stated at =
      let s = h.settled line stated in
      let parent = s.parent (near_with_port g lines line port h.systems stated at) in
      RoleBy-map _ _ _ _ _ port.role
      (stated_of_slave g line port.number parent)
      (slave_of_stated g line port.number parent)
      (stated_of_master g lines line port.number wf h.systems stated_distances stated)
      (master_of_stated g lines line port.number stated_distances stated)
      (s.roles port at)

  -- the settled choice passes the local tests
  pub complete : PassesLocalTests g lines
  complete = record {
    systems = h.systems;
    root = passes_root;
    steps = passes_steps;
    parent = passes_parent;
    link = passes_link;
    identity = passes_identity;
    tie = passes_tie;
    role = passes_role;
  }
