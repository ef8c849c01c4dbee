-- A labelling that passes the local tests is the settled choice.
use Rattle.std.proofs.Common.{◌≡◌, ◌≤◌, ◌<◌, ◌+◌, ℕ, zero, suc, Bool, true, false, List, [], ◌∷◌, length, Option, Some, None, refl, sym, ap, subst, ◌∙◌, arith}
use Rattle.gptp_lists.specs.Members.{In}
use Rattle.gptp_graph.specs.Snapshot.{System, Snapshot, IsWellFormed, Adjacent}
use Rattle.gptp_graph.specs.Path.{Route, Reaches}
use Rattle.gptp_graph.specs.Best.{IsBest}
use Rattle.gptp_graph.specs.Distance.{IsDistance}
use Rattle.gptp_graph.specs.Parent.{ParentLink}
use Rattle.gptp_graph.specs.Labelling.{SystemLine}
use Rattle.gptp_graph.specs.SettledChoice.{IsParentIfAny, IsSettledLine, IsSettledChoice}
use Rattle.gptp_graph.specs.LocalTests.{StatesOneLess, PassesLocalTests}
use Rattle.gptp_graph.proofs.LinkLemmas.{Adjacent-clock}
use Rattle.gptp_graph.proofs.PathLemmas.{Route-reverse, path_of, Reaches-route}
use Rattle.gptp_graph.proofs.SystemLemmas.{In-clocks}
use Rattle.gptp_graph.proofs.ParentLemmas.{LeadsNearer-distance}
use Rattle.gptp_graph.proofs.RoleLemmas.{RoleBy-map}
use Rattle.gptp_graph.proofs.StatementLemmas.{line_of, line_clock, same_line, near_with_port, StateDistances, distance_of_stated, stated_of_distance, master_of_stated, stated_of_master, slave_of_stated, stated_of_slave}

-- a line that isn't far and has no parent, with the same root, which a route of as many steps as are stated reaches
record HasTop (g : Snapshot) (lines : List SystemLine) (line : SystemLine) : Type 0 where
  top : SystemLine
  stated : In top lines
  near : top.far ≡ false
  alone : top.parent ≡ None
  root : line.root ≡ top.root
  route : (us : List ℕ) × Route g line.clock top.clock us × (length us ≡ line.steps)

-- the line of a neighbour with one step less and the same root
record HasNext (g : Snapshot) (lines : List SystemLine) (line : SystemLine) (n : ℕ) : Type 0 where
  next : SystemLine
  stated : In next lines
  steps : next.steps ≡ n
  adjacent : Adjacent g line.clock next.clock
  root : line.root ≡ next.root

module _ (g : Snapshot) (lines : List SystemLine) (wf : IsWellFormed g) (h : PassesLocalTests g lines) where
  -- a line with steps 0 isn't far
  near_at_zero : (line : SystemLine) → In line lines → line.steps ≡ 0 → line.far ≡ false
  near_at_zero line stated e = by_far line.far refl
    where
      by_far : (far : Bool) → line.far ≡ far → line.far ≡ false
      by_far false is = is
      by_far true is = absurd (let more : 255 ≤ line.steps = h.steps.far line stated is in omega arith)

  -- and has no parent
  alone_at_zero : (line : SystemLine) → In line lines → line.steps ≡ 0 → line.parent ≡ None
  alone_at_zero line stated e = by_parent line.parent refl
    where
      by_parent : (o : Option ParentLink) → line.parent ≡ o → line.parent ≡ None
      by_parent None is = is
      by_parent (Some l) is = absurd (let more : 0 < line.steps = h.steps.some line l stated is in omega arith)

  -- a neighbour with one step less is next
  next_over : (n : ℕ) (line : SystemLine) (w : ℕ) → In line lines → line.steps ≡ suc n → Adjacent g line.clock w
      → StatesOneLess lines w line → HasNext g lines line n
  next_over n line w stated e adjacent (d, (up, up_stated, up_clock, up_steps), less) =
      let at : Adjacent g line.clock up.clock = subst (Adjacent g line.clock) (sym up_clock) adjacent in
      record {
        next = up;
        stated = up_stated;
        steps = omega arith;
        adjacent = at;
        root = (h.link line up stated up_stated at).0;
      }

  -- with more steps the parent is next, and some neighbour where the line is far
  next_of : (n : ℕ) (line : SystemLine) → In line lines → line.steps ≡ suc n → HasNext g lines line n
  next_of n line stated e = by_far line.far refl
    where
      by_parent : (o : Option ParentLink) → line.far ≡ false → line.parent ≡ o → HasNext g lines line n
      by_parent None near is = absurd (let zero : line.steps ≡ 0 = h.steps.none line stated near is in omega arith)
      by_parent (Some l) near is =
          let (joins, less) = h.parent.near line l stated is in
          next_over n line l.clock stated e (l.own_port, l.port, joins) less

      by_far : (far : Bool) → line.far ≡ far → HasNext g lines line n
      by_far false is = by_parent line.parent is refl
      by_far true is = let (w, at, less) = h.parent.far line stated is in next_over n line w stated e at less

  -- so each system climbs to one that isn't far and has no parent
  climb : (n : ℕ) (line : SystemLine) → In line lines → line.steps ≡ n → HasTop g lines line
  climb zero line stated e = record {
    top = line;
    stated = stated;
    near = near_at_zero line stated e;
    alone = alone_at_zero line stated e;
    root = refl;
    route = ([], refl, sym e);
  }
  climb (suc n) line stated e =
      let up = next_of n line stated e in
      let t = climb n up.next up.stated up.steps in
      let (us, route, long) = t.route in
      record {
        top = t.top;
        stated = t.stated;
        near = t.near;
        alone = t.alone;
        root = up.root ∙ t.root;
        route = (up.next.clock ∷ us, (up.adjacent, route), ap suc (long ∙ up.steps) ∙ sym e);
      }

  -- along a route the root stays, and the steps grow by one at most
  along : (us : List ℕ) (one other : SystemLine) → In one lines → In other lines
      → Route g one.clock other.clock us → (one.root ≡ other.root) × (other.steps ≤ one.steps + length us)
  along [] one other a b r =
      let e = same_line g lines one other h.systems a b r in
      (ap (λ (l : SystemLine). l.root) e, let s = ap (λ (l : SystemLine). l.steps) e in omega arith)
  along (u ∷ us) one other a b r =
      let next = line_of g lines u h.systems (Adjacent-clock g one.clock u wf r.0) in
      let first = h.link one next.line a next.stated (subst (Adjacent g one.clock) (sym next.clock) r.0) in
      let rest =
      along us next.line other next.stated b (subst (λ v. Route g v other.clock us) (sym next.clock) r.1) in
      (first.0 ∙ rest.0, let s = first.2 in let t = rest.1 in omega arith)

  -- the system at the top is the best, by a route of the stated steps
  record HasStatedBest (line : SystemLine) : Type 0 where
    best : System
    is_best : IsBest g line.clock best
    root : line.root ≡ best.identity
    route : (us : List ℕ) × Route g best.clock line.clock us × (length us ≡ line.steps)
    least : (us : List ℕ) → Route g best.clock line.clock us → line.steps ≤ length us

  -- each line has such a best: the system at the top
  stated_best : (line : SystemLine) → In line lines → HasStatedBest line
  stated_best line stated =
      let t = climb line.steps line stated refl in
      let (best, of) = h.systems.no_other t.top t.stated in
      let (us, up, long) = t.route in
      let to_best : Route g line.clock best.clock us = subst (λ v. Route g line.clock v us) of.clock up in
      let root : line.root ≡ best.identity = t.root ∙ h.root best t.top of t.near t.alone in
      let down = Route-reverse g line.clock best.clock us to_best in
      let here = line_clock g lines line h.systems stated in
      record {
        best = best;
        is_best = record {
          live = of.live;
          reached = Reaches-route g line.clock best.clock us here to_best;
          least = no_lower best root;
        };
        root = root;
        route = (down.0, down.1, down.2 ∙ long);
        least =
            λ ts r. no_shorter t.top t.stated t.near t.alone ts
            (subst (λ v. Route g v line.clock ts) (sym of.clock) r);
      }
    where
      no_lower : (best : System) → line.root ≡ best.identity
          → (s : System) → In s g.systems → Reaches g line.clock s.clock → best.identity ≤ s.identity
      no_lower best root s live (us, p) =
          let (other, of) = h.systems.all s live in
          let same : line.root ≡ other.root =
          (along us line other stated of.stated
          (subst (λ v. Route g line.clock v us) (sym of.clock) p.route)).0 in
          let below : other.root ≤ s.identity = h.identity s other of in
          omega arith

      no_shorter : (top : SystemLine) → In top lines → top.far ≡ false → top.parent ≡ None
          → (us : List ℕ) → Route g top.clock line.clock us → line.steps ≤ length us
      no_shorter top top_stated near alone us r =
          let grown : line.steps ≤ top.steps + length us = (along us top line top_stated stated r).1 in
          let zero : top.steps ≡ 0 = h.steps.none top top_stated near alone in
          omega arith

  -- the stated steps are the distances
  stated_distances : StateDistances g lines
  stated_distances line stated =
      let b = stated_best line stated in
      let (us, route, long) = b.route in
      let p = path_of g b.best.clock line.clock us (In-clocks g b.best b.is_best.live) route in
      let shorter : length p.0 ≤ length us = p.2 in
      let least : line.steps ≤ length p.0 = b.least p.0 p.1.route in
      record {
        best = b.best;
        is_best = b.is_best;
        from_best = record { path = (p.0, p.1, omega arith); least = λ ts q. b.least ts q.route };
      }

  -- the stated parents are the parents
  stated_parents : (line : SystemLine) → In line lines → line.far ≡ false → IsParentIfAny g line.clock line.parent
  stated_parents line stated near = by_parent line.parent refl
    where
      by_parent : (o : Option ParentLink) → line.parent ≡ o → IsParentIfAny g line.clock o
      by_parent None is = λ l p.
          let zero : line.steps ≡ 0 = h.steps.none line stated near is in
          let more : line.steps ≡ suc p.nearer.distance =
          LeadsNearer-distance g line.clock line.steps l wf (stated_distances line stated) p.nearer in
          absurd (omega arith)
      by_parent (Some l) is =
          let (joins, (d, steps, less)) = h.parent.near line l stated is in
          record {
            nearer = record {
              joins = joins;
              distance = d;
              there = distance_of_stated g lines l.clock d stated_distances steps;
              here =
                  subst (IsDistance g line.clock) (let e : line.steps ≡ suc d = omega arith in e)
                  (stated_distances line stated);
            };
            least = λ other n lower.
                let more : line.steps ≡ suc n.distance =
                LeadsNearer-distance g line.clock line.steps other wf (stated_distances line stated) n in
                h.tie line l other n.distance stated is n.joins
                (stated_of_distance g lines other.clock n.distance wf h.systems stated_distances n.there)
                (omega arith) lower;
          }

  -- a labelling that passes the local tests is the settled choice
  pub sound : IsSettledChoice g lines
  sound = record { systems = h.systems; settled = settled }
    where
      settled : (line : SystemLine) → In line lines → IsSettledLine g line
      settled line stated = record {
        root = (let b = stated_best line stated in (b.best, b.is_best, b.root));
        steps = stated_distances line stated;
        near = h.steps.near line stated;
        far = h.steps.far line stated;
        parent = stated_parents line stated;
        roles = λ port at. let parent = stated_parents line stated
            (near_with_port g lines line port h.systems stated at) in
            RoleBy-map _ _ _ _ _ port.role
            (slave_of_stated g line port.number parent)
            (stated_of_slave g line port.number parent)
            (master_of_stated g lines line port.number stated_distances stated)
            (stated_of_master g lines line port.number wf h.systems stated_distances stated)
            (h.role line port stated at);
      }
