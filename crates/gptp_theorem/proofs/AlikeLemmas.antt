-- What a snapshot settles at depends on which systems it has, and not on their order.
use Rattle.std.proofs.Common.{◌⊎◌, ℕ, suc, List, [], ◌∷◌, Option, Some, None, sym, subst}
use Rattle.std.proofs.lemmas.List.Sorted.{IsPermutation-sym}
use Rattle.gptp_graph.specs.Best.{IsBest}
use Rattle.gptp_graph.specs.Distance.{IsDistance, IsDistanceFrom}
use Rattle.gptp_graph.specs.Labelling.{HasItsSystems, IsLineOf, SystemLine}
use Rattle.gptp_lists.specs.Members.{In}
use Rattle.gptp_graph.specs.Parent.{IsParent, LeadsNearer, ParentLink}
use Rattle.gptp_graph.specs.Path.{IsPath, Reaches, Route}
use Rattle.gptp_graph.specs.SettledChoice.{IsParentIfAny, IsSettledChoice, IsSettledLine}
use Rattle.gptp_graph.specs.SettledRole.{Disabled, IsMasterPort, IsSettledRole, IsSlavePort, Master, Passive, Role, Slave}
use Rattle.gptp_graph.specs.Snapshot.{IsLinked, Joins, Link, PortIdentity, Snapshot, System, clocks, port_of}
use Rattle.gptp_lists.proofs.SystemSpecLemmas.{In-map, from_map}
use Rattle.gptp_network.proofs.SnapshotLemmas.{In-permutation}
use Rattle.gptp_invariants.proofs.WorldSystemLemmas.{clock_in}
use Rattle.gptp_theorem.specs.AlikeLaws.{AreAlike}

-- ---- members

pub turned : (g h : Snapshot) → AreAlike g h → AreAlike h g
turned g h a = record { systems = IsPermutation-sym g.systems h.systems a.systems; links = sym a.links }

among : (g h : Snapshot) → AreAlike g h → (s : System) → In s g.systems → In s h.systems
among g h a s member = In-permutation s g.systems h.systems a.systems member

pub clock_among : (g h : Snapshot) → AreAlike g h → (v : ℕ) → In v (clocks g) → In v (clocks h)
clock_among g h a v member =
    let (s, one, same) = from_map clock_in v g.systems member in
    subst (λ u. In u (clocks h)) same (In-map clock_in s h.systems (among g h a s one))

-- ---- routes

joins : (g h : Snapshot) → AreAlike g h → (p q : PortIdentity) → Joins g p q → Joins h p q
joins g h a p q =
    subst (λ (links : List Link). In (record { a = p; b = q }) links ⊎ In (record { a = q; b = p }) links) a.links

linked : (g h : Snapshot) → AreAlike g h → (p : PortIdentity) → IsLinked g p → IsLinked h p
linked g h a p (q, one) = (q, joins g h a p q one)

route : (g h : Snapshot) → AreAlike g h → (v w : ℕ) (us : List ℕ) → Route g v w us → Route h v w us
route g h a v w [] there = there
route g h a v w (u ∷ us) ((m, n, one), rest) =
    ((m, n, joins g h a (port_of v m) (port_of u n) one), route g h a u w us rest)

pub path : (g h : Snapshot) → AreAlike g h → (v w : ℕ) (us : List ℕ) → IsPath g v w us → IsPath h v w us
path g h a v w us is = record {
  begins = clock_among g h a v is.begins;
  route = route g h a v w us is.route;
  different = is.different;
}

reaches : (g h : Snapshot) → AreAlike g h → (v w : ℕ) → Reaches g v w → Reaches h v w
reaches g h a v w (us, is) = (us, path g h a v w us is)

-- ---- distances

pub best : (g h : Snapshot) → AreAlike g h → (v : ℕ) (s : System) → IsBest g v s → IsBest h v s
best g h a v s is =
    let back = turned g h a in record {
      live = among g h a s is.live;
      reached = reaches g h a v s.clock is.reached;
      least = λ t one reached. is.least t (among h g back t one) (reaches h g back v t.clock reached);
    }

distance_from : (g h : Snapshot) → AreAlike g h → (b v d : ℕ) → IsDistanceFrom g b v d → IsDistanceFrom h b v d
distance_from g h a b v d is = record {
  path = (is.path.0, path g h a b v is.path.0 is.path.1, is.path.2);
  least = λ us way. is.least us (path h g (turned g h a) b v us way);
}

pub distance : (g h : Snapshot) → AreAlike g h → (v d : ℕ) → IsDistance g v d → IsDistance h v d
distance g h a v d is = record {
  best = is.best;
  is_best = best g h a v is.best is.is_best;
  from_best = distance_from g h a is.best.clock v d is.from_best;
}

-- ---- parents

nearer : (g h : Snapshot) → AreAlike g h → (v : ℕ) (l : ParentLink) → LeadsNearer g v l → LeadsNearer h v l
nearer g h a v l is = record {
  joins = joins g h a (port_of v l.own_port) (port_of l.clock l.port) is.joins;
  distance = is.distance;
  there = distance g h a l.clock is.distance is.there;
  here = distance g h a v (suc is.distance) is.here;
}

pub parent : (g h : Snapshot) → AreAlike g h → (v : ℕ) (l : ParentLink) → IsParent g v l → IsParent h v l
parent g h a v l is = record {
  nearer = nearer g h a v l is.nearer;
  least = λ other leads. is.least other (nearer h g (turned g h a) v other leads);
}

parent_if_any : (g h : Snapshot) → AreAlike g h → (v : ℕ) (l : Option ParentLink) → IsParentIfAny g v l
    → IsParentIfAny h v l
parent_if_any g h a v (Some l) is = parent g h a v l is
parent_if_any g h a v None is = λ l one. is l (parent h g (turned g h a) v l one)

-- ---- roles

slave : (g h : Snapshot) → AreAlike g h → (p : PortIdentity) → IsSlavePort g p → IsSlavePort h p
slave g h a p (l, is, own) = (l, parent g h a p.clock l is, own)

master : (g h : Snapshot) → AreAlike g h → (p : PortIdentity) → IsMasterPort g p → IsMasterPort h p
master g h a p is = record {
  other = is.other;
  joins = joins g h a p is.other is.joins;
  here = is.here;
  there = is.there;
  is_here = distance g h a p.clock is.here is.is_here;
  is_there = distance g h a is.other.clock is.there is.is_there;
  nearer = is.nearer;
}

role : (g h : Snapshot) → AreAlike g h → (p : PortIdentity) (r : Role) → IsSettledRole g p r → IsSettledRole h p r
role g h a p Disabled is = λ one. is (linked h g (turned g h a) p one)
role g h a p Slave is = (linked g h a p is.0, slave g h a p is.1)
role g h a p Master is =
    (linked g h a p is.0, λ one. is.1 (slave h g (turned g h a) p one), master g h a p is.2)
role g h a p Passive is =
    let back = turned g h a in
    (linked g h a p is.0, λ one. is.1 (slave h g back p one), λ one. is.2 (master h g back p one))

-- ---- lines

settled_line : (g h : Snapshot) → AreAlike g h → (line : SystemLine) → IsSettledLine g line → IsSettledLine h line
settled_line g h a line is = record {
  root = (is.root.0, best g h a line.clock is.root.0 is.root.1, is.root.2);
  steps = distance g h a line.clock line.steps is.steps;
  near = is.near;
  far = is.far;
  parent = λ near. parent_if_any g h a line.clock line.parent (is.parent near);
  roles = λ port member. role g h a (port_of line.clock port.number) port.role (is.roles port member);
}

line_of : (g h : Snapshot) → AreAlike g h → (lines : List SystemLine) (s : System) (line : SystemLine)
    → IsLineOf g lines s line → IsLineOf h lines s line
line_of g h a lines s line of = record { live = among g h a s of.live; stated = of.stated; clock = of.clock }

its_systems : (g h : Snapshot) → AreAlike g h → (lines : List SystemLine) → HasItsSystems g lines
    → HasItsSystems h lines
its_systems g h a lines has =
    let back = turned g h a in record {
      different = has.different;
      all = λ s member. (let (line, of) = has.all s (among h g back s member) in (line, line_of g h a lines s line of));
      no_other = λ line stated. (let (s, of) = has.no_other line stated in (s, line_of g h a lines s line of));
      ports = λ s line of. has.ports s line (line_of h g back lines s line of);
      bare = has.bare;
    }

pub same_choice : (g h : Snapshot) (lines : List SystemLine) → AreAlike g h → IsSettledChoice g lines
    → IsSettledChoice h lines
same_choice g h lines a right = record {
  systems = its_systems g h a lines right.systems;
  settled = λ line member. settled_line g h a line (right.settled line member);
}
