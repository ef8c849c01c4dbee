-- Tests that compute: whether a snapshot is a network's, and whether lines, none of them far, pass the local tests.
use Rattle.std.proofs.Common.{◌≡◌, ◌≢◌, ◌⊎◌, ◌≤◌, ◌<◌, ◌+◌, ◌%◌, ◌^◌, ℕ, Bool, true, false, List, [], ◌∷◌, Option, Some, None, refl, sym, ap, ap₂, subst, ◌∙◌}
use Rattle.std.specs.List.{range_with_len}
use native.Mathlib.Decide.{ℕ_discrete, dec_le, dec_lt}
use Rattle.gptp_lists.specs.Members.{In, Different}
use Rattle.gptp_graph.specs.Order.{IsLower}
use Rattle.gptp_graph.specs.Snapshot.{System, PortIdentity, Snapshot, clocks, port_of, Joins, IsLinked, IsPortOf, IsIdentified, IsWellFormed}
use Rattle.gptp_graph.specs.Parent.{ParentLink, key, JoinsAt}
use Rattle.gptp_graph.specs.SettledRole.{Role, Disabled, Master, Slave, Passive}
use Rattle.gptp_graph.specs.Labelling.{PortLine, SystemLine, line_clocks, port_numbers, IsLineOf}
use Rattle.gptp_graph.specs.LocalTests.{StatesSteps, StatesOneLess, StatesSlave, StatesMaster, HasStatedRole, PassesSystems, PassesRoot, PassesSteps, PassesParent, PassesLink, PassesIdentity, PassesTie, PassesRole, PassesLocalTests}
use Rattle.gptp_graph.proofs.DecisionLemmas.{dec_both, dec_either}
use Rattle.gptp_graph.proofs.OrderLemmas.{IsLower-dec}
use Rattle.gptp_graph.proofs.LinkDecisions.{PortIdentity-dec}
use Rattle.gptp_graph.proofs.Sure.{Sure, failed, so, both, decided, denied, where_holds, for_all, for_some, for_links, for_end, sure_joins}

-- no parent is none that is stated
pub none_is_none : {A : Type 0} (l : ParentLink) → Some l ≡ None → A
none_is_none l e = absurd cc

-- a parent is one that is stated
pub same_some : (l k : ParentLink) → Some l ≡ Some k → l ≡ k
same_some l k e = cc

-- the members differ
abbrev pub sure_different : (xs : List ℕ) → Sure (Different xs)
sure_different [] = (true, λ e. tt)
sure_different (x ∷ xs) =
    both (so (λ h k. h x k refl) (for_all (λ y. x ≡ y → ⊥) xs (λ y. denied (ℕ_discrete x y)))) (sure_different xs)

-- two lists of numbers are one
abbrev pub sure_same : (xs ys : List ℕ) → Sure (xs ≡ ys)
sure_same [] [] = (true, λ e. refl)
sure_same [] (y ∷ ys) = (false, failed)
sure_same (x ∷ xs) [] = (false, failed)
sure_same (x ∷ xs) (y ∷ ys) =
    so (λ h. ap₂ (λ (z : ℕ) (zs : List ℕ). z ∷ zs) h.0 h.1) (both (decided (ℕ_discrete x y)) (sure_same xs ys))

-- the port is one of the system's
abbrev pub sure_port : (s : System) (p : PortIdentity) → Sure (IsPortOf s p)
sure_port s p = so (λ h. record { clock = h.0; first = h.1.0; last = h.1.1 })
    (both (decided (ℕ_discrete s.clock p.clock))
    (both (decided (dec_le 1 p.port)) (decided (dec_le p.port s.ports))))

-- the snapshot is a network's
abbrev pub sure_well_formed : (g : Snapshot) → Sure (IsWellFormed g)
sure_well_formed g =
    so (λ h. record { different = h.0; identified = h.1.0; ends = h.1.1.0; one_link = h.1.1.1.0; apart = h.1.1.1.1 })
    (both (sure_different (clocks g)) (both identified (both ends (both one_link apart))))
  where
    identified : Sure ((s : System) → In s g.systems → IsIdentified s)
    identified =
        for_all IsIdentified g.systems (λ s. so (λ h. record { octets = h.0; clock = h.1 })
        (both (decided (dec_lt s.identity (2 ^ 112))) (decided (ℕ_discrete (s.identity % 2 ^ 64) s.clock))))

    ends : Sure ((p q : PortIdentity) → Joins g p q → (s : System) × In s g.systems × IsPortOf s p)
    ends =
        for_links g (λ p q. (s : System) × In s g.systems × IsPortOf s p)
        (λ p q. for_some (λ s. IsPortOf s p) g.systems (λ s. sure_port s p))

    one_link : Sure ((p q r : PortIdentity) → Joins g p q → Joins g p r → q ≡ r)
    one_link = so (λ h p q r j k. h p q j p r k refl)
        (for_links g (λ p q. (o r : PortIdentity) → Joins g o r → p ≡ o → q ≡ r)
        (λ p q. for_links g (λ o r. p ≡ o → q ≡ r)
        (λ o r. where_holds (PortIdentity-dec p o) (decided (PortIdentity-dec q r)))))

    apart : Sure ((p q : PortIdentity) → Joins g p q → p.clock ≢ q.clock)
    apart = for_links g (λ p q. p.clock ≢ q.clock) (λ p q. denied (ℕ_discrete p.clock q.clock))

module _ (g : Snapshot) (lines : List SystemLine) where
  -- a fact about each system and its line
  abbrev pub for_lines_of : (P : System → SystemLine → Type 0)
      → ((s : System) (line : SystemLine) → Sure (P s line))
      → Sure ((s : System) (line : SystemLine) → IsLineOf g lines s line → P s line)
  for_lines_of P t = so (λ h s line of. h s of.live line of.stated of.clock)
      (for_all (λ s. (line : SystemLine) → In line lines → line.clock ≡ s.clock → P s line) g.systems
      (λ s. for_all (λ line. line.clock ≡ s.clock → P s line) lines
      (λ line. where_holds (ℕ_discrete line.clock s.clock) (t s line))))

  -- a fact where no parent is stated
  abbrev pub if_none : (o : Option ParentLink) (A : Type 0) → Sure A → Sure (o ≡ None → A)
  if_none None A t = (t.0, λ e h. t.1 e)
  if_none (Some l) A t = (true, λ e h. none_is_none l h)

  -- a fact about the parent that is stated
  abbrev pub if_parent : (o : Option ParentLink) (P : ParentLink → Type 0) → ((l : ParentLink) → Sure (P l))
      → Sure ((l : ParentLink) → o ≡ Some l → P l)
  if_parent None P t = (true, λ e l h. none_is_none l (sym h))
  if_parent (Some k) P t = ((t k).0, λ e l h. subst P (same_some k l h) ((t k).1 e))

  -- no line is far
  abbrev pub HasNoFar : Type 0
  HasNoFar = (line : SystemLine) → In line lines → line.far ≡ false

  -- so a far line has whatever is asked
  pub none_is_far : {A : Type 0} → HasNoFar → (line : SystemLine) → In line lines → line.far ≡ true → A
  none_is_far h line at e = absurd (let near = h line at in cc)

  -- whether no line is far
  abbrev pub sure_no_far : Sure HasNoFar
  sure_no_far = for_all (λ line. line.far ≡ false) lines (λ line. is_false line.far)
    where
      is_false : (far : Bool) → Sure (far ≡ false)
      is_false false = (true, λ e. refl)
      is_false true = (false, failed)

  -- the systems are those of the snapshot
  abbrev pub sure_systems : Sure (PassesSystems g lines)
  sure_systems =
      so (λ ((different, all), ((no_other, ports), no_far)). record {
        different = different;
        all = all;
        no_other = no_other;
        ports = λ s line of near. ports s line of;
        bare = λ line. none_is_far no_far line;
      })
      (both (both (sure_different (line_clocks lines)) all) (both (both no_other ports) sure_no_far))
    where
      all : Sure ((s : System) → In s g.systems → (line : SystemLine) × IsLineOf g lines s line)
      all =
          so (λ h s live. let (line, stated, clock) = h s live in
          (line, record { live = live; stated = stated; clock = clock }))
          (for_all (λ s. (line : SystemLine) × In line lines × (line.clock ≡ s.clock)) g.systems
          (λ s. for_some (λ line. line.clock ≡ s.clock) lines
          (λ line. decided (ℕ_discrete line.clock s.clock))))

      no_other : Sure ((line : SystemLine) → In line lines → (s : System) × IsLineOf g lines s line)
      no_other =
          so (λ h line stated. let (s, live, clock) = h line stated in
          (s, record { live = live; stated = stated; clock = clock }))
          (for_all (λ line. (s : System) × In s g.systems × (line.clock ≡ s.clock)) lines
          (λ line. for_some (λ s. line.clock ≡ s.clock) g.systems
          (λ s. decided (ℕ_discrete line.clock s.clock))))

      ports : Sure ((s : System) (line : SystemLine) → IsLineOf g lines s line
          → port_numbers line ≡ range_with_len 1 s.ports)
      ports =
          for_lines_of (λ s line. port_numbers line ≡ range_with_len 1 s.ports)
          (λ s line. sure_same (port_numbers line) (range_with_len 1 s.ports))

  -- a system with no parent is its own root
  abbrev pub sure_root : Sure (PassesRoot g lines)
  sure_root = so (λ h s line of near e. h s line of e)
      (for_lines_of (λ s line. line.parent ≡ None → line.root ≡ s.identity)
      (λ s line. if_none line.parent (line.root ≡ s.identity) (decided (ℕ_discrete line.root s.identity))))

  -- no parent is stated with steps 0 alone, and all steps are below 255
  abbrev pub sure_steps_stated : Sure (PassesSteps lines)
  sure_steps_stated =
      so (λ ((h, below), no_far). record {
        none = λ line at near e. (h line at).0 e;
        some = λ line l at e. (h line at).1 l e;
        near = λ line at e. below line at;
        far = λ line. none_is_far no_far line;
      })
      (both (both (for_all (λ line. (line.parent ≡ None → line.steps ≡ 0)
      × ((l : ParentLink) → line.parent ≡ Some l → 0 < line.steps)) lines
      (λ line. both (if_none line.parent (line.steps ≡ 0) (decided (ℕ_discrete line.steps 0)))
      (if_parent line.parent (λ l. 0 < line.steps) (λ l. decided (dec_lt 0 line.steps)))))
      (for_all (λ line. line.steps < 255) lines (λ line. decided (dec_lt line.steps 255)))) sure_no_far)

  -- the parent is over a link, with steps one less
  abbrev pub sure_parent : Sure (PassesParent g lines)
  sure_parent =
      so (λ (h, no_far). record { near = λ line l at e. h line at l e; far = λ line. none_is_far no_far line })
      (both (for_all (λ line. (l : ParentLink) → line.parent ≡ Some l → IsUp line l) lines
      (λ line. if_parent line.parent (IsUp line) (λ l. up line l))) sure_no_far)
    where
      IsUp : SystemLine → ParentLink → Type 0
      IsUp line l = JoinsAt g line.clock l × StatesOneLess lines l.clock line

      up : (line : SystemLine) (l : ParentLink) → Sure (IsUp line l)
      up line l = both (sure_joins g (port_of line.clock l.own_port) (port_of l.clock l.port))
          (so (λ (other, at, (c, less)). (other.steps, (other, at, c, refl), less))
          (for_some (λ other. (other.clock ≡ l.clock) × (other.steps + 1 ≡ line.steps)) lines
          (λ other. both (decided (ℕ_discrete other.clock l.clock))
          (decided (ℕ_discrete (other.steps + 1) line.steps)))))

  -- over a link roots agree, and steps differ by one at most
  abbrev pub sure_link : Sure (PassesLink g lines)
  sure_link =
      so (λ h one other a b (m, n, joins). h one a other b (port_of one.clock m)
      (port_of other.clock n) joins refl refl)
      (for_all (λ one. (other : SystemLine) → In other lines → Across one other) lines
      (λ one. for_all (Across one) lines (λ other. across one other)))
    where
      Agree : SystemLine → SystemLine → Type 0
      Agree one other = (one.root ≡ other.root) × (one.steps ≤ other.steps + 1) × (other.steps ≤ one.steps + 1)

      Across : SystemLine → SystemLine → Type 0
      Across one other =
          (p q : PortIdentity) → Joins g p q → p.clock ≡ one.clock → q.clock ≡ other.clock → Agree one other

      agree : (one other : SystemLine) → Sure (Agree one other)
      agree one other = so (λ h. (h.0, h.1.0, h.1.1))
          (both (decided (ℕ_discrete one.root other.root))
          (both (decided (dec_le one.steps (other.steps + 1)))
          (decided (dec_le other.steps (one.steps + 1)))))

      across : (one other : SystemLine) → Sure (Across one other)
      across one other = for_links g (λ p q. p.clock ≡ one.clock → q.clock ≡ other.clock → Agree one other)
          (λ p q. where_holds (ℕ_discrete p.clock one.clock)
          (where_holds (ℕ_discrete q.clock other.clock) (agree one other)))

  -- no identity is lower than its root
  abbrev pub sure_identity : Sure (PassesIdentity g lines)
  sure_identity =
      for_lines_of (λ s line. line.root ≤ s.identity) (λ s line. decided (dec_le line.root s.identity))

  -- the link from p to q as p's system sees it
  abbrev pub seen : PortIdentity → PortIdentity → ParentLink
  seen p q = record { own_port = p.port; clock = q.clock; port = q.port }

  -- no link to steps one less is lower than the parent's
  abbrev pub sure_tie : Sure (PassesTie g lines)
  sure_tie =
      so (λ h line l other d at e joins (up, up_at, c, steps) less. h line at l e
      (port_of line.clock other.own_port) (port_of other.clock other.port) joins refl up up_at c
      (ap (λ n. n + 1) steps ∙ less))
      (for_all (λ line. (l : ParentLink) → line.parent ≡ Some l → IsLeast line l) lines
      (λ line. if_parent line.parent (IsLeast line) (λ l. least line l)))
    where
      IsLeast : SystemLine → ParentLink → Type 0
      IsLeast line l =
          (p q : PortIdentity) → Joins g p q → p.clock ≡ line.clock → (up : SystemLine) → In up lines
          → up.clock ≡ q.clock → up.steps + 1 ≡ line.steps
          → IsLower (key (seen p q)) (key l) → ⊥

      least : (line : SystemLine) (l : ParentLink) → Sure (IsLeast line l)
      least line l =
          for_links g (λ p q. p.clock ≡ line.clock → (up : SystemLine) → In up lines → up.clock ≡ q.clock
          → up.steps + 1 ≡ line.steps → IsLower (key (seen p q)) (key l) → ⊥)
          (λ p q. where_holds (ℕ_discrete p.clock line.clock)
          (for_all (λ up. up.clock ≡ q.clock → up.steps + 1 ≡ line.steps → IsLower (key (seen p q)) (key l)
          → ⊥) lines
          (λ up. where_holds (ℕ_discrete up.clock q.clock)
          (where_holds (ℕ_discrete (up.steps + 1) line.steps)
          (denied (IsLower-dec (key (seen p q)) (key l)))))))

  -- the port is the own port of the stated parent
  abbrev pub slave_port : (line : SystemLine) (n : ℕ) → Sure (StatesSlave line n)
  slave_port line n = of_parent line.parent
    where
      of_parent : (o : Option ParentLink) → Sure ((l : ParentLink) × (o ≡ Some l) × (l.own_port ≡ n))
      of_parent None = (false, failed)
      of_parent (Some l) = so (λ e. (l, refl, e)) (decided (ℕ_discrete l.own_port n))

  -- the port isn't the own port of the stated parent
  abbrev pub no_slave_port : (line : SystemLine) (n : ℕ) → Sure (StatesSlave line n → ⊥)
  no_slave_port line n =
      so (λ h (l, e, own). h l e own)
      (if_parent line.parent (λ l. l.own_port ≡ n → ⊥) (λ l. denied (ℕ_discrete l.own_port n)))

  -- fewer steps here than on the line at the other end, or as many and the lower clock
  abbrev pub IsNearer : SystemLine → SystemLine → PortIdentity → Type 0
  IsNearer line other q = (line.steps < other.steps) ⊎ ((line.steps ≡ other.steps) × (line.clock < q.clock))

  -- whether it is so
  abbrev pub nearer_dec : (line other : SystemLine) (q : PortIdentity) → Dec (IsNearer line other q)
  nearer_dec line other q =
      dec_either (dec_lt line.steps other.steps)
      (dec_both (ℕ_discrete line.steps other.steps) (dec_lt line.clock q.clock))

  -- the port is a master port by the stated steps
  abbrev pub master_port : (line : SystemLine) (n : ℕ) → Sure (StatesMaster g lines line n)
  master_port line n =
      so (λ (q, joins, (other, at, (c, nearer))). record {
        other = q;
        joins = joins;
        there = other.steps;
        is_there = (other, at, c, refl);
        nearer = nearer;
      })
      (for_end g (port_of line.clock n)
      (λ q. (other : SystemLine) × In other lines × ((other.clock ≡ q.clock) × IsNearer line other q))
      (λ q. for_some (λ other. (other.clock ≡ q.clock) × IsNearer line other q) lines
      (λ other. both (decided (ℕ_discrete other.clock q.clock)) (decided (nearer_dec line other q)))))

  -- the port is no master port by the stated steps
  abbrev pub no_master_port : (line : SystemLine) (n : ℕ) → Sure (StatesMaster g lines line n → ⊥)
  no_master_port line n = so (λ h m. refuted h m m.is_there)
      (for_links g (λ p q. p ≡ port_of line.clock n → (other : SystemLine) → In other lines
      → other.clock ≡ q.clock → IsNearer line other q → ⊥)
      (λ p q. where_holds (PortIdentity-dec p (port_of line.clock n))
      (for_all (λ other. other.clock ≡ q.clock → IsNearer line other q → ⊥) lines
      (λ other. where_holds (ℕ_discrete other.clock q.clock) (denied (nearer_dec line other q))))))
    where
      refuted : ((p q : PortIdentity) → Joins g p q → p ≡ port_of line.clock n → (other : SystemLine)
          → In other lines → other.clock ≡ q.clock → IsNearer line other q → ⊥)
          → (m : StatesMaster g lines line n) → StatesSteps lines m.other.clock m.there → ⊥
      refuted h m (other, at, c, e) = h (port_of line.clock n) m.other m.joins refl other at c
          (subst (λ d. (line.steps < d) ⊎ ((line.steps ≡ d) × (line.clock < m.other.clock))) (sym e) m.nearer)

  -- a link is at the port
  abbrev pub sure_linked : (p : PortIdentity) → Sure (IsLinked g p)
  sure_linked p = so (λ (q, joins, u). (q, joins)) (for_end g p (λ q. Unit {0}) (λ q. (true, λ e. tt)))

  -- each role is the stated one
  abbrev pub sure_role : Sure (PassesRole g lines)
  sure_role = so (λ h line port at i. h line at port i)
      (for_all (λ line. (port : PortLine) → In port line.ports → HasStatedRole g lines line port.number port.role) lines
      (λ line. for_all (λ port. HasStatedRole g lines line port.number port.role) line.ports
      (λ port. has_role line port.number port.role)))
    where
      has_role : (line : SystemLine) (n : ℕ) (role : Role) → Sure (HasStatedRole g lines line n role)
      has_role line n Disabled =
          so (λ h (q, joins). h (port_of line.clock n) q joins refl)
          (for_links g (λ p q. p ≡ port_of line.clock n → ⊥)
          (λ p q. denied (PortIdentity-dec p (port_of line.clock n))))
      has_role line n Slave = both (sure_linked (port_of line.clock n)) (slave_port line n)
      has_role line n Master =
          so (λ h. (h.0, h.1.0, h.1.1)) (both (sure_linked (port_of line.clock n))
          (both (no_slave_port line n) (master_port line n)))
      has_role line n Passive =
          so (λ h. (h.0, h.1.0, h.1.1)) (both (sure_linked (port_of line.clock n))
          (both (no_slave_port line n) (no_master_port line n)))

  -- the lines pass the local tests
  abbrev pub sure_passes : Sure (PassesLocalTests g lines)
  sure_passes = so (λ ((systems, (root, steps)), (((parent, link), (identity, tie)), role)). record {
    systems = systems;
    root = root;
    steps = steps;
    parent = parent;
    link = link;
    identity = identity;
    tie = tie;
    role = role;
  })
      (both (both sure_systems (both sure_root sure_steps_stated))
      (both (both (both sure_parent sure_link) (both sure_identity sure_tie)) sure_role))
