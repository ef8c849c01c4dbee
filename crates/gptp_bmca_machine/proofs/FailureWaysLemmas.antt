-- The ways of what is told since a system failed: those of before, but for links between the failed system and the top
-- of a tree.
use Rattle.std.proofs.Common.{◌≡◌, ◌⊎◌, ◌≤◌, ℕ, List, [], ◌∷◌, sym, subst, inl, inr}
use native.Mathlib.Decide.{ℕ_discrete}
use Rattle.gptp_lists.specs.Members.{In}
use Rattle.gptp_graph.specs.Path.{Route}
use Rattle.gptp_graph.specs.PathBound.{BoundsPaths}
use Rattle.gptp_graph.specs.Snapshot.{Adjacent, IsWellFormed, Joins, Link, PortIdentity, Snapshot, clocks, port_of}
use Rattle.gptp_graph.proofs.LinkLemmas.{Joins-clock, Joins-sym}
use Rattle.gptp_bmca_machine.specs.CutTree.{LosesSystem}
use Rattle.gptp_bmca_machine.specs.LossLaws.{IsWhatIsLeft}
use Rattle.gptp_bmca_machine.specs.Network.{Network}
use Rattle.gptp_bmca_machine.specs.TurnTree.{HasWays}
use Rattle.gptp_bmca_machine.proofs.RestLemmas.{left_of}

-- ---- links but for those between two systems

IsBetween : ℕ → ℕ → Link → Type 0
IsBetween x y l = ((l.a.clock ≡ x) × (l.b.clock ≡ y)) ⊎ ((l.a.clock ≡ y) × (l.b.clock ≡ x))

both_dec : (a b x y : ℕ) → Dec ((a ≡ x) × (b ≡ y))
both_dec a b x y = elim (ℕ_discrete a x) [
  | no other ↦ no (λ h. other h.0)
  | yes first ↦ elim (ℕ_discrete b y) [ no other ↦ no (λ h. other h.1) | yes second ↦ yes (first, second) ]
]

between_dec : (x y : ℕ) (l : Link) → Dec (IsBetween x y l)
unfolding IsBetween
between_dec x y l = elim (both_dec l.a.clock l.b.clock x y) [
  | yes is ↦ yes (inl is)
  | no not ↦ elim (both_dec l.a.clock l.b.clock y x) [
    | yes is ↦ yes (inr is)
    | no neither ↦ no (λ h. elim h [ inl is ↦ not is | inr is ↦ neither is ])
  ]
]

pick : {P : Type 0} → Dec P → Link → List Link → List Link
pick (yes is) l ls = ls
pick (no not) l ls = l ∷ ls

from_pick : {P : Type 0} (d : Dec P) (l m : Link) (ls : List Link) → In m (pick d l ls)
    → In m ls ⊎ ((m ≡ l) × (P → ⊥))
unfolding pick
from_pick (yes is) l m ls at = inl at
from_pick (no not) l m ls (inl same) = inr (same, not)
from_pick (no not) l m ls (inr at) = inl at

to_pick : {P : Type 0} (d : Dec P) (l m : Link) (ls : List Link) → In m ls ⊎ ((m ≡ l) × (P → ⊥))
    → In m (pick d l ls)
unfolding pick
to_pick (yes is) l m ls (inl at) = at
to_pick (yes is) l m ls (inr (same, not)) = absurd (not is)
to_pick (no not) l m ls (inl at) = inr at
to_pick (no not) l m ls (inr (same, other)) = inl same

but : ℕ → ℕ → List Link → List Link
but x y [] = []
but x y (l ∷ ls) = pick (between_dec x y l) l (but x y ls)

from_but : (x y : ℕ) (m : Link) (ls : List Link) → In m (but x y ls) → In m ls × (IsBetween x y m → ⊥)
unfolding but
from_but x y m [] none = absurd none
from_but x y m (l ∷ ls) at = elim (from_pick (between_dec x y l) l m (but x y ls) at) [
  | inl among ↦ let (there, not) = from_but x y m ls among in (inr there, not)
  | inr (same, not) ↦ (inl same, (λ is. not (subst (IsBetween x y) same is)))
]

to_but : (x y : ℕ) (m : Link) (ls : List Link) → In m ls → (IsBetween x y m → ⊥) → In m (but x y ls)
unfolding but
to_but x y m [] none not = absurd none
to_but x y m (l ∷ ls) (inl same) not =
    to_pick (between_dec x y l) l m (but x y ls) (inr (same, (λ is. not (subst (IsBetween x y) (sym same) is))))
to_but x y m (l ∷ ls) (inr among) not =
    to_pick (between_dec x y l) l m (but x y ls) (inl (to_but x y m ls among not))

-- ---- a snapshot without them

pub ways_but : Snapshot → ℕ → ℕ → Snapshot
ways_but g x y = record { systems = g.systems; links = but x y g.links }

module _ (g : Snapshot) (x y : ℕ) where
  abbrev AreEnds : PortIdentity → PortIdentity → Type 0
  AreEnds p q = ((p.clock ≡ x) × (q.clock ≡ y)) ⊎ ((p.clock ≡ y) × (q.clock ≡ x))

  from_ways : (p q : PortIdentity) → Joins (ways_but g x y) p q → Joins g p q × (AreEnds p q → ⊥)
  unfolding ways_but IsBetween
  from_ways p q (inl at) = let (there, not) = from_but x y (record { a = p; b = q }) g.links at in (inl there, not)
  from_ways p q (inr at) =
      let (there, not) = from_but x y (record { a = q; b = p }) g.links at in (
        inr there,
        λ is. not (elim is [ inl (a, b) ↦ inr (b, a) | inr (a, b) ↦ inl (b, a) ]),
      )

  to_ways : (p q : PortIdentity) → Joins g p q → (AreEnds p q → ⊥) → Joins (ways_but g x y) p q
  unfolding ways_but IsBetween
  to_ways p q (inl at) not = inl (to_but x y (record { a = p; b = q }) g.links at not)
  to_ways p q (inr at) not =
      inr (to_but x y (record { a = q; b = p }) g.links at
      (λ is. not (elim is [ inl (a, b) ↦ inr (b, a) | inr (a, b) ↦ inl (b, a) ])))

  ways_well : IsWellFormed g → IsWellFormed (ways_but g x y)
  unfolding ways_but
  ways_well well = record {
    different = well.different;
    identified = well.identified;
    ends = λ p q joins. well.ends p q (from_ways p q joins).0;
    one_link = λ p q r one two. well.one_link p q r (from_ways p q one).0 (from_ways p r two).0;
    apart = λ p q joins. well.apart p q (from_ways p q joins).0;
  }

  route_was : (v end : ℕ) (us : List ℕ) → Route (ways_but g x y) v end us → Route g v end us
  route_was v end [] here = here
  route_was v end (u ∷ us) ((i, k, joins), route) =
      ((i, k, (from_ways (port_of v i) (port_of u k) joins).0), route_was u end us route)

  ways_paths : (m : ℕ) → BoundsPaths g m → BoundsPaths (ways_but g x y) m
  unfolding ways_but
  ways_paths m bounds v end us path =
      bounds v end us
      (record { begins = path.begins; route = route_was v end us path.route; different = path.different })

-- ---- where a system failed

module _ (g : Snapshot) (n : Network) (well : IsWellFormed n.graph) (left : IsWhatIsLeft g n) (lost top : ℕ)
    (loses : LosesSystem g n lost) (tree : List ℕ) (in_top : In top tree)
    (lives : (v : ℕ) → In v tree → In v (clocks n.graph))
    (beside : (v : ℕ) → In v tree → Adjacent g v lost → v ≡ top) where
  pub failure_ways : (m : ℕ) → BoundsPaths g m → m ≤ 256 → HasWays g n tree (ways_but g top lost)
  unfolding ways_but
  failure_ways m bounds few = record {
    well = ways_well g top lost left.graph;
    left = left_of (ways_but g top lost) n (ways_well g top lost left.graph) loses.systems (λ p q joins.
        to_ways g top lost p q (left.links p q joins) (λ is. elim is [
          | inl (a, b) ↦ loses.dead (subst (λ c. In c (clocks n.graph)) b
              (Joins-clock n.graph q p well (Joins-sym n.graph p q joins)))
          | inr (a, b) ↦ loses.dead (subst (λ c. In c (clocks n.graph)) a (Joins-clock n.graph p q well joins))
        ]));
    were = left_of g (record n { graph = ways_but g top lost }) left.graph (λ s known. known)
        (λ p q joins. (from_ways g top lost p q joins).0);
    stands = loses.systems;
    stood = λ s known. known;
    at_tree = λ v i q in_v joins. at_tree v i q in_v (from_ways g top lost (port_of v i) q joins);
    reach = m;
    paths = ways_paths g top lost m bounds;
    few = few;
  }
    where
      at_tree : (v i : ℕ) (q : PortIdentity) → In v tree
          → Joins g (port_of v i) q × (AreEnds g top lost (port_of v i) q → ⊥) → Joins n.graph (port_of v i) q
      at_tree v i q in_v (joins, not) = elim (loses.others q.clock
          (Joins-clock g q (port_of v i) left.graph (Joins-sym g (port_of v i) q joins))) [
            | inl live ↦ loses.links (port_of v i) q joins (lives v in_v) live
            | inr is_lost ↦
                let is_top = beside v in_v (
                  i,
                  q.port,
                  subst (λ c. Joins g (port_of v i) (port_of c q.port)) is_lost
                      joins,
                ) in
                absurd (not (inl (is_top, is_lost)))
          ]

  -- links between systems outside the tree carry on
  pub outside_ways : (v u : ℕ) → (In v tree → ⊥) → (In u tree → ⊥) → Adjacent g v u → Adjacent (ways_but g top lost) v u
  outside_ways v u out_v out_u (i, k, joins) = (
    i,
    k,
    to_ways g top lost (port_of v i) (port_of u k) joins (λ is. elim is [
      | inl (is_top, is_lost) ↦ out_v (subst (λ c. In c tree) (sym is_top) in_top)
      | inr (is_lost, is_top) ↦ out_u (subst (λ c. In c tree) (sym is_top) in_top)
    ]),
  )
