-- A tree that the loss of a link cuts off is moved by it, without a way out.
use Rattle.std.proofs.Common.{◌≡◌, ◌⊎◌, ℕ, suc, ap, subst, inl, inr, arith}
use native.Mathlib.Decide.{ℕ_discrete}
use Rattle.gptp_lists.specs.Members.{In}
use Rattle.gptp_graph.specs.Best.{IsBest}
use Rattle.gptp_graph.specs.Snapshot.{System, Snapshot, clocks, Adjacent}
use Rattle.gptp_graph.proofs.BestLemmas.{IsBest-neighbour, IsBest-unique}
use Rattle.gptp_graph.proofs.DecisionLemmas.{in_dec}
use Rattle.gptp_graph.proofs.ExistenceLemmas.{best_exists}
use Rattle.gptp_bmca_machine.specs.Clean.{Whole}
use Rattle.gptp_bmca_machine.specs.CutTree.{CutsOff, CutsTree}
use Rattle.gptp_bmca_machine.specs.Frame.{Announce}
use Rattle.gptp_bmca_machine.specs.Network.{Network}
use Rattle.gptp_bmca_machine.proofs.MovedTreeLemmas.{MovesTree, whole_or_named}
use Rattle.gptp_bmca_machine.proofs.SoundLemmas.{nothing_lost}

-- its systems are those whose best is another then
abbrev pub IsCutOff : Network → System → ℕ → Type 0
IsCutOff n next v = IsBest n.graph v next

-- no link leads out of it
abbrev pub LeadsNowhere : ℕ → ℕ → Type 0
LeadsNowhere v u = ⊥

module _ (g : Snapshot) (n : Network) (top : ℕ) (best next : System) (base : ℕ) (depth : ℕ → ℕ)
    (t : CutsOff g n top best next base depth) where
  -- whether a system is one of the tree
  pub off_dec : (v : ℕ) → In v (clocks n.graph) → Dec (IsBest n.graph v next)
  off_dec v known = go (best_exists n.graph v t.well known)
    where
      go : ((b : System) × IsBest n.graph v b) → Dec (IsBest n.graph v next)
      go (b, is) = elim (ℕ_discrete b.clock next.clock) [
        | no other ↦ no (λ h. other (ap (λ (x : System). x.clock) (IsBest-unique n.graph v b next t.well is h)))
        | yes same ↦ elim (ℕ_discrete b.identity next.identity) [
          | no other ↦ no (λ h. other (ap (λ (x : System). x.identity) (IsBest-unique n.graph v b next t.well is h)))
          | yes one ↦ elim (ℕ_discrete b.ports next.ports) [
            | no other ↦ no (λ h. other (ap (λ (x : System). x.ports) (IsBest-unique n.graph v b next t.well is h)))
            | yes ports ↦ yes (subst (IsBest n.graph v)
                (λ i. record { clock = same i; identity = one i; ports = ports i }) is)
          ]
        ]
      ]

  -- a link from it leads to another of it
  pub beside : (v u : ℕ) → Adjacent n.graph v u → IsBest n.graph v next → IsBest n.graph u next
  beside v u joined in_v = IsBest-neighbour n.graph v u next t.well joined in_v

  -- it is moved
  abbrev pub moves_off : MovesTree g n (IsCutOff n next) LeadsNowhere top best next base depth
  moves_off = record {
    well = t.well;
    left = t.left;
    ways = n.graph;
    ways_well = t.well;
    ways_left = nothing_lost n t.well;
    ways_stand = λ s member. member;
    stand = λ s member. elim (t.stand s member) [
      | inl stood ↦ inl stood
      | inr is_top ↦ inr (is_top, λ v u none. none)
    ];
    tree_ways = λ v i q in_v joins. joins;
    far_now = λ v far around here. here;
    lives = λ v in_v. in_v.reached.1.begins;
    within = λ v. elim (in_dec v (clocks n.graph)) [
      | no dead ↦ no (λ is. dead is.reached.1.begins)
      | yes known ↦ off_dec v known
    ];
    was_best = t.was_best;
    best_now = λ v in_v. in_v;
    is_best = λ v in_v. in_v;
    was = t.was;
    near = t.near;
    worse = λ v in_v. inl t.worse;
    first = t.first;
    lost = t.lost;
    beside = λ v u in_v joined. inl (beside v u joined in_v);
    steps = λ v u in_v in_u joined. t.steps v u in_v joined;
    single = λ v p q to u in_v in_t in_u first second deeper deeper'.
        t.single v p q to u first second deeper deeper';
    outside = λ v u none in_u. none;
    unmoved = λ v u none. absurd none;
    one_out = λ v u x y none other. absurd none;
    out_port = λ v p q to u none. absurd none;
    reach = n.reach;
    paths = t.paths;
    few = let few = t.few in omega (arith, few);
  }

  -- what comes to a system from below is of what is left, or names it
  pub off_whole : (v u : ℕ) (a : Announce) → IsCutOff n next v → IsCutOff n next u → Adjacent n.graph u v
      → depth v ≡ suc (depth u) → Whole g v a → Whole n.graph v a ⊎ In u a.path
  off_whole v u a in_v in_u joined higher whole =
      whole_or_named g n (IsCutOff n next) LeadsNowhere top best next base depth moves_off u v joined in_u in_v higher
      a whole (λ b z us none. absurd none)

module _ (g : Snapshot) (n : Network) (top : ℕ) (best next : System) (base : ℕ) (depth : ℕ → ℕ)
    (t : CutsTree g n top best next base depth) where
  -- it is one whatever becomes of others
  pub cuts_off : CutsOff g n top best next base depth
  cuts_off = record {
    well = t.well;
    left = t.left;
    stand = t.stand;
    worse = t.worse;
    was_best = t.was_best;
    was = t.was;
    near = t.near;
    deep = t.deep;
    first = t.first;
    lost = t.lost;
    steps = t.steps;
    single = t.single;
    paths = t.paths;
    few = t.few;
  }

  -- whether a system is one of the tree
  pub tree_dec : (v : ℕ) → In v (clocks n.graph) → Dec (IsBest n.graph v next)
  tree_dec = off_dec g n top best next base depth cuts_off

  abbrev pub moves_tree : MovesTree g n (IsCutOff n next) LeadsNowhere top best next base depth
  moves_tree = moves_off g n top best next base depth cuts_off

  pub cut_whole : (v u : ℕ) (a : Announce) → IsCutOff n next v → IsCutOff n next u → Adjacent n.graph u v
      → depth v ≡ suc (depth u) → Whole g v a → Whole n.graph v a ⊎ In u a.path
  cut_whole = off_whole g n top best next base depth cuts_off
