-- A tree of systems that the loss of a link moves, with one way out of it at most: what doesn't pass a system doesn't
-- come to those below it.
use Rattle.std.proofs.Common.{◌≡◌, ◌≢◌, ◌⊎◌, ◌<◌, ◌≤◌, ◌+◌, ℕ, zero, suc, List, [], ◌∷◌, reverse, sym, ap, subst, ◌∙◌, inl, inr, arith}
use Rattle.std.proofs.lemmas.List.{reverse-reverse}
use Rattle.gptp_lists.specs.Members.{In, Different}
use Rattle.gptp_lists.proofs.ReverseLemmas.{In-reverse}
use Rattle.gptp_graph.specs.Best.{IsBest}
use Rattle.gptp_graph.specs.Distance.{IsDistance}
use Rattle.gptp_graph.specs.Path.{Route}
use Rattle.gptp_graph.specs.PathBound.{BoundsPaths}
use Rattle.gptp_graph.specs.Snapshot.{System, PortIdentity, Snapshot, clocks, port_of, Joins, Adjacent, IsWellFormed}
use Rattle.gptp_graph.proofs.BestLemmas.{IsBest-neighbour}
use Rattle.gptp_graph.proofs.DecisionLemmas.{in_dec}
use Rattle.gptp_graph.proofs.LinkLemmas.{Adjacent-sym, Joins-sym}
use Rattle.gptp_graph.proofs.PathLemmas.{Route-end}
use Rattle.gptp_graph.proofs.SystemLemmas.{same_clock, system_of}
use Rattle.gptp_bmca_machine.specs.Clean.{Whole}
use Rattle.gptp_bmca_machine.specs.Frame.{Announce}
use Rattle.gptp_bmca_machine.specs.LossLaws.{IsWhatIsLeft, Unmoved}
use Rattle.gptp_bmca_machine.specs.Network.{Network}
use Rattle.gptp_bmca_machine.proofs.NearestLemmas.{on_way}
use Rattle.gptp_bmca_machine.proofs.StillLemmas.{adjacent_before, live_before}

-- one of the tree, or at the end of the way out
abbrev pub Around : (ℕ → Type 0) → (ℕ → ℕ → Type 0) → ℕ → Type 0
Around Tree Out u = Tree u ⊎ ((v : ℕ) × Out v u)

-- Of what is left of a snapshot these systems are moved, a tree. Each was as far from its best as its depth says, from
-- `base` on; now its best is worse, or the same and farther. The one at the top lost links, or has another identity
-- where no link leads out of the tree. Each other has one link to one that is less deep by one. One link at most leads
-- out of the tree. What is told since has its ways in a snapshot that has all that is left, and of links of the tree no
-- others; in it best and distances of the tree are the same.
pub record MovesTree (g : Snapshot) (n : Network) (Tree : ℕ → Type 0) (Out : ℕ → ℕ → Type 0) (top : ℕ)
    (best next : System) (base : ℕ) (depth : ℕ → ℕ) : Type 0 where
  pub well : IsWellFormed n.graph
  pub left : IsWhatIsLeft g n
  pub ways : Snapshot
  pub ways_well : IsWellFormed ways
  pub ways_left : IsWhatIsLeft ways n
  pub ways_stand : (s : System) → In s n.graph.systems → In s ways.systems
  pub stand : (s : System) → In s ways.systems
      → In s g.systems ⊎ ((s.clock ≡ top) × ((v u : ℕ) → Out v u → ⊥))
  pub tree_ways : (v i : ℕ) (q : PortIdentity) → Tree v → Joins ways (port_of v i) q → Joins n.graph (port_of v i) q
  pub far_now : (v far : ℕ) → Around Tree Out v → IsDistance n.graph v far → IsDistance ways v far
  pub lives : (v : ℕ) → Tree v → In v (clocks n.graph)
  pub within : (v : ℕ) → Dec (Tree v)
  pub was_best : (v : ℕ) → Tree v → IsBest g v best
  pub best_now : (v : ℕ) → Tree v → IsBest n.graph v next
  pub is_best : (v : ℕ) → Tree v → IsBest ways v next
  pub was : (v : ℕ) → Tree v → IsDistance g v (base + depth v)
  pub near : (v : ℕ) → Tree v → base + depth v < 255
  pub worse : (v : ℕ) → Tree v → (best.identity < next.identity)
      ⊎ ((best ≡ next) × ((far : ℕ) → IsDistance ways v far → base + depth v < far))
  pub first : depth top ≡ 0
  pub lost : (v u : ℕ) → Tree v → Adjacent g v u → Adjacent n.graph v u ⊎ (v ≡ top)
  pub beside : (v u : ℕ) → Tree v → Adjacent n.graph v u → Tree u ⊎ Out v u
  pub steps : (v u : ℕ) → Tree v → Tree u → Adjacent n.graph v u
      → (depth u ≡ suc (depth v)) ⊎ (depth v ≡ suc (depth u))
  pub single : (v p q : ℕ) (t u : PortIdentity) → Tree v → Tree t.clock → Tree u.clock
      → Joins n.graph (port_of v p) t → Joins n.graph (port_of v q) u
      → depth v ≡ suc (depth t.clock) → depth v ≡ suc (depth u.clock)
      → p ≡ q
  pub outside : (v u : ℕ) → Out v u → Tree u → ⊥
  pub unmoved : (v u : ℕ) → Out v u → Unmoved g n u
  pub one_out : (v u x y : ℕ) → Out v u → Out x y → v ≡ x
  pub out_port : (v p q : ℕ) (t u : PortIdentity) → Out v t.clock → Out v u.clock
      → Joins n.graph (port_of v p) t → Joins n.graph (port_of v q) u
      → p ≡ q
  pub reach : ℕ
  pub paths : BoundsPaths ways reach
  pub few : reach ≤ 256

-- one of the tree stands so many links below the other
abbrev pub IsBelowBy : (ℕ → Type 0) → Snapshot → (ℕ → ℕ) → ℕ → ℕ → ℕ → Type 0
IsBelowBy Tree g depth zero w v = w ≡ v
IsBelowBy Tree g depth (suc k) w v =
    (m : ℕ) × IsBelowBy Tree g depth k w m × Tree m × Adjacent g m v × (depth v ≡ suc (depth m))

-- it stands below, or is the same
abbrev pub IsBelow : (ℕ → Type 0) → Snapshot → (ℕ → ℕ) → ℕ → ℕ → Type 0
IsBelow Tree g depth w v = (k : ℕ) × IsBelowBy Tree g depth k w v

-- it is as deep as that says
pub below_depth : (Tree : ℕ → Type 0) (g : Snapshot) (depth : ℕ → ℕ) (k w v : ℕ) → IsBelowBy Tree g depth k w v
    → depth v ≡ k + depth w
below_depth Tree g depth zero w v same = let e = ap depth (sym same) in omega (arith, e)
below_depth Tree g depth (suc k) w v (m, below, in_m, joined, deeper) =
    let up : depth m ≡ k + depth w = below_depth Tree g depth k w m below in
    omega (arith, up, deeper)

-- the second stands below the first by one, or outside at the end of the way out
abbrev pub IsBeyond : (ℕ → Type 0) → (ℕ → ℕ → Type 0) → (ℕ → ℕ) → ℕ → ℕ → Type 0
IsBeyond Tree Out depth v u = (Tree u × (depth u ≡ suc (depth v))) ⊎ Out v u

-- and before it was farther, or as far with the higher clock
pub record LeadsDown (g : Snapshot) (Tree : ℕ → Type 0) (Out : ℕ → ℕ → Type 0) (base : ℕ) (depth : ℕ → ℕ) (v u : ℕ)
    : Type 0 where
  pub beyond : IsBeyond Tree Out depth v u
  pub far : ℕ
  pub there : IsDistance g u far
  pub farther : (base + depth v < far) ⊎ ((base + depth v ≡ far) × (v < u))

pub around : (Tree : ℕ → Type 0) (Out : ℕ → ℕ → Type 0) (depth : ℕ → ℕ) (v u : ℕ) → IsBeyond Tree Out depth v u
    → Around Tree Out u
around Tree Out depth v u (inl (in_u, deeper)) = inl in_u
around Tree Out depth v u (inr leads) = inr (v, leads)

-- a trace of before is wholly clean where its way is left, and the system that it leads to stands as it did
pub whole_left : (g h : Snapshot) → IsWellFormed g → IsWellFormed h → (v : ℕ) (a : Announce) → (whole : Whole g v a)
    → ((s : System) → In s h.systems → s.clock ≡ whole.first.clock → In s g.systems)
    → In v (clocks h) → Route h v whole.first.clock whole.others → Whole h v a
whole_left g h well well_h v a whole stands known route =
    let last = Route-end h v whole.first.clock whole.others well_h known route in
    let (s, live, clock) = system_of h whole.first.clock last in
    let one = same_clock g s whole.first well (stands s live clock) whole.known clock in
    record {
      others = whole.others;
      first = whole.first;
      is = whole.is;
      way = record { begins = known; route = route; different = whole.way.different };
      known = subst (λ (y : System). In y h.systems) one live;
      root = whole.root;
      steps = whole.steps;
    }

-- whoever stands on the way of a wholly clean trace is named by it
pub named : (g : Snapshot) (x : ℕ) (a : Announce) (whole : Whole g x a) (z : ℕ) → In z (x ∷ whole.others) → In z a.path
named g x a whole z h =
    subst (In z) (reverse-reverse a.path) (In-reverse z (reverse a.path) (subst (In z) (sym whole.is) h))

module _ (g : Snapshot) (n : Network) (Tree : ℕ → Type 0) (Out : ℕ → ℕ → Type 0) (top : ℕ) (best next : System)
    (base : ℕ) (depth : ℕ → ℕ) (t : MovesTree g n Tree Out top best next base depth) where
  -- those below a system lead down
  pub child_leads : (v u : ℕ) → Tree u → depth u ≡ suc (depth v) → LeadsDown g Tree Out base depth v u
  child_leads v u in_u deeper = record {
    beyond = inl (in_u, deeper);
    far = base + depth u;
    there = t.was u in_u;
    farther = inl (omega (arith, deeper));
  }

  -- what is left is a way, and from the tree no more is
  pub to_ways : (v u : ℕ) → Adjacent n.graph v u → Adjacent t.ways v u
  to_ways v u (i, k, joins) = (i, k, t.ways_left.links (port_of v i) (port_of u k) joins)

  pub from_ways : (v u : ℕ) → Tree v → Adjacent t.ways v u → Adjacent n.graph v u
  from_ways v u in_v (i, k, joins) = (i, k, t.tree_ways v i (port_of u k) in_v joins)

  pub ways_lives : (v : ℕ) → In v (clocks n.graph) → In v (clocks t.ways)
  ways_lives v known = live_before t.ways n t.well t.ways_left v known

  -- what a neighbour of the tree has for its best
  pub best_beside : (v u : ℕ) → Tree v → Adjacent n.graph v u → IsBest t.ways u next
  best_beside v u in_v joined =
      IsBest-neighbour t.ways v u next t.ways_well (to_ways v u joined) (t.is_best v in_v)

  -- and had
  pub was_best_beside : (v u : ℕ) → Tree v → Adjacent n.graph v u → IsBest g u best
  was_best_beside v u in_v joined =
      IsBest-neighbour g v u best t.left.graph (adjacent_before g n t.well t.left v u joined) (t.was_best v in_v)

  -- it has one neighbour in the tree that is nearer to the top
  pub one_parent : (v a b : ℕ) → Tree v → Tree a → Tree b → Adjacent n.graph v a → Adjacent n.graph v b
      → depth v ≡ suc (depth a) → depth v ≡ suc (depth b) → a ≡ b
  one_parent v a b in_v in_a in_b (p, k, joins) (q, m, joins') deeper deeper' =
      let port : p ≡ q = t.single v p q (port_of a k) (port_of b m) in_v in_a in_b joins joins' deeper deeper' in
      ap (λ (x : PortIdentity). x.clock)
      (t.well.one_link (port_of v q) (port_of a k) (port_of b m)
      (subst (λ i. Joins n.graph (port_of v i) (port_of a k)) port joins) joins')

  module _ (u w : ℕ) (joined : Adjacent n.graph u w) (in_u : Tree u) (in_w : Tree w)
      (deeper : depth w ≡ suc (depth u)) where
    -- who is below it goes on below it, but by the system above
    goes_on : (k v x : ℕ) → IsBelowBy Tree n.graph depth k w v → Tree v → Tree x → Adjacent n.graph v x → x ≢ u
        → IsBelow Tree n.graph depth w x
    goes_on k v x below in_v in_x next_to apart = elim (t.steps v x in_v in_x next_to) [
      | inl down ↦ (suc k, (v, below, in_v, next_to, down))
      | inr up ↦ by k below up
    ]
      where
        by : (k : ℕ) → IsBelowBy Tree n.graph depth k w v → depth v ≡ suc (depth x) → IsBelow Tree n.graph depth w x
        by zero same up =
            absurd (apart (one_parent v x u in_v in_x in_u next_to
            (Adjacent-sym n.graph u v (subst (Adjacent n.graph u) same joined)) up (ap depth (sym same) ∙ deeper)))
        by (suc k) (m, below_m, in_m, m_v, down) up =
            let one : m ≡ x = one_parent v m x in_v in_m in_x (Adjacent-sym n.graph m v m_v) next_to down up in
            subst (IsBelow Tree n.graph depth w) one (k, below_m)

    -- a system of the tree that isn't below; or one outside, where the way out isn't below
    abbrev IsApart : ℕ → Type 0
    IsApart v = (Tree v × (IsBelow Tree n.graph depth w v → ⊥))
        ⊎ ((Tree v → ⊥) × ((b z : ℕ) → Out b z → IsBelow Tree n.graph depth w b → ⊥))

    apart_on : (v x : ℕ) → Adjacent t.ways v x → u ≢ v → IsApart v → IsApart x
    apart_on v x next_to not_v (inl (in_v, out)) = elim (t.beside v x in_v (from_ways v x in_v next_to)) [
      | inl in_x ↦ inl (
        in_x,
        λ (k, below).
            out (goes_on k x v below in_x in_v (Adjacent-sym n.graph v x (from_ways v x in_v next_to))
            (λ same. not_v (sym same))),
      )
      | inr leads ↦ inr (
        t.outside v x leads,
        λ b z leads' below.
            out (subst (IsBelow Tree n.graph depth w) (sym (t.one_out v x b z leads leads')) below),
      )
    ]
    apart_on v x next_to not_v (inr (not, out)) = elim (t.within x) [
      | no not_x ↦ inr (not_x, out)
      | yes in_x ↦ elim (t.beside x v in_x (from_ways x v in_x (Adjacent-sym t.ways v x next_to))) [
        | inl in_v ↦ absurd (not in_v)
        | inr leads ↦ inl (in_x, out x v leads)
      ]
    ]

    not_it : (v : ℕ) → IsApart v → w ≡ v → ⊥
    not_it v (inl (in_v, out)) same = out (0, same)
    not_it v (inr (not, out)) same = not (subst Tree same in_w)

    -- a route that begins elsewhere and doesn't pass that doesn't come there
    avoids : (v end : ℕ) (us : List ℕ) → IsApart v → Route t.ways v end us → (In u (v ∷ us) → ⊥)
        → In w (v ∷ us) → ⊥
    avoids v end [] is route past (inl same) = not_it v is same
    avoids v end [] is route past (inr none) = none
    avoids v end (x ∷ us) is (next_to, route) past (inl same) = not_it v is same
    avoids v end (x ∷ us) is (next_to, route) past (inr among) =
        avoids x end us (apart_on v x next_to (λ same. past (inl same)) is) route (λ h. past (inr h)) among

    -- A way of before that begins there and doesn't pass it is one that is left, where it is from where it leaves the
    -- tree.
    pub stays_left : (end : ℕ) → ((b z : ℕ) (us : List ℕ) → Out b z → Adjacent n.graph b z → Route g z end us
        → Different (b ∷ z ∷ us) → Route t.ways z end us) → (k v : ℕ) (us : List ℕ)
        → IsBelowBy Tree n.graph depth k w v → Tree v → Route g v end us → Different (v ∷ us)
        → (In u (v ∷ us) → ⊥) → Route t.ways v end us
    stays_left end after k v [] below in_v route apart past = route
    stays_left end after k v (x ∷ us) below in_v (next_to, route) apart past = elim (t.lost v x in_v next_to) [
      | inr is_top ↦
          let deep = below_depth Tree n.graph depth k w v below in
          let none = ap depth is_top ∙ t.first in
          absurd (omega (arith, deep, none, deeper))
      | inl left ↦ elim (t.beside v x in_v left) [
        | inr leads ↦ (to_ways v x left, after v x us leads left route apart)
        | inl in_x ↦
            let (k', below') = goes_on k v x below in_v in_x left (λ same. past (inr (inl (sym same)))) in
            (to_ways v x left, stays_left end after k' x us below' in_x route apart.1 (λ h. past (inr h)))
      ]
    ]

    -- where no link leads out of the tree such a way ends below
    ends_below : ((b z : ℕ) → Out b z → ⊥) → (end k v : ℕ) (us : List ℕ) → IsBelowBy Tree n.graph depth k w v → Tree v
        → Route g v end us → (In u (v ∷ us) → ⊥) → IsBelow Tree n.graph depth w end
    ends_below none end k v [] below in_v same past = subst (IsBelow Tree n.graph depth w) same (k, below)
    ends_below none end k v (x ∷ us) below in_v (next_to, route) past = elim (t.lost v x in_v next_to) [
      | inr is_top ↦
          let deep = below_depth Tree n.graph depth k w v below in
          let zero_deep = ap depth is_top ∙ t.first in
          absurd (omega (arith, deep, zero_deep, deeper))
      | inl left ↦ elim (t.beside v x in_v left) [
        | inr leads ↦ absurd (none v x leads)
        | inl in_x ↦
            let (k', below') = goes_on k v x below in_v in_x left (λ same. past (inr (inl (sym same)))) in
            ends_below none end k' x us below' in_x route (λ h. past (inr h))
      ]
    ]

    -- so it doesn't end at the top
    not_at_top : ((b z : ℕ) → Out b z → ⊥) → (end : ℕ) (us : List ℕ) → Route g w end us → (In u (w ∷ us) → ⊥)
        → end ≡ top → ⊥
    not_at_top none end us route past is_top =
        let (k, below) = ends_below none end 0 w us (λ i. w) in_w route past in
        let deep = below_depth Tree n.graph depth k w end below in
        let zero_deep = ap depth is_top ∙ t.first in
        omega (arith, deep, zero_deep, deeper)

    -- So what comes from there over a way of before is of what is left, or names the system above.
    pub whole_or_named : (a : Announce) → (whole : Whole g w a) → ((b z : ℕ) (us : List ℕ) → Out b z
        → Adjacent n.graph b z → Route g z whole.first.clock us → Different (b ∷ z ∷ us)
        → Route t.ways z whole.first.clock us) → Whole t.ways w a ⊎ In u a.path
    whole_or_named a whole after = elim (in_dec u (w ∷ whole.others)) [
      | yes names ↦ inr (named g w a whole u names)
      | no past ↦ inl (whole_left g t.ways t.left.graph t.ways_well w a whole
          (λ s member same. elim (t.stand s member) [
            | inl stood ↦ stood
            | inr (is_top, none) ↦ absurd (not_at_top none whole.first.clock whole.others whole.way.route past
                (sym same ∙ is_top))
          ])
          (ways_lives w (t.lives w in_w))
          (stays_left whole.first.clock after 0 w whole.others (λ i. w) in_w whole.way.route whole.way.different past))
    ]

    -- what another neighbour of it says that doesn't name it doesn't name who is below it
    pub names_none : (x : ℕ) (a : Announce) → Adjacent n.graph u x → x ≢ w → Whole t.ways x a → (In u a.path → ⊥)
        → In w a.path → ⊥
    names_none x a next_to apart whole out among =
        avoids x whole.first.clock whole.others is_apart whole.way.route
        (λ h. out (named t.ways x a whole u h))
        (on_way t.ways t.ways_well x a whole next (best_beside u x in_u next_to) w among)
      where
        -- it isn't below itself
        not_above : IsBelow Tree n.graph depth w u → ⊥
        not_above (k, below) =
            let deep = below_depth Tree n.graph depth k w u below in omega (arith, deep, deeper)

        not_below : Tree x → IsBelow Tree n.graph depth w x → ⊥
        not_below in_x (zero, same) = apart (sym same)
        not_below in_x (suc k, (m, below, in_m, m_x, down)) =
            let deep = below_depth Tree n.graph depth k w m below in
            elim (t.steps u x in_u in_x next_to) [
              | inr up ↦ absurd (omega (arith, deep, down, up, deeper))
              | inl child ↦
                  let one : m ≡ u = one_parent x m u in_x in_m in_u (Adjacent-sym n.graph m x m_x)
                  (Adjacent-sym n.graph u x next_to) down child in
                  let same = ap depth one in
                  absurd (omega (arith, deep, same, deeper))
            ]

        is_apart : IsApart x
        is_apart = elim (t.beside u x in_u next_to) [
          | inl in_x ↦ inl (in_x, not_below in_x)
          | inr leads ↦ inr (
            t.outside u x leads,
            λ b z leads' below.
                not_above (subst (IsBelow Tree n.graph depth w) (sym (t.one_out u x b z leads leads')) below),
          )
        ]

  -- ---- who is beyond a system

  -- a route from the tree that doesn't pass the way out stays in the tree
  stays_in : (x u v end y : ℕ) (us : List ℕ) → Out x u → Tree v → Route t.ways v end us → (In x (v ∷ us) → ⊥)
      → In y (v ∷ us) → Tree y
  stays_in x u v end y [] leads in_v route past (inl same) = subst Tree (sym same) in_v
  stays_in x u v end y [] leads in_v route past (inr none) = absurd none
  stays_in x u v end y (a ∷ us) leads in_v (next_to, route) past (inl same) = subst Tree (sym same) in_v
  stays_in x u v end y (a ∷ us) leads in_v (next_to, route) past (inr among) = elim (t.beside v a in_v
      (from_ways v a in_v next_to)) [
        | inl in_a ↦ stays_in x u a end y us leads in_a route (λ h. past (inr h)) among
        | inr out ↦ absurd (past (inl (t.one_out x u v a leads out)))
      ]

  module _ (x u : ℕ) (in_x : Tree x) (beyond : IsBeyond Tree Out depth x u) where
    -- one link leads there
    pub one_port : (i p k q : ℕ) → Joins n.graph (port_of x i) (port_of u k)
        → Joins n.graph (port_of x p) (port_of u q) → i ≡ p
    one_port i p k q first second = elim beyond [
      | inr out ↦ t.out_port x i p (port_of u k) (port_of u q) out out first second
      | inl (in_u, deeper) ↦
          let back = Joins-sym n.graph (port_of x i) (port_of u k) first in
          let back' = Joins-sym n.graph (port_of x p) (port_of u q) second in
          let port = t.single u k q (port_of x i) (port_of x p) in_u in_x in_x back back' deeper deeper in
          ap (λ (e : PortIdentity). e.port)
          (t.well.one_link (port_of u q) (port_of x i) (port_of x p)
          (subst (λ j. Joins n.graph (port_of u j) (port_of x i)) port back) back')
    ]

    -- what another neighbour says that doesn't name the system doesn't name who is beyond it
    pub names_beyond : Adjacent n.graph x u → (y : ℕ) (a : Announce) → Adjacent n.graph x y → y ≢ u
        → Whole t.ways y a → (In x a.path → ⊥) → In u a.path → ⊥
    names_beyond joined y a next_to apart whole out among = elim beyond [
      | inl (in_u, deeper) ↦ names_none x u joined in_x in_u deeper y a next_to apart whole out among
      | inr leads ↦ elim (t.beside x y in_x next_to) [
        | inl in_y ↦ t.outside x u leads (stays_in x u y whole.first.clock u whole.others leads in_y whole.way.route
            (λ h. out (named t.ways y a whole x h))
            (on_way t.ways t.ways_well y a whole next (best_beside x y in_x next_to) u among))
        | inr leads' ↦ apart (same_out joined next_to leads leads')
      ]
    ]
      where
        same_out : Adjacent n.graph x u → Adjacent n.graph x y → Out x u → Out x y → y ≡ u
        same_out (i, k, to_u) (p, q, to_y) leads leads' =
            let port = t.out_port x p i (port_of y q) (port_of u k) leads' leads to_y to_u in
            ap (λ (e : PortIdentity). e.clock)
            (t.well.one_link (port_of x i) (port_of y q) (port_of u k)
            (subst (λ j. Joins n.graph (port_of x j) (port_of y q)) port to_y) to_u)
