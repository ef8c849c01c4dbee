-- A tree that turns by its one way out: it is moved, and the shortest ways of before from outside that don't pass it
-- are left.
use Rattle.std.proofs.Common.{◌≡◌, ◌⊎◌, ◌<◌, ◌≤◌, ◌+◌, ℕ, zero, suc, List, [], ◌∷◌, sym, ap, subst, ◌∙◌, inl, inr, arith}
use Rattle.gptp_lists.specs.Members.{In, Different}
use Rattle.gptp_graph.specs.Best.{IsBest}
use Rattle.gptp_graph.specs.Distance.{IsDistance}
use Rattle.gptp_graph.specs.Path.{IsPath, Route}
use Rattle.gptp_graph.specs.Snapshot.{System, PortIdentity, Snapshot, clocks, port_of, Joins, Adjacent}
use Rattle.gptp_graph.proofs.BestLemmas.{IsBest-neighbour}
use Rattle.gptp_graph.proofs.DecisionLemmas.{in_dec}
use Rattle.gptp_graph.proofs.DistanceLemmas.{IsDistance-best, IsDistance-neighbour, IsDistance-unique, best_at_zero, nearer_neighbour}
use Rattle.gptp_graph.proofs.ExistenceLemmas.{distance_exists}
use Rattle.gptp_graph.proofs.LinkLemmas.{Adjacent-clock, Adjacent-sym}
use Rattle.gptp_graph.proofs.PathBoundLemmas.{IsDistance-within}
use Rattle.gptp_graph.proofs.SystemLemmas.{same_identity}
use Rattle.gptp_bmca_machine.specs.Clean.{Whole}
use Rattle.gptp_bmca_machine.specs.Frame.{Announce}
use Rattle.gptp_bmca_machine.specs.LossLaws.{Unmoved}
use Rattle.gptp_bmca_machine.specs.Network.{Network}
use Rattle.gptp_bmca_machine.specs.TurnTree.{TurnsTree}
use Rattle.gptp_bmca_machine.proofs.MovedTreeLemmas.{MovesTree, named, whole_left, whole_or_named}
use Rattle.gptp_bmca_machine.proofs.StillLemmas.{adjacent_before, far_was, live_before, nearer_before}

-- it is one of these systems
abbrev pub IsOf : List ℕ → ℕ → Type 0
IsOf tree v = In v tree

-- the one way out
abbrev pub LeadsOut : ℕ → ℕ → ℕ → ℕ → Type 0
LeadsOut last out v u = (v ≡ last) × (u ≡ out)

module _ (g : Snapshot) (n : Network) (tree : List ℕ) (top other last out : ℕ) (best : System) (base : ℕ)
    (depth : ℕ → ℕ) (t : TurnsTree g n tree top other last out best base depth) where
  pub out_lives : In out (clocks n.graph)
  out_lives = Adjacent-clock n.graph last out t.well t.joined

  pub out_unmoved : Unmoved g n out
  out_unmoved = t.unmoved

  -- how far one of the tree is now
  pub near_now : (v : ℕ) → In v tree → base + depth v < 255
  near_now v in_v =
      let (far, here) = distance_exists n.graph v t.well (t.lives v in_v) in
      let within = IsDistance-within n.graph n.reach v far t.paths here in
      let more = t.farther v far in_v here in
      let few = t.few in
      omega (arith, within, more, few)

  -- ---- the best stands outside

  pub best_outside : In best.clock tree → ⊥
  best_outside in_best =
      let here = IsDistance-best n.graph best (t.is_best best.clock in_best) in
      let more = t.farther best.clock 0 in_best here in
      omega (arith, more)

  -- ---- ways since

  abbrev n_told : Network
  n_told = record n { graph = t.ways }

  -- a way that is left is one by which something may be told since, and that was one before
  path_on : (v end : ℕ) (us : List ℕ) → IsPath n.graph v end us → IsPath t.ways v end us
  path_on v end us path = record {
    begins = live_before t.ways n t.well t.told.left v path.begins;
    route = go v us path.route;
    different = path.different;
  }
    where
      go : (v : ℕ) (us : List ℕ) → Route n.graph v end us → Route t.ways v end us
      go v [] here = here
      go v (u ∷ us) (joined, route) = (adjacent_before t.ways n t.well t.told.left v u joined, go u us route)

  path_was : (v end : ℕ) (us : List ℕ) → IsPath t.ways v end us → IsPath g v end us
  path_was v end us path = record {
    begins = live_before g n_told t.told.well t.told.were v path.begins;
    route = go v us path.route;
    different = path.different;
  }
    where
      go : (v : ℕ) (us : List ℕ) → Route t.ways v end us → Route g v end us
      go v [] here = here
      go v (u ∷ us) (joined, route) = (adjacent_before g n_told t.told.well t.told.were v u joined, go u us route)

  -- by them the best of the tree is the same
  pub best_told : (v : ℕ) → In v tree → IsBest t.ways v best
  best_told v in_v = record {
    live = t.told.stands best (t.is_best v in_v).live;
    reached = (
      (t.is_best v in_v).reached.0,
      path_on v best.clock (t.is_best v in_v).reached.0 (t.is_best v in_v).reached.1,
    );
    least = λ s known (us, path).
        (t.was_best v in_v).least s (t.told.stood s known) (us, path_was v s.clock us path);
  }

  joined_told : Adjacent t.ways last out
  joined_told = adjacent_before t.ways n t.well t.told.left last out t.joined

  joined_before : Adjacent g last out
  joined_before = adjacent_before g n t.well t.left last out t.joined

  pub out_was_best : IsBest g out best
  out_was_best = IsBest-neighbour g last out best t.left.graph joined_before (t.was_best last t.in_last)

  out_best : IsBest n.graph out best
  out_best = IsBest-neighbour n.graph last out best t.well t.joined (t.is_best last t.in_last)

  out_best_told : IsBest t.ways out best
  out_best_told = IsBest-neighbour t.ways last out best t.told.well joined_told (best_told last t.in_last)

  -- and so are distances of the end of the way out
  pub out_told : (far : ℕ) → IsDistance n.graph out far → IsDistance t.ways out far
  out_told far here = go (distance_exists t.ways out t.told.well
      (live_before t.ways n t.well t.told.left out out_lives))
    where
      go : ((e : ℕ) × IsDistance t.ways out e) → IsDistance t.ways out far
      go (e, there) =
          let was = far_was g n t.well t.left out far out_unmoved here in
          let least = nearer_before g n_told t.told.well t.told.were e out far best out_was_best out_best_told
          there was in
          let most = nearer_before t.ways n t.well t.told.left far out e best out_best_told out_best here there in
          subst (IsDistance t.ways out) (let same : e ≡ far = omega (arith, least, most) in same) there

  -- and of the tree
  at_least : (e v far : ℕ) → In v tree → IsDistance t.ways v e → IsDistance n.graph v far → far ≤ e
  at_least zero v far in_v there here =
      absurd (best_outside (subst (λ c. In c tree) (sym
      (best_at_zero t.ways v best t.told.well (best_told v in_v) there))
      in_v))
  at_least (suc e) v far in_v there here =
      go (λ x far' in_x. at_least e x far' in_x) (nearer_neighbour t.ways v e t.told.well there)
    where
      go : ((x far' : ℕ) → In x tree → IsDistance t.ways x e → IsDistance n.graph x far' → far' ≤ e)
          → ((x : ℕ) × Adjacent t.ways v x × IsDistance t.ways x e) → far ≤ suc e
      go ih (x, (i, k, joins), is) = elim (t.leaves v x in_v joined) [
        | inl in_x ↦ within (distance_exists n.graph x t.well (t.lives x in_x)) in_x
        | inr (is_last, is_out) ↦ beyond (distance_exists n.graph out t.well out_lives) is_out
      ]
        where
          joined : Adjacent n.graph v x
          joined = (i, k, t.told.at_tree v i (port_of x k) in_v joins)

          within : ((far' : ℕ) × IsDistance n.graph x far') → In x tree → far ≤ suc e
          within (far', now) in_x =
              let less = ih x far' in_x is now in
              let by = IsDistance-neighbour n.graph x v far' far t.well (Adjacent-sym n.graph v x joined) now here in
              omega (arith, less, by)

          beyond : ((far' : ℕ) × IsDistance n.graph out far') → x ≡ out → far ≤ suc e
          beyond (far', now) is_out =
              let same = IsDistance-unique t.ways out e far' t.told.well (subst (λ c. IsDistance t.ways c e) is_out is)
              (out_told far' now) in
              let by = IsDistance-neighbour n.graph out v far' far t.well
              (Adjacent-sym n.graph v out (subst (Adjacent n.graph v) is_out joined)) now here in
              omega (arith, same, by)

  pub far_told : (v far : ℕ) → In v tree → IsDistance n.graph v far → IsDistance t.ways v far
  far_told v far in_v here = go (distance_exists t.ways v t.told.well (live_before t.ways n t.well t.told.left v
      (t.lives v in_v)))
    where
      go : ((e : ℕ) × IsDistance t.ways v e) → IsDistance t.ways v far
      go (e, there) =
          let least = at_least e v far in_v there here in
          let most = nearer_before t.ways n t.well t.told.left far v e best (best_told v in_v) (t.is_best v in_v) here
          there in
          subst (IsDistance t.ways v) (let same : e ≡ far = omega (arith, least, most) in same) there

  pub farther_told : (v far : ℕ) → In v tree → IsDistance t.ways v far → base + depth v < far
  farther_told v far in_v there = go (distance_exists n.graph v t.well (t.lives v in_v))
    where
      go : ((e : ℕ) × IsDistance n.graph v e) → base + depth v < far
      go (e, here) =
          let more = t.farther v e in_v here in
          let same = IsDistance-unique t.ways v e far t.told.well (far_told v e in_v here) there in
          omega (arith, more, same)

  -- it is moved
  abbrev pub turns_moves : MovesTree g n (IsOf tree) (LeadsOut last out) top best best base depth
  turns_moves = record {
    well = t.well;
    left = t.left;
    ways = t.ways;
    ways_well = t.told.well;
    ways_left = t.told.left;
    ways_stand = t.told.stands;
    stand = λ s member. inl (t.told.stood s member);
    tree_ways = t.told.at_tree;
    far_now = λ v far around here. elim around [
      | inl in_v ↦ far_told v far in_v here
      | inr (x, (is, to)) ↦
          subst (λ c. IsDistance t.ways c far) (sym to) (out_told far (subst (λ c. IsDistance n.graph c far) to here))
    ];
    lives = t.lives;
    within = λ v. in_dec v tree;
    was_best = t.was_best;
    best_now = t.is_best;
    is_best = best_told;
    was = t.was;
    near = near_now;
    worse = λ v in_v. inr ((λ i. best), λ far there. farther_told v far in_v there);
    first = t.first;
    lost = λ v u in_v joined. elim (t.lost v u in_v joined) [ inl is ↦ inl is | inr (is, to) ↦ inr is ];
    beside = t.leaves;
    steps = t.steps;
    single = t.single;
    outside = λ v u (is, to) in_u. t.outside (subst (λ c. In c tree) to in_u);
    unmoved = λ v u (is, to). subst (Unmoved g n) (sym to) out_unmoved;
    one_out = λ v u x y (is, to) (is', to'). is ∙ sym is';
    out_port = λ v p q a b (is, to) (is', to') first second.
        t.one_way p q a.port b.port (ends v p a is to first) (ends v q b is' to' second);
    reach = t.told.reach;
    paths = t.told.paths;
    few = t.told.few;
  }
    where
      ends : (v p : ℕ) (a : PortIdentity) → v ≡ last → a.clock ≡ out → Joins n.graph (port_of v p) a
          → Joins n.graph (port_of last p) (port_of out a.port)
      ends v p a is to joins =
          subst (λ c. Joins n.graph (port_of last p) (port_of c a.port)) to
          (subst (λ c. Joins n.graph (port_of c p) a) is joins)

  -- ---- ways of before

  -- a way within the tree that passes neither the way out nor the link that was lost ends in it
  stuck : (x end : ℕ) (us : List ℕ) → In x tree → Route g x end us → (In last (x ∷ us) → ⊥) → (In other us → ⊥)
      → In end tree
  stuck x end [] in_x route past lost = subst (λ c. In c tree) route in_x
  stuck x end (y ∷ us) in_x (next_to, route) past lost = elim (t.lost x y in_x next_to) [
    | inr (is_top, is_other) ↦ absurd (lost (inl (sym is_other)))
    | inl left ↦ elim (t.leaves x y in_x left) [
      | inr (is_last, is_out) ↦ absurd (past (inl (sym is_last)))
      | inl in_y ↦ stuck y end us in_y route (λ h. past (inr h)) (λ h. lost (inr h))
    ]
  ]

  -- A way of before from outside the tree to its best, which passes no system twice and not the way out, is
  -- one by which something may be told since.
  pub way_left : (v : ℕ) (us : List ℕ) → (In v tree → ⊥) → Route g v best.clock us → Different (v ∷ us)
      → (In last (v ∷ us) → ⊥) → Route t.ways v best.clock us
  way_left v [] out_v route apart past = route
  way_left v (x ∷ us) out_v (next_to, route) apart past = elim (in_dec x tree) [
    | no out_x ↦ (t.kept v x out_v out_x next_to, way_left x us out_x route apart.1 (λ h. past (inr h)))
    | yes in_x ↦ absurd (enters in_x)
  ]
    where
      enters : In x tree → ⊥
      enters in_x = elim (t.lost x v in_x (Adjacent-sym g v x next_to)) [
        | inl left ↦ elim (t.leaves x v in_x left) [
          | inl in_v ↦ out_v in_v
          | inr (is_last, is_out) ↦ past (inr (inl (sym is_last)))
        ]
        | inr (is_top, is_other) ↦ best_outside (stuck x best.clock us in_x route (λ h. past (inr h))
            (λ h. apart.0 (inr (subst (λ c. In c us) (sym is_other) h))))
      ]

  -- so what the end of the way out says of its best is of what is left, or names the system at the other end
  pub out_whole : (a : Announce) → Whole g out a → a.root ≡ best.identity → Whole t.ways out a ⊎ In last a.path
  out_whole a whole root = elim (in_dec last (out ∷ whole.others)) [
    | yes names ↦ inr (named g out a whole last names)
    | no past ↦ inl (whole_left g t.ways t.left.graph t.told.well out a whole
        (λ s member same. t.told.stood s member)
        (live_before t.ways n t.well t.told.left out out_lives)
        (subst (λ c. Route t.ways out c whole.others) (sym clock)
        (way_left out whole.others t.outside (subst (λ c. Route g out c whole.others) clock whole.way.route)
        whole.way.different past)))
  ]
    where
      clock : whole.first.clock ≡ best.clock
      clock =
          ap (λ (s : System). s.clock)
          (same_identity g whole.first best t.left.graph whole.known out_was_best.live (sym whole.root ∙ root))

  -- and so is what comes to a system from one below it, or it names it
  pub up_whole : (v u : ℕ) (a : Announce) → In v tree → In u tree → Adjacent n.graph u v
      → depth v ≡ suc (depth u) → Whole g v a → a.root ≡ best.identity → Whole t.ways v a ⊎ In u a.path
  up_whole v u a in_v in_u joined higher whole root =
      whole_or_named g n (IsOf tree) (LeadsOut last out) top best best base depth turns_moves u v joined in_u in_v
      higher a whole after
    where
      clock : whole.first.clock ≡ best.clock
      clock =
          ap (λ (s : System). s.clock)
          (same_identity g whole.first best t.left.graph whole.known (t.was_best v in_v).live (sym whole.root ∙ root))

      after : (b z : ℕ) (us : List ℕ) → LeadsOut last out b z → Adjacent n.graph b z
          → Route g z whole.first.clock us → Different (b ∷ z ∷ us) → Route t.ways z whole.first.clock us
      after b z us (is_last, is_out) left route apart =
          subst (λ c. Route t.ways z c us) (sym clock)
          (way_left z us (λ in_z. t.outside (subst (λ c. In c tree) is_out in_z))
          (subst (λ c. Route g z c us) clock route) apart.1
          (λ h. apart.0 (subst (λ c. In c (z ∷ us)) (sym is_last) h)))

  -- ---- distances

  -- none of the tree is nearer than the way out leads
  pub beyond_out : (e v d : ℕ) → In v tree → IsDistance n.graph v e → IsDistance n.graph out d → suc d ≤ e
  beyond_out zero v d in_v here there = let more = t.farther v 0 in_v here in absurd (omega (arith, more))
  beyond_out (suc e) v d in_v here there = go (λ x in_x is. beyond_out e x d in_x is there)
      (nearer_neighbour n.graph v e t.well here)
    where
      go : ((x : ℕ) → In x tree → IsDistance n.graph x e → suc d ≤ e)
          → ((x : ℕ) × Adjacent n.graph v x × IsDistance n.graph x e) → suc d ≤ suc e
      go ih (x, next_to, is) = elim (t.leaves v x in_v next_to) [
        | inl in_x ↦ let by = ih x in_x is in omega (arith, by)
        | inr (is_last, is_out) ↦
            let same = IsDistance-unique n.graph out e d t.well (subst (λ c. IsDistance n.graph c e) is_out is) there in
            omega (arith, same)
      ]
