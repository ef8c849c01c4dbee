-- A tree that a loss moves falls back: what is known of each state since, and of what each of its systems holds.
use Rattle.std.proofs.Common.{◌≡◌, ◌≢◌, ◌⊎◌, ◌<◌, ◌≤◌, ◌+◌, ◌*◌, ◌++◌, ℕ, suc, true, List, [], ◌∷◌, Some, slice_get, sym, ap, subst, ◌∙◌, inl, inr, arith}
use native.Mathlib.Decide.{dec_le, ℕ_discrete}
use Rattle.gptp_lists.specs.Members.{In}
use Rattle.gptp_lists.proofs.SystemSpecLemmas.{In-parts}
use Rattle.gptp_graph.specs.Best.{IsBest}
use Rattle.gptp_graph.specs.Order.{IsLower}
use Rattle.gptp_graph.specs.Path.{IsPath, Reaches}
use Rattle.gptp_graph.specs.Distance.{IsDistance}
use Rattle.gptp_graph.specs.Snapshot.{Adjacent, IsLinked, Joins, PortIdentity, Snapshot, System, clocks, port_of}
use Rattle.gptp_graph.proofs.BestLemmas.{IsBest-unique}
use Rattle.gptp_graph.proofs.DistanceLemmas.{IsDistance-best, IsDistance-neighbour}
use Rattle.gptp_graph.proofs.ExistenceLemmas.{distance_exists}
use Rattle.gptp_graph.proofs.LinkLemmas.{Adjacent-clock, Adjacent-sym, Joins-sym}
use Rattle.gptp_graph.proofs.PathLemmas.{Reaches-self}
use Rattle.gptp_graph.proofs.SystemLemmas.{same_identity}
use Rattle.gptp_bmca_machine.specs.AtRest.{StationIsAtRest}
use Rattle.gptp_bmca_machine.specs.Clean.{CameFits, CameOverLink, Whole}
use Rattle.gptp_bmca_machine.specs.Facts.{FollowsItself, FollowsPort, station_system}
use Rattle.gptp_bmca_machine.specs.Frame.{Announce, AnnounceFrame, Spelling}
use Rattle.gptp_bmca_machine.specs.LossLaws.{EverythingFits, IsAfterLoss}
use Rattle.gptp_bmca_machine.specs.Network.{Network}
use Rattle.gptp_bmca_machine.specs.Reacts.{IsOwn}
use Rattle.gptp_bmca_machine.specs.RestLaws.{LinkStays}
use Rattle.gptp_bmca_machine.specs.Station.{Held, HoldsAt, MachineState, Mine, Port, Received, Reception, Station}
use Rattle.gptp_bmca_machine.specs.Touch.{IsUsable}
use Rattle.gptp_bmca_machine.specs.Vectors.{path_vector}
use Rattle.gptp_bmca_machine.proofs.UnlinkedLemmas.{IsMoved, UnlinkedHoldOld}
use Rattle.gptp_bmca_machine.proofs.MovedTreeLemmas.{Around, IsBeyond, LeadsDown, MovesTree, best_beside, named, names_beyond, one_port, to_ways, ways_lives}
use Rattle.gptp_bmca_machine.proofs.LinkStepLemmas.{AtLink, lives_at}
use Rattle.gptp_bmca_machine.proofs.NearestLemmas.{came_fits, path_length, root_not_better, steps_not_fewer}
use Rattle.gptp_bmca_machine.proofs.PlaceLemmas.{same_there}
use Rattle.gptp_bmca_machine.proofs.RestLemmas.{CameBounded, IsClear, bounded, root_above, steps_above, was_itself}
use Rattle.gptp_bmca_machine.proofs.StillLemmas.{clear_at, still}
use Rattle.gptp_bmca_machine.proofs.ToldLemmas.{AllSay, HoldsTold}
use Rattle.gptp_bmca_machine.proofs.TraceLemmas.{whole_on, whole_own}

-- ---- the stages of a link of the tree

-- What is told over the link since is of what is left, and whoever hears it can use it.
pub record IsNewTold (g : Snapshot) (from : PortIdentity) (u : ℕ) (a : Announce) : Type 0 where
  pub source : a.source ≡ from
  pub whole : Whole g from.clock a
  pub usable : IsUsable u a

-- What is held is of what is left, and so is what is on its way, or it names whoever hears it.
pub record IsFree (says : Spelling) (g : Snapshot) (v u : ℕ) (held : Held) (fs : List AnnounceFrame) : Type 0 where
  pub hears : (r : Reception) → held ≡ Received r → Whole g v r.said
  pub flight : AllSay says (λ a. Whole g v a ⊎ In u a.path) fs

-- it has this root, over so many steps
abbrev pub HasChoice : Station → System → ℕ → Type 0
HasChoice s best far = (s.root ≡ best.identity) × (s.steps ≡ far)

pub choice_dec : (s : Station) (best : System) (far : ℕ) → Dec (HasChoice s best far)
choice_dec s best far = elim (ℕ_discrete s.root best.identity) [
  | no other ↦ no (λ h. other h.0)
  | yes root ↦ elim (ℕ_discrete s.steps far) [ no other ↦ no (λ h. other h.1) | yes steps ↦ yes (root, steps) ]
]

-- whoever stands there has them, or it hasn't
abbrev pub IsOld : Network → MachineState → ℕ → System → ℕ → Type 0
IsOld n w v best far = (s : Station) → slice_get w.stations (n.place v) ≡ Some s → HasChoice s best far

abbrev pub HasLeft : Network → MachineState → ℕ → System → ℕ → Type 0
HasLeft n w v best far = (s : Station) → slice_get w.stations (n.place v) ≡ Some s → HasChoice s best far → ⊥

-- by this time a system of this depth tells what is left
abbrev pub falls_by : Network → ℕ → ℕ → ℕ
falls_by n start deep = start + deep * n.most

-- A link down the tree leads from a system that has the root of before, and tells it; or has left that root, and what
-- it tells since is on its way to one that holds what was told before; or that has heard it.
abbrev pub IsLed : Spelling → Network → System → ℕ → ℕ → ℕ → ℕ → ℕ → MachineState → Type 0
IsLed says n best far v p u q w = IsOld n w v best far × LinkStays says (still n far best v p u q) w

abbrev pub IsLeft : Spelling → Snapshot → Network → System → ℕ → ℕ → ℕ → ℕ → ℕ → ℕ → MachineState → Type 0
IsLeft says ways n best far last v p u q w =
    HasLeft n w v best far
    × AtLink says n v p u q
    (HoldsTold says (still n far best v p u q) (IsNewTold ways (port_of v (suc p)) u) last) w

abbrev pub IsFreeAt : Spelling → Snapshot → Network → ℕ → ℕ → ℕ → ℕ → MachineState → Type 0
IsFreeAt says ways n v p u q w = AtLink says n v p u q (IsFree says ways v u) w

-- what the port at its end holds is of what is left
abbrev pub HoldsLeft : Spelling → Snapshot → Network → ℕ → ℕ → ℕ → ℕ → MachineState → Type 0
HoldsLeft says ways n v p u q w =
    AtLink says n v p u q (λ held fs. (r : Reception) → held ≡ Received r → Whole ways v r.said) w

abbrev pub DownStage : Spelling → Snapshot → Network → System → ℕ → ℕ → ℕ → ℕ → ℕ → ℕ → MachineState → Type 0
DownStage says ways n best far last v p u q w =
    IsLed says n best far v p u q w
    ⊎ (IsLeft says ways n best far last v p u q w ⊎ (HasLeft n w v best far × IsFreeAt says ways n v p u q w))

-- What is known of each state since: it is calm, and all fits the snapshot of before. What moved systems hold at ports
-- without a link was told before.
pub record IsAftermath (says : Spelling) (g : Snapshot) (n : Network) (w : MachineState) : Type 0 where
  pub kept : IsAfterLoss n w
  pub fits : EverythingFits says g n w
  pub dark : UnlinkedHoldOld g n w

module _ (says : Spelling) (g : Snapshot) (n : Network) (Tree : ℕ → Type 0) (Out : ℕ → ℕ → Type 0) (top : ℕ)
    (best next : System) (base : ℕ) (depth : ℕ → ℕ) (t : MovesTree g n Tree Out top best next base depth) (start : ℕ)
  where
    -- Each link that leads down is at one of its stages, and over each link to a system from one beyond it comes what
    -- is of what is left. The system at the top has its old choice until that time at most.
    pub record IsFalling (w : MachineState) : Type 0 where
      pub sooner : Tree top → IsOld n w top best (base + depth top) → w.time ≤ start
      pub down : (v p u q : ℕ) → Tree v → Joins n.graph (port_of v (suc p)) (port_of u (suc q))
          → LeadsDown g Tree Out base depth v u
          → DownStage says t.ways n best (base + depth v) (falls_by n start (suc (depth v))) v p u q w
      pub up : (v p u q : ℕ) → Tree u → Joins n.graph (port_of v (suc p)) (port_of u (suc q)) → IsBeyond Tree Out depth
          u
          v
          → IsFreeAt says t.ways n v p u q w

    -- ---- what one system holds

    -- an Announce tells the root of before, over so many steps
    abbrev pub HasTold : Announce → ℕ → Type 0
    HasTold a far = (a.root ≡ best.identity) × (a.steps ≡ far)

    -- what a port of the system received came over its link: it is of what is left, or what was told before
    pub record HeldOverLink (x i : ℕ) (r : Reception) : Type 0 where
      pub v : ℕ
      pub p : ℕ
      pub joins : Joins n.graph (port_of v (suc p)) (port_of x (suc i))
      pub source : r.said.source ≡ port_of v (suc p)
      pub said : Whole t.ways v r.said
          ⊎ (Tree v × (depth x ≡ suc (depth v)) × HasTold r.said (base + depth v))

    -- or it came over a lost link to the system at the top, and was told before
    pub record HeldAtTop (x i : ℕ) (r : Reception) : Type 0 where
      pub is_top : x ≡ top
      pub bare : IsLinked n.graph (port_of x (suc i)) → ⊥
      pub root : r.said.root ≡ best.identity
      pub steps : suc r.said.steps ≡ base + depth x

    abbrev pub HeldInTree : ℕ → ℕ → Reception → Type 0
    HeldInTree x i r = HeldOverLink x i r ⊎ HeldAtTop x i r

    -- it came over its link, and is of what is left
    pub record HeldFree (x i : ℕ) (r : Reception) : Type 0 where
      pub v : ℕ
      pub p : ℕ
      pub joins : Joins n.graph (port_of v (suc p)) (port_of x (suc i))
      pub source : r.said.source ≡ port_of v (suc p)
      pub whole : Whole t.ways v r.said

    -- a nearer system told it over the link at this port
    pub record IsToldByNearer (x i : ℕ) (r : Reception) : Type 0 where
      pub v : ℕ
      pub p : ℕ
      pub joins : Joins n.graph (port_of v (suc p)) (port_of x (suc i))
      pub in_v : Tree v
      pub deeper : depth x ≡ suc (depth v)
      pub told : HasTold r.said (base + depth v)

    -- or the system is at the top, and the link at this port is lost
    pub record IsToldAtTop (x i : ℕ) : Type 0 where
      pub is_top : x ≡ top
      pub bare : IsLinked n.graph (port_of x (suc i)) → ⊥

    -- it isn't at the top
    pub told_nearer : (x i d : ℕ) (r : Reception) → depth x ≡ suc d → IsToldByNearer x i r ⊎ IsToldAtTop x i
        → IsToldByNearer x i r
    told_nearer x i d r deep (inl above) = above
    told_nearer x i d r deep (inr lost) =
        let none = ap depth lost.is_top ∙ t.first in absurd (omega (arith, none, deep))

    -- a system of the tree is moved
    pub is_moved : (x : ℕ) → Tree x → IsMoved g n x
    is_moved x in_x unmoved = elim (t.worse x in_x) [
      | inl less ↦
          let one = ap (λ (b : System). b.identity)
          (IsBest-unique n.graph x best next t.well (unmoved.best best (t.was_best x in_x)) (t.best_now x in_x)) in
          omega (arith, less, one)
      | inr (same, more) ↦
          let far = more (base + depth x) (t.far_now x (base + depth x) (inl in_x) (unmoved.far (base + depth x)
          (t.was x in_x))) in
          omega (arith, far)
    ]

    abbrev pub HoldsInTree : ℕ → MachineState → Type 0
    HoldsInTree x w = (s : Station) (i : ℕ) (r : Reception) → slice_get w.stations (n.place x) ≡ Some s
        → HoldsAt s i r → HeldInTree x i r

    lives_then : (v : ℕ) → In v (clocks n.graph) → In v (clocks t.ways)
    lives_then = ways_lives g n Tree Out top best next base depth t

    -- what is of what is left and comes to a system of the tree isn't what was told to it before, nor better
    pub whole_new : (x v : ℕ) (a : Announce) → Tree x → Adjacent n.graph x v → Whole t.ways v a
        → (best.identity < a.root) ⊎ ((a.root ≡ best.identity) × (base + depth x ≤ a.steps))
    whole_new x v a in_x joined whole = elim (t.worse x in_x) [
      | inl less ↦ inl (omega (arith, less, least))
      | inr (same, more) ↦ elim (dec_le a.root next.identity) [
        | no above ↦ inl (let one = ap (λ (b : System). b.identity) same in omega (arith, above, one))
        | yes below ↦
            let root : a.root ≡ next.identity = omega (arith, below, least) in
            let one = ap (λ (b : System). b.identity) same in
            let (far, here) = distance_exists t.ways x t.ways_well (lives_then x (t.lives x in_x)) in
            let (near, there) = distance_exists t.ways v t.ways_well (Adjacent-clock t.ways x v t.ways_well over) in
            let by = IsDistance-neighbour t.ways v x near far t.ways_well (Adjacent-sym t.ways x v over) there here in
            let few = steps_not_fewer t.ways t.ways_well v a whole next is_next v near (inl (λ i. v)) is_next there
            root in
            let farther = more far here in
            inr (root ∙ sym one, omega (arith, by, few, farther))
      ]
    ]
      where
        over : Adjacent t.ways x v
        over = to_ways g n Tree Out top best next base depth t x v joined

        is_next : IsBest t.ways v next
        is_next = best_beside g n Tree Out top best next base depth t x v in_x joined

        least : next.identity ≤ a.root
        least = root_not_better t.ways t.ways_well v a whole next is_next

    -- what a system of the tree tells of what is left is worse than what it told before
    pub own_new : (v : ℕ) (a : Announce) → Tree v → Whole t.ways v a
        → (best.identity < a.root) ⊎ ((a.root ≡ best.identity) × (base + depth v < a.steps))
    own_new v a in_v whole = elim (t.worse v in_v) [
      | inl less ↦ inl (omega (arith, less, least))
      | inr (same, more) ↦ elim (dec_le a.root next.identity) [
        | no above ↦ inl (let one = ap (λ (b : System). b.identity) same in omega (arith, above, one))
        | yes below ↦
            let root : a.root ≡ next.identity = omega (arith, below, least) in
            let one = ap (λ (b : System). b.identity) same in
            let (far, here) = distance_exists t.ways v t.ways_well (lives_then v (t.lives v in_v)) in
            let few = steps_not_fewer t.ways t.ways_well v a whole next is_next v far (inl (λ i. v)) is_next here
            root in
            let farther = more far here in
            inr (root ∙ sym one, omega (arith, few, farther))
      ]
    ]
      where
        is_next : IsBest t.ways v next
        is_next = t.is_best v in_v

        least : next.identity ≤ a.root
        least = root_not_better t.ways t.ways_well v a whole next is_next

    -- what was told before isn't of what is left
    pub not_free_old : (v x p i : ℕ) (a : Announce) → Tree x → Joins n.graph (port_of v (suc p)) (port_of x (suc i))
        → Whole t.ways v a → depth x ≡ suc (depth v) → HasTold a (base + depth v) → ⊥
    not_free_old v x p i a in_x joins whole deeper (root, steps) =
        elim (whole_new x v a in_x (suc i, suc p, Joins-sym n.graph (port_of v (suc p)) (port_of x (suc i)) joins)
        whole) [
          | inl over ↦ omega (arith, over, root)
          | inr (same, many) ↦ omega (arith, many, steps, deeper)
        ]

    module _ (w : MachineState) (m : IsAftermath says g n w) (x : ℕ) (in_x : Tree x) (s : Station)
        (at : slice_get w.stations (n.place x) ≡ Some s) where
      pub is_x : (s.live ≡ true) × (s.clock ≡ x)
      is_x = lives_at n w m.kept.calm x (t.lives x in_x) s at

      pub rest : StationIsAtRest s
      rest = (m.kept.calm.stations (n.place x) s at is_x.0).at_rest

      pub known : In (station_system s) n.graph.systems
      known = (m.kept.calm.facts.stations (n.place x) s at is_x.0).known

      known_then : In (station_system s) t.ways.systems
      known_then = t.ways_stand (station_system s) known

      -- it is clear in the snapshot of before
      pub was_clear : IsClear g s
      was_clear = clear_at g n t.well t.left w m.kept m.fits.stations (n.place x) s at is_x.0

      pub was_best : IsBest g s.clock best
      was_best = subst (λ c. IsBest g c best) (sym is_x.1) (t.was_best x in_x)

      above : best.identity ≤ s.root
      above = root_above g t.left.graph s was_clear best was_best

      -- nor are its steps fewer than they were
      as_many : s.root ≡ best.identity → base + depth x ≤ s.steps
      as_many root =
          steps_above g t.left.graph s was_clear best was_best (base + depth x)
          (subst (λ c. IsDistance g c (base + depth x)) (sym is_x.1) (t.was x in_x)) root

      -- who holds what was told before has that choice
      pub old_by_steps : (i : ℕ) (r : Reception) → HoldsAt s i r → r.said.root ≡ best.identity
          → suc r.said.steps ≡ base + depth x → HasChoice s best (base + depth x)
      old_by_steps i r holds root steps = elim (dec_le s.root best.identity) [
        | no more ↦ absurd (not_lower (inl (omega (arith, more, root))))
        | yes most ↦
            let same : s.root ≡ best.identity = omega (arith, most, above) in
            let many = as_many same in
            elim (dec_le s.steps (base + depth x)) [
              | yes few ↦ (same, omega (arith, few, many))
              | no more ↦ absurd (not_lower (inr (root ∙ sym same, inl (omega (arith, more, steps)))))
            ]
      ]
        where
          not_lower : IsLower (path_vector r.said (suc i)) (s.root ∷ s.steps ∷ rest.source) → ⊥
          not_lower h = rest.held_not_lower i r holds (subst (IsLower (path_vector r.said (suc i))) (sym rest.is) h)

      pub old_by_held : (i v : ℕ) (r : Reception) → HoldsAt s i r → depth x ≡ suc (depth v)
          → HasTold r.said (base + depth v) → HasChoice s best (base + depth x)
      old_by_held i v r holds deeper (root, steps) = old_by_steps i r holds root (omega (arith, steps, deeper))

      -- it is the root of before no more where it is its own
      own_not_old : s.root ≡ s.identity → s.steps ≡ 0 → HasChoice s best (base + depth x) → ⊥
      own_not_old own none (root, steps) = elim (t.worse x in_x) [
        | inl less ↦
            let least = (t.is_best x in_x).least (station_system s) known_then
            (subst (Reaches t.ways x) (sym is_x.1) (Reaches-self t.ways x (lives_then x (t.lives x in_x)))) in
            absurd (omega (arith, least, less, own, root))
        | inr (same, more) ↦
            let one = same_identity t.ways next (station_system s) t.ways_well (t.is_best x in_x).live known_then
            (ap (λ (b : System). b.identity) (sym same) ∙ sym root ∙ own) in
            let clock : next.clock ≡ x = ap (λ (b : System). b.clock) one ∙ is_x.1 in
            let here = subst (λ c. IsDistance t.ways c 0) clock
            (IsDistance-best t.ways next (subst (λ c. IsBest t.ways c next) (sym clock) (t.is_best x in_x))) in
            let far = more 0 here in
            absurd (omega (arith, far))
      ]

      module _ (holds_in : HoldsInTree x w) where
        -- who has left its old choice holds what is of what is left alone
        pub free_holds : (HasChoice s best (base + depth x) → ⊥) → (i : ℕ) (r : Reception) → HoldsAt s i r
            → HeldFree x i r
        free_holds not i r holds = elim (holds_in s i r at holds) [
          | inr lost ↦ absurd (not (old_by_steps i r holds lost.root lost.steps))
          | inl h ↦ elim h.said [
            | inl whole ↦ record { v = h.v; p = h.p; joins = h.joins; source = h.source; whole = whole }
            | inr (in_v, deeper, told) ↦ absurd (not (old_by_held i h.v r holds deeper told))
          ]
        ]

        -- it fits
        pub free_fits : (HasChoice s best (base + depth x) → ⊥) → (i : ℕ) (r : Reception) → HoldsAt s i r
            → CameFits t.ways s.clock (suc i) r
        free_fits not i r holds =
            let h = free_holds not i r holds in
            came_fits t.ways s.clock (suc i) r t.ways_well (record {
              from = port_of h.v (suc h.p);
              joins = t.ways_left.links (port_of h.v (suc h.p)) (port_of s.clock (suc i))
                  (subst (λ c. Joins n.graph (port_of h.v (suc h.p)) (port_of c (suc i))) (sym is_x.1) h.joins);
              source = h.source;
              sound = inr h.whole;
            })

        pub free_clear : (HasChoice s best (base + depth x) → ⊥) → IsClear t.ways s
        free_clear not = record {
          rest = rest;
          known = was_itself t.ways (station_system s) known_then;
          held = λ i r holds. bounded t.ways s.clock (suc i) r (free_fits not i r holds);
        }

        -- and by what is left it is clear
        pub clear_left : (HasChoice s best (base + depth x) → ⊥) → IsClear n.graph s
        clear_left not =
            record { rest = rest; known = was_itself n.graph (station_system s) known; held = bounded_left }
          where
            is_best : (b : System) → IsBest n.graph s.clock b → IsBest t.ways s.clock b
            is_best b is =
                let one = IsBest-unique n.graph x next b t.well (t.best_now x in_x)
                (subst (λ c. IsBest n.graph c b) is_x.1 is) in
                subst (λ c. IsBest t.ways c b) (sym is_x.1) (subst (IsBest t.ways x) one (t.is_best x in_x))

            far_now : (v far : ℕ) → Around Tree Out v → IsDistance n.graph v far → IsDistance t.ways v far
            far_now = t.far_now

            bounded_left : (i : ℕ) (r : Reception) → HoldsAt s i r → CameBounded n.graph s.clock (suc i) r
            bounded_left i r holds = record {
              over = λ linked. over_link linked.0 linked.1;
              root = λ b is. fits.fits.root b (is_best b is);
              here = λ b far is root there. fits.fits.here b far (is_best b is) root
                  (subst (λ c. IsDistance t.ways c far) (sym is_x.1)
                  (far_now x far (inl in_x) (subst (λ c. IsDistance n.graph c far) is_x.1 there)));
            }
              where
                fits : CameFits t.ways s.clock (suc i) r
                fits = free_fits not i r holds

                over_link : (u : PortIdentity) → Joins n.graph (port_of s.clock (suc i)) u
                    → CameOverLink n.graph s.clock (suc i) r.said
                over_link u joined = record {
                  from = u;
                  joins = Joins-sym n.graph (port_of s.clock (suc i)) u joined;
                  source = came.source ∙ same;
                  sender = λ b far is root there. came.sender b far (is_best b is) root
                      (subst (λ (k : PortIdentity). IsDistance t.ways k.clock far) (sym same)
                      (far_now u.clock far beside there));
                }
                  where
                    joins_ways : Joins t.ways (port_of s.clock (suc i)) u
                    joins_ways = t.ways_left.links (port_of s.clock (suc i)) u joined

                    came : CameOverLink t.ways s.clock (suc i) r.said
                    came = fits.over (u, joins_ways)

                    same : came.from ≡ u
                    same =
                        t.ways_well.one_link (port_of s.clock (suc i)) came.from u
                        (Joins-sym t.ways came.from (port_of s.clock (suc i)) came.joins) joins_ways

                    beside : Around Tree Out u.clock
                    beside = elim (t.beside x u.clock in_x
                        (suc i, u.port, subst (λ c. Joins n.graph (port_of c (suc i)) u) is_x.1 joined)) [
                          | inl in_u ↦ inl in_u
                          | inr out ↦ inr (x, out)
                        ]

        -- ---- who has its old choice

        -- it follows what was told before
        pub record FollowsOld : Type 0 where
          pub i : ℕ
          pub r : Reception
          pub holds : HoldsAt s i r
          pub slave : s.slave ≡ Some (suc i)
          pub told : IsToldByNearer x i r ⊎ IsToldAtTop x i

        pub follows_old : HasChoice s best (base + depth x) → FollowsOld
        follows_old old = elim rest.chosen [
          | inl (own, none) ↦
              let is = rest.is in
              let identity : s.root ≡ s.identity = cc in
              let steps : s.steps ≡ 0 = cc in
              absurd (own_not_old identity steps old)
          | inr (i, r, holds, path, slave) ↦ by i r holds path slave
        ]
          where
            by : (i : ℕ) (r : Reception) → HoldsAt s i r → rest.vector ≡ path_vector r.said (suc i)
                → s.slave ≡ Some (suc i) → FollowsOld
            by i r holds path slave = elim (holds_in s i r at holds) [
              | inr lost ↦ record {
                i = i;
                r = r;
                holds = holds;
                slave = slave;
                told = inr (record { is_top = lost.is_top; bare = lost.bare });
              }
              | inl h ↦ elim h.said [
                | inl whole ↦ absurd (elim (whole_new x h.v r.said in_x
                    (suc i, suc h.p, Joins-sym n.graph (port_of h.v (suc h.p)) (port_of x (suc i)) h.joins) whole) [
                      | inl over ↦ omega (arith, over, root_r, old.0)
                      | inr (same, many) ↦ omega (arith, many, steps_r, old.1)
                    ])
                | inr (in_v, deeper, told) ↦ record {
                  i = i;
                  r = r;
                  holds = holds;
                  slave = slave;
                  told = inl (record {
                    v = h.v;
                    p = h.p;
                    joins = h.joins;
                    in_v = in_v;
                    deeper = deeper;
                    told = told;
                  });
                }
              ]
            ]
              where
                root_r : r.said.root ≡ s.root
                root_r = let is = rest.is in let e : r.said.root ≡ s.root = cc in e

                steps_r : suc r.said.steps ≡ s.steps
                steps_r = let is = rest.is in let e : suc r.said.steps ≡ s.steps = cc in e

        -- ---- what it says

        module _ (not : HasChoice s best (base + depth x) → ⊥) (number : ℕ) (a : Announce) (own : IsOwn s number a)
          where
            follows : FollowsItself s ⊎ FollowsPort s
            follows = (m.kept.calm.facts.stations (n.place x) s at is_x.0).follows

            no_loop : (i : ℕ) (r : Reception) → HoldsAt s i r → In x r.said.path → ⊥
            no_loop i r holds names =
                ((m.kept.calm.facts.stations (n.place x) s at is_x.0).held i r holds).no_loop
                (subst (λ c. In c r.said.path) (sym is_x.1) names)

            -- it is of what is left
            pub says_whole : Whole t.ways x a
            says_whole = by follows
              where
                by : FollowsItself s ⊎ FollowsPort s → Whole t.ways x a
                by (inl itself) =
                    subst (λ c. Whole t.ways c a) is_x.1
                    (whole_own t.ways (station_system s) a known_then (own.root ∙ itself.root)
                    (own.steps ∙ itself.steps)
                    (own.path ∙ itself.trace))
                by (inr port) =
                    let h = free_holds not port.place port.r port.holds in
                    whole_on t.ways x h.v port.r.said a h.whole (lives_then x (t.lives x in_x)) (to_ways g n Tree Out
                    top best next
                    base depth t x h.v (
                      suc port.place,
                      suc h.p,
                      Joins-sym n.graph (port_of h.v (suc h.p)) (port_of x (suc port.place))
                          h.joins,
                    ))
                    (no_loop port.place port.r port.holds) (own.root ∙ port.root) (own.steps ∙ port.steps)
                    (own.path ∙ subst (λ c. s.trace ≡ port.r.said.path ++ c ∷ []) is_x.1 port.trace)

            -- and whoever is beyond it can use it
            module _ (p u q : ℕ) (joins : Joins n.graph (port_of x (suc p)) (port_of u (suc q)))
                (beyond : IsBeyond Tree Out depth x u) (pv : Port) (there : slice_get s.ports p ≡ Some pv) (root steps :
                ℕ)
                (mine : pv.held ≡ Mine root steps) where
              apart : x ≢ u
              apart = t.well.apart (port_of x (suc p)) (port_of u (suc q)) joins

              -- what it follows came from another
              not_from : (port : FollowsPort s) → (free_holds not port.place port.r port.holds).v ≢ u
              not_from port same =
                  let h = free_holds not port.place port.r port.holds in
                  let back : Joins n.graph (port_of u (suc h.p)) (port_of x (suc port.place)) =
                  subst (λ c. Joins n.graph (port_of c (suc h.p)) (port_of x (suc port.place))) same h.joins in
                  let here = Joins-sym n.graph (port_of u (suc h.p)) (port_of x (suc port.place)) back in
                  let number_x : suc port.place ≡ suc p =
                  one_port g n Tree Out top best next base depth t x u in_x beyond (suc port.place) (suc p) (suc h.p)
                  (suc
                  q)
                  here joins in
                  let place : port.place ≡ p = omega (arith, number_x) in
                  let same_port = same_there s.ports p port.holds.0 pv
                  (subst (λ i. slice_get s.ports i ≡ Some port.holds.0) place port.holds.1) there in
                  absurd (let both : Mine root steps ≡ Received port.r =
                  sym mine ∙ ap (λ (z : Port). z.held) (sym same_port) ∙ port.holds.2 in cc)

              names_not : FollowsItself s ⊎ FollowsPort s → In u a.path → ⊥
              names_not (inl itself) names =
                  elim (subst (In u) (own.path ∙ itself.trace) names) [
                    | inl same ↦ apart (sym is_x.1 ∙ sym same)
                    | inr none ↦ none
                  ]
              names_not (inr port) names =
                  elim (In-parts u port.r.said.path (s.clock ∷ []) (subst (In u) (own.path ∙ port.trace) names)) [
                    | inl among ↦
                        let h = free_holds not port.place port.r port.holds in
                        names_beyond g n Tree Out top best next base depth t x u in_x beyond (suc p, suc q, joins) h.v
                        port.r.said (
                          suc port.place,
                          suc h.p,
                          Joins-sym n.graph (port_of h.v (suc h.p)) (port_of x (suc port.place)) h.joins,
                        ) (not_from port)
                        h.whole (no_loop port.place port.r port.holds) among
                    | inr (inl same) ↦ apart (sym is_x.1 ∙ sym same)
                    | inr (inr none) ↦ none
                  ]

              -- its way goes on to whoever is beyond it
              way_on : (whole : Whole t.ways x a) → IsPath t.ways u whole.first.clock (x ∷ whole.others)
              way_on whole = record {
                begins = Adjacent-clock t.ways x u t.ways_well
                    (to_ways g n Tree Out top best next base depth t x u (suc p, suc q, joins));
                route = (
                  to_ways g n Tree Out top best next base depth t u x (
                    suc q,
                    suc p,
                    Joins-sym n.graph (port_of x (suc p)) (port_of u (suc q)) joins,
                  ),
                  whole.way.route,
                );
                different = (
                  (λ among. names_not follows (named t.ways x a whole u among)),
                  whole.way.different,
                );
              }

              pub says_usable : IsUsable u a
              says_usable =
                  let whole = says_whole in
                  let short = t.paths u whole.first.clock (x ∷ whole.others) (way_on whole) in
                  let steps_are = whole.steps in
                  let long = path_length t.ways t.ways_well x a whole next (t.is_best x in_x) in
                  let few = t.few in
                  record {
                    foreign = λ same. apart (sym (ap (λ (z : PortIdentity). z.clock) own.source ∙ is_x.1) ∙ same);
                    near = omega (arith, short, steps_are, few);
                    no_loop = names_not follows;
                    short = omega (arith, long, short, steps_are, few);
                  }
