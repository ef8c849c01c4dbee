-- A tree that lost what was above it at its tops: some of its systems still tell the root of before, which is stale.
-- What each of them holds, chooses and says.
use Rattle.std.proofs.lemmas.List.{length-append}
use Rattle.std.proofs.Common.{◌≡◌, ◌≢◌, ◌⊎◌, ◌<◌, ◌≤◌, ◌+◌, ◌++◌, ℕ, suc, true, List, [], ◌∷◌, Some, length, slice_get, sym, ap, subst, ◌∙◌, inl, inr, arith}
use native.Mathlib.Decide.{dec_le, ℕ_discrete}
use Rattle.gptp_lists.specs.Members.{In}
use Rattle.gptp_lists.proofs.SystemSpecLemmas.{In-parts}
use Rattle.gptp_graph.specs.Order.{IsLower}
use Rattle.gptp_graph.specs.Path.{Reaches}
use Rattle.gptp_graph.specs.Snapshot.{System, PortIdentity, port_of, Joins, IsLinked}
use Rattle.gptp_graph.proofs.LinkDecisions.{IsLinked-dec}
use Rattle.gptp_graph.proofs.LinkLemmas.{Joins-sym}
use Rattle.gptp_graph.proofs.PathLemmas.{Reaches-self}
use Rattle.gptp_bmca_machine.specs.AtRest.{StationIsAtRest}
use Rattle.gptp_bmca_machine.specs.Clean.{CameFits, Whole}
use Rattle.gptp_bmca_machine.specs.Facts.{FollowsItself, FollowsPort, IsLiveStationState, station_system}
use Rattle.gptp_bmca_machine.specs.Frame.{Announce, AnnounceFrame, Spelling}
use Rattle.gptp_bmca_machine.specs.LossLaws.{IsAfterLoss}
use Rattle.gptp_bmca_machine.specs.Network.{Network, network_setting}
use Rattle.gptp_bmca_machine.specs.Reacts.{IsOwn}
use Rattle.gptp_bmca_machine.specs.Station.{Held, HoldsAt, MachineState, Mine, Port, Received, Reception, Station}
use Rattle.gptp_bmca_machine.specs.TwoTops.{Side, IsTreeOfTops}
use Rattle.gptp_bmca_machine.specs.Vectors.{path_vector}
use Rattle.gptp_bmca_machine.proofs.FallLemmas.{IsNewTold}
use Rattle.gptp_bmca_machine.proofs.LevelLemmas.{places_of}
use Rattle.gptp_bmca_machine.proofs.LinkStepLemmas.{AtLink, lives_at}
use Rattle.gptp_bmca_machine.proofs.NearestLemmas.{came_fits, path_length, root_not_better}
use Rattle.gptp_bmca_machine.proofs.PlaceLemmas.{same_there}
use Rattle.gptp_bmca_machine.proofs.RestLemmas.{IsClear, bounded, was_itself}
use Rattle.gptp_bmca_machine.proofs.ToldLemmas.{AllSay}
use Rattle.gptp_bmca_machine.proofs.TraceLemmas.{whole_on, whole_own}
use Rattle.gptp_bmca_machine.proofs.TwoTopsLemmas.{IsDeeper, Tree, beside, names_none, one_down}

module _ (says : Spelling) (n : Network) (next : System) (top : Side → ℕ) (depth : Side → ℕ → ℕ)
    (t : IsTreeOfTops n next top depth) (old base : ℕ) (worse : old < next.identity) where
  -- Told by v to a system below it, seen from a top, it has the stale root, over as many steps as lead from there to v.
  -- Its trace has one member more, and of the tree none that is deeper than v.
  pub record IsStale (v u : ℕ) (a : Announce) : Type 0 where
    pub side : Side
    pub deeper : IsDeeper depth side v u
    pub root : a.root ≡ old
    pub steps : a.steps ≡ base + depth side v
    pub long : length a.path ≡ suc a.steps
    pub names : (y : ℕ) → Tree n next top depth t y → In y a.path → depth side y ≤ depth side v

  -- it is of what is left, or stale
  abbrev pub IsSaid : ℕ → ℕ → Announce → Type 0
  IsSaid v u a = Whole n.graph v a ⊎ IsStale v u a

  -- What a port holds came over its link and is so, and what is on its way there is so, or names who hears it.
  pub record IsMixed (v p u : ℕ) (held : Held) (fs : List AnnounceFrame) : Type 0 where
    pub source : (r : Reception) → held ≡ Received r → r.said.source ≡ port_of v (suc p)
    pub hears : (r : Reception) → held ≡ Received r → IsSaid v u r.said
    pub sent : AllSay says (λ a. a.source ≡ port_of v (suc p)) fs
    pub flight : AllSay says (λ a. IsSaid v u a ⊎ In u a.path) fs

  abbrev pub IsMixedAt : ℕ → ℕ → ℕ → ℕ → MachineState → Type 0
  IsMixedAt v p u q w = AtLink says n v p u q (IsMixed v p u) w

  -- what the port holds alone
  abbrev pub HoldsMixed : ℕ → ℕ → ℕ → ℕ → MachineState → Type 0
  HoldsMixed v p u q w = AtLink says n v p u q (λ held fs. (r : Reception) → held ≡ Received r
      → (r.said.source ≡ port_of v (suc p)) × IsSaid v u r.said) w

  -- what a top holds that was told before over a lost link
  pub record IsStaleAtTop (x : ℕ) (r : Reception) : Type 0 where
    pub side : Side
    pub is_top : x ≡ top side
    pub root : r.said.root ≡ old
    pub steps : suc r.said.steps ≡ base
    pub long : length r.said.path ≡ suc r.said.steps
    pub names : (y : ℕ) → Tree n next top depth t y → In y r.said.path → ⊥

  -- at a port without a link a system of the tree holds such things alone
  abbrev pub BareHoldStale : MachineState → Type 0
  BareHoldStale w = (x : ℕ) (s : Station) (i : ℕ) (r : Reception) → Tree n next top depth t x
      → slice_get w.stations (n.place x) ≡ Some s → HoldsAt s i r
      → (IsLinked n.graph (port_of x (suc i)) → ⊥)
      → IsStaleAtTop x r

  -- in a step a port without a link doesn't come to hold something where it held nothing
  abbrev pub BareDrop : MachineState → MachineState → Type 0
  BareDrop w w' = (x : ℕ) (s s' : Station) (i : ℕ) (r' : Reception) → Tree n next top depth t x
      → slice_get w.stations (n.place x) ≡ Some s → slice_get w'.stations (n.place x) ≡ Some s'
      → (IsLinked n.graph (port_of x (suc i)) → ⊥) → HoldsAt s' i r'
      → (r : Reception) × HoldsAt s i r

  -- what is of what is left has a worse root
  pub whole_worse : (v : ℕ) (a : Announce) → Tree n next top depth t v → Whole n.graph v a → old < a.root
  whole_worse v a in_v whole =
      let least = root_not_better n.graph t.well v a whole next in_v in omega (arith, worse, least)

  -- ---- one system

  -- what a port of it received over its link
  pub record HeldOver (x i : ℕ) (r : Reception) : Type 0 where
    pub v : ℕ
    pub p : ℕ
    pub joins : Joins n.graph (port_of v (suc p)) (port_of x (suc i))
    pub in_v : Tree n next top depth t v
    pub source : r.said.source ≡ port_of v (suc p)
    pub said : IsSaid v x r.said

  -- or, at a top, where its link is lost
  pub record HeldBare (x i : ℕ) (r : Reception) : Type 0 where
    pub bare : IsLinked n.graph (port_of x (suc i)) → ⊥
    pub stale : IsStaleAtTop x r

  module _ (w : MachineState) (kept : IsAfterLoss n w) (dark : BareHoldStale w) (x : ℕ)
      (in_x : Tree n next top depth t x) (over : (v p i : ℕ)
      → Joins n.graph (port_of v (suc p)) (port_of x (suc i)) → HoldsMixed v p x i w) (s : Station)
      (at : slice_get w.stations (n.place x) ≡ Some s) where
    pub is_x : (s.live ≡ true) × (s.clock ≡ x)
    is_x = lives_at n w kept.calm x in_x.reached.1.begins s at

    pub facts : IsLiveStationState (network_setting n) w.time s
    facts = kept.calm.facts.stations (n.place x) s at is_x.0

    pub rest : StationIsAtRest s
    rest = (kept.calm.stations (n.place x) s at is_x.0).at_rest

    -- its identity is no better than the best's
    own_worse : old < s.identity
    own_worse =
        let least = in_x.least (station_system s) facts.known
        (subst (Reaches n.graph x) (sym is_x.1) (Reaches-self n.graph x in_x.reached.1.begins)) in
        omega (arith, worse, least)

    pub held_over : (i : ℕ) (r : Reception) → HoldsAt s i r → HeldOver x i r ⊎ HeldBare x i r
    held_over i r (q, there, holds) = elim (IsLinked-dec n.graph (port_of x (suc i))) [
      | no none ↦
          inr (record { bare = none; stale = dark x s i r in_x at (q, there, holds) none })
      | yes (to, joins) ↦ inl (by to joins (places_of n.graph x (suc i) to.clock to.port t.well joins))
    ]
      where
        by : (to : PortIdentity) → Joins n.graph (port_of x (suc i)) to
            → ((a : ℕ) × (p : ℕ) × (suc i ≡ suc a) × (to.port ≡ suc p)) → HeldOver x i r
        by to joins (a, p, first, second) = record {
          v = to.clock;
          p = p;
          joins = back;
          in_v = beside n next top depth t x to.clock in_x (suc i, to.port, joins);
          source = is.0;
          said = is.1;
        }
          where
            back : Joins n.graph (port_of to.clock (suc p)) (port_of x (suc i))
            back =
                Joins-sym n.graph (port_of x (suc i)) (port_of to.clock (suc p))
                (subst (λ k. Joins n.graph (port_of x (suc i)) (port_of to.clock k)) second joins)

            is : (r.said.source ≡ port_of to.clock (suc p)) × IsSaid to.clock x r.said
            is =
                let has = kept.calm.lanes (port_of to.clock (suc p)) (port_of x (suc i)) back in
                over to.clock p i back s q has.lane at there has.there r holds

    -- nothing that it holds has a better root
    held_root : (i : ℕ) (r : Reception) → HoldsAt s i r → old ≤ r.said.root
    held_root i r holds = elim (held_over i r holds) [
      | inr bare ↦ let root = bare.stale.root in omega (arith, root)
      | inl h ↦ elim h.said [
        | inl whole ↦ let more = whole_worse h.v r.said h.in_v whole in omega (arith, more)
        | inr stale ↦ let root = stale.root in omega (arith, root)
      ]
    ]

    -- nor has it chosen a better one
    pub root_floor : old ≤ s.root
    root_floor = elim rest.chosen [
      | inl (own, none) ↦
          let is = rest.is in
          let identity : s.root ≡ s.identity = cc in
          let more = own_worse in
          omega (arith, more, identity)
      | inr (i, r, holds, path, slave) ↦
          let is = rest.is in
          let root : r.said.root ≡ s.root = cc in
          let few = held_root i r holds in
          omega (arith, few, root)
    ]

    -- who holds what is stale chooses it
    pub stale_held : (i : ℕ) (r : Reception) → HoldsAt s i r → r.said.root ≡ old → s.root ≡ old
    stale_held i r holds root = elim (dec_le s.root old) [
      | yes least ↦ let few = root_floor in omega (arith, few, least)
      | no more ↦ absurd (rest.held_not_lower i r holds
          (subst (IsLower (path_vector r.said (suc i))) (sym rest.is) (inl (omega (arith, more, root)))))
    ]

    -- it follows what came over a link from one above it, or at a top over a lost link
    pub record FollowsStale : Type 0 where
      pub i : ℕ
      pub r : Reception
      pub holds : HoldsAt s i r
      pub side : Side
      pub steps : s.steps ≡ base + depth side x
      pub long : length s.trace ≡ suc s.steps
      pub names : (y : ℕ) → Tree n next top depth t y → In y s.trace → depth side y ≤ depth side x
      pub from : ((h : HeldOver x i r) × IsDeeper depth side h.v x × (r.said.root ≡ old))
          ⊎ ((x ≡ top side) × (IsLinked n.graph (port_of x (suc i)) → ⊥))

    pub follows_stale : s.root ≡ old → FollowsStale
    follows_stale root = elim facts.follows [
      | inl itself ↦
          let identity = itself.root in
          let more = own_worse in
          absurd (omega (arith, more, identity, root))
      | inr port ↦ by port
    ]
      where
        by : FollowsPort s → FollowsStale
        by port = elim (held_over port.place port.r port.holds) [
          | inr bare ↦ record {
            i = port.place;
            r = port.r;
            holds = port.holds;
            side = bare.stale.side;
            steps =
                let zero = ap (depth bare.stale.side) bare.stale.is_top ∙ t.first bare.stale.side in
                let few = bare.stale.steps in
                let more = port.steps in
                omega (arith, zero, few, more);
            long = long bare.stale.long;
            names = λ y in_y among. elim (In-parts y port.r.said.path (x ∷ []) (subst (In y) trace among)) [
              | inl before ↦ absurd (bare.stale.names y in_y before)
              | inr (inl same) ↦ let one = ap (depth bare.stale.side) same in omega (arith, one)
              | inr (inr none) ↦ absurd none
            ];
            from = inr (bare.stale.is_top, bare.bare);
          }
          | inl h ↦ elim h.said [
            | inl whole ↦ absurd (let more = whole_worse h.v port.r.said h.in_v whole in
                let is = port.root in
                omega (arith, more, is, root))
            | inr stale ↦ record {
              i = port.place;
              r = port.r;
              holds = port.holds;
              side = stale.side;
              steps =
                  let down = stale.deeper in
                  let far = stale.steps in
                  let more = port.steps in
                  omega (arith, down, far, more);
              long = long stale.long;
              names = λ y in_y among. elim (In-parts y port.r.said.path (x ∷ []) (subst (In y) trace among)) [
                | inl before ↦
                    let few = stale.names y in_y before in
                    let down = stale.deeper in
                    omega (arith, few, down)
                | inr (inl same) ↦ let one = ap (depth stale.side) same in omega (arith, one)
                | inr (inr none) ↦ absurd none
              ];
              from = inl (h, stale.deeper, stale.root);
            }
          ]
        ]
          where
            trace : s.trace ≡ port.r.said.path ++ x ∷ []
            trace = subst (λ c. s.trace ≡ port.r.said.path ++ c ∷ []) is_x.1 port.trace

            long : length port.r.said.path ≡ suc port.r.said.steps → length s.trace ≡ suc s.steps
            long as_long =
                let more = port.steps in
                let parts = length-append port.r.said.path (x ∷ []) in
                ap (λ (xs : List ℕ). length xs) trace ∙ (omega (arith, as_long, more, parts))

    -- ---- one that has left what is stale

    -- holds what is of what is left alone
    pub new_held : s.root ≢ old → (i : ℕ) (r : Reception) → HoldsAt s i r
        → (h : HeldOver x i r) × Whole n.graph h.v r.said
    new_held left i r holds = elim (held_over i r holds) [
      | inr bare ↦ absurd (left (stale_held i r holds bare.stale.root))
      | inl h ↦ elim h.said [
        | inl whole ↦ (h, whole)
        | inr stale ↦ absurd (left (stale_held i r holds stale.root))
      ]
    ]

    pub new_fits : s.root ≢ old → (i : ℕ) (r : Reception) → HoldsAt s i r → CameFits n.graph s.clock (suc i) r
    new_fits left i r holds =
        let (h, whole) = new_held left i r holds in
        came_fits n.graph s.clock (suc i) r t.well (record {
          from = port_of h.v (suc h.p);
          joins = subst (λ c. Joins n.graph (port_of h.v (suc h.p)) (port_of c (suc i))) (sym is_x.1) h.joins;
          source = h.source;
          sound = inr whole;
        })

    pub new_clear : s.root ≢ old → IsClear n.graph s
    new_clear left = record {
      rest = rest;
      known = was_itself n.graph (station_system s) facts.known;
      held = λ i r holds. bounded n.graph s.clock (suc i) r (new_fits left i r holds);
    }

    no_loop : (i : ℕ) (r : Reception) → HoldsAt s i r → In x r.said.path → ⊥
    no_loop i r holds names = (facts.held i r holds).no_loop (subst (λ c. In c r.said.path) (sym is_x.1) names)

    module _ (left : s.root ≢ old) (number : ℕ) (a : Announce) (own : IsOwn s number a) where
      -- says what is of what is left
      pub says_whole : Whole n.graph x a
      says_whole = by facts.follows
        where
          by : FollowsItself s ⊎ FollowsPort s → Whole n.graph x a
          by (inl itself) =
              subst (λ c. Whole n.graph c a) is_x.1
              (whole_own n.graph (station_system s) a facts.known (own.root ∙ itself.root) (own.steps ∙ itself.steps)
              (own.path ∙ itself.trace))
          by (inr port) =
              let (h, whole) = new_held left port.place port.r port.holds in
              whole_on n.graph x h.v port.r.said a whole in_x.reached.1.begins (
                suc port.place,
                suc h.p,
                Joins-sym n.graph (port_of h.v (suc h.p)) (port_of x (suc port.place)) h.joins,
              )
              (no_loop port.place port.r port.holds) (own.root ∙ port.root) (own.steps ∙ port.steps)
              (own.path ∙ subst (λ c. s.trace ≡ port.r.said.path ++ c ∷ []) is_x.1 port.trace)

      -- and whoever is below it, where it is master, can use it
      module _ (side : Side) (p u q : ℕ) (joins : Joins n.graph (port_of x (suc p)) (port_of u (suc q)))
          (deeper : IsDeeper depth side x u) (pv : Port) (there : slice_get s.ports p ≡ Some pv) (root steps : ℕ)
          (mine : pv.held ≡ Mine root steps) (is_p : number ≡ suc p) where
        apart : x ≢ u
        apart = t.well.apart (port_of x (suc p)) (port_of u (suc q)) joins

        in_u : Tree n next top depth t u
        in_u = beside n next top depth t x u in_x (suc p, suc q, joins)

        -- what it follows came from another
        not_from : (port : FollowsPort s) → (h : HeldOver x port.place port.r) → h.v ≢ u
        not_from port h same =
            let back : Joins n.graph (port_of u (suc h.p)) (port_of x (suc port.place)) =
            subst (λ c. Joins n.graph (port_of c (suc h.p)) (port_of x (suc port.place))) same h.joins in
            let here = Joins-sym n.graph (port_of u (suc h.p)) (port_of x (suc port.place)) back in
            let number_x : suc port.place ≡ suc p =
            one_down n next top depth t side x u (suc port.place) (suc p) (suc h.p) (suc q) in_u deeper here joins in
            let place : port.place ≡ p = omega (arith, number_x) in
            let same_port = same_there s.ports p port.holds.0 pv
            (subst (λ i. slice_get s.ports i ≡ Some port.holds.0) place port.holds.1) there in
            absurd (let both : Mine root steps ≡ Received port.r =
            sym mine ∙ ap (λ (z : Port). z.held) (sym same_port) ∙ port.holds.2 in cc)

        names_not : FollowsItself s ⊎ FollowsPort s → In u a.path → ⊥
        names_not (inl itself) names =
            elim (subst (In u) (own.path ∙ itself.trace) names) [
              | inl same ↦ apart (sym is_x.1 ∙ sym same)
              | inr none ↦ none
            ]
        names_not (inr port) names =
            elim (In-parts u port.r.said.path (s.clock ∷ []) (subst (In u) (own.path ∙ port.trace) names)) [
              | inl among ↦
                  let (h, whole) = new_held left port.place port.r port.holds in
                  names_none n next top depth t side x u (suc p, suc q, joins) in_x deeper h.v port.r.said (
                    suc port.place,
                    suc h.p,
                    Joins-sym n.graph (port_of h.v (suc h.p)) (port_of x (suc port.place)) h.joins,
                  ) (not_from port h)
                  whole (no_loop port.place port.r port.holds) among
              | inr (inl same) ↦ apart (sym is_x.1 ∙ sym same)
              | inr (inr none) ↦ none
            ]

        pub tells_new : IsNewTold n.graph (port_of x (suc p)) u a
        tells_new =
            let whole = says_whole in
            let short = t.paths x whole.first.clock whole.others whole.way in
            let steps_are = whole.steps in
            let long = path_length n.graph t.well x a whole next in_x in
            let few = t.few in
            record {
              source = own.source ∙ (λ j. port_of (is_x.1 j) (is_p j));
              whole = whole;
              usable = record {
                foreign = λ same. apart (sym (ap (λ (z : PortIdentity). z.clock) own.source ∙ is_x.1) ∙ same);
                near = omega (arith, short, steps_are, few);
                no_loop = names_not facts.follows;
                short = omega (arith, long, short, steps_are, few);
              };
            }

    -- ---- one that has not

    -- what it says at a master port is of what is left, or stale
    module _ (p u q : ℕ) (joins : Joins n.graph (port_of x (suc p)) (port_of u (suc q))) (pv : Port)
        (there : slice_get s.ports p ≡ Some pv) (root steps : ℕ) (mine : pv.held ≡ Mine root steps) where
      -- it doesn't follow what came over that link
      pub follows_other : (stale : FollowsStale) → stale.i ≢ p
      follows_other stale same =
          let same_port = same_there s.ports p stale.holds.0 pv
          (subst (λ i. slice_get s.ports i ≡ Some stale.holds.0) same stale.holds.1) there in
          absurd (let both : Mine root steps ≡ Received stale.r =
          sym mine ∙ ap (λ (z : Port). z.held) (sym same_port) ∙ stale.holds.2 in cc)

      -- so the other end is below it, seen from the top that leads to it
      pub stale_down : (stale : FollowsStale) → IsDeeper depth stale.side x u
      stale_down stale = elim (t.steps stale.side x u in_x (suc p, suc q, joins)) [
        | inl down ↦ down
        | inr up ↦ absurd (elim stale.from [
          | inr (is_top, bare) ↦
              let none = ap (depth stale.side) is_top ∙ t.first stale.side in omega (arith, none, up)
          | inl (h, down, is_old) ↦
              let here = Joins-sym n.graph (port_of h.v (suc h.p)) (port_of x (suc stale.i)) h.joins in
              let port = t.single stale.side x (suc stale.i) (suc p) (port_of h.v (suc h.p)) (port_of u (suc q)) in_x
              here joins down up in
              follows_other stale (omega (arith, port))
        ])
      ]

      pub says_so : (number : ℕ) (a : Announce) → IsOwn s number a → IsSaid x u a
      says_so number a own = elim (ℕ_discrete s.root old) [
        | no left ↦ inl (says_whole left number a own)
        | yes is ↦
            let stale = follows_stale is in
            inr (record {
              side = stale.side;
              deeper = stale_down stale;
              root = own.root ∙ is;
              steps = own.steps ∙ stale.steps;
              long = ap (λ (xs : List ℕ). length xs) own.path ∙ stale.long ∙ ap suc (sym own.steps);
              names = λ y in_y among. stale.names y in_y (subst (In y) own.path among);
            })
      ]
