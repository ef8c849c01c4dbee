-- A link between the system that is moved and a neighbour that heard it before: what is known of both ends.
use Rattle.std.proofs.Common.{◌≡◌, ◌≢◌, ◌⊎◌, ◌<◌, ◌≤◌, ℕ, suc, true, List, [], ◌∷◌, Some, length, slice_get, sym, ap, subst, ◌∙◌, inl, inr, arith}
use native.Mathlib.Decide.{dec_le}
use Rattle.std.proofs.lemmas.List.{length-append}
use Rattle.gptp_lists.specs.Members.{In}
use Rattle.gptp_lists.proofs.SystemSpecLemmas.{In-parts}
use Rattle.gptp_graph.specs.Best.{IsBest}
use Rattle.gptp_graph.specs.Distance.{IsDistance}
use Rattle.gptp_graph.specs.Order.{IsLower}
use Rattle.gptp_graph.specs.Snapshot.{IsLinked, Joins, PortIdentity, Snapshot, System, clocks, port_of}
use Rattle.gptp_graph.proofs.DistanceLemmas.{IsDistance-unique}
use Rattle.gptp_graph.proofs.LinkDecisions.{IsLinked-dec}
use Rattle.gptp_graph.proofs.LinkLemmas.{Joins-clock, Joins-sym}
use Rattle.gptp_bmca_machine.specs.AtRest.{StationIsAtRest}
use Rattle.gptp_bmca_machine.specs.Calm.{Calm, IsCalmPort}
use Rattle.gptp_bmca_machine.specs.Facts.{FollowsItself, FollowsPort}
use Rattle.gptp_bmca_machine.specs.Frame.{Announce, Spelling}
use Rattle.gptp_bmca_machine.specs.Link.{HearsSettled, TellerIsSettled, final_vector}
use Rattle.gptp_bmca_machine.specs.LinkStage.{Wiring}
use Rattle.gptp_bmca_machine.specs.LossLaws.{EverythingFits, IsAfterLoss}
use Rattle.gptp_bmca_machine.specs.Network.{Network}
use Rattle.gptp_bmca_machine.specs.Station.{Disabled, HoldsAt, MachineState, Mine, Port, Received, Reception, Station}
use Rattle.gptp_bmca_machine.specs.Vectors.{master, path_vector}
use Rattle.gptp_bmca_machine.proofs.PlaceLemmas.{same_there}
use Rattle.gptp_bmca_machine.proofs.RestLemmas.{Chooses, IsClear, own_best, root_above}
use Rattle.gptp_settling_time.proofs.ClaimLemmas.{EachAnnounce}
use Rattle.gptp_settling_time.proofs.NamesItselfLemmas.{AllNameItself}
use Rattle.gptp_bmca_machine.proofs.StillLemmas.{StillSettles, capable_at, chooses_still, clear_at, is_station, still}
use Rattle.gptp_settling_time.proofs.TurnLemmas.{ComesLate, IsBeside, NamesLate, TurnsOne, beside, source_best, starts_far}

-- a port of a live system that no link is at is disabled
abbrev pub IsDark : Network → MachineState → Type 0
IsDark n w = (i : ℕ) (s : Station) (place : ℕ) (q : Port) → slice_get w.stations i ≡ Some s → s.live ≡ true
    → slice_get s.ports place ≡ Some q → (IsLinked n.graph (port_of s.clock (suc place)) → ⊥)
    → q.held ≡ Disabled

-- What is known of each state since the loss: it is calm, all fits the snapshot of before, links from unmoved systems
-- stay, ports without a link are off, and what names the system does so late. What names the best in no steps names it
-- alone.
pub record IsMoving (says : Spelling) (g : Snapshot) (n : Network) (x e : ℕ) (best : System) (w : MachineState)
    : Type 0 where
  pub kept : IsAfterLoss n w
  pub fits : EverythingFits says g n w
  pub levels : (f : ℕ) → StillSettles says g n f w
  pub dark : IsDark n w
  pub names : EachAnnounce says n (ComesLate g x e best) (NamesLate g x e best) w
  pub itself : AllNameItself says n g w

-- the link tells from the first on, what is sent has come, and those that it leads to have settled by this time
abbrev pub towards : Network → ℕ → ℕ → System → ℕ → ℕ → ℕ → ℕ → Wiring
towards n before d best v p u q = record (still n d best v p u q) { before = before }

module _ (says : Spelling) (g : Snapshot) (n : Network) (x d e : ℕ) (best : System) (t : TurnsOne g n x d e best) where
  clear : (w : MachineState) → IsMoving says g n x e best w → (i : ℕ) (s : Station)
      → slice_get w.stations i ≡ Some s → s.live ≡ true → IsClear g s
  clear w m i s at live = clear_at g n t.well t.left w m.kept m.fits.stations i s at live

  -- ---- the system that is moved

  module _ (w : MachineState) (m : IsMoving says g n x e best w) (i : ℕ) (s : Station)
      (at : slice_get w.stations i ≡ Some s) (live : s.live ≡ true) (named : s.clock ≡ x) where
    rest : StationIsAtRest s
    rest = (m.kept.calm.stations i s at live).at_rest

    was_best : IsBest g s.clock best
    was_best = subst (λ c. IsBest g c best) (sym named) t.was_best

    pub above : best.identity ≤ s.root
    above = root_above g t.left.graph s (clear w m i s at live) best was_best

    -- what it tells of the best has as many steps as it is far then
    pub late : s.root ≡ best.identity → e ≤ s.steps
    late root = elim rest.chosen [
      | inl (own, none) ↦
          let is = rest.is in
          let identity : s.identity ≡ s.root = cc in
          let zero_far : IsDistance g s.clock 0 =
          own_best g t.left.graph s (clear w m i s at live) best was_best (sym root ∙ sym identity) in
          let here = subst (λ c. IsDistance g c 0) named zero_far in
          let same = IsDistance-unique g x d 0 t.left.graph t.was here in
          let first = starts_far g n x d e best t in
          absurd (omega (arith, same, first))
      | inr (j, r, holds, path, slave) ↦ by j r holds path
    ]
      where
        by : (j : ℕ) (r : Reception) → HoldsAt s j r → rest.vector ≡ path_vector r.said (suc j) → e ≤ s.steps
        by j r holds path = elim (IsLinked-dec n.graph (port_of s.clock (suc j))) [
          | no none ↦
              let off : holds.0.held ≡ Disabled = m.dark i s j holds.0 at live holds.1 none in
              absurd (let both : Received r ≡ Disabled = sym holds.2 ∙ off in cc)
          | yes (u, joins) ↦ over u joins
        ]
          where
            over : (u : PortIdentity) → Joins n.graph (port_of s.clock (suc j)) u → e ≤ s.steps
            over u joins =
                let is = rest.is in
                let root_r : r.said.root ≡ s.root = cc in
                let steps_r : suc r.said.steps ≡ s.steps = cc in
                let from_x = subst (λ c. Joins n.graph (port_of c (suc j)) u) named joins in
                let b = beside says g n x d e best t u.clock (suc j, u.port, from_x) in
                let before = t.left.links (port_of s.clock (suc j)) u joins in
                let came = (m.fits.stations i s j r at live holds).over (u, before) in
                let one : came.from ≡ u =
                t.left.graph.one_link (port_of s.clock (suc j)) came.from u
                (Joins-sym g came.from (port_of s.clock (suc j)) came.joins) before in
                let few = came.sender best b.far was_best (root_r ∙ root)
                (subst (λ (k : PortIdentity). IsDistance g k.clock b.far) (sym one) b.there) in
                let least = b.least in
                omega (arith, few, least, steps_r)

-- what the system tells over a link since it is moved: a root worse than the best, or the best with as many steps as it
-- is far then
pub record IsFresh (from : PortIdentity) (e : ℕ) (best : System) (a : Announce) : Type 0 where
  pub source : a.source ≡ from
  pub above : best.identity ≤ a.root
  pub late : a.root ≡ best.identity → e ≤ a.steps

-- ---- the two ends of a link

module _ (says : Spelling) (g : Snapshot) (n : Network) (x d e : ℕ) (best : System) (t : TurnsOne g n x d e best)
    (p y q : ℕ) (joins : Joins n.graph (port_of x (suc p)) (port_of y (suc q))) where
  back : Joins n.graph (port_of y (suc q)) (port_of x (suc p))
  back = Joins-sym n.graph (port_of x (suc p)) (port_of y (suc q)) joins

  pub neighbour_at : IsBeside g n x d e best y
  neighbour_at = beside says g n x d e best t y (suc p, suc q, joins)

  known_x : In x (clocks n.graph)
  known_x = Joins-clock n.graph (port_of x (suc p)) (port_of y (suc q)) t.well joins

  module _ (w : MachineState) (m : IsMoving says g n x e best w) where
    calm : Calm n w
    calm = m.kept.calm

    pub here_y : (s : Station) → slice_get w.stations (n.place y) ≡ Some s → (s.live ≡ true) × (s.clock ≡ y)
    here_y s at = is_station g n t.well t.left w m.kept m.fits.stations y s neighbour_at.known at

    pub here_x : (s : Station) → slice_get w.stations (n.place x) ≡ Some s → (s.live ≡ true) × (s.clock ≡ x)
    here_x s at = is_station g n t.well t.left w m.kept m.fits.stations x s known_x at

    pub chooses_y : (s : Station) → slice_get w.stations (n.place y) ≡ Some s → Chooses s best neighbour_at.far
    chooses_y s at =
        chooses_still says g n t.well t.left w m.kept m.fits.stations neighbour_at.far (λ f less. m.levels f)
        neighbour_at.close y best s at
        neighbour_at.unmoved neighbour_at.is_best neighbour_at.there

    pub on_y : (s : Station) (pu : Port) → slice_get w.stations (n.place y) ≡ Some s → slice_get s.ports q ≡ Some pu
        → pu.held ≢ Disabled
    on_y s pu at there =
        capable_at g n t.well t.left w m.kept m.fits.stations y q (port_of x (suc p)) s pu neighbour_at.known back at
        there

    pub on_x : (s : Station) (pv : Port) → slice_get w.stations (n.place x) ≡ Some s → slice_get s.ports p ≡ Some pv
        → pv.held ≢ Disabled
    on_x s pv at there =
        capable_at g n t.well t.left w m.kept m.fits.stations x p (port_of y (suc q)) s pv known_x joins at there

    -- what a port at this link received came from the other
    source_of : (i : ℕ) (s : Station) (port : ℕ) (r : Reception) (to : PortIdentity) → slice_get w.stations i ≡ Some s
        → s.live ≡ true → Joins n.graph (port_of s.clock (suc port)) to → HoldsAt s port r → r.said.source ≡ to
    source_of i s port r to at live joined holds =
        let before = t.left.links (port_of s.clock (suc port)) to joined in
        let came = (m.fits.stations i s port r at live holds).over (to, before) in
        came.source
        ∙ t.left.graph.one_link (port_of s.clock (suc port)) came.from to
        (Joins-sym g came.from (port_of s.clock (suc port)) came.joins) before

    -- ---- the neighbour hears the system, as it did before

    pub hears_old : (d < neighbour_at.far) ⊎ ((d ≡ neighbour_at.far) × (x < y)) → (s : Station) (pu : Port)
        → slice_get w.stations (n.place y) ≡ Some s → slice_get s.ports q ≡ Some pu
        → HearsSettled (still n d best x p y q) pu
    hears_old heard s pu at there = record {
      weaker = λ root steps mine. weaker root steps (rest.mine q pu root steps there mine) (chooses_y s at) heard;
      source = source;
      long = λ r is log. is_port.long r (port_of x (suc p)) is joins (source r is) log;
    }
      where
        is_y : (s.live ≡ true) × (s.clock ≡ y)
        is_y = here_y s at

        rest : StationIsAtRest s
        rest = (calm.stations (n.place y) s at is_y.0).at_rest

        is_port : IsCalmPort n w.time (port_of y (suc q)) pu
        is_port =
            subst (λ c. IsCalmPort n w.time (port_of c (suc q)) pu) is_y.1
            ((calm.stations (n.place y) s at is_y.0).ports q pu there)

        source : (r : Reception) → pu.held ≡ Received r → r.said.source ≡ port_of x (suc p)
        source r is =
            source_of (n.place y) s q r (port_of x (suc p)) at is_y.0
            (subst (λ c. Joins n.graph (port_of c (suc q)) (port_of x (suc p))) (sym is_y.1) back) (pu, there, is)

        weaker : (root steps : ℕ) → (root ≡ s.root) × (steps ≡ s.steps) → Chooses s best neighbour_at.far
            → (d < neighbour_at.far) ⊎ ((d ≡ neighbour_at.far) × (x < y))
            → IsLower (final_vector (still n d best x p y q)) (master root steps y (suc q))
        weaker root steps (own_root, own_steps) chosen (inl less) =
            let is_steps = chosen.steps in
            inr (sym (own_root ∙ chosen.root), inl (omega (arith, less, own_steps, is_steps)))
        weaker root steps (own_root, own_steps) chosen (inr (same, lower)) =
            inr (sym (own_root ∙ chosen.root), inr (same ∙ sym (own_steps ∙ chosen.steps), inl lower))

    -- what the system tells then is worse than what the neighbour would tell
    pub fresh_worse : (s : Station) → slice_get w.stations (n.place y) ≡ Some s → (a : Announce)
        → IsFresh (port_of x (suc p)) e best a → (root steps : ℕ) → root ≡ s.root → steps ≡ s.steps
        → IsLower (master root steps y (suc q))
        (a.root ∷ a.steps ∷ a.source.clock ∷ a.source.port ∷ suc q ∷ [])
    fresh_worse s at a fresh root steps own_root own_steps = by (dec_le a.root best.identity)
      where
        chosen : Chooses s best neighbour_at.far
        chosen = chooses_y s at

        clock_is : a.source.clock ≡ x
        clock_is = ap (λ (k : PortIdentity). k.clock) fresh.source

        by : Dec (a.root ≤ best.identity)
            → IsLower (master root steps y (suc q))
            (a.root ∷ a.steps ∷ a.source.clock ∷ a.source.port ∷ suc q ∷ [])
        by (no more) = let is_root = chosen.root in inl (omega (arith, more, own_root, is_root))
        by (yes most) =
            let above = fresh.above in
            let same : a.root ≡ best.identity = omega (arith, most, above) in
            let many = fresh.late same in
            let is_root = chosen.root in
            let is_steps = chosen.steps in
            inr (omega (arith, own_root, is_root, same), by_steps many is_steps neighbour_at.nearer)
          where
            by_steps : e ≤ a.steps → s.steps ≡ neighbour_at.far
                → (neighbour_at.far < e) ⊎ ((neighbour_at.far ≡ e) × (y < x))
                → IsLower (steps ∷ y ∷ suc q ∷ suc q ∷ []) (a.steps ∷ a.source.clock ∷ a.source.port ∷ suc q ∷ [])
            by_steps many is_steps (inl less) = inl (omega (arith, many, is_steps, own_steps, less))
            by_steps many is_steps (inr (same, lower)) = elim (dec_le a.steps steps) [
              | yes few ↦
                  inr (omega (arith, many, few, is_steps, own_steps, same), inl (omega (arith, lower, clock_is)))
              | no more ↦ inl (omega (arith, more))
            ]

    -- ---- the system hears the neighbour

    pub hears_new : (before : ℕ) (s : Station) (pv : Port) → slice_get w.stations (n.place x) ≡ Some s
        → slice_get s.ports p ≡ Some pv → HearsSettled (towards n before neighbour_at.far best y q x p) pv
    hears_new before s pv at there = record {
      weaker = λ root steps mine. weaker root steps (rest_x.mine p pv root steps there mine);
      source = source;
      long = λ r is log. is_port.long r (port_of y (suc q)) is back (source r is) log;
    }
      where
        is_x : (s.live ≡ true) × (s.clock ≡ x)
        is_x = here_x s at

        rest_x : StationIsAtRest s
        rest_x = (calm.stations (n.place x) s at is_x.0).at_rest

        is_port : IsCalmPort n w.time (port_of x (suc p)) pv
        is_port =
            subst (λ c. IsCalmPort n w.time (port_of c (suc p)) pv) is_x.1
            ((calm.stations (n.place x) s at is_x.0).ports p pv there)

        source : (r : Reception) → pv.held ≡ Received r → r.said.source ≡ port_of y (suc q)
        source r is =
            source_of (n.place x) s p r (port_of y (suc q)) at is_x.0
            (subst (λ c. Joins n.graph (port_of c (suc p)) (port_of y (suc q))) (sym is_x.1) joins) (pv, there, is)

        weaker : (root steps : ℕ) → (root ≡ s.root) × (steps ≡ s.steps)
            → IsLower (final_vector (towards n before neighbour_at.far best y q x p)) (master root steps x (suc p))
        weaker root steps (own_root, own_steps) = by (dec_le s.root best.identity)
          where
            over : best.identity ≤ s.root
            over = above says g n x d e best t w m (n.place x) s at is_x.0 is_x.1

            by : Dec (s.root ≤ best.identity)
                → IsLower (final_vector (towards n before neighbour_at.far best y q x p)) (master root steps x (suc p))
            by (no more) = inl (omega (arith, more, own_root))
            by (yes most) =
                let same : s.root ≡ best.identity = omega (arith, most, over) in
                let many = late says g n x d e best t w m (n.place x) s at is_x.0 is_x.1 same in
                inr (omega (arith, own_root, same), by_steps many neighbour_at.nearer)
              where
                by_steps : e ≤ s.steps → (neighbour_at.far < e) ⊎ ((neighbour_at.far ≡ e) × (y < x))
                    → IsLower (neighbour_at.far ∷ y ∷ suc q ∷ suc p ∷ []) (steps ∷ x ∷ suc p ∷ suc p ∷ [])
                by_steps many (inl less) = inl (omega (arith, many, own_steps, less))
                by_steps many (inr (same, lower)) = elim (dec_le steps neighbour_at.far) [
                  | yes few ↦ inr (omega (arith, many, few, own_steps, same), inl lower)
                  | no more ↦ inl (omega (arith, more))
                ]

    -- ---- the neighbour tells, once its port is master

    module _ (s : Station) (at : slice_get w.stations (n.place y) ≡ Some s) (pu : Port)
        (there : slice_get s.ports q ≡ Some pu) (root steps : ℕ) (mine : pu.held ≡ Mine root steps) where
      is_y : (s.live ≡ true) × (s.clock ≡ y)
      is_y = here_y s at

      chosen : Chooses s best neighbour_at.far
      chosen = chooses_y s at

      -- it follows another than the system, so that its trace doesn't name it
      not_from : (port : FollowsPort s) → port.r.said.source.clock ≡ x → ⊥
      not_from port from_x = elim (IsLinked-dec n.graph (port_of s.clock (suc port.place))) [
        | no none ↦
            let off = m.dark (n.place y) s port.place port.holds.0 at is_y.0 port.holds.1 none in
            absurd (let both : Received port.r ≡ Disabled = sym port.holds.2 ∙ off in cc)
        | yes (u, joined) ↦
            let source = source_of (n.place y) s port.place port.r u at is_y.0 joined port.holds in
            let end : u.clock ≡ x = ap (λ (k : PortIdentity). k.clock) (sym source) ∙ from_x in
            let over = Joins-sym n.graph (port_of s.clock (suc port.place)) u joined in
            let at_x : Joins n.graph (port_of x u.port) (port_of y (suc port.place)) =
            subst (λ c. Joins n.graph (port_of x u.port) (port_of c (suc port.place))) is_y.1
            (subst (λ c. Joins n.graph (port_of c u.port) (port_of s.clock (suc port.place))) end over) in
            let number = t.single u.port (suc port.place) (suc p) (suc q) y at_x joins in
            let one : port.place ≡ q = omega (arith, number) in
            let same : port.holds.0 ≡ pu =
            same_there s.ports q port.holds.0 pu
            (subst (λ k. slice_get s.ports k ≡ Some port.holds.0) one port.holds.1) there in
            absurd (let both : Mine root steps ≡ Received port.r =
            sym mine ∙ ap (λ (z : Port). z.held) (sym same) ∙ port.holds.2 in cc)
      ]

      foreign : FollowsItself s ⊎ FollowsPort s → In x s.trace → ⊥
      foreign (inl itself) names =
          elim (subst (In x) itself.trace names)
          [ inl same ↦ neighbour_at.apart (sym (same ∙ is_y.1)) | inr none ↦ none ]
      foreign (inr port) names = elim (In-parts x port.r.said.path (s.clock ∷ []) (subst (In x) port.trace names)) [
        | inl among ↦ by (m.names.stations (n.place y) s at is_y.0 port.place port.r port.holds
            (sym port.root ∙ chosen.root)
            (source_best says g n x d e best t w m.kept m.fits m.levels m.dark (n.place y) s port.place port.r at is_y.0
            port.holds (subst (λ c. IsBest g c best) (sym is_y.1) neighbour_at.is_best)) among)
        | inr (inl same) ↦ neighbour_at.apart (sym (same ∙ is_y.1))
        | inr (inr none) ↦ none
      ]
        where
          by : (port.r.said.source.clock ≡ x) ⊎ (e ≤ port.r.said.steps) → ⊥
          by (inl from_x) = not_from port from_x
          by (inr many) =
              let more = port.steps in
              let is_steps = chosen.steps in
              elim neighbour_at.nearer [
                | inl less ↦ absurd (omega (arith, many, more, is_steps, less))
                | inr (same, lower) ↦ absurd (omega (arith, many, more, is_steps, same))
              ]

      short : FollowsItself s ⊎ FollowsPort s → length s.trace ≤ 255
      short (inl itself) = subst (λ (xs : List ℕ). length xs ≤ 255) (sym itself.trace) (omega arith)
      short (inr port) =
          subst (λ (xs : List ℕ). length xs ≤ 255) (sym port.trace)
          (let was = subst (λ c. IsBest g c best) (sym is_y.1) neighbour_at.is_best in
          let path : length port.r.said.path ≡ suc port.r.said.steps =
          (m.fits.stations (n.place y) s port.place port.r at is_y.0 port.holds).fits.long best was
          (sym port.root ∙ chosen.root) in
          let more : s.steps ≡ suc port.r.said.steps = port.steps in
          let is_steps = chosen.steps in
          let close = neighbour_at.close in
          omega (arith, path, more, is_steps, close, length-append port.r.said.path (s.clock ∷ [])))

      pub tells_new : (before : ℕ) → TellerIsSettled (towards n before neighbour_at.far best y q x p) s pu
      tells_new before =
          let rest_y = (calm.stations (n.place y) s at is_y.0).at_rest in
          let (own_root, own_steps) = rest_y.mine q pu root steps there mine in
          let follows = (calm.facts.stations (n.place y) s at is_y.0).follows in
          record {
            mine = mine ∙ (λ i. Mine ((own_root ∙ chosen.root) i) ((own_steps ∙ chosen.steps) i));
            near = neighbour_at.close;
            foreign = foreign follows;
            short = short follows;
          }
