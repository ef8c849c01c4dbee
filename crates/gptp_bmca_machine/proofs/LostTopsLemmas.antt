-- The failure of a system cuts off a tree with one or two tops: what its systems hold that was told over lost links.
-- That is what the failed system told last, and tops alone hold it.
use Rattle.std.proofs.Common.{◌≡◌, ◌⊎◌, ◌<◌, ◌≤◌, ◌+◌, ℕ, ℤ, suc, pred, true, Some, slice_get, sym, ap, subst, ◌∙◌, inl, inr, arith}
use Rattle.gptp_lists.specs.Members.{In}
use Rattle.gptp_lists.proofs.PlaceLemmas.{member_there}
use Rattle.gptp_graph.specs.Best.{IsBest}
use Rattle.gptp_graph.specs.Distance.{IsDistance}
use Rattle.gptp_graph.specs.Snapshot.{IsLinked, Joins, PortIdentity, Snapshot, System, clocks, port_of}
use Rattle.gptp_graph.proofs.BestLemmas.{IsBest-unique}
use Rattle.gptp_graph.proofs.DistanceLemmas.{IsDistance-unique}
use Rattle.gptp_graph.proofs.LinkLemmas.{Adjacent-clock, Joins-clock, Joins-sym}
use Rattle.gptp_graph.proofs.SystemLemmas.{same_clock}
use Rattle.gptp_bmca_machine.specs.Acts.{MachineSteps}
use Rattle.gptp_bmca_machine.specs.Clean.{HeldFits}
use Rattle.gptp_bmca_machine.specs.CutTree.{LosesSystem}
use Rattle.gptp_bmca_machine.specs.Facts.{station_system}
use Rattle.gptp_bmca_machine.specs.Frame.{Spelling}
use Rattle.gptp_bmca_machine.specs.LossLaws.{EverythingFits, IsAfterLoss}
use Rattle.gptp_bmca_machine.specs.Network.{Network}
use Rattle.gptp_bmca_machine.specs.Station.{Disabled, HoldsAt, MachineState, Port, Received, Reception, Station}
use Rattle.gptp_bmca_machine.specs.TwoTops.{Side, CutsOffTwice}
use Rattle.gptp_bmca_machine.proofs.UnlinkedLemmas.{IsOldTold}
use Rattle.gptp_bmca_machine.proofs.FallLeaveLemmas.{TreeAnswers, answers_or_stands}
use Rattle.gptp_bmca_machine.proofs.LevelLemmas.{places_of}
use Rattle.gptp_bmca_machine.proofs.LinkStepLemmas.{AtLink, LaneStands, lives_at}
use Rattle.gptp_bmca_machine.proofs.LostPortLemmas.{HasLetGo, HoldsLast, IsLastState, StaysAsNamed, last_on}
use Rattle.gptp_bmca_machine.proofs.PlaceLemmas.{received_injective, same_there}
use Rattle.gptp_bmca_machine.proofs.ReactsLemmas.{held_from}
use Rattle.gptp_bmca_machine.proofs.StaleLemmas.{BareDrop, IsStaleAtTop}
use Rattle.gptp_bmca_machine.proofs.StandsLemmas.{stands_there}
use Rattle.gptp_bmca_machine.proofs.StillLemmas.{still}
use Rattle.gptp_bmca_machine.proofs.TwoTopsWayLemmas.{base_is, least_deep, top_far}

module _ (says : Spelling) (g : Snapshot) (n : Network) (lost : ℕ) (top : Side → ℕ) (best next : System) (base : ℕ)
    (depth : Side → ℕ → ℕ) (loses : LosesSystem g n lost) (c : CutsOffTwice g n top best next base depth) where
  -- a link of before at a port that none is at now led from the failed system to a top
  pub lost_at : (x : ℕ) (to : PortIdentity) (i : ℕ) → IsBest n.graph x next → Joins g (port_of x (suc i)) to
      → (IsLinked n.graph (port_of x (suc i)) → ⊥) → ((side : Side) × (x ≡ top side)) × (to.clock ≡ lost)
  lost_at x to i in_x joins bare = elim (loses.others to.clock (Joins-clock g to (port_of x (suc i)) c.left.graph
      (Joins-sym g (port_of x (suc i)) to joins))) [
        | inl live ↦ absurd (bare (
          to,
          loses.links (port_of x (suc i)) to joins in_x.reached.1.begins live,
        ))
        | inr is_lost ↦ (
          (elim (c.lost x to.clock in_x (suc i, to.port, joins)) [
            | inr is_top ↦ is_top
            | inl stays ↦ absurd (loses.dead (subst (λ y. In y (clocks n.graph)) is_lost
                (Adjacent-clock n.graph x to.clock c.tree.well stays)))
          ]),
          is_lost,
        )
      ]

  -- the distance of a system that lost a link
  module _ (x : ℕ) (in_x : IsBest n.graph x next) (is_top : (side : Side) × (x ≡ top side)) where
    pub base_some : base ≡ suc (pred base)
    base_some =
        base_is g n top best next base depth c lost loses is_top.0
        (subst (λ y. IsBest n.graph y next) is_top.1 in_x)

    pub far_lost : IsDistance g x (suc (pred base))
    far_lost =
        subst (IsDistance g x) base_some
        (subst (λ y. IsDistance g y base) (sym is_top.1)
        (top_far g n top best next base depth c lost loses is_top.0
        (subst (λ y. IsBest n.graph y next) is_top.1 in_x)))

  module _ (stay : ℤ → ℕ) (since delay : ℕ) (shorter : n.most ≤ delay)
      (long : (x p i : ℕ) → Joins g (port_of lost (suc p)) (port_of x (suc i))
      → n.interval_of (port_of lost (suc p)) + delay < stay (n.log_of (port_of lost (suc p)))) where
    -- what is known of each state
    pub record IsTopsState (w : MachineState) : Type 0 where
      pub kept : IsAfterLoss n w
      pub fits : EverythingFits says g n w
      pub lanes : (x p i : ℕ) → Joins g (port_of lost (suc p)) (port_of x (suc i)) → LaneStands says n lost p x i w
      pub named : StaysAsNamed stay w
      pub later : since ≤ w.time

    -- a port whose link is lost holds what the failed system told last, until it lets it go
    abbrev pub HoldsOrNot : ℕ → ℕ → ℕ → MachineState → Type 0
    HoldsOrNot p x i w =
        AtLink says n lost p x i (λ held fs. HoldsLast says (still n (pred base) best lost p x i) (since + delay)
        held fs ⊎ HasLetGo says held fs) w

    -- so do all of the tree; and other ports without a link hold nothing
    pub record TopsHold (w : MachineState) : Type 0 where
      pub last : (x p i : ℕ) → IsBest n.graph x next → Joins g (port_of lost (suc p)) (port_of x (suc i))
          → (IsLinked n.graph (port_of x (suc i)) → ⊥) → HoldsOrNot p x i w
      pub bare : (x : ℕ) → IsBest n.graph x next → (s : Station) (i : ℕ) (r : Reception)
          → slice_get w.stations (n.place x) ≡ Some s → HoldsAt s i r → IsLinked g (port_of x (suc i))

    -- ports that aren't capable stay so, where their link is lost
    abbrev pub LostStayOff : MachineState → MachineState → Type 0
    LostStayOff w w' = (x p i : ℕ) → Joins g (port_of lost (suc p)) (port_of x (suc i))
        → (IsLinked n.graph (port_of x (suc i)) → ⊥)
        → (s s' : Station) (pu pu' : Port) → slice_get w.stations (n.place x) ≡ Some s
        → slice_get s.ports i ≡ Some pu → slice_get w'.stations (n.place x) ≡ Some s'
        → slice_get s'.ports i ≡ Some pu' → pu.held ≡ Disabled
        → pu'.held ≡ Disabled

    module _ (x p i : ℕ) (in_x : IsBest n.graph x next) (joins : Joins g (port_of lost (suc p)) (port_of x (suc i)))
        (bare : IsLinked n.graph (port_of x (suc i)) → ⊥) where
      pub is_top : (side : Side) × (x ≡ top side)
      is_top = (lost_at x (port_of lost (suc p)) i in_x (Joins-sym g (port_of lost (suc p)) (port_of x (suc i)) joins)
          bare).0

      -- the port stands
      pub record LostStands (w : MachineState) : Type 0 where
        pub s : Station
        pub at : slice_get w.stations (n.place x) ≡ Some s
        pub pu : Port
        pub there : slice_get s.ports i ≡ Some pu

      pub lost_stands : (w : MachineState) → IsTopsState w → LostStands w
      lost_stands w m = by (stands_there n c.tree.well w m.kept x in_x.reached.1.begins)
        where
          by : ((s : Station) × (slice_get w.stations (n.place x) ≡ Some s)) → LostStands w
          by (s, at) =
              let (live, clock) = lives_at n w m.kept.calm x in_x.reached.1.begins s at in
              let (y, in_y, is_port) = c.left.graph.ends (port_of x (suc i)) (port_of lost (suc p))
              (Joins-sym g (port_of lost (suc p)) (port_of x (suc i)) joins) in
              let same : y ≡ station_system s =
              same_clock g y (station_system s) c.left.graph in_y
              (loses.systems (station_system s) (m.kept.calm.facts.stations (n.place x) s at live).known)
              (is_port.clock ∙ sym clock) in
              let (pu, there) = member_there s.ports i (subst (λ (z : System). suc i ≤ z.ports) same is_port.last) in
              record { s = s; at = at; pu = pu; there = there }

      pub state_at : (w : MachineState) → IsTopsState w
          → IsLastState says g n c.tree.well c.left lost p x i joins in_x.reached.1.begins loses.dead best (pred base)
          (c.was_best x in_x) (far_lost x in_x is_top) stay since delay (long x p i joins) shorter w
      state_at w m = record {
        kept = m.kept;
        fits = m.fits.stations;
        lane = m.lanes x p i joins;
        named = m.named;
        later = m.later;
      }

    module _ (w w' : MachineState) (m : IsTopsState w) (m' : IsTopsState w') (step : MachineSteps says w w')
        (off : LostStayOff w w') (is : TopsHold w) where
      module _ (x p i : ℕ) (in_x : IsBest n.graph x next)
          (joins : Joins g (port_of lost (suc p)) (port_of x (suc i)))
          (bare : IsLinked n.graph (port_of x (suc i)) → ⊥) where
        goes_on : (here : LostStands x p i in_x joins bare w) → HoldsOrNot p x i w'
            × (((r : Reception) → here.pu.held ≡ Received r → ⊥) → AtLink says n lost p x i (HasLetGo says) w')
        goes_on here =
            last_on says g n c.tree.well c.left lost p x i joins in_x.reached.1.begins loses.dead best (pred base)
            (c.was_best x in_x) (far_lost x in_x (is_top x p i in_x joins bare)) stay since delay (long x p i joins)
            shorter w w' (state_at x p i in_x joins bare w m) (state_at x p i in_x joins bare w' m') step
            (off x p i joins bare) here.s here.at here.pu here.there (is.last x p i in_x joins bare)

      -- nothing is heard at a port that never had a link
      bare_then : (x : ℕ) → IsBest n.graph x next → (s' : Station) (i : ℕ) (r : Reception)
          → slice_get w'.stations (n.place x) ≡ Some s' → HoldsAt s' i r → IsLinked g (port_of x (suc i))
      bare_then x in_x s' i r at' holds = elim (answers_or_stands says n (λ y. ⊥) x w w' m.kept.calm m'.kept.calm
          in_x.reached.1.begins step s' at') [
            | inl stood ↦ is.bare x in_x s' i r stood holds
            | inr z ↦ answered z (same_there w'.stations (n.place x) z.s' s' z.there at')
          ]
        where
          answered : (z : TreeAnswers says n (λ y. ⊥) x w w') → z.s' ≡ s' → IsLinked g (port_of x (suc i))
          answered z one = elim (held_from says z.s z.s' z.touch w.time z.sends z.reacts i r
              (subst (λ (y : Station). HoldsAt y i r) (sym one) holds)) [
                | inl before ↦ is.bare x in_x z.s i r z.here before
                | inr just ↦
                    let (j, l, f, at_j, among, said, to) = z.heard i just.said just.touched in
                    let clock = (lives_at n w m.kept.calm x in_x.reached.1.begins z.s z.here).1 in
                    let ends : l.to ≡ port_of x (suc i) = to ∙ (λ j. port_of (clock j) (suc i)) in
                    let fits = m.fits.lanes j l f just.said at_j among said
                    (subst (λ (k : PortIdentity). In k.clock (clocks n.graph)) (sym ends) in_x.reached.1.begins) in (
                      l.from,
                      Joins-sym g l.from (port_of x (suc i)) (subst (Joins g l.from) ends fits.joins),
                    )
              ]

      pub tops_hold_on : TopsHold w'
      tops_hold_on = record {
        last = λ x p i in_x joins bare. (goes_on x p i in_x joins bare (lost_stands x p i in_x joins bare w m)).0;
        bare = bare_then;
      }

    -- ---- the lost link of a port that holds something

    module _ (w : MachineState) (m : IsTopsState w) (is : TopsHold w) (x : ℕ) (in_x : IsBest n.graph x next)
        (s : Station) (at : slice_get w.stations (n.place x) ≡ Some s) (i : ℕ) (r : Reception) (holds : HoldsAt s i r)
        (bare : IsLinked n.graph (port_of x (suc i)) → ⊥) where
      pub record LostLink : Type 0 where
        pub p : ℕ
        pub is_top : (side : Side) × (x ≡ top side)
        pub joins : Joins g (port_of lost (suc p)) (port_of x (suc i))

      pub lost_link : LostLink
      lost_link = go (is.bare x in_x s i r at holds)
        where
          go : ((to : PortIdentity) × Joins g (port_of x (suc i)) to) → LostLink
          go (to, joins) =
              let (is_top, is_lost) = lost_at x to i in_x joins bare in
              let (a, p, first, second) = places_of g x (suc i) to.clock to.port c.left.graph joins in
              record {
                p = p;
                is_top = is_top;
                joins = Joins-sym g (port_of x (suc i)) (port_of lost (suc p))
                    (subst (Joins g (port_of x (suc i))) (λ j. port_of (is_lost j) (second j)) joins);
              }

      -- what it holds was told last, and is stale
      pub stale_at : IsStaleAtTop says n next top depth c.tree best.identity base c.worse x r
      stale_at = by (is.last x lost_link.p i in_x lost_link.joins bare s holds.0 lane.lane at holds.1 lane.there)
        where
          lane : LaneStands says n lost lost_link.p x i w
          lane = m.lanes x lost_link.p i lost_link.joins

          live : (s.live ≡ true) × (s.clock ≡ x)
          live = lives_at n w m.kept.calm x in_x.reached.1.begins s at

          fits : HeldFits g s.clock r.said
          fits = (m.fits.stations (n.place x) s i r at live.0 holds).fits

          is_best : IsBest g s.clock best
          is_best = subst (λ y. IsBest g y best) (sym live.1) (c.was_best x in_x)

          by : HoldsLast says (still n (pred base) best lost lost_link.p x i) (since + delay) holds.0.held
              lane.lane.frames ⊎ HasLetGo says holds.0.held lane.lane.frames
              → IsStaleAtTop says n next top depth c.tree best.identity base c.worse x r
          by (inr go) = absurd (go.none r holds.2)
          by (inl last) = record {
            side = lost_link.is_top.0;
            is_top = lost_link.is_top.1;
            root = root;
            steps = steps;
            long = fits.long best is_best root;
            names = λ y in_y among.
                let few = fits.members best y (base + least_deep depth y) is_best root among (c.was_best y in_y)
                (c.was y in_y) in
                omega (arith, few, steps);
          }
            where
              one : r ≡ last.r
              one = received_injective r last.r (sym holds.2 ∙ last.holds)

              root : r.said.root ≡ best.identity
              root = ap (λ (z : Reception). z.said.root) one ∙ last.final.root

              steps : suc r.said.steps ≡ base
              steps =
                  let told = ap (λ (z : Reception). z.said.steps) one ∙ last.final.steps in
                  let above = base_some x in_x lost_link.is_top in
                  omega (arith, told, above)

      -- who told it isn't beside the top any more
      pub told_before : IsOldTold g n x r.said
      told_before = record {
        from = lost;
        beside = (
          suc i,
          suc lost_link.p,
          Joins-sym g (port_of lost (suc lost_link.p)) (port_of x (suc i)) lost_link.joins,
        );
        gone = λ joined. loses.dead (Adjacent-clock n.graph x lost c.tree.well joined);
        old = λ b d is_b here. (
          stale_at.root ∙
              ap (λ (z : System). z.identity)
              (IsBest-unique g x best b c.left.graph (c.was_best x in_x) is_b),
          stale_at.steps ∙ base_some x in_x lost_link.is_top ∙
              IsDistance-unique g x (suc (pred base)) d c.left.graph (far_lost x in_x lost_link.is_top) here,
        );
      }

    -- ---- and what they hold after a step they held

    pub tops_drop : (w w' : MachineState) → IsTopsState w → IsTopsState w' → MachineSteps says w w' → LostStayOff w w'
        → TopsHold w
        → BareDrop says n next top depth c.tree best.identity base c.worse w w'
    tops_drop w w' m m' step off is x s s' i r' in_x at at' bare holds = by (is.last x link.p i in_x link.joins bare
        port.s port.pu lane.lane port.at port.there lane.there)
      where
        is' : TopsHold w'
        is' = tops_hold_on w w' m m' step off is

        link : LostLink w' m' is' x in_x s' at' i r' holds bare
        link = lost_link w' m' is' x in_x s' at' i r' holds bare

        lane : LaneStands says n lost link.p x i w
        lane = m.lanes x link.p i link.joins

        lane' : LaneStands says n lost link.p x i w'
        lane' = m'.lanes x link.p i link.joins

        port : LostStands x link.p i in_x link.joins bare w
        port = lost_stands x link.p i in_x link.joins bare w m

        same : port.s ≡ s
        same = same_there w.stations (n.place x) port.s s port.at at

        by : HoldsLast says (still n (pred base) best lost link.p x i) (since + delay) port.pu.held lane.lane.frames
            ⊎ HasLetGo says port.pu.held lane.lane.frames → (r : Reception) × HoldsAt s i r
        by (inl last) = (
          last.r,
          (
            port.pu,
            subst (λ (y : Station). slice_get y.ports i ≡ Some port.pu) same port.there,
            last.holds,
          ),
        )
        by (inr go) =
            let gone = (goes_on w w' m m' step off is x link.p i in_x link.joins bare port).1 go.none in
            absurd ((gone s' holds.0 lane'.lane at' holds.1 lane'.there).none r' holds.2)
