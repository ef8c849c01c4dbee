-- Trees that the failure of a system moves: what the system at the top of one holds that was told over a lost link.
-- That is what the failed system told last, which was the nearer one.
use Rattle.std.proofs.Common.{◌≡◌, ◌⊎◌, ◌<◌, ◌≤◌, ◌+◌, ℕ, ℤ, zero, suc, pred, true, Some, slice_get, refl, sym, ap, subst, ◌∙◌, inl, inr, arith}
use Rattle.gptp_lists.specs.Members.{In}
use Rattle.gptp_lists.proofs.PlaceLemmas.{member_there}
use Rattle.gptp_graph.specs.Best.{IsBest}
use Rattle.gptp_graph.specs.Distance.{IsDistance}
use Rattle.gptp_graph.specs.Path.{Reaches}
use Rattle.gptp_graph.specs.Snapshot.{Adjacent, IsLinked, Joins, PortIdentity, Snapshot, System, clocks, port_of}
use Rattle.gptp_graph.proofs.BestLemmas.{IsBest-neighbour, IsBest-unique}
use Rattle.gptp_graph.proofs.DistanceLemmas.{IsDistance-best, IsDistance-clock, IsDistance-neighbour, IsDistance-unique, best_at_zero, nearer_neighbour}
use Rattle.gptp_graph.proofs.ExistenceLemmas.{distance_exists}
use Rattle.gptp_graph.proofs.LinkLemmas.{Adjacent-clock, Adjacent-sym, Joins-clock, Joins-sym}
use Rattle.gptp_graph.proofs.PathLemmas.{Reaches-self}
use Rattle.gptp_graph.proofs.SystemLemmas.{same_clock, system_of}
use Rattle.gptp_bmca_machine.specs.Acts.{MachineSteps}
use Rattle.gptp_bmca_machine.specs.CutTree.{LosesSystem}
use Rattle.gptp_bmca_machine.specs.Facts.{station_system}
use Rattle.gptp_bmca_machine.specs.Frame.{Spelling}
use Rattle.gptp_bmca_machine.specs.LossLaws.{EverythingFits, IsAfterLoss}
use Rattle.gptp_bmca_machine.specs.Network.{Network}
use Rattle.gptp_bmca_machine.specs.Station.{Disabled, HoldsAt, MachineState, Port, Received, Reception, Station}
use Rattle.gptp_bmca_machine.proofs.FallLeaveLemmas.{TreeAnswers, answers_or_stands}
use Rattle.gptp_bmca_machine.proofs.UnlinkedLemmas.{IsOldTold}
use Rattle.gptp_bmca_machine.proofs.LevelLemmas.{places_of}
use Rattle.gptp_bmca_machine.proofs.LinkStepLemmas.{AtLink, LaneStands, lives_at}
use Rattle.gptp_bmca_machine.proofs.MovedTreeLemmas.{MovesTree}
use Rattle.gptp_bmca_machine.proofs.LostPortLemmas.{HasLetGo, HoldsLast, IsLastState, StaysAsNamed, last_on}
use Rattle.gptp_bmca_machine.proofs.PlaceLemmas.{received_injective, same_there}
use Rattle.gptp_bmca_machine.proofs.ReactsLemmas.{held_from}
use Rattle.gptp_bmca_machine.proofs.StillLemmas.{adjacent_before, live_before, station_of, still}

module _ (says : Spelling) (g : Snapshot) (n : Network) (Tree : ℕ → Type 0) (Out : ℕ → ℕ → Type 0) (lost top : ℕ)
    (best next : System) (base : ℕ) (depth : ℕ → ℕ) (loses : LosesSystem g n lost)
    (t : MovesTree g n Tree Out top best next base depth) (in_top : Tree top) where
  known : In top (clocks n.graph)
  known = t.lives top in_top

  pub top_far : (d : ℕ) → base ≡ d → IsDistance g top d
  top_far d is = subst (IsDistance g top) (let none = t.first in omega (arith, is, none)) (t.was top in_top)

  -- the top wasn't the best of before
  not_zero : base ≡ 0 → ⊥
  not_zero none = elim (t.worse top in_top) [
    | inl worse ↦
        let (s, live, named) = system_of n.graph top known in
        let one = same_clock g s best t.left.graph (loses.systems s live) (t.was_best top in_top).live
        (named ∙ sym clock) in
        let least = (t.best_now top in_top).least s live
        (subst (Reaches n.graph top) (sym named) (Reaches-self n.graph top known)) in
        let identity = ap (λ (b : System). b.identity) one in
        omega (arith, least, identity, worse)
    | inr (same, more) ↦
        let is = subst (λ b. IsBest t.ways b.clock b) (sym same)
        (subst (λ c. IsBest t.ways c next) (sym clock ∙ ap (λ (b : System). b.clock) same) (t.is_best top in_top)) in
        let here = more 0 (subst (λ c. IsDistance t.ways c 0) clock (IsDistance-best t.ways best is)) in
        omega (arith, here)
  ]
    where
      clock : best.clock ≡ top
      clock = best_at_zero g top best t.left.graph (t.was_best top in_top) (top_far 0 none)

  -- the failed system was nearer by one
  pub lost_far : (d : ℕ) → base ≡ suc d → IsDistance g lost d
  lost_far d is = go (nearer_neighbour g top d t.left.graph (top_far (suc d) is))
    where
      go : ((u : ℕ) × Adjacent g top u × IsDistance g u d) → IsDistance g lost d
      go (u, (i, k, joins), far) = elim (loses.others u (IsDistance-clock g u d t.left.graph far)) [
        | inr is_lost ↦ subst (λ c. IsDistance g c d) is_lost far
        | inl live ↦ absurd (elim (t.beside top u in_top (joined live)) [
          | inl in_u ↦
              let one = IsDistance-unique g u d (base + depth u) t.left.graph far (t.was u in_u) in
              omega (arith, one, is)
          | inr out ↦ beyond out (joined live) (t.worse top in_top)
        ])
      ]
        where
          joined : In u (clocks n.graph) → Adjacent n.graph top u
          joined live = (i, k, loses.links (port_of top i) (port_of u k) joins known live)

          beyond : Out top u → Adjacent n.graph top u → (best.identity < next.identity)
              ⊎ ((best ≡ next) × ((far : ℕ) → IsDistance t.ways top far → base + depth top < far)) → ⊥
          beyond out next_to (inl worse) =
              let was = IsBest-neighbour g top u best t.left.graph (i, k, joins) (t.was_best top in_top) in
              let now = IsBest-neighbour n.graph top u next t.well next_to (t.best_now top in_top) in
              let one = ap (λ (b : System). b.identity)
              (IsBest-unique n.graph u best next t.well ((t.unmoved top u out).best best was) now) in
              omega (arith, worse, one)
          beyond out next_to (inr (same, more)) =
              let (e, here) = distance_exists t.ways top t.ways_well (live_before t.ways n t.well t.ways_left top known)
              in
              let there = t.far_now u d (inr (top, out)) ((t.unmoved top u out).far d far) in
              let over = adjacent_before t.ways n t.well t.ways_left top u next_to in
              let by = IsDistance-neighbour t.ways u top d e t.ways_well (Adjacent-sym t.ways top u over) there here in
              let less = more e here in
              omega (arith, by, less, is)

  pub base_is : base ≡ suc (pred base)
  base_is = go base refl
    where
      go : (b : ℕ) → base ≡ b → base ≡ suc (pred base)
      go zero is = absurd (not_zero is)
      go (suc b) is = omega (arith, is)

  -- a link of before at a port that none is at now led from the failed system to the top
  pub lost_at : (x : ℕ) (to : PortIdentity) (i : ℕ) → Tree x → Joins g (port_of x (suc i)) to
      → (IsLinked n.graph (port_of x (suc i)) → ⊥) → (x ≡ top) × (to.clock ≡ lost)
  lost_at x to i in_x joins bare = elim (loses.others to.clock (Joins-clock g to (port_of x (suc i)) t.left.graph
      (Joins-sym g (port_of x (suc i)) to joins))) [
        | inl live ↦ absurd (bare (
          to,
          loses.links (port_of x (suc i)) to joins (t.lives x in_x) live,
        ))
        | inr is_lost ↦ (
          (elim (t.lost x to.clock in_x (suc i, to.port, joins)) [
            | inr is_top ↦ is_top
            | inl stays ↦ absurd (loses.dead (subst (λ c. In c (clocks n.graph)) is_lost
                (Adjacent-clock n.graph x to.clock t.well stays)))
          ]),
          is_lost,
        )
      ]

  module _ (stay : ℤ → ℕ) (since delay : ℕ) (shorter : n.most ≤ delay)
      (long : (p i : ℕ) → Joins g (port_of lost (suc p)) (port_of top (suc i))
      → n.interval_of (port_of lost (suc p)) + delay < stay (n.log_of (port_of lost (suc p)))) where
    -- what is known of each state
    pub record IsTopState (w : MachineState) : Type 0 where
      pub kept : IsAfterLoss n w
      pub fits : EverythingFits says g n w
      pub lanes : (p i : ℕ) → Joins g (port_of lost (suc p)) (port_of top (suc i))
          → LaneStands says n lost p top i w
      pub named : StaysAsNamed stay w
      pub later : since ≤ w.time

    -- what the port holds that the failed system told last, until it lets it go
    abbrev pub HoldsOrNot : ℕ → ℕ → MachineState → Type 0
    HoldsOrNot p i w =
        AtLink says n lost p top i (λ held fs. HoldsLast says (still n (pred base) best lost p top i) (since + delay)
        held fs ⊎ HasLetGo says held fs) w

    -- so do all whose link to it is lost; and other ports without a link hold nothing
    pub record TopHolds (w : MachineState) : Type 0 where
      pub last : (p i : ℕ) → Joins g (port_of lost (suc p)) (port_of top (suc i))
          → (IsLinked n.graph (port_of top (suc i)) → ⊥) → HoldsOrNot p i w
      pub bare : (x : ℕ) → Tree x → (s : Station) (i : ℕ) (r : Reception)
          → slice_get w.stations (n.place x) ≡ Some s → HoldsAt s i r → IsLinked g (port_of x (suc i))

    -- ports that aren't capable stay so, where their link is lost
    abbrev pub LostStayOff : MachineState → MachineState → Type 0
    LostStayOff w w' = (p i : ℕ) → Joins g (port_of lost (suc p)) (port_of top (suc i))
        → (IsLinked n.graph (port_of top (suc i)) → ⊥)
        → (s s' : Station) (pu pu' : Port) → slice_get w.stations (n.place top) ≡ Some s
        → slice_get s.ports i ≡ Some pu → slice_get w'.stations (n.place top) ≡ Some s'
        → slice_get s'.ports i ≡ Some pu' → pu.held ≡ Disabled
        → pu'.held ≡ Disabled

    -- the port of the top stands
    pub record PortStands (w : MachineState) (m : IsTopState w) (i : ℕ) : Type 0 where
      pub s : Station
      pub at : slice_get w.stations (n.place top) ≡ Some s
      pub pu : Port
      pub there : slice_get s.ports i ≡ Some pu

    port_stands : (w : MachineState) (m : IsTopState w) (p i : ℕ)
        → Joins g (port_of lost (suc p)) (port_of top (suc i)) → PortStands w m i
    port_stands w m p i joins = by (station_of g n t.well t.left w m.kept m.fits.stations top known)
      where
        by : ((s : Station) × (slice_get w.stations (n.place top) ≡ Some s) × (s.live ≡ true) × (s.clock ≡ top))
            → PortStands w m i
        by (s, at, live, clock) =
            let (y, in_y, is_port) = t.left.graph.ends (port_of top (suc i)) (port_of lost (suc p))
            (Joins-sym g (port_of lost (suc p)) (port_of top (suc i)) joins) in
            let same : y ≡ station_system s =
            same_clock g y (station_system s) t.left.graph in_y
            (loses.systems (station_system s) (m.kept.calm.facts.stations (n.place top) s at live).known)
            (is_port.clock ∙ sym clock) in
            let (pu, there) = member_there s.ports i (subst (λ (z : System). suc i ≤ z.ports) same is_port.last) in
            record { s = s; at = at; pu = pu; there = there }

    module _ (w w' : MachineState) (m : IsTopState w) (m' : IsTopState w') (step : MachineSteps says w w')
        (off : LostStayOff w w') (is : TopHolds w) where
      module _ (p i : ℕ) (joins : Joins g (port_of lost (suc p)) (port_of top (suc i)))
          (bare : IsLinked n.graph (port_of top (suc i)) → ⊥) where
        state_at : (x : MachineState) → IsTopState x
            → IsLastState says g n t.well t.left lost p top i joins known loses.dead best (pred base)
            (t.was_best top in_top) (top_far (suc (pred base)) base_is) stay since delay (long p i joins) shorter x
        state_at x m_x = record {
          kept = m_x.kept;
          fits = m_x.fits.stations;
          lane = m_x.lanes p i joins;
          named = m_x.named;
          later = m_x.later;
        }

        goes_on : (here : PortStands w m i) → HoldsOrNot p i w'
            × (((r : Reception) → here.pu.held ≡ Received r → ⊥) → AtLink says n lost p top i (HasLetGo says) w')
        goes_on here =
            last_on says g n t.well t.left lost p top i joins known loses.dead best (pred base)
            (t.was_best top in_top) (top_far (suc (pred base)) base_is) stay since delay (long p i joins) shorter w w'
            (state_at w m) (state_at w' m') step (off p i joins bare) here.s here.at here.pu here.there
            (is.last p i joins bare)

      -- nothing is heard at a port that never had a link
      bare_then : (x : ℕ) → Tree x → (s' : Station) (i : ℕ) (r : Reception)
          → slice_get w'.stations (n.place x) ≡ Some s' → HoldsAt s' i r → IsLinked g (port_of x (suc i))
      bare_then x in_x s' i r at' holds = elim (answers_or_stands says n (λ c. ⊥) x w w' m.kept.calm m'.kept.calm
          (t.lives x in_x) step
          s' at') [
            | inl stood ↦ is.bare x in_x s' i r stood holds
            | inr z ↦ answered z (same_there w'.stations (n.place x) z.s' s' z.there at')
          ]
        where
          answered : (z : TreeAnswers says n (λ c. ⊥) x w w') → z.s' ≡ s' → IsLinked g (port_of x (suc i))
          answered z one = elim (held_from says z.s z.s' z.touch w.time z.sends z.reacts i r
              (subst (λ (y : Station). HoldsAt y i r) (sym one) holds)) [
                | inl before ↦ is.bare x in_x z.s i r z.here before
                | inr just ↦
                    let (j, l, f, at_j, among, said, to) = z.heard i just.said just.touched in
                    let clock = (lives_at n w m.kept.calm x (t.lives x in_x) z.s z.here).1 in
                    let ends : l.to ≡ port_of x (suc i) = to ∙ (λ j. port_of (clock j) (suc i)) in
                    let fits = m.fits.lanes j l f just.said at_j among said
                    (subst (λ (k : PortIdentity). In k.clock (clocks n.graph)) (sym ends) (t.lives x in_x)) in (
                      l.from,
                      Joins-sym g l.from (port_of x (suc i)) (subst (Joins g l.from) ends fits.joins),
                    )
              ]

      pub top_holds_on : TopHolds w'
      top_holds_on = record {
        last = λ p i joins bare. (goes_on p i joins bare (port_stands w m p i joins)).0;
        bare =
            bare_then;
      }

    -- ---- so what such a port holds was told last

    module _ (w : MachineState) (m : IsTopState w) (is : TopHolds w) (x : ℕ) (in_x : Tree x)
        (s : Station) (at : slice_get w.stations (n.place x) ≡ Some s) (i : ℕ) (r : Reception) (holds : HoldsAt s i r)
        (bare : IsLinked n.graph (port_of x (suc i)) → ⊥) where
      -- its lost link
      pub record LostLink : Type 0 where
        pub p : ℕ
        pub is_top : x ≡ top
        pub joins : Joins g (port_of lost (suc p)) (port_of top (suc i))

      lost_link : LostLink
      lost_link = go (is.bare x in_x s i r at holds)
        where
          go : ((to : PortIdentity) × Joins g (port_of x (suc i)) to) → LostLink
          go (to, joins) =
              let (is_top, is_lost) = lost_at x to i in_x joins bare in
              let (a, p, first, second) = places_of g x (suc i) to.clock to.port t.left.graph joins in
              record {
                p = p;
                is_top = is_top;
                joins = Joins-sym g (port_of top (suc i)) (port_of lost (suc p))
                    (subst (λ c. Joins g (port_of c (suc i)) (port_of lost (suc p))) is_top
                    (subst (Joins g (port_of x (suc i))) (λ j. port_of (is_lost j) (second j)) joins));
              }

      pub held_last : IsOldTold g n x r.said
      held_last = by (is.last lost_link.p i lost_link.joins
          (subst (λ c. IsLinked n.graph (port_of c (suc i)) → ⊥) lost_link.is_top bare) s holds.0 lane.lane
          (subst (λ c. slice_get w.stations (n.place c) ≡ Some s) lost_link.is_top at) holds.1 lane.there)
        where
          lane : LaneStands says n lost lost_link.p top i w
          lane = m.lanes lost_link.p i lost_link.joins

          by : HoldsLast says (still n (pred base) best lost lost_link.p top i) (since + delay) holds.0.held
              lane.lane.frames ⊎ HasLetGo says holds.0.held lane.lane.frames → IsOldTold g n x r.said
          by (inr go) = absurd (go.none r holds.2)
          by (inl last) =
              let one = received_injective r last.r (sym holds.2 ∙ last.holds) in
              record {
                from = lost;
                beside = (
                  suc i,
                  suc lost_link.p,
                  subst (λ c. Joins g (port_of c (suc i)) (port_of lost (suc lost_link.p))) (sym lost_link.is_top)
                      (Joins-sym g (port_of lost (suc lost_link.p)) (port_of top (suc i)) lost_link.joins),
                );
                gone = λ joined. loses.dead (Adjacent-clock n.graph x lost t.well joined);
                old = λ b d is_b far. (
                  ap (λ (z : Reception). z.said.root) one ∙ last.final.root
                      ∙ ap (λ (z : System). z.identity)
                      (IsBest-unique g x best b t.left.graph (t.was_best x in_x) is_b),
                  let steps = ap (λ (z : Reception). z.said.steps) one ∙ last.final.steps in
                      let same = IsDistance-unique g x d (base + depth x) t.left.graph far (t.was x in_x) in
                      let none = ap depth lost_link.is_top ∙ t.first in
                      let above = base_is in
                      omega (arith, steps, same, none, above),
                );
              }

    -- ---- and what it holds after a step it held

    module _ (w w' : MachineState) (m : IsTopState w) (m' : IsTopState w') (step : MachineSteps says w w')
        (off : LostStayOff w w') (is : TopHolds w) where
      pub top_drops : (x : ℕ) → Tree x → (s s' : Station) (i : ℕ) (r' : Reception)
          → slice_get w.stations (n.place x) ≡ Some s → slice_get w'.stations (n.place x) ≡ Some s'
          → (IsLinked n.graph (port_of x (suc i)) → ⊥) → HoldsAt s' i r'
          → (r : Reception) × HoldsAt s i r
      top_drops x in_x s s' i r' at at' bare holds = by (is.last link.p i link.joins bare_top port.s port.pu lane.lane
          port.at port.there lane.there)
        where
          link : LostLink w' m' (top_holds_on w w' m m' step off is) x in_x s' at' i r' holds bare
          link = lost_link w' m' (top_holds_on w w' m m' step off is) x in_x s' at' i r' holds bare

          bare_top : IsLinked n.graph (port_of top (suc i)) → ⊥
          bare_top = subst (λ c. IsLinked n.graph (port_of c (suc i)) → ⊥) link.is_top bare

          lane : LaneStands says n lost link.p top i w
          lane = m.lanes link.p i link.joins

          lane' : LaneStands says n lost link.p top i w'
          lane' = m'.lanes link.p i link.joins

          port : PortStands w m i
          port = port_stands w m link.p i link.joins

          same : port.s ≡ s
          same = same_there w.stations (n.place top) port.s s port.at
              (subst (λ c. slice_get w.stations (n.place c) ≡ Some s) link.is_top at)

          by : HoldsLast says (still n (pred base) best lost link.p top i) (since + delay) port.pu.held lane.lane.frames
              ⊎ HasLetGo says port.pu.held lane.lane.frames → (r : Reception) × HoldsAt s i r
          by (inl last) = (
            last.r,
            (
              port.pu,
              subst (λ (y : Station). slice_get y.ports i ≡ Some port.pu) same port.there,
              last.holds,
            ),
          )
          by (inr go) =
              let gone = (goes_on w w' m m' step off is link.p i link.joins bare_top port).1 go.none in
              absurd ((gone s' holds.0 lane'.lane
              (subst (λ c. slice_get w'.stations (n.place c) ≡ Some s') link.is_top at') holds.1 lane'.there).none r'
              holds.2)
