-- A tree with one or two tops that a failure cuts off: what is known of any loss says what its systems hold at ports
-- without a link.
use Rattle.std.proofs.Common.{◌≡◌, ◌<◌, ◌≤◌, ◌+◌, ℕ, suc, true, slice_get, Some, sym, ap, subst, ◌∙◌, inl, inr, arith}
use Rattle.gptp_lists.specs.Members.{In}
use Rattle.gptp_graph.specs.Best.{IsBest}
use Rattle.gptp_graph.specs.Snapshot.{IsLinked, Snapshot, System, port_of}
use Rattle.gptp_graph.proofs.BestLemmas.{IsBest-unique}
use Rattle.gptp_bmca_machine.specs.Clean.{HeldFits}
use Rattle.gptp_bmca_machine.specs.Frame.{Spelling}
use Rattle.gptp_bmca_machine.specs.LossLaws.{IsAfterLoss}
use Rattle.gptp_bmca_machine.specs.Network.{Network}
use Rattle.gptp_bmca_machine.specs.Station.{HoldsAt, MachineState, Reception, Station}
use Rattle.gptp_bmca_machine.specs.TwoTops.{Side, CutsOffTwice}
use Rattle.gptp_bmca_machine.proofs.UnlinkedLemmas.{IsMoved, IsOldTold, UnlinkedDrop, UnlinkedHoldNone}
use Rattle.gptp_bmca_machine.proofs.FallLemmas.{IsAftermath}
use Rattle.gptp_bmca_machine.proofs.LinkStepLemmas.{lives_at}
use Rattle.gptp_bmca_machine.proofs.StaleEndLemmas.{BareHoldNone}
use Rattle.gptp_bmca_machine.proofs.StaleLemmas.{BareDrop, BareHoldStale}
use Rattle.gptp_bmca_machine.proofs.TwoTopsWayLemmas.{least_deep, least_most}

module _ (says : Spelling) (g : Snapshot) (n : Network) (top : Side → ℕ) (best next : System) (base : ℕ)
    (depth : Side → ℕ → ℕ) (c : CutsOffTwice g n top best next base depth) where
  -- its systems are moved
  pub tops_moved : (x : ℕ) → IsBest n.graph x next → IsMoved g n x
  tops_moved x in_x unmoved =
      let one = ap (λ (b : System). b.identity)
      (IsBest-unique n.graph x best next c.tree.well (unmoved.best best (c.was_best x in_x)) in_x) in
      let worse = c.worse in
      omega (arith, worse, one)

  -- what they hold there was told before
  pub bare_stale : (w : MachineState) → IsAftermath says g n w
      → BareHoldStale says n next top depth c.tree best.identity base c.worse w
  bare_stale w m x s i r in_x at holds bare = record {
    side = is_top.0;
    is_top = is_top.1;
    root = told.0;
    steps = steps;
    long = fits.long best is_best told.0;
    names = λ y in_y among.
        let few = fits.members best y (base + least_deep depth y) is_best told.0 among (c.was_best y in_y)
        (c.was y in_y) in
        omega (arith, few, steps);
  }
    where
      is_x : (s.live ≡ true) × (s.clock ≡ x)
      is_x = lives_at n w m.kept.calm x in_x.reached.1.begins s at

      old : IsOldTold g n x r.said
      old =
          subst (λ y. IsOldTold g n y r.said) is_x.1
          (m.dark (n.place x) s i r at is_x.0 (subst (IsMoved g n) (sym is_x.1) (tops_moved x in_x)) holds
          (λ linked. bare (subst (λ y. IsLinked n.graph (port_of y (suc i))) is_x.1 linked)))

      is_top : (side : Side) × (x ≡ top side)
      is_top = elim (c.lost x old.from in_x old.beside) [ inl joined ↦ absurd (old.gone joined) | inr is ↦ is ]

      told : (r.said.root ≡ best.identity) × (suc r.said.steps ≡ base + least_deep depth x)
      told = old.old best (base + least_deep depth x) (c.was_best x in_x) (c.was x in_x)

      steps : suc r.said.steps ≡ base
      steps =
          let zero_deep = ap (depth is_top.0) is_top.1 ∙ c.tree.first is_top.0 in
          let few = least_most depth is_top.0 x in
          let far = told.1 in
          omega (arith, zero_deep, few, far)

      fits : HeldFits g s.clock r.said
      fits = (m.fits.stations (n.place x) s i r at is_x.0 holds).fits

      is_best : IsBest g s.clock best
      is_best = subst (λ y. IsBest g y best) (sym is_x.1) (c.was_best x in_x)

  -- and nothing once the time is over
  pub bare_none : (start : ℕ) (w : MachineState) → IsAfterLoss n w → UnlinkedHoldNone g n start w
      → BareHoldNone says n next top depth c.tree best.identity base c.worse start w
  bare_none start w kept none late x s i r in_x at holds bare =
      let (live, clock) = lives_at n w kept.calm x in_x.reached.1.begins s at in
      none late x s i r (tops_moved x in_x) at live clock bare holds

  -- and what they hold there after a step they held
  pub bare_drop : (w w' : MachineState) → IsAfterLoss n w' → UnlinkedDrop g n w w'
      → BareDrop says n next top depth c.tree best.identity base c.worse w w'
  bare_drop w w' kept' drops x s s' i r' in_x at at' bare holds =
      let (live, clock) = lives_at n w' kept'.calm x in_x.reached.1.begins s' at' in
      drops x s s' i r' (tops_moved x in_x) at at' live clock bare holds
