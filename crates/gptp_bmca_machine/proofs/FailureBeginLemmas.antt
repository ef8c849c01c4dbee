-- A system of a network at rest fails, which moves trees: they begin to fall back, and nobody of them has settled yet.
use Rattle.std.proofs.Common.{◌≡◌, ◌⊎◌, ◌<◌, ◌≤◌, ◌+◌, ◌∙◌, ℕ, suc, true, List, Some, slice_get, ap, subst, sym, inl, inr, arith}
use Rattle.gptp_lists.specs.Members.{In}
use Rattle.gptp_graph.specs.Best.{IsBest}
use Rattle.gptp_graph.specs.Snapshot.{Joins, PortIdentity, Snapshot, System, clocks, port_of}
use Rattle.gptp_graph.proofs.LinkLemmas.{Joins-sym}
use Rattle.gptp_bmca_machine.specs.Clean.{Whole}
use Rattle.gptp_bmca_machine.specs.CutTree.{Tree}
use Rattle.gptp_bmca_machine.specs.FailureTrees.{FailureMoves, Turning}
use Rattle.gptp_bmca_machine.specs.Frame.{Announce, AnnounceFrame, Lane, Spelling}
use Rattle.gptp_bmca_machine.specs.Levels.{LeadsFarther}
use Rattle.gptp_bmca_machine.specs.LossLaws.{IsLoss}
use Rattle.gptp_bmca_machine.specs.Network.{IsSettlingNetwork, Network}
use Rattle.gptp_bmca_machine.specs.SoundLaws.{IsSoundOnLinks}
use Rattle.gptp_bmca_machine.specs.Station.{Disabled, MachineState, Mine, Port, Received, Reception, Station}
use Rattle.gptp_bmca_machine.specs.TurnTree.{TurnsTree}
use Rattle.gptp_bmca_machine.specs.TwoTops.{TopsTree}
use Rattle.gptp_bmca_machine.proofs.EndsLemmas as ends
use Rattle.gptp_bmca_machine.proofs.FailureTreesLemmas.{FallBack}
use Rattle.gptp_bmca_machine.proofs.FallFailLemmas.{failing_begins, flown, moving_begins, moving_settles, root_still}
use Rattle.gptp_bmca_machine.proofs.FallLemmas.{IsAftermath, IsFalling, IsFreeAt}
use Rattle.gptp_bmca_machine.proofs.FallRestLemmas.{masters}
use Rattle.gptp_bmca_machine.proofs.LevelLemmas as level
use Rattle.gptp_bmca_machine.proofs.LinkStepLemmas.{lives_at}
use Rattle.gptp_bmca_machine.proofs.MovedTreeLemmas.{MovesTree}
use Rattle.gptp_bmca_machine.proofs.PlaceLemmas.{received_injective, same_there}
use Rattle.gptp_bmca_machine.proofs.RestingLemmas.{links_stay}
use Rattle.gptp_bmca_machine.proofs.StillLemmas.{levels_found, live_before, station_of}
use Rattle.gptp_bmca_machine.proofs.TurnLemmas.{OutIsAt, out_is_at}
use Rattle.gptp_bmca_machine.proofs.TurnLevelLemmas.{Times, TurnSettles, delay, way_leads}
use Rattle.gptp_bmca_machine.proofs.TurnTreeLemmas.{IsOf, LeadsOut, out_lives, out_was_best, out_whole, turns_moves, up_whole}

-- what is in flight on a link names the best of its sender
abbrev pub FlightNamesBests : Spelling → Snapshot → MachineState → Type 0
FlightNamesBests says g w = (j : ℕ) (l : Lane) (f : AnnounceFrame) (a : Announce) (best : System)
    → slice_get w.lanes j ≡ Some l → In f l.frames → says f.octets a → Joins g l.from l.to
    → IsBest g l.from.clock best → a.root ≡ best.identity

module _ (says : Spelling) (n0 n : Network) (net0 : IsSettlingNetwork n0) (w w' : MachineState)
    (loss : IsLoss says n0 n w w') (m' : IsAftermath says n0.graph n w') (named : FlightNamesBests says n0.graph w)
  where
    abbrev g : Snapshot
    g = n0.graph

    -- ---- a tree that turns

    module _ (tree : List ℕ) (top other last out : ℕ) (best : System) (base : ℕ) (depth : ℕ → ℕ)
        (t : TurnsTree g n tree top other last out best base depth) where
      abbrev m : MovesTree g n (IsOf tree) (LeadsOut last out) top best best base depth
      m = turns_moves g n tree top other last out best base depth t

      abbrev o : OutIsAt says g n tree top other last out best base depth t
      o = out_is_at says g n tree top other last out best base depth t

      -- what is on its way over a link names the best
      flown_best : (v p u q : ℕ) → Joins n.graph (port_of v (suc p)) (port_of u (suc q)) → IsBest g v best
          → (l : Lane) → slice_get w'.lanes (n.lane (port_of v (suc p))) ≡ Some l → (f : AnnounceFrame) (a : Announce)
          → In f l.frames → says f.octets a → a.root ≡ best.identity
      flown_best v p u q joins is_best l lane f a among said =
          let has = m'.kept.calm.lanes (port_of v (suc p)) (port_of u (suc q)) joins in
          let one = same_there w'.lanes (n.lane (port_of v (suc p))) has.lane l has.there lane in
          let from : l.from ≡ port_of v (suc p) = ap (λ (y : Lane). y.from) (sym one) ∙ has.from in
          let to : l.to ≡ port_of u (suc q) = ap (λ (y : Lane). y.to) (sym one) ∙ has.to in
          let was = loss.lanes (port_of v (suc p)) (port_of u (suc q)) l joins
          (subst (λ i. slice_get w'.lanes i ≡ Some l) (loss.same.lane (port_of v (suc p))) lane) in
          named (n0.lane (port_of v (suc p))) l f a best was among said
          (subst (λ k. Joins g k l.to) (sym from) (subst (Joins g (port_of v (suc p))) (sym to)
          (t.left.links (port_of v (suc p)) (port_of u (suc q)) joins)))
          (subst (λ (k : PortIdentity). IsBest g k.clock best) (sym from) is_best)

      came : (v p u q : ℕ) → In v tree → In u tree → Joins n.graph (port_of v (suc p)) (port_of u (suc q))
          → depth v ≡ suc (depth u) → (l : Lane) → slice_get w'.lanes (n.lane (port_of v (suc p))) ≡ Some l
          → (f : AnnounceFrame) (a : Announce) → In f l.frames → says f.octets a → Whole t.ways v a ⊎ In u a.path
      came v p u q in_v in_u joins higher l lane f a among said =
          up_whole g n tree top other last out best base depth t v u a in_v in_u
          (suc q, suc p, Joins-sym n.graph (port_of v (suc p)) (port_of u (suc q)) joins) higher
          (flown says n0 n net0 w w' loss m' (IsOf tree) (LeadsOut last out) top best best base depth m v p u q joins l
          lane f a among said)
          (flown_best v p u q joins (t.was_best v in_v) l lane f a among said)

      -- ---- what comes in by the way out

      module _ (p q : ℕ) (joins : Joins n.graph (port_of out (suc p)) (port_of last (suc q))) where
        joins0 : Joins g (port_of out (suc p)) (port_of last (suc q))
        joins0 = t.left.links (port_of out (suc p)) (port_of last (suc q)) joins

        out_best : IsBest g out best
        out_best = out_was_best g n tree top other last out best base depth t

        known0 : (v : ℕ) → In v (clocks n.graph) → In v (clocks g)
        known0 = live_before g n t.well t.left

        -- what was held there at rest is what the end of the way out tells, by its distance
        module _ (s : Station) (at : slice_get w.stations (n0.place last) ≡ Some s) (pu : Port)
            (there : slice_get s.ports q ≡ Some pu) (r : Reception) (holds : pu.held ≡ Received r) where
          root_then : r.said.root ≡ best.identity
          root_then = elim (way_leads says g n tree top other last out best base depth t w.time) [
            | inl down ↦
                let at_n = subst (λ i. slice_get w.stations i ≡ Some s) (sym (loss.same.place last)) at in
                let mine = masters says n0 n (IsOf tree) (LeadsOut last out) top best best base depth m net0 w
                loss.rests.calm loss.rests.invariant loss.rests.late loss.same last t.in_last s at_n q pu out (suc p)
                there (λ off. absurd (let both : Received r ≡ Disabled = sym holds ∙ off in cc))
                (Joins-sym n.graph (port_of out (suc p)) (port_of last (suc q)) joins) down in
                absurd (let both : Received r ≡ Mine best.identity (base + depth last) = sym holds ∙ mine in cc)
            | inr (same, lower) ↦ by same lower
                (ends.station_of n0 net0 w loss.rests.calm loss.rests.invariant.sound out
                (known0 out (out_lives g n tree top other last out best base depth t)))
          ]
            where
              by : o.d ≡ base + depth last → out < last
                  → ((sv : Station) × (slice_get w.stations (n0.place out) ≡ Some sv) × (sv.live ≡ true)
                  × (sv.clock ≡ out)) → r.said.root ≡ best.identity
              by same lower (sv, at_v, live, clock) =
                  let leads : LeadsFarther g o.d best out p last q =
                  record {
                    is_best = out_best;
                    here = o.there;
                    joins = joins0;
                    far = base + depth last;
                    there = t.was last t.in_last;
                    farther = inr (same, lower);
                  } in
                  let (pv, there_v) = level.port_there says n0 net0 w loss.rests.calm loss.rests.invariant.sound out p
                  (port_of last (suc q)) sv at_v joins0 in
                  let has = loss.rests.calm.lanes (port_of out (suc p)) (port_of last (suc q)) joins0 in
                  let stay = links_stay says n0 net0 w loss.rests.calm loss.rests.invariant loss.rests.late o.d best
                  out p last q o.near leads pv pu has.lane (record {
                    v = sv;
                    u = s;
                    teller = at_v;
                    teller_port = there_v;
                    hearer = at;
                    hearer_port = there;
                    lane = has.there;
                  }) in
                  let one = received_injective r stay.what (sym holds ∙ stay.holds) in
                  ap (λ (y : Reception). y.said.root) one ∙ stay.final.root

        inward : IsFreeAt says t.ways n out p last q w'
        inward s pu l at there lane = record {
          hears = λ r holds. held r holds;
          flight = λ f a among said.
              out_whole g n tree top other last out best base depth t a
              (flown says n0 n net0 w w' loss m' (IsOf tree) (LeadsOut last out) top best best base depth m out p last q
              joins l lane f a among said)
              (flown_best out p last q joins out_best l lane f a among said);
        }
          where
            is_last : (s.live ≡ true) × (s.clock ≡ last)
            is_last = lives_at n w' m'.kept.calm last (t.lives last t.in_last) s at

            was : slice_get w.stations (n.place last) ≡ Some s
            was = loss.stations (n.place last) s at is_last.0

            held : (r : Reception) → pu.held ≡ Received r → Whole t.ways out r.said
            held r holds =
                let root = root_then s (subst (λ i. slice_get w.stations i ≡ Some s) (loss.same.place last) was) pu
                there r holds in
                let came = loss.rests.whole.stations (n.place last) s q r was is_last.0 (pu, there, holds) in
                let one : came.from ≡ port_of out (suc p) =
                t.left.graph.one_link (port_of last (suc q)) came.from (port_of out (suc p))
                (Joins-sym g came.from (port_of last (suc q))
                (subst (λ c. Joins g came.from (port_of c (suc q))) is_last.1 came.joins))
                (Joins-sym g (port_of out (suc p)) (port_of last (suc q)) joins0) in
                let whole = subst (λ (k : PortIdentity). Whole g k.clock r.said) one came.whole in
                elim (out_whole g n tree top other last out best base depth t r.said whole root) [
                  | inl is ↦ is
                  | inr names ↦
                      absurd (((m'.kept.calm.facts.stations (n.place last) s at is_last.0).held q r
                      (pu, there, holds)).no_loop (subst (λ c. In c r.said.path) (sym is_last.1) names))
                ]

      pub turning_begins : (start : ℕ) → w'.time ≤ start
          → IsFalling says g n (IsOf tree) (LeadsOut last out) top best best base depth m start w'
      turning_begins =
          moving_begins says n0 n net0 w w' loss m' (IsOf tree) (LeadsOut last out) top best best base depth m came
          (λ v p u q (is_last, is_out) joins.
          subst (λ c. IsFreeAt says t.ways n c p u q w') (sym is_out)
          (subst (λ c. IsFreeAt says t.ways n out p c q w') (sym is_last)
          (inward p q (subst (λ c. Joins n.graph (port_of out (suc p)) (port_of c (suc q))) is_last
          (subst (λ c. Joins n.graph (port_of c (suc p)) (port_of u (suc q))) is_out joins)))))

      -- nobody has settled, and the way in hasn't turned
      pub turning_settles : (start over : ℕ) (before : ℕ → ℕ)
          (times : Times says g n tree top other last out best base depth t start over before)
          → TurnSettles says g n tree top other last out best base depth t start over before times w'
      turning_settles start over before times = record {
        levels = moving_settles says n0 n net0 w w' loss m' (IsOf tree) (LeadsOut last out) top best best base depth m
            start before (delay says g n tree top other last out best base depth t start over before times);
        way = λ p k joins leads turned.
            let (s, at, live, clock) = station_of g n t.well t.left w' m'.kept m'.fits.stations last
            (t.lives last t.in_last) in
            absurd (turned.0 s at (root_still says n0 n net0 w w' loss m' (IsOf tree) (LeadsOut last out) top best best
            base depth m last t.in_last s at));
      }

    -- ---- all trees

    pub failure_begins : (lost : ℕ) (best : System) (IsCut : Tree → Type 0) (IsTurned : Turning → Type 0)
        (IsTwice : TopsTree → Type 0) (moves : FailureMoves g n lost best IsCut IsTurned IsTwice) → IsSoundOnLinks says
        g w' → (start : ℕ) → w'.time ≤ start
        → FallBack says g n lost best IsCut IsTurned IsTwice moves start w'
    failure_begins lost best IsCut IsTurned IsTwice moves sound' start now = record {
      after = m';
      still = levels_found says n0 n net0 moves.well w w' loss m'.kept;
      sound = sound';
      cut = λ t cut.
          failing_begins says n0 n net0 w w' loss m' t.top best t.next t.base t.depth (moves.cut t cut) start now;
      turned = λ t is.
          turning_begins t.tree t.top lost t.last t.out best t.base t.depth (moves.turned t is) start now;
      none = λ late. absurd (omega (arith, late, now));
    }
