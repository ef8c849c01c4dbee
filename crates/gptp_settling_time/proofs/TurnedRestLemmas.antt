-- Once a tree has turned by its one way out each link at it that leads farther is at rest, and so are those outside
-- where all others are unmoved. What is held may name the tree by the way of before, until traces are told anew.
use Rattle.std.proofs.Common.{◌≡◌, ◌<◌, ◌≤◌, ◌+◌, ℕ, suc, List, sym, subst, ◌∙◌, inl, inr, arith}
use Rattle.gptp_lists.specs.Members.{In}
use Rattle.gptp_graph.specs.Distance.{IsDistance}
use Rattle.gptp_graph.specs.Snapshot.{Joins, Snapshot, System, clocks, port_of}
use Rattle.gptp_graph.proofs.BestLemmas.{IsBest-neighbour, IsBest-unique}
use Rattle.gptp_graph.proofs.DecisionLemmas.{in_dec}
use Rattle.gptp_graph.proofs.DistanceLemmas.{IsDistance-unique}
use Rattle.gptp_graph.proofs.LinkLemmas.{Joins-clock, Joins-sym}
use Rattle.gptp_bmca_machine.specs.Frame.{Spelling}
use Rattle.gptp_bmca_machine.specs.Levels.{LeadsFarther}
use Rattle.gptp_bmca_machine.specs.LossLaws.{Unmoved}
use Rattle.gptp_bmca_machine.specs.Network.{Network, wiring}
use Rattle.gptp_bmca_machine.specs.SoundLaws.{UnlinkedAreOff}
use Rattle.gptp_bmca_machine.specs.Station.{Disabled, MachineState, Received}
use Rattle.gptp_bmca_machine.specs.TurnTree.{TurnsTree}
use Rattle.gptp_bmca_machine.proofs.LinkEndsLemmas.{ends_by}
use Rattle.gptp_bmca_machine.proofs.MovedTreeLemmas.{LeadsDown}
use Rattle.gptp_bmca_machine.proofs.StillLemmas.{best_was, far_was}
use Rattle.gptp_bmca_machine.proofs.TurnEndLemmas.{past, system_follows}
use Rattle.gptp_bmca_machine.proofs.TurnLemmas.{OutIsAt, TurnsBack, out_chooses, out_is_at}
use Rattle.gptp_bmca_machine.proofs.TurnLevelLemmas.{Times, TurnSettles, delay, tree_times, way_in, way_leads}
use Rattle.gptp_bmca_machine.proofs.TurnOutLemmas.{back, show_out, turned}
use Rattle.gptp_bmca_machine.proofs.TurnTreeLemmas.{IsOf, LeadsOut, beyond_out, out_unmoved, out_was_best, turns_moves}
use Rattle.gptp_settling_time.proofs.AtRestLemmas.{LinkAtRest, few}
use Rattle.gptp_settling_time.proofs.FitsLemmas.{UnlinkedHoldNothing}
use Rattle.gptp_settling_time.proofs.MovedRestLemmas.{all_rest, moved_rests, stands_rests, still_rests}
use Rattle.gptp_settling_time.proofs.TellsRightLemmas.{IsSettledState}

module _ (says : Spelling) (g : Snapshot) (n : Network) (tree : List ℕ) (top other last out : ℕ) (best : System)
    (base : ℕ) (depth : ℕ → ℕ) (t : TurnsTree g n tree top other last out best base depth) (start over : ℕ)
    (before : ℕ → ℕ) (times : Times says g n tree top other last out best base depth t start over before)
    (w : MachineState) (is : TurnsBack says g n tree top other last out best base depth t start w)
    (settles : TurnSettles says g n tree top other last out best base depth t start over before times w)
    (late : (e : ℕ) → suc (suc e) ≤ n.reach → before e ≤ w.time) where
  abbrev o : OutIsAt says g n tree top other last out best base depth t
  o = out_is_at says g n tree top other last out best base depth t

  -- the way in
  way_in_link : (p q : ℕ) → Joins n.graph (port_of out (suc p)) (port_of last (suc q))
      → before o.d ≤ w.time → LinkAtRest says (wiring n o.d best out p last q) w
  way_in_link p q joins by_now = elim (way_leads says g n tree top other last out best base depth t start) [
    | inr (same, lower) ↦
        still_rests says g n t.well t.left w is.back.after.kept is.back.after.fits is.back.still o.d best out p last q
        o.near (record {
          unmoved = out_unmoved g n tree top other last out best base depth t;
          is_best = out_was_best g n tree top other last out best base depth t;
          here = o.there;
          joins = joins;
          far = base + depth last;
          there = t.was last t.in_last;
          farther = inr (same, lower);
        })
    | inl leads ↦ turned_link leads
  ]
    where
      over_way : Joins n.graph (port_of last (suc q)) (port_of out (suc p))
      over_way = Joins-sym n.graph (port_of out (suc p)) (port_of last (suc q)) joins

      turned_link : LeadsDown g (IsOf tree) (LeadsOut last out) base depth last out
          → LinkAtRest says (wiring n o.d best out p last q) w
      turned_link leads =
          let wait = delay says g n tree top other last out best base depth t start over before times o.d in
          let has = turned says g n tree top other last out best base depth t start q p over_way leads w is
          (let by = times.heard in let more = times.room o.d in omega (arith, by, more, by_now)) in
          let way_back = back says g n tree top other last out best base depth t start q p over_way leads in
          stands_rests says g n t.well t.left w is.back.after.kept is.back.after.fits (before o.d) o.d best out p last q
          way_back
          (out_chooses says g n tree top other last out best base depth t w is.back.after is.back.still)
          (ends_by g n t.well t.left (before o.d) o.d best out p last q way_back wait w is.back.after.kept
          is.back.after.fits.stations
          (show_out says g n tree top other last out best base depth t start q p over_way leads (before o.d) wait w is
          has)) (settles.way q p over_way leads has) by_now

  -- ---- links at the tree

  module _ (d : ℕ) (c : System) (v p u q : ℕ) (close : d < 255) (leads : LeadsFarther n.graph d c v p u q) where
    over_back : Joins n.graph (port_of u (suc q)) (port_of v (suc p))
    over_back = Joins-sym n.graph (port_of v (suc p)) (port_of u (suc q)) leads.joins

    -- the way out doesn't lead farther
    not_out : In v tree → (v ≡ last) × (u ≡ out) → ⊥
    not_out in_v (is_last, is_out) =
        let far = beyond_out g n tree top other last out best base depth t d v o.d in_v leads.here o.now in
        let end = IsDistance-unique n.graph out leads.far o.d t.well
        (subst (λ x. IsDistance n.graph x leads.far) is_out leads.there) o.now in
        elim leads.farther [
          | inl less ↦ omega (arith, less, far, end)
          | inr (equal, lower) ↦ omega (arith, equal, far, end)
        ]

    -- from one of its systems
    pub from_rests : In v tree → LinkAtRest says (wiring n d c v p u q) w
    from_rests in_v = elim (t.leaves v u in_v (suc p, suc q, leads.joins)) [
      | inr at_out ↦ absurd (not_out in_v at_out)
      | inl in_u ↦
          let one : best ≡ c = IsBest-unique n.graph v best c t.well (t.is_best v in_v) leads.is_best in
          subst (λ b. LinkAtRest says (wiring n d b v p u q) w) one
          (moved_rests says g n (IsOf tree) (LeadsOut last out) top best best base depth
          (turns_moves g n tree top other last out best base depth t) t.paths t.few start over before
          (tree_times says g n tree top other last out best base depth t start over before times) w is.back.after
          is.back.falling
          (way_in says g n tree top other last out best base depth t start over before times w is settles.way)
          settles.levels late
          (past says g n tree top other last out best base depth t start over before times w is settles late) d v p u q
          close in_v in_u (subst (λ b. LeadsFarther n.graph d b v p u q) (sym one) leads))
    ]

    -- to one of them
    pub to_rests : In u tree → LinkAtRest says (wiring n d c v p u q) w
    to_rests in_u = elim (t.leaves u v in_u (suc q, suc p, over_back)) [
      | inl in_v ↦ from_rests in_v
      | inr (is_last, is_out) ↦
          let of_best = IsBest-neighbour n.graph u v best t.well (suc q, suc p, over_back) (t.is_best u in_u) in
          let one : best ≡ c = IsBest-unique n.graph v best c t.well of_best leads.is_best in
          let same : o.d ≡ d = IsDistance-unique n.graph out o.d d t.well o.now
          (subst (λ x. IsDistance n.graph x d) is_out leads.here) in
          subst (λ b. LinkAtRest says (wiring n d b v p u q) w) one
          (subst (λ x. LinkAtRest says (wiring n x best v p u q) w) same
          (subst (λ x. LinkAtRest says (wiring n o.d best x p u q) w) (sym is_out)
          (subst (λ x. LinkAtRest says (wiring n o.d best out p x q) w) (sym is_last)
          (way_in_link p q
          (subst (λ x. Joins n.graph (port_of x (suc p)) (port_of last (suc q))) is_out
          (subst (λ x. Joins n.graph (port_of v (suc p)) (port_of x (suc q))) is_last leads.joins))
          (subst (λ x. before x ≤ w.time) (sym same) (late d (few n t.well t.paths d c v p u q leads)))))))
    ]

  -- ---- where all others are unmoved

  module _ (others : (v : ℕ) → In v (clocks n.graph) → (In v tree → ⊥) → Unmoved g n v)
      (dark : UnlinkedAreOff n.graph w) where
    links : (d : ℕ) (c : System) (v p u q : ℕ) → d < 255 → LeadsFarther n.graph d c v p u q
        → LinkAtRest says (wiring n d c v p u q) w
    links d c v p u q close leads = elim (in_dec v tree) [
      | yes in_v ↦ from_rests d c v p u q close leads in_v
      | no out_v ↦ elim (in_dec u tree) [
        | yes in_u ↦ to_rests d c v p u q close leads in_u
        | no out_u ↦
            let u_v = others v
            (Joins-clock n.graph (port_of v (suc p)) (port_of u (suc q)) t.well leads.joins) out_v in
            let u_u = others u
            (Joins-clock n.graph (port_of u (suc q)) (port_of v (suc p)) t.well
            (over_back d c v p u q close leads)) out_u in
            still_rests says g n t.well t.left w is.back.after.kept is.back.after.fits is.back.still d c v p u q close
            (record {
              unmoved = u_v;
              is_best = best_was g n t.well t.left v c u_v leads.is_best;
              here = far_was g n t.well t.left v d u_v leads.here;
              joins = leads.joins;
              far = leads.far;
              there = far_was g n t.well t.left u leads.far u_u leads.there;
              farther = leads.farther;
            })
      ]
    ]

    none : UnlinkedHoldNothing n.graph w
    none i s place r at live unlinked (q, there, holds) =
        let off = dark i s place q at live there unlinked in
        absurd (let both : Received r ≡ Disabled = sym holds ∙ off in cc)

    -- links are at rest
    pub turned_state : IsSettledState says n w
    turned_state = record {
      calm = is.back.after.kept.calm;
      rest = all_rest says n t.well w is.back.after.kept.calm
          (λ i s at live d here close.
          system_follows says g n tree top other last out best base depth t start over before times w is settles late
          others i s at live d here close) links;
      none = none;
    }
