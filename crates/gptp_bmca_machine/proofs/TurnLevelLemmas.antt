-- A tree turns by its one way out: its systems choose the best by their new distances, from the way out on.
use Rattle.std.proofs.Common.{◌≡◌, ◌≢◌, ◌⊎◌, ◌<◌, ◌≤◌, ◌+◌, ℕ, suc, List, Some, slice_get, refl, sym, ap, subst, ◌∙◌, inl, inr, arith}
use native.Mathlib.Decide.{dec_lt}
use Rattle.gptp_lists.specs.Members.{In}
use Rattle.gptp_graph.specs.Distance.{IsDistance}
use Rattle.gptp_graph.specs.Snapshot.{Adjacent, Joins, Snapshot, System, port_of}
use Rattle.gptp_graph.proofs.DistanceLemmas.{IsDistance-neighbour, IsDistance-unique}
use Rattle.gptp_graph.proofs.ExistenceLemmas.{distance_exists}
use Rattle.gptp_graph.proofs.LinkLemmas.{Adjacent-sym, Joins-sym}
use Rattle.gptp_bmca_machine.specs.Acts.{MachineSteps}
use Rattle.gptp_bmca_machine.specs.Frame.{Spelling}
use Rattle.gptp_bmca_machine.specs.Network.{Network}
use Rattle.gptp_bmca_machine.specs.Station.{HoldsAt, MachineState, Reception, Station}
use Rattle.gptp_bmca_machine.specs.TurnTree.{TurnsTree}
use Rattle.gptp_bmca_machine.proofs.UnlinkedLemmas.{UnlinkedDrop}
use Rattle.gptp_bmca_machine.proofs.FallLemmas.{falls_by}
use Rattle.gptp_bmca_machine.proofs.LinkEndsLemmas.{ends_by, teller_on, telling}
use Rattle.gptp_bmca_machine.proofs.LinkLemmas.{link_settled}
use Rattle.gptp_bmca_machine.proofs.MovedLevelLemmas.{LevelSettles, Times as MovedTimes, ToldIn, levels_on}
use Rattle.gptp_bmca_machine.proofs.MovedTreeLemmas.{LeadsDown, MovesTree}
use Rattle.gptp_bmca_machine.proofs.StillLemmas.{LeadsOn, chooses_still, port_there, station_of, told}
use Rattle.gptp_bmca_machine.proofs.TurnLemmas.{OutIsAt, TurnsBack, out_chooses, out_is_at}
use Rattle.gptp_bmca_machine.proofs.TurnOutLemmas.{HasTurned, OutSettles, back, out_kept, show_out, turned}
use Rattle.gptp_bmca_machine.proofs.TurnTreeLemmas.{IsOf, LeadsOut, out_lives, out_unmoved, out_was_best, turns_moves}

module _ (says : Spelling) (g : Snapshot) (n : Network) (tree : List ℕ) (top other last out : ℕ) (best : System)
    (base : ℕ) (depth : ℕ → ℕ) (t : TurnsTree g n tree top other last out best base depth) (start : ℕ) where
  abbrev m : MovesTree g n (IsOf tree) (LeadsOut last out) top best best base depth
  m = turns_moves g n tree top other last out best base depth t

  abbrev o : OutIsAt says g n tree top other last out best base depth t
  o = out_is_at says g n tree top other last out best base depth t

  -- the way out led down before, or it led in, to a system that was as far
  pub way_leads : LeadsDown g (IsOf tree) (LeadsOut last out) base depth last out
      ⊎ ((o.d ≡ base + depth last) × (out < last))
  way_leads = by (distance_exists n.graph last t.well (t.lives last t.in_last)) t.joined
    where
      apart : last ≢ out
      apart same = t.outside (subst (λ c. In c tree) same t.in_last)

      by : ((far : ℕ) × IsDistance n.graph last far) → Adjacent n.graph last out
          → LeadsDown g (IsOf tree) (LeadsOut last out) base depth last out
          ⊎ ((o.d ≡ base + depth last) × (out < last))
      by (far, here) joined =
          let more = t.farther last far t.in_last here in
          let near = IsDistance-neighbour n.graph out last o.d far t.well (Adjacent-sym n.graph last out joined) o.now
          here in
          elim (dec_lt (base + depth last) o.d) [
            | yes less ↦ inl (record { beyond = inr (refl, refl); far = o.d; there = o.there; farther = inl less })
            | no not_less ↦
                let same : base + depth last ≡ o.d = omega (arith, more, near, not_less) in
                elim (dec_lt last out) [
                  | yes lower ↦ inl (record {
                    beyond = inr (refl, refl);
                    far = o.d;
                    there = o.there;
                    farther = inr (same, lower);
                  })
                  | no not_lower ↦ elim (dec_lt out last) [
                    | yes lower ↦ inr (sym same, lower)
                    | no neither ↦ absurd (apart (omega (arith, not_lower, neither)))
                  ]
                ]
          ]

  -- ---- times

  -- by `over` each system of the tree has left its old choice, and the end of the way out has heard so; those at each
  -- distance have settled from a time on
  pub record Times (over : ℕ) (before : ℕ → ℕ) : Type 0 where
    pub reached : (v : ℕ) → In v tree → falls_by n start (depth v) ≤ over
    pub heard : falls_by n start (suc (depth last)) ≤ over
    pub room : (e : ℕ) → over + n.most < before e
    pub grows : (e : ℕ) → before e + n.most ≤ before (suc e)

  module _ (over : ℕ) (before : ℕ → ℕ) (times : Times over before) where
    pub tree_times : MovedTimes says g n (IsOf tree) (LeadsOut last out) top best best base depth m t.paths t.few
        start over before
    tree_times = record { reached = times.reached; room = times.room; grows = times.grows }

    pub delay : (e : ℕ) → n.most ≤ before e
    delay e = let more = times.room e in omega (arith, more)

    -- the way in is at its stage as soon as its end has turned
    abbrev pub WaySettles : MachineState → Type 0
    WaySettles w = (p k : ℕ) (joins : Joins n.graph (port_of last (suc p)) (port_of out (suc k)))
        (leads : LeadsDown g (IsOf tree) (LeadsOut last out) base depth last out)
        → OutSettles says g n tree top other last out best base depth t start p k joins leads (before o.d)
        (delay o.d) w

    -- links from systems of the tree at one distance
    abbrev pub TreeLevelSettles : ℕ → MachineState → Type 0
    TreeLevelSettles = LevelSettles says g n (IsOf tree) (LeadsOut last out) top best best base depth m t.paths t.few
        start over before tree_times

    module _ (w : MachineState) (is : TurnsBack says g n tree top other last out best base depth t start w) where
      -- by then the end of the way in holds what is told
      pub told_in : WaySettles w → (p k : ℕ) → Joins n.graph (port_of last (suc p)) (port_of out (suc k))
          → before o.d ≤ w.time → (s : Station) → slice_get w.stations (n.place last) ≡ Some s
          → (r : Reception) × HoldsAt s p r × (r.said.root ≡ best.identity) × (r.said.steps ≡ o.d)
          × (r.said.source ≡ port_of out (suc k))
      told_in way p k joins late s at = by way_leads
        where
          over' : Joins n.graph (port_of out (suc k)) (port_of last (suc p))
          over' = Joins-sym n.graph (port_of last (suc p)) (port_of out (suc k)) joins

          by : LeadsDown g (IsOf tree) (LeadsOut last out) base depth last out
              ⊎ ((o.d ≡ base + depth last) × (out < last))
              → (r : Reception) × HoldsAt s p r × (r.said.root ≡ best.identity) × (r.said.steps ≡ o.d)
              × (r.said.source ≡ port_of out (suc k))
          by (inr (same, lower)) =
              let leads : LeadsOn g n o.d best out k last p =
              record {
                unmoved = out_unmoved g n tree top other last out best base depth t;
                is_best = out_was_best g n tree top other last out best base depth t;
                here = o.there;
                joins = over';
                far = base + depth last;
                there = t.was last t.in_last;
                farther = inr (same, lower);
              } in
              let (r, holds, final) = told says g n t.well t.left w is.back.after.kept is.back.after.fits.stations o.d
              best
              out k last p o.near leads
              (chooses_still says g n t.well t.left w is.back.after.kept is.back.after.fits.stations o.d
              (λ e less. is.back.still e) o.near) (is.back.still o.d best out k last p o.near leads) s at in
              (r, holds, final.root, final.steps, final.source)
          by (inl leads) = heard (turned says g n tree top other last out best base depth t start p k joins leads w is
              (let by = times.heard in let more = times.room o.d in omega (arith, by, more, late)))
            where
              back' : Joins n.graph (port_of out (suc k)) (port_of last (suc p))
              back' = back says g n tree top other last out best base depth t start p k joins leads

              heard : HasTurned says g n tree top other last out best base depth t start p k joins leads w
                  → (r : Reception) × HoldsAt s p r × (r.said.root ≡ best.identity) × (r.said.steps ≡ o.d)
                  × (r.said.source ≡ port_of out (suc k))
              heard has_turned =
                  let (so, at_o, live, clock) = station_of g n t.well t.left w is.back.after.kept
                  is.back.after.fits.stations out (out_lives g n tree top other last out best base depth t) in
                  let (po, there_o) = port_there g n t.well t.left w is.back.after.kept is.back.after.fits.stations out
                  k
                  (port_of last (suc p)) so at_o back' in
                  let (pl, there_l) = port_there g n t.well t.left w is.back.after.kept is.back.after.fits.stations last
                  p (port_of out (suc k)) s at joins in
                  let has = is.back.after.kept.calm.lanes (port_of out (suc k)) (port_of last (suc p)) back' in
                  let chosen = out_chooses says g n tree top other last out best base depth t w is.back.after
                  is.back.still so at_o in
                  let (r, holds, final) = link_settled says (telling n (before o.d) o.d best out k last p) w po pl
                  has.lane (ends_by g n t.well t.left (before o.d) o.d best out k last p back' (delay o.d) w
                  is.back.after.kept is.back.after.fits.stations
                  (show_out says g n tree top other last out best base depth t start p k joins leads (before o.d)
                  (delay o.d) w is has_turned)) (way p k joins leads has_turned)
                  (record {
                    v = so;
                    u = s;
                    teller = at_o;
                    teller_port = there_o;
                    hearer = at;
                    hearer_port = there_l;
                    lane = has.there;
                  }) (
                    (chosen.root, chosen.steps),
                    teller_on g n t.well t.left (before o.d) o.d best out k last p back'
                        (delay o.d) w is.back.after.kept is.back.after.fits.stations so po at_o there_o,
                  ) late in
                  (r, (pl, there_l, holds), final.root, final.steps, final.source)

      -- so the way in tells what it is to
      pub way_in : WaySettles w → ToldIn says g n (IsOf tree) (LeadsOut last out) top best best base depth m t.paths
          t.few start over before tree_times w
      way_in way v x q p e in_v (is_last, is_out) joins there late s at =
          let same : e ≡ o.d = IsDistance-unique n.graph out e o.d t.well
          (subst (λ c. IsDistance n.graph c e) is_out there) o.now in
          let (r, holds, root, steps, source) = told_in way q p
          (subst (λ c. Joins n.graph (port_of last (suc q)) (port_of c (suc p))) is_out
          (subst (λ c. Joins n.graph (port_of c (suc q)) (port_of x (suc p))) is_last joins))
          (subst (λ k. before k ≤ w.time) same late) s
          (subst (λ c. slice_get w.stations (n.place c) ≡ Some s) is_last at) in
          (r, holds, root, steps ∙ sym same, source ∙ ap (λ c. port_of c (suc p)) (sym is_out))

    -- ---- a step

    -- what is known of the links of the tree, and of the way in
    pub record TurnSettles (w : MachineState) : Type 0 where
      pub levels : (f : ℕ) → TreeLevelSettles f w
      pub way : WaySettles w

    module _ (w w' : MachineState) (is : TurnsBack says g n tree top other last out best base depth t start w)
        (is' : TurnsBack says g n tree top other last out best base depth t start w') (step : MachineSteps says w w')
        (drops : UnlinkedDrop g n w w') (settles : TurnSettles w) where
      way_on : WaySettles w'
      way_on p k joins leads =
          out_kept says g n tree top other last out best base depth t start p k joins leads (before o.d) (delay o.d)
          (let by = times.heard in let more = times.room o.d in omega (arith, by, more)) w w' is is' step
          (settles.way p k joins leads)

      -- every step keeps that
      pub settles_on : TurnSettles w'
      settles_on = record {
        levels = levels_on says g n (IsOf tree) (LeadsOut last out) top best best base depth m t.paths t.few start
            over before
            tree_times w w' is.back.after is'.back.after is.back.falling is'.back.falling step drops
            (way_in w is settles.way) (way_in w' is' way_on) settles.levels;
        way = way_on;
      }
