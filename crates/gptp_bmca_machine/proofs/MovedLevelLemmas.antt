-- A tree that a loss moves settles: its systems choose their best by their new distances, from its best on, or from the
-- way out.
use Rattle.std.proofs.Common.{◌≡◌, ◌⊎◌, ◌<◌, ◌≤◌, ◌+◌, ℕ, zero, suc, true, Some, slice_get, refl, sym, subst, inl, inr, arith}
use native.Mathlib.Decide.{dec_le, dec_lt}
use Rattle.gptp_graph.specs.Best.{IsBest}
use Rattle.gptp_graph.specs.Distance.{IsDistance}
use Rattle.gptp_graph.specs.PathBound.{BoundsPaths}
use Rattle.gptp_graph.specs.Snapshot.{Adjacent, Joins, Snapshot, System, port_of}
use Rattle.gptp_graph.proofs.DistanceLemmas.{nearer_neighbour}
use Rattle.gptp_graph.proofs.LinkLemmas.{Joins-sym}
use Rattle.gptp_graph.proofs.PathBoundLemmas.{IsDistance-within}
use Rattle.gptp_bmca_machine.specs.Acts.{MachineSteps}
use Rattle.gptp_bmca_machine.specs.Frame.{Spelling}
use Rattle.gptp_bmca_machine.specs.Levels.{LeadsFarther}
use Rattle.gptp_bmca_machine.specs.Link.{LinkSettles}
use Rattle.gptp_bmca_machine.specs.Network.{Network}
use Rattle.gptp_bmca_machine.specs.Station.{HoldsAt, MachineState, Reception, Station}
use Rattle.gptp_bmca_machine.proofs.FallHeldLemmas.{holds_in_tree, old_in_time}
use Rattle.gptp_bmca_machine.proofs.UnlinkedLemmas.{UnlinkedDrop}
use Rattle.gptp_bmca_machine.proofs.FallLemmas.{HasLeft, IsAftermath, IsFalling, clear_left, falls_by}
use Rattle.gptp_bmca_machine.proofs.FallLevelLemmas.{HasTime, level_kept, show}
use Rattle.gptp_bmca_machine.proofs.LevelLemmas.{places_of}
use Rattle.gptp_bmca_machine.proofs.LinkEndsLemmas.{ends_by, teller_on, telling}
use Rattle.gptp_bmca_machine.proofs.LinkLemmas.{link_settled}
use Rattle.gptp_bmca_machine.proofs.LinkStepLemmas.{lives_at}
use Rattle.gptp_bmca_machine.proofs.MovedTreeLemmas.{MovesTree}
use Rattle.gptp_bmca_machine.proofs.PlaceLemmas.{same_there}
use Rattle.gptp_bmca_machine.proofs.RestLemmas.{Chooses, IsClear, suc_settles, zero_settles}
use Rattle.gptp_bmca_machine.proofs.StillLemmas.{port_there, station_of}

module _ (says : Spelling) (g : Snapshot) (n : Network) (Tree : ℕ → Type 0) (Out : ℕ → ℕ → Type 0) (top : ℕ)
    (best next : System) (base : ℕ) (depth : ℕ → ℕ) (t : MovesTree g n Tree Out top best next base depth)
    (paths : BoundsPaths n.graph n.reach) (few : n.reach ≤ 255) (start over : ℕ) (before : ℕ → ℕ) where
  -- by `over` each system of the tree has left its old choice; those at each distance have settled from a time on
  pub record Times : Type 0 where
    pub reached : (v : ℕ) → Tree v → falls_by n start (depth v) ≤ over
    pub room : (e : ℕ) → over + n.most < before e
    pub grows : (e : ℕ) → before e + n.most ≤ before (suc e)

  module _ (times : Times) where
    pub delay : (e : ℕ) → n.most ≤ before e
    delay e = let more = times.room e in omega (arith, more)

    -- links from systems of the tree at one distance
    abbrev pub LevelSettles : ℕ → MachineState → Type 0
    LevelSettles f w = (v p u q : ℕ) → f < 255 → Tree v → Tree u → LeadsFarther n.graph f next v p u q
        → LinkSettles says (telling n (before f) f next v p u q) w

    -- what is told by the way in is held from that time on
    abbrev pub ToldIn : MachineState → Type 0
    ToldIn w = (v x q p e : ℕ) → Tree v → Out v x → Joins n.graph (port_of v (suc q)) (port_of x (suc p))
        → IsDistance n.graph x e → before e ≤ w.time → (s : Station) → slice_get w.stations (n.place v) ≡ Some s
        → (r : Reception) × HoldsAt s q r × (r.said.root ≡ next.identity) × (r.said.steps ≡ e)
        × (r.said.source ≡ port_of x (suc p))

    module _ (w : MachineState) (is : IsAftermath says g n w)
        (falling : IsFalling says g n Tree Out top best next base depth t start w) where
      -- who has had the time has left its old choice
      pub has_left : (v : ℕ) → Tree v → over < w.time → HasLeft n w v best (base + depth v)
      has_left v in_v late s at old =
          let by = old_in_time says g n Tree Out top best next base depth t start w is falling (depth v) v refl in_v
          (λ s2 at2.
          subst (λ (y : Station). (y.root ≡ best.identity) × (y.steps ≡ base + depth v))
          (same_there w.stations (n.place v) s s2 at at2) old) in
          let most = times.reached v in_v in
          omega (arith, by, most, late)

      -- and is clear by what is left
      pub clear_then : (v : ℕ) → Tree v → over < w.time → (s : Station) → slice_get w.stations (n.place v) ≡ Some s
          → IsClear n.graph s
      clear_then v in_v late s at =
          clear_left says g n Tree Out top best next base depth t start w is v in_v s at
          (holds_in_tree says g n Tree Out top best next base depth t start w is falling v in_v)
          (has_left v in_v late s at)

      -- the systems of the tree at a distance choose by it
      abbrev pub TreeChooses : ℕ → Type 0
      TreeChooses e = (v : ℕ) (s : Station) → slice_get w.stations (n.place v) ≡ Some s → Tree v
          → IsDistance n.graph v e → Chooses s next e

      -- what one of them tells is held by those that it tells
      pub told_level : (e : ℕ) → TreeChooses e → before e ≤ w.time → (v p u q : ℕ) → e < 255 → Tree v
          → Tree u → LeadsFarther n.graph e next v p u q
          → LinkSettles says (telling n (before e) e next v p u q) w → (s : Station)
          → slice_get w.stations (n.place u) ≡ Some s
          → (r : Reception) × HoldsAt s q r × (r.said.root ≡ next.identity) × (r.said.steps ≡ e)
          × (r.said.source ≡ port_of v (suc p))
      told_level e choose late v p u q close in_v in_u leads link s at =
          let (sv, at_v, live, clock) = station_of g n t.well t.left w is.kept is.fits.stations v (t.lives v in_v) in
          let (pv, there_v) = port_there g n t.well t.left w is.kept is.fits.stations v p (port_of u (suc q)) sv at_v
          leads.joins in
          let (pu, there_u) = port_there g n t.well t.left w is.kept is.fits.stations u q (port_of v (suc p)) s at
          (Joins-sym n.graph (port_of v (suc p)) (port_of u (suc q)) leads.joins) in
          let has = is.kept.calm.lanes (port_of v (suc p)) (port_of u (suc q)) leads.joins in
          let on = teller_on g n t.well t.left (before e) e next v p u q leads.joins (delay e) w is.kept
          is.fits.stations in
          let room = times.room e in
          let (r, holds, final) = link_settled says (telling n (before e) e next v p u q) w pv pu has.lane
          (ends_by g n t.well t.left (before e) e next v p u q leads.joins (delay e) w is.kept is.fits.stations
          (show says g n Tree Out top best next base depth t start before e v p u q close in_v in_u leads (delay e) w is
          falling (λ s2 pv2 at2 there2 not.
          let chose = choose v s2 at2 in_v leads.here in
          absurd (not ((chose.root, chose.steps), on s2 pv2 at2 there2)))
          (inr (has_left u in_u (omega (arith, room, late)))))) link
          (record {
            v = sv;
            u = s;
            teller = at_v;
            teller_port = there_v;
            hearer = at;
            hearer_port = there_u;
            lane = has.there;
          }) (let chose = choose v sv at_v in_v leads.here in ((chose.root, chose.steps), on sv pv at_v there_v)) late
          in
          (r, (pu, there_u, holds), final.root, final.steps, final.source)

      -- the best of the tree does
      pub choose_zero : over < w.time → TreeChooses 0
      choose_zero late v s at in_v here =
          let (live, is_v) = lives_at n w is.kept.calm v (t.lives v in_v) s at in
          zero_settles n.graph t.well s (clear_then v in_v late s at) next
          (subst (λ c. IsBest n.graph c next) (sym is_v) (t.best_now v in_v))
          (is.kept.calm.facts.stations (n.place v) s at live).known
          (subst (λ c. IsDistance n.graph c 0) (sym is_v) here)

      choose_next : ToldIn w → (e : ℕ) → LevelSettles e w → before e ≤ w.time → TreeChooses e → TreeChooses (suc e)
      choose_next way e level late sooner v s at in_v here =
          by_neighbour (nearer_neighbour n.graph v e t.well here)
        where
          is_v : (s.live ≡ true) × (s.clock ≡ v)
          is_v = lives_at n w is.kept.calm v (t.lives v in_v) s at

          by_neighbour : ((x : ℕ) × Adjacent n.graph v x × IsDistance n.graph x e) → Chooses s next (suc e)
          by_neighbour (x, (i, j, joins), there) =
              by (places_of n.graph v i x j t.well joins) (t.beside v x in_v (i, j, joins))
            where
              by : ((q : ℕ) × (p : ℕ) × (i ≡ suc q) × (j ≡ suc p)) → Tree x ⊎ Out v x → Chooses s next (suc e)
              by (q, p, is_q, is_p) where_is = heard q p over' where_is
                where
                  over' : Joins n.graph (port_of v (suc q)) (port_of x (suc p))
                  over' =
                      subst (λ a. Joins n.graph (port_of v (suc q)) (port_of x a)) is_p
                      (subst (λ a. Joins n.graph (port_of v a) (port_of x j)) is_q joins)

                  chosen_by : (q : ℕ) (r : Reception) → HoldsAt s q r → r.said.root ≡ next.identity → r.said.steps ≡ e
                      → Chooses s next (suc e)
                  chosen_by q r holds root steps =
                      suc_settles n.graph t.well s
                      (clear_then v in_v (let room = times.room e in omega (arith, room, late)) s at) next
                      (subst (λ c. IsBest n.graph c next) (sym is_v.1) (t.best_now v in_v)) e q r
                      (subst (λ c. IsDistance n.graph c (suc e)) (sym is_v.1) here) holds root steps

                  heard : (q p : ℕ) → Joins n.graph (port_of v (suc q)) (port_of x (suc p)) → Tree x ⊎ Out v x
                      → Chooses s next (suc e)
                  heard q p over (inr out) =
                      let (r, holds, root, steps, source) = way v x q p e in_v out over there late s at in
                      chosen_by q r holds root steps
                  heard q p over (inl in_x) =
                      let within = IsDistance-within n.graph n.reach v (suc e) paths here in
                      let leads : LeadsFarther n.graph e next x p v q =
                      record {
                        is_best = t.best_now x in_x;
                        here = there;
                        joins = Joins-sym n.graph (port_of v (suc q)) (port_of x (suc p)) over;
                        far = suc e;
                        there = here;
                        farther = inl (omega arith);
                      } in
                      let (r, holds, root, steps, source) = told_level e sooner late x p v q
                      (omega (arith, within, few)) in_x in_v leads
                      (level x p v q (omega (arith, within, few)) in_x in_v leads) s at in
                      chosen_by q r holds root steps

      -- so by then they do, where links from nearer ones are at their stages
      pub choose_by : ToldIn w → (e : ℕ) → ((f : ℕ) → f ≤ e → LevelSettles f w) → before e ≤ w.time
          → TreeChooses (suc e)
      choose_by way zero levels late =
          choose_next way zero (levels zero (omega arith)) late
          (choose_zero (let room = times.room zero in omega (arith, room, late)))
      choose_by way (suc e) levels late =
          choose_next way (suc e) (levels (suc e) (omega arith)) late
          (choose_by way e (λ f most. levels f (omega (arith, most)))
          (let more = times.grows e in omega (arith, more, late)))

      -- who hasn't settled yet has the time
      has_time : ToldIn w → (f : ℕ) → ((e : ℕ) → e < f → LevelSettles e w) → (v p u q : ℕ) (close : f < 255)
          (in_v : Tree v) (in_u : Tree u) (leads : LeadsFarther n.graph f next v p u q)
          → HasTime says g n Tree Out top best next base depth t start before f v p u q close in_v in_u leads (delay f)
          w
      has_time way zero levels v p u q close in_v in_u leads s pv at there not = elim (dec_lt over w.time) [
        | no early ↦ let room = times.room zero in omega (arith, early, room)
        | yes late ↦
            let chose = choose_zero late v s at in_v leads.here in
            absurd (not (
              (chose.root, chose.steps),
              teller_on g n t.well t.left (before zero) zero next v p u q leads.joins (delay zero) w is.kept
                  is.fits.stations s pv at there,
            ))
      ]
      has_time way (suc e) levels v p u q close in_v in_u leads s pv at there not = elim (dec_le (before e) w.time) [
        | no early ↦ let more = times.grows e in omega (arith, early, more)
        | yes late ↦
            let chose = choose_by way e (λ f most. levels f (omega (arith, most))) late v s at in_v leads.here in
            absurd (not (
              (chose.root, chose.steps),
              teller_on g n t.well t.left (before (suc e)) (suc e) next v p u q leads.joins (delay (suc e)) w is.kept
                  is.fits.stations s pv at there,
            ))
      ]

    -- ---- a step

    module _ (w w' : MachineState) (is : IsAftermath says g n w) (is' : IsAftermath says g n w')
        (falling : IsFalling says g n Tree Out top best next base depth t start w)
        (falling' : IsFalling says g n Tree Out top best next base depth t start w') (step : MachineSteps says w w')
        (drops : UnlinkedDrop g n w w') (way : ToldIn w) (way' : ToldIn w') (levels : (f : ℕ) → LevelSettles f w)
      where
        level_on : (f : ℕ) → ((e : ℕ) → e < f → LevelSettles e w') → LevelSettles f w'
        level_on f below v p u q close in_v in_u leads =
            level_kept says g n Tree Out top best next base depth t start before f v p u q close in_v in_u leads
            (delay f) w w' is is' step drops falling falling'
            (has_time w is falling way f (λ e less. levels e) v p u q close in_v in_u leads)
            (has_time w' is' falling' way' f below v p u q close in_v in_u leads)
            (levels f v p u q close in_v in_u leads)

        levels_below : (f e : ℕ) → e < f → LevelSettles e w'
        levels_below zero e none = absurd (omega (arith, none))
        levels_below (suc f) e less = elim (dec_lt e f) [
          | yes below ↦ levels_below f e below
          | no not_below ↦ level_on e (λ e2 sooner. levels_below f e2 (omega (arith, sooner, less)))
        ]

        -- every step keeps that links are at their stages
        pub levels_on : (f : ℕ) → LevelSettles f w'
        levels_on f = levels_below (suc f) f (omega arith)
