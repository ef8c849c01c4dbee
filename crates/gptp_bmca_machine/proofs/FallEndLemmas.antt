-- Once a tree that is cut off has fallen back, all that is held fits what is left, and each link is at its stage: so it
-- settles.
use Rattle.std.proofs.Common.{◌≡◌, ◌⊎◌, ◌<◌, ◌≤◌, ◌+◌, ℕ, suc, Some, slice_get, refl, sym, subst, ◌∙◌, arith}
use Rattle.gptp_lists.specs.Members.{In}
use Rattle.gptp_graph.specs.Best.{IsBest}
use Rattle.gptp_graph.specs.Distance.{IsDistance}
use Rattle.gptp_graph.specs.Snapshot.{IsLinked, Joins, PortIdentity, Snapshot, System, clocks, port_of}
use Rattle.gptp_graph.proofs.BestLemmas.{IsBest-neighbour, IsBest-unique}
use Rattle.gptp_graph.proofs.DistanceLemmas.{IsDistance-clock}
use Rattle.gptp_graph.proofs.LinkLemmas.{Joins-clock, Joins-sym}
use Rattle.gptp_graph.proofs.SystemLemmas.{In-clocks}
use Rattle.gptp_bmca_machine.specs.Acts.{MachineSteps}
use Rattle.gptp_bmca_machine.specs.Calm.{Calm}
use Rattle.gptp_bmca_machine.specs.Clean.{CameFits, CameOverLink, Whole}
use Rattle.gptp_bmca_machine.specs.CutTree.{CutsTree}
use Rattle.gptp_bmca_machine.specs.Facts.{station_system}
use Rattle.gptp_bmca_machine.specs.Frame.{Spelling}
use Rattle.gptp_bmca_machine.specs.Levels.{Invariant, LeadsFarther, LevelSettles}
use Rattle.gptp_bmca_machine.specs.Link.{LinkSettles}
use Rattle.gptp_bmca_machine.specs.LossLaws.{EverythingFits, IsAfterLoss}
use Rattle.gptp_bmca_machine.specs.Network.{Network, since, wiring}
use Rattle.gptp_bmca_machine.specs.Sound.{ReceivedFits}
use Rattle.gptp_bmca_machine.specs.SoundLaws.{UnlinkedAreOff}
use Rattle.gptp_bmca_machine.specs.Station.{MachineState, Reception, Station}
use Rattle.gptp_bmca_machine.proofs.CutTreeLemmas.{IsCutOff, LeadsNowhere, moves_tree, tree_dec}
use Rattle.gptp_bmca_machine.proofs.MovedTreeLemmas.{MovesTree}
use Rattle.gptp_bmca_machine.proofs.FallStepLemmas.{SaysSo}
use Rattle.gptp_bmca_machine.proofs.FallKeptLemmas.{falling_kept}
use Rattle.gptp_bmca_machine.proofs.FallHeldLemmas.{holds_in_tree, old_in_time}
use Rattle.gptp_bmca_machine.proofs.UnlinkedLemmas.{UnlinkedDrop, UnlinkedHoldNone, off_drop, off_hold_old, off_none}
use Rattle.gptp_bmca_machine.proofs.FallLemmas.{HasChoice, HasLeft, IsAftermath, IsFalling, falls_by, free_fits}
use Rattle.gptp_bmca_machine.proofs.FallLevelLemmas.{TreeSettles}
use Rattle.gptp_bmca_machine.proofs.LossLemmas.{fits_kept}
use Rattle.gptp_bmca_machine.proofs.PlaceLemmas.{same_there}
use Rattle.gptp_bmca_machine.proofs.StillLemmas.{LeadsOn, StillSettles, best_was, far_was, levels_below}
use Rattle.gptp_bmca_machine.proofs.TimedLinkLemmas.{timed_link}

module _ (says : Spelling) (g : Snapshot) (n : Network) (Tree : ℕ → Type 0) (Out : ℕ → ℕ → Type 0) (top : ℕ)
    (best next : System) (base : ℕ) (depth : ℕ → ℕ) (t : MovesTree g n Tree Out top best next base depth) (start : ℕ)
  where
    pub after_step : (w w' : MachineState) → Calm n w → IsAfterLoss n w' → UnlinkedAreOff n.graph w' → MachineSteps says
        w
        w'
        → EverythingFits says g n w → IsAftermath says g n w'
    after_step w w' calm kept' dark' step fits = record {
      kept = kept';
      fits = fits_kept says g n t.left w w' calm kept'.calm step fits;
      dark = off_hold_old g n w' dark';
    }

    -- what is known of each state since: links from unmoved systems stay, and each link of the tree is at its stage
    pub record FallsBack (w : MachineState) : Type 0 where
      pub after : IsAftermath says g n w
      pub still : (f : ℕ) → StillSettles says g n f w
      pub falling : IsFalling says g n Tree Out top best next base depth t start w

    -- every step keeps it, where what comes from outside is of what is left, or names who hears it
    pub falls_then : (w w' : MachineState) (is : FallsBack w) (after' : IsAftermath says g n w')
        (step : MachineSteps says w w') → UnlinkedDrop g n w w' → UnlinkedHoldNone g n start w' → ((v p u q : ℕ)
        → Out u v → (joins : Joins n.graph (port_of v (suc p)) (port_of u (suc q)))
        → SaysSo says g n Tree Out top best next base depth t w w' is.after after' step v p u q joins
        (λ a. Whole t.ways v a ⊎ In u a.path)) → FallsBack w'
    falls_then w w' is after' step drops none' comes = record {
      after = after';
      still = λ f.
          levels_below says g n t.well t.left w w' is.after.kept after'.kept is.after.fits.stations
          after'.fits.stations step is.still (suc f) f (omega arith);
      falling = falling_kept says g n Tree Out top best next base depth t start w w' is.after after' step
          drops is.falling none' comes;
    }

    -- so where ports without a link are off
    pub falls_on : (w w' : MachineState) (is : FallsBack w) (kept' : IsAfterLoss n w') (dark' : UnlinkedAreOff n.graph
        w')
        (step : MachineSteps says w w') → ((v p u q : ℕ) → Out u v
        → (joins : Joins n.graph (port_of v (suc p)) (port_of u (suc q)))
        → SaysSo says g n Tree Out top best next base depth t w w' is.after
        (after_step w w' is.after.kept.calm kept' dark' step is.after.fits) step v p u q joins
        (λ a. Whole t.ways v a ⊎ In u a.path)) → FallsBack w'
    falls_on w w' is kept' dark' step comes =
        falls_then w w' is (after_step w w' is.after.kept.calm kept' dark' step is.after.fits) step
        (off_drop g n w w' dark') (off_none g n start w' dark') comes

-- ---- a tree that is cut off

module _ (says : Spelling) (g : Snapshot) (n : Network) (top : ℕ) (best next : System) (base : ℕ) (depth : ℕ → ℕ)
    (t : CutsTree g n top best next base depth) (start : ℕ) where
  abbrev m : MovesTree g n (IsCutOff n next) LeadsNowhere top best next base depth
  m = moves_tree g n top best next base depth t

  abbrev pub FallsOff : MachineState → Type 0
  FallsOff w = FallsBack says g n (IsCutOff n next) LeadsNowhere top best next base depth m start w

  -- ---- systems that aren't of the tree

  best_before : (v : ℕ) (c : System) → (IsBest n.graph v next → ⊥) → IsBest n.graph v c → IsBest g v c
  best_before v c out is = best_was g n t.well t.left v c (t.others v is.reached.1.begins out) is

  far_before : (v far : ℕ) → (IsBest n.graph v next → ⊥) → IsDistance n.graph v far → IsDistance g v far
  far_before v far out is =
      far_was g n t.well t.left v far (t.others v (IsDistance-clock n.graph v far t.well is) out) is

  -- a link leads from none of them to the tree
  out_beside : (v u : ℕ) (i k : ℕ) → (IsBest n.graph v next → ⊥) → Joins n.graph (port_of v i) (port_of u k)
      → IsBest n.graph u next → ⊥
  out_beside v u i k out joins in_u =
      out (IsBest-neighbour n.graph u v next t.well
      (k, i, Joins-sym n.graph (port_of v i) (port_of u k) joins) in_u)

  -- what one of them holds fits what is left
  out_fits : (c place : ℕ) (r : Reception) → (IsBest n.graph c next → ⊥) → CameFits g c (suc place) r
      → CameFits n.graph c (suc place) r
  out_fits c place r out was = record {
    over = over_link;
    fits = record {
      root = λ b is. was.fits.root b (best_before c b out is);
      here = λ b far is root there. was.fits.here b far (best_before c b out is) root (far_before c far out there);
      members = λ b v far is root among is_v there.
          let out_v : IsBest n.graph v next → ⊥ =
          λ in_v. out (subst (IsBest n.graph c) (IsBest-unique n.graph v b next t.well is_v in_v) is) in
          was.fits.members b v far (best_before c b out is) root among (best_before v b out_v is_v)
          (far_before v far out_v there);
      long = λ b is. was.fits.long b (best_before c b out is);
    };
  }
    where
      over_link : IsLinked n.graph (port_of c (suc place)) → CameOverLink n.graph c (suc place) r.said
      over_link (u, joined) =
          let was_joined = t.left.links (port_of c (suc place)) u joined in
          let came = was.over (u, was_joined) in
          let one : came.from ≡ u =
          t.left.graph.one_link (port_of c (suc place)) came.from u
          (Joins-sym g came.from (port_of c (suc place)) came.joins) was_joined in
          record {
            from = u;
            joins = Joins-sym n.graph (port_of c (suc place)) u joined;
            source = came.source ∙ one;
            sender = λ b far is root there.
                came.sender b far (best_before c b out is) root
                (subst (λ (k : PortIdentity). IsDistance g k.clock far) (sym one)
                (far_before u.clock far (out_beside c u.clock (suc place) u.port out joined) there));
          }

  -- ---- once that time is over

  module _ (last : ℕ) (w : MachineState) (is : FallsOff w)
      (reached : (v : ℕ) → IsBest n.graph v next → falls_by n start (depth v) ≤ last) (over : last < w.time) where
    -- nobody has the root of before
    none_old : (x : ℕ) → IsBest n.graph x next → HasLeft n w x best (base + depth x)
    none_old x in_x s at root =
        let late = old_in_time says g n (IsCutOff n next) LeadsNowhere top best next base depth m start w is.after
        is.falling (depth x) x refl in_x
        (λ s2 at2. subst (λ (y : Station). HasChoice y best (base + depth x))
        (same_there w.stations (n.place x) s s2 at at2) root) in
        let by = reached x in_x in
        absurd (omega (arith, late, by, over))

    pub received_then : ReceivedFits n.graph w
    received_then i s place r at live holds = by (tree_dec g n top best next base depth t s.clock known)
      where
        known : In s.clock (clocks n.graph)
        known =
            In-clocks n.graph (station_system s) (is.after.kept.calm.facts.stations i s at live).known

        there : slice_get w.stations (n.place s.clock) ≡ Some s
        there = subst (λ k. slice_get w.stations k ≡ Some s) (is.after.kept.calm.placed i s at) at

        by : Dec (IsBest n.graph s.clock next) → CameFits n.graph s.clock (suc place) r
        by (no out) = out_fits s.clock place r out (is.after.fits.stations i s place r at live holds)
        by (yes in_s) =
            (free_fits says g n (IsCutOff n next) LeadsNowhere top best next base depth m start w is.after s.clock in_s
            s there
            (holds_in_tree says g n (IsCutOff n next) LeadsNowhere top best next base depth m start w is.after
            is.falling s.clock in_s)
            (none_old s.clock in_s s there) place r holds)

    module _ (before : ℕ → ℕ)
        (settles : TreeSettles says g n (IsCutOff n next) LeadsNowhere top best next base depth m start before w) (slack
        : ℕ)
        (in_time : (f : ℕ) → before f ≤ since (record n { slack = slack }) (suc f))
        (delay : (f : ℕ) → n.most ≤ since (record n { slack = slack }) (suc f)) where
      levels_then : (f : ℕ) → LevelSettles says (record n { slack = slack }) f w
      levels_then f c v p u q close leads = by (tree_dec g n top best next base depth t v
          (Joins-clock n.graph (port_of v (suc p)) (port_of u (suc q)) t.well leads.joins))
        where
          by : Dec (IsBest n.graph v next) → LinkSettles says (wiring (record n { slack = slack }) f c v p u q) w
          by (yes in_v) =
              let one : next ≡ c = IsBest-unique n.graph v next c t.well in_v leads.is_best in
              subst (λ b. LinkSettles says (wiring (record n { slack = slack }) f b v p u q) w) one
              (timed_link says n slack (before f) f next v p u q (in_time f) w
              (settles f v p u q close in_v (IsBest-neighbour n.graph v u next t.well (suc p, suc q, leads.joins) in_v)
              (subst (λ b. LeadsFarther n.graph f b v p u q) (sym one) leads)))
          by (no out) =
              let leads_on : LeadsOn g n f c v p u q =
              record {
                unmoved = t.others v (Joins-clock n.graph (port_of v (suc p)) (port_of u (suc q)) t.well leads.joins)
                    out;
                is_best = best_before v c out leads.is_best;
                here = far_before v f out leads.here;
                joins = leads.joins;
                far = leads.far;
                there = far_before u leads.far (out_beside v u (suc p) (suc q) out leads.joins) leads.there;
                farther = leads.farther;
              } in
              timed_link says n slack n.most f c v p u q (delay f) w (is.still f c v p u q close leads_on)

      -- so the machine's invariant holds of the network with those times
      pub fallen_back : Invariant says (record n { slack = slack }) w
      fallen_back = record { sound = λ now. received_then; levels = levels_then }
