-- A tree that a loss moves falls back: meanwhile each link that leads farther from the best of the tree is at its stage
-- as soon as the system that tells has settled.
use Rattle.std.proofs.Common.{◌≡◌, ◌⊎◌, ◌<◌, ◌≤◌, ◌+◌, ℕ, suc, Some, slice_get, refl, sym, ap, subst, ◌∙◌, inl, inr, arith}
use Rattle.gptp_graph.specs.Best.{IsBest}
use Rattle.gptp_graph.specs.Distance.{IsDistance}
use Rattle.gptp_graph.specs.Order.{IsLower}
use Rattle.gptp_graph.specs.Snapshot.{Joins, Snapshot, System, port_of}
use Rattle.gptp_graph.proofs.LinkLemmas.{Joins-sym}
use Rattle.gptp_bmca_machine.specs.Acts.{MachineSteps, StationActs}
use Rattle.gptp_bmca_machine.specs.Frame.{Spelling}
use Rattle.gptp_bmca_machine.specs.Levels.{LeadsFarther}
use Rattle.gptp_bmca_machine.specs.Link.{LinkSettles, TellerIsReady, final_vector}
use Rattle.gptp_bmca_machine.specs.LinkStage.{Wiring}
use Rattle.gptp_bmca_machine.specs.Network.{Network}
use Rattle.gptp_bmca_machine.specs.Station.{MachineState, Mine, Port, Received, Station}
use Rattle.gptp_bmca_machine.proofs.MovedTreeLemmas.{MovesTree, child_leads}
use Rattle.gptp_bmca_machine.proofs.FallKeptLemmas.{hearer_old, led_next, led_old, left_old}
use Rattle.gptp_bmca_machine.proofs.FallHeldLemmas.{holds_in_tree}
use Rattle.gptp_bmca_machine.proofs.UnlinkedLemmas.{UnlinkedDrop}
use Rattle.gptp_bmca_machine.proofs.FallLemmas.{DownStage, HasChoice, HasLeft, IsAftermath, IsFalling, IsOld, choice_dec, falls_by, follows_old, free_clear, free_fits, told_nearer}
use Rattle.gptp_bmca_machine.proofs.ClearLemmas.{tells_clear, weaker_clear}
use Rattle.gptp_bmca_machine.proofs.LinkEndsLemmas.{ShowEnds, telling, telling_kept}
use Rattle.gptp_bmca_machine.proofs.LinkStepLemmas.{lives_at}
use Rattle.gptp_bmca_machine.proofs.PlaceLemmas.{same_there}
use Rattle.gptp_bmca_machine.specs.Vectors.{master}

module _ (says : Spelling) (g : Snapshot) (n : Network) (Tree : ℕ → Type 0) (Out : ℕ → ℕ → Type 0) (top : ℕ)
    (best next : System) (base : ℕ) (depth : ℕ → ℕ) (t : MovesTree g n Tree Out top best next base depth) (start : ℕ)
    (before : ℕ → ℕ) where
  -- each link of the tree that leads farther from its best is at a stage
  abbrev pub TreeSettles : MachineState → Type 0
  TreeSettles w = (f v p u q : ℕ) → f < 255 → Tree v → Tree u → LeadsFarther n.graph f next v p u q
      → LinkSettles says (telling n (before f) f next v p u q) w

  module _ (f v p u q : ℕ) (close : f < 255) (in_v : Tree v) (in_u : Tree u)
      (leads : LeadsFarther n.graph f next v p u q) (delay : n.most ≤ before f) where
    best_u : IsBest t.ways u next
    best_u = t.is_best u in_u

    -- how far both are by what is told since
    here_v : IsDistance t.ways v f
    here_v = t.far_now v f (inl in_v) leads.here

    there_u : IsDistance t.ways u leads.far
    there_u = t.far_now u leads.far (inl in_u) leads.there

    joins_ways : Joins t.ways (port_of v (suc p)) (port_of u (suc q))
    joins_ways = t.ways_left.links (port_of v (suc p)) (port_of u (suc q)) leads.joins

    back : Joins n.graph (port_of u (suc q)) (port_of v (suc p))
    back = Joins-sym n.graph (port_of v (suc p)) (port_of u (suc q)) leads.joins

    abbrev k : Wiring
    k = telling n (before f) f next v p u q

    -- who has settled has left its old choice
    settled_left : (s : Station) → HasChoice s next f → HasChoice s best (base + depth v) → ⊥
    settled_left s (root, steps) (was, were) = elim (t.worse v in_v) [
      | inl less ↦ omega (arith, less, root, was)
      | inr (same, more) ↦ let far = more f here_v in omega (arith, far, steps, were)
    ]

    -- until then there is time
    abbrev pub HasTime : MachineState → Type 0
    HasTime w = (s : Station) (pv : Port) → slice_get w.stations (n.place v) ≡ Some s → slice_get s.ports p ≡ Some pv
        → (TellerIsReady (telling n (before f) f next v p u q) s pv → ⊥) → w.time + n.most < before f

    -- what both ends show, where the link leads down the tree, or the system that hears has left its old choice
    pub show : (w : MachineState) (m : IsAftermath says g n w)
        (falling : IsFalling says g n Tree Out top best next base depth t start w)
        → HasTime w → (depth u ≡ suc (depth v)) ⊎ HasLeft n w u best (base + depth u)
        → ShowEnds g n t.well t.left (before f) f next v p u q leads.joins delay w
    show w m falling early down = record {
      settled = λ s pv at there ready.
          let (live, clock) = lives_at n w m.kept.calm v (t.lives v in_v) s at in
          tells_clear t.ways t.ways_well k next refl leads.far best_u there_u leads.farther s
          (free_clear says g n Tree Out top best next base depth t start w m v in_v s at
          (holds_in_tree says g n Tree Out top best next base depth t start w m falling v in_v)
          (settled_left s ready.0))
          (λ place r holds. (free_fits says g n Tree Out top best next base depth t start w m v in_v s at
          (holds_in_tree says g n Tree Out top best next base depth t start w m falling v in_v) (settled_left s ready.0)
          place r holds).fits) clock (t.is_best v in_v) (port_of u (suc q)) joins_ways refl
          (t.well.apart (port_of v (suc p)) (port_of u (suc q)) leads.joins) close
          (m.kept.calm.facts.stations (n.place v) s at live).follows pv there ready;
      early = early;
      weaker = λ s pu at there r d mine. weaker s pu at there r d mine (choice_dec s best (base + depth u));
    }
      where
        weaker : (s : Station) (pu : Port) → slice_get w.stations (n.place u) ≡ Some s → slice_get s.ports q ≡ Some pu
            → (r d : ℕ) → pu.held ≡ Mine r d → Dec (HasChoice s best (base + depth u))
            → IsLower (final_vector k) (master r d u (suc q))
        weaker s pu at there r d mine (no not) =
            let (live, clock) = lives_at n w m.kept.calm u (t.lives u in_u) s at in
            weaker_clear t.ways t.ways_well k next refl leads.far best_u there_u leads.farther s
            (free_clear says g n Tree Out top best next base depth t start w m u in_u s at
            (holds_in_tree says g n Tree Out top best next base depth t start w m falling u in_u) not) clock pu there r
            d mine
        weaker s pu at there r d mine (yes root) = elim down [
          | inr not ↦ absurd (not s at root)
          | inl deeper ↦
              let old = follows_old says g n Tree Out top best next base depth t start w m u in_u s at
              (holds_in_tree says g n Tree Out top best next base depth t start w m falling u in_u) root in
              let a = told_nearer says g n Tree Out top best next base depth t start u old.i (depth v) old.r deeper
              old.told in
              let port = t.single u (suc old.i) (suc q) (port_of a.v (suc a.p)) (port_of v (suc p)) in_u a.in_v in_v
              (Joins-sym n.graph (port_of a.v (suc a.p)) (port_of u (suc old.i)) a.joins) back a.deeper deeper
              in
              let one : old.i ≡ q = omega (arith, port) in
              let same = same_there s.ports q old.holds.0 pu
              (subst (λ j. slice_get s.ports j ≡ Some old.holds.0) one old.holds.1) there in
              absurd (let both : Mine r d ≡ Received old.r =
              sym mine ∙ ap (λ (x : Port). x.held) (sym same) ∙ old.holds.2 in cc)
        ]

    -- who has its old choice hasn't settled
    pub not_ready : (w : MachineState) → IsOld n w v best (base + depth v) → LinkSettles says (telling n (before f) f
        next v p u q) w
    not_ready w root since pv pu l stand ready =
        absurd (settled_left stand.v ready.0 (root stand.v stand.teller))

    module _ (w w' : MachineState) (m : IsAftermath says g n w) (m' : IsAftermath says g n w')
        (step : MachineSteps says w w') (drops : UnlinkedDrop g n w w')
        (falling : IsFalling says g n Tree Out top best next base depth t start w)
        (falling' : IsFalling says g n Tree Out top best next base depth t start w') (early : HasTime w)
        (early' : HasTime w') (link : LinkSettles says (telling n (before f) f next v p u q) w) where
      kept_by : ((depth u ≡ suc (depth v)) ⊎ HasLeft n w u best (base + depth u))
          → ((depth u ≡ suc (depth v)) ⊎ HasLeft n w' u best (base + depth u))
          → LinkSettles says (telling n (before f) f next v p u q) w'
      kept_by down down' =
          telling_kept g n t.well t.left (before f) f next v p u q leads.joins delay says w w' m.kept m'.kept
          m.fits.stations m'.fits.stations (show w m falling early down) (show w' m' falling' early' down') step
          link

      -- it leads up the tree
      up_kept : depth v ≡ suc (depth u) → LinkSettles says (telling n (before f) f next v p u q) w'
      up_kept higher =
          by (falling.down u q v p in_u back (child_leads g n Tree Out top best next base depth t u v in_v higher))
        where
          after : IsOld n w' v best (base + depth v) ⊎ HasLeft n w' u best (base + depth u)
          after = elim (hearer_old says g n Tree Out top best next base depth t start w' m' u q v p in_u in_v back
              higher
              (falls_by n start (suc (depth u)))
              (falling'.down u q v p in_u back (child_leads g n Tree Out top best next base depth t u v in_v higher))) [
                | inl root ↦ inl root
                | inr (not, free) ↦ inr not
              ]

          not_led : HasLeft n w u best (base + depth u) → LinkSettles says (telling n (before f) f next v p u q) w'
          not_led not = elim after [ inl root ↦ not_ready w' root | inr not' ↦ kept_by (inr not) (inr not') ]

          by : DownStage says t.ways n best (base + depth u) (falls_by n start (suc (depth u))) u q v p w
              → LinkSettles says (telling n (before f) f next v p u q) w'
          by (inl led) = not_ready w' (elim (led_next says g n Tree Out top best next base depth t start w w' m m' step
              drops falling u
              q v p in_u back (child_leads g n Tree Out top best next base depth t u v in_v higher) led) [
                | inl on ↦ led_old says g n Tree Out top best next base depth t start w' m' u q v p in_u in_v back
                    higher on
                | inr left ↦ left_old says g n Tree Out top best next base depth t start w' m' u q v p in_u in_v back
                    higher (falls_by n start (suc (depth u))) left
              ])
          by (inr (inl (not, told))) = not_led not
          by (inr (inr (not, free))) = not_led not

      pub level_kept : LinkSettles says (telling n (before f) f next v p u q) w'
      level_kept = elim (t.steps v u in_v in_u (suc p, suc q, leads.joins)) [
        | inl deeper ↦ kept_by (inl deeper) (inl deeper)
        | inr higher ↦ up_kept higher
      ]

    -- time alone changes nothing
    pub level_waits : (w : MachineState) (time : ℕ) → LinkSettles says (telling n (before f) f next v p u q) w
        → LinkSettles says (telling n (before f) f next v p u q) (record w { time = time })
    level_waits w time link since pv pu l stand ready =
        link (omega arith) pv pu l
        (record {
          v = stand.v;
          u = stand.u;
          teller = stand.teller;
          teller_port = stand.teller_port;
          hearer = stand.hearer;
          hearer_port = stand.hearer_port;
          lane = stand.lane;
        }) ready

  -- what happens takes no time
  pub acts_now : (w w' : MachineState) → StationActs says w w' → w'.time ≡ w.time
  acts_now w w' (inl act) = act.call.time ∙ act.pops.time
  acts_now w w' (inr (inl act)) = act.pops.time
  acts_now w w' (inr (inr act)) = act.call.time

  -- so every step keeps them, until that time
  pub tree_settles_on : (last : ℕ) → ((f : ℕ) → last + n.most < before f) → (w w' : MachineState)
      (m : IsAftermath says g n w) (m' : IsAftermath says g n w')
      → MachineSteps says w w' → UnlinkedDrop g n w w'
      → IsFalling says g n Tree Out top best next base depth t start w
      → IsFalling says g n Tree Out top best next base depth t start w' → w.time ≤ last → TreeSettles w → TreeSettles w'
  tree_settles_on last room w w' m m' (inl wait) drops falling falling' in_time all f v p u q close in_v in_u leads =
      subst (LinkSettles says (telling n (before f) f next v p u q)) (sym wait.is)
      (level_waits f v p u q close in_v in_u leads (let more = room f in omega (arith, more)) w wait.time
      (all f v p u q close in_v in_u leads))
  tree_settles_on last room w w' m m' (inr act) drops falling falling' in_time all f v p u q close in_v in_u leads =
      level_kept f v p u q close in_v in_u leads (let more = room f in omega (arith, more)) w w' m m' (inr act) drops
      falling
      falling' (λ s pv at there not. let more = room f in omega (arith, more, in_time))
      (λ s pv at there not.
      let same = acts_now w w' act in
      let more = room f in
      omega (arith, same, more, in_time)) (all f v p u q close in_v in_u leads)
