-- News that come to a network at rest find each old link at its last stage.
use Rattle.std.proofs.Common.{◌≡◌, ◌≢◌, ◌⊎◌, ◌≤◌, ◌<◌, ◌+◌, ℕ, zero, suc, pred, List, Some, length, slice_get, sym, ap, subst, ◌∙◌, inl, inr, arith}
use native.Mathlib.Decide.{dec_le}
use Rattle.gptp_graph.specs.Path.{IsPath}
use Rattle.gptp_lists.specs.Members.{In}
use Rattle.gptp_graph.specs.Snapshot.{System, Snapshot, IsWellFormed, clocks, port_of, Joins}
use Rattle.gptp_graph.specs.Best.{IsBest}
use Rattle.gptp_graph.specs.Distance.{IsDistance}
use Rattle.gptp_graph.proofs.LinkLemmas.{Joins-sym, Joins-clock}
use Rattle.gptp_graph.proofs.SystemLemmas.{same_identity}
use Rattle.gptp_graph.proofs.BestLemmas.{IsBest-neighbour}
use Rattle.gptp_graph.proofs.DistanceLemmas.{distance_from}
use Rattle.gptp_graph.proofs.ExistenceLemmas.{distance_exists}
use Rattle.gptp_graph.proofs.PathBoundLemmas.{IsDistance-within}
use Rattle.gptp_bmca_machine.specs.Frame.{Announce, Spelling, AnnounceFrame}
use Rattle.gptp_bmca_machine.specs.Station.{Held, Disabled, MachineState}
use Rattle.gptp_bmca_machine.specs.LinkStage.{IsFinal, FinalAnnounceStays, LinkStage}
use Rattle.gptp_bmca_machine.specs.Link.{HasSettled, IsTeller, Ends, Stand, LinkSettles}
use Rattle.gptp_bmca_machine.specs.Network.{Network, IsSettlingNetwork, since, settled_from, wiring}
use Rattle.gptp_bmca_machine.specs.Calm.{Calm}
use Rattle.gptp_bmca_machine.specs.Levels.{LeadsFarther, LevelSettles, Invariant}
use Rattle.gptp_bmca_machine.specs.Run.{last_state, NearHaveSettled}
use Rattle.gptp_bmca_machine.specs.SoundLaws.{IsSoundOnLinks, AllAreNear, HasNews, IsNewsRun}
use Rattle.gptp_bmca_machine.specs.RestLaws.{LinkStays, SameWiring, StandsAsBefore, IsResting, NewsAtRest}
use Rattle.gptp_bmca_machine.proofs.LinkStageLemmas.{settled}
use Rattle.gptp_bmca_machine.proofs.NearestLemmas.{equal_within}
use Rattle.gptp_bmca_machine.proofs.RestLemmas.{Chooses}
use Rattle.gptp_bmca_machine.proofs.EndsLemmas.{AllChoose, capable_at, ends}
use Rattle.gptp_bmca_machine.proofs.LevelLemmas.{chooses}
use Rattle.gptp_bmca_machine.proofs.SettledLemmas.{since_grows}
use Rattle.gptp_bmca_machine.proofs.SoundLemmas.{path_on, news_all_sound}
use Rattle.gptp_bmca_machine.proofs.NewsLemmas.{rest_settles, rest_goes_on}

-- ---- rest is reached

module _ (says : Spelling) (n : Network) (net : IsSettlingNetwork n) (w : MachineState) (calm : Calm n w)
    (invariant : Invariant says n w)
    (late : settled_from n ≤ w.time) where
  pub by_then_at : (e : ℕ) → suc e ≤ n.reach → since n e ≤ w.time
  by_then_at e h =
      let grows : since n e ≤ since n (pred n.reach) = since_grows n e (pred n.reach) (le_pred e n.reach h) in
      omega arith
    where
      le_pred : (a b : ℕ) → suc a ≤ b → a ≤ pred b
      le_pred a zero k = absurd (omega arith)
      le_pred a (suc b) k = omega arith

  -- all systems at a distance that there is have settled
  pub all_choose : (d : ℕ) → d < 255 → since n d ≤ w.time → AllChoose n w d
  all_choose d near by = chooses says n net w calm invariant.sound d (λ e less. invariant.levels e) near by

  -- each link that leads farther holds what its teller tells
  pub links_stay : (d : ℕ) (best : System) (v p u q : ℕ) → d < 255 → LeadsFarther n.graph d best v p u q
      → LinkStays says (wiring n d best v p u q) w
  links_stay d best v p u q near leads pv pu l stand =
      settled says (wiring n d best v p u q) w.time pv.announce pu.held l.frames
      (teller.timer best.identity d (teller.settled from (has, on)).mine).0 (λ f h. (is.frames l f stand.lane h).left)
      is.in_time passed (invariant.levels d best v p u q near leads from pv pu l stand (has, on))
    where
      known : In v (clocks n.graph)
      known = Joins-clock n.graph (port_of v (suc p)) (port_of u (suc q)) net.graph leads.joins

      few : suc (suc d) ≤ n.reach
      few = elim leads.farther [
        | inl less ↦
            let within : leads.far < n.reach = IsDistance-within n.graph n.reach u leads.far net.paths leads.there in
            omega arith
        | inr (same, lower) ↦
            equal_within n.graph n.reach v u d net.graph net.paths (suc p, suc q, leads.joins)
            (net.graph.apart (port_of v (suc p)) (port_of u (suc q)) leads.joins) leads.here
            (subst (IsDistance n.graph u) (sym same) leads.there)
      ]

      passed : since n (suc d) ≤ w.time
      passed = by_then_at (suc d) few

      by : since n d ≤ w.time
      by = by_then_at d (omega (arith, few))

      choose : AllChoose n w d
      choose = all_choose d near by

      is : Ends (wiring n d best v p u q) w
      is = ends n net w calm invariant.sound d best v p u q near leads (λ at. choose)

      from : n.claimed d (port_of v (suc p)) ≤ w.time
      from =
          let claimed : n.claimed d (port_of v (suc p)) ≤ since n (suc d) =
          (net.timed d (port_of v (suc p)) (port_of u (suc q)) leads.joins).claimed in
          omega (arith, passed)

      chosen : Chooses stand.v best d
      chosen = choose v best stand.v stand.teller leads.is_best leads.here

      has : HasSettled (wiring n d best v p u q) stand.v
      has = (chosen.root, chosen.steps)

      on : pv.held ≢ Disabled
      on =
          capable_at n net w calm invariant.sound d best v p u q near leads (λ at. choose) v p (port_of u (suc q))
          stand.v pv known leads.joins stand.teller stand.teller_port
          (let ready : n.ready (port_of v (suc p)) + n.most ≤ since n (suc d) =
          (net.timed d (port_of v (suc p)) (port_of u (suc q)) leads.joins).ready in
          omega (arith, passed))

      teller : IsTeller (wiring n d best v p u q) w.time stand.v pv
      teller = is.teller stand.v pv stand.teller stand.teller_port

-- ---- what was final is

module _ (says : Spelling) (n n' : Network) (same : SameWiring n n') (d : ℕ) (b b' : System) (v p u q : ℕ)
    (root : b'.identity ≡ b.identity) where
  final_on : (a : Announce) → IsFinal (wiring n d b v p u q) a → IsFinal (wiring n' d b' v p u q) a
  final_on a final = record {
    root = final.root ∙ sym root;
    steps = final.steps;
    source = final.source;
    log = final.log ∙ sym (same.log (port_of v (suc p)));
    qualified = final.qualified;
  }

  pub stays_so : (announce : ℕ) (held : Held) (fs : List AnnounceFrame)
      → FinalAnnounceStays says (wiring n d b v p u q) announce held fs
      → FinalAnnounceStays says (wiring n' d b' v p u q) announce held fs
  stays_so announce held fs stays = record {
    what = stays.what;
    holds = stays.holds;
    final = final_on stays.what.said stays.final;
    flight = λ f a at said. final_on a (stays.flight f a at said);
    next = elim stays.next [
      | inl timer ↦ let interval = same.interval (port_of v (suc p)) in inl (omega (arith, timer, interval))
      | inr (f, at, said, due) ↦ inr (f, at, said, due)
    ];
  }

-- ---- what leads farther after news did before

module _ (g g' : Snapshot) (wf : IsWellFormed g) (wf' : IsWellFormed g') (news : HasNews g g') where
  -- a best of the same identity is the same system
  pub best_clock : (v : ℕ) (b b' : System) → IsBest g v b → IsBest g' v b' → b'.identity ≡ b.identity
      → b'.clock ≡ b.clock
  best_clock v b b' is is' same =
      let (s, live, clock, lower) = news.systems b is.live in
      let (us, path) = is.reached in
      let least : b'.identity ≤ s.identity =
      is'.least s live (us, subst (λ c. IsPath g' v c us) (sym clock) (path_on g g' news v b.clock us path)) in
      let one : b' ≡ s = same_identity g' b' s wf' is'.live live (omega arith) in
      ap (λ (x : System). x.clock) one ∙ clock

  -- no distance from it has grown
  pub nearer_now : (u far far' : ℕ) (b b' : System) → IsBest g u b → IsBest g' u b' → b'.clock ≡ b.clock
      → IsDistance g u far
      → IsDistance g' u far' → far' ≤ far
  nearer_now u far far' b b' is is' clock there there' =
      let from = distance_from g u far b wf is there in
      let from' = distance_from g' u far' b' wf' is' there' in
      let (us, path, long) = from.path in
      let least : far' ≤ length us =
      from'.least us (subst (λ c. IsPath g' c u us) (sym clock) (path_on g g' news b.clock u us path)) in
      omega arith

  pub leads_before : (d : ℕ) (b b' : System) (v p u q : ℕ) → IsBest g v b → IsDistance g v d
      → Joins g (port_of v (suc p)) (port_of u (suc q)) → b'.identity ≡ b.identity → LeadsFarther g' d b' v p u q
      → LeadsFarther g d b v p u q
  leads_before d b b' v p u q is here joins same leads =
      go (distance_exists g u wf (Joins-clock g (port_of u (suc q)) (port_of v (suc p)) wf
      (Joins-sym g (port_of v (suc p)) (port_of u (suc q)) joins)))
    where
      go : ((far : ℕ) × IsDistance g u far) → LeadsFarther g d b v p u q
      go (far, there) = record {
        is_best = is;
        here = here;
        joins = joins;
        far = far;
        there = there;
        farther = by (nearer_now u far leads.far b b' (IsBest-neighbour g v u b wf (suc p, suc q, joins) is)
            (IsBest-neighbour g' v u b' wf' (suc p, suc q, leads.joins) leads.is_best)
            (best_clock v b b' is leads.is_best same) there leads.there) leads.farther;
      }
        where
          by : leads.far ≤ far → (d < leads.far) ⊎ ((d ≡ leads.far) × (v < u)) → (d < far) ⊎ ((d ≡ far) × (v < u))
          by grown (inl less) = inl (omega arith)
          by grown (inr (as_far, lower)) = elim (dec_le far d) [
            | yes most ↦ inr (omega arith, lower)
            | no more ↦ inl (omega arith)
          ]

-- ---- a run from rest

module _ (says : Spelling) (n n' : Network) (net : IsSettlingNetwork n) (net' : IsSettlingNetwork n')
    (w w' : MachineState)
    (rests : IsResting says n w) (news : HasNews n.graph n'.graph) (same : SameWiring n n') where
  -- a link that was there is at its last stage
  pub stage_on : (v p u q : ℕ) → Joins n.graph (port_of v (suc p)) (port_of u (suc q)) → StandsAsBefore n w w' v p u
      → (d : ℕ)
      (best : System) → LeadsFarther n'.graph d best v p u q
      → LinkSettles says (wiring n' d best v p u q) w'
  stage_on v p u q joins stood d best leads from pv pu l stand ready =
      go (rests.near v (Joins-clock n.graph (port_of v (suc p)) (port_of u (suc q)) net.graph joins))
    where
      at_v : slice_get w.stations (n.place v) ≡ Some stand.v
      at_v =
          stood.teller stand.v (subst (λ i. slice_get w'.stations i ≡ Some stand.v) (same.place v) stand.teller)

      go : ((e : ℕ) × IsDistance n.graph v e × (e < 255))
          → LinkStage says (wiring n' d best v p u q) pv.announce pu.held l.frames
      go (e, here, close) = inr (inr (stays_so says n n' same d here.best best v p u q root pv.announce pu.held l.frames
          (links_stay says n net w rests.calm rests.invariant rests.late d here.best v p u q
          (subst (λ x. x < 255) (sym steps) close)
          (leads_before n.graph n'.graph net.graph net'.graph news d here.best best v p u q here.is_best
          (subst (IsDistance n.graph v) (sym steps) here) joins root leads) pv pu l stand_before)))
        where
          chosen : Chooses stand.v here.best e
          chosen =
              all_choose says n net w rests.calm rests.invariant rests.late e close
              (by_then_at says n net w rests.calm rests.invariant rests.late e
              (IsDistance-within n.graph n.reach v e net.paths here)) v
              here.best stand.v at_v here.is_best here

          root : best.identity ≡ here.best.identity
          root = sym ready.0.0 ∙ chosen.root

          steps : d ≡ e
          steps = sym ready.0.1 ∙ chosen.steps

          stand_before : Stand (wiring n d here.best v p u q) w pv pu l
          stand_before = record {
            v = stand.v;
            u = stand.u;
            teller = at_v;
            teller_port = stand.teller_port;
            hearer = stood.hearer stand.u
                (subst (λ i. slice_get w'.stations i ≡ Some stand.u) (same.place u) stand.hearer);
            hearer_port = stand.hearer_port;
            lane = stood.lane l
                (subst (λ i. slice_get w'.lanes i ≡ Some l) (same.lane (port_of v (suc p))) stand.lane);
          }

module _ (says : Spelling) (n n' : Network) (net : IsSettlingNetwork n) (net' : IsSettlingNetwork n')
    (w w' : MachineState)
    (finds : NewsAtRest says n n' w w') where
  levels : (d : ℕ) → LevelSettles says n' d w'
  levels d best v p u q close leads = elim (finds.links v p u q leads.joins) [
    | inl (joins, stood) ↦ stage_on says n n' net net' w w' finds.rests finds.news finds.same v p u q joins stood d
        best leads
    | inr sleeps ↦ (λ from pv pu l stand ready.
        absurd (ready.1 (sleeps stand.v pv stand.teller stand.teller_port)))
  ]

  sound_now : IsSoundOnLinks says n'.graph w'
  sound_now = news_all_sound n.graph n'.graph finds.news says w' net'.graph finds.whole

  pub news_from_rest : (ws : List MachineState) → IsNewsRun says n' w' ws → settled_from n' ≤ (last_state w' ws).time
      → NearHaveSettled n' (last_state w' ws)
  news_from_rest ws run = rest_settles says n' net' w' ws sound_now levels run

  pub rest_follows : (ws : List MachineState) → AllAreNear n'.graph → IsNewsRun says n' w' ws
      → w'.time < settled_from n'
      → settled_from n' + n'.most ≤ (last_state w' ws).time → n'.off ≤ (last_state w' ws).time
      → IsResting says n' (last_state w' ws)
  rest_follows ws near run early late off =
      let (calm, invariant, whole) = rest_goes_on says n' net' near w' ws sound_now levels run early late off in
      record { near = near; calm = calm; invariant = invariant; late = omega arith; whole = whole }
