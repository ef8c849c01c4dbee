-- The act by which the best of a tree gets a worse identity: from then on the tree falls back.
use Rattle.std.proofs.Common.{◌≡◌, ◌≢◌, ◌<◌, ◌≤◌, ◌+◌, ℕ, true, List, Some, slice_get, refl, sym, ap, subst, ◌∙◌, inl, inr, arith}
use Rattle.gptp_lists.specs.Members.{In}
use Rattle.gptp_graph.specs.Best.{IsBest}
use Rattle.gptp_graph.specs.Distance.{IsDistance}
use Rattle.gptp_graph.specs.PathBound.{path_bound}
use Rattle.gptp_graph.specs.Path.{Reaches}
use Rattle.gptp_graph.specs.Snapshot.{Adjacent, IsWellFormed, System, port_of}
use Rattle.gptp_graph.proofs.DistanceLemmas.{IsDistance-clock, IsDistance-unique, best_at_zero}
use Rattle.gptp_graph.proofs.PathLemmas.{Reaches-self}
use Rattle.gptp_links.specs.Fate.{Draw}
use Rattle.gptp_scenario.specs.Params.{KeepPace}
use Rattle.gptp_scenario.specs.declared.change.Act.TheVariants.{Change as Changing}
use Rattle.gptp_scenario.specs.declared.change.Change.TheVariants.{Priority1}
use Rattle.gptp_setup.specs.SettlingParams.{SettlingParams}
use Rattle.gptp_model.specs.Acts.{Acts}
use Rattle.gptp_model.specs.declared.done.Done.{Done}
use Rattle.gptp_model.specs.World.{WorldState}
use Rattle.gptp_bmca_machine.specs.Acts.{LaneStep}
use Rattle.gptp_bmca_machine.specs.CutTree.{CutsTree}
use Rattle.gptp_bmca_machine.specs.LossLaws.{IsAfterLoss, WasSystem}
use Rattle.gptp_bmca_machine.specs.Network.{Network}
use Rattle.gptp_bmca_machine.specs.RestLaws.{SameWiring}
use Rattle.gptp_bmca_machine.specs.SoundLaws.{AllAreNear}
use Rattle.gptp_bmca_machine.specs.Station.{Station as SeenStation}
use Rattle.gptp_bmca_machine.specs.Touch.{Other}
use Rattle.gptp_bmca_machine.proofs.FallLeaveLemmas.{other_only}
use Rattle.gptp_bmca_machine.proofs.LinkStepLemmas.{lives_at}
use Rattle.gptp_bmca_machine.proofs.PlaceLemmas.{same_there}
use Rattle.gptp_bmca_machine.proofs.RestLemmas.{was_itself}
use Rattle.gptp_invariants.specs.ChoiceCalm.{delay_in}
use Rattle.gptp_invariants.specs.ChoiceSettlesAsMachine.{IsWorld}
use Rattle.gptp_invariants.specs.ChoiceView.{says_announce, view}
use Rattle.gptp_invariants.specs.DelayMeasured.{LinkIsMeasured}
use Rattle.gptp_invariants.specs.WorldNews.{AreReadyBy, AreSilentBy}
use Rattle.gptp_invariants.specs.WorldSound.{IsSoundWorld}
use Rattle.gptp_invariants.specs.WorldStanding.{snapshot_of}
use Rattle.gptp_invariants.proofs.ChoiceSettlesAsMachineLemmas.{paths_bound}
use Rattle.gptp_invariants.proofs.WorldStandsLemmas.{stands_well}
use Rattle.gptp_settling_time.specs.Idle.{Lives}
use Rattle.gptp_settling_time.specs.TreeLosses.{IsWorsenedTree}
use Rattle.gptp_settling_time.proofs.BetterClockLemmas.{clocks_after, links_after, links_before, wiring_same}
use Rattle.gptp_settling_time.proofs.CutDeepLemmas.{deep_by}
use Rattle.gptp_settling_time.proofs.EndAnswersLemmas.{EndAnswers}
use Rattle.gptp_settling_time.proofs.FallAlwaysLemmas.{IsFallenAlways}
use Rattle.gptp_settling_time.proofs.FallDownLemmas.{FlightNames}
use Rattle.gptp_settling_time.proofs.LeftClaimedLemmas.{left_network}
use Rattle.gptp_settling_time.proofs.PriorityNewsLemmas.{priority_ready, priority_silent}
use Rattle.gptp_settling_time.proofs.ReactsLemmas.{AnswersAs, Reacts, reacts, reacts_after, reacts_as, reacts_before}
use Rattle.gptp_settling_time.proofs.ReducedLemmas.{IsReducedStation, reduced_itself}
use Rattle.gptp_settling_time.proofs.SettledSeenLemmas.{IsSettledSeen}
use Rattle.gptp_settling_time.proofs.SinceSetLemmas.{AreLimitedBy}
use Rattle.gptp_settling_time.proofs.TreeBeginsLemmas.{fallen_begins}
use Rattle.gptp_settling_time.proofs.WorsenedTracesLemmas.{worsened_stays}

module _ (p : SettlingParams) (silent owner value : ℕ) (w : WorldState) (draws : List Draw) (done : Done)
    (w' : WorldState) (pace : KeepPace p) (is : IsWorld p w) (is' : IsWorld p w') (measured : LinkIsMeasured w)
    (measured' : LinkIsMeasured w') (acts : Acts (Changing (Priority1 owner value)) w draws done w')
    (live : Lives owner w) (octet : value < 256) (past : silent ≤ w.time) (ready : AreReadyBy p silent w)
    (quiet_by : AreSilentBy p silent w) (seen : IsSettledSeen p w) (near : AllAreNear (snapshot_of w))
    (best next : System) (depth : ℕ → ℕ)
    (so : IsWorsenedTree (snapshot_of w) (snapshot_of w') owner best next depth)
    (few : path_bound (snapshot_of w') ≤ 255) (late : delay_in w' ≤ w'.time) (sound : IsSoundWorld w)
    (named : FlightNames says_announce (snapshot_of w) (view w)) (Limits : ℕ → Type 0)
    (limited : (limit : ℕ) → Limits limit → AreLimitedBy limit w') where
  abbrev n : Network
  n = left_network p silent w'

  r : Reacts w w'
  r = reacts p w is owner value live octet draws done w' acts

  well : IsWellFormed (snapshot_of w)
  well = stands_well w is.sound is.between is.encodable

  well' : IsWellFormed (snapshot_of w')
  well' = stands_well w' is'.sound is'.between is'.encodable

  wired : SameWiring seen.n n
  wired = wiring_same p w w' r seen.n n seen.same refl

  -- ---- what is left

  adjacent_after : (v u : ℕ) → Adjacent (snapshot_of w) v u → Adjacent (snapshot_of w') v u
  adjacent_after v u (i, k, joins) = (i, k, links_after p w w' r (port_of v i) (port_of u k) joins)

  -- its identity was that of the best
  is_best : best.clock ≡ owner
  is_best =
      best_at_zero (snapshot_of w) owner best well (so.was_best owner so.in_top)
      (subst (IsDistance (snapshot_of w) owner) so.first (so.was owner so.in_top))

  was_worse : (s : System) → In s (snapshot_of w').systems → s.clock ≡ owner → best.identity ≤ s.identity
  was_worse s member clock =
      let least : next.identity ≤ s.identity =
      so.in_top.least s member (subst (Reaches (snapshot_of w') owner) (sym clock)
      (Reaches-self (snapshot_of w') owner so.in_top.reached.1.begins)) in
      let worse = so.worse in
      omega (arith, least, worse)

  was_system : (s : System) → In s (snapshot_of w').systems → WasSystem (snapshot_of w) s
  was_system s member = elim (reacts_before p w is owner value live octet draws done w' acts s member) [
    | inl stood ↦ was_itself (snapshot_of w) s stood
    | inr clock ↦ record {
      old = best;
      known = (so.was_best owner so.in_top).live;
      clock = is_best ∙ sym clock;
      identity = was_worse s member clock;
    }
  ]

  was_far : (v : ℕ) → IsBest (snapshot_of w') v next → IsDistance (snapshot_of w) v (0 + depth v)
  was_far v in_v =
      let same : depth v ≡ 0 + depth v = omega arith in
      subst (IsDistance (snapshot_of w) v) same (so.was v in_v)

  tree : CutsTree (snapshot_of w) n owner best next 0 depth
  tree = record {
    well = well';
    left = record { graph = well; systems = was_system; links = links_before p w w' r };
    stand = λ s member. reacts_before p w is owner value live octet draws done w' acts s member;
    others = λ v known out.
        let unmoved = so.others v known out in
        record { live = known; best = unmoved.best; far = unmoved.far };
    worse = so.worse;
    was_best = so.was_best;
    was = was_far;
    near = λ v in_v.
        let was : IsDistance (snapshot_of w) v (depth v) = so.was v in_v in
        let (far, there, close) = near v (IsDistance-clock (snapshot_of w) v (depth v) well was) in
        let one = IsDistance-unique (snapshot_of w) v (depth v) far well was there in
        omega (arith, one, close);
    deep = λ v in_v.
        deep_by (snapshot_of w) (snapshot_of w') well well' owner next 0 depth so.first was_far
        (λ x u in_x joined. inl (adjacent_after x u joined)) n.reach (paths_bound p w' is') v in_v;
    first = so.first;
    lost = λ v u in_v joined. inl (adjacent_after v u joined);
    steps = so.steps;
    single = so.single;
    paths = paths_bound p w' is';
    few = few;
  }

  -- ---- the answer

  b : AnswersAs owner Other (view w) (view w')
  b = reacts_as p w is owner value live octet draws done w' acts

  place_is : b.call.place ≡ n.place owner
  place_is =
      seen.calm.placed b.call.place b.call.s b.call.here ∙ ap seen.n.place b.named ∙ sym (wired.place owner)

  answers : EndAnswers says_announce n owner Other (n.place owner) (view w) (view w')
  answers = record {
    only = other_only;
    s = b.call.s;
    s' = b.call.s';
    sends = b.call.sends;
    time = b.call.time;
    live = b.call.live;
    named = b.named;
    here = subst (λ i. slice_get (view w).stations i ≡ Some b.call.s) place_is b.call.here;
    there = subst (λ i. slice_get (view w').stations i ≡ Some b.call.s') place_is b.call.there;
    reacts = b.call.reacts;
    others = others;
    stood = λ i m at other away. stood i m at other;
    lanes = λ j l' at.
        let (l, there, step) = b.call.lanes j l' at in
        inl (l, there, subst (λ c. LaneStep c b.call.sends l l') b.named step);
  }
    where
      stood : (i : ℕ) (m : SeenStation) → slice_get (view w').stations i ≡ Some m → i ≢ n.place owner
          → slice_get (view w).stations i ≡ Some m
      stood i m at other = elim (b.call.stations i m at) [
        | inl (same, it) ↦ absurd (other (same ∙ place_is))
        | inr (apart, before) ↦ before
      ]

      others : (i : ℕ) (m : SeenStation) → slice_get (view w').stations i ≡ Some m → m.live ≡ true
          → i ≢ n.place owner
          → (old : SeenStation) × (slice_get (view w).stations i ≡ Some old) × IsReducedStation old m
      others i m at lives other = (m, stood i m at other, reduced_itself m)

  -- no other of the tree stands at its place
  outside_at : (c : ℕ) (m : SeenStation) → IsBest n.graph c next → c ≢ owner
      → slice_get (view w').stations (n.place c) ≡ Some m → IsAfterLoss n (view w') → n.place c ≢ n.place owner
  outside_at c m in_c apart at kept' same =
      let (lives, clock) = lives_at n (view w') kept'.calm c in_c.reached.1.begins m at in
      let one : m ≡ b.call.s' =
      same_there (view w').stations (n.place owner) m b.call.s'
      (subst (λ i. slice_get (view w').stations i ≡ Some m) same at)
      (subst (λ i. slice_get (view w').stations i ≡ Some b.call.s') place_is b.call.there) in
      apart (sym clock ∙ ap (λ (z : SeenStation). z.clock) one ∙ b.call.reacts.clock ∙ b.named)

  pub act_worsened : IsFallenAlways p (snapshot_of w) Limits silent w.time w'
  act_worsened =
      fallen_begins p w w' is' seen silent owner best next 0 depth tree so.in_top wired r.change Other (n.place owner)
      answers outside_at pace measured' past late sound named
      (priority_ready p silent owner value w draws done w' is is' measured live quiet_by octet acts ready)
      (priority_silent p silent owner value w draws done w' is is' measured live quiet_by octet acts)
      (worsened_stays (snapshot_of w) (snapshot_of w') well well' owner next so.in_top so.others
      (λ s member. reacts_after p w is owner value live octet draws done w' acts s member) (clocks_after p w w' r)
      adjacent_after) Limits limited
