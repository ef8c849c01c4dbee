-- The act by which a link goes down, so that a tree turns to its one way out.
use Rattle.std.proofs.Common.{◌≡◌, ◌≢◌, ◌⊎◌, ◌≤◌, ◌+◌, ℕ, suc, true, List, Some, slice_get, refl, sym, ap, subst, ◌∙◌, inl, inr, arith}
use Rattle.gptp_lists.specs.Members.{In}
use Rattle.gptp_graph.specs.PathBound.{path_bound}
use Rattle.gptp_graph.specs.Snapshot.{Adjacent, IsWellFormed, Joins, PortIdentity, System, clocks, port_of}
use Rattle.gptp_graph.proofs.LinkLemmas.{Adjacent-clock, Adjacent-sym}
use Rattle.gptp_links.specs.declared.link.Direction.{Direction}
use Rattle.gptp_links.specs.declared.link.Direction.TheVariants.{FromA, FromB}
use Rattle.gptp_links.specs.Fate.{Draw}
use Rattle.gptp_scenario.specs.Calm.{NothingLapses}
use Rattle.gptp_scenario.specs.Params.{KeepPace}
use Rattle.gptp_scenario.specs.declared.change.Act.TheVariants.{Change as Changing}
use Rattle.gptp_scenario.specs.declared.change.Change.TheVariants.{LinkDown}
use Rattle.gptp_setup.specs.SettlingParams.{SettlingParams}
use Rattle.gptp_system.specs.Input.{PortDown}
use Rattle.gptp_system.specs.State.{clock}
use Rattle.gptp_model.specs.Acts.{Acts}
use Rattle.gptp_model.specs.Changing.{TellsEnds, taken_down}
use Rattle.gptp_model.specs.World.{Channel, WorldState, receiver, sender}
use Rattle.gptp_model.specs.declared.done.Done.{Done}
use Rattle.gptp_model.specs.declared.station.Station.{Station}
use Rattle.gptp_bmca_machine.specs.LossLaws.{IsAfterLoss, Unmoved}
use Rattle.gptp_bmca_machine.specs.Network.{Network}
use Rattle.gptp_bmca_machine.specs.RestLaws.{SameWiring}
use Rattle.gptp_bmca_machine.specs.SoundEverywhere.{IsSoundEverywhere}
use Rattle.gptp_bmca_machine.specs.SoundLaws.{AllAreNear, UnlinkedAreOff}
use Rattle.gptp_bmca_machine.specs.Station.{Station as SeenStation}
use Rattle.gptp_bmca_machine.proofs.LinkStepLemmas.{lives_at}
use Rattle.gptp_invariants.specs.ChoiceCalm.{HaveQuietLinks, delay_in}
use Rattle.gptp_invariants.specs.ChoiceSettlesAsMachine.{IsWorld}
use Rattle.gptp_invariants.specs.ChoiceView.{says_announce, view}
use Rattle.gptp_invariants.specs.DelayMeasured.{LinkIsMeasured}
use Rattle.gptp_invariants.specs.WorldNews.{AreReadyBy, AreSilentBy}
use Rattle.gptp_invariants.specs.WorldSound.{IsSoundWorld}
use Rattle.gptp_invariants.specs.WorldStanding.{snapshot_of}
use Rattle.gptp_invariants.proofs.ChoiceSettlesAsMachineLemmas.{paths_bound}
use Rattle.gptp_invariants.proofs.WorldStandsLemmas.{stands_well}
use Rattle.gptp_settling_time.specs.Losses.{IsUnmoved}
use Rattle.gptp_settling_time.proofs.AlwaysClaimedLemmas.{IsStanding}
use Rattle.gptp_settling_time.proofs.FallAlwaysLemmas.{fallen_by, settles_by}
use Rattle.gptp_settling_time.proofs.FallDownLemmas.{FlightNames}
use Rattle.gptp_settling_time.proofs.LeftClaimedLemmas.{HaveAskedLong, left_network}
use Rattle.gptp_settling_time.proofs.LoweredLemmas.{ends, less_then, ready_on, still_joins, wires}
use Rattle.gptp_settling_time.proofs.GoesOnLemmas.{after_loss, dark_now}
use Rattle.gptp_settling_time.proofs.ReducedLemmas.{NearerStay}
use Rattle.gptp_settling_time.proofs.SettledSeenLemmas.{IsSettledSeen}
use Rattle.gptp_settling_time.proofs.TakenDownLemmas.{silent_down, told_keeps}
use Rattle.gptp_settling_time.proofs.WidenedLemmas.{ready_first}
use Rattle.gptp_graph.specs.Distance.{IsDistance}
use Rattle.gptp_graph.proofs.DecisionLemmas.{in_dec}
use Rattle.gptp_graph.proofs.DistanceLemmas.{IsDistance-neighbour}
use Rattle.gptp_graph.proofs.ExistenceLemmas.{distance_exists}
use Rattle.gptp_bmca_machine.specs.TurnTree.{TurnsTree}
use Rattle.gptp_bmca_machine.proofs.TurnLemmas.{TurnsBack}
use Rattle.gptp_bmca_machine.proofs.TurnLevelLemmas.{TurnSettles}
use Rattle.gptp_bmca_machine.proofs.TurnTreeLemmas.{beyond_out}
use Rattle.gptp_bmca_machine.proofs.RestLemmas.{left_of}
use Rattle.gptp_settling_time.specs.TreeLosses.{IsTurnedTree}
use Rattle.gptp_settling_time.proofs.TreeEndLemmas.{TopAnswers, top_answers}
use Rattle.gptp_settling_time.proofs.TreeTurnsLemmas.{tree_turns, turn_settles}
use Rattle.gptp_settling_time.proofs.TurnedTreeLemmas.{IsTurnedTreeAlways, turn_times}

module _ (p : SettlingParams) (silent owner port : ℕ) (w : WorldState) (draws : List Draw) (done : Done)
    (w' : WorldState) (pace : KeepPace p) (is : IsWorld p w) (is' : IsWorld p w') (measured : LinkIsMeasured w)
    (measured' : LinkIsMeasured w') (acts : Acts (Changing (LinkDown owner port)) w draws done w')
    (up : acts.1.channel.up ≡ true) (past : silent ≤ w.time) (ready : AreReadyBy p silent w)
    (quiet_by : AreSilentBy p silent w) (seen : IsSettledSeen p w) (near : AllAreNear (snapshot_of w))
    (live : (direction : Direction) (at : ℕ) (station : Station) → slice_get w.stations at ≡ Some station
    → clock station.system ≡ (sender direction acts.1.channel).clock → station.live ≡ true) (tree : List ℕ)
    (top other last out : ℕ) (best : System) (base : ℕ) (depth : ℕ → ℕ)
    (so : IsTurnedTree (snapshot_of w) (snapshot_of w') tree top other last out best base depth)
    (few : path_bound (snapshot_of w') ≤ 255)
    (ends_are : ((acts.1.channel.a.clock ≡ top) × (acts.1.channel.b.clock ≡ other))
    ⊎ ((acts.1.channel.b.clock ≡ top) × (acts.1.channel.a.clock ≡ other))) (late : delay_in w' ≤ w'.time)
    (sound : IsSoundWorld w) (named : FlightNames says_announce (snapshot_of w) (view w)) where
  abbrev channel : Channel
  channel = acts.1.channel

  abbrev here : slice_get w.net.channels acts.1.place ≡ Some acts.1.channel
  here = acts.1.is.here

  abbrev taken : WorldState
  taken = record w { net = taken_down acts.1.place acts.1.channel w.net; last_change = w.time }

  told : TellsEnds PortDown acts.1.channel
      (record w { net = taken_down acts.1.place acts.1.channel w.net; last_change = w.time }) draws w'
  told = ends p silent owner port w draws done w' pace is is' measured measured' acts up

  still_ready : AreReadyBy p silent w'
  still_ready = ready_on p silent owner port w draws done w' pace is is' measured measured' acts up ready

  abbrev n : Network
  n = left_network p silent w'

  wired : SameWiring seen.n n
  wired = wires p w is acts.1.place channel here draws w' is' told seen near n refl

  well : IsWellFormed (snapshot_of w)
  well = stands_well w is.sound is.between is.encodable

  well' : IsWellFormed (snapshot_of w')
  well' = stands_well w' is'.sound is'.between is'.encodable

  others : (v : ℕ) → In v (clocks n.graph) → (In v tree → ⊥) → Unmoved (snapshot_of w) n v
  others v known out_v =
      let unmoved = so.others v known out_v in record { live = known; best = unmoved.best; far = unmoved.far }

  out_lives : In out (clocks (snapshot_of w'))
  out_lives = Adjacent-clock (snapshot_of w') last out well' so.joined

  out_of : In other tree → ⊥
  out_of in_other =
      let less = so.nearer (base + depth other) (so.was other in_other) in
      absurd (omega (arith, less))

  -- the end of the way out is another
  out_apart : out ≡ other → ⊥
  out_apart same =
      let less = less_then p w is acts.1.place channel here draws w' is' told seen near in
      let (i, k, joins) = so.joined in
      let (d, there) = distance_exists (snapshot_of w) out well (Adjacent-clock (snapshot_of w) last out well
      (i, k, less.links (port_of last i) (port_of out k) joins)) in
      let nearer = so.nearer d (subst (λ c. IsDistance (snapshot_of w) c d) same there) in
      let (far, last_at) = distance_exists (snapshot_of w') last well' (so.lives last so.in_last) in
      let more = so.farther last far so.in_last last_at in
      let by = IsDistance-neighbour (snapshot_of w') out last d far well'
      (Adjacent-sym (snapshot_of w') last out so.joined) ((so.others out out_lives so.outside).far d there) last_at in
      omega (arith, nearer, more, by)

  -- each link between the two ends of the way out is left
  way_stood : (a b : ℕ) → Joins (snapshot_of w) (port_of last a) (port_of out b)
      → Joins (snapshot_of w') (port_of last a) (port_of out b)
  way_stood a b joins = elim (still_joins p w is acts.1.place channel here draws w' is' told seen near (port_of last a)
      (port_of out b) joins) [
        | inl still ↦ still
        | inr (direction, from, to) ↦ absurd (by direction (ap (λ (e : PortIdentity). e.clock) from)
            (ap (λ (e : PortIdentity). e.clock) to) ends_are)
      ]
    where
      ends_so : (x y : ℕ) → last ≡ x → out ≡ y → ((x ≡ top) × (y ≡ other)) ⊎ ((x ≡ other) × (y ≡ top)) → ⊥
      ends_so x y is_x is_y (inl (is_top, is_other)) = out_apart (is_y ∙ is_other)
      ends_so x y is_x is_y (inr (is_other, is_top)) =
          out_of (subst (λ c. In c tree) (is_x ∙ is_other) so.in_last)

      by : (direction : Direction) → last ≡ (sender direction channel).clock → out ≡ (receiver direction channel).clock
          → ((channel.a.clock ≡ top) × (channel.b.clock ≡ other)) ⊎ ((channel.b.clock ≡ top) × (channel.a.clock ≡
          other))
          → ⊥
      by FromA from to (inl (is_a, is_b)) = ends_so channel.a.clock channel.b.clock from to (inl (is_a, is_b))
      by FromA from to (inr (is_b, is_a)) = ends_so channel.a.clock channel.b.clock from to (inr (is_a, is_b))
      by FromB from to (inl (is_a, is_b)) = ends_so channel.b.clock channel.a.clock from to (inr (is_b, is_a))
      by FromB from to (inr (is_b, is_a)) = ends_so channel.b.clock channel.a.clock from to (inl (is_b, is_a))

  -- what the machine knows of it
  turns : TurnsTree (snapshot_of w) n tree top other last out best base depth
  turns =
      let less = less_then p w is acts.1.place channel here draws w' is' told seen near in
      record {
        well = well';
        left = left_of (snapshot_of w) n well less.systems less.links;
        lives = so.lives;
        was_best = so.was_best;
        is_best = so.is_best;
        was = so.was;
        farther = so.farther;
        first = so.first;
        lost = so.lost;
        ways = snapshot_of w';
        told = record {
          well = well';
          left = left_of (snapshot_of w') n well' (λ s known. known) (λ a b joins. joins);
          were = left_of (snapshot_of w) n well less.systems less.links;
          stands = λ s known. known;
          stood = less.systems;
          at_tree = λ v i q in_v joins. joins;
          reach = path_bound (snapshot_of w');
          paths = paths_bound p w' is';
          few = omega (arith, few);
        };
        kept = so.kept;
        steps = so.steps;
        single = so.single;
        leaves = so.leaves;
        in_last = so.in_last;
        outside = so.outside;
        unmoved = others out out_lives so.outside;
        joined = so.joined;
        one_way = so.one_way;
        way_stood = way_stood;
        paths = paths_bound p w' is';
        few = few;
      }

  -- the other end is unmoved, and so are its neighbours that are nearer
  other_stays : In other (clocks (snapshot_of w'))
      → IsUnmoved (snapshot_of w) (snapshot_of w') other × NearerStay (snapshot_of w) (snapshot_of w') other
  other_stays known_other = (
    so.others other known_other out_of,
    λ y e joined there farther. beside y e joined there
        farther (in_dec y tree),
  )
    where
      beside : (y e : ℕ) → Adjacent (snapshot_of w') other y → IsDistance (snapshot_of w') y e
          → IsDistance (snapshot_of w') other (suc e) → Dec (In y tree) → IsUnmoved (snapshot_of w) (snapshot_of w') y
      beside y e joined there farther (no out_y) =
          so.others y (Adjacent-clock (snapshot_of w') other y turns.well joined) out_y
      beside y e joined there farther (yes in_y) =
          elim (so.leaves y other in_y (Adjacent-sym (snapshot_of w') other y joined)) [
            | inl in_other ↦ absurd (out_of in_other)
            | inr (is_last, is_out) ↦
                let far = beyond_out (snapshot_of w) n tree top other last out best base depth turns e y (suc e) in_y
                there (subst (λ c. IsDistance (snapshot_of w') c (suc e)) is_out farther) in
                absurd (omega (arith, far))
          ]

  answers : TopAnswers p silent w is acts.1.place channel here draws w' is' told seen near live top other ends_are
      other_stays
  answers =
      top_answers p silent w is acts.1.place channel here draws w' is' told seen near live top other ends_are
      other_stays

  -- neither it nor who is of the tree stands at the other end
  beside_at : IsAfterLoss n (view w') → (c : ℕ) (m : SeenStation) → In c tree ⊎ (c ≡ out)
      → slice_get (view w').stations (n.place c) ≡ Some m → n.place c ≢ answers.at
  beside_at kept' c m around at same =
      let known : In c (clocks n.graph) = elim around [
        | inl in_c ↦ so.lives c in_c
        | inr is_out ↦ subst (λ v. In v (clocks n.graph)) (sym is_out)
            (Adjacent-clock n.graph last out turns.well so.joined)
      ] in
      let (lives, clock) = lives_at n (view w') kept'.calm c known m at in
      elim (answers.end m (subst (λ i. slice_get (view w').stations i ≡ Some m) same at) lives) [
        | inl is_other ↦ out_of (subst (λ v. In v tree) is_other so.in_top)
        | inr is_other ↦ elim around [
          | inl in_c ↦ out_of (subst (λ v. In v tree) (sym clock ∙ is_other) in_c)
          | inr is_out ↦ out_apart (sym is_out ∙ sym clock ∙ is_other)
        ]
      ]

  by_now : silent ≤ w'.time
  by_now = let time = answers.answers.time in omega (arith, past, time)

  standing' : IsStanding p silent w'
  standing' = record {
    pace = pace;
    world = is';
    measured = measured';
    silent = silent_down p w is acts.1.place channel here draws w' is' told silent quiet_by;
  }

  asked' : HaveAskedLong w'
  asked' at stands =
      let (first, by) = ready_first p silent w' is' by_now at (still_ready at stands) in
      let change = (told_keeps channel taken draws w' told).change in
      (first, silent, omega (arith, past, change), record { is = by; late = by_now })

  begins : HaveQuietLinks p.params w' → NothingLapses p.params
      → TurnsBack says_announce (snapshot_of w) n tree top other last out best base depth turns w.time (view w')
      × TurnSettles says_announce (snapshot_of w) n tree top other last out best base depth turns w.time
      (fallen_by n w.time) (settles_by n w.time)
      (turn_times (snapshot_of w) n tree top other last out best base depth turns w.time) (view w')
  begins quiet' off =
      subst (λ h. (t : TurnsTree h n tree top other last out best base depth) → AllAreNear h
      → IsSoundEverywhere says_announce h (view w) → FlightNames says_announce h (view w)
      → TurnsBack says_announce h n tree top other last out best base depth t w.time (view w')
      × TurnSettles says_announce h n tree top other last out best base depth t w.time (fallen_by n w.time)
      (settles_by n w.time) (turn_times h n tree top other last out best base depth t w.time) (view w')) seen.graph
      (λ t near0 sound0 named0. (
        tree_turns says_announce seen.n n tree top other last out best base depth t so.in_top seen.net (view w)
            seen.calm seen.invariant seen.late near0 sound0 named0 wired (view w') answers.touch answers.at
            answers.answers (λ c m around at. beside_at kept' c m around at) kept' dark',
        turn_settles says_announce seen.n n tree top other last out best base depth t so.in_top seen.net (view w)
            seen.calm seen.invariant seen.late near0 sound0 named0 wired (view w') answers.touch answers.at
            answers.answers (λ c m around at. beside_at kept' c m around at) kept' dark' (fallen_by n w.time)
            (settles_by n w.time) (turn_times seen.n.graph n tree top other last out best base depth t w.time)
            (let time = answers.answers.time in omega (arith, time)),
      )) turns near sound named
    where
      kept' : IsAfterLoss n (view w')
      kept' = after_loss p silent w' standing' asked' quiet' by_now off late

      dark' : UnlinkedAreOff n.graph (view w')
      dark' = dark_now p silent w' standing' asked' quiet' by_now

  pub act_turns_tree : IsTurnedTreeAlways p (snapshot_of w) silent w.time w'
  act_turns_tree = record {
    standing = standing';
    asked = asked';
    n = n;
    same = refl;
    tree = tree;
    top = top;
    other = other;
    last = last;
    out = out;
    best = best;
    base = base;
    depth = depth;
    turns = turns;
    others = others;
    past = by_now;
    late = late;
    seen = begins;
  }
