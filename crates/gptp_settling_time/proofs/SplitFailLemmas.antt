-- A system fails that others hear, and so moves trees: they begin to fall back, though nobody answers yet.
use Rattle.std.proofs.Common.{◌≡◌, ◌⊎◌, ◌<◌, ◌≤◌, ◌+◌, ◌*◌, ℕ, suc, pred, true, List, Some, slice_get, refl, sym, ap, subst, ◌∙◌, inl, inr, arith}
use Rattle.gptp_lists.specs.Members.{In}
use Rattle.gptp_graph.specs.PathBound.{path_bound}
use Rattle.gptp_graph.specs.Snapshot.{Adjacent, IsLinked, IsWellFormed, Joins, PortIdentity, Snapshot, System, clocks, port_of}
use Rattle.gptp_graph.proofs.DistanceLemmas.{IsDistance-clock, IsDistance-unique}
use Rattle.gptp_graph.proofs.ExistenceLemmas.{best_exists}
use Rattle.gptp_graph.proofs.LinkLemmas.{Adjacent-clock, Joins-clock}
use Rattle.gptp_graph.proofs.SystemLemmas.{In-clocks}
use Rattle.gptp_links.specs.Fate.{Draw}
use Rattle.gptp_scenario.specs.Calm.{NothingLapses}
use Rattle.gptp_scenario.specs.Params.{KeepPace}
use Rattle.gptp_scenario.specs.SettlingTime.{silence_span}
use Rattle.gptp_scenario.specs.declared.change.Act.TheVariants.{Change as Changing}
use Rattle.gptp_scenario.specs.declared.change.Change.TheVariants.{Fail}
use Rattle.gptp_setup.specs.SettlingParams.{SettlingParams}
use Rattle.gptp_model.specs.Acts.{Acts}
use Rattle.gptp_model.specs.World.{WorldState}
use Rattle.gptp_model.specs.declared.done.Done.{Done}
use Rattle.gptp_bmca_machine.specs.Calm.{Calm}
use Rattle.gptp_bmca_machine.specs.Clean.{IsWorse, Whole}
use Rattle.gptp_bmca_machine.specs.CutTree.{CutsOff, LosesSystem, Tree}
use Rattle.gptp_bmca_machine.specs.Facts.{station_system}
use Rattle.gptp_bmca_machine.specs.FailureTrees.{FailureMoves, Turning}
use Rattle.gptp_bmca_machine.specs.Frame.{Announce, AnnounceFrame, Lane}
use Rattle.gptp_bmca_machine.specs.Levels.{Invariant}
use Rattle.gptp_bmca_machine.specs.LossLaws.{EverythingFits, IsAfterLoss, IsLoss, IsWhatIsLeft, Unmoved}
use Rattle.gptp_bmca_machine.specs.Network.{IsSettlingNetwork, Network, settled_from}
use Rattle.gptp_bmca_machine.specs.RestLaws.{IsResting, SameWiring}
use Rattle.gptp_bmca_machine.specs.SoundLaws.{AllAreNear, IsSoundOnLinks}
use Rattle.gptp_bmca_machine.specs.TurnTree.{TurnsTree}
use Rattle.gptp_bmca_machine.specs.TwoTops.{First, CutsOffTwice, TopsTree}
use Rattle.gptp_bmca_machine.proofs.CutTreeLemmas.{IsCutOff, LeadsNowhere, moves_off}
use Rattle.gptp_bmca_machine.proofs.FailureBeginLemmas.{failure_begins, turning_settles}
use Rattle.gptp_bmca_machine.proofs.FailureTreesLemmas.{TopsHold, dark_by}
use Rattle.gptp_bmca_machine.proofs.FailureWaysLemmas.{failure_ways, outside_ways, ways_but}
use Rattle.gptp_bmca_machine.proofs.FallFailLemmas.{failing_settles}
use Rattle.gptp_bmca_machine.proofs.FallLemmas.{IsAftermath}
use Rattle.gptp_bmca_machine.proofs.LossLemmas.{loss_fits}
use Rattle.gptp_bmca_machine.proofs.LostBeginLemmas.{top_begins}
use Rattle.gptp_bmca_machine.proofs.SettledLemmas.{network_whole}
use Rattle.gptp_bmca_machine.proofs.RestLemmas.{left_of}
use Rattle.gptp_bmca_machine.proofs.TurnTreeLemmas.{IsOf, LeadsOut, turns_moves}
use Rattle.gptp_bmca_machine.proofs.FailureEndLemmas.{TopsTimes}
use Rattle.gptp_bmca_machine.proofs.LostTopsBeginLemmas.{tops_begin}
use Rattle.gptp_bmca_machine.proofs.TopsAfterLemmas.{bare_stale}
use Rattle.gptp_bmca_machine.proofs.TwoTopsBeginLemmas.{FlightLeads, falls_begins}
use Rattle.gptp_bmca_machine.proofs.TwoTopsWayLemmas.{base_some}
use Rattle.gptp_invariants.specs.ChoiceCalm.{HaveQuietLinks, delay_in, log_of}
use Rattle.gptp_invariants.specs.ChoiceSettlesAsMachine.{IsWorld}
use Rattle.gptp_invariants.specs.ChoiceView.{says_announce, view}
use Rattle.gptp_invariants.specs.DelayMeasured.{LinkIsMeasured}
use Rattle.gptp_invariants.specs.WorldNews.{AreReadyBy, AreSilentBy}
use Rattle.gptp_invariants.specs.WorldSound.{IsSoundWorld}
use Rattle.gptp_invariants.specs.WorldStanding.{snapshot_of}
use Rattle.gptp_invariants.proofs.ChoiceSettlesAsMachineLemmas.{paths_bound}
use Rattle.gptp_invariants.proofs.WorldGreatestDelayLemmas.{receipts_stay}
use Rattle.gptp_invariants.proofs.WorldLogLemmas.{linked_log}
use Rattle.gptp_invariants.proofs.WorldStandsLemmas.{stands_well}
use Rattle.gptp_invariants.proofs.WorldWayLemmas.{way_of}
use Rattle.gptp_settling_time.specs.Losses.{IsUnmoved}
use Rattle.gptp_settling_time.specs.TreeLosses.{CutsAllBeyond, LeavesAlone, IsTreeCutOff, IsTreeCutTwice, IsTreeTurned, IsUnmovedOrInTree}
use Rattle.gptp_settling_time.proofs.AgesByWorldLemmas.{WorldAgesBy}
use Rattle.gptp_settling_time.proofs.AgingClaimedLemmas.{named_in, stay_of}
use Rattle.gptp_settling_time.proofs.AlwaysClaimedLemmas.{IsStanding, start_calm, start_net, start_network}
use Rattle.gptp_settling_time.proofs.CutDeepLemmas.{deep_by}
use Rattle.gptp_settling_time.proofs.DueLemmas.{UpIsInUse, due_by_delay, in_use_joins}
use Rattle.gptp_settling_time.proofs.FailedAgesLemmas.{heard, lived_before}
use Rattle.gptp_settling_time.proofs.FailedAloneLemmas as alone
use Rattle.gptp_settling_time.proofs.FallAlwaysLemmas.{fallen_by, settles_by}
use Rattle.gptp_settling_time.proofs.FallDownLemmas.{FlightNames}
use Rattle.gptp_settling_time.proofs.LeftAloneLemmas.{alone_said}
use Rattle.gptp_settling_time.proofs.LeftClaimedLemmas.{HaveAskedLong}
use Rattle.gptp_settling_time.proofs.LinkBetweenLemmas.{IsLinkBetween, between_alike, lane_between, way_between}
use Rattle.gptp_settling_time.proofs.NamesItselfLemmas.{whole_alone}
use Rattle.gptp_settling_time.proofs.OffForGoodLemmas.{good_fails}
use Rattle.gptp_settling_time.proofs.SettledSeenLemmas.{IsSettledSeen, always_seen, sound_fits}
use Rattle.gptp_settling_time.proofs.SinceSetLemmas.{AreLimitedBy, limited_unset}
use Rattle.gptp_settling_time.proofs.SplitAlwaysLemmas.{GoesUntil, IsSplitAlways, MayStart, one_before, split_after, split_network}
use Rattle.gptp_settling_time.proofs.TopsDeepLemmas.{tops_deep}
use Rattle.gptp_settling_time.proofs.SplitLemmas.{IsSplit, SplitSettles, SplitState, SplitsBack, turned_times, tops_times}
use Rattle.gptp_settling_time.proofs.SplitRestLemmas.{IsSplitAnew, SplitNamesAlone, split_anew_begins}
use Rattle.gptp_settling_time.proofs.StillSoundLemmas.{AllSayStill}
use Rattle.gptp_settling_time.proofs.SplitTracesLemmas.{still_sound}
use Rattle.gptp_settling_time.proofs.ToldAnewLemmas.{FlightsAreSound}
use Rattle.gptp_settling_time.proofs.UpJoinsLemmas.{up_begins}

module _ (p : SettlingParams) (number : ℕ) (w : WorldState) (draws : List Draw) (done : Done) (w' : WorldState)
    (is : IsWorld p w) (is' : IsWorld p w') (acts : Acts (Changing (Fail number)) w draws done w')
    (lives : acts.1.station.live ≡ true) (seen : IsSettledSeen p w) (sound : IsSoundWorld w) (next : ℕ)
    (pace : KeepPace p) (measured : LinkIsMeasured w) (past : next ≤ w.time) (ready : AreReadyBy p next w)
    (quiet : HaveQuietLinks p.params w) (silent_before : AreSilentBy p next w) (near : AllAreNear (snapshot_of w))
    (over : next + pred (path_bound (snapshot_of w)) * delay_in w ≤ w.time)
    (named : FlightNames says_announce (snapshot_of w) (view w))
    (onward : FlightLeads says_announce (snapshot_of w) (view w)) where
  abbrev g : Snapshot
  g = snapshot_of w

  abbrev g' : Snapshot
  g' = snapshot_of w'

  well : IsWellFormed g
  well = stands_well w is.sound is.between is.encodable

  well' : IsWellFormed g'
  well' = stands_well w' is'.sound is'.between is'.encodable

  time_now : w'.time ≡ w.time
  time_now = alone.time_now p number w draws done w' is is' acts lives

  world_w : IsWorld p w
  world_w = is

  -- ---- the world of before, as the machine sees it at rest

  abbrev n0 : Network
  n0 = start_network p (path_bound g) next w

  net0 : IsSettlingNetwork n0
  net0 = start_net p (path_bound g) next w is (paths_bound p w is)

  stood_then : IsStanding p next w
  stood_then = record { pace = pace; world = is; measured = measured; silent = silent_before }

  calm0 : Calm n0 (view w)
  calm0 =
      start_calm p next w stood_then
      (heard p number w draws done w' is is' acts lives seen sound next pace measured past ready quiet silent_before)
      quiet (path_bound g)

  invariant0 : Invariant says_announce n0 (view w)
  invariant0 = always_seen p (path_bound g) next w is sound seen (paths_bound p w is)

  late0 : settled_from n0 ≤ w.time
  late0 = omega (arith, over)

  -- what is in flight on a link is wholly clean
  whole0 : (j : ℕ) (l : Lane) (f : AnnounceFrame) (a : Announce) → slice_get (view w).lanes j ≡ Some l → In f l.frames
      → says_announce f.octets a → Joins g l.from l.to → Whole g l.from.clock a
  whole0 j l f a at among said joins =
      let (b, is_b) = best_exists g l.from.clock well (Joins-clock g l.from l.to well joins) in
      let root = named j l f a b at among said joins is_b in
      elim (sound.lanes j l at f a among said).sound [
        | inl worse ↦ absurd (let above = worse b is_b in omega (arith, above, root))
        | inr whole ↦ whole
      ]

  rests : IsResting says_announce n0 (view w)
  rests = record {
    near = near;
    calm = calm0;
    invariant = invariant0;
    late = late0;
    whole = record {
      lanes = λ j l f a at among said joins. record {
        source = (sound.lanes j l at f a among said).source;
        whole = whole0 j l f a at among said joins;
      };
      stations = λ i s place r at live holds.
          network_whole says_announce n0 (view w) i s net0 calm0 invariant0 at live
          (near s.clock (In-clocks g (station_system s) (calm0.facts.stations i s at live).known)) late0
          (omega (arith, past)) place r (sound.stations i s at live place r holds) holds;
    };
  }

  seen0 : IsSettledSeen p w
  seen0 = record {
    n = n0;
    net = net0;
    calm = calm0;
    invariant = invariant0;
    late = late0;
    graph = refl;
    same = record { place = λ v. refl; lane = λ q. refl; log = λ q. refl; interval = λ q. refl };
    most = refl;
  }

  fits0 : EverythingFits says_announce g n0 (view w)
  unfolding seen0
  fits0 = sound_fits p w seen0 sound

  -- ---- what fails

  lane_still : (j : ℕ) (l : Lane) → slice_get (view w').lanes j ≡ Some l → slice_get (view w).lanes j ≡ Some l
  lane_still j l at =
      ap (λ ls. slice_get ls j) (sym (alone.lanes_now p number w draws done w' is is' acts lives)) ∙ at

  links' : (a b : PortIdentity) → Joins g a b → IsLinkBetween w' a b
  links' a b joins =
      between_alike w w' (alone.channels_now p number w draws done w' is is' acts lives) a b
      (way_between w a b (way_of w a b joins))

  module _ (silent : ℕ) where
    abbrev n' : Network
    n' = split_network p silent w'

    left' : IsWhatIsLeft g n'
    left' =
        left_of g n' well (alone.systems_before p number w draws done w' is is' acts lives)
        (alone.links_before p number w draws done w' is is' acts lives)

    same : SameWiring n0 n'
    unfolding seen0
    same = alone.wires p number w draws done w' is is' acts lives seen0 n' refl

    loses : LosesSystem g n' number
    loses = alone.loses_it p number w draws done w' is is' acts lives n' refl

    loss : IsLoss says_announce n0 n' (view w) (view w')
    loss = record {
      rests = rests;
      left = left';
      same = same;
      stations = alone.stood_seen p number w draws done w' is is' acts lives;
      lanes = λ a b l joins at. lane_still (n0.lane a) l at;
      flight = λ j l f a at among said known. (
        lane_still j l at,
        (fits0.lanes j l f a (lane_still j l at) among said
            (lived_before p number w draws done w' is is' acts lives seen sound next pace measured past ready quiet
            silent_before l.to.clock known)).joins,
      );
    }

    -- what has no steps names its sender alone
    names_alone : SplitNamesAlone p silent w'
    names_alone quiet' off = record {
      lanes = λ j l f a at among said known.
          let stood = lane_still j l at in
          let lived = lived_before p number w draws done w' is is' acts lives seen sound next pace measured past ready
          quiet silent_before l.to.clock known in
          whole_alone g l.from a (sound.lanes j l stood f a among said).source
          (whole0 j l f a stood among said (fits0.lanes j l f a stood among said lived).joins);
      stations = λ i s at live place r holds.
          let stood = alone.stood_seen p number w draws done w' is is' acts lives i s at live in
          let came = rests.whole.stations i s place r stood live holds in
          whole_alone g came.from r.said came.source came.whole;
    }

    -- where all beyond it is cut off, what unmoved systems say is sound
    says_still : CutsAllBeyond g g' → AllSayStill says_announce g n' (view w')
    says_still cuts = record {
      lanes = λ j l f a at among said known stays.
          let is_sound = sound.lanes j l (lane_still j l at) f a among said in
          still_sound g n' well' left' loses.systems cuts a.source.clock a stays
          (subst (λ (q : PortIdentity). IsWorse g q.clock a ⊎ Whole g q.clock a) (sym is_sound.source) is_sound.sound);
      stations = λ i s at live place r holds stays.
          let came = sound.stations i s (alone.stood_seen p number w draws done w' is is' acts lives i s at live) live
          place r holds in
          still_sound g n' well' left' loses.systems cuts r.said.source.clock r.said stays
          (subst (λ (q : PortIdentity). IsWorse g q.clock r.said ⊎ Whole g q.clock r.said) (sym came.source)
          came.sound);
    }

    -- where each live system is left alone what is in flight from one is sound, and from the failed one it is due soon
    left_alone : LeavesAlone g g' → (old : ℕ) → UpIsInUse w → w.time + delay_in w ≤ old
        → FlightsAreSound says_announce g' old (view w')
    left_alone leaves old used delay j l f a at among said =
        elim (loses.others l.from.clock (Joins-clock g l.from l.to well joins)) [
          | inl known ↦
              let is_sound = sound.lanes j l stood f a among said in
              inl (alone_said g n' well' left' number loses leaves l.from l.to a joins known
              is_sound.source is_sound.sound
              (λ b is_best. named j l f a b stood among said joins is_best)
              (λ d e here there. onward j l f a d e stood among said joins here there))
          | inr is_lost ↦
              let due = due_by_delay p w is seen used j l f a stood among said in inr (omega (arith, due, delay))
        ]
      where
        stood : slice_get (view w).lanes j ≡ Some l
        stood = lane_still j l at

        joins : Joins g l.from l.to
        joins = in_use_joins w is.sound used j l f stood among

    -- what it told is held for longer than an interval and a delay
    stays_long : (a b : PortIdentity) → Joins g a b → n'.interval_of a + n0.most < stay_of p (n'.log_of a)
    stays_long a b joins =
        let more : n0.interval_of a + n0.most < stay_of p (n0.log_of a) =
        receipts_stay p w pace.params.ranges.params is.known (log_of w.stations a)
        (linked_log p w is.sound is.known.set a (b, joins)) in
        let interval = same.interval a in
        subst (λ log. n'.interval_of a + n0.most < stay_of p log) (sym (same.log a)) (omega (arith, more, interval))

    -- who lost a link to it
    beside : (t : Turning) (best : System) → IsTreeTurned g g' best t → (v : ℕ) → In v t.tree
        → Adjacent g v number → v ≡ t.top
    beside t best is v in_v joined = elim (is.lost v number in_v joined) [
      | inl left ↦ absurd (loses.dead (Adjacent-clock g' v number well' left))
      | inr is_top ↦ is_top
    ]

    -- nobody lost another
    lost_alone : (t : Turning) (best : System) → IsTreeTurned g g' best t → (v u : ℕ) → In v t.tree → Adjacent g v u
        → Adjacent g' v u ⊎ ((v ≡ t.top) × (u ≡ number))
    lost_alone t best is v u in_v (a, b, joins) =
        elim (loses.others u (Adjacent-clock g v u well (a, b, joins))) [
          | inl known ↦
              inl (a, b, loses.links (port_of v a) (port_of u b) joins (is.lives v in_v) known)
          | inr is_lost ↦
              inr (beside t best is v in_v (subst (λ c. Adjacent g v c) is_lost (a, b, joins)), is_lost)
        ]

    module _ (best : System) (each : (v : ℕ) → In v (clocks g') → IsUnmovedOrInTree g g' best v)
        (few0 : path_bound g ≤ 255) (few : path_bound g' ≤ 255) (shorter : delay_in w' ≤ delay_in w) where
      unmoved_so : (v : ℕ) → In v (clocks g') → IsUnmoved g g' v → Unmoved g n' v
      unmoved_so v known unmoved = record { live = known; best = unmoved.best; far = unmoved.far }

      cut_so : (t : Tree) → IsTreeCutOff g g' best t → CutsOff g n' t.top best t.next t.base t.depth
      cut_so t cut = record {
        well = well';
        left = left';
        stand = λ s member. inl (loses.systems s member);
        worse = cut.worse;
        was_best = cut.was_best;
        was = cut.was;
        near = λ v in_v.
            let was = cut.was v in_v in
            let (far, there, close) = near v (IsDistance-clock g v (t.base + t.depth v) well was) in
            let one = IsDistance-unique g v (t.base + t.depth v) far well was there in
            omega (arith, one, close);
        deep = λ v in_v.
            deep_by g g' well well' t.top t.next t.base t.depth cut.first cut.was cut.lost n'.reach
            (paths_bound p w' is') v in_v;
        first = cut.first;
        lost = cut.lost;
        steps = cut.steps;
        single = cut.single;
        paths = paths_bound p w' is';
        few = few;
      }

      twice_so : (t : TopsTree) → IsTreeCutTwice g g' best t → CutsOffTwice g n' t.top best t.next t.base t.depth
      twice_so t cut = record {
        tree = record {
          well = well';
          deep = λ side v in_v.
              tops_deep g' well' t.next (t.depth side) (t.top side) (cut.in_top side) (cut.first side) (cut.steps side)
              n'.reach (paths_bound p w' is') v in_v;
          first = cut.first;
          steps = cut.steps;
          single = cut.single;
          paths = paths_bound p w' is';
          few = few;
        };
        left = left';
        worse = cut.worse;
        was_best = cut.was_best;
        was = cut.was;
        near = cut.near;
        lost = cut.lost;
      }

      turned_so : (t : Turning) → IsTreeTurned g g' best t
          → TurnsTree g n' t.tree t.top number t.last t.out best t.base t.depth
      turned_so t is = record {
        well = well';
        left = left';
        lives = is.lives;
        was_best = is.was_best;
        is_best = is.is_best;
        was = is.was;
        farther = is.farther;
        first = is.first;
        lost = lost_alone t best is;
        ways = ways_but g t.top number;
        told = failure_ways g n' well' left' number t.top loses t.tree is.in_top is.lives (beside t best is)
            (path_bound g) (paths_bound p w world_w) (omega (arith, few0));
        kept = outside_ways g n' well' left' number t.top loses t.tree is.in_top is.lives (beside t best is);
        steps = is.steps;
        single = is.single;
        leaves = is.leaves;
        in_last = is.in_last;
        outside = is.outside;
        unmoved = unmoved_so t.out (out_lives t is) is.unmoved;
        joined = is.joined;
        one_way = is.one_way;
        way_stood = λ a b joins.
            loses.links (port_of t.last a) (port_of t.out b) joins (is.lives t.last is.in_last) (out_lives t is);
        paths = paths_bound p w' is';
        few = few;
      }
        where
          out_lives : (t : Turning) → IsTreeTurned g g' best t → In t.out (clocks g')
          out_lives t is = Adjacent-clock g' t.last t.out well' is.joined

      abbrev moves : FailureMoves g n' number best (IsTreeCutOff g g' best) (IsTreeTurned g g' best)
          (IsTreeCutTwice g g' best)
      moves = record {
        well = well';
        left = left';
        loses = loses;
        cut = cut_so;
        cut_top = λ t cut. cut.in_top;
        turned = turned_so;
        turned_top = λ t turned. turned.in_top;
        twice = twice_so;
        twice_top = λ t cut. cut.in_top First;
        all = λ v known. elim (each v known) [
          | inl unmoved ↦ inl (unmoved_so v known unmoved)
          | inr in_tree ↦ inr in_tree
        ];
        paths = paths_bound p w' is';
        few = few;
      }

      abbrev split : IsSplit p g
      split = record {
        n = n';
        lost = number;
        best = best;
        moves = moves;
        near = near;
        since = w.time;
        delay = n0.most;
        shorter = shorter;
        long = λ x q i joins. stays_long (port_of number (suc q)) (port_of x (suc i)) joins;
      }

      -- ---- the claim

      module _ (By : PortIdentity → ℕ → Type 0) (Limits Were : ℕ → Type 0)
          (limited : (limit : ℕ) → Limits limit → AreLimitedBy limit w)
          (were : (old : ℕ) → Were old → UpIsInUse w × (w.time + delay_in w ≤ old)) (gone : ℕ)
          (measured' : LinkIsMeasured w')
          (long : w.time + silence_span p < silent) (by : WorldAgesBy p By w')
          (linked : (port : PortIdentity) (until : ℕ) → By port until → IsLinked g port)
          (is_gone : GoesUntil g By gone ⊎ (silent ≤ gone)) (later : w.time < gone) (late' : delay_in w' ≤ w'.time)
        where
          standing' : IsStanding p silent w'
          standing' =
              alone.standing_then p number w draws done w' is is' acts lives next silent pace measured measured' past
              ready quiet silent_before long

          asked' : HaveAskedLong w'
          asked' =
              alone.asked_then p number w draws done w' is is' acts lives next silent pace measured measured' past ready
              quiet silent_before long

          module _ (quiet' : HaveQuietLinks p.params w') (off : NothingLapses p.params) (start : ℕ)
              (now : w'.time ≤ start) where
            kept' : IsAfterLoss n' (view w')
            kept' = split_after p silent w' standing' asked' quiet' off late'

            state' : SplitState p g split start (view w')
            state' = record {
              lanes = λ c q i joins.
                  let x = lane_between p w' (port_of number (suc q)) (port_of c (suc i)) is'
                  (links' (port_of number (suc q)) (port_of c (suc i)) joins) in
                  record { lane = x.lane; there = x.there; from = x.from_is; to = x.to_is };
              named = named_in p w' is';
              later = let time = time_now in omega (arith, time);
            }

            fits' : EverythingFits says_announce g n' (view w')
            fits' = loss_fits says_announce n0 n' (view w) (view w') net0 loss

            -- what is held and on its way was so before
            sound' : IsSoundOnLinks says_announce g (view w')
            sound' = record {
              lanes = λ j l f a at among said joins.
                  let is_sound = sound.lanes j l (lane_still j l at) f a among said in
                  record { source = is_sound.source; sound = is_sound.sound };
              stations = λ i s place r at live holds.
                  sound.stations i s (alone.stood_seen p number w draws done w' is is' acts lives i s at live) live
                  place r
                  holds;
            }

            stood_lane : (c q i : ℕ) → Joins g (port_of number (suc q)) (port_of c (suc i)) → (l : Lane)
                → slice_get (view w').lanes (n'.lane (port_of number (suc q))) ≡ Some l
                → slice_get (view w).lanes (n'.lane (port_of number (suc q))) ≡ Some l
            stood_lane c q i joins l at = lane_still (n'.lane (port_of number (suc q))) l at

            tops' : TopsHold says_announce g n' number best (IsTreeCutOff g g' best) (IsTreeTurned g g' best)
                (IsTreeCutTwice g g' best) moves
                start (stay_of p) w.time n0.most shorter split.long (view w')
            tops' = record {
              cut = λ t cut.
                  top_begins says_announce n0 n' net0 (view w) (view w') loss kept' (IsCutOff n' t.next) LeadsNowhere
                  number t.top best t.next t.base t.depth loses
                  (moves_off g n' t.top best t.next t.base t.depth (cut_so t cut)) cut.in_top (stood_lane t.top)
                  (stay_of p) (named_in p w is) shorter (split.long t.top);
              turned = λ t turned.
                  top_begins says_announce n0 n' net0 (view w) (view w') loss kept' (IsOf t.tree)
                  (LeadsOut t.last t.out) number t.top best best t.base t.depth loses
                  (turns_moves g n' t.tree t.top number t.last t.out best t.base t.depth (turned_so t turned))
                  turned.in_top (stood_lane t.top) (stay_of p) (named_in p w is) shorter (split.long t.top);
              twice = λ t cut.
                  tops_begin says_announce n0 n' net0 (view w) (view w') loss kept' number t.top best t.next t.base
                  t.depth loses (twice_so t cut) stood_lane (stay_of p) (named_in p w is) shorter split.long;
            }

            after' : IsAftermath says_announce g n' (view w')
            after' = record {
              kept = kept';
              fits = fits';
              dark = dark_by says_announce g n' number best (IsTreeCutOff g g' best) (IsTreeTurned g g' best)
                  (IsTreeCutTwice g g' best) moves
                  start (stay_of p) w.time n0.most shorter split.long (view w') kept' fits' state' tops';
            }

            back' : SplitsBack p g split start (view w')
            back' = record {
              state = state';
              back = failure_begins says_announce n0 n' net0 (view w) (view w') loss after' named number best
                  (IsTreeCutOff g g' best) (IsTreeTurned g g' best) (IsTreeCutTwice g g' best) moves sound' start now;
              tops = tops';
            }

            settles' : SplitSettles p g split start (view w')
            settles' = record {
              cut = λ t cut.
                  failing_settles says_announce n0 n' net0 (view w) (view w') loss after' t.top best t.next t.base
                  t.depth (cut_so t cut) start (settles_by n' start) (λ f. omega arith);
              turned = λ t turned.
                  turning_settles says_announce n0 n' net0 (view w) (view w') loss after' named t.tree t.top number
                  t.last t.out best t.base t.depth (turned_so t turned) start (fallen_by n' start) (settles_by n' start)
                  (turned_times p g split start t turned);
              twice = λ t cut.
                  falls_begins says_announce n0 n' net0 (view w) (view w') loss kept' onward t.top best t.next t.base
                  t.depth (twice_so t cut)
                  (base_some g n' t.top best t.next t.base t.depth (twice_so t cut) number loses First
                  (cut.in_top First)) start
                  now (fallen_by n' start) (settles_by n' start 0) times.begun (times.soon 0) times.reached
                  (settles_by n' start) times.soon times.grows
                  (bare_stale says_announce g n' t.top best t.next t.base t.depth (twice_so t cut) (view w') after');
            }
              where
                times : TopsTimes n' start (fallen_by n' start) (settles_by n' start)
                times = tops_times p g split start

          started : (start : ℕ) → MayStart gone w.time start w' → w'.time ≤ start
          started start (inl soon) = let time = time_now in omega (arith, soon, later, time)
          started start (inr (since, now)) = let time = time_now in omega (arith, since, time)

          pub split_begins : IsSplitAlways p g By Limits Were w.time gone silent w'
          split_begins = record {
            standing = standing';
            asked = asked';
            good = good_fails p number w draws done w' is is' acts lives next past ready quiet silent_before;
            split = split;
            at = refl;
            some = later;
            same = refl;
            by = by;
            linked = linked;
            limited = λ limit is_limit.
                limited_unset limit (Changing (Fail number)) w draws done w' refl acts (limited limit is_limit);
            were = λ old is_were link direction channel here.
                up_begins w (were old is_were).0 link direction channel
                (ap (λ cs. slice_get cs link) (sym (alone.channels_now p number w draws done w' is is' acts lives))
                ∙ here);
            is_gone = is_gone;
            begun = let time = time_now in omega (arith, time);
            late = late';
            links = links';
            seen = λ quiet' off start may.
                let now = started start may in
                (back' quiet' off start now, settles' quiet' off start now);
            says = λ cuts quiet' off. says_still cuts;
            flights = λ cuts since old is_old quiet' off late.
                let time = time_now in
                let one = one_before gone w.time later in
                absurd (omega (arith, time, one, later, late));
            alone = λ leaves old is_were quiet' off. left_alone leaves old (were old is_were).0 (were old is_were).1;
          }

          -- and traces are told anew later
          pub anew_begins : w'.last_change ≡ w'.time → IsSplitAnew p g By Limits Were w.time gone silent w'
          anew_begins = split_anew_begins p g By Limits Were w.time gone silent w' split_begins names_alone
