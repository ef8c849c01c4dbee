-- Where a failure has moved trees a link goes down that is up, and of which an end has failed: they fall back as they
-- did.
use Rattle.std.proofs.Common.{◌≡◌, ◌≤◌, ◌<◌, ℕ, suc, pred, true, false, List, Some, slice_get, refl, sym, ap, subst, ◌∙◌, inl, inr, arith}
use Rattle.std.proofs.lemmas.Option.{same_Some}
use Rattle.gptp_lists.specs.Members.{In}
use Rattle.gptp_lists.proofs.PlaceLemmas.{get-set_other, get-set_same, same_place}
use Rattle.gptp_graph.specs.PathBound.{path_bound}
use Rattle.gptp_graph.specs.Snapshot.{Joins, PortIdentity, Snapshot, port_of}
use Rattle.gptp_links.specs.declared.link.Direction.{Direction}
use Rattle.gptp_links.specs.declared.link.Direction.TheVariants.{FromA, FromB}
use Rattle.gptp_links.specs.Fate.{Draw}
use Rattle.gptp_scenario.specs.Calm.{NothingLapses}
use Rattle.gptp_scenario.specs.declared.change.Act.TheVariants.{Change as Changing}
use Rattle.gptp_scenario.specs.declared.change.Change.TheVariants.{LinkDown}
use Rattle.gptp_setup.specs.SettlingParams.{SettlingParams}
use Rattle.gptp_model.specs.Acts.{Acts}
use Rattle.gptp_model.specs.Changing.{IsChannel, lost, taken_down}
use Rattle.gptp_model.specs.declared.done.Done.{Done}
use Rattle.gptp_model.specs.World.{Channel, WorldState, port_id, sender}
use Rattle.gptp_bmca_machine.specs.Facts.{StationFacts}
use Rattle.gptp_bmca_machine.specs.Frame.{Lane}
use Rattle.gptp_bmca_machine.specs.LossLaws.{IsAfterLoss}
use Rattle.gptp_bmca_machine.specs.Network.{Network, network_setting}
use Rattle.gptp_bmca_machine.proofs.FailureEmptiedLemmas.{AreEmptied as MachineEmptied, fails_emptied, settles_emptied}
use Rattle.gptp_invariants.specs.ChoiceCalm.{HaveQuietLinks, delay_in}
use Rattle.gptp_invariants.specs.ChoiceSettlesAsMachine.{IsWorld}
use Rattle.gptp_invariants.specs.ChoiceView.{lane_place, lane_view, says_announce, view}
use Rattle.gptp_invariants.specs.DelayMeasured.{LinkIsMeasured}
use Rattle.gptp_invariants.specs.WorldStanding.{channel_is_used, live_stations, snapshot_of}
use Rattle.gptp_invariants.proofs.ChoiceCalmKeptLemmas.{KeepsNetwork}
use Rattle.gptp_invariants.proofs.ChoiceSeenLaneLemmas.{IsLaneAt, lane_from, lane_there}
use Rattle.gptp_settling_time.specs.TreeLosses.{CutsAllBeyond, LeavesAlone}
use Rattle.gptp_settling_time.proofs.AgesByLemmas.{UnlinkedAgeBy, by_kept, by_reduced}
use Rattle.gptp_settling_time.proofs.AgesByWorldLemmas.{WorldAgesBy}
use Rattle.gptp_settling_time.proofs.AgingClaimedLemmas.{aging_facts, aging_network, named_in, same_aging, stay_of}
use Rattle.gptp_settling_time.proofs.AgingStillLemmas.{IsEmptied, emptied_reduced}
use Rattle.gptp_settling_time.proofs.AlwaysClaimedLemmas.{IsStanding}
use Rattle.gptp_settling_time.proofs.EmptiedLemmas.{AreEmptied, IsAlike, emptied_after, lanes_emptied, older_facts}
use Rattle.gptp_settling_time.proofs.FallAlwaysLemmas.{fallen_by, settles_by}
use Rattle.gptp_settling_time.proofs.LeftClaimedLemmas.{HaveAskedLong}
use Rattle.gptp_settling_time.proofs.LinkBetweenLemmas.{IsLinkBetween, SameSenders, between_down, between_kept, senders_kept}
use Rattle.gptp_settling_time.proofs.LinkUpLemmas.{lane_set}
use Rattle.gptp_settling_time.proofs.NamesItselfLemmas.{AllNameAlone, alone_kept}
use Rattle.gptp_settling_time.proofs.OffForGoodLemmas.{GoOnOff, all_down}
use Rattle.gptp_settling_time.proofs.SinceSetLemmas.{AreLimitedBy, limited_unset}
use Rattle.gptp_settling_time.proofs.DueLemmas.{IsGoneBy}
use Rattle.gptp_settling_time.proofs.SplitAlwaysLemmas.{alone_then, IsSplitAlways, MayStart, left_by, may_before, one_before, says_then, seen_then, split_after, split_network, split_then}
use Rattle.gptp_settling_time.proofs.SplitLemmas.{IsCut, IsSplit, IsTurned, IsTwice, SplitSettles, SplitState, SplitsBack, cut_times, tops_times, turned_times}
use Rattle.gptp_settling_time.proofs.SplitRestLemmas.{SplitNamesAlone}
use Rattle.gptp_settling_time.proofs.StillSoundLemmas.{AllSayStill}
use Rattle.gptp_settling_time.proofs.ToldAnewLemmas.{FlightsAreSound}
use Rattle.gptp_settling_time.proofs.UpJoinsLemmas.{UpJoins, up_down, up_kept}
use Rattle.gptp_settling_time.proofs.UnusedDownLemmas.{asked', delay_taken, either, emptied, keeps, late_then, snapshot_taken, standing', tells, time}

module _ (p : SettlingParams) (g : Snapshot) (By : PortIdentity → ℕ → Type 0) (Limits Were : ℕ → Type 0)
    (failed gone silent owner port : ℕ)
    (w : WorldState) (draws : List Draw) (done : Done) (w' : WorldState) (is' : IsWorld p w')
    (measured' : LinkIsMeasured w') (acts : Acts (Changing (LinkDown owner port)) w draws done w')
    (split : IsSplitAlways p g By Limits Were failed gone silent w) (quiet : HaveQuietLinks p.params w)
    (up : acts.1.channel.up ≡ true)
    (dead : (place : ℕ) (channel : Channel) → IsChannel (port_id owner port) place w.net channel
    → channel_is_used (live_stations w.stations) (record channel { up = true }) ≡ false) where
  abbrev s : IsSplit p g
  s = split.split

  abbrev n : Network
  n = s.n

  abbrev link : ℕ
  link = acts.1.place

  abbrev channel : Channel
  channel = acts.1.channel

  abbrev here : slice_get w.net.channels acts.1.place ≡ Some acts.1.channel
  here = acts.1.is.here

  abbrev taken : WorldState
  taken = record w { net = taken_down link channel w.net; last_change = w.time }

  keeps' : KeepsNetwork taken w'
  keeps' = keeps p silent owner port w draws done w' is' measured' acts split.standing split.asked up dead

  now : w'.time ≡ w.time
  now = time p silent owner port w draws done w' is' measured' acts split.standing split.asked up dead

  graph_taken : snapshot_of taken ≡ snapshot_of w
  graph_taken = snapshot_taken p silent owner port w draws done w' is' measured' acts split.standing split.asked up dead

  delay_then : delay_in taken ≡ delay_in w
  delay_then = delay_taken p silent owner port w draws done w' is' measured' acts split.standing split.asked up dead

  standing_then : IsStanding p silent w'
  standing_then = standing' p silent owner port w draws done w' is' measured' acts split.standing split.asked up dead

  asked_then : HaveAskedLong w'
  asked_then = asked' p silent owner port w draws done w' is' measured' acts split.standing split.asked up dead

  -- ---- the network stays

  same_taken : split_network p silent taken ≡ split_network p silent w
  same_taken = λ i. record (split_network p silent w) {
    graph = graph_taken i;
    reach = path_bound (graph_taken i);
    lane = λ q. lane_set w.net.channels link channel (lost channel) q here refl refl i;
    most = delay_then i;
    step = delay_then i;
  }

  same' : split_network p silent w' ≡ n
  same' =
      ap (λ (z : Network). record z { gone = 0 }) (same_aging p silent taken w' keeps') ∙ same_taken
      ∙ split.same

  graph' : snapshot_of w' ≡ n.graph
  graph' = ap (λ (z : Network). z.graph) same'

  -- ---- who sends over links, and what doesn't become capable

  lost_sender : (direction : Direction) (c : Channel) → sender direction (lost c) ≡ sender direction c
  lost_sender FromA c = refl
  lost_sender FromB c = refl

  sends_taken : SameSenders w taken
  sends_taken place direction c c' at at' = elim (same_place place link) [
    | inl same ↦
        let one : c ≡ channel = same_Some c channel (sym at ∙ ap (slice_get w.net.channels) same ∙ here) in
        let then : c' ≡ lost channel =
        same_Some c' (lost channel)
        (sym at' ∙ ap (slice_get taken.net.channels) same
        ∙ get-set_same w.net.channels link channel (lost channel) here) in
        ap (sender direction) one ∙ sym (lost_sender direction channel) ∙ ap (sender direction) (sym then)
    | inr apart ↦
        ap (sender direction) (same_Some c c'
        (sym at ∙ sym (get-set_other w.net.channels link place (lost channel) apart) ∙ at'))
  ]

  sends : SameSenders w w'
  sends place direction c c' at at' = elim (same_place place link) [
    | inl same ↦ by (lost channel) (ap (slice_get taken.net.channels) same
        ∙ get-set_same w.net.channels link channel (lost channel) here)
    | inr apart ↦ by c (get-set_other w.net.channels link place (lost channel) apart ∙ at)
  ]
    where
      by : (d : Channel) → slice_get taken.net.channels place ≡ Some d → sender direction c ≡ sender direction c'
      by d there = sends_taken place direction c d at there ∙ senders_kept taken w' keeps' place direction d c' there
          at'

  goes : GoOnOff w w'
  goes =
      all_down p w split.standing.world link channel here draws w' is'
      (tells p silent owner port w draws done w' is' measured' acts split.standing split.asked up dead) split.good

  links' : (a b : PortIdentity) → Joins g a b → IsLinkBetween w' a b
  links' a b joins = between_kept taken w' a b keeps' (between_down w link w.time channel here a b (split.links a b
      joins))

  limited' : (limit : ℕ) → Limits limit → AreLimitedBy limit w'
  limited' limit is_limit =
      limited_unset limit (Changing (LinkDown owner port)) w draws done w' refl acts (split.limited limit is_limit)

  were' : (old : ℕ) → Were old → UpJoins g w'
  were' old is_were = up_kept g taken w' keeps' (up_down g w link w.time channel here (split.were old is_were))

  late' : delay_in w' ≤ w'.time
  late' = late_then p silent owner port w draws done w' is' measured' acts split.standing split.asked up dead split.late

  on : w.time ≤ w'.time
  on = let same = now in omega (arith, same)

  -- ---- the lanes of the link are emptied

  graph_then : snapshot_of w ≡ n.graph
  graph_then = ap (λ (z : Network). z.graph) split.same

  lanes_then : AreEmptied n.graph (view w).lanes (view taken).lanes
  lanes_then =
      subst (λ h. AreEmptied h (view w).lanes (view taken).lanes) graph'
      (emptied p silent owner port w draws done w' is' measured' acts split.standing split.asked up dead)

  itself : (m : Network) → IsAlike m m
  itself m = record {
    graph = refl;
    wiring = record { place = λ v. refl; lane = λ q. refl; log = λ q. refl; interval = λ q. refl };
    most = refl;
    interval = refl;
    timeout = refl;
    start = refl;
    bare = refl;
    off = refl;
    ready = λ q. refl;
  }

  is_emptied : IsEmptied (view w) (view taken)
  is_emptied = lanes_emptied n n (itself n) (view w) (view taken).lanes lanes_then

  machine_emptied : MachineEmptied (view w) (view taken)
  machine_emptied =
      record { time = is_emptied.time; stations = is_emptied.stations; lanes = is_emptied.lanes }

  -- each lane stands where it did
  lost_from : (direction : Direction) (c : Channel) → (lane_view direction (lost c)).from ≡ (lane_view direction c).from
  lost_from FromA c = refl
  lost_from FromB c = refl

  lost_to : (direction : Direction) (c : Channel) → (lane_view direction (lost c)).to ≡ (lane_view direction c).to
  lost_to FromA c = refl
  lost_to FromB c = refl

  record StandsThen (j : ℕ) (l : Lane) : Type 0 where
    lane : Lane
    there : slice_get (view taken).lanes j ≡ Some lane
    from : lane.from ≡ l.from
    to : lane.to ≡ l.to

  stands_then : (j : ℕ) (l : Lane) → slice_get (view w).lanes j ≡ Some l → StandsThen j l
  stands_then j l there = by (lane_from w.net.channels j l there)
    where
      by : IsLaneAt w.net.channels j l → StandsThen j l
      by at = elim (same_place at.link link) [
        | inl same ↦
            let one : at.channel ≡ channel =
            same_Some at.channel channel (sym at.here ∙ ap (slice_get w.net.channels) same ∙ here) in
            record {
              lane = lane_view at.direction (lost channel);
              there = ap (slice_get (view taken).lanes) (at.at ∙ ap (λ i. lane_place i at.direction) same)
                  ∙ lane_there taken.net.channels link at.direction (lost channel)
                  (get-set_same w.net.channels link channel (lost channel) here);
              from = lost_from at.direction channel
                  ∙ sym (ap (λ (m : Lane). m.from) at.is ∙ ap (λ (c : Channel). (lane_view at.direction c).from) one);
              to = lost_to at.direction channel
                  ∙ sym (ap (λ (m : Lane). m.to) at.is ∙ ap (λ (c : Channel). (lane_view at.direction c).to) one);
            }
        | inr away ↦ record {
          lane = l;
          there = ap (slice_get (view taken).lanes) at.at
              ∙ lane_there taken.net.channels at.link at.direction at.channel
              (get-set_other w.net.channels link at.link (lost channel) away ∙ at.here)
              ∙ ap (λ m. Some m) (sym at.is);
          from = refl;
          to = refl;
        }
      ]

  module _ (off : NothingLapses p.params) where
    kept : IsAfterLoss n (view w)
    kept =
        subst (λ z. IsAfterLoss z (view w)) split.same
        (split_after p silent w split.standing split.asked quiet off split.late)

    kept_taken : IsAfterLoss n (view taken)
    kept_taken = emptied_after n n (itself n) (view w) (view taken).lanes lanes_then kept

    -- what ages by its link does
    by' : WorldAgesBy p By w'
    by' quiet' =
        subst (λ h. UnlinkedAgeBy says_announce h (stay_of p) By (view w')) (sym graph')
        (either p silent owner port w draws done w' is' measured' acts split.standing split.asked up dead
        (λ v. UnlinkedAgeBy says_announce n.graph (stay_of p) By (view v)) ages_taken
        (λ step. by_kept says_announce (network_setting n) (stay_of p) By (view taken) (view w') kept_taken.calm.facts
        facts' (named_in p w' is') step ages_taken))
      where
        ages_taken : UnlinkedAgeBy says_announce n.graph (stay_of p) By (view taken)
        ages_taken =
            subst (λ h. UnlinkedAgeBy says_announce h (stay_of p) By (view taken)) graph_then
            (by_reduced says_announce (snapshot_of w) (stay_of p) By (view w) (view taken)
            (emptied_reduced (view w) (view taken) is_emptied) (split.by quiet))

        facts' : StationFacts (network_setting n) (view w')
        facts' =
            subst (λ (z : Network). StationFacts (network_setting z) (view w')) same'
            (older_facts (aging_network p silent w') 0 (view w')
            (aging_facts p silent w' standing_then asked_then quiet'))

    module _ (start : ℕ) (may : MayStart gone s.since start w') where
      may_then : MayStart gone s.since start w
      may_then =
          may_before p g By Limits Were failed gone silent w w' split standing_then asked_then
          goes sends same' links' by'
          limited' were' late' on
          start may

      was : SplitsBack p g s start (view w) × SplitSettles p g s start (view w)
      was = split.seen quiet off start may_then

      state_taken : SplitState p g s start (view taken)
      state_taken = record {
        lanes = λ c q i joins.
            let x = was.0.state.lanes c q i joins in
            let y = stands_then (n.lane (port_of s.lost (suc q))) x.lane x.there in
            record { lane = y.lane; there = y.there; from = y.from ∙ x.from; to = y.to ∙ x.to };
        named = named_in p w split.standing.world;
        later = split.begun;
      }

      seen_taken : SplitsBack p g s start (view taken) × SplitSettles p g s start (view taken)
      seen_taken = (
        fails_emptied says_announce g n s.lost s.best (IsCut p g s start) (IsTurned p g s start) (IsTwice p g s start)
            s.moves start (view w)
            (view taken) machine_emptied kept_taken (stay_of p) s.since s.delay s.shorter s.long state_taken was.0,
        settles_emptied says_announce g n s.lost s.best (IsCut p g s start) (IsTurned p g s start) (IsTwice p g s start)
            s.moves start
            (view w) (view taken) machine_emptied kept_taken was.0.back (fallen_by n start) (settles_by n start)
            (cut_times p g s start) (turned_times p g s start) (tops_times p g s start) was.1,
      )

    seen' : HaveQuietLinks p.params w' → NothingLapses p.params → (start : ℕ) → MayStart gone s.since start w'
        → SplitsBack p g s start (view w') × SplitSettles p g s start (view w')
    seen' quiet' lapses start may =
        either p silent owner port w draws done w' is' measured' acts split.standing split.asked up dead
        (λ v. SplitsBack p g s start (view v) × SplitSettles p g s start (view v)) (seen_taken start may)
        (λ step. seen_then p g By Limits Were failed gone silent w w' split standing_then asked_then
        goes sends same' links' by' limited' were'
        late' on quiet quiet' off start may (view taken).lanes (seen_taken start may) step)

    one : suc (pred gone) ≡ gone
    one = one_before gone failed split.some

    soon : gone ≤ suc (pred gone)
    soon = let same = one in omega (arith, same)

    -- what unmoved systems say stays sound
    says' : CutsAllBeyond g n.graph → HaveQuietLinks p.params w' → NothingLapses p.params
        → AllSayStill says_announce g n (view w')
    says' cuts quiet' lapses =
        either p silent owner port w draws done w' is' measured' acts split.standing split.asked up dead
        (λ v. AllSayStill says_announce g n (view v)) says_taken
        (λ step. says_then p g By Limits Were failed gone silent w w' split standing_then asked_then
        goes sends same' links' by' limited' were'
        late' on quiet quiet' off (pred gone) (inl soon) (view taken).lanes (seen_taken (pred gone) (inl soon)) step
        cuts says_taken)
      where
        says_taken : AllSayStill says_announce g n (view taken)
        says_taken = record {
          lanes = λ j l f a at among said known. elim (is_emptied.lanes j l at) [
            | inl stood ↦ (split.says cuts quiet off).lanes j l f a stood among said known
            | inr (none, down) ↦ absurd (subst (In f) none among)
          ];
          stations = λ i s at live. (split.says cuts quiet off).stations i s (is_emptied.stations i s at live) live;
        }

    -- something has changed, or it is too early
    flights' : CutsAllBeyond g n.graph → w'.last_change ≡ failed → (old : ℕ) → IsGoneBy p
        Limits (left_by p g s gone) old w'
        → HaveQuietLinks p.params w' → NothingLapses p.params → left_by p g s gone < w'.time
        → FlightsAreSound says_announce n.graph old (view w')
    flights' cuts since old is_old quiet' lapses late =
        let change = keeps'.change in
        let same = now in
        let before = one in
        let some = split.some in
        absurd (omega (arith, since, change, same, before, some, late))

    alone' : LeavesAlone g n.graph → (old : ℕ) → Were old → HaveQuietLinks p.params w' → NothingLapses p.params
        → FlightsAreSound says_announce n.graph old (view w')
    alone' leaves old is_were quiet' lapses =
        either p silent owner port w draws done w' is' measured' acts split.standing split.asked up dead
        (λ v. FlightsAreSound says_announce n.graph old (view v)) alone_taken
        (λ step. alone_then p g By Limits Were failed gone silent w w' split standing_then asked_then goes sends same'
        links' by' limited' were' late' on quiet quiet' off (pred gone) (inl soon) (view taken).lanes
        (seen_taken (pred gone) (inl soon)) step leaves old is_were alone_taken)
      where
        alone_taken : FlightsAreSound says_announce n.graph old (view taken)
        alone_taken j l f a at among said = elim (is_emptied.lanes j l at) [
          | inl stood ↦ split.alone leaves old is_were quiet off j l f a stood among said
          | inr (none, down) ↦ absurd (subst (In f) none among)
        ]

    -- so it is claimed of the world since
    pub down_splits : IsSplitAlways p g By Limits Were failed gone silent w'
    down_splits =
        split_then p g By Limits Were failed gone silent w w' split standing_then asked_then goes
        sends same' links' by' limited' were' late' on
        seen' says' flights' alone'

  -- what has no steps still names its sender alone
  pub alone_down : SplitNamesAlone p silent w → SplitNamesAlone p silent w'
  alone_down names quiet' lapses =
      subst (λ z. AllNameAlone says_announce z (view w')) (sym same')
      (either p silent owner port w draws done w' is' measured' acts split.standing split.asked up dead
      (λ v. AllNameAlone says_announce n (view v)) names_taken
      (λ step. alone_kept says_announce n (view taken) (view w') (kept_taken lapses).calm kept_after.calm step
      names_taken))
    where
      kept_after : IsAfterLoss n (view w')
      kept_after =
          subst (λ z. IsAfterLoss z (view w')) same'
          (split_after p silent w' standing_then asked_then quiet' lapses late')

      names_then : AllNameAlone says_announce n (view w)
      names_then = subst (λ z. AllNameAlone says_announce z (view w)) split.same (names quiet lapses)

      names_taken : AllNameAlone says_announce n (view taken)
      names_taken = record {
        lanes = λ j l f a at among said known. elim (is_emptied.lanes j l at) [
          | inl stood ↦ names_then.lanes j l f a stood among said known
          | inr (none, down) ↦ absurd (subst (In f) none among)
        ];
        stations = λ i s at live. names_then.stations i s (is_emptied.stations i s at live) live;
      }
