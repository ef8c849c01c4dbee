-- A tree begins to fall back, whatever its top answers to: what is claimed of the world from then on.
use Rattle.std.proofs.Common.{◌≡◌, ◌≢◌, ◌⊎◌, ◌≤◌, ◌+◌, ℕ, Some, slice_get, refl, inl, subst, arith}
use Rattle.gptp_lists.specs.Members.{In}
use Rattle.gptp_graph.specs.Best.{IsBest}
use Rattle.gptp_graph.specs.Snapshot.{Snapshot, System, clocks}
use Rattle.gptp_scenario.specs.Calm.{NothingLapses}
use Rattle.gptp_scenario.specs.Params.{KeepPace}
use Rattle.gptp_setup.specs.SettlingParams.{SettlingParams}
use Rattle.gptp_model.specs.World.{WorldState}
use Rattle.gptp_bmca_machine.specs.Clean.{IsWorse, Whole}
use Rattle.gptp_bmca_machine.specs.CutTree.{CutsTree}
use Rattle.gptp_bmca_machine.specs.Frame.{Announce}
use Rattle.gptp_bmca_machine.specs.LossLaws.{IsAfterLoss, Unmoved}
use Rattle.gptp_bmca_machine.specs.Network.{Network}
use Rattle.gptp_bmca_machine.specs.RestLaws.{SameWiring}
use Rattle.gptp_bmca_machine.specs.SoundEverywhere.{IsSoundEverywhere}
use Rattle.gptp_bmca_machine.specs.SoundLaws.{UnlinkedAreOff}
use Rattle.gptp_bmca_machine.specs.Station.{Station as SeenStation}
use Rattle.gptp_bmca_machine.specs.Touch.{StationTouch}
use Rattle.gptp_bmca_machine.proofs.FallEndLemmas.{FallsOff}
use Rattle.gptp_invariants.specs.ChoiceCalm.{HaveQuietLinks, delay_in}
use Rattle.gptp_invariants.specs.ChoiceSettlesAsMachine.{IsWorld}
use Rattle.gptp_invariants.specs.ChoiceView.{says_announce, view}
use Rattle.gptp_invariants.specs.DelayMeasured.{LinkIsMeasured}
use Rattle.gptp_invariants.specs.WorldNews.{AreReadyBy, AreSilentBy}
use Rattle.gptp_invariants.specs.WorldSound.{IsSoundWorld}
use Rattle.gptp_invariants.specs.WorldStanding.{snapshot_of}
use Rattle.gptp_invariants.proofs.ChoiceSendLemmas.{world_apart}
use Rattle.gptp_settling_time.proofs.AlwaysClaimedLemmas.{IsStanding}
use Rattle.gptp_settling_time.proofs.DueLemmas.{AreDueBy, IsGoneBy, gone_due}
use Rattle.gptp_settling_time.proofs.EndAnswersLemmas.{EndAnswers}
use Rattle.gptp_settling_time.proofs.FallAlwaysLemmas.{IsFallenAlways, fallen_by, falls_within, settles_by, settles_later}
use Rattle.gptp_settling_time.proofs.FallDownLemmas.{FlightNames, OffSettles, tree_falls, tree_settles}
use Rattle.gptp_settling_time.proofs.LeftClaimedLemmas.{HaveAskedLong, left_network}
use Rattle.gptp_settling_time.proofs.GoesOnLemmas.{after_loss, dark_now}
use Rattle.gptp_settling_time.proofs.SettledSeenLemmas.{IsSettledSeen}
use Rattle.gptp_settling_time.proofs.SinceSetLemmas.{AreLimitedBy}
use Rattle.gptp_settling_time.proofs.TreeSoundBeginLemmas.{outside_begins}
use Rattle.gptp_settling_time.proofs.TreeSoundLemmas.{IsSoundOutside}
use Rattle.gptp_settling_time.proofs.WidenedLemmas.{ready_first}

-- what is sound of who isn't of the tree stays so
abbrev pub StaysOutside : Snapshot → Snapshot → System → Type 0
StaysOutside g g' next = (v : ℕ) (c : Announce) → (IsBest g' v next → ⊥) → In v (clocks g)
    → IsWorse g v c ⊎ Whole g v c → IsWorse g' v c ⊎ Whole g' v c

module _ (p : SettlingParams) (w w' : WorldState) (is' : IsWorld p w') (seen : IsSettledSeen p w)
    (silent top : ℕ) (best next : System) (base : ℕ) (depth : ℕ → ℕ)
    (tree : CutsTree (snapshot_of w) (left_network p silent w') top best next base depth)
    (in_top : IsBest (snapshot_of w') top next) (wired : SameWiring seen.n (left_network p silent w'))
    (changed : w'.last_change ≡ w.time) where
  abbrev n : Network
  n = left_network p silent w'

  -- its best is another
  moved_top : Unmoved (snapshot_of w) n top → ⊥
  moved_top unmoved =
      let then = unmoved.best best (tree.was_best top in_top) in
      let least = then.least next in_top.live in_top.reached in
      let worse = tree.worse in
      let back = in_top.least best then.live then.reached in
      omega (arith, worse, back)

  module _ (touch : StationTouch) (other : ℕ) (a : EndAnswers says_announce n top touch other (view w) (view w'))
      (outside : (c : ℕ) (m : SeenStation) → IsBest n.graph c next → c ≢ top
      → slice_get (view w').stations (n.place c) ≡ Some m → IsAfterLoss n (view w') → n.place c ≢ other)
      (pace : KeepPace p) (measured' : LinkIsMeasured w') (past : silent ≤ w.time) (late_then : delay_in w' ≤ w'.time)
      (sound : IsSoundWorld w) (named : FlightNames says_announce (snapshot_of w) (view w))
      (ready' : AreReadyBy p silent w') (silent' : AreSilentBy p silent w')
      (stays : StaysOutside (snapshot_of w) (snapshot_of w') next) (Limits : ℕ → Type 0)
      (limited : (limit : ℕ) → Limits limit → AreLimitedBy limit w') where
    by_now : silent ≤ w'.time
    by_now = let time = a.time in omega (arith, past, time)

    standing' : IsStanding p silent w'
    standing' = record {
      pace = pace;
      world = is';
      measured = measured';
      silent = silent';
    }

    asked' : HaveAskedLong w'
    asked' at stands =
        let (first, by) = ready_first p silent w' is' by_now at (ready' at stands) in
        (first, silent, omega (arith, past, changed), record { is = by; late = by_now })

    begins : HaveQuietLinks p.params w' → NothingLapses p.params
        → FallsOff says_announce (snapshot_of w) n top best next base depth tree w.time (view w')
        × OffSettles says_announce (snapshot_of w) n top best next base depth tree w.time (settles_by n w.time)
        (view w')
    begins quiet' off =
        subst (λ h. (t : CutsTree h n top best next base depth) → (Unmoved h n top → ⊥)
        → IsSoundEverywhere says_announce h (view w) → FlightNames says_announce h (view w)
        → FallsOff says_announce h n top best next base depth t w.time (view w')
        × OffSettles says_announce h n top best next base depth t w.time (settles_by n w.time) (view w')) seen.graph
        (λ t moved sound0 named0. (
          tree_falls says_announce seen.n n top best next base depth t in_top moved seen.net (view w) seen.calm
              seen.invariant seen.late sound0 named0 wired (view w') touch other a
              (λ c m in_c apart at. outside c m in_c apart at kept') kept' dark',
          tree_settles says_announce seen.n n top best next base depth t in_top moved seen.net (view w) seen.calm
              seen.invariant seen.late sound0 named0 wired (view w') touch other a
              (λ c m in_c apart at. outside c m in_c apart at kept') kept' dark' (settles_by n w.time) (λ f.
              let time = a.time in
              let later = settles_later n w.time f in
              omega (arith, time, later)),
        )) tree moved_top sound named
      where
        kept' : IsAfterLoss n (view w')
        kept' = after_loss p silent w' standing' asked' quiet' by_now off late_then

        dark' : UnlinkedAreOff n.graph (view w')
        dark' = dark_now p silent w' standing' asked' quiet' by_now

    -- what was in flight is gone by then
    due_gone : HaveQuietLinks p.params w' → NothingLapses p.params → (old : ℕ) → IsGoneBy p Limits w.time old w'
        → AreDueBy old w'
    due_gone quiet' off old =
        let time = a.time in
        gone_due p Limits w.time old w' n is' (after_loss p silent w' standing' asked' quiet' by_now off late_then) refl
        refl limited (omega (arith, time))

    sound_begins : HaveQuietLinks p.params w' → NothingLapses p.params → (old : ℕ) → IsGoneBy p Limits w.time old w'
        → fallen_by n w.time + n.most ≤ old → IsSoundOutside says_announce n.graph next old (view w')
    sound_begins quiet' off old gone fits =
        subst (λ h. (t : CutsTree h n top best next base depth) → StaysOutside h n.graph next
        → (Unmoved h n top → ⊥) → IsSoundEverywhere says_announce h (view w)
        → FallsOff says_announce h n top best next base depth t w.time (view w')
        → IsSoundOutside says_announce n.graph next old (view w')) seen.graph
        (λ t stays0 moved sound0 back.
        outside_begins says_announce seen.n n top best next base depth t stays0 moved seen.net (view w)
        seen.calm seen.invariant seen.late sound0 wired (view w') touch other a w.time back
        (world_apart w' is'.sound is'.encodable) (dark_now p silent w' standing' asked' quiet' by_now) old
        (λ v in_v. let less = falls_within n w.time (depth v) (t.deep v in_v) in omega (arith, less, fits))
        (due_gone quiet' off old gone)) tree stays moved_top sound (begins quiet' off).0

    pub fallen_begins : IsFallenAlways p (snapshot_of w) Limits silent w.time w'
    fallen_begins = record {
      standing = standing';
      asked = asked';
      last = changed;
      n = n;
      same = refl;
      top = top;
      best = best;
      next = next;
      base = base;
      depth = depth;
      tree = tree;
      past = by_now;
      late = late_then;
      seen = λ quiet' off.
          let (falls, settles) = begins quiet' off in
          let time = a.time in
          (falls, inl (omega (arith, time), settles));
      sound = λ old gone fits quiet' off. sound_begins quiet' off old gone fits;
    }
