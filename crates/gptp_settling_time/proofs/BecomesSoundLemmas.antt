-- A world that is left, in which all that is held becomes sound: links tell right traces by distance, and what they
-- told before is gone. Once that is so claims are made of it as of one since news.
use Rattle.std.proofs.Common.{◌≡◌, ◌⊎◌, ◌<◌, ◌≤◌, ◌+◌, ◌*◌, ℕ, suc, pred, Some, slice_get, refl, sym, subst, ◌∙◌, inl, inr, arith}
use Rattle.gptp_graph.specs.Best.{IsBest}
use Rattle.gptp_graph.specs.Distance.{IsDistance}
use Rattle.gptp_graph.specs.Snapshot.{Adjacent, IsWellFormed, Snapshot, System}
use Rattle.gptp_graph.specs.PathBound.{path_bound}
use Rattle.gptp_scenario.specs.Calm.{NothingLapses}
use Rattle.gptp_setup.specs.SettlingParams.{SettlingParams, largest_interval}
use Rattle.gptp_model.specs.World.{WorldState}
use Rattle.gptp_bmca_machine.specs.Acts.{MachineSteps, StationActs}
use Rattle.gptp_bmca_machine.specs.Frame.{Spelling}
use Rattle.gptp_bmca_machine.specs.Levels.{Invariant}
use Rattle.gptp_bmca_machine.specs.Station.{MachineState}
use Rattle.gptp_bmca_machine.specs.Calm.{Calm}
use Rattle.gptp_bmca_machine.specs.Network.{IsSettlingNetwork, Network, settled_from}
use Rattle.gptp_bmca_machine.specs.SoundLaws.{AllAreNear}
use Rattle.gptp_invariants.specs.ChoiceCalm.{HaveQuietLinks, delay_in, paths_with}
use Rattle.gptp_invariants.specs.ChoiceSettlesAsMachine.{IsWorld}
use Rattle.gptp_invariants.specs.ChoiceView.{says_announce, view}
use Rattle.gptp_invariants.specs.WorldNews.{AreSilentBy, IsNews}
use Rattle.gptp_invariants.specs.WorldSound.{IsSoundWorld}
use Rattle.gptp_invariants.specs.WorldStanding.{snapshot_of}
use Rattle.gptp_invariants.proofs.ChoiceCalmKeptLemmas.{KeepsNetwork, delay_kept, links_quiet, same_snapshot}
use Rattle.gptp_invariants.proofs.ChoiceSettlesAsMachineLemmas.{kept_back}
use Rattle.gptp_invariants.proofs.ChoiceCalmLemmas.{linked_interval}
use Rattle.gptp_settling_time.proofs.AlwaysClaimedLemmas.{IsClaimedAlways, IsStanding}
use Rattle.gptp_settling_time.proofs.FitsLemmas.{IsLeftUnmoved, UnlinkedHoldNothing}
use Rattle.gptp_settling_time.proofs.LeftClaimedLemmas.{HaveAskedBy, HaveAskedLong, asked_heard, left_calm, left_net, left_network, same_left}
use Rattle.gptp_settling_time.proofs.NamesItselfLemmas.{AllNameItself}
use Rattle.gptp_settling_time.proofs.RightBeginLemmas.{right_begins, root_right}
use Rattle.gptp_settling_time.proofs.RightKeptLemmas.{right_kept}
use Rattle.gptp_settling_time.proofs.RightLemmas.{all_right}
use Rattle.gptp_settling_time.proofs.TellsRightLemmas.{IsSettledState, LevelTellsRight, right_last, settled_state, tells_right_from}
use Rattle.gptp_settling_time.proofs.DueLemmas.{AreDueBy, UpIsInUse, due_by_delay, due_by_interval, use_kept}
use Rattle.gptp_settling_time.proofs.UnlinkedLemmas.{IsLeftSeen}
use native.Mathlib.Decide.{dec_le}
use Rattle.gptp_settling_time.proofs.SettledSeenLemmas.{IsSettledSeen, always_seen, news_seen, settled_in}
use Rattle.gptp_settling_time.proofs.SoundButOldLemmas.{IsSoundButOld, but_old_kept, old_are_gone}
use Rattle.gptp_settling_time.proofs.StandsLikeLemmas.{none_short}

-- ---- a moment

-- What is so of a world that is left, at a moment: the choice stands, and nothing is held at ports without a link.
pub record IsLeftNow (p : SettlingParams) (g : Snapshot) (silent : ℕ) (w : WorldState) : Type 0 where
  pub standing : IsStanding p silent w
  pub asked : HaveAskedLong w
  pub well : IsWellFormed g
  pub left : IsLeftUnmoved g (snapshot_of w)
  pub near : AllAreNear (snapshot_of w)
  pub late : pred (path_bound (snapshot_of w)) * delay_in w ≤ w.time
  pub seen : HaveQuietLinks p.params w → NothingLapses p.params
      → IsLeftSeen says_announce g (left_network p silent w) (view w)

module _ (p : SettlingParams) (g : Snapshot) (silent : ℕ) (w : WorldState) (is : IsLeftNow p g silent w)
    (quiet : HaveQuietLinks p.params w) (off : NothingLapses p.params) where
  abbrev n_now : Network
  n_now = left_network p silent w

  seen_now : IsLeftSeen says_announce g n_now (view w)
  seen_now = is.seen quiet off

  calm_now : Calm n_now (view w)
  calm_now = left_calm p silent w is.standing is.asked quiet seen_now.unlinked

  late_now : settled_from n_now ≤ w.time
  late_now = let past = is.late in omega (arith, past)

  -- the machine sees it settled
  settled_now : IsSettledSeen p w
  settled_now =
      settled_in p w n_now refl (left_net p silent w is.standing.world) calm_now seen_now.invariant late_now

-- ---- it becomes sound

-- What is in flight is gone so much later: by the greatest delay of a link in use, where each link that is up is in
-- use; else by an announce interval.
abbrev pub GoesBy : SettlingParams → ℕ → WorldState → Type 0
GoesBy p gone w = (UpIsInUse w × (gone ≡ delay_in w)) ⊎ (gone ≡ largest_interval p)

-- so it is in a network that has settled
pub goes_due : (p : SettlingParams) (gone : ℕ) (w : WorldState) → IsWorld p w → IsSettledSeen p w → GoesBy p gone w
    → AreDueBy (w.time + gone) w
goes_due p gone w is seen goes = elim goes [
  | inl (used, delay) ↦ subst (λ t. AreDueBy (w.time + t) w) (sym delay) (due_by_delay p w is seen used)
  | inr interval ↦ subst (λ t. AreDueBy (w.time + t) w) (sym interval) (due_by_interval p w is)
]

-- links tell right traces by distance, and what they told before is gone by a time
pub record IsBecomingRight (p : SettlingParams) (n : Network) (right gone old : ℕ) (w : WorldState) : Type 0 where
  pub base : ℕ
  pub goes : GoesBy p gone w
  pub levels : (d : ℕ) → LevelTellsRight says_announce n base (view w) d
  pub is : tells_right_from n base (pred n.reach) ≤ right
  pub early : w.time < right
  pub by : right + gone ≤ suc old

-- all is sound but for what is old, or becomes so
abbrev pub BecomesSound : SettlingParams → ℕ → ℕ → ℕ → WorldState → Type 0
BecomesSound p silent right old w =
    IsSoundButOld says_announce (snapshot_of w) old (view w)
    ⊎ ((gone : ℕ) × IsBecomingRight p (left_network p silent w) right gone old w)

-- The best tells what is right, and so do its neighbours at once: so much later all do, an announce interval and the
-- greatest delay for each system of a path but two.
abbrev pub nearer_echo : SettlingParams → WorldState → ℕ
nearer_echo p w = pred (pred (path_bound (snapshot_of w))) * (largest_interval p + delay_in w)

-- it begins to, where what names the best in no steps names it alone
pub becoming : (p : SettlingParams) (g : Snapshot) (silent gone : ℕ) (w : WorldState) → IsLeftNow p g silent w
    → GoesBy p gone w → (before : Snapshot)
    → ((v u : ℕ) (best : System) → Adjacent (snapshot_of w) v u → IsBest (snapshot_of w) v best
    → IsDistance (snapshot_of w) v 0 → IsBest before v best)
    → (quiet : HaveQuietLinks p.params w) (off : NothingLapses p.params)
    → AllNameItself says_announce (left_network p silent w) before (view w)
    → BecomesSound p silent (suc (w.time + nearer_echo p w)) (w.time + nearer_echo p w + gone) w
becoming p g silent gone w is goes before was quiet off itself =
    let n = left_network p silent w in
    let by = right_last n (suc w.time) (pred (path_bound (snapshot_of w))) in
    inr (
      gone,
      record {
        base = suc w.time;
        goes = goes;
        levels = right_begins says_announce n (suc w.time) (view w) (omega arith)
            (root_right says_announce before n (left_net p silent w is.standing.world) is.near (view w)
            (settled_state says_announce n (left_net p silent w is.standing.world) is.near (view w)
            (calm_now p g silent w is quiet off) (is.seen quiet off).invariant (late_now p g silent w is quiet off)
            (is.seen quiet off).unlinked) was itself (suc w.time));
        is = omega (arith, by);
        early = omega arith;
        by = omega arith;
      },
    )

-- ---- it goes on

-- time stands still while something happens
pub same_time : (says : Spelling) (w w' : MachineState) → StationActs says w w' → w'.time ≡ w.time
same_time says w w' (inl act) = act.call.time ∙ act.pops.time
same_time says w w' (inr (inl act)) = act.pops.time
same_time says w w' (inr (inr act)) = act.call.time

module _ (p : SettlingParams) (g : Snapshot) (silent right old : ℕ) (w w' : WorldState) (is : IsLeftNow p g silent w)
    (is' : IsLeftNow p g silent w')
    (sound : HaveQuietLinks p.params w → NothingLapses p.params → BecomesSound p silent right old w)
    (keeps : KeepsNetwork w w') (step : MachineSteps says_announce (view w) (view w')) where
  abbrev n : Network
  n = left_network p silent w

  net : IsSettlingNetwork n
  net = left_net p silent w is.standing.world

  same : left_network p silent w' ≡ n
  same = same_left p silent w w' keeps

  snapshot : snapshot_of w' ≡ snapshot_of w
  snapshot = same_snapshot w w' keeps

  module _ (quiet' : HaveQuietLinks p.params w') (off : NothingLapses p.params) where
    quiet : HaveQuietLinks p.params w
    quiet = links_quiet w' w (kept_back w w' keeps) p.params quiet'

    seen : IsLeftSeen says_announce g n (view w)
    seen = seen_now p g silent w is quiet off

    seen' : IsLeftSeen says_announce g (left_network p silent w') (view w')
    seen' = seen_now p g silent w' is' quiet' off

    calm : Calm n (view w)
    calm = calm_now p g silent w is quiet off

    calm' : Calm n (view w')
    calm' =
        subst (λ x. Calm x (view w')) same (calm_now p g silent w' is' quiet' off)

    none' : UnlinkedHoldNothing n.graph (view w')
    none' = subst (λ h. UnlinkedHoldNothing h (view w')) snapshot seen'.unlinked

    late : settled_from n ≤ w.time
    late = late_now p g silent w is quiet off

    stays_so : IsSoundButOld says_announce n.graph old (view w) → IsSoundButOld says_announce n.graph old (view w')
    stays_so sound =
        but_old_kept says_announce g n is.well net is.left is.near (view w) calm seen.invariant late
        seen.fits old sound (view w') calm' none' step

    -- links go on to tell right traces
    module _ (gone : ℕ) (becomes : IsBecomingRight p n right gone old w) where
      x : IsSettledState says_announce n (view w)
      x = settled_state says_announce n net is.near (view w) calm seen.invariant late seen.unlinked

      x' : IsSettledState says_announce n (view w')
      x' =
          settled_state says_announce n net is.near (view w') calm'
          (subst (λ y. Invariant says_announce y (view w')) same seen'.invariant)
          (subst (λ (y : Network). settled_from y ≤ w'.time) same (late_now p g silent w' is' quiet' off)) none'

      levels' : (d : ℕ) → LevelTellsRight says_announce n becomes.base (view w') d
      levels' =
          right_kept says_announce n net is.near becomes.base (view w) (view w') x x'
          (λ port linked.
          linked_interval p w is.standing.world.sound is.standing.world.known port linked) step becomes.levels

      goes' : GoesBy p gone w'
      goes' = elim becomes.goes [
        | inl (used, delay) ↦ inl (use_kept w w' keeps used, delay ∙ sym (delay_kept w w' keeps))
        | inr interval ↦ inr interval
      ]

      due : AreDueBy (w.time + gone) w
      due = goes_due p gone w is.standing.world (settled_now p g silent w is quiet off) becomes.goes

      -- a moment comes by which all is right
      all_by_now : right ≤ w'.time
          → IsSoundButOld says_announce n.graph old (view w')
      all_by_now by_now =
          let is_right = becomes.is in
          all_right says_announce n net is.near becomes.base (view w') x' levels' (omega (arith, is_right, by_now)) old
          (by step)
        where
          by : MachineSteps says_announce (view w) (view w') → AreDueBy old w'
          by (inl wait) = λ j l f a at among said.
              let soon = due j l f a (subst (λ (y : MachineState). slice_get y.lanes j ≡ Some l) wait.is at) among said
              in
              let early = becomes.early in
              let all = becomes.by in
              omega (arith, soon, early, all)
          by (inr act) =
              let time = same_time says_announce (view w) (view w') act in
              let early = becomes.early in
              absurd (omega (arith, time, early, by_now))

      right_then : BecomesSound p silent right old w'
      right_then = elim (dec_le right w'.time) [
        | yes by_now ↦ inl (subst (λ h. IsSoundButOld says_announce h old (view w')) (sym snapshot) (all_by_now by_now))
        | no not ↦ inr (
          gone,
          subst (λ y. IsBecomingRight p y right gone old w') (sym same) (record {
            base = becomes.base;
            goes = goes';
            levels = levels';
            is = becomes.is;
            early = omega (arith, not);
            by = becomes.by;
          }),
        )
      ]

    pub becomes_on : BecomesSound p silent right old w'
    becomes_on = elim (sound quiet off) [
      | inl done ↦ inl (subst (λ h. IsSoundButOld says_announce h old (view w')) (sym snapshot) (stays_so done))
      | inr (gone, becomes) ↦ right_then gone becomes
    ]

-- ---- what is old is gone

-- In a world that has settled, and in which all that is held and in flight is sound, claims are made of all links
-- always, from each time on by which ports at links are capable, and those without one aren't.
pub sound_claimed : (p : SettlingParams) (since silent : ℕ) (w : WorldState) → IsStanding p silent w → HaveAskedLong w
    → HaveAskedBy since w → IsSoundWorld w → IsSettledSeen p w → NothingLapses p.params
    → (start : ℕ) → since ≤ start → AreSilentBy p start w → IsClaimedAlways p start w
sound_claimed p since silent w standing asked_long asked sound settled off start past silent_from = record {
  news = news;
  heard = asked_heard p start w asked_long;
  settling = λ m bounded quiet off. always_seen p m start w standing.world sound settled bounded;
}
  where
    news : IsNews p start w
    news = record {
      pace = standing.pace;
      world = standing.world;
      measured = standing.measured;
      silent = silent_from;
      sound = sound;
      ready = λ at stands.
          let (first, by, before, x) = asked at stands in
          let soon = x.is.1 in
          inl (first, (x.is.0, omega (arith, before, soon, past)));
      settling = λ m bounded quiet off. news_seen p m start w standing.world sound settled bounded;
      in_turn = λ m bounded quiet short. absurd (none_short p (paths_with m w) off short);
    }

module _ (p : SettlingParams) (g : Snapshot) (since silent right old : ℕ) (w : WorldState)
    (is : IsLeftNow p g silent w) (asked : HaveAskedBy since w)
    (sound : HaveQuietLinks p.params w → NothingLapses p.params → BecomesSound p silent right old w)
    (quiet : HaveQuietLinks p.params w) (off : NothingLapses p.params) (gone : old < w.time) where
  -- all that is held and in flight is sound
  becomes_sound : IsSoundWorld w
  becomes_sound =
      elim (sound quiet off) [
        | inl done ↦
            old_are_gone says_announce (left_network p silent w) old (view w) (calm_now p g silent w is quiet off) gone
            done
        | inr (span, becomes) ↦
            let early = becomes.early in
            let by = becomes.by in
            absurd (omega (arith, gone, early, by))
      ]

  -- so claims are made of all links always
  pub becomes_claimed : (start : ℕ) → since ≤ start → AreSilentBy p start w → IsClaimedAlways p start w
  becomes_claimed =
      sound_claimed p since silent w is.standing is.asked asked becomes_sound (settled_now p g silent w is quiet off)
      off
