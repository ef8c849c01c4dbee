-- Worlds of documents since a system failed that others hear, and so moved trees.
use Rattle.std.proofs.Common.{◌≡◌, ◌⊎◌, ◌<◌, ◌≤◌, ◌+◌, ◌*◌, ℕ, pred, suc, Option, List, refl, subst, inl, inr, arith}
use native.Mathlib.Decide.{dec_le}
use Rattle.gptp_graph.specs.PathBound.{path_bound}
use Rattle.gptp_graph.specs.Snapshot.{IsLinked, PortIdentity, Snapshot}
use Rattle.gptp_links.specs.declared.bounds.Bounds.{Bounds}
use Rattle.gptp_setup.specs.SettlingParams.{SettlingParams, largest_interval}
use Rattle.gptp_scenario.specs.Calm.{IsCalm, NothingLapses}
use Rattle.gptp_scenario.specs.Network.{NetworkState, pace_of}
use Rattle.gptp_scenario.specs.SettlingTime.{silence_span, way_span}
use Rattle.gptp_scenario.specs.SyncWait.{sync_paths}
use Rattle.gptp_scenario.specs.declared.change.Timed.{Timed}
use Rattle.gptp_scenario.specs.declared.sync_wait.SyncPaths.{SyncPaths}
use Rattle.gptp_model.specs.Acts.{at}
use Rattle.gptp_model.specs.Course.{WasDone}
use Rattle.gptp_model.specs.Pending.{NothingBefore}
use Rattle.gptp_model.specs.Views.{IsNextAct}
use Rattle.gptp_model.specs.World.{WorldState}
use Rattle.gptp_world.specs.Transitions.{ActTrace}
use Rattle.gptp_world.proofs.SettlingInvariantLemmas.{next_octet}
use Rattle.gptp_network.specs.Document.{DocumentState}
use Rattle.gptp_network.specs.Snapshot.{StandsAfter}
use Rattle.gptp_network.proofs.ExistenceLemmas.{stands_after}
use Rattle.gptp_bmca_machine.specs.Network.{Network}
use Rattle.gptp_invariants.specs.ChoiceCalm.{HaveQuietLinks, delay_in, sync_paths_of}
use Rattle.gptp_invariants.specs.ChoiceSettled.{ChoiceStands, Settled}
use Rattle.gptp_invariants.specs.ChoiceView.{says_announce, view}
use Rattle.gptp_invariants.specs.WorldBounded.{IsBoundedWorld}
use Rattle.gptp_invariants.specs.WorldNews.{AreSilentBy}
use Rattle.gptp_invariants.specs.WorldStanding.{snapshot_of}
use Rattle.gptp_invariants.proofs.WorldNewsLemmas.{silent_from_now}
use Rattle.gptp_theorem.specs.AlikeLaws.{AreAlike}
use Rattle.gptp_theorem.specs.PlayedLaws.{IsPlayable}
use Rattle.gptp_theorem.proofs.CalmLemmas.{quiet_stands}
use Rattle.gptp_theorem.proofs.CalmKeptLemmas.{no_change}
use Rattle.gptp_settling_time.specs.Rests.{FlightIsGoneSince, HasToldApart, IsToldApart}
use Rattle.gptp_settling_time.specs.Arrivals.{arrived_by}
use Rattle.gptp_settling_time.specs.Losses.{NoneSilent, UpIsUsed}
use Rattle.gptp_settling_time.specs.TreeLosses.{CutsAllBeyond, LeavesAlone}
use Rattle.gptp_settling_time.proofs.AgesByWorldLemmas.{WorldAgesBy}
use Rattle.gptp_settling_time.proofs.AgingLemmas.{HeardNearer}
use Rattle.gptp_settling_time.proofs.AlwaysClaimedLemmas.{IsClaimedAlways}
use Rattle.gptp_settling_time.proofs.BecomesSoundLemmas.{nearer_echo}
use Rattle.gptp_settling_time.proofs.ClaimedToLemmas.{IsClaimedTo}
use Rattle.gptp_settling_time.proofs.ArrivalsLemmas.{SetLimits}
use Rattle.gptp_settling_time.proofs.DueLemmas.{IsGoneBy}
use Rattle.gptp_settling_time.proofs.GoesToLemmas.{FlightGoes, gone_to, paths_to}
use Rattle.gptp_settling_time.proofs.KeptToLemmas.{KeepsTo, keeps_act, keeps_later}
use Rattle.gptp_settling_time.proofs.WereSilentLemmas.{WereSilent, none_silent_from, were_act, were_later}
use Rattle.gptp_settling_time.proofs.SilentLinksLemmas.{AgesOver}
use Rattle.gptp_settling_time.proofs.SplitAlwaysLemmas.{GoesUntil, IsSplitAlways, MayStart, left_by, one_before}
use Rattle.gptp_settling_time.proofs.SplitRestLemmas.{IsSplitAnew, anew_acts, anew_later, settles_at, split_alone_claimed, split_anew_claimed, split_apart_claimed}
use Rattle.gptp_settling_time.proofs.SplitSettlesLemmas.{split_chooses, split_settles}
use Rattle.gptp_settling_time.proofs.ToldAnewLemmas.{FlightsAreSound, told_by, way_in}
use Rattle.gptp_settling_time.proofs.WorldMovesLemmas.{alike_so, beyond_alike, leaves_alike}

-- What came over a silent link ages so; its port was at a link. At ports that heard a nearer system it has aged by the
-- time from which on it is gone, or ports without a link aren't capable from then on.
abbrev pub GoesOver : NetworkState → Snapshot → List Timed → List Timed → ℕ → ℕ → ℕ → PortIdentity → ℕ → Type 0
GoesOver n before ago events failed gone silent port until =
    AgesOver n before ago events failed port until × IsLinked before port
    × (HeardNearer before port → (until ≤ gone) ⊎ (silent ≤ gone))

-- so it is gone by then
pub over_gone : (n : NetworkState) (before : Snapshot) (ago events : List Timed) (failed gone silent : ℕ)
    → GoesUntil before (GoesOver n before ago events failed gone silent) gone ⊎ (silent ≤ gone)
over_gone n before ago events failed gone silent = elim (dec_le silent gone) [
  | yes soon ↦ inr soon
  | no later ↦ inl (λ port until heard is. elim (is.2 heard) [ inl less ↦ less | inr soon ↦ absurd (later soon) ])
]

-- each link that was up after these events was in use, and what was in flight as the system failed is due by this time
abbrev pub WereUsed : NetworkState → List Timed → ℕ → ℕ → Type 0
WereUsed n ago failed old = UpIsUsed n ago × (failed + (sync_paths n ago).delay ≤ old)

-- A world may be taken as one in which what is held goes by other times of ports: if it isn't gone sooner, or if no
-- time has passed since the system failed.
pub split_by : (p : SettlingParams) (g : Snapshot) (By : PortIdentity → ℕ → Type 0)
    (Limits Were : ℕ → Type 0) (failed gone silent : ℕ)
    (w : WorldState) → IsSplitAlways p g By Limits Were failed gone silent w →
    (By' : PortIdentity → ℕ → Type 0) (gone' : ℕ)
    → WorldAgesBy p By' w → ((port : PortIdentity) (until : ℕ) → By' port until → IsLinked g port)
    → GoesUntil g By' gone' ⊎ (silent ≤ gone') → (gone ≤ gone') ⊎ ((failed < gone') × (w.time ≤ failed))
    → IsSplitAlways p g By' Limits Were failed gone' silent w
split_by p g By Limits Were failed gone silent w is By' gone' by' linked' is_gone' which = record {
  standing = is.standing;
  asked = is.asked;
  good = is.good;
  split = is.split;
  at = is.at;
  some = some';
  same = is.same;
  by = by';
  linked = linked';
  limited = is.limited;
  were = is.were;
  is_gone = is_gone';
  begun = is.begun;
  late = is.late;
  links = is.links;
  seen = λ quiet off start may. is.seen quiet off start (may_so start may);
  says = is.says;
  flights = flights';
  alone = is.alone;
}
  where
    some' : failed < gone'
    some' = elim which [
      | inl later ↦ let some = is.some in omega (arith, some, later)
      | inr (some, now) ↦ some
    ]

    flights' : CutsAllBeyond g is.split.n.graph → w.last_change ≡ failed → (old : ℕ)
        → IsGoneBy p Limits (left_by p g is.split gone') old w → HaveQuietLinks p.params w → NothingLapses p.params
        → left_by p g is.split gone' < w.time → FlightsAreSound says_announce is.split.n.graph old (view w)
    flights' cuts since old is_old quiet off late = elim which [
      | inr (some, now) ↦
          let one = one_before gone' failed some' in absurd (omega (arith, one, some, now, late))
      | inl later ↦
          let one = one_before gone' failed some' in
          let before = one_before gone failed is.some in
          is.flights cuts since old
          (elim is_old [
            | inl interval ↦ inl (omega (arith, interval, later, one, before))
            | inr (inl (used, delay)) ↦ inr (inl (used, omega (arith, delay, later, one, before)))
            | inr (inr (most, within, limit, is_limit, soon, delay)) ↦
                inr (inr (most, within, limit, is_limit, soon, omega (arith, delay, later, one, before)))
          ]) quiet off (omega (arith, late, later, one, before))
    ]

    may_so : (start : ℕ) → MayStart gone' is.split.since start w → MayStart gone is.split.since start w
    may_so start (inr now) = inr now
    may_so start (inl soon) = elim which [
      | inl later ↦ inl (omega (arith, soon, later))
      | inr (some, now) ↦
          let since = is.at in inr (omega (arith, soon, some, since), omega (arith, now, since))
    ]

-- so it is where traces are told anew later, if the time from which on it is gone is the same
pub anew_by : (p : SettlingParams) (g : Snapshot) (By : PortIdentity → ℕ → Type 0)
    (Limits Were : ℕ → Type 0) (failed gone silent : ℕ)
    (w : WorldState) → IsSplitAnew p g By Limits Were failed gone silent w →
    (By' : PortIdentity → ℕ → Type 0) → WorldAgesBy p By' w
    → ((port : PortIdentity) (until : ℕ) → By' port until → IsLinked g port)
    → GoesUntil g By' gone ⊎ (silent ≤ gone) → IsSplitAnew p g By' Limits Were failed gone silent w
anew_by p g By Limits Were failed gone silent w is By' by' linked' is_gone' = record {
  split = split_by p g By Limits Were failed gone silent w is.split By' gone by' linked' is_gone' (inl (omega arith));
  alone = is.alone;
  tells = is.tells;
}

-- A world of a document after these events, by which trees were cut off as a system failed: what others hold of it is
-- gone from a time on, and from another on ports without a link aren't capable.
pub record IsSplitTo (d : DocumentState) (ago events : List Timed) (gone silent : ℕ) (w : WorldState) : Type 0 where
  pub keeps : KeepsTo d events w
  pub before : Snapshot
  pub stood : (g : Snapshot) → StandsAfter d.network ago g → AreAlike before g
  pub failed : ℕ
  pub since : IsSplitAnew (pace_of d.network) before (GoesOver d.network before ago events failed gone silent)
      (SetLimits d.network ago) (WereUsed d.network ago failed) failed gone silent w
  pub were : WereSilent d.network ago w
  pub unanswered : silent ≡ suc (failed + silence_span (pace_of d.network))

module _ (d : DocumentState) (ago events : List Timed) (gone silent : ℕ) where
  pub split_to_later : (w : WorldState) (time : ℕ) → w.time ≤ time → NothingBefore time w.net.pending
      → IsSplitTo d ago events gone silent w → IsSplitTo d ago events gone silent (at time w)
  split_to_later w time later first so = record {
    keeps = keeps_later d events w time later first so.keeps;
    before = so.before;
    stood = so.stood;
    failed = so.failed;
    since = anew_later (pace_of d.network) so.before (GoesOver d.network so.before ago events so.failed gone silent)
        (SetLimits d.network ago) (WereUsed d.network ago so.failed) so.failed gone silent time w later first so.since;
    were = were_later d.network ago w time later so.were;
    unanswered = so.unanswered;
  }

  pub split_to_act : {F : Type 0} (answers : Bounds → ℕ → F → Option ℕ → F → Type 0) (t : ActTrace) (fate drawn : F)
      (w : WorldState) → IsNextAct w t.told.timed → WasDone answers t.told.timed fate drawn w t.after t.told.done
      → IsSplitTo d ago events gone silent w → IsSplitTo d ago events gone silent t.after
  split_to_act answers t fate drawn w next was so =
      let timed = t.told.timed in
      let p = pace_of d.network in
      let By = GoesOver d.network so.before ago events so.failed gone silent in
      let then = anew_later p so.before By (SetLimits d.network ago) (WereUsed d.network ago so.failed) so.failed gone
      silent timed.at w
      was.ready.timely.now was.ready.timely.first
      so.since in
      record {
        keeps = keeps_act d events answers t fate drawn w next was so.keeps;
        before = so.before;
        stood = so.stood;
        failed = so.failed;
        since = anew_acts p so.before By (SetLimits d.network ago) (WereUsed d.network ago so.failed) so.failed gone
            silent timed.act (at timed.at w)
            was.draws t.told.done t.after
            (no_change next.item timed.act w next.act) (next_octet next.item timed.act w next.act) was.acts then;
        were = were_act d ago events answers t fate drawn w next was so.keeps so.were;
        unanswered = so.unanswered;
      }

  module _ (w : WorldState) (so : IsSplitTo d ago events gone silent w) (playable : IsPlayable d)
      (calm : IsCalm d.network events) (off : NothingLapses d.network.params)
      (late : gone + 2 * (pred (path_bound (snapshot_of w)) * delay_in w) ≤ w.time) where
    abbrev p : SettlingParams
    p = pace_of d.network

    abbrev By : PortIdentity → ℕ → Type 0
    By = GoesOver d.network so.before ago events so.failed gone silent

    quiet : HaveQuietLinks p.params w
    quiet = (quiet_stands d.network events w playable.network so.keeps.stands so.keeps.claim.world.sound calm).links

    abbrev start : ℕ
    start = pred gone

    one : suc start ≡ gone
    one = one_before gone so.failed so.since.split.some

    may : gone ≤ suc start
    may = let same = one in omega (arith, same)

    late_now : start + 1 + 2 * (pred (path_bound (snapshot_of w)) * delay_in w) ≤ w.time
    late_now = let same = one in omega (arith, same, late)

    -- its choice stands
    pub split_to_chooses : ChoiceStands w
    split_to_chooses = split_chooses p so.before By (SetLimits d.network ago) (WereUsed d.network ago so.failed)
        so.failed gone silent w so.since.split
        quiet off start may late_now

    -- it has settled
    pub split_to_settled : (silent ≤ w.time) ⊎ NoneSilent d.network ago events → Settled w × IsBoundedWorld w
    split_to_settled (inl now) =
        split_settles p so.before By (SetLimits d.network ago) (WereUsed d.network ago so.failed) so.failed gone silent
        w so.since.split quiet off start
        may late_now silent
        so.since.split.standing.silent now
    split_to_settled (inr none) =
        split_settles p so.before By (SetLimits d.network ago) (WereUsed d.network ago so.failed) so.failed gone silent
        w so.since.split quiet off start
        may late_now w.time
        (none_silent_from d ago events w so.keeps so.were none w.time) (omega arith)

  -- once it has come to rest claims are made of all links always
  pub split_to_claimed : (w : WorldState) (start : ℕ) → IsSplitTo d ago events gone silent w → IsPlayable d
      → HasToldApart d.network ago events gone silent start w.time → IsClaimedTo d events start w
  split_to_claimed w start so playable rest = record {
    keeps = so.keeps;
    since = by rest.told;
  }
    where
      q : SettlingParams
      q = pace_of d.network

      -- nothing has changed since the system failed
      changed : w.last_change ≡ so.failed
      changed =
          let last = so.keeps.stands.last in
          let since = rest.since in
          let unanswered = so.unanswered in
          omega (arith, last, since, unanswered)

      later : w.last_change ≤ start
      later =
          let same = changed in
          let some = so.since.split.some in
          let over = rest.later in
          omega (arith, same, some, over)

      dark : AreSilentBy q start w
      dark = elim rest.unlinked [
        | inl now ↦
            silent_from_now q start silent w so.keeps.claim.world so.since.split.standing.silent now
        | inr none ↦ none_silent_from d ago events w so.keeps so.were none start
      ]

      links : HaveQuietLinks q.params w
      links =
          (quiet_stands d.network events w playable.network so.keeps.stands so.keeps.claim.world.sound rest.calm).links

      paths : sync_paths d.network events ≡ sync_paths_of w
      paths = paths_to d playable events w so.keeps

      -- trees have settled
      settled_now : gone + 2 * way_span (sync_paths d.network events) ≤ w.time → settles_at gone w < w.time
      settled_now settled =
          let same = one_before gone so.failed so.since.split.some in
          let by_then : gone + 2 * way_in w ≤ w.time =
          subst (λ (u : SyncPaths). gone + 2 * way_span u ≤ w.time) paths settled in
          omega (arith, same, by_then)

      -- where all beyond the failed system is cut off what was in flight is gone, else traces are told anew
      by : IsToldApart d.network ago events gone w.time → IsClaimedAlways q start w
      by (inl over) =
          split_anew_claimed q so.before (GoesOver d.network so.before ago events so.failed gone silent)
          (SetLimits d.network ago) (WereUsed d.network ago so.failed) so.failed gone
          silent w so.since links rest.off changed told start later dark
        where
          told : told_by q (settles_at gone w) w + largest_interval q < w.time
          told =
              let same = one_before gone so.failed so.since.split.some in
              let by_then : gone + 2 * way_in w + nearer_echo q w + largest_interval q ≤ w.time =
              subst (λ (u : SyncPaths). gone + 2 * way_span u + pred (pred u.systems) * (largest_interval q + u.delay)
              + largest_interval q ≤ w.time) (paths_to d playable events w so.keeps) over in
              omega (arith, same, by_then)
      by (inr (inl (cuts, flight, is_gone, settled, arrived))) =
          split_apart_claimed q so.before (GoesOver d.network so.before ago events so.failed gone silent)
          (SetLimits d.network ago) (WereUsed d.network ago so.failed) so.failed gone silent w so.since links rest.off
          changed cuts_so (settled_now settled)
          (gone_to d playable events w so.keeps (SetLimits d.network ago) (pred gone + way_in w) flight (goes is_gone)
          gone_by) start later dark
        where
          gone_by : pred gone + way_in w + flight < w.time
          gone_by =
              let same = one_before gone so.failed so.since.split.some in
              let by_then : gone + way_in w + flight ≤ w.time =
              subst (λ (u : SyncPaths). gone + way_span u + flight ≤ w.time) paths arrived in
              omega (arith, same, by_then)

          goes : FlightIsGoneSince d.network ago events flight
              → FlightGoes d playable events w so.keeps (SetLimits d.network ago) (pred gone + way_in w) flight
          goes (inl is_gone) = inl is_gone
          goes (inr (within, (most, bounded, limit))) =
              inr (
                within,
                arrived_by most ago,
                (most, bounded, refl),
                (
                    let same = changed in
                    let last = so.keeps.stands.last in
                    let one = one_before gone so.failed so.since.split.some in
                    let some = so.since.split.some in
                    omega (arith, limit, same, last, one, some)
                    ),
              )

          cuts_so : CutsAllBeyond so.before so.since.split.split.n.graph
          cuts_so =
              let (g, stands) = stands_after d.network ago playable.network in
              let (g', stands') = stands_after d.network events playable.network in
              subst (λ (z : Network). CutsAllBeyond so.before z.graph) so.since.split.same
              (beyond_alike so.before g (snapshot_of w) g' (so.stood g stands)
              (alike_so d playable events w so.keeps g' stands') (cuts g g' stands stands'))
      by (inr (inr (leaves, used, settled, arrived))) =
          split_alone_claimed q so.before (GoesOver d.network so.before ago events so.failed gone silent)
          (SetLimits d.network ago) (WereUsed d.network ago so.failed) so.failed gone silent w so.since links rest.off
          leaves_so (settled_now settled) (so.failed + (sync_paths d.network ago).delay) (used, omega arith)
          (let same = changed in let last = so.keeps.stands.last in omega (arith, arrived, same, last)) start later dark
        where
          leaves_so : LeavesAlone so.before so.since.split.split.n.graph
          leaves_so =
              let (g, stands) = stands_after d.network ago playable.network in
              let (g', stands') = stands_after d.network events playable.network in
              subst (λ (z : Network). LeavesAlone so.before z.graph) so.since.split.same
              (leaves_alike so.before g (snapshot_of w) g' (so.stood g stands)
              (alike_so d playable events w so.keeps g' stands') (leaves g g' stands stands'))
