-- What a system reads where a run ends, by a Follow_Up that it used since the last change.
use Rattle.std.proofs.Common.{◌≡◌, ◌⊎◌, ◌<◌, ◌≤◌, ◌+◌, ◌-◌, ◌*◌, ◌^◌, ℕ, suc, ℤ, ◌+ℤ◌, List, [], ◌∷◌, ◌++◌, Option, Some, refl, sym, ap, subst, ◌∙◌, inl, inr, arith}
use Rattle.std.specs.Prelude.{IsSome}
use Rattle.std.proofs.lemmas.Int.{ints}
use Rattle.std.proofs.Math.Nat.{mul-le-mul_right}
use Rattle.gptp_graph.specs.Best.{IsBest}
use Rattle.gptp_graph.specs.Distance.{IsNear}
use Rattle.gptp_graph.specs.PathBound.{BoundsPaths}
use Rattle.gptp_graph.specs.Snapshot.{System}
use Rattle.gptp_lists.specs.Members.{In}
use Rattle.gptp_lists.proofs.MappedLemmas.{alike}
use Rattle.gptp_lists.proofs.SystemSpecLemmas.{In-parts, slice_get-In}
use Rattle.gptp_links.specs.declared.bounds.Bounds.{Bounds}
use Rattle.gptp_scaled.specs.Counts.{AreWithin}
use Rattle.gptp_pdelay.specs.Clock.{local_clock}
use Rattle.gptp_pdelay.specs.GoodLink.{ceil_div}
use Rattle.gptp_setup.specs.declared.setup.Setup.{Setup}
use Rattle.gptp_setup.specs.SettlingParams.{SettlingParams}
use Rattle.gptp_setup.proofs.IntervalLemmas.{interval_positive}
use Rattle.gptp_scenario.specs.declared.change.Act.{Act}
use Rattle.gptp_scenario.specs.declared.change.Act.TheVariants.{Deliver, Expire, Change as Changing}
use Rattle.gptp_scenario.specs.declared.change.Timed.{Timed}
use Rattle.gptp_scenario.specs.SettlingTime.{settling_span_with, window_span}
use Rattle.gptp_scenario.specs.SyncWait.{step_more}
use Rattle.gptp_system.specs.State.{SystemState, clock, local_time}
use Rattle.gptp_system.specs.Takeover.{told_time}
use Rattle.gptp_error_laws.specs.TimeError.{Way, measured_jitter_at, rates_error_at, reading_error_at, time_error_at}
use Rattle.gptp_model.specs.Acts.{Acts, at}
use Rattle.gptp_model.specs.declared.done.Done.{Done}
use Rattle.gptp_model.specs.declared.station.Station.{Station}
use Rattle.gptp_model.specs.Prompt.{HavePace}
use Rattle.gptp_model.specs.Views.{ShowsLive}
use Rattle.gptp_model.specs.World.{WorldState}
use Rattle.gptp_network.specs.Document.{DocumentState}
use Rattle.gptp_report.specs.Transitions.{ActTrace, Unfolds, transition}
use Rattle.gptp_sync_machine.specs.Tree.{IsWayTo}
use Rattle.gptp_invariants.specs.ChoiceCalm.{IsQuietWorld, sync_paths_of}
use Rattle.gptp_invariants.specs.WorldSettlingInvariant.{KeepsAll}
use Rattle.gptp_invariants.specs.ChoiceSeenLaws.{IsNoChange}
use Rattle.gptp_invariants.specs.SyncFollowers.{base_at, follower_parts, told_base}
use Rattle.gptp_invariants.specs.WorldStanding.{snapshot_of}
use Rattle.gptp_invariants.specs.SyncTimedClaim.{WorldInvariant}
use Rattle.gptp_invariants.proofs.ChoiceCalmKeptLemmas.{KeepsNetwork, acts_keep, keeps_on, same_paths, same_snapshot, stays_quiet}
use Rattle.gptp_invariants.proofs.SyncExactLemmas.{all_later, claimed_of, all_alike}
use Rattle.gptp_invariants.proofs.SyncFollowBaseLemmas.{GoesOn, base_there}
use Rattle.gptp_invariants.proofs.SyncFollowClaimLemmas.{settled_from}
use Rattle.gptp_invariants.proofs.SyncFollowPartLemmas.{clock_shown, same_parts}
use Rattle.gptp_invariants.proofs.WorldOutlineLemmas.{acts_time, change_is_last}
use Rattle.gptp_invariants.proofs.WorldSystemLemmas.{live_from}
use Rattle.gptp_invariants.proofs.ChoiceSettlesAsMachineLemmas.{kept_back}
use Rattle.gptp_theorem.specs.Headline.{HasComeDown, WorldIsCalm, UsesFollowUp}
use Rattle.gptp_theorem.specs.PlayedLaws.{IsPlayable}
use Rattle.gptp_theorem.proofs.HeadlineLemmas.{quiet_as}
use Rattle.gptp_reading.specs.Reading.{IsBestsTime, reading}
use Rattle.gptp_reading.specs.Readings.{LeavesReading, RunsReadInTime}
use Rattle.gptp_reading.proofs.AgeLemmas.{claimed_alike}
use Rattle.gptp_reading.proofs.BaseLemmas.{acts_go_on, base_is, base_stays, goes_through}
use Rattle.gptp_reading.proofs.ExactLemmas.{worlds_have_bases, worlds_have_readings}
use Rattle.gptp_reading.proofs.RunLemmas.{AreKept, IsKeptAct, one_more, runs_keep, runs_read_exactly}

-- ---- the world before an act

-- the world is calm, no path of it has more than m systems, and by this time it has settled since its last change and
-- rates are measured over whole windows
record IsSettledBy (p : SettlingParams) (m settled : ℕ) (w : WorldState) : Type 0 where
  calm : WorldIsCalm p w
  bounded : BoundsPaths (snapshot_of w) m
  passed : w.last_change + settling_span_with p (sync_paths_of w) m + window_span p.params ≤ settled

module _ (p : SettlingParams) (v w : WorldState) (keeps : KeepsNetwork v w) (calm : WorldIsCalm p w) where
  -- it was calm
  pace_before : HavePace p v
  pace_before place station here =
      let (x, there, same) = alike (λ (s : Station). s.setup) (λ (s : Station). s.setup) w.stations v.stations
      keeps.setups place station here in
      let is = calm.of place x there in
      record {
        params = ap (λ (s : Setup). s.params) (sym same) ∙ is.params;
        largest = ap (λ (s : Setup). s.largest) (sym same) ∙ is.largest;
      }

  quiet_before : IsQuietWorld p.params v
  quiet_before = stays_quiet w v (kept_back v w keeps) p.params (quiet_as p w calm)

  calm_before : WorldIsCalm p v
  calm_before = record {
    of = pace_before;
    links = λ link member used.
        let (place, there) = slice_get-In link v.net.channels member in
        let is = quiet_before.links place link there used in (is.lossless, is.good);
    lapses = quiet_before.lapses;
  }

  come_before : (m steps earlier time : ℕ) → HasComeDown p m steps earlier w → earlier ≤ time
      → HasComeDown p m steps time v
  come_before m steps earlier time come late =
      let same = keeps.change in
      let more : m * step_more p (sync_paths_of w) ≡ m * step_more p (sync_paths_of v) =
      ap (λ paths. m * step_more p paths) (same_paths v w keeps) in
      omega (arith, come, late, same, more)

  leads_before : (steps number : ℕ) (way : Way) (phase : ℕ → ℕ)
      → IsWayTo (follower_parts p.params w) (snapshot_of w) steps number way phase
      → IsWayTo (follower_parts p.params v) (snapshot_of v) steps number way phase
  leads_before steps number way phase leads =
      subst (λ g. IsWayTo (follower_parts p.params v) g steps number way phase) (same_snapshot v w keeps)
      (subst (λ x. IsWayTo x (snapshot_of w) steps number way phase) (same_parts p.params v w keeps) leads)

  -- it had settled by the same time
  settled_before : (m settled : ℕ) → BoundsPaths (snapshot_of w) m
      → w.last_change + settling_span_with p (sync_paths_of w) m + window_span p.params ≤ settled
      → IsSettledBy p m settled v
  settled_before m settled bounded passed = record {
    calm = calm_before;
    bounded = subst (λ g. BoundsPaths g m) (same_snapshot v w keeps) bounded;
    passed =
        subst (λ last. last + settling_span_with p (sync_paths_of v) m + window_span p.params ≤ settled) keeps.change
        (subst (λ paths. w.last_change + settling_span_with p paths m + window_span p.params ≤ settled)
        (same_paths v w keeps) passed);
  }

-- ---- what lasts

-- the best of each component tells time in the second world by the base that it has in the first, or had none there
abbrev BasesGoOn : WorldState → WorldState → Type 0
BasesGoOn v w = (number : ℕ) (best : System) → IsBest (snapshot_of v) number best
    → GoesOn (base_at v.stations best.clock) (base_at w.stations best.clock)

-- No act is later than the world. From each act since the last change the network lasts; and where it had settled by
-- the act, so does the base of each best.
record Lasts (acts : List ActTrace) (w : WorldState) : Type 0 where
  early : (t : ActTrace) → In t acts → t.told.timed.at ≤ w.time
  kept : (t : ActTrace) → In t acts → w.last_change < t.told.timed.at → KeepsNetwork t.before w
  goes : (t : ActTrace) → In t acts → w.last_change < t.told.timed.at → (p : SettlingParams) (m : ℕ)
      → IsSettledBy p m t.told.timed.at w → BasesGoOn t.before w

-- whatever the time of either world is
still : (v w : WorldState) (time : ℕ) → KeepsNetwork v w → KeepsNetwork v (at time w)
still v w time k = record {
  systems = k.systems;
  places = k.places;
  setups = k.setups;
  links = k.links;
  change = k.change;
}

since_then : (v w : WorldState) (time : ℕ) → KeepsNetwork (at time v) w → KeepsNetwork v w
since_then v w time k = record {
  systems = k.systems;
  places = k.places;
  setups = k.setups;
  links = k.links;
  change = k.change;
}

lasts_later : (acts : List ActTrace) (w : WorldState) (time : ℕ) → w.time ≤ time → Lasts acts w
    → Lasts acts (at time w)
lasts_later acts w time later so = record {
  early = λ t member. let before = so.early t member in omega (arith, before, later);
  kept = λ t member since. still t.before w time (so.kept t member since);
  goes = λ t member since p m is.
      so.goes t member since p m (record {
        calm = record { of = is.calm.of; links = is.calm.links; lapses = is.calm.lapses };
        bounded = is.bounded;
        passed = is.passed;
      });
}

module _ {F : Type 0} (answers : Bounds → ℕ → F → Option ℕ → F → Type 0) (acts : List ActTrace) (timed : Timed)
    (done : Done) (w w' : WorldState) (k : IsKeptAct answers timed done w w') (so : Lasts acts w) where
  abbrev then : WorldState
  then = at timed.at w

  abbrev one : ActTrace
  one = transition timed done w w'

  abbrev more : List ActTrace
  more = acts ++ one ∷ []

  before : Lasts acts then
  before = lasts_later acts w timed.at k.was.ready.timely.now so

  moment : w'.time ≡ timed.at
  moment = acts_time timed.act then k.was.draws done w' k.was.acts

  early_more : (t : ActTrace) → In t more → t.told.timed.at ≤ w'.time
  early_more t member = by (In-parts t acts (one ∷ []) member)
    where
      by : In t acts ⊎ In t (one ∷ []) → t.told.timed.at ≤ w'.time
      by (inl old) = let it = before.early t old in let now = moment in omega (arith, it, now)
      by (inr (inl same)) =
          let now = moment in
          subst (λ (x : ActTrace). x.told.timed.at ≤ w'.time) (sym same) (omega (arith, now))
      by (inr (inr none)) = absurd none

  -- an act that changes nothing
  kept_still : KeepsNetwork then w' → (t : ActTrace) → In t more → w'.last_change < t.told.timed.at
      → KeepsNetwork t.before w'
  kept_still keeps t member since = by (In-parts t acts (one ∷ []) member)
    where
      by : In t acts ⊎ In t (one ∷ []) → KeepsNetwork t.before w'
      by (inl old) =
          let same = keeps.change in
          keeps_on t.before then w' (before.kept t old (omega (arith, since, same))) keeps
      by (inr (inl same)) =
          subst (λ (x : ActTrace). KeepsNetwork x.before w') (sym same) (since_then w w' timed.at keeps)
      by (inr (inr none)) = absurd none

  kept_more : (t : ActTrace) → In t more → w'.last_change < t.told.timed.at
      → KeepsNetwork t.before w'
  kept_more t member since = by timed.act k.was.acts
    where
      by : (act : Act) → Acts act then k.was.draws done w' → KeepsNetwork t.before w'
      by (Deliver link direction) acts =
          kept_still (acts_keep (Deliver link direction) then k.was.draws done w' tt acts) t member since
      by (Expire number timer) acts =
          kept_still (acts_keep (Expire number timer) then k.was.draws done w' tt acts) t member since
      by (Changing change) acts =
          let last = change_is_last change then k.was.draws done w' acts in
          let early = early_more t member in
          absurd (omega (arith, last, early, since))

  -- in a world that has settled
  step_goes : (act : Act) → IsNoChange act → Acts act then k.was.draws done w' → (p : SettlingParams) (m settled : ℕ)
      → IsSettledBy p m settled then → settled ≤ timed.at → BasesGoOn then w'
  step_goes act none made p m settled is late number best is_best =
      let now = all_later w timed.at k.was.ready.timely.now k.was.ready.timely.first k.all in
      let there = live_from w.stations best is_best.live in
      let (claimed, carries) = all_alike then now p is.calm.of there.place there.station there.here in
      let from_then = settled_from p m settled then claimed
      (record { quiet = quiet_as p then is.calm; bounded = is.bounded; passed = is.passed }) late k.moment in
      acts_go_on p settled p.params.threshold act then k.was.draws done w' none made from_then number best is_best

  goes_still : (act : Act) → IsNoChange act → Acts act then k.was.draws done w' → (t : ActTrace) → In t more
      → w'.last_change < t.told.timed.at → (p : SettlingParams) (m : ℕ) → IsSettledBy p m t.told.timed.at w'
      → BasesGoOn t.before w'
  goes_still act none made t member since p m is = by (In-parts t acts (one ∷ []) member)
    where
      keeps : KeepsNetwork then w'
      keeps = acts_keep act then k.was.draws done w' none made

      was : IsSettledBy p m t.told.timed.at then
      was = settled_before p then w' keeps is.calm m t.told.timed.at is.bounded is.passed

      by : In t acts ⊎ In t (one ∷ []) → BasesGoOn t.before w'
      by (inl old) = λ number best is_best.
          let same = keeps.change in
          let sooner : w.last_change < t.told.timed.at = omega (arith, since, same) in
          let lasts = before.kept t old sooner in
          goes_through (base_at t.before.stations best.clock) (base_at w.stations best.clock)
          (base_at w'.stations best.clock) (before.goes t old sooner p m was number best is_best)
          (step_goes act none made p m t.told.timed.at was (before.early t old) number best
          (subst (λ g. IsBest g number best) (sym (same_snapshot t.before then lasts)) is_best))
      by (inr (inl same)) =
          let moment : t.told.timed.at ≡ timed.at = ap (λ (x : ActTrace). x.told.timed.at) same in
          subst (λ (x : ActTrace). BasesGoOn x.before w') (sym same)
          (step_goes act none made p m t.told.timed.at was (omega (arith, moment)))
      by (inr (inr none)) = absurd none

  goes_more : (t : ActTrace) → In t more → w'.last_change < t.told.timed.at → (p : SettlingParams) (m : ℕ)
      → IsSettledBy p m t.told.timed.at w' → BasesGoOn t.before w'
  goes_more t member since p m is = by timed.act k.was.acts
    where
      by : (act : Act) → Acts act then k.was.draws done w' → BasesGoOn t.before w'
      by (Deliver link direction) made = goes_still (Deliver link direction) tt made t member since p m is
      by (Expire number timer) made = goes_still (Expire number timer) tt made t member since p m is
      by (Changing change) made =
          let last = change_is_last change then k.was.draws done w' made in
          let early = early_more t member in
          absurd (omega (arith, last, early, since))

  lasts_act : Lasts more w'
  lasts_act = record { early = early_more; kept = kept_more; goes = goes_more }

-- ---- errors

-- a quotient that is rounded up is no less of more
ceil_more : (x y : ℕ) → x ≤ y → ceil_div x 33550000 ≤ ceil_div y 33550000
ceil_more x y less = omega (arith, less)

wider : (error more : ℕ) (x y : ℤ) → error ≤ more → AreWithin error x y → AreWithin more x y
wider error more x y less within =
    record { low = omega (arith, ints, less, within.low); high = omega (arith, ints, less, within.high) }

-- an error of what is read grows with the time since a receipt
pub error_grows : (way : Way) (steps soon late : ℕ) → soon ≤ late
    → reading_error_at way steps soon ≤ reading_error_at way steps late
error_grows way steps soon late less =
    let product : (soon + measured_jitter_at way steps) * rates_error_at way steps
    ≤ (late + measured_jitter_at way steps) * rates_error_at way steps =
    mul-le-mul_right (rates_error_at way steps) (omega (arith, less)) in
    adds (time_error_at way (suc steps)) _ _ (ceil_more _ _ product)
  where
    adds : (a x y : ℕ) → x ≤ y → a + x ≤ a + y
    adds a x y h = omega (arith, h)

-- ---- what the best tells

-- It told the same by the base that it had before, where that goes on.
module _ (p : SettlingParams) (v w : WorldState) (keeps : KeepsNetwork v w) (claimed_v : KeepsAll p v)
    (claimed_w : KeepsAll p w) where
  best_before : (number time : ℕ) (shown : ℤ) (best : IsBestsTime w number time shown) (ahead : ℤ)
      → base_at v.stations best.best.clock ≡ Some ahead
      → GoesOn (base_at v.stations best.best.clock) (base_at w.stations best.best.clock)
      → IsBestsTime v number time shown
  best_before number time shown best ahead some goes =
      let is_best = subst (λ g. IsBest g number best.best) (same_snapshot v w keeps) best.is_best in
      let there = live_from v.stations best.best is_best.live in
      let named : clock there.station.system ≡ best.best.clock = sym (ap (λ (x : System). x.clock) there.is) in
      let parts = same_parts p.params v w keeps in
      let clocks : clock best.shows.station.system ≡ clock there.station.system = best.shows.is.named ∙ sym named in
      let clock_same : local_time best.shows.station.system time ≡ local_time there.station.system time =
      clock_shown p.params w claimed_w.world.sound claimed_w.measured best.shows.place best.shows.station
      best.shows.is.here time
      ∙ (λ i. local_clock ((parts i).phase (clocks i)) ((parts i).drift (clocks i)) time)
      ∙ sym (clock_shown p.params v claimed_v.world.sound claimed_v.measured there.place there.station there.here
      time) in
      let after : told_base best.shows.station.system ≡ Some ahead =
      sym (base_there w claimed_w.world.sound.wired.clocks best.shows.place best.shows.station best.shows.is.here)
      ∙ ap (base_at w.stations) best.shows.is.named
      ∙ base_stays (base_at v.stations best.best.clock) (base_at w.stations best.best.clock) ahead goes some in
      let was : told_base there.station.system ≡ Some ahead =
      sym (base_there v claimed_v.world.sound.wired.clocks there.place there.station there.here)
      ∙ ap (base_at v.stations) named ∙ some in
      let base_same : best.shows.station.system.base ≡ there.station.system.base =
      base_is best.shows.station.system ahead after ∙ sym (base_is there.station.system ahead was) in
      record {
        best = best.best;
        is_best = is_best;
        root = there.station.system;
        shows = record {
          place = there.place;
          station = there.station;
          is = record { here = there.here; named = named };
          live = there.live;
          state = refl;
        };
        is = best.is ∙ ap (λ (y : SystemState). told_time y time) best.shows.state
            ∙ (λ i. clock_same i +ℤ base_same i);
      }

-- ---- a run

pub runs_read_in_time : {F : Type 0} (answers : Bounds → ℕ → F → Option ℕ → F → Type 0) → RunsReadInTime answers
runs_read_in_time answers d until fate start w acts act p m steps number earlier later error read shown playable moment
    unfolds member calm bounded come since lately leaves near way best =
    let (all, lasts) = runs_keep answers Lasts
    (λ us timed done x y k so. lasts_act answers us timed done x y k so)
    (λ us x time later first so. lasts_later us x time later so) d until fate start w acts playable moment unfolds
    (record {
      early = λ t none. absurd none;
      kept = λ t none after. absurd none;
      goes = λ t none after q n is. absurd none;
    }) in
    let (also, kept) = runs_keep answers (λ us x. AreKept answers us) (one_more answers)
    (λ us x time later first so. so) d until fate start w acts playable moment unfolds (λ u none. absurd none) in
    let claimed_w = claimed_alike w (claimed_of w all) p calm best.shows.place best.shows.station best.shows.is.here in
    let some = interval_positive p.largest claimed_w.pace.largest in
    let v = act.before in
    let keeps : KeepsNetwork v w = lasts.kept act member (omega (arith, come, since, some)) in
    let (x, there, same) = alike (λ (s : Station). s.setup) (λ (s : Station). s.setup) v.stations w.stations
    (sym keeps.setups) best.shows.place best.shows.station best.shows.is.here in
    let calm_v : WorldIsCalm p v = calm_before p v w keeps calm in
    let claimed_v = claimed_alike v (claimed_of v (kept act member).all) p calm_v best.shows.place x there in
    let bounded_v = subst (λ g. BoundsPaths g m) (same_snapshot v w keeps) bounded in
    let come_v = come_before p v w keeps calm m (suc steps) earlier act.told.timed.at come since in
    let near_v = subst (λ g. IsNear g number) (same_snapshot v w keeps) near in
    let leads_v = leads_before p v w keeps calm (suc steps) number way.way way.phase way.leads in
    let k = kept act member in
    let (ahead, has) = worlds_have_bases answers act.told.timed k.fate k.fate_after v act.after act.told.done k.all
    k.was k.moment p m steps number leaves.system way.way way.phase calm_v bounded_v come_v leaves.uses leaves.shows
    near_v leads_v best.best (subst (λ g. IsBest g number best.best) (same_snapshot v w keeps) best.is_best) in
    let goes = lasts.goes act member (omega (arith, come, since, some)) p m
    (record { calm = calm; bounded = bounded; passed = omega (arith, come, since) }) number best.best
    (subst (λ g. IsBest g number best.best) (same_snapshot v w keeps) best.is_best) in
    let early = lasts.early act member in
    let age : ℕ = w.time - act.told.timed.at in
    let sum : act.told.timed.at + age ≡ w.time = omega (arith, early) in
    let exact = runs_read_exactly answers d until fate start w acts act playable moment unfolds member p m steps number
    age (reading_error_at way.way steps age) read shown calm_v bounded_v come_v
    (subst (λ time. LeavesReading number act.after act.told.done time read) (sym sum) leaves) near_v
    (record { way = way.way; phase = way.phase; leads = leads_v; is = refl })
    (subst (λ time. IsBestsTime v number time shown) (sym sum)
    (best_before p v w keeps claimed_v claimed_w number w.time shown best ahead has goes)) in
    subst (λ e. AreWithin e read shown) (sym way.is)
    (wider (reading_error_at way.way steps age) (reading_error_at way.way steps later) read shown
    (error_grows way.way steps age later (omega (arith, lately))) exact)

-- ---- that there is a reading

-- the world before an act that was done since the network had come down, as it is where the run ends
pub record IsLikeEnd {F : Type 0} (answers : Bounds → ℕ → F → Option ℕ → F → Type 0) (w : WorldState)
    (act : ActTrace) : Type 0 where
  pub kept : IsKeptAct answers act.told.timed act.told.done act.before act.after
  pub keeps : KeepsNetwork act.before w

pub runs_have_readings : {F : Type 0} (answers : Bounds → ℕ → F → Option ℕ → F → Type 0) (p : SettlingParams)
    (m steps earlier number time : ℕ) (w : WorldState) (act : ActTrace) (s : SystemState) (way : Way)
    (phase : ℕ → ℕ) → IsLikeEnd answers w act → WorldIsCalm p w → BoundsPaths (snapshot_of w) m
    → HasComeDown p m (suc steps) earlier w → earlier ≤ act.told.timed.at
    → UsesFollowUp number act.told.done → ShowsLive number act.after s → IsNear (snapshot_of w) number
    → IsWayTo (follower_parts p.params w) (snapshot_of w) (suc steps) number way phase → IsSome (reading s time)
runs_have_readings answers p m steps earlier number time w act s way phase is calm bounded come since uses shows near
    leads =
    let v = act.before in
    let k = is.kept in
    worlds_have_readings answers act.told.timed k.fate k.fate_after v act.after act.told.done k.all k.was k.moment p m
    steps number s way phase (calm_before p v w is.keeps calm)
    (subst (λ g. BoundsPaths g m) (same_snapshot v w is.keeps) bounded)
    (come_before p v w is.keeps calm m (suc steps) earlier act.told.timed.at come since) uses shows
    (subst (λ g. IsNear g number) (same_snapshot v w is.keeps) near)
    (leads_before p v w is.keeps calm (suc steps) number way phase leads) time

-- of every world where a run ends all is claimed
pub ends_claimed : {F : Type 0} (answers : Bounds → ℕ → F → Option ℕ → F → Type 0) (d : DocumentState) (until : ℕ)
    (fate : F) (start w : WorldState) (acts : List ActTrace) → IsPlayable d → until ≤ 10 ^ 18
    → Unfolds answers d until fate start acts w → WorldInvariant w
ends_claimed answers d until fate start w acts playable moment unfolds =
    let (also, kept) = runs_keep answers (λ us x. AreKept answers us) (one_more answers)
    (λ us x time later first so. so) d until fate start w acts playable moment unfolds (λ u none. absurd none) in
    also

pub like_end : {F : Type 0} (answers : Bounds → ℕ → F → Option ℕ → F → Type 0) (d : DocumentState) (until : ℕ)
    (fate : F) (start w : WorldState) (acts : List ActTrace) (act : ActTrace) → IsPlayable d → until ≤ 10 ^ 18
    → Unfolds answers d until fate start acts w → In act acts → w.last_change < act.told.timed.at
    → IsLikeEnd answers w act
like_end answers d until fate start w acts act playable moment unfolds member since =
    let (all, lasts) = runs_keep answers Lasts
    (λ us timed done x y k so. lasts_act answers us timed done x y k so)
    (λ us x time later first so. lasts_later us x time later so) d until fate start w acts playable moment unfolds
    (record {
      early = λ t none. absurd none;
      kept = λ t none after. absurd none;
      goes = λ t none after q n is. absurd none;
    }) in
    let (also, kept) = runs_keep answers (λ us x. AreKept answers us) (one_more answers)
    (λ us x time later first so. so) d until fate start w acts playable moment unfolds (λ u none. absurd none) in
    record { kept = kept act member; keeps = lasts.kept act member since }
