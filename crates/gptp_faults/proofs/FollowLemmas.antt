-- The roots that are followed while a case is down are those of the settled choice.
use Rattle.std.proofs.Common.{◌≡◌, ◌⊎◌, ◌≤◌, ◌<◌, ◌+◌, ◌*◌, ◌/◌, ℕ, zero, suc, Bool, true, false, cond, List, [], ◌∷◌, Option, Some, None, refl, sym, ap, subst, ◌∙◌, inl, inr, arith}
use Rattle.std.specs.Prelude.{◌==◌}
use Rattle.std.specs.List.{find, range_with_len}
use Rattle.std.specs.Option.{option_and_then, option_map_or}
use Rattle.gptp_accuracy.specs.Settlings.{settling_among, settling_of}
use Rattle.gptp_how_soon.specs.Times.{is_time_at, settling_times}
use Rattle.gptp_how_soon.specs.declared.bounds.Settling.{Settling}
use Rattle.gptp_how_soon.specs.declared.bounds.SettlingTime.{SettlingTime}
use Rattle.gptp_how_soon.proofs.WatchLemmas.{watched_past_choice}
use Rattle.gptp_model.specs.Views.{rising_clocks}
use Rattle.gptp_graph.specs.Snapshot.{Snapshot}
use Rattle.gptp_lists.specs.Members.{In}
use Rattle.gptp_lists.proofs.SystemSpecLemmas.{In-slice_get}
use Rattle.gptp_network.specs.Document.{DocumentState, seeded_document}
use Rattle.gptp_scenario.specs.Network.{seeded}
use Rattle.gptp_network.specs.Snapshot.{events_by, IsSnapshot, StandsAfter}
use Rattle.gptp_scenario.specs.Calm.{last_change}
use Rattle.gptp_settling_time.specs.HowSoon.{IsChoiceAloneBound}
use Rattle.gptp_theorem.specs.PlayedLaws.{IsPlayable}
use Rattle.gptp_theorem.proofs.OctetLemmas.{seeded_playable}
use Rattle.gptp_timeline.specs.Aside.{AsideState}
use Rattle.gptp_timeline.specs.Each.{Each}
use Rattle.gptp_timeline.specs.Ends.{EndState}
use Rattle.gptp_timeline.specs.LastStretches.{aside_if, EndsOf, first_aside, none_last}
use Rattle.gptp_timeline.specs.Laws.{AreRoots}
use Rattle.gptp_timeline.specs.declared.ends.LastStretches.{LastStretches}
use Rattle.gptp_timeline_laws.proofs.RootsSoonLemmas.{bound_follows, told_bound}
use Rattle.gptp_timeline_laws.proofs.ShortenedLemmas.{playable_by, shortened}
use Rattle.gptp_scenario.specs.Network.{IsNetwork}
use Rattle.gptp_timeline.proofs.PastLemmas.{all_past, by_sooner, PastBy}
use Rattle.gptp_faults.specs.Cables.{cables_after}
use Rattle.gptp_faults.specs.CaseEvents.{EventsState}
use Rattle.gptp_faults.specs.Faults.{FaultsOf}
use Rattle.gptp_faults.specs.Laws.{FollowSettled, StandsWithout}
use Rattle.gptp_faults.specs.Options.{tracks}
use Rattle.gptp_faults.specs.Outcomes.{aside_of, IsOutcomeAt}
use Rattle.gptp_faults.specs.Refusals.{case_events, refusal_of}
use Rattle.gptp_faults.specs.Runs.{AreRunEnds, draws, generator, CaseRunEnds, is_seen, run_moment, runs_of, seed_of, set_aside}
use Rattle.gptp_faults.specs.Stays.{back_at, document_of, end_at, failed_document, hold_of, watch_among}
use Rattle.gptp_faults.specs.Times.{moment}
use Rattle.gptp_faults.specs.declared.options.FaultsOptions.{FaultsOptions}
use Rattle.gptp_faults.specs.declared.runs.RunEnds.{RunEnds}
use Rattle.gptp_faults.specs.declared.times.Times.{Times}
use Rattle.gptp_faults.proofs.DownLemmas.{last_but_one}
use Rattle.gptp_faults.proofs.EventsLemmas.{any_delay, has_events, HasEvents}
use Rattle.gptp_faults.proofs.PlayableLemmas.{can_happen, case_playable}
use Rattle.gptp_faults.proofs.RefusalLemmas.{in_time_of, IsInTime, not_refused}
use Rattle.gptp_faults.proofs.ReturnLemmas.{are_last, by_fault, whole_network}
use Rattle.gptp_faults.proofs.RunLemmas.{failed_are}
use Rattle.gptp_faults.proofs.SeededLemmas.{settling_same}

-- ---- two lists, member by member

-- each of the one is there for one of the other
pub each_for : {X Y : Type 0} (P : X → Y → Type 0) (xs : List X) (ys : List Y) (y : Y) → Each P xs ys → In y ys
    → (x : X) × In x xs × P x y
each_for P [] [] y each member = absurd member
each_for P [] (z ∷ zs) y each member = absurd each
each_for P (x ∷ xs) [] y each member = absurd each
each_for P (x ∷ xs) (z ∷ zs) y each (inl same) = (x, inl refl, subst (P x) (sym same) each.0)
each_for P (x ∷ xs) (z ∷ zs) y each (inr later) =
    let (w, member, is) = each_for P xs zs y each.1 later in (w, inr member, is)

-- ---- numbers of runs

-- the first run is at the first moment
zero_over : (n : ℕ) → 0 / n ≡ 0
zero_over n = omega arith

pub moment_first : (t : Times) → moment t 0 ≡ t.from
moment_first t =
    let none : 0 * t.spread ≡ 0 = omega arith in
    let first : t.from + 0 ≡ t.from = omega arith in
    ap (λ n. t.from + n / t.moments) none ∙ ap (λ n. t.from + n) (zero_over t.moments) ∙ first

first_moment : (t : Times) → run_moment t 0 ≡ t.from
first_moment t = ap (moment t) (zero_over t.seeds) ∙ moment_first t

first_run : {Y : Type 0} (P : ℕ → Y → Type 0) (count : ℕ) (y : Y) (ys : List Y)
    → Each P (range_with_len 0 count) (y ∷ ys) → P 0 y
first_run P zero y ys each = absurd each
first_run P (suc count) y ys each = each.0

-- so there is a moment where there is a run
some_run : {Y : Type 0} (P : ℕ → Y → Type 0) (count : ℕ) (y : Y) (ys : List Y)
    → Each P (range_with_len 0 count) (y ∷ ys) → 0 < count
some_run P zero y ys each = absurd each
some_run P (suc count) y ys each = omega arith

some_moment : (moments seeds : ℕ) → 0 < moments * seeds → 0 < moments
some_moment zero seeds some = let none : 0 * seeds ≡ 0 = omega arith in absurd (omega (arith, some, none))
some_moment (suc moments) seeds some = omega arith

-- and a case with which the document isn't refused is in time at the first
first_in_time : (d : DocumentState) (asked : Option ℕ) (t : Times) (e : EventsState) → refusal_of d asked t e ≡ None
    → 0 < t.moments → IsInTime d asked e t.from
first_in_time d asked t e none some =
    subst (IsInTime d asked e) (moment_first t) (in_time_of d asked t e 0 none some)

-- ---- how long a case stays down

-- a time is watched for longer than its choice
watched_longer : (times : List SettlingTime) (at : ℕ) (s : Settling)
    → ((t : SettlingTime) → In t times → t.settling ≡ Some s → s.choice < t.watch)
    → settling_among times at ≡ Some s → s.choice < watch_among times at
watched_longer [] at s each is = absurd cc
watched_longer (t ∷ ts) at s each is = by (t.at == at) is (watched_longer ts at s (λ u member. each u (inr member)))
  where
    by : (test : Bool)
        → option_and_then (λ (u : SettlingTime). u.settling) (cond test (Some t) (find (is_time_at at) ts)) ≡ Some s
        → (settling_among ts at ≡ Some s → s.choice < watch_among ts at)
        → s.choice < option_map_or (λ (u : SettlingTime). u.watch) (cond test (Some t) (find (is_time_at at) ts)) 0
    by true is rest = each t (inl refl) is
    by false is rest = rest is

-- so by default a case stays down for longer than that
stays_longer : (d : DocumentState) → IsNetwork d.network → (asked : Option ℕ) (e : EventsState) (at : ℕ)
    (s : Settling) → settling_of (failed_document at e d) (at + e.delay) ≡ Some s
    → (asked ≡ None) ⊎ (s.choice < hold_of d asked e at) → s.choice < hold_of d asked e at
stays_longer d network asked e at s told (inl none) =
    let failed = failed_document at e d in
    let failed_network : IsNetwork failed.network =
    subst (λ (x : DocumentState). IsNetwork x.network) (sym (failed_are at e d)) network in
    subst (λ o. s.choice < hold_of d o e at) (sym none)
    (watched_longer (settling_times failed) (at + e.delay) s
    (λ t member is. watched_past_choice failed failed_network t s member is) told)
stays_longer d network asked e at s told (inr longer) = longer

-- ---- a run of a case

-- the last stretch but one is that in which a case is down
down_is : (seen : Bool) (last : LastStretches) (r : RunEnds) → AreRunEnds seen last r → last.before ≡ Some r.down
down_is false last r are = are.1
down_is true last r are = are.2

module _ (options : FaultsOptions) (d : DocumentState) (t : Times) (e : EventsState) (has : HasEvents 0 e)
    (names : List ℕ) (playable : IsPlayable d) (last : last_change d.events ≤ t.from) (s : Settling)
    (told : settling_of (failed_document t.from e d) (t.from + e.delay) ≡ Some s)
    (stays : s.choice < hold_of d options.hold e t.from) where
  abbrev hold : ℕ
  hold = hold_of d options.hold e t.from

  abbrev down : ℕ
  down = t.from + e.delay

  abbrev failed : DocumentState
  failed = failed_document t.from e d

  abbrev seed : ℕ
  seed = seed_of t 0

  abbrev whole : DocumentState
  whole = seeded_document seed (document_of d options.hold e t.from)

  past : PastBy t.from d.events
  past = all_past t.from d.events playable.events.in_order last

  -- up to where the fault is seen the whole document is the one without the return, but for the seed
  short_is : shortened down whole ≡ seeded_document seed failed
  short_is =
      let network = whole_network 0 e has t.from d hold past in
      let events = by_fault 0 e has t.from d hold past (omega (arith, stays)) in
      λ i. record { network = seeded seed (network i); events = events i }

  -- so what is told of the fault there is a bound of its choice
  bounded : IsPlayable whole → IsChoiceAloneBound (shortened down whole) down s.choice
  bounded can = told_bound (shortened down whole) down s (playable_by down whole can)
      (ap (λ x. settling_of x down) short_is ∙ settling_same failed seed down ∙ told)

  -- the roots where its first run ends to be down are those of the settled choice
  roots_settle : (r : RunEnds) (g : Snapshot) → IsPlayable whole → CaseRunEnds options d t e names 0 r
      → IsSnapshot failed down g → AreRoots g r.down.roots
  roots_settle r g can run stands =
      let until = end_at d options.hold e t.from in
      let fate = generator seed in
      let asked = tracks options in
      let aside : AsideState = set_aside d options.hold e names t.from in
      let ends : EndsOf draws asked aside whole until fate run.last =
      subst (λ at. EndsOf draws asked (set_aside d options.hold e names at)
      (seeded_document seed (document_of d options.hold e at)) (end_at d options.hold e at) fate run.last)
      (first_moment t) run.ends in
      let clocks = rising_clocks ends.start in
      let before : run.last.before ≡ Some r.down = down_is (is_seen e) run.last r run.are in
      let k = last_but_one draws whole until clocks ends.passages down (back_at t.from e hold) 0
      (events_by until whole.events) (first_aside asked (aside_if asked aside) clocks) none_last ends.started
      ends.fate_after ends.start ends.after r.down
      (are_last 0 e has t.from d hold past until (omega arith) (omega (arith, stays))) ends.pass
      (sym (ap (λ (x : LastStretches). x.before) ends.are) ∙ before) in
      let from = k.from_is in let to = k.to_is in
      let bound : IsChoiceAloneBound (shortened k.passage.from whole) k.passage.from s.choice =
      subst (λ at. IsChoiceAloneBound (shortened at whole) at s.choice) (sym from) (bounded can) in
      let there : IsSnapshot whole down g =
      subst (λ es. StandsAfter whole.network es g) (by_sooner down down whole.events (omega arith))
      (subst (λ x. IsSnapshot x down g) (sym short_is)
      (record { systems = stands.systems; rising = stands.rising; links = stands.links })) in
      subst (AreRoots g) (ap (λ (x : EndState). x.roots) (sym k.ended))
      (bound_follows draws whole false until ends.passages fate ends.started ends.fate_after ends.start ends.after
      k.passage s.choice g can ends.begun ends.pass k.member bound (omega (arith, from, to, stays))
      (subst (λ at. IsSnapshot whole at g) (sym from) there))

-- ---- the law

pub follow_settles : (d : DocumentState) (options : FaultsOptions) (lines : List (List ℕ)) (exceeded : Bool)
    (f : FaultsOf d options lines exceeded) → IsPlayable d → FollowSettled d options f.times.from f.outcomes
follow_settles d options lines exceeded f playable o g s member told longer stands =
    let t = f.times in
    let (number, of_part, (c, there, outcome)) =
    each_for (IsOutcomeAt options d t f.cases) _ f.outcomes o f.are_outcomes member in
    let a_case = In-slice_get c f.cases number there in
    let e = case_events d options c in
    let failing = outcome.failing in
    let told_here = subst (λ x. settling_of (failed_document t.from (case_events d options x) d)
    (t.from + (case_events d options x).delay) ≡ Some s) failing told in
    let held = stays_longer d playable.network options.hold e t.from s told_here
    (subst (λ x. (options.hold ≡ None) ⊎ (s.choice < hold_of d options.hold (case_events d options x) t.from)) failing
    longer) in
    let g_stands = subst (λ x. StandsWithout d t.from (case_events d options x) g) failing stands in
    let names = aside_of c outcome.cut in
    let runs = CaseRunEnds options d t e names in
    let first = outcome.first in
    let first_of_all = first_run runs (runs_of t) first outcome.others outcome.runs in
    let some = some_run runs (runs_of t) first outcome.others outcome.runs in
    let in_time = first_in_time d options.hold t e (not_refused d options t f.cases f.before number c there)
    (some_moment t.moments t.seeds some) in
    let happens = can_happen d playable options.detect options.only options.power f.cases f.are_cases c a_case in
    let can = seeded_playable (document_of d options.hold e t.from) (seed_of t 0)
    (case_playable d e playable happens t.from (hold_of d options.hold e t.from) in_time.behind_last
    in_time.returns) in
    let has = has_events 0 (cables_after d) options.detect c (any_delay options.detect) in (
      first.down.roots,
      roots_settle options d t e has names playable in_time.behind_last s told_here held first g can first_of_all
          g_stands,
      outcome.follow,
    )
