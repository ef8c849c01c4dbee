-- The acts of a stretch are a part of those of the run.
use Rattle.std.proofs.Common.{◌≡◌, ◌≤◌, ◌^◌, ℕ, suc, Bool, true, nat_le, List, [], ◌∷◌, ◌++◌, Option, Some, None, option_map, refl, sym, ap, subst, ◌∙◌, inl, inr, append_assoc, arith}
use Rattle.std.specs.List.{AllByRecursion}
use Rattle.std.proofs.lemmas.Bool.Decides.{nat_tests}
use Rattle.gptp_links.specs.declared.bounds.Bounds.{Bounds}
use Rattle.gptp_invariants.proofs.DelayStartFirstLemmas.{start_time}
use Rattle.gptp_model.specs.Acts.{at}
use Rattle.gptp_model.specs.Pending.{NothingBefore}
use Rattle.gptp_model.specs.Views.{rising_clocks}
use Rattle.gptp_model.specs.World.{WorldState}
use Rattle.gptp_model.specs.declared.done.Done.{Done}
use Rattle.gptp_network.specs.Document.{DocumentState}
use Rattle.gptp_network.specs.Snapshot.{events_by}
use Rattle.gptp_report.specs.Transitions.{Courses, Makes}
use Rattle.gptp_scenario.specs.declared.change.Timed.{Timed}
use Rattle.gptp_theorem.specs.PlayedLaws.{IsPlayable}
use Rattle.gptp_timeline.specs.Laws.{all_acts}
use Rattle.gptp_timeline.specs.Readings.{readings_after}
use Rattle.gptp_timeline.specs.Stretch.{at_of}
use Rattle.gptp_timeline.specs.Timeline.{AllPass, Carried, carry, later_than, none_carried, StretchTrace, TimelineOf, tracks}
use Rattle.gptp_timeline.specs.declared.readings.SystemReading.{SystemReading}
use Rattle.gptp_timeline.specs.declared.timeline.TimelineOptions.{TimelineOptions}
use Rattle.gptp_timeline.proofs.BehindLemmas.{all_both}
use Rattle.gptp_timeline.proofs.EventLemmas.{Each, ends_first, ends_later, filter_passes}
use Rattle.gptp_timeline.proofs.SettlingLemmas.{early_makes, early_passes}
use Rattle.gptp_timeline.proofs.UnfoldLemmas.{timeline_unfolds}
use Rattle.gptp_timeline_laws.specs.Moments.{BeginsWith, IsFirst, last_time, Moment, next_time, world_after}
use Rattle.gptp_timeline_laws.proofs.BoundLemmas.{readings_both}
use Rattle.gptp_timeline_laws.proofs.CourseLemmas.{last_on, world_on}
use Rattle.gptp_timeline_laws.proofs.SoFarLemmas.{runs_were_so}
use Rattle.gptp_reading.proofs.RunLemmas.{IsKeptAct}
use Rattle.gptp_world.proofs.InitialLemmas.{initial_sound}
use Rattle.gptp_world.specs.Transitions.{ActTrace, Passes, PassesTo, transition}

-- ---- the world after acts

-- it has the time of the last of them
world_at : (us : List ActTrace) (time before : ℕ) (w : WorldState)
    → at time (world_after us (at before w)) ≡ at time (world_after us w)
world_at [] time before w = refl
world_at (u ∷ us) time before w = refl

abbrev pub EarlyBy : ℕ → ActTrace → Type 0
EarlyBy last t = at_of t ≤ last

all_later : (soon late : ℕ) (ts : List ActTrace) → soon ≤ late → AllByRecursion (EarlyBy soon) ts
    → AllByRecursion (EarlyBy late) ts
all_later soon late [] less each = tt
all_later soon late (t ∷ ts) less each =
    (let first = each.0 in omega (arith, less, first), all_later soon late ts less each.1)

module _ {F : Type 0} (answers : Bounds → ℕ → F → Option ℕ → F → Type 0) where
  passes_world : (until : ℕ) (ts : List ActTrace) (fate fate_after : F) (w w' : WorldState)
      → Passes answers until ts fate fate_after w w' → w' ≡ world_after ts w
  passes_world until [] fate fate_after w w' (same, is) = is
  passes_world until (t ∷ ts) fate fate_after w w' (drawn, before, happens, rest) =
      passes_world until ts drawn fate_after t.after w' rest

  makes_world : (event : Timed) (ts : List ActTrace) (fate fate_after : F) (w w' : WorldState)
      → Makes answers event ts fate fate_after w w' → (v : WorldState) → world_after ts v ≡ w'
  makes_world event ts fate fate_after w w' k v =
      ap (λ us. world_after us v) k.are
      ∙ world_on k.first (transition event k.done k.between w' ∷ []) v

  -- where a stretch ends it is that after its acts, at the time of the end
  pub courses_world : (until : ℕ) (events : List Timed) (ts : List ActTrace) (fate fate_after : F) (w w' : WorldState)
      → Courses answers until events ts fate fate_after w w' → w' ≡ at until (world_after ts w)
  courses_world until [] ts fate fate_after w w' k =
      k.is ∙ ap (at until) (passes_world until ts fate fate_after w k.between k.passes)
  courses_world until (event ∷ events) ts fate fate_after w w' (first, rest, drawn, between, makes, k, are) =
      courses_world until events rest drawn fate_after between w' k
      ∙ ap (at until)
      (sym (ap (λ us. world_after us w) are ∙ world_on first rest w
      ∙ ap (world_after rest) (makes_world event first fate drawn w between makes w)))

  -- ---- when acts are done

  passes_next : (until : ℕ) (ts : List ActTrace) (fate fate_after : F) (w w' : WorldState)
      → PassesTo answers until ts fate fate_after w w' → w.time ≤ next_time until ts
  passes_next until [] fate fate_after w w' k = k.ahead
  passes_next until (t ∷ ts) fate fate_after w w' k =
      by k.passes
    where
      by : Passes answers until (t ∷ ts) fate fate_after w k.between → w.time ≤ at_of t
      by (drawn, before, happens, rest) = happens.was_done.ready.timely.now

  -- some acts and others: the first of them, or the first of the others
  next_both : (last : ℕ) (us vs : List ActTrace) → next_time last (us ++ vs) ≡ next_time (next_time last vs) us
  next_both last [] vs = refl
  next_both last (u ∷ us) vs = refl

  -- a stretch ends no sooner than it begins, and its first act is no sooner
  courses_next : (until : ℕ) (events : List Timed) (ts : List ActTrace) (fate fate_after : F) (w w' : WorldState)
      → Courses answers until events ts fate fate_after w w' → w.time ≤ next_time until ts
  courses_next until [] ts fate fate_after w w' k = passes_next until ts fate fate_after w w' k
  courses_next until (event ∷ events) ts fate fate_after w w' (first, rest, drawn, between, makes, k, are) =
      let along : ts ≡ makes.first ++ (transition event makes.done makes.between between ∷ rest) =
      are ∙ ap (λ us. us ++ rest) makes.are ∙ append_assoc makes.first (_ ∷ []) rest in
      let next = passes_next event.at makes.first fate makes.drawn w makes.between makes.passes in
      subst (λ us. w.time ≤ next_time until us) (sym along)
      (subst (λ n. w.time ≤ n)
      (sym (next_both until makes.first (transition event makes.done makes.between between ∷ rest))) next)

  after_time : (until : ℕ) (events : List Timed) (ts : List ActTrace) (fate fate_after : F) (w w' : WorldState)
      → Courses answers until events ts fate fate_after w w' → w'.time ≡ until
  after_time until events ts fate fate_after w w' k =
      ap (λ (v : WorldState). v.time) (courses_world until events ts fate fate_after w w' k)

next_more : (soon late : ℕ) (us : List ActTrace) → soon ≤ late → next_time soon us ≤ next_time late us
next_more soon late [] less = less
next_more soon late (u ∷ us) less = let same : at_of u ≤ at_of u = omega arith in same

module _ {F : Type 0} (answers : Bounds → ℕ → F → Option ℕ → F → Type 0) (d : DocumentState)
    (playable : IsPlayable d) (names : List ℕ) where
  -- acts of a stretch are done by its end
  courses_early : (until last : ℕ) (events : List Timed) (ts : List ActTrace) (fate fate_after : F)
      (w w' : WorldState) → until ≤ last → Each (λ (e : Timed). e.at ≤ last) events
      → Courses answers until events ts fate fate_after w w' → AllByRecursion (EarlyBy last) ts
  courses_early until last [] ts fate fate_after w w' less due k =
      early_passes answers d playable names (EarlyBy last) until ts fate fate_after w k.between
      (λ t by_then. omega (arith, less, by_then)) k.passes
  courses_early until last (event ∷ events) ts fate fate_after w w' less due
      (first, rest, drawn, between, makes, k, are) =
      let soon = due 0 event refl in
      subst (AllByRecursion (EarlyBy last)) (sym are)
      (all_both (EarlyBy last) first rest
      (early_makes answers d playable names (EarlyBy last) event first fate drawn w between
      (λ t by_then. omega (arith, soon, by_then)) makes)
      (courses_early until last events rest drawn fate_after between w' less (λ place. due (suc place)) k))

  -- several stretches begin no later than their first act
  pass_next : (until : ℕ) (passages : List StretchTrace) (from : ℕ) (left : List Timed) (fate fate_after : F)
      (w w' : WorldState) → AllPass answers true d until from left fate fate_after w w' passages
      → w.time ≤ next_time w'.time (all_acts passages)
  pass_next until [] from left fate fate_after w w' pass = absurd pass
  pass_next until (q ∷ []) from left fate fate_after w w' (passage, none, ends) =
      let next = courses_next answers q.to q.events q.acts fate fate_after w q.after passage.courses in
      let last : w'.time ≡ q.to =
      ap (λ (v : WorldState). v.time) ends
      ∙ after_time answers q.to q.events q.acts fate fate_after w q.after passage.courses in
      subst (λ n. w.time ≤ n) (sym (next_both answers w'.time q.acts []))
      (subst (λ n. w.time ≤ next_time n q.acts) (sym last) next)
  pass_next until (q ∷ (r ∷ rs)) from left fate fate_after w w' (drawn, passage, some, rest) =
      let next = courses_next answers q.to q.events q.acts fate drawn w q.after passage.courses in
      let more = pass_next until (r ∷ rs) q.to (later_than from left) drawn fate_after q.after w' rest in
      let last = after_time answers q.to q.events q.acts fate drawn w q.after passage.courses in
      let late = next_more q.to (next_time w'.time (all_acts (r ∷ rs))) q.acts (omega (arith, more, last)) in
      subst (λ n. w.time ≤ n) (sym (next_both answers w'.time q.acts (all_acts (r ∷ rs))))
      (omega (arith, next, late))

  -- What was done before a stretch of several and after it, where the first begins in this world with this carried over
  -- to it.
  pub record PartOf (start : WorldState) (first : Carried) (from last : ℕ) (acts : List ActTrace) (p : StretchTrace)
      (w : WorldState) (c : Carried) : Type 0 where
    pub before : List ActTrace
    pub behind : List ActTrace
    pub are : acts ≡ before ++ (p.acts ++ behind)
    pub world : (us : List ActTrace) (time : ℕ)
        → at time (world_after (before ++ us) start) ≡ at time (world_after us w)
    pub readings : c.readings ≡ option_map (readings_after before) first.readings
    pub early : AllByRecursion (EarlyBy p.from) before
    pub since : from ≤ p.from
    pub next : p.to ≤ next_time last behind

  part_first : (start : WorldState) (first : Carried) (from last : ℕ) (behind : List ActTrace) (p q : StretchTrace)
      (w : WorldState) (c : Carried) → IsFirst q p start w first c → q.from ≡ from → q.to ≤ next_time last behind
      → PartOf start first from last (q.acts ++ behind) p w c
  part_first start first from last behind p q w c is from_is next =
      subst (λ x. PartOf start first from last (q.acts ++ behind) p w x) (sym is.carried)
      (subst (λ v. PartOf start first from last (q.acts ++ behind) p v first) (sym is.world)
      (subst (λ x. PartOf start first from last (q.acts ++ behind) x start first) (sym is.stretch) (record {
        before = [];
        behind = behind;
        are = refl;
        world = λ us time. refl;
        readings = same first.readings;
        early = tt;
        since = omega (arith, from_is);
        next = next;
      })))
    where
      same : (o : Option (List SystemReading)) → o ≡ option_map (readings_after []) o
      same None = refl
      same (Some rs) = refl

  pub part_of : (until : ℕ) (passages : List StretchTrace) (from : ℕ) (left : List Timed) (fate fate_after : F)
      (w w' : WorldState) (c : Carried) (p : StretchTrace) (v : WorldState) (e : Carried)
      → AllPass answers true d until from left fate fate_after w w' passages → BeginsWith passages w c p v e
      → PartOf w c from w'.time (all_acts passages) p v e
  part_of until [] from left fate fate_after w w' c p v e pass begins = absurd pass
  part_of until (q ∷ []) from left fate fate_after w w' c p v e (passage, none, ends) (inl first) =
      let last : w'.time ≡ q.to =
      ap (λ (x : WorldState). x.time) ends
      ∙ after_time answers q.to q.events q.acts fate fate_after w q.after passage.courses in
      part_first w c from w'.time [] p q v e first passage.from_is (omega (arith, last))
  part_of until (q ∷ []) from left fate fate_after w w' c p v e pass (inr later) = absurd later
  part_of until (q ∷ (r ∷ rs)) from left fate fate_after w w' c p v e (drawn, passage, some, rest) (inl first) =
      let more = pass_next until (r ∷ rs) q.to (later_than from left) drawn fate_after q.after w' rest in
      let last = after_time answers q.to q.events q.acts fate drawn w q.after passage.courses in
      part_first w c from w'.time (all_acts (r ∷ rs)) p q v e first passage.from_is (omega (arith, more, last))
  part_of until (q ∷ (r ∷ rs)) from left fate fate_after w w' c p v e (drawn, passage, some, rest) (inr later) =
      let k = part_of until (r ∷ rs) q.to (later_than from left) drawn fate_after q.after w' (carry q.acts c) p v e rest
      later in
      let ends = courses_world answers q.to q.events q.acts fate drawn w q.after passage.courses in
      let on : from ≤ q.to =
      ends_later from q.to left (ends_first until (later_than from left) some ∙ ap Some (sym passage.to_is)) in
      let since = k.since in
      let due : Each (λ (x : Timed). x.at ≤ q.to) q.events =
      subst (Each (λ (x : Timed). x.at ≤ q.to)) (sym passage.events_are) (λ place x there.
      (let passes = filter_passes (λ (y : Timed). nat_le y.at from) left place x there in
      let soon : x.at ≤ from = grind (arith, nat_tests) in omega (arith, soon, on))) in record {
        before = q.acts ++ k.before;
        behind = k.behind;
        are = ap (λ us. q.acts ++ us) k.are ∙ sym (append_assoc q.acts k.before (p.acts ++ k.behind));
        world = λ us time.
            ap (λ ts. at time (world_after ts w)) (append_assoc q.acts k.before us)
            ∙ ap (at time) (world_on q.acts (k.before ++ us) w)
            ∙ sym (world_at (k.before ++ us) time q.to (world_after q.acts w))
            ∙ ap (λ x. at time (world_after (k.before ++ us) x)) (sym ends)
            ∙ k.world us time;
        readings = k.readings ∙ carried k.before c.readings;
        early = all_both (EarlyBy p.from) q.acts k.before
            (all_later q.to p.from q.acts since
            (courses_early q.to q.to q.events q.acts fate drawn w q.after (omega arith) due passage.courses))
            k.early;
        since = omega (arith, on, since);
        next = k.next;
      }
    where
      carried : (us : List ActTrace) (o : Option (List SystemReading))
          → option_map (readings_after us) (option_map (readings_after q.acts) o)
          ≡ option_map (readings_after (q.acts ++ us)) o
      carried us None = refl
      carried us (Some rs) = ap Some (sym (readings_both q.acts us rs))

-- a stretch begins at the time of the world in which it does
pub begins_on_time : {F : Type 0} (answers : Bounds → ℕ → F → Option ℕ → F → Type 0) (d : DocumentState) (until : ℕ)
    (passages : List StretchTrace) (from : ℕ) (left : List Timed) (fate fate_after : F) (w w' : WorldState)
    (c : Carried) (p : StretchTrace) (v : WorldState) (e : Carried) → w.time ≡ from
    → AllPass answers true d until from left fate fate_after w w' passages → BeginsWith passages w c p v e
    → v.time ≡ p.from
begins_on_time answers d until [] from left fate fate_after w w' c p v e is pass begins = absurd pass
begins_on_time answers d until (q ∷ []) from left fate fate_after w w' c p v e is (passage, none, ends) (inl first) =
    ap (λ (x : WorldState). x.time) first.world ∙ is ∙ sym passage.from_is
    ∙ ap (λ (x : StretchTrace). x.from) (sym first.stretch)
begins_on_time answers d until (q ∷ []) from left fate fate_after w w' c p v e is pass (inr later) = absurd later
begins_on_time answers d until (q ∷ (r ∷ rs)) from left fate fate_after w w' c p v e is (drawn, passage, some, rest)
    (inl first) =
    ap (λ (x : WorldState). x.time) first.world ∙ is ∙ sym passage.from_is
    ∙ ap (λ (x : StretchTrace). x.from) (sym first.stretch)
begins_on_time answers d until (q ∷ (r ∷ rs)) from left fate fate_after w w' c p v e is (drawn, passage, some, rest)
    (inr later) =
    begins_on_time answers d until (r ∷ rs) q.to (later_than from left) drawn fate_after q.after w' (carry q.acts c) p v
    e (after_time answers q.to q.events q.acts fate drawn w q.after passage.courses) rest later

-- ---- a moment of a stretch

pub last_less : (soon late : ℕ) (ts : List ActTrace) → soon ≤ late → last_time soon ts ≤ last_time late ts
last_less soon late [] less = less
last_less soon late (t ∷ ts) less = let same : last_time (at_of t) ts ≤ last_time (at_of t) ts = omega arith in same

last_early : (first last : ℕ) (ts : List ActTrace) → first ≤ last → AllByRecursion (EarlyBy last) ts
    → last_time first ts ≤ last
last_early first last [] less each = less
last_early first last (t ∷ ts) less each = last_early (at_of t) last ts each.0 each.1

-- What every act of a run keeps was so at each moment of a stretch of its timeline: after what was done before the
-- stretch, and what was done in it by then.
pub record MomentSo (Q : List ActTrace → WorldState → Type 0) (first : Carried) (p : StretchTrace) (w : WorldState)
    (c : Carried) (time : ℕ) (done : List ActTrace) : Type 0 where
  pub before : List ActTrace
  pub so : Q (before ++ done) (at time (world_after done w))
  pub readings : c.readings ≡ option_map (readings_after before) first.readings
  pub early : AllByRecursion (EarlyBy p.from) before

module _ {F : Type 0} (answers : Bounds → ℕ → F → Option ℕ → F → Type 0) (d : DocumentState) (until : ℕ)
    (options : TimelineOptions) (fate : F) (lines : List (List ℕ)) (exceeded : Bool)
    (t : TimelineOf answers d until options fate lines exceeded) (playable : IsPlayable d)
    (moment_ends : until ≤ 10 ^ 18)
    (Q : List ActTrace → WorldState → Type 0)
    (act_keeps : (ts : List ActTrace) (timed : Timed) (done : Done) (w w' : WorldState)
    → IsKeptAct answers timed done w w' → Q ts w → Q (ts ++ transition timed done w w' ∷ []) w')
    (later_keeps : (ts : List ActTrace) (w : WorldState) (time : ℕ) → w.time ≤ time
    → NothingBefore time w.net.pending → Q ts w → Q ts (at time w)) where
  abbrev pub first : Carried
  first = none_carried (tracks options) (rising_clocks t.start)

  pub point_so : Q [] t.start → (p : StretchTrace) (w : WorldState) (c : Carried) (time : ℕ)
      (done ahead : List ActTrace) → p.acts ≡ done ++ ahead → last_time p.from done ≤ time → time ≤ next_time p.to ahead
      → BeginsWith t.passages t.start first p w c → MomentSo Q first p w c time done
  point_so so p w c time done ahead acts_are late early begins =
      let names = rising_clocks t.start in
      let unfolds = timeline_unfolds answers d until options fate lines exceeded t playable.events in
      let k = part_of answers d playable names until t.passages 0 (events_by until d.events) t.started t.fate_after
      t.start t.after first p w c t.pass begins in
      let was = runs_were_so answers t.start Q act_keeps later_keeps d until fate t.after (all_acts t.passages) playable
      moment_ends unfolds so in
      let are : all_acts t.passages ≡ (k.before ++ done) ++ (ahead ++ k.behind) =
      k.are ∙ ap (λ us. k.before ++ (us ++ k.behind)) acts_are
      ∙ ap (λ us. k.before ++ us) (append_assoc done ahead k.behind)
      ∙ sym (append_assoc k.before done (ahead ++ k.behind)) in
      let zero_time = start_time answers d.network fate t.started t.start playable.network
      (initial_sound d.network playable.network) t.begun in
      let soon = last_early t.start.time p.from k.before (omega (arith, zero_time)) k.early in
      let less = last_less (last_time t.start.time k.before) p.from done soon in
      let more = next_more p.to (next_time t.after.time k.behind) ahead k.next in
      record {
        before = k.before;
        so = subst (Q (k.before ++ done)) (k.world done time)
            (was (k.before ++ done) (ahead ++ k.behind) time are
            (subst (λ n. n ≤ time) (sym (last_on t.start.time k.before done)) (omega (arith, less, late)))
            (subst (λ n. time ≤ n) (sym (next_both answers t.after.time ahead k.behind))
            (omega (arith, early, more))));
        readings = k.readings;
        early = k.early;
      }

  pub moment_so : Q [] t.start → (p : StretchTrace) (w : WorldState) (c : Carried) (time : ℕ) (moment : Moment p time)
      → BeginsWith t.passages t.start first p w c → MomentSo Q first p w c time moment.done
  moment_so so p w c time moment begins =
      point_so so p w c time moment.done moment.ahead moment.are moment.late moment.early begins
