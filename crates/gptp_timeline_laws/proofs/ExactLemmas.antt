-- On an `accuracy` line what a system read is off by no more than its bound.
use Rattle.std.proofs.Common.{◌≡◌, ◌==◌, ◌≤◌, ◌<◌, ◌-◌, ◌^◌, ◌⊎◌, ◌-ℤ◌, ℕ, suc, ℤ, Bool, true, false, nat_le, List, [], ◌∷◌, ◌++◌, map, Option, Some, None, option_map, option_and_then, unsigned_abs, refl, sym, ap, subst, ◌∙◌, inl, inr, append-nil, arith}
use Rattle.std.specs.List.{AllByRecursion}
use Rattle.std.proofs.lemmas.Bool.Decides.{nat_tests}
use Rattle.std.proofs.lemmas.Option.{none-some, same_Some}
use Rattle.gptp_accuracy.specs.AccuracyText.{reading_at}
use Rattle.gptp_accuracy.specs.TimeErrors.{AreTimeErrors, HasByWay}
use Rattle.gptp_accuracy.specs.Ways.{IsWay}
use Rattle.gptp_accuracy.specs.declared.errors.TimeErrors.{TimeErrors}
use Rattle.gptp_accuracy.proofs.ReadingLemmas.{reading_errors_are_of_ways}
use Rattle.gptp_accuracy.proofs.WayLemmas.{one_way}
use Rattle.gptp_error_laws.specs.TimeError.{reading_error_after, reading_error_at}
use Rattle.gptp_error_laws.specs.TimeError.{reading_error as way_error}
use Rattle.gptp_invariants.proofs.ChoiceCalmKeptLemmas.{acts_keep}
use Rattle.gptp_links.specs.declared.bounds.Bounds.{Bounds}
use Rattle.gptp_lists.specs.Members.{In}
use Rattle.gptp_lists.proofs.SystemSpecLemmas.{In-right}
use Rattle.gptp_model.specs.Acts.{at}
use Rattle.gptp_model.specs.Advancing.{Happens}
use Rattle.gptp_model.specs.Views.{rising_clocks}
use Rattle.gptp_model.specs.World.{WorldState}
use Rattle.gptp_network.specs.Document.{DocumentState}
use Rattle.gptp_network.specs.Snapshot.{events_by}
use Rattle.gptp_report.specs.Transitions.{Courses, Passes}
use Rattle.gptp_scenario.specs.Calm.{last_change}
use Rattle.gptp_scenario.specs.declared.change.Timed.{Timed}
use Rattle.gptp_theorem.specs.PlayedLaws.{IsPlayable}
use Rattle.gptp_reading.proofs.LastingLemmas.{error_grows}
use Rattle.gptp_timeline.specs.ExactReads.{counts_new, ended_reads, greater_of, later_of, reads_among, reads_by, reads_ended, reads_next, reads_over, reads_with, unread}
use Rattle.gptp_timeline.specs.Laws.{IsExactBySpan, SayBound}
use Rattle.gptp_timeline.specs.Jumps.{error_before}
use Rattle.gptp_timeline.specs.Readings.{clock_time, new_in, put_reading, read_after, read_by, reading_among, reading_error, readings_after, readings_by}
use Rattle.gptp_timeline.specs.Stretch.{at_of}
use Rattle.gptp_timeline.specs.Timeline.{AreErrorsBy, Carried, now_of, StretchTrace}
use Rattle.gptp_timeline.specs.declared.exact_reads.ExactReads.{ExactReads}
use Rattle.gptp_timeline.specs.declared.exact_reads.SystemReads.{SystemReads}
use Rattle.gptp_timeline.specs.declared.readings.KeptReading.{KeptReading}
use Rattle.gptp_timeline.specs.declared.readings.NewReading.{NewReading}
use Rattle.gptp_timeline.specs.declared.readings.SystemReading.{SystemReading}
use Rattle.gptp_timeline.proofs.EventLemmas.{Each, filter_each, filter_in_order}
use Rattle.gptp_timeline.proofs.PastLemmas.{all_past, PastBy}
use Rattle.gptp_timeline.proofs.SettlingLemmas.{act_time, ends_by, events_then, IsFitEvent, Keeps, keeps_act, no_change}
use Rattle.gptp_timeline.proofs.WithinLemmas.{has_bound, holds_later, past_behind}
use Rattle.gptp_timeline_laws.specs.Exact.{reads_from, TimelinesReadExactly}
use Rattle.gptp_timeline_laws.proofs.HeldLemmas.{AreRight, calm_is_right, IsBounded, IsRight}
use Rattle.gptp_timeline_laws.proofs.BoundLemmas.{readings_both}
use Rattle.gptp_timeline_laws.proofs.CourseLemmas.{parts}
use Rattle.gptp_timeline_laws.proofs.MomentLemmas.{Found, timeline_found}
use Rattle.gptp_timeline_laws.proofs.OriginLemmas.{IsReceived, IsTakenOver, origin}
use Rattle.gptp_timeline_laws.proofs.ReadLemmas.{is_new, put_other, put_own, quiet_reads}
use Rattle.gptp_timeline_laws.proofs.ReadsLemmas.{at_most_more, AtMost, counts_not, counts_so, greater_within, idle_reads, later_both, NoReads, reads_both, reads_other, reads_own, unread_none}
use Rattle.gptp_timeline_laws.proofs.StepLemmas.{clocks_stay, quiet_next, same_sources, SameClocks}
use Rattle.gptp_world.specs.Transitions.{ActTrace}

pub less_each : (last from : ℕ) (ts : List ActTrace) → last < from
    → AllByRecursion (λ (t : ActTrace). at_of t ≤ last) ts → AllByRecursion (λ (t : ActTrace). at_of t < from) ts
less_each last from [] less each = tt
less_each last from (t ∷ ts) less each =
    let first = each.0 in (omega (arith, first, less), less_each last from ts less each.1)

module _ {F : Type 0} (answers : Bounds → ℕ → F → Option ℕ → F → Type 0) (d : DocumentState)
    (playable : IsPlayable d) (names : List ℕ) where
  -- an act leaves clocks as they were
  pub same_on : (events : List Timed) (t : ActTrace) (until : ℕ) (fate drawn : F) (base w : WorldState)
      → Happens answers until t.told fate drawn w t.after → Keeps answers d playable names events w
      → SameClocks base w → SameClocks base t.after
  same_on events t until fate drawn base w happens keeps same n time =
      let timed = t.told.timed in
      let network = acts_keep timed.act (at timed.at w) happens.was_done.draws t.told.done t.after
      (no_change happens.next.item timed.act w happens.next.act) happens.was_done.acts in
      clocks_stay answers d playable names events w t.after keeps
      (keeps_act answers d playable names events until t fate drawn w happens keeps) network.setups n time
      ∙ same n time

  module _ (events : List Timed) (name from : ℕ) (B : ℕ → ℕ)
      (grows : (soon late : ℕ) → soon ≤ late → B soon ≤ B late) (acts : List ActTrace)
      (right : AreRight answers d playable names events name from B acts) where
    abbrev Bounded : WorldState → KeptReading → ℕ → Type 0
    Bounded = IsBounded name B

    -- What is kept of what the system reads: the last receipt that counts bounds it from then on, and it was off by no
    -- more than the error for the longest time between two.
    pub record Held (base : WorldState) (rs : List SystemReading) (r : ExactReads) (now : ℕ) : Type 0 where
      pub late : from ≤ r.last
      pub early : r.last ≤ now
      pub bounded : (kept : KeptReading) → reading_among rs name ≡ Some kept → Bounded base kept r.last
      pub worst : AtMost (B r.longest) r.worst

    abbrev Track : WorldState → List SystemReading → List SystemReads → ℕ → Type 0
    Track base rs xs now = (r : ExactReads) → reads_among xs name ≡ Some r → Held base rs r now

    -- an error at a time by what bounds it
    within_at : (base : WorldState) (kept : KeptReading) (last time most : ℕ) → Bounded base kept last → last ≤ time
        → B (time - last) ≤ most → AtMost most (option_map unsigned_abs (reading_error time base name kept))
    within_at base kept last time most bounded late enough = by (reading_error time base name kept) refl
      where
        by : (error : Option ℤ) → reading_error time base name kept ≡ error
            → AtMost most (option_map unsigned_abs error)
        by None is = tt
        by (Some e) is = let small = bounded.each time e late is in omega (arith, small, enough)

    error_same : (base v : WorldState) → SameClocks base v → (time n : ℕ) (kept : KeptReading)
        → reading_error time v n kept ≡ reading_error time base n kept
    error_same base v same time n kept =
        λ i. option_and_then (λ shown. option_map (λ x. read_by kept shown -ℤ x)
        (same_sources base v same kept.source time i)) (same n time i)

    -- a receipt that counts after another, or the first
    next_held : (base : WorldState) (rs : List SystemReading) (at now : ℕ)
        (before left : Option ℕ) (old : Option ExactReads) (r : ExactReads) → from ≤ at → now ≤ at
        → ((kept : KeptReading) → reading_among rs name ≡ Some kept → Bounded base kept at) → AtMost (B 0) left
        → ((o : ExactReads) → old ≡ Some o → (o.last ≤ now) × AtMost (B o.longest) o.worst
        × AtMost (B (at - o.last)) before)
        → reads_next true at before left old ≡ Some r → Held base rs r at
    next_held base rs at now before left None r late on bounded few was is =
        subst (λ x. Held base rs x at) (same_Some (record { last = at; longest = 0; worst = left }) r is) (record {
          late = late;
          early = omega arith;
          bounded = bounded;
          worst = few;
        })
    next_held base rs at now before left (Some o) r late on bounded few was is =
        let (early, worst, gap) = was o refl in
        let more = later_both o.longest (at - o.last) in
        let longest = later_of o.longest (at - o.last) in
        subst (λ x. Held base rs x at)
        (same_Some (record {
          last = at;
          longest = longest;
          worst = greater_of (greater_of o.worst before) left;
        }) r is) (record {
          late = late;
          early = omega arith;
          bounded = bounded;
          worst = greater_within (B longest) (greater_of o.worst before) left
              (greater_within (B longest) o.worst before
              (at_most_more (B o.longest) (B longest) o.worst (grows o.longest longest more.0) worst)
              (at_most_more (B (at - o.last)) (B longest) before (grows (at - o.last) longest more.1) gap))
              (at_most_more (B 0) (B longest) left (grows 0 longest (omega arith)) few);
        })

    module _ (until : ℕ) (t : ActTrace) (fate drawn : F) (w : WorldState)
        (happens : Happens answers until t.told fate drawn w t.after) (keeps : Keeps answers d playable names events w)
        (right_then : from ≤ at_of t → IsRight name B t w) (base : WorldState) (same : SameClocks base w)
        (same' : SameClocks base t.after) where
      step_track : (rs : List SystemReading) (xs : List SystemReads) (now : ℕ) → now ≤ at_of t
          → Track base rs xs now
          → Track base (read_after t rs) (reads_by (Some from) (at_of t) t.after (new_in t rs) xs) (at_of t)
      step_track rs xs now on track = by (new_in t rs) refl
        where
          still : (us : List SystemReading) (r : ExactReads) → reading_among us name ≡ reading_among rs name
              → Held base rs r now → Held base us r (at_of t)
          still us r one h =
              let first = h.early in record {
                late = h.late;
                early = omega (arith, first, on);
                bounded = λ kept reads. h.bounded kept (sym one ∙ reads);
                worst = h.worst;
              }

          by : (new : Option NewReading) → new_in t rs ≡ new
              → Track base (readings_by t.told.timed.act new rs) (reads_by (Some from) (at_of t) t.after new xs)
              (at_of t)
          by None is r there =
              let quiet = quiet_next happens.next.item t.told.timed.act w happens.next.act in
              still (readings_by t.told.timed.act None rs) r
              (ap (λ us. reading_among us name) (quiet_reads t.told.timed.act rs quiet)) (track r there)
          by (Some u) is r there = own (name == u.clock) refl
            where
              put : List SystemReading
              put = put_reading u.clock (Some u.after) rs

              next : List SystemReads
              next = map (reads_with (Some from) (at_of t) t.after u) xs

              was_next : name ≡ u.clock
                  → reads_next (counts_new (Some from) (at_of t) u) (at_of t)
                  (option_map unsigned_abs (error_before (at_of t) t.after u))
                  (option_map unsigned_abs (reading_error (at_of t) t.after u.clock u.after))
                  (reads_among xs u.clock) ≡ Some r
              was_next mine =
                  reads_own (Some from) (at_of t) t.after u xs r
                  (subst (λ n. reads_among next n ≡ Some r) mine there)

              -- the error by the reading before
              gap : (o : ExactReads) → name ≡ u.clock → Held base rs o now
                  → AtMost (B (at_of t - o.last)) (option_map unsigned_abs (error_before (at_of t) t.after u))
              gap o mine h =
                  with_kept (reading_among rs u.clock) refl
                where
                  with_kept : (kept : Option KeptReading) → reading_among rs u.clock ≡ kept
                      → AtMost (B (at_of t - o.last)) (option_map unsigned_abs (error_before (at_of t) t.after u))
                  with_kept None none =
                      let before = (is_new t.told.timed.act t.told.done t.after rs u is).before ∙ none in
                      subst (λ k. AtMost (B (at_of t - o.last))
                      (option_map unsigned_abs (option_and_then (reading_error (at_of t) t.after u.clock) k)))
                      (sym before) tt
                  with_kept (Some k) some =
                      let before = (is_new t.told.timed.act t.told.done t.after rs u is).before ∙ some in
                      let first = h.early in
                      let small = within_at base k o.last (at_of t) (B (at_of t - o.last))
                      (h.bounded k (ap (reading_among rs) mine ∙ some)) (omega (arith, first, on)) (omega arith) in
                      let error : reading_error (at_of t) t.after u.clock k ≡ reading_error (at_of t) base name k =
                      ap (λ n. reading_error (at_of t) t.after n k) (sym mine)
                      ∙ error_same base t.after same' (at_of t) name k in
                      subst (λ b. AtMost (B (at_of t - o.last))
                      (option_map unsigned_abs (option_and_then (reading_error (at_of t) t.after u.clock) b)))
                      (sym before)
                      (subst (λ e. AtMost (B (at_of t - o.last)) (option_map unsigned_abs e)) (sym error) small)

              received : from ≤ at_of t → name ≡ u.clock → IsReceived t.told.done t.after u ⊎ IsTakenOver t.after u
                  → Held base put r (at_of t)
              received late mine (inr taken) =
                  absurd ((right_then late).no_takeover u (sym mine) taken)
              received late mine (inl own) =
                  let bounded = (right_then late).bounds u (sym mine) own base same same' in
                  let counts = counts_so from (at_of t) u late own.received in
                  let error : reading_error (at_of t) t.after u.clock u.after
                  ≡ reading_error (at_of t) base name u.after =
                  ap (λ n. reading_error (at_of t) t.after n u.after) (sym mine)
                  ∙ error_same base t.after same' (at_of t) name u.after in
                  let none : at_of t - at_of t ≤ 0 = omega arith in
                  next_held base put (at_of t) now (option_map unsigned_abs (error_before (at_of t) t.after u))
                  (option_map unsigned_abs (reading_error (at_of t) t.after u.clock u.after)) (reads_among xs u.clock) r
                  late on
                  (λ kept reads. subst (λ k. Bounded base k (at_of t))
                  (same_Some u.after kept (put_own u.clock (Some u.after) rs kept
                  (subst (λ n. reading_among put n ≡ Some kept) mine reads))) bounded)
                  (subst (λ e. AtMost (B 0) (option_map unsigned_abs e)) (sym error)
                  (within_at base u.after (at_of t) (at_of t) (B 0) bounded (omega arith) (grows _ 0 none)))
                  (λ o one.
                  (let h = track o (subst (λ n. reads_among xs n ≡ Some o) (sym mine) one) in
                  (h.early, h.worst, gap o mine h)))
                  (subst (λ c. reads_next c (at_of t) (option_map unsigned_abs (error_before (at_of t) t.after u))
                  (option_map unsigned_abs (reading_error (at_of t) t.after u.clock u.after)) (reads_among xs u.clock)
                  ≡ Some r) counts (was_next mine))

              -- before the time nothing that counts is there
              too_early : at_of t < from → name ≡ u.clock → (old : Option ExactReads) → reads_among xs u.clock ≡ old → ⊥
              too_early soon mine None one =
                  none-some r (subst (λ c. reads_next c (at_of t)
                  (option_map unsigned_abs (error_before (at_of t) t.after u))
                  (option_map unsigned_abs (reading_error (at_of t) t.after u.clock u.after)) None ≡ Some r)
                  (counts_not from (at_of t) u soon)
                  (subst (λ b. reads_next (counts_new (Some from) (at_of t) u) (at_of t)
                  (option_map unsigned_abs (error_before (at_of t) t.after u))
                  (option_map unsigned_abs (reading_error (at_of t) t.after u.clock u.after)) b ≡ Some r) one
                  (was_next mine)))
              too_early soon mine (Some o) one =
                  let h = track o (subst (λ n. reads_among xs n ≡ Some o) (sym mine) one) in
                  let a = h.late in let b = h.early in omega (arith, a, b, on, soon)

              late_one : (test : Bool) → nat_le from (at_of t) ≡ test → name ≡ u.clock → Held base put r (at_of t)
              late_one true test mine =
                  let late : from ≤ at_of t = grind (arith, nat_tests) in
                  received late mine (origin t.told.timed.act t.told.done t.after rs u is)
              late_one false test mine =
                  let soon : at_of t < from = grind (arith, nat_tests) in
                  absurd (too_early soon mine (reads_among xs u.clock) refl)

              own : (test : Bool) → name == u.clock ≡ test → Held base put r (at_of t)
              own true test =
                  let mine : name ≡ u.clock = grind (arith, nat_tests) in
                  late_one (nat_le from (at_of t)) refl mine
              own false test =
                  let apart : name ≡ u.clock → ⊥ = grind (arith, nat_tests) in
                  still put r (put_other u.clock (Some u.after) rs name apart)
                  (track r (sym (reads_other (Some from) (at_of t) t.after u xs name apart) ∙ there))

    -- ---- acts that pass

    -- what is kept after acts, of which none is later than a time
    record Tracked (rs : List SystemReading) (xs : List SystemReads) (to : ℕ) (w : WorldState) : Type 0 where
      base : WorldState
      same : SameClocks base w
      now : ℕ
      soon : now ≤ to
      track : Track base rs xs now

    passes_track : (until : ℕ) (ts : List ActTrace) (fate fate_after : F) (base w w' : WorldState)
        (rs : List SystemReading) (xs : List SystemReads) → until ≤ 10 ^ 18
        → ((t : ActTrace) → In t ts → In t acts) → SameClocks base w → w.time ≤ until
        → Passes answers until ts fate fate_after w w' → Keeps answers d playable names events w
        → Track base rs xs w.time → Tracked (readings_after ts rs) (reads_over (Some from) rs xs ts) until w'
    passes_track until [] fate fate_after base w w' rs xs early among same soon (one, is) keeps track = record {
      base = base;
      same = λ n time. ap (λ v. clock_time n time v) is ∙ same n time;
      now = w.time;
      soon = soon;
      track = track;
    }
    passes_track until (t ∷ ts) fate fate_after base w w' rs xs early among same soon (drawn, before, happens, rest)
        keeps track =
        let moment = act_time answers d playable names until t fate drawn w keeps.claimed.world.sound happens in
        let same' = same_on events t until fate drawn base w happens keeps same in
        let in_time = happens.early in
        let next = step_track until t fate drawn w happens keeps
        (right until t fate drawn w happens keeps before early (among t (inl refl))) base same same' rs xs w.time
        happens.was_done.ready.timely.now track in
        passes_track until ts drawn fate_after base t.after w' (read_after t rs)
        (reads_by (Some from) (at_of t) t.after (new_in t rs) xs) early (λ u member. among u (inr member)) same'
        (omega (arith, moment, in_time)) rest
        (keeps_act answers d playable names events until t fate drawn w happens keeps)
        (subst (Track base (read_after t rs) (reads_by (Some from) (at_of t) t.after (new_in t rs) xs)) (sym moment)
        next)

    -- ---- a stretch

    courses_track : (before es : List Timed) (to last : ℕ) (rs : List SystemReading) (xs : List SystemReads)
        (fate fate_after : F) (w after : WorldState) → events ≡ before ++ es → to ≤ 10 ^ 18
        → last < from → PastBy last es → Each (IsFitEvent answers d playable names) es
        → Keeps answers d playable names before w → Courses answers to es acts fate fate_after w after
        → NoReads name xs → Tracked (readings_after acts rs) (reads_over (Some from) rs xs acts) to after
    courses_track before [] to last rs xs fate fate_after w after are early less past fits keeps k none =
        let kept = subst (λ fs. Keeps answers d playable names fs w) (sym (are ∙ append-nil before)) keeps in
        let on = passes_track to acts fate fate_after w w k.between rs xs early (λ t member. member)
        (λ n time. refl) k.ahead k.passes kept
        (λ r there. absurd (none-some r (sym none ∙ there))) in record {
          base = on.base;
          same = λ n time. ap (λ v. clock_time n time v) k.is ∙ on.same n time;
          now = on.now;
          soon = on.soon;
          track = on.track;
        }
    courses_track before (e ∷ es) to last rs xs fate fate_after w after are early less past fits keeps k none =
        let p = parts answers d playable names before e es rs to acts fate fate_after w after fits keeps k in
        let kept = subst (λ fs. Keeps answers d playable names fs p.middle) (sym are) p.keeps in
        let idle = idle_reads from name p.head rs xs (less_each last from p.head less (p.soon last past)) none in
        let on = passes_track to p.tail p.drawn fate_after p.middle p.middle p.passes.between
        (readings_after p.head rs) (reads_over (Some from) rs xs p.head) early
        (λ t member. subst (In t) (sym p.are) (In-right t p.head p.tail member)) (λ n time. refl) p.passes.ahead
        p.passes.passes kept (λ r there. absurd (none-some r (sym idle ∙ there))) in
        let reads = ap (λ us. readings_after us rs) p.are ∙ readings_both p.head p.tail rs in
        let over = ap (reads_over (Some from) rs xs) p.are ∙ reads_both (Some from) p.head p.tail rs xs in
        record {
          base = on.base;
          same = λ n time. ap (λ v. clock_time n time v) p.passes.is ∙ on.same n time;
          now = on.now;
          soon = on.soon;
          track = subst (λ us. Track on.base us (reads_over (Some from) rs xs acts) on.now) (sym reads)
              (subst (λ ys. Track on.base (readings_after p.tail (readings_after p.head rs)) ys on.now) (sym over)
              on.track);
        }

    -- where the stretch ends
    ended_within : (to : ℕ) (w : WorldState) (rs : List SystemReading) (xs : List SystemReads) (r : ExactReads)
        → Tracked rs xs to w → ended_reads to w rs xs name ≡ Some r → AtMost (B r.longest) r.worst
    ended_within to w rs xs r on is = by (reads_among xs name) refl is
      where
        small : (o : ExactReads) → Held on.base rs o on.now → (kept : Option KeptReading)
            → reading_among rs name ≡ kept
            → AtMost (B (to - o.last)) (option_map unsigned_abs (option_and_then (reading_error to w name) kept))
        small o h None none = tt
        small o h (Some kept) some =
            let first = h.early in let soon = on.soon in
            subst (λ e. AtMost (B (to - o.last)) (option_map unsigned_abs e))
            (sym (error_same on.base w on.same to name kept))
            (within_at on.base kept o.last to (B (to - o.last)) (h.bounded kept some) (omega (arith, first, soon))
            (omega arith))

        by : (old : Option ExactReads) → reads_among xs name ≡ old
            → option_map (reads_ended to (option_map unsigned_abs
            (option_and_then (reading_error to w name) (reading_among rs name)))) old ≡ Some r
            → AtMost (B r.longest) r.worst
        by None none is = absurd (none-some r is)
        by (Some o) some is =
            let h = on.track o some in
            let left = option_map unsigned_abs (option_and_then (reading_error to w name) (reading_among rs name)) in
            let longest = later_of o.longest (to - o.last) in
            let more = later_both o.longest (to - o.last) in
            subst (λ (x : ExactReads). AtMost (B x.longest) x.worst) (same_Some (reads_ended to left o) r is)
            (greater_within (B longest) o.worst left
            (at_most_more (B o.longest) (B longest) o.worst (grows o.longest longest more.0) h.worst)
            (at_most_more (B (to - o.last)) (B longest) left (grows (to - o.last) longest more.1)
            (small o h (reading_among rs name) refl)))

  -- ---- what the errors say

  pub bound_is : (time later most : ℕ) (errors : TimeErrors) (name from bound : ℕ) (are : AreTimeErrors d time errors)
      (by_span : IsExactBySpan d time from) (says : SayBound errors name bound)
      → reading_at says.system later ≡ Some most
      → most ≡ reading_error_at (has_bound answers d playable names time errors name from bound are by_span says).way
      (has_bound answers d playable names time errors name from bound are by_span says).steps later
  bound_is time later most errors name from bound are by_span says is =
      let n = d.network in let events = events_by time d.events in let g = are.snapshot in let s = says.system in
      let has = has_bound answers d playable names time errors name from bound are by_span says in
      let by_way = subst (HasByWay n events g s (λ w. way_error w later)) is
      (reading_errors_are_of_ways n events g s later (are.systems.each s says.among)) in
      let (calm, near, capable, (way, leads, most_is)) = by_way in
      let one = one_way n events g name (suc has.steps) s.steps has.way way playable.network are.network has.leads
      (subst (λ v. IsWay n events g s.steps v way) says.named leads) in
      most_is ∙ ap (λ w. way_error w later) (sym one.0) ∙ ap (λ h. reading_error_after has.way h later) one.1

  -- ---- what became of a stretch

  -- where each act from a time on is right, what is kept of what a system reads from then on is within its bound
  pub stretch_reads : (until : ℕ) (p : StretchTrace) (w : WorldState) (c : Carried) (rs : List SystemReading)
      (errors : TimeErrors) (name span_from from bound worst most : ℕ) (r : ExactReads) (early : until ≤ 10 ^ 18)
      (b : Found answers d playable names until p w c) (are : AreTimeErrors d b.from errors)
      (by_span : IsExactBySpan d b.from span_from) (says : SayBound errors name bound)
      → last_change (events_by b.from d.events) < from
      → AreRight answers d playable names (events_by b.from d.events) name from
      (reading_error_at (has_bound answers d playable names b.from errors name span_from bound are by_span says).way
      (has_bound answers d playable names b.from errors name span_from bound are by_span says).steps) p.acts
      → reads_from from names p rs name ≡ Some r → r.worst ≡ Some worst
      → reading_at says.system r.longest ≡ Some most → worst ≤ most
  stretch_reads until p w c rs errors name span_from from bound worst most r early b are by_span says less right reads
      worst_is most_is =
      let ends : p.to ≤ until =
      subst (λ to. to ≤ until) (sym b.passage.to_is) (ends_by answers d playable names until b.from b.before b.left
      b.is_left) in
      let events = events_by b.from d.events in
      let has = has_bound answers d playable names b.from errors name span_from bound are by_span says in
      let error_then : ℕ → ℕ = reading_error_at has.way has.steps in
      let grows : (soon late : ℕ) → soon ≤ late → error_then soon ≤ error_then late =
      λ soon late less. error_grows has.way has.steps soon late less in
      let made = events_then answers d playable names until b.from b.before b.left b.is_left in
      let last = last_change events in
      let past = all_past last events
      (filter_in_order (λ (e : Timed). nat_le e.at b.from) d.events playable.events.in_order) (omega arith) in
      let on = courses_track events name from error_then grows p.acts right b.before (now_of b.from b.left) p.to last rs
      (map unread names) b.fate b.fate_after w p.after made (omega (arith, ends, early)) less
      (past_behind answers d playable names last b.before (now_of b.from b.left) (subst (PastBy last) made past))
      (filter_each (IsFitEvent answers d playable names) (λ (e : Timed). nat_le e.at b.from) b.left b.is_left.fits)
      b.keeps
      (subst (λ es. Courses answers p.to es p.acts b.fate b.fate_after w p.after) b.passage.events_are
      b.passage.courses) (unread_none names name) in
      let ended = ended_within events name from error_then grows p.acts right p.to p.after
      (readings_after p.acts rs) (reads_over (Some from) rs (map unread names) p.acts) r on reads in
      let is = bound_is b.from r.longest most errors name span_from bound are by_span says most_is in
      subst (λ m. worst ≤ m) (sym is) (subst (AtMost (error_then r.longest)) worst_is ended)

pub timelines_read_exactly : {F : Type 0} (answers : Bounds → ℕ → F → Option ℕ → F → Type 0)
    → TimelinesReadExactly answers
timelines_read_exactly answers d until options fate lines exceeded t playable early p w c rs errors name from bound
    worst most r says begins has_readings are exact_is reads worst_is most_is =
    let names = rising_clocks t.start in
    let b = timeline_found answers d until options fate lines exceeded t playable p w c begins in
    let hold : AreErrorsBy d b.from p.to (Some errors) =
    subst (AreErrorsBy d b.from p.to) are b.passage.errors_are in
    let events = events_by b.from d.events in
    let by_span = subst (λ time. IsExactBySpan d time from) b.passage.from_is exact_is in
    let has = has_bound answers d playable names b.from errors name from bound hold.0 by_span says in
    stretch_reads answers d playable names until p w c rs errors name from from bound worst most r early b hold.0
    by_span says
    (holds_later answers d playable names events hold.0.snapshot name from bound b.keeps.claimed.pace.largest has)
    (λ until_then act one drawn v happens keeps before soon member late.
    calm_is_right answers d playable names events hold.0.snapshot name from bound has until_then act one drawn v happens
    keeps late soon)
    reads worst_is most_is
