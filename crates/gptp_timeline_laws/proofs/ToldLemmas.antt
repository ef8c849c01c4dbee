-- The sources of systems are looked at together before every moment and after it.
use Rattle.std.proofs.Common.{◌≡◌, ◌==◌, ◌≤◌, ◌+◌, ℕ, ℤ, ◌+ℤ◌, ◌-ℤ◌, ◌≤ℤ◌, int_lt, nat_lt, not, Bool, true, false, List, [], ◌∷◌, ◌++◌, Option, Some, None, option_map, option_and_then, unsigned_abs, if◌then◌else◌, refl, sym, ap, subst, ◌∙◌, inl, arith}
use Rattle.std.specs.Option.{option_map_or}
use Rattle.std.proofs.lemmas.Bool.Decides.{nat_tests}
use Rattle.std.proofs.lemmas.Int.{ints}
use Rattle.std.proofs.lemmas.Option.{none-some, same_Some}
use Rattle.gptp_lists.specs.Members.{In}
use Rattle.gptp_lists.proofs.SystemSpecLemmas.{In-left, In-right}
use Rattle.gptp_model.specs.World.{WorldState}
use Rattle.gptp_scenario.specs.declared.change.Act.{Act}
use Rattle.gptp_system.specs.State.{local_time, SystemState}
use Rattle.gptp_timeline.specs.Looks.{events_left, listed, looked_all, looked_by, looked_in, looked_over, LookedAt, told_if}
use Rattle.gptp_timeline.specs.Readings.{changes_source, clock_time, new_in, put_reading, read_after, reading_among, readings_after, readings_by, same_source, source_time}
use Rattle.gptp_timeline.specs.Sources.{difference_if, difference_of, DifferenceState, ends_from, ends_with, further_ahead, further_behind, source_at, time_of, told_difference, told_time}
use Rattle.gptp_timeline.specs.Stretch.{at_of}
use Rattle.gptp_timeline.specs.declared.readings.KeptReading.{KeptReading}
use Rattle.gptp_timeline.specs.declared.readings.NewReading.{NewReading}
use Rattle.gptp_timeline.specs.declared.readings.SystemReading.{SystemReading}
use Rattle.gptp_timeline.specs.declared.readings.TimeSource.{TimeSource}
use Rattle.gptp_timeline.specs.declared.sources.Ends.{Ends}
use Rattle.gptp_timeline.specs.declared.sources.SourceTime.{SourceTime}
use Rattle.gptp_timeline.proofs.SourceLemmas.{put_there}
use Rattle.gptp_timeline.proofs.TimeSourceLemmas.{source_is}
use Rattle.gptp_timeline_laws.specs.Moments.{last_time, next_time}
use Rattle.gptp_timeline_laws.specs.Sources.{ReadsFrom}
use Rattle.gptp_timeline_laws.proofs.LookLemmas.{source_within}
use Rattle.gptp_timeline_laws.proofs.ReadLemmas.{is_new, put_other, put_own, quiet_reads}
use Rattle.gptp_timeline_laws.proofs.SeenLemmas.{clock_of_system, good_first, good_second, GoodLooks, system_among}
use Rattle.gptp_timeline_laws.proofs.StepLemmas.{IsStep, next_late, same_sources, SameClocks, Steps}
use Rattle.gptp_world.specs.Transitions.{ActTrace}

-- ---- the greatest and the least time

-- a time lies between those of the ends
abbrev Covers : Option Ends → ℤ → Type 0
Covers None x = ⊥
Covers (Some ends) x = (x ≤ℤ time_of ends.ahead) × (time_of ends.behind ≤ℤ x)

less_is : (a b : ℤ) → int_lt a b ≡ true → a ≤ℤ b
less_is a b is = grind (arith, ints)

not_less : (a b : ℤ) → int_lt a b ≡ false → b ≤ℤ a
not_less a b is = grind (arith, ints)

itself : (a : ℤ) → a ≤ℤ a
itself a = omega (arith, ints)

no_more : (a b c : ℤ) → a ≤ℤ b → b ≤ℤ c → a ≤ℤ c
no_more a b c first second = omega (arith, ints, first, second)

-- of two times none is ahead of the one that is further ahead
ahead_picked : (less more lower : Bool) (best one : SourceTime) → int_lt (time_of best) (time_of one) ≡ less
    → int_lt (time_of one) (time_of best) ≡ more
    → (time_of best ≤ℤ time_of (if less then one else if more then best else if lower then one else best))
    × (time_of one ≤ℤ time_of (if less then one else if more then best else if lower then one else best))
ahead_picked true more lower best one is also = (less_is (time_of best) (time_of one) is, itself (time_of one))
ahead_picked false true lower best one is also = (itself (time_of best), less_is (time_of one) (time_of best) also)
ahead_picked false false true best one is also = (not_less (time_of one) (time_of best) also, itself (time_of one))
ahead_picked false false false best one is also = (itself (time_of best), not_less (time_of best) (time_of one) is)

-- and none is after the one that is further behind
behind_picked : (less more lower : Bool) (best one : SourceTime) → int_lt (time_of one) (time_of best) ≡ less
    → int_lt (time_of best) (time_of one) ≡ more
    → (time_of (if less then one else if more then best else if lower then one else best) ≤ℤ time_of best)
    × (time_of (if less then one else if more then best else if lower then one else best) ≤ℤ time_of one)
behind_picked true more lower best one is also = (less_is (time_of one) (time_of best) is, itself (time_of one))
behind_picked false true lower best one is also = (itself (time_of best), less_is (time_of best) (time_of one) also)
behind_picked false false true best one is also = (not_less (time_of best) (time_of one) also, itself (time_of one))
behind_picked false false false best one is also = (itself (time_of best), not_less (time_of one) (time_of best) is)

ahead_both : (best one : SourceTime)
    → (time_of best ≤ℤ time_of (further_ahead best one)) × (time_of one ≤ℤ time_of (further_ahead best one))
ahead_both best one =
    ahead_picked (int_lt (time_of best) (time_of one)) (int_lt (time_of one) (time_of best))
    (nat_lt one.source.clock best.source.clock) best one refl refl

behind_both : (best one : SourceTime)
    → (time_of (further_behind best one) ≤ℤ time_of best) × (time_of (further_behind best one) ≤ℤ time_of one)
behind_both best one =
    behind_picked (int_lt (time_of one) (time_of best)) (int_lt (time_of best) (time_of one))
    (nat_lt one.source.clock best.source.clock) best one refl refl

-- one more time takes none away, and is covered
covers_more : (ends : Option Ends) (one : Option SourceTime) (x : ℤ) → Covers ends x → Covers (ends_with ends one) x
covers_more None one x covers = absurd covers
covers_more (Some ends) None x covers = covers
covers_more (Some ends) (Some one) x covers =
    let a = ahead_both ends.ahead one in let b = behind_both ends.behind one in (
      no_more x (time_of ends.ahead) (time_of (further_ahead ends.ahead one)) covers.0 a.0,
      no_more (time_of (further_behind ends.behind one)) (time_of ends.behind) x b.0 covers.1,
    )

covers_one : (ends : Option Ends) (one : SourceTime) → Covers (ends_with ends (Some one)) (time_of one)
covers_one None one = (itself (time_of one), itself (time_of one))
covers_one (Some ends) one = ((ahead_both ends.ahead one).1, (behind_both ends.behind one).1)

covers_on : (time : ℕ) (w : WorldState) (ends : Option Ends) (rs : List SystemReading) (x : ℤ) → Covers ends x
    → Covers (ends_from time w ends rs) x
covers_on time w ends [] x covers = covers
covers_on time w ends (r ∷ rs) x covers =
    covers_on time w (ends_with ends (told_time time w r)) rs x (covers_more ends (told_time time w r) x covers)

-- a source that has a time has a clock that shows something
source_shown : (source : TimeSource) (time : ℕ) (w : WorldState) (x : ℤ) → source_time source time w ≡ Some x
    → (shown : ℤ) × (clock_time source.clock time w ≡ Some shown) × (shown +ℤ source.base ≡ x)
source_shown source time w x = by (clock_time source.clock time w) refl
  where
    by : (o : Option ℤ) → clock_time source.clock time w ≡ o → option_map (λ shown. shown +ℤ source.base) o ≡ Some x
        → (shown : ℤ) × (clock_time source.clock time w ≡ Some shown) × (shown +ℤ source.base ≡ x)
    by None none is = absurd (none-some x is)
    by (Some shown) shows is = (shown, shows, same_Some (shown +ℤ source.base) x is)

-- the source of each system that has time is covered
covers_told : (time : ℕ) (w : WorldState) (ends : Option Ends) (rs : List SystemReading) (name : ℕ)
    (kept : KeptReading) (x : ℤ) → reading_among rs name ≡ Some kept → source_time kept.source time w ≡ Some x
    → Covers (ends_from time w ends rs) x
covers_told time w ends [] name kept x has shows = absurd (none-some kept has)
covers_told time w ends (r ∷ rs) name kept x has shows =
    by (r.clock == name) (λ there. covers_told time w (ends_with ends (told_time time w r)) rs name kept x there shows)
    has
  where
    by : (own : Bool)
        → (reading_among rs name ≡ Some kept → Covers (ends_from time w ends (r ∷ rs)) x)
        → (if own then r.reading else reading_among rs name) ≡ Some kept
        → Covers (ends_from time w ends (r ∷ rs)) x
    by true rest is =
        let (shown, clock_shows, x_is) = source_shown kept.source time w x shows in
        let one : SourceTime = record { source = kept.source; shown = shown } in
        let told : told_time time w r ≡ Some one =
        ap (option_and_then (source_at time w)) is
        ∙ ap (option_map (λ (t : ℤ). record { source = kept.source; shown = t })) clock_shows in
        subst (λ (o : Option SourceTime). Covers (ends_from time w (ends_with ends o) rs) x) (sym told)
        (covers_on time w (ends_with ends (Some one)) rs x
        (subst (Covers (ends_with ends (Some one))) x_is (covers_one ends one)))
    by false rest is = rest is

-- ---- how far they differ

abbrev amount_of : Option DifferenceState → ℕ
amount_of d = option_map_or (λ (x : DifferenceState). x.amount) d 0

amount_is : (amount : ℕ) (ends : Ends) → amount_of (difference_if amount ends) ≡ amount
amount_is amount ends = by (amount == 0) refl
  where
    by : (none : Bool) → amount == 0 ≡ none
        → amount_of (if none then None
        else Some (record {
          amount = amount;
          ahead = ends.ahead.source.clock;
          behind = ends.behind.source.clock;
        })) ≡ amount
    by true is = grind (arith, nat_tests)
    by false is = refl

covered_apart : (ends : Option Ends) (x y : ℤ) → Covers ends x → Covers ends y
    → unsigned_abs (x -ℤ y) ≤ amount_of (difference_of ends)
covered_apart None x y first second = absurd first
covered_apart (Some ends) x y first second =
    subst (λ (n : ℕ). unsigned_abs (x -ℤ y) ≤ n)
    (sym (amount_is (unsigned_abs (time_of ends.ahead -ℤ time_of ends.behind)) ends))
    (plain (time_of ends.ahead) (time_of ends.behind) first.0 first.1 second.0 second.1)
  where
    plain : (ahead behind : ℤ) → x ≤ℤ ahead → behind ≤ℤ x → y ≤ℤ ahead → behind ≤ℤ y
        → unsigned_abs (x -ℤ y) ≤ unsigned_abs (ahead -ℤ behind)
    plain ahead behind a b c d = omega (arith, ints, a, b, c, d)

told_apart : (time : ℕ) (w : WorldState) (rs : List SystemReading) (name other : ℕ) (kept kept' : KeptReading)
    (x y : ℤ) → reading_among rs name ≡ Some kept → reading_among rs other ≡ Some kept'
    → source_time kept.source time w ≡ Some x → source_time kept'.source time w ≡ Some y
    → unsigned_abs (x -ℤ y) ≤ amount_of (told_difference time w rs)
told_apart time w rs name other kept kept' x y has has' shows shows' =
    covered_apart (ends_from time w None rs) x y (covers_told time w None rs name kept x has shows)
    (covers_told time w None rs other kept' y has' shows')

-- ---- looks at told sources

not_false : (b : Bool) → not b ≡ false → b ≡ true
not_false true is = refl
not_false false is = absurd cc

-- a change of a reading that is no change of source
source_stays : (before : Option KeptReading) (u : NewReading) → u.before ≡ before → changes_source u ≡ false
    → (k : KeptReading) × (before ≡ Some k) × (k.source ≡ u.after.source)
source_stays None u is same =
    absurd (let no : true ≡ false =
    sym (ap (λ b. option_map_or (λ (k : KeptReading). not (same_source k.source u.after.source)) b true) is) ∙ same in
    cc)
source_stays (Some k) u is same =
    let test : not (same_source k.source u.after.source) ≡ false =
    sym (ap (λ b. option_map_or (λ (x : KeptReading). not (same_source x.source u.after.source)) b true) is) ∙ same in
    (k, refl, source_is k.source u.after.source (not_false (same_source k.source u.after.source) test))

-- who has a source after a reading that changes none had it before
pub had_source : (u : NewReading) (rs : List SystemReading) (name : ℕ) (source : TimeSource)
    → u.before ≡ reading_among rs u.clock
    → changes_source u ≡ false → ReadsFrom (put_reading u.clock (Some u.after) rs) name source
    → ReadsFrom rs name source
had_source u rs name source before same now = own (name == u.clock) refl
  where
    own : (test : Bool) → name == u.clock ≡ test → ReadsFrom rs name source
    own true test =
        let mine : name ≡ u.clock = grind (arith, nat_tests) in
        let (k, is, source_is) = source_stays (reading_among rs u.clock) u before same in
        let kept : u.after ≡ now.kept =
        same_Some u.after now.kept (put_own u.clock (Some u.after) rs now.kept
        (subst (λ n. reading_among (put_reading u.clock (Some u.after) rs) n ≡ Some now.kept) mine now.has)) in
        record {
          kept = k;
          has = ap (reading_among rs) mine ∙ is;
          is = source_is ∙ ap (λ (x : KeptReading). x.source) kept ∙ now.is;
        }
    own false test =
        let apart : name ≡ u.clock → ⊥ = grind (arith, nat_tests) in
        record {
          kept = now.kept;
          has = sym (put_other u.clock (Some u.after) rs name apart) ∙ now.has;
          is = now.is;
        }

-- and has it after that
pub keeps_source : (u : NewReading) (rs : List SystemReading) (name : ℕ) (source : TimeSource)
    → u.before ≡ reading_among rs u.clock
    → changes_source u ≡ false → ReadsFrom rs name source
    → ReadsFrom (put_reading u.clock (Some u.after) rs) name source
keeps_source u rs name source before same now = own (name == u.clock) refl
  where
    own : (test : Bool) → name == u.clock ≡ test → ReadsFrom (put_reading u.clock (Some u.after) rs) name source
    own true test =
        let mine : name ≡ u.clock = grind (arith, nat_tests) in
        let (k, is, source_is) = source_stays (reading_among rs u.clock) u before same in
        let old : k ≡ now.kept = same_Some k now.kept (sym is ∙ ap (reading_among rs) (sym mine) ∙ now.has) in
        record {
          kept = u.after;
          has = ap (reading_among (put_reading u.clock (Some u.after) rs)) mine
              ∙ put_there u.clock u.after k rs is;
          is = sym source_is ∙ ap (λ (x : KeptReading). x.source) old ∙ now.is;
        }
    own false test =
        let apart : name ≡ u.clock → ⊥ = grind (arith, nat_tests) in
        record {
          kept = now.kept;
          has = put_other u.clock (Some u.after) rs name apart ∙ now.has;
          is = now.is;
        }

module _ (low high : ℤ) (most : ℕ) (w : WorldState) where
  -- the times of two sources differ at a time by no more than that
  abbrev AreNear : TimeSource → TimeSource → ℕ → Type 0
  AreNear source other time = (x y : ℤ) → source_time source time w ≡ Some x → source_time other time w ≡ Some y
      → unsigned_abs (x -ℤ y) ≤ most

  pub record NearBefore (source other : TimeSource) (since : ℕ) : Type 0 where
    pub time : ℕ
    pub early : time ≤ since
    pub near : AreNear source other time

  pub record NearAfter (source other : TimeSource) (from : ℕ) : Type 0 where
    pub time : ℕ
    pub late : from ≤ time
    pub near : AreNear source other time

  -- the sources of two systems were looked at together by a time
  abbrev pub SeenTogether : List SystemReading → ℕ → Type 0
  SeenTogether rs since = (name other : ℕ) (source source' : TimeSource) → ReadsFrom rs name source
      → ReadsFrom rs other source'
      → NearBefore source source' since

  amount_within : (d : Option DifferenceState) → ((x : DifferenceState) → In x (listed d) → x.amount ≤ most)
      → amount_of d ≤ most
  amount_within None good = omega arith
  amount_within (Some d) good = good d (inl refl)

  told_near : (time : ℕ) (v : WorldState) (rs : List SystemReading) (name other : ℕ) (source source' : TimeSource)
      → SameClocks w v → ReadsFrom rs name source → ReadsFrom rs other source'
      → ((x : DifferenceState) → In x (listed (told_difference time v rs)) → x.amount ≤ most)
      → AreNear source source' time
  told_near time v rs name other source source' same first second good x y shows shows' =
      let apart = told_apart time v rs name other first.kept second.kept x y first.has second.has
      (ap (λ c. source_time c time v) first.is ∙ same_sources w v same source time ∙ shows)
      (ap (λ c. source_time c time v) second.is ∙ same_sources w v same source' time ∙ shows') in
      let few = amount_within (told_difference time v rs) good in
      omega (arith, apart, few)

  pub all_together : (time : ℕ) (v : WorldState) (rs : List SystemReading) → SameClocks w v
      → GoodLooks low high most (looked_all time v rs) → SeenTogether rs time
  all_together time v rs same good name other source source' first second = record {
    time = time;
    early = omega arith;
    near = told_near time v rs name other source source' same first second good.differences;
  }

  -- ---- one more act

  step_together : (rs : List SystemReading) (since left : ℕ) (t : ActTrace) → IsStep w since t
      → GoodLooks low high most (looked_in rs left t) → SeenTogether rs since
      → SeenTogether (read_after t rs) (at_of t)
  step_together rs since left t step good seen = by (new_in t rs) refl good
    where
      act : Act
      act = t.told.timed.act

      later : (source other : TimeSource) → NearBefore source other since → NearBefore source other (at_of t)
      later source other s =
          let now = step.later in let early = s.early in
          record { time = s.time; early = omega (arith, now, early); near = s.near }

      by : (new : Option NewReading) → new_in t rs ≡ new
          → GoodLooks low high most (looked_by (at_of t) t.after act left new rs (readings_by act new rs))
          → SeenTogether (readings_by act new rs) (at_of t)
      by None is good name other source source' first second =
          let same = quiet_reads act rs step.quiet in
          later source source' (seen name other source source'
          (subst (λ xs. ReadsFrom xs name source) same first) (subst (λ xs. ReadsFrom xs other source') same second))
      by (Some u) is good name other source source' first second = changed (changes_source u) refl
        where
          before : u.before ≡ reading_among rs u.clock
          before = (is_new act t.told.done t.after rs u is).before

          after : List SystemReading
          after = readings_by act (Some u) rs

          changed : (test : Bool) → changes_source u ≡ test → NearBefore source source' (at_of t)
          changed true test = record {
            time = at_of t;
            early = omega arith;
            near = told_near (at_of t) t.after after name other source source' step.same first second
                (λ x member. good.differences x (In-right x
                (listed (told_if (changes_source u) (at_of t) t.after rs))
                (listed (told_if (changes_source u) (at_of t) t.after after))
                (subst (λ b. In x (listed (told_if b (at_of t) t.after after))) (sym test) member)));
          }
          changed false test =
              later source source' (seen name other source source'
              (had_source u rs name source before test first) (had_source u rs other source' before test second))

  pub together_on : (until since left : ℕ) (rs : List SystemReading) (us vs : List ActTrace)
      → Steps w until since (us ++ vs) → GoodLooks low high most (looked_over rs left (us ++ vs))
      → SeenTogether rs since → SeenTogether (readings_after us rs) (last_time since us)
  together_on until since left rs [] vs steps good seen = seen
  together_on until since left rs (t ∷ us) vs steps good seen =
      let rest = looked_over (read_after t rs) (events_left (t ∷ []) left) (us ++ vs) in
      together_on until (at_of t) (events_left (t ∷ []) left) (read_after t rs) us vs steps.1
      (good_second low high most (looked_in rs left t) rest good)
      (step_together rs since left t steps.0 (good_first low high most (looked_in rs left t) rest good) seen)

  -- ---- the next look

  pub together_later : (until since left : ℕ) (rs : List SystemReading) (vs : List ActTrace) (end : WorldState)
      → Steps w until since vs → SameClocks w end → GoodLooks low high most (looked_over rs left vs)
      → GoodLooks low high most (looked_all until end (readings_after vs rs))
      → (name other : ℕ) (source source' : TimeSource)
      → ReadsFrom rs name source → ReadsFrom rs other source' → NearAfter source source' (next_time until vs)
  together_later until since left rs [] end steps same good last name other source source' first second = record {
    time = until;
    late = omega arith;
    near = told_near until end rs name other source source' same first second last.differences;
  }
  together_later until since left rs (t ∷ vs) end steps same good last name other source source' first second =
      by (new_in t rs) refl (good_first low high most (looked_in rs left t) rest good) last
      (good_second low high most (looked_in rs left t) rest good)
      (λ us later ended one two. together_later until (at_of t) (events_left (t ∷ []) left) us vs end steps.1 same
      later ended name other source source' one two)
    where
      act : Act
      act = t.told.timed.act

      rest : LookedAt
      rest = looked_over (read_after t rs) (events_left (t ∷ []) left) vs

      still : NearAfter source source' (next_time until vs) → NearAfter source source' (at_of t)
      still s =
          let next = next_late w until (at_of t) vs steps.1 in let late = s.late in
          record { time = s.time; late = omega (arith, next, late); near = s.near }

      by : (new : Option NewReading) → new_in t rs ≡ new
          → GoodLooks low high most (looked_by (at_of t) t.after act left new rs (readings_by act new rs))
          → GoodLooks low high most (looked_all until end (readings_after vs (readings_by act new rs)))
          → GoodLooks low high most (looked_over (readings_by act new rs) (events_left (t ∷ []) left) vs)
          → ((us : List SystemReading) → GoodLooks low high most (looked_over us (events_left (t ∷ []) left) vs)
          → GoodLooks low high most (looked_all until end (readings_after vs us)) → ReadsFrom us name source
          → ReadsFrom us other source' → NearAfter source source' (next_time until vs))
          → NearAfter source source' (at_of t)
      by None is one last good next =
          let same = sym (quiet_reads act rs steps.0.quiet) in
          still (next (readings_by act None rs) good last (subst (λ xs. ReadsFrom xs name source) same first)
          (subst (λ xs. ReadsFrom xs other source') same second))
      by (Some u) is one last good next = changed (changes_source u) refl
        where
          before : u.before ≡ reading_among rs u.clock
          before = (is_new act t.told.done t.after rs u is).before

          after : List SystemReading
          after = readings_by act (Some u) rs

          changed : (test : Bool) → changes_source u ≡ test → NearAfter source source' (at_of t)
          changed true test = record {
            time = at_of t;
            late = omega arith;
            near = told_near (at_of t) t.after rs name other source source' steps.0.same first second
                (λ x member. one.differences x (In-left x
                (listed (told_if (changes_source u) (at_of t) t.after rs))
                (listed (told_if (changes_source u) (at_of t) t.after after))
                (subst (λ b. In x (listed (told_if b (at_of t) t.after rs))) (sym test) member)));
          }
          changed false test =
              still (next after good last (keeps_source u rs name source before test first)
              (keeps_source u rs other source' before test second))

  -- ---- a moment between two looks

  pub sources_at_moment : (source other : TimeSource) (since from time : ℕ) → NearBefore source other since
      → NearAfter source other from → since ≤ time → time ≤ from → (x y : ℤ) → source_time source time w ≡ Some x
      → source_time other time w ≡ Some y → unsigned_abs (x -ℤ y) ≤ most + 1
  sources_at_moment source other since from time before after early late x y shows shows' =
      by (system_among source.clock w.stations) refl (system_among other.clock w.stations) refl
    where
      found : (one : TimeSource) (at : ℕ) (s : SystemState) → system_among one.clock w.stations ≡ Some s
          → source_time one at w ≡ Some (local_time s at +ℤ one.base)
      found one at s is =
          ap (option_map (λ shown. shown +ℤ one.base))
          (clock_of_system one.clock at w.stations ∙ ap (option_map (λ (v : SystemState). local_time v at)) is)

      lost : (one : TimeSource) (z : ℤ) → system_among one.clock w.stations ≡ None
          → source_time one time w ≡ Some z → ⊥
      lost one z none shown =
          none-some z (sym (ap (option_map (λ (t : ℤ). t +ℤ one.base))
          (clock_of_system one.clock time w.stations
          ∙ ap (option_map (λ (v : SystemState). local_time v time)) none)) ∙ shown)

      by : (a : Option SystemState) → system_among source.clock w.stations ≡ a → (b : Option SystemState)
          → system_among other.clock w.stations ≡ b → unsigned_abs (x -ℤ y) ≤ most + 1
      by None none b is = absurd (lost source x none shows)
      by (Some a) is None none = absurd (lost other y none shows')
      by (Some a) is (Some b) also =
          let x_is : local_time a time +ℤ source.base ≡ x =
          same_Some (local_time a time +ℤ source.base) x (sym (found source time a is) ∙ shows) in
          let y_is : local_time b time +ℤ other.base ≡ y =
          same_Some (local_time b time +ℤ other.base) y (sym (found other time b also) ∙ shows') in
          let first = before.early in let last = after.late in
          let within = source_within a b source.base other.base before.time time after.time most
          (omega (arith, first, early)) (omega (arith, last, late))
          (before.near (local_time a before.time +ℤ source.base) (local_time b before.time +ℤ other.base)
          (found source before.time a is) (found other before.time b also))
          (after.near (local_time a after.time +ℤ source.base) (local_time b after.time +ℤ other.base)
          (found source after.time a is) (found other after.time b also)) in
          subst (λ v. unsigned_abs (v -ℤ y) ≤ most + 1) x_is
          (subst (λ v. unsigned_abs ((local_time a time +ℤ source.base) -ℤ v) ≤ most + 1) y_is within)
