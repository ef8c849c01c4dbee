-- Each reading of a system is looked at before every moment and after it.
use Rattle.std.proofs.Common.{◌≡◌, ◌==◌, ◌≤◌, ℕ, ℤ, pos, ◌+ℤ◌, ◌-ℤ◌, ◌≤ℤ◌, Bool, true, false, List, [], ◌∷◌, ◌++◌, Option, Some, None, IfSome, option_map, option_and_then, if◌then◌else◌, refl, sym, ap, subst, ◌∙◌, inl, arith}
use Rattle.std.specs.Option.{option_map_or}
use Rattle.std.proofs.lemmas.Bool.Decides.{nat_tests}
use Rattle.std.proofs.lemmas.Int.{ints}
use Rattle.std.proofs.lemmas.Option.{none-some, same_Some}
use Rattle.gptp_lists.specs.Members.{In}
use Rattle.gptp_lists.proofs.SystemSpecLemmas.{In-left, In-right}
use Rattle.gptp_model.specs.World.{WorldState}
use Rattle.gptp_model.specs.declared.station.Station.{Station}
use Rattle.gptp_scaled.specs.Rate.{FitsRate}
use Rattle.gptp_scenario.specs.declared.change.Act.{Act}
use Rattle.gptp_system.specs.Reading.{read_at}
use Rattle.gptp_system.specs.State.{clock, local_time, SystemState}
use Rattle.gptp_system.specs.declared.reading.Reading.{Reading}
use Rattle.gptp_timeline.specs.Extremes.{Look}
use Rattle.gptp_timeline.specs.Jumps.{error_before}
use Rattle.gptp_timeline.specs.Looks.{error_in, errors_all, events_left, look, look_if, looked_all, looked_both, looked_by, looked_in, looked_over, LookedAt}
use Rattle.gptp_timeline.specs.Readings.{clock_among, new_in, put_reading, read_after, read_by, reading_among, reading_error, readings_after, readings_by}
use Rattle.gptp_timeline.specs.Sources.{DifferenceState}
use Rattle.gptp_timeline.specs.Stretch.{at_of}
use Rattle.gptp_timeline.specs.declared.readings.KeptReading.{KeptReading}
use Rattle.gptp_timeline.specs.declared.readings.NewReading.{NewReading}
use Rattle.gptp_timeline.specs.declared.readings.SystemReading.{SystemReading}
use Rattle.gptp_timeline_laws.specs.Looks.{ahead_by, error_by}
use Rattle.gptp_timeline_laws.specs.Moments.{last_time, next_time}
use Rattle.gptp_timeline_laws.proofs.LookLemmas.{reading_above, reading_below, source_above, source_below}
use Rattle.gptp_timeline_laws.proofs.ReadLemmas.{is_new, put_other, put_own, quiet_reads, RateFits}
use Rattle.gptp_timeline_laws.proofs.StepLemmas.{IsStep, next_late, same_sources, SameClocks, Steps}
use Rattle.gptp_world.specs.Transitions.{ActTrace}

-- ---- what is looked at lies between bounds

pub record Between (low high e : ℤ) : Type 0 where
  pub above : low ≤ℤ e
  pub below : e ≤ℤ high

-- errors lie between these, and told sources differ by no more than this
pub record GoodLooks (low high : ℤ) (most : ℕ) (l : LookedAt) : Type 0 where
  pub errors : (x : Look) → In x l.errors → Between low high x.error
  pub differences : (x : DifferenceState) → In x l.differences → x.amount ≤ most

pub good_first : (low high : ℤ) (most : ℕ) (a b : LookedAt) → GoodLooks low high most (looked_both a b)
    → GoodLooks low high most a
good_first low high most a b good = record {
  errors = λ x member. good.errors x (In-left x a.errors b.errors member);
  differences = λ x member. good.differences x (In-left x a.differences b.differences member);
}

pub good_second : (low high : ℤ) (most : ℕ) (a b : LookedAt) → GoodLooks low high most (looked_both a b)
    → GoodLooks low high most b
good_second low high most a b good = record {
  errors = λ x member. good.errors x (In-right x a.errors b.errors member);
  differences = λ x member. good.differences x (In-right x a.differences b.differences member);
}

-- those of the acts after some
pub good_after : (low high : ℤ) (most : ℕ) (rs : List SystemReading) (left : ℕ) (us vs : List ActTrace)
    → GoodLooks low high most (looked_over rs left (us ++ vs))
    → GoodLooks low high most (looked_over (readings_after us rs) (events_left us left) vs)
good_after low high most rs left [] vs good = good
good_after low high most rs left (t ∷ us) vs good =
    good_after low high most (read_after t rs) (events_left (t ∷ []) left) us vs
    (good_second low high most (looked_in rs left t)
    (looked_over (read_after t rs) (events_left (t ∷ []) left) (us ++ vs)) good)

-- ---- an error, by the clocks of systems

-- the first system with a clock
abbrev pub system_among : ℕ → List Station → Option SystemState
system_among name [] = None
system_among name (x ∷ xs) = if clock x.system == name then Some x.system else system_among name xs

pub clock_of_system : (name time : ℕ) (stations : List Station)
    → clock_among name time stations ≡ option_map (λ s. local_time s time) (system_among name stations)
clock_of_system name time [] = refl
clock_of_system name time (x ∷ xs) = by (clock x.system == name) (clock_of_system name time xs)
  where
    by : (own : Bool) → clock_among name time xs ≡ option_map (λ s. local_time s time) (system_among name xs)
        → (if own then Some (local_time x.system time) else clock_among name time xs)
        ≡ option_map (λ s. local_time s time) (if own then Some x.system else system_among name xs)
    by true rest = refl
    by false rest = rest

-- what is read by a reading, or by the own clock and the base, less the time of the source
abbrev error_with : Option Reading → SystemState → SystemState → ℤ → ℕ → ℤ
error_with received own source base time =
    option_map_or (λ r. read_at r (local_time own time)) received (local_time own time +ℤ base)
    -ℤ (local_time source time +ℤ base)

abbrev error_found : Option Reading → Option SystemState → Option SystemState → ℤ → ℕ → Option ℤ
error_found received own source base time =
    option_and_then (λ (s : SystemState). option_map (λ (x : SystemState). error_with received s x base time) source)
    own

-- the same, by systems that are found by their clocks
found_error : (time : ℕ) (w : WorldState) (name : ℕ) (kept : KeptReading)
    → reading_error time w name kept
    ≡ error_found kept.received (system_among name w.stations) (system_among kept.source.clock w.stations)
    kept.source.base time
found_error time w name kept =
    (λ i. option_and_then (λ shown. option_map (λ at. read_by kept shown -ℤ at)
    (option_map (λ told. told +ℤ kept.source.base) (clock_of_system kept.source.clock time w.stations i)))
    (clock_of_system name time w.stations i))
    ∙ by (system_among name w.stations) (system_among kept.source.clock w.stations)
  where
    by : (own source : Option SystemState)
        → option_and_then (λ shown. option_map (λ at. read_by kept shown -ℤ at)
        (option_map (λ told. told +ℤ kept.source.base) (option_map (λ s. local_time s time) source)))
        (option_map (λ s. local_time s time) own)
        ≡ error_found kept.received own source kept.source.base time
    by None source = refl
    by (Some s) None = refl
    by (Some s) (Some x) = refl

-- between two moments at which an error lies between bounds
between_of : (low high : ℤ) (received : Option Reading) (own source : SystemState) (base : ℤ) (first time last : ℕ)
    → ((r : Reading) → received ≡ Some r → FitsRate r.rate) → first ≤ time → time ≤ last
    → Between low high (error_with received own source base first)
    → Between low high (error_with received own source base last)
    → Between (low -ℤ pos 3) (high +ℤ pos 3) (error_with received own source base time)
between_of low high None own source base first time last fits early late a b =
    let above = source_above own source base base first time last early late low a.above b.above in
    let below = source_below own source base base first time last early late high a.below b.below in
    plain (ahead_by own source base base time) above below
  where
    plain : (e : ℤ) → low ≤ℤ (e +ℤ pos 1) → e ≤ℤ (high +ℤ pos 1) → Between (low -ℤ pos 3) (high +ℤ pos 3) e
    plain e above below = record { above = omega (arith, ints, above); below = omega (arith, ints, below) }
between_of low high (Some r) own source base first time last fits early late a b =
    let above = reading_above r own source base first time last (fits r refl) early late low a.above b.above in
    let below = reading_below r own source base first time last (fits r refl) early late high a.below b.below in
    plain (error_by r own source base time) above below
  where
    plain : (e : ℤ) → low ≤ℤ (e +ℤ pos 3) → e ≤ℤ (high +ℤ pos 3) → Between (low -ℤ pos 3) (high +ℤ pos 3) e
    plain e above below = record { above = omega (arith, ints, above); below = below }

-- ---- looks at one system

module _ (low high : ℤ) (most : ℕ) (w : WorldState) where
  -- the error of a reading, as the clocks of the world are
  abbrev error_then : ℕ → ℕ → KeptReading → Option ℤ
  error_then time name kept = reading_error time w name kept

  abbrev IsGood : Option ℤ → Type 0
  IsGood error = IfSome error (Between low high)

  pub record LookedBefore (name : ℕ) (kept : KeptReading) (since : ℕ) : Type 0 where
    pub time : ℕ
    pub early : time ≤ since
    pub good : IsGood (error_then time name kept)

  pub record LookedAfter (name : ℕ) (kept : KeptReading) (from : ℕ) : Type 0 where
    pub time : ℕ
    pub late : from ≤ time
    pub good : IsGood (error_then time name kept)

  -- each reading was looked at by a time
  abbrev pub Seen : List SystemReading → ℕ → Type 0
  Seen rs since = (name : ℕ) (kept : KeptReading) → reading_among rs name ≡ Some kept → LookedBefore name kept since

  -- an error is that of the world
  error_same : (v : WorldState) → SameClocks w v → (time name : ℕ) (kept : KeptReading)
      → reading_error time v name kept ≡ error_then time name kept
  error_same v same time name kept =
      λ i. option_and_then (λ shown. option_map (λ at. read_by kept shown -ℤ at)
      (same_sources w v same kept.source time i)) (same name time i)

  -- what is looked at is good
  good_look : (name : ℕ) (error : Option ℤ)
      → ((x : Look) → In x (look_if name error) → Between low high x.error) → IsGood error
  good_look name None good = tt
  good_look name (Some e) good = good (look name e) (inl refl)

  -- ---- all are looked at

  all_looked : (time : ℕ) (v : WorldState) (rs : List SystemReading) (name : ℕ) (kept : KeptReading)
      → reading_among rs name ≡ Some kept
      → ((x : Look) → In x (errors_all time v rs) → Between low high x.error)
      → IsGood (reading_error time v name kept)
  all_looked time v [] name kept is good = absurd (none-some kept is)
  all_looked time v (x ∷ xs) name kept is good = by (x.clock == name) refl (all_looked time v xs name kept) is
    where
      rest : List Look
      rest = errors_all time v xs

      by : (own : Bool) → x.clock == name ≡ own
          → (reading_among xs name ≡ Some kept → ((l : Look) → In l rest → Between low high l.error)
          → IsGood (reading_error time v name kept))
          → (if own then x.reading else reading_among xs name) ≡ Some kept
          → IsGood (reading_error time v name kept)
      by true own later is =
          let same : x.clock ≡ name = grind (arith, nat_tests) in
          let error : error_in time v x ≡ reading_error time v name kept =
          ap (option_and_then (reading_error time v x.clock)) is ∙ ap (λ n. reading_error time v n kept) same in
          subst IsGood error
          (good_look x.clock (error_in time v x) (λ l member. good l (In-left l (look_if x.clock (error_in time v x))
          rest member)))
      by false own later is =
          later is (λ l member. good l (In-right l (look_if x.clock (error_in time v x)) rest member))

  pub all_seen : (time : ℕ) (v : WorldState) (rs : List SystemReading) → SameClocks w v
      → GoodLooks low high most (looked_all time v rs) → Seen rs time
  all_seen time v rs same good name kept is = record {
    time = time;
    early = omega arith;
    good = subst IsGood (error_same v same time name kept) (all_looked time v rs name kept is good.errors);
  }

  -- ---- one more act

  step_seen : (rs : List SystemReading) (since left : ℕ) (t : ActTrace) → IsStep w since t
      → GoodLooks low high most (looked_in rs left t) → Seen rs since → Seen (read_after t rs) (at_of t)
  step_seen rs since left t step good seen = by (new_in t rs) refl good
    where
      act : Act
      act = t.told.timed.act

      earlier : (name : ℕ) (kept : KeptReading) → reading_among rs name ≡ Some kept
          → LookedBefore name kept (at_of t)
      earlier name kept is =
          let s = seen name kept is in let later = step.later in let early = s.early in
          record { time = s.time; early = omega (arith, later, early); good = s.good }

      by : (new : Option NewReading) → new_in t rs ≡ new
          → GoodLooks low high most (looked_by (at_of t) t.after act left new rs (readings_by act new rs))
          → Seen (readings_by act new rs) (at_of t)
      by None is good name kept has =
          earlier name kept (sym (ap (λ xs. reading_among xs name) (quiet_reads act rs step.quiet)) ∙ has)
      by (Some u) is good name kept has = own (name == u.clock) refl
        where
          own : (test : Bool) → name == u.clock ≡ test → LookedBefore name kept (at_of t)
          own true test =
              let same : name ≡ u.clock = grind (arith, nat_tests) in
              let kept_is : u.after ≡ kept =
              same_Some u.after kept (put_own u.clock (Some u.after) rs kept
              (subst (λ n. reading_among (put_reading u.clock (Some u.after) rs) n ≡ Some kept) same has)) in
              let looked = good_look u.clock (reading_error (at_of t) t.after u.clock u.after)
              (λ x member. good.errors x (In-right x (look_if u.clock (error_before (at_of t) t.after u))
              (look_if u.clock (reading_error (at_of t) t.after u.clock u.after)) member)) in
              record {
                time = at_of t;
                early = omega arith;
                good = subst IsGood ((λ i. reading_error (at_of t) t.after (sym same i) (kept_is i))
                    ∙ error_same t.after step.same (at_of t) name kept) looked;
              }
          own false test =
              let apart : name ≡ u.clock → ⊥ = grind (arith, nat_tests) in
              earlier name kept (sym (put_other u.clock (Some u.after) rs name apart) ∙ has)

  pub seen_on : (until since left : ℕ) (rs : List SystemReading) (us vs : List ActTrace)
      → Steps w until since (us ++ vs) → GoodLooks low high most (looked_over rs left (us ++ vs)) → Seen rs since
      → Seen (readings_after us rs) (last_time since us)
  seen_on until since left rs [] vs steps good seen = seen
  seen_on until since left rs (t ∷ us) vs steps good seen =
      let rest = looked_over (read_after t rs) (events_left (t ∷ []) left) (us ++ vs) in
      seen_on until (at_of t) (events_left (t ∷ []) left) (read_after t rs) us vs steps.1
      (good_second low high most (looked_in rs left t) rest good)
      (step_seen rs since left t steps.0 (good_first low high most (looked_in rs left t) rest good) seen)

  -- ---- the next look

  pub seen_later : (until since left : ℕ) (rs : List SystemReading) (vs : List ActTrace) (end : WorldState)
      → Steps w until since vs → SameClocks w end → GoodLooks low high most (looked_over rs left vs)
      → GoodLooks low high most (looked_all until end (readings_after vs rs)) → (name : ℕ) (kept : KeptReading)
      → reading_among rs name ≡ Some kept → LookedAfter name kept (next_time until vs)
  seen_later until since left rs [] end steps same good last name kept has =
      let s = all_seen until end rs same last name kept has in
      record {
        time = until;
        late = omega arith;
        good = subst IsGood (error_same end same until name kept) (all_looked until end rs name kept has last.errors);
      }
  seen_later until since left rs (t ∷ vs) end steps same good last name kept has =
      by (new_in t rs) refl (good_first low high most (looked_in rs left t) rest good) last
      (good_second low high most (looked_in rs left t) rest good)
      (λ us later ended there. seen_later until (at_of t) (events_left (t ∷ []) left) us vs end steps.1 same later
      ended name kept there)
    where
      act : Act
      act = t.told.timed.act

      rest : LookedAt
      rest = looked_over (read_after t rs) (events_left (t ∷ []) left) vs

      still : LookedAfter name kept (next_time until vs) → LookedAfter name kept (at_of t)
      still s =
          let next = next_late w until (at_of t) vs steps.1 in let late = s.late in
          record { time = s.time; late = omega (arith, next, late); good = s.good }

      by : (new : Option NewReading) → new_in t rs ≡ new
          → GoodLooks low high most (looked_by (at_of t) t.after act left new rs (readings_by act new rs))
          → GoodLooks low high most (looked_all until end (readings_after vs (readings_by act new rs)))
          → GoodLooks low high most (looked_over (readings_by act new rs) (events_left (t ∷ []) left) vs)
          → ((us : List SystemReading) → GoodLooks low high most (looked_over us (events_left (t ∷ []) left) vs)
          → GoodLooks low high most (looked_all until end (readings_after vs us)) → reading_among us name ≡ Some kept
          → LookedAfter name kept (next_time until vs))
          → LookedAfter name kept (at_of t)
      by None is one last good next =
          still (next (readings_by act None rs) good last (ap (λ xs. reading_among xs name) (quiet_reads act rs
          steps.0.quiet) ∙ has))
      by (Some u) is one last good next = own (name == u.clock) refl
        where
          own : (test : Bool) → name == u.clock ≡ test → LookedAfter name kept (at_of t)
          own true test =
              let mine : name ≡ u.clock = grind (arith, nat_tests) in
              let before : u.before ≡ Some kept =
              (is_new act t.told.done t.after rs u is).before ∙ ap (reading_among rs) (sym mine) ∙ has in
              let error : error_before (at_of t) t.after u ≡ reading_error (at_of t) t.after name kept =
              (λ i. option_and_then (reading_error (at_of t) t.after (sym mine i)) (before i)) in
              let looked = good_look u.clock (error_before (at_of t) t.after u)
              (λ x member. one.errors x (In-left x (look_if u.clock (error_before (at_of t) t.after u))
              (look_if u.clock (reading_error (at_of t) t.after u.clock u.after)) member)) in
              record {
                time = at_of t;
                late = omega arith;
                good = subst IsGood (error ∙ error_same t.after steps.0.same (at_of t) name kept) looked;
              }
          own false test =
              let apart : name ≡ u.clock → ⊥ = grind (arith, nat_tests) in
              still (next (readings_by act (Some u) rs) good last (put_other u.clock (Some u.after) rs name apart ∙
              has))

  -- ---- a moment between two looks

  pub error_at_moment : (name : ℕ) (kept : KeptReading) (since from time : ℕ) → RateFits kept
      → LookedBefore name kept since → LookedAfter name kept from → since ≤ time → time ≤ from → (error : ℤ)
      → error_then time name kept ≡ Some error → Between (low -ℤ pos 3) (high +ℤ pos 3) error
  error_at_moment name kept since from time fits before after early late error is =
      by (system_among name w.stations) (system_among kept.source.clock w.stations)
      (subst IsGood (found_error before.time w name kept) before.good)
      (subst IsGood (found_error after.time w name kept) after.good)
      (sym (found_error time w name kept) ∙ is)
    where
      by : (own source : Option SystemState)
          → IsGood (error_found kept.received own source kept.source.base before.time)
          → IsGood (error_found kept.received own source kept.source.base after.time)
          → error_found kept.received own source kept.source.base time ≡ Some error
          → Between (low -ℤ pos 3) (high +ℤ pos 3) error
      by None source a b is = absurd (none-some error is)
      by (Some own) None a b is = absurd (none-some error is)
      by (Some own) (Some source) a b is =
          let first = before.early in let last = after.late in
          subst (Between (low -ℤ pos 3) (high +ℤ pos 3))
          (same_Some (error_with kept.received own source kept.source.base time) error is)
          (between_of low high kept.received own source kept.source.base before.time time after.time fits
          (omega (arith, first, early)) (omega (arith, last, late)) a b)
