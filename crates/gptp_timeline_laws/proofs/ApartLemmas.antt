-- Where told sources differ most in a stretch two systems read from them.
use Rattle.std.proofs.Common.{◌≡◌, ◌==◌, ◌⊎◌, ◌≤◌, ◌+◌, ◌*◌, ◌^◌, ℕ, zero, suc, ℤ, ◌+ℤ◌, ◌-ℤ◌, unsigned_abs, Bool, true, false, nat_le, List, [], ◌∷◌, ◌++◌, length, map, Option, Some, None, option_map, slice_get, if◌then◌else◌, refl, sym, ap, subst, ◌∙◌, inl, inr, append_assoc, append-nil, arith}
use Rattle.std.proofs.lemmas.Bool.Decides.{nat_tests}
use Rattle.std.proofs.lemmas.Int.{ints}
use Rattle.std.proofs.lemmas.Option.{none-some, same_Some, slice_get_within}
use Rattle.gptp_graph.specs.Order.{IsRising}
use Rattle.gptp_invariants.proofs.DelayStartFirstLemmas.{start_time}
use Rattle.gptp_invariants.proofs.WorldNameLemmas.{clock_of_station, from_rising}
use Rattle.gptp_invariants.proofs.WorldOutlineLemmas.{acts_count}
use Rattle.gptp_links.specs.Fate.{Draw}
use Rattle.gptp_links.specs.declared.bounds.Bounds.{Bounds}
use Rattle.gptp_lists.specs.Members.{In}
use Rattle.gptp_lists.proofs.PlaceLemmas.{member_there}
use Rattle.gptp_lists.proofs.SystemSpecLemmas.{from_map, In-map, In-parts, slice_get-In}
use Rattle.gptp_model.specs.Acts.{Acts, at}
use Rattle.gptp_model.specs.Views.{rising_clocks}
use Rattle.gptp_model.specs.World.{WorldState}
use Rattle.gptp_model.specs.declared.done.Done.{Done}
use Rattle.gptp_model.specs.declared.station.Station.{Station}
use Rattle.gptp_model.proofs.StayLemmas.{acts_stay}
use Rattle.gptp_network.specs.Document.{DocumentState}
use Rattle.gptp_network.specs.Snapshot.{events_by}
use Rattle.gptp_report.specs.Transitions.{Courses}
use Rattle.gptp_scenario.specs.declared.change.Act.{Act}
use Rattle.gptp_scenario.specs.declared.change.Timed.{Timed}
use Rattle.gptp_system.specs.State.{clock, local_time}
use Rattle.gptp_theorem.specs.PlayedLaws.{IsPlayable}
use Rattle.gptp_timeline.specs.Looks.{looked_all, looked_over, measured_times}
use Rattle.gptp_timeline.specs.Readings.{clock_among, clock_time, no_reading, read_by, readings_after, source_time}
use Rattle.gptp_timeline.specs.Sources.{DifferenceState, time_of, told_difference}
use Rattle.gptp_timeline.specs.Stretch.{at_of, is_change}
use Rattle.gptp_timeline.specs.Timeline.{Carried, none_carried, now_of, StretchTrace, TimelineOf, tracks}
use Rattle.gptp_timeline.specs.ToldSources.{ReadingsRise}
use Rattle.gptp_timeline.specs.declared.looks.TimeMeasures.{TimeMeasures}
use Rattle.gptp_timeline.specs.declared.readings.SystemReading.{SystemReading}
use Rattle.gptp_timeline.specs.declared.readings.TimeSource.{TimeSource}
use Rattle.gptp_timeline.specs.declared.sources.SourceTime.{SourceTime}
use Rattle.gptp_timeline.specs.declared.timeline.TimelineOptions.{TimelineOptions}
use Rattle.gptp_timeline.proofs.EventLemmas.{Each, filter_each}
use Rattle.gptp_timeline.proofs.NameLemmas.{acts_named, AreNamed, same_named}
use Rattle.gptp_timeline.proofs.SettlingLemmas.{IsFitEvent, Keeps, keeps_first, keeps_made}
use Rattle.gptp_timeline_laws.specs.Apart.{ReadFromBoth, TimelinesReadApart}
use Rattle.gptp_timeline_laws.specs.Moments.{BeginsWith, greatest_error, last_time, next_time, ReadsAt, world_after}
use Rattle.gptp_timeline_laws.proofs.CourseLemmas.{last_on, world_on}
use Rattle.gptp_timeline_laws.proofs.DifferenceLemmas.{among_own, in_listed, IsToldAt, over_told, ReadsFromTold, two_told, widest_in}
use Rattle.gptp_timeline_laws.proofs.GapStretchLemmas.{last_from}
use Rattle.gptp_timeline_laws.proofs.MomentLemmas.{Found, timeline_found, times_bound_moments}
use Rattle.gptp_timeline_laws.proofs.PartLemmas.{begins_on_time, courses_world, MomentSo, point_so}
use Rattle.gptp_timeline_laws.proofs.RootLemmas.{names_first, names_of, names_over, readings_are}
use Rattle.gptp_timeline_laws.proofs.StepLemmas.{passes_step, same_sources, SameClocks, Steps, steps_after, world_same}
use Rattle.gptp_timeline_laws.proofs.TurnLemmas.{AreInTurn, courses_turn, next_of, turn_on, turn_parts}
use Rattle.gptp_world.proofs.InitialLemmas.{initial_sound}
use Rattle.gptp_world.specs.Transitions.{ActTrace, PassesTo, transition}

-- ---- each name is that of a system

record StandsThere (name : ℕ) (w : WorldState) : Type 0 where
  place : ℕ
  station : Station
  here : slice_get w.stations place ≡ Some station
  named : clock station.system ≡ name

record AllStand (names : List ℕ) (w : WorldState) : Type 0 where
  named : AreNamed names w
  each : (name : ℕ) → In name names → StandsThere name w

first_stands : (w : WorldState) (name : ℕ) → In name (rising_clocks w) → StandsThere name w
first_stands w name member =
    let (station, among, named) = from_map clock_of_station name w.stations
    (from_rising name (map clock_of_station w.stations) member) in
    let (place, here) = slice_get-In station w.stations among in
    record { place = place; station = station; here = here; named = named }

later_stands : (names : List ℕ) (time : ℕ) (w : WorldState) → AllStand names w → AllStand names (at time w)
later_stands names time w all = record {
  named = same_named names w (at time w) refl all.named;
  each = λ name member.
      (let s = all.each name member in
      record { place = s.place; station = s.station; here = s.here; named = s.named });
}

next_stands : (names : List ℕ) (act : Act) (w : WorldState) (draws : List Draw) (done : Done) (w' : WorldState)
    → Acts act w draws done w' → AllStand names w → AllStand names w'
next_stands names act w draws done w' acts all = record {
  named = acts_named names act w draws done w' acts all.named;
  each = λ name member.
      (let s = all.each name member in
      let within = slice_get_within w.stations s.place s.station s.here in
      let count : length w'.stations ≡ length w.stations = acts_count act w draws done w' acts in
      let (new, there) = member_there w'.stations s.place (omega (arith, within, count)) in
      let was = (acts_stay act w draws done w' all.named.setups acts).stations s.place new there in
      let one : was.old ≡ s.station = same_Some was.old s.station (sym was.here ∙ s.here) in
      record {
        place = s.place;
        station = new;
        here = there;
        named = was.same.named ∙ ap (λ (x : Station). clock x.system) one ∙ s.named;
      });
}

-- so its clock shows a time
clock_shows : (name time : ℕ) (stations : List Station) (place : ℕ) (station : Station)
    → slice_get stations place ≡ Some station → clock station.system ≡ name
    → (shown : ℤ) × (clock_among name time stations ≡ Some shown)
clock_shows name time [] place station here named = absurd cc
clock_shows name time (x ∷ xs) zero station here named =
    let is : x ≡ station = same_Some x station here in
    let test : clock x.system == name ≡ true = own (clock x.system) (ap (λ (y : Station). clock y.system) is ∙ named) in
    (local_time x.system time, rw test refl)
  where
    own : (n : ℕ) → n ≡ name → n == name ≡ true
    own n is = grind (arith, nat_tests)
clock_shows name time (x ∷ xs) (suc place) station here named =
    by (clock x.system == name) (clock_shows name time xs place station here named)
  where
    by : (own : Bool) → (shown : ℤ) × (clock_among name time xs ≡ Some shown)
        → (shown : ℤ) × ((if own then Some (local_time x.system time) else clock_among name time xs) ≡ Some shown)
    by true rest = (local_time x.system time, refl)
    by false rest = rest

-- ---- clocks stay by an act that is no event

-- An act of several after some stands among the first of them, or behind these.
record IsBehind (ys us vs xs : List ActTrace) (t : ActTrace) : Type 0 where
  more : List ActTrace
  first : us ≡ xs ++ more
  rest : ys ≡ more ++ t ∷ vs

where_in : (xs ys us vs : List ActTrace) (t : ActTrace) → xs ++ ys ≡ us ++ t ∷ vs
    → ((more : List ActTrace) × (xs ≡ us ++ t ∷ more)) ⊎ IsBehind ys us vs xs t
where_in [] ys us vs t are = inr (record { more = us; first = refl; rest = are })
where_in (x ∷ xs) ys [] vs t are =
    let same : x ≡ t = cc in inl (xs, (λ i. same i ∷ xs))
where_in (x ∷ xs) ys (u ∷ us) vs t are =
    let same : x ≡ u = cc in
    let rest : xs ++ ys ≡ us ++ t ∷ vs = cc in
    elim (where_in xs ys us vs t rest) [
      | inl (more, is) ↦ inl (more, (λ i. same i ∷ is i))
      | inr b ↦ inr (record { more = b.more; first = (λ i. sym same i ∷ b.first i); rest = b.rest })
    ]

steps_same : (w : WorldState) (until : ℕ) (us vs : List ActTrace) (t : ActTrace) → Steps w until 0 (us ++ t ∷ vs)
    → SameClocks (world_after us w) t.after
steps_same w until us vs t steps name time =
    let before = world_same w w until 0 us (t ∷ vs) (λ n at. refl) steps name time in
    let after = (steps_after w until 0 us (t ∷ vs) steps).0.same name time in
    after ∙ sym before

module _ {F : Type 0} (answers : Bounds → ℕ → F → Option ℕ → F → Type 0) (d : DocumentState)
    (playable : IsPlayable d) (names : List ℕ) where
  passes_same : (before : List Timed) (until : ℕ) (ts us vs : List ActTrace) (t : ActTrace) (fate fate_after : F)
      (w w' : WorldState) → PassesTo answers until ts fate fate_after w w' → Keeps answers d playable names before w
      → ts ≡ us ++ t ∷ vs → SameClocks (world_after us w) t.after
  passes_same before until ts us vs t fate fate_after w w' k keeps are =
      let (steps, same) = passes_step answers d playable names before until 0 ts fate fate_after w w k.between
      (λ n at. refl) (omega arith) k.ahead k.passes keeps in
      steps_same w until us vs t (subst (Steps w until 0) are steps)

  courses_same : (before es : List Timed) (until : ℕ) (ts us vs : List ActTrace) (t : ActTrace) (fate fate_after : F)
      (w w' : WorldState) → Each (IsFitEvent answers d playable names) es → Keeps answers d playable names before w
      → Courses answers until es ts fate fate_after w w' → ts ≡ us ++ t ∷ vs → is_change t.told.timed.act ≡ false
      → SameClocks (world_after us w) t.after
  courses_same before [] until ts us vs t fate fate_after w w' fits keeps k are quiet =
      passes_same before until ts us vs t fate fate_after w w' k keeps are
  courses_same before (e ∷ es) until ts us vs t fate fate_after w w' fits keeps
      (first, rest, drawn, between, makes, k, is) are quiet =
      elim (where_in makes.first (one ∷ rest) us vs t (sym along ∙ are)) [
        | inl (more, there) ↦
            passes_same before e.at makes.first us more t fate makes.drawn w makes.between makes.passes keeps there
        | inr b ↦
            behind b.more b.first b.rest
            (λ more rest_is. courses_same (before ++ e ∷ []) es until rest more vs t drawn fate_after between w'
            (λ place. fits (suc place))
            (keeps_made answers d playable names before e first fate drawn w between fit makes keeps) k rest_is quiet)
      ]
    where
      one : ActTrace
      one = transition e makes.done makes.between between

      fit : IsFitEvent answers d playable names e
      fit = fits 0 e refl

      along : ts ≡ makes.first ++ one ∷ rest
      along = is ∙ ap (λ vs. vs ++ rest) makes.are ∙ append_assoc makes.first (one ∷ []) rest

      behind : (more : List ActTrace) → us ≡ makes.first ++ more → one ∷ rest ≡ more ++ t ∷ vs
          → ((left : List ActTrace) → rest ≡ left ++ t ∷ vs → SameClocks (world_after left between) t.after)
          → SameClocks (world_after us w) t.after
      behind [] us_is rest_is later =
          absurd (let same : one ≡ t = cc in
          let change : is_change t.told.timed.act ≡ true =
          ap (λ (x : ActTrace). is_change x.told.timed.act) (sym same) ∙ ap is_change fit.act in
          let no : true ≡ false = sym change ∙ quiet in cc)
      behind (x ∷ more) us_is rest_is later =
          let same : one ≡ x = cc in
          let rest_so : rest ≡ more ++ t ∷ vs = cc in
          let world : world_after us w ≡ world_after more between =
          ap (λ xs. world_after xs w) us_is ∙ world_on makes.first (x ∷ more) w
          ∙ ap (λ (y : ActTrace). world_after more y.after) (sym same) in
          subst (λ v. SameClocks v t.after) (sym world) (later more rest_so)

-- ---- numbers

far_apart : (read source other_read other_source : ℤ) (amount most : ℕ)
    → unsigned_abs (source -ℤ other_source) ≡ amount → unsigned_abs (read -ℤ source) ≤ most + 3
    → unsigned_abs (other_read -ℤ other_source) ≤ most + 3
    → amount ≤ unsigned_abs (read -ℤ other_read) + 2 * most + 7
far_apart read source other_read other_source amount most is first second = omega (arith, ints, is, first, second)

-- ---- a stretch

module _ {F : Type 0} (answers : Bounds → ℕ → F → Option ℕ → F → Type 0) (d : DocumentState) (until : ℕ)
    (options : TimelineOptions) (fate : F) (lines : List (List ℕ)) (exceeded : Bool)
    (t : TimelineOf answers d until options fate lines exceeded) (playable : IsPlayable d) (shown : until ≤ 10 ^ 18)
    (p : StretchTrace) (w : WorldState) (c : Carried) (rs : List SystemReading)
    (begins : BeginsWith t.passages t.start (none_carried (tracks options) (rising_clocks t.start)) p w c)
    (has : c.readings ≡ Some rs) where
  abbrev names : List ℕ
  names = rising_clocks t.start

  b : Found answers d playable names until p w c
  b = timeline_found answers d until options fate lines exceeded t playable p w c begins

  turn : AreInTurn w.time p.acts × (last_time w.time p.acts ≤ p.to)
  turn = courses_turn answers p.to p.events p.acts b.fate b.fate_after w p.after b.passage.courses

  on_time : w.time ≡ p.from
  on_time =
      begins_on_time answers d until t.passages 0 (events_by until d.events) t.started t.fate_after t.start t.after
      (none_carried (tracks options) names) p w c
      (start_time answers d.network fate t.started t.start playable.network
      (initial_sound d.network playable.network) t.begun) t.pass begins

  -- ---- a point of it

  module _ (time : ℕ) (done ahead : List ActTrace) (are : p.acts ≡ done ++ ahead) (late : last_time p.from done ≤ time)
      (early : time ≤ next_time p.to ahead) where
    stands : MomentSo (λ ts v. AllStand names v) (none_carried (tracks options) names) p w c time done
    stands =
        point_so answers d until options fate lines exceeded t playable shown (λ ts v. AllStand names v)
        (λ ts timed done v v' k all.
        next_stands names timed.act (at timed.at v) k.was.draws done v' k.was.acts (later_stands names timed.at v all))
        (λ ts v later on first all. later_stands names later v all)
        (record {
          named = (keeps_first answers d playable names fate t.started t.start refl t.begun).named;
          each = first_stands t.start;
        }) p w c time done ahead are late early begins

    abbrev held : List SystemReading
    held = readings_after done rs

    names_are : names_of held ≡ names
    names_are =
        names_over done rs
        ∙ ap names_of (readings_are (tracks options) names stands.before c.readings rs stands.readings has)
        ∙ names_over stands.before (map no_reading names) ∙ names_first names

    rise : ReadingsRise held
    rise = subst IsRising (sym names_are) stands.so.named.rising

    -- a system reads from a source that is told
    reads_told : (v : WorldState) → SameClocks (world_after done w) v → (s : SourceTime)
        → (told : ReadsFromTold time v held s)
        → (read : ℤ) × (reads : ReadsAt time (world_after done w) held told.system.clock read (time_of s))
        × (reads.kept.source ≡ s.source)
    reads_told v same s told =
        let system = told.system in
        let listed : In system.clock names =
        subst (In system.clock) names_are (In-map (λ (x : SystemReading). x.clock) system held told.member) in
        let stand = stands.so.each system.clock listed in
        let (own, own_shows) = clock_shows system.clock time (world_after done w).stations stand.place stand.station
        stand.here stand.named in (
          read_by told.kept own,
          record {
            kept = told.kept;
            has = among_own held rise system told.member ∙ told.has;
            own = own;
            shows = own_shows;
            read_is = refl;
            source_shows = ap (λ n. source_time n time (world_after done w)) told.source
                ∙ sym (same_sources (world_after done w) v same s.source time)
                ∙ ap (option_map (λ (shown : ℤ). shown +ℤ s.source.base)) told.shows;
          },
          told.source,
        )

    both_read : (v : WorldState) → SameClocks (world_after done w) v → (difference : DifferenceState)
        → told_difference time v held ≡ Some difference → ReadFromBoth p w rs difference
    both_read v same difference is =
        let two = two_told time v held difference is in
        let (read, reads, source_is) = reads_told v same two.first two.first_told in
        let (other_read, other_reads, other_is) = reads_told v same two.second two.second_told in
        record {
          time = time;
          done = done;
          ahead = ahead;
          are = are;
          late = late;
          early = early;
          name = two.first_told.system.clock;
          other = two.second_told.system.clock;
          read = read;
          source = time_of two.first;
          other_read = other_read;
          other_source = time_of two.second;
          reads = reads;
          other_reads = other_reads;
          ahead_is = ap (λ (x : TimeSource). x.clock) source_is ∙ two.ahead;
          behind_is = ap (λ (x : TimeSource). x.clock) other_is ∙ two.behind;
          differ = two.differ;
        }

  -- ---- a difference that is measured

  at_act : (difference : DifferenceState) → IsToldAt rs p.acts difference → ReadFromBoth p w rs difference
  at_act difference k = elim k.told [ inl (quiet, told) ↦ before quiet told | inr told ↦ after told ]
    where
      us : List ActTrace
      us = k.before ++ k.act ∷ []

      are : p.acts ≡ us ++ k.behind
      are = k.are ∙ sym (append_assoc k.before (k.act ∷ []) k.behind)

      parts_before : AreInTurn w.time k.before × AreInTurn (last_time w.time k.before) (k.act ∷ k.behind)
      parts_before = turn_parts w.time k.before (k.act ∷ k.behind) (subst (AreInTurn w.time) k.are turn.0)

      since : p.from ≤ at_of k.act
      since =
          let first = turn_on w.time k.before parts_before.0 in
          let next = parts_before.1.0 in
          let time = on_time in omega (arith, first, next, time)

      act_last : last_time w.time us ≡ at_of k.act
      act_last = last_on w.time k.before (k.act ∷ [])

      turn_behind : AreInTurn (at_of k.act) k.behind
      turn_behind = parts_before.1.1

      before : is_change k.act.told.timed.act ≡ false
          → told_difference (at_of k.act) k.act.after (readings_after k.before rs) ≡ Some difference
          → ReadFromBoth p w rs difference
      before quiet told =
          both_read (at_of k.act) k.before (k.act ∷ k.behind) k.are
          (last_from w.time p.from (at_of k.act) k.before since parts_before.1.0) (omega arith) k.act.after
          (courses_same answers d playable names b.before (now_of b.from b.left) p.to p.acts k.before k.behind k.act
          b.fate b.fate_after w p.after
          (filter_each (IsFitEvent answers d playable names) (λ (x : Timed). nat_le x.at b.from) b.left
          b.is_left.fits)
          b.keeps
          (subst (λ es. Courses answers p.to es p.acts b.fate b.fate_after w p.after) b.passage.events_are
          b.passage.courses) k.are quiet)
          difference told

      after : told_difference (at_of k.act) k.act.after (readings_after us rs) ≡ Some difference
          → ReadFromBoth p w rs difference
      after told =
          let end = ap (last_time w.time) are ∙ last_on w.time us k.behind in
          let ends = turn.1 in
          let itself = last_from w.time p.from (at_of k.act) us since (omega (arith, act_last)) in
          both_read (at_of k.act) us k.behind are itself
          (next_of (at_of k.act) p.to k.behind turn_behind
          (subst (λ now. last_time now k.behind ≤ p.to) act_last (subst (λ n. n ≤ p.to) end ends)))
          k.act.after
          (λ name time. ap (clock_time name time) (sym (world_on k.before (k.act ∷ []) w)))
          difference told

  at_end : (difference : DifferenceState) → told_difference p.to p.after (readings_after p.acts rs) ≡ Some difference
      → ReadFromBoth p w rs difference
  at_end difference told =
      let first = turn_on w.time p.acts turn.0 in
      let ends = turn.1 in
      let time = on_time in
      let world = courses_world answers p.to p.events p.acts b.fate b.fate_after w p.after b.passage.courses in
      both_read p.to p.acts [] (sym (append-nil p.acts))
      (last_from w.time p.from p.to p.acts (omega (arith, first, ends, time)) ends) (omega arith) p.after
      (λ name time. ap (clock_time name time) world)
      difference told

  -- it was looked at at an act, or where the stretch ends
  measured_read : (difference : DifferenceState) (m : TimeMeasures)
      → measured_times rs (length p.events) p.acts p.to p.after ≡ m → m.sources ≡ Some difference
      → ReadFromBoth p w rs difference
  measured_read difference m is sources =
      let over = (looked_over rs (length p.events) p.acts).differences in
      let last = (looked_all p.to p.after (readings_after p.acts rs)).differences in
      elim (widest_in None (over ++ last) difference (ap (λ (x : TimeMeasures). x.sources) is ∙ sources)) [
        | inl none ↦ absurd (none-some difference none)
        | inr member ↦
            elim (In-parts difference over last member) [
              | inl one ↦ at_act difference (over_told rs (length p.events) p.acts difference one)
              | inr end ↦
                  at_end difference (in_listed (told_difference p.to p.after (readings_after p.acts rs)) difference end)
            ]
      ]

pub timelines_read_apart : {F : Type 0} (answers : Bounds → ℕ → F → Option ℕ → F → Type 0)
    → TimelinesReadApart answers
timelines_read_apart answers d until options fate lines exceeded t playable shown p w c all rs m difference begins has
    is sources =
    let measured : measured_times rs (length p.events) p.acts p.to p.after ≡ m =
    same_Some (measured_times rs (length p.events) p.acts p.to p.after) m
    (sym (ap (option_map (λ us. measured_times us (length p.events) p.acts p.to p.after)) has) ∙ is) in
    let both = measured_read answers d until options fate lines exceeded t playable shown p w c rs begins has difference
    m measured sources in (
      both,
      λ none.
          (let bounds = times_bound_moments answers d until options fate lines exceeded t playable p w c all rs m
          both.time
          (record {
            done = both.done;
            ahead = both.ahead;
            are = both.are;
            no_event_left = none;
            late = both.late;
            early = both.early;
          }) begins has is in
          far_apart both.read both.source both.other_read both.other_source difference.amount (greatest_error m)
          both.differ
          (bounds.error both.name both.read both.source both.reads)
          (bounds.error both.other both.other_read both.other_source both.other_reads)),
    )
