-- What is measured of a stretch bounds what systems read at each of its moments after its events.
use Rattle.std.proofs.Common.{◌≡◌, ◌≢◌, ◌≤◌, ◌+◌, ◌⊎◌, ℕ, ℤ, pos, neg_ℤ, ◌+ℤ◌, ◌-ℤ◌, Bool, true, false, nat_le, List, [], ◌∷◌, ◌++◌, length, map, Option, Some, None, option_map, option_and_then, unsigned_abs, refl, sym, ap, subst, ◌∙◌, inl, inr, arith}
use Rattle.std.proofs.lemmas.Bool.Decides.{nat_tests}
use Rattle.std.proofs.lemmas.Int.{ints}
use Rattle.std.proofs.lemmas.Option.{none-some, same_Some}
use Rattle.gptp_links.specs.declared.bounds.Bounds.{Bounds}
use Rattle.gptp_model.specs.Views.{rising_clocks}
use Rattle.gptp_model.specs.World.{WorldState}
use Rattle.gptp_network.specs.Document.{DocumentState}
use Rattle.gptp_network.specs.Snapshot.{events_by}
use Rattle.gptp_report.specs.Transitions.{Courses}
use Rattle.gptp_scenario.specs.declared.change.Timed.{Timed}
use Rattle.gptp_theorem.specs.PlayedLaws.{IsPlayable}
use Rattle.gptp_timeline.specs.Looks.{apart_sources, events_left, looked_all, looked_both, looked_over, LookedAt, measured_times, measured_with, nothing_read}
use Rattle.gptp_timeline.specs.Readings.{clock_time, no_reading, read_by, reading_among, reading_error, readings_after}
use Rattle.gptp_timeline.specs.Timeline.{AllPass, Carried, carry, end_before, IsPassage, later_than, none_carried, now_of, stretch_of, StretchTrace, TimelineOf, tracks}
use Rattle.gptp_timeline.specs.declared.looks.TimeMeasures.{TimeMeasures}
use Rattle.gptp_timeline.specs.declared.readings.SystemReading.{SystemReading}
use Rattle.gptp_timeline.specs.declared.timeline.TimelineOptions.{TimelineOptions}
use Rattle.gptp_timeline.proofs.EventLemmas.{Each, filter_each}
use Rattle.gptp_timeline.proofs.SettlingLemmas.{IsFitEvent, IsLeft, Keeps, keeps_first, keeps_one, left_first, left_next}
use Rattle.gptp_timeline_laws.specs.Moments.{AreBounds, BeginsWith, greatest_error, last_time, Moment, next_time, ReadsAt, TimesBoundMoments, world_after}
use Rattle.gptp_timeline_laws.proofs.BoundLemmas.{apart_is, error_then_is, good_by_extremes, good_by_greatest, least_of, most_of, readings_both, sources_then_are}
use Rattle.gptp_timeline_laws.proofs.CourseLemmas.{last_on, parted, parts, world_on}
use Rattle.gptp_timeline_laws.proofs.ReadLemmas.{acts_fit, fit_at_first, none_at_first, RatesFit}
use Rattle.gptp_timeline_laws.proofs.SeenLemmas.{all_seen, Between, good_after, good_first, good_second, GoodLooks, Seen}
use Rattle.gptp_timeline_laws.proofs.StepLemmas.{passes_step, same_sources, SameClocks, Steps, world_same}
use Rattle.gptp_timeline_laws.proofs.ToldLemmas.{all_together, SeenTogether}
use Rattle.gptp_world.specs.Transitions.{ActTrace}

-- ---- numbers

size_by : (most : ℕ) (e : ℤ) → Between (neg_ℤ (pos most) -ℤ pos 3) (pos most +ℤ pos 3) e → unsigned_abs e ≤ most + 3
size_by most e between = let a = between.above in let b = between.below in omega (arith, ints, a, b)

apart_by : (low high a b x y : ℤ) (most : ℕ) → Between (low -ℤ pos 3) (high +ℤ pos 3) (a -ℤ x)
    → Between (low -ℤ pos 3) (high +ℤ pos 3) (b -ℤ y) → unsigned_abs (x -ℤ y) ≤ most + 1
    → unsigned_abs (a -ℤ b) ≤ most + unsigned_abs (high -ℤ low) + 7
apart_by low high a b x y most first second near =
    let p = first.above in let q = first.below in let r = second.above in let s = second.below in
    omega (arith, ints, p, q, r, s, near)

-- ---- what is read at a moment

-- its error, by the clocks of another world that are the same
pub error_read : (w v : WorldState) → SameClocks w v → (time : ℕ) (rs : List SystemReading) (name : ℕ)
    (read source : ℤ) (r : ReadsAt time v rs name read source)
    → reading_error time w name r.kept ≡ Some (read -ℤ source)
error_read w v same time rs name read source r =
    (λ i. option_and_then (λ shown. option_map (λ t. read_by r.kept shown -ℤ t)
    ((sym (same_sources w v same r.kept.source time) ∙ r.source_shows) i)) ((sym (same name time) ∙ r.shows) i))
    ∙ ap (λ z. Some (z -ℤ source)) (sym r.read_is)

-- ---- moments, by looks

-- what looks that lie between bounds say of the last event of a stretch and of the acts after it
record LooksFrom (low high : ℤ) (most : ℕ) (w : WorldState) (until since left : ℕ) (rs : List SystemReading)
    (ts : List ActTrace) (end : WorldState) : Type 0 where
  over : GoodLooks low high most (looked_over rs left ts)
  last : GoodLooks low high most (looked_all until end (readings_after ts rs))
  seen : Seen low high most w rs since
  together : SeenTogether low high most w rs since

module _ (l : LookedAt) (w v : WorldState) (until since left : ℕ) (rs : List SystemReading) (us vs : List ActTrace)
    (end : WorldState) (steps : Steps w until since (us ++ vs)) (same_end : SameClocks w end) (same : SameClocks w v)
    (fit : RatesFit rs) (time : ℕ) (late : last_time since us ≤ time) (early : time ≤ next_time until vs)
    (looks : (low high : ℤ) (most : ℕ) → GoodLooks low high most l
    → LooksFrom low high most w until since left rs (us ++ vs) end) where
  abbrev m : TimeMeasures
  m = measured_with l nothing_read

  abbrev held : List SystemReading
  held = readings_after us rs

  between_of : (low high : ℤ) (most : ℕ) → GoodLooks low high most l → (name : ℕ) (read source : ℤ)
      → ReadsAt time v held name read source → Between (low -ℤ pos 3) (high +ℤ pos 3) (read -ℤ source)
  between_of low high most good name read source r =
      let k = looks low high most good in
      error_then_is low high most w until since left rs us vs end steps same_end k.over k.last fit time late early
      k.seen
      name r.kept (read -ℤ source) r.has (error_read w v same time held name read source r)

  bounds : AreBounds m time v held
  bounds = record {
    error = λ name read source r.
        size_by (greatest_error m) (read -ℤ source)
        (between_of (neg_ℤ (pos (greatest_error m))) (pos (greatest_error m)) (apart_sources m.sources)
        (good_by_greatest l) name read source r);
    apart_by = λ name other read source read' source' r r'.
        (let low = least_of m.errors in let high = most_of m.errors in let most = apart_sources m.sources in
        let good = good_by_extremes l in
        let k = looks low high most good in
        let near = sources_then_are low high most w until since left rs us vs end steps same_end k.over k.last fit time
        late early k.together name other r.kept.source r'.kept.source
        (record { kept = r.kept; has = r.has; is = refl }) (record { kept = r'.kept; has = r'.has; is = refl })
        source source' (sym (same_sources w v same r.kept.source time) ∙ r.source_shows)
        (sym (same_sources w v same r'.kept.source time) ∙ r'.source_shows) in
        let sum = apart_by low high read read' source source' most
        (between_of low high most good name read source r) (between_of low high most good other read' source' r')
        near in
        let errors = apart_is m.errors in
        (omega (arith, sum, errors)));
  }

-- ---- a stretch

-- no system has time
abbrev HaveNoTime : List SystemReading → Type 0
HaveNoTime rs = (name : ℕ) → reading_among rs name ≡ None

pub last_less : (from : ℕ) (us : List ActTrace) → last_time 0 us ≤ last_time from us
last_less from [] = omega arith
last_less from (t ∷ us) = omega arith

same_itself : (w : WorldState) → SameClocks w w
same_itself w name time = refl

module _ {F : Type 0} (answers : Bounds → ℕ → F → Option ℕ → F → Type 0) (d : DocumentState)
    (playable : IsPlayable d) (names : List ℕ) where
  abbrev Fits : List Timed → Type 0
  Fits es = Each (IsFitEvent answers d playable names) es

  bounds_one : (before es : List Timed) (from to time : ℕ) (rs : List SystemReading) (acts done ahead : List ActTrace)
      (fate fate_after : F) (w after : WorldState) → Fits es → Keeps answers d playable names before w
      → Courses answers to es acts fate fate_after w after → HaveNoTime rs ⊎ (es ≢ []) → RatesFit rs
      → acts ≡ done ++ ahead → events_left done (length es) ≡ 0 → last_time from done ≤ time
      → time ≤ next_time to ahead
      → AreBounds (measured_times rs (length es) acts to after) time (world_after done w) (readings_after done rs)
  bounds_one before [] from to time rs acts done ahead fate fate_after w after fits keeps k (inr some) fit are none late
      early = absurd (some refl)
  bounds_one before [] from to time rs acts done ahead fate fate_after w after fits keeps k (inl idle) fit are none late
      early =
      let (steps, same) = passes_step answers d playable names before to 0 acts fate fate_after w w k.between
      (same_itself w) (omega arith) k.ahead k.passes keeps in
      let steps' = subst (Steps w to 0) are steps in
      let end : SameClocks w after = λ name t. ap (clock_time name t) k.is ∙ same name t in
      let sooner = last_less from done in
      bounds l w (world_after done w) to 0 0 rs done ahead after steps' end
      (world_same w w to 0 done ahead (same_itself w) steps') fit time (omega (arith, late, sooner)) early
      (λ low high most good. record {
        over = subst (λ us. GoodLooks low high most (looked_over rs 0 us)) are
            (good_first low high most (looked_over rs 0 acts) (looked_all to after (readings_after acts rs)) good);
        last = subst (λ us. GoodLooks low high most (looked_all to after (readings_after us rs))) are
            (good_second low high most (looked_over rs 0 acts) (looked_all to after (readings_after acts rs)) good);
        seen = λ name kept has. absurd (none-some kept (sym (idle name) ∙ has));
        together = λ name other source source' first second.
            absurd (none-some first.kept (sym (idle name) ∙ first.has));
      })
    where
      l : LookedAt
      l = looked_both (looked_over rs 0 acts) (looked_all to after (readings_after acts rs))
  bounds_one before (e ∷ es) from to time rs acts done ahead fate fate_after w after fits keeps k idle fit are none late
      early =
      let p = parts answers d playable names before e es rs to acts fate fate_after w after fits keeps k in
      let n = length (e ∷ es) in
      let b = parted n p.head p.tail done ahead p.ends (sym p.are ∙ are) none in
      let (steps, same) = passes_step answers d playable names (before ++ e ∷ es) to p.middle.time p.tail p.drawn
      fate_after p.middle p.middle p.passes.between (same_itself p.middle) (omega arith) p.passes.ahead p.passes.passes
      p.keeps in
      let steps' = subst (Steps p.middle to p.middle.time) b.tail_is steps in
      let end : SameClocks p.middle after = λ name t. ap (clock_time name t) p.passes.is ∙ same name t in
      let acts_are : acts ≡ p.head ++ (b.more ++ ahead) = p.are ∙ ap (λ us. p.head ++ us) b.tail_is in
      let reads : readings_after done rs ≡ readings_after b.more (readings_after p.head rs) =
      ap (λ us. readings_after us rs) b.done_is ∙ readings_both p.head b.more rs in
      let reads_end : readings_after acts rs ≡ readings_after (b.more ++ ahead) (readings_after p.head rs) =
      ap (λ us. readings_after us rs) acts_are ∙ readings_both p.head (b.more ++ ahead) rs in
      let world : world_after done w ≡ world_after b.more p.middle =
      ap (λ us. world_after us w) b.done_is ∙ world_on p.head b.more w ∙ ap (world_after b.more) (p.leads w) in
      let since : last_time from done ≡ last_time p.middle.time b.more =
      ap (last_time from) b.done_is ∙ last_on from p.head b.more ∙ ap (λ t. last_time t b.more) (p.last from) in
      subst (λ v. AreBounds (measured_times rs n acts to after) time v (readings_after done rs)) (sym world)
      (subst (λ xs. AreBounds (measured_times rs n acts to after) time (world_after b.more p.middle) xs) (sym reads)
      (bounds (looked_both (looked_over rs n acts) (looked_all to after (readings_after acts rs))) p.middle
      (world_after b.more p.middle) to p.middle.time (events_left p.head n) (readings_after p.head rs) b.more ahead
      after
      steps' end (world_same p.middle p.middle to p.middle.time b.more ahead (same_itself p.middle) steps')
      (acts_fit p.head rs fit) time (subst (λ t. t ≤ time) since late) early
      (λ low high most good.
      (let over = subst (λ us. GoodLooks low high most (looked_over rs n us)) acts_are
      (good_first low high most (looked_over rs n acts) (looked_all to after (readings_after acts rs)) good) in
      let looks = p.looks low high most (b.more ++ ahead) over in record {
        over = good_after low high most rs n p.head (b.more ++ ahead) over;
        last = subst (λ xs. GoodLooks low high most (looked_all to after xs)) reads_end
            (good_second low high most (looked_over rs n acts) (looked_all to after (readings_after acts rs)) good);
        seen = all_seen low high most p.middle p.middle.time p.middle (readings_after p.head rs)
            (same_itself p.middle) looks;
        together = all_together low high most p.middle p.middle.time p.middle (readings_after p.head rs)
            (same_itself p.middle) looks;
      }))))

  -- ---- all stretches

  -- the rates of what is carried over to a stretch fit
  abbrev pub CarriedFit : Carried → Type 0
  CarriedFit c = (rs : List SystemReading) → c.readings ≡ Some rs → RatesFit rs

  abbrev CarriedNoTime : Carried → Type 0
  CarriedNoTime c = (rs : List SystemReading) → c.readings ≡ Some rs → HaveNoTime rs

  carry_fit : (ts : List ActTrace) (c : Carried) → CarriedFit c → CarriedFit (carry ts c)
  carry_fit ts c fit rs is = by c.readings fit is
    where
      by : (readings : Option (List SystemReading))
          → ((us : List SystemReading) → readings ≡ Some us → RatesFit us)
          → option_map (readings_after ts) readings ≡ Some rs → RatesFit rs
      by None fits is = absurd (none-some rs is)
      by (Some us) fits is =
          subst RatesFit (same_Some (readings_after ts us) rs is) (acts_fit ts us (fits us refl))

  first_fit : (asked : Bool) (all : List ℕ)
      → CarriedFit (none_carried asked all) × CarriedNoTime (none_carried asked all)
  first_fit true all = (
    λ rs is. subst RatesFit (same_Some (map no_reading all) rs is) (fit_at_first all),
    λ rs is. subst HaveNoTime (same_Some (map no_reading all) rs is) (none_at_first all),
  )
  first_fit false all = (λ rs is. absurd (none-some rs is), λ rs is. absurd (none-some rs is))

  -- a stretch after others begins with an event
  some_now : (until : ℕ) (xs : List Timed) → xs ≢ [] → now_of (end_before until xs) xs ≢ []
  some_now until [] some none = some refl
  some_now until (x ∷ xs) some none =
      let due : nat_le x.at x.at ≡ true = grind (arith, nat_tests) in
      let no : x ∷ now_of x.at xs ≡ [] = rw due at none in absurd cc

  -- how a stretch of several begins
  pub record Found (until : ℕ) (p : StretchTrace) (w : WorldState) (c : Carried) : Type 0 where
    pub from : ℕ
    pub before : List Timed
    pub left : List Timed
    pub fate : F
    pub fate_after : F
    pub is_left : IsLeft answers d playable names until from before left
    pub keeps : Keeps answers d playable names before w
    pub passage : IsPassage answers true d until from left fate fate_after w p
    pub fit : CarriedFit c
    pub idle : CarriedNoTime c ⊎ (now_of from left ≢ [])

  pub found : (until : ℕ) (passages : List StretchTrace) (from : ℕ) (before left : List Timed) (fate fate_after : F)
      (w w' : WorldState) (c : Carried) (p : StretchTrace) (v : WorldState) (e : Carried)
      → IsLeft answers d playable names until from before left → Keeps answers d playable names before w
      → AllPass answers true d until from left fate fate_after w w' passages → CarriedFit c
      → CarriedNoTime c ⊎ (now_of from left ≢ []) → BeginsWith passages w c p v e → Found until p v e
  found until [] from before left fate fate_after w w' c p v e is keeps pass fit idle begins = absurd begins
  found until (q ∷ []) from before left fate fate_after w w' c p v e is keeps (passage, none, ends) fit idle
      (inl first) =
      subst (λ x. Found until p v x) (sym first.carried) (subst (λ x. Found until p x c) (sym first.world)
      (subst (λ x. Found until x w c) (sym first.stretch) (record {
        from = from;
        before = before;
        left = left;
        fate = fate;
        fate_after = fate_after;
        is_left = is;
        keeps = keeps;
        passage = passage;
        fit = fit;
        idle = idle;
      })))
  found until (q ∷ []) from before left fate fate_after w w' c p v e is keeps pass fit idle (inr later) = absurd later
  found until (q ∷ (r ∷ rs)) from before left fate fate_after w w' c p v e is keeps (drawn, passage, some, rest) fit
      idle (inl first) =
      subst (λ x. Found until p v x) (sym first.carried) (subst (λ x. Found until p x c) (sym first.world)
      (subst (λ x. Found until x w c) (sym first.stretch) (record {
        from = from;
        before = before;
        left = left;
        fate = fate;
        fate_after = drawn;
        is_left = is;
        keeps = keeps;
        passage = passage;
        fit = fit;
        idle = idle;
      })))
  found until (q ∷ (r ∷ rs)) from before left fate fate_after w w' c p v e is keeps (drawn, passage, some, rest) fit
      idle (inr later) =
      found until (r ∷ rs) q.to (before ++ now_of from left) (later_than from left) drawn fate_after q.after w'
      (carry q.acts c) p v e (left_next answers d playable names until from q.to before left is some passage.to_is)
      (keeps_one answers d playable names true until from before left fate drawn w q is keeps passage) rest
      (carry_fit q.acts c fit)
      (inr (subst (λ t. now_of t (later_than from left) ≢ []) (sym passage.to_is)
      (some_now until (later_than from left) some))) later

  bounds_found : (until : ℕ) (p : StretchTrace) (w : WorldState) (c : Carried) (all : List ℕ)
      (rs : List SystemReading) (m : TimeMeasures) (time : ℕ) (moment : Moment p time) → Found until p w c
      → c.readings ≡ Some rs → (stretch_of all c p).times ≡ Some m
      → AreBounds m time (world_after moment.done w) (readings_after moment.done rs)
  bounds_found until p w c all rs m time moment b has is =
      let measured : measured_times rs (length p.events) p.acts p.to p.after ≡ m =
      same_Some (measured_times rs (length p.events) p.acts p.to p.after) m
      (sym (ap (option_map (λ us. measured_times us (length p.events) p.acts p.to p.after)) has) ∙ is) in
      let events = sym b.passage.events_are in
      subst (λ x. AreBounds x time (world_after moment.done w) (readings_after moment.done rs)) measured
      (bounds_one b.before p.events p.from p.to time rs p.acts moment.done moment.ahead b.fate b.fate_after w p.after
      (subst Fits events
      (filter_each (IsFitEvent answers d playable names) (λ (x : Timed). nat_le x.at b.from) b.left b.is_left.fits))
      b.keeps b.passage.courses (idle b.idle events) (b.fit rs has) moment.are moment.no_event_left moment.late
      moment.early)
    where
      idle : CarriedNoTime c ⊎ (now_of b.from b.left ≢ []) → now_of b.from b.left ≡ p.events
          → HaveNoTime rs ⊎ (p.events ≢ [])
      idle (inl none) are = inl (none rs has)
      idle (inr some) are = inr (subst (λ es. es ≢ []) are some)

-- how a stretch of a timeline begins
pub timeline_found : {F : Type 0} (answers : Bounds → ℕ → F → Option ℕ → F → Type 0) (d : DocumentState) (until : ℕ)
    (options : TimelineOptions) (fate : F) (lines : List (List ℕ)) (exceeded : Bool)
    (t : TimelineOf answers d until options fate lines exceeded) (playable : IsPlayable d) (p : StretchTrace)
    (w : WorldState) (c : Carried)
    → BeginsWith t.passages t.start (none_carried (tracks options) (rising_clocks t.start)) p w c
    → Found answers d playable (rising_clocks t.start) until p w c
timeline_found answers d until options fate lines exceeded t playable p w c begins =
    let names = rising_clocks t.start in
    let first = first_fit answers d playable names (tracks options) names in
    found answers d playable names until t.passages 0 [] (events_by until d.events) t.started t.fate_after t.start
    t.after (none_carried (tracks options) names) p w c (left_first answers d playable names until)
    (keeps_first answers d playable names fate t.started t.start refl t.begun) t.pass first.0 (inl first.1) begins

pub times_bound_moments : {F : Type 0} (answers : Bounds → ℕ → F → Option ℕ → F → Type 0) → TimesBoundMoments answers
times_bound_moments answers d until options fate lines exceeded t playable p w c all rs m time moment begins has is =
    bounds_found answers d playable (rising_clocks t.start) until p w c all rs m time moment
    (timeline_found answers d until options fate lines exceeded t playable p w c begins) has is
