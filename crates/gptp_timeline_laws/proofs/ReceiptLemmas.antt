-- Since its last receipt what a near system reads is within the error for so long.
use Rattle.std.proofs.Common.{◌≡◌, ◌==◌, ◌≤◌, ◌<◌, ◌-◌, ◌^◌, ◌⊎◌, ◌-ℤ◌, ℕ, ℤ, Bool, true, false, nat_le, List, [], ◌∷◌, ◌++◌, length, Option, Some, None, if◌then◌else◌, unsigned_abs, refl, sym, ap, subst, ◌∙◌, inl, inr, append-nil, arith}
use Rattle.std.specs.List.{AllByRecursion}
use Rattle.std.specs.Option.{option_map_or}
use Rattle.std.proofs.lemmas.Bool.Decides.{nat_tests}
use Rattle.std.proofs.lemmas.Option.{none-some, same_Some}
use Rattle.gptp_accuracy.specs.AccuracyText.{reading_at}
use Rattle.gptp_accuracy.specs.TimeErrors.{AreTimeErrors}
use Rattle.gptp_accuracy.specs.declared.errors.TimeErrors.{TimeErrors}
use Rattle.gptp_error_laws.specs.TimeError.{reading_error_at}
use Rattle.gptp_links.specs.declared.bounds.Bounds.{Bounds}
use Rattle.gptp_lists.specs.Members.{In}
use Rattle.gptp_lists.proofs.SystemSpecLemmas.{In-left, In-right}
use Rattle.gptp_model.specs.Advancing.{Happens}
use Rattle.gptp_model.specs.Views.{rising_clocks}
use Rattle.gptp_model.specs.World.{WorldState}
use Rattle.gptp_network.specs.Document.{DocumentState}
use Rattle.gptp_network.specs.Snapshot.{events_by}
use Rattle.gptp_report.specs.Transitions.{Courses, Passes}
use Rattle.gptp_scenario.specs.Calm.{last_change}
use Rattle.gptp_scenario.specs.declared.change.Timed.{Timed}
use Rattle.gptp_theorem.specs.PlayedLaws.{IsPlayable}
use Rattle.gptp_timeline.specs.Laws.{IsExactBySpan, SayBound}
use Rattle.gptp_timeline.specs.Looks.{events_left}
use Rattle.gptp_timeline.specs.Readings.{new_in, put_reading, read_after, reading_among, readings_after, readings_by}
use Rattle.gptp_timeline.specs.Stretch.{at_of, is_change, receives}
use Rattle.gptp_timeline.specs.Timeline.{AreErrorsBy, Carried, now_of, StretchTrace}
use Rattle.gptp_timeline.specs.declared.readings.KeptReading.{KeptReading}
use Rattle.gptp_timeline.specs.declared.readings.NewReading.{NewReading}
use Rattle.gptp_timeline.specs.declared.readings.SystemReading.{SystemReading}
use Rattle.gptp_timeline.proofs.EventLemmas.{Each, filter_each, filter_in_order}
use Rattle.gptp_timeline.proofs.PastLemmas.{all_past, PastBy}
use Rattle.gptp_timeline.proofs.SettlingLemmas.{act_time, ends_by, events_then, IsFitEvent, Keeps, keeps_act}
use Rattle.gptp_timeline.proofs.WithinLemmas.{has_bound, holds_later, past_behind}
use Rattle.gptp_timeline_laws.specs.Exact.{last_receipt, TimelinesBoundReceipts}
use Rattle.gptp_timeline_laws.specs.Moments.{last_time, Moment, ReadsAt, world_after}
use Rattle.gptp_timeline_laws.proofs.BoundLemmas.{readings_both}
use Rattle.gptp_timeline_laws.proofs.CourseLemmas.{last_on, parted, parts, world_on}
use Rattle.gptp_timeline_laws.proofs.ExactLemmas.{bound_is, less_each, same_on}
use Rattle.gptp_timeline_laws.proofs.HeldLemmas.{AreRight, calm_is_right, IsBounded, IsRight}
use Rattle.gptp_timeline_laws.proofs.MomentLemmas.{error_read, Found, last_less, timeline_found}
use Rattle.gptp_timeline_laws.proofs.OriginLemmas.{IsReceived, IsTakenOver, origin}
use Rattle.gptp_timeline_laws.proofs.ReadLemmas.{put_other, put_own, quiet_reads}
use Rattle.gptp_timeline_laws.proofs.StepLemmas.{quiet_next, SameClocks}
use Rattle.gptp_world.specs.Transitions.{ActTrace}

-- ---- the last receipt

pub last_both : (name : ℕ) (l : Option ℕ) (us vs : List ActTrace)
    → last_receipt name l (us ++ vs) ≡ last_receipt name (last_receipt name l us) vs
last_both name l [] vs = refl
last_both name l (t ∷ us) vs = last_both name (if receives name t then Some (at_of t) else l) us vs

-- by acts before a time it is before that
pub last_early : (name from : ℕ) (l : Option ℕ) (ts : List ActTrace)
    → AllByRecursion (λ (t : ActTrace). at_of t < from) ts → ((last : ℕ) → l ≡ Some last → last < from)
    → (last : ℕ) → last_receipt name l ts ≡ Some last → last < from
last_early name from l [] each old last is = old last is
last_early name from l (t ∷ ts) each old last is =
    last_early name from (if receives name t then Some (at_of t) else l) ts each.1 (by (receives name t)) last is
  where
    by : (own : Bool) → (one : ℕ) → (if own then Some (at_of t) else l) ≡ Some one → one < from
    by true one same =
        let at : at_of t ≡ one = same_Some (at_of t) one same in
        let first = each.0 in omega (arith, at, first)
    by false one same = old one same

-- an act that is no event, by which a system neither receives time nor takes over, leaves what it reads
pub reading_stays : (name : ℕ) (B : ℕ → ℕ) (t : ActTrace) (w : WorldState) (rs : List SystemReading)
    → IsRight name B t w → is_change t.told.timed.act ≡ false → receives name t ≡ false
    → reading_among (read_after t rs) name ≡ reading_among rs name
reading_stays name B t w rs right quiet none = by (new_in t rs) refl
  where
    not_it : (u : NewReading) → name ≡ u.clock → IsReceived t.told.done t.after u ⊎ IsTakenOver t.after u → ⊥
    not_it u mine (inl r) =
        let itself : u.clock == name ≡ true = grind (arith, nat_tests) in
        let own : receives name t ≡ true = ap (λ o. option_map_or (λ c. c == name) o false) r.told ∙ itself in
        let no : true ≡ false = sym own ∙ none in cc
    not_it u mine (inr taken) = right.no_takeover u (sym mine) taken

    by : (new : Option NewReading) → new_in t rs ≡ new
        → reading_among (readings_by t.told.timed.act new rs) name ≡ reading_among rs name
    by None is = ap (λ us. reading_among us name) (quiet_reads t.told.timed.act rs quiet)
    by (Some u) is = own (name == u.clock) refl
      where
        own : (test : Bool) → name == u.clock ≡ test
            → reading_among (put_reading u.clock (Some u.after) rs) name ≡ reading_among rs name
        own true test =
            let mine : name ≡ u.clock = grind (arith, nat_tests) in
            absurd (not_it u mine (origin t.told.timed.act t.told.done t.after rs u is))
        own false test =
            let apart : name ≡ u.clock → ⊥ = grind (arith, nat_tests) in
            put_other u.clock (Some u.after) rs name apart

module _ {F : Type 0} (answers : Bounds → ℕ → F → Option ℕ → F → Type 0) (d : DocumentState)
    (playable : IsPlayable d) (names : List ℕ) (events : List Timed) (name from : ℕ) (B : ℕ → ℕ)
    (acts : List ActTrace) (right : AreRight answers d playable names events name from B acts) where
  abbrev Bounded : WorldState → KeptReading → ℕ → Type 0
  Bounded = IsBounded name B

  -- what is read is bounded from the last receipt on
  abbrev TrackLast : WorldState → List SystemReading → Option ℕ → ℕ → Type 0
  TrackLast base rs l now = (last : ℕ) → l ≡ Some last → from ≤ last
      → (last ≤ now) × ((kept : KeptReading) → reading_among rs name ≡ Some kept → Bounded base kept last)

  module _ (until : ℕ) (t : ActTrace) (fate drawn : F) (w : WorldState)
      (happens : Happens answers until t.told fate drawn w t.after) (keeps : Keeps answers d playable names events w)
      (right_then : from ≤ at_of t → IsRight name B t w) (base : WorldState) (same : SameClocks base w)
      (same' : SameClocks base t.after) (rs : List SystemReading) where
    -- a receipt
    received : (late : from ≤ at_of t) → receives name t ≡ true → (kept : KeptReading)
        → reading_among (read_after t rs) name ≡ Some kept → Bounded base kept (at_of t)
    received late own kept reads =
        let (u, new, named) = (right_then late).reads rs own in
        let put : reading_among (put_reading u.clock (Some u.after) rs) u.clock ≡ Some kept =
        ap (λ n. reading_among (put_reading u.clock (Some u.after) rs) n) named
        ∙ ap (λ o. reading_among (readings_by t.told.timed.act o rs) name) (sym new) ∙ reads in
        let after = same_Some u.after kept (put_own u.clock (Some u.after) rs kept put) in
        subst (λ k. Bounded base k (at_of t)) after
        (by u named (origin t.told.timed.act t.told.done t.after rs u new))
      where
        by : (u : NewReading) → u.clock ≡ name → IsReceived t.told.done t.after u ⊎ IsTakenOver t.after u
            → Bounded base u.after (at_of t)
        by u named (inl r) =
            (right_then late).bounds u named r base same same'
        by u named (inr taken) =
            absurd ((right_then late).no_takeover u named taken)

    -- another act leaves what it reads
    stays : (late : from ≤ at_of t) → receives name t ≡ false
        → reading_among (read_after t rs) name ≡ reading_among rs name
    stays late none =
        reading_stays name B t w rs (right_then late) (quiet_next happens.next.item t.told.timed.act w happens.next.act)
        none

    step_last : (l : Option ℕ) (now : ℕ) → now ≤ at_of t → TrackLast base rs l now
        → TrackLast base (read_after t rs) (if receives name t then Some (at_of t) else l) (at_of t)
    step_last l now on track = by (receives name t) refl
      where
        by : (own : Bool) → receives name t ≡ own
            → TrackLast base (read_after t rs) (if own then Some (at_of t) else l) (at_of t)
        by true own last is late =
            let now_is : at_of t ≡ last = same_Some (at_of t) last is in
            let late_now : from ≤ at_of t = omega (arith, late, now_is) in
            (omega (arith, now_is), λ kept reads. subst (Bounded base kept) now_is (received late_now own kept reads))
        by false none last is late =
            let (first, bounded) = track last is late in
            let late_now : from ≤ at_of t = omega (arith, late, first, on) in
            (omega (arith, first, on), λ kept reads. bounded kept (sym (stays late_now none) ∙ reads))

  -- ---- acts that pass

  record TrackedLast (rs : List SystemReading) (l : Option ℕ) (time : ℕ) (w : WorldState) : Type 0 where
    base : WorldState
    clocks : SameClocks base w
    now : ℕ
    soon : now ≤ time
    track : TrackLast base rs l now

  passes_last : (until now time : ℕ) (us vs : List ActTrace) (fate fate_after : F) (base w w' : WorldState)
      (rs : List SystemReading) (l : Option ℕ) → until ≤ 10 ^ 18 → ((t : ActTrace) → In t us → In t acts)
      → SameClocks base w → now ≤ w.time
      → Passes answers until (us ++ vs) fate fate_after w w' → Keeps answers d playable names events w
      → TrackLast base rs l now → last_time now us ≤ time
      → TrackedLast (readings_after us rs) (last_receipt name l us) time (world_after us w)
  passes_last until now time [] vs fate fate_after base w w' rs l early among same soon k keeps track late =
      record { base = base; clocks = same; now = now; soon = late; track = track }
  passes_last until now time (t ∷ us) vs fate fate_after base w w' rs l early among same soon
      (drawn, before, happens, rest) keeps track late =
      let moment = act_time answers d playable names until t fate drawn w keeps.claimed.world.sound happens in
      let same' = same_on answers d playable names events t until fate drawn base w happens keeps same in
      let on = happens.was_done.ready.timely.now in
      passes_last until (at_of t) time us vs drawn fate_after base t.after w' (read_after t rs)
      (if receives name t then Some (at_of t) else l) early (λ u member. among u (inr member)) same'
      (omega (arith, moment)) rest
      (keeps_act answers d playable names events until t fate drawn w happens keeps)
      (step_last until t fate drawn w happens keeps
      (right until t fate drawn w happens keeps before early (among t (inl refl))) base same same' rs l now
      (omega (arith, soon, on)) track) late

  -- ---- a stretch

  moment_last : (before es : List Timed) (first to last time : ℕ) (rs : List SystemReading)
      (done ahead : List ActTrace) (fate fate_after : F) (w after : WorldState) → events ≡ before ++ es
      → to ≤ 10 ^ 18 → last < from → PastBy last es → Each (IsFitEvent answers d playable names) es
      → Keeps answers d playable names before w → Courses answers to es acts fate fate_after w after
      → acts ≡ done ++ ahead → events_left done (length es) ≡ 0 → last_time first done ≤ time
      → TrackedLast (readings_after done rs) (last_receipt name None done) time (world_after done w)
  moment_last before [] first to last time rs done ahead fate fate_after w after are early less past fits keeps k
      acts_are none late =
      let kept = subst (λ fs. Keeps answers d playable names fs w) (sym (are ∙ append-nil before)) keeps in
      let sooner = last_less first done in
      passes_last to 0 time done ahead fate fate_after w w k.between rs None early
      (λ t member. subst (In t) (sym acts_are) (In-left t done ahead member)) (λ n t. refl) (omega arith)
      (subst (λ us. Passes answers to us fate fate_after w k.between) acts_are k.passes) kept
      (λ one is on. absurd (none-some one is)) (omega (arith, late, sooner))
  moment_last before (e ∷ es) first to last time rs done ahead fate fate_after w after are early less past fits
      keeps k acts_are none late =
      let p = parts answers d playable names before e es rs to acts fate fate_after w after fits keeps k in
      let b = parted (length (e ∷ es)) p.head p.tail done ahead p.ends (sym p.are ∙ acts_are) none in
      let kept = subst (λ fs. Keeps answers d playable names fs p.middle) (sym are) p.keeps in
      let l = last_receipt name None p.head in
      let soon = less_each last from p.head less (p.soon last past) in
      let since : last_time first done ≡ last_time p.middle.time b.more =
      ap (last_time first) b.done_is ∙ last_on first p.head b.more ∙ ap (λ t. last_time t b.more) (p.last first) in
      let on = passes_last to p.middle.time time b.more ahead p.drawn fate_after p.middle p.middle p.passes.between
      (readings_after p.head rs) l early
      (λ t member. subst (In t) (sym p.are) (In-right t p.head p.tail
      (subst (In t) (sym b.tail_is) (In-left t b.more ahead member)))) (λ n t. refl) (omega arith)
      (subst (λ us. Passes answers to us p.drawn fate_after p.middle p.passes.between) b.tail_is p.passes.passes) kept
      (λ one is late_one. absurd
      (let sooner = last_early name from None p.head soon (λ x no. absurd (none-some x no)) one is in
      (omega (arith, sooner, late_one)))) (subst (λ t. t ≤ time) since late) in
      let reads = ap (λ us. readings_after us rs) b.done_is ∙ readings_both p.head b.more rs in
      let lasts = ap (last_receipt name None) b.done_is ∙ last_both name None p.head b.more in
      let world = ap (λ us. world_after us w) b.done_is ∙ world_on p.head b.more w ∙ ap (world_after b.more) (p.leads
      w) in
      subst (λ v. TrackedLast (readings_after done rs) (last_receipt name None done) time v) (sym world)
      (subst (λ o. TrackedLast (readings_after done rs) o time (world_after b.more p.middle)) (sym lasts)
      (subst (λ us. TrackedLast us (last_receipt name l b.more) time (world_after b.more p.middle)) (sym reads) on))

-- what a system reads at a moment of a stretch is within the bound of its last receipt, where each act is right from a
-- time on, and that came then or later
pub moment_reads : {F : Type 0} (answers : Bounds → ℕ → F → Option ℕ → F → Type 0) (d : DocumentState)
    (playable : IsPlayable d) (names : List ℕ) (until : ℕ) (p : StretchTrace) (w : WorldState) (c : Carried)
    (rs : List SystemReading) (errors : TimeErrors) (name span_from from bound last time : ℕ) (read source : ℤ)
    (most : ℕ) (moment : Moment p time) (early : until ≤ 10 ^ 18) (b : Found answers d playable names until p w c)
    (are : AreTimeErrors d b.from errors) (by_span : IsExactBySpan d b.from span_from)
    (says : SayBound errors name bound)
    → last_change (events_by b.from d.events) < from
    → AreRight answers d playable names (events_by b.from d.events) name from
    (reading_error_at (has_bound answers d playable names b.from errors name span_from bound are by_span says).way
    (has_bound answers d playable names b.from errors name span_from bound are by_span says).steps) p.acts
    → last_receipt name None moment.done ≡ Some last → from ≤ last
    → ReadsAt time (world_after moment.done w) (readings_after moment.done rs) name read source
    → reading_at says.system (time - last) ≡ Some most → unsigned_abs (read -ℤ source) ≤ most
moment_reads answers d playable names until p w c rs errors name span_from from bound last time read source most moment
    early b are by_span says less right received late r most_is =
    let ends : p.to ≤ until =
    subst (λ to. to ≤ until) (sym b.passage.to_is) (ends_by answers d playable names until b.from b.before b.left
    b.is_left) in
    let events = events_by b.from d.events in
    let has = has_bound answers d playable names b.from errors name span_from bound are by_span says in
    let made = events_then answers d playable names until b.from b.before b.left b.is_left in
    let change = last_change events in
    let past = all_past change events
    (filter_in_order (λ (e : Timed). nat_le e.at b.from) d.events playable.events.in_order) (omega arith) in
    let on = moment_last answers d playable names events name from (reading_error_at has.way has.steps) p.acts right
    b.before (now_of b.from b.left) p.from p.to change time rs moment.done moment.ahead b.fate b.fate_after w p.after
    made (omega (arith, ends, early)) less
    (past_behind answers d playable names change b.before (now_of b.from b.left) (subst (PastBy change) made past))
    (filter_each (IsFitEvent answers d playable names) (λ (e : Timed). nat_le e.at b.from) b.left b.is_left.fits)
    b.keeps
    (subst (λ es. Courses answers p.to es p.acts b.fate b.fate_after w p.after) b.passage.events_are
    b.passage.courses) moment.are
    (subst (λ es. events_left moment.done (length es) ≡ 0) b.passage.events_are moment.no_event_left) moment.late in
    let (first, bounded) = on.track last received late in
    let soon = on.soon in
    let small = (bounded r.kept r.has).each time (read -ℤ source) (omega (arith, first, soon))
    (error_read on.base (world_after moment.done w) on.clocks time (readings_after moment.done rs) name read source
    r) in
    subst (λ m. unsigned_abs (read -ℤ source) ≤ m)
    (sym (bound_is answers d playable names b.from (time - last) most errors name span_from bound are by_span says
    most_is)) small

pub timelines_bound_receipts : {F : Type 0} (answers : Bounds → ℕ → F → Option ℕ → F → Type 0)
    → TimelinesBoundReceipts answers
timelines_bound_receipts answers d until options fate lines exceeded t playable early p w c rs errors name from bound
    last time read source most moment says begins has_readings are exact_is received late r most_is =
    let names = rising_clocks t.start in
    let b = timeline_found answers d until options fate lines exceeded t playable p w c begins in
    let hold : AreErrorsBy d b.from p.to (Some errors) =
    subst (AreErrorsBy d b.from p.to) are b.passage.errors_are in
    let events = events_by b.from d.events in
    let by_span = subst (λ time. IsExactBySpan d time from) b.passage.from_is exact_is in
    let has = has_bound answers d playable names b.from errors name from bound hold.0 by_span says in
    moment_reads answers d playable names until p w c rs errors name from from bound last time read source most moment
    early b hold.0 by_span says
    (holds_later answers d playable names events hold.0.snapshot name from bound b.keeps.claimed.pace.largest has)
    (λ until_then act one drawn v happens keeps before soon member on.
    calm_is_right answers d playable names events hold.0.snapshot name from bound has until_then act one drawn v happens
    keeps on soon)
    received late r most_is
