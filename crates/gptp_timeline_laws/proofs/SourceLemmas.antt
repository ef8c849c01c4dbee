-- After the last change of source each system reads from the source that it has where the stretch ends.
use Rattle.std.proofs.Common.{◌≡◌, ◌≤◌, ◌↔◌, ℕ, Bool, true, false, nat_le, nat_lt, List, [], ◌∷◌, ◌++◌, length, Option, Some, None, option_map, if◌then◌else◌, refl, sym, ap, subst, ◌∙◌, inl, inr, arith}
use Rattle.std.specs.List.{AllByRecursion}
use Rattle.std.proofs.lemmas.Bool.Decides.{nat_tests}
use Rattle.std.proofs.lemmas.Option.{same_Some}
use Rattle.gptp_links.specs.declared.bounds.Bounds.{Bounds}
use Rattle.gptp_lists.specs.Members.{In}
use Rattle.gptp_lists.proofs.SystemSpecLemmas.{In-left, In-right}
use Rattle.gptp_model.specs.Views.{rising_clocks}
use Rattle.gptp_model.specs.World.{WorldState}
use Rattle.gptp_network.specs.Document.{DocumentState}
use Rattle.gptp_report.specs.Transitions.{Courses}
use Rattle.gptp_scenario.specs.declared.change.Act.{Act}
use Rattle.gptp_scenario.specs.declared.change.Timed.{Timed}
use Rattle.gptp_theorem.specs.PlayedLaws.{IsPlayable}
use Rattle.gptp_timeline.specs.Looks.{change_if, events_left, looked_all, looked_both, looked_by, looked_in, looked_over, measured_times}
use Rattle.gptp_timeline.specs.Measures.{better, greatest_from, one_at}
use Rattle.gptp_timeline.specs.Readings.{changes_source, new_in, read_after, readings_after, readings_by}
use Rattle.gptp_timeline.specs.Stretch.{at_of}
use Rattle.gptp_timeline.specs.declared.looks.TimeMeasures.{TimeMeasures}
use Rattle.gptp_timeline.specs.declared.measures.Greatest.{Greatest}
use Rattle.gptp_timeline.specs.declared.readings.NewReading.{NewReading}
use Rattle.gptp_timeline.specs.declared.readings.SystemReading.{SystemReading}
use Rattle.gptp_timeline.specs.declared.readings.TimeSource.{TimeSource}
use Rattle.gptp_timeline.proofs.EventLemmas.{Each, filter_each}
use Rattle.gptp_timeline.proofs.SettlingLemmas.{IsFitEvent, Keeps}
use Rattle.gptp_timeline_laws.specs.Sources.{AreLater, ReadsFrom, TimelinesKeepSources}
use Rattle.gptp_timeline_laws.proofs.BoundLemmas.{readings_both}
use Rattle.gptp_timeline_laws.proofs.CourseLemmas.{IsQuiet, parted, parts, passes_quiet}
use Rattle.gptp_timeline_laws.proofs.MomentLemmas.{timeline_found}
use Rattle.gptp_timeline_laws.proofs.ReadLemmas.{is_new, quiet_reads}
use Rattle.gptp_timeline_laws.proofs.ToldLemmas.{had_source, keeps_source}
use Rattle.gptp_world.specs.Transitions.{ActTrace}

-- ---- the greatest of several is one of them

record IsAbove (amount : ℕ) (greatest : Option Greatest) : Type 0 where
  is : Greatest
  there : greatest ≡ Some is
  above : amount ≤ is.amount

from_best : (best : Greatest) (xs : List Greatest) → IsAbove best.amount (greatest_from (Some best) xs)
from_best best [] = record { is = best; there = refl; above = omega arith }
from_best best (x ∷ xs) = by (nat_lt best.amount x.amount) refl (from_best x xs) (from_best best xs)
  where
    by : (less : Bool) → nat_lt best.amount x.amount ≡ less → IsAbove x.amount (greatest_from (Some x) xs)
        → IsAbove best.amount (greatest_from (Some best) xs)
        → IsAbove best.amount (greatest_from (if less then Some x else Some best) xs)
    by true test other this =
        let le : best.amount ≤ x.amount = grind (arith, nat_tests) in
        let above = other.above in record { is = other.is; there = other.there; above = omega (arith, le, above) }
    by false test other this = this

above_first : (best : Option Greatest) (x : Greatest) (xs : List Greatest)
    → IsAbove x.amount (greatest_from (better best x) xs)
above_first None x xs = from_best x xs
above_first (Some b) x xs = by (nat_lt b.amount x.amount) refl
  where
    by : (less : Bool) → nat_lt b.amount x.amount ≡ less
        → IsAbove x.amount (greatest_from (if less then Some x else Some b) xs)
    by true test = from_best x xs
    by false test =
        let le : x.amount ≤ b.amount = grind (arith, nat_tests) in
        let rest = from_best b xs in let above = rest.above in
        record { is = rest.is; there = rest.there; above = omega (arith, le, above) }

greatest_there : (best : Option Greatest) (xs : List Greatest) (one : Greatest) → In one xs
    → IsAbove one.amount (greatest_from best xs)
greatest_there best [] one member = absurd member
greatest_there best (x ∷ xs) one (inl same) =
    subst (λ (g : Greatest). IsAbove g.amount (greatest_from best (x ∷ xs))) (sym same) (above_first best x xs)
greatest_there best (x ∷ xs) one (inr later) = greatest_there (better best x) xs one later

-- ---- changes that are looked at

-- those of acts after some are among those of all
changes_after : (rs : List SystemReading) (left : ℕ) (us vs : List ActTrace) (one : Greatest)
    → In one (looked_over (readings_after us rs) (events_left us left) vs).changes
    → In one (looked_over rs left (us ++ vs)).changes
changes_after rs left [] vs one member = member
changes_after rs left (t ∷ us) vs one member =
    In-right one (looked_in rs left t).changes
    (looked_over (read_after t rs) (events_left (t ∷ []) left) (us ++ vs)).changes
    (changes_after (read_after t rs) (events_left (t ∷ []) left) us vs one member)

-- an act that is later than all of them changes no source
module _ (changed : List Greatest) where
  abbrev Among : List SystemReading → ℕ → List ActTrace → Type 0
  Among rs left ts = (one : Greatest) → In one (looked_over rs left ts).changes → In one changed

  too_late : (t : ActTrace) (ts : List ActTrace) (one : Greatest) → one.amount ≡ at_of t → In one changed
      → AreLater (greatest_from None changed) (t ∷ ts) → ⊥
  too_late t ts one at member later =
      let g = greatest_there None changed one member in
      let above = g.above in
      let after = subst (λ o. AreLater o (t ∷ ts)) g.there later in
      let first = after.0 in omega (arith, above, first, at)

  later_rest : (o : Option Greatest) (t : ActTrace) (ts : List ActTrace) → AreLater o (t ∷ ts) → AreLater o ts
  later_rest None t ts later = tt
  later_rest (Some g) t ts later = later.1

  stand : (rs : List SystemReading) (left : ℕ) (ts : List ActTrace) → AllByRecursion IsQuiet ts → Among rs left ts
      → AreLater (greatest_from None changed) ts → (name : ℕ) (source : TimeSource)
      → ReadsFrom rs name source ↔ ReadsFrom (readings_after ts rs) name source
  stand rs left [] quiet among later name source = (λ r. r, λ r. r)
  stand rs left (t ∷ ts) quiet among later name source =
      let rest = stand (read_after t rs) (events_left (t ∷ []) left) ts quiet.1
      (λ one member. among one (In-right one (looked_in rs left t).changes
      (looked_over (read_after t rs) (events_left (t ∷ []) left) ts).changes member))
      (later_rest (greatest_from None changed) t ts later) name source in
      let step = by (new_in t rs) refl (λ one member. among one (In-left one (looked_in rs left t).changes
      (looked_over (read_after t rs) (events_left (t ∷ []) left) ts).changes member)) in
      (λ r. rest.0 (step.0 r), λ r. step.1 (rest.1 r))
    where
      act : Act
      act = t.told.timed.act

      by : (new : Option NewReading) → new_in t rs ≡ new
          → ((one : Greatest) → In one (looked_by (at_of t) t.after act left new rs (readings_by act new rs)).changes
          → In one changed)
          → ReadsFrom rs name source ↔ ReadsFrom (readings_by act new rs) name source
      by None is looked =
          let same = quiet_reads act rs quiet.0 in
          (λ r. subst (λ us. ReadsFrom us name source) (sym same) r, λ r. subst (λ us. ReadsFrom us name source) same r)
      by (Some u) is looked = changed_or_not (changes_source u) refl
        where
          changed_or_not : (test : Bool) → changes_source u ≡ test
              → ReadsFrom rs name source ↔ ReadsFrom (readings_by act (Some u) rs) name source
          changed_or_not true test =
              absurd (too_late t ts (one_at u.clock (at_of t)) refl
              (looked (one_at u.clock (at_of t))
              (subst (λ b. In (one_at u.clock (at_of t)) (change_if b u.clock (at_of t))) (sym test) (inl refl))) later)
          changed_or_not false test = (
            λ r. keeps_source u rs name source (is_new act t.told.done t.after rs u is).before test r,
            λ r. had_source u rs name source (is_new act t.told.done t.after rs u is).before test r,
          )

-- ---- a stretch

pub quiet_before : (us vs : List ActTrace) → AllByRecursion IsQuiet (us ++ vs) → AllByRecursion IsQuiet us
quiet_before [] vs quiet = tt
quiet_before (t ∷ us) vs quiet = (quiet.0, quiet_before us vs quiet.1)

pub quiet_after : (us vs : List ActTrace) → AllByRecursion IsQuiet (us ++ vs) → AllByRecursion IsQuiet vs
quiet_after [] vs quiet = quiet
quiet_after (t ∷ us) vs quiet = quiet_after us vs quiet.1

quiet_ahead : {F : Type 0} (answers : Bounds → ℕ → F → Option ℕ → F → Type 0) (d : DocumentState)
    (playable : IsPlayable d) (names : List ℕ) (before es : List Timed) (to : ℕ) (acts done ahead : List ActTrace)
    (fate fate_after : F) (w after : WorldState) → Each (IsFitEvent answers d playable names) es
    → Keeps answers d playable names before w → Courses answers to es acts fate fate_after w after
    → acts ≡ done ++ ahead → events_left done (length es) ≡ 0 → AllByRecursion IsQuiet ahead
quiet_ahead answers d playable names before [] to acts done ahead fate fate_after w after fits keeps k are none =
    quiet_after done ahead (subst (AllByRecursion IsQuiet) are
    (passes_quiet answers d playable names to acts fate fate_after w k.between k.passes))
quiet_ahead answers d playable names before (e ∷ es) to acts done ahead fate fate_after w after fits keeps k are none =
    let p = parts answers d playable names before e es [] to acts fate fate_after w after fits keeps k in
    let b = parted (length (e ∷ es)) p.head p.tail done ahead p.ends (sym p.are ∙ are) none in
    quiet_after b.more ahead (subst (AllByRecursion IsQuiet) b.tail_is
    (passes_quiet answers d playable names to p.tail p.drawn fate_after p.middle p.passes.between p.passes.passes))

pub timelines_keep_sources : {F : Type 0} (answers : Bounds → ℕ → F → Option ℕ → F → Type 0)
    → TimelinesKeepSources answers
timelines_keep_sources answers d until options fate lines exceeded t playable p w c all rs m time moment begins has is
    later name source =
    let names = rising_clocks t.start in
    let b = timeline_found answers d until options fate lines exceeded t playable p w c begins in
    let n = length p.events in
    let measured : measured_times rs n p.acts p.to p.after ≡ m =
    same_Some (measured_times rs n p.acts p.to p.after) m
    (sym (ap (option_map (λ us. measured_times us n p.acts p.to p.after)) has) ∙ is) in
    let looked = looked_both (looked_over rs n p.acts) (looked_all p.to p.after (readings_after p.acts rs)) in
    let quiet = quiet_ahead answers d playable names b.before p.events p.to p.acts moment.done moment.ahead b.fate
    b.fate_after w p.after
    (subst (Each (IsFitEvent answers d playable names)) (sym b.passage.events_are)
    (filter_each (IsFitEvent answers d playable names) (λ (x : Timed). nat_le x.at b.from) b.left b.is_left.fits))
    b.keeps b.passage.courses moment.are moment.no_event_left in
    let stands = stand looked.changes (readings_after moment.done rs) (events_left moment.done n) moment.ahead quiet
    (λ one member. In-left one (looked_over rs n p.acts).changes
    (looked_all p.to p.after (readings_after p.acts rs)).changes
    (subst (λ us. In one (looked_over rs n us).changes) (sym moment.are)
    (changes_after rs n moment.done moment.ahead one member)))
    (subst (λ (x : TimeMeasures). AreLater x.changed moment.ahead) (sym measured) later) name source in
    let ends : readings_after moment.ahead (readings_after moment.done rs) ≡ readings_after p.acts rs =
    sym (ap (λ us. readings_after us rs) moment.are ∙ readings_both moment.done moment.ahead rs) in
    subst (λ us. ReadsFrom (readings_after moment.done rs) name source ↔ ReadsFrom us name source) ends stands
