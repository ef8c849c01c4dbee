-- What is measured of several looks bounds each of them; and what lies between them.
use Rattle.std.proofs.Common.{◌≡◌, ◌≤◌, ◌+◌, ℕ, ℤ, pos, neg_ℤ, ◌+ℤ◌, ◌-ℤ◌, ◌≤ℤ◌, int_lt, nat_lt, Bool, true, false, List, [], ◌∷◌, ◌++◌, map, Option, Some, None, unsigned_abs, if◌then◌else◌, refl, sym, ap, subst, inl, inr, arith}
use Rattle.std.specs.Option.{option_map_or}
use Rattle.std.proofs.lemmas.Bool.Decides.{nat_tests}
use Rattle.std.proofs.lemmas.Int.{ints}
use Rattle.gptp_lists.specs.Members.{In}
use Rattle.gptp_lists.proofs.SystemSpecLemmas.{In-map}
use Rattle.gptp_model.specs.World.{WorldState}
use Rattle.gptp_timeline.specs.Extremes.{extremes_from, extremes_with, ExtremesState, greater, lesser, Look}
use Rattle.gptp_timeline.specs.Looks.{apart_errors, apart_sources, events_left, look_amount, looked_all, looked_over, LookedAt, measured_with, nothing_read}
use Rattle.gptp_timeline.specs.Measures.{better, greatest_from}
use Rattle.gptp_timeline.specs.Readings.{reading_among, reading_error, readings_after, source_time}
use Rattle.gptp_timeline.specs.Sources.{DifferenceState, wider, widest_from}
use Rattle.gptp_timeline.specs.declared.measures.Greatest.{Greatest}
use Rattle.gptp_timeline.specs.declared.readings.KeptReading.{KeptReading}
use Rattle.gptp_timeline.specs.declared.readings.SystemReading.{SystemReading}
use Rattle.gptp_timeline.specs.declared.readings.TimeSource.{TimeSource}
use Rattle.gptp_timeline_laws.specs.Moments.{greatest_error, last_time, next_time}
use Rattle.gptp_timeline_laws.specs.Sources.{ReadsFrom}
use Rattle.gptp_timeline_laws.proofs.ReadLemmas.{acts_fit, RatesFit}
use Rattle.gptp_timeline_laws.proofs.SeenLemmas.{Between, error_at_moment, good_after, GoodLooks, Seen, seen_later, seen_on}
use Rattle.gptp_timeline_laws.proofs.StepLemmas.{SameClocks, Steps, steps_after}
use Rattle.gptp_timeline_laws.proofs.ToldLemmas.{SeenTogether, sources_at_moment, together_later, together_on}
use Rattle.gptp_world.specs.Transitions.{ActTrace}

-- ---- the greatest

abbrev greatest_amount : Option Greatest → ℕ
greatest_amount best = option_map_or (λ (g : Greatest). g.amount) best 0

better_both : (best : Option Greatest) (one : Greatest)
    → (greatest_amount best ≤ greatest_amount (better best one)) × (one.amount ≤ greatest_amount (better best one))
better_both None one = (omega arith, omega arith)
better_both (Some b) one = by (nat_lt b.amount one.amount) refl
  where
    by : (less : Bool) → nat_lt b.amount one.amount ≡ less
        → (b.amount ≤ greatest_amount (if less then Some one else Some b))
        × (one.amount ≤ greatest_amount (if less then Some one else Some b))
    by true is = let le : b.amount ≤ one.amount = grind (arith, nat_tests) in (le, omega arith)
    by false is = let le : one.amount ≤ b.amount = grind (arith, nat_tests) in (omega arith, le)

greatest_keeps : (best : Option Greatest) (xs : List Greatest)
    → greatest_amount best ≤ greatest_amount (greatest_from best xs)
greatest_keeps best [] = omega arith
greatest_keeps best (x ∷ xs) =
    let first = (better_both best x).0 in let rest = greatest_keeps (better best x) xs in
    omega (arith, first, rest)

greatest_of : (best : Option Greatest) (xs : List Greatest) (one : Greatest) → In one xs
    → one.amount ≤ greatest_amount (greatest_from best xs)
greatest_of best [] one member = absurd member
greatest_of best (x ∷ xs) one (inl same) =
    let first = (better_both best x).1 in let rest = greatest_keeps (better best x) xs in
    let is : one.amount ≡ x.amount = ap (λ (g : Greatest). g.amount) same in
    omega (arith, first, rest, is)
greatest_of best (x ∷ xs) one (inr later) = greatest_of (better best x) xs one later

-- ---- the least and the most

abbrev Spans : Option ExtremesState → ℤ → Type 0
Spans None z = ⊥
Spans (Some e) z = Between e.least e.most z

lesser_both : (best error : ℤ) → (lesser best error ≤ℤ best) × (lesser best error ≤ℤ error)
lesser_both best error = by (int_lt error best) refl
  where
    by : (less : Bool) → int_lt error best ≡ less
        → ((if less then error else best) ≤ℤ best) × ((if less then error else best) ≤ℤ error)
    by true is = let le : error ≤ℤ best = grind (arith, ints) in (le, omega (arith, ints))
    by false is = let le : best ≤ℤ error = grind (arith, ints) in (omega (arith, ints), le)

greater_both : (best error : ℤ) → (best ≤ℤ greater best error) × (error ≤ℤ greater best error)
greater_both best error = by (int_lt best error) refl
  where
    by : (less : Bool) → int_lt best error ≡ less
        → (best ≤ℤ (if less then error else best)) × (error ≤ℤ (if less then error else best))
    by true is = let le : best ≤ℤ error = grind (arith, ints) in (le, omega (arith, ints))
    by false is = let le : error ≤ℤ best = grind (arith, ints) in (omega (arith, ints), le)

no_more : (a b c : ℤ) → a ≤ℤ b → b ≤ℤ c → a ≤ℤ c
no_more a b c first second = omega (arith, ints, first, second)

extremes_keep : (e : Option ExtremesState) (ls : List Look) (z : ℤ) → Spans e z → Spans (extremes_from e ls) z
extremes_keep e [] z spans = spans
extremes_keep None (l ∷ ls) z spans = absurd spans
extremes_keep (Some e) (l ∷ ls) z spans =
    let low = (lesser_both e.least l.error).0 in let high = (greater_both e.most l.error).0 in
    extremes_keep (Some (extremes_with (Some e) l.error)) ls z
    (record {
      above = no_more (lesser e.least l.error) e.least z low spans.above;
      below = no_more z e.most (greater e.most l.error) spans.below high;
    })

extremes_of : (e : Option ExtremesState) (ls : List Look) (l : Look) → In l ls → Spans (extremes_from e ls) l.error
extremes_of e [] l member = absurd member
extremes_of e (x ∷ xs) l (inl same) =
    extremes_keep (Some (extremes_with e x.error)) xs l.error
    (subst (λ (y : Look). Spans (Some (extremes_with e x.error)) y.error) (sym same) (own e))
  where
    own : (e : Option ExtremesState) → Spans (Some (extremes_with e x.error)) x.error
    own None = record { above = omega (arith, ints); below = omega (arith, ints) }
    own (Some e) =
        record { above = (lesser_both e.least x.error).1; below = (greater_both e.most x.error).1 }
extremes_of e (x ∷ xs) l (inr later) = extremes_of (Some (extremes_with e x.error)) xs l later

-- ---- the widest

wider_both : (best : Option DifferenceState) (one : DifferenceState)
    → (apart_sources best ≤ apart_sources (wider best one)) × (one.amount ≤ apart_sources (wider best one))
wider_both None one = (omega arith, omega arith)
wider_both (Some b) one = by (nat_lt b.amount one.amount) refl
  where
    by : (less : Bool) → nat_lt b.amount one.amount ≡ less
        → (b.amount ≤ apart_sources (if less then Some one else Some b))
        × (one.amount ≤ apart_sources (if less then Some one else Some b))
    by true is = let le : b.amount ≤ one.amount = grind (arith, nat_tests) in (le, omega arith)
    by false is = let le : one.amount ≤ b.amount = grind (arith, nat_tests) in (omega arith, le)

widest_keeps : (best : Option DifferenceState) (xs : List DifferenceState)
    → apart_sources best ≤ apart_sources (widest_from best xs)
widest_keeps best [] = omega arith
widest_keeps best (x ∷ xs) =
    let first = (wider_both best x).0 in let rest = widest_keeps (wider best x) xs in omega (arith, first, rest)

widest_of : (best : Option DifferenceState) (xs : List DifferenceState) (one : DifferenceState) → In one xs
    → one.amount ≤ apart_sources (widest_from best xs)
widest_of best [] one member = absurd member
widest_of best (x ∷ xs) one (inl same) =
    let first = (wider_both best x).1 in let rest = widest_keeps (wider best x) xs in
    let is : one.amount ≡ x.amount = ap (λ (g : DifferenceState). g.amount) same in
    omega (arith, first, rest, is)
widest_of best (x ∷ xs) one (inr later) = widest_of (wider best x) xs one later

-- ---- all that was looked at lies within what was measured

within : (e : ℤ) (most : ℕ) → unsigned_abs e ≤ most → Between (neg_ℤ (pos most)) (pos most) e
within e most few = record { above = omega (arith, ints); below = omega (arith, ints) }

pub good_by_greatest : (l : LookedAt)
    → GoodLooks (neg_ℤ (pos (greatest_error (measured_with l nothing_read))))
    (pos (greatest_error (measured_with l nothing_read)))
    (apart_sources (measured_with l nothing_read).sources) l
good_by_greatest l = record {
  errors = λ x member. within x.error (greatest_error (measured_with l nothing_read))
      (greatest_of None (map look_amount l.errors) (look_amount x) (In-map look_amount x l.errors member));
  differences = λ x member. widest_of None l.differences x member;
}

abbrev pub least_of : Option ExtremesState → ℤ
least_of None = pos 0
least_of (Some e) = e.least

abbrev pub most_of : Option ExtremesState → ℤ
most_of None = pos 0
most_of (Some e) = e.most

spanned : (e : Option ExtremesState) (z : ℤ) → Spans e z → Between (least_of e) (most_of e) z
spanned None z spans = absurd spans
spanned (Some e) z spans = spans

pub good_by_extremes : (l : LookedAt)
    → GoodLooks (least_of (measured_with l nothing_read).errors) (most_of (measured_with l nothing_read).errors)
    (apart_sources (measured_with l nothing_read).sources) l
good_by_extremes l = record {
  errors = λ x member. spanned (extremes_from None l.errors) x.error (extremes_of None l.errors x member);
  differences = λ x member. widest_of None l.differences x member;
}

pub apart_is : (e : Option ExtremesState) → unsigned_abs (most_of e -ℤ least_of e) ≤ apart_errors e
apart_is None = omega (arith, ints)
apart_is (Some e) = omega arith

-- ---- after the events of a stretch

pub readings_both : (us vs : List ActTrace) (rs : List SystemReading)
    → readings_after (us ++ vs) rs ≡ readings_after vs (readings_after us rs)
readings_both [] vs rs = refl
readings_both (t ∷ us) vs rs = readings_both us vs _

module _ (low high : ℤ) (most : ℕ) (w : WorldState) (until since left : ℕ) (rs : List SystemReading)
    (us vs : List ActTrace) (end : WorldState) (steps : Steps w until since (us ++ vs)) (same : SameClocks w end)
    (good : GoodLooks low high most (looked_over rs left (us ++ vs)))
    (last : GoodLooks low high most (looked_all until end (readings_after (us ++ vs) rs)))
    (fit : RatesFit rs) (time : ℕ) (late : last_time since us ≤ time) (early : time ≤ next_time until vs) where
  abbrev held : List SystemReading
  held = readings_after us rs

  last_then : GoodLooks low high most (looked_all until end (readings_after vs held))
  last_then =
      subst (λ xs. GoodLooks low high most (looked_all until end xs)) (readings_both us vs rs) last

  good_then : GoodLooks low high most (looked_over held (events_left us left) vs)
  good_then = good_after low high most rs left us vs good

  steps_then : Steps w until (last_time since us) vs
  steps_then = steps_after w until since us vs steps

  pub error_then_is : Seen low high most w rs since → (name : ℕ) (kept : KeptReading) (error : ℤ)
      → reading_among held name ≡ Some kept → reading_error time w name kept ≡ Some error
      → Between (low -ℤ pos 3) (high +ℤ pos 3) error
  error_then_is seen name kept error has is =
      error_at_moment low high most w name kept (last_time since us) (next_time until vs) time
      (acts_fit us rs fit name kept has)
      (seen_on low high most w until since left rs us vs steps good seen name kept has)
      (seen_later low high most w until (last_time since us) (events_left us left) held vs end steps_then same good_then
      last_then name kept has) late early error is

  pub sources_then_are : SeenTogether low high most w rs since → (name other : ℕ) (source source' : TimeSource)
      → ReadsFrom held name source → ReadsFrom held other source' → (x y : ℤ) → source_time source time w ≡ Some x
      → source_time source' time w ≡ Some y → unsigned_abs (x -ℤ y) ≤ most + 1
  sources_then_are seen name other source source' first second x y shows shows' =
      sources_at_moment low high most w source source' (last_time since us) (next_time until vs) time
      (together_on low high most w until since left rs us vs steps good seen name other source source' first second)
      (together_later low high most w until (last_time since us) (events_left us left) held vs end steps_then same
      good_then last_then name other source source' first second) late early x y shows shows'
