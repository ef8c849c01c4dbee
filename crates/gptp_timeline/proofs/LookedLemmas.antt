-- What is measured of what is looked at, part by part.
use Rattle.std.proofs.Common.{◌≡◌, ℕ, List, [], ◌∷◌, ◌++◌, map, Option, option_map, Some, refl, sym, ap, unsigned_abs, ◌∙◌}
use Rattle.gptp_timeline.specs.Extremes.{extremes_from, ExtremesState, extremes_with, Look}
use Rattle.gptp_timeline.specs.Looks.{change_if, listed, look_amount, look_if, looked_both, looked_difference, looked_error, looked_jump, looked_step, LookedAt, measured_with}
use Rattle.gptp_timeline.specs.Measures.{greatest_from, one_at}
use Rattle.gptp_timeline.specs.Readings.{changes_source}
use Rattle.gptp_timeline.specs.Sources.{DifferenceState, wider, widest_from}
use Rattle.gptp_timeline.specs.declared.looks.TimeMeasures.{TimeMeasures}
use Rattle.gptp_timeline.specs.declared.measures.Greatest.{Greatest}
use Rattle.gptp_timeline.specs.declared.readings.Jump.{Jump}
use Rattle.gptp_timeline.specs.declared.readings.NewReading.{NewReading}
use Rattle.gptp_timeline.proofs.MeasureLemmas.{greatest_both}

map_both : (xs ys : List Look) → map look_amount (xs ++ ys) ≡ map look_amount xs ++ map look_amount ys
map_both [] ys = refl
map_both (x ∷ xs) ys = ap (λ rest. look_amount x ∷ rest) (map_both xs ys)

extremes_both : (e : Option ExtremesState) (xs ys : List Look)
    → extremes_from e (xs ++ ys) ≡ extremes_from (extremes_from e xs) ys
extremes_both e [] ys = refl
extremes_both e (x ∷ xs) ys = extremes_both (Some (extremes_with e x.error)) xs ys

widest_both : (d : Option DifferenceState) (xs ys : List DifferenceState)
    → widest_from d (xs ++ ys) ≡ widest_from (widest_from d xs) ys
widest_both d [] ys = refl
widest_both d (x ∷ xs) ys = widest_both (wider d x) xs ys

pub measured_both : (a b : LookedAt) (m : TimeMeasures)
    → measured_with (looked_both a b) m ≡ measured_with b (measured_with a m)
measured_both a b m =
    let time : greatest_from m.time (map look_amount (a.errors ++ b.errors))
    ≡ greatest_from (greatest_from m.time (map look_amount a.errors)) (map look_amount b.errors) =
    ap (greatest_from m.time) (map_both a.errors b.errors)
    ∙ greatest_both m.time (map look_amount a.errors) (map look_amount b.errors) in
    let errors = extremes_both m.errors a.errors b.errors in
    let sources = widest_both m.sources a.differences b.differences in
    let step = greatest_both m.step a.steps b.steps in
    let changed = greatest_both m.changed a.changes b.changes in
    λ i. record {
      time = time i;
      errors = errors i;
      sources = sources i;
      step = step i;
      changed = changed i;
    }

-- a system that gets a reading: the two errors, the two differences, the step and the change, one after another
pub new_measured : (at : ℕ) (u : NewReading) (j : Jump) (before after : Option DifferenceState)
    (m first second third fourth last : TimeMeasures) (step change : Option Greatest)
    → step ≡ option_map (λ z. one_at u.clock (unsigned_abs z)) j.step
    → listed change ≡ change_if (changes_source u) u.clock at
    → first ≡ measured_with (looked_error u.clock j.before) m
    → second ≡ measured_with (looked_error u.clock j.after) first
    → third ≡ measured_with (looked_difference before) second → fourth ≡ measured_with (looked_difference after) third
    → last ≡ measured_with (looked_step step change) fourth
    → last ≡ measured_with (looked_jump at u j before after) m
new_measured at u j before after m first second third fourth last step change step_is change_is a b c d e =
    let old = j.before in let new = j.after in
    let chain : last ≡ measured_with (looked_step step change) (measured_with (looked_difference after)
    (measured_with (looked_difference before) (measured_with (looked_error u.clock new)
    (measured_with (looked_error u.clock old) m)))) =
    e ∙ ap (measured_with (looked_step step change)) (d ∙ ap (measured_with (looked_difference after)) (c
    ∙ ap (measured_with (looked_difference before)) (b ∙ ap (measured_with (looked_error u.clock new)) a))) in
    let errors_one = look_if u.clock old in let errors_two = look_if u.clock new in
    let time = sym (ap (greatest_from m.time) (map_both errors_one errors_two)
    ∙ greatest_both m.time (map look_amount errors_one) (map look_amount errors_two)) in
    let errors = sym (extremes_both m.errors errors_one errors_two) in
    let sources = sym (widest_both m.sources (listed before) (listed after)) in
    let joined : measured_with (looked_step step change) (measured_with (looked_difference after)
    (measured_with (looked_difference before) (measured_with (looked_error u.clock new)
    (measured_with (looked_error u.clock old) m))))
    ≡ record {
      time = greatest_from m.time (map look_amount (errors_one ++ errors_two));
      errors = extremes_from m.errors (errors_one ++ errors_two);
      sources = widest_from m.sources (listed before ++ listed after);
      step = greatest_from m.step (listed step);
      changed = greatest_from m.changed (listed change);
    } = λ i. record {
      time = time i;
      errors = errors i;
      sources = sources i;
      step = greatest_from m.step (listed step);
      changed = greatest_from m.changed (listed change);
    } in
    chain ∙ joined ∙ (λ i. record {
      time = greatest_from m.time (map look_amount (look_if u.clock old ++ look_if u.clock new));
      errors = extremes_from m.errors (look_if u.clock old ++ look_if u.clock new);
      sources = widest_from m.sources (listed before ++ listed after);
      step = greatest_from m.step (listed (step_is i));
      changed = greatest_from m.changed (change_is i);
    })
