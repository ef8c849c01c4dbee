-- A difference of told sources that is measured of a stretch is that of two systems at one of its acts, or at its end.
use Rattle.std.proofs.Common.{◌≡◌, ◌==◌, ◌⊎◌, ◌<◌, ◌&&◌, ℕ, ℤ, ◌-ℤ◌, int_lt, nat_lt, Bool, true, false, List, [], ◌∷◌, ◌++◌, Option, Some, None, option_map, option_and_then, unsigned_abs, if◌then◌else◌, refl, sym, ap, subst, ◌∙◌, inl, inr, arith}
use Rattle.std.specs.Prelude.{⊤}
use Rattle.std.proofs.lemmas.Bool.Decides.{nat_tests}
use Rattle.std.proofs.lemmas.Option.{none-some, same_Some}
use Rattle.gptp_lists.specs.Members.{In}
use Rattle.gptp_lists.proofs.SystemSpecLemmas.{In-map, In-parts}
use Rattle.gptp_model.specs.World.{WorldState}
use Rattle.gptp_model.specs.declared.done.Done.{Done}
use Rattle.gptp_scenario.specs.declared.change.Act.{Act}
use Rattle.gptp_scenario.specs.declared.change.Act.TheVariants.{Change as Changing, Deliver, Expire}
use Rattle.gptp_timeline.specs.Looks.{left_after, listed, looked_by, looked_event, looked_in, looked_over, told_if}
use Rattle.gptp_timeline.specs.Readings.{changes_source, clock_time, new_in, new_reading, read_after, reading_among, readings_after, readings_by}
use Rattle.gptp_timeline.specs.Sources.{difference_of, DifferenceState, ends_from, ends_with, source_at, time_of, told_difference, told_time, wider, widest_from}
use Rattle.gptp_timeline.specs.Stretch.{at_of, is_change}
use Rattle.gptp_timeline.specs.ToldSources.{ReadingsRise}
use Rattle.gptp_timeline.specs.declared.readings.KeptReading.{KeptReading}
use Rattle.gptp_timeline.specs.declared.readings.NewReading.{NewReading}
use Rattle.gptp_timeline.specs.declared.readings.SystemReading.{SystemReading}
use Rattle.gptp_timeline.specs.declared.sources.Ends.{Ends}
use Rattle.gptp_timeline.specs.declared.sources.SourceTime.{SourceTime}
use Rattle.gptp_world.specs.Transitions.{ActTrace}

-- ---- the widest of several is one of them

picked_one : (best : Option DifferenceState) (x d : DifferenceState) → wider best x ≡ Some d
    → (best ≡ Some d) ⊎ (d ≡ x)
picked_one None x d is = inr (sym (same_Some x d is))
picked_one (Some b) x d is = by (nat_lt b.amount x.amount) is
  where
    by : (less : Bool) → (if less then Some x else Some b) ≡ Some d → (Some b ≡ Some d) ⊎ (d ≡ x)
    by true is = inr (sym (same_Some x d is))
    by false is = inl is

pub widest_in : (best : Option DifferenceState) (xs : List DifferenceState) (d : DifferenceState)
    → widest_from best xs ≡ Some d → (best ≡ Some d) ⊎ In d xs
widest_in best [] d is = inl is
widest_in best (x ∷ xs) d is =
    elim (widest_in (wider best x) xs d is) [
      | inl one ↦ elim (picked_one best x d one) [ inl old ↦ inl old | inr same ↦ inr (inl same) ]
      | inr later ↦ inr (inr later)
    ]

-- ---- where it is looked at

-- Told sources differ by this at one of some acts: as they are before it, where it is no event, or after it.
pub record IsToldAt (rs : List SystemReading) (ts : List ActTrace) (d : DifferenceState) : Type 0 where
  pub before : List ActTrace
  pub act : ActTrace
  pub behind : List ActTrace
  pub are : ts ≡ before ++ act ∷ behind
  pub told : ((is_change act.told.timed.act ≡ false)
      × (told_difference (at_of act) act.after (readings_after before rs) ≡ Some d))
      ⊎ (told_difference (at_of act) act.after (readings_after (before ++ act ∷ []) rs) ≡ Some d)

pub in_listed : {X : Type 0} (o : Option X) (x : X) → In x (listed o) → o ≡ Some x
in_listed None x member = absurd member
in_listed (Some y) x (inl same) = ap Some (sym same)
in_listed (Some y) x (inr nothing) = absurd nothing

told_so : (changes : Bool) (at : ℕ) (w : WorldState) (rs : List SystemReading) (d : DifferenceState)
    → told_if changes at w rs ≡ Some d → told_difference at w rs ≡ Some d
told_so true at w rs d is = is
told_so false at w rs d is = absurd (none-some d is)

-- an act by which a system gets a reading is no event
new_quiet : (act : Act) (done : Done) (w : WorldState) (rs : List SystemReading) (u : NewReading)
    → new_reading act done w rs ≡ Some u → is_change act ≡ false
new_quiet (Deliver link direction) done w rs u is = refl
new_quiet (Expire name timer) done w rs u is = refl
new_quiet (Changing change) done w rs u is = absurd (none-some u is)

event_told : (last : Bool) (at : ℕ) (w : WorldState) (rs : List SystemReading) (d : DifferenceState)
    → In d (looked_event last at w rs).differences → told_difference at w rs ≡ Some d
event_told true at w rs d member = in_listed (told_difference at w rs) d member
event_told false at w rs d member = absurd member

pub over_told : (rs : List SystemReading) (left : ℕ) (ts : List ActTrace) (d : DifferenceState)
    → In d (looked_over rs left ts).differences → IsToldAt rs ts d
over_told rs left [] d member = absurd member
over_told rs left (t ∷ ts) d member =
    elim (In-parts d (looked_in rs left t).differences
    (looked_over (read_after t rs) (left_after act left) ts).differences member) [
      | inl now ↦ by (new_in t rs) refl now
      | inr later ↦
          let r = over_told (read_after t rs) (left_after act left) ts d later in
          record {
            before = t ∷ r.before;
            act = r.act;
            behind = r.behind;
            are = ap (λ us. t ∷ us) r.are;
            told = r.told;
          }
    ]
  where
    act : Act
    act = t.told.timed.act

    by : (new : Option NewReading) → new_in t rs ≡ new
        → In d (looked_by (at_of t) t.after act left new rs (readings_by act new rs)).differences
        → IsToldAt rs (t ∷ ts) d
    by None is now = record {
      before = [];
      act = t;
      behind = ts;
      are = refl;
      told = inr (ap (λ o. told_difference (at_of t) t.after (readings_by act o rs)) is
          ∙ event_told (is_change act && (left == 1)) (at_of t) t.after (readings_by act None rs) d now);
    }
    by (Some u) is now = record {
      before = [];
      act = t;
      behind = ts;
      are = refl;
      told = elim (In-parts d (listed (told_if (changes_source u) (at_of t) t.after rs))
          (listed (told_if (changes_source u) (at_of t) t.after (readings_by act (Some u) rs))) now) [
            | inl first ↦
                inl (
                  new_quiet act t.told.done t.after rs u is,
                  told_so (changes_source u) (at_of t) t.after rs d
                      (in_listed (told_if (changes_source u) (at_of t) t.after rs) d first),
                )
            | inr second ↦
                inr (ap (λ o. told_difference (at_of t) t.after (readings_by act o rs)) is
                ∙ told_so (changes_source u) (at_of t) t.after (readings_by act (Some u) rs) d
                (in_listed (told_if (changes_source u) (at_of t) t.after (readings_by act (Some u) rs)) d second))
          ];
    }

-- ---- who reads from them

-- both ends are so
abbrev BothSo : (SourceTime → Type 0) → Option Ends → Type 0
BothSo So None = ⊤
BothSo So (Some ends) = So ends.ahead × So ends.behind

pick_so : (So : SourceTime → Type 0) (first second third : Bool) (best one : SourceTime) → So best → So one
    → So (if first then one else if second then best else if third then one else best)
pick_so So true second third best one a b = b
pick_so So false true third best one a b = a
pick_so So false false true best one a b = b
pick_so So false false false best one a b = a

with_so : (So : SourceTime → Type 0) (ends : Option Ends) (one : Option SourceTime) → BothSo So ends
    → ((s : SourceTime) → one ≡ Some s → So s) → BothSo So (ends_with ends one)
with_so So None None both each = tt
with_so So (Some ends) None both each = both
with_so So None (Some one) both each = (each one refl, each one refl)
with_so So (Some ends) (Some one) both each = (
  pick_so So (int_lt (time_of ends.ahead) (time_of one)) (int_lt (time_of one) (time_of ends.ahead))
      (nat_lt one.source.clock ends.ahead.source.clock) ends.ahead one both.0 (each one refl),
  pick_so So (int_lt (time_of one) (time_of ends.behind)) (int_lt (time_of ends.behind) (time_of one))
      (nat_lt one.source.clock ends.behind.source.clock) ends.behind one both.1 (each one refl),
)

ends_so : (So : SourceTime → Type 0) (time : ℕ) (w : WorldState) (ends : Option Ends) (rs : List SystemReading)
    → BothSo So ends → ((x : SystemReading) → In x rs → (s : SourceTime) → told_time time w x ≡ Some s → So s)
    → BothSo So (ends_from time w ends rs)
ends_so So time w ends [] both each = both
ends_so So time w ends (x ∷ xs) both each =
    ends_so So time w (ends_with ends (told_time time w x)) xs
    (with_so So ends (told_time time w x) both (each x (inl refl))) (λ y member. each y (inr member))

-- a system has time, and its source is this
pub record ReadsFromTold (time : ℕ) (w : WorldState) (rs : List SystemReading) (s : SourceTime) : Type 0 where
  pub system : SystemReading
  pub member : In system rs
  pub kept : KeptReading
  pub has : system.reading ≡ Some kept
  pub source : kept.source ≡ s.source
  pub shows : clock_time s.source.clock time w ≡ Some s.shown

told_from : (time : ℕ) (w : WorldState) (rs : List SystemReading) (x : SystemReading) (s : SourceTime) → In x rs
    → told_time time w x ≡ Some s → ReadsFromTold time w rs s
told_from time w rs x s member told = by x.reading refl told
  where
    at_source : (kept : KeptReading) → x.reading ≡ Some kept → (shown : Option ℤ)
        → clock_time kept.source.clock time w ≡ shown
        → option_map (λ (z : ℤ). record { source = kept.source; shown = z }) shown ≡ Some s
        → ReadsFromTold time w rs s
    at_source kept has None shows is = absurd (none-some s is)
    at_source kept has (Some z) shows is =
        let one : SourceTime = record { source = kept.source; shown = z } in
        subst (ReadsFromTold time w rs) (same_Some one s is) (record {
          system = x;
          member = member;
          kept = kept;
          has = has;
          source = refl;
          shows = shows;
        })

    by : (reading : Option KeptReading) → x.reading ≡ reading → option_and_then (source_at time w) reading ≡ Some s
        → ReadsFromTold time w rs s
    by None has is = absurd (none-some s is)
    by (Some kept) has is = at_source kept has (clock_time kept.source.clock time w) refl is

-- two systems, whose sources differ by this
pub record AreTwo (time : ℕ) (w : WorldState) (rs : List SystemReading) (d : DifferenceState) : Type 0 where
  pub first : SourceTime
  pub second : SourceTime
  pub first_told : ReadsFromTold time w rs first
  pub second_told : ReadsFromTold time w rs second
  pub ahead : first.source.clock ≡ d.ahead
  pub behind : second.source.clock ≡ d.behind
  pub differ : unsigned_abs (time_of first -ℤ time_of second) ≡ d.amount

pub two_told : (time : ℕ) (w : WorldState) (rs : List SystemReading) (d : DifferenceState)
    → told_difference time w rs ≡ Some d → AreTwo time w rs d
two_told time w rs d is =
    by (ends_from time w None rs)
    (ends_so (ReadsFromTold time w rs) time w None rs tt (λ x member s told. told_from time w rs x s member told)) is
  where
    by : (ends : Option Ends) → BothSo (ReadsFromTold time w rs) ends → difference_of ends ≡ Some d
        → AreTwo time w rs d
    by None both is = absurd (none-some d is)
    by (Some ends) both is =
        amount (unsigned_abs (time_of ends.ahead -ℤ time_of ends.behind) == 0) is
      where
        one : DifferenceState
        one = record {
          amount = unsigned_abs (time_of ends.ahead -ℤ time_of ends.behind);
          ahead = ends.ahead.source.clock;
          behind = ends.behind.source.clock;
        }

        amount : (none : Bool) → (if none then None else Some one) ≡ Some d → AreTwo time w rs d
        amount true is = absurd (none-some d is)
        amount false is =
            let same = same_Some one d is in record {
              first = ends.ahead;
              second = ends.behind;
              first_told = both.0;
              second_told = both.1;
              ahead = ap (λ (x : DifferenceState). x.ahead) same;
              behind = ap (λ (x : DifferenceState). x.behind) same;
              differ = ap (λ (x : DifferenceState). x.amount) same;
            }

-- ---- what is kept of one of them

-- where clocks rise, it is found by its clock
pub among_own : (rs : List SystemReading) → ReadingsRise rs → (x : SystemReading) → In x rs
    → reading_among rs x.clock ≡ x.reading
among_own [] rise x member = absurd member
among_own (y ∷ ys) rise x (inl same) =
    subst (λ (z : SystemReading). reading_among (y ∷ ys) z.clock ≡ z.reading) (sym same)
    (own (y.clock == y.clock) itself)
  where
    itself : y.clock == y.clock ≡ true
    itself = grind (arith, nat_tests)

    own : (test : Bool) → test ≡ true → (if test then y.reading else reading_among ys y.clock) ≡ y.reading
    own true is = refl
    own false is = absurd cc
among_own (y ∷ ys) rise x (inr later) =
    let above : y.clock < x.clock = rise.0 x.clock (In-map (λ (z : SystemReading). z.clock) x ys later) in
    let apart : y.clock == x.clock ≡ false = grind (arith, nat_tests) in
    rw apart (among_own ys rise.1 x later)
