-- What is kept of the stretches that passed.
use Rattle.std.proofs.Common.{◌≡◌, ◌<◌, ◌++◌, ℕ, Bool, true, false, List, [], ◌∷◌, length, Option, Some, None, option_map, refl, sym, ap, subst, ◌∙◌}
use Rattle.std.specs.List.{AllByRecursion}
use Rattle.gptp_timeline.specs.Aside.{aside_begun, aside_over, AsideState, nobody_aside, readings_begun}
use Rattle.gptp_timeline.specs.LastStretches.{all_kept, aside_if, carry_begun, carry_over, CarriedAside, end_in, first_aside, kept_after, last_behind, none_kept, none_last, stretch_aside, with_end}
use Rattle.gptp_timeline.specs.Limits.{exceeded_after}
use Rattle.gptp_timeline.specs.Looks.{measured_times}
use Rattle.gptp_timeline.specs.Readings.{readings_after}
use Rattle.gptp_timeline.specs.Stretch.{waits}
use Rattle.gptp_timeline.specs.Timeline.{all_exceeded, Carried, carry, none_waits, StretchTrace, stretch_of}
use Rattle.gptp_timeline.specs.declared.ends.LastStretches.{LastStretches}
use Rattle.gptp_timeline.specs.declared.ends.StretchesSoFar.{StretchesSoFar}
use Rattle.gptp_timeline.specs.declared.limits.Limits.{Limits}
use Rattle.gptp_timeline.specs.declared.readings.SystemReading.{SystemReading}
use Rattle.gptp_timeline.proofs.AsideLemmas.{later_acts, later_begins, later_over, nobody_acts, nobody_begins, nobody_over}

-- ---- where nobody is set aside

nobody_reads : (a : AsideState) → a.clocks ≡ [] → (readings : Option (List SystemReading))
    → option_map (readings_begun a) readings ≡ readings
nobody_reads a nobody None = refl
nobody_reads a nobody (Some rs) = ap Some (nobody_begins a nobody rs)

-- a stretch begins with what was carried over
pub nobody_begun : (at : ℕ) (c : CarriedAside) → c.aside.clocks ≡ [] → (carry_begun at c).carried ≡ c.carried
nobody_begun at c nobody =
    ap (λ readings. record c.carried { readings = readings }) (nobody_reads (aside_begun at c.aside) nobody
    c.carried.readings)

-- so it ends
pub nobody_stretch : (names : List ℕ) (c : CarriedAside) (p : StretchTrace) → c.aside.clocks ≡ []
    → stretch_aside names c p ≡ stretch_of names c.carried p
nobody_stretch names c p nobody =
    ap (λ us. record (stretch_of names c.carried p) {
      times = option_map (λ rs. measured_times rs (length p.events) us p.to p.after) c.carried.readings;
    }) (nobody_acts p.acts c.aside nobody)

pub nobody_over_it : (p : StretchTrace) (c : CarriedAside) → c.aside.clocks ≡ []
    → (carry_over p c).carried ≡ carry p.acts c.carried
nobody_over_it p c nobody =
    ap (λ us. record {
      since = waits p.acts c.carried.since;
      readings = option_map (readings_after us) (carry_begun p.from c).carried.readings;
    }) (nobody_acts p.acts (aside_begun p.from c.aside) nobody)
    ∙ ap (carry p.acts) (nobody_begun p.from c nobody)

pub nobody_next : (p : StretchTrace) (c : CarriedAside) → c.aside.clocks ≡ [] → (carry_over p c).aside.clocks ≡ []
nobody_next p c nobody = nobody_over p.acts (aside_begun p.from c.aside) nobody

-- its stretch is that of a timeline
pub nobody_ends : (names : List ℕ) (c : CarriedAside) (p : StretchTrace) → c.aside.clocks ≡ []
    → (end_in names c p).stretch ≡ stretch_of names c.carried p
nobody_ends names c p nobody =
    nobody_stretch names (carry_begun p.from c) p nobody
    ∙ ap (λ carried. stretch_of names carried p) (nobody_begun p.from c nobody)

module _ (limits : Limits) (names : List ℕ) where
  -- the first limit that was exceeded
  exceeded_from : (ps : List StretchTrace) (c : CarriedAside) (kept : StretchesSoFar) (carried : Carried)
      → c.aside.clocks ≡ [] → c.carried ≡ carried
      → (all_kept limits names c ps kept).exceeded ≡ all_exceeded limits names carried ps kept.exceeded
  exceeded_from [] c kept carried nobody same = refl
  exceeded_from (p ∷ ps) c kept carried nobody same =
      exceeded_from ps (carry_over p c) (kept_after limits (end_in names c p) kept) (carry p.acts carried)
      (nobody_next p c nobody)
      (nobody_over_it p c nobody ∙ ap (carry p.acts) same)
      ∙ ap (λ s. all_exceeded limits names (carry p.acts carried) ps (exceeded_after limits s kept.exceeded))
      (nobody_ends names c p nobody ∙ ap (λ k. stretch_of names k p) same)

  pub exceeded_is : (ps : List StretchTrace) (c : CarriedAside) (kept : StretchesSoFar) → c.aside.clocks ≡ []
      → kept ≡ all_kept limits names c ps none_kept
      → kept.exceeded ≡ all_exceeded limits names c.carried ps None
  exceeded_is ps c kept nobody is =
      ap (λ (k : StretchesSoFar). k.exceeded) is ∙ exceeded_from ps c none_kept c.carried nobody refl

  -- the last three
  pub last_from : (ps : List StretchTrace) (c : CarriedAside) (kept : StretchesSoFar)
      → (all_kept limits names c ps kept).last ≡ last_behind names c ps kept.last
  last_from [] c kept = refl
  last_from (p ∷ ps) c kept = last_from ps (carry_over p c) (kept_after limits (end_in names c p) kept)

  pub last_are : (ps : List StretchTrace) (c : CarriedAside) (kept : StretchesSoFar)
      → kept ≡ all_kept limits names c ps none_kept → kept.last ≡ last_behind names c ps none_last
  last_are ps c kept is = ap (λ (k : StretchesSoFar). k.last) is ∙ last_from ps c none_kept

-- ---- what several carry over

abbrev pub over_all : List StretchTrace → CarriedAside → CarriedAside
over_all [] c = c
over_all (p ∷ ps) c = over_all ps (carry_over p c)

pub over_one : (ps : List StretchTrace) (p : StretchTrace) (c : CarriedAside)
    → over_all (ps ++ p ∷ []) c ≡ carry_over p (over_all ps c)
over_one [] p c = refl
over_one (q ∷ qs) p c = over_one qs p (carry_over q c)

-- ---- where systems are set aside later

later_reads : (a : AsideState) → a.begun < a.from → (readings : Option (List SystemReading))
    → option_map (readings_begun a) readings ≡ readings
later_reads a later None = refl
later_reads a later (Some rs) = ap Some (later_begins a later rs)

-- a stretch that begins earlier begins with what was carried over
pub later_begun : (at : ℕ) (c : CarriedAside) → at < c.aside.from → (carry_begun at c).carried ≡ c.carried
later_begun at c later =
    ap (λ readings. record c.carried { readings = readings }) (later_reads (aside_begun at c.aside) later
    c.carried.readings)

later_over_it : (p : StretchTrace) (c : CarriedAside) → p.from < c.aside.from
    → (carry_over p c).carried ≡ carry p.acts c.carried
later_over_it p c later =
    ap (λ us. record {
      since = waits p.acts c.carried.since;
      readings = option_map (readings_after us) (carry_begun p.from c).carried.readings;
    }) (later_acts p.acts (aside_begun p.from c.aside) later)
    ∙ ap (carry p.acts) (later_begun p.from c later)

-- What is carried over is the same as where nobody is set aside; these will be.
pub record AreAlike (a : AsideState) (c d : CarriedAside) : Type 0 where
  pub carried : d.carried ≡ c.carried
  pub nobody : c.aside.clocks ≡ []
  pub aside : (at : ℕ) → aside_begun at d.aside ≡ aside_begun at a

-- so it is after several that began earlier
pub later_all : (a : AsideState) (ps : List StretchTrace) (c d : CarriedAside)
    → AllByRecursion (λ (p : StretchTrace). p.from < a.from) ps → AreAlike a c d
    → AreAlike a (over_all ps c) (over_all ps d)
later_all a [] c d early alike = alike
later_all a (p ∷ ps) c d early alike =
    let from : d.aside.from ≡ a.from = ap (λ (b : AsideState). b.from) (alike.aside 0) in
    let late : p.from < d.aside.from = subst (λ time. p.from < time) (sym from) early.0 in
    later_all a ps (carry_over p c) (carry_over p d) early.1 (record {
      carried = later_over_it p d late ∙ ap (carry p.acts) alike.carried ∙ sym (nobody_over_it p c alike.nobody);
      nobody = nobody_next p c alike.nobody;
      aside = λ at. ap (aside_begun at) (later_over p.acts (aside_begun p.from d.aside) late) ∙ alike.aside at;
    })

-- ---- the last three ends

module _ (names : List ℕ) where
  -- of some stretches and others after them
  pub last_over : (ps qs : List StretchTrace) (c : CarriedAside) (ends : LastStretches)
      → (before : LastStretches)
      × (last_behind names c (ps ++ qs) ends ≡ last_behind names (over_all ps c) qs before)
  last_over [] qs c ends = (ends, refl)
  last_over (p ∷ ps) qs c ends = last_over ps qs (carry_over p c) (with_end ends (end_in names c p))

  -- where there are three, those before don't matter
  pub last_alone : (p q r : StretchTrace) (ps : List StretchTrace) (c : CarriedAside) (one other : LastStretches)
      → last_behind names c (p ∷ q ∷ r ∷ ps) one ≡ last_behind names c (p ∷ q ∷ r ∷ ps) other
  last_alone p q r ps c one other = refl

  -- nor does it who is set aside, where it isn't asked what systems read
  abbrev unread : (ℕ → Option ℕ) → AsideState → CarriedAside
  unread since a = record { carried = record { since = since; readings = None }; aside = a }

  last_unread : (ps : List StretchTrace) (since : ℕ → Option ℕ) (a b : AsideState) (ends : LastStretches)
      → last_behind names (unread since a) ps ends ≡ last_behind names (unread since b) ps ends
  last_unread [] since a b ends = refl
  last_unread (p ∷ ps) since a b ends =
      last_unread ps (waits p.acts since) (aside_over p.acts (aside_begun p.from a))
      (aside_over p.acts (aside_begun p.from b)) (with_end ends (end_in names (unread since a) p))

  pub last_asked : (asked : Bool) (ps : List StretchTrace) (a : AsideState) (ends : LastStretches)
      → last_behind names (first_aside asked a names) ps ends
      ≡ last_behind names (first_aside asked (aside_if asked a) names) ps ends
  last_asked true ps a ends = refl
  last_asked false ps a ends = last_unread ps none_waits a nobody_aside ends
