-- The ends of the sources that are told are those of the systems that read from them.
use Rattle.std.proofs.Common.{◌≡◌, ◌⊎◌, ◌||◌, ◌≤◌, ◌<ℤ◌, ℕ, ℤ, int_lt, nat_lt, Bool, true, false, List, [], ◌∷◌, map, Option, Some, None, option_map, option_and_then, if◌then◌else◌, refl, sym, ap, subst, ◌∙◌, inl, inr, arith}
use Rattle.std.specs.Option.{option_map_or}
use Rattle.std.proofs.lemmas.Bool.Decides.{nat_tests}
use Rattle.std.proofs.lemmas.Int.{ints}
use Rattle.std.proofs.lemmas.Option.{none-some, same_Some}
use Rattle.gptp_lists.specs.Members.{In}
use Rattle.gptp_lists.proofs.SystemSpecLemmas.{In-map}
use Rattle.gptp_model.specs.World.{WorldState}
use Rattle.gptp_timeline.specs.Readings.{clock_time, same_source}
use Rattle.gptp_timeline.specs.Sources.{difference_of, ends_from, ends_with, further_ahead, further_behind, source_at, time_of, told_difference, told_time}
use Rattle.gptp_timeline.specs.ToldSources.{AreSources, ends_among, is_told, reads_from, source_of}
use Rattle.gptp_timeline.specs.declared.readings.KeptReading.{KeptReading}
use Rattle.gptp_timeline.specs.declared.readings.SystemReading.{SystemReading}
use Rattle.gptp_timeline.specs.declared.readings.TimeSource.{TimeSource}
use Rattle.gptp_timeline.specs.declared.sources.Ends.{Ends}
use Rattle.gptp_timeline.specs.declared.sources.SourceTime.{SourceTime}
use Rattle.gptp_timeline.proofs.TimeSourceLemmas.{source_is, source_own}

-- ---- which of two is further

-- the one is further than the other, or is that: its time goes before, or is the same with a clock that isn't higher
abbrev Further : (ℤ → ℤ → Type 0) → SourceTime → SourceTime → Type 0
Further before a b = before (time_of a) (time_of b) ⊎ ((time_of a ≡ time_of b) × (a.source.clock ≤ b.source.clock))

abbrev greater : ℤ → ℤ → Type 0
greater x y = y <ℤ x

abbrev less : ℤ → ℤ → Type 0
less x y = x <ℤ y

is_less : (a b : ℤ) → int_lt a b ≡ true → a <ℤ b
is_less a b is = grind (arith, ints)

are_same : (a b : ℤ) → int_lt a b ≡ false → int_lt b a ≡ false → a ≡ b
are_same a b one other = grind (arith, ints)

itself : (before : ℤ → ℤ → Type 0) (a : SourceTime) → Further before a a
itself before a = inr (refl, let le : a.source.clock ≤ a.source.clock = omega arith in le)

-- where they have one clock, that shows the same
abbrev ShowAlike : SourceTime → SourceTime → Type 0
ShowAlike a b = a.source.clock ≡ b.source.clock → a.shown ≡ b.shown

one_source : (a b : SourceTime) → ShowAlike a b → time_of a ≡ time_of b → a.source.clock ≡ b.source.clock → a ≡ b
one_source a b alike times clocks =
    let shown = alike clocks in
    let bases : a.source.base ≡ b.source.base = omega (arith, ints, times, shown) in
    λ i. record { source = record { clock = clocks i; base = bases i }; shown = shown i }

ahead_on : (a b c : SourceTime) → Further greater a b → Further greater b c → Further greater a c
ahead_on a b c (inl x) (inl y) = inl (omega (arith, ints, x, y))
ahead_on a b c (inl x) (inr (same, le)) = inl (subst (λ z. greater (time_of a) z) same x)
ahead_on a b c (inr (same, le)) (inl y) = inl (subst (λ z. greater z (time_of c)) (sym same) y)
ahead_on a b c (inr (same, le)) (inr (also, more)) = inr (same ∙ also, omega (arith, le, more))

ahead_same : (a b : SourceTime) → ShowAlike a b → Further greater a b → Further greater b a → a ≡ b
ahead_same a b alike (inl x) (inl y) = absurd (omega (arith, ints, x, y))
ahead_same a b alike (inl x) (inr (same, le)) = absurd (omega (arith, ints, x, same))
ahead_same a b alike (inr (same, le)) (inl y) = absurd (omega (arith, ints, y, same))
ahead_same a b alike (inr (same, le)) (inr (also, more)) = one_source a b alike same (omega (arith, le, more))

behind_on : (a b c : SourceTime) → Further less a b → Further less b c → Further less a c
behind_on a b c (inl x) (inl y) = inl (omega (arith, ints, x, y))
behind_on a b c (inl x) (inr (same, le)) = inl (subst (λ z. less (time_of a) z) same x)
behind_on a b c (inr (same, le)) (inl y) = inl (subst (λ z. less z (time_of c)) (sym same) y)
behind_on a b c (inr (same, le)) (inr (also, more)) = inr (same ∙ also, omega (arith, le, more))

behind_same : (a b : SourceTime) → ShowAlike a b → Further less a b → Further less b a → a ≡ b
behind_same a b alike (inl x) (inl y) = absurd (omega (arith, ints, x, y))
behind_same a b alike (inl x) (inr (same, le)) = absurd (omega (arith, ints, x, same))
behind_same a b alike (inr (same, le)) (inl y) = absurd (omega (arith, ints, y, same))
behind_same a b alike (inr (same, le)) (inr (also, more)) = one_source a b alike same (omega (arith, le, more))

-- the one of two that is taken is one of them, and no less far than both
record IsTaken (before : ℤ → ℤ → Type 0) (a b taken : SourceTime) : Type 0 where
  one_of : (taken ≡ a) ⊎ (taken ≡ b)
  first : Further before taken a
  second : Further before taken b

ahead_taken : (best one : SourceTime) → IsTaken greater best one (further_ahead best one)
ahead_taken best one =
    by (int_lt (time_of best) (time_of one)) (int_lt (time_of one) (time_of best))
    (nat_lt one.source.clock best.source.clock) refl refl refl
  where
    by : (l m lower : Bool) → int_lt (time_of best) (time_of one) ≡ l → int_lt (time_of one) (time_of best) ≡ m
        → nat_lt one.source.clock best.source.clock ≡ lower
        → IsTaken greater best one (if l then one else if m then best else if lower then one else best)
    by true m lower is also low =
        record { one_of = inr refl; first = inl (is_less (time_of best) (time_of one) is); second = itself greater one }
    by false true lower is also low =
        record {
          one_of = inl refl;
          first = itself greater best;
          second = inl (is_less (time_of one)
              (time_of best) also);
        }
    by false false true is also low =
        let same = are_same (time_of one) (time_of best) also is in
        record { one_of = inr refl; first = inr (same, grind (arith, nat_tests)); second = itself greater one }
    by false false false is also low =
        let same = are_same (time_of best) (time_of one) is also in
        record { one_of = inl refl; first = itself greater best; second = inr (same, grind (arith, nat_tests)) }

behind_taken : (best one : SourceTime) → IsTaken less best one (further_behind best one)
behind_taken best one =
    by (int_lt (time_of one) (time_of best)) (int_lt (time_of best) (time_of one))
    (nat_lt one.source.clock best.source.clock) refl refl refl
  where
    by : (l m lower : Bool) → int_lt (time_of one) (time_of best) ≡ l → int_lt (time_of best) (time_of one) ≡ m
        → nat_lt one.source.clock best.source.clock ≡ lower
        → IsTaken less best one (if l then one else if m then best else if lower then one else best)
    by true m lower is also low =
        record { one_of = inr refl; first = inl (is_less (time_of one) (time_of best) is); second = itself less one }
    by false true lower is also low =
        record { one_of = inl refl; first = itself less best; second = inl (is_less (time_of best) (time_of one) also) }
    by false false true is also low =
        let same = are_same (time_of one) (time_of best) is also in
        record { one_of = inr refl; first = inr (same, grind (arith, nat_tests)); second = itself less one }
    by false false false is also low =
        let same = are_same (time_of best) (time_of one) also is in
        record { one_of = inl refl; first = itself less best; second = inr (same, grind (arith, nat_tests)) }

-- ---- the ends of those that are there

record AreEnds (There : SourceTime → Type 0) (ends : Ends) : Type 0 where
  ahead_there : There ends.ahead
  behind_there : There ends.behind
  ahead : (s : SourceTime) → There s → Further greater ends.ahead s
  behind : (s : SourceTime) → There s → Further less ends.behind s

abbrev AreEndsIf : (SourceTime → Type 0) → Option Ends → Type 0
AreEndsIf There None = (s : SourceTime) → There s → ⊥
AreEndsIf There (Some ends) = AreEnds There ends

-- they are the same for the same sources
one_ends : (P Q : SourceTime → Type 0) (a b : Option Ends) → ((s t : SourceTime) → P s → P t → ShowAlike s t)
    → AreEndsIf P a → AreEndsIf Q b → ((s : SourceTime) → P s → Q s) → ((s : SourceTime) → Q s → P s) → a ≡ b
one_ends P Q None None alike none other to from = refl
one_ends P Q None (Some b) alike none be to from = absurd (none b.ahead (from b.ahead be.ahead_there))
one_ends P Q (Some a) None alike ae none to from = absurd (none a.ahead (to a.ahead ae.ahead_there))
one_ends P Q (Some a) (Some b) alike ae be to from =
    let ahead = ahead_same a.ahead b.ahead
    (alike a.ahead b.ahead ae.ahead_there (from b.ahead be.ahead_there)) (ae.ahead b.ahead
    (from b.ahead be.ahead_there))
    (be.ahead a.ahead (to a.ahead ae.ahead_there)) in
    let behind = behind_same a.behind b.behind
    (alike a.behind b.behind ae.behind_there (from b.behind be.behind_there)) (ae.behind b.behind
    (from b.behind be.behind_there))
    (be.behind a.behind (to a.behind ae.behind_there)) in
    λ i. Some (record { ahead = ahead i; behind = behind i })

as_there : (P Q : SourceTime → Type 0) (e : Option Ends) → ((s : SourceTime) → P s → Q s)
    → ((s : SourceTime) → Q s → P s) → AreEndsIf P e → AreEndsIf Q e
as_there P Q None to from none = λ s q. none s (from s q)
as_there P Q (Some e) to from are = record {
  ahead_there = to e.ahead are.ahead_there;
  behind_there = to e.behind are.behind_there;
  ahead = λ s q. are.ahead s (from s q);
  behind = λ s q. are.behind s (from s q);
}

-- with one more
with_one : (P : SourceTime → Type 0) (e : Option Ends) (one : Option SourceTime) → AreEndsIf P e
    → AreEndsIf (λ s. P s ⊎ (Some s ≡ one)) (ends_with e one)
with_one P None None none = λ s there. elim there [ inl p ↦ none s p | inr is ↦ none-some s (sym is) ]
with_one P (Some e) None are =
    as_there P (λ s. P s ⊎ (Some s ≡ None)) (Some e) (λ s p. inl p)
    (λ s there. elim there [ inl p ↦ p | inr is ↦ absurd (none-some s (sym is)) ]) are
with_one P None (Some one) none = record {
  ahead_there = inr refl;
  behind_there = inr refl;
  ahead = λ s there. alone greater s there;
  behind = λ s there. alone less s there;
}
  where
    alone : (before : ℤ → ℤ → Type 0) (s : SourceTime) → P s ⊎ (Some s ≡ Some one) → Further before one s
    alone before s (inl p) = absurd (none s p)
    alone before s (inr is) = subst (Further before one) (sym (same_Some s one is)) (itself before one)
with_one P (Some e) (Some one) are =
    let a = ahead_taken e.ahead one in let b = behind_taken e.behind one in record {
      ahead_there = there e.ahead (further_ahead e.ahead one) are.ahead_there a.one_of;
      behind_there = there e.behind (further_behind e.behind one) are.behind_there b.one_of;
      ahead = λ s is. ahead s a is;
      behind = λ s is. behind s b is;
    }
  where
    there : (old taken : SourceTime) → P old → (taken ≡ old) ⊎ (taken ≡ one) → P taken ⊎ (Some taken ≡ Some one)
    there old taken p (inl same) = inl (subst P (sym same) p)
    there old taken p (inr same) = inr (ap Some same)

    ahead : (s : SourceTime) → IsTaken greater e.ahead one (further_ahead e.ahead one) → P s ⊎ (Some s ≡ Some one)
        → Further greater (further_ahead e.ahead one) s
    ahead s a (inl p) = ahead_on (further_ahead e.ahead one) e.ahead s a.first (are.ahead s p)
    ahead s a (inr is) = subst (Further greater (further_ahead e.ahead one)) (sym (same_Some s one is)) a.second

    behind : (s : SourceTime) → IsTaken less e.behind one (further_behind e.behind one) → P s ⊎ (Some s ≡ Some one)
        → Further less (further_behind e.behind one) s
    behind s b (inl p) = behind_on (further_behind e.behind one) e.behind s b.first (are.behind s p)
    behind s b (inr is) = subst (Further less (further_behind e.behind one)) (sym (same_Some s one is)) b.second

-- ---- of several

abbrev ends_over : Option Ends → List (Option SourceTime) → Option Ends
ends_over e [] = e
ends_over e (x ∷ xs) = ends_over (ends_with e x) xs

over_are : (P : SourceTime → Type 0) (e : Option Ends) (xs : List (Option SourceTime)) → AreEndsIf P e
    → AreEndsIf (λ s. P s ⊎ In (Some s) xs) (ends_over e xs)
over_are P e [] are =
    as_there P (λ s. P s ⊎ In (Some s) []) e (λ s p. inl p)
    (λ s there. elim there [ inl p ↦ p | inr never ↦ absurd never ])
    are
over_are P e (x ∷ xs) are =
    as_there (λ s. (P s ⊎ (Some s ≡ x)) ⊎ In (Some s) xs) (λ s. P s ⊎ In (Some s) (x ∷ xs))
    (ends_over (ends_with e x) xs) to from
    (over_are (λ s. P s ⊎ (Some s ≡ x)) (ends_with e x) xs (with_one P e x are))
  where
    to : (s : SourceTime) → (P s ⊎ (Some s ≡ x)) ⊎ In (Some s) xs → P s ⊎ In (Some s) (x ∷ xs)
    to s (inl (inl p)) = inl p
    to s (inl (inr is)) = inr (inl is)
    to s (inr later) = inr (inr later)

    from : (s : SourceTime) → P s ⊎ In (Some s) (x ∷ xs) → (P s ⊎ (Some s ≡ x)) ⊎ In (Some s) xs
    from s (inl p) = inl (inl p)
    from s (inr (inl is)) = inl (inr is)
    from s (inr (inr later)) = inr later

abbrev NoSource : SourceTime → Type 0
NoSource s = ⊥

-- the same sources have the same ends
same_over : (xs ys : List (Option SourceTime))
    → ((s t : SourceTime) → In (Some s) xs → In (Some t) xs → ShowAlike s t)
    → ((s : SourceTime) → In (Some s) xs → In (Some s) ys)
    → ((s : SourceTime) → In (Some s) ys → In (Some s) xs) → ends_over None xs ≡ ends_over None ys
same_over xs ys alike to from =
    one_ends (λ s. NoSource s ⊎ In (Some s) xs) (λ s. NoSource s ⊎ In (Some s) ys) (ends_over None xs)
    (ends_over None ys) both_alike (over_are NoSource None xs (λ s never. never)) (over_are NoSource None ys
    (λ s never. never))
    (λ s there. elim there [ inl never ↦ inl never | inr x ↦ inr (to s x) ])
    (λ s there. elim there [ inl never ↦ inl never | inr y ↦ inr (from s y) ])
  where
    both_alike : (s t : SourceTime) → NoSource s ⊎ In (Some s) xs → NoSource t ⊎ In (Some t) xs → ShowAlike s t
    both_alike s t (inl never) there = absurd never
    both_alike s t (inr one) (inl never) = absurd never
    both_alike s t (inr one) (inr other) = alike s t one other

-- ---- of systems, and of sources

module _ (at : ℕ) (w : WorldState) where
  of_systems : (e : Option Ends) (rs : List SystemReading)
      → ends_from at w e rs ≡ ends_over e (map (told_time at w) rs)
  of_systems e [] = refl
  of_systems e (r ∷ rs) = of_systems (ends_with e (told_time at w r)) rs

  of_sources : (e : Option Ends) (ss : List TimeSource) → ends_among at w e ss ≡ ends_over e (map (source_of at w) ss)
  of_sources e [] = refl
  of_sources e (s ∷ ss) = of_sources (ends_with e (source_of at w s)) ss

  -- who reads from a source tells its time
  tells : (source : TimeSource) (r : SystemReading) → reads_from source r ≡ true
      → told_time at w r ≡ source_of at w source
  tells source r = by r.reading
    where
      by : (o : Option KeptReading) → option_map_or (λ (k : KeptReading). same_source k.source source) o false ≡ true
          → option_and_then (source_at at w) o ≡ source_of at w source
      by None is = absurd cc
      by (Some k) is = ap (source_of at w) (source_is k.source source is)

  told_there : (source : TimeSource) (rs : List SystemReading) → is_told source rs ≡ true
      → In (source_of at w source) (map (told_time at w) rs)
  told_there source [] is = absurd cc
  told_there source (r ∷ rs) is = by (reads_from source r) refl (told_there source rs) is
    where
      by : (own : Bool) → reads_from source r ≡ own
          → (is_told source rs ≡ true → In (source_of at w source) (map (told_time at w) rs))
          → own || is_told source rs ≡ true → In (source_of at w source) (map (told_time at w) (r ∷ rs))
      by true own rest is = inl (sym (tells source r own))
      by false own rest is = inr (rest is)

  -- what a system tells is the time of a source that is told
  record IsTold (s : SourceTime) (rs : List SystemReading) : Type 0 where
    source : TimeSource
    told : is_told source rs ≡ true
    is : source_of at w source ≡ Some s

  is_told_by : (s : SourceTime) (rs : List SystemReading) → In (Some s) (map (told_time at w) rs) → IsTold s rs
  is_told_by s [] there = absurd there
  is_told_by s (r ∷ rs) (inl is) = by r.reading refl is
    where
      by : (o : Option KeptReading) → r.reading ≡ o → Some s ≡ option_and_then (source_at at w) o
          → IsTold s (r ∷ rs)
      by None none is = absurd (none-some s (sym is))
      by (Some k) has is =
          let own = source_own k.source in
          let reads : reads_from k.source r ≡ true =
          ap (λ o. option_map_or (λ (x : KeptReading). same_source x.source k.source) o false) has ∙ own in record {
            source = k.source;
            told = ap (λ b. b || is_told k.source rs) reads;
            is = sym is;
          }
  is_told_by s (r ∷ rs) (inr later) =
      let t = is_told_by s rs later in record {
        source = t.source;
        told = ap (λ b. reads_from t.source r || b) t.told ∙ or_true (reads_from t.source r);
        is = t.is;
      }
    where
      or_true : (b : Bool) → b || true ≡ true
      or_true true = refl
      or_true false = refl

  -- a source of several that has a time
  source_there : (s : SourceTime) (ss : List TimeSource) → In (Some s) (map (source_of at w) ss)
      → (source : TimeSource) × In source ss × (source_of at w source ≡ Some s)
  source_there s [] there = absurd there
  source_there s (x ∷ xs) (inl is) = (x, inl refl, sym is)
  source_there s (x ∷ xs) (inr later) = let (source, there, is) = source_there s xs later in (source, inr there, is)

  -- its clock shows what it has
  source_shown : (source : TimeSource) (s : SourceTime) → source_of at w source ≡ Some s
      → clock_time s.source.clock at w ≡ Some s.shown
  source_shown source s = by (clock_time source.clock at w) refl
    where
      by : (o : Option ℤ) → clock_time source.clock at w ≡ o
          → option_map (λ shown. record { source = source; shown = shown }) o ≡ Some s
          → clock_time s.source.clock at w ≡ Some s.shown
      by None none is = absurd (none-some s is)
      by (Some shown) shows is =
          let one : record { source = source; shown = shown } ≡ s =
          same_Some (record { source = source; shown = shown }) s is in
          ap (λ (x : SourceTime). clock_time x.source.clock at w) (sym one) ∙ shows
          ∙ ap (λ (x : SourceTime). Some x.shown) one

  pub told_among : (ss : List TimeSource) (rs : List SystemReading) → AreSources ss rs
      → difference_of (ends_among at w None ss) ≡ told_difference at w rs
  told_among ss rs sources =
      ap difference_of
      (of_sources None ss
      ∙ same_over (map (source_of at w) ss) (map (told_time at w) rs) alike to from
      ∙ sym (of_systems None rs))
    where
      alike : (s t : SourceTime) → In (Some s) (map (source_of at w) ss) → In (Some t) (map (source_of at w) ss)
          → ShowAlike s t
      alike s t one other same =
          let (first, member, is) = source_there s ss one in
          let (second, among, also) = source_there t ss other in
          same_Some s.shown t.shown
          (sym (source_shown first s is) ∙ ap (λ name. clock_time name at w) same ∙ source_shown second t also)

      to : (s : SourceTime) → In (Some s) (map (source_of at w) ss) → In (Some s) (map (told_time at w) rs)
      to s there =
          let (source, member, is) = source_there s ss there in
          subst (λ o. In o (map (told_time at w) rs)) is (told_there source rs ((sources.are source).0 member))

      from : (s : SourceTime) → In (Some s) (map (told_time at w) rs) → In (Some s) (map (source_of at w) ss)
      from s there =
          let t = is_told_by s rs there in
          subst (λ o. In o (map (source_of at w) ss)) t.is
          (In-map (source_of at w) t.source ss ((sources.are t.source).1 t.told))
