-- Which sources are told after a system gets another reading, or loses the one that it has.
use Rattle.std.proofs.Common.{◌≡◌, ◌⊎◌, ◌==◌, ◌||◌, ◌<◌, ℕ, not, Bool, true, false, List, [], ◌∷◌, ◌++◌, filter, map, Option, Some, None, if◌then◌else◌, refl, sym, ap, subst, ◌∙◌, inl, inr, arith}
use Rattle.std.specs.List.{list_any}
use Rattle.std.specs.Option.{option_map_or}
use Rattle.std.proofs.lemmas.Bool.Decides.{nat_tests}
use Rattle.std.proofs.lemmas.Option.{none-some, same_Some}
use Rattle.gptp_lists.specs.Members.{In}
use Rattle.gptp_lists.proofs.SystemSpecLemmas.{In-left, In-parts, In-right}
use Rattle.gptp_timeline.specs.Readings.{put_reading, reading_among, same_source}
use Rattle.gptp_timeline.specs.ToldSources.{AreSources, is_told, IsAccount, reads_from, ReadingsRise, with_source, without_untold}
use Rattle.gptp_timeline.specs.declared.readings.KeptReading.{KeptReading}
use Rattle.gptp_timeline.specs.declared.readings.SystemReading.{SystemReading}
use Rattle.gptp_timeline.specs.declared.readings.TimeSource.{TimeSource}
use Rattle.gptp_timeline.proofs.PutLemmas.{rising_changed}
use Rattle.gptp_timeline.proofs.TimeSourceLemmas.{source_apart, source_is, source_own}

-- ---- who reads from a source

-- a reading from this source
abbrev From : Option KeptReading → TimeSource → Type 0
From o source = (kept : KeptReading) × (o ≡ Some kept) × (kept.source ≡ source)

reads_is : (source : TimeSource) (o : Option KeptReading)
    → option_map_or (λ (k : KeptReading). same_source k.source source) o false ≡ true → From o source
reads_is source None is = absurd cc
reads_is source (Some k) is = (k, refl, source_is k.source source is)

reads_so : (source : TimeSource) (o : Option KeptReading) → From o source
    → option_map_or (λ (k : KeptReading). same_source k.source source) o false ≡ true
reads_so source o (k, is, same) =
    let own : same_source k.source source ≡ true =
    subst (λ s. same_source k.source s ≡ true) same (source_own k.source) in
    ap (λ p. option_map_or (λ (x : KeptReading). same_source x.source source) p false) is ∙ own

or_is : (a b : Bool) → a || b ≡ true → (a ≡ true) ⊎ (b ≡ true)
or_is true b is = inl refl
or_is false b is = inr is

or_later : (a b : Bool) → b ≡ true → a || b ≡ true
or_later true b is = refl
or_later false b is = is

here : (source : TimeSource) (x : SystemReading) (xs : List SystemReading) → reads_from source x ≡ true
    → is_told source (x ∷ xs) ≡ true
here source x xs reads = ap (λ b. b || is_told source xs) reads

later : (source : TimeSource) (x : SystemReading) (xs : List SystemReading) → is_told source xs ≡ true
    → is_told source (x ∷ xs) ≡ true
later source x xs told = or_later (reads_from source x) (is_told source xs) told

-- the source of a system that has time is told
told_of : (rs : List SystemReading) (n : ℕ) (source : TimeSource) → From (reading_among rs n) source
    → is_told source rs ≡ true
told_of [] n source (k, is, same) = absurd (none-some k is)
told_of (x ∷ xs) n source from = by (x.clock == n) (told_of xs n source) from
  where
    by : (own : Bool) → (From (reading_among xs n) source → is_told source xs ≡ true)
        → From (if own then x.reading else reading_among xs n) source → is_told source (x ∷ xs) ≡ true
    by true rest is = here source x xs (reads_so source x.reading is)
    by false rest is = later source x xs (rest is)

-- ---- a reading is put

-- of the system that had one
pub put_there : (n : ℕ) (put old : KeptReading) (rs : List SystemReading) → reading_among rs n ≡ Some old
    → reading_among (put_reading n (Some put) rs) n ≡ Some put
put_there n put old [] is = absurd (none-some old is)
put_there n put old (x ∷ xs) is = by (x.clock == n) refl (put_there n put old xs) is
  where
    by : (own : Bool) → x.clock == n ≡ own
        → (reading_among xs n ≡ Some old → reading_among (put_reading n (Some put) xs) n ≡ Some put)
        → reading_among (x ∷ xs) n ≡ Some old
        → reading_among (put_reading n (Some put) (x ∷ xs)) n ≡ Some put
    by true own rest is = rw (own, own) refl
    by false own rest is = rw (own, own) (rest (rw own at is))

none_named : (n : ℕ) (put : Option KeptReading) (xs : List SystemReading)
    → ((y : ℕ) → In y (map (λ (x : SystemReading). x.clock) xs) → n < y) → put_reading n put xs ≡ xs
none_named n put [] above = refl
none_named n put (x ∷ xs) above =
    let more = above x.clock (inl refl) in
    let other : x.clock == n ≡ false = grind (arith, nat_tests) in
    rw other (ap (λ rest. x ∷ rest) (none_named n put xs (λ y there. above y (inr there))))

-- what is told then was, or is the source of what was put
told_after : (n : ℕ) (put : Option KeptReading) (rs : List SystemReading) (source : TimeSource)
    → is_told source (put_reading n put rs) ≡ true → (is_told source rs ≡ true) ⊎ From put source
told_after n put [] source told = absurd cc
told_after n put (x ∷ xs) source told = by (x.clock == n) refl (told_after n put xs source) told
  where
    past : (y : SystemReading) → (reads_from source y ≡ true → (is_told source (x ∷ xs) ≡ true) ⊎ From put source)
        → (is_told source (put_reading n put xs) ≡ true → (is_told source xs ≡ true) ⊎ From put source)
        → is_told source (y ∷ put_reading n put xs) ≡ true → (is_told source (x ∷ xs) ≡ true) ⊎ From put source
    past y first rest told =
        elim (or_is (reads_from source y) (is_told source (put_reading n put xs)) told) [
          | inl reads ↦ first reads
          | inr more ↦ elim (rest more) [ inl was ↦ inl (later source x xs was) | inr new ↦ inr new ]
        ]

    by : (own : Bool) → x.clock == n ≡ own
        → (is_told source (put_reading n put xs) ≡ true → (is_told source xs ≡ true) ⊎ From put source)
        → is_told source (put_reading n put (x ∷ xs)) ≡ true → (is_told source (x ∷ xs) ≡ true) ⊎ From put source
    by true own rest told =
        past (record x { reading = put }) (λ reads. inr (reads_is source put reads)) rest (rw own at told)
    by false own rest told = past x (λ reads. inl (here source x xs reads)) rest (rw own at told)

-- what was told is so still, or it was the source of that system
told_still : (n : ℕ) (put : Option KeptReading) (rs : List SystemReading) (source : TimeSource) → ReadingsRise rs
    → is_told source rs ≡ true
    → (is_told source (put_reading n put rs) ≡ true) ⊎ From (reading_among rs n) source
told_still n put [] source rise told = absurd cc
told_still n put (x ∷ xs) source rise told =
    by (x.clock == n) refl (told_still n put xs source rise.1) (or_is (reads_from source x) (is_told source xs) told)
  where
    by : (own : Bool) → x.clock == n ≡ own
        → (is_told source xs ≡ true
        → (is_told source (put_reading n put xs) ≡ true) ⊎ From (reading_among xs n) source)
        → (reads_from source x ≡ true) ⊎ (is_told source xs ≡ true)
        → (is_told source (put_reading n put (x ∷ xs)) ≡ true) ⊎ From (reading_among (x ∷ xs) n) source
    by true own rest (inl reads) = inr (rw own (reads_is source x.reading reads))
    by true own rest (inr more) =
        let same : x.clock ≡ n = grind (arith, nat_tests) in
        let stay : put_reading n put xs ≡ xs =
        none_named n put xs (λ y there. subst (λ c. c < y) same (rise.0 y there)) in
        inl (rw own (later source (record x { reading = put }) (put_reading n put xs)
        (subst (λ ys. is_told source ys ≡ true) (sym stay) more)))
    by false own rest (inl reads) = inl (rw own (here source x (put_reading n put xs) reads))
    by false own rest (inr more) =
        elim (rest more) [
          | inl still ↦ inl (rw own (later source x (put_reading n put xs) still))
          | inr from ↦ inr (rw own from)
        ]

-- ---- the list of told sources

in_any : (source : TimeSource) (ss : List TimeSource) → list_any (λ other. same_source other source) ss ≡ true
    → In source ss
in_any source [] is = absurd cc
in_any source (s ∷ ss) is =
    elim (or_is (same_source s source) (list_any (λ other. same_source other source) ss) is) [
      | inl own ↦ inl (sym (source_is s source own))
      | inr more ↦ inr (in_any source ss more)
    ]

with_in : (c s : TimeSource) (ss : List TimeSource) → In s (with_source c ss) → In s ss ⊎ (s ≡ c)
with_in c s ss = by (list_any (λ other. same_source other c) ss)
  where
    by : (has : Bool) → In s (if has then ss else ss ++ c ∷ []) → In s ss ⊎ (s ≡ c)
    by true there = inl there
    by false there = elim (In-parts s ss (c ∷ []) there) [
      | inl old ↦ inl old
      | inr (inl same) ↦ inr same
      | inr (inr none) ↦ absurd none
    ]

in_with : (c s : TimeSource) (ss : List TimeSource) → In s ss ⊎ (s ≡ c) → In s (with_source c ss)
in_with c s ss = by (list_any (λ other. same_source other c) ss) refl
  where
    by : (has : Bool) → list_any (λ other. same_source other c) ss ≡ has → In s ss ⊎ (s ≡ c)
        → In s (if has then ss else ss ++ c ∷ [])
    by true is (inl old) = old
    by true is (inr same) = subst (λ x. In x ss) (sym same) (in_any c ss is)
    by false is (inl old) = In-left s ss (c ∷ []) old
    by false is (inr same) = In-right s ss (c ∷ []) (inl same)

in_others : (c s : TimeSource) (ss : List TimeSource) → In s (filter (λ other. not (same_source other c)) ss)
    → In s ss × (s ≡ c → ⊥)
in_others c s [] there = absurd there
in_others c s (x ∷ xs) there = by (same_source x c) refl (in_others c s xs) there
  where
    by : (own : Bool) → same_source x c ≡ own
        → (In s (filter (λ other. not (same_source other c)) xs) → In s xs × (s ≡ c → ⊥))
        → In s (filter (λ other. not (same_source other c)) (x ∷ xs)) → In s (x ∷ xs) × (s ≡ c → ⊥)
    by true own rest there = let r = rest (rw own at there) in (inr r.0, r.1)
    by false own rest there = elim (rw own at there) [
      | inl same ↦ (inl same, λ is. source_apart x c own (sym same ∙ is))
      | inr more ↦ (let r = rest more in (inr r.0, r.1))
    ]

others_in : (c s : TimeSource) (ss : List TimeSource) → In s ss → (s ≡ c → ⊥)
    → In s (filter (λ other. not (same_source other c)) ss)
others_in c s [] there apart = absurd there
others_in c s (x ∷ xs) there apart = by (same_source x c) refl there (others_in c s xs)
  where
    by : (own : Bool) → same_source x c ≡ own → In s (x ∷ xs)
        → (In s xs → (s ≡ c → ⊥) → In s (filter (λ other. not (same_source other c)) xs))
        → In s (filter (λ other. not (same_source other c)) (x ∷ xs))
    by true own (inl same) rest = absurd (apart (same ∙ source_is x c own))
    by true own (inr more) rest = rw own (rest more apart)
    by false own (inl same) rest = rw own (inl same)
    by false own (inr more) rest = rw own (inr (rest more apart))

without_in : (c s : TimeSource) (rs : List SystemReading) (ss : List TimeSource) → In s (without_untold c rs ss)
    → In s ss × (s ≡ c → is_told c rs ≡ true)
without_in c s rs ss = by (is_told c rs) refl
  where
    by : (told : Bool) → is_told c rs ≡ told
        → In s (if told then ss else filter (λ other. not (same_source other c)) ss)
        → In s ss × (s ≡ c → is_told c rs ≡ true)
    by true is there = (there, λ same. is)
    by false is there = let r = in_others c s ss there in (r.0, λ same. absurd (r.1 same))

in_without : (c s : TimeSource) (rs : List SystemReading) (ss : List TimeSource) → In s ss
    → (s ≡ c → is_told c rs ≡ true)
    → In s (without_untold c rs ss)
in_without c s rs ss there told = by (is_told c rs) refl
  where
    by : (b : Bool) → is_told c rs ≡ b → In s (if b then ss else filter (λ other. not (same_source other c)) ss)
    by true is = there
    by false is = others_in c s ss there (λ same. let t : true ≡ false = sym (told same) ∙ is in cc)

-- ---- they are those of the systems then

module _ (n : ℕ) (put : Option KeptReading) (rs : List SystemReading) (ss : List TimeSource) (rise : ReadingsRise rs)
    (sources : AreSources ss rs) where
  abbrev after : List SystemReading
  after = put_reading n put rs

  -- where a source is kept just where it is told
  told_kept : (s : TimeSource) → is_told s rs ≡ true → (From (reading_among rs n) s → is_told s after ≡ true)
      → is_told s after ≡ true
  told_kept s told old = elim (told_still n put rs s rise told) [ inl still ↦ still | inr from ↦ old from ]

-- no system had the source that it has
module _ (n : ℕ) (new : KeptReading) (rs : List SystemReading) (ss : List TimeSource) (rise : ReadingsRise rs)
    (sources : AreSources ss rs) where
  abbrev put : List SystemReading
  put = put_reading n (Some new) rs

  told_new : (s : TimeSource) → is_told s put ≡ true → In s (with_source new.source ss)
  told_new s told =
      in_with new.source s ss
      (elim (told_after n (Some new) rs s told) [
        | inl was ↦ inl ((sources.are s).1 was)
        | inr (k, is, same) ↦ inr (sym same ∙ ap (λ (x : KeptReading). x.source) (sym (same_Some new k is)))
      ])

  pub sources_first : reading_among rs n ≡ None
      → AreSources (without_untold new.source put (with_source new.source ss)) put
  sources_first none = record { are = λ s. (to s, from s) }
    where
      to : (s : TimeSource) → In s (without_untold new.source put (with_source new.source ss)) → is_told s put ≡ true
      to s there =
          let (member, told) = without_in new.source s put (with_source new.source ss) there in
          elim (with_in new.source s ss member) [
            | inr same ↦ subst (λ c. is_told c put ≡ true) (sym same) (told same)
            | inl old ↦ told_kept n (Some new) rs ss rise sources s ((sources.are s).0 old)
                (λ f. absurd (none-some f.0 (sym none ∙ f.1)))
          ]

      from : (s : TimeSource) → is_told s put ≡ true → In s (without_untold new.source put (with_source new.source ss))
      from s told =
          in_without new.source s put (with_source new.source ss) (told_new s told)
          (λ same. subst (λ c. is_told c put ≡ true) same told)

  pub sources_other : (old : KeptReading) → reading_among rs n ≡ Some old
      → AreSources (without_untold old.source put (without_untold new.source put (with_source new.source ss))) put
  sources_other old has = record { are = λ s. (to s, from s) }
    where
      some : List TimeSource
      some = without_untold new.source put (with_source new.source ss)

      to : (s : TimeSource) → In s (without_untold old.source put some) → is_told s put ≡ true
      to s there =
          let (inside, told_old) = without_in old.source s put some there in
          let (member, told) = without_in new.source s put (with_source new.source ss) inside in
          elim (with_in new.source s ss member) [
            | inr same ↦ subst (λ c. is_told c put ≡ true) (sym same) (told same)
            | inl was ↦ told_kept n (Some new) rs ss rise sources s ((sources.are s).0 was)
                (λ f.
                (let same : s ≡ old.source =
                sym f.2 ∙ ap (λ (x : KeptReading). x.source) (same_Some f.0 old (sym f.1 ∙ has)) in
                subst (λ c. is_told c put ≡ true) (sym same) (told_old same)))
          ]

      from : (s : TimeSource) → is_told s put ≡ true → In s (without_untold old.source put some)
      from s told =
          in_without old.source s put some
          (in_without new.source s put (with_source new.source ss) (told_new s told)
          (λ same. subst (λ c. is_told c put ≡ true) same told))
          (λ same. subst (λ c. is_told c put ≡ true) same told)

  pub sources_same : (old : KeptReading) → reading_among rs n ≡ Some old → old.source ≡ new.source
      → AreSources ss put
  sources_same old has one = record { are = λ s. (to s, from s) }
    where
      to : (s : TimeSource) → In s ss → is_told s put ≡ true
      to s there =
          told_kept n (Some new) rs ss rise sources s ((sources.are s).0 there)
          (λ f. told_of put n s (
            new,
            put_there n new old rs has,
            sym one ∙ ap (λ (x : KeptReading). x.source) (same_Some old f.0 (sym has ∙ f.1)) ∙ f.2,
          ))

      from : (s : TimeSource) → is_told s put ≡ true → In s ss
      from s told =
          (sources.are s).1
          (elim (told_after n (Some new) rs s told) [
            | inl was ↦ was
            | inr (k, is, same) ↦ told_of rs n s (
              old,
              has,
              one ∙ ap (λ (x : KeptReading). x.source) (same_Some new k is) ∙ same,
            )
          ])

-- a system has no time any more
module _ (n : ℕ) (rs : List SystemReading) (ss : List TimeSource) (rise : ReadingsRise rs)
    (sources : AreSources ss rs) where
  abbrev left : List SystemReading
  left = put_reading n None rs

  was_told : (s : TimeSource) → is_told s left ≡ true → In s ss
  was_told s told = elim (told_after n None rs s told) [
    | inl was ↦ (sources.are s).1 was
    | inr (k, is, same) ↦ absurd (none-some k is)
  ]

  pub sources_none : reading_among rs n ≡ None → AreSources ss left
  sources_none none = record {
    are = λ s. (
      λ there. told_kept n None rs ss rise sources s ((sources.are s).0 there)
          (λ f. absurd (none-some f.0 (sym none ∙ f.1))),
      was_told s,
    );
  }

  pub sources_lost : (old : KeptReading) → reading_among rs n ≡ Some old
      → AreSources (without_untold old.source left ss) left
  sources_lost old has = record { are = λ s. (to s, from s) }
    where
      to : (s : TimeSource) → In s (without_untold old.source left ss) → is_told s left ≡ true
      to s there =
          let (member, told) = without_in old.source s left ss there in
          told_kept n None rs ss rise sources s ((sources.are s).0 member)
          (λ f.
          (let same : s ≡ old.source =
          sym f.2 ∙ ap (λ (x : KeptReading). x.source) (same_Some f.0 old (sym f.1 ∙ has)) in
          subst (λ c. is_told c left ≡ true) (sym same) (told same)))

      from : (s : TimeSource) → is_told s left ≡ true → In s (without_untold old.source left ss)
      from s told =
          in_without old.source s left ss (was_told s told) (λ same. subst (λ c. is_told c left ≡ true) same told)

-- ---- an account of both

rise_put : (n : ℕ) (put : Option KeptReading) (rs : List SystemReading) → ReadingsRise rs
    → ReadingsRise (put_reading n put rs)
rise_put n put rs rise =
    rising_changed (λ (x : SystemReading). x.clock) n (λ (x : SystemReading). record x { reading = put }) rs
    (λ x. refl) rise

module _ (n : ℕ) (rs rs' : List SystemReading) (ss : List TimeSource) (account : IsAccount rs ss) where
  account_of : (put : Option KeptReading) (ss' : List TimeSource) → rs' ≡ put_reading n put rs
      → AreSources ss' (put_reading n put rs) → IsAccount rs' ss'
  account_of put ss' is sources =
      subst (λ us. IsAccount us ss') (sym is)
      (record { readings_rise = rise_put n put rs account.readings_rise; sources_are = sources })

  pub account_first : (new : KeptReading) (added ss' : List TimeSource) → reading_among rs n ≡ None
      → added ≡ with_source new.source ss → rs' ≡ put_reading n (Some new) rs
      → ss' ≡ without_untold new.source rs' added → IsAccount rs' ss'
  account_first new added ss' none adds puts drops =
      let are : ss' ≡ without_untold new.source (put_reading n (Some new) rs) (with_source new.source ss) =
      drops ∙ (λ i. without_untold new.source (puts i) (adds i)) in
      account_of (Some new) ss' puts (subst (λ us. AreSources us (put_reading n (Some new) rs)) (sym are)
      (sources_first n new rs ss account.readings_rise account.sources_are none))

  pub account_other : (old new : KeptReading) (added some ss' : List TimeSource) → reading_among rs n ≡ Some old
      → added ≡ with_source new.source ss → rs' ≡ put_reading n (Some new) rs
      → some ≡ without_untold new.source rs' added → ss' ≡ without_untold old.source rs' some → IsAccount rs' ss'
  account_other old new added some ss' has adds puts drops also =
      let are : ss' ≡ without_untold old.source (put_reading n (Some new) rs)
      (without_untold new.source (put_reading n (Some new) rs) (with_source new.source ss)) =
      also ∙ ap (without_untold old.source rs') drops
      ∙ (λ i. without_untold old.source (puts i) (without_untold new.source (puts i) (adds i))) in
      account_of (Some new) ss' puts (subst (λ us. AreSources us (put_reading n (Some new) rs)) (sym are)
      (sources_other n new rs ss account.readings_rise account.sources_are old has))

  pub account_same : (old new : KeptReading) → reading_among rs n ≡ Some old → old.source ≡ new.source
      → rs' ≡ put_reading n (Some new) rs → IsAccount rs' ss
  account_same old new has same puts =
      account_of (Some new) ss puts
      (sources_same n new rs ss account.readings_rise account.sources_are old has same)

  pub account_lost : (old : KeptReading) (ss' : List TimeSource) → reading_among rs n ≡ Some old
      → rs' ≡ put_reading n None rs → ss' ≡ without_untold old.source rs' ss → IsAccount rs' ss'
  account_lost old ss' has puts drops =
      let are : ss' ≡ without_untold old.source (put_reading n None rs) ss =
      drops ∙ ap (λ us. without_untold old.source us ss) puts in
      account_of None ss' puts (subst (λ us. AreSources us (put_reading n None rs)) (sym are)
      (sources_lost n rs ss account.readings_rise account.sources_are old has))

  pub account_none : reading_among rs n ≡ None → rs' ≡ put_reading n None rs → IsAccount rs' ss
  account_none none puts =
      account_of None ss puts (sources_none n rs ss account.readings_rise account.sources_are none)

-- ---- at first

pub no_sources : (rs : List SystemReading) → ((source : TimeSource) → is_told source rs ≡ true → ⊥) → AreSources [] rs
no_sources rs none = record { are = λ s. (λ there. absurd there, λ told. absurd (none s told)) }
