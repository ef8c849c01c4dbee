-- What is kept of what a system reads from its first receipt on that counts.
use Rattle.std.proofs.Common.{◌≡◌, ◌==◌, ◌≤◌, ◌<◌, ◌&&◌, ℕ, Bool, true, false, nat_le, nat_lt, List, [], ◌∷◌, ◌++◌, map, Option, Some, None, IfSome, option_map, if◌then◌else◌, unsigned_abs, refl, sym, ap, subst, ◌∙◌, arith}
use Rattle.std.specs.List.{AllByRecursion}
use Rattle.std.proofs.lemmas.Bool.Decides.{nat_tests}
use Rattle.std.proofs.lemmas.Option.{none-some}
use Rattle.gptp_model.specs.World.{WorldState}
use Rattle.gptp_timeline.specs.ExactReads.{counts_new, greater_of, later_of, reads_among, reads_by, reads_next, reads_over, reads_with, unread}
use Rattle.gptp_timeline.specs.Jumps.{error_before}
use Rattle.gptp_timeline.specs.Readings.{new_in, read_after, reading_error, readings_after}
use Rattle.gptp_timeline.specs.Stretch.{at_of}
use Rattle.gptp_timeline.specs.declared.exact_reads.ExactReads.{ExactReads}
use Rattle.gptp_timeline.specs.declared.exact_reads.SystemReads.{SystemReads}
use Rattle.gptp_timeline.specs.declared.readings.NewReading.{NewReading}
use Rattle.gptp_timeline.specs.declared.readings.SystemReading.{SystemReading}
use Rattle.gptp_world.specs.Transitions.{ActTrace}

module _ (from : Option ℕ) (at : ℕ) (w : WorldState) (u : NewReading) where
  -- of another system nothing changes
  pub reads_other : (xs : List SystemReads) (name : ℕ) → (name ≡ u.clock → ⊥)
      → reads_among (map (reads_with from at w u) xs) name ≡ reads_among xs name
  reads_other [] name apart = refl
  reads_other (x ∷ xs) name apart = by (x.clock == u.clock) refl (reads_other xs name apart)
    where
      by : (own : Bool) → x.clock == u.clock ≡ own
          → reads_among (map (reads_with from at w u) xs) name ≡ reads_among xs name
          → reads_among (map (reads_with from at w u) (x ∷ xs)) name ≡ reads_among (x ∷ xs) name
      by true own rest =
          let mine : x.clock ≡ u.clock = grind (arith, nat_tests) in
          let other : x.clock == name ≡ false = grind (arith, nat_tests) in
          rw (own, other) rest
      by false own rest = rw own (ap (λ o. if x.clock == name then x.reads else o) rest)

  abbrev before : Option ℕ
  before = option_map unsigned_abs (error_before at w u)

  abbrev after : Option ℕ
  after = option_map unsigned_abs (reading_error at w u.clock u.after)

  -- its own is the next
  pub reads_own : (xs : List SystemReads) (r : ExactReads)
      → reads_among (map (reads_with from at w u) xs) u.clock ≡ Some r
      → reads_next (counts_new from at u) at (option_map unsigned_abs (error_before at w u))
      (option_map unsigned_abs (reading_error at w u.clock u.after)) (reads_among xs u.clock) ≡ Some r
  reads_own [] r is = absurd (none-some r is)
  reads_own (x ∷ xs) r is = by (x.clock == u.clock) refl (reads_own xs r) is
    where
      by : (own : Bool) → x.clock == u.clock ≡ own
          → (reads_among (map (reads_with from at w u) xs) u.clock ≡ Some r
          → reads_next (counts_new from at u) at before after (reads_among xs u.clock) ≡ Some r)
          → reads_among (map (reads_with from at w u) (x ∷ xs)) u.clock ≡ Some r
          → reads_next (counts_new from at u) at before after (reads_among (x ∷ xs) u.clock) ≡ Some r
      by true own rest is = rw own (rw (own, own) at is)
      by false own rest is = rw own (rest (rw (own, own) at is))

-- ---- receipts that count

pub counts_not : (from at : ℕ) (u : NewReading) → at < from → counts_new (Some from) at u ≡ false
counts_not from at u early =
    let test : nat_le from at ≡ false = grind (arith, nat_tests) in
    rw test (no u.received)
  where
    no : (b : Bool) → b && false ≡ false
    no true = refl
    no false = refl

pub counts_so : (from at : ℕ) (u : NewReading) → from ≤ at → u.received ≡ true → counts_new (Some from) at u ≡ true
counts_so from at u late received =
    let test : nat_le from at ≡ true = grind (arith, nat_tests) in rw (test, received) refl

-- ---- before that nothing is kept

abbrev pub NoReads : ℕ → List SystemReads → Type 0
NoReads name xs = reads_among xs name ≡ None

pub unread_none : (names : List ℕ) (name : ℕ) → NoReads name (map unread names)
unread_none [] name = refl
unread_none (n ∷ ns) name = by (n == name) (unread_none ns name)
  where
    by : (own : Bool) → reads_among (map unread ns) name ≡ None
        → (if own then None else reads_among (map unread ns) name) ≡ None
    by true rest = refl
    by false rest = rest

none_of : {A : Type 0} (o : Option A) → ((x : A) → o ≡ Some x → ⊥) → o ≡ None
none_of None never = refl
none_of (Some x) never = absurd (never x refl)

idle_step : (from name : ℕ) (t : ActTrace) (new : Option NewReading) (xs : List SystemReads) → at_of t < from
    → NoReads name xs → NoReads name (reads_by (Some from) (at_of t) t.after new xs)
idle_step from name t None xs early none = none
idle_step from name t (Some u) xs early none = own (name == u.clock) refl
  where
    next : List SystemReads
    next = map (reads_with (Some from) (at_of t) t.after u) xs

    own : (test : Bool) → name == u.clock ≡ test → NoReads name next
    own true test =
        let mine : name ≡ u.clock = grind (arith, nat_tests) in
        subst (λ n. NoReads n next) (sym mine)
        (none_of (reads_among next u.clock) (λ r is.
        (let was = reads_own (Some from) (at_of t) t.after u xs r is in
        let old : reads_among xs u.clock ≡ None = subst (λ n. NoReads n xs) mine none in
        let counts = counts_not from (at_of t) u early in
        none-some r (rw (counts, old) at was))))
    own false test =
        let apart : name ≡ u.clock → ⊥ = grind (arith, nat_tests) in
        reads_other (Some from) (at_of t) t.after u xs name apart ∙ none

pub idle_reads : (from name : ℕ) (ts : List ActTrace) (rs : List SystemReading) (xs : List SystemReads)
    → AllByRecursion (λ (t : ActTrace). at_of t < from) ts → NoReads name xs
    → NoReads name (reads_over (Some from) rs xs ts)
idle_reads from name [] rs xs early none = none
idle_reads from name (t ∷ ts) rs xs early none =
    idle_reads from name ts (read_after t rs) (reads_by (Some from) (at_of t) t.after (new_in t rs) xs) early.1
    (idle_step from name t (new_in t rs) xs early.0 none)

pub reads_both : (from : Option ℕ) (us vs : List ActTrace) (rs : List SystemReading) (xs : List SystemReads)
    → reads_over from rs xs (us ++ vs) ≡ reads_over from (readings_after us rs) (reads_over from rs xs us) vs
reads_both from [] vs rs xs = refl
reads_both from (t ∷ us) vs rs xs =
    reads_both from us vs (read_after t rs) (reads_by from (at_of t) t.after (new_in t rs) xs)

-- ---- the greater of amounts

abbrev pub AtMost : ℕ → Option ℕ → Type 0
AtMost most a = IfSome a (λ x. x ≤ most)

pub greater_within : (most : ℕ) (a b : Option ℕ) → AtMost most a → AtMost most b → AtMost most (greater_of a b)
greater_within most None None first second = tt
greater_within most (Some a) None first second = first
greater_within most None (Some b) first second = second
greater_within most (Some a) (Some b) first second = by (nat_lt a b)
  where
    by : (less : Bool) → AtMost most (if less then Some b else Some a)
    by true = second
    by false = first

pub at_most_more : (most more : ℕ) (a : Option ℕ) → most ≤ more → AtMost most a → AtMost more a
at_most_more most more None less within = tt
at_most_more most more (Some a) less within = omega arith

pub later_both : (a b : ℕ) → (a ≤ later_of a b) × (b ≤ later_of a b)
later_both a b = by (nat_lt a b) refl
  where
    by : (less : Bool) → nat_lt a b ≡ less → (a ≤ (if less then b else a)) × (b ≤ (if less then b else a))
    by true is = let le : a ≤ b = grind (arith, nat_tests) in (le, omega arith)
    by false is = let le : b ≤ a = grind (arith, nat_tests) in (omega arith, le)
