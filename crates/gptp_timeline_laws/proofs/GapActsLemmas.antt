-- What is kept of a system, act by act: from one receipt that counts to the next it is no longer than a wait.
use Rattle.std.proofs.Common.{◌≡◌, ◌==◌, ◌⊎◌, ◌≤◌, ◌<◌, ◌+◌, ◌-◌, ℕ, Bool, true, false, nat_le, nat_lt, List, [], ◌∷◌, ◌++◌, map, Option, Some, None, option_map, option_and_then, if◌then◌else◌, unsigned_abs, refl, sym, ap, subst, ◌∙◌, inl, inr, append_assoc, append-nil, arith}
use Rattle.std.proofs.lemmas.Bool.Decides.{nat_tests}
use Rattle.std.proofs.lemmas.Option.{none-some, same_Some}
use Rattle.gptp_lists.specs.Members.{In}
use Rattle.gptp_lists.proofs.SystemSpecLemmas.{In-parts}
use Rattle.gptp_model.specs.World.{WorldState}
use Rattle.gptp_timeline.specs.ExactReads.{counts_new, ended_reads, greater_of, later_of, reads_among, reads_by, reads_ended, reads_next, reads_over, reads_with}
use Rattle.gptp_timeline.specs.Jumps.{error_before}
use Rattle.gptp_timeline.specs.Readings.{new_in, read_after, reading_among, reading_error}
use Rattle.gptp_timeline.specs.Stretch.{at_of, receives}
use Rattle.gptp_timeline.specs.declared.exact_reads.ExactReads.{ExactReads}
use Rattle.gptp_timeline.specs.declared.exact_reads.SystemReads.{SystemReads}
use Rattle.gptp_timeline.specs.declared.readings.NewReading.{NewReading}
use Rattle.gptp_timeline.specs.declared.readings.SystemReading.{SystemReading}
use Rattle.gptp_timeline_laws.specs.Age.{ReceivedWithin}
use Rattle.gptp_timeline_laws.specs.Moments.{last_time}
use Rattle.gptp_timeline_laws.proofs.HeldLemmas.{IsRight}
use Rattle.gptp_timeline_laws.proofs.OriginLemmas.{IsReceived, IsTakenOver, origin}
use Rattle.gptp_timeline_laws.proofs.ReadsLemmas.{counts_not, counts_so, reads_other, reads_own}
use Rattle.gptp_timeline_laws.proofs.TurnLemmas.{AreInTurn}
use Rattle.gptp_world.specs.Transitions.{ActTrace}

later_within : (a b most : ℕ) → a ≤ most → b ≤ most → later_of a b ≤ most
later_within a b most first second = by (nat_lt a b)
  where
    by : (less : Bool) → (if less then b else a) ≤ most
    by true = second
    by false = first

module _ (name from wait : ℕ) (B : ℕ → ℕ) (acts : List ActTrace)
    (right : (t : ActTrace) → In t acts → from ≤ at_of t → IsRight name B t t.before) where
  -- What is kept after acts: the last receipt that counts is the last of all, and it was never longer from one to the
  -- next.
  pub record IsShort (done : List ActTrace) (r : ExactReads) (now : ℕ) : Type 0 where
    pub late : from ≤ r.last
    pub early : r.last ≤ now
    pub last : (a : ActTrace) → In a done → receives name a ≡ true → at_of a ≤ r.last
    pub short : r.longest ≤ wait

  abbrev pub AreShort : List ActTrace → List SystemReads → ℕ → Type 0
  AreShort done xs now = (r : ExactReads) → reads_among xs name ≡ Some r → IsShort done r now

  module _ (t : ActTrace) (among : In t acts) (rs : List SystemReading) (xs : List SystemReads) (done : List ActTrace)
      (now : ℕ) (on : now ≤ at_of t) (by_now : (a : ActTrace) → In a done → at_of a ≤ now)
      (recent : from ≤ at_of t → ReceivedWithin name wait (at_of t) done) (short : AreShort done xs now) where
    abbrev more : List ActTrace
    more = done ++ t ∷ []

    still : (r : ExactReads) → IsShort done r now → (receives name t ≡ true → ⊥) → IsShort more r (at_of t)
    still r h none =
        let first = h.early in record {
          late = h.late;
          early = omega (arith, first, on);
          last = λ a member own. elim (In-parts a done (t ∷ []) member) [
            | inl old ↦ h.last a old own
            | inr (inl same) ↦ absurd (none (subst (λ x. receives name x ≡ true) same own))
            | inr (inr nothing) ↦ absurd nothing
          ];
          short = h.short;
        }

    -- a receipt that counts, the first or after another
    counted : from ≤ at_of t → (before after : Option ℕ) (old : Option ExactReads) (r : ExactReads)
        → ((o : ExactReads) → old ≡ Some o → IsShort done o now) → reads_next true (at_of t) before after old ≡ Some r
        → IsShort more r (at_of t)
    counted late before after old r was is = by old was is
      where
        done_now : (a : ActTrace) → In a more → at_of a ≤ at_of t
        done_now a member = elim (In-parts a done (t ∷ []) member) [
          | inl earlier ↦ (let soon = by_now a earlier in omega (arith, soon, on))
          | inr (inl same) ↦ (let itself : at_of t ≤ at_of t = omega arith in
              subst (λ (x : ActTrace). at_of x ≤ at_of t) (sym same) itself)
          | inr (inr nothing) ↦ absurd nothing
        ]

        by : (old : Option ExactReads) → ((o : ExactReads) → old ≡ Some o → IsShort done o now)
            → reads_next true (at_of t) before after old ≡ Some r → IsShort more r (at_of t)
        by None was is =
            subst (λ x. IsShort more x (at_of t))
            (same_Some (record { last = at_of t; longest = 0; worst = after }) r is) (record {
              late = late;
              early = omega arith;
              last = λ a member own. done_now a member;
              short = omega arith;
            })
        by (Some o) was is =
            let h = was o refl in
            let heard = recent late in
            let lately = heard.lately in
            let since = h.last heard.act heard.member heard.receives in
            subst (λ x. IsShort more x (at_of t))
            (same_Some (record {
              last = at_of t;
              longest = later_of o.longest (at_of t - o.last);
              worst = greater_of (greater_of o.worst before) after;
            }) r is) (record {
              late = late;
              early = omega arith;
              last = λ a member own. done_now a member;
              short = later_within o.longest (at_of t - o.last) wait h.short (omega (arith, lately, since));
            })

    next_short : AreShort more (reads_by (Some from) (at_of t) t.after (new_in t rs) xs) (at_of t)
    next_short = by (new_in t rs) refl
      where
        at_least : (r : ExactReads) → IsShort done r now → from ≤ at_of t
        at_least r h = let a = h.late in let b = h.early in omega (arith, a, b, on)

        by : (new : Option NewReading) → new_in t rs ≡ new
            → AreShort more (reads_by (Some from) (at_of t) t.after new xs) (at_of t)
        by None is r there =
            let h = short r there in
            still r h (λ own.
            (let (u, new, named) = (right t among (at_least r h)).reads rs own in none-some u (sym is ∙ new)))
        by (Some u) is r there = own (name == u.clock) refl
          where
            next : List SystemReads
            next = map (reads_with (Some from) (at_of t) t.after u) xs

            before : Option ℕ
            before = option_map unsigned_abs (error_before (at_of t) t.after u)

            after : Option ℕ
            after = option_map unsigned_abs (reading_error (at_of t) t.after u.clock u.after)

            was_next : name ≡ u.clock
                → reads_next (counts_new (Some from) (at_of t) u) (at_of t) before after (reads_among xs name) ≡ Some r
            was_next mine =
                subst (λ n. reads_next (counts_new (Some from) (at_of t) u) (at_of t) before after (reads_among xs n)
                ≡ Some r) (sym mine)
                (reads_own (Some from) (at_of t) t.after u xs r
                (subst (λ n. reads_among next n ≡ Some r) mine there))

            received : from ≤ at_of t → name ≡ u.clock → IsReceived t.told.done t.after u ⊎ IsTakenOver t.after u
                → IsShort more r (at_of t)
            received late mine (inr taken) = absurd ((right t among late).no_takeover u (sym mine) taken)
            received late mine (inl one) =
                counted late before after (reads_among xs name) r (λ o is_old. short o is_old)
                (subst (λ c. reads_next c (at_of t) before after (reads_among xs name) ≡ Some r)
                (counts_so from (at_of t) u late one.received) (was_next mine))

            -- before the time nothing that counts is there
            too_early : at_of t < from → name ≡ u.clock → (old : Option ExactReads) → reads_among xs name ≡ old → ⊥
            too_early soon mine None old =
                none-some r (subst (λ c. reads_next c (at_of t) before after None ≡ Some r)
                (counts_not from (at_of t) u soon)
                (subst (λ b. reads_next (counts_new (Some from) (at_of t) u) (at_of t) before after b ≡ Some r) old
                (was_next mine)))
            too_early soon mine (Some o) old =
                let since = at_least o (short o old) in omega (arith, since, soon)

            late_one : (test : Bool) → nat_le from (at_of t) ≡ test → name ≡ u.clock → IsShort more r (at_of t)
            late_one true test mine =
                let late : from ≤ at_of t = grind (arith, nat_tests) in
                received late mine (origin t.told.timed.act t.told.done t.after rs u is)
            late_one false test mine =
                let soon : at_of t < from = grind (arith, nat_tests) in
                absurd (too_early soon mine (reads_among xs name) refl)

            own : (test : Bool) → name == u.clock ≡ test → IsShort more r (at_of t)
            own true test =
                let mine : name ≡ u.clock = grind (arith, nat_tests) in
                late_one (nat_le from (at_of t)) refl mine
            own false test =
                let apart : name ≡ u.clock → ⊥ = grind (arith, nat_tests) in
                let h = short r (sym (reads_other (Some from) (at_of t) t.after u xs name apart) ∙ there) in
                still r h (λ receipt.
                (let (v, new, named) = (right t among (at_least r h)).reads rs receipt in
                apart (sym named ∙ ap (λ (x : NewReading). x.clock) (same_Some v u (sym new ∙ is)))))

  -- ---- acts that follow some that are done

  abbrev AreRecent : List ActTrace → List ActTrace → Type 0
  AreRecent done ts = (us vs : List ActTrace) (t : ActTrace) → ts ≡ us ++ (t ∷ vs) → from ≤ at_of t
      → ReceivedWithin name wait (at_of t) (done ++ us)

  pub over_short : (ts done : List ActTrace) (rs : List SystemReading) (xs : List SystemReads) (now : ℕ)
      → ((t : ActTrace) → In t ts → In t acts) → AreInTurn now ts → ((a : ActTrace) → In a done → at_of a ≤ now)
      → AreRecent done ts → AreShort done xs now
      → AreShort (done ++ ts) (reads_over (Some from) rs xs ts) (last_time now ts)
  over_short [] done rs xs now among turn by_now recent short =
      subst (λ us. AreShort us xs now) (sym (append-nil done)) short
  over_short (t ∷ ts) done rs xs now among turn by_now recent short =
      let on = turn.0 in
      subst (λ us. AreShort us
      (reads_over (Some from) (read_after t rs) (reads_by (Some from) (at_of t) t.after (new_in t rs) xs) ts)
      (last_time (at_of t) ts)) (append_assoc done (t ∷ []) ts)
      (over_short ts (done ++ t ∷ []) (read_after t rs) (reads_by (Some from) (at_of t) t.after (new_in t rs) xs)
      (at_of t) (λ u member. among u (inr member)) turn.1
      (λ a member. elim (In-parts a done (t ∷ []) member) [
        | inl earlier ↦ (let soon = by_now a earlier in omega (arith, soon, on))
        | inr (inl same) ↦ (let itself : at_of t ≤ at_of t = omega arith in
            subst (λ (x : ActTrace). at_of x ≤ at_of t) (sym same) itself)
        | inr (inr nothing) ↦ absurd nothing
      ])
      (λ us vs u are late. subst (ReceivedWithin name wait (at_of u)) (sym (append_assoc done (t ∷ []) us))
      (recent (t ∷ us) vs u (ap (λ more. t ∷ more) are) late))
      (next_short t (among t (inl refl)) rs xs done now on by_now
      (λ late. subst (ReceivedWithin name wait (at_of t)) (append-nil done) (recent [] ts t refl late)) short))

  -- where the stretch ends
  pub ended_short : (to : ℕ) (w : WorldState) (rs : List SystemReading) (xs : List SystemReads) (done : List ActTrace)
      (now : ℕ) (r : ExactReads) → AreShort done xs now → now ≤ to → (from ≤ to → ReceivedWithin name wait to done)
      → ended_reads to w rs xs name ≡ Some r → r.longest ≤ wait
  ended_short to w rs xs done now r short on recent is = by (reads_among xs name) refl is
    where
      error : Option ℕ
      error = option_map unsigned_abs (option_and_then (reading_error to w name) (reading_among rs name))

      by : (old : Option ExactReads) → reads_among xs name ≡ old → option_map (reads_ended to error) old ≡ Some r
          → r.longest ≤ wait
      by None old is = absurd (none-some r is)
      by (Some o) old is =
          let h = short o old in
          let a = h.late in let b = h.early in
          let heard = recent (omega (arith, a, b, on)) in
          let lately = heard.lately in
          let since = h.last heard.act heard.member heard.receives in
          subst (λ (x : ExactReads). x.longest ≤ wait) (same_Some (reads_ended to error o) r is)
          (later_within o.longest (to - o.last) wait h.short (omega (arith, lately, since)))
