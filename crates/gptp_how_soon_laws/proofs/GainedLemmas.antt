-- The events of a time that are told to be idle or gains are followed: by when ports are capable after them, and what
-- they tell is heard at once over links that are easy to hear.
use Rattle.std.proofs.Common.{◌≡◌, ◌<◌, ◌⊎◌, inl, inr, ◌+◌, ◌*◌, ℕ, true, false, List, [], ◌∷◌, ◌++◌, refl, sym, ap, subst, ◌∙◌, append-nil, append_assoc}
use Rattle.std.specs.Prelude.{◌&&◌}
use Rattle.std.specs.List.{AllByRecursion, list_all, list_any}
use Rattle.std.proofs.lemmas.Bool.{and_parts}
use Rattle.gptp_lists.specs.Members.{In}
use Rattle.gptp_scenario.specs.Calm.{NothingLapses}
use Rattle.gptp_scenario.specs.Network.{IsNetwork, NetworkState}
use Rattle.gptp_scenario.specs.SettlingTime.{way_span}
use Rattle.gptp_scenario.specs.SyncWait.{sync_paths}
use Rattle.gptp_scenario.specs.declared.change.Timed.{Timed}
use Rattle.gptp_scenario.specs.declared.sync_wait.SyncPaths.{SyncPaths}
use Rattle.gptp_network.proofs.PassLemmas.{passes_at}
use Rattle.gptp_topology.specs.declared.course.Cable.{Cable}
use Rattle.gptp_how_soon.specs.Gains.{is_hard_to_hear}
use Rattle.gptp_how_soon.specs.Kinds.{is_gain, is_idle, is_loss, is_other, is_recovery, makes_nothing, begins_wider, first_wider_by, is_wider, wider_by}
use Rattle.gptp_how_soon.specs.Times.{told_at, told_of}
use Rattle.gptp_how_soon.specs.declared.kinds.Told.{Told}
use Rattle.gptp_settling_time.specs.HowSoon.{AfterIdleEvents, AreGainEvents, AreHeardEvents, EachEvent, IsGainEvent, IsIdleEvent, AreWiderEvents}
use Rattle.gptp_settling_time.specs.EventKinds.{AddsHeard, MakesNothing}
use Rattle.gptp_how_soon_laws.proofs.ToldLemmas.{idle_changes, wider_widens}
use Rattle.gptp_how_soon_laws.proofs.MoreLemmas.{IsMore, same_more}
use Rattle.gptp_how_soon_laws.proofs.GainLemmas.{all_told, gains, heard, idle_ways, idles, idles_late, more_left, so_on}
use Rattle.gptp_how_soon_laws.proofs.GainLemmas as gain
use Rattle.gptp_how_soon_laws.proofs.ReadyLemmas.{all_from, spared_past}

module _ (n : NetworkState) (network : IsNetwork n) (time : ℕ) (first events : List Timed) where
  abbrev pub all : List Timed
  all = gain.all n network time first events

  abbrev pub tolds : List Told
  tolds = gain.tolds n network time first events

  abbrev pub news : List Cable
  news = gain.news n network time first events

  abbrev pub next : ℕ
  next = gain.next n network time first events

  abbrev pub AreFollowed : Type 0
  AreFollowed = gain.AreFollowed n network time first events

  abbrev pub AreTurnsFollowed : Type 0
  AreTurnsFollowed = gain.AreTurnsFollowed n network time first events

  abbrev pub IsSoFar : List Timed → Type 0
  IsSoFar = gain.IsSoFar n network time first events

  abbrev pub IsTold : Told → Type 0
  IsTold = gain.IsTold n network time first events

  -- each makes nothing of what stands
  pub each_idle : AreTurnsFollowed → (made left : List Timed) → AllByRecursion (λ (t : Timed). t.at ≡ time) left
      → AllByRecursion (λ (e : Told). In e tolds) (told_of n made left)
      → list_all makes_nothing (told_of n made left) ≡ true → EachEvent (IsIdleEvent n) made left
  each_idle turns made [] now among nothing = tt
  each_idle turns made (event ∷ left) now among nothing =
      let (one, rest) =
      and_parts (makes_nothing (told_at n made event.act))
      (list_all makes_nothing (told_of n (made ++ event ∷ []) left)) nothing in (
        idles n network time first events turns made event now.0 among.0 one,
        each_idle turns (made ++ event ∷ []) left now.1 among.1 rest,
      )

  -- each changes nothing
  each_still : (made left : List Timed) → list_all is_idle (told_of n made left) ≡ true
      → EachEvent (IsIdleEvent n) made left × (sync_paths n (made ++ left) ≡ sync_paths n made)
  each_still made [] still = (tt, ap (sync_paths n) (append-nil made))
  each_still made (event ∷ left) still =
      let (one, rest) =
      and_parts (is_idle (told_at n made event.act)) (list_all is_idle (told_of n (made ++ event ∷ []) left)) still in
      let idle : IsIdleEvent n made event = inl (idle_changes n network made event.act one) in
      let (others, same) = each_still (made ++ event ∷ []) left rest in (
        (idle, others),
        ap (sync_paths n) (sym (append_assoc made (event ∷ []) left)) ∙ same
            ∙ idle_ways n network time first events made event idle,
      )

  -- a link gets wider by the first, and the others change nothing
  pub all_wider : (settled : ℕ) (made left : List Timed) → begins_wider (told_of n made left) ≡ true
      → settled + 2 * first_wider_by (told_of n made left) + way_span (sync_paths n (made ++ left))
      < time + way_span (sync_paths n made)
      → AreWiderEvents n settled time made left
  all_wider settled made [] begins soon = absurd cc
  all_wider settled made (event ∷ left) begins soon =
      let (wider, still) =
      and_parts (is_wider (told_at n made event.act)) (list_all is_idle (told_of n (made ++ event ∷ []) left)) begins in
      let (idle, same) = each_still (made ++ event ∷ []) left still in (
        wider_by (told_at n made event.act),
        wider_widens n network made event wider,
        subst (λ (x : SyncPaths). settled + 2 * wider_by (told_at n made event.act) + way_span x
            < time + way_span (sync_paths n made))
            (ap (sync_paths n) (sym (append_assoc made (event ∷ []) left)) ∙ same) soon,
        idle,
      )

  pub all_idle : AreTurnsFollowed → AllByRecursion (λ (t : Timed). t.at ≡ time) events
      → list_all makes_nothing tolds ≡ true → EachEvent (IsIdleEvent n) first events
  all_idle turns now nothing =
      each_idle turns first events now (all_from (λ (e : Told). In e tolds) tolds (λ e member. member)) nothing

  module _ (off : NothingLapses n.params) (turns : AreTurnsFollowed)
      (followed : list_any is_recovery tolds ≡ true → AreFollowed) where
    later_than : (made : List Timed) (event : Timed) (left : List Timed) → made ++ event ∷ left ≡ all
        → AllByRecursion IsTold (told_of n (made ++ event ∷ []) left) → IsMore n (made ++ event ∷ []) all
    later_than made event left are each =
        subst (IsMore n (made ++ event ∷ [])) (append_assoc made (event ∷ []) left ∙ are)
        (more_left n network time first events (made ++ event ∷ []) left each)

    -- each event that is told as a gain is such a one, and such are these
    module _ (Is : List Timed → Timed → Type 0) (Are : List Timed → List Timed → Type 0)
        (some_are : (made : List Timed) (event : Timed) (left : List Timed) → Is made event
        → EachEvent (λ made event. Is made event ⊎ MakesNothing n made event next) (made ++ event ∷ []) left
        → Are made (event ∷ left))
        (gain_is : (made : List Timed) (event : Timed) → event.at ≡ time → IsSoFar made
        → IsTold (told_at n made event.act) → IsMore n (made ++ event ∷ []) all
        → is_gain (told_at n made event.act) ≡ true → Is made event) where
      -- behind a gain each is one, or makes nothing
      each_too : list_any is_gain tolds ≡ true → (made left : List Timed) → made ++ left ≡ all
          → AllByRecursion (λ (t : Timed). t.at ≡ time) left → IsSoFar made
          → AllByRecursion IsTold (told_of n made left)
          → EachEvent (λ made event. Is made event ⊎ MakesNothing n made event next) made left
      each_too gained made [] are now so_far each = tt
      each_too gained made (event ∷ left) are now so_far each =
          let later = later_than made event left are each.1 in (
            elim each.0.kind [
              | inl nothing ↦
                  inr (idles_late n network time first events turns made event now.0 each.0.among off gained nothing)
              | inr gain ↦ inl (gain_is made event now.0 so_far each.0 later gain)
            ],
            each_too gained (made ++ event ∷ []) left (append_assoc made (event ∷ []) left ∙ are) now.1
                (so_on n network time first events followed made event now.0 so_far each.0 later) each.1,
          )

      -- the first that makes something of what stands is a gain, if there is one
      after_idle : (made left : List Timed) → made ++ left ≡ all
          → AllByRecursion (λ (t : Timed). t.at ≡ time) left → IsSoFar made
          → AllByRecursion IsTold (told_of n made left)
          → list_all makes_nothing (told_of n made left) ≡ false → AfterIdleEvents n Are made left
      after_idle made [] are now so_far each some = absurd cc
      after_idle made (event ∷ left) are now so_far each some =
          let later = later_than made event left are each.1 in
          let on = so_on n network time first events followed made event now.0 so_far each.0 later in
          let more = append_assoc made (event ∷ []) left ∙ are in
          elim each.0.kind [
            | inl nothing ↦
                inr (
                  idles n network time first events turns made event now.0 each.0.among nothing,
                  after_idle (made ++ event ∷ []) left more now.1 on each.1
                      (ap (λ test. test && list_all makes_nothing (told_of n (made ++ event ∷ []) left)) (sym nothing)
                      ∙ some),
                )
            | inr gain ↦
                inl (some_are made event left (gain_is made event now.0 so_far each.0 later gain)
                (each_too (passes_at is_gain tolds (told_at n made event.act) each.0.among gain) (made ++ event ∷ [])
                left more now.1 on each.1))
          ]

  -- ---- the bound

  module _ (now : AllByRecursion (λ (t : Timed). t.at ≡ time) events) (off : NothingLapses n.params)
      (turns : AreTurnsFollowed) (followed : list_any is_recovery tolds ≡ true → AreFollowed) (positive : 0 < time)
      (no_loss : list_any is_loss tolds ≡ false) (no_wider : list_any is_wider tolds ≡ false)
      (no_other : list_any is_other tolds ≡ false) where
    begins : IsSoFar first
    begins = record {
      more = same_more n first;
      spared = λ recovers.
          let facts = followed recovers in spared_past n facts.most time [] first positive facts.within facts.past;
    }

    pub all_gained : list_all makes_nothing tolds ≡ false → AfterIdleEvents n (AreGainEvents n next) first events
    all_gained =
        after_idle off turns followed (IsGainEvent n next) (AreGainEvents n next)
        (λ made event left one others. (one, others))
        (λ made event here so_far is later gain.
        gains n network time first events followed made event here so_far is later gain) first events refl now begins
        (all_told n network time first events no_loss no_wider no_other)

    pub all_heard : list_any (is_hard_to_hear tolds) news ≡ false → list_all makes_nothing tolds ≡ false
        → AfterIdleEvents n (AreHeardEvents n next) first events
    all_heard soft =
        after_idle off turns followed (λ made event. AddsHeard n made event next) (AreHeardEvents n next)
        (λ made event left one others. (one, others))
        (λ made event here so_far is later gain.
        heard n network time first events followed made event here so_far is later gain soft) first events refl now
        begins (all_told n network time first events no_loss no_wider no_other)
