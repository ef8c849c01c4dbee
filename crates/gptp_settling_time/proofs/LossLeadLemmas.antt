-- A loss leads a network that has settled to what is left, or in which a system turns, or that is cleared.
use Rattle.std.proofs.Common.{List, [], ap, append-nil, append_assoc, arith, inl, inr, min, refl, subst, suc, sym, ℕ, ◌*◌, ◌++◌, ◌+◌, ◌<◌, ◌∙◌, ◌∷◌, ◌≡◌, ◌≤◌, ◌⊎◌}
use Rattle.std.specs.List.{AllByRecursion}
use Rattle.std.proofs.Math.Nat.{le-max_left}
use Rattle.gptp_setup.specs.SettlingParams.{largest_interval, longest_span}
use Rattle.gptp_scenario.specs.Calm.{IsCalm, NothingLapses, last_change}
use Rattle.gptp_scenario.specs.Network.{IsNetwork, NetworkState, pace_of}
use Rattle.gptp_scenario.specs.SettlingTime.{aging_span, capability_span, silence_span}
use Rattle.gptp_scenario.specs.SyncWait.{sync_paths}
use Rattle.gptp_scenario.specs.declared.change.Timed.{Timed}
use Rattle.gptp_settling_time.specs.Arrivals.{HasArrivedBy}
use Rattle.gptp_settling_time.specs.HowSoon.{EachEvent, IsDownToo, IsIdleBeside, TurnsUnused}
use Rattle.gptp_settling_time.specs.Pasts.{Aging, AnyPast, Cleared, Fallen, Fewer, Gained, Heard, Left, Lost, Past, Split, Starting, Turned, TurnedTree}
use Rattle.gptp_settling_time.specs.EventKinds.{FailsCalm, FailsNow, IsDownNow, IsDownOrIdle, LowersCalm, TurnsCalm}
use Rattle.gptp_settling_time.specs.Leads.{AgesSooner, AreUsedSince, EventLeads, IsGoneBy, LeadsByTree, LosesNow, SplitsNow}
use Rattle.gptp_settling_time.specs.InTurn.{ChoosesAfter, LeadOn, SettlesAfter}
use Rattle.gptp_settling_time.specs.Losses.{AgesWithin, FailsHeard}
use Rattle.gptp_settling_time.specs.TreeLosses.{FailsTrees}
use Rattle.gptp_settling_time.proofs.CalmLessLemmas.{failure_calm, lowers_calm}
use Rattle.gptp_theorem.proofs.EventLemmas.{last_behind}
use Rattle.gptp_settling_time.proofs.CalmStillLemmas.{idle_calm}
use Rattle.gptp_settling_time.proofs.SamePathsLemmas.{idle_paths, turned_paths}
use Rattle.gptp_settling_time.proofs.SettledPastLemmas.{HasSettled}
use Rattle.gptp_settling_time.proofs.SilentSpanLemmas.{fail_within, failure_within}

module _ (n : NetworkState) (made : List Timed) (event : Timed) (roles : ℕ) where
  -- after a loss by which no system is moved the network is left so that its choice stands
  pub record IsLeftBy (past : Past) : Type 0 where
    pub silent : ℕ
    pub leads : EventLeads n made past event (Left made silent)
    pub over : silent ≤ suc (event.at + roles)

  abbrev pub LosesCalm : Type 0
  LosesCalm = (LowersCalm n made event × (roles ≡ 0))
      ⊎ (FailsCalm n made event × (roles ≡ silence_span (pace_of n)))

  pub loss_leads : (past : Past) → HasSettled n made past event.at → LosesCalm → IsLeftBy past
  loss_leads AnyPast settled (inl (lowers, none)) =
      let passed = settled.passed in
      let over = le-max_left (capability_span (pace_of n)) (2 * largest_interval (pace_of n)
      + (sync_paths n made).systems * (longest_span (pace_of n) + (sync_paths n made).delay)) in
      record {
        silent = last_change made + capability_span (pace_of n);
        leads = (settled, refl, inl (lowers, refl));
        over = omega (arith, passed, over);
      }
  loss_leads AnyPast settled (inr (fails, is)) = record {
    silent = suc (event.at + silence_span (pace_of n));
    leads = (settled, refl, inr (fails, refl));
    over = omega (arith, is);
  }
  loss_leads Starting settled loses = absurd settled
  loss_leads (Gained start) settled (inl (lowers, none)) =
      record { silent = start; leads = (settled, refl, inl (lowers, refl)); over = omega (arith, settled) }
  loss_leads (Gained start) settled (inr (fails, is)) = record {
    silent = suc (event.at + silence_span (pace_of n));
    leads = (settled, refl, inr (fails, refl));
    over = omega (arith, is);
  }
  loss_leads (Heard start) settled (inl (lowers, none)) =
      record { silent = start; leads = (settled, refl, inl (lowers, refl)); over = omega (arith, settled) }
  loss_leads (Heard start) settled (inr (fails, is)) = record {
    silent = suc (event.at + silence_span (pace_of n));
    leads = (settled, refl, inr (fails, refl));
    over = omega (arith, is);
  }
  loss_leads (Left ago silent) settled loses = absurd settled
  loss_leads (Turned silent now) settled loses = absurd settled
  loss_leads (Fallen silent now) settled loses = absurd settled
  loss_leads (TurnedTree silent now) settled loses = absurd settled
  loss_leads (Cleared ago begun silent right old) settled loses = absurd settled
  loss_leads (Aging ago aged silent) settled loses = absurd settled
  loss_leads (Split ago gone silent) settled loses = absurd settled
  loss_leads (Lost ago since most silent) settled loses = absurd settled
  loss_leads (Fewer ago since most silent) settled loses = absurd settled

-- after one by which a tree is so moved it is, where what was sent before the choice stood has arrived
module _ (n : NetworkState) (made : List Timed) (event : Timed) (stood : ℕ) (later : last_change made < stood)
    (quiet : (arrived : ℕ) × HasArrivedBy n made stood arrived × (arrived ≤ event.at)) (Moves : Type 0) where
  pub tree_leads : (past : Past) → HasSettled n made past stood → Moves
      → (silent : ℕ) × LeadsByTree n made past event Moves silent event.at
  tree_leads AnyPast settled moves =
      (last_change made + capability_span (pace_of n), (stood, settled, (later, quiet, moves, refl, refl)))
  tree_leads Starting settled moves = absurd settled
  tree_leads (Gained start) settled moves = (start, (stood, settled, (later, quiet, moves, refl, refl)))
  tree_leads (Heard start) settled moves = (start, (stood, settled, (later, quiet, moves, refl, refl)))
  tree_leads (Left ago silent) settled moves = absurd settled
  tree_leads (Turned silent now) settled moves = absurd settled
  tree_leads (Fallen silent now) settled moves = absurd settled
  tree_leads (TurnedTree silent now) settled moves = absurd settled
  tree_leads (Cleared ago begun silent right old) settled moves = absurd settled
  tree_leads (Aging ago aged silent) settled moves = absurd settled
  tree_leads (Split ago gone silent) settled moves = absurd settled
  tree_leads (Lost ago since most silent) settled moves = absurd settled
  tree_leads (Fewer ago since most silent) settled moves = absurd settled

-- after one by which trees are cut off, as a system fails, they do too
module _ (n : NetworkState) (made : List Timed) (event : Timed) (stood : ℕ) where
  split_leads : (past : Past) (gone silent : ℕ) → HasSettled n made past stood
      → SplitsNow n made event stood gone silent → EventLeads n made past event (Split made gone silent)
  split_leads AnyPast gone silent settled now = (stood, settled, refl, now)
  split_leads Starting gone silent settled now = absurd settled
  split_leads (Gained start) gone silent settled now = (stood, settled, refl, now)
  split_leads (Heard start) gone silent settled now = (stood, settled, refl, now)
  split_leads (Left ago start) gone silent settled now = absurd settled
  split_leads (Turned start was) gone silent settled now = absurd settled
  split_leads (Fallen start was) gone silent settled now = absurd settled
  split_leads (TurnedTree start was) gone silent settled now = absurd settled
  split_leads (Cleared ago begun start right old) gone silent settled now = absurd settled
  split_leads (Aging ago aged start) gone silent settled now = absurd settled
  split_leads (Split ago was start) gone silent settled now = absurd settled
  split_leads (Lost ago since most start) gone silent settled now = absurd settled
  split_leads (Fewer ago since most start) gone silent settled now = absurd settled

-- after one by which a system turns it has turned
module _ (n : NetworkState) (made : List Timed) (event : Timed) where
  pub turn_leads : (past : Past) → HasSettled n made past event.at → TurnsCalm n made event
      → (silent : ℕ) × EventLeads n made past event (Turned silent event.at)
  turn_leads AnyPast settled turns = (last_change made + capability_span (pace_of n), (settled, (turns, refl, refl)))
  turn_leads Starting settled turns = absurd settled
  turn_leads (Gained start) settled turns = (start, (settled, (turns, refl, refl)))
  turn_leads (Heard start) settled turns = (start, (settled, (turns, refl, refl)))
  turn_leads (Left ago silent) settled turns = absurd settled
  turn_leads (Turned silent now) settled turns = absurd settled
  turn_leads (Fallen silent now) settled turns = absurd settled
  turn_leads (TurnedTree silent now) settled turns = absurd settled
  turn_leads (Cleared ago begun silent right old) settled turns = absurd settled
  turn_leads (Aging ago aged silent) settled turns = absurd settled
  turn_leads (Split ago gone silent) settled turns = absurd settled
  turn_leads (Lost ago since most silent) settled turns = absurd settled
  turn_leads (Fewer ago since most silent) settled turns = absurd settled

  -- after one of a system that others hear what they hold of it ages
  pub ages_leads : (past : Past) (aged silent : ℕ) → HasSettled n made past event.at → FailsNow n made event aged silent
      → EventLeads n made past event (Aging made aged silent)
  ages_leads AnyPast aged silent settled now = (settled, refl, now)
  ages_leads Starting aged silent settled now = absurd settled
  ages_leads (Gained start) aged silent settled now = (settled, refl, now)
  ages_leads (Heard start) aged silent settled now = (settled, refl, now)
  ages_leads (Left ago start) aged silent settled now = absurd settled
  ages_leads (Turned start was) aged silent settled now = absurd settled
  ages_leads (Fallen start was) aged silent settled now = absurd settled
  ages_leads (TurnedTree start was) aged silent settled now = absurd settled
  ages_leads (Cleared ago begun start right old) aged silent settled now = absurd settled
  ages_leads (Aging ago gone start) aged silent settled now = absurd settled
  ages_leads (Split ago gone start) aged silent settled now = absurd settled
  ages_leads (Lost ago since most start) aged silent settled now = absurd settled
  ages_leads (Fewer ago since most start) aged silent settled now = absurd settled

  -- after any other it has lost
  pub loses_leads : (past : Past) (ago : List Timed) (since most silent : ℕ) → HasSettled n made past event.at
      → AreUsedSince n ago made → LosesNow n made event since most silent
      → EventLeads n made past event (Lost ago since most silent)
  loses_leads AnyPast ago since most silent settled used now = (settled, used, now)
  loses_leads Starting ago since most silent settled used now = absurd settled
  loses_leads (Gained start) ago since most silent settled used now = (settled, used, now)
  loses_leads (Heard start) ago since most silent settled used now = (settled, used, now)
  loses_leads (Left old start) ago since most silent settled used now = absurd settled
  loses_leads (Turned start was) ago since most silent settled used now = absurd settled
  loses_leads (Fallen start was) ago since most silent settled used now = absurd settled
  loses_leads (TurnedTree start was) ago since most silent settled used now = absurd settled
  loses_leads (Cleared was begun start right old) ago since most silent settled used now = absurd settled
  loses_leads (Aging old aged start) ago since most silent settled used now = absurd settled
  loses_leads (Split old gone start) ago since most silent settled used now = absurd settled
  loses_leads (Lost old begun delay start) ago since most silent settled used now = absurd settled
  loses_leads (Fewer old begun delay start) ago since most silent settled used now = absurd settled

-- what settles has its choice
pub settles_chooses : (n : NetworkState) (events : List Timed) (past : Past) (settled : ℕ)
    → SettlesAfter n events past settled → ChoosesAfter n events past settled
settles_chooses n events AnyPast settled is = is
settles_chooses n events Starting settled is = is
settles_chooses n events (Gained start) settled is = is
settles_chooses n events (Heard start) settled is = is
settles_chooses n events (Left ago silent) settled (off, late) = off
settles_chooses n events (Turned silent now) settled so = so
settles_chooses n events (Fallen silent now) settled so = so
settles_chooses n events (TurnedTree silent now) settled so = so
settles_chooses n events (Cleared ago begun silent right old) settled (off, late) = off
settles_chooses n events (Aging ago aged silent) settled (off, late) = (off, inr late)
settles_chooses n events (Split ago gone silent) settled (off, passed, late) = (off, passed)
settles_chooses n events (Lost ago since most silent) settled (off, passed, late) = (off, passed)
settles_chooses n events (Fewer ago since most silent) settled so = so

-- ---- behind a failure links go down of which an end has failed, or all stays as it stands

module _ (n : NetworkState) (network : IsNetwork n) (off : NothingLapses n.params) (time : ℕ) where
  abbrev AllNow : List Timed → Type 0
  AllNow = AllByRecursion (λ (t : Timed). t.at ≡ time)

  -- such an event comes at the time of the one before
  pub down_now : (made : List Timed) (event : Timed) → IsCalm n made → last_change made ≡ time → event.at ≡ time
      → IsDownToo n made event → IsDownNow n made event
  down_now made event calm last here (inl lowers) = inl (record { lowers = lowers; calm = calm; off = off })
  down_now made event calm last here (inr repeats) = inr (repeats, here ∙ sym last)

  pub down_calm : (made : List Timed) (event : Timed) → IsDownToo n made event → IsCalm n made
      → IsCalm n (made ++ event ∷ [])
  down_calm made event (inl lowers) calm = lowers_calm n made event off calm lowers
  down_calm made event (inr repeats) calm = idle_calm n network off made event (inl repeats.0) calm

  -- so it is beside such as change nothing
  beside_now : (made : List Timed) (event : Timed) → IsCalm n made → last_change made ≡ time → event.at ≡ time
      → IsIdleBeside n made event → IsDownOrIdle n made event
  beside_now made event calm last here (inl lowers) = inl (record { lowers = lowers; calm = calm; off = off })
  beside_now made event calm last here (inr idle) = inr (idle, here ∙ sym last)

  beside_calm : (made : List Timed) (event : Timed) → IsIdleBeside n made event → IsCalm n made
      → IsCalm n (made ++ event ∷ [])
  beside_calm made event (inl lowers) calm = lowers_calm n made event off calm lowers
  beside_calm made event (inr idle) calm = idle_calm n network off made event (inl idle) calm

  pub each_beside : (made now : List Timed) → EachEvent (IsDownToo n) made now → EachEvent (IsIdleBeside n) made now
  each_beside made [] each = tt
  each_beside made (event ∷ now) (inl lowers, others) = (inl lowers, each_beside (made ++ event ∷ []) now others)
  each_beside made (event ∷ now) (inr repeats, others) = (inr repeats.0, each_beside (made ++ event ∷ []) now others)

  -- what is in use stays
  beside_paths : (made : List Timed) (event : Timed) → IsIdleBeside n made event
      → sync_paths n (made ++ event ∷ []) ≡ sync_paths n made
  beside_paths made event (inl lowers) =
      turned_paths n made event (subst (TurnsUnused n made) (sym lowers.act) lowers.failed)
  beside_paths made event (inr idle) = idle_paths n network made event idle

  pub dead_paths : (made now : List Timed) → EachEvent (IsIdleBeside n) made now
      → sync_paths n (made ++ now) ≡ sync_paths n made
  dead_paths made [] each = ap (sync_paths n) (append-nil made)
  dead_paths made (event ∷ now) (beside, others) =
      ap (sync_paths n) (sym (append_assoc made (event ∷ []) now)) ∙ dead_paths (made ++ event ∷ []) now others
      ∙ beside_paths made event beside

  -- a network that is left stays so
  pub dead_lead : (ago made now : List Timed) (silent : ℕ) → IsCalm n made → last_change made ≡ time → AllNow now
      → EachEvent (IsIdleBeside n) made now → LeadOn n made (Left ago silent) now (Left ago silent)
  dead_lead ago made [] silent calm last at each = refl
  dead_lead ago made (event ∷ now) silent calm last (here, at) (beside, others) = (
    Left ago silent,
    inl refl,
    Left ago silent,
    (beside_now made event calm last here beside, refl, refl),
    dead_lead ago (made ++ event ∷ []) now silent (beside_calm made event beside calm)
        (last_behind made event ∙ here) at others,
  )

  -- so does one that is cleared
  pub dead_clear : (ago made now : List Timed) (begun silent old : ℕ) → IsCalm n made → last_change made ≡ time
      → AllNow now → EachEvent (IsIdleBeside n) made now
      → LeadOn n made (Cleared ago begun silent 0 old) now (Cleared ago begun silent 0 old)
  dead_clear ago made [] begun silent old calm last at each = refl
  dead_clear ago made (event ∷ now) begun silent old calm last (here, at) (beside, others) = (
    Cleared ago begun silent 0 old,
    inl refl,
    Cleared ago begun silent 0 old,
    (
      elim (beside_now made event calm last here beside) [
        | inl lowers ↦ inl (lowers, omega arith)
        | inr idle ↦ inr idle
      ],
      refl,
      (refl, refl, refl, refl),
    ),
    dead_clear ago (made ++ event ∷ []) now begun silent old (beside_calm made event beside calm)
        (last_behind made event ∙ here) at others,
  )

  -- and what ages goes on to age
  aging_lead : (ago made now : List Timed) (other : Timed) (gone aged silent : ℕ) → IsCalm n made
      → last_change made ≡ time → AllNow (other ∷ now) → EachEvent (IsDownToo n) made (other ∷ now)
      → AgesSooner n ago (made ++ other ∷ now) aged silent
      → LeadOn n made (Aging ago gone silent) (other ∷ now) (Aging ago aged silent)
  aging_lead ago made [] other gone aged silent calm last (here, at) (down, others) sooner = (
    Aging ago gone silent,
    inl refl,
    Aging ago aged silent,
    (down_now made other calm last here down, refl, refl, inr sooner),
    refl,
  )
  aging_lead ago made (event ∷ now) other gone aged silent calm last (here, at) (down, others) sooner = (
    Aging ago gone silent,
    inl refl,
    Aging ago gone silent,
    (down_now made other calm last here down, refl, refl, inl refl),
    aging_lead ago (made ++ other ∷ []) now event gone aged silent (down_calm made other down calm)
        (last_behind made other ∙ here) at others
        (subst (λ es. AgesSooner n ago es aged silent) (sym (append_assoc made (other ∷ []) (event ∷ now))) sooner),
  )

  -- So it does from when a system fails that others hear, as long as what came over the links that are silent after all
  -- of the events.
  pub heard_lead : (made : List Timed) (event : Timed) (now : List Timed) (past : Past) (span : ℕ) → IsCalm n made
      → HasSettled n made past event.at → event.at ≡ time → FailsHeard n made event
      → AllNow now → EachEvent (IsDownToo n) (made ++ event ∷ []) now
      → AgesWithin n made (made ++ event ∷ now) event.at span
      → LeadOn n made past (event ∷ now)
      (Aging made (suc (event.at + span)) (suc (event.at + silence_span (pace_of n))))
  heard_lead made event [] past span calm settled here fails at down within =
      let aged = suc (event.at + span) in
      let silent = suc (event.at + silence_span (pace_of n)) in (
        past,
        inl refl,
        Aging made aged silent,
        ages_leads n made event past aged silent settled (record {
          fails = fails;
          calm = calm;
          off = off;
          span = span;
          within = within;
          gone = refl;
          unanswered = refl;
        }),
        refl,
      )
  heard_lead made event (other ∷ now) past span calm settled here fails at down within =
      let aged = suc (event.at + span) in
      let silent = suc (event.at + silence_span (pace_of n)) in
      let most = aging_span (pace_of n) (sync_paths n made) in
      let gone = suc (event.at + most) in (
        past,
        inl refl,
        Aging made gone silent,
        ages_leads n made event past gone silent settled (record {
          fails = fails;
          calm = calm;
          off = off;
          span = most;
          within = failure_within n made event fails;
          gone = refl;
          unanswered = refl;
        }),
        aging_lead made (made ++ event ∷ []) now other gone aged silent
            (failure_calm n made event off calm fails.clock fails.act) (last_behind made event ∙ here) at down (
              event.at,
              span,
              refl,
              subst (λ es. AgesWithin n made es event.at span) (sym (append_assoc made (event ∷ []) (other ∷ now)))
                  within,
              refl,
            ),
      )

  -- And what is held of the system goes on to go as trees fall back. All of it is gone as soon as what came over the
  -- links that are silent after all of the events.
  split_on_lead : (ago made now : List Timed) (other : Timed) (was gone : ℕ) → IsCalm n made
      → last_change made ≡ time → EachEvent (IsDownToo n) made (other ∷ now) → AllNow (other ∷ now)
      → IsGoneBy n ago (made ++ other ∷ now) time gone
      → LeadOn n made (Split ago was (suc (time + silence_span (pace_of n)))) (other ∷ now)
      (Split ago gone (suc (time + silence_span (pace_of n))))
  split_on_lead ago made [] other was gone calm last (down, others) (at, later) is_gone =
      let silent = suc (time + silence_span (pace_of n)) in (
        Split ago was silent,
        inl refl,
        Split ago gone silent,
        (
          down_now made other calm last at down,
          refl,
          refl,
          inr (omega (arith, at), subst (λ t. IsGoneBy n ago (made ++ other ∷ []) t gone) (sym at) is_gone),
        ),
        refl,
      )
  split_on_lead ago made (event ∷ now) other was gone calm last (down, others) (at, later) is_gone =
      let silent = suc (time + silence_span (pace_of n)) in (
        Split ago was silent,
        inl refl,
        Split ago was silent,
        (down_now made other calm last at down, refl, refl, inl refl),
        split_on_lead ago (made ++ other ∷ []) now event was gone (down_calm made other down calm)
            (last_behind made other ∙ at) others later
            (subst (λ es. IsGoneBy n ago es time gone) (sym (append_assoc made (other ∷ []) (event ∷ now))) is_gone),
      )

-- so it does from when the system fails, once what was sent before the choice stood has arrived
pub splits_lead : (n : NetworkState) → IsNetwork n → NothingLapses n.params → (made : List Timed) (event : Timed)
    (now : List Timed) (past : Past) (stood arrived span : ℕ) → IsCalm n made → HasSettled n made past stood
    → last_change made < stood → HasArrivedBy n made stood arrived → arrived ≤ event.at → FailsTrees n made event
    → EachEvent (IsDownToo n) (made ++ event ∷ []) now → AllByRecursion (λ (t : Timed). t.at ≡ event.at) now
    → AgesWithin n made (made ++ event ∷ now) event.at span
    → LeadOn n made past (event ∷ now)
    (Split made (suc (event.at + min span (silence_span (pace_of n)))) (suc (event.at + silence_span (pace_of n))))
splits_lead n network off made event [] past stood arrived span calm settled later arrives quiet fails down here within
    =
    let gone = suc (event.at + min span (silence_span (pace_of n))) in
    let silent = suc (event.at + silence_span (pace_of n)) in (
      past,
      inl refl,
      Split made gone silent,
      split_leads n made event stood past gone silent settled (record {
        fails = fails;
        later = later;
        arrived = arrived;
        arrives = arrives;
        quiet = quiet;
        calm = calm;
        off = off;
        is_gone = (span, within, refl);
        unanswered = refl;
      }),
      refl,
    )
splits_lead n network off made event (other ∷ now) past stood arrived span calm settled later arrives quiet fails down
    here within =
    let most = aging_span (pace_of n) (sync_paths n made) in
    let was = suc (event.at + min most (silence_span (pace_of n))) in
    let gone = suc (event.at + min span (silence_span (pace_of n))) in
    let silent = suc (event.at + silence_span (pace_of n)) in (
      past,
      inl refl,
      Split made was silent,
      split_leads n made event stood past was silent settled (record {
        fails = fails;
        later = later;
        arrived = arrived;
        arrives = arrives;
        quiet = quiet;
        calm = calm;
        off = off;
        is_gone = (most, fail_within n made event fails.clock fails.act, refl);
        unanswered = refl;
      }),
      split_on_lead n network off event.at made (made ++ event ∷ []) now other was gone
          (failure_calm n made event off calm fails.clock fails.act) (last_behind made event) down here (
            span,
            subst (λ es. AgesWithin n made es event.at span) (sym (append_assoc made (event ∷ []) (other ∷ now)))
                within,
            refl,
          ),
    )
