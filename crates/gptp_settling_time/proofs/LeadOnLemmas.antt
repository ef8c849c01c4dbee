-- The events of a time lead a network that has settled from what it came from to the next.
use Rattle.std.proofs.Common.{◌≡◌, ◌⊎◌, inl, inr, ◌<◌, ◌≤◌, ◌+◌, ◌-◌, ◌*◌, ℕ, suc, pred, List, [], ◌∷◌, ◌++◌, refl, sym, subst, ◌∙◌, append_assoc, append-nil, arith}
use Rattle.std.specs.Prelude.{max}
use Rattle.std.specs.List.{AllByRecursion}
use Rattle.std.proofs.Math.Nat.{le-max_left, le-max_right}
use Rattle.gptp_setup.specs.SettlingParams.{largest_interval, longest_span}
use Rattle.gptp_scenario.specs.Calm.{IsCalm, NothingLapses, last_change}
use Rattle.gptp_scenario.specs.Network.{IsNetwork, NetworkState, pace_of}
use Rattle.gptp_scenario.specs.SettlingTime.{capability_span, way_span}
use Rattle.gptp_scenario.specs.SyncWait.{sync_paths}
use Rattle.gptp_scenario.specs.declared.change.Act.{Act}
use Rattle.gptp_scenario.specs.declared.change.Act.TheVariants.{Deliver, Expire, Change as Changing}
use Rattle.gptp_scenario.specs.declared.change.Change.TheVariants.{LinkDown, LinkUp, LinkSet, Fail, Recover, Priority1, Inject}
use Rattle.gptp_scenario.specs.declared.change.Timed.{Timed}
use Rattle.gptp_scenario.specs.declared.sync_wait.SyncPaths.{SyncPaths}
use Rattle.gptp_settling_time.specs.HowSoon.{AfterIdleEvents, AreGainEvents, AreHeardEvents, AreWiderEvents, EachEvent, IsGainEvent, IsGainToo, IsHeardToo, IsIdleEvent, IsStillEvent, TurnsUnused}
use Rattle.gptp_settling_time.specs.Pasts.{Aging, AnyPast, Cleared, Fallen, Gained, Heard, Left, Fewer, Lost, Past, Split, Starting, Turned, TurnedTree}
use Rattle.gptp_settling_time.specs.EventKinds.{AddsHeard, LeavesSettled, MakesNothing, TurnsInVain, WidensLink}
use Rattle.gptp_settling_time.specs.Leads.{EventLeads}
use Rattle.gptp_settling_time.specs.Rests.{IsTakenAs}
use Rattle.gptp_settling_time.specs.InTurn.{LeadOn}
use Rattle.gptp_settling_time.specs.Losses.{LeavesChoice}
use Rattle.gptp_settling_time.proofs.MadeLemmas.{adds_later}
use Rattle.gptp_settling_time.proofs.SamePathsLemmas.{idle_paths, priority_paths, turned_paths}
use Rattle.gptp_settling_time.proofs.SettledPastLemmas.{HasRested, HasSettled, settled_later, taken_later, taken_on}

-- a link that isn't used is turned in vain, where ports are capable from no later than then
turns_in_vain : (n : NetworkState) (made : List Timed) (event : Timed) (start : ℕ) → start ≤ event.at → (act : Act)
    → TurnsUnused n made act → TurnsInVain n made event start act
turns_in_vain n made event start late (Changing (LinkUp number port)) failed = failed
turns_in_vain n made event start late (Changing (LinkDown number port)) failed = (failed, late)
turns_in_vain n made event start late (Changing (LinkSet number port min max loss)) none = absurd none
turns_in_vain n made event start late (Changing (Fail number)) none = absurd none
turns_in_vain n made event start late (Changing (Recover number)) none = absurd none
turns_in_vain n made event start late (Changing (Priority1 number value)) none = absurd none
turns_in_vain n made event start late (Changing (Inject number port octets)) none = absurd none
turns_in_vain n made event start late (Deliver link direction) none = absurd none
turns_in_vain n made event start late (Expire number timer) none = absurd none

pub makes_nothing : (n : NetworkState) (made : List Timed) (event : Timed) (start : ℕ) → start ≤ event.at
    → NothingLapses n.params → IsIdleEvent n made event → MakesNothing n made event start
makes_nothing n made event start late off (inl nothing) = inl nothing
makes_nothing n made event start late off (inr turns) =
    inr (off, turns_in_vain n made event start late event.act turns)

-- the span from any past is enough to rest, and to become capable
span_parts : (last capable clean one way time : ℕ) → last + (max capable clean + one + way) ≤ time
    → (last + clean + one ≤ time) × (last + capable ≤ time)
span_parts last capable clean one way time passed =
    let left = le-max_left capable clean in
    let right = le-max_right capable clean in
    (omega (arith, passed, right), omega (arith, passed, left))

module _ (n : NetworkState) (made : List Timed) (event : Timed) where
  gain_leads : (past : Past) (next : ℕ) → HasSettled n made past event.at → event.at ≤ next
      → IsGainEvent n next made event → EventLeads n made past event (Gained next)
  gain_leads AnyPast next settled less (takes, leaves) =
      let p = pace_of n in
      let paths = sync_paths n made in
      let (rested, capable) = span_parts (last_change made) (capability_span p)
      (2 * largest_interval p + paths.systems * (longest_span p + paths.delay)) (largest_interval p)
      (pred paths.systems * paths.delay) event.at settled.passed in
      inl (
        takes,
        (
          record { calm = settled.calm; passed = rested },
          (event.at, inr capable, inr (less, leaves)),
        ),
      )
  gain_leads Starting next settled less gain = absurd settled
  gain_leads (Gained start) next settled less (takes, leaves) =
      inl (takes, inl (inr (omega (arith, settled, less), leaves)))
  gain_leads (Heard start) next settled less (takes, leaves) =
      inl (takes, inl (inr (omega (arith, settled, less), leaves)))
  gain_leads (Left ago start) next settled less gain = absurd settled
  gain_leads (Turned silent now) next settled less gain = absurd settled
  gain_leads (Fallen silent now) next settled less gain = absurd settled
  gain_leads (TurnedTree silent now) next settled less gain = absurd settled
  gain_leads (Cleared ago begun silent right old) next settled less gain = absurd settled
  gain_leads (Aging ago aged silent) next settled less gain = absurd settled
  gain_leads (Split ago gone silent) next settled less gain = absurd settled
  gain_leads (Lost ago since most silent) next settled less gain = absurd settled
  gain_leads (Fewer ago since most silent) next settled less gain = absurd settled

  heard_leads : (past : Past) (next : ℕ) → HasSettled n made past event.at → AddsHeard n made event next
      → EventLeads n made past event (Heard next)
  heard_leads AnyPast next settled adds = (settled, inl adds)
  heard_leads Starting next settled heard = absurd settled
  heard_leads (Gained start) next settled adds = (settled, inl adds)
  heard_leads (Heard start) next settled adds =
      let later = adds_later n made event next adds in inl (omega (arith, settled, later), adds)
  heard_leads (Left ago start) next settled heard = absurd settled
  heard_leads (Turned silent now) next settled heard = absurd settled
  heard_leads (Fallen silent now) next settled heard = absurd settled
  heard_leads (TurnedTree silent now) next settled heard = absurd settled
  heard_leads (Cleared ago begun silent right old) next settled heard = absurd settled
  heard_leads (Aging ago aged silent) next settled heard = absurd settled
  heard_leads (Split ago gone silent) next settled heard = absurd settled
  heard_leads (Lost ago since most silent) next settled heard = absurd settled
  heard_leads (Fewer ago since most silent) next settled heard = absurd settled

  -- what makes nothing of what stands leads from a network that has settled to one that has settled by then, as if its
  -- ports had been capable from a time on
  module _ (network : IsNetwork n) (off : NothingLapses n.params) where
    abbrev more : List Timed
    more = made ++ event ∷ []

    abbrev way : ℕ
    way = way_span (sync_paths n made)

    abbrev pub since : ℕ
    since = event.at - way

    way_over : (past : Past) → HasSettled n made past event.at → way ≤ event.at
    way_over AnyPast settled = let passed = settled.passed in omega (arith, passed)
    way_over Starting settled = absurd settled
    way_over (Gained start) settled = omega (arith, settled)
    way_over (Heard start) settled = omega (arith, settled)
    way_over (Left ago start) settled = absurd settled
    way_over (Turned silent now) settled = absurd settled
    way_over (Fallen silent now) settled = absurd settled
    way_over (TurnedTree silent now) settled = absurd settled
    way_over (Cleared ago begun silent right old) settled = absurd settled
    way_over (Aging ago aged silent) settled = absurd settled
    way_over (Split ago gone silent) settled = absurd settled
    way_over (Lost ago begun most silent) settled = absurd settled
    way_over (Fewer ago begun most silent) settled = absurd settled

    pub same_paths : IsStillEvent n made event → sync_paths n more ≡ sync_paths n made
    same_paths (inl (inl nothing)) = idle_paths n network made event nothing
    same_paths (inl (inr turns)) = turned_paths n made event turns
    same_paths (inr leaves) = priority_paths n made event leaves.clock leaves.value leaves.act

    leaves_still : IsStillEvent n made event → MakesNothing n made event since ⊎ LeavesChoice n made event
    leaves_still (inl idle) = inl (makes_nothing n made event since (omega arith) off idle)
    leaves_still (inr leaves) = inr leaves

    module _ (idle : IsStillEvent n made event) where
      leaves_so : way ≤ event.at → LeavesSettled n made event since
      leaves_so over = record { nothing = leaves_still idle; off = off; since = omega (arith, over) }

      pub idle_leads : (past : Past) → HasSettled n made past event.at → EventLeads n made past event (Heard since)
      idle_leads AnyPast settled = (settled, inr (inl (leaves_so (way_over AnyPast settled))))
      idle_leads Starting settled = absurd settled
      idle_leads (Gained start) settled = (settled, inr (inl (leaves_so (way_over (Gained start) settled))))
      idle_leads (Heard start) settled = inr (inl (settled, inl (leaves_so (way_over (Heard start) settled))))
      idle_leads (Left ago start) settled = absurd settled
      idle_leads (Turned silent now) settled = absurd settled
      idle_leads (Fallen silent now) settled = absurd settled
      idle_leads (TurnedTree silent now) settled = absurd settled
      idle_leads (Cleared ago begun silent right old) settled = absurd settled
      idle_leads (Aging ago aged silent) settled = absurd settled
      idle_leads (Split ago gone silent) settled = absurd settled
      idle_leads (Lost ago begun most silent) settled = absurd settled
      idle_leads (Fewer ago begun most silent) settled = absurd settled

      pub idle_settled : (past : Past) → HasSettled n made past event.at → HasSettled n more (Heard since) event.at
      idle_settled past settled =
          let over = way_over past settled in
          subst (λ (x : SyncPaths). since + way_span x ≤ event.at) (sym (same_paths idle)) (omega (arith, over))

-- what makes nothing of what stands leaves it as it is
pub all_still : (n : NetworkState) (made now : List Timed) → EachEvent (IsIdleEvent n) made now
    → EachEvent (IsStillEvent n) made now
all_still n made [] idle = tt
all_still n made (event ∷ now) (one, idle) = (inl one, all_still n (made ++ event ∷ []) now idle)

-- ---- the events of a time lead from a network that has settled

-- What the network came from after some events, of which the last are at this time, and by when it has settled.
pub record IsLed (n : NetworkState) (made now : List Timed) (past : Past) (settled : ℕ) : Type 0 where
  pub last : Past
  pub lead : LeadOn n made past now last
  pub settles : HasRested n (made ++ now) last settled

-- one event more comes before them
led_more : (n : NetworkState) (made now : List Timed) (event : Timed) (past next : Past) (settled : ℕ)
    → EventLeads n made past event next → IsLed n (made ++ event ∷ []) now next settled
    → IsLed n made (event ∷ now) past settled
led_more n made now event past next settled leads is = record {
  last = is.last;
  lead = (past, inl refl, next, leads, is.lead);
  settles = subst (λ es. HasRested n es is.last settled) (append_assoc made (event ∷ []) now) is.settles;
}

-- what leads on as it may be taken leads on
pub lead_as : (n : NetworkState) (made : List Timed) (event : Timed) (now : List Timed) (past seen last : Past)
    → IsTakenAs n made past event.at seen → LeadOn n made seen (event ∷ now) last
    → LeadOn n made past (event ∷ now) last
lead_as n made event now past seen last taken (other, on, next, leads, rest) =
    (other, taken_on n made past seen other event.at taken on, next, leads, rest)

pub led_as : (n : NetworkState) (made now : List Timed) (past seen : Past) (time settled : ℕ)
    → AllByRecursion (λ (t : Timed). t.at ≡ time) now → time ≤ settled → IsTakenAs n made past time seen
    → IsLed n made now seen settled → IsLed n made now past settled
led_as n made [] past seen time settled at late taken is = record {
  last = past;
  lead = refl;
  settles = subst (λ es. HasRested n es past settled) (sym (append-nil made))
      (by (subst (λ x. HasRested n made x settled) is.lead
      (subst (λ es. HasRested n es is.last settled) (append-nil made) is.settles)));
}
  where
    by : HasRested n made seen settled → HasRested n made past settled
    by (other, on, has) =
        (other, taken_on n made past seen other settled (taken_later n made past seen time settled late taken) on, has)
led_as n made (event ∷ now) past seen time settled (here, at) late taken is = record {
  last = is.last;
  lead = lead_as n made event now past seen is.last (subst (λ t. IsTakenAs n made past t seen) (sym here) taken)
      is.lead;
  settles = is.settles;
}

module _ (n : NetworkState) (network : IsNetwork n) where
  heard_lead : (next : ℕ) (made now : List Timed) → EachEvent (IsHeardToo n next) made now
      → LeadOn n made (Heard next) now (Heard next)
  heard_lead next made [] each = refl
  heard_lead next made (event ∷ now) (inl adds, each) =
      (Heard next, inl refl, Heard next, inl (omega arith, adds), heard_lead next (made ++ event ∷ []) now each)
  heard_lead next made (event ∷ now) (inr nothing, each) =
      (Heard next, inl refl, Heard next, inr (inr (nothing, refl)), heard_lead next (made ++ event ∷ []) now each)

  gains_lead : (next : ℕ) (made now : List Timed) → EachEvent (IsGainToo n next) made now
      → LeadOn n made (Gained next) now (Gained next)
  gains_lead next made [] each = refl
  gains_lead next made (event ∷ now) (inl (takes, leaves), each) = (
    Gained next,
    inl refl,
    Gained next,
    inl (takes, inl (inr (omega arith, leaves))),
    gains_lead next (made ++ event ∷ []) now each,
  )
  gains_lead next made (event ∷ now) (inr nothing, each) =
      (Gained next, inl refl, Gained next, inr (inl (nothing, refl)), gains_lead next (made ++ event ∷ []) now each)

  module _ (off : NothingLapses n.params) (time : ℕ) where
    abbrev pub AllNow : List Timed → Type 0
    AllNow = AllByRecursion (λ (t : Timed). t.at ≡ time)

    -- no event comes
    none_led : (made : List Timed) (past : Past) (settled : ℕ) → time ≤ settled → HasSettled n made past time
        → IsLed n made [] past settled
    none_led made past settled late is = record {
      last = past;
      lead = refl;
      settles = subst (λ es. HasRested n es past settled) (sym (append-nil made))
          (past, inl refl, settled_later n made past time settled late is);
    }

    -- they make nothing of what stands, or leave the settled choice
    pub idle_led : (made now : List Timed) (past : Past) → AllNow now → HasSettled n made past time
        → EachEvent (IsStillEvent n) made now → IsLed n made now past (suc (time + 0))
    idle_led made [] past at settled idle = none_led made past (suc (time + 0)) (omega arith) settled
    idle_led made (event ∷ now) past (here, at) settled (one, idle) =
        let then = subst (HasSettled n made past) (sym here) settled in
        led_more n made now event past (Heard (since n made event network off)) (suc (time + 0))
        (idle_leads n made event network off one past then)
        (idle_led (made ++ event ∷ []) now (Heard (since n made event network off)) at
        (subst (HasSettled n (made ++ event ∷ []) (Heard (since n made event network off))) here
        (idle_settled n made event network off one past then))
        idle)

    -- a link gets wider by the first, and the others make nothing of what stands
    pub widens_leads : (made : List Timed) (event : Timed) (past : Past) (settled by : ℕ) → event.at ≡ time
        → IsCalm n made → HasSettled n made past settled → settled ≤ time → WidensLink n made event by
        → settled + 2 * by + way_span (sync_paths n (made ++ event ∷ [])) ≤ time + way_span (sync_paths n made)
        → (next : ℕ) × EventLeads n made past event (Heard next)
        × HasSettled n (made ++ event ∷ []) (Heard next) time
    widens_leads made event AnyPast settled by here calm is late widens soon =
        let passed = is.passed in
        let capable : ℕ = last_change made + capability_span (pace_of n) in
        let over = le-max_left (capability_span (pace_of n)) (2 * largest_interval (pace_of n)
        + (sync_paths n made).systems * (longest_span (pace_of n) + (sync_paths n made).delay)) in (
          capable + 2 * by,
          (
            record { calm = is.calm; passed = omega (arith, passed, late, here) },
            inr (inr (record {
              by = by;
              widens = widens;
              calm = calm;
              off = off;
              later = omega arith;
              past = omega (arith, passed, soon, here, over);
            })),
          ),
          omega (arith, passed, soon, over),
        )
    widens_leads made event Starting settled by here calm is late widens soon = absurd is
    widens_leads made event (Gained start) settled by here calm is late widens soon = (
      start + 2 * by,
      (
        omega (arith, is, late, here),
        inr (inr (record {
          by = by;
          widens = widens;
          calm = calm;
          off = off;
          later = omega arith;
          past = omega (arith, is, soon, here);
        })),
      ),
      omega (arith, is, soon),
    )
    widens_leads made event (Heard start) settled by here calm is late widens soon = (
      start + 2 * by,
      inr (inl (
        omega (arith, is, late, here),
        inr (record {
          by = by;
          widens = widens;
          calm = calm;
          off = off;
          later = omega arith;
          past = omega (arith, is, soon, here);
        }),
      )),
      omega (arith, is, soon),
    )
    widens_leads made event (Left ago start) settled by here calm is late widens soon = absurd is
    widens_leads made event (Turned silent now) settled by here calm is late widens soon = absurd is
    widens_leads made event (Fallen silent now) settled by here calm is late widens soon = absurd is
    widens_leads made event (TurnedTree silent now) settled by here calm is late widens soon = absurd is
    widens_leads made event (Cleared ago begun silent right old) settled by here calm is late widens soon = absurd is
    widens_leads made event (Aging ago aged silent) settled by here calm is late widens soon = absurd is
    widens_leads made event (Split ago gone silent) settled by here calm is late widens soon = absurd is
    widens_leads made event (Lost ago begun most silent) settled by here calm is late widens soon = absurd is
    widens_leads made event (Fewer ago begun most silent) settled by here calm is late widens soon = absurd is

    pub wider_led : (made now : List Timed) (past : Past) (settled : ℕ) → AllNow now → IsCalm n made
        → HasSettled n made past (suc settled) → settled < time → AreWiderEvents n settled time made now
        → IsLed n made now past (suc (time + 0))
    wider_led made [] past settled at calm is late none = absurd none
    wider_led made (event ∷ now) past settled (here, at) calm is late (by, widens, soon, idle) =
        let (next, leads, then) =
        widens_leads made event past (suc settled) by here calm is (omega (arith, late)) widens (omega (arith, soon)) in
        led_more n made now event past (Heard next) (suc (time + 0)) leads
        (idle_led (made ++ event ∷ []) now (Heard next) at then (all_still n (made ++ event ∷ []) now idle))

    -- such come first, and then others that lead to this
    pub after_idle : (Are : List Timed → List Timed → Type 0) (all : List Timed) (later : ℕ)
        → ((made now : List Timed) (past : Past) → made ++ now ≡ all → AllNow now → HasSettled n made past time
        → Are made now → IsLed n made now past later)
        → (made now : List Timed) (past : Past) → made ++ now ≡ all → AllNow now → HasSettled n made past time
        → AfterIdleEvents n Are made now → IsLed n made now past later
    after_idle Are all later then made [] past are at settled is = then made [] past are at settled is
    after_idle Are all later then made (event ∷ now) past are at settled (inl is) =
        then made (event ∷ now) past are at settled is
    after_idle Are all later then made (event ∷ now) past are (here, at) settled (inr (one, is)) =
        let before = subst (HasSettled n made past) (sym here) settled in
        let start : ℕ = since n made event network off in
        led_more n made now event past (Heard start) later (idle_leads n made event network off (inl one) past before)
        (after_idle Are all later then (made ++ event ∷ []) now (Heard start)
        (append_assoc made (event ∷ []) now ∙ are) at
        (subst (HasSettled n (made ++ event ∷ []) (Heard start)) here
        (idle_settled n made event network off (inl one) past before))
        is)

    module _ (ready : ℕ) where
      abbrev pub next : ℕ
      next = suc (time + ready)

      -- one is heard at once, and after it others
      pub heard_led : (all : List Timed) (choice : ℕ) → choice ≡ ready + way_span (sync_paths n all)
          → (made now : List Timed) (past : Past) → made ++ now ≡ all → AllNow now → HasSettled n made past time
          → AreHeardEvents n next made now → IsLed n made now past (suc (time + choice))
      heard_led all choice is made [] past are at settled none = absurd none
      heard_led all choice is made (event ∷ now) past are (here, at) settled (heard, each) =
          record {
            last = Heard next;
            lead = (
              past,
              inl refl,
              Heard next,
              heard_leads n made event past next (subst (HasSettled n made past) (sym here) settled) heard,
              heard_lead next (made ++ event ∷ []) now each,
            );
            settles = (
              Heard next,
              inl refl,
              subst (λ es. next + way_span (sync_paths n es) ≤ suc (time + choice)) (sym are) (omega (arith, is)),
            );
          }

      -- one is a gain, and after it others
      pub gains_led : (all : List Timed) (choice : ℕ)
          → choice ≡ ready + largest_interval (pace_of n) + way_span (sync_paths n all)
          → (made now : List Timed) (past : Past) → made ++ now ≡ all → AllNow now → HasSettled n made past time
          → AreGainEvents n next made now → IsLed n made now past (suc (time + choice))
      gains_led all choice is made [] past are at settled none = absurd none
      gains_led all choice is made (event ∷ now) past are (here, at) settled (gain, each) =
          record {
            last = Gained next;
            lead = (
              past,
              inl refl,
              Gained next,
              gain_leads n made event past next (subst (HasSettled n made past) (sym here) settled)
                  (omega (arith, here)) gain,
              gains_lead next (made ++ event ∷ []) now each,
            );
            settles = (
              Gained next,
              inl refl,
              subst (λ es. next + largest_interval (pace_of n) + way_span (sync_paths n es) ≤ suc (time + choice))
                  (sym are) (omega (arith, is)),
            );
          }
