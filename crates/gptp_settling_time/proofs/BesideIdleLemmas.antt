-- What comes of a loss stays where events come beside it that make nothing of what stands.
use Rattle.std.proofs.Common.{true, ◌≡◌, ◌⊎◌, inl, inr, ◌<◌, ◌≤◌, ◌+◌, ◌*◌, ℕ, pred, suc, List, [], ◌∷◌, ◌++◌, refl, sym, ap, subst, ◌∙◌, append_assoc, append-nil, arith}
use Rattle.std.specs.List.{AllByRecursion}
use Rattle.gptp_lists.proofs.SystemSpecLemmas.{In-slice_get}
use Rattle.gptp_scenario.specs.Calm.{IsCalm, IsUsed, NothingLapses, last_change}
use Rattle.gptp_scenario.specs.Change.{link_after}
use Rattle.gptp_scenario.specs.Network.{IsEnd, IsNetwork, NetworkState, pace_of}
use Rattle.gptp_scenario.specs.SettlingAtOnce.{settling_span_at_once}
use Rattle.gptp_scenario.specs.SettlingTime.{loss_span, settling_span_with, silence_span, way_span}
use Rattle.gptp_scenario.specs.SyncWait.{sync_paths}
use Rattle.gptp_scenario.specs.declared.change.Timed.{Timed}
use Rattle.gptp_scenario.specs.declared.network.LinkSpec.{LinkSpec}
use Rattle.gptp_scenario.specs.declared.sync_wait.SyncPaths.{SyncPaths}
use Rattle.gptp_setup.specs.SettlingParams.{largest_interval}
use Rattle.gptp_theorem.proofs.EventLemmas.{last_behind}
use Rattle.gptp_settling_time.specs.Exactly.{SettlesBy}
use Rattle.gptp_settling_time.specs.Gains.{Repeats, RepeatsNow}
use Rattle.gptp_settling_time.specs.HowSoon.{AfterIdleEvents, BeforeRepeats, BesideIdle, EachEvent, IsDownToo}
use Rattle.gptp_settling_time.specs.Pasts.{Aging, AnyPast, Cleared, Fallen, Gained, Heard, Left, Fewer, Lost, Past, Split, Starting, Turned, TurnedTree}
use Rattle.gptp_settling_time.specs.EventKinds.{FlightIsGone, FlightIsGoneFrom}
use Rattle.gptp_settling_time.specs.Leads.{EventLeads}
use Rattle.gptp_settling_time.specs.Arrivals.{HasArrivedSinceSet}
use Rattle.gptp_settling_time.specs.Rests.{FlightIsGoneSince, HasToldAnew, RestsFrom}
use Rattle.gptp_settling_time.specs.InTurn.{ChoosesAfter, LeadOn, SettlesAfter}
use Rattle.gptp_settling_time.specs.Losses.{LowersUnused, MovesNoneInAll, NoneSilent, UpIsUsed, UpIsWithin}
use Rattle.gptp_settling_time.proofs.ArrivalsLemmas.{ArriveAlike, repeats_arrive}
use Rattle.gptp_settling_time.proofs.CalmStillLemmas.{alike_calm, idle_calm}
use Rattle.gptp_settling_time.proofs.LeadOnLemmas.{idle_leads, idle_settled, since, widens_leads}
use Rattle.gptp_settling_time.proofs.SettledPastLemmas.{HasRested, HasSettled, leads_on, settled_later}
use Rattle.gptp_settling_time.proofs.LossRestLemmas.{last_at}
use Rattle.gptp_settling_time.proofs.SamePathsLemmas.{StandSame, idle_same, paths_same, same_alike, same_back, same_itself, same_lives, same_on, stands_before}

-- ---- no such event is there

-- none comes behind a loss
pub before_none : (n : NetworkState) (Are : List Timed → List Timed → Type 0) (made now : List Timed) → Are made now
    → BeforeRepeats n Are made now
before_none n Are made now is = (now, [], sym (append-nil now), tt, is)

-- nor before it
pub beside_none : (n : NetworkState) (settled time : ℕ) (Are : List Timed → List Timed → Type 0) (made : List Timed)
    (event : Timed) (now : List Timed) → Are made (event ∷ now) → BesideIdle n settled time Are made (event ∷ now)
beside_none n settled time Are made event now is = inl (inl (before_none n Are made (event ∷ now) is))

-- nor beside links that go down behind a failure
pub down_alone : (n : NetworkState) (made now : List Timed) → EachEvent (LowersUnused n) made now
    → EachEvent (IsDownToo n) made now
down_alone n made [] each = tt
down_alone n made (event ∷ now) (lowers, each) = (inl lowers, down_alone n (made ++ event ∷ []) now each)

-- ---- what settles by events settles by others after which all stands the same

module _ (n : NetworkState) (off : NothingLapses n.params) (events more : List Timed) (same : StandSame n events more)
    (last : last_change more ≡ last_change events) where
  paths : sync_paths n more ≡ sync_paths n events
  paths = paths_same n events more (same_alike n events more same)

  still_calm : IsCalm n events → IsCalm n more
  still_calm = alike_calm n events more off (same_alike n events more same)

  still_used : UpIsUsed n events → UpIsUsed n more
  still_used used place v there up =
      let one = same.links v (In-slice_get v n.links place there) in
      let was = used place v there (ap (λ (u : LinkSpec). u.up) (sym one) ∙ up) in
      subst (IsUsed n.systems more) (sym one)
      (record {
        up = was.up;
        a = same_lives n events more same (link_after events v).a.clock was.a;
        b = same_lives n events more same (link_after events v).b.clock was.b;
      })

  still_none : (ago : List Timed) → NoneSilent n ago events → NoneSilent n ago more
  still_none ago none place v failed end there (used, up, is_failed, gone) is_end lives =
      let one = same.links v (In-slice_get v n.links place there) in
      none place v failed end there (
        used,
        subst (λ (u : LinkSpec). u.up ≡ true) one up,
        subst (IsEnd failed) one is_failed,
        λ alive. gone (same_lives n events more same failed.clock alive),
      ) (subst (IsEnd end) one is_end) (same_lives n more events (same_back n events more same) end.clock lives)

  still_dark : (ago : List Timed) (silent settled : ℕ) → (silent ≤ settled) ⊎ NoneSilent n ago events
      → (silent ≤ settled) ⊎ NoneSilent n ago more
  still_dark ago silent settled (inl late) = inl late
  still_dark ago silent settled (inr none) = inr (still_none ago none)

  still_leaves : (ago : List Timed) → MovesNoneInAll n ago events → MovesNoneInAll n ago more
  still_leaves ago leaves = record {
    moves = λ g g' v stands stands'. leaves.moves g g' v stands (stands_before n events more same g' stands');
    delay = subst (λ (x : SyncPaths). x.delay ≤ (sync_paths n ago).delay) (sym paths) leaves.delay;
    paths = subst (λ (x : SyncPaths). x.systems ≤ (sync_paths n ago).systems) (sym paths) leaves.paths;
  }

  still_gone : (gone : ℕ) → FlightIsGone n events gone → FlightIsGone n more gone
  still_gone gone (inl (used, is)) = inl (still_used used, is ∙ ap (λ (x : SyncPaths). x.delay) (sym paths))
  still_gone gone (inr is) = inr is

  pub settles_same : (past : Past) (settled : ℕ) → SettlesAfter n events past settled → SettlesAfter n more past settled
  settles_same AnyPast settled (inl (off, late)) =
      inl (
        off,
        subst (λ t. t + settling_span_at_once (pace_of n) (sync_paths n more) ≤ settled) (sym last)
            (subst (λ x. last_change events + settling_span_at_once (pace_of n) x ≤ settled) (sym paths) late),
      )
  settles_same AnyPast settled (inr late) =
      inr (subst (λ t. t + settling_span_with (pace_of n) (sync_paths n more) (sync_paths n more).systems ≤ settled)
      (sym last)
      (subst (λ (x : SyncPaths). last_change events + settling_span_with (pace_of n) x x.systems ≤ settled) (sym paths)
      late))
  settles_same Starting settled none = absurd none
  settles_same (Gained start) settled is = subst (λ x. SettlesBy (pace_of n) x start settled) (sym paths) is
  settles_same (Heard start) settled (off, late) =
      (off, subst (λ (x : SyncPaths). start + pred x.systems * x.delay ≤ settled) (sym paths) late)
  settles_same (Left ago silent) settled (off, dark) = (off, still_dark ago silent settled dark)
  settles_same (Turned silent time) settled (off, late) =
      (off, subst (λ x. time + 1 + way_span x ≤ settled) (sym paths) late)
  settles_same (Fallen silent time) settled (off, late) =
      (off, subst (λ x. time + 1 + 2 * way_span x ≤ settled) (sym paths) late)
  settles_same (TurnedTree silent time) settled (off, late) =
      (off, subst (λ x. time + 1 + 2 * way_span x ≤ settled) (sym paths) late)
  settles_same (Cleared ago first silent right old) settled (off, dark) = (off, still_dark ago silent settled dark)
  settles_same (Aging ago aged silent) settled (off, dark) = (off, still_dark ago silent settled dark)
  settles_same (Split ago gone silent) settled (off, late, dark) =
      (off, subst (λ x. gone + 2 * way_span x ≤ settled) (sym paths) late, still_dark ago silent settled dark)
  settles_same (Lost ago lost_at most silent) settled (off, late, dark) = (
    off,
    subst (λ x. suc (lost_at + loss_span (pace_of n) x most) ≤ settled) (sym paths) late,
    still_dark ago silent settled dark,
  )
  settles_same (Fewer ago lost_at most silent) settled (off, leaves, none) =
      (off, still_leaves ago leaves, still_none ago none)

  pub chooses_same : (past : Past) (settled : ℕ) → ChoosesAfter n events past settled → ChoosesAfter n more past settled
  chooses_same AnyPast settled is = settles_same AnyPast settled is
  chooses_same Starting settled none = absurd none
  chooses_same (Gained start) settled is = settles_same (Gained start) settled is
  chooses_same (Heard start) settled is = settles_same (Heard start) settled is
  chooses_same (Left ago silent) settled off = off
  chooses_same (Turned silent time) settled is = settles_same (Turned silent time) settled is
  chooses_same (Fallen silent time) settled is = settles_same (Fallen silent time) settled is
  chooses_same (TurnedTree silent time) settled is = settles_same (TurnedTree silent time) settled is
  chooses_same (Cleared ago first silent right old) settled off = off
  chooses_same (Aging ago aged silent) settled (off, inl gone) = (off, inl gone)
  chooses_same (Aging ago aged silent) settled (off, inr dark) = (off, inr (still_dark ago silent settled dark))
  chooses_same (Split ago gone silent) settled (off, late) =
      (off, subst (λ x. gone + 2 * way_span x ≤ settled) (sym paths) late)
  chooses_same (Lost ago lost_at most silent) settled (off, late) =
      (off, subst (λ x. suc (lost_at + loss_span (pace_of n) x most) ≤ settled) (sym paths) late)
  chooses_same (Fewer ago lost_at most silent) settled is = settles_same (Fewer ago lost_at most silent) settled is

  -- ---- rest

  still_over : (start time : ℕ) → start + pred (sync_paths n events).systems * (sync_paths n events).delay ≤ time
      → start + pred (sync_paths n more).systems * (sync_paths n more).delay ≤ time
  still_over start time = subst (λ (x : SyncPaths). start + pred x.systems * x.delay ≤ time) (sym paths)

  still_within : (most : ℕ) → UpIsWithin n events most → UpIsWithin n more most
  still_within most within place v there up =
      let one = same.links v (In-slice_get v n.links place there) in
      let short = within place v there (subst (λ (u : LinkSpec). u.up ≡ true) one up) in
      let longest = ap (λ (u : LinkSpec). u.bounds.max) one in
      omega (arith, short, longest)

  still_since : (ago : List Timed) (flight : ℕ) → FlightIsGoneSince n ago events flight
      → FlightIsGoneSince n ago more flight
  still_since ago flight (inl is_gone) = inl (still_gone flight is_gone)
  still_since ago flight (inr (within, arrived)) =
      inr (still_within flight within, subst (λ t. HasArrivedSinceSet n ago (t + flight)) (sym last) arrived)

  -- so much later traces are told anew
  still_anew : (turned start time : ℕ) → HasToldAnew n events turned start time → HasToldAnew n more turned start time
  still_anew turned start time is = record {
    calm = still_calm is.calm;
    off = is.off;
    told = subst (λ (x : SyncPaths). turned + (2 * way_span x
        + pred x.systems * (largest_interval (pace_of n) + x.delay)) < time) (sym paths) is.told;
    later = is.later;
    over = still_over start time is.over;
  }

  settled_same : (past : Past) (time : ℕ) → HasSettled n events past time → HasSettled n more past time
  settled_same AnyPast time is = record {
    calm = still_calm is.calm;
    passed = subst (λ t. t + settling_span_at_once (pace_of n) (sync_paths n more) ≤ time) (sym last)
        (subst (λ x. last_change events + settling_span_at_once (pace_of n) x ≤ time) (sym paths) is.passed);
  }
  settled_same Starting time none = absurd none
  settled_same (Gained start) time is =
      subst (λ (x : SyncPaths). start + largest_interval (pace_of n) + pred x.systems * x.delay ≤ time) (sym paths) is
  settled_same (Heard start) time is = still_over start time is
  settled_same (Left ago silent) time none = absurd none
  settled_same (Turned silent now) time none = absurd none
  settled_same (Fallen silent now) time none = absurd none
  settled_same (TurnedTree silent now) time none = absurd none
  settled_same (Cleared ago first silent right old) time none = absurd none
  settled_same (Aging ago aged silent) time none = absurd none
  settled_same (Split ago gone silent) time none = absurd none
  settled_same (Lost ago lost_at most silent) time none = absurd none
  settled_same (Fewer ago lost_at most silent) time none = absurd none

  -- where what arrived as a link was last set did as soon
  module _ (arrive : ArriveAlike n events more) where
    still_from : (time gone : ℕ) → FlightIsGoneFrom n events time gone → FlightIsGoneFrom n more time gone
    still_from time gone (inl is_gone) = inl (still_gone gone is_gone)
    still_from time gone (inr (within, arrived)) = inr (still_within gone within, arrive (time + gone) arrived)

    rests_same : (past : Past) (time start : ℕ) → RestsFrom n events past time start → RestsFrom n more past time start
    rests_same AnyPast time start none = absurd none
    rests_same Starting time start none = absurd none
    rests_same (Gained first) time start none = absurd none
    rests_same (Heard first) time start none = absurd none
    rests_same (Left ago silent) time start none = absurd none
    rests_same (Turned silent turned) time start is = still_anew turned start time is
    rests_same (Fallen silent fallen) time start is = record {
      calm = still_calm is.calm;
      off = is.off;
      later = subst (λ x. fallen + way_span x < start) (sym paths) is.later;
      flight = is.flight;
      is_gone = still_from fallen is.flight is.is_gone;
      gone = is.gone;
      over = still_over start time is.over;
    }
    rests_same (TurnedTree silent turned) time start (is, later) =
        (still_anew turned start time is, subst (λ x. turned + way_span x < start) (sym paths) later)
    rests_same (Cleared ago first silent right old) time start is = record {
      calm = still_calm is.calm;
      off = is.off;
      gone = is.gone;
      later = is.later;
      unlinked = still_dark ago silent time is.unlinked;
      over = still_over start time is.over;
    }
    rests_same (Aging ago aged silent) time start is = record {
      calm = still_calm is.calm;
      off = is.off;
      by = is.by;
      since = subst (λ t. t ≤ is.by) (sym last) is.since;
      gone = is.gone;
      flight = is.flight;
      is_gone = still_gone is.flight is.is_gone;
      told = subst (λ (x : SyncPaths). is.by + pred (pred x.systems) * (largest_interval (pace_of n) + x.delay)
          + is.flight < time) (sym paths) is.told;
      later = is.later;
      unlinked = is.unlinked;
      over = still_over start time is.over;
    }
    rests_same (Split ago gone silent) time start is = record {
      calm = still_calm is.calm;
      off = is.off;
      since = is.since ∙ ap (λ t. suc (t + silence_span (pace_of n))) (sym last);
      told = elim is.told [
        | inl told ↦
            inl (subst (λ (x : SyncPaths). gone + 2 * way_span x + pred (pred x.systems) * (largest_interval (pace_of n)
            + x.delay) + largest_interval (pace_of n) ≤ time) (sym paths) told)
        | inr (inl (cuts, flight, is_gone, stand, arrived)) ↦ inr (inl (
          λ g g' stands stands'. cuts g g' stands (stands_before n events more same g' stands'),
          flight,
          still_since ago flight is_gone,
          subst (λ x. gone + 2 * way_span x ≤ time) (sym paths) stand,
          subst (λ x. gone + way_span x + flight ≤ time) (sym paths) arrived,
        ))
        | inr (inr (leaves, used, stand, arrived)) ↦ inr (inr (
          λ g g' stands stands'. leaves g g' stands (stands_before n events more same g' stands'),
          used,
          subst (λ x. gone + 2 * way_span x ≤ time) (sym paths) stand,
          subst (λ t. t + (sync_paths n ago).delay < time) (sym last) arrived,
        ))
      ];
      later = subst (λ x. gone + way_span x ≤ start) (sym paths) is.later;
      unlinked = still_dark ago silent time is.unlinked;
      over = still_over start time is.over;
    }
    rests_same (Lost ago lost_at most silent) time start is = record {
      off = is.off;
      later = subst (λ x. lost_at + loss_span (pace_of n) x most < start + way_span x) (sym paths) is.later;
      unlinked = still_dark ago silent time is.unlinked;
      over = still_over start time is.over;
    }
    rests_same (Fewer ago lost_at most silent) time start none = absurd none

    pub rested_same : (past : Past) (time : ℕ) → HasRested n events past time → HasRested n more past time
    rested_same past time (seen, inl one, is) = (seen, inl one, settled_same seen time is)
    rested_same past time (seen, inr (start, one, rests), is) =
        (seen, inr (start, one, rests_same past time start rests), settled_same seen time is)

-- ---- events that repeat what stands

-- such an event leads from each past but a start to itself
repeat_leads : (n : NetworkState) (made : List Timed) (event : Timed) → RepeatsNow n made event → (past : Past)
    → (past ≡ Starting → ⊥) → EventLeads n made past event past
repeat_leads n made event now AnyPast begun = tt
repeat_leads n made event now Starting begun = absurd (begun refl)
repeat_leads n made event now (Gained start) begun = inr (inl (inl now.0.0, refl))
repeat_leads n made event now (Heard start) begun = inr (inr (inl now.0.0, refl))
repeat_leads n made event now (Left ago silent) begun = (inr (now.0.0, now.1), refl, refl)
repeat_leads n made event now (Turned silent time) begun = (now, refl, refl)
repeat_leads n made event now (Fallen silent time) begun = inr (now, refl)
repeat_leads n made event now (TurnedTree silent time) begun = inr (now, refl)
repeat_leads n made event now (Cleared ago first silent right old) begun =
    (inr (now.0.0, now.1), refl, (refl, refl, refl, refl))
repeat_leads n made event now (Aging ago aged silent) begun = (inr now, refl, refl, inl refl)
repeat_leads n made event now (Split ago gone silent) begun = (inr now, refl, refl, inl refl)
repeat_leads n made event now (Lost ago lost_at most silent) begun = (inr now, refl, refl, refl, refl)
repeat_leads n made event now (Fewer ago lost_at most silent) begun = (inr now, refl, refl, refl, refl)

module _ (n : NetworkState) (network : IsNetwork n) (off : NothingLapses n.params) (time : ℕ) where
  abbrev AllNow : List Timed → Type 0
  AllNow = AllByRecursion (λ (t : Timed). t.at ≡ time)

  pub repeats_lead : (made others : List Timed) (past : Past) → (past ≡ Starting → ⊥) → last_change made ≡ time
      → AllNow others → EachEvent (Repeats n) made others → LeadOn n made past others past
  repeats_lead made [] past begun last at each = refl
  repeats_lead made (event ∷ others) past begun last (here, at) (one, each) = (
    past,
    inl refl,
    past,
    repeat_leads n made event (one, here ∙ sym last) past begun,
    repeats_lead (made ++ event ∷ []) others past begun (last_behind made event ∙ here) at each,
  )

  pub repeats_same : (made others : List Timed) → EachEvent (Repeats n) made others → StandSame n made (made ++ others)
  repeats_same made [] each = subst (StandSame n made) (sym (append-nil made)) (same_itself n made)
  repeats_same made (event ∷ others) (one, each) =
      subst (StandSame n made) (append_assoc made (event ∷ []) others)
      (same_on n made (made ++ event ∷ []) ((made ++ event ∷ []) ++ others) (idle_same n network made event one)
      (repeats_same (made ++ event ∷ []) others each))

  last_on : (made others : List Timed) → last_change made ≡ time → AllNow others → last_change (made ++ others) ≡ time
  last_on made [] last at = ap last_change (append-nil made) ∙ last
  last_on made (event ∷ others) last (here, at) =
      ap last_change (sym (append_assoc made (event ∷ []) others))
      ∙ last_on (made ++ event ∷ []) others (last_behind made event ∙ here) at

-- ---- events around a loss

-- the events lead on to what this is so of
pub record LeadsTo (n : NetworkState) (made now : List Timed) (past : Past) (So : List Timed → Past → Type 0)
    : Type 0 where
  pub last : Past
  pub lead : LeadOn n made past now last
  pub so : So (made ++ now) last

pub split_now : (time : ℕ) (first others : List Timed) → AllByRecursion (λ (t : Timed). t.at ≡ time) (first ++ others)
    → AllByRecursion (λ (t : Timed). t.at ≡ time) first × AllByRecursion (λ (t : Timed). t.at ≡ time) others
split_now time [] others at = (tt, at)
split_now time (event ∷ first) others (here, at) =
    let (one, other) = split_now time first others at in ((here, one), other)

module _ (n : NetworkState) (network : IsNetwork n) (off : NothingLapses n.params) (time : ℕ)
    (So : List Timed → Past → Type 0) (begun : (events : List Timed) (past : Past) → So events past → past ≡ Starting →
    ⊥)
    (same : (events more : List Timed) (past : Past) → StandSame n events more
    → last_change more ≡ last_change events → ArriveAlike n events more → So events past → So more past) where
  -- others come at this time that repeat what stands
  pub repeats_to : (made first others : List Timed) (past : Past) → last_change (made ++ first) ≡ time
      → AllByRecursion (λ (t : Timed). t.at ≡ time) others → EachEvent (Repeats n) (made ++ first) others
      → LeadsTo n made first past So → LeadsTo n made (first ++ others) past So
  repeats_to made first others past last at each x = record {
    last = x.last;
    lead = leads_on n made past x.last x.last first others x.lead
        (repeats_lead n network off time (made ++ first) others x.last (begun (made ++ first) x.last x.so) last at
        each);
    so = subst (λ es. So es x.last) (append_assoc made first others)
        (same (made ++ first) ((made ++ first) ++ others) x.last (repeats_same n network off time (made ++ first) others
        each) (last_on n network off time (made ++ first) others last at ∙ sym last)
        (repeats_arrive n (made ++ first) others each) x.so);
  }

  module _ (Are : List Timed → List Timed → Type 0) (some : (made : List Timed) → Are made [] → ⊥)
      (leads : (made first : List Timed) (past : Past) → AllByRecursion (λ (t : Timed). t.at ≡ time) first
      → HasSettled n made past time → IsCalm n made → IsCalm n (made ++ first) → Are made first
      → LeadsTo n made first past So) where
    last_now : (made first : List Timed) → AllByRecursion (λ (t : Timed). t.at ≡ time) first → Are made first
        → last_change (made ++ first) ≡ time
    last_now made [] at is = absurd (some made is)
    last_now made (event ∷ first) at is = last_at made event first time at

    before_repeats : (made now : List Timed) (past : Past) → AllByRecursion (λ (t : Timed). t.at ≡ time) now
        → HasSettled n made past time → IsCalm n made → IsCalm n (made ++ now) → BeforeRepeats n Are made now
        → LeadsTo n made now past So
    before_repeats made now past at settled calm calm_now (first, others, parts, each, is) =
        subst (λ es. LeadsTo n made es past So) (sym parts)
        (repeats_to made first others past (last_now made first at_parts.0 is) at_parts.1 each
        (leads made first past at_parts.0 settled calm calm_first is))
      where
        at_parts : AllByRecursion (λ (t : Timed). t.at ≡ time) first
            × AllByRecursion (λ (t : Timed). t.at ≡ time) others
        at_parts = split_now time first others (subst (AllByRecursion (λ (t : Timed). t.at ≡ time)) parts at)

        whole : made ++ now ≡ (made ++ first) ++ others
        whole = ap (λ es. made ++ es) parts ∙ sym (append_assoc made first others)

        calm_first : IsCalm n (made ++ first)
        calm_first =
            let back = same_back n (made ++ first) ((made ++ first) ++ others)
            (repeats_same n network off time (made ++ first) others each) in
            alike_calm n ((made ++ first) ++ others) (made ++ first) off
            (same_alike n ((made ++ first) ++ others) (made ++ first) back)
            (subst (IsCalm n) whole calm_now)

    after_still : (made now : List Timed) (past : Past) → AllByRecursion (λ (t : Timed). t.at ≡ time) now
        → HasSettled n made past time → IsCalm n made → IsCalm n (made ++ now)
        → AfterIdleEvents n (BeforeRepeats n Are) made now → LeadsTo n made now past So
    after_still made [] past at settled calm calm_now is = before_repeats made [] past at settled calm calm_now is
    after_still made (event ∷ now) past at settled calm calm_now (inl is) =
        before_repeats made (event ∷ now) past at settled calm calm_now is
    after_still made (event ∷ now) past (here, at) settled calm calm_now (inr (one, is)) =
        let before = subst (HasSettled n made past) (sym here) settled in
        let start : ℕ = since n made event network off in
        more_to made event now past (Heard start) (idle_leads n made event network off (inl one) past before)
        (after_still (made ++ event ∷ []) now (Heard start) at
        (subst (HasSettled n (made ++ event ∷ []) (Heard start)) here
        (idle_settled n made event network off (inl one) past before))
        (idle_calm n network off made event one calm)
        (subst (IsCalm n) (sym (append_assoc made (event ∷ []) now)) calm_now) is)
      where
        more_to : (made : List Timed) (event : Timed) (now : List Timed) (past next : Past)
            → EventLeads n made past event next → LeadsTo n (made ++ event ∷ []) now next So
            → LeadsTo n made (event ∷ now) past So
        more_to made event now past next leads x = record {
          last = x.last;
          lead = (past, inl refl, next, leads, x.lead);
          so = subst (λ es. So es x.last) (append_assoc made (event ∷ []) now) x.so;
        }

    pub beside_idle : (made : List Timed) (event : Timed) (now : List Timed) (past : Past) (settled : ℕ)
        → AllByRecursion (λ (t : Timed). t.at ≡ time) (event ∷ now) → HasSettled n made past (suc settled)
        → settled < time → IsCalm n made → IsCalm n (made ++ event ∷ now)
        → BesideIdle n settled time Are made (event ∷ now) → LeadsTo n made (event ∷ now) past So
    beside_idle made event now past settled at has soon calm calm_now (inl is) =
        after_still made (event ∷ now) past at (settled_later n made past (suc settled) time (omega (arith, soon)) has)
        calm
        calm_now is
    beside_idle made event now past settled (here, at) has soon calm calm_now (inr (by, widens, early, calm_wider, is))
        =
        let (next, leads, then) = widens_leads n network off time made event past (suc settled) by here calm has
        (omega (arith, soon)) widens (omega (arith, early)) in
        let x = after_still (made ++ event ∷ []) now (Heard next) at then calm_wider
        (subst (IsCalm n) (sym (append_assoc made (event ∷ []) now)) calm_now) is in
        record {
          last = x.last;
          lead = (past, inl refl, Heard next, leads, x.lead);
          so = subst (λ es. So es x.last) (append_assoc made (event ∷ []) now) x.so;
        }
