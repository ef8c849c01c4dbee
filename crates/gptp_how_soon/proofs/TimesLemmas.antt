-- Each time of a document is told, by the one before, as its events are passed.
use Rattle.std.proofs.Common.{◌≡◌, ◌≤◌, ◌<◌, ℕ, Bool, true, false, ◌==◌, cond, List, [], ◌∷◌, ◌++◌, Option, Some, None, append_assoc, refl, sym, ap, ap₂, subst, ◌∙◌, arith}
use Rattle.std.specs.List.{AllByRecursion}
use Rattle.std.specs.Prelude.{IfSome}
use Rattle.std.proofs.lemmas.Bool.{eq-eqb, eqb-true, eqb-false, ne_eqb}
use Rattle.std.proofs.lemmas.List.{append-nil}
use Rattle.gptp_network.specs.declared.keys.TheConstants.{LATEST_EVENT}
use Rattle.gptp_scenario.specs.Allowed.{AreAllowed}
use Rattle.gptp_scenario.specs.Network.{IsNetwork}
use Rattle.gptp_scenario.specs.declared.change.Timed.{Timed}
use Rattle.gptp_scenario.specs.declared.sync_wait.SyncPaths.{SyncPaths}
use Rattle.gptp_scenario.proofs.InUseLemmas.{short_delay}
use Rattle.gptp_network.specs.Document.{DocumentState}
use Rattle.gptp_network.specs.Events.{AreEvents, AreInOrder, IsEvent}
use Rattle.gptp_network.specs.Snapshot.{events_by}
use Rattle.gptp_topology.specs.Times.{times_from}
use Rattle.gptp_topology.proofs.PassedLemmas.{allowed_before}
use Rattle.gptp_topology.proofs.CourseLemmas.{all_from_0, behind, not_before, order_behind, past_by, until_now}
use Rattle.gptp_how_soon.specs.Kinds.{sets_bounds}
use Rattle.gptp_how_soon.specs.Times.{AreRising, IsWatchedShortly, events_at, events_before, settling_time, settling_times, settling_times_from, time_at, view_at}
use Rattle.gptp_how_soon.specs.Walk.{IsFirstWalk, WalkPasses, WalkTells, view_seen}
use Rattle.gptp_how_soon.specs.declared.bounds.SettlingTime.{SettlingTime}
use Rattle.gptp_how_soon.specs.declared.walk.Walk.{Walk}
use Rattle.gptp_how_soon.proofs.RisingLemmas.{all_earlier, earlier_more, rising_more}
use Rattle.gptp_how_soon.proofs.WalkLemmas.{WalkStands, stands_first, stands_more, stands_on, view_is}
use Rattle.gptp_how_soon.proofs.LinksLemmas.{longest_short}

-- ---- the events of a time

abbrev earlier_than : ℕ → List Timed → Type 0
earlier_than at = AllByRecursion (λ (t : Timed). t.at < at)

abbrev all_at : ℕ → List Timed → Type 0
all_at at = AllByRecursion (λ (t : Timed). t.at ≡ at)

abbrev later_than : ℕ → List Timed → Type 0
later_than at = AllByRecursion (λ (t : Timed). at < t.at)

none_later : (at : ℕ) (ts : List Timed) → later_than at ts → events_at at ts ≡ []
none_later at [] later = refl
none_later at (t ∷ ts) later =
    let here = later.0 in
    let no : (t.at == at) ≡ false = ne_eqb t.at at (λ same. absurd (omega (arith, here, same))) in
    ap (λ test. cond test (t ∷ events_at at ts) (events_at at ts)) no ∙ none_later at ts later.1

all_now : (at : ℕ) (now ts : List Timed) → all_at at now → events_at at (now ++ ts) ≡ now ++ events_at at ts
all_now at [] ts are = refl
all_now at (t ∷ now) ts are =
    ap (λ test. cond test (t ∷ events_at at (now ++ ts)) (events_at at (now ++ ts))) (eq-eqb t.at at are.0)
    ∙ ap (λ us. t ∷ us) (all_now at now ts are.1)

none_earlier : (at : ℕ) (made ts : List Timed) → earlier_than at made → events_at at (made ++ ts) ≡ events_at at ts
none_earlier at [] ts earlier = refl
none_earlier at (t ∷ made) ts earlier =
    let here = earlier.0 in
    let no : (t.at == at) ≡ false = ne_eqb t.at at (λ same. absurd (omega (arith, here, same))) in
    ap (λ test. cond test (t ∷ events_at at (made ++ ts)) (events_at at (made ++ ts))) no
    ∙ none_earlier at made ts earlier.1

now_are : (at : ℕ) (made now left : List Timed) → earlier_than at made → all_at at now → later_than at left
    → events_at at ((made ++ now) ++ left) ≡ now
now_are at made now left earlier are later =
    ap (events_at at) (append_assoc made now left)
    ∙ none_earlier at made (now ++ left) earlier
    ∙ all_now at now left are
    ∙ ap (λ ts. now ++ ts) (none_later at left later)
    ∙ append-nil now

all_later : (at : ℕ) (t : Timed) (ts : List Timed) → at < t.at → not_before t.at ts → later_than at ts
all_later at t [] here come = tt
all_later at t (u ∷ ts) here come =
    let next = come.0 in (omega (arith, here, next), all_later at t ts here come.1)

all_at_more : (at : ℕ) (now : List Timed) (t : Timed) → all_at at now → t.at ≡ at → all_at at (now ++ t ∷ [])
all_at_more at [] t are same = (same, tt)
all_at_more at (u ∷ now) t are same = (are.0, all_at_more at now t are.1 same)

earlier_both : (at next : ℕ) (made now : List Timed) → at < next → earlier_than at made → all_at at now
    → earlier_than next (made ++ now)
earlier_both at next [] [] more earlier are = tt
earlier_both at next [] (t ∷ now) more earlier are =
    let here = are.0 in (omega (arith, more, here), earlier_both at next [] now more tt are.1)
earlier_both at next (t ∷ made) now more earlier are =
    let here = earlier.0 in (omega (arith, more, here), earlier_both at next made now more earlier.1 are)

past_both : (at : ℕ) (made now : List Timed) → earlier_than at made → all_at at now → past_by at (made ++ now)
past_both at [] [] earlier are = tt
past_both at [] (t ∷ now) earlier are =
    let here = are.0 in (omega (arith, here), past_both at [] now tt are.1)
past_both at (t ∷ made) now earlier are =
    let here = earlier.0 in (omega (arith, here), past_both at made now earlier.1 are)

-- ---- what is told so far

-- These events are made before a time and those at it, and others are left; the times before it are told.
pub record Told (d : DocumentState) (made now left : List Timed) (before : Option SettlingTime) (at : ℕ)
    (told : List SettlingTime) : Type 0 where
  pub split : (made ++ now) ++ left ≡ d.events
  pub made_are : made ≡ events_before before d.events
  pub earlier : earlier_than at made
  pub at_it : all_at at now
  pub come : not_before at left
  pub order : AreInOrder left
  pub rest : told ++ settling_times_from d before (times_from at left) ≡ settling_times d

told_none : (d : DocumentState) → AreInOrder d.events → Told d [] [] d.events None 0 []
told_none d order = record {
  split = refl;
  made_are = refl;
  earlier = tt;
  at_it = tt;
  come = all_from_0 d.events;
  order = order;
  rest = refl;
}

module _ (d : DocumentState) (made now : List Timed) (before : Option SettlingTime) (at : ℕ)
    (told : List SettlingTime) where
  -- what is told of this time, once its events are made
  this_is : (left : List Timed) → Told d made now left before at told → later_than at left
      → settling_time d.network (view_at d.network made now before at) ≡ time_at d before at
  this_is left so later =
      ap₂ (λ ms ns. settling_time d.network (view_at d.network ms ns before at)) so.made_are
      (sym (now_are at made now left so.earlier so.at_it later) ∙ ap (events_at at) so.split)

  -- at the next event, of the same time
  told_same : (t : Timed) (left : List Timed) → Told d made now (t ∷ left) before at told → t.at ≡ at
      → Told d made (now ++ t ∷ []) left before at told
  told_same t left so same = record {
    split = ap (λ ts. ts ++ left) (sym (append_assoc made now (t ∷ [])))
        ∙ append_assoc (made ++ now) (t ∷ []) left ∙ so.split;
    made_are = so.made_are;
    earlier = so.earlier;
    at_it = all_at_more at now t so.at_it same;
    come = so.come.1;
    order = order_behind t left so.order;
    rest = ap (λ ats. told ++ settling_times_from d before ats) (sym step) ∙ so.rest;
  }
    where
      step : times_from at (t ∷ left) ≡ times_from at left
      step = ap (λ test. cond test (times_from at left) (at ∷ times_from t.at left)) (eq-eqb t.at at same)

  -- or of another
  told_next : (t : Timed) (left : List Timed) → Told d made now (t ∷ left) before at told → at < t.at
      → Told d (made ++ now) (t ∷ []) left (Some (time_at d before at)) t.at (told ++ time_at d before at ∷ [])
  told_next t left so later = record {
    split = append_assoc (made ++ now) (t ∷ []) left ∙ so.split;
    made_are = sym (ap (events_by at) (sym so.split)
        ∙ until_now at (made ++ now) t left (past_both at made now so.earlier so.at_it) later so.order);
    earlier = earlier_both at t.at made now later so.earlier so.at_it;
    at_it = (refl, tt);
    come = behind t left so.order;
    order = order_behind t left so.order;
    rest =
        append_assoc told (time_at d before at ∷ [])
        (settling_times_from d (Some (time_at d before at)) (times_from t.at left))
        ∙ ap (λ ats. told ++ settling_times_from d before ats) (sym step) ∙ so.rest;
  }
    where
      apart : t.at ≡ at → ⊥
      apart same = absurd (omega (arith, later, same))

      step : times_from at (t ∷ left) ≡ at ∷ times_from t.at left
      step = ap (λ test. cond test (times_from at left) (at ∷ times_from t.at left)) (ne_eqb t.at at apart)

-- ---- the walk

-- where a link was last set, that was no later
abbrev IsSetBy : ℕ → Option ℕ → Type 0
IsSetBy at last = IfSome last (λ time. time ≤ at)

-- A walk has come to a time of a document, with these events left, and has told these times.
pub record Walked (d : DocumentState) (left : List Timed) (w : Walk) (at : ℕ) (times : List SettlingTime) : Type 0 where
  pub made : List Timed
  pub now : List Timed
  pub told : Told d made now left w.before at times
  pub stands : WalkStands d.network made now w
  pub possible : AllByRecursion (IsEvent d.network) left
  pub early : at ≤ LATEST_EVENT
  pub set : IsSetBy at w.last_set
  pub watched : AllByRecursion IsWatchedShortly times
  pub rising : AreRising times
  pub past : all_earlier at times

watched_more : (times : List SettlingTime) (time : SettlingTime) → AllByRecursion IsWatchedShortly times
    → IsWatchedShortly time
    → AllByRecursion IsWatchedShortly (times ++ time ∷ [])
watched_more [] time all one = (one, tt)
watched_more (t ∷ times) time all one = (all.0, watched_more times time all.1 one)

set_later : (was at : ℕ) (last : Option ℕ) → was ≤ at → IsSetBy was last → IsSetBy at last
set_later was at None later is = tt
set_later was at (Some time) later is = let early : time ≤ was = is in omega (arith, early, later)

set_by : (test : Bool) (was now : Option ℕ) (at : ℕ) → IsSetBy at was → now ≡ cond test (Some at) was → IsSetBy at now
set_by true was now at early is = subst (IsSetBy at) (sym is) (omega arith)
set_by false was now at early is = subst (IsSetBy at) (sym is) early

shortly : (time : SettlingTime) (at : ℕ) → time.at ≡ at → at ≤ LATEST_EVENT → time.watch ≤ 200000000000000
    → IsWatchedShortly time
shortly time at is early short = record { span = short; until = omega (arith, is, early, short) }

module _ (d : DocumentState) (network : IsNetwork d.network) where
  pub walked_first : (w : Walk) → AreEvents d.network d.events → IsFirstWalk d.network w → Walked d d.events w 0 []
  walked_first w events is = record {
    made = [];
    now = [];
    told = subst (λ before. Told d [] [] d.events before 0 []) (sym is.before) (told_none d events.in_order);
    stands = stands_first d.network network w is;
    possible = events.each;
    early = omega arith;
    set = subst (IsSetBy 0) (sym is.set) tt;
    watched = tt;
    rising = tt;
    past = tt;
  }

  -- none of the links in use at the time before takes longer than a link may
  pub short_walked : (left : List Timed) (w : Walk) (at : ℕ) (times : List SettlingTime) → AreAllowed d.events
      → Walked d left w at times → w.paths_before.delay ≤ 16000000000
  short_walked left w at times allowed so =
      let split : so.made ++ (so.now ++ left) ≡ d.events =
      sym (append_assoc so.made so.now left) ∙ so.told.split in
      subst (λ (ps : SyncPaths). ps.delay ≤ 16000000000) (sym so.stands.paths)
      (short_delay d.network so.made network (allowed_before so.made (so.now ++ left) d.events split allowed))

  -- none that a link has had is above sixteen seconds
  pub longest_walked : (left : List Timed) (w : Walk) (at : ℕ) (times : List SettlingTime) → AreAllowed d.events
      → Walked d left w at times → w.longest ≤ 16000000000
  longest_walked left w at times allowed so =
      subst (λ delay. delay ≤ 16000000000) (sym so.stands.longest)
      (longest_short d.network (so.made ++ so.now) network
      (allowed_before (so.made ++ so.now) left d.events so.told.split allowed))

  -- an event is passed, once what is before it is told
  pub walked_more : (t : Timed) (left : List Timed) (old told new : Walk) (at : ℕ) (times after : List SettlingTime)
      → Walked d (t ∷ left) old at times → WalkTells d.network at t.at old told times after
      → WalkPasses t.at t.act told new
      → Walked d left new t.at after
  walked_more t left old told new at times after so tells passes = by (t.at == at) refl
    where
      set_early : IsSetBy at old.last_set → told.last_set ≡ old.last_set → at ≤ t.at → IsSetBy t.at new.last_set
      set_early was same later =
          set_by (sets_bounds t.act) told.last_set new.last_set t.at
          (subst (IsSetBy t.at) (sym same) (set_later at t.at old.last_set later was)) passes.set

      same_time : t.at ≡ at → told ≡ old → after ≡ times → Walked d left new t.at after
      same_time same unmoved none =
          let begun = subst (WalkStands d.network so.made so.now) (sym unmoved) so.stands in
          let before : new.before ≡ old.before = passes.before ∙ ap (λ (w : Walk). w.before) unmoved in
          let more = told_same d so.made so.now old.before at times t left so.told same in record {
            made = so.made;
            now = so.now ++ t ∷ [];
            told = subst (λ b. Told d so.made (so.now ++ t ∷ []) left b t.at after) (sym before)
                (subst (Told d so.made (so.now ++ t ∷ []) left old.before t.at) (sym none)
                (subst (λ a. Told d so.made (so.now ++ t ∷ []) left old.before a times) (sym same) more));
            stands = stands_more d.network network so.made so.now t told new begun passes;
            possible = so.possible.1;
            early = so.possible.0.early;
            set = set_early so.set (ap (λ (w : Walk). w.last_set) unmoved) (omega (arith, same));
            watched = subst (AllByRecursion IsWatchedShortly) (sym none) so.watched;
            rising = subst AreRising (sym none) so.rising;
            past = subst (all_earlier t.at) (sym none) (subst (λ a. all_earlier a times) (sym same) so.past);
          }

      by : (test : Bool) → (t.at == at) ≡ test → Walked d left new t.at after
      by true is =
          let (unmoved, none) = tells.0 is in
          same_time (eqb-true t.at at is) unmoved none
      by false is =
          let apart = eqb-false t.at at is in
          let least = so.told.come.0 in
          let later : at < t.at = omega (arith, least, apart) in
          let (on, more, short) = tells.1 (λ yes. let no : true ≡ false = sym yes ∙ is in absurd cc) in
          let seen = settling_time d.network (view_seen d.network old at) in
          let this : seen ≡ time_at d old.before at =
          ap (settling_time d.network) (view_is d.network network so.made so.now old at so.stands)
          ∙ this_is d so.made so.now old.before at times (t ∷ left) so.told
          (later, all_later at t left later (behind t left so.told.order)) in
          let moved = stands_on d.network network so.made so.now seen old told so.stands on in
          let next = told_next d so.made so.now old.before at times t left so.told later in
          let before : new.before ≡ Some (time_at d old.before at) = passes.before ∙ on.before ∙ ap Some this in
          let after_is : after ≡ times ++ time_at d old.before at ∷ [] =
          more ∙ ap (λ time. times ++ time ∷ []) this in record {
            made = so.made ++ so.now;
            now = t ∷ [];
            told = subst (λ b. Told d (so.made ++ so.now) (t ∷ []) left b t.at after) (sym before)
                (subst (Told d (so.made ++ so.now) (t ∷ []) left (Some (time_at d old.before at)) t.at)
                (sym after_is) next);
            stands = stands_more d.network network (so.made ++ so.now) [] t told new moved passes;
            possible = so.possible.1;
            early = so.possible.0.early;
            set = set_early so.set on.set (omega (arith, later));
            watched = subst (AllByRecursion IsWatchedShortly) (sym more)
                (watched_more times seen so.watched (shortly seen at refl so.early short));
            rising = subst AreRising (sym more) (rising_more times seen so.rising so.past);
            past = subst (all_earlier t.at) (sym more)
                (earlier_more at t.at times seen so.past (omega (arith, later)) later);
          }

  -- after the last event
  pub walked_all : (w : Walk) (at : ℕ) (times after : List SettlingTime) (time : SettlingTime) → Walked d [] w at times
      → time ≡ settling_time d.network (view_seen d.network w at) → time.watch ≤ 200000000000000
      → after ≡ times ++ time ∷ []
      → (after ≡ settling_times d) × AreRising after × AllByRecursion IsWatchedShortly after
  walked_all w at times after time so is short more =
      let this : time ≡ time_at d w.before at =
      is ∙ ap (settling_time d.network) (view_is d.network network so.made so.now w at so.stands)
      ∙ this_is d so.made so.now w.before at times [] so.told tt in (
        more ∙ ap (λ x. times ++ x ∷ []) this ∙ so.told.rest,
        subst AreRising (sym more)
            (rising_more times time so.rising
            (subst (λ a. all_earlier a times) (sym (ap (λ (x : SettlingTime). x.at) is)) so.past)),
        subst (AllByRecursion IsWatchedShortly) (sym more)
            (watched_more times time so.watched
            (shortly time at (ap (λ (x : SettlingTime). x.at) is) so.early short)),
      )
