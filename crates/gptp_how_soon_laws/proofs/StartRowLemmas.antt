-- The row of time 0: nothing is told after its events, and the network gains; or it comes from any past.
use Rattle.std.proofs.Common.{◌≡◌, ◌⊎◌, inl, inr, ◌+◌, ℕ, Bool, true, false, cond, List, [], ◌∷◌, ◌++◌, Some, None, length, filter, slice_get, refl, sym, ap, ap₂, ◌∙◌, arith}
use Rattle.std.specs.Prelude.{◌==◌, ◌&&◌, not, if◌then◌else◌}
use Rattle.std.specs.List.{list_all, list_any}
use Rattle.std.proofs.lemmas.Bool.{and_parts, or_from, or_parts}
use Rattle.std.proofs.lemmas.Bool.Decides.{nat_tests}
use Rattle.gptp_lists.specs.Members.{In}
use Rattle.gptp_lists.proofs.SystemSpecLemmas.{In-map, In-slice_get}
use Rattle.gptp_setup.specs.SettlingParams.{largest_interval}
use Rattle.gptp_scenario.specs.Calm.{IsUsed}
use Rattle.gptp_scenario.specs.Change.{link_after}
use Rattle.gptp_scenario.specs.Network.{NetworkState, pace_of}
use Rattle.gptp_scenario.specs.SettlingTime.{way_span}
use Rattle.gptp_scenario.specs.SyncWait.{sync_paths}
use Rattle.gptp_scenario.specs.declared.change.Act.{Act}
use Rattle.gptp_scenario.specs.declared.change.Act.TheVariants as acts
use Rattle.gptp_scenario.specs.declared.change.Change.TheVariants as changes
use Rattle.gptp_scenario.specs.declared.change.Timed.{Timed}
use Rattle.gptp_scenario.specs.declared.network.LinkSpec.{LinkSpec}
use Rattle.gptp_scenario.specs.declared.sync_wait.SyncPaths.{SyncPaths}
use Rattle.gptp_network.proofs.PassLemmas.{kept}
use Rattle.gptp_topology.specs.Course.{cable_of}
use Rattle.gptp_topology.specs.declared.course.Cable.{Cable}
use Rattle.gptp_how_soon.specs.Bounds.{asked_again, choice_by, roles_by, sound_by, two_exchanges}
use Rattle.gptp_how_soon.specs.Gains.{is_again, is_hard_to_hear, ready}
use Rattle.gptp_how_soon.specs.Kinds.{is_idle, is_recover, is_recovery, is_recovery_of, recovers, tells_nothing}
use Rattle.gptp_how_soon.specs.Links.{is_new, new_links, varies}
use Rattle.gptp_how_soon.specs.Rest.{is_from_rest}
use Rattle.gptp_how_soon.specs.Times.{gained_at, row_at, told_at, told_of, view_at}
use Rattle.gptp_how_soon.specs.declared.bounds.Loss.{Loss}
use Rattle.gptp_how_soon.specs.declared.bounds.Row.TheVariants.{AnyPast, Gained, Unchanged}
use Rattle.gptp_how_soon.specs.declared.kinds.Kind.{Kind}
use Rattle.gptp_how_soon.specs.declared.kinds.Told.{Told}
use Rattle.gptp_how_soon.specs.declared.kinds.What.{What}
use Rattle.gptp_how_soon.specs.declared.kinds.What.TheVariants as whats
use Rattle.gptp_settling_time.specs.HowSoon.{AreReadyAtStart, AreStartEvents, BoundsStart}
use Rattle.gptp_settling_time.specs.EventKinds.{NoneUsed, TellsNothing, UsedVaryLittle}
use Rattle.gptp_topology.proofs.RestLemmas.{used_cable}
use Rattle.gptp_how_soon_laws.proofs.ReadyLemmas.{none_any, not_none}
use Rattle.gptp_how_soon_laws.proofs.KindLemmas.{told}
use Rattle.gptp_how_soon_laws.proofs.RowBoundLemmas.{past_row}

-- ---- its row

begun_from : (rest : Bool) → (if not rest then AnyPast else Gained) ≡ Gained → rest ≡ true
begun_from false is = absurd cc
begun_from true is = refl

never_begun : (rest : Bool) → (if not rest then AnyPast else Gained) ≡ Unchanged → ⊥
never_begun false is = absurd cc
never_begun true is = absurd cc

begun_past : (rest : Bool) → (if not rest then AnyPast else Gained) ≡ past_row (if not rest then AnyPast else Gained)
begun_past false = refl
begun_past true = refl

-- ---- its events

-- nothing is told after such an event
tells_so : (n : NetworkState) (made : List Timed) (act : Act) → tells_nothing (told_at n made act) ≡ true
    → TellsNothing act
tells_so n made (acts.Deliver link direction) is = absurd cc
tells_so n made (acts.Expire clock timer) is = absurd cc
tells_so n made (acts.Change (changes.LinkDown clock port)) is = tt
tells_so n made (acts.Change (changes.LinkUp clock port)) is = tt
tells_so n made (acts.Change (changes.LinkSet clock port least greatest loss)) is = absurd cc
tells_so n made (acts.Change (changes.Fail number)) is = tt
tells_so n made (acts.Change (changes.Recover number)) is = absurd cc
tells_so n made (acts.Change (changes.Priority1 number value)) is = tt
tells_so n made (acts.Change (changes.Inject clock port octets)) is = absurd cc

all_tell_so : (n : NetworkState) (made events : List Timed) → list_all tells_nothing (told_of n made events) ≡ true
    → AreStartEvents events
all_tell_so n made [] quiet = tt
all_tell_so n made (event ∷ events) quiet =
    let (one, rest) =
    and_parts (tells_nothing (told_at n made event.act))
    (list_all tells_nothing (told_of n (made ++ event ∷ []) events)) quiet in
    (tells_so n made event.act one, all_tell_so n (made ++ event ∷ []) events rest)

-- nobody recovers
no_recovery : (clock : ℕ) (what : What) (kind : Kind) → tells_nothing (told clock what kind) ≡ true
    → is_recover (told clock what kind) ≡ false
no_recovery clock whats.LinkDown kind is = refl
no_recovery clock whats.LinkUp kind is = refl
no_recovery clock whats.LinkSet kind is = refl
no_recovery clock whats.Fail kind is = refl
no_recovery clock whats.Recover kind is = absurd cc
no_recovery clock whats.Priority1 kind is = refl
no_recovery clock whats.Inject kind is = refl
no_recovery clock whats.NoChange kind is = refl

and_none : (a b : Bool) → b ≡ false → (a && b) ≡ false
and_none true b none = none
and_none false b none = refl

never_recovers : (clock : ℕ) (es : List Told) → list_all tells_nothing es ≡ true → recovers es clock ≡ false
never_recovers clock [] quiet = refl
never_recovers clock (e ∷ es) quiet =
    let (one, rest) = and_parts (tells_nothing e) (list_all tells_nothing es) quiet in
    or_from (is_recovery_of clock e) (recovers es clock)
    (and_none (e.clock == clock) (is_recovery e)
    (ap (λ test. test && not (is_idle e)) (no_recovery e.clock e.what e.kind one)))
    (never_recovers clock es rest)

never_again : (es : List Told) → list_all tells_nothing es ≡ true → (cs : List Cable)
    → list_any (is_again es) cs ≡ false
never_again es quiet [] = refl
never_again es quiet (c ∷ cs) =
    or_from (is_again es c) (list_any (is_again es) cs)
    (or_from (recovers es c.a.clock) (recovers es c.b.clock) (never_recovers c.a.clock es quiet)
    (never_recovers c.b.clock es quiet))
    (never_again es quiet cs)

-- a link in use is new
new_used : (n : NetworkState) (now : List Timed) (place : ℕ) (v : LinkSpec) → slice_get n.links place ≡ Some v
    → IsUsed n.systems now (link_after now v) → In (cable_of (link_after now v)) (new_links n [] now true)
new_used n now place v there used =
    In-map (λ (w : LinkSpec). cable_of (link_after now w)) v (filter (is_new n [] now true) n.links)
    (kept (is_new n [] now true) v n.links (In-slice_get v n.links place there)
    (ap (λ test. test && true) (used_cable n now v used)))

none_used : (n : NetworkState) (now : List Timed) → (length (new_links n [] now true) == 0) ≡ true → NoneUsed n now
none_used n now none place v there used =
    let some =
    not_none (cable_of (link_after now v)) (new_links n [] now true) (new_used n now place v there used) in
    let no : true ≡ false = sym none ∙ some in cc

vary_little : (n : NetworkState) (now : List Timed) (es : List Told)
    → list_any (is_hard_to_hear es) (new_links n [] now true) ≡ false → UsedVaryLittle n now
vary_little n now es soft place v there used =
    let c = cable_of (link_after now v) in
    let one =
    none_any (is_hard_to_hear es) (new_links n [] now true) c soft (new_used n now place v there used) in
    let steady : varies c ≡ false = (or_parts (is_again es c) (varies c) one).1 in
    grind (arith, nat_tests)

-- nothing is told
starts : (n : NetworkState) (now : List Timed) → list_all tells_nothing (told_of n [] now) ≡ true
    → BoundsStart n now (gained_at n (view_at n [] now None 0))
starts n now quiet = (
  all_tell_so n [] now quiet,
  (
    start,
    soon (length (new_links n [] now true) == 0) refl,
    by (list_any (is_hard_to_hear (told_of n [] now)) (new_links n [] now true)) refl,
  ),
)
  where
    start : ℕ
    start = ready n.params (sync_paths n now) (told_of n [] now) (new_links n [] now true)

    soon : (unused : Bool) → (length (new_links n [] now true) == 0) ≡ unused → AreReadyAtStart n now start
    soon true is = inr (
      none_used n now is,
      ap (λ unused. cond unused 0 (cond (list_any (is_again (told_of n [] now)) (new_links n [] now true))
          (asked_again n.params (sync_paths n now)) (two_exchanges n.params (sync_paths n now)))) is,
    )
    soon false is =
        inl (ap₂ (λ unused again. cond unused 0
        (cond again (asked_again n.params (sync_paths n now)) (two_exchanges n.params (sync_paths n now)))) is
        (never_again (told_of n [] now) quiet (new_links n [] now true)))

    by : (hard : Bool) → list_any (is_hard_to_hear (told_of n [] now)) (new_links n [] now true) ≡ hard
        → (UsedVaryLittle n now
        × (start + cond hard (largest_interval (pace_of n)) 0 + way_span (sync_paths n now)
        ≡ start + way_span (sync_paths n now)))
        ⊎ (start + cond hard (largest_interval (pace_of n)) 0 + way_span (sync_paths n now)
        ≡ start + largest_interval (pace_of n) + way_span (sync_paths n now))
    by true is = inr refl
    by false is = inl (vary_little n now (told_of n [] now) is, omega arith)

-- time 0 with its row
pub started : (n : NetworkState) (now : List Timed) → row_at (view_at n [] now None 0) ≡ Gained
    → BoundsStart n now (gained_at n (view_at n [] now None 0))
started n now row =
    let v = view_at n [] now None 0 in
    starts n now (begun_from (is_from_rest v.longest v.at v.paths_before v.paths v.told v.before) row)

pub never_unchanged : (n : NetworkState) (now : List Timed) → row_at (view_at n [] now None 0) ≡ Unchanged → ⊥
never_unchanged n now row =
    let v = view_at n [] now None 0 in
    never_begun (is_from_rest v.longest v.at v.paths_before v.paths v.told v.before) row

-- no loss has a bound of its own then
pub first_past : (n : NetworkState) (now : List Timed)
    → row_at (view_at n [] now None 0) ≡ past_row (row_at (view_at n [] now None 0))
first_past n now =
    let v = view_at n [] now None 0 in
    begun_past (is_from_rest v.longest v.at v.paths_before v.paths v.told v.before)

-- all is sound as soon as the choice stands
begun_sound : (n : NetworkState) (loss : Loss) (paths : SyncPaths) (gained : ℕ) (rest : Bool)
    → sound_by n loss paths (if not rest then AnyPast else Gained) gained
    ≡ choice_by n loss paths (if not rest then AnyPast else Gained) gained
begun_sound n loss paths gained true = refl
begun_sound n loss paths gained false = refl

pub first_sound : (n : NetworkState) (now : List Timed) (loss : Loss) (paths : SyncPaths)
    (gained : ℕ)
    → sound_by n loss paths (row_at (view_at n [] now None 0)) gained
    ≡ choice_by n loss paths (row_at (view_at n [] now None 0)) gained
first_sound n now loss paths gained =
    let v = view_at n [] now None 0 in
    begun_sound n loss paths gained
    (is_from_rest v.longest v.at v.paths_before v.paths v.told v.before)

-- and roles do then
begun_roles : (n : NetworkState) (loss : Loss) (paths : SyncPaths) (gained : ℕ) (rest : Bool)
    → roles_by n loss paths (if not rest then AnyPast else Gained) gained
    ≡ choice_by n loss paths (if not rest then AnyPast else Gained) gained
begun_roles n loss paths gained true = refl
begun_roles n loss paths gained false = refl

pub first_roles : (n : NetworkState) (now : List Timed) (loss : Loss) (paths : SyncPaths) (gained : ℕ)
    → roles_by n loss paths (row_at (view_at n [] now None 0)) gained
    ≡ choice_by n loss paths (row_at (view_at n [] now None 0)) gained
first_roles n now loss paths gained =
    let v = view_at n [] now None 0 in
    begun_roles n loss paths gained (is_from_rest v.longest v.at v.paths_before v.paths v.told v.before)
