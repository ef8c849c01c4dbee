-- A link stands quiet exactly where it rests, Sync isn't late exactly where it comes in time, and a network is calm
-- exactly where its test says so.
use Rattle.std.proofs.Common.{◌≡◌, ◌↔◌, ◌≤◌, ℕ, Bool, true, false, ◌==◌, ◌&&◌, ◌||◌, nat_le, nat_lt, not, cond, List, Option, Some, None, get_or, refl, sym, ap, subst, ◌∙◌, inl, inr, arith}
use Rattle.std.specs.List.{All, list_any}
use Rattle.std.specs.Option.{is_some}
use Rattle.std.proofs.lemmas.Bool.{and_from, and_parts, eq-eqb, eqb-true, false_from_ne_true, not-false, not-true, or_from, or_parts}
use Rattle.std.proofs.lemmas.Bool.Decides.{nat_tests}
use Rattle.std.proofs.lemmas.Option.{same_Some, slice_get-get_or, slice_get_within}
use Rattle.gptp_lists.specs.Members.{In}
use Rattle.gptp_lists.proofs.SystemSpecLemmas.{In-map, In-slice_get, from_map, slice_get-In}
use Rattle.gptp_vector.specs.declared.port.PortId.{PortId}
use Rattle.gptp_roles.specs.Selection.{clock_of}
use Rattle.gptp_setup.specs.SettlingParams.{lapse_span}
use Rattle.gptp_setup.specs.declared.setup.Params.{Params}
use Rattle.gptp_scenario.specs.Calm.{AllRest, IsCalm, IsLive, IsUsed, Rests, SyncsComeInTime}
use Rattle.gptp_scenario.specs.Change.{link_after, system_after}
use Rattle.gptp_scenario.specs.InUse.{lives}
use Rattle.gptp_scenario.specs.Network.{NetworkState}
use Rattle.gptp_scenario.specs.SyncWait.{sync_paths, sync_wait}
use Rattle.gptp_scenario.specs.declared.change.Timed.{Timed}
use Rattle.gptp_scenario.specs.declared.network.LinkSpec.{LinkSpec}
use Rattle.gptp_scenario.specs.declared.network.SystemSpec.{SystemSpec}
use Rattle.gptp_scenario.specs.declared.sync_wait.SyncPaths.{SyncPaths}
use Rattle.gptp_scenario.proofs.AfterLemmas.{after_keeps}
use Rattle.gptp_network.proofs.PassLemmas.{passes, passes_at}
use Rattle.gptp_topology.specs.After.{is_calm, standing_then, standings_after}
use Rattle.gptp_topology.specs.Course.{cable_is_used}
use Rattle.gptp_topology.specs.Tables.{late_of, may_lapse}
use Rattle.gptp_topology.specs.Trouble.{is_long, is_troubled, loss_in_use, needed}
use Rattle.gptp_topology.specs.declared.course.Standing.{Standing}

-- ---- what holds of all members holds of each

pub all_in : {X : Type 0} (P : X → Type 0) (x : X) (xs : List X) → All P xs → In x xs → P x
all_in P x xs all member =
    let (k, there) = slice_get-In x xs member in
    let within = slice_get_within xs k x there in
    subst P (same_Some (get_or xs k x) x (sym (slice_get-get_or xs k x within) ∙ there)) (all k x within)

pub in_all : {X : Type 0} (P : X → Type 0) (xs : List X) → ((x : X) → In x xs → P x) → All P xs
in_all P xs each = λ k d within.
    each (get_or xs k d) (In-slice_get (get_or xs k d) xs k (slice_get-get_or xs k d within))

-- ---- a link in use

pub three_from : (a b c : Bool) → a ≡ true → b ≡ true → c ≡ true → (a && (b && c)) ≡ true
three_from a b c x y z = rw (x, y, z) refl

pub three_parts : (a b c : Bool) → (a && (b && c)) ≡ true → (a ≡ true) × (b ≡ true) × (c ≡ true)
three_parts true true true is = (refl, refl, refl)
three_parts true true false is = absurd cc
three_parts true false c is = absurd cc
three_parts false b c is = absurd cc

-- neither long nor lossy, by whether it is in use
quiet_used : (p : Params) (s : Standing) → cable_is_used s ≡ true → is_long p s ≡ false → loss_in_use s ≡ 0
    → (s.cable.bounds.loss ≡ 0) × (needed p s.cable.bounds.max ≤ p.threshold)
quiet_used p s used long lossy =
    let short : nat_lt p.threshold (needed p s.cable.bounds.max) ≡ false =
    ap (λ u. u && nat_lt p.threshold (needed p s.cable.bounds.max)) (sym used) ∙ long in
    let none : s.cable.bounds.loss ≡ 0 = ap (λ u. cond u s.cable.bounds.loss 0) (sym used) ∙ lossy in
    (none, grind (arith, nat_tests))

quiet_by : (p : Params) (s : Standing) (used : Bool) → cable_is_used s ≡ used
    → (used ≡ true → (s.cable.bounds.loss ≡ 0) × (needed p s.cable.bounds.max ≤ p.threshold))
    → ((used && nat_lt p.threshold (needed p s.cable.bounds.max)) ≡ false) × (cond used s.cable.bounds.loss 0 ≡ 0)
quiet_by p s true is quiet = let (none, short) = quiet refl in (grind (arith, nat_tests), none)
quiet_by p s false is quiet = (refl, refl)

module _ (n : NetworkState) (events : List Timed) where
  -- the system with a clock lives
  pub lives_from : (clock : ℕ) → IsLive n.systems events clock → lives n.systems events clock ≡ true
  lives_from clock live =
      passes_at (λ m. clock_of m.identity == clock && (system_after events m).live) n.systems live.system
      (In-slice_get live.system n.systems live.place live.there)
      (and_from (clock_of live.system.identity == clock) (system_after events live.system).live
      (eq-eqb (clock_of live.system.identity) clock live.clock) live.live)

  pub lives_to : (clock : ℕ) → lives n.systems events clock ≡ true → IsLive n.systems events clock
  lives_to clock is =
      let (m, member, both) =
      passes (λ (m : SystemSpec). clock_of m.identity == clock && (system_after events m).live) n.systems is in
      let (place, there) = slice_get-In m n.systems member in
      let (named, live) = and_parts (clock_of m.identity == clock) (system_after events m).live both in
      record {
        place = place;
        system = m;
        there = there;
        clock = eqb-true (clock_of m.identity) clock named;
        live = live;
      }

  -- it is in use where it stands so
  pub used_cable : (w : LinkSpec) → IsUsed n.systems events (link_after events w)
      → cable_is_used (standing_then n events w) ≡ true
  used_cable w used =
      let ends = after_keeps events w in
      three_from (link_after events w).up (lives n.systems events w.a.clock) (lives n.systems events w.b.clock) used.up
      (lives_from w.a.clock (subst (λ (p : PortId). IsLive n.systems events p.clock) ends.a used.a))
      (lives_from w.b.clock (subst (λ (p : PortId). IsLive n.systems events p.clock) ends.b used.b))

  pub cable_used : (w : LinkSpec) → cable_is_used (standing_then n events w) ≡ true
      → IsUsed n.systems events (link_after events w)
  cable_used w on =
      let ends = after_keeps events w in
      let (up, a, b) =
      three_parts (link_after events w).up (lives n.systems events w.a.clock) (lives n.systems events w.b.clock) on in
      record {
        up = up;
        a = subst (λ (p : PortId). IsLive n.systems events p.clock) (sym ends.a) (lives_to w.a.clock a);
        b = subst (λ (p : PortId). IsLive n.systems events p.clock) (sym ends.b) (lives_to w.b.clock b);
      }

  -- it rests where it stands neither long nor lossy
  pub rests_from : (w : LinkSpec) → is_long n.params (standing_then n events w) ≡ false
      → loss_in_use (standing_then n events w) ≡ 0 → Rests n.params n.systems events w
  rests_from w long lossy = λ used.
      let (none, short) = quiet_used n.params (standing_then n events w) (used_cable w used) long lossy in
      record { lossless = none; good = short }

  pub rests_to : (w : LinkSpec) → Rests n.params n.systems events w
      → (is_long n.params (standing_then n events w) ≡ false) × (loss_in_use (standing_then n events w) ≡ 0)
  rests_to w rests =
      quiet_by n.params (standing_then n events w) (cable_is_used (standing_then n events w)) refl (λ used.
      let quiet = rests (cable_used w used) in (quiet.lossless, quiet.good))

-- ---- Sync that isn't late comes in time

late_by : (p : Params) (paths : SyncPaths) (lapse slow : Bool) → may_lapse p ≡ lapse
    → nat_le (lapse_span p) (sync_wait p paths) ≡ slow
    → (cond (lapse && slow) (Some (sync_wait p paths)) None ≡ None) ↔ SyncsComeInTime p paths
late_by p paths true true on slow =
    let late : lapse_span p ≤ sync_wait p paths = grind (arith, nat_tests) in (
      λ none. absurd cc,
      λ in_time. elim in_time [
        | inl off ↦ let no : true ≡ false = sym on ∙ ap not (eq-eqb p.sync_timeout 0 off) in absurd cc
        | inr soon ↦ absurd (omega (arith, late, soon))
      ],
    )
late_by p paths true false on soon = (λ none. inr (grind (arith, nat_tests)), λ in_time. refl)
late_by p paths false slow off is =
    (λ none. inl (eqb-true p.sync_timeout 0 (not-false (p.sync_timeout == 0) off)), λ in_time. refl)

late_is : (p : Params) (paths : SyncPaths) → (late_of p paths ≡ None) ↔ SyncsComeInTime p paths
late_is p paths =
    late_by p paths (may_lapse p) (nat_le (lapse_span p) (sync_wait p paths)) refl refl

pub in_time : (p : Params) (paths : SyncPaths) → late_of p paths ≡ None → SyncsComeInTime p paths
in_time p paths = (late_is p paths).0

pub not_late : (p : Params) (paths : SyncPaths) → SyncsComeInTime p paths → late_of p paths ≡ None
not_late p paths = (late_is p paths).1

-- ---- a calm network

none_some : (o : Option ℕ) → is_some o ≡ false → o ≡ None
none_some None is = refl
none_some (Some x) is = absurd cc

module _ (n : NetworkState) (events : List Timed) where
  abbrev stood : LinkSpec → Standing
  stood = standing_then n events

  abbrev is_late : Bool
  is_late = is_some (late_of n.params (sync_paths n events))

  abbrev any_troubled : Bool
  any_troubled = list_any (is_troubled n.params) (standings_after n events)

  all_rest : any_troubled ≡ false → AllRest n.params n.systems n.links events
  all_rest none = in_all (Rests n.params n.systems events) n.links (λ w member.
      let quiet = false_from_ne_true (is_troubled n.params (stood w)) (λ is.
      let some = passes_at (is_troubled n.params) (standings_after n events) (stood w)
      (In-map stood w n.links member) is in
      let no : true ≡ false = sym some ∙ none in cc) in
      let (long, lossy) = or_parts (is_long n.params (stood w)) (not (loss_in_use (stood w) == 0)) quiet in
      rests_from n events w long
      (eqb-true (loss_in_use (stood w)) 0 (not-false (loss_in_use (stood w) == 0) lossy)))

  none_troubled : AllRest n.params n.systems n.links events → any_troubled ≡ false
  none_troubled rest = false_from_ne_true any_troubled (λ some.
      let (s, member, is) = passes (is_troubled n.params) (standings_after n events) some in
      let (w, among, same) = from_map stood s n.links member in
      let (long, lossy) = rests_to n events w (all_in (Rests n.params n.systems events) w n.links rest among) in
      let quiet = or_from (is_long n.params (stood w)) (not (loss_in_use (stood w) == 0)) long
      (ap not (eq-eqb (loss_in_use (stood w)) 0 lossy)) in
      let no : true ≡ false = sym is ∙ ap (is_troubled n.params) (sym same) ∙ quiet in cc)

  pub calm_from : is_calm n events ≡ true → IsCalm n events
  calm_from is =
      let (never, untroubled) = or_parts is_late any_troubled (not-true (is_late || any_troubled) is) in
      record {
        links = all_rest untroubled;
        lapses = in_time n.params (sync_paths n events) (none_some (late_of n.params (sync_paths n events)) never);
      }

  pub calm_to : IsCalm n events → is_calm n events ≡ true
  calm_to calm =
      ap not (or_from is_late any_troubled (ap is_some (not_late n.params (sync_paths n events) calm.lapses))
      (none_troubled calm.links))

  -- so whether it is can be decided
  pub calm_dec : Dec (IsCalm n events)
  calm_dec = by (is_calm n events) refl
    where
      by : (test : Bool) → is_calm n events ≡ test → Dec (IsCalm n events)
      by true is = yes (calm_from is)
      by false is = no (λ calm. let off : true ≡ false = sym (calm_to calm) ∙ is in cc)
