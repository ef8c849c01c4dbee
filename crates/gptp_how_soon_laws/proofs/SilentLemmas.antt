-- What came over silent links has aged, or the ports beside them aren't capable, by so much later as is computed.
use Rattle.std.proofs.Common.{◌≡◌, ◌<◌, ◌≤◌, inl, inr, ◌-◌, ◌+◌, max, ℕ, ℤ, zero, suc, Bool, true, false, List, [], ◌∷◌, ◌++◌, map, Option, Some, None, slice_get, refl, sym, ap, ap₂, subst, ◌∙◌, arith}
use Rattle.std.specs.Prelude.{◌==◌, ◌&&◌, ◌||◌, length, min, not, if◌then◌else◌}
use Rattle.std.specs.List.{AllByRecursion, range_with_len}
use Rattle.std.specs.Option.{option_or}
use Rattle.std.proofs.lemmas.Bool.{and_from, eqb-true, false_from_ne_true}
use Rattle.std.proofs.lemmas.Option.{same_Some}
use Rattle.gptp_lists.proofs.MappedLemmas.{mapped_there}
use Rattle.gptp_graph.specs.Snapshot.{IsWellFormed, Snapshot}
use Rattle.gptp_vector.specs.declared.port.PortId.{PortId}
use Rattle.gptp_setup.specs.SettlingParams.{largest_interval, longest_span}
use Rattle.gptp_roles.specs.Selection.{clock_of}
use Rattle.gptp_scenario.specs.Calm.{IsLive, last_change}
use Rattle.gptp_scenario.specs.Change.{link_after}
use Rattle.gptp_scenario.specs.InUse.{lives}
use Rattle.gptp_scenario.specs.Network.{IsEnd, IsNetwork, NetworkState, pace_of}
use Rattle.gptp_scenario.specs.SettlingTime.{silence_span}
use Rattle.gptp_scenario.specs.declared.change.Timed.{Timed}
use Rattle.gptp_scenario.specs.declared.network.LinkSpec.{LinkSpec}
use Rattle.gptp_scenario.specs.declared.network.SystemSpec.{SystemSpec}
use Rattle.gptp_scenario.proofs.AfterLemmas.{after_keeps}
use Rattle.gptp_network.specs.Snapshot.{StandsAfter}
use Rattle.gptp_system.specs.State.{number}
use Rattle.gptp_topology.specs.After.{standing_then, standings_after}
use Rattle.gptp_topology.specs.Course.{cable_is_used}
use Rattle.gptp_topology.specs.declared.course.Standing.{Standing}
use Rattle.gptp_topology.proofs.RestLemmas.{lives_from, lives_to, used_cable}
use Rattle.gptp_how_soon.specs.Silent.{held_after, held_among, held_end, held_one, held_over, hold_span, is_heard_link, is_silent_at, is_silent_by, log_from, log_if, silent_after, timeout_of}
use Rattle.gptp_settling_time.specs.HowSoon.{HeldFor}
use Rattle.gptp_settling_time.specs.Losses.{AgesWithin, AnnouncesAt, IsHoldSpan, IsSilent, NoneSilent}
use Rattle.gptp_how_soon_laws.proofs.LiveEndsLemmas.{counts_heard, two_ends}
use Rattle.gptp_how_soon_laws.proofs.ReadyLemmas.{none_any}
use Rattle.gptp_how_soon_laws.proofs.UnmovedLemmas.{place_in_range}

-- ---- the interval of a port

-- a system has such a port, with this interval
record Found (p : PortId) (systems : List SystemSpec) (log : ℤ) : Type 0 where
  place : ℕ
  system : SystemSpec
  there : slice_get systems place ≡ Some system
  clock : clock_of system.identity ≡ p.clock
  interval : slice_get system.intervals.items (p.port - 1) ≡ Some log

found : (p : PortId) (systems : List SystemSpec) (log : ℤ) → log_from p systems ≡ Some log → Found p systems log
found p [] log none = absurd cc
found p (m ∷ ms) log is =
    by (clock_of m.identity == p.clock) refl (slice_get m.intervals.items (p.port - 1)) refl (found p ms log)
  where
    behind : (log_from p ms ≡ Some log → Found p ms log) → log_if p m ≡ None → Found p (m ∷ ms) log
    behind rest none =
        let x = rest (sym (ap (λ o. option_or o (log_from p ms)) none) ∙ is) in
        record { place = suc x.place; system = x.system; there = x.there; clock = x.clock; interval = x.interval }

    by : (named : Bool) → (clock_of m.identity == p.clock) ≡ named → (o : Option ℤ)
        → slice_get m.intervals.items (p.port - 1) ≡ o → (log_from p ms ≡ Some log → Found p ms log)
        → Found p (m ∷ ms) log
    by true named (Some l) here rest =
        let this : log_if p m ≡ Some l =
        ap (λ b. if b then slice_get m.intervals.items (p.port - 1) else None) named ∙ here in
        record {
          place = 0;
          system = m;
          there = refl;
          clock = eqb-true (clock_of m.identity) p.clock named;
          interval = here ∙ sym (ap (λ o. option_or o (log_from p ms)) this) ∙ is;
        }
    by true named None here rest =
        behind rest (ap (λ b. if b then slice_get m.intervals.items (p.port - 1) else None) named ∙ here)
    by false named o here rest =
        behind rest (ap (λ b. if b then slice_get m.intervals.items (p.port - 1) else None) named)

numbered : (logs : List ℤ) (port : ℕ) → 1 ≤ port → number logs port ≡ slice_get logs (port - 1)
numbered logs zero first = absurd (omega (arith, first))
numbered logs (suc i) first = let same : i ≡ suc i - 1 = omega arith in ap (slice_get logs) same

-- what a port of the network told is held for so long
module _ (n : NetworkState) (made : List Timed) (time : ℕ) (own : Bool)
    (late : own ≡ true → last_change made + largest_interval (pace_of n) + longest_span (pace_of n) < time)
    (p : PortId) (first : 1 ≤ p.port) where
  holds : IsHoldSpan n made time p (hold_span n own p)
  holds = by own refl (log_from p n.systems) refl
    where
      by : (test : Bool) → own ≡ test → (o : Option ℤ) → log_from p n.systems ≡ o
          → IsHoldSpan n made time p (if test then timeout_of n o else longest_span (pace_of n))
      by true is (Some log) there =
          let x = found p n.systems log there in
          let announces : AnnouncesAt n p log = record {
            place = x.place;
            system = x.system;
            there = x.there;
            clock = x.clock;
            interval = numbered x.system.intervals.items p.port first ∙ x.interval;
          } in
          inr (late is, (log, announces, refl))
      by true is None there = inl refl
      by false is o there = inl refl

-- ---- how long what came over links is held

-- by when that has aged that a system told over a link, if it has failed
abbrev aged_end : NetworkState → Bool → ℕ → PortId → Bool → ℕ
aged_end n own delay p lives_then = if lives_then then 0 else hold_span n own p + delay

abbrev aged_over : NetworkState → Bool → Standing → ℕ
aged_over n own s =
    max (aged_end n own s.cable.bounds.max s.cable.a s.a_lives) (aged_end n own s.cable.bounds.max s.cable.b s.b_lives)

held_until : (n : NetworkState) (own : Bool) (delay : ℕ) (p : PortId) (lives_then : Bool)
    → held_end n own delay p lives_then ≡ min (aged_end n own delay p lives_then) (silence_span (pace_of n))
held_until n own delay p true = omega arith
held_until n own delay p false = refl

over_until : (n : NetworkState) (own : Bool) (s : Standing)
    → held_over n own s ≡ min (aged_over n own s) (silence_span (pace_of n))
over_until n own s =
    let a = held_until n own s.cable.bounds.max s.cable.a s.a_lives in
    let b = held_until n own s.cable.bounds.max s.cable.b s.b_lives in
    omega (arith, a, b)

-- what came over each silent link that counts has aged within the span, and it counts for that, or until ports beside
-- it are off
record Ages (n : NetworkState) (own : Bool) (heard : List Bool) (standings : List Standing) : Type 0 where
  span : ℕ
  each : (place : ℕ) (u : Bool) (s : Standing) → slice_get heard place ≡ Some u → slice_get standings place ≡ Some s
      → (u && s.cable.up) ≡ true → aged_over n own s ≤ span
  held : held_among n own heard standings ≡ min span (silence_span (pace_of n))

ages : (n : NetworkState) (own : Bool) (heard : List Bool) (standings : List Standing) → Ages n own heard standings
ages n own [] ss = record { span = 0; each = λ place u s here. absurd cc; held = omega arith }
ages n own (u ∷ us) [] = record { span = 0; each = λ place v s here there. absurd cc; held = omega arith }
ages n own (u ∷ us) (s ∷ ss) = by (u && s.cable.up) refl (ages n own us ss)
  where
    by : (silent : Bool) → (u && s.cable.up) ≡ silent → Ages n own us ss → Ages n own (u ∷ us) (s ∷ ss)
    by true silent rest = record {
      span = max (aged_over n own s) rest.span;
      each = one;
      held =
          let is : held_one n own u s ≡ held_over n own s = ap (λ test. if test then held_over n own s else 0) silent in
          let here = over_until n own s in
          let others = rest.held in
          omega (arith, is, here, others);
    }
      where
        one : (place : ℕ) (v : Bool) (t : Standing) → slice_get (u ∷ us) place ≡ Some v
            → slice_get (s ∷ ss) place ≡ Some t → (v && t.cable.up) ≡ true
            → aged_over n own t ≤ max (aged_over n own s) rest.span
        one zero v t here there is =
            subst (λ (x : Standing). aged_over n own x ≤ max (aged_over n own s) rest.span) (same_Some s t there)
            (omega arith)
        one (suc place) v t here there is =
            let less = rest.each place v t here there is in omega (arith, less)
    by false silent rest = record {
      span = rest.span;
      each = others;
      held =
          let is : held_one n own u s ≡ 0 = ap (λ test. if test then held_over n own s else 0) silent in
          let others_held = rest.held in
          omega (arith, is, others_held);
    }
      where
        others : (place : ℕ) (v : Bool) (t : Standing) → slice_get (u ∷ us) place ≡ Some v
            → slice_get (s ∷ ss) place ≡ Some t → (v && t.cable.up) ≡ true → aged_over n own t ≤ rest.span
        others zero v t here there is =
            let none =
            sym is ∙ sym (ap₂ (λ x (y : Standing). x && y.cable.up) (same_Some u v here) (same_Some s t there))
            ∙ silent in
            absurd cc
        others (suc place) v t here there is = rest.each place v t here there is

-- ---- who has failed

dead : (n : NetworkState) (events : List Timed) (clock : ℕ) (failed : PortId) → clock ≡ failed.clock
    → (IsLive n.systems events failed.clock → ⊥) → lives n.systems events clock ≡ false
dead n events clock failed same none =
    false_from_ne_true (lives n.systems events clock) (λ is.
    none (subst (IsLive n.systems events) same (lives_to n events clock is)))

-- after these events and more of them
module _ (n : NetworkState) (network : IsNetwork n) (made now : List Timed) (own : Bool)
    (late : own ≡ true
    → last_change made + largest_interval (pace_of n) + longest_span (pace_of n) < last_change (made ++ now))
    (well : (g : Snapshot) → StandsAfter n made g → IsWellFormed g) where
  abbrev after : List Timed
  after = made ++ now

  each_ages : Ages n own (map (is_heard_link n made after) n.links) (standings_after n after)
  each_ages = ages n own (map (is_heard_link n made after) n.links) (standings_after n after)

  -- what the failed end told
  aged : (v : LinkSpec) (p failed : PortId) (lives_then : Bool) → p ≡ failed → lives_then ≡ false
      → aged_end n own (link_after after v).bounds.max p lives_then
      ≡ hold_span n own failed + (link_after after v).bounds.max
  aged v p failed lives_then same none =
      ap (λ b. if b then 0 else hold_span n own p + (link_after after v).bounds.max) none
      ∙ ap (λ q. hold_span n own q + (link_after after v).bounds.max) same

  within : AgesWithin n made after (last_change after) each_ages.span
  within place v failed there (used, up, end, none) far =
      let wire = network.links place v there in
      let keeps = after_keeps after v in
      let heard = counts_heard n network made after well place v failed there used end none far in
      let less =
      each_ages.each place (is_heard_link n made after v) (standing_then n after v)
      (mapped_there (is_heard_link n made after) n.links place v there)
      (mapped_there (standing_then n after) n.links place v there)
      (and_from (is_heard_link n made after v) (link_after after v).up heard up) in
      elim end [
        | inl same ↦
            let port : v.a ≡ failed = sym keeps.a ∙ same in
            let is = aged v (link_after after v).a failed (lives n.systems after v.a.clock) same
            (dead n after v.a.clock failed (ap (λ (p : PortId). p.clock) port) none) in (
              hold_span n own failed,
              holds n made (last_change after) own late failed (subst (λ (p : PortId). 1 ≤ p.port) port wire.a.first),
              omega (arith, less, is),
            )
        | inr same ↦
            let port : v.b ≡ failed = sym keeps.b ∙ same in
            let is = aged v (link_after after v).b failed (lives n.systems after v.b.clock) same
            (dead n after v.b.clock failed (ap (λ (p : PortId). p.clock) port) none) in (
              hold_span n own failed,
              holds n made (last_change after) own late failed (subst (λ (p : PortId). 1 ≤ p.port) port wire.b.first),
              omega (arith, less, is),
            )
      ]

  pub held_for : HeldFor n made now (held_after n own made after)
  held_for = (each_ages.span, within, each_ages.held)

-- ---- links that are left silent

module _ (n : NetworkState) (made events : List Timed) where
  abbrev used_then : List Bool
  used_then = map cable_is_used (standings_after n made)

  -- one end has failed, and the other lives
  one_lives : (v : LinkSpec) (failed end : PortId) → IsEnd failed (link_after events v)
      → IsEnd end (link_after events v) → (IsLive n.systems events failed.clock → ⊥) → IsLive n.systems events end.clock
      → ((lives n.systems events v.a.clock && not (lives n.systems events v.b.clock))
      || (lives n.systems events v.b.clock && not (lives n.systems events v.a.clock)))
      ≡ true
  one_lives v failed end is_failed is_end none live =
      elim (two_ends n events v failed end is_failed is_end none live) [
        | inl (f, e) ↦ by_b (gone v.a f) (here v.b e)
        | inr (e, f) ↦ by_a (here v.a e) (gone v.b f)
      ]
    where
      gone : (p : PortId) → p ≡ failed → lives n.systems events p.clock ≡ false
      gone p is = dead n events p.clock failed (ap (λ (q : PortId). q.clock) is) none

      here : (p : PortId) → p ≡ end → lives n.systems events p.clock ≡ true
      here p is =
          lives_from n events p.clock (subst (λ (q : PortId). IsLive n.systems events q.clock) (sym is) live)

      by_a : {a b : Bool} → a ≡ true → b ≡ false → ((a && not b) || (b && not a)) ≡ true
      by_a first second = rw (first, second) refl

      by_b : {a b : Bool} → a ≡ false → b ≡ true → ((a && not b) || (b && not a)) ≡ true
      by_b first second = rw (first, second) refl

  silent_there : (place : ℕ) (v : LinkSpec) (failed end : PortId) → slice_get n.links place ≡ Some v
      → IsSilent n made events v failed → IsEnd end (link_after events v) → IsLive n.systems events end.clock
      → is_silent_at used_then (standings_after n events) place ≡ true
  silent_there place v failed end there (used, up, is_failed, none) is_end live =
      let used_is =
      mapped_there cable_is_used (standings_after n made) place (standing_then n made v)
      (mapped_there (standing_then n made) n.links place v there) in
      let stands_is = mapped_there (standing_then n events) n.links place v there in
      (λ k. is_silent_by (used_is k) (stands_is k))
      ∙ and_from (cable_is_used (standing_then n made v) && (link_after events v).up)
      ((lives n.systems events v.a.clock && not (lives n.systems events v.b.clock))
      || (lives n.systems events v.b.clock && not (lives n.systems events v.a.clock)))
      (and_from (cable_is_used (standing_then n made v)) (link_after events v).up (used_cable n made v used) up)
      (one_lives v failed end is_failed is_end none live)

  -- where none is seen none is there
  pub none_silent : silent_after n made events ≡ false → NoneSilent n made events
  none_silent none place v failed end there silent is_end live =
      let here =
      mapped_there cable_is_used (standings_after n made) place (standing_then n made v)
      (mapped_there (standing_then n made) n.links place v there) in
      let no =
      none_any (is_silent_at used_then (standings_after n events)) (range_with_len 0 (length used_then)) place none
      (place_in_range used_then place (cable_is_used (standing_then n made v)) here) in
      let both : true ≡ false = sym (silent_there place v failed end there silent is_end live) ∙ no in
      absurd cc

  -- what came over such links needs no time to age then
  pub none_ages : (time : ℕ) → NoneSilent n made events → AgesWithin n made events time 0
  none_ages time none place v failed there silent far =
      absurd (none place v failed far.end there silent far.is_end far.lives)

-- the last change is that of these events, if there is one
pub last_now : (time : ℕ) (made : List Timed) (event : Timed) (events : List Timed)
    → AllByRecursion (λ (t : Timed). t.at ≡ time) (event ∷ events) → last_change (made ++ event ∷ events) ≡ time
last_now time [] event [] at = at.0
last_now time [] event (other ∷ events) at = last_now time [] other events at.1
last_now time (t ∷ []) event events at = last_now time [] event events at
last_now time (t ∷ u ∷ us) event events at = last_now time (u ∷ us) event events at
