-- Members of a network are looked for one after another.
use Rattle.std.proofs.Common.{◌≡◌, ◌<◌, ◌+◌, ◌==◌, ℕ, zero, suc, ℤ, Bool, true, false, if◌then◌else◌, List, [], ◌∷◌, length, drop, Option, Some, None, slice_get, refl, sym, ap, ◌∙◌, arith}
use Rattle.arrayvec.specs.ArrayVec.{ArrayVec}
use Rattle.std.specs.Option.{option_and_then, option_map}
use Rattle.std.proofs.lemmas.List.{drop_more}
use Rattle.std.proofs.lemmas.Option.{get_or_from_slice_get, slice_get_within}
use Rattle.gptp_vector.specs.declared.port.PortId.{PortId}
use Rattle.gptp_roles.specs.Selection.{clock_of}
use Rattle.gptp_scenario.specs.declared.network.SystemSpec.{SystemSpec}
use Rattle.gptp_scenario.specs.declared.network.LinkSpec.{LinkSpec}
use Rattle.gptp_network.specs.Found.{is_either, joins, link_from, ports_by, ports_if, system_from}

one_more : (n : ℕ) → n + 1 ≡ suc n
one_more n = omega arith

-- what is left from a place on begins with what is there
drop_at : {X : Type 0} (xs : List X) (place : ℕ) (x : X) → slice_get xs place ≡ Some x
    → drop place xs ≡ x ∷ drop (place + 1) xs
drop_at xs place x there =
    drop_more xs place x (slice_get_within xs place x there)
    ∙ ap (λ y. y ∷ drop (place + 1) xs) (get_or_from_slice_get xs place x x there)

-- at a place within there is something
gone : {X : Type 0} (xs : List X) (place : ℕ) → slice_get xs place ≡ None → place < length xs → ⊥
gone [] place is within = omega arith
gone (x ∷ xs) zero is within = absurd cc
gone (x ∷ xs) (suc place) is within = gone xs place is (omega arith)

-- ---- what is told of a member

abbrev member_told : SystemSpec → ℕ × ℕ × ℕ × ℤ × ArrayVec ℤ
member_told m = (m.identity, m.ports, m.phase, m.drift, m.intervals)

pub ports_told : (clock : ℕ) (o : Option SystemSpec) (s : ℕ × ℕ × ℕ × ℤ × ArrayVec ℤ)
    → Some s ≡ option_map member_told o
    → ports_by clock s.0 s.1 ≡ option_and_then (ports_if clock) o
ports_told clock None s is = absurd cc
ports_told clock (Some m) s is =
    let same : s ≡ member_told m = cc in
    ap (λ (x : ℕ × ℕ × ℕ × ℤ × ArrayVec ℤ). ports_by clock x.0 x.1) same

pub no_ports : (clock : ℕ) (o : Option SystemSpec) → None ≡ option_map member_told o
    → None ≡ option_and_then (ports_if clock) o
no_ports clock None is = refl
no_ports clock (Some m) is = absurd cc

module _ {B : Type 0} (bounds : LinkSpec → B) where
  abbrev wire_told : LinkSpec → PortId × PortId × B × Bool
  wire_told w = (w.a, w.b, bounds w, w.up)

  pub ends_told : (port : PortId) (o : Option LinkSpec) (l : PortId × PortId × B × Bool)
      → Some l ≡ option_map wire_told o → is_either port l.0 l.1 ≡ joins port o
  ends_told port None l is = absurd cc
  ends_told port (Some w) l is =
      let same : l ≡ wire_told w = cc in
      ap (λ (x : PortId × PortId × B × Bool). is_either port x.0 x.1) same

  pub no_ends : (port : PortId) (o : Option LinkSpec) → None ≡ option_map wire_told o → false ≡ joins port o
  no_ends port None is = refl
  no_ends port (Some w) is = absurd cc

-- ---- members one after another

module _ (systems : List SystemSpec) (place clock : ℕ) where
  -- the system at the place isn't the one that is looked for
  pub system_passed : place < length systems
      → None ≡ option_and_then (ports_if clock) (slice_get systems place)
      → system_from (place + 1) (drop (place + 1) systems) clock ≡ system_from place (drop place systems) clock
  system_passed within none = by (slice_get systems place) refl none where
    by_test : (m : SystemSpec) (t : Bool) → None ≡ (if t then Some m.ports else None)
        → system_from (place + 1) (drop (place + 1) systems) clock
        ≡ (if t then Some (place, m.ports) else system_from (suc place) (drop (place + 1) systems) clock)
    by_test m true is = absurd cc
    by_test m false is = ap (λ n. system_from n (drop (place + 1) systems) clock) (one_more place)

    by : (o : Option SystemSpec) → slice_get systems place ≡ o → None ≡ option_and_then (ports_if clock) o
        → system_from (place + 1) (drop (place + 1) systems) clock ≡ system_from place (drop place systems) clock
    by None is e = absurd (gone systems place is within)
    by (Some m) is e =
        by_test m (clock_of m.identity == clock) e
        ∙ ap (λ l. system_from place l clock) (sym (drop_at systems place m is))

  -- it is
  pub system_here : (ports : ℕ) → Some ports ≡ option_and_then (ports_if clock) (slice_get systems place)
      → system_from place (drop place systems) clock ≡ Some (place, ports)
  system_here ports some = by (slice_get systems place) refl some where
    by_test : (m : SystemSpec) (t : Bool) → Some ports ≡ (if t then Some m.ports else None)
        → (if t then Some (place, m.ports) else system_from (suc place) (drop (place + 1) systems) clock)
        ≡ Some (place, ports)
    by_test m true is = let same : ports ≡ m.ports = cc in ap (λ n. Some (place, n)) (sym same)
    by_test m false is = absurd cc

    by : (o : Option SystemSpec) → slice_get systems place ≡ o → Some ports ≡ option_and_then (ports_if clock) o
        → system_from place (drop place systems) clock ≡ Some (place, ports)
    by None is e = absurd cc
    by (Some m) is e =
        ap (λ l. system_from place l clock) (drop_at systems place m is)
        ∙ by_test m (clock_of m.identity == clock) e

module _ (links : List LinkSpec) (place : ℕ) (port : PortId) where
  -- the link at the place isn't the one that is looked for
  pub link_passed : place < length links → joins port (slice_get links place) ≡ false
      → link_from (place + 1) (drop (place + 1) links) port ≡ link_from place (drop place links) port
  link_passed within none = by (slice_get links place) refl none where
    by_test : (t : Bool) → t ≡ false
        → link_from (place + 1) (drop (place + 1) links) port
        ≡ (if t then Some place else link_from (suc place) (drop (place + 1) links) port)
    by_test true is = absurd cc
    by_test false is = ap (λ n. link_from n (drop (place + 1) links) port) (one_more place)

    by : (o : Option LinkSpec) → slice_get links place ≡ o → joins port o ≡ false
        → link_from (place + 1) (drop (place + 1) links) port ≡ link_from place (drop place links) port
    by None is e = absurd (gone links place is within)
    by (Some w) is e =
        by_test (joins port (Some w)) e ∙ ap (λ l. link_from place l port) (sym (drop_at links place w is))

  -- it is
  pub link_here : joins port (slice_get links place) ≡ true → link_from place (drop place links) port ≡ Some place
  link_here some = by (slice_get links place) refl some where
    by_test : (t : Bool) → t ≡ true
        → (if t then Some place else link_from (suc place) (drop (place + 1) links) port) ≡ Some place
    by_test true is = refl
    by_test false is = absurd cc

    by : (o : Option LinkSpec) → slice_get links place ≡ o → joins port o ≡ true
        → link_from place (drop place links) port ≡ Some place
    by None is e = absurd cc
    by (Some w) is e =
        ap (λ l. link_from place l port) (drop_at links place w is) ∙ by_test (joins port (Some w)) e
