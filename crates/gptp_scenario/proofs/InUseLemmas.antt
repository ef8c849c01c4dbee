-- The greatest delay of links in use, and the systems that they join to one.
use Rattle.std.proofs.Common.{◌≡◌, ◌≤◌, ℕ, zero, suc, ◌==◌, not, ◌||◌, max, cond, Bool, true, false, List, [], ◌∷◌, Option, Some, None, slice_get, refl, ap, ◌∙◌, arith}
use Rattle.std.specs.List.{cons_option, list_any}
use Rattle.std.specs.Option.{option_map_or}
use Rattle.std.proofs.lemmas.Bool.{eq-eqb}
use Rattle.gptp_scenario.specs.Allowed.{AreAllowed}
use Rattle.gptp_scenario.specs.Change.{link_after}
use Rattle.gptp_scenario.specs.InUse.{any_differ, greatest_delay, is_used, leads_elsewhere, neighbour, neighbours, with_delay}
use Rattle.gptp_scenario.specs.Network.{IsNetwork, NetworkState}
use Rattle.gptp_scenario.specs.declared.change.Timed.{Timed}
use Rattle.gptp_scenario.specs.declared.network.SystemSpec.{SystemSpec}
use Rattle.gptp_scenario.specs.declared.network.LinkSpec.{LinkSpec}
use Rattle.gptp_scenario.proofs.AfterLemmas.{after_fits}

module _ (systems : List SystemSpec) (events : List Timed) where
  -- ---- the greatest delay

  -- it is the same whether a link comes before or after
  pub delay_moves : (w : LinkSpec) (rest so_far : ℕ)
      → max rest (with_delay systems events w so_far) ≡ max (with_delay systems events w rest) so_far
  delay_moves w rest so_far = by (is_used systems events (link_after events w))
    where
      most : ℕ
      most = (link_after events w).bounds.max

      by : (used : Bool) → max rest (cond used (max most so_far) so_far) ≡ max (cond used (max most rest) rest) so_far
      by true = omega arith
      by false = refl

  pub delay_within : (most : ℕ) (links : List LinkSpec)
      → ((i : ℕ) (w : LinkSpec) → slice_get links i ≡ Some w → (link_after events w).bounds.max ≤ most)
      → greatest_delay systems events links ≤ most
  delay_within most [] each = omega arith
  delay_within most (w ∷ ws) each =
      by (is_used systems events (link_after events w)) (each zero w refl)
      (delay_within most ws (λ i v there. each (suc i) v there))
    where
      by : (used : Bool) → (link_after events w).bounds.max ≤ most → greatest_delay systems events ws ≤ most
          → cond used (max (link_after events w).bounds.max (greatest_delay systems events ws))
          (greatest_delay systems events ws) ≤ most
      by true one rest = omega (arith, one, rest)
      by false one rest = rest

  -- ---- neighbours

  -- what is looked for is among those that links lead to
  any_neighbour : (p : ℕ → Bool) (clock : ℕ) (links : List LinkSpec)
      → list_any (λ w. option_map_or p (neighbour systems events clock w) false) links
      ≡ list_any p (neighbours systems links events clock)
  any_neighbour p clock [] = refl
  any_neighbour p clock (w ∷ ws) = by (neighbour systems events clock w) (any_neighbour p clock ws)
    where
      by : (far : Option ℕ)
          → list_any (λ w. option_map_or p (neighbour systems events clock w) false) ws
          ≡ list_any p (neighbours systems ws events clock)
          → (option_map_or p far false
          || list_any (λ w. option_map_or p (neighbour systems events clock w) false) ws)
          ≡ list_any p (cons_option far (neighbours systems ws events clock))
      by (Some far) rest = ap (λ more. p far || more) rest
      by None rest = rest

  -- one is another than the first exactly where a link leads elsewhere
  pub several_by : (clock first : ℕ) (links : List LinkSpec)
      → slice_get (neighbours systems links events clock) 0 ≡ Some first
      → list_any (leads_elsewhere systems events clock first) links
      ≡ any_differ (neighbours systems links events clock)
  several_by clock first links is =
      any_neighbour (λ far. not (far == first)) clock links ∙ by (neighbours systems links events clock) is
    where
      by : (xs : List ℕ) → slice_get xs 0 ≡ Some first → list_any (λ y. not (y == first)) xs ≡ any_differ xs
      by [] is = absurd cc
      by (x ∷ xs) is =
          let same : x ≡ first = cc in
          rw (same, eq-eqb first first refl) refl

  pub several_of_none : (clock : ℕ) (links : List LinkSpec)
      → slice_get (neighbours systems links events clock) 0 ≡ None
      → any_differ (neighbours systems links events clock) ≡ false
  several_of_none clock links is = by (neighbours systems links events clock) is
    where
      by : (xs : List ℕ) → slice_get xs 0 ≡ None → any_differ xs ≡ false
      by [] is = refl
      by (x ∷ xs) is = absurd cc

-- no delay of a network is above sixteen seconds
pub short_delay : (n : NetworkState) (events : List Timed) → IsNetwork n → AreAllowed events
    → greatest_delay n.systems events n.links ≤ 16000000000
short_delay n events network allowed = delay_within n.systems events 16000000000 n.links (λ i w there.
    (after_fits events w allowed (network.links i w there).fit).short)
