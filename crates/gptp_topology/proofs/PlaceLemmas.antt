-- The links and the systems of a network by their places.
use Rattle.std.proofs.Common.{◌≡◌, ◌<◌, ℕ, Bool, List, Option, Some, None, length, slice_get, refl, sym, ap, ◌∙◌}
use Rattle.std.specs.Option.{option_map}
use Rattle.std.proofs.lemmas.Option.{none-some, same_Some}
use Rattle.gptp_lists.proofs.PlaceLemmas.{member_there}
use Rattle.gptp_vector.specs.declared.port.PortId.{PortId}
use Rattle.gptp_links.specs.declared.bounds.Bounds.{Bounds}
use Rattle.gptp_scenario.specs.declared.network.SystemSpec.{SystemSpec}
use Rattle.gptp_scenario.specs.declared.network.LinkSpec.{LinkSpec}

-- a link by its parts
abbrev pub Parts : Type 0
Parts = PortId × PortId × Bounds × Bool

abbrev pub parts_of : LinkSpec → Parts
parts_of w = (w.a, w.b, w.bounds, w.up)

-- the link at a place
pub link_there : (links : List LinkSpec) (place : ℕ) (a b : PortId) (bounds : Bounds) (up : Bool)
    → ◌≡◌ {A = Option Parts} (Some (a, b, bounds, up)) (option_map parts_of (slice_get links place))
    → slice_get links place ≡ Some (record { a = a; b = b; bounds = bounds; up = up })
link_there links place a b bounds up is = by (slice_get links place) is
  where
    by : (o : Option LinkSpec) → ◌≡◌ {A = Option Parts} (Some (a, b, bounds, up)) (option_map parts_of o)
        → o ≡ Some (record { a = a; b = b; bounds = bounds; up = up })
    by None is = absurd cc
    by (Some w) is =
        let parts : ◌≡◌ {A = Parts} (a, b, bounds, up) (parts_of w) = same_Some (a, b, bounds, up) (parts_of w) is in
        ap (λ (t : Parts). Some (record { a = t.0; b = t.1; bounds = t.2; up = t.3 })) (sym parts)

-- the system at a place
pub record IsThere (members : List SystemSpec) (place identity : ℕ) : Type 0 where
  pub system : SystemSpec
  pub there : slice_get members place ≡ Some system
  pub is : identity ≡ system.identity

pub system_there : {X : Type 0} (f : SystemSpec → X) (identity_in : X → ℕ) (members : List SystemSpec) (place : ℕ)
    (told : X)
    → ((m : SystemSpec) → identity_in (f m) ≡ m.identity) → Some told ≡ option_map f (slice_get members place)
    → IsThere members place (identity_in told)
system_there {X} f identity_in members place told fits is = by (slice_get members place) refl is
  where
    by : (o : Option SystemSpec) → slice_get members place ≡ o → Some told ≡ option_map f o
        → IsThere members place (identity_in told)
    by None there is = absurd cc
    by (Some m) there is =
        record { system = m; there = there; is = ap identity_in (same_Some told (f m) is) ∙ fits m }

pub none_there : {X Y : Type 0} (f : Y → X) (ys : List Y) (place : ℕ) → place < length ys
    → None ≡ option_map f (slice_get ys place) → ⊥
none_there f ys place within is =
    let (y, there) = member_there ys place within in
    absurd (none-some (f y) (is ∙ ap (option_map f) there))
