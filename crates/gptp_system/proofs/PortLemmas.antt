-- What the ports are after those that are marked announced, and after all Master ports counted a Sync.
use Rattle.std.proofs.Common.{◌≡◌, ◌⊎◌, ℕ, zero, suc, Bool, true, false, List, [], ◌∷◌, map, Some, slice_get, refl, sym, ap, ◌∙◌, inl, inr}
use Rattle.std.specs.Prelude.{if◌then◌else◌}
use Rattle.std.proofs.lemmas.Option.{none-some, same_Some}
use Rattle.gptp_receipt.specs.declared.held.Held.{Held}
use Rattle.gptp_system.specs.declared.port.Port.{Port}
use Rattle.gptp_system.specs.State.{is_mine}
use Rattle.gptp_system.specs.Sends.{next_sequence}
use Rattle.gptp_system.specs.Selection.{announced_again, all_announced}
use Rattle.gptp_system.specs.Syncing.{counted_by_rates}

-- a port with one Sync more
abbrev pub with_sync : Port → Port
with_sync q = record q { syncs = next_sequence q.syncs }

-- a port that was marked became another, and one that wasn't stayed
abbrev pub Marked : (Port → Port) → Type 0 → List Port → ℕ → Port → Type 0
Marked f mark qs i q' = (q : Port) × (slice_get qs i ≡ Some q) × ((mark × (q' ≡ f q)) ⊎ ((mark → ⊥) × (q' ≡ q)))

first_marked : (f : Port → Port) (b : Bool) (q : Port) (qs : List Port) (q' : Port) → (if b then f q else q) ≡ q'
    → Marked f (Some b ≡ Some true) (q ∷ qs) zero q'
first_marked f true q qs q' is = (q, refl, inl (refl, sym is))
first_marked f false q qs q' is = (q, refl, inr ((λ e. absurd cc), sym is))

pub all_announced-get : (now : ℕ) (fs : List Bool) (qs : List Port) (i : ℕ) (q' : Port)
    → slice_get (all_announced now fs qs) i ≡ Some q'
    → Marked (announced_again now) (slice_get fs i ≡ Some true) qs i q'
all_announced-get now [] qs i q' is = (q', is, inr ((λ e. absurd (none-some true e)), refl))
all_announced-get now (f ∷ fs) [] i q' is = absurd (none-some q' is)
all_announced-get now (f ∷ fs) (q ∷ qs) zero q' is =
    first_marked (announced_again now) f q qs q' (same_Some (if f then announced_again now q else q) q' is)
all_announced-get now (f ∷ fs) (q ∷ qs) (suc i) q' is = all_announced-get now fs qs i q' is

pub counted-get : (hs : List Held) (qs : List Port) (i : ℕ) (q' : Port) → slice_get (counted_by_rates hs qs) i ≡ Some q'
    → Marked with_sync ((h : Held) × (slice_get hs i ≡ Some h) × (is_mine h ≡ true)) qs i q'
counted-get [] qs i q' is = (q', is, inr ((λ (h, there, mine). absurd (none-some h there)), refl))
counted-get (h ∷ hs) [] i q' is = absurd (none-some q' is)
counted-get (h ∷ hs) (q ∷ qs) zero q' is =
    go (is_mine h) refl (same_Some (if is_mine h then with_sync q else q) q' is)
  where
    go : (b : Bool) → is_mine h ≡ b → (if b then with_sync q else q) ≡ q'
        → Marked with_sync ((g : Held) × (Some h ≡ Some g) × (is_mine g ≡ true)) (q ∷ qs) zero q'
    go true mine new = (q, refl, inl ((h, refl, mine), sym new))
    go false other old = (q, refl, inr ((λ (g, there, mine). absurd cc), sym old))
counted-get (h ∷ hs) (q ∷ qs) (suc i) q' is = counted-get hs qs i q' is

-- what neither changes
first_same : {Y : Type 0} (g : Port → Y) (f : Port → Port) → ((q : Port) → g (f q) ≡ g q) → (b : Bool) (q : Port)
    → g (if b then f q else q) ≡ g q
first_same g f same true q = same q
first_same g f same false q = refl

pub all_announced-map : {Y : Type 0} (g : Port → Y) (now : ℕ) → ((q : Port) → g (announced_again now q) ≡ g q)
    → (fs : List Bool) (qs : List Port)
    → map g (all_announced now fs qs) ≡ map g qs
all_announced-map g now same [] qs = refl
all_announced-map g now same (f ∷ fs) [] = refl
all_announced-map g now same (f ∷ fs) (q ∷ qs) =
    ap (λ y. y ∷ map g (all_announced now fs qs)) (first_same g (announced_again now) same f q)
    ∙ ap (λ ys. g q ∷ ys) (all_announced-map g now same fs qs)

pub counted-map : {Y : Type 0} (g : Port → Y) → ((q : Port) → g (with_sync q) ≡ g q) → (hs : List Held) (qs : List Port)
    → map g (counted_by_rates hs qs) ≡ map g qs
counted-map g same [] qs = refl
counted-map g same (h ∷ hs) [] = refl
counted-map g same (h ∷ hs) (q ∷ qs) =
    ap (λ y. y ∷ map g (counted_by_rates hs qs)) (first_same g with_sync same (is_mine h) q)
    ∙ ap (λ ys. g q ∷ ys) (counted-map g same hs qs)
