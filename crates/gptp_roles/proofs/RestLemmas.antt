-- Selecting again changes nothing.
use Rattle.std.proofs.Common.{◌≡◌, ◌⊎◌, ℕ, ◌+◌, false, List, [], ◌∷◌, Option, Some, None, refl, sym, ap, ◌∙◌, inl, inr}
use Rattle.std.specs.List.{AllByRecursion}
use Rattle.std.specs.Option.{ForSome, option_map_or}
use Rattle.gptp_vector.specs.declared.vector.Vector.{Vector}
use Rattle.gptp_vector.specs.Vector.{lower, path_of, system_vector}
use Rattle.gptp_receipt.specs.declared.held.Held.{Held}
use Rattle.gptp_receipt.specs.declared.held.Reception.{Reception}
use Rattle.gptp_receipt.specs.Held.{received}
use Rattle.gptp_roles.specs.Choice.{ArePlaced, IsChosen, IsIn, IsPlaced, path_vectors}
use Rattle.gptp_roles.specs.Role.{each_from, each_port, held_after_selection, is_fresh, is_master, chosen_role}
use Rattle.gptp_roles.specs.Selection.{SelectionIsAtRest, clock_of}
use Rattle.gptp_roles.proofs.ChoiceLemmas.{from_port}
use Rattle.gptp_roles.proofs.RoleLemmas.{held_after-kept, held_after-twice, is_fresh-held_after, received-held_after, role_of-held_after, role_of-slave}

-- what is made of ports that were changed first
pub each_from-each_from : {X : Type 0} (f g : ℕ → Held → X) (change : ℕ → Held → Held)
    → ((p : ℕ) (h : Held) → f p (change p h) ≡ g p h)
    → (port : ℕ) (hs : List Held) → each_from f port (each_from change port hs) ≡ each_from g port hs
each_from-each_from f g change same port [] = refl
each_from-each_from {X} f g change same port (h ∷ hs) =
    ap (λ (x : X). x ∷ each_from f (port + 1) (each_from change (port + 1) hs)) (same port h)
    ∙ ap (λ (xs : List X). g port h ∷ xs) (each_from-each_from f g change same (port + 1) hs)

-- no port is fresh
none_fresh : (v : Vector) (clock port : ℕ) (hs : List Held)
    → AllByRecursion (λ b. b ≡ false) (each_from (is_fresh v clock) port
    (each_from (held_after_selection v clock) port hs))
none_fresh v clock port [] = tt
none_fresh v clock port (h ∷ hs) = (is_fresh-held_after v clock port h, none_fresh v clock (port + 1) hs)

-- what the ports hold was received where it is
pub placed_after : (v : Vector) (clock port : ℕ) (hs : List Held) → ArePlaced port hs
    → ArePlaced port (each_from (held_after_selection v clock) port hs)
placed_after v clock port [] placed = tt
placed_after v clock port (h ∷ hs) placed =
    (here (received-held_after v clock port h), placed_after v clock (port + 1) hs placed.1)
  where
    here : ((received (held_after_selection v clock port h) ≡ received h)
        ⊎ (received (held_after_selection v clock port h) ≡ None))
        → ForSome (received (held_after_selection v clock port h)) (IsPlaced port)
    here (inl same) = λ r is. placed.0 r (sym same ∙ is)
    here (inr none) = λ r is. absurd cc

-- the path vector of one port before those of others
abbrev with_path : Option Reception → List Vector → List Vector
with_path o vs = option_map_or (λ (r : Reception). path_of r.vector ∷ vs) o vs

with_path-all : (P : Vector → Type 0) (o : Option Reception) (vs : List Vector) → AllByRecursion P (with_path o vs)
    → AllByRecursion P vs
with_path-all P None vs all = all
with_path-all P (Some r) vs all = all.1

with_path-more : (P : Vector → Type 0) (o : Option Reception) (vs ws : List Vector)
    → (AllByRecursion P vs → AllByRecursion P ws) → AllByRecursion P (with_path o vs)
    → AllByRecursion P (with_path o ws)
with_path-more P None vs ws more all = more all
with_path-more P (Some r) vs ws more all = (all.0, more all.1)

with_path-behind : (v : Vector) (o : Option Reception) (vs : List Vector) → IsIn v vs → IsIn v (with_path o vs)
with_path-behind v None vs member = member
with_path-behind v (Some r) vs member = inr member

paths_after-step : (P : Vector → Type 0) (v : Vector) (clock port : ℕ) (h : Held) (hs : List Held)
    → AllByRecursion P (with_path (received h) (path_vectors hs))
    → (AllByRecursion P (path_vectors hs)
    → AllByRecursion P (path_vectors (each_from (held_after_selection v clock) (port + 1) hs)))
    → ((received (held_after_selection v clock port h) ≡ received h)
    ⊎ (received (held_after_selection v clock port h) ≡ None))
    → AllByRecursion P
    (with_path (received (held_after_selection v clock port h))
    (path_vectors (each_from (held_after_selection v clock) (port + 1) hs)))
paths_after-step P v clock port h hs all others (inl same) =
    rw same (with_path-more P (received h) (path_vectors hs)
    (path_vectors (each_from (held_after_selection v clock) (port + 1) hs)) others all)
paths_after-step P v clock port h hs all others (inr none) =
    rw none (others (with_path-all P (received h) (path_vectors hs) all))

-- what holds of all path vectors holds of those that are left
paths_after : (P : Vector → Type 0) (v : Vector) (clock port : ℕ) (hs : List Held) → AllByRecursion P (path_vectors hs)
    → AllByRecursion P (path_vectors (each_from (held_after_selection v clock) port hs))
paths_after P v clock port [] all = tt
paths_after P v clock port (h ∷ hs) all =
    paths_after-step P v clock port h hs all (paths_after P v clock (port + 1) hs) (received-held_after v clock port h)

chosen_after-step : (v : Vector) (clock port : ℕ) (h : Held) (hs : List Held) → ArePlaced port (h ∷ hs)
    → ((r : Reception) × (received h ≡ Some r) × (v ≡ path_of r.vector)) ⊎ IsIn v (path_vectors hs)
    → (IsIn v (path_vectors hs) → IsIn v (path_vectors (each_from (held_after_selection v clock) (port + 1) hs)))
    → IsIn v (path_vectors (each_from (held_after_selection v clock) port (h ∷ hs)))
chosen_after-step v clock port h hs placed (inl (r, is, path)) others =
    let here : v.receiver ≡ port = ap (λ (x : Vector). x.receiver) path ∙ (placed.0 r is).receiver in
    let slave = role_of-slave v clock port h r is here in
    let kept = held_after-kept v clock port h (ap is_master slave) in
    let left : received (held_after_selection v clock port h) ≡ Some r = ap received kept ∙ is in
    rw left (inl path)
chosen_after-step v clock port h hs placed (inr there) others =
    with_path-behind v (received (held_after_selection v clock port h))
    (path_vectors (each_from (held_after_selection v clock) (port + 1) hs)) (others there)

-- the chosen vector is left, since its port is the Slave
chosen_after : (v : Vector) (clock port : ℕ) (hs : List Held) → ArePlaced port hs → IsIn v (path_vectors hs)
    → IsIn v (path_vectors (each_from (held_after_selection v clock) port hs))
chosen_after v clock port [] placed member = absurd member
chosen_after v clock port (h ∷ hs) placed member =
    chosen_after-step v clock port h hs placed (from_port v h hs member) (chosen_after v clock (port + 1) hs placed.1)

-- selecting again changes nothing
pub at_rest : (identity : ℕ) (held : List Held) (v : Vector) → ArePlaced 1 held → IsChosen identity held v
    → SelectionIsAtRest identity held v
at_rest identity held v placed chosen =
    let clock = clock_of identity in
    record {
      placed = placed_after v clock 1 held placed;
      is_chosen = record {
        member = member chosen.member;
        least = (chosen.least.0, paths_after (λ w. lower w v ≡ false) v clock 1 held chosen.least.1);
      };
      roles = each_from-each_from (chosen_role v clock) (chosen_role v clock) (held_after_selection v clock)
          (role_of-held_after v clock)
          1 held;
      held = each_from-each_from (held_after_selection v clock) (held_after_selection v clock)
          (held_after_selection v clock)
          (held_after-twice v clock) 1 held;
      fresh = none_fresh v clock 1 held;
    }
  where
    member : IsIn v (system_vector identity ∷ path_vectors held)
        → IsIn v (system_vector identity ∷ path_vectors (each_port (held_after_selection v (clock_of identity)) held))
    member (inl own) = inl own
    member (inr path) = inr (chosen_after v (clock_of identity) 1 held placed path)
