-- The least of the vectors to choose from.
use Rattle.std.proofs.Common.{◌≡◌, ◌⊎◌, ℕ, zero, suc, ◌+◌, ◌<◌, ◌≤◌, Bool, true, false, List, [], ◌∷◌, length, get_or, Option, Some, None, refl, ap, ◌∙◌, inl, inr, arith}
use Rattle.std.specs.Prelude.{if◌then◌else◌}
use Rattle.std.specs.List.{AllByRecursion}
use Rattle.std.specs.Option.{ForSome, option_map_or}
use Rattle.gptp_vector.specs.declared.vector.Vector.{Vector}
use Rattle.gptp_vector.specs.Vector.{lower, path_of, system_vector}
use Rattle.gptp_vector.proofs.VectorLemmas.{lower-same, lower_chain, lower_one_way, neither_lower}
use Rattle.gptp_receipt.specs.declared.held.Held.{Held}
use Rattle.gptp_receipt.specs.declared.held.Reception.{Reception}
use Rattle.gptp_receipt.specs.Held.{received}
use Rattle.gptp_roles.specs.Choice.{ArePlaced, IsChosen, IsIn, IsLeast, IsPlaced, path_vectors, with_held}

-- a vector alone is the least
pub least_alone : (v : Vector) → IsLeast (v ∷ []) v
least_alone v = record { member = inl refl; least = (lower-same v, tt) }

-- the least with the better of two in front is the least with both
least_of_two : (a b : Vector) (rest : List Vector) (v : Vector) (t : Bool) → lower b a ≡ t
    → IsLeast ((if t then b else a) ∷ rest) v → IsLeast (a ∷ b ∷ rest) v
least_of_two a b rest v true is l = record {
  member = behind l.member;
  least = (lower_chain v b a l.least.0 (lower_one_way b a is), l.least);
}
  where
    behind : IsIn v (b ∷ rest) → IsIn v (a ∷ b ∷ rest)
    behind h = inr h
least_of_two a b rest v false is l = record {
  member = first_or_behind l.member;
  least = (l.least.0, (lower_chain v a b l.least.0 is, l.least.1));
}
  where
    first_or_behind : IsIn v (a ∷ rest) → IsIn v (a ∷ b ∷ rest)
    first_or_behind (inl here) = inl here
    first_or_behind (inr there) = inr (inr there)

-- a port that is looked at is left to the vectors to choose from
pub least_of_held : (best : Vector) (h : Held) (hs : List Held) (v : Vector)
    → IsLeast (with_held best h ∷ path_vectors hs) v → IsLeast (best ∷ path_vectors (h ∷ hs)) v
least_of_held best h hs v l = go (received h) l
  where
    go : (o : Option Reception)
        → IsLeast (option_map_or (λ (r : Reception). if lower (path_of r.vector) best then path_of r.vector else best)
        o best ∷ path_vectors hs) v
        → IsLeast (best ∷ option_map_or (λ (r : Reception). path_of r.vector ∷ path_vectors hs) o (path_vectors hs)) v
    go None m = m
    go (Some r) m = least_of_two best (path_of r.vector) (path_vectors hs) v (lower (path_of r.vector) best) refl m

-- no two vectors are the least of one list
lower_than_least : (vs : List Vector) (v w : Vector) → IsIn v vs → AllByRecursion (λ u. lower u w ≡ false) vs
    → lower v w ≡ false
lower_than_least [] v w h all = absurd h
lower_than_least (u ∷ us) v w (inl here) all = ap (λ (x : Vector). lower x w) here ∙ all.0
lower_than_least (u ∷ us) v w (inr there) all = lower_than_least us v w there all.1

pub one_least : (vs : List Vector) (v w : Vector) → IsLeast vs v → IsLeast vs w → v ≡ w
one_least vs v w l m =
    neither_lower v w (lower_than_least vs v w l.member m.least) (lower_than_least vs w v m.member l.least)

-- what a port received was received there
pub placed_at : (port : ℕ) (held : List Held) (i : ℕ) (d : Held) → ArePlaced port held → i < length held
    → ForSome (received (get_or held i d)) (IsPlaced (port + i))
placed_at port [] i d placed within = absurd (omega arith)
placed_at port (g ∷ gs) zero d placed within =
    let here : port + 0 ≡ port = omega arith in
    rw here placed.0
placed_at port (g ∷ gs) (suc i) d placed within =
    let number : port + suc i ≡ port + 1 + i = omega arith in
    rw number (placed_at (port + 1) gs i d placed.1 (omega arith))

-- what one port received is a path vector, or the vector is another port's
pub from_port : (v : Vector) (h : Held) (hs : List Held) → IsIn v (path_vectors (h ∷ hs))
    → ((r : Reception) × (received h ≡ Some r) × (v ≡ path_of r.vector)) ⊎ IsIn v (path_vectors hs)
from_port v h hs member = go (received h) refl member
  where
    go : (o : Option Reception) → received h ≡ o
        → IsIn v (option_map_or (λ (r : Reception). path_of r.vector ∷ path_vectors hs) o (path_vectors hs))
        → ((r : Reception) × (received h ≡ Some r) × (v ≡ path_of r.vector)) ⊎ IsIn v (path_vectors hs)
    go None is m = inr m
    go (Some r) is (inl here) = inl (r, is, here)
    go (Some r) is (inr there) = inr there

port_of_path-step : (port : ℕ) (g : Held) (gs : List Held) (v : Vector) → ArePlaced port (g ∷ gs)
    → ((r : Reception) × (received g ≡ Some r) × (v ≡ path_of r.vector)) ⊎ IsIn v (path_vectors gs)
    → (IsIn v (path_vectors gs) → (port + 1 ≤ v.receiver) × (v.receiver < port + 1 + length gs))
    → (port ≤ v.receiver) × (v.receiver < port + length (g ∷ gs))
port_of_path-step port g gs v placed (inl (r, is, path)) others =
    let receiver : v.receiver ≡ port = ap (λ (x : Vector). x.receiver) path ∙ (placed.0 r is).receiver in
    (omega arith, omega arith)
port_of_path-step port g gs v placed (inr there) others =
    let ih = others there in
    (omega arith, omega arith)

-- a path vector names the port that received it
pub port_of_path : (port : ℕ) (held : List Held) (v : Vector) → ArePlaced port held → IsIn v (path_vectors held)
    → (port ≤ v.receiver) × (v.receiver < port + length held)
port_of_path port [] v placed h = absurd h
port_of_path port (g ∷ gs) v placed h =
    port_of_path-step port g gs v placed (from_port v g gs h) (λ there. port_of_path (port + 1) gs v placed.1 there)

-- the chosen vector came from one of the ports, or is the system vector
pub receiver_of_chosen : (identity : ℕ) (held : List Held) (v : Vector) → ArePlaced 1 held → IsChosen identity held v
    → v.receiver ≤ length held
receiver_of_chosen identity held v placed chosen = go chosen.member
  where
    go : IsIn v (system_vector identity ∷ path_vectors held) → v.receiver ≤ length held
    go (inl own) = let none : v.receiver ≡ 0 = ap (λ (x : Vector). x.receiver) own in omega arith
    go (inr path) = let within = port_of_path 1 held v placed path in omega arith
