-- One port is the Slave, where the root is another system.
use Rattle.std.proofs.Common.{◌≡◌, ◌≢◌, ◌⊎◌, ℕ, suc, ◌+◌, ◌-◌, ◌<◌, ◌≤◌, true, false, List, [], ◌∷◌, length, Some, None, refl, sym, ap, ◌∙◌, inl, inr, arith}
use Rattle.std.specs.Prelude.{◌==◌, if◌then◌else◌, IsSome, slice_get}
use Rattle.std.specs.Option.{option_and_then}
use Rattle.std.specs.Cmp.{nat_cmp_is}
use Rattle.std.specs.declared.cmp.Ordering.TheVariants.{Less, Equal}
use Rattle.std.specs.Ordering.{nat_cmp}
use Rattle.std.proofs.lemmas.Bool.Decides.{nat_tests}
use Rattle.std.proofs.lemmas.List.Sums.{sum_by-cons}
use Rattle.std.proofs.lemmas.Cmp.{nat_cmp_total, tied_itself}
use Rattle.gptp_vector.specs.declared.vector.Vector.{Vector}
use Rattle.gptp_vector.specs.Vector.{lower, path_of, system_vector}
use Rattle.gptp_receipt.specs.declared.held.Held.{Held}
use Rattle.gptp_receipt.specs.declared.held.Reception.{Reception}
use Rattle.gptp_receipt.specs.Held.{received}
use Rattle.gptp_roles.specs.declared.role.Role.{Role}
use Rattle.gptp_roles.specs.declared.role.Role.TheVariants.{Disabled, Master, Slave, Passive}
use Rattle.gptp_roles.specs.Choice.{ArePlaced, IsChosen, IsIn, path_vectors, slave_port}
use Rattle.gptp_roles.specs.Role.{each_from, each_port, is_slave, chosen_role}
use Rattle.gptp_roles.specs.Selection.{HasOneSlave, clock_of, slaves}
use Rattle.gptp_roles.specs.SystemTrace.{SlaveReceived}
use Rattle.gptp_roles.proofs.ChoiceLemmas.{from_port, port_of_path}
use Rattle.gptp_roles.proofs.RoleLemmas.{is_slave-other, role_of-slave}

-- a port that isn't the Slave doesn't count, and the Slave counts one
slaves-other : (r : Role) (rs : List Role) → is_slave r ≡ false → slaves (r ∷ rs) ≡ slaves rs
slaves-other Disabled rs other = omega arith
slaves-other Master rs other = omega arith
slaves-other Slave rs other = absurd cc
slaves-other Passive rs other = omega arith

slaves-slave : (r : Role) (rs : List Role) → r ≡ Slave → slaves (r ∷ rs) ≡ 1 + slaves rs
slaves-slave r rs is = sum_by-cons (λ (x : Role). if is_slave x then 1 else 0) r rs ∙ rw is refl

-- no port is the Slave where all are numbered above the one that the vector came from
no_slave : (v : Vector) (clock port : ℕ) (hs : List Held) → v.receiver < port
    → slaves (each_from (chosen_role v clock) port hs) ≡ 0
no_slave v clock port [] above = refl
no_slave v clock port (h ∷ hs) above =
    slaves-other (chosen_role v clock port h) (each_from (chosen_role v clock) (port + 1) hs)
    (is_slave-other v clock port h (λ e. omega arith))
    ∙ no_slave v clock (port + 1) hs (omega arith)

one_slave-step : (v : Vector) (clock port : ℕ) (h : Held) (hs : List Held) → ArePlaced port (h ∷ hs)
    → ((r : Reception) × (received h ≡ Some r) × (v ≡ path_of r.vector)) ⊎ IsIn v (path_vectors hs)
    → (IsIn v (path_vectors hs) → slaves (each_from (chosen_role v clock) (port + 1) hs) ≡ 1)
    → slaves (each_from (chosen_role v clock) port (h ∷ hs)) ≡ 1
one_slave-step v clock port h hs placed (inl (r, is, path)) others =
    let here : v.receiver ≡ port = ap (λ (x : Vector). x.receiver) path ∙ (placed.0 r is).receiver in
    slaves-slave (chosen_role v clock port h) (each_from (chosen_role v clock) (port + 1) hs)
    (role_of-slave v clock port h r is here)
    ∙ ap (λ (n : ℕ). 1 + n) (no_slave v clock (port + 1) hs (omega arith))
one_slave-step v clock port h hs placed (inr there) others =
    let above = port_of_path (port + 1) hs v placed.1 there in
    slaves-other (chosen_role v clock port h) (each_from (chosen_role v clock) (port + 1) hs)
    (is_slave-other v clock port h (λ e. omega arith))
    ∙ others there

-- one port is the Slave where the vector came from one of them
one_slave : (v : Vector) (clock port : ℕ) (hs : List Held) → ArePlaced port hs → IsIn v (path_vectors hs)
    → slaves (each_from (chosen_role v clock) port hs) ≡ 1
one_slave v clock port [] placed member = absurd member
one_slave v clock port (h ∷ hs) placed member =
    one_slave-step v clock port h hs placed (from_port v h hs member) (one_slave v clock (port + 1) hs placed.1)

steps_of_path-step : (v : Vector) (h : Held) (hs : List Held)
    → ((r : Reception) × (received h ≡ Some r) × (v ≡ path_of r.vector)) ⊎ IsIn v (path_vectors hs)
    → (IsIn v (path_vectors hs) → 0 < v.steps) → 0 < v.steps
steps_of_path-step v h hs (inl (r, is, path)) others = let steps = ap (λ (x : Vector). x.steps) path in omega arith
steps_of_path-step v h hs (inr there) others = others there

-- a path vector is at least one step from its root
steps_of_path : (v : Vector) (hs : List Held) → IsIn v (path_vectors hs) → 0 < v.steps
steps_of_path v [] member = absurd member
steps_of_path v (h ∷ hs) member = steps_of_path-step v h hs (from_port v h hs member) (steps_of_path v hs)

-- a system is nearer to itself than any way round
own_is_lower : (identity : ℕ) (v : Vector) → v.root ≡ identity → 0 < v.steps → lower (system_vector identity) v ≡ true
own_is_lower identity v root steps =
    let roots : nat_cmp identity v.root ≡ Equal = ap (nat_cmp identity) root ∙ tied_itself nat_cmp_total identity in
    let nearer : nat_cmp 0 v.steps ≡ Less = sym (nat_cmp_is 0 v.steps Less steps) in
    rw (roots, nearer) refl

-- one port is the Slave where the root is another system
pub has_one_slave : (identity : ℕ) (held : List Held) (v : Vector) → ArePlaced 1 held → IsChosen identity held v
    → HasOneSlave identity held v
has_one_slave identity held v placed chosen = record {
  own_root = λ own. own_root own chosen.member;
  other_root = λ other. other_root other chosen.member;
}
  where
    own_root : v.root ≡ identity → IsIn v (system_vector identity ∷ path_vectors held)
        → (slave_port v ≡ None) × (slaves (each_port (chosen_role v (clock_of identity)) held) ≡ 0)
    own_root own (inl system) =
        let none : v.receiver ≡ 0 = ap (λ (x : Vector). x.receiver) system in
        (rw none refl, no_slave v (clock_of identity) 1 held (omega arith))
    own_root own (inr path) =
        absurd (let nearer = own_is_lower identity v own (steps_of_path v held path) in let behind = chosen.least.0 in
        cc)

    other_root : (v.root ≢ identity) → IsIn v (system_vector identity ∷ path_vectors held)
        → IsSome (slave_port v) × (slaves (each_port (chosen_role v (clock_of identity)) held) ≡ 1)
    other_root other (inl system) = absurd (other (ap (λ (x : Vector). x.root) system))
    other_root other (inr path) =
        let within = port_of_path 1 held v placed path in
        let some : (v.receiver == 0) ≡ false = grind (arith, nat_tests) in
        (rw some refl, one_slave v (clock_of identity) 1 held placed path)

received_there-step : (v : Vector) (port : ℕ) (h : Held) (hs : List Held) → ArePlaced port (h ∷ hs)
    → ((r : Reception) × (received h ≡ Some r) × (v ≡ path_of r.vector)) ⊎ IsIn v (path_vectors hs)
    → (IsIn v (path_vectors hs) → (r : Reception)
    × (option_and_then received (slice_get hs (v.receiver - (port + 1))) ≡ Some r) × (length r.path ≤ 255))
    → (r : Reception) × (option_and_then received (slice_get (h ∷ hs) (v.receiver - port)) ≡ Some r)
    × (length r.path ≤ 255)
received_there-step v port h hs placed (inl (r, is, path)) others =
    let here : v.receiver ≡ port = ap (λ (x : Vector). x.receiver) path ∙ (placed.0 r is).receiver in
    let first : v.receiver - port ≡ 0 = omega arith in
    (r, rw first is, (placed.0 r is).short)
received_there-step v port h hs placed (inr there) others =
    let above = port_of_path (port + 1) hs v placed.1 there in
    let later : v.receiver - port ≡ suc (v.receiver - (port + 1)) = omega arith in
    let ih = others there in
    (ih.0, rw later ih.1, ih.2)

-- a port whose path vector is chosen is a port that received, over at most 255 clocks
received_there : (v : Vector) (port : ℕ) (hs : List Held) → ArePlaced port hs → IsIn v (path_vectors hs)
    → (r : Reception) × (option_and_then received (slice_get hs (v.receiver - port)) ≡ Some r) × (length r.path ≤ 255)
received_there v port [] placed member = absurd member
received_there v port (h ∷ hs) placed member =
    received_there-step v port h hs placed (from_port v h hs member) (received_there v (port + 1) hs placed.1)

-- the Slave of a choice is a port that received, over at most 255 clocks
pub slave_received : (identity : ℕ) (held : List Held) (v : Vector) → ArePlaced 1 held → IsChosen identity held v
    → SlaveReceived held (slave_port v)
slave_received identity held v placed chosen = go chosen.member
  where
    go : IsIn v (system_vector identity ∷ path_vectors held) → SlaveReceived held (slave_port v)
    go (inl system) = let none : v.receiver ≡ 0 = ap (λ (x : Vector). x.receiver) system in rw none tt
    go (inr path) =
        let within = port_of_path 1 held v placed path in
        let some : (v.receiver == 0) ≡ false = grind (arith, nat_tests) in
        let there = received_there v 1 held placed path in
        rw some (there.0, omega arith, there.1, there.2)
