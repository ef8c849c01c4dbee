-- The role of one port and what it leaves.
use Rattle.std.proofs.Common.{◌≡◌, ◌≢◌, ◌⊎◌, ℕ, Bool, true, false, Some, None, refl, sym, ap, subst, ◌∙◌, inl, inr, arith, eq-eqb}
use Rattle.std.specs.Prelude.{◌==◌, if◌then◌else◌}
use Rattle.std.proofs.lemmas.Bool.{cases_Bool, eqb-true}
use Rattle.std.proofs.lemmas.Bool.Decides.{nat_tests}
use Rattle.gptp_vector.specs.declared.vector.Vector.{Vector}
use Rattle.gptp_vector.specs.Vector.{lower, master_of}
use Rattle.gptp_receipt.specs.declared.held.Held.{Held}
use Rattle.gptp_receipt.specs.declared.held.Held.TheVariants as helds
use Rattle.gptp_receipt.specs.declared.held.Reception.{Reception}
use Rattle.gptp_receipt.specs.Held.{received}
use Rattle.gptp_roles.specs.declared.role.Role.{Role}
use Rattle.gptp_roles.specs.declared.role.Role.TheVariants.{Disabled, Master, Slave, Passive}
use Rattle.gptp_roles.specs.Role.{held_after_selection, is_fresh, is_master, is_slave, chosen_role, role_of_received}

-- a number equals itself
equal_itself : (n : ℕ) → (n == n) ≡ true
equal_itself n = eq-eqb n n refl

-- a port that isn't Master keeps what it holds
pub held_after-kept : (v : Vector) (clock port : ℕ) (h : Held) → is_master (chosen_role v clock port h) ≡ false
    → held_after_selection v clock port h ≡ h
held_after-kept v clock port h other = rw other refl

-- a Master port holds the chosen root and steps
pub held_after-master : (v : Vector) (clock port : ℕ) (h : Held) → is_master (chosen_role v clock port h) ≡ true
    → held_after_selection v clock port h ≡ helds.Mine v.root v.steps
held_after-master v clock port h master = rw master refl

-- a role that is Master
master_is : (r : Role) → is_master r ≡ true → r ≡ Master
master_is Disabled e = absurd cc
master_is Master e = refl
master_is Slave e = absurd cc
master_is Passive e = absurd cc

-- a port keeps its role
pub role_of-held_after : (v : Vector) (clock port : ℕ) (h : Held)
    → chosen_role v clock port (held_after_selection v clock port h)
    ≡ chosen_role v clock port h
role_of-held_after v clock port h =
    elim (cases_Bool (is_master (chosen_role v clock port h))) [
      | inl master ↦ ap (chosen_role v clock port) (held_after-master v clock port h master)
          ∙ sym (master_is (chosen_role v clock port h) master)
      | inr other ↦ ap (chosen_role v clock port) (held_after-kept v clock port h other)
    ]

-- what a port holds after a selection it holds after the next
pub held_after-twice : (v : Vector) (clock port : ℕ) (h : Held)
    → held_after_selection v clock port (held_after_selection v clock port h)
    ≡ held_after_selection v clock port h
held_after-twice v clock port h =
    elim (cases_Bool (is_master (chosen_role v clock port h))) [
      | inl master ↦ ap (held_after_selection v clock port) (held_after-master v clock port h master)
          ∙ sym (held_after-master v clock port h master)
      | inr other ↦ ap (held_after_selection v clock port) (held_after-kept v clock port h other)
    ]

-- and it isn't fresh again
pub is_fresh-held_after : (v : Vector) (clock port : ℕ) (h : Held)
    → is_fresh v clock port (held_after_selection v clock port h)
    ≡ false
is_fresh-held_after v clock port h =
    elim (cases_Bool (is_master (chosen_role v clock port h))) [
      | inl master ↦ ap (is_fresh v clock port) (held_after-master v clock port h master)
          ∙ rw (equal_itself v.root, equal_itself v.steps) refl
      | inr other ↦ ap (is_fresh v clock port) (held_after-kept v clock port h other) ∙ rw other refl
    ]

-- a port then holds as received what it received before, or nothing
pub received-held_after : (v : Vector) (clock port : ℕ) (h : Held)
    → (received (held_after_selection v clock port h) ≡ received h)
    ⊎ (received (held_after_selection v clock port h) ≡ None)
received-held_after v clock port h =
    elim (cases_Bool (is_master (chosen_role v clock port h))) [
      | inl master ↦ inr (ap received (held_after-master v clock port h master))
      | inr other ↦ inl (ap received (held_after-kept v clock port h other))
    ]

-- the port that a vector came from is the Slave
pub role_of-slave : (v : Vector) (clock port : ℕ) (h : Held) (r : Reception) → received h ≡ Some r → v.receiver ≡ port
    → chosen_role v clock port h ≡ Slave
role_of-slave v clock port h r is here = rw (is, here, equal_itself port) refl

-- no other port is
pub is_slave-other : (v : Vector) (clock port : ℕ) (h : Held) → (v.receiver ≢ port)
    → is_slave (chosen_role v clock port h) ≡ false
is_slave-other v clock port helds.Disabled elsewhere = refl
is_slave-other v clock port helds.Aged elsewhere = refl
is_slave-other v clock port (helds.Mine root steps) elsewhere = refl
is_slave-other v clock port (helds.Received r) elsewhere =
    let there : (v.receiver == port) ≡ false = grind (arith, nat_tests) in
    rw there (by_order (lower (master_of v.root v.steps clock port) r.vector))
  where
    by_order : (b : Bool) → is_slave (if b then Master else Passive) ≡ false
    by_order true = refl
    by_order false = refl

-- what a port that received is, by what its role says
abbrev OfReceived : Vector → ℕ → ℕ → Vector → Role → Type 0
OfReceived v clock port known Disabled = ⊥
OfReceived v clock port known Slave = v.receiver ≡ port
OfReceived v clock port known Master = lower (master_of v.root v.steps clock port) known ≡ true
OfReceived v clock port known Passive = lower (master_of v.root v.steps clock port) known ≡ false

of_received : (v : Vector) (clock port : ℕ) (known : Vector)
    → OfReceived v clock port known (role_of_received v clock port known)
of_received v clock port known =
    by_port (cases_Bool (v.receiver == port)) (cases_Bool (lower (master_of v.root v.steps clock port) known))
  where
    by_port : (((v.receiver == port) ≡ true) ⊎ ((v.receiver == port) ≡ false))
        → ((lower (master_of v.root v.steps clock port) known ≡ true)
        ⊎ (lower (master_of v.root v.steps clock port) known ≡ false))
        → OfReceived v clock port known (role_of_received v clock port known)
    by_port (inl here) order = rw here (eqb-true v.receiver port here)
    by_port (inr elsewhere) (inl is_lower) = rw (elsewhere, is_lower) is_lower
    by_port (inr elsewhere) (inr not_lower) = rw (elsewhere, not_lower) not_lower

role_is_of_received : (v : Vector) (clock port : ℕ) (h : Held) (r : Reception) → received h ≡ Some r
    → OfReceived v clock port r.vector (chosen_role v clock port h)
role_is_of_received v clock port h r is = rw is (of_received v clock port r.vector)

-- what a Master port drops its master vector was lower than
pub master_is_lower : (v : Vector) (clock port : ℕ) (h : Held) (r : Reception) → received h ≡ Some r
    → chosen_role v clock port h ≡ Master
    → lower (master_of v.root v.steps clock port) r.vector ≡ true
master_is_lower v clock port h r is master =
    subst (OfReceived v clock port r.vector) master (role_is_of_received v clock port h r is)
