-- What the ports of a system at rest hold, and what it follows.
use Rattle.std.proofs.Common.{◌≡◌, ◌⊎◌, ℕ, suc, Bool, true, false, Some, slice_get, refl, sym, ap, subst, ◌∙◌, inl, inr, arith}
use Rattle.std.specs.Prelude.{◌==◌}
use Rattle.std.proofs.lemmas.Bool.Decides.{nat_tests}
use Rattle.std.proofs.lemmas.Option.{none-some, same_Some}
use Rattle.gptp_vector.specs.declared.vector.Vector.{Vector}
use Rattle.gptp_vector.specs.Vector.{lower, master_of}
use Rattle.gptp_receipt.specs.declared.held.Held.{Held}
use Rattle.gptp_receipt.specs.declared.held.Held.TheVariants.{Disabled, Aged, Mine, Received}
use Rattle.gptp_receipt.specs.declared.held.Reception.{Reception}
use Rattle.gptp_receipt.specs.Held.{received}
use Rattle.gptp_roles.specs.Choice.{slave_port}
use Rattle.gptp_roles.specs.Role.{held_after_selection}
use Rattle.gptp_system.specs.Facts.{AreHeld, IsAtRest}
use Rattle.gptp_system.specs.Follows.{SystemIsRoot, SystemFollowsPort}
use Rattle.gptp_system.specs.State.{SystemState, clock}
use Rattle.gptp_system.proofs.ChangedLemmas.{each_port-get}
use Rattle.gptp_system.proofs.FollowLemmas.{follows}
use Rattle.gptp_model.specs.Sound.{IsSound}
use Rattle.gptp_model.specs.World.{WorldState}
use Rattle.gptp_lists.proofs.MappedLemmas.{same_there}
use Rattle.gptp_invariants.specs.ChoiceAtRest.{IsPortAtRest, OfEachSystem}

-- ---- what a choice leaves as it is

module _ (v : Vector) (c i : ℕ) where
  not_aged : (h : Held) → h ≡ held_after_selection v c (suc i) h → h ≡ Aged → ⊥
  not_aged Disabled stays aged = absurd cc
  not_aged Aged stays aged = absurd cc
  not_aged (Mine root steps) stays aged = absurd cc
  not_aged (Received r) stays aged = absurd cc

  mine_is : (root steps : ℕ) → Mine root steps ≡ held_after_selection v c (suc i) (Mine root steps)
      → (root ≡ v.root) × (steps ≡ v.steps)
  mine_is root steps stays = (cc, cc)

  slave_is : v.receiver ≡ suc i → slave_port v ≡ Some (suc i)
  slave_is is =
      let some : (v.receiver == 0) ≡ false = grind (arith, nat_tests) in rw some (ap (λ n. Some n) is)

  -- the master vector of the port isn't lower than this
  abbrev IsPassive : Vector → Type 0
  IsPassive vector = lower (master_of v.root v.steps c (suc i)) vector ≡ false

  -- a port that received something and stays so is Slave, or its master vector isn't lower
  received_stays : (h : Held) (r : Reception) → h ≡ held_after_selection v c (suc i) h → received h ≡ Some r
      → (slave_port v ≡ Some (suc i)) ⊎ IsPassive r.vector
  received_stays Disabled r stays got = absurd (none-some r got)
  received_stays Aged r stays got = absurd (none-some r got)
  received_stays (Mine root steps) r stays got = absurd (none-some r got)
  received_stays (Received x) r stays got =
      subst (λ (y : Reception). (slave_port v ≡ Some (suc i)) ⊎ IsPassive y.vector)
      (same_Some x r got) (by (v.receiver == suc i) (lower (master_of v.root v.steps c (suc i)) x.vector) refl refl)
    where
      by : (slave less : Bool) → (v.receiver == suc i) ≡ slave
          → lower (master_of v.root v.steps c (suc i)) x.vector ≡ less
          → (slave_port v ≡ Some (suc i)) ⊎ IsPassive x.vector
      by true less is _ = inl (slave_is (grind (arith, nat_tests)))
      by false false other is = inr is
      by false true other is =
          let mine : Received x ≡ Mine v.root v.steps = rw (other, is) at stays in absurd cc

-- ---- systems at rest

pub port_at_rest : (s : SystemState) → AreHeld s → IsAtRest s → (i : ℕ) (h : Held) → slice_get s.held i ≡ Some h
    → IsPortAtRest s (suc i) h
port_at_rest s held rest i h stands = record {
  fresh = not_aged v (clock s) i h stays;
  mine = λ root steps is.
      let same = mine_is v (clock s) i root steps
      (subst (λ x. x ≡ held_after_selection v (clock s) (suc i) x) is stays) in
      (same.0 ∙ sym rest.root, same.1 ∙ sym rest.steps);
  passive = λ r got. by r (received_stays v (clock s) i h r stays got);
  came = held i h stands;
}
  where
    v : Vector
    v = rest.vector

    stays : h ≡ held_after_selection v (clock s) (suc i) h
    stays =
        let made = each_port-get (held_after_selection v (clock s)) s.held i h
        (ap (λ hs. slice_get hs i) (sym rest.stays) ∙ stands) in
        made.2 ∙ ap (held_after_selection v (clock s) (suc i)) (same_there s.held i made.0 h made.1 stands)

    by : (r : Reception)
        → (slave_port v ≡ Some (suc i)) ⊎ (lower (master_of v.root v.steps (clock s) (suc i)) r.vector ≡ false)
        → (s.slave ≡ Some (suc i)) ⊎ (lower (master_of s.root s.steps (clock s) (suc i)) r.vector ≡ false)
    by r (inl slave) = inl (rest.slave ∙ slave)
    by r (inr other) = inr (rw (rest.root, rest.steps) other)

pub ports_at_rest : (w : WorldState) → IsSound w
    → OfEachSystem (λ s. (i : ℕ) (h : Held) → slice_get s.held i ≡ Some h → IsPortAtRest s (suc i) h) w
ports_at_rest w sound place station here live =
    let steady = (sound.on_time.stations place station here).steady in
    port_at_rest station.system steady.held steady.rest

pub systems_follow : (w : WorldState) → IsSound w → OfEachSystem (λ s. SystemIsRoot s ⊎ SystemFollowsPort s) w
systems_follow w sound place station here live =
    let steady = (sound.on_time.stations place station here).steady in
    follows station.system steady.held steady.rest
