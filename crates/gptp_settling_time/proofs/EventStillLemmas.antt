-- What stands after an event that takes something away stood before it.
use Rattle.std.proofs.Common.{◌≡◌, inl, inr, ℕ, Bool, true, false, List, refl, ap, ap₂, ◌∙◌}
use Rattle.std.specs.Prelude.{◌&&◌, ◌==◌, if◌then◌else◌}
use Rattle.std.proofs.lemmas.Bool.{eq-eqb, or_left, or_right}
use Rattle.gptp_vector.specs.declared.port.PortId.{PortId}
use Rattle.gptp_scenario.specs.Change.{is_at, system_after, system_changed, with_live, with_priority1, with_up}
use Rattle.gptp_scenario.specs.Network.{IsEnd, same_port}
use Rattle.gptp_scenario.specs.declared.change.Change.TheVariants.{Fail, Priority1}
use Rattle.gptp_scenario.specs.declared.change.Timed.{Timed}
use Rattle.gptp_scenario.specs.declared.network.LinkSpec.{LinkSpec}
use Rattle.gptp_scenario.specs.declared.network.SystemSpec.{SystemSpec}
use Rattle.gptp_model.specs.World.{port_id}

pub same_end : (number port : ℕ) (q : PortId) → q ≡ port_id number port → same_port q (port_id number port) ≡ true
same_end number port q same =
    ap (λ x. same_port x (port_id number port)) same
    ∙ ap₂ (λ a b. a && b) (eq-eqb number number refl) (eq-eqb port port refl)

-- a link at the port is at it
pub at_end : (number port : ℕ) (w : LinkSpec) → IsEnd (port_id number port) w → is_at number port w ≡ true
at_end number port w (inl a) = or_left _ _ (same_end number port w.a a)
at_end number port w (inr b) = or_right _ _ (same_end number port w.b b)

-- a link that is up after it went down at a port isn't at that, and is as it was
pub down_still : (number port : ℕ) (w : LinkSpec)
    → (if is_at number port w then with_up false w else w).up ≡ true
    → (is_at number port w ≡ false) × ((if is_at number port w then with_up false w else w) ≡ w)
down_still number port w = by (is_at number port w) refl
  where
    by : (test : Bool) → is_at number port w ≡ test → (if test then with_up false w else w).up ≡ true
        → (is_at number port w ≡ false) × ((if test then with_up false w else w) ≡ w)
    by true at up = absurd (let off : false ≡ true = up in cc)
    by false at up = (at, refl)

-- a system that lives after one failed isn't that, and lived
pub fail_still : (number own : ℕ) (events : List Timed) (m : SystemSpec)
    → (system_changed (Fail number) own (system_after events m)).live ≡ true
    → ((number == own) ≡ false) × ((system_after events m).live ≡ true)
fail_still number own events m = by (number == own) refl
  where
    by : (test : Bool) → (number == own) ≡ test
        → (if test then with_live false (system_after events m) else system_after events m).live ≡ true
        → ((number == own) ≡ false) × ((system_after events m).live ≡ true)
    by true same live = absurd (let off : false ≡ true = live in cc)
    by false other live = (other, live)

pub set_still : (number own value : ℕ) (events : List Timed) (m : SystemSpec)
    → (system_changed (Priority1 number value) own (system_after events m)).live ≡ (system_after events m).live
set_still number own value events m = by (number == own)
  where
    by : (test : Bool)
        → (if test then with_priority1 value (system_after events m) else system_after events m).live
        ≡ (system_after events m).live
    by true = refl
    by false = refl
