-- What a system at rest follows.
use Rattle.std.proofs.Common.{◌≡◌, ◌⊎◌, ℕ, zero, suc, ◌-◌, ◌++◌, false, List, [], ◌∷◌, Some, None, slice_get, refl, ap, ◌∙◌, inl, inr, arith}
use Rattle.std.specs.Prelude.{◌==◌}
use Rattle.std.specs.Option.{option_and_then}
use Rattle.std.proofs.lemmas.Bool.Decides.{nat_tests}
use Rattle.gptp_vector.specs.declared.vector.Vector.{Vector}
use Rattle.gptp_vector.specs.Vector.{path_of, system_vector}
use Rattle.gptp_receipt.specs.declared.held.Held.{Held}
use Rattle.gptp_receipt.specs.declared.held.Reception.{Reception}
use Rattle.gptp_receipt.specs.Held.{received}
use Rattle.gptp_roles.specs.Choice.{IsIn, path_vectors, slave_port}
use Rattle.gptp_roles.specs.SystemTrace.{SlaveReceived, path_received, received_at, system_trace}
use Rattle.gptp_roles.proofs.ChoiceLemmas.{from_port}
use Rattle.gptp_system.specs.State.{SystemState, clock}
use Rattle.gptp_system.specs.Facts.{AreHeld, IsAtRest}
use Rattle.gptp_system.specs.Follows.{SystemIsRoot, SystemFollowsPort}

-- a path vector is that of what one port received
abbrev FromPlace : Vector → List Held → Type 0
FromPlace v hs =
    (i : ℕ) × (h : Held) × (r : Reception) × (slice_get hs i ≡ Some h) × (received h ≡ Some r) × (v ≡ path_of r.vector)

from_place : (v : Vector) (hs : List Held) → IsIn v (path_vectors hs) → FromPlace v hs
from_place v [] member = absurd member
from_place v (h ∷ hs) member = go (from_port v h hs member) (from_place v hs)
  where
    go : (((r : Reception) × (received h ≡ Some r) × (v ≡ path_of r.vector)) ⊎ IsIn v (path_vectors hs))
        → (IsIn v (path_vectors hs) → FromPlace v hs) → FromPlace v (h ∷ hs)
    go (inl (r, holds, is)) ih = (zero, h, r, refl, holds, is)
    go (inr later) ih = let (i, g, r, there, holds, is) = ih later in (suc i, g, r, there, holds, is)

receiver_slave : (v : Vector) (i : ℕ) → v.receiver ≡ suc i → slave_port v ≡ Some (suc i)
receiver_slave v i is = let some : (v.receiver == 0) ≡ false = grind (arith, nat_tests) in rw some (ap (λ n. Some n) is)

-- the place of the port with this number
place_of : (hs : List Held) (i : ℕ) → received_at hs (suc i) ≡ option_and_then received (slice_get hs i)
place_of hs i = let e : suc i - 1 ≡ i = omega arith in ap (λ n. option_and_then received (slice_get hs n)) e

received_there : (hs : List Held) (i : ℕ) (h : Held) (r : Reception) → slice_get hs i ≡ Some h → received h ≡ Some r
    → received_at hs (suc i) ≡ Some r
received_there hs i h r there holds = place_of hs i ∙ ap (option_and_then received) there ∙ holds

pub follows : (s : SystemState) → AreHeld s → IsAtRest s → SystemIsRoot s ⊎ SystemFollowsPort s
follows s a r = go r.is_chosen.member
  where
    go : (r.vector ≡ system_vector s.identity) ⊎ IsIn r.vector (path_vectors s.held)
        → SystemIsRoot s ⊎ SystemFollowsPort s
    go (inl own_one) =
        let slave : s.slave ≡ None = r.slave ∙ ap slave_port own_one in
        inl (record {
          root = r.root ∙ ap (λ (v : Vector). v.root) own_one;
          steps = r.steps ∙ ap (λ (v : Vector). v.steps) own_one;
          slave = slave;
          path = ap (system_trace (clock s) s.held) slave;
        })
    go (inr path) =
        let (i, h, reception, there, holds, is) = from_place r.vector s.held path in
        let receiver : r.vector.receiver ≡ suc i = ap (λ (v : Vector). v.receiver) is
        ∙ (a i h there reception holds).receiver in
        let slave : s.slave ≡ Some (suc i) = r.slave ∙ receiver_slave r.vector i receiver in
        let whole = received_there s.held i h reception there holds in
        inr (record {
          place = i;
          held = h;
          reception = reception;
          there = there;
          holds = holds;
          root = r.root ∙ ap (λ (v : Vector). v.root) is;
          steps = r.steps ∙ ap (λ (v : Vector). v.steps) is;
          slave = slave;
          path = ap (system_trace (clock s) s.held) slave ∙ ap (λ o. path_received o ++ clock s ∷ []) whole;
        })

-- so the trace may be asked for
pub slave_received : (s : SystemState) → AreHeld s → IsAtRest s → SlaveReceived s.held s.slave
slave_received s a r = go (follows s a r)
  where
    go : SystemIsRoot s ⊎ SystemFollowsPort s → SlaveReceived s.held s.slave
    go (inl k) = rw k.slave tt
    go (inr k) =
        rw k.slave (
          k.reception,
          omega arith,
          received_there s.held k.place k.held k.reception k.there k.holds,
          (a k.place k.held k.there k.reception k.holds).short,
        )
