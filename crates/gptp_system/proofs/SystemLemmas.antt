-- What is true of every system between its calls stays true.
use Rattle.std.proofs.Common.{◌≡◌, ◌≢◌, ◌≤◌, ℕ, zero, suc, true, false, ℤ, List, [], ◌∷◌, length, Option, Some, None, slice_get, refl, sym, ap, ◌∙◌, arith}
use Rattle.std.specs.Prelude.{IsSome}
use Rattle.std.specs.Option.{option_and_then, option_map_or}
use Rattle.std.proofs.lemmas.Option.{none-some}
use Rattle.gptp_receipt.specs.declared.held.Held.{Held}
use Rattle.gptp_receipt.specs.declared.held.Held.TheVariants as helds
use Rattle.gptp_roles.specs.Selection.{clock_of}
use Rattle.gptp_roles.specs.SystemTrace.{SlaveReceived}
use Rattle.gptp_roles.proofs.SlaveLemmas.{slave_received}
use Rattle.gptp_system.specs.declared.answer.Answer.{Answer}
use Rattle.gptp_system.specs.declared.port.Port.{Port}
use Rattle.gptp_system.specs.declared.sending.Sending.{Sending}
use Rattle.gptp_setup.specs.declared.setup.Setup.{Setup}
use Rattle.gptp_pdelay.specs.Peer.{is_capable}
use Rattle.gptp_system.specs.Facts.{AreShown, IsNew, IsSystem}
use Rattle.gptp_system.specs.Input.{Input, Steps}
use Rattle.gptp_system.specs.Ready.{IsReady}
use Rattle.gptp_system.specs.Start.{started}
use Rattle.gptp_system.specs.State.{SystemState, number, held_at, is_capable_at}
use Rattle.gptp_system.specs.Steps.{HasPortNumber, IsUp}
use Rattle.gptp_system.proofs.StartLemmas.{disabled_at, length-all_disabled, length-new_ports, new_port_at}
use Rattle.gptp_system.proofs.RestLemmas.{new_held, new_rest, new_shown}
use Rattle.gptp_system.proofs.StepLemmas.{steps_sound}

-- after every step
pub stays_system : (input : Input) (now : ℕ) (s s' : SystemState) (sends : List Sending) (answer : Answer) → IsSystem s
    → IsReady s'
    → Steps input now s s' sends answer → IsSystem s'
stays_system input now s s' sends answer is ready k =
    let sound = steps_sound input now s s' sends answer k in
    record { ready = ready; rest = sound.rest is.held is.rest; shown = sound.shown is.shown; held = sound.held is.held }

-- all ports of a new system are disabled, and have measured nothing
pub is_new : (setup : Setup) (now : ℕ) → IsNew (started setup now)
is_new setup now = record {
  places = length-all_disabled (length logs) ∙ sym (length-new_ports (clock_of setup.identity) setup.params 1 logs);
  silent = disabled_at (length logs);
  unmeasured = unmeasured;
  root = refl;
  steps = refl;
  slave = refl;
}
  where
    logs : List ℤ
    logs = setup.intervals.items

    unmeasured : (i : ℕ) (q : Port) → slice_get (started setup now).ports i ≡ Some q → q.peer.last ≡ None
    unmeasured i q there =
        let (log, here, is) = new_port_at (clock_of setup.identity) setup.params logs i q there in
        ap (λ (x : Port). x.peer.last) is

-- and at the start
pub starts_system : (setup : Setup) (now : ℕ) → IsReady (started setup now) → IsSystem (started setup now)
starts_system setup now ready =
    let new = is_new setup now in
    record {
      ready = ready;
      rest = new_rest (started setup now) new;
      shown = new_shown (started setup now) new;
      held = new_held (started setup now) new;
    }

-- the Slave port is one that received
pub system_slave : (s : SystemState) → IsSystem s → SlaveReceived s.held s.slave
system_slave s is = rw is.rest.slave (slave_received s.identity s.held is.rest.vector is.ready.placed is.rest.is_chosen)

-- ---- ports that exist

-- what is found at a number is found at that of a port
within : {X Y : Type 0} (xs : List X) (f : X → Option Y) (p : ℕ) → IsSome (option_and_then f (number xs p)) → (1 ≤ p)
    × (p ≤ length xs)
within xs f zero some = absurd cc
within [] f (suc i) some = absurd cc
within (x ∷ xs) f (suc zero) some = (omega arith, omega arith)
within (x ∷ xs) f (suc (suc i)) some = let ih = within xs f (suc i) some in (omega arith, omega arith)

pub up_is_port : (s : SystemState) (p : ℕ) → IsUp s p → HasPortNumber s p
up_is_port s p up =
    let is = within s.ports (λ (q : Port). q.pdelay) p up in record { least = is.0; most = is.1 }

-- where a port is, it holds something
held_there : (hs : List Held) (qs : List Port) (i : ℕ) (q : Port) → length hs ≡ length qs → slice_get qs i ≡ Some q
    → (h : Held) × (slice_get hs i ≡ Some h)
held_there [] [] i q same is = absurd (none-some q is)
held_there [] (x ∷ qs) i q same is = absurd (omega arith)
held_there (h ∷ hs) [] i q same is = absurd (omega arith)
held_there (h ∷ hs) (x ∷ qs) zero q same is = (h, refl)
held_there (h ∷ hs) (x ∷ qs) (suc i) q same is = held_there hs qs i q (omega arith) is

-- a port that is asCapable isn't Disabled
pub capable_holds : (s : SystemState) (p : ℕ) → AreShown s → is_capable_at s p ≡ true → held_at s p ≢ helds.Disabled
capable_holds s zero shown capable = absurd cc
capable_holds s (suc i) shown capable = go (slice_get s.ports i) refl capable
  where
    go : (o : Option Port) → slice_get s.ports i ≡ o → option_map_or (λ (q : Port). is_capable q.peer) o false ≡ true
        → held_at s (suc i) ≢ helds.Disabled
    go None is on = absurd cc
    go (Some q) is on =
        let there = held_there s.held s.ports i q shown.places is in
        rw there.1 ((shown.each i there.0 q there.1 is).on on)
