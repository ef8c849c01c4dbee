-- How many sends a step has, and at which ports.
use Rattle.std.proofs.Common.{◌≡◌, ◌⊎◌, ◌≤◌, ℕ, ◌+◌, Bool, true, false, List, [], ◌∷◌, length, Option, Some, None, refl, sym, ap, subst, inl, inr, arith, eqb-true}
use Rattle.std.specs.Prelude.{if◌then◌else◌, ◌==◌}
use Rattle.std.specs.Option.{option_map_or}
use Rattle.gptp_lists.specs.Members.{In}
use Rattle.gptp_correction.specs.declared.correction.Relayed.{Relayed}
use Rattle.gptp_pdelay.specs.declared.answer.Answer.{Answer as Owed}
use Rattle.gptp_system.specs.declared.port.Port.{Port}
use Rattle.gptp_system.specs.declared.reach.Reach.{Reach}
use Rattle.gptp_system.specs.declared.reach.Reach.TheVariants as reaches
use Rattle.gptp_system.specs.declared.sending.Sending.{Sending}
use Rattle.gptp_system.specs.State.{SystemState, clock, number, own}
use Rattle.gptp_system.specs.Sends.{announcement, pdelay_response, response_follow_up, with_send}
use Rattle.gptp_system.specs.Selection.{Selects, announcements, fresh_ports}
use Rattle.gptp_system.specs.Measuring.{RespondsIf}
use Rattle.gptp_system.specs.Announcing.{announcement_at}
use Rattle.gptp_system.specs.Syncing.{follow_up_of, sync_of, told_by}
use Rattle.gptp_system.specs.Reach.{AreAt, AreAtPorts, SendsWithin, count_sends_at}
use Rattle.gptp_system.proofs.CountLemmas.{IsOnlyAt, announcements_length, announcements_once, announcements_ports, count-length, count-with_send, length-with_send, syncs_length, syncs_once, syncs_ports}
use Rattle.gptp_system.proofs.SendLemmas.{with_send-from}

-- sends at the ports 1 to the last, at most one at each
pub record AreFew (last : ℕ) (sends : List Sending) : Type 0 where
  pub least : (x : Sending) → In x sends → 1 ≤ x.port
  pub most : (x : Sending) → In x sends → x.port ≤ last
  pub each : (p : ℕ) → count_sends_at p sends ≤ 1
  pub few : length sends ≤ last

at_port : (p : ℕ) → IsOnlyAt (λ x. x.port == p) p
at_port p x is = eqb-true x.port p is

pub at_ports : (last : ℕ) (sends : List Sending) → AreFew last sends → AreAtPorts last sends
at_ports last sends a = record {
  least = a.least;
  most = a.most;
  each = λ p. let few = a.each p in omega arith;
  few = let few = a.few in omega arith;
}

nothing : (r : Reach) (ports : ℕ) → SendsWithin r ports []
nothing reaches.Nothing ports = refl
nothing (reaches.Port p) ports = record { port = λ x member. absurd member; few = omega arith }
nothing reaches.All ports = record {
  least = λ x member. absurd member;
  most = λ x member. absurd member;
  each = λ p. omega arith;
  few = omega arith;
}

pub silent : (r : Reach) (ports : ℕ) (sends : List Sending) → sends ≡ [] → SendsWithin r ports sends
silent r ports sends none = subst (SendsWithin r ports) (sym none) (nothing r ports)

-- a selection announces once at most at each port
pub selects_few : (now : ℕ) (t u : SystemState) (sends : List Sending) → Selects now t u sends
    → AreFew (length t.ports) sends
selects_few now t u sends k = subst (AreFew (length t.ports)) (sym k.sends_are) go
  where
    fresh : List Bool
    fresh = fresh_ports k.vector t

    go : AreFew (length t.ports)
        (announcements (clock t) k.vector.root k.vector.steps 1 fresh t.ports)
    go = record {
      least = λ x member.
          (announcements_ports (clock t) k.vector.root k.vector.steps 1 fresh t.ports x member).0;
      most = λ x member.
          let below = (announcements_ports (clock t) k.vector.root k.vector.steps 1 fresh t.ports x member).1 in
          omega arith;
      each = λ p.
          announcements_once (λ x. x.port == p) p (at_port p) (clock t) k.vector.root k.vector.steps 1 fresh t.ports;
      few = let few = announcements_length (clock t) k.vector.root k.vector.steps 1 fresh t.ports in omega arith;
    }

pub tells_few : (told : Relayed) (s : SystemState) → AreAtPorts (length s.ports) (told_by told s)
tells_few told s = record {
  least = λ x member. (syncs_ports (clock s) s.params.sync told 1 s.held s.ports x member).0;
  most = λ x member.
      let below = (syncs_ports (clock s) s.params.sync told 1 s.held s.ports x member).1 in omega arith;
  each = λ p.
      syncs_once (λ x. x.port == p) p (at_port p) s.params.sync told 2
      (λ own q. count-length (λ x. x.port == p)
      (sync_of own s.params.sync q ∷ follow_up_of own s.params.sync told q ∷ []))
      (clock s) 1 s.held s.ports;
  few = syncs_length (clock s) s.params.sync told 1 s.held s.ports;
}

-- one send more, at a port of the system
pub one_more : (x : Sending) (last : ℕ) (sends : List Sending) → 1 ≤ x.port → x.port ≤ last → AreFew last sends
    → AreAtPorts last (with_send x sends)
one_more x last sends least most a = record {
  least = λ y member. from (λ z. 1 ≤ z.port) least a.least y (with_send-from x y sends member);
  most = λ y member. from (λ z. z.port ≤ last) most a.most y (with_send-from x y sends member);
  each = λ p. each p (x.port == p) (count-with_send (λ z. z.port == p) x sends) (a.each p);
  few = let more = length-with_send x sends in let few = a.few in omega arith;
}
  where
    from : (P : Sending → Type 0) → P x → ((y : Sending) → In y sends → P y) → (y : Sending)
        → (y ≡ x) ⊎ In y sends → P y
    from P first others y (inl here) = subst P (sym here) first
    from P first others y (inr later) = others y later

    each : (p : ℕ) (b : Bool)
        → count_sends_at p (with_send x sends) ≡ (if b then 1 + count_sends_at p sends else count_sends_at p sends)
        → count_sends_at p sends ≤ 1 → count_sends_at p (with_send x sends) ≤ 2
    each p true is few = omega arith
    each p false is few = omega arith

-- ---- at one port

pub responds_few : (owed : Option Owed) (p now : ℕ) (s : SystemState) (sends : List Sending)
    → RespondsIf owed p now s sends → AreAt p sends
responds_few None p now s sends none = silent (reaches.Port p) 0 sends none
responds_few (Some owed) p now s sends k = subst (AreAt p) (sym k.sends_are) (record { port = both; few = omega arith })
  where
    both : (x : Sending)
        → In x (pdelay_response (own s p) owed k.came k.came-rest
        ∷ response_follow_up (own s p) owed k.went k.went-rest ∷ [])
        → x.port ≡ p
    both x (inl here) = ap (λ (y : Sending). y.port) here
    both x (inr (inl here)) = ap (λ (y : Sending). y.port) here
    both x (inr (inr later)) = absurd later

pub announcement_few : (p : ℕ) (s : SystemState) → AreAt p (announcement_at p s)
announcement_few p s = go (number s.ports p)
  where
    go : (o : Option Port)
        → AreAt p (option_map_or (λ (q : Port). announcement (own s p) s.root s.steps q ∷ []) o [])
    go None = nothing (reaches.Port p) 0
    go (Some q) = record { port = alone; few = omega arith }
      where
        alone : (x : Sending) → In x (announcement (own s p) s.root s.steps q ∷ []) → x.port ≡ p
        alone x (inl here) = ap (λ (y : Sending). y.port) here
        alone x (inr later) = absurd later
