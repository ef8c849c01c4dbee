-- What the invariant of a good link gives: no request is lost, no exchange is bad, and the port becomes capable.
use Rattle.std.proofs.Common.{◌≡◌, ◌≤◌, ◌+◌, ◌*◌, ◌⊎◌, ℕ, ℤ, true, List, [], ◌∷◌, sym, subst, inl, inr, arith}
use Rattle.std.proofs.Math.Nat.{add-mul}
use Rattle.gptp_lists.specs.Members.{In}
use Rattle.gptp_graph.specs.Snapshot.{PortIdentity}
use Rattle.gptp_pdelay_machine.specs.Messages.{Request, Reply}
use Rattle.gptp_pdelay_machine.specs.Setting.{Setting}
use Rattle.gptp_pdelay_machine.specs.Asker.{Closed, Answered, asker_completed}
use Rattle.gptp_pdelay_machine.specs.Pair.{Pair}
use Rattle.gptp_pdelay_machine.specs.Acts.{AskerHears}
use Rattle.gptp_pdelay_machine.specs.Facts.{Facts, IsGood}
use Rattle.gptp_pdelay_machine.specs.Phases.{Phase, Rests, RequestGoes, AnswerWaits, ResponseComes, FollowUpComes}
use Rattle.gptp_pdelay_machine.specs.Invariant.{PortInvariant}
use Rattle.gptp_pdelay_machine.specs.Runs.{IsPortRun}
use Rattle.gptp_pdelay_machine.specs.CapabilityLaws.{RunsEndCapable}
use Rattle.gptp_pdelay_machine.proofs.FactLemmas.{timing_is_enough}
use Rattle.gptp_pdelay_machine.proofs.InvariantLemmas.{nothing_pends, completes_well, inv_kept, inv_later, inv_begins}
use Rattle.gptp_pdelay_machine.proofs.PhaseLemmas

module _ (k : Setting) (asks : List ℕ → Request → Type 0) (replies : List ℕ → Reply → Type 0) (gone calm : ℕ) where
  -- a request that was sent at `calm` or later isn't lost
  pub no_request_is_lost : (p : Pair) → IsGood k gone calm → Facts k gone p → PortInvariant k asks replies gone calm p
      → calm ≤ p.asker.asked → p.asker.asked + k.period ≡ p.time → p.asker.progress ≡ Closed
  no_request_is_lost p good facts inv since now =
      let pends = nothing_pends k 0 asks replies gone calm p good facts now (omega arith) inv.bounds in
      PhaseLemmas.closed_where_nothing_pends k 0 asks replies p.asker p.waits p.out p.back pends.out pends.waits
      pends.back
      (inv.clean since).phase

  -- and its exchange is good
  pub no_exchange_is_bad : (p p' : Pair) (sequence : ℕ) (source : PortIdentity) (t1 t2 t4 : ℤ)
      → PortInvariant k asks replies gone calm p
      → calm ≤ p.asker.asked → p.asker.progress ≡ Answered sequence source t1 t2 t4 → AskerHears k asks replies p p'
      → (p'.asker ≡ p.asker) ⊎ (p'.asker ≡ asker_completed true p.asker)
  no_exchange_is_bad p p' sequence source t1 t2 t4 inv since recorded act =
      by_phase (subst (λ b. Phase k 0 asks replies p.asker p.waits p.out b) act.was (inv.clean since).phase)
    where
      by_phase : Phase k 0 asks replies p.asker p.waits p.out (act.front ∷ act.rest)
          → (p'.asker ≡ p.asker) ⊎ (p'.asker ≡ asker_completed true p.asker)
      by_phase (Rests closed asks_none none replies_none) = absurd cc
      by_phase (RequestGoes sequence progress request none replies_none) = absurd cc
      by_phase (AnswerWaits sequence came there progress asks_none is replies_none) = absurd cc
      by_phase (ResponseComes sequence came there progress asks_none none response) = absurd cc
      by_phase (FollowUpComes sequence came heard there home progress asks_none none (inl ((said, by), behind))) = inr
          (completes_well k 0 asks replies gone calm p.asker p'.asker act.front.octets p.time sequence came heard there
          home
          progress act.asker said)
      by_phase (FollowUpComes sequence came heard there home progress asks_none none (inr (mute, later))) =
          inl (act.asker.nothing mute)

  -- three periods after `calm` the port is capable
  pub capable_from_calm : (p : Pair) → Facts k gone p → PortInvariant k asks replies gone calm p
      → calm + 3 * k.period ≤ p.time → p.asker.capable ≡ true
  capable_from_calm p facts inv late =
      let timer : p.time ≤ p.asker.asked + k.period = facts.request_timer in
      let two : calm + 2 * k.period ≤ p.asker.asked = omega arith in
      ((inv.clean (omega arith)).counts).two (inl two)

  -- the facts are known of the state that a run begins with
  first_facts : (p : Pair) (run : List Pair) → IsPortRun k asks replies gone p run → Facts k gone p
  first_facts p [] facts = facts
  first_facts p (next ∷ run) (facts, step, on) = facts

  -- the invariant holds and the facts are known of each state of a run
  pub holds_along : (p q : Pair) (run : List Pair) → IsGood k gone calm → PortInvariant k asks replies gone calm p
      → IsPortRun k asks replies gone p run → In q (p ∷ run) → PortInvariant k asks replies gone calm q × Facts k gone q
  holds_along p q [] good inv facts (inl same) =
      subst (λ (r : Pair). PortInvariant k asks replies gone calm r × Facts k gone r) (sym same) (inv, facts)
  holds_along p q [] good inv facts (inr at) = absurd at
  holds_along p q (next ∷ run) good inv (facts, step, on) (inl same) =
      subst (λ (r : Pair). PortInvariant k asks replies gone calm r × Facts k gone r) (sym same) (inv, facts)
  holds_along p q (next ∷ run) good inv (facts, inl passes, on) (inr at) =
      holds_along next q run good (inv_later k asks replies gone calm p next passes inv) on at
  holds_along p q (next ∷ run) good inv (facts, inr act, on) (inr at) =
      holds_along next q run good
      (inv_kept k asks replies gone calm p next good facts (first_facts next run on) act inv) on at

-- L + 5 announce intervals after the last change the port is capable
pub capability_settles : (k : Setting) (asks : List ℕ → Request → Type 0) (replies : List ℕ → Reply → Type 0)
    (change interval : ℕ) (p : Pair) → k.period ≤ interval → Facts k (change + interval) p
    → PortInvariant k asks replies (change + interval) (change + 2 * interval) p
    → change + (k.allowed + 5) * interval ≤ p.time → p.asker.capable ≡ true
capability_settles k asks replies change interval p short facts inv late =
    capable_from_calm k asks replies (change + interval) (change + 2 * interval) p facts inv
    (let five : (k.allowed + 5) * interval ≡ k.allowed * interval + 5 * interval = add-mul k.allowed 5 interval in
    omega arith)

-- so it is in every run that begins just after the last change
pub runs_end_capable : (asks : List ℕ → Request → Type 0) (replies : List ℕ → Reply → Type 0)
    → RunsEndCapable asks replies
runs_end_capable asks replies k threshold change interval p q run link short period fresh is at late =
    let good = timing_is_enough k threshold change interval link short period in
    let (inv, facts) = holds_along k asks replies (change + interval) (change + 2 * interval) p q run good
    (inv_begins k asks replies (change + interval) (change + 2 * interval) p fresh) is at in
    capability_settles k asks replies change interval q period facts inv late
