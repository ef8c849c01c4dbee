-- How soon a port can be capable at the earliest, and in which order its neighbour's first other messages come.
use Rattle.std.specs.Prelude.{◌≡◌, ◌≢◌, ⊤, ℕ, ℤ, ◌+◌, ◌≤◌, true, false, List}
use Rattle.gptp_lists.specs.Members.{In}
use Rattle.gptp_graph.specs.Snapshot.{PortIdentity}
use Rattle.gptp_pdelay_machine.specs.Lanes.{LaneFrame, FirstIs}
use Rattle.gptp_pdelay_machine.specs.Messages.{Reply, Response, FollowUp}
use Rattle.gptp_pdelay_machine.specs.Setting.{Setting}
use Rattle.gptp_pdelay_machine.specs.Asker.{Asker, Closed, Asked, Answered, own_request}
use Rattle.gptp_pdelay_machine.specs.Pair.{Pair}

-- how long an exchange takes at least, where each frame takes `least` ns or more
abbrev pub least_exchange : Setting → ℕ → ℕ
least_exchange k least = least + k.turnaround + least

-- The port wasn't capable before its first request and had measured nothing. It records no response before that can be
-- back, and isn't capable before its second exchange can be complete. This isn't shown of worlds.
pub record IsNotBefore (k : Setting) (least first : ℕ) (p : Pair) : Type 0 where
  pub answered : (sequence : ℕ) (source : PortIdentity) (t1 t2 t4 : ℤ)
      → p.asker.progress ≡ Answered sequence source t1 t2 t4 → p.asker.asked + least_exchange k least ≤ p.time
  pub fresh : p.asker.asked ≡ first → p.asker.capable ≡ false
  pub none : p.asker.asked ≡ first → p.asker.progress ≢ Closed → p.asker.measured ≡ false
  pub second : p.asker.asked ≡ first + k.period → p.asker.capable ≡ true
      → first + k.period + least_exchange k least ≤ p.time

-- what is heard: a reply, or anything else that tells something, as an Announce
pub data Heard : Type 0 where
  Answers : Reply → Heard
  Tells : Heard

abbrev pub either_order : (List ℕ → Type 0) → (List ℕ → Reply → Type 0) → List ℕ → Heard → Type 0
either_order tells replies octets (Answers reply) = replies octets reply
either_order tells replies octets Tells = tells octets

-- no frame of the lane tells
abbrev pub AreUntold : (List ℕ → Type 0) → List LaneFrame → Type 0
AreUntold tells fs = (f : LaneFrame) → In f fs → tells f.octets → ⊥

module _ (k : Setting) (tells : List ℕ → Type 0) (replies : List ℕ → Reply → Type 0) (sequence : ℕ) where
  -- the frame is a response, or a follow-up, to that request
  abbrev pub AnswersIt : LaneFrame → Type 0
  AnswersIt f = (t2 : ℤ) × replies f.octets (Response k.answering (own_request k sequence) t2)

  abbrev pub FollowsIt : LaneFrame → Type 0
  FollowsIt f = (t3 : ℤ) × replies f.octets (FollowUp k.answering (own_request k sequence) t3)

  -- no frame before the follow-up tells
  abbrev pub FollowUpFirst : List LaneFrame → Type 0
  FollowUpFirst fs = FirstIs (either_order tells replies) FollowsIt (λ gs. ⊤) fs

  -- nor does one before the response
  abbrev pub ResponseFirst : List LaneFrame → Type 0
  ResponseFirst fs = FirstIs (either_order tells replies) AnswersIt FollowUpFirst fs

module _ (k : Setting) (tells : List ℕ → Type 0) (replies : List ℕ → Reply → Type 0) (first : ℕ) (a : Asker) where
  -- What tells comes after the follow-up that makes the port capable: the port is capable; or nothing that tells is in
  -- flight to it; or what is in flight is after the answer to the second request, or to a later one.
  pub data IsOrdered (back : List LaneFrame) : Type 0 where
    IsCapable : first + k.period ≤ a.asked → a.capable ≡ true → IsOrdered back
    Untold : AreUntold tells back → IsOrdered back
    ResponseAhead : (sequence : ℕ) (t1 : ℤ) → first + k.period ≤ a.asked → a.progress ≡ Asked sequence t1
        → ResponseFirst k tells replies sequence back → IsOrdered back
    FollowUpAhead : (sequence : ℕ) (source : PortIdentity) (t1 t2 t4 : ℤ) → first + k.period ≤ a.asked
        → a.progress ≡ Answered sequence source t1 t2 t4 → FollowUpFirst k tells replies sequence back
        → IsOrdered back
