-- The port that answers: the request that it noted, which waits to be answered (IEEE 802.1AS-2020, 11.2.20; the
-- turnaround is this project's profile).
use Rattle.std.specs.Prelude.{◌≡◌, ◌⊎◌, ℕ, ◌+◌, ℤ, List, Option, Some}
use Rattle.gptp_pdelay_machine.specs.Messages.{Request}
use Rattle.gptp_pdelay_machine.specs.Setting.{Setting}

-- the request, the time stamp t2 of its arrival, and the time at which it is to be answered
pub record Waiting : Type 0 where
  pub request : Request
  pub t2 : ℤ
  pub due : ℕ

-- the request came at that time
abbrev pub noted : Setting → Request → ℕ → Waiting
noted k request came = record {
  request = request;
  t2 = k.answering_clock came;
  due = came + k.turnaround;
}

-- The octets are this one request, and no other.
pub record IsOneRequest (asks : List ℕ → Request → Type 0) (octets : List ℕ) (request : Request) : Type 0 where
  pub said : asks octets request
  pub only : (other : Request) → asks octets other → other ≡ request

-- What the port makes of octets that it hears: a request is noted in place of the one that waited, and anything else
-- leaves that one. Shown of worlds by own_deliveries_are_heard of gptp_invariants.
abbrev pub Notes : Setting → (List ℕ → Request → Type 0) → ℕ → List ℕ → Option Waiting → Option Waiting → Type 0
Notes k asks time octets w w' =
    (((request : Request) → asks octets request → ⊥) × (w' ≡ w))
    ⊎ ((request : Request) × IsOneRequest asks octets request × (w' ≡ Some (noted k request time)))
