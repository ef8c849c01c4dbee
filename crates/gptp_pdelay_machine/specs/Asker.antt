-- The port that asks: its open exchange, and when it is capable (IEEE 802.1AS-2020, 11.2.2 and 11.2.19; counting is
-- this project's profile).
use Rattle.std.specs.Prelude.{◌≡◌, ℕ, ◌+◌, ℤ, Bool, true, false, ◌&&◌, nat_lt, if◌then◌else◌, List}
use Rattle.gptp_graph.specs.Snapshot.{PortIdentity}
use Rattle.gptp_pdelay_machine.specs.Messages.{Request, Reply, Response, FollowUp}
use Rattle.gptp_pdelay_machine.specs.Setting.{Setting, IsExchange}

-- how far the last request has come: it is closed; it is open, with its sequence and t1; or its response is recorded,
-- with the port that sent that, t1, t2 and t4
pub data Progress : Type 0 where
  Closed : Progress
  Asked : ℕ → ℤ → Progress
  Answered : ℕ → PortIdentity → ℤ → ℤ → ℤ → Progress

-- `asked` is the time of the last request, which is one period before the request timer is due. The port has `measured`
-- where an exchange was completed since the reset, and so many requests were `lost` in a row without one. At a
-- live port whose link is up that timer runs (stays_measured of gptp_invariants); the rest is read off the port's peer
-- (links_are_seen).
pub record Asker : Type 0 where
  pub asked : ℕ
  pub progress : Progress
  pub measured : Bool
  pub lost : ℕ
  pub capable : Bool

-- the port's request with that sequence; sequences may come again
abbrev pub own_request : Setting → ℕ → Request
own_request k sequence = record { source = k.asking; sequence = sequence }

-- An open request is given up: it counts as lost, and where more are lost than allowed the port is reset.
abbrev pub asker_given_up : ℕ → Asker → Asker
asker_given_up allowed a = if nat_lt allowed (a.lost + 1)
    then record a { progress = Closed; measured = false; lost = 0; capable = false }
    else record a { progress = Closed; lost = a.lost + 1 }

-- what an interval that ends leaves: where no request is open nothing is given up
abbrev pub asker_after_interval : ℕ → Progress → Asker → Asker
asker_after_interval allowed Closed a = a
asker_after_interval allowed (Asked sequence t1) a = asker_given_up allowed a
asker_after_interval allowed (Answered sequence source t1 t2 t4) a = asker_given_up allowed a

-- a request is sent, at time and t1
abbrev pub asks_now : ℕ → ℕ → ℤ → Asker → Asker
asks_now time sequence t1 a = record a { asked = time; progress = Asked sequence t1 }

-- An exchange is complete; it is good where its delay is at most the threshold. The port is capable where it is good
-- and isn't the first since the reset.
abbrev pub asker_completed : Bool → Asker → Asker
asker_completed good a =
    record a { progress = Closed; measured = true; lost = 0; capable = a.measured && good }

-- What the port makes of octets that it hears. Nothing, where they are no reply. Where a request is open, a response to
-- it is recorded, with the time stamp of its arrival as t4. Where one is recorded, a follow-up to it completes the
-- exchange, which is good at least where the four times are those of one exchange over the link. Other replies send no
-- request; no more is said of them.
--
-- These are contracts of the calls for a frame. Shown of worlds by own_deliveries_are_heard of gptp_invariants. A
-- `follow_up` is good by exchanges_are_good and exchanges_show_neighbor: the link is good, the clocks are within their
-- limits, and the neighbour rate is clamped, and 0 at first.
pub record TakesReply (k : Setting) (replies : List ℕ → Reply → Type 0) (time : ℕ) (octets : List ℕ)
    (a a' : Asker) : Type 0
  where
    pub nothing : ((r : Reply) → replies octets r → ⊥) → a' ≡ a
    pub asked : a'.asked ≡ a.asked
    pub response : (sequence : ℕ) (t1 t2 : ℤ) → a.progress ≡ Asked sequence t1
        → replies octets (Response k.answering (own_request k sequence) t2)
        → a' ≡ record a { progress = Answered sequence k.answering t1 t2 (k.asking_clock time) }
    pub follow_up : (sequence : ℕ) (t1 t2 t3 t4 : ℤ) → a.progress ≡ Answered sequence k.answering t1 t2 t4
        → replies octets (FollowUp k.answering (own_request k sequence) t3)
        → (good : Bool) × (IsExchange k t1 t2 t3 t4 → good ≡ true) × (a' ≡ asker_completed good a)
