-- What of a system, of what it sends and of what it is given stays the same whether systems go on with the time that
-- they read or not: all but the time itself.
use Rattle.std.specs.Prelude.{◌≡◌, ◌⊎◌, ◌<◌, ℕ, pos, false, List, Some, None}
use Rattle.std.specs.Option.{option_map}
use Rattle.gptp_scaled.specs.Stamp.{Timestamp}
use Rattle.gptp_messages.specs.declared.follow_up.FollowUp.{FollowUp}
use Rattle.gptp_messages.specs.declared.head.Head.{Head}
use Rattle.gptp_messages.specs.declared.message.Message.TheVariants as messages
use Rattle.gptp_messages.specs.Grammar.{Reads}
use Rattle.gptp_correction.specs.declared.sync_in.SyncInfo.{SyncInfo}
use Rattle.gptp_system.specs.declared.sending.Body.{Body}
use Rattle.gptp_system.specs.declared.sending.Body.TheVariants as bodies
use Rattle.gptp_system.specs.declared.sending.Sending.{Sending}
use Rattle.gptp_system.specs.Input.{Input, Frame}
use Rattle.gptp_system.specs.State.{SystemState}

-- the time that a Follow_Up says is its origin and its correction: both are left out
abbrev pub no_time : Timestamp
no_time = record { seconds = 0; nanos = 0 }

abbrev pub head_beside : Head → Head
head_beside head = record head { correction = pos 0 }

abbrev pub follow_up_beside : FollowUp → FollowUp
follow_up_beside m = record { head = head_beside m.head; origin = no_time; rate = m.rate }

-- what a Sync and its Follow_Up say together
abbrev pub info_beside : SyncInfo → SyncInfo
info_beside info = record info { origin = no_time; correction = pos 0 }

-- A system: left out are whether it goes on with the time that it read, the time that it knows, what it reads time by,
-- and its base.
abbrev pub beside_time : SystemState → SystemState
beside_time s = record s {
  continues = false;
  known = option_map info_beside s.known;
  offset = None;
  reads = None;
  base = pos 0;
}

-- what a system sends
abbrev pub body_beside : Body → Sending → Sending
body_beside (bodies.FollowUp origin rate) x =
    record x { head = head_beside x.head; body = bodies.FollowUp no_time rate }
body_beside _ x = x

abbrev pub sending_beside : Sending → Sending
sending_beside x = body_beside x.body x

-- both frames read as Follow_Ups that say the same beside the time
pub record SaySameBeside (a b : List ℕ) : Type 0 where
  pub one : FollowUp
  pub other : FollowUp
  pub reads : Reads a (messages.FollowUp one)
  pub reads_other : Reads b (messages.FollowUp other)
  pub same : follow_up_beside one ≡ follow_up_beside other

-- what is known of a time has nanoseconds that make no second
abbrev pub KnowsStamp : SystemState → Type 0
KnowsStamp s = (info : SyncInfo) → s.known ≡ Some info → info.origin.nanos < 1000000000

-- they are one frame, or do that
abbrev pub SaySame : List ℕ → List ℕ → Type 0
SaySame a b = (a ≡ b) ⊎ SaySameBeside a b

-- two inputs are one, but for the time that a Follow_Up says
abbrev pub SameBeside : Input → Input → Type 0
SameBeside (Frame p a) (Frame q b) = (p ≡ q) × SaySame a b
SameBeside input other = input ≡ other
