-- Announces: what hearing one, ageing one and sending one make of a system (IEEE 802.1AS-2020, 10.3.10 to 10.3.16).
use Rattle.std.specs.Prelude.{◌≡◌, ℕ, ℤ, ◌+◌, ◌*◌, ◌^◌, ◌%◌, Bool, true, false, List, [], ◌∷◌, Some}
use Rattle.std.specs.Option.{option_map, option_map_or}
use Rattle.gptp_vector.specs.declared.port.PortId.{PortId}
use Rattle.gptp_messages.specs.declared.announce.AnnounceView.{AnnounceView}
use Rattle.gptp_receipt.specs.declared.held.Held.{Held}
use Rattle.gptp_receipt.specs.declared.held.Heard.{Heard}
use Rattle.gptp_receipt.specs.declared.held.Heard.TheVariants as heards
use Rattle.gptp_receipt.specs.declared.qualification.Why.{Why}
use Rattle.gptp_receipt.specs.declared.qualification.Why.TheVariants as whys
use Rattle.gptp_receipt.specs.declared.held.Reception.{Reception}
use Rattle.gptp_receipt.specs.Held.{aged, comparison, held_after, message_vector, received, reception}
use Rattle.gptp_receipt.specs.Qualification.{Qualified, FirstFailure}
use Rattle.gptp_receipt.specs.Span.{span_of}
use Rattle.gptp_setup.specs.declared.setup.Params.{Params}
use Rattle.gptp_system.specs.declared.answer.Answer.{Answer}
use Rattle.gptp_system.specs.declared.answer.Answer.TheVariants as answers
use Rattle.gptp_system.specs.declared.port.Port.{Port}
use Rattle.gptp_system.specs.declared.sending.Sending.{Sending}
use Rattle.gptp_system.specs.State.{SystemState, number, clock, own, held_at, is_capable_at, on_port, on_held}
use Rattle.gptp_system.specs.Sends.{announcement}
use Rattle.gptp_system.specs.Selection.{announced_again, Selects, SelectsIf, Becomes}

-- how it is answered why an Announce isn't taken for heard, and what it is to the port otherwise
abbrev pub answer_to_why : Why → Answer
answer_to_why whys.OwnMessage = answers.Own
answer_to_why whys.TooManySteps = answers.Steps
answer_to_why whys.Loop = answers.Loop
answer_to_why whys.TraceTooLong = answers.Long

abbrev pub answer_to_heard : Heard → Answer
answer_to_heard heards.Superior = answers.Superior
answer_to_heard heards.Repeated = answers.Repeated
answer_to_heard heards.Inferior = answers.Inferior

-- what is heard takes the place of what was held
abbrev pub replaces_held : Heard → Bool
replaces_held heards.Inferior = false
replaces_held _ = true

-- it says what the port received last: the same vector from the same port
abbrev pub SaysAgain : Held → PortId → AnnounceView → Type 0
SaysAgain h own a = option_map (λ (r : Reception). r.vector) (received h) ≡ Some (message_vector a own.port)

-- an Announce on a port that isn't asCapable
pub record HearsOff (p : ℕ) (s s' : SystemState) (sends : List Sending) (answer : Answer) : Type 0 where
  pub off : is_capable_at s p ≡ false
  pub becomes : Becomes s s' sends
  pub answer_is : answer ≡ answers.Disabled

-- an Announce that isn't qualified, by the first test that it fails
pub record HearsUnqualified (p : ℕ) (a : AnnounceView) (s s' : SystemState) (sends : List Sending)
    (answer : Answer) : Type 0 where
  pub on : is_capable_at s p ≡ true
  pub why : Why
  pub fails : FirstFailure a (clock s) why
  pub becomes : Becomes s s' sends
  pub answer_is : answer ≡ answer_to_why why

-- the state in which the port has compared an Announce with what it holds
abbrev pub compared : ℕ → AnnounceView → ℕ → SystemState → SystemState
compared p a now s =
    on_held p (λ h. held_after (comparison h (own s p) a) h (reception a (own s p) now)) s

-- a qualified Announce: where it takes the place of what was held, selection follows
pub record HearsQualified (p : ℕ) (a : AnnounceView) (now : ℕ) (s s' : SystemState) (sends : List Sending)
    (answer : Answer) : Type 0 where
  pub on : is_capable_at s p ≡ true
  pub qualified : Qualified a (clock s)
  pub selects : SelectsIf (replaces_held (comparison (held_at s p) (own s p) a)) now (compared p a now s) s' sends
  pub answer_is : answer ≡ answer_to_heard (comparison (held_at s p) (own s p) a)

-- a qualified Announce that says again what the port received last: only that is received anew
pub record HearsAgain (p : ℕ) (a : AnnounceView) (now : ℕ) (s s' : SystemState) : Type 0 where
  pub says : SaysAgain (held_at s p) (own s p) a
  pub state : s' ≡ compared p a now s

-- ---- timers

-- what a port received is dropped where it is too old
abbrev pub aged_by : Params → ℤ → ℕ → Held → Held
aged_by params largest now h = option_map_or (λ span. aged h span now) (span_of h params.timeout largest) h

abbrev pub aged_at : ℕ → ℕ → SystemState → SystemState
aged_at p now s = on_held p (aged_by s.params s.largest now) s

abbrev pub AgeExpires : ℕ → ℕ → SystemState → SystemState → List Sending → Type 0
AgeExpires p now s s' sends = Selects now (aged_at p now s) s' sends

-- a Master port announces again
abbrev pub announced_at : ℕ → ℕ → SystemState → SystemState
announced_at p now s = on_port p (announced_again now) s

abbrev pub announcement_at : ℕ → SystemState → List Sending
announcement_at p s =
    option_map_or (λ (q : Port). announcement (own s p) s.root s.steps q ∷ []) (number s.ports p) []

pub record AnnounceExpires (p now : ℕ) (s s' : SystemState) (sends : List Sending) : Type 0 where
  pub state : s' ≡ announced_at p now s
  pub sends_are : sends ≡ announcement_at p s

-- ---- priority1

-- the identity with another priority1 (10.3.2)
abbrev pub with_priority : ℕ → SystemState → SystemState
with_priority value s = record s { identity = value * 2 ^ 104 + s.identity % 2 ^ 104 }

abbrev pub ChangesPriority : ℕ → ℕ → SystemState → SystemState → List Sending → Type 0
ChangesPriority value now s s' sends = Selects now (with_priority value s) s' sends
