-- Sends, deliveries and calls change of the links what is in flight on them alone.
use Rattle.std.proofs.Common.{◌≡◌, ℕ, List, [], ◌∷◌, map, Option, Some, None, slice_get, slice_set, refl, sym, ap, subst, ◌∙◌, inl, inr}
use Rattle.gptp_vector.specs.declared.port.PortId.{PortId}
use Rattle.gptp_links.specs.declared.link.Direction.{Direction}
use Rattle.gptp_links.specs.declared.link.Direction.TheVariants.{FromA, FromB}
use Rattle.gptp_links.specs.Fate.{Draw}
use Rattle.gptp_links.specs.Queue.{Frame}
use Rattle.gptp_system.specs.declared.answer.Answer.{Answer}
use Rattle.gptp_system.specs.declared.sending.Sending.{Sending}
use Rattle.gptp_system.specs.Input.{Input}
use Rattle.gptp_system.specs.State.{SystemState, own}
use Rattle.gptp_model.specs.Act.{all_timers, in_state, Calls, TakesFrame}
use Rattle.gptp_model.specs.Sends.{entered, written, SendsAll, SendsOne}
use Rattle.gptp_model.specs.World.{Channel, Net, WorldState, with_queue}
use Rattle.gptp_lists.proofs.PlaceLemmas.{map-set_same}

-- a link without what is in flight on it
abbrev pub bare : Channel → Channel
bare channel = record channel { from_a = []; from_b = [] }

-- links become others in what is in flight on them alone
abbrev pub DifferInFlight : List Channel → List Channel → Type 0
DifferInFlight before after = map bare after ≡ map bare before

-- ---- what does so

pub queue_bare : (channels : List Channel) (place : ℕ) (direction : Direction) (channel : Channel) (frames : List Frame)
    → slice_get channels place ≡ Some channel
    → DifferInFlight channels (slice_set channels place (with_queue direction frames channel))
queue_bare channels place FromA channel frames here =
    map-set_same bare channels place channel (with_queue FromA frames channel) here refl
queue_bare channels place FromB channel frames here =
    map-set_same bare channels place channel (with_queue FromB frames channel) here refl

entered_bare : (place : ℕ) (direction : Direction) (channel : Channel) (now : ℕ) (octets : List ℕ)
    (answer : Option ℕ) (net : Net) → slice_get net.channels place ≡ Some channel
    → DifferInFlight net.channels (entered place direction channel now octets answer net).channels
entered_bare place direction channel now octets None net here = refl
entered_bare place direction channel now octets (Some delay) net here =
    queue_bare net.channels place direction channel _ here

pub sends_one_bare : (now : ℕ) (from : PortId) (octets : List ℕ) (draw : Draw) (net net' : Net)
    → SendsOne now from octets draw net net' → DifferInFlight net.channels net'.channels
sends_one_bare now from octets draw net net' one =
    subst (λ (n : Net). DifferInFlight net.channels n.channels) (sym one.after)
    (entered_bare one.place one.direction one.channel now octets draw.answer net one.here)

pub sends_bare : (now : ℕ) (s : SystemState) (xs : List Sending) (draws : List Draw) (net net' : Net)
    → SendsAll now s xs draws net net' → DifferInFlight net.channels net'.channels
sends_bare now s [] draws net net' sends = ap (λ (n : Net). map bare n.channels) sends.1
sends_bare now s (x ∷ xs) draws net net' (inl (draw, rest, between, is, one, sends)) =
    sends_bare now s xs rest between net' sends
    ∙ sends_one_bare now (own s x.port) (written s x) draw net between one
sends_bare now s (x ∷ xs) draws net net' (inr (unlinked, sends)) = sends_bare now s xs draws net net' sends

pub takes_bare : (place : ℕ) (direction : Direction) (now : ℕ) (octets : List ℕ) (channel : Channel) (net net' : Net)
    → TakesFrame place direction now octets channel net net' → DifferInFlight net.channels net'.channels
takes_bare place direction now octets channel net net' takes =
    subst (λ (n : Net). DifferInFlight net.channels n.channels) (sym takes.is)
    (queue_bare net.channels place direction channel takes.rest takes.here)

pub calls_bare : (place : ℕ) (input : Input) (w : WorldState) (draws : List Draw) (answer : Answer) (w' : WorldState)
    → (calls : Calls place input w draws answer w') → DifferInFlight w.net.channels calls.net.channels
calls_bare place input w draws answer w' calls =
    sends_bare w.time calls.after calls.sends draws (all_timers place (in_state calls.after calls.station) w.net)
    calls.net calls.sent

-- ---- what follows

-- what can't tell a link from the bare one is the same of all links afterwards
module _ {X : Type 0} (f : Channel → X) (blind : (channel : Channel) → f (bare channel) ≡ f channel) where
  map_bare : (channels : List Channel) → map f (map bare channels) ≡ map f channels
  map_bare [] = refl
  map_bare (first ∷ channels) =
      ap (λ x. x ∷ map f (map bare channels)) (blind first) ∙ ap (λ rest. f first ∷ rest) (map_bare channels)

  pub same_but_flight : (before after : List Channel) → DifferInFlight before after → map f after ≡ map f before
  same_but_flight before after alone = sym (map_bare after) ∙ ap (map f) alone ∙ map_bare before
