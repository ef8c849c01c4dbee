-- Links on which all fits, and calls, which leave a world encodable.
use Rattle.std.proofs.Common.{◌≡◌, ◌⊎◌, ℕ, Bool, List, [], ◌∷◌, ◌++◌, Option, Some, None, slice_get, slice_set, refl, sym, subst, inl, inr}
use Rattle.gptp_lists.specs.Members.{In}
use Rattle.gptp_lists.proofs.SystemSpecLemmas.{In-parts}
use Rattle.gptp_links.specs.declared.bounds.Bounds.{Bounds}
use Rattle.gptp_links.specs.declared.link.Direction.{Direction}
use Rattle.gptp_links.specs.declared.link.Direction.TheVariants.{FromA, FromB}
use Rattle.gptp_links.specs.Fate.{Draw}
use Rattle.gptp_links.specs.Queue.{Frame, due_after, frame}
use Rattle.gptp_system.specs.declared.answer.Answer.{Answer}
use Rattle.gptp_system.specs.declared.sending.Sending.{Sending}
use Rattle.gptp_system.specs.Input.{Input, IsTimely}
use Rattle.gptp_system.specs.State.{SystemState}
use Rattle.gptp_model.specs.declared.station.Station.{Station}
use Rattle.gptp_model.specs.Act.{Calls, TakesFrame, all_timers, in_state}
use Rattle.gptp_model.specs.Ahead.{IsSteady}
use Rattle.gptp_model.specs.Changing.{lost}
use Rattle.gptp_model.specs.Sends.{SendsAll, entered, written}
use Rattle.gptp_model.specs.Sound.{IsItsSetup}
use Rattle.gptp_model.specs.World.{Channel, Net, WorldState, world_queue, with_queue}
use Rattle.gptp_lists.proofs.PlaceLemmas.{get-set_all}
use Rattle.gptp_invariants.specs.WorldEncodable.{ChannelFits, IsEncodable, SayWhatFits, StationFits}
use Rattle.gptp_invariants.proofs.ChoiceSeenCallLemmas.{after_fits, call_sends_fit}
use Rattle.gptp_invariants.proofs.ChoiceTouchLemmas.{InputFits}

-- ---- links

abbrev pub LinksFit : List Channel → Type 0
LinksFit channels = (link : ℕ) (channel : Channel) → slice_get channels link ≡ Some channel → ChannelFits channel

-- one link becomes another
pub set_fits : (channels : List Channel) (place : ℕ) (old new : Channel) → slice_get channels place ≡ Some old
    → ChannelFits new → LinksFit channels → LinksFit (slice_set channels place new)
set_fits channels place old new here is fit = get-set_all ChannelFits channels place old new here is fit

-- all in a queue says what fits
abbrev FramesFit : List Frame → Type 0
FramesFit frames = (f : Frame) → In f frames → SayWhatFits f.octets

queue_fits : (direction : Direction) (frames : List Frame) (channel : Channel) → FramesFit frames → ChannelFits channel
    → ChannelFits (with_queue direction frames channel)
queue_fits FromA frames channel all fits = record { ends = fits.ends; frames = by }
  where
    by : (way : Direction) → FramesFit (world_queue way (with_queue FromA frames channel))
    by FromA = all
    by FromB = fits.frames FromB
queue_fits FromB frames channel all fits = record { ends = fits.ends; frames = by }
  where
    by : (way : Direction) → FramesFit (world_queue way (with_queue FromB frames channel))
    by FromA = fits.frames FromA
    by FromB = all

-- nothing is in flight any more
pub lost_fits : (channel : Channel) → ChannelFits channel → ChannelFits (lost channel)
lost_fits channel fits = record { ends = fits.ends; frames = by }
  where
    by : (direction : Direction) → FramesFit (world_queue direction (lost channel))
    by FromA f member = absurd member
    by FromB f member = absurd member

-- what is in flight stays
pub flight_fits : (bounds : Bounds) (up : Bool) (channel : Channel) → ChannelFits channel
    → ChannelFits (record channel { bounds = bounds; up = up })
flight_fits bounds up channel fits = record { ends = fits.ends; frames = by }
  where
    by : (direction : Direction) → FramesFit (world_queue direction (record channel { bounds = bounds; up = up }))
    by FromA = fits.frames FromA
    by FromB = fits.frames FromB

one_behind : (frames : List Frame) (g : Frame) → FramesFit frames → SayWhatFits g.octets → FramesFit (frames ++ g ∷ [])
one_behind frames g all says f member = by (In-parts f frames (g ∷ []) member)
  where
    by : In f frames ⊎ In f (g ∷ []) → SayWhatFits f.octets
    by (inl before) = all f before
    by (inr (inl same)) = subst (λ (x : Frame). SayWhatFits x.octets) (sym same) says
    by (inr (inr none)) = absurd none

pub entered_fits : (now place : ℕ) (direction : Direction) (channel : Channel) (octets : List ℕ) (answer : Option ℕ)
    (net : Net) → slice_get net.channels place ≡ Some channel → SayWhatFits octets → LinksFit net.channels
    → LinksFit (entered place direction channel now octets answer net).channels
entered_fits now place direction channel octets None net here says fit = fit
entered_fits now place direction channel octets (Some delay) net here says fit =
    let fs = world_queue direction channel in
    let g : Frame = frame (due_after fs now delay) octets in
    let old = fit place channel here in
    set_fits net.channels place channel (with_queue direction (fs ++ g ∷ []) channel) here
    (queue_fits direction (fs ++ g ∷ []) channel (one_behind fs g (old.frames direction) says) old) fit

sends_links_fit : (now : ℕ) (s : SystemState) (xs : List Sending) (draws : List Draw) (net net' : Net)
    → ((x : Sending) → In x xs → SayWhatFits (written s x)) → LinksFit net.channels
    → SendsAll now s xs draws net net' → LinksFit net'.channels
sends_links_fit now s [] draws net net' says fit (none, same) =
    subst (λ (n : Net). LinksFit n.channels) (sym same) fit
sends_links_fit now s (x ∷ xs) draws net net' says fit (inl (draw, rest, between, is, one, more)) =
    let first = entered_fits now one.place one.direction one.channel (written s x) draw.answer net one.here
    (says x (inl refl)) fit in
    sends_links_fit now s xs rest between net' (λ y member. says y (inr member))
    (subst (λ (n : Net). LinksFit n.channels) (sym one.after) first) more
sends_links_fit now s (x ∷ xs) draws net net' says fit (inr (none, more)) =
    sends_links_fit now s xs draws net net' (λ y member. says y (inr member)) fit more

pub takes_fits : (place : ℕ) (direction : Direction) (now : ℕ) (octets : List ℕ) (channel : Channel) (net net' : Net)
    → LinksFit net.channels → TakesFrame place direction now octets channel net net' → LinksFit net'.channels
takes_fits place direction now octets channel net net' fit k =
    let old = fit place channel k.here in
    subst (λ (n : Net). LinksFit n.channels) (sym k.is)
    (set_fits net.channels place channel (with_queue direction k.rest channel) k.here
    (queue_fits direction k.rest channel
    (λ f member. old.frames direction f (subst (In f) (sym k.front) (inr member))) old)
    fit)

-- ---- calls

module _ (place : ℕ) (input : Input) (w : WorldState) (draws : List Draw) (answer : Answer) (w' : WorldState)
    (k : Calls place input w draws answer w') (steady : IsSteady k.station.system) (its : IsItsSetup k.station)
    (timely : IsTimely k.station.system w.time input) (input-fits : InputFits input) (encodable : IsEncodable w) where
  abbrev called : Station
  called = in_state k.after k.station

  called_fits : StationFits called
  called_fits =
      let old = encodable.stations place k.station k.here in
      record {
        system = after_fits place input w draws answer w' k steady its timely old.system input-fits;
        setup = old.setup;
      }

  called_says : (x : Sending) → In x k.sends → SayWhatFits (written k.after x)
  called_says =
      call_sends_fit place input w draws answer w' k steady its timely
      (encodable.stations place k.station k.here).system input-fits

  pub calls_encodable : IsEncodable w'
  calls_encodable =
      subst IsEncodable (sym k.is)
      (record {
        stations = get-set_all StationFits w.stations place k.station called k.here called_fits encodable.stations;
        links = sends_links_fit w.time k.after k.sends draws (all_timers place called w.net) k.net called_says
            encodable.links k.sent;
      })
