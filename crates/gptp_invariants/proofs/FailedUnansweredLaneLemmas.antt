-- Nothing goes onto a lane whose sender is silent: what is in flight there only gets less.
use Rattle.std.proofs.Common.{◌≡◌, ◌≢◌, ◌⊎◌, ℕ, List, [], ◌∷◌, Option, Some, None, slice_get, slice_set, refl, sym, ap, subst, ◌∙◌, inl, inr}
use Rattle.gptp_lists.specs.Members.{In}
use Rattle.gptp_vector.specs.declared.port.PortId.{PortId}
use Rattle.gptp_links.specs.declared.link.Direction.{Direction}
use Rattle.gptp_links.specs.declared.link.Direction.TheVariants.{FromA, FromB}
use Rattle.gptp_links.specs.Fate.{Draw}
use Rattle.gptp_links.specs.Queue.{Frame, frame}
use Rattle.gptp_system.specs.declared.answer.Answer.{Answer}
use Rattle.gptp_system.specs.declared.sending.Sending.{Sending}
use Rattle.gptp_system.specs.Input.{Input}
use Rattle.gptp_system.specs.State.{SystemState, clock, own}
use Rattle.gptp_model.specs.Act.{Calls, TakesFrame, all_timers, in_state}
use Rattle.gptp_model.specs.Sends.{entered, written, SendsAll, SendsOne}
use Rattle.gptp_model.specs.World.{Channel, Net, WorldState, world_queue, sender, with_queue}
use Rattle.gptp_lists.proofs.MappedLemmas.{same_there}
use Rattle.gptp_lists.proofs.PlaceLemmas.{get-set_other, get-set_same, same_place}
use Rattle.gptp_model.proofs.SteadyLemmas.{same_clock}
use Rattle.gptp_model.proofs.StayLemmas.{sender_same}

-- a link stands as it did, and on this lane no frame was added
pub record Shrinks (lane : Direction) (old new : Channel) : Type 0 where
  pub a : new.a ≡ old.a
  pub b : new.b ≡ old.b
  pub bounds : new.bounds ≡ old.bounds
  pub up : new.up ≡ old.up
  pub fewer : (f : Frame) → In f (world_queue lane new) → In f (world_queue lane old)

-- so does the link at a place
pub record ShrinksAt (link : ℕ) (lane : Direction) (old : Channel) (channels : List Channel) : Type 0 where
  pub new : Channel
  pub here : slice_get channels link ≡ Some new
  pub shrinks : Shrinks lane old new

shrinks_same : (lane : Direction) (channel : Channel) → Shrinks lane channel channel
shrinks_same lane channel = record { a = refl; b = refl; bounds = refl; up = refl; fewer = λ f member. member }

shrinks_on : (lane : Direction) (x y z : Channel) → Shrinks lane x y → Shrinks lane y z → Shrinks lane x z
shrinks_on lane x y z first second = record {
  a = second.a ∙ first.a;
  b = second.b ∙ first.b;
  bounds = second.bounds ∙ first.bounds;
  up = second.up ∙ first.up;
  fewer = λ f member. first.fewer f (second.fewer f member);
}

-- the frames of one direction become others, which are no more where that is the lane
queue_shrinks : (lane way : Direction) (channel : Channel) (frames : List Frame)
    → (way ≡ lane → (f : Frame) → In f frames → In f (world_queue lane channel))
    → Shrinks lane channel (with_queue way frames channel)
queue_shrinks FromA FromA channel frames fewer =
    record { a = refl; b = refl; bounds = refl; up = refl; fewer = fewer refl }
queue_shrinks FromA FromB channel frames fewer =
    record { a = refl; b = refl; bounds = refl; up = refl; fewer = λ f member. member }
queue_shrinks FromB FromA channel frames fewer =
    record { a = refl; b = refl; bounds = refl; up = refl; fewer = λ f member. member }
queue_shrinks FromB FromB channel frames fewer =
    record { a = refl; b = refl; bounds = refl; up = refl; fewer = fewer refl }

module _ (link : ℕ) (lane : Direction) where
  -- so it is where the link at any place is set
  set_shrinks : (channels : List Channel) (place : ℕ) (way : Direction) (old channel : Channel) (frames : List Frame)
      → slice_get channels link ≡ Some old → slice_get channels place ≡ Some channel
      → (channel ≡ old → way ≡ lane → (f : Frame) → In f frames → In f (world_queue lane channel))
      → ShrinksAt link lane old (slice_set channels place (with_queue way frames channel))
  set_shrinks channels place way old channel frames stands here fewer = by (same_place link place)
    where
      new : Channel
      new = with_queue way frames channel

      by : (link ≡ place) ⊎ (link ≢ place) → ShrinksAt link lane old (slice_set channels place new)
      by (inl same) =
          let one : channel ≡ old =
          same_there channels place channel old here (ap (slice_get channels) (sym same) ∙ stands) in
          record {
            new = new;
            here = ap (slice_get (slice_set channels place new)) same ∙ get-set_same channels place channel new here;
            shrinks = subst (λ c. Shrinks lane c new) one (queue_shrinks lane way channel frames (fewer one));
          }
      by (inr apart) = record {
        new = old;
        here = get-set_other channels place link new apart ∙ stands;
        shrinks = shrinks_same lane old;
      }

  -- a port sends that isn't the sender of the lane
  sends_one_shrink : (now : ℕ) (from : PortId) (octets : List ℕ) (draw : Draw) (net net' : Net) (old : Channel)
      → slice_get net.channels link ≡ Some old → sender lane old ≢ from → SendsOne now from octets draw net net'
      → ShrinksAt link lane old net'.channels
  sends_one_shrink now from octets draw net net' old stands other one =
      subst (λ (n : Net). ShrinksAt link lane old n.channels) (sym one.after) (by draw.answer)
    where
      by : (answer : Option ℕ)
          → ShrinksAt link lane old (entered one.place one.direction one.channel now octets answer net).channels
      by None = record { new = old; here = stands; shrinks = shrinks_same lane old }
      by (Some delay) =
          set_shrinks net.channels one.place one.direction old one.channel _ stands one.here
          (λ is way. absurd (other
          (ap (sender lane) (sym is) ∙ ap (λ d. sender d one.channel) (sym way) ∙ one.begins)))

  -- a system of another clock sends
  sends_shrink : (now : ℕ) (s : SystemState) (xs : List Sending) (draws : List Draw) (net net' : Net) (old : Channel)
      → slice_get net.channels link ≡ Some old → (sender lane old).clock ≢ clock s → SendsAll now s xs draws net net'
      → ShrinksAt link lane old net'.channels
  sends_shrink now s [] draws net net' old stands other (none, same) =
      subst (λ (n : Net). ShrinksAt link lane old n.channels) (sym same)
      (record { new = old; here = stands; shrinks = shrinks_same lane old })
  sends_shrink now s (x ∷ xs) draws net net' old stands other (inl (draw, rest, between, is, one, more)) =
      let first = sends_one_shrink now (own s x.port) (written s x) draw net between old stands
      (λ e. other (ap (λ (p : PortId). p.clock) e)) one in
      let same = sender_same lane old first.new first.shrinks.a first.shrinks.b in
      let then = sends_shrink now s xs rest between net' first.new first.here
      (λ e. other (ap (λ (p : PortId). p.clock) (sym same) ∙ e)) more in
      record {
        new = then.new;
        here = then.here;
        shrinks = shrinks_on lane old first.new then.new first.shrinks then.shrinks;
      }
  sends_shrink now s (x ∷ xs) draws net net' old stands other (inr (unlinked, more)) =
      sends_shrink now s xs draws net net' old stands other more

  pub calls_shrink : (place : ℕ) (input : Input) (w : WorldState) (draws : List Draw) (answer : Answer)
      (w' : WorldState) (k : Calls place input w draws answer w') (old : Channel)
      → slice_get w.net.channels link ≡ Some old → (sender lane old).clock ≢ clock k.station.system
      → ShrinksAt link lane old w'.net.channels
  calls_shrink place input w draws answer w' k old stands other =
      subst (λ (v : WorldState). ShrinksAt link lane old v.net.channels) (sym k.is)
      (sends_shrink w.time k.after k.sends draws (all_timers place (in_state k.after k.station) w.net) k.net old stands
      (λ e. other (e ∙ same_clock input w.time k.station.system k.after k.sends answer k.steps)) k.sent)

  -- a frame leaves any lane
  pub takes_shrink : (place : ℕ) (direction : Direction) (now : ℕ) (octets : List ℕ) (channel : Channel)
      (net net' : Net) (old : Channel)
      → slice_get net.channels link ≡ Some old → TakesFrame place direction now octets channel net net'
      → ShrinksAt link lane old net'.channels
  takes_shrink place direction now octets channel net net' old stands takes =
      subst (λ (n : Net). ShrinksAt link lane old n.channels) (sym takes.is)
      (set_shrinks net.channels place direction old channel takes.rest stands takes.here
      (λ is way f member.
      let whole : In f (frame now octets ∷ takes.rest) = inr member in
      subst (λ d. In f (world_queue d channel)) way (subst (In f) (sym takes.front) whole)))
