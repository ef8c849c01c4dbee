-- A link of which the oldest frame of a lane is gone.
use Rattle.std.proofs.Common.{◌≡◌, ◌⊎◌, List, ◌∷◌, Some, slice_get, refl, sym, ap, subst, ◌∙◌, inl, inr}
use Rattle.gptp_lists.specs.Members.{In}
use Rattle.gptp_links.specs.declared.bounds.Bounds.{Bounds}
use Rattle.gptp_links.specs.declared.link.Direction.{Direction}
use Rattle.gptp_links.specs.declared.link.Direction.TheVariants.{FromA, FromB}
use Rattle.gptp_links.specs.Queue.{Frame}
use Rattle.gptp_model.specs.World.{Channel, Net, WorldState, world_queue, receiver, sender, with_queue}
use Rattle.gptp_model.proofs.StayLemmas.{sender_same}
use Rattle.gptp_invariants.specs.DelayLinkView.{IsLinkOf, LinkPlace, link_identity, other_direction, link_setting, IsGoodBetween}
use Rattle.gptp_invariants.proofs.DelayEndLemmas.{renamed}
use Rattle.gptp_invariants.proofs.DelayLinkLemmas.{receiver_same}

-- ---- a lane

-- a link of which only the frames in flight change
pub record SameLink (old new : Channel) : Type 0 where
  pub a : new.a ≡ old.a
  pub b : new.b ≡ old.b
  pub bounds : new.bounds ≡ old.bounds
  pub up : new.up ≡ old.up

pub same_link : (direction : Direction) (frames : List Frame) (channel : Channel)
    → SameLink channel (with_queue direction frames channel)
same_link FromA frames channel = record { a = refl; b = refl; bounds = refl; up = refl }
same_link FromB frames channel = record { a = refl; b = refl; bounds = refl; up = refl }

pub queue_set : (direction : Direction) (frames : List Frame) (channel : Channel)
    → world_queue direction (with_queue direction frames channel) ≡ frames
queue_set FromA frames channel = refl
queue_set FromB frames channel = refl

pub queue_left : (direction : Direction) (frames : List Frame) (channel : Channel)
    → world_queue (other_direction direction) (with_queue direction frames channel) ≡ world_queue
    (other_direction direction) channel
queue_left FromA frames channel = refl
queue_left FromB frames channel = refl

pub opposite_twice : (direction : Direction) → other_direction (other_direction direction) ≡ direction
opposite_twice FromA = refl
opposite_twice FromB = refl

-- a direction is this one or the other
pub which_way : (direction way : Direction) → (direction ≡ way) ⊎ (direction ≡ other_direction way)
which_way FromA FromA = inl refl
which_way FromA FromB = inr refl
which_way FromB FromA = inr refl
which_way FromB FromB = inl refl

pub receiver_opposite : (direction : Direction) (channel : Channel)
    → receiver (other_direction direction) channel ≡ sender direction channel
receiver_opposite FromA channel = refl
receiver_opposite FromB channel = refl

-- ---- the link

module _ (at : LinkPlace) (w : WorldState) (l : IsLinkOf at w) (direction : Direction) (front : Frame)
    (rest : List Frame) (was : world_queue direction l.channel ≡ front ∷ rest) (net : Net)
    (here : slice_get net.channels at.link ≡ Some (with_queue direction rest l.channel)) where
  abbrev pub popped : Channel
  popped = with_queue direction rest l.channel

  pub carried : SameLink l.channel popped
  carried = same_link direction rest l.channel

  pub popped_sender : sender at.direction popped ≡ sender at.direction l.channel
  popped_sender = sender_same at.direction l.channel popped carried.a carried.b

  pub popped_receiver : receiver at.direction popped ≡ receiver at.direction l.channel
  popped_receiver = receiver_same at.direction l.channel popped carried.a carried.b

  pub left_there : (way : Direction) (f : Frame) → In f (world_queue way popped) → In f (world_queue way l.channel)
  left_there way f member = by (which_way way direction)
    where
      by : (way ≡ direction) ⊎ (way ≡ other_direction direction) → In f (world_queue way l.channel)
      by (inl e) =
          let among : In f rest =
          subst (In f) (queue_set direction rest l.channel) (subst (λ d. In f (world_queue d popped)) e member) in
          let whole : In f (front ∷ rest) = inr among in
          subst (λ d. In f (world_queue d l.channel)) (sym e) (subst (In f) (sym was) whole)
      by (inr e) =
          subst (λ d. In f (world_queue d l.channel)) (sym e)
          (subst (In f) (queue_left direction rest l.channel) (subst (λ d. In f (world_queue d popped)) e member))

  pub most_same : popped.bounds.max ≡ l.channel.bounds.max
  most_same = ap (λ (b : Bounds). b.max) carried.bounds

  pub least_same : popped.bounds.min ≡ l.channel.bounds.min
  least_same = ap (λ (b : Bounds). b.min) carried.bounds

  abbrev pub popped_link : IsLinkOf at (record w { net = net })
  popped_link = record {
    channel = popped;
    here = here;
    up = carried.up ∙ l.up;
    lossless = ap (λ (b : Bounds). b.loss) carried.bounds ∙ l.lossless;
    asking = renamed at.asking (sender at.direction l.channel) (sender at.direction popped) w (sym popped_sender)
        l.asking;
    answering = renamed at.answering (receiver at.direction l.channel) (receiver at.direction popped) w
        (sym popped_receiver) l.answering;
    apart = l.apart;
    good = subst (λ most. IsGoodBetween most l.asking.station.setup.params l.answering.station.setup.params)
        (sym most_same) l.good;
    fit = λ way f member. l.fit way f (left_there way f member);
  }

  pub popped_settled : link_setting at (record w { net = net }) popped_link ≡ link_setting at w l
  popped_settled = λ i. record (link_setting at w l) {
    asking = link_identity (popped_sender i);
    answering = link_identity (popped_receiver i);
    most = most_same i;
  }
