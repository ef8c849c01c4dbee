-- What a system sends goes onto its links with some draws of a fate, and leaves frames in flight.
use Rattle.std.proofs.Common.{◌≡◌, ◌≢◌, ◌⊎◌, ℕ, zero, suc, Bool, true, false, List, [], ◌∷◌, ◌++◌, Option, Some, None, slice_get, refl, sym, ap, subst, ◌∙◌, inl, inr}
use Rattle.std.specs.List.{AllByRecursion}
use Rattle.std.proofs.lemmas.Option.{none-some, same_Some}
use Rattle.gptp_lists.specs.Members.{In}
use Rattle.gptp_lists.proofs.PlaceLemmas.{get-set_all, same_place}
use Rattle.gptp_vector.specs.declared.port.PortId.{PortId}
use Rattle.gptp_links.specs.declared.bounds.Bounds.{Bounds}
use Rattle.gptp_links.specs.declared.link.Direction.{Direction}
use Rattle.gptp_links.specs.declared.link.Direction.TheVariants.{FromA, FromB}
use Rattle.gptp_links.specs.Fate.{Draw, Draws}
use Rattle.gptp_links.specs.Queue.{due_after, frame, Frame}
use Rattle.gptp_links.proofs.FlightLemmas.{all-push}
use Rattle.gptp_system.specs.declared.sending.Sending.{Sending}
use Rattle.gptp_system.specs.State.{own, SystemState}
use Rattle.gptp_model.specs.Ahead.{AreFit}
use Rattle.gptp_model.specs.Sends.{entered, written, SendsAll, SendsOne}
use Rattle.gptp_model.specs.World.{port_id, world_queue, sender, with_queue, Channel, Net}
use Rattle.gptp_model.proofs.AheadLemmas.{sent_later}
use Rattle.gptp_determinism.specs.GoingOn.{AnswersAll, AreOfFrame, IsOfOctets}

-- ---- the link at a port

-- two ports are the same, or aren't
same_port : (a b : PortId) → (a ≡ b) ⊎ (a ≢ b)
same_port a b = by (same_place a.clock b.clock) (same_place a.port b.port)
  where
    by : (a.clock ≡ b.clock) ⊎ (a.clock ≢ b.clock) → (a.port ≡ b.port) ⊎ (a.port ≢ b.port) → (a ≡ b) ⊎ (a ≢ b)
    by (inl clocks) (inl ports) =
        inl (ap (λ (c : ℕ). port_id c a.port) clocks ∙ ap (λ (p : ℕ). port_id b.clock p) ports)
    by (inl clocks) (inr apart) = inr (λ e. apart (ap (λ (p : PortId). p.port) e))
    by (inr apart) other = inr (λ e. apart (ap (λ (p : PortId). p.clock) e))

-- a link begins at a port in one direction, or in neither
abbrev BeginsOrNot : PortId → Channel → Type 0
BeginsOrNot from channel =
    ((direction : Direction) × (sender direction channel ≡ from))
    ⊎ ((direction : Direction) → sender direction channel ≢ from)

begins_or_not : (from : PortId) (channel : Channel) → BeginsOrNot from channel
begins_or_not from channel = by (same_port channel.a from) (same_port channel.b from)
  where
    neither : channel.a ≢ from → channel.b ≢ from → (direction : Direction) → sender direction channel ≢ from
    neither a b FromA = a
    neither a b FromB = b

    by : (channel.a ≡ from) ⊎ (channel.a ≢ from) → (channel.b ≡ from) ⊎ (channel.b ≢ from) → BeginsOrNot from channel
    by (inl a) other = inl (FromA, a)
    by (inr a) (inl b) = inl (FromB, b)
    by (inr a) (inr b) = inr (neither a b)

-- a link that is up begins at a port
pub record IsUpAt (channels : List Channel) (from : PortId) : Type 0 where
  pub place : ℕ
  pub direction : Direction
  pub channel : Channel
  pub here : slice_get channels place ≡ Some channel
  pub begins : sender direction channel ≡ from
  pub up : channel.up ≡ true

-- none does
abbrev NoneIsUpAt : List Channel → PortId → Type 0
NoneIsUpAt channels from = (place : ℕ) (direction : Direction) (channel : Channel)
    → slice_get channels place ≡ Some channel → sender direction channel ≡ from → channel.up ≡ false

-- with one more link in front, one of the two is so still
beside : (c : Channel) (cs : List Channel) (from : PortId) → IsUpAt cs from ⊎ NoneIsUpAt cs from
    → IsUpAt (c ∷ cs) from ⊎ NoneIsUpAt (c ∷ cs) from
beside c cs from (inl at) = inl (record {
  place = suc at.place;
  direction = at.direction;
  channel = at.channel;
  here = at.here;
  begins = at.begins;
  up = at.up;
})
beside c cs from (inr none) = by c.up refl (begins_or_not from c)
  where
    none_more : ((direction : Direction) → sender direction c ≡ from → c.up ≡ false) → NoneIsUpAt (c ∷ cs) from
    none_more first zero direction channel here begins =
        let same : c ≡ channel = same_Some c channel here in
        subst (λ (x : Channel). x.up ≡ false) same (first direction (ap (sender direction) same ∙ begins))
    none_more first (suc place) direction channel here begins = none place direction channel here begins

    by : (up : Bool) → c.up ≡ up → BeginsOrNot from c → IsUpAt (c ∷ cs) from ⊎ NoneIsUpAt (c ∷ cs) from
    by false down ends = inr (none_more (λ direction begins. down))
    by true up (inl (direction, begins)) =
        inl (record { place = 0; direction = direction; channel = c; here = refl; begins = begins; up = up })
    by true up (inr apart) = inr (none_more (λ direction begins. absurd (apart direction begins)))

-- one of the two is so
up_or_none : (channels : List Channel) (from : PortId) → IsUpAt channels from ⊎ NoneIsUpAt channels from
up_or_none [] from = inr (λ place direction channel here begins. absurd (none-some channel here))
up_or_none (c ∷ cs) from = beside c cs from (up_or_none cs from)

-- ---- sends

module _ {F : Type 0} (answers : Bounds → ℕ → F → Option ℕ → F → Type 0) where
  -- a frame is sent from a port, with a draw
  pub record OneIsSent (now : ℕ) (from : PortId) (octets : List ℕ) (net : Net) (fate : F) : Type 0 where
    pub draw : Draw
    pub fate_after : F
    pub after : Net
    pub drawn : answers draw.bounds draw.sent fate draw.answer fate_after
    pub sent : SendsOne now from octets draw net after

  -- where a link is up at the port, it is
  pub one_is_sent : (now : ℕ) (from : PortId) (octets : List ℕ) (net : Net) (fate : F) → AnswersAll answers
      → AreFit net.channels → IsUpAt net.channels from → OneIsSent now from octets net fate
  one_is_sent now from octets net fate all fit at =
      let (answer, after, drawn, lawful) = all at.channel.bounds now fate (fit at.place at.channel at.here) in
      record {
        draw = record { bounds = at.channel.bounds; sent = now; answer = answer };
        fate_after = after;
        after = entered at.place at.direction at.channel now octets answer net;
        drawn = drawn;
        sent = record {
          place = at.place;
          direction = at.direction;
          channel = at.channel;
          here = at.here;
          begins = at.begins;
          up = at.up;
          bounds = refl;
          sent = refl;
          lawful = lawful;
          after = refl;
        };
      }

  -- all that a system sends is sent, with some draws
  pub record AllIsSent (now : ℕ) (s : SystemState) (xs : List Sending) (net : Net) (fate : F) : Type 0 where
    pub draws : List Draw
    pub fate_after : F
    pub after : Net
    pub drawn : Draws answers fate draws fate_after
    pub sent : SendsAll now s xs draws net after

  -- the first of it where a link is up, and the rest
  first_is_sent : (now : ℕ) (s : SystemState) (x : Sending) (xs : List Sending) (net : Net) (fate : F)
      → AnswersAll answers → AreFit net.channels
      → ((between : Net) (drawn : F) → AreFit between.channels → AllIsSent now s xs between drawn)
      → IsUpAt net.channels (own s x.port) ⊎ NoneIsUpAt net.channels (own s x.port)
      → AllIsSent now s (x ∷ xs) net fate
  first_is_sent now s x xs net fate all fit more (inl at) =
      let one = one_is_sent now (own s x.port) (written s x) net fate all fit at in
      let later = sent_later now (own s x.port) (written s x) one.draw net one.after fit one.sent in
      let rest = more one.after one.fate_after later.links in
      record {
        draws = one.draw ∷ rest.draws;
        fate_after = rest.fate_after;
        after = rest.after;
        drawn = (one.fate_after, one.drawn, rest.drawn);
        sent = inl (one.draw, rest.draws, one.after, refl, one.sent, rest.sent);
      }
  first_is_sent now s x xs net fate all fit more (inr none) =
      let rest = more net fate fit in
      record {
        draws = rest.draws;
        fate_after = rest.fate_after;
        after = rest.after;
        drawn = rest.drawn;
        sent = inr (none, rest.sent);
      }

  -- it is
  pub all_is_sent : (now : ℕ) (s : SystemState) (xs : List Sending) (net : Net) (fate : F) → AnswersAll answers
      → AreFit net.channels → AllIsSent now s xs net fate
  all_is_sent now s [] net fate all fit =
      record { draws = []; fate_after = fate; after = net; drawn = refl; sent = (refl, refl) }
  all_is_sent now s (x ∷ xs) net fate all fit =
      first_is_sent now s x xs net fate all fit (λ between drawn fits. all_is_sent now s xs between drawn all fits)
      (up_or_none net.channels (own s x.port))

-- ---- what is in flight

-- frames are in flight on a link, in both directions
abbrev pub HasFrames : Channel → Type 0
HasFrames channel = (direction : Direction) → AllByRecursion IsOfOctets (world_queue direction channel)

-- all that is in flight is of octets, on every link
abbrev pub HaveFrames : List Channel → Type 0
HaveFrames channels = (link : ℕ) (channel : Channel) → slice_get channels link ≡ Some channel → HasFrames channel

-- what is in flight in one direction becomes other frames
pub queue_frames : (direction : Direction) (frames : List Frame) (channel : Channel) → AllByRecursion IsOfOctets frames
    → HasFrames channel → HasFrames (with_queue direction frames channel)
queue_frames FromA frames channel new old FromA = new
queue_frames FromA frames channel new old FromB = old FromB
queue_frames FromB frames channel new old FromA = old FromA
queue_frames FromB frames channel new old FromB = new

-- a frame is sent
entered_frames : (place : ℕ) (direction : Direction) (channel : Channel) (now : ℕ) (octets : List ℕ)
    (answer : Option ℕ) (net : Net) → slice_get net.channels place ≡ Some channel → AreOfFrame octets
    → HaveFrames net.channels → HaveFrames (entered place direction channel now octets answer net).channels
entered_frames place direction channel now octets None net here are have = have
entered_frames place direction channel now octets (Some delay) net here are have =
    let old : List Frame = world_queue direction channel in
    let new : Frame = frame (due_after old now delay) octets in
    get-set_all HasFrames net.channels place channel (with_queue direction (old ++ new ∷ []) channel) here
    (queue_frames direction (old ++ new ∷ []) channel
    (all-push IsOfOctets old new (have place channel here direction) are) (have place channel here)) have

pub sends_one_frames : (now : ℕ) (from : PortId) (octets : List ℕ) (draw : Draw) (net net' : Net) → AreOfFrame octets
    → HaveFrames net.channels → SendsOne now from octets draw net net' → HaveFrames net'.channels
sends_one_frames now from octets draw net net' are have one =
    subst (λ (n : Net). HaveFrames n.channels) (sym one.after)
    (entered_frames one.place one.direction one.channel now octets draw.answer net one.here are have)

-- so it stays as frames are sent
pub sends_frames : (now : ℕ) (s : SystemState) (xs : List Sending) (draws : List Draw) (net net' : Net)
    → ((x : Sending) → In x xs → AreOfFrame (written s x)) → HaveFrames net.channels
    → SendsAll now s xs draws net net' → HaveFrames net'.channels
sends_frames now s [] draws net net' are have (none, same) =
    subst (λ (n : Net). HaveFrames n.channels) (sym same) have
sends_frames now s (x ∷ xs) draws net net' are have (inl (draw, rest, between, is, one, more)) =
    sends_frames now s xs rest between net' (λ y member. are y (inr member))
    (sends_one_frames now (own s x.port) (written s x) draw net between (are x (inl refl)) have one) more
sends_frames now s (x ∷ xs) draws net net' are have (inr (none, more)) =
    sends_frames now s xs draws net net' (λ y member. are y (inr member)) have more
