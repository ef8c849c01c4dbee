-- Links on which each frame is due by a limit, which follows from their bounds; what is sent and delivered keeps it,
-- and so does every act.
use Rattle.std.proofs.Common.{◌≡◌, ◌⊎◌, ℕ, ◌+◌, ◌≤◌, true, List, [], ◌∷◌, ◌++◌, Option, Some, None, slice_get, slice_set, refl, sym, subst, inl, inr, arith}
use Rattle.std.specs.Prelude.{⊤}
use Rattle.gptp_lists.specs.Members.{In}
use Rattle.gptp_lists.proofs.SystemSpecLemmas.{In-parts}
use Rattle.gptp_vector.specs.declared.port.PortId.{PortId}
use Rattle.gptp_links.specs.declared.bounds.Bounds.{Bounds}
use Rattle.gptp_links.specs.declared.link.Direction.{Direction}
use Rattle.gptp_links.specs.declared.link.Direction.TheVariants.{FromA, FromB}
use Rattle.gptp_links.specs.Bounds.{IsLawful}
use Rattle.gptp_links.specs.Fate.{Draw}
use Rattle.gptp_links.specs.Queue.{Frame, due_after, frame, newest_due}
use Rattle.gptp_system.specs.declared.sending.Sending.{Sending}
use Rattle.gptp_system.specs.State.{SystemState, own}
use Rattle.gptp_scenario.specs.declared.change.Act.{Act}
use Rattle.gptp_scenario.specs.declared.change.Act.TheVariants.{Change as Changing}
use Rattle.gptp_scenario.specs.declared.change.Change.TheVariants.{LinkSet}
use Rattle.gptp_model.specs.Act.{TakesFrame}
use Rattle.gptp_model.specs.Acts.{set_to}
use Rattle.gptp_model.specs.Changing.{lost}
use Rattle.gptp_model.specs.Sends.{SendsAll, SendsOne, entered, written}
use Rattle.gptp_model.specs.World.{Channel, Net, WorldState, port_id, world_queue, with_queue}
use Rattle.gptp_lists.proofs.PlaceLemmas.{get-set_all}
use Rattle.gptp_model.proofs.ActsByLemmas.{Elementary}

-- ---- queues

-- each of these frames is due by a time
abbrev pub AreDueBy : ℕ → List Frame → Type 0
AreDueBy time frames = (f : Frame) → In f frames → f.due ≤ time

newest_by : (time : ℕ) (frames : List Frame) → AreDueBy time frames → newest_due frames ≤ time
newest_by time [] due = omega arith
newest_by time (f ∷ []) due = due f (inl refl)
newest_by time (f ∷ (g ∷ frames)) due = newest_by time (g ∷ frames) (λ x among. due x (inr among))

-- one more goes after them
pushed_by : (time : ℕ) (frames : List Frame) (g : Frame) → AreDueBy time frames → g.due ≤ time
    → AreDueBy time (frames ++ g ∷ [])
pushed_by time frames g due last f among = by (In-parts f frames (g ∷ []) among)
  where
    by : In f frames ⊎ In f (g ∷ []) → f.due ≤ time
    by (inl before) = due f before
    by (inr (inl same)) = subst (λ (x : Frame). x.due ≤ time) (sym same) last
    by (inr (inr none)) = absurd none

-- ---- links

-- A frame that is sent now is due within the limit of the link, and so are those in flight.
pub record IsLimited (limit : Bounds → ℕ) (now : ℕ) (channel : Channel) : Type 0 where
  pub room : now + channel.bounds.max ≤ limit channel.bounds
  pub from_a : AreDueBy (limit channel.bounds) channel.from_a
  pub from_b : AreDueBy (limit channel.bounds) channel.from_b

abbrev pub AreLimited : (Bounds → ℕ) → ℕ → List Channel → Type 0
AreLimited limit now channels =
    (link : ℕ) (channel : Channel) → slice_get channels link ≡ Some channel → IsLimited limit now channel

pub in_queue : (limit : Bounds → ℕ) (now : ℕ) (direction : Direction) (channel : Channel) → IsLimited limit now channel
    → AreDueBy (limit channel.bounds) (world_queue direction channel)
in_queue limit now FromA channel is = is.from_a
in_queue limit now FromB channel is = is.from_b

-- the frames in flight in one direction become others
requeued : (limit : Bounds → ℕ) (now : ℕ) (direction : Direction) (frames : List Frame) (channel : Channel)
    → AreDueBy (limit channel.bounds) frames → IsLimited limit now channel
    → IsLimited limit now (with_queue direction frames channel)
requeued limit now FromA frames channel due is = record { room = is.room; from_a = due; from_b = is.from_b }
requeued limit now FromB frames channel due is = record { room = is.room; from_a = is.from_a; from_b = due }

-- the links keep whatever limits they have
abbrev pub KeepLimits : ℕ → List Channel → List Channel → Type 0
KeepLimits now before after = (limit : Bounds → ℕ) → AreLimited limit now before → AreLimited limit now after

pub keep_all : (now : ℕ) (channels : List Channel) → KeepLimits now channels channels
keep_all now channels limit are = are

keep_on : (now : ℕ) (first second third : List Channel) → KeepLimits now first second → KeepLimits now second third
    → KeepLimits now first third
keep_on now first second third f g limit are = g limit (f limit are)

-- one link becomes another that keeps its limits
relinked_keep : (now : ℕ) (channels : List Channel) (place : ℕ) (old new : Channel)
    → slice_get channels place ≡ Some old
    → ((limit : Bounds → ℕ) → IsLimited limit now old → IsLimited limit now new)
    → KeepLimits now channels (slice_set channels place new)
relinked_keep now channels place old new here keeps limit are =
    get-set_all (IsLimited limit now) channels place old new here (keeps limit (are place old here)) are

-- nothing is in flight any more
pub lost_keep : (now : ℕ) (channels : List Channel) (place : ℕ) (channel : Channel)
    → slice_get channels place ≡ Some channel → KeepLimits now channels (slice_set channels place (lost channel))
lost_keep now channels place channel here =
    relinked_keep now channels place channel (lost channel) here
    (λ limit is. record { room = is.room; from_a = λ f among. absurd among; from_b = λ f among. absurd among })

-- what is in flight stays
pub up_keep : (now : ℕ) (channels : List Channel) (place : ℕ) (channel : Channel)
    → slice_get channels place ≡ Some channel
    → KeepLimits now channels (slice_set channels place (record channel { up = true }))
up_keep now channels place channel here =
    relinked_keep now channels place channel (record channel { up = true }) here
    (λ limit is. record { room = is.room; from_a = is.from_a; from_b = is.from_b })

-- ---- what is sent

-- a frame is due by its own delay, or with the frame before it
entered_keep : (place : ℕ) (direction : Direction) (channel : Channel) (now : ℕ) (octets : List ℕ) (answer : Option ℕ)
    (net : Net) → slice_get net.channels place ≡ Some channel → IsLawful channel.bounds answer
    → KeepLimits now net.channels (entered place direction channel now octets answer net).channels
entered_keep place direction channel now octets None net here lawful = keep_all now net.channels
entered_keep place direction channel now octets (Some delay) net here lawful =
    let before : List Frame = world_queue direction channel in
    let new : Frame = frame (due_after before now delay) octets in
    relinked_keep now net.channels place channel (with_queue direction (before ++ new ∷ []) channel) here
    (λ limit is.
    let room = is.room in
    let most = lawful.1 in
    let old = in_queue limit now direction channel is in
    let newest = newest_by (limit channel.bounds) before old in
    let last : due_after before now delay ≤ limit channel.bounds = omega arith in
    requeued limit now direction (before ++ new ∷ []) channel (pushed_by (limit channel.bounds) before new old last) is)

pub sends_one_keep : (now : ℕ) (from : PortId) (octets : List ℕ) (draw : Draw) (net net' : Net)
    → SendsOne now from octets draw net net' → KeepLimits now net.channels net'.channels
sends_one_keep now from octets draw net net' one =
    subst (λ (n : Net). KeepLimits now net.channels n.channels) (sym one.after)
    (entered_keep one.place one.direction one.channel now octets draw.answer net one.here
    (subst (λ b. IsLawful b draw.answer) one.bounds one.lawful))

pub sends_keep : (now : ℕ) (s : SystemState) (xs : List Sending) (draws : List Draw) (net net' : Net)
    → SendsAll now s xs draws net net' → KeepLimits now net.channels net'.channels
sends_keep now s [] draws net net' sends =
    subst (λ (n : Net). KeepLimits now net.channels n.channels) (sym sends.1) (keep_all now net.channels)
sends_keep now s (x ∷ xs) draws net net' (inl (draw, rest, between, is, one, sends)) =
    keep_on now net.channels between.channels net'.channels
    (sends_one_keep now (own s x.port) (written s x) draw net between one) (sends_keep now s xs rest between net' sends)
sends_keep now s (x ∷ xs) draws net net' (inr (unlinked, sends)) = sends_keep now s xs draws net net' sends

-- ---- what is delivered

-- the oldest frame leaves
pub takes_keep : (place : ℕ) (direction : Direction) (now : ℕ) (octets : List ℕ) (channel : Channel) (net net' : Net)
    → TakesFrame place direction now octets channel net net' → KeepLimits now net.channels net'.channels
takes_keep place direction now octets channel net net' takes =
    subst (λ (n : Net). KeepLimits now net.channels n.channels) (sym takes.is)
    (relinked_keep now net.channels place channel (with_queue direction takes.rest channel) takes.here
    (λ limit is.
    requeued limit now direction takes.rest channel
    (λ f among. in_queue limit now direction channel is f (subst (In f) (sym takes.front) (inr among))) is))

-- ---- acts

-- all links of a world keep a limit, which follows from the time too
abbrev pub WorldIsLimited : (ℕ → Bounds → ℕ) → WorldState → Type 0
WorldIsLimited limit w = AreLimited (limit w.time) w.time w.net.channels

-- every act keeps it that sets no link to other bounds than those that keep it
pub keeps_limit : (limit : ℕ → Bounds → ℕ) (Allows : Act → Type 0)
    → ((number port least greatest loss now : ℕ) (channel : Channel)
    → Allows (Changing (LinkSet number port least greatest loss)) → IsLimited (limit now) now channel
    → IsLimited (limit now) now (record channel { bounds = set_to least greatest loss channel }))
    → Elementary ⊥ Allows (λ octets. ⊤) (WorldIsLimited limit)
keeps_limit limit Allows set = record {
  system_called = λ place input w draws answer w' k given are.
      subst (WorldIsLimited limit) (sym k.is)
      (sends_keep w.time k.after k.sends draws _ k.net k.sent (limit w.time) are);
  frame_taken = λ link direction octets channel w net k are.
      (takes_keep link direction w.time octets channel w.net net k (limit w.time) are, tt);
  timer_stopped = λ place timer w are. are;
  link_down = λ place channel w here are. lost_keep w.time w.net.channels place channel here (limit w.time) are;
  link_up = λ place channel w here are. up_keep w.time w.net.channels place channel here (limit w.time) are;
  link_set = λ number port least greatest loss place channel w here allowed now are.
      get-set_all (IsLimited (limit w.time) w.time) w.net.channels place channel _ here
      (set number port least greatest loss w.time channel allowed (are place channel here)) are;
  system_failed = λ place station w here are. are;
  system_started = λ place station w here are. are;
  priority_set = λ number value place station w here allowed are. are;
  octets_injected = λ number port octets w draws w' allowed k are.
      subst (WorldIsLimited limit) (sym k.is)
      (sends_one_keep w.time (port_id number port) octets k.draw w.net k.net k.sent (limit w.time) are);
  change_counted = λ w are. are;
}
