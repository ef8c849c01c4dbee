-- Links with their frames in flight, as one of them changes.
use Rattle.std.proofs.Common.{◌≡◌, ◌≢◌, ℕ, zero, suc, ◌+◌, ◌*◌, ◌<◌, List, [], ◌∷◌, ◌++◌, drop, length, map, Option, Some, None, slice_get, slice_set, slice_index_or, refl, sym, ap, ap₂, ◌∙◌, arith}
use Rattle.std.specs.Prelude.{IfNone, IsSome}
use Rattle.std.proofs.lemmas.List.{get_or-set_same, get_or-set_other, length-set}
use Rattle.std.proofs.lemmas.Option.{none-some, same_Some, slice_get-get_or, slice_get_within}
use Rattle.gptp_links.specs.declared.link.Direction.{Direction}
use Rattle.gptp_links.specs.declared.link.Direction.TheVariants.{FromA, FromB}
use Rattle.gptp_links.specs.Bounds.{Fit}
use Rattle.gptp_links.specs.Queue.{Frame, due_after, frame, IsTaken}
use Rattle.gptp_lists.proofs.PlaceLemmas.{get-set_all, member_there}
use Rattle.gptp_model.specs.declared.item.Item.TheVariants.{Arrival}
use Rattle.gptp_model.specs.Act.{TakesFrame}
use Rattle.gptp_model.specs.Acts.{AtPlace, IsOldestDue}
use Rattle.gptp_model.specs.Pending.{arrival_place, put, without_first_entry, Entry}
use Rattle.gptp_model.specs.Sends.{entered}
use Rattle.gptp_model.specs.World.{Channel, Net, with_queue, world_queue}
use Rattle.gptp_traffic.specs.declared.joined_link.JoinedLink.{JoinedLink}
use Rattle.gptp_traffic.specs.Pending.{frames_at, PendingView}
use Rattle.gptp_traffic.specs.Traffic.{channel_at, channel_with, channels_from, idle_channel, join_of, net_of, IsTraffic}
use Rattle.gptp_traffic.proofs.PendingLemmas.{set-again}

-- ---- reading

pub queue-at : (frames : List (List Frame)) (place : ℕ) (direction : Direction) (link : JoinedLink)
    → world_queue direction (channel_at frames place link) ≡ frames_at place direction frames
queue-at frames place FromA link = refl
queue-at frames place FromB link = refl

pub many-channels : (frames : List (List Frame)) (first : ℕ) (links : List JoinedLink)
    → length (channels_from frames first links) ≡ length links
many-channels frames first [] = refl
many-channels frames first (link ∷ links) = ap suc (many-channels frames (first + 1) links)

-- the link at a place, and its channel
pub channel_there : (frames : List (List Frame)) (first : ℕ) (links : List JoinedLink) (i : ℕ) (link : JoinedLink)
    → slice_get links i ≡ Some link
    → slice_get (channels_from frames first links) i ≡ Some (channel_at frames (first + i) link)
channel_there frames first [] i link there = absurd (none-some link there)
channel_there frames first (x ∷ links) zero link there =
    ap₂ (λ n l. Some (channel_at frames n l)) (omega arith) (same_Some x link there)
channel_there frames first (x ∷ links) (suc i) link there =
    channel_there frames (first + 1) links i link there
    ∙ ap (λ n. Some (channel_at frames n link)) (omega arith)

-- the only one that a place can have
pub channel_is : (frames : List (List Frame)) (links : List JoinedLink) (i : ℕ) (link : JoinedLink) (channel : Channel)
    → slice_get links i ≡ Some link → slice_get (channels_from frames 0 links) i ≡ Some channel
    → channel ≡ channel_at frames i link
channel_is frames links i link channel there here =
    let place : 0 + i ≡ i = omega arith in
    same_Some channel (channel_at frames i link)
    (sym here ∙ channel_there frames 0 links i link there ∙ ap (λ n. Some (channel_at frames n link)) place)

-- the link that is lent at a place
pub lent_link : (frames : List (List Frame)) (links : List JoinedLink) (i : ℕ) (lent : JoinedLink)
    → i < length (channels_from frames 0 links) → lent ≡ slice_index_or links i lent → slice_get links i ≡ Some lent
lent_link frames links i lent within is =
    let many = many-channels frames 0 links in
    slice_get-get_or links i lent (omega (arith, many, within)) ∙ ap Some (sym is)

-- the link of a channel
pub link_of : (frames : List (List Frame)) (links : List JoinedLink) (i : ℕ) (channel : Channel)
    → slice_get (channels_from frames 0 links) i ≡ Some channel
    → (link : JoinedLink) × (slice_get links i ≡ Some link) × (channel ≡ channel_at frames i link)
link_of frames links i channel here =
    let many = many-channels frames 0 links in
    let within = slice_get_within (channels_from frames 0 links) i channel here in
    let found = member_there links i (omega (arith, many, within)) in
    (found.0, found.1, channel_is frames links i found.0 channel found.1 here)

-- what is in flight in a direction of it
pub queue-is : (frames : List (List Frame)) (links : List JoinedLink) (i : ℕ) (direction : Direction)
    (channel : Channel) → slice_get (channels_from frames 0 links) i ≡ Some channel
    → world_queue direction channel ≡ frames_at i direction frames
queue-is frames links i direction channel here =
    let found = link_of frames links i channel here in
    ap (world_queue direction) found.2 ∙ queue-at frames i direction found.0

-- both directions of a link are listed
pub lane_within : (i n : ℕ) (direction : Direction) (many : ℕ) → i < n → many ≡ n * 2
    → arrival_place i direction < many
lane_within i n FromA many within is = omega (arith, within, is)
lane_within i n FromB many within is = omega (arith, within, is)

-- ---- the frames of a lane become others

-- another lane than this one
apart_after : (i j : ℕ) (d e : Direction) → i < j → arrival_place j e ≢ arrival_place i d
apart_after i j FromA FromA less = λ same. omega (arith, less, same)
apart_after i j FromA FromB less = λ same. omega (arith, less, same)
apart_after i j FromB FromA less = λ same. omega (arith, less, same)
apart_after i j FromB FromB less = λ same. omega (arith, less, same)

module _ (frames : List (List Frame)) (place : ℕ) (direction : Direction) (fs : List Frame)
    (within : arrival_place place direction < length frames) where
  abbrev changed : List (List Frame)
  changed = slice_set frames (arrival_place place direction) fs

  elsewhere : (other : ℕ) (way : Direction) → arrival_place other way ≢ arrival_place place direction
      → frames_at other way changed ≡ frames_at other way frames
  elsewhere other way apart =
      get_or-set_other frames (arrival_place place direction) (arrival_place other way) fs [] apart

  -- links behind that one stay as they are
  channels-behind : (first : ℕ) (links : List JoinedLink) → place < first
      → channels_from changed first links ≡ channels_from frames first links
  channels-behind first [] behind = refl
  channels-behind first (link ∷ links) behind =
      ap₂ (λ (c : Channel) (cs : List Channel). c ∷ cs)
      (ap₂ (λ from_a from_b. channel_with from_a from_b link)
      (elsewhere first FromA (apart_after place first direction FromA behind))
      (elsewhere first FromB (apart_after place first direction FromB behind)))
      (channels-behind (first + 1) links (omega (arith, behind)))

channel-here : (frames : List (List Frame)) (place : ℕ) (direction : Direction) (fs : List Frame)
    (link : JoinedLink) → arrival_place place direction < length frames
    → channel_at (slice_set frames (arrival_place place direction) fs) place link
    ≡ with_queue direction fs (channel_at frames place link)
channel-here frames place FromA fs link within =
    ap₂ (λ from_a from_b. channel_with from_a from_b link)
    (get_or-set_same frames (arrival_place place FromA) fs [] within)
    (elsewhere frames place FromA fs within place FromB (λ same. omega (arith, same)))
channel-here frames place FromB fs link within =
    ap₂ (λ from_a from_b. channel_with from_a from_b link)
    (elsewhere frames place FromB fs within place FromA (λ same. omega (arith, same)))
    (get_or-set_same frames (arrival_place place FromB) fs [] within)

-- the frames of one lane are others now
channels-at : (frames : List (List Frame)) (first i n : ℕ) (direction : Direction) (fs : List Frame)
    (links : List JoinedLink) (link : JoinedLink) → n ≡ first + i → slice_get links i ≡ Some link
    → arrival_place n direction < length frames
    → channels_from (slice_set frames (arrival_place n direction) fs) first links
    ≡ slice_set (channels_from frames first links) i (with_queue direction fs (channel_at frames n link))
channels-at frames first i n direction fs [] link place there within = absurd (none-some link there)
channels-at frames first zero n direction fs (x ∷ links) link place there within =
    let same : first ≡ n = omega (arith, place) in
    ap₂ (λ (c : Channel) (cs : List Channel). c ∷ cs)
    (ap (λ k. channel_at (slice_set frames (arrival_place n direction) fs) k x) same
    ∙ channel-here frames n direction fs x within
    ∙ ap (λ l. with_queue direction fs (channel_at frames n l)) (same_Some x link there))
    (channels-behind frames n direction fs within (first + 1) links (omega (arith, same)))
channels-at frames first (suc i) n direction fs (x ∷ links) link place there within =
    let before : first < n = omega (arith, place) in
    ap₂ (λ (c : Channel) (cs : List Channel). c ∷ cs)
    (ap₂ (λ from_a from_b. channel_with from_a from_b x)
    (elsewhere frames n direction fs within first FromA (λ e. apart_after first n FromA direction before (sym e)))
    (elsewhere frames n direction fs within first FromB (λ e. apart_after first n FromB direction before (sym e))))
    (channels-at frames (first + 1) i n direction fs links link (omega (arith, place)) there within)

pub channels-changed : (frames : List (List Frame)) (i : ℕ) (direction : Direction) (fs : List Frame)
    (links : List JoinedLink) (link : JoinedLink) → slice_get links i ≡ Some link
    → arrival_place i direction < length frames
    → channels_from (slice_set frames (arrival_place i direction) fs) 0 links
    ≡ slice_set (channels_from frames 0 links) i (with_queue direction fs (channel_at frames i link))
channels-changed frames i direction fs links link there within =
    channels-at frames 0 i i direction fs links link (omega arith) there within

-- ---- a link becomes another

pub channels-replaced : (frames : List (List Frame)) (first i : ℕ) (links : List JoinedLink) (new : JoinedLink)
    → channels_from frames first (slice_set links i new)
    ≡ slice_set (channels_from frames first links) i (channel_at frames (first + i) new)
channels-replaced frames first i [] new = refl
channels-replaced frames first zero (link ∷ links) new =
    ap (λ n. channel_at frames n new ∷ channels_from frames (first + 1) links) (omega arith)
channels-replaced frames first (suc i) (link ∷ links) new =
    ap (λ cs. channel_at frames first link ∷ cs)
    (channels-replaced frames (first + 1) i links new
    ∙ ap (λ n. slice_set (channels_from frames (first + 1) links) i (channel_at frames n new)) (omega arith))

-- ---- nothing in flight

pub channels-idle : (frames : List (List Frame)) (first : ℕ) (links : List JoinedLink)
    → ((lane : ℕ) → slice_index_or frames lane [] ≡ []) → channels_from frames first links ≡ map idle_channel links
channels-idle frames first [] none = refl
channels-idle frames first (link ∷ links) none =
    ap₂ (λ (c : Channel) (cs : List Channel). c ∷ cs)
    (ap₂ (λ from_a from_b. channel_with from_a from_b link) (none (arrival_place first FromA))
    (none (arrival_place first FromB)))
    (channels-idle frames (first + 1) links none)

-- ---- what a call makes of links and what is pending

-- links join the same ports whatever is in flight
joins-of : (frames : List (List Frame)) (first : ℕ) (links : List JoinedLink)
    → map join_of (channels_from frames first links) ≡ map (λ (l : JoinedLink). l.join) links
joins-of frames first [] = refl
joins-of frames first (link ∷ links) =
    ap (λ js. link.join ∷ js) (joins-of frames (first + 1) links)

pub joins-stay : (frames after : List (List Frame)) (links changed : List JoinedLink)
    → map (λ (l : JoinedLink). l.join) changed ≡ map (λ (l : JoinedLink). l.join) links
    → map join_of (channels_from after 0 changed) ≡ map join_of (channels_from frames 0 links)
joins-stay frames after links changed same = joins-of after 0 changed ∙ same ∙ sym (joins-of frames 0 links)

abbrev net : List Channel → List Entry → Net
net channels entries = record { channels = channels; pending = entries }

-- one of the links became another, as has its channel
module _ (links : List JoinedLink) (pending : PendingView) (i : ℕ) (old new : JoinedLink)
    (there : slice_get links i ≡ Some old) where
  pub traffic-replaced : Fit new.bounds → IsTraffic links pending → IsTraffic (slice_set links i new) pending
  traffic-replaced fit is = record {
    links = length-set links i new ∙ is.links;
    fit = get-set_all (λ (l : JoinedLink). Fit l.bounds) links i old new there fit is.fit;
  }

  pub net-replaced : net_of (slice_set links i new) pending
      ≡ net (slice_set (channels_from pending.frames 0 links) i (channel_at pending.frames i new)) pending.entries
  net-replaced =
      let place : 0 + i ≡ i = omega arith in
      ap (λ channels. net channels pending.entries)
      (channels-replaced pending.frames 0 i links new
      ∙ ap (λ n. slice_set (channels_from pending.frames 0 links) i (channel_at pending.frames n new)) place)

  -- what was in flight on it is lost
  pub net-lost : (after : PendingView) (entries : List Entry) → length pending.frames ≡ pending.links * 2
      → i < pending.links → after.entries ≡ entries
      → after.frames
      ≡ slice_set (slice_set pending.frames (arrival_place i FromA) []) (arrival_place i FromB) []
      → net_of (slice_set links i new) after
      ≡ net (slice_set (channels_from pending.frames 0 links) i (channel_with [] [] new)) entries
  net-lost after entries many within same lost =
      let frames = pending.frames in
      let once : List (List Frame) = slice_set frames (arrival_place i FromA) [] in
      let twice : List (List Frame) = slice_set once (arrival_place i FromB) [] in
      let in_a = lane_within i pending.links FromA (length frames) within many in
      let in_b = lane_within i pending.links FromB (length once) within
      (length-set frames (arrival_place i FromA) [] ∙ many) in
      let b_of_a : frames_at i FromA twice ≡ [] =
      get_or-set_other once (arrival_place i FromB) (arrival_place i FromA) [] [] (λ e. omega (arith, e))
      ∙ get_or-set_same frames (arrival_place i FromA) [] [] in_a in
      let b_of_b : frames_at i FromB twice ≡ [] = get_or-set_same once (arrival_place i FromB) [] [] in_b in
      let channels = channels_from frames 0 links in
      let first = channels-changed frames i FromA [] links old there in_a in
      let second = channels-changed once i FromB [] links old there in_b in
      let place : 0 + i ≡ i = omega arith in
      ap₂ net
      (ap (λ f. channels_from f 0 (slice_set links i new)) lost
      ∙ channels-replaced twice 0 i links new
      ∙ ap (λ n. slice_set (channels_from twice 0 links) i (channel_at twice n new)) place
      ∙ ap₂ (λ cs c. slice_set cs i c)
      (second ∙ ap (λ cs. slice_set cs i (with_queue FromB [] (channel_at once i old))) first)
      (ap₂ (λ from_a from_b. channel_with from_a from_b new) b_of_a b_of_b)
      ∙ set-again (slice_set channels i (with_queue FromA [] (channel_at frames i old))) i
      (with_queue FromB [] (channel_at once i old)) (channel_with [] [] new)
      ∙ set-again channels i (with_queue FromA [] (channel_at frames i old)) (channel_with [] [] new))
      same

-- the frames of a lane became others, as did what is pending
module _ (links : List JoinedLink) (pending after : PendingView) (i : ℕ) (direction : Direction) (link : JoinedLink)
    (channel : Channel) (there : slice_get links i ≡ Some link)
    (here : slice_get (channels_from pending.frames 0 links) i ≡ Some channel)
    (within : arrival_place i direction < length pending.frames) where
  abbrev queue : List Frame
  queue = world_queue direction channel

  pub net-changed : (fs : List Frame) (entries : List Entry) → after.entries ≡ entries
      → after.frames ≡ slice_set pending.frames (arrival_place i direction) fs
      → net_of links after
      ≡ net (slice_set (channels_from pending.frames 0 links) i (with_queue direction fs channel)) entries
  net-changed fs entries same changed =
      ap₂ net
      (ap (λ f. channels_from f 0 links) changed
      ∙ channels-changed pending.frames i direction fs links link there within
      ∙ ap (λ c. slice_set (channels_from pending.frames 0 links) i (with_queue direction fs c))
      (sym (channel_is pending.frames links i link channel there here)))
      same

  -- a frame was sent with this delay
  pub net-sent : (now delay due : ℕ) (octets : List ℕ)
      → due ≡ due_after (frames_at i direction pending.frames) now delay
      → after.entries ≡ put due (Arrival i direction) pending.entries
      → after.frames
      ≡ slice_set pending.frames (arrival_place i direction)
      (frames_at i direction pending.frames ++ frame due octets ∷ [])
      → net_of links after ≡ entered i direction channel now octets (Some delay) (net_of links pending)
  net-sent now delay due octets is same changed =
      let frames_are = queue-is pending.frames links i direction channel here in
      let time : due ≡ due_after queue now delay = is ∙ ap (λ fs. due_after fs now delay) (sym frames_are) in
      net-changed (frames_at i direction pending.frames ++ frame due octets ∷ [])
      (put due (Arrival i direction) pending.entries) same changed
      ∙ ap₂ (λ fs t. net
      (slice_set (channels_from pending.frames 0 links) i (with_queue direction (fs ++ frame t octets ∷ []) channel))
      (put t (Arrival i direction) pending.entries)) (sym frames_are) time

  -- the oldest frame, which is due now, was taken
  pub net-taken : (now : ℕ) (octets : List ℕ) → IsOldestDue direction now channel
      → IsTaken (frames_at i direction pending.frames) octets (drop 1 (frames_at i direction pending.frames))
      → after.entries ≡ without_first_entry (Arrival i direction) pending.entries
      → after.frames
      ≡ slice_set pending.frames (arrival_place i direction) (drop 1 (frames_at i direction pending.frames))
      → TakesFrame i direction now octets channel (net_of links pending) (net_of links after)
  net-taken now octets oldest taken same changed =
      let rest : List Frame = drop 1 (frames_at i direction pending.frames) in
      let frames_are = queue-is pending.frames links i direction channel here in
      let first : frame taken.due octets ≡ oldest.oldest =
      heads (frame taken.due octets) oldest.oldest rest oldest.rest
      (sym taken.oldest ∙ sym frames_are ∙ oldest.front) in
      let time : taken.due ≡ now = ap (λ (f : Frame). f.due) first ∙ oldest.due in
      record {
        rest = rest;
        here = here;
        front = frames_are ∙ taken.oldest ∙ ap (λ t. frame t octets ∷ rest) time;
        is = net-changed rest (without_first_entry (Arrival i direction) pending.entries) same changed;
      }
    where
      heads : (f g : Frame) (fs gs : List Frame) → f ∷ fs ≡ g ∷ gs → f ≡ g
      heads f g fs gs same = cc

-- a frame is in flight that is the oldest of a lane
pub frame_there : {X : Type 0} (o : Option X) (links : List JoinedLink) (frames : List (List Frame)) (i : ℕ)
    (direction : Direction) (now : ℕ) (n : Net) → n.channels ≡ channels_from frames 0 links
    → AtPlace i n (IsOldestDue direction now) → IfNone o (frames_at i direction frames ≡ []) → IsSome o
frame_there (Some x) links frames i direction now n is at none = refl
frame_there None links frames i direction now n is at none =
    let here = ap (λ cs. slice_get cs i) (sym is) ∙ at.here in
    let front : at.so.oldest ∷ at.so.rest ≡ [] =
    sym at.so.front ∙ queue-is frames links i direction at.channel here ∙ none in
    absurd (grind (arith, front))
