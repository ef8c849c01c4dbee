-- What a system sends onto its links, as the lanes of the world take it up.
use Rattle.std.proofs.Common.{◌≡◌, ◌≢◌, ◌⊎◌, ℕ, false, List, [], ◌∷◌, ◌++◌, map, Option, Some, None, slice_get, refl, sym, ap, subst, ◌∙◌, inl, inr}
use Rattle.gptp_graph.specs.Snapshot.{port_of}
use Rattle.gptp_vector.specs.declared.port.PortId.{PortId}
use Rattle.gptp_links.specs.declared.bounds.Bounds.{Bounds}
use Rattle.gptp_links.specs.declared.link.Direction.{Direction}
use Rattle.gptp_links.specs.declared.link.Direction.TheVariants.{FromA, FromB}
use Rattle.gptp_links.specs.Bounds.{IsLawful}
use Rattle.gptp_links.specs.Fate.{Draw}
use Rattle.gptp_links.specs.Queue.{Frame, due_after, frame}
use Rattle.gptp_system.specs.declared.sending.Sending.{Sending}
use Rattle.gptp_system.specs.State.{SystemState, clock, own}
use Rattle.gptp_model.specs.Sends.{entered, written, IsUnlinkedPort, SendsAll, SendsOne}
use Rattle.gptp_model.specs.Sound.{AreApart, IsSound}
use Rattle.gptp_model.specs.World.{Channel, Net, WorldState, world_queue, sender}
use Rattle.gptp_lists.proofs.MappedLemmas.{same_there}
use Rattle.gptp_bmca_machine.specs.Frame.{AnnounceFrame as SeenFrame, Lane}
use Rattle.gptp_invariants.specs.WorldEncodable.{IsEncodable}
use Rattle.gptp_invariants.specs.ChoiceView.{frame_view, port_identity_number, lane_place, lane_view, lanes_view, send_view}
use Rattle.gptp_invariants.proofs.ChoiceSeenLaneLemmas.{IsLaneAt, IsSetAt, lane_from, lane_there, refilled, requeued_lanes}
use Rattle.gptp_invariants.proofs.ChoiceTakeUpLemmas.{BeginApart, Enters, LanesStep, enters_step, lanes_go_on, lanes_stay, stays_apart, unlinked_step}

-- ---- ports

-- a port is what its identity says
pub same_identity : (p q : PortId) → port_identity_number p ≡ port_identity_number q → p ≡ q
same_identity p q e = λ i. record { clock = (e i).clock; port = (e i).port }

-- a port has one link at most, and a link two ports: so no two lanes begin at one port
pub lanes_apart : (w : WorldState) → AreApart w
    → ((link : ℕ) (channel : Channel) → slice_get w.net.channels link ≡ Some channel → channel.a ≢ channel.b)
    → BeginApart (lanes_view w.net.channels)
lanes_apart w apart ends i j l m at also same =
    go (lane_from w.net.channels i l at) (lane_from w.net.channels j m also)
  where
    go : IsLaneAt w.net.channels i l → IsLaneAt w.net.channels j m → i ≡ j
    go x y = x.at ∙ by x.direction y.direction x.channel y.channel x.link y.link x.here y.here begins ∙ sym y.at
      where
        begins : sender x.direction x.channel ≡ sender y.direction y.channel
        begins =
            same_identity (sender x.direction x.channel) (sender y.direction y.channel)
            (ap (λ (z : Lane). z.from) (sym x.is) ∙ same ∙ ap (λ (z : Lane). z.from) y.is)

        one : (d e : Direction) (a b : Channel) (k n : ℕ) → slice_get w.net.channels k ≡ Some a
            → slice_get w.net.channels n ≡ Some b → sender d a ≡ sender e b → (k ≡ n) × (a ≡ b)
        one d e a b k n here there begins =
            let link = apart k n d e a b here there begins in
            (link, same_there w.net.channels k a b here (ap (slice_get w.net.channels) link ∙ there))

        by : (d e : Direction) (a b : Channel) (k n : ℕ) → slice_get w.net.channels k ≡ Some a
            → slice_get w.net.channels n ≡ Some b → sender d a ≡ sender e b → lane_place k d ≡ lane_place n e
        by FromA FromA a b k n here there begins =
            ap (λ x. lane_place x FromA) (one FromA FromA a b k n here there begins).0
        by FromB FromB a b k n here there begins =
            ap (λ x. lane_place x FromB) (one FromB FromB a b k n here there begins).0
        by FromA FromB a b k n here there begins =
            let same = (one FromA FromB a b k n here there begins).1 in
            absurd (ends k a here (begins ∙ ap (λ (c : Channel). c.b) (sym same)))
        by FromB FromA a b k n here there begins =
            let same = (one FromB FromA a b k n here there begins).1 in
            absurd (ends k a here (ap (λ (c : Channel). c.a) same ∙ sym begins))

pub world_apart : (w : WorldState) → IsSound w → IsEncodable w → BeginApart (lanes_view w.net.channels)
world_apart w sound encodable =
    lanes_apart w sound.wired.apart (λ link channel here. (encodable.links link channel here).ends)

-- ---- one send

map-append : {X Y : Type 0} (f : X → Y) (xs ys : List X) → map f (xs ++ ys) ≡ map f xs ++ map f ys
map-append f [] ys = refl
map-append f (x ∷ xs) ys = ap (λ zs. f x ∷ zs) (map-append f xs ys)

-- a lane with a frame after the others
abbrev longer : Lane → SeenFrame → Lane
longer lane f = record lane { frames = lane.frames ++ f ∷ [] }

behind_lane : (direction : Direction) (channel : Channel) (f : Frame)
    → refilled direction channel (world_queue direction channel ++ f ∷ [])
    ≡ longer (lane_view direction channel) (frame_view f)
behind_lane direction channel f =
    ap (λ fs. record (lane_view direction channel) { frames = fs })
    (map-append frame_view (world_queue direction channel) (f ∷ []))

module _ (now : ℕ) (s : SystemState) (x : Sending) (draw : Draw) (net net' : Net)
    (one : SendsOne now (own s x.port) (written s x) draw net net') where
  abbrev lane : Lane
  lane = lane_view one.direction one.channel

  abbrev at : ℕ
  at = lane_place one.place one.direction

  abbrev fated : Option ℕ → Net
  fated answer = entered one.place one.direction one.channel now (written s x) answer net

  lossy : draw.answer ≡ None → one.channel.bounds.loss ≢ 0
  lossy none = subst (λ (b : Bounds). b.loss ≢ 0) one.bounds (subst (IsLawful draw.bounds) none one.lawful)

  after_is : (answer : Option ℕ) → draw.answer ≡ answer → net'.channels ≡ (fated answer).channels
  after_is answer is = ap (λ (n : Net). n.channels) (one.after ∙ ap fated is)

  entered_by : (answer : Option ℕ) → draw.answer ≡ answer
      → ((lane.loss ≢ 0) × (lanes_view net'.channels ≡ lanes_view net.channels))
      ⊎ ((f : SeenFrame) × (f.octets ≡ written s x)
      × IsSetAt at (longer lane f) (lanes_view net.channels) (lanes_view net'.channels))
  entered_by None is = inl (lossy is, ap lanes_view (after_is None is))
  entered_by (Some delay) is =
      let fs = world_queue one.direction one.channel in
      let f : Frame = frame (due_after fs now delay) (written s x) in
      let set = requeued_lanes net.channels one.place one.direction (fs ++ f ∷ []) one.channel one.here in
      inr (
        frame_view f,
        refl,
        subst (λ cs. IsSetAt at (longer lane (frame_view f)) (lanes_view net.channels) (lanes_view cs))
            (sym (after_is (Some delay) is))
            (subst (λ l. IsSetAt at l (lanes_view net.channels) (lanes_view (fated (Some delay)).channels))
            (behind_lane one.direction one.channel f) set),
      )

  pub sends_enter : Enters (clock s) (send_view s x) (lanes_view net.channels) (lanes_view net'.channels)
  sends_enter = record {
    place = at;
    lane = lane;
    here = lane_there net.channels one.place one.direction one.channel one.here;
    begins = ap port_identity_number one.begins;
    enters = entered_by draw.answer refl;
  }

-- ---- all sends

unlinked_lanes : (s : SystemState) (x : Sending) (net : Net) → IsUnlinkedPort net (own s x.port) → (j : ℕ) (l : Lane)
    → slice_get (lanes_view net.channels) j ≡ Some l → l.from ≡ port_of (clock s) x.port → l.is_up ≡ false
unlinked_lanes s x net none j l there begins = go (lane_from net.channels j l there)
  where
    go : IsLaneAt net.channels j l → l.is_up ≡ false
    go k =
        let from : sender k.direction k.channel ≡ own s x.port =
        same_identity (sender k.direction k.channel) (own s x.port)
        (ap (λ (z : Lane). z.from) (sym k.is) ∙ begins) in
        ap (λ (z : Lane). z.is_up) k.is ∙ none k.link k.direction k.channel k.here from

pub sends_step : (now : ℕ) (s : SystemState) (xs : List Sending) (draws : List Draw) (net net' : Net)
    → BeginApart (lanes_view net.channels) → SendsAll now s xs draws net net'
    → LanesStep (clock s) (map (send_view s) xs) (lanes_view net.channels) (lanes_view net'.channels)
sends_step now s [] draws net net' apart (none, same) =
    subst (λ (n : Net). LanesStep (clock s) [] (lanes_view net.channels) (lanes_view n.channels)) (sym same)
    (lanes_stay (clock s) (lanes_view net.channels))
sends_step now s (x ∷ xs) draws net net' apart (inl (draw, rest, between, is, one, more)) =
    let c = clock s in
    let first = lanes_view net.channels in
    let second = lanes_view between.channels in
    let step = enters_step c (send_view s x) first second apart (sends_enter now s x draw net between one) in
    lanes_go_on c (send_view s x ∷ []) (map (send_view s) xs) first second (lanes_view net'.channels) step
    (sends_step now s xs rest between net' (stays_apart c (send_view s x ∷ []) first second step apart) more)
sends_step now s (x ∷ xs) draws net net' apart (inr (none, more)) =
    let c = clock s in
    let first = lanes_view net.channels in
    lanes_go_on c (send_view s x ∷ []) (map (send_view s) xs) first first (lanes_view net'.channels)
    (unlinked_step c (send_view s x) first (unlinked_lanes s x net none))
    (sends_step now s xs draws net net' apart more)
