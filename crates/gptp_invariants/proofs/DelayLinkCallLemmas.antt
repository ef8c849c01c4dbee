-- A call, seen at a link: what becomes of the two lanes, of the port that asks and of the port that
-- answers.
use Rattle.std.proofs.Common.{◌≡◌, ◌≢◌, ◌⊎◌, ◌+◌, ◌≤◌, ℕ, Bool, true, false, List, [], ◌∷◌, ◌++◌, map, refl, sym, ap, subst, ◌∙◌, inl, inr, eqb-true, eq-eqb}
use Rattle.std.specs.Prelude.{if◌then◌else◌, ◌==◌}
use Rattle.std.proofs.lemmas.List.{append-nil, map-append}
use Rattle.gptp_lists.specs.Members.{In}
use Rattle.gptp_lists.proofs.SystemSpecLemmas.{In-map, In-parts}
use Rattle.gptp_vector.specs.declared.port.PortId.{PortId}
use Rattle.gptp_links.specs.declared.link.Direction.{Direction}
use Rattle.gptp_links.specs.Queue.{Frame}
use Rattle.gptp_pdelay.specs.Peer.{after_interval}
use Rattle.gptp_system.specs.declared.sending.Sending.{Sending}
use Rattle.gptp_setup.specs.declared.setup.Setup.{Setup}
use Rattle.gptp_setup.specs.declared.timer.Timer.{Timer}
use Rattle.gptp_setup.specs.declared.timer.Timer.TheVariants as timers
use Rattle.gptp_system.specs.Input.{Input, Expires, PortUp}
use Rattle.gptp_setup.specs.Intervals.{interval_of}
use Rattle.gptp_system.specs.Measures.{IsPartAfter, Part, only_at, part_answered, part_asked, measure_at}
use Rattle.gptp_system.specs.State.{SystemState}
use Rattle.gptp_model.specs.World.{WorldState, world_queue, receiver, sender}
use Rattle.gptp_lists.proofs.PlaceLemmas.{same_place}
use Rattle.gptp_pdelay_machine.specs.Acts.{OthersSend}
use Rattle.gptp_pdelay_machine.specs.Meter.{MeterActs, meter_rests}
use Rattle.gptp_pdelay_machine.specs.Facts.{IsSentInTime, IsSentLate}
use Rattle.gptp_pdelay_machine.specs.Lanes.{LaneFrame as SeenFrame, AreMute}
use Rattle.gptp_pdelay_machine.specs.Setting.{Setting}
use Rattle.gptp_invariants.specs.DelayLinkView.{IsEndOf, IsLinkOf, LinkPlace, asker_view, reads_as_request, link_frame_view, link_lane_view, least_delay, meter, other_direction, pair, reads_as_reply, link_setting, waits_view}
use Rattle.gptp_invariants.specs.ChoiceSaid.{said_at}
use Rattle.gptp_invariants.proofs.DelayLinkLaneLemmas.{IsDueSoon}
use Rattle.gptp_invariants.proofs.DelayLinkLemmas.{LinkStep, sender_opposite}
use Rattle.gptp_invariants.proofs.DelayPartLemmas.{AsksAsBefore, answered_asks, asked_waits, asks_still}
use Rattle.gptp_invariants.proofs.DelaySentLemmas.{asks_nothing, octets_of, replies_nothing}

-- ---- parts

-- what happens at this port, or at another one
pub at_own : (p n : ℕ) (f : Part → Part) (x x' : Part) → x' ≡ only_at p f n x
    → ((n ≡ p) × (x' ≡ f x)) ⊎ ((n ≢ p) × (x' ≡ x))
at_own p n f x x' is = go (n == p) refl is
  where
    go : (b : Bool) → (n == p) ≡ b → x' ≡ (if b then f x else x) → ((n ≡ p) × (x' ≡ f x)) ⊎ ((n ≢ p) × (x' ≡ x))
    go true e here = inl (eqb-true n p e, here)
    go false e here = inr (λ same. let yes = eq-eqb n p same in absurd cc, here)

same_pdelay : (p q : ℕ) → timers.Pdelay p ≡ timers.Pdelay q → p ≡ q
same_pdelay p q e = cc

same_respond : (p q : ℕ) → timers.Respond p ≡ timers.Respond q → p ≡ q
same_respond p q e = cc

-- what a timer makes of a port that asks: its own Pdelay timer sends the next request, and any other leaves what it
-- asked
pub asker_timer : (s : SystemState) (now period : ℕ) (timer : Timer) (n : ℕ) (x x' : Part)
    → IsPartAfter s now (Expires timer) n x x'
    → ((timer ≡ timers.Pdelay n) × (x' ≡ part_asked s now after_interval x))
    ⊎ ((timer ≢ timers.Pdelay n) × AsksAsBefore period x x')
asker_timer s now period (timers.Pdelay p) n x x' k = elim (at_own p n (part_asked s now after_interval) x x' k) [
  | inl here ↦ inl (ap timers.Pdelay (sym here.0), here.1)
  | inr other ↦ inr (λ e. other.0 (sym (same_pdelay p n e)), asks_still period x x' other.1)
]
asker_timer s now period (timers.Respond p) n x x' k = elim (at_own p n part_answered x x' k) [
  | inl here ↦ inr (λ e. absurd cc, subst (AsksAsBefore period x) (sym here.1) (answered_asks period x))
  | inr other ↦ inr (λ e. absurd cc, asks_still period x x' other.1)
]
asker_timer s now period (timers.Announce p) n x x' k = inr (λ e. absurd cc, asks_still period x x' k)
asker_timer s now period (timers.Age p) n x x' k = inr (λ e. absurd cc, asks_still period x x' k)
asker_timer s now period timers.Sync n x x' k = inr (λ e. absurd cc, asks_still period x x' k)
asker_timer s now period timers.Relay n x x' k = inr (λ e. absurd cc, asks_still period x x' k)
asker_timer s now period timers.Lapse n x x' k = inr (λ e. absurd cc, asks_still period x x' k)

-- and of one that answers: its own Respond timer answers, and any other leaves what waits
pub answerer_timer : (s : SystemState) (now : ℕ) (timer : Timer) (n : ℕ) (x x' : Part)
    → IsPartAfter s now (Expires timer) n x x'
    → ((timer ≡ timers.Respond n) × (x' ≡ part_answered x))
    ⊎ ((timer ≢ timers.Respond n) × (waits_view x' ≡ waits_view x))
answerer_timer s now (timers.Pdelay p) n x x' k = elim (at_own p n (part_asked s now after_interval) x x' k) [
  | inl here ↦ inr (λ e. absurd cc, ap waits_view here.1 ∙ asked_waits s now x)
  | inr other ↦ inr (λ e. absurd cc, ap waits_view other.1)
]
answerer_timer s now (timers.Respond p) n x x' k = elim (at_own p n part_answered x x' k) [
  | inl here ↦ inl (ap timers.Respond (sym here.0), here.1)
  | inr other ↦ inr (λ e. other.0 (sym (same_respond p n e)), ap waits_view other.1)
]
answerer_timer s now (timers.Announce p) n x x' k = inr (λ e. absurd cc, ap waits_view k)
answerer_timer s now (timers.Age p) n x x' k = inr (λ e. absurd cc, ap waits_view k)
answerer_timer s now timers.Sync n x x' k = inr (λ e. absurd cc, ap waits_view k)
answerer_timer s now timers.Relay n x x' k = inr (λ e. absurd cc, ap waits_view k)
answerer_timer s now timers.Lapse n x x' k = inr (λ e. absurd cc, ap waits_view k)

-- ---- lanes

-- a frame that is seen is one of those in flight
pub seen_from : (fs : List Frame) (g : SeenFrame) → In g (map link_frame_view fs)
    → (f : Frame) × In f fs × (g ≡ link_frame_view f)
seen_from [] g member = absurd member
seen_from (f ∷ fs) g (inl here) = (f, inl refl, here)
seen_from (f ∷ fs) g (inr later) = let (h, among, is) = seen_from fs g later in (h, inr among, is)

-- frames that are due soon are sent in time
pub sent_in_time : (k : Setting) (time : ℕ) (old news : List Frame) (was now : List SeenFrame)
    → now ≡ map link_frame_view old ++ map link_frame_view news
    → ((g : SeenFrame) → In g (map link_frame_view old) → In g was)
    → ((f : Frame) → In f news → IsDueSoon time k.most old f)
    → IsSentInTime k time was now
sent_in_time k time old news was now is kept dues g member =
    elim (In-parts g (map link_frame_view old) (map link_frame_view news) (subst (In g) is member)) [
      | inl stays ↦ inl (kept g stays)
      | inr added ↦ inr (new (seen_from news g added))
    ]
  where
    new : ((f : Frame) × In f news × (g ≡ link_frame_view f))
        → (time ≤ g.due) × ((g.due ≤ time + k.most) ⊎ ((h : SeenFrame) × In h was × (g.due ≤ h.due)))
    new (f, among, same) =
        subst
        (λ (x : SeenFrame). (time ≤ x.due) × ((x.due ≤ time + k.most) ⊎ ((h : SeenFrame) × In h was × (x.due ≤ h.due))))
        (sym same) (by (dues f among))
      where
        by : IsDueSoon time k.most old f
            → (time ≤ f.due) × ((f.due ≤ time + k.most) ⊎ ((h : SeenFrame) × In h was × (f.due ≤ h.due)))
        by (later, inl soon) = (later, inl soon)
        by (later, inr (h, there, before)) =
            (later, inr (link_frame_view h, kept (link_frame_view h) (In-map link_frame_view h old there), before))

-- frames that take so long are sent so late
pub sent_late : (least time : ℕ) (old news : List Frame) (was now : List SeenFrame)
    → now ≡ map link_frame_view old ++ map link_frame_view news
    → ((g : SeenFrame) → In g (map link_frame_view old) → In g was)
    → ((f : Frame) → In f news → time + least ≤ f.due)
    → IsSentLate least time was now
sent_late least time old news was now is kept lates g member =
    elim (In-parts g (map link_frame_view old) (map link_frame_view news) (subst (In g) is member)) [
      | inl stays ↦ inl (kept g stays)
      | inr added ↦ inr (new (seen_from news g added))
    ]
  where
    new : ((f : Frame) × In f news × (g ≡ link_frame_view f)) → time + least ≤ g.due
    new (f, among, same) = subst (λ (x : SeenFrame). time + least ≤ x.due) (sym same) (lates f among)

-- ---- the link

no_octets : (news : List Frame) → octets_of news ≡ [] → news ≡ []
no_octets [] none = refl
no_octets (f ∷ news) none = absurd cc

module _ {at : LinkPlace} {place : ℕ} {input : Input} {w w' : WorldState} {l : IsLinkOf at w} {s s' : SystemState}
    {sends : List Sending} (step : LinkStep at place input w w' l s s' sends) where
  abbrev period : ℕ
  period = interval_of l.asking.station.setup.params.pdelay

  abbrev news : Direction → List Frame
  news = step.grows.news

  -- what is seen of the port that asks
  pub asker_is : (pair at w' step.after).asker ≡ asker_view period (measure_at step.after.asking.state)
  asker_is =
      ap (λ (x : Setup). asker_view (interval_of x.params.pdelay) (measure_at step.after.asking.state)) step.period

  lane_is : (direction : Direction)
      → link_lane_view direction step.after.channel ≡ link_lane_view direction l.channel ++ map link_frame_view
      (news direction)
  lane_is direction =
      ap (map link_frame_view) (step.grows.queues direction)
      ∙ map-append link_frame_view (world_queue direction l.channel) (news direction)

  pub out_is : (pair at w' step.after).out ≡ (pair at w l).out ++ map link_frame_view (news at.direction)
  out_is = lane_is at.direction

  pub back_is : (pair at w' step.after).back ≡ (pair at w l).back ++ map link_frame_view
      (news (other_direction at.direction))
  back_is = lane_is (other_direction at.direction)

  -- a system sends nothing from the end of another
  quiet : (direction : Direction) (port : PortId) (other : ℕ) → sender direction l.channel ≡ port → IsEndOf other port w
      → other ≢ place → news direction ≡ []
  quiet direction port other begins e apart =
      no_octets (news direction)
      (step.grows.said direction ∙ ap (λ p. said_at s' p sends) begins
      ∙ step.elsewhere other port e apart)

  pub asking_quiet : at.asking ≢ place → news at.direction ≡ []
  asking_quiet = quiet at.direction (sender at.direction l.channel) at.asking refl l.asking

  pub answering_quiet : at.answering ≢ place → news (other_direction at.direction) ≡ []
  answering_quiet =
      quiet (other_direction at.direction) (receiver at.direction l.channel) at.answering
      (sender_opposite at.direction l.channel) l.answering

  pub out_stays : at.asking ≢ place → (pair at w' step.after).out ≡ (pair at w l).out
  out_stays apart =
      out_is ∙ ap (λ fs. (pair at w l).out ++ map link_frame_view fs) (asking_quiet apart)
      ∙ append-nil (pair at w l).out

  pub back_stays : at.answering ≢ place → (pair at w' step.after).back ≡ (pair at w l).back
  back_stays apart =
      back_is ∙ ap (λ fs. (pair at w l).back ++ map link_frame_view fs) (answering_quiet apart)
      ∙ append-nil (pair at w l).back

  none_mute : {X : Type 0} (says : List ℕ → X → Type 0) (fs : List Frame) → fs ≡ []
      → AreMute says (map link_frame_view fs)
  none_mute says fs none f member = absurd (subst (λ gs. In f (map link_frame_view gs)) none member)

  -- what is sent to the port that answers asks nothing, unless the other's Pdelay timer expires
  pub out_mute : (at.asking ≡ place → input ≢ Expires (timers.Pdelay (sender at.direction l.channel).port))
      → (at.asking ≡ place → input ≢ PortUp (sender at.direction l.channel).port)
      → AreMute reads_as_request (map link_frame_view (news at.direction))
  out_mute timer up = elim (same_place at.asking place) [
    | inl same ↦
        asks_nothing s s' w.time input sends step.sent (sender at.direction l.channel) (news at.direction)
        (step.grows.said at.direction) (timer same) (up same)
    | inr apart ↦ none_mute reads_as_request (news at.direction) (asking_quiet apart)
  ]

  said_back : octets_of (news (other_direction at.direction)) ≡ said_at s' (receiver at.direction l.channel) sends
  said_back =
      step.grows.said (other_direction at.direction)
      ∙ ap (λ p. said_at s' p sends) (sender_opposite at.direction l.channel)

  -- what is sent to the port that asks is no reply, unless the other's Respond timer expires
  pub back_mute : (at.answering ≡ place → input ≢ Expires (timers.Respond (receiver at.direction l.channel).port))
      → AreMute reads_as_reply (map link_frame_view (news (other_direction at.direction)))
  back_mute timer = elim (same_place at.answering place) [
    | inl same ↦
        replies_nothing s s' w.time input sends step.sent (receiver at.direction l.channel)
        (news (other_direction at.direction)) said_back (timer same)
    | inr apart ↦ none_mute reads_as_reply (news (other_direction at.direction)) (answering_quiet apart)
  ]

  -- what is sent is due in time
  pub out_in_time : IsSentInTime (link_setting at w l) w.time (pair at w l).out (pair at w' step.after).out
  out_in_time =
      sent_in_time (link_setting at w l) w.time (world_queue at.direction l.channel) (news at.direction)
      (pair at w l).out
      (pair at w' step.after).out out_is (λ g member. member) (step.grows.dues at.direction)

  pub back_in_time : IsSentInTime (link_setting at w l) w.time (pair at w l).back (pair at w' step.after).back
  back_in_time =
      sent_in_time (link_setting at w l) w.time (world_queue (other_direction at.direction) l.channel)
      (news (other_direction at.direction))
      (pair at w l).back (pair at w' step.after).back back_is (λ g member. member)
      (step.grows.dues (other_direction at.direction))

  -- and takes the least delay of the link or more
  pub out_late : IsSentLate (least_delay at w l) w.time (pair at w l).out (pair at w' step.after).out
  out_late =
      sent_late (least_delay at w l) w.time (world_queue at.direction l.channel) (news at.direction) (pair at w l).out
      (pair at w' step.after).out out_is (λ g member. member) (step.grows.lates at.direction)

  pub back_late : IsSentLate (least_delay at w l) w.time (pair at w l).back (pair at w' step.after).back
  back_late =
      sent_late (least_delay at w l) w.time (world_queue (other_direction at.direction) l.channel)
      (news (other_direction at.direction))
      (pair at w l).back (pair at w' step.after).back back_is (λ g member. member)
      (step.grows.lates (other_direction at.direction))

  -- an act that leaves what the one port asked and measured and what waits at the other
  pub others_send : AsksAsBefore period (measure_at l.asking.state) (measure_at step.after.asking.state)
      → waits_view (measure_at step.after.answering.state) ≡ waits_view (measure_at l.answering.state)
      → AreMute reads_as_request (map link_frame_view (news at.direction))
      → AreMute reads_as_reply (map link_frame_view (news (other_direction at.direction)))
      → MeterActs (link_setting at w l) reads_as_request reads_as_reply (meter at w l) (meter at w' step.after)
  others_send asker waits out back = meter_rests send asker.1
    where
      send : OthersSend (link_setting at w l) reads_as_request reads_as_reply (pair at w l) (pair at w' step.after)
      send = record {
        time = step.time;
        asker = asker_is ∙ asker.0;
        waits = waits;
        ahead = map link_frame_view (news at.direction);
        behind = map link_frame_view (news (other_direction at.direction));
        out = out_is;
        back = back_is;
        asks_nothing = out;
        replies_nothing = back;
      }
