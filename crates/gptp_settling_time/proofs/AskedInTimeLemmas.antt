-- Beside a failed system what a port sends takes no longer than its link lets it: what is in flight is due within the
-- greatest delay, a request of it from the last one on, but for what is old.
use Rattle.std.proofs.Common.{◌≡◌, ◌≢◌, ◌⊎◌, ◌≤◌, ◌+◌, max, ℕ, List, Some, None, Option, slice_get, refl, sym, ap, subst, ◌∙◌, inl, inr, arith}
use Rattle.gptp_lists.specs.Members.{In}
use Rattle.gptp_lists.proofs.MappedLemmas.{same_there}
use Rattle.gptp_lists.proofs.PlaceLemmas.{same_place}
use Rattle.gptp_lists.proofs.SystemSpecLemmas.{In-map, In-parts}
use Rattle.gptp_vector.specs.declared.port.PortId.{PortId}
use Rattle.gptp_links.specs.declared.bounds.Bounds.{Bounds}
use Rattle.gptp_links.specs.declared.link.Direction.{Direction}
use Rattle.gptp_links.specs.Fate.{Draw}
use Rattle.gptp_links.specs.Queue.{Frame, frame}
use Rattle.gptp_setup.specs.declared.setup.Params.{Params}
use Rattle.gptp_setup.specs.declared.timer.Timer.{Timer}
use Rattle.gptp_setup.specs.declared.timer.Timer.TheVariants as timers
use Rattle.gptp_setup.specs.Intervals.{interval_of}
use Rattle.gptp_setup.specs.SettlingParams.{SettlingParams}
use Rattle.gptp_scenario.specs.declared.change.Act.{Act}
use Rattle.gptp_scenario.specs.declared.change.Act.TheVariants.{Deliver, Expire, Change as Changing}
use Rattle.gptp_scenario.specs.declared.change.Change.{Change}
use Rattle.gptp_system.specs.declared.answer.Answer.{Answer}
use Rattle.gptp_system.specs.Input.{Expires as TimerExpires, Frame as FrameHeard, Input, IsTimely, PortUp}
use Rattle.gptp_system.specs.Measures.{IsPartAfter, Part, measure_at, part_heard}
use Rattle.gptp_system.specs.Messages.{AreSent}
use Rattle.gptp_system.specs.State.{SystemState}
use Rattle.gptp_system.proofs.SentLemmas.{steps_send}
use Rattle.gptp_model.specs.Act.{Calls, Delivers, Hears, TimerRunsOut, all_timers, in_state}
use Rattle.gptp_model.specs.Agrees.{stopped}
use Rattle.gptp_model.specs.Acts.{Acts, at as at_time}
use Rattle.gptp_model.specs.declared.done.Done.{Done}
use Rattle.gptp_model.specs.Sound.{IsSound}
use Rattle.gptp_model.specs.World.{Channel, Net, WorldState, receiver, sender, world_queue}
use Rattle.gptp_model.proofs.StayLemmas.{carry_join, takes_carry}
use Rattle.gptp_pdelay_machine.specs.Asker.{Asker}
use Rattle.gptp_pdelay_machine.specs.Messages.{Request}
use Rattle.gptp_invariants.specs.ChoiceSaid.{said_at}
use Rattle.gptp_invariants.specs.DelayMeasured.{LinkIsMeasured}
use Rattle.gptp_invariants.specs.DelayLinkView.{LinkPlace, RequestSaysWhatFits, asked_at, link_frame_view, other_direction, reads_as_request}
use Rattle.gptp_invariants.specs.FailedUnanswered.{IsOldBy, IsUnansweredAt, StandsUnanswered, silent_view}
use Rattle.gptp_invariants.specs.WorldKnown.{IsKnown}
use Rattle.gptp_invariants.specs.WorldShort.{IsShort}
use Rattle.gptp_invariants.proofs.DelayEndLemmas.{HearsWhatFits}
use Rattle.gptp_invariants.proofs.DelayLinkLaneLemmas.{GrowsIn, IsAlone, sends_grow}
use Rattle.gptp_invariants.proofs.DelayLinkCallLemmas.{asker_timer, at_own}
use Rattle.gptp_model.proofs.ActsByLemmas.{expires_timely, reached_up}
use Rattle.gptp_invariants.proofs.DelayLinkLemmas.{IsOrderly, net_orderly, one_end, sender_opposite, sound_orderly}
use Rattle.gptp_invariants.proofs.DelayPartLemmas.{heard_asked}
use Rattle.gptp_invariants.proofs.DelaySentLemmas.{asks_nothing}
use Rattle.gptp_invariants.proofs.FailedUnansweredCallLemmas.{CallStep, asker_is, call_seen, failed_apart, relinked, same_sender}
use Rattle.gptp_invariants.proofs.FailedUnansweredLaneLemmas.{ShrinksAt, calls_shrink, takes_shrink}
use Rattle.gptp_invariants.proofs.FailedUnansweredStandLemmas.{ports_seen, timers_known}
use Rattle.gptp_invariants.proofs.WorldBeforeLemmas.{none_anew, stood_earlier}

-- at the port, where what is old is due by this time, and its link loses nothing
pub record IsAskedInTime (gone : ℕ) (at : LinkPlace) (w : WorldState) : Type 0 where
  pub link : IsUnansweredAt at w
  pub asked : (silent_view at w link).asker.asked ≤ w.time
  pub frames : link.channel.bounds.loss ≡ 0 → (f : Frame) → In f (world_queue at.direction link.channel)
      → f.due ≤ max gone (w.time + link.channel.bounds.max)
  pub requests : link.channel.bounds.loss ≡ 0 → (f : Frame) (r : Request)
      → In f (world_queue at.direction link.channel) → reads_as_request f.octets r
      → f.due ≤ max gone ((silent_view at w link).asker.asked + link.channel.bounds.max)
  pub old : IsOldBy gone at w link

-- wherever all stands so
abbrev pub AreAskedInTime : ℕ → WorldState → Type 0
AreAskedInTime gone w = (at : LinkPlace) → StandsUnanswered at w → IsAskedInTime gone at w

-- ---- a call

-- an input leaves when the port asked last, or it asks now by it
abbrev pub AsksAfter : ℕ → ℕ → Input → ℕ → Part → Part → Type 0
AsksAfter now period input n x x' =
    (asked_at period x'.pdelay ≡ now)
    ⊎ ((asked_at period x'.pdelay ≡ asked_at period x.pdelay)
    × ((input ≢ TimerExpires (timers.Pdelay n)) × (input ≢ PortUp n)))

module _ (gone : ℕ) (at : LinkPlace) (place : ℕ) (input : Input) (w : WorldState) (draws : List Draw) (answer : Answer)
    (w' : WorldState) (k : Calls place input w draws answer w') (timely : IsTimely k.station.system w.time input)
    (orderly : IsOrderly w) (is : IsAskedInTime gone at w)
    (given : at.asking ≡ place → HearsWhatFits (sender at.direction is.link.channel).port input)
    (asks : at.asking ≡ place → (x' : Part)
    → IsPartAfter is.link.asking.station.system w.time input (sender at.direction is.link.channel).port
    (measure_at is.link.asking.state) x'
    → AsksAfter w.time (interval_of is.link.asking.station.setup.params.pdelay) input
    (sender at.direction is.link.channel).port (measure_at is.link.asking.state) x') where
  abbrev l : IsUnansweredAt at w
  l = is.link

  abbrev port : PortId
  port = sender at.direction is.link.channel

  step : CallStep place input gone at w w' l
  step = call_seen gone at place input w draws answer w' k orderly.clocks l is.old given

  -- nothing is sent from the failed end
  same_bounds : step.after.channel.bounds ≡ l.channel.bounds
  same_bounds =
      let apart = failed_apart place at.answering (receiver at.direction l.channel).clock w k.station k.here k.live
      l.answering in
      let lane = calls_shrink at.link (other_direction at.direction) place input w draws answer w' k l.channel l.here
      (λ e. apart (orderly.clocks at.answering place l.answering.station k.station l.answering.here k.here
      (l.answering.named ∙ ap (λ (p : PortId). p.clock) (sym (sender_opposite at.direction l.channel)) ∙ e))) in
      let same : step.after.channel ≡ lane.new =
      same_there w'.net.channels at.link step.after.channel lane.new step.after.here lane.here in
      ap (λ (c : Channel). c.bounds) same ∙ lane.shrinks.bounds

  abbrev period : ℕ
  period = interval_of l.asking.station.setup.params.pdelay

  abbrev asked_then : ℕ
  asked_then = (silent_view at w' step.after).asker.asked

  asked_is : asked_then ≡ asked_at period step.after.asking.state.pdelay
  asked_is = ap (λ (a : Asker). a.asked) (asker_is step)

  -- it asks now, or asked when it did
  AsksNow : Type 0
  AsksNow = (asked_then ≡ w.time)
      ⊎ ((asked_then ≡ (silent_view at w l).asker.asked)
      × ((input ≢ TimerExpires (timers.Pdelay port.port)) × (input ≢ PortUp port.port)))

  at_place : at.asking ≡ place → AsksNow
  unfolding AsksNow
  at_place here = elim step.part [
    | inl called ↦ elim (asks here (measure_at step.after.asking.state) called.1) [
      | inl now ↦ inl (asked_is ∙ now)
      | inr still ↦ inr (asked_is ∙ still.0, still.1)
    ]
    | inr left ↦ absurd (left.0 here)
  ]

  asked_still : at.asking ≢ place → asked_then ≡ (silent_view at w l).asker.asked
  asked_still apart = elim step.part [
    | inl called ↦ absurd (apart called.0)
    | inr left ↦ asked_is ∙ ap (λ (x : Part). asked_at period x.pdelay) left.1
  ]

  -- it never asked later than it asks now
  asked_more : (silent_view at w l).asker.asked ≤ asked_then
  unfolding AsksNow
  asked_more = elim (same_place at.asking place) [
    | inl here ↦ elim (at_place here) [
      | inl now ↦ (let soon = is.asked in omega (arith, now, soon))
      | inr still ↦ (let same = still.0 in omega (arith, same))
    ]
    | inr apart ↦ (let same = asked_still apart in omega (arith, same))
  ]

  module _ (lossless : l.channel.bounds.loss ≡ 0) where
    ends_apart : l.channel.a ≢ l.channel.b
    ends_apart e =
        failed_apart at.asking at.answering (receiver at.direction l.channel).clock w l.asking.station l.asking.here
        l.asking.live l.answering
        (orderly.clocks at.answering at.asking l.answering.station l.asking.station l.answering.here l.asking.here
        (l.answering.named
        ∙ ap (λ (p : PortId). p.clock) (sym (one_end at.direction l.channel e)) ∙ sym l.asking.named))

    timers_net : Net
    timers_net = all_timers place (in_state k.after k.station) w.net

    alone : IsAlone at.link l.channel timers_net
    unfolding timers_net
    alone = record {
      here = l.here;
      only = λ other direction way one there same.
          orderly.apart other at.link way direction one l.channel there l.here same;
      ends = ends_apart;
    }

    grown : GrowsIn w.time at.link l.channel (λ direction. said_at k.after (sender direction l.channel) k.sends) k.net
    unfolding timers_net
    grown =
        sends_grow w.time k.after k.sends draws timers_net k.net at.link l.channel alone
        (record { up = l.up; lossless = lossless }) k.sent

    same_new : step.after.channel ≡ grown.new
    same_new =
        same_there w'.net.channels at.link step.after.channel grown.new step.after.here
        (ap (λ (v : WorldState). slice_get v.net.channels at.link) k.is ∙ grown.alone.here)

    -- what a frame is that is in flight then
    IsOldOrNew : Frame → Type 0
    IsOldOrNew f = In f (world_queue at.direction l.channel)
        ⊎ ((f.due ≤ max gone (w.time + l.channel.bounds.max))
        × ((asked_then ≡ w.time) ⊎ ((r : Request) → reads_as_request f.octets r → ⊥)))

    sent_here : at.asking ≡ place → (f : Frame) → In f (grown.grows.news at.direction) → IsOldOrNew f
    unfolding IsOldOrNew AsksNow
    sent_here here f new =
        let (later, due) = grown.grows.dues at.direction f new in
        let soon_due : f.due ≤ max gone (w.time + l.channel.bounds.max) = elim due [
          | inl by ↦ omega (arith, by)
          | inr (g, among, less) ↦ (let before = is.frames lossless g among in omega (arith, before, less))
        ] in
        let sent : AreSent k.station.system w.time input k.sends =
        steps_send input w.time k.station.system k.after k.sends answer timely k.steps in
        inr (
          soon_due,
          elim (at_place here) [
            | inl now ↦ inl now
            | inr still ↦ inr (λ r says.
                asks_nothing k.station.system k.after w.time input k.sends sent port (grown.grows.news at.direction)
                (grown.grows.said at.direction) still.1.0 still.1.1 (link_frame_view f)
                (In-map link_frame_view f (grown.grows.news at.direction) new) r says)
          ],
        )

    fate : (f : Frame) → In f (world_queue at.direction step.after.channel) → IsOldOrNew f
    unfolding IsOldOrNew
    fate f member = elim (same_place at.asking place) [
      | inl here ↦ elim (In-parts f (world_queue at.direction l.channel) (grown.grows.news at.direction)
          (subst (In f) (grown.grows.queues at.direction)
          (subst (λ (c : Channel). In f (world_queue at.direction c)) same_new member))) [
            | inl before ↦ inl before
            | inr new ↦ sent_here here f new
          ]
      | inr apart ↦
          let lane = calls_shrink at.link at.direction place input w draws answer w' k l.channel l.here
          (λ e. apart (orderly.clocks at.asking place l.asking.station k.station l.asking.here k.here
          (l.asking.named ∙ e))) in
          let same : step.after.channel ≡ lane.new =
          same_there w'.net.channels at.link step.after.channel lane.new step.after.here lane.here in
          inl (lane.shrinks.fewer f (subst (λ (c : Channel). In f (world_queue at.direction c)) same member))
    ]

    frames_then : (f : Frame) → In f (world_queue at.direction step.after.channel)
        → f.due ≤ max gone (w'.time + step.after.channel.bounds.max)
    unfolding IsOldOrNew
    frames_then f member =
        let time = step.time in
        let most : step.after.channel.bounds.max ≡ l.channel.bounds.max = ap (λ (b : Bounds). b.max) same_bounds in
        elim (fate f member) [
          | inl before ↦ (let due = is.frames lossless f before in omega (arith, due, time, most))
          | inr new ↦ (let due = new.0 in omega (arith, due, time, most))
        ]

    requests_then : (f : Frame) (r : Request) → In f (world_queue at.direction step.after.channel)
        → reads_as_request f.octets r → f.due ≤ max gone (asked_then + step.after.channel.bounds.max)
    unfolding IsOldOrNew
    requests_then f r member says =
        let more = asked_more in
        let most : step.after.channel.bounds.max ≡ l.channel.bounds.max = ap (λ (b : Bounds). b.max) same_bounds in
        elim (fate f member) [
          | inl before ↦ (let due = is.requests lossless f r before says in omega (arith, due, more, most))
          | inr new ↦ elim new.1 [
            | inl now ↦ (let due = new.0 in omega (arith, due, now, most))
            | inr mute ↦ absurd (mute r says)
          ]
        ]

  lossless_then : step.after.channel.bounds.loss ≡ 0 → l.channel.bounds.loss ≡ 0
  lossless_then lossless = ap (λ (b : Bounds). b.loss) (sym same_bounds) ∙ lossless

  asked_by_then : asked_then ≤ w'.time
  unfolding AsksNow
  asked_by_then =
      let time = step.time in
      let soon = is.asked in
      elim (same_place at.asking place) [
        | inl here ↦ elim (at_place here) [
          | inl now ↦ omega (arith, now, time)
          | inr still ↦ (let same = still.0 in omega (arith, same, soon, time))
        ]
        | inr apart ↦ (let same = asked_still apart in omega (arith, same, soon, time))
      ]

  pub called_in_time : IsAskedInTime gone at w'
  called_in_time = record {
    link = step.after;
    asked = asked_by_then;
    frames = λ lossless. frames_then (lossless_then lossless);
    requests = λ lossless. requests_then (lossless_then lossless);
    old = step.old;
  }

-- ---- it begins

-- just after a change all is old that is in flight, and due by the longest delay later
pub are_asked_begin : (p : SettlingParams) (most : ℕ) (w : WorldState) → IsSound w → LinkIsMeasured w → IsKnown p w
    → IsShort most w → w.last_change ≡ w.time → AreAskedInTime (w.last_change + most) w
are_asked_begin p most w sound measured known short changed at s =
    let l = ports_seen at w sound measured s in
    let near = short at.link l.channel l.here in
    record {
      link = l;
      asked = (timers_known at p w l sound known).asked;
      frames = λ lossless f member. (let due = near.dues at.direction f member in omega (arith, due, changed));
      requests = λ lossless f r member says.
          (let due = near.dues at.direction f member in omega (arith, due, changed));
      old = λ f member. (let due = near.dues (other_direction at.direction) f member in omega (arith, due, changed));
    }

-- ---- it goes on

pub are_asked_later : (gone time : ℕ) (w : WorldState) → w.time ≤ time → AreAskedInTime gone w
    → AreAskedInTime gone (at_time time w)
are_asked_later gone time w later asked at s =
    let one = asked at (stood_earlier at time w s) in
    record {
      link = one.link;
      asked = (let asked_before = one.asked in omega (arith, asked_before, later));
      frames = λ lossless f member. (let due = one.frames lossless f member in omega (arith, due, later));
      requests = one.requests;
      old = one.old;
    }

-- ---- each act keeps it

module _ (gone : ℕ) (at : LinkPlace) (w : WorldState) (sound : IsSound w) (measured : LinkIsMeasured w)
    (is : IsAskedInTime gone at w) where
  orderly : IsOrderly w
  orderly = sound_orderly w sound

  abbrev own : PortId
  own = sender at.direction is.link.channel

  abbrev interval : ℕ
  interval = interval_of is.link.asking.station.setup.params.pdelay

  abbrev part : Part
  part = measure_at is.link.asking.state

  abbrev system : SystemState
  system = is.link.asking.station.system

  timer_asks : (timer : Timer) (x' : Part) → IsPartAfter system w.time (TimerExpires timer) own.port part x'
      → AsksAfter w.time interval (TimerExpires timer) own.port part x'
  timer_asks timer x' h = elim (asker_timer system w.time interval timer own.port part x' h) [
    | inl asks ↦
        let back : asked_at interval (Some (w.time + interval)) ≡ w.time = omega arith in
        inl (ap (λ (y : Part). asked_at interval y.pdelay) asks.1
        ∙ ap (λ (q : Params). asked_at interval (Some (w.time + interval_of q.pdelay))) is.link.asking.set_up.params
        ∙ back)
    | inr other ↦ inr (
      ap (λ (a : Asker). a.asked) other.1.0,
      ((λ e. other.0 (let same : timer ≡ timers.Pdelay own.port = cc in same)), λ e. absurd cc),
    )
  ]

  expires_in_time : (place : ℕ) (timer : Timer) (draws : List Draw) (w' : WorldState)
      → TimerRunsOut place timer w draws w' → IsAskedInTime gone at w'
  unfolding orderly
  expires_in_time place timer draws w' k =
      called_in_time gone at place (TimerExpires timer) (stopped place timer w) draws k.answer w' k.calls
      (expires_timely place timer w draws w' k)
      (record {
        setups = orderly.setups;
        clocks = orderly.clocks;
        apart = orderly.apart;
        params = orderly.params;
      })
      (record { link = is.link; asked = is.asked; frames = is.frames; requests = is.requests; old = is.old })
      (λ same. tt) (λ here x' h. timer_asks timer x' h)

  frame_asks : (q : ℕ) (octets : List ℕ) (x' : Part) → IsPartAfter system w.time (FrameHeard q octets) own.port part x'
      → AsksAfter w.time interval (FrameHeard q octets) own.port part x'
  frame_asks q octets x' (inl (m, reads, h)) = elim (at_own q own.port (part_heard system w.time m) part x' h) [
    | inl one ↦ inr (
      ap (λ (y : Part). asked_at interval y.pdelay) one.1
          ∙ ap (asked_at interval) (heard_asked system w.time m part),
      ((λ e. absurd cc), λ e. absurd cc),
    )
    | inr beside ↦ inr (
      ap (λ (y : Part). asked_at interval y.pdelay) beside.1,
      ((λ e. absurd cc), λ e. absurd cc),
    )
  ]
  frame_asks q octets x' (inr (none, h)) =
      inr (ap (λ (y : Part). asked_at interval y.pdelay) h, ((λ e. absurd cc), λ e. absurd cc))

  module _ (link : ℕ) (direction : Direction) (octets : List ℕ) (draws : List Draw) (answer : Option Answer)
      (w' : WorldState) (k : Delivers link direction octets w draws answer w') where
    abbrev emptied : WorldState
    emptied = record w { net = k.net }

    back : ShrinksAt at.link (other_direction at.direction) is.link.channel emptied.net.channels
    back =
        takes_shrink at.link (other_direction at.direction) link direction w.time octets k.channel w.net k.net
        is.link.channel is.link.here k.takes

    out : ShrinksAt at.link at.direction is.link.channel emptied.net.channels
    out =
        takes_shrink at.link at.direction link direction w.time octets k.channel w.net k.net is.link.channel
        is.link.here k.takes

    same_lanes : back.new ≡ out.new
    same_lanes = same_there k.net.channels at.link back.new out.new back.here out.here

    emptied_in_time : IsAskedInTime gone at emptied
    unfolding orderly
    emptied_in_time =
        let most : back.new.bounds.max ≡ is.link.channel.bounds.max =
        ap (λ (b : Bounds). b.max) back.shrinks.bounds in
        record {
          link = relinked at w emptied is.link back is.link.asking is.link.answering;
          asked = is.asked;
          frames = λ lossless f member.
              (let due = is.frames (ap (λ (b : Bounds). b.loss) (sym back.shrinks.bounds) ∙ lossless) f
              (out.shrinks.fewer f (subst (λ (c : Channel). In f (world_queue at.direction c)) same_lanes member)) in
              omega (arith, due, most));
          requests = λ lossless f r member says.
              (let due = is.requests (ap (λ (b : Bounds). b.loss) (sym back.shrinks.bounds) ∙ lossless) f r
              (out.shrinks.fewer f (subst (λ (c : Channel). In f (world_queue at.direction c)) same_lanes member))
              says in
              omega (arith, due, most));
          old = λ f member. is.old f (back.shrinks.fewer f member);
        }

    delivers_in_time : IsAskedInTime gone at w'
    unfolding emptied_in_time orderly
    delivers_in_time = by answer k.hears
      where
        fits : RequestSaysWhatFits octets
        fits =
            measured.frames link k.channel k.takes.here direction (frame w.time octets)
            (subst (In (frame w.time octets)) (sym k.takes.front) (inl refl))

        by : (a : Option Answer) → Hears k.place (receiver direction k.channel).port octets emptied draws a w'
            → IsAskedInTime gone at w'
        by (Some told) calls =
            let octet_input = FrameHeard (receiver direction k.channel).port octets in
            let port : (sender at.direction back.new).port ≡ own.port =
            ap (λ (q : PortId). q.port)
            (same_sender at w emptied is.link back is.link.asking is.link.answering) in
            called_in_time gone at k.place (FrameHeard (receiver direction k.channel).port octets) emptied draws told w'
            calls (reached_up link direction octets w draws answer w' k sound.wired calls.station calls.here calls.live)
            (net_orderly w k.net (carry_join w.net.channels k.net.channels
            (takes_carry link direction w.time octets k.channel w.net k.net k.takes)) orderly)
            emptied_in_time (λ here n. fits)
            (λ here x' h.
            subst (λ n. AsksAfter w.time interval octet_input n part x') (sym port)
            (frame_asks (receiver direction k.channel).port octets x'
            (subst (λ n. IsPartAfter system w.time octet_input n part x') port h)))
        by None (failed, none, same) = subst (IsAskedInTime gone at) (sym same) emptied_in_time

pub are_asked_acts : (gone : ℕ) (act : Act) (w w' : WorldState) (draws : List Draw) (done : Done)
    → IsSound w → LinkIsMeasured w → ((change : Change) → act ≢ Changing change)
    → Acts act w draws done w' → AreAskedInTime gone w → AreAskedInTime gone w'
are_asked_acts gone act w w' draws done sound measured calm acts asked at s =
    by act calm acts (asked at (none_anew at act w w' draws done calm acts s))
  where
    by : (a : Act) → ((change : Change) → a ≢ Changing change) → Acts a w draws done w' → IsAskedInTime gone at w
        → IsAskedInTime gone at w'
    by (Deliver link direction) still k one =
        delivers_in_time gone at w sound measured one link direction k.octets draws k.answer w' k.delivers
    by (Expire number timer) still k one =
        expires_in_time gone at w sound measured one k.1.place timer draws w' k.1.so
    by (Changing change) still k one = absurd (still change refl)
