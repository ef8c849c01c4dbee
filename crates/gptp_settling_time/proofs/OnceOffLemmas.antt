-- A port beside a failed system that isn't capable stays so: the last request that was answered isn't answered again.
use Rattle.std.proofs.Common.{◌≡◌, ◌≢◌, ◌⊎◌, ◌<◌, ◌≤◌, ◌+◌, ◌==◌, ℕ, ℤ, Bool, true, false, List, Option, Some, None, slice_get, refl, sym, ap, subst, ◌∙◌, inl, inr, arith, eqb-true}
use Rattle.std.specs.Prelude.{if◌then◌else◌, nat_lt}
use Rattle.std.specs.Option.{option_map_or}
use Rattle.gptp_lists.specs.Members.{In}
use Rattle.gptp_lists.proofs.MappedLemmas.{same_there}
use Rattle.gptp_vector.specs.declared.port.PortId.{PortId}
use Rattle.gptp_messages.specs.Grammar.{Reads}
use Rattle.gptp_messages.specs.declared.message.Message.{Message}
use Rattle.gptp_messages.specs.declared.message.Message.TheVariants as messages
use Rattle.gptp_messages.specs.declared.peer_delay.PdelayResp.{PdelayResp}
use Rattle.gptp_messages.specs.declared.peer_delay.PdelayRespFollowUp.{PdelayRespFollowUp}
use Rattle.gptp_links.specs.declared.link.Direction.{Direction}
use Rattle.gptp_links.specs.Fate.{Draw}
use Rattle.gptp_links.specs.Queue.{Frame, frame}
use Rattle.gptp_pdelay.specs.declared.exchange.Measurement.{Measurement}
use Rattle.gptp_pdelay.specs.declared.progress.Progress.{Progress}
use Rattle.gptp_pdelay.specs.declared.progress.Progress.TheVariants as progresses
use Rattle.gptp_pdelay.specs.Peer.{PeerState, after_follow_up, after_response, answered_by, completed, is_capable, measured_by}
use Rattle.gptp_scenario.specs.declared.change.Act.{Act}
use Rattle.gptp_scenario.specs.declared.change.Act.TheVariants.{Deliver, Expire, Change as Changing}
use Rattle.gptp_setup.specs.Intervals.{interval_of}
use Rattle.gptp_setup.specs.SettlingParams.{SettlingParams}
use Rattle.gptp_setup.specs.declared.setup.Params.{Params}
use Rattle.gptp_setup.specs.declared.timer.Timer.{Timer}
use Rattle.gptp_setup.specs.declared.timer.Timer.TheVariants as timers
use Rattle.gptp_system.specs.declared.answer.Answer.{Answer}
use Rattle.gptp_system.specs.Input.{Expires as TimerExpires, Frame as FrameHeard, Input}
use Rattle.gptp_system.specs.Measures.{HearsPart, IsPartAfter, Part, measure_at, part_heard}
use Rattle.gptp_system.specs.State.{SystemState, clock, stamp_time}
use Rattle.gptp_model.specs.Act.{Calls, Delivers, Hears, TimerRunsOut}
use Rattle.gptp_model.specs.Acts.{Acts}
use Rattle.gptp_model.specs.Agrees.{stopped}
use Rattle.gptp_model.specs.Sound.{HaveOwnClocks}
use Rattle.gptp_model.specs.declared.done.Done.{Done}
use Rattle.gptp_model.specs.declared.station.Station.{Station}
use Rattle.gptp_model.specs.World.{Channel, WorldState, receiver, sender, world_queue}
use Rattle.gptp_pdelay_machine.specs.Asker.{Answered, Asked, Asker, Closed as NoneOpen, Progress as SeenProgress, asker_after_interval, asker_given_up}
use Rattle.gptp_pdelay_machine.specs.Messages.{Reply}
use Rattle.gptp_pdelay_machine.specs.Silence.{AsksInVain, Unanswered}
use Rattle.gptp_invariants.specs.ChoiceSeenLaws.{IsNoChange}
use Rattle.gptp_invariants.specs.ChoiceSettlesAsMachine.{IsWorld}
use Rattle.gptp_invariants.specs.DelayLinkView.{LinkPlace, asker_view, follow_up_view, other_direction, progress_view, reads_as_reply, response_view}
use Rattle.gptp_invariants.specs.DelayMeasured.{LinkIsMeasured}
use Rattle.gptp_invariants.specs.FailedUnanswered.{IsLastAnswered, IsOldBy, IsUnansweredAt, silent_setting, silent_view}
use Rattle.gptp_invariants.proofs.DelayEndLemmas.{HearsWhatFits}
use Rattle.gptp_invariants.proofs.DelayLinkCallLemmas.{asker_timer}
use Rattle.gptp_invariants.proofs.FailedLastAnsweredLemmas.{one_view}
use Rattle.gptp_invariants.proofs.FailedOffLemmas.{gone_by}
use Rattle.gptp_invariants.proofs.FailedUnansweredCallLemmas.{CallStep, LaneShrinks, asker_is, call_seen, relinked, view_stays}
use Rattle.gptp_invariants.proofs.FailedUnansweredDeliveryLemmas.{arrives, asker_hears_seen, flies_there, lane, number_same, step as heard_by}
use Rattle.gptp_invariants.proofs.FailedUnansweredExpiryLemmas.{request_timer_seen}
use Rattle.gptp_invariants.proofs.PortInputLemmas.{IsOfPort}
use Rattle.gptp_invariants.proofs.WorldDueLemmas.{frames_not_late}

-- ---- what a port hears

view_closed : (q : Progress) → progress_view q ≡ NoneOpen → q ≡ progresses.Closed
view_closed progresses.Closed is = refl
view_closed (progresses.Sent request) is = absurd cc
view_closed (progresses.Answered request response) is = absurd cc

-- where no request is open a reply is nothing to the port
response_closed : (m : PdelayResp) (t4 : ℤ) (p : PeerState) → p.progress ≡ progresses.Closed
    → after_response m t4 p ≡ p
response_closed m t4 p closed =
    ap (λ q. option_map_or (λ (progress : Progress). record p { progress = progress }) (answered_by m t4 p.own q) p)
    closed

follow_up_closed : (m : PdelayRespFollowUp) (p : PeerState) → p.progress ≡ progresses.Closed
    → after_follow_up m p ≡ p
follow_up_closed m p closed =
    ap (λ q. option_map_or (λ (one : Measurement). completed one p) (measured_by m p.own p.last p.past q) p) closed

-- Who is seen to ask doesn't become capable by it where no request is open. Where the port isn't capable any more no
-- request is open then.
record HearsReply (a a' : Asker) : Type 0 where
  stays : a.progress ≡ NoneOpen → a' ≡ a
  closes : a.capable ≡ true → a'.capable ≡ false → a'.progress ≡ NoneOpen

same_reply : (a a' : Asker) → a' ≡ a → HearsReply a a'
same_reply a a' same = record {
  stays = λ closed. same;
  closes = λ on off. absurd (let both : true ≡ false = sym on ∙ sym (ap (λ (x : Asker). x.capable) same) ∙ off in cc);
}

response_heard : (m : PdelayResp) (t4 : ℤ) (period : ℕ) (x : Part)
    → HearsReply (asker_view period x) (asker_view period (record x { peer = after_response m t4 x.peer }))
response_heard m t4 period x = record {
  stays = λ closed.
      ap (λ p. asker_view period (record x { peer = p }))
      (response_closed m t4 x.peer (view_closed x.peer.progress closed));
  closes = λ on off. absurd (by (answered_by m t4 x.peer.own x.peer.progress) on off);
}
  where
    by : (o : Option Progress) → is_capable x.peer ≡ true
        → is_capable (option_map_or (λ (progress : Progress). record x.peer { progress = progress }) o x.peer) ≡ false
        → ⊥
    by None on off = let both : true ≡ false = sym on ∙ off in cc
    by (Some progress) on off = let both : true ≡ false = sym on ∙ off in cc

follow_up_heard : (m : PdelayRespFollowUp) (period : ℕ) (x : Part)
    → HearsReply (asker_view period x) (asker_view period (record x { peer = after_follow_up m x.peer }))
follow_up_heard m period x = record {
  stays = λ closed.
      ap (λ p. asker_view period (record x { peer = p }))
      (follow_up_closed m x.peer (view_closed x.peer.progress closed));
  closes = λ on off. by (measured_by m x.peer.own x.peer.last x.peer.past x.peer.progress) on off;
}
  where
    by : (o : Option Measurement) → is_capable x.peer ≡ true
        → is_capable (option_map_or (λ (one : Measurement). completed one x.peer) o x.peer) ≡ false
        → progress_view (option_map_or (λ (one : Measurement). completed one x.peer) o x.peer).progress ≡ NoneOpen
    by None on off = absurd (let both : true ≡ false = sym on ∙ off in cc)
    by (Some one) on off = refl

-- a message is a reply, or leaves what the port asked
message_heard : (s : SystemState) (now period : ℕ) (octets : List ℕ) (m : Message) (x : Part) → Reads octets m
    → (((r : Reply) × reads_as_reply octets r) ⊎ (asker_view period (part_heard s now m x) ≡ asker_view period x))
    × HearsReply (asker_view period x) (asker_view period (part_heard s now m x))
message_heard s now period octets (messages.Sync head) x reads =
    (inr refl, same_reply (asker_view period x) (asker_view period x) refl)
message_heard s now period octets (messages.PdelayReq head) x reads =
    (inr refl, same_reply (asker_view period x) (asker_view period x) refl)
message_heard s now period octets (messages.PdelayResp m) x reads =
    (inl (response_view m, inl (m, reads, refl)), response_heard m (stamp_time s now) period x)
message_heard s now period octets (messages.FollowUp m) x reads =
    (inr refl, same_reply (asker_view period x) (asker_view period x) refl)
message_heard s now period octets (messages.PdelayRespFollowUp m) x reads =
    (inl (follow_up_view m, inr (m, reads, refl)), follow_up_heard m period x)
message_heard s now period octets (messages.Announce a) x reads =
    (inr refl, same_reply (asker_view period x) (asker_view period x) refl)

octets_heard : (s : SystemState) (now period p : ℕ) (octets : List ℕ) (n : ℕ) (x x' : Part)
    → HearsPart s now p octets n x x'
    → ((n ≡ p) × ((r : Reply) × reads_as_reply octets r) × HearsReply (asker_view period x) (asker_view period x'))
    ⊎ (asker_view period x' ≡ asker_view period x)
octets_heard s now period p octets n x x' (inr (unread, same)) = inr (ap (asker_view period) same)
octets_heard s now period p octets n x x' (inl (m, reads, is)) = go (n == p) refl is
  where
    go : (b : Bool) → (n == p) ≡ b → x' ≡ (if b then part_heard s now m x else x)
        → ((n ≡ p) × ((r : Reply) × reads_as_reply octets r) × HearsReply (asker_view period x) (asker_view period x'))
        ⊎ (asker_view period x' ≡ asker_view period x)
    go true here heard =
        let (what, hears) = message_heard s now period octets m x reads in
        elim what [
          | inl reply ↦ inl (
            eqb-true n p here,
            reply,
            subst (λ y. HearsReply (asker_view period x) (asker_view period y)) (sym heard) hears,
          )
          | inr same ↦ inr (ap (asker_view period) heard ∙ same)
        ]
    go false other left = inr (ap (asker_view period) left)

-- ---- what is known of the port there

-- no reply to it is in flight
abbrev pub IsMuteAt : (at : LinkPlace) (w : WorldState) → IsUnansweredAt at w → Type 0
IsMuteAt at w l = (f : Frame) → In f (world_queue (other_direction at.direction) l.channel) → (r : Reply)
    → reads_as_reply f.octets r → ⊥

-- Its last request that is answered isn't later than its last one. Where it isn't capable no request is open, or no
-- reply to it is in flight.
pub record IsOnceOff (sent : ℕ) (at : LinkPlace) (w : WorldState) (l : IsUnansweredAt at w) : Type 0 where
  pub since : sent ≤ (silent_view at w l).asker.asked
  pub done : (silent_view at w l).asker.capable ≡ false
      → ((silent_view at w l).asker.progress ≡ NoneOpen) ⊎ IsMuteAt at w l

-- so it is then, and it isn't capable where it wasn't
pub record GoesOnOff (sent : ℕ) (at : LinkPlace) (w w' : WorldState) (l : IsUnansweredAt at w) : Type 0 where
  pub after : IsUnansweredAt at w'
  pub once : IsOnceOff sent at w' after
  pub off : (silent_view at w l).asker.capable ≡ false → (silent_view at w' after).asker.capable ≡ false

-- a request that is given up makes no port capable
given_up_off : (allowed : ℕ) (a : Asker) → a.capable ≡ false → (asker_given_up allowed a).capable ≡ false
given_up_off allowed a off = by (nat_lt allowed (a.lost + 1))
  where
    by : (many : Bool) → (if many then record a { progress = NoneOpen; measured = false; lost = 0; capable = false }
        else record a { progress = NoneOpen; lost = a.lost + 1 }).capable ≡ false
    by true = refl
    by false = off

asks_off : (allowed : ℕ) (progress : SeenProgress) (a : Asker) → a.capable ≡ false
    → (asker_after_interval allowed progress a).capable ≡ false
asks_off allowed NoneOpen a off = off
asks_off allowed (Asked sequence t1) a off = given_up_off allowed a off
asks_off allowed (Answered sequence source t1 t2 t4) a off = given_up_off allowed a off

module _ (sent : ℕ) (at : LinkPlace) (w w' : WorldState) (last : IsLastAnswered sent at w)
    (once : IsOnceOff sent at w last.link) (after : IsUnansweredAt at w')
    (fewer : (f : Frame) → In f (world_queue (other_direction at.direction) after.channel)
    → In f (world_queue (other_direction at.direction) last.link.channel)) where
  abbrev asker : Asker
  asker = (silent_view at w last.link).asker

  abbrev asker' : Asker
  asker' = (silent_view at w' after).asker

  mute_on : IsMuteAt at w last.link → IsMuteAt at w' after
  mute_on mute f member = mute f (fewer f member)

  -- the port asks as it did
  once_stays : asker' ≡ asker → GoesOnOff sent at w w' last.link
  once_stays same = record {
    after = after;
    once = record {
      since = subst (λ (a : Asker). sent ≤ a.asked) (sym same) once.since;
      done = λ off. elim (once.done (sym (ap (λ (a : Asker). a.capable) same) ∙ off)) [
        | inl closed ↦ inl (ap (λ (a : Asker). a.progress) same ∙ closed)
        | inr mute ↦ inr (mute_on mute)
      ];
    };
    off = λ off. ap (λ (a : Asker). a.capable) same ∙ off;
  }

  -- it asks in vain: what is in flight isn't late, so no reply is in flight any more
  once_asks : 0 < (silent_setting at w last.link).period
      → AsksInVain (silent_setting at w last.link) (silent_view at w last.link) (silent_view at w' after)
      → ((f : Frame) → In f (world_queue (other_direction at.direction) last.link.channel) → w.time ≤ f.due)
      → GoesOnOff sent at w w' last.link
  once_asks some act late = record {
    after = after;
    once = record {
      since =
          let now = act.now in
          let before = once.since in
          subst (λ (a : Asker). sent ≤ a.asked) (sym act.asker) (omega (arith, now, before));
      done = λ is_off. inr (λ f member r says.
          let due = late f (fewer f member) in
          let now = act.now in
          let before = once.since in
          elim (last.replies f (fewer f member) r says) [
            | inl soon ↦ omega (arith, due, now, before, soon, some)
            | inr (asked, soon) ↦ omega (arith, due, now, soon)
          ]);
    };
    off = λ off.
        ap (λ (a : Asker). a.capable) act.asker
        ∙ asks_off (silent_setting at w last.link).allowed asker.progress asker off;
  }

  -- it hears a reply
  once_hears : HearsReply asker asker' → asker'.asked ≡ asker.asked
      → (IsMuteAt at w last.link → ⊥) → GoesOnOff sent at w w' last.link
  once_hears hears asked flies = record {
    after = after;
    once = record {
      since = let before = once.since in omega (arith, asked, before);
      done = λ off'. by asker.capable refl off';
    };
    off = λ off. ap (λ (a : Asker). a.capable) (hears.stays (closed off)) ∙ off;
  }
    where
      closed : asker.capable ≡ false → asker.progress ≡ NoneOpen
      closed off = elim (once.done off) [
        | inl is ↦ is
        | inr mute ↦ absurd (flies mute)
      ]

      by : (capable : Bool) → asker.capable ≡ capable → asker'.capable ≡ false
          → (asker'.progress ≡ NoneOpen) ⊎ IsMuteAt at w' after
      by true on off' = inl (hears.closes on off')
      by false off off' =
          inl (ap (λ (a : Asker). a.progress) (hears.stays (closed off)) ∙ closed off)

-- ---- a call that leaves it as it is

module _ (sent : ℕ) (at : LinkPlace) (place : ℕ) (input : Input) (w : WorldState) (draws : List Draw) (answer : Answer)
    (w' : WorldState) (k : Calls place input w draws answer w') (clocks : HaveOwnClocks w)
    (last : IsLastAnswered sent at w) (once : IsOnceOff sent at w last.link)
    (given : at.asking ≡ place → HearsWhatFits (sender at.direction last.link.channel).port input)
    (leaves : (x : Part) → at.asking ≡ place
    → IsPartAfter last.link.asking.station.system w.time input (sender at.direction last.link.channel).port
    (measure_at last.link.asking.state) x → x ≡ measure_at last.link.asking.state) where
  called : CallStep place input (gone_by at w last.link).0 at w w' last.link
  called =
      call_seen (gone_by at w last.link).0 at place input w draws answer w' k clocks last.link
      (gone_by at w last.link).1 given

  pub once_called : GoesOnOff sent at w w' last.link
  once_called =
      once_stays sent at w w' last once called.after called.fewer
      (ap (λ (u : Unanswered). u.asker) (view_stays called
      (ap (asker_view (interval_of last.link.asking.station.setup.params.pdelay)) (elim called.part [
        | inl own ↦ leaves (measure_at called.after.asking.state) own.0 own.1
        | inr left ↦ left.1
      ]))))

-- so does an input of another port of the link's
pub once_beside : {input : ℕ → Input} → IsOfPort input → (sent : ℕ) (at : LinkPlace) (place : ℕ) (port : PortId)
    (w : WorldState) (draws : List Draw) (answer : Answer) (w' : WorldState)
    (k : Calls place (input port.port) w draws answer w') → clock k.station.system ≡ port.clock → HaveOwnClocks w
    → (last : IsLastAnswered sent at w) → IsOnceOff sent at w last.link → sender at.direction last.link.channel ≢ port
    → GoesOnOff sent at w w' last.link
once_beside {input} of sent at place port w draws answer w' k named clocks last once apart =
    once_called sent at place (input port.port) w draws answer w' k clocks last once
    (λ same. of.fits port.port (sender at.direction last.link.channel).port) (λ x same part.
    of.leaves last.link.asking.station.system w.time port.port (sender at.direction last.link.channel).port
    (measure_at last.link.asking.state) x (λ number_is.
    let one : last.link.asking.station ≡ k.station =
    same_there w.stations place last.link.asking.station k.station
    (ap (slice_get w.stations) (sym same) ∙ last.link.asking.here) k.here in
    let clock_is : (sender at.direction last.link.channel).clock ≡ port.clock =
    sym last.link.asking.named ∙ ap (λ (y : Station). clock y.system) one ∙ named in
    apart (λ i. record { clock = clock_is i; port = number_is i })) part)

-- ---- acts

module _ (sent : ℕ) (at : LinkPlace) (p : SettlingParams) (some : 0 < interval_of p.params.pdelay) (w : WorldState)
    (is : IsWorld p w) (last : IsLastAnswered sent at w) (once : IsOnceOff sent at w last.link) where
  abbrev l : IsUnansweredAt at w
  l = last.link

  abbrev period : ℕ
  period = interval_of l.asking.station.setup.params.pdelay

  abbrev gone : ℕ
  gone = (gone_by at w l).0

  abbrev old : IsOldBy gone at w l
  old = (gone_by at w l).1

  some_here : 0 < (silent_setting at w l).period
  some_here =
      subst (λ (x : Params). 0 < interval_of x.pdelay)
      (sym (is.known.set at.asking l.asking.station l.asking.here).starts.params) some

  not_late : (f : Frame) → In f (world_queue (other_direction at.direction) l.channel) → w.time ≤ f.due
  not_late f = frames_not_late w is.sound at.link (other_direction at.direction) l.channel f l.here

  -- a timer runs out
  module _ (place : ℕ) (timer : Timer) (draws : List Draw) (w' : WorldState)
      (k : TimerRunsOut place timer w draws w') where
    called_step : CallStep place (TimerExpires timer) gone at (stopped place timer w) w' l
    called_step =
        call_seen gone at place (TimerExpires timer) (stopped place timer w) draws k.answer w' k.calls
        is.sound.wired.clocks l old (λ same. tt)

    becomes : ((at.asking ≡ place) × (timer ≡ timers.Pdelay (sender at.direction l.channel).port))
        ⊎ (asker_view period (measure_at called_step.after.asking.state)
        ≡ asker_view period (measure_at l.asking.state))
    becomes = elim called_step.part [
      | inl own ↦ elim (asker_timer l.asking.station.system w.time period timer
          (sender at.direction l.channel).port (measure_at l.asking.state)
          (measure_at called_step.after.asking.state) own.1) [
            | inl asks ↦ inl (own.0, asks.0)
            | inr other ↦ inr other.1.0
          ]
      | inr left ↦ inr (ap (asker_view period) left.1)
    ]

    expired_once : GoesOnOff sent at w w' l
    expired_once = elim becomes [
      | inl own ↦
          let seen = request_timer_seen gone at place timer w draws w' k is.sound l old own.0 own.1 in
          once_asks sent at w w' last once called_step.after called_step.fewer some_here
          (subst (AsksInVain (silent_setting at w l) (silent_view at w l))
          (one_view at w' seen.after called_step.after) seen.so) not_late
      | inr same ↦
          once_stays sent at w w' last once called_step.after called_step.fewer
          (ap (λ (u : Unanswered). u.asker) (view_stays called_step same))
    ]

  -- a frame is delivered
  module _ (link : ℕ) (direction : Direction) (octets : List ℕ) (draws : List Draw) (answer : Option Answer)
      (w' : WorldState) (k : Delivers link direction octets w draws answer w') (measured : LinkIsMeasured w) where
    abbrev emptied : WorldState
    emptied = record w { net = k.net }

    abbrev shrunk : LaneShrinks at w emptied l
    shrunk = lane gone at link direction octets w draws answer w' k is.sound measured l old

    abbrev less : IsUnansweredAt at emptied
    less = relinked at w emptied l shrunk l.asking l.answering

    module _ (told : Answer)
        (calls : Calls k.place (FrameHeard (receiver direction k.channel).port octets) emptied draws told w') where
      heard_step : CallStep k.place (FrameHeard (receiver direction k.channel).port octets) gone at emptied w' less
      heard_step = heard_by gone at link direction octets w draws answer w' k is.sound measured l old told calls

      heard_fewer : (f : Frame) → In f (world_queue (other_direction at.direction) heard_step.after.channel)
          → In f (world_queue (other_direction at.direction) l.channel)
      heard_fewer f member = shrunk.shrinks.fewer f (heard_step.fewer f member)

      left_once : asker_view period (measure_at heard_step.after.asking.state)
          ≡ asker_view period (measure_at l.asking.state) → GoesOnOff sent at w w' l
      left_once same =
          once_stays sent at w w' last once heard_step.after heard_fewer
          (ap (λ (u : Unanswered). u.asker) (view_stays heard_step same))

      -- what the port is seen to ask then
      asker_then : (silent_view at w' heard_step.after).asker
          ≡ asker_view period (measure_at heard_step.after.asking.state)
      asker_then = asker_is heard_step

      heard_once : GoesOnOff sent at w w' l
      heard_once = elim heard_step.part [
        | inl own ↦ elim (octets_heard l.asking.station.system w.time period (receiver direction k.channel).port octets
            (sender at.direction shrunk.new).port (measure_at l.asking.state)
            (measure_at heard_step.after.asking.state) own.1) [
              | inl (number_is, (r, says), hears) ↦
                  let there = arrives gone at link direction octets w draws answer w' k is.sound measured l old own.0
                  (number_same gone at link direction octets w draws answer w' k is.sound measured l old told calls
                  ∙ number_is) in
                  let seen = asker_hears_seen gone at link direction octets w draws answer w' k is.sound measured l old
                  there in
                  let same = one_view at w' seen.after heard_step.after in
                  once_hears sent at w w' last once heard_step.after heard_fewer
                  (subst (HearsReply (silent_view at w l).asker) (sym asker_then) hears)
                  (ap (λ (u : Unanswered). u.asker.asked) (sym same) ∙ seen.so.asked)
                  (λ mute. mute (frame w.time octets)
                  (flies_there gone at link direction octets w draws answer w' k is.sound measured l old there) r says)
              | inr same ↦ left_once same
            ]
        | inr left ↦ left_once (ap (asker_view period) left.1)
      ]

    delivered_once : GoesOnOff sent at w w' l
    delivered_once = by answer k.hears
      where
        by : (a : Option Answer) → Hears k.place (receiver direction k.channel).port octets emptied draws a w'
            → GoesOnOff sent at w w' l
        by (Some told) calls = heard_once told calls
        by None (failed, none, same) =
            subst (λ v. GoesOnOff sent at w v l) (sym same)
            (once_stays sent at w emptied last once less shrunk.shrinks.fewer refl)

pub once_acts : (p : SettlingParams) (sent : ℕ) (at : LinkPlace) (act : Act) (w : WorldState) (draws : List Draw)
    (done : Done) (w' : WorldState) → 0 < interval_of p.params.pdelay → IsNoChange act → Acts act w draws done w'
    → IsWorld p w → LinkIsMeasured w → (last : IsLastAnswered sent at w) → IsOnceOff sent at w last.link
    → GoesOnOff sent at w w' last.link
once_acts p sent at (Deliver link direction) w draws done w' some none k is measured last once =
    delivered_once sent at p some w is last once link direction k.octets draws k.answer w' k.delivers measured
once_acts p sent at (Expire number timer) w draws done w' some none k is measured last once =
    expired_once sent at p some w is last once k.1.place timer draws w' k.1.so
once_acts p sent at (Changing change) w draws done w' some none k is measured last once = absurd none

-- ---- wherever the link is found

pub once_found : (sent : ℕ) (at : LinkPlace) (w : WorldState) (l l' : IsUnansweredAt at w) → IsOnceOff sent at w l
    → IsOnceOff sent at w l'
once_found sent at w l l' once =
    let same = one_view at w l l' in
    let channel : l.channel ≡ l'.channel =
    same_there w.net.channels at.link l.channel l'.channel l.here l'.here in
    record {
      since = subst (λ (u : Unanswered). sent ≤ u.asker.asked) same once.since;
      done = λ off. elim (once.done (ap (λ (u : Unanswered). u.asker.capable) same ∙ off)) [
        | inl closed ↦ inl (sym (ap (λ (u : Unanswered). u.asker.progress) same) ∙ closed)
        | inr mute ↦ inr (λ f member.
            mute f (subst (λ (c : Channel). In f (world_queue (other_direction at.direction) c)) (sym channel) member))
      ];
    }
