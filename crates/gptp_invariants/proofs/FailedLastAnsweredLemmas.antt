-- A port beside a failed system, by the last of its requests that is answered: once as many intervals between requests
-- have passed since then as requests may be lost, and two more, it is off.
use Rattle.std.proofs.Common.{◌≡◌, ◌≢◌, ◌⊎◌, ◌≤◌, ◌<◌, ◌+◌, ◌*◌, ◌==◌, ℕ, Bool, true, false, List, Option, Some, None, slice_get, refl, sym, ap, subst, ◌∙◌, inl, inr, arith, eqb-true}
use Rattle.std.specs.Prelude.{if◌then◌else◌}
use Rattle.std.proofs.Math.Nat.{mul-le-mul_right}
use Rattle.gptp_lists.specs.Members.{In}
use Rattle.gptp_lists.proofs.MappedLemmas.{same_there, some_same}
use Rattle.gptp_vector.specs.declared.port.PortId.{PortId}
use Rattle.gptp_messages.specs.Grammar.{Reads}
use Rattle.gptp_messages.specs.declared.message.Message.{Message}
use Rattle.gptp_messages.specs.declared.message.Message.TheVariants as messages
use Rattle.gptp_links.specs.declared.link.Direction.{Direction}
use Rattle.gptp_links.specs.Fate.{Draw}
use Rattle.gptp_links.specs.Queue.{Frame, frame}
use Rattle.gptp_pdelay.specs.Peer.{is_capable}
use Rattle.gptp_scenario.specs.declared.change.Act.{Act}
use Rattle.gptp_scenario.specs.declared.change.Act.TheVariants.{Deliver, Expire, Change as Changing}
use Rattle.gptp_scenario.specs.SettlingTime.{silence_span}
use Rattle.gptp_setup.specs.Intervals.{interval_of}
use Rattle.gptp_setup.specs.SettlingParams.{SettlingParams}
use Rattle.gptp_setup.specs.declared.setup.Params.{Params}
use Rattle.gptp_setup.specs.declared.timer.Timer.{Timer}
use Rattle.gptp_setup.specs.declared.timer.Timer.TheVariants as timers
use Rattle.gptp_system.specs.declared.answer.Answer.{Answer}
use Rattle.gptp_system.specs.Input.{Expires as TimerExpires, Frame as FrameHeard, Input}
use Rattle.gptp_system.specs.Measures.{HearsPart, IsPartAfter, Part, measure_at, part_heard}
use Rattle.gptp_system.specs.State.{SystemState, clock, number}
use Rattle.gptp_model.specs.Act.{Calls, Delivers, Hears, TimerRunsOut}
use Rattle.gptp_model.specs.Acts.{Acts, at as at_time}
use Rattle.gptp_model.specs.Agrees.{stopped}
use Rattle.gptp_model.specs.Changing.{CallsIfLive}
use Rattle.gptp_model.specs.Sound.{HaveOwnClocks}
use Rattle.gptp_model.specs.declared.done.Done.{Done}
use Rattle.gptp_model.specs.declared.station.Station.{Station}
use Rattle.gptp_model.specs.World.{WorldState, receiver, sender, world_queue}
use Rattle.gptp_pdelay_machine.specs.Asker.{Asker}
use Rattle.gptp_pdelay_machine.specs.Messages.{Reply}
use Rattle.gptp_pdelay_machine.specs.Setting.{Setting}
use Rattle.gptp_pdelay_machine.specs.Silence.{AsksInVain, InvUnanswered, TimerFacts, Unanswered}
use Rattle.gptp_pdelay_machine.proofs.SilenceLemmas.{incapable_from_gone, unanswered_begins, unanswered_kept, unanswered_later}
use Rattle.gptp_invariants.specs.ChoiceSeenLaws.{IsNoChange}
use Rattle.gptp_invariants.specs.ChoiceSettlesAsMachine.{IsWorld}
use Rattle.gptp_invariants.specs.DelayLinkView.{LinkPlace, asker_view, follow_up_view, other_direction, reads_as_reply, response_view, setting_view}
use Rattle.gptp_invariants.specs.DelayMeasured.{LinkIsMeasured}
use Rattle.gptp_invariants.specs.FailedUnanswered.{IsLastAnswered, IsLastReply, IsOff, IsOldBy, IsSilent, IsUnansweredAt, silent_setting, silent_view}
use Rattle.gptp_invariants.proofs.DelayEndLemmas.{HearsWhatFits}
use Rattle.gptp_invariants.proofs.DelayLinkCallLemmas.{asker_timer}
use Rattle.gptp_invariants.proofs.PortInputLemmas.{IsOfPort}
use Rattle.gptp_invariants.proofs.FailedOffLemmas.{gone_by}
use Rattle.gptp_invariants.proofs.FailedUnansweredCallLemmas.{CallStep, LaneShrinks, call_seen, relinked, relinked_settled, view_stays}
use Rattle.gptp_invariants.proofs.FailedUnansweredDeliveryLemmas.{arrives, asker_hears_seen, flies_there, lane, number_same, step as heard_by}
use Rattle.gptp_invariants.proofs.FailedUnansweredExpiryLemmas.{request_timer_seen}
use Rattle.gptp_invariants.proofs.FailedUnansweredStandLemmas.{timers_known}
use Rattle.gptp_invariants.proofs.WorldDueLemmas.{frames_not_late}

-- ---- what is seen there

-- it doesn't depend on how it is found
module _ (at : LinkPlace) (w : WorldState) (l l' : IsUnansweredAt at w) where
  same_channel : l.channel ≡ l'.channel
  same_channel = same_there w.net.channels at.link l.channel l'.channel l.here l'.here

  same_asking : l.asking.station ≡ l'.asking.station
  same_asking =
      same_there w.stations at.asking l.asking.station l'.asking.station l.asking.here l'.asking.here

  same_state : l.asking.state ≡ l'.asking.state
  same_state =
      some_same l.asking.state l'.asking.state
      (sym l.asking.there
      ∙ (λ i. number (same_asking i).system.ports (sender at.direction (same_channel i)).port) ∙ l'.asking.there)

  same_answering : l.answering.station ≡ l'.answering.station
  same_answering =
      same_there w.stations at.answering l.answering.station l'.answering.station l.answering.here l'.answering.here

  pub one_setting : silent_setting at w l ≡ silent_setting at w l'
  one_setting = λ i. setting_view at.direction (same_channel i) (same_asking i).setup (same_answering i).setup

  pub one_view : silent_view at w l ≡ silent_view at w l'
  one_view = λ i. record {
    time = w.time;
    asker = asker_view (interval_of (same_asking i).setup.params.pdelay) (measure_at (same_state i));
  }

-- where old frames are gone by a time, the last request that is answered went by then
pub silent_last : (gone : ℕ) (at : LinkPlace) (w : WorldState) → IsSilent gone at w → IsLastAnswered gone at w
silent_last gone at w is = record {
  link = is.link;
  replies = λ f member r says. inl (is.old f member);
  inv = is.inv;
}

-- ---- what leaves no more in flight from the failed end

module _ (sent : ℕ) (at : LinkPlace) (w w' : WorldState) (last : IsLastAnswered sent at w)
    (after : IsUnansweredAt at w') (settled : silent_setting at w' after ≡ silent_setting at w last.link)
    (fewer : (f : Frame) → In f (world_queue (other_direction at.direction) after.channel)
    → In f (world_queue (other_direction at.direction) last.link.channel)) where
  abbrev k : Setting
  k = silent_setting at w last.link

  abbrev asker : Asker
  asker = (silent_view at w last.link).asker

  abbrev u' : Unanswered
  u' = silent_view at w' after

  last_then : ((f : Frame) → In f (world_queue (other_direction at.direction) after.channel) → (r : Reply)
      → reads_as_reply f.octets r → IsLastReply k sent u'.asker f.due)
      → InvUnanswered k sent u' → IsLastAnswered sent at w'
  last_then replies inv = record {
    link = after;
    replies = λ f member r says.
        subst (λ (x : Setting). IsLastReply x sent u'.asker f.due) (sym settled) (replies f member r says);
    inv = subst (λ (x : Setting). InvUnanswered x sent u') (sym settled) inv;
  }

  -- the port asks as it did
  pub last_stays : u'.asker ≡ asker → IsLastAnswered sent at w'
  last_stays same =
      last_then
      (λ f member r says.
      subst (λ a. IsLastReply k sent a f.due) (sym same) (last.replies f (fewer f member) r says))
      (subst (λ a. InvUnanswered k sent (record { time = w'.time; asker = a })) (sym same)
      (unanswered_later k sent w'.time (silent_view at w last.link) last.inv))

  -- it asks in vain: what is in flight then isn't late, so no reply to the request before is
  last_asks : TimerFacts k (silent_view at w last.link) → AsksInVain k (silent_view at w last.link) u'
      → ((f : Frame) → In f (world_queue (other_direction at.direction) last.link.channel) → w.time ≤ f.due)
      → IsLastAnswered sent at w'
  last_asks facts act late =
      last_then
      (λ f member r says.
      inl (let due = late f (fewer f member) in
      let now : asker.asked + k.period ≡ w.time = act.now in
      elim (last.replies f (fewer f member) r says) [
        | inl soon ↦ soon
        | inr (asked, soon) ↦ absurd (omega (arith, due, now, soon))
      ]))
      (unanswered_kept k sent (silent_view at w last.link) u' facts (inl act) last.inv)

  -- it hears a reply, whatever that does to the exchange: it sends no request, and loses none
  last_hears : TimerFacts k (silent_view at w last.link) → IsLastReply k sent asker w.time
      → u'.asker.asked ≡ asker.asked → u'.asker.lost ≤ asker.lost → IsLastAnswered sent at w'
  last_hears facts reply asked fewer_lost =
      let before : asker.asked ≤ w.time = facts.asked in
      let sent_by : asker.asked ≤ sent = elim reply [
        | inl soon ↦ omega (arith, before, soon)
        | inr (by, soon) ↦ by
      ] in
      let lost : asker.lost ≤ k.allowed = last.inv.lost in
      last_then
      (λ f member r says. elim (last.replies f (fewer f member) r says) [
        | inl soon ↦ inl soon
        | inr (by, soon) ↦ inr (omega (arith, asked, by), omega (arith, asked, soon))
      ])
      (unanswered_begins k sent u' (omega (arith, lost, fewer_lost)) (omega (arith, asked, sent_by)))

-- ---- what is heard

-- it is a reply, or what the port asked stands as it did
message_heard : (s : SystemState) (now period : ℕ) (octets : List ℕ) (m : Message) (x : Part) → Reads octets m
    → ((r : Reply) × reads_as_reply octets r) ⊎ (asker_view period (part_heard s now m x) ≡ asker_view period x)
message_heard s now period octets (messages.Sync head) x reads = inr refl
message_heard s now period octets (messages.PdelayReq head) x reads = inr refl
message_heard s now period octets (messages.PdelayResp m) x reads = inl (response_view m, inl (m, reads, refl))
message_heard s now period octets (messages.FollowUp m) x reads = inr refl
message_heard s now period octets (messages.PdelayRespFollowUp m) x reads =
    inl (follow_up_view m, inr (m, reads, refl))
message_heard s now period octets (messages.Announce a) x reads = inr refl

octets_heard : (s : SystemState) (now period p : ℕ) (octets : List ℕ) (n : ℕ) (x x' : Part)
    → HearsPart s now p octets n x x'
    → ((n ≡ p) × ((r : Reply) × reads_as_reply octets r)) ⊎ (asker_view period x' ≡ asker_view period x)
octets_heard s now period p octets n x x' (inr (unread, same)) = inr (ap (asker_view period) same)
octets_heard s now period p octets n x x' (inl (m, reads, is)) = go (n == p) refl is
  where
    go : (b : Bool) → (n == p) ≡ b → x' ≡ (if b then part_heard s now m x else x)
        → ((n ≡ p) × ((r : Reply) × reads_as_reply octets r)) ⊎ (asker_view period x' ≡ asker_view period x)
    go true here heard = elim (message_heard s now period octets m x reads) [
      | inl reply ↦ inl (eqb-true n p here, reply)
      | inr same ↦ inr (ap (asker_view period) heard ∙ same)
    ]
    go false other left = inr (ap (asker_view period) left)

-- ---- a call

-- it leaves the port as it is

module _ (sent : ℕ) (at : LinkPlace) (place : ℕ) (input : Input) (w : WorldState) (draws : List Draw) (answer : Answer)
    (w' : WorldState) (k : Calls place input w draws answer w') (clocks : HaveOwnClocks w)
    (last : IsLastAnswered sent at w)
    (given : at.asking ≡ place → HearsWhatFits (sender at.direction last.link.channel).port input)
    (leaves : (x : Part) → at.asking ≡ place
    → IsPartAfter last.link.asking.station.system w.time input (sender at.direction last.link.channel).port
    (measure_at last.link.asking.state) x → x ≡ measure_at last.link.asking.state) where
  called : CallStep place input (gone_by at w last.link).0 at w w' last.link
  called =
      call_seen (gone_by at w last.link).0 at place input w draws answer w' k clocks last.link
      (gone_by at w last.link).1 given

  pub last_called : IsLastAnswered sent at w'
  last_called =
      last_stays sent at w w' last called.after called.settled called.fewer
      (ap (λ (u : Unanswered). u.asker) (view_stays called
      (ap (asker_view (interval_of last.link.asking.station.setup.params.pdelay)) (elim called.part [
        | inl own ↦ leaves (measure_at called.after.asking.state) own.0 own.1
        | inr left ↦ left.1
      ]))))

-- so does an input of another port of the link's
pub last_beside : {input : ℕ → Input} → IsOfPort input → (sent : ℕ) (at : LinkPlace) (place : ℕ) (port : PortId)
    (w : WorldState) (draws : List Draw) (answer : Answer) (w' : WorldState)
    (k : Calls place (input port.port) w draws answer w') → clock k.station.system ≡ port.clock → HaveOwnClocks w
    → (last : IsLastAnswered sent at w) → sender at.direction last.link.channel ≢ port → IsLastAnswered sent at w'
last_beside {input} of sent at place port w draws answer w' k named clocks last apart =
    last_called sent at place (input port.port) w draws answer w' k clocks last
    (λ same. of.fits port.port (sender at.direction last.link.channel).port) (λ x same part.
    of.leaves last.link.asking.station.system w.time port.port (sender at.direction last.link.channel).port
    (measure_at last.link.asking.state) x (λ number_is.
    let one : last.link.asking.station ≡ k.station =
    same_there w.stations place last.link.asking.station k.station
    (ap (slice_get w.stations) (sym same) ∙ last.link.asking.here) k.here in
    let clock_is : (sender at.direction last.link.channel).clock ≡ port.clock =
    sym last.link.asking.named ∙ ap (λ (y : Station). clock y.system) one ∙ named in
    apart (λ i. record { clock = clock_is i; port = number_is i })) part)

-- an input that touches no port, where the system lives
pub last_told : (sent : ℕ) (at : LinkPlace) (place : ℕ) (input : Input) → ((n : ℕ) → HearsWhatFits n input)
    → ((s : SystemState) (now n : ℕ) (x x' : Part) → IsPartAfter s now input n x x' → x' ≡ x)
    → (w : WorldState) (draws : List Draw) (w' : WorldState) → HaveOwnClocks w
    → IsLastAnswered sent at w → CallsIfLive place input w draws w' → IsLastAnswered sent at w'
last_told sent at place input fits leaves w draws w' clocks last (inl (answer, k)) =
    last_called sent at place input w draws answer w' k clocks last
    (λ same. fits (sender at.direction last.link.channel).port)
    (λ x same.
    leaves last.link.asking.station.system w.time (sender at.direction last.link.channel).port
    (measure_at last.link.asking.state) x)
last_told sent at place input fits leaves w draws w' clocks last (inr (failed, none, same)) =
    subst (IsLastAnswered sent at) (sym same) last

-- ---- acts

module _ (sent : ℕ) (at : LinkPlace) (p : SettlingParams) (w : WorldState) (is : IsWorld p w)
    (last : IsLastAnswered sent at w) where
  abbrev l : IsUnansweredAt at w
  l = last.link

  abbrev period : ℕ
  period = interval_of l.asking.station.setup.params.pdelay

  abbrev gone : ℕ
  gone = (gone_by at w l).0

  abbrev old : IsOldBy gone at w l
  old = (gone_by at w l).1

  facts : TimerFacts (silent_setting at w l) (silent_view at w l)
  facts = timers_known at p w l is.sound is.known

  not_late : (f : Frame) → In f (world_queue (other_direction at.direction) l.channel) → w.time ≤ f.due
  not_late f = frames_not_late w is.sound at.link (other_direction at.direction) l.channel f l.here

  -- a timer runs out: it is the port's Pdelay timer, or what the port asked stands as it did
  module _ (place : ℕ) (timer : Timer) (draws : List Draw) (w' : WorldState)
      (k : TimerRunsOut place timer w draws w') where
    called_step : CallStep place (TimerExpires timer) gone at (stopped place timer w) w' l
    called_step =
        call_seen gone at place (TimerExpires timer) (stopped place timer w) draws k.answer w' k.calls
        is.sound.wired.clocks l old (λ same. tt)

    becomes : ((at.asking ≡ place) × (timer ≡ timers.Pdelay (sender at.direction l.channel).port))
        ⊎ (asker_view period (measure_at called_step.after.asking.state)
        ≡ asker_view period (measure_at l.asking.state))
    becomes = elim called_step.part [
      | inl called ↦ elim (asker_timer l.asking.station.system w.time period timer
          (sender at.direction l.channel).port (measure_at l.asking.state)
          (measure_at called_step.after.asking.state) called.1) [
            | inl own ↦ inl (called.0, own.0)
            | inr other ↦ inr other.1.0
          ]
      | inr left ↦ inr (ap (asker_view period) left.1)
    ]

    expired_last : IsLastAnswered sent at w'
    expired_last = elim becomes [
      | inl own ↦
          let seen = request_timer_seen gone at place timer w draws w' k is.sound l old own.0 own.1 in
          last_asks sent at w w' last called_step.after called_step.settled called_step.fewer facts
          (subst (AsksInVain (silent_setting at w l) (silent_view at w l))
          (one_view at w' seen.after called_step.after) seen.so) not_late
      | inr same ↦
          last_stays sent at w w' last called_step.after called_step.settled called_step.fewer
          (ap (λ (u : Unanswered). u.asker) (view_stays called_step same))
    ]

  -- a frame is delivered
  module _ (link : ℕ) (direction : Direction) (octets : List ℕ) (draws : List Draw) (answer : Option Answer)
      (w' : WorldState) (k : Delivers link direction octets w draws answer w') (measured : LinkIsMeasured w) where
    abbrev emptied : WorldState
    emptied = record w { net = k.net }

    abbrev shrunk : LaneShrinks at w emptied l
    shrunk = lane gone at link direction octets w draws answer w' k is.sound measured l old

    abbrev less : IsUnansweredAt at emptied
    less = relinked at w emptied l shrunk l.asking l.answering

    less_settled : silent_setting at emptied less ≡ silent_setting at w l
    less_settled = relinked_settled at w emptied l shrunk l.asking l.answering refl refl

    unheard_last : IsLastAnswered sent at emptied
    unheard_last = last_stays sent at w emptied last less less_settled shrunk.shrinks.fewer refl

    module _ (told : Answer)
        (calls : Calls k.place (FrameHeard (receiver direction k.channel).port octets) emptied draws told w') where
      heard_step : CallStep k.place (FrameHeard (receiver direction k.channel).port octets) gone at emptied w' less
      heard_step = heard_by gone at link direction octets w draws answer w' k is.sound measured l old told calls

      heard_fewer : (f : Frame) → In f (world_queue (other_direction at.direction) heard_step.after.channel)
          → In f (world_queue (other_direction at.direction) l.channel)
      heard_fewer f member = shrunk.shrinks.fewer f (heard_step.fewer f member)

      left_last : asker_view period (measure_at heard_step.after.asking.state)
          ≡ asker_view period (measure_at l.asking.state) → IsLastAnswered sent at w'
      left_last same =
          last_stays sent at w w' last heard_step.after (heard_step.settled ∙ less_settled) heard_fewer
          (ap (λ (u : Unanswered). u.asker) (view_stays heard_step same))

      heard_last : IsLastAnswered sent at w'
      heard_last = elim heard_step.part [
        | inl own ↦ elim (octets_heard l.asking.station.system w.time period (receiver direction k.channel).port octets
            (sender at.direction shrunk.new).port (measure_at l.asking.state)
            (measure_at heard_step.after.asking.state) own.1) [
              | inl reply ↦
                  let (number_is, (r, says)) = reply in
                  let there = arrives gone at link direction octets w draws answer w' k is.sound measured l old own.0
                  (number_same gone at link direction octets w draws answer w' k is.sound measured l old told calls
                  ∙ number_is) in
                  let seen = asker_hears_seen gone at link direction octets w draws answer w' k is.sound measured l old
                  there in
                  let same = one_view at w' seen.after heard_step.after in
                  last_hears sent at w w' last heard_step.after (heard_step.settled ∙ less_settled) heard_fewer facts
                  (last.replies (frame w.time octets)
                  (flies_there gone at link direction octets w draws answer w' k is.sound measured l old there) r says)
                  (ap (λ (u : Unanswered). u.asker.asked) (sym same) ∙ seen.so.asked)
                  (subst (λ (u : Unanswered). u.asker.lost ≤ (silent_view at w l).asker.lost) same seen.so.lost)
              | inr same ↦ left_last same
            ]
        | inr left ↦ left_last (ap (asker_view period) left.1)
      ]

    delivered_last : IsLastAnswered sent at w'
    delivered_last = by answer k.hears
      where
        by : (a : Option Answer) → Hears k.place (receiver direction k.channel).port octets emptied draws a w'
            → IsLastAnswered sent at w'
        by (Some told) calls = heard_last told calls
        by None (failed, none, same) = subst (IsLastAnswered sent at) (sym same) unheard_last

  -- ---- it is off in the end

  pub last_off : sent + silence_span p < w.time → IsOff at w
  last_off late = record {
    link = l;
    mute = λ f member r says.
        let due = not_late f member in
        let some : 1 * interval_of p.params.pdelay ≤ silence_span p =
        mul-le-mul_right (interval_of p.params.pdelay) (omega arith) in
        let one : (silent_setting at w l).period ≡ interval_of p.params.pdelay =
        ap (λ (x : Params). interval_of x.pdelay) set_to in
        elim (last.replies f member r says) [
          | inl soon ↦ absurd (omega (arith, due, late, soon))
          | inr (asked, soon) ↦ absurd (omega (arith, due, late, asked, soon, some, one))
        ];
    off = by (is_capable l.asking.state.peer) refl;
  }
    where
      set_to : l.asking.station.setup.params ≡ p.params
      set_to = (is.known.set at.asking l.asking.station l.asking.here).starts.params

      late_here : sent + ((silent_setting at w l).allowed + 2) * (silent_setting at w l).period < w.time
      late_here = subst (λ (x : Params). sent + (x.lost + 2) * interval_of x.pdelay < w.time) (sym set_to) late

      by : (capable : Bool) → is_capable l.asking.state.peer ≡ capable → is_capable l.asking.state.peer ≡ false
      by true capable =
          absurd (incapable_from_gone (silent_setting at w l) sent (silent_view at w l) facts last.inv late_here
          capable)
      by false other = other

pub last_acts : (p : SettlingParams) (sent : ℕ) (at : LinkPlace) (act : Act) (w : WorldState) (draws : List Draw)
    (done : Done) (w' : WorldState) → IsNoChange act → Acts act w draws done w' → IsWorld p w → LinkIsMeasured w
    → IsLastAnswered sent at w → IsLastAnswered sent at w'
last_acts p sent at (Deliver link direction) w draws done w' none k is measured last =
    delivered_last sent at p w is last link direction k.octets draws k.answer w' k.delivers measured
last_acts p sent at (Expire number timer) w draws done w' none k is measured last =
    expired_last sent at p w is last k.1.place timer draws w' k.1.so
last_acts p sent at (Changing change) w draws done w' none k is measured last = absurd none

-- ---- what leaves it as it is

-- time passes, and a change is counted
pub last_later : (sent : ℕ) (at : LinkPlace) (time : ℕ) (w : WorldState) → IsLastAnswered sent at w
    → IsLastAnswered sent at (at_time time w)
last_later sent at time w last = record {
  link = last.link;
  replies = last.replies;
  inv = unanswered_later (silent_setting at w last.link) sent time (silent_view at w last.link) last.inv;
}

pub last_changed : (sent : ℕ) (at : LinkPlace) (w : WorldState) → IsLastAnswered sent at w
    → IsLastAnswered sent at (record w { last_change = w.time })
last_changed sent at w last = record { link = last.link; replies = last.replies; inv = last.inv }
