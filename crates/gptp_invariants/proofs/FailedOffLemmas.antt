-- A port beside a failed system that isn't capable, and to which no reply is in flight, stays so, whatever is done.
use Rattle.std.proofs.Common.{◌≡◌, ◌≤◌, ℕ, false, List, [], ◌∷◌, Option, Some, None, sym, subst, ◌∙◌, inl, inr, arith}
use Rattle.std.specs.Prelude.{max}
use Rattle.gptp_lists.specs.Members.{In}
use Rattle.gptp_links.specs.declared.link.Direction.{Direction}
use Rattle.gptp_links.specs.Fate.{Draw}
use Rattle.gptp_links.specs.Queue.{Frame, frame}
use Rattle.gptp_pdelay.specs.Peer.{is_capable}
use Rattle.gptp_scenario.specs.declared.change.Act.{Act}
use Rattle.gptp_scenario.specs.declared.change.Act.TheVariants.{Deliver, Expire, Change as Changing}
use Rattle.gptp_setup.specs.declared.timer.Timer.{Timer}
use Rattle.gptp_system.specs.declared.answer.Answer.{Answer}
use Rattle.gptp_system.specs.Input.{Expires as TimerExpires, Frame as FrameHeard, Input}
use Rattle.gptp_system.specs.Measures.{Part, measure_at}
use Rattle.gptp_model.specs.Act.{Calls, Delivers, Hears, TimerRunsOut}
use Rattle.gptp_model.specs.Acts.{Acts, at as at_time}
use Rattle.gptp_model.specs.Changing.{CallsIfLive}
use Rattle.gptp_model.specs.declared.done.Done.{Done}
use Rattle.gptp_model.specs.Sound.{HaveOwnClocks, IsSound}
use Rattle.gptp_model.specs.World.{WorldState, receiver, sender, world_queue}
use Rattle.gptp_invariants.specs.ChoiceSeenLaws.{IsNoChange}
use Rattle.gptp_invariants.specs.DelayLinkView.{LinkPlace, other_direction}
use Rattle.gptp_invariants.specs.DelayMeasured.{LinkIsMeasured}
use Rattle.gptp_invariants.specs.FailedUnanswered.{IsOff, IsOldBy, IsUnansweredAt}
use Rattle.gptp_invariants.proofs.DelayEndLemmas.{HearsWhatFits}
use Rattle.gptp_invariants.proofs.FailedUnansweredCallLemmas.{CallStep, call_seen, relinked}
use Rattle.gptp_invariants.proofs.FailedUnansweredDeliveryLemmas.{arrives, flies_there, lane, number_same, step}
use Rattle.gptp_invariants.proofs.UnmeasuredLemmas.{IsMuteTo, part_off}

-- what is in flight is all due by some time
due_by : (fs : List Frame) → (gone : ℕ) × ((f : Frame) → In f fs → f.due ≤ gone)
due_by [] = (0, λ f member. absurd member)
due_by (g ∷ fs) =
    let (gone, all) = due_by fs in (
      max g.due gone,
      λ f member. elim member [
        | inl same ↦ (let due : f.due ≤ g.due = subst (λ (x : Frame). f.due ≤ x.due) same (omega arith) in
            omega (arith, due))
        | inr among ↦ (let one = all f among in omega (arith, one))
      ],
    )

-- from the failed end nothing comes later than at this time
pub gone_by : (at : LinkPlace) (w : WorldState) (l : IsUnansweredAt at w) → (gone : ℕ) × IsOldBy gone at w l
gone_by at w l = due_by (world_queue (other_direction at.direction) l.channel)

-- ---- a call

module _ (at : LinkPlace) (place : ℕ) (input : Input) (w : WorldState) (draws : List Draw) (answer : Answer)
    (w' : WorldState) (k : Calls place input w draws answer w') (clocks : HaveOwnClocks w) (is : IsOff at w)
    (given : at.asking ≡ place → HearsWhatFits (sender at.direction is.link.channel).port input)
    (mute : at.asking ≡ place → IsMuteTo (sender at.direction is.link.channel).port input) where
  called : CallStep place input (gone_by at w is.link).0 at w w' is.link
  called =
      call_seen (gone_by at w is.link).0 at place input w draws answer w' k clocks is.link (gone_by at w is.link).1
      given

  pub off_called : IsOff at w'
  off_called = record {
    link = called.after;
    mute = λ f member. is.mute f (called.fewer f member);
    off = elim called.part [
      | inl own ↦
          part_off is.link.asking.station.system w.time input (sender at.direction is.link.channel).port
          (measure_at is.link.asking.state) (measure_at called.after.asking.state) (mute own.0) own.1 is.off
      | inr left ↦ subst (λ (x : Part). is_capable x.peer ≡ false) (sym left.1) is.off
    ];
  }

-- an input that is no frame, where the system lives
pub off_told : (at : LinkPlace) (place : ℕ) (input : Input) → ((n : ℕ) → HearsWhatFits n input)
    → ((n : ℕ) → IsMuteTo n input) → (w : WorldState) (draws : List Draw) (w' : WorldState) → HaveOwnClocks w
    → IsOff at w → CallsIfLive place input w draws w' → IsOff at w'
off_told at place input fits mute w draws w' clocks is (inl (answer, k)) =
    off_called at place input w draws answer w' k clocks is
    (λ same. fits (sender at.direction is.link.channel).port)
    (λ same. mute (sender at.direction is.link.channel).port)
off_told at place input fits mute w draws w' clocks is (inr (failed, none, same)) =
    subst (IsOff at) (sym same) is

-- ---- acts

module _ (at : LinkPlace) (link : ℕ) (direction : Direction) (octets : List ℕ) (w : WorldState) (draws : List Draw)
    (answer : Option Answer) (w' : WorldState) (k : Delivers link direction octets w draws answer w')
    (sound : IsSound w) (measured : LinkIsMeasured w) (is : IsOff at w) where
  abbrev l : IsUnansweredAt at w
  l = is.link

  abbrev gone : ℕ
  gone = (gone_by at w l).0

  abbrev old : IsOldBy gone at w l
  old = (gone_by at w l).1

  abbrev emptied : WorldState
  emptied = record w { net = k.net }

  abbrev fewer : (f : Frame)
      → In f (world_queue (other_direction at.direction)
      (lane gone at link direction octets w draws answer w' k sound measured l old).new)
      → In f (world_queue (other_direction at.direction) l.channel)
  fewer = (lane gone at link direction octets w draws answer w' k sound measured l old).shrinks.fewer

  unheard : IsOff at emptied
  unheard = record {
    link = relinked at w emptied l (lane gone at link direction octets w draws answer w' k sound measured l old)
        l.asking l.answering;
    mute = λ f member. is.mute f (fewer f member);
    off = is.off;
  }

  module _ (told : Answer)
      (calls : Calls k.place (FrameHeard (receiver direction k.channel).port octets) emptied draws told w') where
    heard_step : CallStep k.place (FrameHeard (receiver direction k.channel).port octets) gone at emptied w'
        (relinked at w emptied l (lane gone at link direction octets w draws answer w' k sound measured l old)
        l.asking l.answering)
    heard_step = step gone at link direction octets w draws answer w' k sound measured l old told calls

    heard : IsOff at w'
    heard = record {
      link = heard_step.after;
      mute = λ f member. is.mute f (fewer f (heard_step.fewer f member));
      off = elim heard_step.part [
        | inl own ↦
            part_off l.asking.station.system w.time (FrameHeard (receiver direction k.channel).port octets)
            (sender at.direction (lane gone at link direction octets w draws answer w' k sound measured l old).new).port
            (measure_at l.asking.state) (measure_at heard_step.after.asking.state)
            (λ number.
            is.mute (frame w.time octets)
            (flies_there gone at link direction octets w draws answer w' k sound measured l old
            (arrives gone at link direction octets w draws answer w' k sound measured l old own.0
            (number_same gone at link direction octets w draws answer w' k sound measured l old told calls ∙ number))))
            own.1 is.off
        | inr left ↦ subst (λ (x : Part). is_capable x.peer ≡ false) (sym left.1) is.off
      ];
    }

  off_delivered : IsOff at w'
  off_delivered = by answer k.hears
    where
      by : (a : Option Answer) → Hears k.place (receiver direction k.channel).port octets emptied draws a w'
          → IsOff at w'
      by (Some told) calls = heard told calls
      by None (failed, none, same) = subst (IsOff at) (sym same) unheard

off_expired : (at : LinkPlace) (place : ℕ) (timer : Timer) (w : WorldState) (draws : List Draw) (w' : WorldState)
    → TimerRunsOut place timer w draws w' → HaveOwnClocks w → IsOff at w → IsOff at w'
off_expired at place timer w draws w' k clocks is =
    off_called at place (TimerExpires timer) _ draws k.answer w' k.calls clocks
    (record { link = is.link; mute = is.mute; off = is.off }) (λ same. tt) (λ same. tt)

pub off_acts : (at : LinkPlace) (act : Act) (w : WorldState) (draws : List Draw) (done : Done) (w' : WorldState)
    → IsNoChange act → Acts act w draws done w' → IsSound w → LinkIsMeasured w → IsOff at w
    → IsOff at w'
off_acts at (Deliver link direction) w draws done w' none k sound measured is =
    off_delivered at link direction k.octets w draws k.answer w' k.delivers sound measured is
off_acts at (Expire number timer) w draws done w' none k sound measured is =
    off_expired at k.1.place timer w draws w' k.1.so sound.wired.clocks is
off_acts at (Changing change) w draws done w' none k sound measured is = absurd none

-- ---- what leaves it as it is

-- time passes, and a change is counted
pub off_later : (at : LinkPlace) (time : ℕ) (w : WorldState) → IsOff at w
    → IsOff at (at_time time w)
off_later at time w is = record { link = is.link; mute = is.mute; off = is.off }

pub off_changed : (at : LinkPlace) (w : WorldState) → IsOff at w
    → IsOff at (record w { last_change = w.time })
off_changed at w is = record { link = is.link; mute = is.mute; off = is.off }
