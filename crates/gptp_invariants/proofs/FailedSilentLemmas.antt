-- From the last change on a port whose link's other end has failed is unanswered, and stops being capable.
use Rattle.std.proofs.Common.{◌≡◌, ◌≤◌, ◌+◌, ◌*◌, ℕ, zero, suc, Bool, true, false, Some, refl, sym, subst, arith}
use Rattle.std.proofs.lemmas.Option.{none-some}
use Rattle.gptp_vector.specs.declared.port.PortId.{PortId}
use Rattle.gptp_pdelay.specs.Peer.{is_capable}
use Rattle.gptp_setup.specs.declared.setup.Params.{Params}
use Rattle.gptp_setup.specs.Intervals.{AreParams, interval_of}
use Rattle.gptp_setup.specs.SettlingParams.{SettlingParams, largest_interval}
use Rattle.gptp_system.specs.State.{number}
use Rattle.gptp_setup.proofs.IntervalLemmas.{interval_positive}
use Rattle.gptp_model.specs.World.{WorldState, sender}
use Rattle.gptp_pdelay_machine.specs.Setting.{Setting}
use Rattle.gptp_pdelay_machine.specs.Silence.{InvUnanswered}
use Rattle.gptp_pdelay_machine.proofs.SilenceLemmas.{silence_settles, unanswered_begins, unanswered_kept, unanswered_later}
use Rattle.gptp_invariants.specs.DelayLinkView.{IsEndOf, other_direction}
use Rattle.gptp_invariants.specs.WorldKnown.{IsKnown}
use Rattle.gptp_invariants.specs.FailedUnansweredLaws.{PortsBecomeIncapable, SilenceBegins, SilenceGoesOn, SilenceIsKept}
use Rattle.gptp_invariants.specs.FailedUnanswered.{silent_setting, silent_view}
use Rattle.gptp_invariants.proofs.FailedUnansweredActLemmas.{acts_seen}
use Rattle.gptp_invariants.proofs.FailedUnansweredStandLemmas.{timers_known}

-- no more requests of an end are lost than may be
end_lost : (p : SettlingParams) (place : ℕ) (port : PortId) (w : WorldState) → IsKnown p w → (e : IsEndOf place port w)
    → e.state.peer.lost ≤ e.state.peer.allowed
end_lost p place port w known e = go port.port e.there
  where
    go : (n : ℕ) → number e.station.system.ports n ≡ Some e.state → e.state.peer.lost ≤ e.state.peer.allowed
    go zero there = absurd (none-some e.state there)
    go (suc i) there = (known.measuring place e.station e.here e.live i e.state there).peer.lost

pub silence_begins : SilenceBegins
silence_begins at p w sound known l changed =
    let gone = w.last_change + largest_interval p in
    let lost = end_lost p at.asking (sender at.direction l.channel) w known l.asking in
    let allowed = l.asking.measures.allowed in
    let timers = timers_known at p w l sound known in
    record {
      link = l;
      old = λ f member.
          let near = (known.near at.link l.channel l.here).dues (other_direction at.direction) f member in omega arith;
      inv = unanswered_begins (silent_setting at w l) gone (silent_view at w l) (omega (arith, lost, allowed))
          (omega (arith, timers.asked, changed));
    }

pub silence_kept : SilenceIsKept
silence_kept at gone p act w w' draws done sound measured known calm acts is =
    let k = silent_setting at w is.link in
    let seen = acts_seen at gone act w w' draws done is.link sound measured is.old calm acts in
    let s = silent_view at w is.link in
    let s' = silent_view at w' seen.after in
    let inv = unanswered_kept k gone s s' (timers_known at p w is.link sound known) seen.so is.inv in
    record {
      link = seen.after;
      old = seen.old;
      inv = subst (λ (x : Setting). InvUnanswered x gone s') (sym seen.settled) inv;
    }

pub silence_goes_on : SilenceGoesOn
silence_goes_on at gone time w is = record {
  link = is.link;
  old = is.old;
  inv = unanswered_later (silent_setting at w is.link) gone time (silent_view at w is.link) is.inv;
}

pub become_incapable : PortsBecomeIncapable
become_incapable at p change w sound known short l past = go (is_capable l.link.asking.state.peer) refl
  where
    set_to : l.link.asking.station.setup.params ≡ p.params
    set_to = (known.set at.asking l.link.asking.station l.link.asking.here).starts.params

    params : AreParams p.params
    params =
        subst AreParams (known.set at.asking l.link.asking.station l.link.asking.here).params
        (sound.on_time.stations at.asking l.link.asking.station l.link.asking.here).steady.params

    short_here : (silent_setting at w l.link).period ≤ largest_interval p
    short_here = subst (λ (x : Params). interval_of x.pdelay ≤ largest_interval p) (sym set_to) short

    past_here : change + ((silent_setting at w l.link).allowed + 5) * largest_interval p ≤ w.time
    past_here =
        subst (λ (x : Params). change + (x.lost + 5) * largest_interval p ≤ w.time) (sym set_to) past

    go : (b : Bool) → is_capable l.link.asking.state.peer ≡ b → is_capable l.link.asking.state.peer ≡ false
    go true capable =
        absurd (silence_settles (silent_setting at w l.link) change (largest_interval p) (silent_view at w l.link)
        (omega (arith, interval_positive p.params.pdelay params.pdelay, short)) short_here
        (timers_known at p w l.link sound known) l.inv past_here capable)
    go false other = other
