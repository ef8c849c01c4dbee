-- Where a live and a failed station stand at a link the machine is seen, and its request timer is in time.
use Rattle.std.proofs.Common.{◌≡◌, ℕ, zero, suc, Option, Some, None, refl, ap, subst, arith}
use Rattle.std.specs.Prelude.{IsSome}
use Rattle.std.specs.Option.{option_and_then}
use Rattle.std.proofs.lemmas.Option.{none-some, slice_get_within}
use Rattle.gptp_vector.specs.declared.port.PortId.{PortId}
use Rattle.gptp_system.specs.declared.port.Port.{Port}
use Rattle.gptp_setup.specs.declared.setup.Params.{Params}
use Rattle.gptp_setup.specs.Intervals.{interval_of}
use Rattle.gptp_setup.specs.SettlingParams.{SettlingParams}
use Rattle.gptp_system.specs.State.{number}
use Rattle.gptp_model.specs.Sound.{IsSound}
use Rattle.gptp_model.specs.World.{WorldState, sender}
use Rattle.gptp_lists.proofs.PlaceLemmas.{member_there}
use Rattle.gptp_invariants.specs.DelayLinkView.{IsEndOf, LinkPlace, asked_at}
use Rattle.gptp_invariants.specs.WorldDue.{IsSoonAfter}
use Rattle.gptp_invariants.specs.WorldKnown.{IsKnown}
use Rattle.gptp_invariants.proofs.WorldDueLemmas.{ports_known}
use Rattle.gptp_invariants.proofs.DelayLinkStandLemmas.{end_is}
use Rattle.gptp_invariants.specs.FailedUnansweredLaws.{PortsAreSeen, TimersAreKnown}
use Rattle.gptp_invariants.specs.FailedUnanswered.{IsUnansweredAt}

pub ports_seen : PortsAreSeen
ports_seen at w sound measured s =
    record {
      channel = s.channel;
      here = s.here;
      up = s.up;
      asking = end_is at.asking (sender at.direction s.channel) w measured s.asking
          (sound.wired.ports at.link at.asking at.direction s.channel s.asking.station s.here s.asking.here
          s.asking.named);
      answering = s.answering;
    }

-- ---- the request timer

some_of : (o : Option ℕ) → IsSome o → (t : ℕ) × (o ≡ Some t)
some_of None is = absurd cc
some_of (Some t) is = (t, refl)

-- it runs at a link that is up
pub timer_runs : (at : LinkPlace) (w : WorldState) (l : IsUnansweredAt at w) → IsSound w
    → (t : ℕ) × (l.asking.state.pdelay ≡ Some t)
timer_runs at w l sound =
    let up = sound.wired.linked at.link at.asking at.direction l.channel l.asking.station l.here l.up l.asking.here
    l.asking.live l.asking.named in
    some_of l.asking.state.pdelay
    (subst IsSome (ap (option_and_then (λ (q : Port). q.pdelay)) l.asking.there) up)

-- and is due within a period from now
end_asks : (p : SettlingParams) (place : ℕ) (port : PortId) (w : WorldState) → IsSound w → IsKnown p w
    → (e : IsEndOf place port w) → (t : ℕ) → e.state.pdelay ≡ Some t
    → IsSoonAfter w.time (interval_of p.params.pdelay) t
end_asks p place port w sound known e t runs = go port.port e.there
  where
    go : (n : ℕ) → number e.station.system.ports n ≡ Some e.state → IsSoonAfter w.time (interval_of p.params.pdelay) t
    go zero there = absurd (none-some e.state there)
    go (suc i) there =
        let places = (sound.on_time.stations place e.station e.here).steady.shown.places in
        let inside = slice_get_within e.station.system.ports i e.state there in
        let (h, held) = member_there e.station.system.held i (omega arith) in
        (ports_known p w sound known place e.station e.here e.live i h e.state held there).asks t runs

pub timers_known : TimersAreKnown
timers_known at p w l sound known =
    let (t, runs) = timer_runs at w l sound in
    let within = end_asks p at.asking (sender at.direction l.channel) w sound known l.asking t runs in
    let period = interval_of l.asking.station.setup.params.pdelay in
    let same : period ≡ interval_of p.params.pdelay =
    ap (λ (x : Params). interval_of x.pdelay) (known.set at.asking l.asking.station l.asking.here).starts.params in
    let seen : asked_at period l.asking.state.pdelay ≡ asked_at period (Some t) = ap (asked_at period) runs in
    let least = l.asking.measures.asks t runs in
    let early = within.least in
    let late = within.most in
    record { asked = omega arith; request_timer = omega arith }
