-- What stands after an act that is no change stood before it, and the last change is the same.
use Rattle.std.proofs.Common.{◌≡◌, ◌≢◌, ℕ, List, Option, Some, None, slice_get, refl, sym, ap, subst, ◌∙◌}
use Rattle.gptp_vector.specs.declared.port.PortId.{PortId}
use Rattle.gptp_links.specs.declared.link.Direction.{Direction}
use Rattle.gptp_links.specs.Fate.{Draw}
use Rattle.gptp_system.specs.declared.answer.Answer.{Answer}
use Rattle.gptp_system.specs.Input.{Input, Frame as FrameHeard, Expires as TimerExpires}
use Rattle.gptp_system.specs.State.{clock}
use Rattle.gptp_scenario.specs.declared.change.Act.TheVariants.{Deliver, Expire, Change as Changing}
use Rattle.gptp_scenario.specs.declared.change.Act.{Act}
use Rattle.gptp_scenario.specs.declared.change.Change.{Change}
use Rattle.gptp_model.specs.declared.done.Done.{Done}
use Rattle.gptp_model.specs.declared.station.Station.{Station}
use Rattle.gptp_model.specs.Act.{Calls, Delivers, Hears, in_state}
use Rattle.gptp_model.specs.Acts.{Acts, at as at_time}
use Rattle.gptp_model.specs.Agrees.{stopped}
use Rattle.gptp_model.specs.World.{WorldState, receiver}
use Rattle.gptp_lists.proofs.PlaceLemmas.{set_each}
use Rattle.gptp_model.proofs.SteadyLemmas.{same_clock}
use Rattle.gptp_model.proofs.StayLemmas.{CarryTheSame, begins_same, calls_carry, carry_on, carry_same, takes_carry}
use Rattle.gptp_invariants.specs.DelayLinkView.{LinkPlace}
use Rattle.gptp_invariants.proofs.DelayLinkLemmas.{receiver_same}
use Rattle.gptp_invariants.specs.FailedUnansweredLaws.{NoneStandsAnew}
use Rattle.gptp_invariants.specs.FailedUnanswered.{StandsUnanswered}

-- the station at a place was as live as it is, under the same clock
pub record StoodBefore (stations : List Station) (place : ℕ) (new : Station) : Type 0 where
  old : Station
  here : slice_get stations place ≡ Some old
  live : new.live ≡ old.live
  named : clock new.system ≡ clock old.system

-- so was each station, each link carries what it carried, and the last change is the same
pub record IsAsBefore (w w' : WorldState) : Type 0 where
  pub stations : (place : ℕ) (new : Station) → slice_get w'.stations place ≡ Some new → StoodBefore w.stations place new
  pub links : CarryTheSame w.net.channels w'.net.channels
  pub change : w'.last_change ≡ w.last_change

pub as_was : (stations : List Station) (place : ℕ) (station : Station) → slice_get stations place ≡ Some station
    → StoodBefore stations place station
as_was stations place station here = record { old = station; here = here; live = refl; named = refl }

pub calls_before : (place : ℕ) (input : Input) (w : WorldState) (draws : List Draw) (answer : Answer) (w' : WorldState)
    → Calls place input w draws answer w' → IsAsBefore w w'
calls_before place input w draws answer w' k = record {
  stations = λ other new there.
      set_each (StoodBefore w.stations) w.stations place k.station (in_state k.after k.station) k.here
      (record {
        old = k.station;
        here = k.here;
        live = refl;
        named = same_clock input w.time k.station.system k.after k.sends answer k.steps;
      })
      (λ one x apart here. as_was w.stations one x here) other new
      (sym (ap (λ (v : WorldState). slice_get v.stations other) k.is) ∙ there);
  links = calls_carry place input w draws answer w' k;
  change = ap (λ (v : WorldState). v.last_change) k.is;
}

delivers_before : (link : ℕ) (direction : Direction) (octets : List ℕ) (w : WorldState) (draws : List Draw)
    (answer : Option Answer) (w' : WorldState) → Delivers link direction octets w draws answer w' → IsAsBefore w w'
delivers_before link direction octets w draws answer w' k = by answer k.hears
  where
    taken : CarryTheSame w.net.channels k.net.channels
    taken = takes_carry link direction w.time octets k.channel w.net k.net k.takes

    by : (a : Option Answer)
        → Hears k.place (receiver direction k.channel).port octets (record w { net = k.net }) draws a w'
        → IsAsBefore w w'
    by (Some told) calls =
        let heard = calls_before k.place (FrameHeard (receiver direction k.channel).port octets)
        (record w { net = k.net }) draws told w' calls in
        record {
          stations = heard.stations;
          links = carry_on w.net.channels k.net.channels w'.net.channels taken heard.links;
          change = heard.change;
        }
    by None (failed, none, is) =
        subst (IsAsBefore w) (sym is)
        (record { stations = as_was w.stations; links = taken; change = refl })

pub acts_before : (act : Act) (w w' : WorldState) (draws : List Draw) (done : Done)
    → ((change : Change) → act ≢ Changing change) → Acts act w draws done w' → IsAsBefore w w'
acts_before (Deliver link direction) w w' draws done calm k =
    delivers_before link direction k.octets w draws k.answer w' k.delivers
acts_before (Expire number timer) w w' draws done calm k =
    let expires = k.1.so in
    let called = calls_before k.1.place (TimerExpires timer) (stopped k.1.place timer w) draws expires.answer w'
    expires.calls in
    record { stations = called.stations; links = called.links; change = called.change }
acts_before (Changing change) w w' draws done calm k = absurd (calm change refl)

-- where all stands so it did
pub stood : (at : LinkPlace) (w w' : WorldState) → IsAsBefore w w' → StandsUnanswered at w' → StandsUnanswered at w
stood at w w' before s =
    let carries = before.links at.link s.channel s.here in
    let joins = carries.joins in
    let live = before.stations at.asking s.asking.station s.asking.here in
    let failed = before.stations at.answering s.answering.station s.answering.here in
    record {
      channel = joins.old;
      here = joins.here;
      up = carries.up s.up;
      asking = record {
        station = live.old;
        here = live.here;
        live = sym live.live ∙ s.asking.live;
        named = sym live.named ∙ s.asking.named
            ∙ ap (λ (p : PortId). p.clock) (begins_same w.net.channels at.link at.direction s.channel joins);
      };
      answering = record {
        station = failed.old;
        here = failed.here;
        failed = sym failed.live ∙ s.answering.failed;
        named = sym failed.named ∙ s.answering.named
            ∙ ap (λ (p : PortId). p.clock) (receiver_same at.direction joins.old s.channel joins.a joins.b);
      };
    }

pub none_anew : NoneStandsAnew
none_anew at act w w' draws done calm acts = stood at w w' (acts_before act w w' draws done calm acts)

-- as it does where time has passed
pub stood_earlier : (at : LinkPlace) (time : ℕ) (w : WorldState) → StandsUnanswered at (at_time time w)
    → StandsUnanswered at w
stood_earlier at time w s =
    stood at w (at_time time w)
    (record { stations = as_was w.stations; links = carry_same w.net.channels; change = refl }) s
