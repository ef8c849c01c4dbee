-- What no act changes of a world: the clock, the ports and the parameters of each system, and the ports that each link
-- joins.
use Rattle.std.proofs.Common.{◌≡◌, ℕ, true, false, List, [], ◌∷◌, length, Option, Some, slice_get, slice_set, refl, sym, ap, subst, ◌∙◌, inl, inr}
use Rattle.std.specs.Prelude.{⊤}
use Rattle.gptp_vector.specs.declared.port.PortId.{PortId}
use Rattle.gptp_links.specs.declared.bounds.Bounds.{Bounds}
use Rattle.gptp_links.specs.declared.link.Direction.{Direction}
use Rattle.gptp_links.specs.declared.link.Direction.TheVariants.{FromA, FromB}
use Rattle.gptp_links.specs.Fate.{Draw}
use Rattle.gptp_roles.specs.Selection.{clock_of}
use Rattle.gptp_system.specs.declared.answer.Answer.{Answer}
use Rattle.gptp_system.specs.declared.sending.Sending.{Sending}
use Rattle.gptp_system.specs.Input.{Input}
use Rattle.gptp_system.specs.Start.{started}
use Rattle.gptp_system.specs.State.{SystemState, clock}
use Rattle.gptp_system.proofs.StartLemmas.{length-new_ports}
use Rattle.gptp_system.proofs.TimersChangedLemmas.{priority_clock}
use Rattle.gptp_system.proofs.WindowLemmas.{starts_measuring_over, steps_measure_over}
use Rattle.gptp_scenario.specs.declared.change.Act.{Act}
use Rattle.gptp_scenario.specs.declared.change.Timed.{Timed}
use Rattle.gptp_model.specs.declared.done.Done.{Done}
use Rattle.gptp_model.specs.declared.station.Station.{Station}
use Rattle.gptp_model.specs.World.{Channel, Net, WorldState, port_id, sender}
use Rattle.gptp_model.specs.Sends.{SendsAll, SendsOne}
use Rattle.gptp_model.specs.Act.{all_timers, in_state, Calls, TakesFrame}
use Rattle.gptp_model.specs.Acts.{at, set_to, Acts}
use Rattle.gptp_model.specs.Advancing.{Advanced, Advances, Told}
use Rattle.gptp_model.specs.Agrees.{stopped}
use Rattle.gptp_model.specs.Changing.{brought_up, failed, fresh, lost, taken_down, with_bounds, with_setup, with_station, CallsIfLive, Injects, Starts, StartsAll, TellsEnds}
use Rattle.gptp_model.specs.Course.{WasDone}
use Rattle.gptp_model.specs.Sound.{AreApart, HaveOwnClocks, HaveTheirSetups, IsItsSetup, JoinPorts}
use Rattle.gptp_model.proofs.ActsByLemmas.{Elementary, acts_by, start_by, starts_by}
use Rattle.gptp_model.proofs.AgreeLemmas.{replaced}
use Rattle.gptp_model.proofs.BareLemmas.{bare, calls_bare, sends_bare, sends_one_bare, takes_bare, DifferInFlight}
use Rattle.gptp_lists.proofs.MappedLemmas.{alike}
use Rattle.gptp_lists.proofs.PlaceLemmas.{set_each}
use Rattle.gptp_model.proofs.SteadyLemmas.{same_clock, same_ports}

-- ---- links

-- the link at a place joins the ports that it joined
pub record JoinsAsBefore (channels : List Channel) (link : ℕ) (new : Channel) : Type 0 where
  pub old : Channel
  pub here : slice_get channels link ≡ Some old
  pub a : new.a ≡ old.a
  pub b : new.b ≡ old.b

-- and it is up only where it was
pub record CarriesAsBefore (channels : List Channel) (link : ℕ) (new : Channel) : Type 0 where
  pub joins : JoinsAsBefore channels link new
  pub up : new.up ≡ true → joins.old.up ≡ true

abbrev pub JoinTheSame : List Channel → List Channel → Type 0
JoinTheSame before after = (link : ℕ) (new : Channel) → slice_get after link ≡ Some new → JoinsAsBefore before link new

abbrev pub CarryTheSame : List Channel → List Channel → Type 0
CarryTheSame before after =
    (link : ℕ) (new : Channel) → slice_get after link ≡ Some new → CarriesAsBefore before link new

pub sender_same : (direction : Direction) (old new : Channel) → new.a ≡ old.a → new.b ≡ old.b
    → sender direction new ≡ sender direction old
sender_same FromA old new a b = a
sender_same FromB old new a b = b

pub begins_same : (channels : List Channel) (link : ℕ) (direction : Direction) (new : Channel)
    → (j : JoinsAsBefore channels link new) → sender direction new ≡ sender direction j.old
begins_same channels link direction new j = sender_same direction j.old new j.a j.b

pub join_same : (channels : List Channel) → JoinTheSame channels channels
join_same channels link new there = record { old = new; here = there; a = refl; b = refl }

pub carry_same : (channels : List Channel) → CarryTheSame channels channels
carry_same channels link new there =
    record { joins = record { old = new; here = there; a = refl; b = refl }; up = λ up. up }

-- those that carry what they carried join what they joined
pub carry_join : (before after : List Channel) → CarryTheSame before after → JoinTheSame before after
carry_join before after carry link new there = (carry link new there).joins

pub join_on : (first second third : List Channel) → JoinTheSame first second → JoinTheSame second third
    → JoinTheSame first third
join_on first second third f g link new there =
    let near = g link new there in
    let far = f link near.old near.here in
    record { old = far.old; here = far.here; a = near.a ∙ far.a; b = near.b ∙ far.b }

pub carry_on : (first second third : List Channel) → CarryTheSame first second → CarryTheSame second third
    → CarryTheSame first third
carry_on first second third f g link new there =
    let near = g link new there in
    let far = f link near.joins.old near.joins.here in
    record {
      joins = record {
        old = far.joins.old;
        here = far.joins.here;
        a = near.joins.a ∙ far.joins.a;
        b = near.joins.b ∙ far.joins.b;
      };
      up = λ up. far.up (near.up up);
    }

-- one link becomes another between the same ports
pub set_join : (channels : List Channel) (place : ℕ) (old new : Channel) → slice_get channels place ≡ Some old
    → new.a ≡ old.a → new.b ≡ old.b → JoinTheSame channels (slice_set channels place new)
set_join channels place old new here a b =
    set_each (JoinsAsBefore channels) channels place old new here (record { old = old; here = here; a = a; b = b })
    (λ other x apart there. record { old = x; here = there; a = refl; b = refl })

pub set_carry : (channels : List Channel) (place : ℕ) (old new : Channel) → slice_get channels place ≡ Some old
    → new.a ≡ old.a → new.b ≡ old.b → (new.up ≡ true → old.up ≡ true)
    → CarryTheSame channels (slice_set channels place new)
set_carry channels place old new here a b up =
    set_each (CarriesAsBefore channels) channels place old new here
    (record { joins = record { old = old; here = here; a = a; b = b }; up = up })
    (λ other x apart there. carry_same channels other x there)

-- links that differ in what is in flight alone carry what they carried
bare_carry : (before after : List Channel) → DifferInFlight before after → CarryTheSame before after
bare_carry before after alone link new there =
    let (old, here, same) = alike bare bare before after (sym alone) link new there in
    record {
      joins = record {
        old = old;
        here = here;
        a = ap (λ (c : Channel). c.a) (sym same);
        b = ap (λ (c : Channel). c.b) (sym same);
      };
      up = λ up. ap (λ (c : Channel). c.up) same ∙ up;
    }

pub sends_one_carry : (now : ℕ) (from : PortId) (octets : List ℕ) (draw : Draw) (net net' : Net)
    → SendsOne now from octets draw net net' → CarryTheSame net.channels net'.channels
sends_one_carry now from octets draw net net' one =
    bare_carry net.channels net'.channels (sends_one_bare now from octets draw net net' one)

pub sends_carry : (now : ℕ) (s : SystemState) (xs : List Sending) (draws : List Draw) (net net' : Net)
    → SendsAll now s xs draws net net' → CarryTheSame net.channels net'.channels
sends_carry now s xs draws net net' sends =
    bare_carry net.channels net'.channels (sends_bare now s xs draws net net' sends)

pub takes_carry : (place : ℕ) (direction : Direction) (now : ℕ) (octets : List ℕ) (channel : Channel) (net net' : Net)
    → TakesFrame place direction now octets channel net net' → CarryTheSame net.channels net'.channels
takes_carry place direction now octets channel net net' takes =
    bare_carry net.channels net'.channels (takes_bare place direction now octets channel net net' takes)

-- ---- a call

pub calls_carry : (place : ℕ) (input : Input) (w : WorldState) (draws : List Draw) (answer : Answer) (w' : WorldState)
    → Calls place input w draws answer w' → CarryTheSame w.net.channels w'.net.channels
calls_carry place input w draws answer w' calls =
    subst (λ (v : WorldState). CarryTheSame w.net.channels v.net.channels) (sym calls.is)
    (bare_carry w.net.channels calls.net.channels (calls_bare place input w draws answer w' calls))

pub calls_if_live_carry : (place : ℕ) (input : Input) (w : WorldState) (draws : List Draw) (w' : WorldState)
    → CallsIfLive place input w draws w' → CarryTheSame w.net.channels w'.net.channels
calls_if_live_carry place input w draws w' (inl (answer, calls)) = calls_carry place input w draws answer w' calls
calls_if_live_carry place input w draws w' (inr (failed, none, is)) =
    subst (λ (v : WorldState). CarryTheSame w.net.channels v.net.channels) (sym is) (carry_same w.net.channels)

pub tells_ends_carry : (input : ℕ → Input) (channel : Channel) (w : WorldState) (draws : List Draw) (w' : WorldState)
    → TellsEnds input channel w draws w' → CarryTheSame w.net.channels w'.net.channels
tells_ends_carry input channel w draws w' tells =
    carry_on w.net.channels tells.between.net.channels w'.net.channels
    (calls_if_live_carry tells.place_a (input channel.a.port) w tells.first tells.between tells.at_a)
    (calls_if_live_carry tells.place_b (input channel.b.port) tells.between tells.second w' tells.at_b)

-- ---- what stays

-- a system has its clock, its ports and their intervals, and its setup is its own
pub record IsSameSystem (old new : Station) : Type 0 where
  pub named : clock new.system ≡ clock old.system
  pub count : length new.system.ports ≡ length old.system.ports
  pub intervals : new.setup.intervals.items ≡ old.setup.intervals.items
  pub its : IsItsSetup new

itself : (station : Station) → IsItsSetup station → IsSameSystem station station
itself station its =
    record { named = refl; count = refl; intervals = refl; its = its }

pub record IsAsBefore (stations : List Station) (place : ℕ) (new : Station) : Type 0 where
  pub old : Station
  pub here : slice_get stations place ≡ Some old
  pub same : IsSameSystem old new

-- each system stays itself, and each link joins what it joined
pub record Stays (w w' : WorldState) : Type 0 where
  pub stations : (place : ℕ) (new : Station) → slice_get w'.stations place ≡ Some new
      → IsAsBefore w.stations place new
  pub links : JoinTheSame w.net.channels w'.net.channels

pub stays_on : (first second third : WorldState) → Stays first second → Stays second third → Stays first third
stays_on first second third f g = record {
  stations = λ place new there.
      let near = g.stations place new there in
      let far = f.stations place near.old near.here in
      record {
        old = far.old;
        here = far.here;
        same = record {
          named = near.same.named ∙ far.same.named;
          count = near.same.count ∙ far.same.count;
          intervals = near.same.intervals ∙ far.same.intervals;
          its = near.same.its;
        };
      };
  links = join_on first.net.channels second.net.channels third.net.channels f.links g.links;
}

-- the links alone change
pub net_stays : (w : WorldState) (net : Net) → HaveTheirSetups w → JoinTheSame w.net.channels net.channels
    → Stays w (record w { net = net })
net_stays w net setups joins = record {
  stations = λ place new there.
      record {
        old = new;
        here = there;
        same = itself new (setups place new there);
      };
  links = joins;
}

pub same_stays : (w : WorldState) → HaveTheirSetups w → Stays w w
same_stays w setups = net_stays w w.net setups (join_same w.net.channels)

-- one system becomes another that is the same
pub station_stays : (place : ℕ) (w : WorldState) (old new : Station) (net : Net) → slice_get w.stations place ≡ Some old
    → IsSameSystem old new → HaveTheirSetups w → JoinTheSame w.net.channels net.channels
    → Stays w (record w { stations = slice_set w.stations place new; net = net })
station_stays place w old new net here same setups joins = record {
  stations = set_each (IsAsBefore w.stations) w.stations place old new here
      (record { old = old; here = here; same = same })
      (λ other x apart there.
      record {
        old = x;
        here = there;
        same = itself x (setups other x there);
      });
  links = joins;
}

-- ---- what is kept where it stays

pub stays_setups : (w w' : WorldState) → Stays w w' → HaveTheirSetups w'
stays_setups w w' stays place station there = (stays.stations place station there).same.its

pub stays_clocks : (w w' : WorldState) → Stays w w' → HaveOwnClocks w → HaveOwnClocks w'
stays_clocks w w' stays clocks place other station at here there same =
    let one = stays.stations place station here in
    let two = stays.stations other at there in
    clocks place other one.old two.old one.here two.here (sym one.same.named ∙ same ∙ two.same.named)

pub stays_ports : (w w' : WorldState) → Stays w w' → JoinPorts w → JoinPorts w'
stays_ports w w' stays ports link place direction channel station here there named =
    let was = stays.links link channel here in
    let one = stays.stations place station there in
    let begins = begins_same w.net.channels link direction channel was in
    let at = ports link place direction was.old one.old was.here one.here
    (sym one.same.named ∙ named ∙ ap (λ (p : PortId). p.clock) begins) in
    let count = one.same.count in
    record { least = rw begins at.least; most = rw (begins, count) at.most }

pub stays_apart : (w w' : WorldState) → Stays w w' → AreApart w → AreApart w'
stays_apart w w' stays apart link other direction way channel at here there same =
    let one = stays.links link channel here in
    let two = stays.links other at there in
    apart link other direction way one.old two.old one.here two.here
    (sym (begins_same w.net.channels link direction channel one) ∙ same
    ∙ begins_same w.net.channels other way at two)

-- ---- acts

-- the system after a call is the same
pub called_same : (input : Input) (w : WorldState) (place : ℕ) (draws : List Draw) (answer : Answer) (w' : WorldState)
    → (calls : Calls place input w draws answer w') → IsItsSetup calls.station
    → IsSameSystem calls.station (in_state calls.after calls.station)
called_same input w place draws answer w' calls its =
    let count = same_ports input w.time calls.station.system calls.after calls.sends answer calls.steps in
    let named = same_clock input w.time calls.station.system calls.after calls.sends answer calls.steps in
    record {
      named = named;
      count = count;
      intervals = refl;
      its = record {
        ports = count ∙ its.ports;
        few = its.few;
        phase = its.phase;
        drift = its.drift;
        intervals = its.intervals;
        named = its.named ∙ sym named;
        windows = steps_measure_over calls.station.setup.params.window input w.time calls.station.system calls.after
            calls.sends answer calls.steps its.windows;
      };
    }

pub calls_stay : (place : ℕ) (input : Input) (w : WorldState) (draws : List Draw) (answer : Answer) (w' : WorldState)
    → HaveTheirSetups w → Calls place input w draws answer w' → Stays w w'
calls_stay place input w draws answer w' setups calls =
    subst (Stays w) (sym calls.is)
    (station_stays place w calls.station (in_state calls.after calls.station) calls.net calls.here
    (called_same input w place draws answer w' calls (setups place calls.station calls.here)) setups
    (carry_join w.net.channels calls.net.channels
    (sends_carry w.time calls.after calls.sends draws
    (all_timers place (in_state calls.after calls.station) w.net) calls.net calls.sent)))

-- ---- calls one after another

pub calls_if_live_stay : (place : ℕ) (input : Input) (w : WorldState) (draws : List Draw) (w' : WorldState)
    → HaveTheirSetups w → CallsIfLive place input w draws w' → Stays w w'
calls_if_live_stay place input w draws w' setups (inl (answer, calls)) =
    calls_stay place input w draws answer w' setups calls
calls_if_live_stay place input w draws w' setups (inr (failed, none, is)) =
    subst (Stays w) (sym is) (same_stays w setups)

-- ---- changes of a link

pub taken_down_stays : (place : ℕ) (channel : Channel) (w : WorldState) → slice_get w.net.channels place ≡ Some channel
    → HaveTheirSetups w → Stays w (record w { net = taken_down place channel w.net })
taken_down_stays place channel w here setups =
    net_stays w (taken_down place channel w.net) setups
    (set_join w.net.channels place channel (lost channel) here refl refl)

pub brought_up_stays : (place : ℕ) (channel : Channel) (w : WorldState) → slice_get w.net.channels place ≡ Some channel
    → HaveTheirSetups w → Stays w (record w { net = brought_up place channel w.net })
brought_up_stays place channel w here setups =
    net_stays w (brought_up place channel w.net) setups
    (set_join w.net.channels place channel (record channel { up = true }) here refl refl)

-- what is in flight on a link is neither its ports nor a system
pub injects_stay : (from : PortId) (octets : List ℕ) (w : WorldState) (draws : List Draw) (w' : WorldState)
    → HaveTheirSetups w → Injects from octets w draws w' → Stays w w'
injects_stay from octets w draws w' setups k =
    subst (Stays w) (sym k.is)
    (net_stays w k.net setups
    (carry_join w.net.channels k.net.channels (sends_one_carry w.time from octets k.draw w.net k.net k.sent)))

-- ---- changes of a system

pub failed_stays : (place : ℕ) (station : Station) (w : WorldState) → slice_get w.stations place ≡ Some station
    → HaveTheirSetups w → Stays w (failed place station w)
failed_stays place station w here setups =
    let new : Station = record station { live = false } in
    let its = setups place station here in
    station_stays place w station new (all_timers place new w.net) here
    (record {
      named = refl;
      count = refl;
      intervals = refl;
      its = record {
        ports = its.ports;
        few = its.few;
        phase = its.phase;
        drift = its.drift;
        intervals = its.intervals;
        named = its.named;
        windows = its.windows;
      };
    })
    setups (join_same w.net.channels)

-- another priority1 leaves the clock
pub with_setup_stays : (value place : ℕ) (station : Station) (w : WorldState)
    → slice_get w.stations place ≡ Some station → HaveTheirSetups w
    → Stays w (with_station place (with_setup value station) w)
with_setup_stays value place station w here setups =
    let its = setups place station here in
    station_stays place w station (with_setup value station) w.net here
    (record {
      named = refl;
      count = refl;
      intervals = refl;
      its = record {
        ports = its.ports;
        few = its.few;
        phase = its.phase;
        drift = its.drift;
        intervals = record {
          many = its.intervals.many;
          each = its.intervals.each;
          largest = its.intervals.largest;
        };
        named = priority_clock value (started station.setup 0) ∙ its.named;
        windows = its.windows;
      };
    })
    setups (join_same w.net.channels)

-- ---- a start

-- a system that starts is the one that its setup is of
pub fresh_same : (now : ℕ) (station : Station) → IsItsSetup station → IsSameSystem station (fresh now station)
fresh_same now station its =
    let setup = station.setup in
    let ports : length (fresh now station).system.ports ≡ setup.ports =
    length-new_ports (clock_of setup.identity) setup.params 1 setup.intervals.items ∙ its.intervals.many in
    record {
      named = its.named;
      count = ports ∙ sym its.ports;
      intervals = refl;
      its = record {
        ports = ports;
        few = its.few;
        phase = its.phase;
        drift = its.drift;
        intervals = its.intervals;
        named = refl;
        windows = starts_measuring_over setup now;
      };
    }

pub refreshed_stays : (place : ℕ) (station : Station) (w : WorldState) → slice_get w.stations place ≡ Some station
    → HaveTheirSetups w → Stays w (replaced place (fresh w.time station) w)
refreshed_stays place station w here setups =
    let new : Station = fresh w.time station in
    station_stays place w station new (all_timers place new w.net) here
    (fresh_same w.time station (setups place station here)) setups (join_same w.net.channels)

-- ---- all acts

-- What stays since a first world stays on.
later : (first w w' : WorldState) → (HaveTheirSetups w → Stays w w') → Stays first w → Stays first w'
later first w w' step stays = stays_on first w w' stays (step (stays_setups first w stays))

pub stay_kept : (first : WorldState) → Elementary ⊥ (λ act. ⊤) (λ octets. ⊤) (Stays first)
stay_kept first = record {
  system_called = λ place input w draws answer w' k given.
      later first w w' (λ setups. calls_stay place input w draws answer w' setups k);
  frame_taken = λ link direction octets channel w net k stays. (
    later first w (record w { net = net }) (λ setups. net_stays w net setups
        (carry_join w.net.channels net.channels (takes_carry link direction w.time octets channel w.net net k))) stays,
    tt,
  );
  timer_stopped = λ place timer w.
      let after : WorldState = stopped place timer w in
      later first w after (λ setups. net_stays w after.net setups (join_same w.net.channels));
  link_down = λ place channel w here.
      later first w (record w { net = taken_down place channel w.net }) (taken_down_stays place channel w here);
  link_up = λ place channel w here.
      later first w (record w { net = brought_up place channel w.net }) (brought_up_stays place channel w here);
  link_set = λ number port min max loss place channel w here allowed now.
      let net : Net = with_bounds (set_to min max loss channel) place channel w.net in
      later first w (record w { net = net }) (λ setups. net_stays w net setups
      (set_join w.net.channels place channel (record channel { bounds = set_to min max loss channel }) here refl refl));
  system_failed = λ place station w here.
      later first w (failed place station w) (failed_stays place station w here);
  system_started = λ place station w here.
      later first w (replaced place (fresh w.time station) w) (refreshed_stays place station w here);
  priority_set = λ number value place station w here allowed.
      later first w (with_station place (with_setup value station) w) (with_setup_stays value place station w here);
  octets_injected = λ number port octets w draws w' allowed k.
      later first w w' (λ setups. injects_stay (port_id number port) octets w draws w' setups k);
  change_counted = λ w stays. record { stations = stays.stations; links = stays.links };
}

pub starts_stays : (place : ℕ) (w : WorldState) (draws : List Draw) (w' : WorldState) → HaveTheirSetups w
    → Starts place w draws w' → Stays w w'
starts_stays place w draws w' setups k = start_by (stay_kept w) place w draws w' k (same_stays w setups)

pub starts_all_stay : (places : List ℕ) (w : WorldState) (draws : List Draw) (w' : WorldState) → HaveTheirSetups w
    → StartsAll places w draws w' → Stays w w'
starts_all_stay places w draws w' setups k = starts_by (stay_kept w) places w draws w' k (same_stays w setups)

pub acts_stay : (act : Act) (w : WorldState) (draws : List Draw) (done : Done) (w' : WorldState) → HaveTheirSetups w
    → Acts act w draws done w' → Stays w w'
acts_stay act w draws done w' setups k =
    acts_by (stay_kept w) act w draws done w' (λ none. absurd none) tt k (same_stays w setups)

module _ {F : Type 0} (answers : Bounds → ℕ → F → Option ℕ → F → Type 0) where
  pub done_stays : (timed : Timed) (fate fate_after : F) (w w' : WorldState) (done : Done) → HaveTheirSetups w
      → WasDone answers timed fate fate_after w w' done → Stays w w'
  done_stays timed fate fate_after w w' done setups k =
      let stays = acts_stay timed.act (at timed.at w) k.draws done w' setups k.acts in
      record { stations = stays.stations; links = stays.links }

  pub advances_stay : (until : ℕ) (told : List Told) (fate fate_after : F) (w w' : WorldState) → HaveTheirSetups w
      → Advances answers until told fate fate_after w w' → Stays w w'
  advances_stay until [] fate fate_after w w' setups (same, is) = subst (Stays w) (sym is) (same_stays w setups)
  advances_stay until (one ∷ told) fate fate_after w w' setups (drawn, between, happens, rest) =
      let first = done_stays one.timed fate drawn w between one.done setups happens.was_done in
      stays_on w between w' first
      (advances_stay until told drawn fate_after between w' (stays_setups w between first) rest)

  pub advanced_stays : (until : ℕ) (told : List Told) (fate fate_after : F) (w w' : WorldState) → HaveTheirSetups w
      → Advanced answers until told fate fate_after w w' → Stays w w'
  advanced_stays until told fate fate_after w w' setups k =
      let stays = advances_stay until told fate fate_after w k.between setups k.advances in
      let later : Stays w (at until k.between) = record { stations = stays.stations; links = stays.links } in
      subst (Stays w) (sym k.is) later
