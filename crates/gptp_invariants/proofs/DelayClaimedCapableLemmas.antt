-- From the start on a port is capable exactly where a link of the snapshot is at it.
use Rattle.std.proofs.Common.{◌≡◌, ◌⊎◌, ◌≤◌, ℕ, suc, Bool, true, false, List, Option, Some, None, slice_get, refl, sym, ap, subst, ◌∙◌, inl, inr}
use Rattle.gptp_setup.specs.SettlingParams.{SettlingParams}
use Rattle.gptp_graph.specs.Snapshot.{IsLinked, Joins, Snapshot}
use Rattle.gptp_lists.proofs.SystemSpecLemmas.{In-map}
use Rattle.gptp_vector.specs.declared.port.PortId.{PortId}
use Rattle.gptp_links.specs.declared.link.Direction.{Direction}
use Rattle.gptp_links.specs.declared.link.Direction.TheVariants.{FromA, FromB}
use Rattle.gptp_pdelay.specs.Peer.{is_capable}
use Rattle.gptp_receipt.specs.declared.held.Held.{Held}
use Rattle.gptp_receipt.specs.declared.held.Held.TheVariants.{Disabled}
use Rattle.gptp_system.specs.declared.port.Port.{Port}
use Rattle.gptp_system.specs.Facts.{IsShown}
use Rattle.gptp_system.specs.State.{clock, number, own}
use Rattle.gptp_system.specs.Steps.{IsUp}
use Rattle.gptp_model.specs.declared.station.Station.{Station}
use Rattle.gptp_scenario.specs.Params.{KeepPace}
use Rattle.gptp_model.specs.World.{Channel, WorldState, receiver, sender}
use Rattle.gptp_invariants.specs.DelayLinked.{BeginsLink}
use Rattle.gptp_invariants.specs.DelayLinkView.{LinkPlace}
use Rattle.gptp_invariants.specs.ChoiceView.{port_identity_number}
use Rattle.gptp_invariants.specs.ChoiceCalm.{HaveQuietLinks}
use Rattle.gptp_invariants.specs.WorldStanding.{StationsHavePort, JoinsTwoOf, stations_have_clock, channel_is_used, live_stations, snapshot_of, standing_system}
use Rattle.gptp_invariants.proofs.WorldSystemLemmas.{clock_in, clock_there, live_there}
use Rattle.gptp_invariants.proofs.WorldWayLemmas.{used_joins}
use Rattle.gptp_invariants.specs.ChoiceSettlesAsMachine.{BecomeCapable, IsWorld, start_of}
use Rattle.gptp_invariants.specs.DelayWatch.{IsCapablePort, GoodLinksMeasure}
use Rattle.gptp_invariants.proofs.DelayCapableLemmas.{used_capable}
use Rattle.gptp_invariants.specs.FailedUnanswered.{FailedNeighboursAreSilent, StandsUnanswered}
use Rattle.gptp_invariants.proofs.FailedUnansweredWorldLemmas.{silent_incapable}
use Rattle.gptp_invariants.specs.WorldCalmFor.{ArePortsSettled, IsPortSettled}

-- ---- links

-- a link leads to a port of some system
leads_to : (stations : List Station) (direction : Direction) (channel : Channel) → JoinsTwoOf stations channel
    → StationsHavePort stations (receiver direction channel)
leads_to stations FromA channel between = between.b
leads_to stations FromB channel between = between.a

-- a live system has its clock
pub clock_has : (stations : List Station) (place : ℕ) (station : Station) (number : ℕ)
    → slice_get stations place ≡ Some station → station.live ≡ true → clock station.system ≡ number
    → stations_have_clock (live_stations stations) number ≡ true
clock_has stations place station number here live named =
    subst (λ n. stations_have_clock (live_stations stations) n ≡ true) named
    (clock_there (live_stations stations) (clock station.system)
    (In-map clock_in (standing_system station) (live_stations stations) (live_there stations place station here live)))

-- a link that is up between two live systems is used
pub used_if : (stations : List Station) (direction : Direction) (channel : Channel) → channel.up ≡ true
    → stations_have_clock (live_stations stations) (sender direction channel).clock ≡ true
    → stations_have_clock (live_stations stations) (receiver direction channel).clock ≡ true
    → channel_is_used (live_stations stations) channel ≡ true
used_if stations FromA channel up from to = rw (up, from, to) refl
used_if stations FromB channel up from to = rw (up, from, to) refl

-- ---- one port

module _ (p : SettlingParams) (w : WorldState) (is : IsWorld p w)
    (incapable : (at : LinkPlace) (s : StandsUnanswered at w) (q : Port)
    → number s.asking.station.system.ports (sender at.direction s.channel).port ≡ Some q → is_capable q.peer ≡ false)
    (place : ℕ) (station : Station) (here : slice_get w.stations place ≡ Some station)
    (live : station.live ≡ true) (i : ℕ) (q : Port) (there : slice_get station.system.ports i ≡ Some q) where
  abbrev itself : PortId
  itself = own station.system (suc i)

  -- a link of the snapshot is at the port, or it isn't capable
  abbrev pub LinkedOrOff : Type 0
  LinkedOrOff = IsLinked (snapshot_of w) (port_identity_number itself) ⊎ (is_capable q.peer ≡ false)

  module _ (begins : BeginsLink w.net.channels itself) where
    -- its link leads to a port of another system
    other : StationsHavePort w.stations (receiver begins.direction begins.channel)
    other =
        leads_to w.stations begins.direction begins.channel (is.between begins.link begins.channel begins.here)

    named : clock station.system ≡ (sender begins.direction begins.channel).clock
    named = ap (λ (x : PortId). x.clock) (sym begins.begins)

    -- a live one: the link is of the snapshot
    by_live : other.station.live ≡ true → LinkedOrOff
    by_live lives =
        let from = clock_has w.stations place station _ here live named in
        let to = clock_has w.stations other.place other.station _ other.here lives other.named in
        let used = used_if w.stations begins.direction begins.channel begins.up from to in
        let joins = used_joins w begins.link begins.direction begins.channel begins.here used in
        inl (
          port_identity_number (receiver begins.direction begins.channel),
          subst (λ x. Joins (snapshot_of w) (port_identity_number x)
              (port_identity_number (receiver begins.direction begins.channel)))
              begins.begins joins,
        )

    -- one that has failed: nothing has answered for long enough
    by_failed : other.station.live ≡ false → LinkedOrOff
    by_failed failed =
        inr (incapable at stands q
        (ap (λ (x : PortId). number station.system.ports x.port) begins.begins ∙ there))
      where
        at : LinkPlace
        at = record {
          link = begins.link;
          direction = begins.direction;
          asking = place;
          answering = other.place;
        }

        stands : StandsUnanswered at w
        stands = record {
          channel = begins.channel;
          here = begins.here;
          up = begins.up;
          asking = record { station = station; here = here; live = live; named = named };
          answering = record {
            station = other.station;
            here = other.here;
            failed = failed;
            named = other.named;
          };
        }

    by_link : LinkedOrOff
    by_link = by other.station.live refl
      where
        by : (lives : Bool) → other.station.live ≡ lives → LinkedOrOff
        by true lives = by_live lives
        by false failed = by_failed failed

  -- where its Pdelay timer doesn't run it measured nothing
  pub linked_or_off : LinkedOrOff
  linked_or_off = by q.pdelay refl
    where
      by : (due : Option ℕ) → q.pdelay ≡ due → LinkedOrOff
      by None none =
          let idle = (is.known.measuring place station here live i q there).idle none in inr (rw idle.last refl)
      by (Some t) runs =
          let up : IsUp station.system (suc i) = rw (there, runs) refl in
          by_link (is.known.links place station here live (suc i) up)

-- ---- all ports

-- no port is both capable and not
not_both : (q : Port) → is_capable q.peer ≡ true → is_capable q.peer ≡ false → ⊥
not_both q on off = let both : true ≡ false = sym on ∙ off in absurd cc

module _ (g : Snapshot) (itself : PortId) (h : Held) (q : Port) (shown : IsShown h q) where
  -- what shows as Disabled isn't capable
  off_if : h ≡ Disabled → is_capable q.peer ≡ false
  off_if disabled = by (is_capable q.peer) refl
    where
      by : (b : Bool) → is_capable q.peer ≡ b → is_capable q.peer ≡ false
      by true on = absurd (shown.on on disabled)
      by false off = off

  -- a port at a link is capable, and one that isn't capable elsewhere is settled
  port_settled : (IsLinked g (port_identity_number itself) → is_capable q.peer ≡ true)
      → IsLinked g (port_identity_number itself) ⊎ (is_capable q.peer ≡ false) → IsPortSettled g itself h q
  port_settled on either = record { capable = (by either, on); disabled = (off_if, shown.off) }
    where
      by : IsLinked g (port_identity_number itself) ⊎ (is_capable q.peer ≡ false) → is_capable q.peer ≡ true
          → IsLinked g (port_identity_number itself)
      by (inl linked) on = linked
      by (inr off) on = absurd (not_both q on off)

pub ports_settled : (p : SettlingParams) (w : WorldState) → KeepPace p → IsWorld p w → GoodLinksMeasure p w
    → FailedNeighboursAreSilent p w
    → HaveQuietLinks p.params w → start_of p w ≤ w.time → ArePortsSettled w
ports_settled p w pace is watched silent quiet late place station here live i h q stands there =
    port_settled (snapshot_of w) (own station.system (suc i)) h q
    ((is.sound.on_time.stations place station here).steady.shown.each i h q stands there)
    (λ linked. (used linked).capable)
    (linked_or_off p w is (silent_incapable p w is.sound is.known pace.requests silent late) place station here
    live i q
    there)
  where
    used : IsLinked (snapshot_of w) (port_identity_number (own station.system (suc i))) → IsCapablePort h q
    used = used_capable p w pace is quiet watched late place station here live i h q stands there

-- so the ports are capable as the machine of gptp_bmca_machine wants them
pub are_capable : (p : SettlingParams) (w : WorldState) → KeepPace p → IsWorld p w → GoodLinksMeasure p w
    → FailedNeighboursAreSilent p w
    → BecomeCapable p w
are_capable p w pace is watched silent quiet late place station here live i h q stands there =
    let settled = ports_settled p w pace is watched silent quiet late place station here live i h q stands there in
    record {
      capable = λ linked disabled. not_both q (settled.capable.1 linked) (settled.disabled.0 disabled);
      unlinked = λ none. by none settled (is_capable q.peer) refl;
    }
  where
    by : (IsLinked (snapshot_of w) (port_identity_number (own station.system (suc i))) → ⊥)
        → IsPortSettled (snapshot_of w) (own station.system (suc i)) h q
        → (b : Bool) → is_capable q.peer ≡ b → h ≡ Disabled
    by none settled true is = absurd (none (settled.capable.0 is))
    by none settled false off = settled.disabled.1 off
