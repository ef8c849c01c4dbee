-- What stands in a sound and encodable world is a network.
use Rattle.std.proofs.Common.{◌≡◌, ◌≢◌, ◌≤◌, ℕ, true, List, Some, slice_get, refl, sym, ap, subst, ◌∙◌}
use Rattle.std.proofs.lemmas.Bool.{and_parts}
use Rattle.gptp_lists.specs.Members.{In}
use Rattle.gptp_graph.specs.Snapshot.{IsIdentified, IsPortOf, IsWellFormed, PortIdentity, System}
use Rattle.gptp_links.specs.declared.link.Direction.{Direction}
use Rattle.gptp_links.specs.declared.link.Direction.TheVariants.{FromA, FromB}
use Rattle.gptp_model.specs.Sound.{IsSound}
use Rattle.gptp_model.specs.World.{Channel, WorldState, receiver, sender}
use Rattle.gptp_invariants.specs.WorldEncodable.{IsEncodable}
use Rattle.gptp_invariants.specs.WorldStanding.{AreBetween, stations_have_clock, channel_is_used, live_stations, snapshot_of}
use Rattle.gptp_invariants.proofs.WorldSystemLemmas.{clock_lives, clocks_differ, live_from}
use Rattle.gptp_invariants.proofs.WorldWayLemmas.{IsWay, way_of, ways_meet}

-- ---- a used link

-- it is up, and both its ends live
pub used_up : (systems : List System) (channel : Channel) → channel_is_used systems channel ≡ true → channel.up ≡ true
used_up systems channel used = (and_parts channel.up _ used).0

pub sender_lives : (systems : List System) (direction : Direction) (channel : Channel)
    → channel_is_used systems channel ≡ true → stations_have_clock systems (sender direction channel).clock ≡ true
sender_lives systems FromA channel used = (and_parts _ _ (and_parts channel.up _ used).1).0
sender_lives systems FromB channel used = (and_parts _ _ (and_parts channel.up _ used).1).1

-- its ends are ports of two systems
pub ends_differ : (w : WorldState) → AreBetween w → (link : ℕ) (direction : Direction) (channel : Channel)
    → slice_get w.net.channels link ≡ Some channel
    → (sender direction channel).clock ≢ (receiver direction channel).clock
ends_differ w between link FromA channel here = (between link channel here).apart
ends_differ w between link FromB channel here = λ same. (between link channel here).apart (sym same)

-- ---- what stands well

identified : (w : WorldState) → IsEncodable w → (s : System) → In s (live_stations w.stations) → IsIdentified s
identified w encodable s member =
    let at = live_from w.stations s member in
    subst IsIdentified (sym at.is)
    (record { octets = (encodable.stations at.place at.station at.here).system.identity; clock = refl })

-- a link ends at a port of a live system
ends_at : (w : WorldState) → IsSound w → (p q : PortIdentity) → IsWay w p q
    → (s : System) × In s (live_stations w.stations) × IsPortOf s p
ends_at w sound p q way =
    let (s, member, same) = clock_lives w.stations (sender way.direction way.channel).clock
    (sender_lives (live_stations w.stations) way.direction way.channel way.used) in
    let at = live_from w.stations s member in
    let port = sound.wired.ports way.link at.place way.direction way.channel at.station way.here at.here
    (ap (λ (x : System). x.clock) (sym at.is) ∙ same) in (
      s,
      member,
      record {
        clock = same ∙ ap (λ (x : PortIdentity). x.clock) way.from;
        first = subst (λ (x : PortIdentity). 1 ≤ x.port) way.from port.least;
        last = subst (λ (x : PortIdentity). x.port ≤ s.ports) way.from
            (subst (λ (x : System). (sender way.direction way.channel).port ≤ x.ports) (sym at.is) port.most);
      },
    )

apart : (w : WorldState) → AreBetween w → (p q : PortIdentity) → IsWay w p q → p.clock ≢ q.clock
apart w between p q way same =
    ends_differ w between way.link way.direction way.channel way.here
    (ap (λ (x : PortIdentity). x.clock) way.from ∙ same ∙ ap (λ (x : PortIdentity). x.clock) (sym way.to))

pub stands_well : (w : WorldState) → IsSound w → AreBetween w → IsEncodable w → IsWellFormed (snapshot_of w)
stands_well w sound between encodable = record {
  different = clocks_differ w.stations sound.wired.clocks;
  identified = identified w encodable;
  ends = λ p q joins. ends_at w sound p q (way_of w p q joins);
  one_link = λ p q r one other. ways_meet w p q r sound encodable (way_of w p q one) (way_of w p r other);
  apart = λ p q joins. apart w between p q (way_of w p q joins);
}
