-- A change leads to a world that stands as the network does after one event more.
use Rattle.std.proofs.Common.{◌≡◌, ◌≢◌, ◌⊎◌, ℕ, ◌+◌, ◌*◌, ◌^◌, ◌%◌, Bool, true, false, List, [], ◌∷◌, ◌++◌, map, Some, slice_get, slice_set, refl, sym, ap, subst, ◌∙◌, inl, inr}
use Rattle.std.specs.Prelude.{if◌then◌else◌, ◌==◌}
use Rattle.std.proofs.lemmas.Bool.{and_from, and_parts, eq-eqb, eqb-true, or_cases, or_left, or_right}
use Rattle.gptp_vector.specs.declared.port.PortId.{PortId}
use Rattle.gptp_links.specs.declared.link.Direction.{Direction}
use Rattle.gptp_links.specs.declared.link.Direction.TheVariants.{FromA, FromB}
use Rattle.gptp_links.specs.Fate.{Draw}
use Rattle.gptp_roles.specs.Selection.{clock_of}
use Rattle.gptp_system.specs.Input.{PortDown, PortUp}
use Rattle.gptp_system.specs.State.{clock}
use Rattle.gptp_scenario.specs.declared.change.Act.TheVariants.{Change as Changing}
use Rattle.gptp_scenario.specs.declared.change.Change.{Change}
use Rattle.gptp_scenario.specs.declared.change.Change.TheVariants.{LinkDown, LinkUp, LinkSet, Fail, Recover, Priority1, Inject}
use Rattle.gptp_scenario.specs.declared.change.Timed.{Timed}
use Rattle.gptp_model.specs.declared.done.Done.{Done}
use Rattle.gptp_scenario.specs.declared.network.SystemSpec.{SystemSpec}
use Rattle.gptp_scenario.specs.declared.network.LinkSpec.{LinkSpec}
use Rattle.gptp_model.specs.declared.station.Station.{Station}
use Rattle.gptp_model.specs.Acts.{Acts, Changes, at, set_to}
use Rattle.gptp_scenario.specs.Change.{is_at, link_acted, link_after, link_changed, system_acted, system_after, system_changed, standing, member_with_bounds, with_up}
use Rattle.gptp_model.specs.Changing.{ComesUpIf, GoesDownIf, IsChannel, IsStation, brought_up, lost, taken_down, with_setup}
use Rattle.gptp_model.specs.Initial.{setup_of}
use Rattle.gptp_scenario.specs.Network.{NetworkState, same_port}
use Rattle.gptp_model.specs.Sound.{IsSound}
use Rattle.gptp_model.specs.World.{Channel, WorldState, port_id, sender}
use Rattle.gptp_lists.proofs.MappedLemmas.{alike}
use Rattle.gptp_lists.proofs.PlaceLemmas.{map-set, map-set_same}
use Rattle.gptp_network.proofs.SnapshotLemmas.{clock_after}
use Rattle.gptp_theorem.specs.Reached.{Shape, StandsAsPlanned, shape, shape_after, channel_wire}
use Rattle.gptp_theorem.proofs.KeptLemmas.{Keeps, injects_keep, tells_keep}
use Rattle.gptp_theorem.proofs.BeginLemmas.{SystemBecomes, of_setup}
use Rattle.gptp_theorem.proofs.EventLemmas.{last_behind, link_behind, map_each, set_one, system_behind}
use Rattle.gptp_theorem.proofs.SystemLemmas.{fails_becomes, prioritized_becomes, recovers_becomes}

-- ---- ports

-- one of a link's ends is this port
ending : (channel : Channel) (port : PortId) → (channel.a ≡ port) ⊎ (channel.b ≡ port)
    → (direction : Direction) × (sender direction channel ≡ port)
ending channel port (inl same) = (FromA, same)
ending channel port (inr same) = (FromB, same)

same_port_is : (p q : PortId) → same_port p q ≡ true → p ≡ q
same_port_is p q same =
    let both = and_parts (p.clock == q.clock) (p.port == q.port) same in
    let clocks = eqb-true p.clock q.clock both.0 in
    let ports = eqb-true p.port q.port both.1 in
    λ i. record { clock = clocks i; port = ports i }

is_same_port : (p q : PortId) → p ≡ q → same_port p q ≡ true
is_same_port p q same =
    and_from (p.clock == q.clock) (p.port == q.port)
    (eq-eqb p.clock q.clock (ap (λ (x : PortId). x.clock) same))
    (eq-eqb p.port q.port (ap (λ (x : PortId). x.port) same))

is_at_port : (number port : ℕ) (v : LinkSpec) → (v.a ≡ port_id number port) ⊎ (v.b ≡ port_id number port)
    → is_at number port v ≡ true
is_at_port number port v (inl same) = or_left _ _ (is_same_port v.a (port_id number port) same)
is_at_port number port v (inr same) = or_right _ _ (is_same_port v.b (port_id number port) same)

at_port : (number port : ℕ) (v : LinkSpec) → is_at number port v ≡ true
    → (v.a ≡ port_id number port) ⊎ (v.b ≡ port_id number port)
at_port number port v is =
    elim (or_cases (same_port v.a (port_id number port)) (same_port v.b (port_id number port)) is) [
      | inl same ↦ inl (same_port_is v.a (port_id number port) same)
      | inr same ↦ inr (same_port_is v.b (port_id number port) same)
    ]

-- ---- links

-- one link stands otherwise, and all else as it stood
record LinkBecomes (place : ℕ) (new : LinkSpec) (w w' : WorldState) : Type 0 where
  pub systems : map shape w'.stations ≡ map shape w.stations
  pub links : map channel_wire w'.net.channels ≡ slice_set (map channel_wire w.net.channels) place new
  pub last : w'.last_change ≡ w.last_change

-- a link that is up, or down, as it is to become
stays_so : (up : Bool) (place : ℕ) (channel : Channel) (w : WorldState) → slice_get w.net.channels place ≡ Some channel
    → channel.up ≡ up → LinkBecomes place (with_up up (channel_wire channel)) w w
stays_so up place channel w here is = record {
  systems = refl;
  links = sym (map-set_same channel_wire w.net.channels place channel (record channel { up = up }) here (rw is refl))
      ∙ map-set channel_wire w.net.channels place (record channel { up = up });
  last = refl;
}

goes_down_becomes : (up : Bool) (place : ℕ) (channel : Channel) (w : WorldState) (draws : List Draw) (w' : WorldState)
    → slice_get w.net.channels place ≡ Some channel → channel.up ≡ up → GoesDownIf up place channel w draws w'
    → LinkBecomes place (with_up false (channel_wire channel)) w w'
goes_down_becomes true place channel w draws w' here is k =
    let down : WorldState = record w { net = taken_down place channel w.net } in
    let kept = tells_keep PortDown channel down draws w' (λ port value e. cc) k in
    record {
      systems = kept.systems;
      links = kept.links ∙ map-set channel_wire w.net.channels place (lost channel);
      last = kept.last;
    }
goes_down_becomes false place channel w draws w' here is k =
    subst (LinkBecomes place (with_up false (channel_wire channel)) w) (sym k.1)
    (stays_so false place channel w here is)

comes_up_becomes : (up : Bool) (place : ℕ) (channel : Channel) (w : WorldState) (draws : List Draw) (w' : WorldState)
    → slice_get w.net.channels place ≡ Some channel → channel.up ≡ up → ComesUpIf up place channel w draws w'
    → LinkBecomes place (with_up true (channel_wire channel)) w w'
comes_up_becomes false place channel w draws w' here is k =
    let risen : WorldState = record w { net = brought_up place channel w.net } in
    let kept = tells_keep PortUp channel risen draws w' (λ port value e. cc) k in
    record {
      systems = kept.systems;
      links = kept.links ∙ map-set channel_wire w.net.channels place (record channel { up = true });
      last = kept.last;
    }
comes_up_becomes true place channel w draws w' here is k =
    subst (LinkBecomes place (with_up true (channel_wire channel)) w) (sym k.1) (stays_so true place channel w here is)

-- ---- one event more

-- the world at the time of the event, of which it is the last change
abbrev marked : Timed → WorldState → WorldState
marked timed w = record (at timed.at w) { last_change = timed.at }

module _ (n : NetworkState) (events : List Timed) (timed : Timed) (change : Change) (w w' : WorldState)
    (act : timed.act ≡ Changing change) (sound : IsSound w) (so : StandsAsPlanned n events w) where
  abbrev more : List Timed
  more = events ++ timed ∷ []

  wire_more : (v : LinkSpec) → link_after more v ≡ link_changed change (link_after events v)
  wire_more v = link_behind events timed v ∙ ap (λ a. link_acted a (link_after events v)) act

  shape_more : (m : SystemSpec) → shape_after n more m
      ≡ (let s = system_changed change (clock_of m.identity) (system_after events m) in
      record {
        setup = record (setup_of n m) { identity = s.identity };
        live = s.live;
        identity = s.identity;
      })
  shape_more m =
      ap (λ s. record {
        setup = record (setup_of n m) { identity = s.identity };
        live = s.live;
        identity = s.identity;
      })
      (system_behind events timed (clock_of m.identity) (standing m)
      ∙ ap (λ a. system_acted a (clock_of m.identity) (system_after events m)) act)

  -- no system and no link becomes another
  stands_still : ((m : SystemSpec) → shape_after n more m ≡ shape_after n events m)
      → ((v : LinkSpec) → link_changed change v ≡ v) → Keeps (marked timed w) w' → StandsAsPlanned n more w'
  stands_still still same k = record {
    systems = k.systems ∙ so.systems
        ∙ sym (map_each (shape_after n events) (shape_after n more) n.systems
        (λ i m there. still m));
    links = k.links ∙ so.links
        ∙ sym (map_each (link_after events) (link_after more) n.links
        (λ i v there. wire_more v ∙ same (link_after events v)));
    last = k.last ∙ sym (last_behind events timed);
  }

  -- a change of one link, at a port
  link_stands : (number port place : ℕ) (channel : Channel) (step : LinkSpec → LinkSpec)
      → IsChannel (port_id number port) place w.net channel
      → ((v : LinkSpec) → link_changed change v ≡ (if is_at number port v then step v else v))
      → ((m : SystemSpec) → shape_after n more m ≡ shape_after n events m)
      → LinkBecomes place (step (channel_wire channel)) (marked timed w) w' → StandsAsPlanned n more w'
  link_stands number port place channel step is does still k = record {
    systems = k.systems ∙ so.systems
        ∙ sym (map_each (shape_after n events) (shape_after n more) n.systems
        (λ i m there. still m));
    links = links;
    last = k.last ∙ sym (last_behind events timed);
  }
    where
      -- the link of the network that stands there
      own : (v : LinkSpec) × (slice_get n.links place ≡ Some v) × (link_after events v ≡ channel_wire channel)
      own = alike (link_after events) channel_wire n.links w.net.channels (sym so.links) place channel is.here

      hit : link_after more own.0 ≡ step (channel_wire channel)
      hit =
          wire_more own.0 ∙ ap (link_changed change) own.2 ∙ does (channel_wire channel)
          ∙ ap (λ b. if b then step (channel_wire channel) else channel_wire channel)
          (is_at_port number port (channel_wire channel) is.joined)

      -- no other is at the port
      missed : (i : ℕ) (v : LinkSpec) (other : Channel) → i ≢ place → slice_get w.net.channels i ≡ Some other
          → channel_wire other ≡ v → (b : Bool) → is_at number port v ≡ b → (if b then step v else v) ≡ v
      missed i v other apart here same false off = refl
      missed i v other apart here same true on =
          let one = ending other (port_id number port)
          (at_port number port (channel_wire other) (ap (is_at number port) same ∙ on)) in
          let two = ending channel (port_id number port) is.joined in
          absurd (apart (sound.wired.apart i place one.0 two.0 other channel here is.here (one.1 ∙ sym two.1)))

      miss : (i : ℕ) (v : LinkSpec) → i ≢ place → slice_get n.links i ≡ Some v → link_after more v ≡ link_after events v
      miss i v apart there =
          let (other, here, same) = alike channel_wire (link_after events) w.net.channels n.links so.links i v there in
          let now = link_after events v in
          wire_more v ∙ does now ∙ missed i now other apart here same (is_at number port now) refl

      links : map channel_wire w'.net.channels ≡ map (link_after more) n.links
      links =
          k.links ∙ ap (λ vs. slice_set vs place (step (channel_wire channel))) so.links
          ∙ ap (slice_set (map (link_after events) n.links) place) (sym hit)
          ∙ set_one (link_after events) (link_after more) n.links place own.0 own.1 miss

  -- the system that stands at a place
  record Found (place : ℕ) (station : Station) : Type 0 where
    member : SystemSpec
    there : slice_get n.systems place ≡ Some member
    same : shape station ≡ shape_after n events member
    named : clock_of member.identity ≡ clock station.system

  found : (place : ℕ) (station : Station) → slice_get w.stations place ≡ Some station → Found place station
  found place station here =
      let (m, there, same) = alike (shape_after n events) shape n.systems w.stations (sym so.systems) place
      station here in
      record {
        member = m;
        there = there;
        same = sym same;
        named = sym (clock_after events m) ∙ ap (λ (s : Shape). clock_of s.setup.identity) same
            ∙ (sound.wired.setups place station here).named;
      }

  -- a change of one system
  system_stands_so : (number place : ℕ) (station : Station) (new : Shape) → IsStation number place w station
      → ((m : SystemSpec) → (number == clock_of m.identity) ≡ false
      → shape_after n more m ≡ shape_after n events m)
      → ((m : SystemSpec) → (number == clock_of m.identity) ≡ true → shape station ≡ shape_after n events m
      → new ≡ shape_after n more m)
      → ((v : LinkSpec) → link_changed change v ≡ v)
      → SystemBecomes place new (marked timed w) w' → StandsAsPlanned n more w'
  system_stands_so number place station new is others becomes still k = record {
    systems = k.systems ∙ ap (λ ss. slice_set ss place new) so.systems
        ∙ ap (slice_set (map (shape_after n events) n.systems) place) hit
        ∙ set_one (shape_after n events) (shape_after n more) n.systems place own.member own.there
        miss;
    links = k.links ∙ so.links
        ∙ sym (map_each (link_after events) (link_after more) n.links
        (λ i v there. wire_more v ∙ still (link_after events v)));
    last = k.last ∙ sym (last_behind events timed);
  }
    where
      own : Found place station
      own = found place station is.here

      hit : new ≡ shape_after n more own.member
      hit = becomes own.member (eq-eqb number (clock_of own.member.identity) (sym is.named ∙ sym own.named)) own.same

      missed : (i : ℕ) (m : SystemSpec) → i ≢ place → slice_get n.systems i ≡ Some m → (b : Bool)
          → (number == clock_of m.identity) ≡ b → shape_after n more m ≡ shape_after n events m
      missed i m apart there false off = others m off
      missed i m apart there true on =
          let (at, here, same) = alike shape (shape_after n events) w.stations n.systems so.systems i m there
          in
          let named : clock at.system ≡ clock_of m.identity =
          sym (sound.wired.setups i at here).named ∙ ap (λ (s : Shape). clock_of s.setup.identity) same
          ∙ clock_after events m in
          let one = eqb-true number (clock_of m.identity) on in
          absurd (apart (sound.wired.clocks i place at station here is.here (named ∙ sym one ∙ sym is.named)))

      miss : (i : ℕ) (m : SystemSpec) → i ≢ place → slice_get n.systems i ≡ Some m
          → shape_after n more m ≡ shape_after n events m
      miss i m apart there = missed i m apart there (number == clock_of m.identity) refl

changed_stands : (change : Change) (n : NetworkState) (events : List Timed) (timed : Timed) (w : WorldState)
    (draws : List Draw) (w' : WorldState) → timed.act ≡ Changing change → IsSound w → StandsAsPlanned n events w
    → Changes change (marked timed w) draws w' → StandsAsPlanned n (events ++ timed ∷ []) w'
changed_stands (LinkDown number port) n events timed w draws w' act sound so k =
    let change = LinkDown number port in
    link_stands n events timed change w w' act sound so number port k.place k.channel (with_up false) k.is (λ v. refl)
    (shape_more n events timed change w w' act sound so)
    (goes_down_becomes k.channel.up k.place k.channel (marked timed w) draws w' k.is.here refl k.so)
changed_stands (LinkUp number port) n events timed w draws w' act sound so k =
    let change = LinkUp number port in
    link_stands n events timed change w w' act sound so number port k.place k.channel (with_up true) k.is (λ v. refl)
    (shape_more n events timed change w w' act sound so)
    (comes_up_becomes k.channel.up k.place k.channel (marked timed w) draws w' k.is.here refl k.so)
changed_stands (LinkSet number port min max loss) n events timed w draws w' act sound so k =
    let change = LinkSet number port min max loss in
    let new : Channel = record k.channel { bounds = set_to min max loss k.channel } in
    link_stands n events timed change w w' act sound so number port k.place k.channel
    (member_with_bounds min max loss) k.is
    (λ v. refl) (shape_more n events timed change w w' act sound so)
    (subst (LinkBecomes k.place (member_with_bounds min max loss (channel_wire k.channel)) (marked timed w))
    (sym k.so.1)
    (record { systems = refl; links = map-set channel_wire w.net.channels k.place new; last = refl }))
changed_stands (Fail number) n events timed w draws w' act sound so k =
    let change = Fail number in
    let is : IsStation number k.place w k.station = record { here = k.is.here; named = k.is.named } in
    let shapes = shape_more n events timed change w w' act sound so in
    system_stands_so n events timed change w w' act sound so number k.place k.station (of_setup false k.station.setup)
    is
    (λ m off. shapes m ∙ rw off refl)
    (λ m on same. ap (λ (s : Shape). of_setup false s.setup) same ∙ sym (shapes m ∙ rw on refl)) (λ v. refl)
    (fails_becomes k.station.live k.place k.station (marked timed w) draws w' k.is.here refl k.so)
changed_stands (Recover number) n events timed w draws w' act sound so k =
    let change = Recover number in
    let is : IsStation number k.place w k.station = record { here = k.is.here; named = k.is.named } in
    let shapes = shape_more n events timed change w w' act sound so in
    let own = found n events timed change w w' act sound so k.place k.station k.is.here in
    system_stands_so n events timed change w w' act sound so number k.place k.station (of_setup true k.station.setup) is
    (λ m off. shapes m ∙ rw off refl)
    (λ m on same. ap (λ (s : Shape). of_setup true s.setup) same ∙ sym (shapes m ∙ rw on refl)) (λ v. refl)
    (recovers_becomes k.station.live k.place k.station (marked timed w) draws w' k.is.here refl
    (own.same ∙ ap (λ (s : Shape). of_setup s.live s.setup) (sym own.same)) k.so)
changed_stands (Priority1 number value) n events timed w draws w' act sound so k =
    let change = Priority1 number value in
    let is : IsStation number k.place w k.station = record { here = k.is.here; named = k.is.named } in
    let shapes = shape_more n events timed change w w' act sound so in
    let own = found n events timed change w w' act sound so k.place k.station k.is.here in
    system_stands_so n events timed change w w' act sound so number k.place k.station
    (of_setup k.station.live (with_setup value k.station).setup) is
    (λ m off. shapes m ∙ rw off refl)
    (λ m on same.
    ap (λ (s : Shape). of_setup s.live (record s.setup {
      identity = value * 2 ^ 104 + s.setup.identity % 2 ^ 104;
    }))
    same
    ∙ sym (shapes m ∙ rw on refl))
    (λ v. refl)
    (prioritized_becomes value k.place k.station (marked timed w) draws w' k.is.here
    (own.same ∙ ap (λ (s : Shape). of_setup s.live s.setup) (sym own.same)) k.so)
changed_stands (Inject number port octets) n events timed w draws w' act sound so k =
    let change = Inject number port octets in
    stands_still n events timed change w w' act sound so (shape_more n events timed change w w' act sound so)
    (λ v. refl)
    (injects_keep k.channel.up (port_id number port) octets (marked timed w) draws w' k.so)

pub changes_stand : (n : NetworkState) (events : List Timed) (timed : Timed) (change : Change) (w : WorldState)
    (draws : List Draw) (done : Done) (w' : WorldState) → timed.act ≡ Changing change → IsSound w
    → Acts timed.act (at timed.at w) draws done w' → StandsAsPlanned n events w
    → StandsAsPlanned n (events ++ timed ∷ []) w'
changes_stand n events timed change w draws done w' act sound k so =
    changed_stands change n events timed w draws w' act sound so
    (subst (λ a. Acts a (at timed.at w) draws done w') act k).1
