-- Names mean one thing, and no act changes that.
use Rattle.std.proofs.Common.{◌≡◌, ◌≢◌, ℕ, List, length, Option, Some, slice_get, refl, sym, ap, subst, ◌∙◌, inl, inr}
use Rattle.std.specs.List.{All, range_with_len}
use Rattle.gptp_lists.proofs.MappedLemmas.{mapped, same_there}
use Rattle.gptp_vector.specs.declared.port.PortId.{PortId}
use Rattle.gptp_links.specs.declared.bounds.Bounds.{Bounds}
use Rattle.gptp_links.specs.declared.link.Direction.{Direction}
use Rattle.gptp_links.specs.declared.link.Direction.TheVariants.{FromA, FromB}
use Rattle.gptp_links.specs.Fate.{Draw}
use Rattle.gptp_roles.specs.Selection.{clock_of}
use Rattle.gptp_system.specs.State.{clock}
use Rattle.gptp_setup.specs.Intervals.{AreIntervals, IsLog}
use Rattle.gptp_system.proofs.StartLemmas.{length-new_ports}
use Rattle.gptp_system.proofs.WindowLemmas.{starts_measuring_over}
use Rattle.gptp_scenario.specs.Network.{IsEnd, IsMember, IsNetwork, NetworkState}
use Rattle.gptp_scenario.proofs.LogLemmas.{largest_so, logs_so, logs_up_to}
use Rattle.gptp_scenario.specs.declared.network.SystemSpec.{SystemSpec}
use Rattle.gptp_scenario.specs.declared.network.LinkSpec.{LinkSpec}
use Rattle.gptp_scenario.specs.declared.change.Act.{Act}
use Rattle.gptp_scenario.specs.declared.change.Timed.{Timed}
use Rattle.gptp_model.specs.declared.done.Done.{Done}
use Rattle.gptp_model.specs.declared.station.Station.{Station}
use Rattle.gptp_model.specs.Acts.{Acts, AtLink, AtSystem}
use Rattle.gptp_model.specs.Advancing.{Advanced, Told}
use Rattle.gptp_model.specs.Changing.{IsChannel}
use Rattle.gptp_model.specs.Course.{Begun, WasDone}
use Rattle.gptp_model.specs.Initial.{channel_from, initial, setup_of, station_of}
use Rattle.gptp_model.specs.Sound.{HaveOwnClocks, IsItsSetup, IsSound}
use Rattle.gptp_model.specs.World.{Channel, Net, WorldState, sender}
use Rattle.gptp_model.proofs.StayLemmas.{acts_stay, advanced_stays, begins_same, done_stays, starts_all_stay, stays_clocks, stays_setups, JoinTheSame, Stays}
use Rattle.gptp_determinism.specs.Named.{HaveOwnPorts, IsNamed, JoinTwoPorts}

-- ---- what is kept

-- links that join the same ports
pub ports_kept : (before after : List Channel) → JoinTheSame before after → HaveOwnPorts before → HaveOwnPorts after
ports_kept before after joins own link other direction way channel at here there same =
    let one = joins link channel here in
    let two = joins other at there in
    own link other direction way one.old two.old one.here two.here
    (sym (begins_same before link direction channel one) ∙ same ∙ begins_same before other way at two)

pub named_still : (w w' : WorldState) → Stays w w' → IsNamed w → IsNamed w'
named_still w w' stays is = record {
  setups = stays_setups w w' stays;
  clocks = stays_clocks w w' stays is.clocks;
  ports = ports_kept w.net.channels w'.net.channels stays.links is.ports;
}

-- at another time
pub named_at : (w : WorldState) (time last_change : ℕ) → IsNamed w
    → IsNamed (record w { time = time; last_change = last_change })
named_at w time last_change is = record { setups = is.setups; clocks = is.clocks; ports = is.ports }

pub acts_named : (act : Act) (w w' : WorldState) (draws : List Draw) (done : Done) → IsNamed w
    → Acts act w draws done w' → IsNamed w'
acts_named act w w' draws done is k = named_still w w' (acts_stay act w draws done w' is.setups k) is

-- ---- sound worlds, and those that networks make

-- two ends of one link that are the same port are the same end
same_end : (direction way : Direction) (channel : Channel) → (channel.a ≡ channel.b → ⊥)
    → sender direction channel ≡ sender way channel → direction ≡ way
same_end FromA FromA channel two same = refl
same_end FromB FromB channel two same = refl
same_end FromA FromB channel two same = absurd (two same)
same_end FromB FromA channel two same = absurd (two (sym same))

pub sound_named : (w : WorldState) → IsSound w → JoinTwoPorts w → IsNamed w
sound_named w is two = record {
  setups = is.wired.setups;
  clocks = is.wired.clocks;
  ports = λ link other direction way channel at here there same.
      let places = is.wired.apart link other direction way channel at here there same in
      let one : at ≡ channel =
      same_there w.net.channels link at channel
      (subst (λ (i : ℕ). slice_get w.net.channels i ≡ Some at) (sym places) there) here in (
        places,
        same_end direction way channel (two link channel here)
            (same ∙ ap (λ (c : Channel). sender way c) one),
      );
}

-- what a network keeps, so that names mean one thing in its world: intervals and systems are within their limits,
-- clocks differ, and at a port one end of one link is at most
pub record NamesOne (n : NetworkState) : Type 0 where
  pub announce : IsLog n.params.announce
  pub systems : (i : ℕ) (m : SystemSpec) → slice_get n.systems i ≡ Some m → IsMember m
  pub clocks : (i j : ℕ) (l m : SystemSpec) → slice_get n.systems i ≡ Some l → slice_get n.systems j ≡ Some m
      → clock_of l.identity ≡ clock_of m.identity → i ≡ j
  pub apart : (i : ℕ) (w : LinkSpec) → slice_get n.links i ≡ Some w → w.a.clock ≢ w.b.clock
  pub one_link : (i j : ℕ) (v w : LinkSpec) (p : PortId) → slice_get n.links i ≡ Some v → slice_get n.links j ≡ Some w
      → IsEnd p v → IsEnd p w → i ≡ j

end_at : (direction : Direction) (w : LinkSpec) → IsEnd (sender direction (channel_from w)) w
end_at FromA w = inl refl
end_at FromB w = inr refl

-- a system's ports announce at its intervals, none of which is above the largest of the network
intervals_named : (n : NetworkState) → NamesOne n → (place : ℕ) (m : SystemSpec) → slice_get n.systems place ≡ Some m
    → AreIntervals (setup_of n m)
intervals_named n is place m there =
    let each : (i : ℕ) (k : SystemSpec) → slice_get n.systems i ≡ Some k → All IsLog k.intervals.items =
    λ i k at. (is.systems i k at).logs in
    record {
      many = (is.systems place m there).many;
      each = logs_up_to n each place m there;
      largest = largest_so IsLog n (logs_so IsLog n each) is.announce;
    }

pub names_one-initial : (n : NetworkState) → NamesOne n → IsNamed (initial n)
names_one-initial n is = record {
  setups = λ place station there.
      let found = mapped (station_of n) n.systems place station there in
      let limits = is.systems place found.0 found.1 in
      subst IsItsSetup found.2 (record {
        ports = length-new_ports (clock_of found.0.identity) n.params 1 found.0.intervals.items ∙ limits.many;
        few = limits.ports;
        phase = limits.phase;
        drift = limits.drift;
        intervals = intervals_named n is place found.0 found.1;
        named = refl;
        windows = starts_measuring_over (setup_of n found.0) 0;
      });
  clocks = λ place other station at here there same.
      let one = mapped (station_of n) n.systems place station here in
      let two = mapped (station_of n) n.systems other at there in
      is.clocks place other one.0 two.0 one.1 two.1
      (ap (λ (x : Station). clock x.system) one.2 ∙ same ∙ sym (ap (λ (x : Station). clock x.system) two.2));
  ports = λ link other direction way channel at here there same.
      let one = mapped channel_from n.links link channel here in
      let two = mapped channel_from n.links other at there in
      let start : sender direction (channel_from one.0) ≡ sender way (channel_from two.0) =
      ap (sender direction) one.2 ∙ same ∙ sym (ap (sender way) two.2) in
      let places : link ≡ other = is.one_link link other one.0 two.0 (sender way (channel_from two.0)) one.1 two.1
      (subst (λ (p : PortId). IsEnd p one.0) start (end_at direction one.0)) (end_at way two.0) in
      let wires : two.0 ≡ one.0 = same_there n.links link two.0 one.0
      (subst (λ (i : ℕ). slice_get n.links i ≡ Some two.0) (sym places) two.1) one.1 in (
        places,
        same_end direction way (channel_from one.0)
            (λ ends. is.apart link one.0 one.1 (ap (λ (p : PortId). p.clock) ends))
            (start ∙ ap (λ (w : LinkSpec). sender way (channel_from w)) wires),
      );
}

pub initial_named : (n : NetworkState) → IsNetwork n → IsNamed (initial n)
initial_named n is =
    names_one-initial n (record {
      announce = is.params.ranges.params.announce;
      systems = is.systems;
      clocks = is.clocks;
      apart = λ i w there. (is.links i w there).apart;
      one_link = is.one_link;
    })

-- ---- what worlds come to

module _ {F : Type 0} (answers : Bounds → ℕ → F → Option ℕ → F → Type 0) where
  pub done_named : (event : Timed) (w v : WorldState) (fate f : F) (done : Done) → IsNamed w
      → WasDone answers event fate f w v done → IsNamed v
  done_named event w v fate f done is k =
      named_still w v (done_stays answers event fate f w v done is.setups k) is

  pub advanced_named : (until : ℕ) (told : List Told) (w v : WorldState) (fate f : F) → IsNamed w
      → Advanced answers until told fate f w v → IsNamed v
  advanced_named until told w v fate f is k =
      named_still w v (advanced_stays answers until told fate f w v is.setups k) is

  pub begun_named : (n : NetworkState) (fate f : F) (w : WorldState) → IsNamed (initial n)
      → Begun answers n fate f w → IsNamed w
  begun_named n fate f w is k =
      named_still (initial n) w
      (starts_all_stay (range_with_len 0 (length n.systems)) (initial n) k.draws w is.setups k.starts) is

-- ---- what is true of what a name names

-- of two things that are said of the link at a port, the second is true where the first is
pub link_too : (port : PortId) (net : Net) (So To : ℕ → Channel → Type 0) → HaveOwnPorts net.channels
    → (k : AtLink port net So) → AtLink port net To → To k.place k.channel
link_too port net So To own k l =
    let one = end_of k.place k.channel k.is in
    let two = end_of l.place l.channel l.is in
    let places = (own l.place k.place two.0 one.0 l.channel k.channel l.is.here k.is.here (two.1 ∙ sym one.1)).0 in
    let channels : l.channel ≡ k.channel =
    same_there net.channels k.place l.channel k.channel
    (subst (λ (i : ℕ). slice_get net.channels i ≡ Some l.channel) places l.is.here) k.is.here in
    subst (λ (c : Channel). To k.place c) channels (subst (λ (i : ℕ). To i l.channel) places l.so)
  where
    end_of : (place : ℕ) (channel : Channel) → IsChannel port place net channel
        → (direction : Direction) × (sender direction channel ≡ port)
    end_of place channel is =
        elim is.joined [
          | inl a ↦ (FromA, a)
          | inr b ↦ (FromB, b)
        ]

-- and of the system of a clock
pub system_too : (number : ℕ) (w : WorldState) (So To : ℕ → Station → Type 0) → HaveOwnClocks w
    → (k : AtSystem number w So) → AtSystem number w To → To k.place k.station
system_too number w So To own k l =
    let places = own l.place k.place l.station k.station l.is.here k.is.here (l.is.named ∙ sym k.is.named) in
    let stations : l.station ≡ k.station =
    same_there w.stations k.place l.station k.station
    (subst (λ (i : ℕ). slice_get w.stations i ≡ Some l.station) places l.is.here) k.is.here in
    subst (λ (x : Station). To k.place x) stations (subst (λ (i : ℕ). To i l.station) places l.so)
