-- What the ways of a world are made of: the numbers of its setups and of its links in use.
use Rattle.std.proofs.Common.{◌≡◌, ◌≤◌, ◌*◌, ℕ, zero, suc, ℤ, pos, negsuc, Bool, true, false, List, [], ◌∷◌, map, Option, Some, None, slice_get, refl, sym, ap, subst, ◌∙◌, ◌⊎◌, inl, inr, arith}
use Rattle.std.proofs.lemmas.Nat.{mul-le}
use Rattle.std.specs.Prelude.{if◌then◌else◌, ◌&&◌, ◌||◌, max}
use Rattle.std.specs.Option.{option_map_or}
use Rattle.std.proofs.lemmas.Bool.{and_from, and_parts, or_cases, or_left, or_right}
use Rattle.std.proofs.lemmas.Int.{ints}
use Rattle.std.proofs.lemmas.Option.{none-some, same_Some}
use Rattle.gptp_graph.specs.Snapshot.{PortIdentity, System}
use Rattle.gptp_links.specs.declared.bounds.Bounds.{Bounds}
use Rattle.gptp_links.specs.declared.link.Direction.{Direction}
use Rattle.gptp_links.specs.declared.link.Direction.TheVariants.{FromA, FromB}
use Rattle.gptp_lists.proofs.MappedLemmas.{mapped, mapped_there}
use Rattle.gptp_pdelay.specs.Clock.{IsDrift, IsStampClock, local_clock}
use Rattle.gptp_pdelay.proofs.ClockLemmas.{stamps_make_clock}
use Rattle.gptp_setup.specs.declared.setup.Params.{Params}
use Rattle.gptp_setup.specs.declared.setup.Setup.{Setup}
use Rattle.gptp_setup.specs.Intervals.{AreParams, IsLog, interval_of}
use Rattle.gptp_setup.specs.Stamping.{behind_of, blur_of, rate_interval}
use Rattle.gptp_setup.proofs.IntervalLemmas.{interval_rises}
use Rattle.gptp_system.specs.State.{clock, local_time, stamp_time}
use Rattle.gptp_model.proofs.BareLemmas.{bare}
use Rattle.gptp_model.specs.declared.station.Station.{Station}
use Rattle.gptp_model.specs.Sound.{HaveOwnClocks, HaveTheirSetups, IsSound}
use Rattle.gptp_model.specs.World.{Channel, WorldState, receiver, sender}
use Rattle.gptp_sync_machine.specs.TreeLaws.{ArePartsOf, AreStampsOf}
use Rattle.gptp_invariants.specs.ChoiceCalm.{delay_in, greatest_channel_delay, has_port_id, clock_place, setups_of}
use Rattle.gptp_invariants.specs.SyncFollowers.{bound_at, follower_parts, set_up_with, stamps_of}
use Rattle.gptp_invariants.specs.WorldEncodable.{IsEncodable}
use Rattle.gptp_invariants.specs.DelayLinkView.{other_direction, setup_stamping, setup_stamps}
use Rattle.gptp_invariants.specs.DelayMeasured.{LinkIsMeasured}
use Rattle.gptp_invariants.specs.WorldStanding.{channel_is_used, live_stations}
use Rattle.gptp_invariants.specs.ChoiceView.{port_identity_number}
use Rattle.gptp_invariants.proofs.ChoiceCalmKeptLemmas.{KeepsNetwork, of_kept}
use Rattle.gptp_invariants.proofs.ChoiceFoundLemmas.{is_port_from, is_port_there, place_is}
use Rattle.gptp_invariants.proofs.DelayLinkLemmas.{sender_opposite, stamped_as_set_up}
use Rattle.gptp_invariants.proofs.WorldWayLemmas.{one_way}

-- ---- setups

-- what a system is set up with
pub set_up_is : {X : Type 0} (f : Setup → X) (none : X) (w : WorldState) → HaveOwnClocks w → (place : ℕ)
    (station : Station) → slice_get w.stations place ≡ Some station
    → set_up_with f none w.stations (clock station.system) ≡ f station.setup
set_up_is f none w own place station here =
    let setup_in : Station → Setup = λ x. x.setup in
    let there = mapped_there setup_in w.stations place station here in
    let at : slice_get (setups_of w.stations) (clock_place w.stations (clock station.system)) ≡ Some station.setup =
    ap (slice_get (setups_of w.stations)) (sym (place_is w own place station here)) ∙ there in
    ap (λ o. option_map_or f o none) at

-- its clock is that of its phase and drift
pub clock_shown : (p : Params) (w : WorldState) → IsSound w → LinkIsMeasured w → (place : ℕ) (station : Station)
    → slice_get w.stations place ≡ Some station → (t : ℕ)
    → local_time station.system t
    ≡ local_clock ((follower_parts p w).phase (clock station.system))
    ((follower_parts p w).drift (clock station.system)) t
clock_shown p w sound measured place station here t =
    let set_up = (measured.stations place station here).set_up in
    let own = sound.wired.clocks in
    let phase = set_up.phase ∙ sym (set_up_is (λ setup. setup.phase) 0 w own place station here) in
    let drift = set_up.drift ∙ sym (set_up_is (λ setup. setup.drift) (pos 0) w own place station here) in
    λ i. local_clock (phase i) (drift i) t

-- its time stamps are those of its setup, by its clock
pub clock_stamped : (w : WorldState) → IsSound w → LinkIsMeasured w → (place : ℕ) (station : Station)
    → slice_get w.stations place ≡ Some station → (t : ℕ)
    → stamp_time station.system t ≡ stamps_of w.stations (clock station.system) t
clock_stamped w sound measured place station here t =
    stamped_as_set_up station (measured.stations place station here).set_up t
    ∙ ap (λ (stamps : ℕ → ℤ). stamps t)
    (sym (set_up_is setup_stamps (λ t. pos 0) w sound.wired.clocks place station here))

-- and these are time stamps of the clock, as exact as those of all systems
pub setup_read : (p : Params) (w : WorldState) → HaveOwnClocks w → HaveTheirSetups w → (place : ℕ) (station : Station)
    → slice_get w.stations place ≡ Some station → station.setup.params ≡ p
    → AreStampsOf (follower_parts p w) (clock station.system) (setup_stamps station.setup)
setup_read p w own setups place station here set =
    let setup = station.setup in
    let x = follower_parts p w in
    let number = clock station.system in
    let phase = set_up_is (λ (y : Setup). y.phase) 0 w own place station here in
    let drift = set_up_is (λ (y : Setup). y.drift) (pos 0) w own place station here in
    let made = stamps_make_clock (setup_stamping setup) setup.phase setup.drift (setups place station here).drift in
    subst (λ (q : Params). IsStampClock (blur_of q) (behind_of q) (x.phase number) (x.drift number)
    (setup_stamps setup)) set
    (subst (λ ahead. IsStampClock (blur_of setup.params) (behind_of setup.params) ahead (x.drift number)
    (setup_stamps setup)) (sym phase)
    (subst (λ rate. IsStampClock (blur_of setup.params) (behind_of setup.params) setup.phase rate (setup_stamps setup))
    (sym drift) made))

pub stamps_read : (p : Params) (w : WorldState) → HaveOwnClocks w → HaveTheirSetups w → (place : ℕ) (station : Station)
    → slice_get w.stations place ≡ Some station → station.setup.params ≡ p
    → AreStampsOf (follower_parts p w) (clock station.system) (stamps_of w.stations (clock station.system))
stamps_read p w own setups place station here set =
    subst (AreStampsOf (follower_parts p w) (clock station.system))
    (sym (set_up_is setup_stamps (λ t. pos 0) w own place station here))
    (setup_read p w own setups place station here set)

-- each drift is within its limits
drifts_fit : (stations : List Station)
    → ((place : ℕ) (station : Station) → slice_get stations place ≡ Some station → IsDrift station.setup.drift)
    → (number : ℕ) → IsDrift (set_up_with (λ setup. setup.drift) (pos 0) stations number)
drifts_fit stations each number = by (slice_get (setups_of stations) (clock_place stations number)) refl
  where
    by : (found : Option Setup) → slice_get (setups_of stations) (clock_place stations number) ≡ found
        → IsDrift (option_map_or (λ (setup : Setup). setup.drift) found (pos 0))
    by None is = record { low = omega (arith, ints); high = omega (arith, ints) }
    by (Some setup) is =
        let (station, there, same) = mapped (λ (x : Station). x.setup) stations _ setup is in
        subst (λ (x : Setup). IsDrift x.drift) same (each (clock_place stations number) station there)

-- ---- bounds

-- no bound of a link in use is above the greatest delay
bound_short : (systems : List System) (channels : List Channel) (port : PortIdentity)
    → bound_at (λ b. b.max) systems channels port ≤ greatest_channel_delay systems channels
bound_short systems [] port = omega arith
bound_short systems (first ∷ channels) port =
    by (channel_is_used systems first) (has_port_id first.a port || has_port_id first.b port)
    (bound_short systems channels port)
  where
    by : (used at : Bool) → bound_at (λ b. b.max) systems channels port ≤ greatest_channel_delay systems channels
        → (if used && at then first.bounds.max else bound_at (λ b. b.max) systems channels port)
        ≤ (if used then max first.bounds.max (greatest_channel_delay systems channels) else greatest_channel_delay
        systems channels)
    by true true later = omega arith
    by true false later = omega arith
    by false at later = later

-- one is found at each port of a link in use
abbrev FindsBound : (Bounds → ℕ) → List System → List Channel → PortIdentity → ℕ → Type 0
FindsBound f systems channels port bound =
    (link : ℕ) × (direction : Direction) × (channel : Channel) × (slice_get channels link ≡ Some channel)
    × (port_identity_number (sender direction channel) ≡ port) × (bound ≡ f channel.bounds)

at_end : (direction : Direction) (channel : Channel) (port : PortIdentity)
    → port_identity_number (sender direction channel) ≡ port
    → (has_port_id channel.a port || has_port_id channel.b port) ≡ true
at_end FromA channel port same = or_left (has_port_id channel.a port) _ (is_port_there channel.a port same)
at_end FromB channel port same = or_right (has_port_id channel.a port) _ (is_port_there channel.b port same)

from_end : (channel : Channel) (port : PortIdentity) → (has_port_id channel.a port || has_port_id channel.b port) ≡ true
    → (direction : Direction) × (port_identity_number (sender direction channel) ≡ port)
from_end channel port is = by (or_cases (has_port_id channel.a port) (has_port_id channel.b port) is)
  where
    by : (has_port_id channel.a port ≡ true) ⊎ (has_port_id channel.b port ≡ true)
        → (direction : Direction) × (port_identity_number (sender direction channel) ≡ port)
    by (inl a) = (FromA, is_port_from channel.a port a)
    by (inr b) = (FromB, is_port_from channel.b port b)

bound_found : (f : Bounds → ℕ) (systems : List System) (channels : List Channel) (link : ℕ) (direction : Direction)
    (channel : Channel) (port : PortIdentity) → slice_get channels link ≡ Some channel
    → channel_is_used systems channel ≡ true → port_identity_number (sender direction channel) ≡ port
    → FindsBound f systems channels port (bound_at f systems channels port)
bound_found f systems [] link direction channel port here used begins = absurd (none-some channel here)
bound_found f systems (first ∷ channels) zero direction channel port here used begins =
    let same : first ≡ channel = same_Some first channel here in
    let uses : channel_is_used systems first ≡ true = ap (channel_is_used systems) same ∙ used in
    let at = at_end direction first port (ap (λ c. port_identity_number (sender direction c)) same ∙ begins) in
    let both = and_from (channel_is_used systems first)
    (has_port_id first.a port || has_port_id first.b port) uses at in (
      zero,
      direction,
      first,
      refl,
      ap (λ c. port_identity_number (sender direction c)) same ∙ begins,
      ap (λ b. if b then f first.bounds else bound_at f systems channels port) both,
    )
bound_found f systems (first ∷ channels) (suc link) direction channel port here used begins =
    by (channel_is_used systems first && (has_port_id first.a port || has_port_id first.b port)) refl
    (bound_found f systems channels link direction channel port here used begins)
  where
    by : (b : Bool) → (channel_is_used systems first && (has_port_id first.a port || has_port_id first.b port)) ≡ b
        → FindsBound f systems channels port (bound_at f systems channels port)
        → FindsBound f systems (first ∷ channels) port
        (if b then f first.bounds else bound_at f systems channels port)
    by true is later =
        let (way, from) = from_end first port
        (and_parts (channel_is_used systems first) (has_port_id first.a port || has_port_id first.b port) is).1 in
        (zero, way, first, refl, from, refl)
    by false is (other, way, at, there, from, same) = (suc other, way, at, there, from, same)

-- that of the link, at the port that receives
pub bound_is : (f : Bounds → ℕ) (w : WorldState) → IsSound w → IsEncodable w → (link : ℕ) (direction : Direction)
    (channel : Channel) → slice_get w.net.channels link ≡ Some channel
    → channel_is_used (live_stations w.stations) channel ≡ true
    → bound_at f (live_stations w.stations) w.net.channels (port_identity_number (receiver direction channel))
    ≡ f channel.bounds
bound_is f w sound encodable link direction channel here used =
    let begins = ap port_identity_number (sender_opposite direction channel) in
    let (other, way, at, there, from, same) = bound_found f (live_stations w.stations) w.net.channels link
    (other_direction direction) channel (port_identity_number (receiver direction channel)) here used begins in
    let one = one_way w sound encodable other link way (other_direction direction) at channel there here
    (from ∙ sym begins) in
    same ∙ ap (λ (c : Channel). f c.bounds) one.same_channel

-- ---- the parts

-- an interval has a sixteenth of a second at least
interval_long : (log : ℤ) → IsLog log → 62500000 ≤ interval_of log
interval_long log k = interval_rises (negsuc 3) log k.low

pub parts_fit : (p : Params) (w : WorldState) (longest : ℕ) → AreParams p → HaveTheirSetups w → delay_in w ≤ longest
    → ArePartsOf (follower_parts p w) longest
parts_fit p w longest params setups short = record {
  little = let granularity = params.granularity in let noise = params.noise in omega (arith, granularity, noise);
  long =
      let least : 1 * 62500000 ≤ p.window * interval_of p.pdelay =
      mul-le 1 62500000 p.window (interval_of p.pdelay) params.window-least (interval_long p.pdelay params.pdelay) in
      omega (arith, least);
  waits = params.turnaround-least;
  drifts = drifts_fit w.stations (λ place station here. (setups place station here).drift);
  short = λ port.
      let one = bound_short (live_stations w.stations) w.net.channels port in
      omega arith;
}

-- ---- they stay

bound_bare : (f : Bounds → ℕ) (systems : List System) (port : PortIdentity) (channels : List Channel)
    → bound_at f systems (map bare channels) port ≡ bound_at f systems channels port
bound_bare f systems port [] = refl
bound_bare f systems port (first ∷ channels) =
    ap (λ rest. if channel_is_used systems first && (has_port_id first.a port || has_port_id first.b port)
    then f first.bounds
    else rest) (bound_bare f systems port channels)

pub same_parts : (p : Params) (w w' : WorldState) → KeepsNetwork w w' → follower_parts p w' ≡ follower_parts p w
same_parts p w w' k =
    let bounds : (f : Bounds → ℕ) (port : PortIdentity)
    → bound_at f (live_stations w'.stations) w'.net.channels port
    ≡ bound_at f (live_stations w.stations) w.net.channels port = λ f port.
    ap (λ s. bound_at f s w'.net.channels port) k.systems
    ∙ of_kept (λ channels. bound_at f (live_stations w.stations) channels port)
    (bound_bare f (live_stations w.stations) port) w.net.channels w'.net.channels k.links in
    λ i. record {
      drift = λ number. option_map_or (λ (setup : Setup). setup.drift)
          (slice_get (k.setups i) (k.places number i)) (pos 0);
      phase = λ number. option_map_or (λ (setup : Setup). setup.phase)
          (slice_get (k.setups i) (k.places number i)) 0;
      least = λ port. bounds (λ b. b.min) port i;
      most = λ port. bounds (λ b. b.max) port i;
      blur = blur_of p;
      behind = behind_of p;
      interval = rate_interval p;
      turnaround = p.turnaround;
      residence = p.residence;
    }

pub same_stamps : (w w' : WorldState) → KeepsNetwork w w' → (number : ℕ)
    → stamps_of w'.stations number ≡ stamps_of w.stations number
same_stamps w w' k number =
    λ i. option_map_or setup_stamps (slice_get (k.setups i) (k.places number i)) (λ t. pos 0)
