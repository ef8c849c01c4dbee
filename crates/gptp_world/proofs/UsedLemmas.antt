-- The links that are up between two live systems, counted and listed one after another.
use Rattle.std.proofs.Common.{◌≡◌, ◌≤◌, ◌+◌, ℕ, zero, suc, Bool, true, false, List, [], ◌∷◌, ◌++◌, length, take, Some, None, slice_get, refl, sym, ap, subst, ◌∙◌, arith, append-nil, length-append}
use Rattle.std.proofs.lemmas.Option.{none-some, same_Some}
use Rattle.gptp_graph.specs.Snapshot.{Link, System}
use Rattle.gptp_vector.specs.declared.port.PortId.{PortId}
use Rattle.std.proofs.lemmas.List.{take_all}
use Rattle.gptp_lists.proofs.MappedLemmas.{taken}
use Rattle.gptp_lists.proofs.SystemSpecLemmas.{In-map}
use Rattle.gptp_model.specs.World.{Channel, receiver}
use Rattle.gptp_model.specs.declared.station.Station.{Station}
use Rattle.gptp_system.specs.State.{clock}
use Rattle.gptp_invariants.specs.WorldStanding.{stations_have_clock, channel_is_used, standing_link, live_stations, standing_system, used_channels}
use Rattle.gptp_invariants.proofs.WorldSystemLemmas.{OwnClocks, clock_in, clock_lives, clock_there, live_from, live_there}
use Rattle.gptp_traffic.specs.declared.joined_link.Lane.{Lane}
use Rattle.gptp_world.specs.declared.world_parts.WorldParts.{WorldParts}
use Rattle.gptp_traffic.specs.Traffic.{join_of}
use Rattle.gptp_world.specs.Directory.{direction_end}
use Rattle.gptp_world.specs.WorldCore.{IsFounded}
use Rattle.gptp_world.specs.Used.{snapshot_link, used, used_if, used_in}
use Rattle.gptp_world.proofs.DeliveringLemmas.{IsReceiver}
use Rattle.gptp_world.proofs.EndLemmas.{end_same, known_join, station_at}

-- ---- live systems

-- a clock is that of a live system exactly where the system that has it lives
lives_by : (stations : List Station) (place number : ℕ) (station : Station) (live has : Bool) → OwnClocks stations
    → slice_get stations place ≡ Some station → clock station.system ≡ number → station.live ≡ live
    → stations_have_clock (live_stations stations) number ≡ has → live ≡ has
lives_by stations place number station true true own here named lives known = refl
lives_by stations place number station true false own here named lives known =
    let member = subst (λ n. stations_have_clock (live_stations stations) n ≡ true) named
    (clock_there (live_stations stations) (clock station.system)
    (In-map clock_in (standing_system station) (live_stations stations) (live_there stations place station here lives)))
    in
    absurd cc
lives_by stations place number station false true own here named lives known =
    let (s, member, same) = clock_lives stations number known in
    let at = live_from stations s member in
    let clocks : clock at.station.system ≡ clock station.system = ap clock_in (sym at.is) ∙ (same ∙ sym named) in
    let place_is = own at.place place at.station station at.here here clocks in
    let one : at.station ≡ station =
    same_Some at.station station (sym at.here ∙ (ap (slice_get stations) place_is ∙ here)) in
    let live : station.live ≡ true = subst (λ (x : Station). x.live ≡ true) one at.live in
    absurd cc
lives_by stations place number station false false own here named lives known = refl

-- so it is of the system at the end of a lane
pub lives_there : (parts : WorldParts) (lane : Lane) (place : ℕ) (channel : Channel) → IsFounded parts
    → slice_get parts.net.traffic.net.channels lane.link ≡ Some channel → IsReceiver lane place parts.net.directory
    → (station : Station) → slice_get parts.stations.items place ≡ Some station
    → station.live ≡ stations_have_clock (live_stations parts.stations.items)
    (receiver lane.direction channel).clock
lives_there parts lane place channel is here receives station there =
    let known = receives (join_of channel) (known_join parts.net lane.link channel is.stage_kept.net here) in
    let at = station_at parts place (direction_end lane.direction (join_of channel)).clock is.stage_kept known in
    let one : at.station ≡ station = same_Some at.station station (sym at.here ∙ there) in
    let named : clock station.system ≡ (receiver lane.direction channel).clock =
    ap (λ (x : Station). clock x.system) (sym one) ∙ (at.named
    ∙ ap (λ port. port.clock) (end_same lane.direction channel)) in
    lives_by parts.stations.items place (receiver lane.direction channel).clock station station.live _
    is.sound.wired.clocks there named refl refl

-- ---- one link more

used_append : (systems : List System) (xs : List Channel) (channel : Channel)
    → used_channels systems (xs ++ channel ∷ []) ≡ used_channels systems xs ++ used_if systems channel
used_append systems [] channel = refl
used_append systems (x ∷ xs) channel = by (channel_is_used systems x) refl (used_append systems xs channel)
  where
    by : (is : Bool) → channel_is_used systems x ≡ is
        → used_channels systems (xs ++ channel ∷ []) ≡ used_channels systems xs ++ used_if systems channel
        → used_channels systems (x ∷ xs ++ channel ∷ []) ≡ used_channels systems (x ∷ xs) ++ used_if systems channel
    by true is more = rw is (ap (λ ls. standing_link x ∷ ls) more)
    by false is more = rw is more

pub used_more : (systems : List System) (channels : List Channel) (link : ℕ) (channel : Channel)
    → slice_get channels link ≡ Some channel
    → used_channels systems (take (link + 1) channels)
    ≡ used_channels systems (take link channels) ++ used_if systems channel
used_more systems channels link channel here =
    ap (used_channels systems) (taken channels link channel here) ∙ used_append systems (take link channels) channel

-- ---- the place of a link among those that are used

pub used_here : (systems : List System) (channels : List Channel) (link : ℕ) (channel : Channel)
    → slice_get channels link ≡ Some channel → channel_is_used systems channel ≡ true
    → slice_get (used_channels systems channels) (length (used_channels systems (take link channels)))
    ≡ Some (standing_link channel)
used_here systems [] link channel here is = absurd (none-some channel here)
used_here systems (x ∷ xs) zero channel here is =
    let same = same_Some x channel here in
    let used : channel_is_used systems x ≡ true = ap (channel_is_used systems) same ∙ is in
    rw used (ap (λ c. Some (standing_link c)) same)
used_here systems (x ∷ xs) (suc link) channel here is =
    by (channel_is_used systems x) refl (used_here systems xs link channel here is)
  where
    by : (used : Bool) → channel_is_used systems x ≡ used
        → slice_get (used_channels systems xs) (length (used_channels systems (take link xs))) ≡ Some
        (standing_link channel)
        → slice_get (used_channels systems (x ∷ xs)) (length (used_channels systems (take (suc link) (x ∷ xs))))
        ≡ Some (standing_link channel)
    by true used later = rw used later
    by false used later = rw used later

-- ---- by whether it is used

pub used_yes : (systems : List System) (channel : Channel) → channel_is_used systems channel ≡ true
    → used systems channel ≡ Some (standing_link channel)
used_yes systems channel is = rw is refl

pub used_no : (systems : List System) (channel : Channel) → channel_is_used systems channel ≡ false
    → used systems channel ≡ None
used_no systems channel is = rw is refl

-- what the one is, is put after
pub used_some : (systems : List System) (channel : Channel) (ports : PortId × PortId)
    → Some (snapshot_link ports) ≡ used systems channel → used_if systems channel ≡ snapshot_link ports ∷ []
used_some systems channel ports same = by (channel_is_used systems channel) refl
  where
    by : (is : Bool) → channel_is_used systems channel ≡ is → used_if systems channel ≡ snapshot_link ports ∷ []
    by true is =
        let one : standing_link channel ≡ snapshot_link ports =
        same_Some (standing_link channel) (snapshot_link ports) (sym (same ∙ used_yes systems channel is)) in
        rw is (ap (λ l. l ∷ []) one)
    by false is = absurd (none-some (snapshot_link ports) (sym (same ∙ used_no systems channel is)))

pub used_none : (systems : List System) (channel : Channel) → None ≡ used systems channel
    → used_if systems channel ≡ []
used_none systems channel same = by (channel_is_used systems channel) refl
  where
    by : (is : Bool) → channel_is_used systems channel ≡ is → used_if systems channel ≡ []
    by true is = absurd (none-some (standing_link channel) (same ∙ used_yes systems channel is))
    by false is = rw is refl

-- ---- the links of a stage, one after another

-- those before a place
abbrev pub used_before : WorldParts → ℕ → List Link
used_before parts link =
    used_channels (live_stations parts.stations.items) (take link parts.net.traffic.net.channels)

module _ (parts : WorldParts) (link : ℕ) (channel : Channel)
    (here : slice_get parts.net.traffic.net.channels link ≡ Some channel) where
  abbrev systems : List System
  systems = live_stations parts.stations.items

  pub one_more : used_before parts (link + 1) ≡ used_before parts link ++ used_if systems channel
  one_more = used_more systems parts.net.traffic.net.channels link channel here

  pub counted_more : channel_is_used systems channel ≡ true
      → length (used_before parts (link + 1)) ≡ length (used_before parts link) + 1
  counted_more is =
      let if_used : used_if systems channel ≡ standing_link
      channel ∷ [] = rw is refl in
      let more = ap (λ (ls : List Link). length ls)
      (one_more ∙ ap (λ (ls : List Link). used_before parts link ++ ls) if_used) in
      omega (arith, more, length-append (used_before parts link) (standing_link channel ∷ []))

  pub counted_same : channel_is_used systems channel ≡ false
      → length (used_before parts (link + 1)) ≡ length (used_before parts link)
  counted_same is =
      let if_used : used_if systems channel ≡ [] = rw is refl in
      ap (λ (ls : List Link). length ls) (one_more
      ∙ (ap (λ (ls : List Link). used_before parts link ++ ls) if_used ∙ append-nil (used_before parts link)))

  pub stands_here : channel_is_used systems channel ≡ true
      → slice_get (used_in parts) (length (used_before parts link)) ≡ used systems channel
  stands_here is =
      used_here systems parts.net.traffic.net.channels link channel here is
      ∙ sym (used_yes systems channel is)

-- before the end all stand
pub used_all : (parts : WorldParts) (link : ℕ) → length parts.net.traffic.net.channels ≤ link
    → used_before parts link ≡ used_in parts
used_all parts link past =
    ap (used_channels (live_stations parts.stations.items))
    (take_all link parts.net.traffic.net.channels (omega arith))
