-- The world of a network stands, as it begins, as the network does.
use Rattle.std.proofs.Common.{◌≡◌, ℕ, suc, ◌+◌, List, [], ◌∷◌, ◌++◌, map, length, Option, Some, slice_get, slice_set, refl, sym, ap, subst, ◌∙◌, arith}
use Rattle.std.specs.Prelude.{Bool, true}
use Rattle.std.specs.List.{range_with_len}
use Rattle.gptp_links.specs.declared.bounds.Bounds.{Bounds}
use Rattle.gptp_links.specs.Fate.{Draw}
use Rattle.gptp_setup.specs.declared.setup.Setup.{Setup}
use Rattle.gptp_system.specs.Input.{PortUp}
use Rattle.gptp_model.specs.declared.station.Station.{Station}
use Rattle.gptp_model.specs.Changing.{Starts, StartsAll, fresh}
use Rattle.gptp_model.specs.Course.{Begun}
use Rattle.gptp_model.specs.Initial.{channel_from, initial, station_of, stations_of}
use Rattle.gptp_scenario.specs.Network.{NetworkState}
use Rattle.gptp_model.specs.World.{WorldState}
use Rattle.gptp_lists.proofs.MappedLemmas.{mapped_there, same_there}
use Rattle.gptp_lists.proofs.PlaceLemmas.{map-set}
use Rattle.gptp_model.proofs.AgreeLemmas.{replaced}
use Rattle.gptp_model.proofs.ActsByLemmas.{start_told}
use Rattle.gptp_theorem.specs.Reached.{Shape, StandsAsPlanned, shape, channel_wire}
use Rattle.gptp_theorem.proofs.KeptLemmas.{KeepLinks, Keeps, port_calls_keep, same_keeps}

-- ---- one system

-- a system that has this setup, and its identity
abbrev pub of_setup : Bool → Setup → Shape
of_setup live setup = record { setup = setup; live = live; identity = setup.identity }

-- a system as it stands once it has started
abbrev pub awake : Shape → Shape
awake s = of_setup true s.setup

-- one system stands otherwise, and all else as it stood
pub record SystemBecomes (place : ℕ) (new : Shape) (w w' : WorldState) : Type 0 where
  pub systems : map shape w'.stations ≡ slice_set (map shape w.stations) place new
  pub links : KeepLinks w.net.channels w'.net.channels
  pub last : w'.last_change ≡ w.last_change

-- it starts
pub starts_becomes : (place : ℕ) (w : WorldState) (draws : List Draw) (w' : WorldState) → (k : Starts place w draws w')
    → SystemBecomes place (of_setup true k.station.setup) w w'
starts_becomes place w draws w' k =
    let new = fresh w.time k.station in
    let begun : WorldState = replaced place new w in
    let kept = start_told ⊥ (Keeps begun) (port_calls_keep PortUp begun (λ port value e. cc)) place w draws w' k
    (same_keeps begun begun refl) in
    record {
      systems = kept.systems ∙ map-set shape w.stations place new;
      links = kept.links;
      last = kept.last;
    }

-- ---- all systems

-- what comes after others becomes another
set_behind : {X : Type 0} (front : List X) (x y : X) (rest : List X)
    → slice_set (front ++ x ∷ rest) (length front) y ≡ (front ++ y ∷ []) ++ rest
set_behind [] x y rest = refl
set_behind (z ∷ front) x y rest = ap (λ more. z ∷ more) (set_behind front x y rest)

there_behind : {X : Type 0} (front : List X) (x : X) (rest : List X)
    → slice_get (front ++ x ∷ rest) (length front) ≡ Some x
there_behind [] x rest = refl
there_behind (z ∷ front) x rest = there_behind front x rest

one_longer : {X : Type 0} (front : List X) (y : X) → length (front ++ y ∷ []) ≡ length front + 1
one_longer [] y = refl
one_longer (z ∷ front) y = let more = one_longer front y in omega arith

joined_behind : {X : Type 0} (front : List X) (y : X) (rest : List X) → (front ++ y ∷ []) ++ rest ≡ front ++ y ∷ rest
joined_behind [] y rest = refl
joined_behind (z ∷ front) y rest = ap (λ more. z ∷ more) (joined_behind front y rest)

-- those after the ones in front start, one after another
pub record AllAwake (front rest : List Shape) (w w' : WorldState) : Type 0 where
  pub systems : map shape w'.stations ≡ front ++ map awake rest
  pub links : KeepLinks w.net.channels w'.net.channels
  pub last : w'.last_change ≡ w.last_change

starts_all : (front rest : List Shape) (w : WorldState) (draws : List Draw) (w' : WorldState)
    → map shape w.stations ≡ front ++ rest → StartsAll (range_with_len (length front) (length rest)) w draws w'
    → AllAwake front rest w w'
starts_all front [] w draws w' stands k =
    subst (AllAwake front [] w) (sym k.1) (record { systems = stands; links = refl; last = refl })
starts_all front (s ∷ rest) w draws w' stands (first, more, between, is, one, others) =
    let now = starts_becomes (length front) w first between one in
    let at : slice_get (map shape w.stations) (length front) ≡ Some s =
    ap (λ ss. slice_get ss (length front)) stands ∙ there_behind front s rest in
    let same : shape one.station ≡ s =
    same_there (map shape w.stations) (length front) (shape one.station) s
    (mapped_there shape w.stations (length front) one.station one.here) at in
    let new : Shape = awake s in
    let woken : map shape between.stations ≡ (front ++ new ∷ []) ++ rest =
    now.systems ∙ ap (λ ss. slice_set ss (length front) (of_setup true one.station.setup)) stands
    ∙ ap (λ (x : Shape). slice_set (front ++ s ∷ rest) (length front) (awake x)) same
    ∙ set_behind front s new rest in
    let k = starts_all (front ++ new ∷ []) rest between more w' woken
    (subst (λ place. StartsAll (range_with_len place (length rest)) between more w') (sym (one_longer front new))
    others) in
    record {
      systems = k.systems ∙ joined_behind front new (map awake rest);
      links = k.links ∙ now.links;
      last = k.last ∙ now.last;
    }

-- ---- the network

map_map : {X Y Z : Type 0} (f : X → Y) (g : Y → Z) (xs : List X) → map g (map f xs) ≡ map (λ x. g (f x)) xs
map_map f g [] = refl
map_map f g (x ∷ xs) = ap (λ more. g (f x) ∷ more) (map_map f g xs)

length_map : {X Y : Type 0} (f : X → Y) (xs : List X) → length (map f xs) ≡ length xs
length_map f [] = refl
length_map f (x ∷ xs) = ap suc (length_map f xs)

pub begun_stands : {F : Type 0} (answers : Bounds → ℕ → F → Option ℕ → F → Type 0) (n : NetworkState)
    (fate fate_after : F) (w : WorldState) → Begun answers n fate fate_after w → StandsAsPlanned n [] w
begun_stands answers n fate fate_after w begun =
    let slept = map shape (stations_of n) in
    let many : length slept ≡ length n.systems =
    length_map shape (stations_of n) ∙ length_map (station_of n) n.systems in
    let k = starts_all [] slept (initial n) begun.draws w refl
    (subst (λ count. StartsAll (range_with_len 0 count) (initial n) begun.draws w) (sym many) begun.starts) in
    record {
      systems = k.systems ∙ map_map shape awake (stations_of n)
          ∙ map_map (station_of n) (λ (s : Station). awake (shape s)) n.systems;
      links = k.links ∙ map_map channel_from channel_wire n.links;
      last = k.last;
    }
