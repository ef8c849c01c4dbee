-- The live systems of a world, as its snapshot has them.
use Rattle.std.proofs.Common.{◌≡◌, ◌⊎◌, ℕ, zero, suc, Bool, true, false, List, [], ◌∷◌, map, Some, slice_get, refl, sym, ap, ◌∙◌, inl, inr, arith}
use Rattle.std.specs.Prelude.{if◌then◌else◌, ◌==◌}
use Rattle.std.proofs.lemmas.Bool.{eq-eqb, eqb-true, or_cases, or_left, or_right}
use Rattle.std.proofs.lemmas.Option.{none-some, same_Some}
use Rattle.gptp_lists.specs.Members.{Different, In}
use Rattle.gptp_graph.specs.Snapshot.{System}
use Rattle.gptp_lists.proofs.SystemSpecLemmas.{from_map}
use Rattle.gptp_system.specs.State.{clock}
use Rattle.gptp_model.specs.declared.station.Station.{Station}
use Rattle.gptp_invariants.specs.WorldStanding.{stations_have_clock, live_stations, standing_system}

-- ---- members

-- a system of the snapshot is one that stands in the world, live
pub record IsLiveAt (stations : List Station) (s : System) : Type 0 where
  pub place : ℕ
  pub station : Station
  pub here : slice_get stations place ≡ Some station
  pub live : station.live ≡ true
  pub is : s ≡ standing_system station

behind : (first : Station) (stations : List Station) (s : System) → IsLiveAt stations s
    → IsLiveAt (first ∷ stations) s
behind first stations s at =
    record { place = suc at.place; station = at.station; here = at.here; live = at.live; is = at.is }

pub live_from : (stations : List Station) (s : System) → In s (live_stations stations) → IsLiveAt stations s
live_from [] s member = absurd member
live_from (first ∷ stations) s member = by first.live refl (live_from stations s) member
  where
    by : (live : Bool) → first.live ≡ live → (In s (live_stations stations) → IsLiveAt stations s)
        → In s (if live then standing_system first ∷ live_stations stations else live_stations stations)
        → IsLiveAt (first ∷ stations) s
    by true is later (inl same) = record { place = zero; station = first; here = refl; live = is; is = same }
    by true is later (inr among) = behind first stations s (later among)
    by false is later among = behind first stations s (later among)

pub live_there : (stations : List Station) (place : ℕ) (station : Station) → slice_get stations place ≡ Some station
    → station.live ≡ true → In (standing_system station) (live_stations stations)
live_there [] place station here live = absurd (none-some station here)
live_there (first ∷ stations) zero station here live =
    let same = same_Some first station here in
    let is : first.live ≡ true = ap (λ (x : Station). x.live) same ∙ live in
    rw is (inl (ap standing_system (sym same)))
live_there (first ∷ stations) (suc place) station here live =
    by first.live (live_there stations place station here live)
  where
    by : (live : Bool) → In (standing_system station) (live_stations stations)
        → In (standing_system station) (if live then standing_system first ∷ live_stations stations else
        live_stations stations)
    by true among = inr among
    by false among = among

-- ---- clocks

abbrev pub clock_in : System → ℕ
clock_in s = s.clock

-- no two systems have the same clock
abbrev pub OwnClocks : List Station → Type 0
OwnClocks stations = (place other : ℕ) (station at : Station) → slice_get stations place ≡ Some station
    → slice_get stations other ≡ Some at → clock station.system ≡ clock at.system → place ≡ other

pub clocks_differ : (stations : List Station) → OwnClocks stations → Different (map clock_in (live_stations stations))
clocks_differ [] own = tt
clocks_differ (first ∷ stations) own = by first.live (clocks_differ stations rest)
  where
    rest : OwnClocks stations
    rest place other station at here there same =
        let next = own (suc place) (suc other) station at here there same in omega arith

    alone : In (clock first.system) (map clock_in (live_stations stations)) → ⊥
    alone member =
        let (s, among, same) = from_map clock_in (clock first.system) (live_stations stations) member in
        let at = live_from stations s among in
        let twice = own (suc at.place) zero at.station first at.here refl (ap clock_in (sym at.is) ∙ same) in
        absurd (omega arith)

    by : (live : Bool) → Different (map clock_in (live_stations stations))
        → Different (map clock_in (if live then standing_system first ∷ live_stations stations else live_stations
        stations))
    by true differ = (alone, differ)
    by false differ = differ

-- one of the systems has the clock exactly where it is among their clocks
pub clock_from : (systems : List System) (number : ℕ) → stations_have_clock systems number ≡ true
    → In number (map clock_in systems)
clock_from [] number has = absurd cc
clock_from (s ∷ systems) number has =
    by (clock_from systems number) (or_cases (s.clock == number) (stations_have_clock systems number) has)
  where
    by : (stations_have_clock systems number ≡ true → In number (map clock_in systems))
        → (((s.clock == number) ≡ true) ⊎ (stations_have_clock systems number ≡ true))
        → In number (map clock_in (s ∷ systems))
    by later (inl same) = inl (sym (eqb-true s.clock number same))
    by later (inr among) = inr (later among)

pub clock_there : (systems : List System) (number : ℕ) → In number (map clock_in systems)
    → stations_have_clock systems number ≡ true
clock_there [] number member = absurd member
clock_there (s ∷ systems) number (inl same) =
    or_left (s.clock == number) (stations_have_clock systems number) (eq-eqb s.clock number (sym same))
clock_there (s ∷ systems) number (inr among) =
    or_right (s.clock == number) (stations_have_clock systems number) (clock_there systems number among)

-- so a live system has it
pub clock_lives : (stations : List Station) (number : ℕ) → stations_have_clock (live_stations stations) number ≡ true
    → (s : System) × In s (live_stations stations) × (s.clock ≡ number)
clock_lives stations number has =
    from_map clock_in number (live_stations stations) (clock_from (live_stations stations) number has)
