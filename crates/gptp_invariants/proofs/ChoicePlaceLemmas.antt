-- Where the systems of a world and their ports stand in its view, and members of mapped lists.
use Rattle.std.proofs.Common.{◌≡◌, ℕ, ℤ, zero, suc, List, [], ◌∷◌, map, Some, slice_get, refl, sym, ap, ◌∙◌}
use Rattle.std.proofs.lemmas.Option.{none-some, same_Some}
use Rattle.gptp_receipt.specs.declared.held.Held.{Held}
use Rattle.gptp_system.specs.declared.port.Port.{Port}
use Rattle.gptp_model.specs.declared.station.Station.{Station}
use Rattle.gptp_lists.proofs.MappedLemmas.{mapped, mapped_there}
use Rattle.gptp_bmca_machine.specs.Station.{Port as SeenPort, Station as SeenStation}
use Rattle.gptp_invariants.specs.ChoiceView.{port_view, ports_view, station_view}

-- ---- systems

pub station_there : (stations : List Station) (place : ℕ) (station : Station) → slice_get stations place ≡ Some station
    → slice_get (map station_view stations) place ≡ Some (station_view station)
station_there stations place station here = mapped_there station_view stations place station here

-- what stands at a place is the system there
pub record IsStationAt (stations : List Station) (place : ℕ) (seen : SeenStation) : Type 0 where
  pub station : Station
  pub here : slice_get stations place ≡ Some station
  pub is : seen ≡ station_view station

pub station_from : (stations : List Station) (place : ℕ) (seen : SeenStation)
    → slice_get (map station_view stations) place ≡ Some seen → IsStationAt stations place seen
station_from stations place seen there =
    let (station, here, is) = mapped station_view stations place seen there in
    record { station = station; here = here; is = sym is }

-- ---- ports

pub port_there : (keep : ℤ → ℕ) (hs : List Held) (qs : List Port) (i : ℕ) (h : Held) (q : Port)
    → slice_get hs i ≡ Some h → slice_get qs i ≡ Some q
    → slice_get (ports_view keep hs qs) i ≡ Some (port_view keep h q)
port_there keep [] qs i h q held there = absurd (none-some h held)
port_there keep (g ∷ hs) [] i h q held there = absurd (none-some q there)
port_there keep (g ∷ hs) (p ∷ qs) zero h q held there =
    ap (λ x. Some (port_view keep x p)) (same_Some g h held)
    ∙ ap (λ x. Some (port_view keep h x)) (same_Some p q there)
port_there keep (g ∷ hs) (p ∷ qs) (suc i) h q held there = port_there keep hs qs i h q held there

-- what stands at a place is the port there, with what it holds
pub record IsPortAt (keep : ℤ → ℕ) (hs : List Held) (qs : List Port) (i : ℕ) (seen : SeenPort) : Type 0 where
  pub held : Held
  pub port : Port
  pub held_there : slice_get hs i ≡ Some held
  pub port_there : slice_get qs i ≡ Some port
  pub is : seen ≡ port_view keep held port

pub port_from : (keep : ℤ → ℕ) (hs : List Held) (qs : List Port) (i : ℕ) (seen : SeenPort)
    → slice_get (ports_view keep hs qs) i ≡ Some seen → IsPortAt keep hs qs i seen
port_from keep [] qs i seen there = absurd (none-some seen there)
port_from keep (h ∷ hs) [] i seen there = absurd (none-some seen there)
port_from keep (h ∷ hs) (q ∷ qs) zero seen there = record {
  held = h;
  port = q;
  held_there = refl;
  port_there = refl;
  is = sym (same_Some (port_view keep h q) seen there);
}
port_from keep (h ∷ hs) (q ∷ qs) (suc i) seen there =
    let later = port_from keep hs qs i seen there in
    record {
      held = later.held;
      port = later.port;
      held_there = later.held_there;
      port_there = later.port_there;
      is = later.is;
    }
