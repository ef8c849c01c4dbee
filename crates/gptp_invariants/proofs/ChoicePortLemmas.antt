-- What the view of a world makes of the ports of its systems.
use Rattle.std.proofs.Common.{◌≡◌, ℕ, suc, ℤ, Bool, List, [], ◌∷◌, length, Some, slice_get, refl, sym, ap, ◌∙◌, arith}
use Rattle.std.proofs.lemmas.Option.{none-some, same_Some, slice_get_within}
use Rattle.gptp_receipt.specs.declared.held.Held.{Held}
use Rattle.gptp_receipt.specs.declared.held.Held.TheVariants as helds
use Rattle.gptp_receipt.specs.declared.held.Reception.{Reception}
use Rattle.gptp_receipt.specs.Held.{received}
use Rattle.gptp_system.specs.declared.port.Port.{Port}
use Rattle.gptp_system.specs.Facts.{AreShown}
use Rattle.gptp_system.specs.State.{SystemState}
use Rattle.gptp_model.specs.declared.station.Station.{Station}
use Rattle.gptp_lists.proofs.PlaceLemmas.{member_there}
use Rattle.gptp_bmca_machine.specs.Facts.{station_system}
use Rattle.gptp_bmca_machine.specs.Station.{Reception as SeenReception, Aged, Mine, Received, Port as SeenPort, HoldsAt}
use Rattle.gptp_invariants.specs.ChoiceView.{held_view, ports_view, port_view, reception_view, span_at, station_view, system_view}
use Rattle.gptp_invariants.proofs.ChoicePlaceLemmas.{port_from, port_there}
use Rattle.gptp_invariants.proofs.ChoiceReactLemmas.{received_back}
use Rattle.gptp_invariants.specs.WorldStanding.{standing_system}

-- ---- what is held

pub received_seen : (keep : ℤ → ℕ) (h : Held) (r : Reception) → received h ≡ Some r
    → held_view keep h ≡ Received (reception_view keep r)
received_seen keep helds.Disabled r got = absurd (none-some r got)
received_seen keep helds.Aged r got = absurd (none-some r got)
received_seen keep (helds.Mine root steps) r got = absurd (none-some r got)
received_seen keep (helds.Received x) r got =
    ap (λ x. Received (reception_view keep x)) (same_Some x r got)

pub mine_back : (keep : ℤ → ℕ) (h : Held) (root steps : ℕ) → held_view keep h ≡ Mine root steps
    → h ≡ helds.Mine root steps
mine_back keep helds.Disabled root steps same = absurd cc
mine_back keep helds.Aged root steps same = absurd cc
mine_back keep (helds.Mine r t) root steps same = cc
mine_back keep (helds.Received r) root steps same = absurd cc

pub aged_back : (keep : ℤ → ℕ) (h : Held) → held_view keep h ≡ Aged → h ≡ helds.Aged
aged_back keep helds.Disabled same = absurd cc
aged_back keep helds.Aged same = refl
aged_back keep (helds.Mine root steps) same = absurd cc
aged_back keep (helds.Received r) same = absurd cc

-- ---- ports

-- a system is seen with as many ports as it has
length-ports : (keep : ℤ → ℕ) (hs : List Held) (qs : List Port) → length hs ≡ length qs
    → length (ports_view keep hs qs) ≡ length qs
length-ports keep [] [] same = refl
length-ports keep [] (q ∷ qs) same = absurd cc
length-ports keep (h ∷ hs) [] same = absurd cc
length-ports keep (h ∷ hs) (q ∷ qs) same =
    let rest : length hs ≡ length qs = omega arith in ap suc (length-ports keep hs qs rest)

-- so the snapshot has it as it is seen
pub same_standing : (station : Station) → AreShown station.system
    → standing_system station ≡ station_system (station_view station)
same_standing station shown =
    let s = station.system in
    let count = length-ports (span_at s) s.held s.ports shown.places in
    rw count refl

-- at each place of what is held there is a port
pub port_of_held : (s : SystemState) → AreShown s → (i : ℕ) (h : Held) → slice_get s.held i ≡ Some h
    → (q : Port) × (slice_get s.ports i ≡ Some q)
port_of_held s shown i h stands =
    let within = slice_get_within s.held i h stands in
    let places = shown.places in
    member_there s.ports i (omega arith)

-- what a port received is seen at its place
pub holds_there : (live : Bool) (s : SystemState) → AreShown s → (i : ℕ) (h : Held) (r : Reception)
    → slice_get s.held i ≡ Some h → received h ≡ Some r
    → HoldsAt (system_view live s) i (reception_view (span_at s) r)
holds_there live s shown i h r stands got =
    let (q, there) = port_of_held s shown i h stands in
    let seen = port_there (span_at s) s.held s.ports i h q stands there in
    (port_view (span_at s) h q, seen, received_seen (span_at s) h r got)

-- what is seen as received is what the port there received
pub record IsHeldAt (s : SystemState) (i : ℕ) (seen : SeenReception) : Type 0 where
  pub held : Held
  pub port : Port
  pub reception : Reception
  pub stands : slice_get s.held i ≡ Some held
  pub there : slice_get s.ports i ≡ Some port
  pub got : received held ≡ Some reception
  pub is : seen ≡ reception_view (span_at s) reception

pub held_from : (live : Bool) (s : SystemState) (i : ℕ) (seen : SeenReception) → HoldsAt (system_view live s) i seen
    → IsHeldAt s i seen
held_from live s i seen (q, there, holds) =
    let at = port_from (span_at s) s.held s.ports i q there in
    let back = received_back (span_at s) at.held seen
    (ap (λ (x : SeenPort). x.held) (sym at.is) ∙ holds) in
    record {
      held = at.held;
      port = at.port;
      reception = back.0;
      stands = at.held_there;
      there = at.port_there;
      got = back.1;
      is = back.2;
    }
