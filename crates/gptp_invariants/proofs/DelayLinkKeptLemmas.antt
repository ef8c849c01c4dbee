-- The ports of systems stay theirs, and a system that starts measures at each of them.
use Rattle.std.proofs.Common.{◌≡◌, ℕ, zero, suc, Bool, Some, refl, sym, subst, ◌∙◌, arith}
use Rattle.std.proofs.lemmas.Option.{none-some}
use Rattle.gptp_vector.specs.declared.port.PortId.{PortId}
use Rattle.gptp_roles.specs.Selection.{clock_of}
use Rattle.gptp_system.specs.declared.port.Port.{Port}
use Rattle.gptp_setup.specs.declared.setup.Setup.{Setup}
use Rattle.gptp_system.specs.Measures.{measure_at}
use Rattle.gptp_system.specs.Start.{started}
use Rattle.gptp_system.specs.State.{number, own}
use Rattle.gptp_system.proofs.SpanLemmas.{starts_in_time}
use Rattle.gptp_system.proofs.StartLemmas.{new_port_at}
use Rattle.gptp_model.specs.Ahead.{IsPortAmong}
use Rattle.gptp_model.specs.World.{WorldState}
use Rattle.gptp_model.proofs.StayLemmas.{Stays}
use Rattle.gptp_invariants.specs.DelayMeasured.{IsStationMeasured}
use Rattle.gptp_invariants.specs.DelayLinkView.{IsMeasuring}

-- ---- ports stay

-- a port stays one of its system
pub among_stays : (w w' : WorldState) (port : PortId) → Stays w w' → IsPortAmong port w.stations
    → IsPortAmong port w'.stations
among_stays w w' port stays among place station there named =
    let near = stays.stations place station there in
    let old = among place near.old near.here (sym near.same.named ∙ named) in
    let count = near.same.count in
    record { least = old.least; most = rw count old.most }

-- ---- a start

-- a system that starts measures, at each of its ports
pub started_measured : (setup : Setup) (now : ℕ) (live : Bool)
    → IsStationMeasured now (record { setup = setup; system = started setup now; live = live })
started_measured setup now live = record {
  set_up = record { params = refl; phase = refl; drift = refl; seed = refl; named = refl };
  in_time = starts_in_time setup now;
  ports = ports;
}
  where
    ports : (n : ℕ) (q : Port) → number (started setup now).ports n ≡ Some q
        → IsMeasuring setup.params (own (started setup now) n) (measure_at q)
    ports zero q there = absurd (none-some q there)
    ports (suc i) q there =
        let (log, here, is) = new_port_at (clock_of setup.identity) setup.params setup.intervals.items i q there in
        subst (λ (one : Port). IsMeasuring setup.params (own (started setup now) (suc i)) (measure_at one)) (sym is)
        (record {
          own = refl;
          allowed = refl;
          threshold = refl;
          window = refl;
          next = omega arith;
          asks = λ due runs. absurd (none-some due runs);
          owes = λ due runs. absurd (none-some due runs);
        })
