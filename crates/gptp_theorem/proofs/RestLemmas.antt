-- A calm document is at rest from the time on at which it has settled: by then all its events are made.
use Rattle.std.proofs.Common.{◌≡◌, ◌≤◌, ℕ, List, [], ◌∷◌, refl, ap, sym, subst, arith}
use Rattle.std.proofs.lemmas.Bool.{le-leb}
use Rattle.gptp_scenario.specs.Calm.{IsCalm, last_change}
use Rattle.gptp_scenario.specs.SettlingTime.{settles}
use Rattle.gptp_scenario.specs.declared.change.Timed.{Timed}
use Rattle.gptp_network.specs.Document.{DocumentState}
use Rattle.gptp_network.specs.Events.{AreEvents, AreInOrder}
use Rattle.gptp_network.specs.Snapshot.{events_by}
use Rattle.gptp_theorem.specs.PlayedLaws.{DocumentIsAtRest}

-- no event is later than the last
first_early : (t : Timed) (ts : List Timed) → AreInOrder (t ∷ ts) → t.at ≤ last_change (t ∷ ts)
first_early t [] ordered = omega arith
first_early t (u ∷ us) ordered =
    let next = ordered.0 in let later = first_early u us ordered.1 in omega (arith, next, later)

-- by the time of the last event all are there
pub all_by : (until : ℕ) (events : List Timed) → AreInOrder events → last_change events ≤ until
    → events_by until events ≡ events
all_by until [] ordered early = refl
all_by until (t ∷ []) ordered early = rw (le-leb t.at until early) refl
all_by until (t ∷ (u ∷ us)) ordered early =
    let next = ordered.0 in let later = first_early u us ordered.1 in
    let first : t.at ≤ until = omega (arith, next, later, early) in
    rw (le-leb t.at until first) (ap (λ ts. t ∷ ts) (all_by until (u ∷ us) ordered.1 early))

pub calm_rests : (d : DocumentState) (until : ℕ) → AreEvents d.network d.events → IsCalm d.network d.events
    → settles d.network d.events ≤ until → DocumentIsAtRest d until
calm_rests d until are calm settled =
    let early : last_change d.events ≤ until = omega (arith, settled) in
    let all = sym (all_by until d.events are.in_order early) in
    record {
      calm = subst (IsCalm d.network) all calm;
      settled = subst (λ events. settles d.network events ≤ until) all settled;
    }
