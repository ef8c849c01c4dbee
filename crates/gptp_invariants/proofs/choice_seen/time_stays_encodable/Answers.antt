use Rattle.gptp_invariants.proofs.choice_seen.time_stays_encodable.Goals as goal

pub returns : goal.returns
returns c = λ w time encodable. record { stations = encodable.stations; links = encodable.links }
