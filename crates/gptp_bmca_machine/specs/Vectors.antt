-- The priority vectors that ports compare, as lists of numbers (IEEE 802.1AS-2020, 10.3.5).
use Rattle.std.specs.Prelude.{ℕ, suc, List, [], ◌∷◌}
use Rattle.gptp_bmca_machine.specs.Frame.{Announce}
use Rattle.gptp_bmca_machine.specs.Station.{Station}

-- the message priority vector of an Announce that port n received
abbrev pub message : Announce → ℕ → List ℕ
message a n = a.root ∷ a.steps ∷ a.source.clock ∷ a.source.port ∷ n ∷ []

-- the path priority vector: one step more
abbrev pub path_vector : Announce → ℕ → List ℕ
path_vector a n = a.root ∷ suc a.steps ∷ a.source.clock ∷ a.source.port ∷ n ∷ []

-- the master priority vector of port n of the system with this clock
abbrev pub master : ℕ → ℕ → ℕ → ℕ → List ℕ
master root steps clock n = root ∷ steps ∷ clock ∷ n ∷ n ∷ []

-- the system priority vector
abbrev pub system_vector : Station → List ℕ
system_vector s = s.identity ∷ 0 ∷ s.clock ∷ 0 ∷ 0 ∷ []
