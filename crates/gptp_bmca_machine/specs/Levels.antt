-- Settling by distance: the links from the systems at each distance to those farther from the best.
use Rattle.std.specs.Prelude.{◌≡◌, ◌⊎◌, ◌<◌, ◌≤◌, ℕ, suc}
use Rattle.gptp_graph.specs.Snapshot.{System, Snapshot, port_of, Joins, Adjacent}
use Rattle.gptp_graph.specs.Best.{IsBest}
use Rattle.gptp_graph.specs.Distance.{IsDistance}
use Rattle.gptp_bmca_machine.specs.Frame.{Spelling}
use Rattle.gptp_bmca_machine.specs.Station.{Station, MachineState}
use Rattle.gptp_bmca_machine.specs.Network.{Network, since, wiring}
use Rattle.gptp_bmca_machine.specs.Sound.{RunIsSound}
use Rattle.gptp_bmca_machine.specs.Link.{LinkSettles}

-- the link leads from port p + 1 of v, at distance d from its best, to port q + 1 of a system that is farther, or as
-- far with the higher clock
pub record LeadsFarther (g : Snapshot) (d : ℕ) (best : System) (v p u q : ℕ) : Type 0 where
  pub is_best : IsBest g v best
  pub here : IsDistance g v d
  pub joins : Joins g (port_of v (suc p)) (port_of u (suc q))
  pub far : ℕ
  pub there : IsDistance g u far
  pub farther : (d < far) ⊎ ((d ≡ far) × (v < u))

-- each such link from a near system at distance d is at one of its stages
abbrev pub LevelSettles : Spelling → Network → ℕ → MachineState → Type 0
LevelSettles says n d w = (best : System) (v p u q : ℕ) → d < 255 → LeadsFarther n.graph d best v p u q
    → LinkSettles says (wiring n d best v p u q) w

-- what neighbours that are as far as s, with lower clocks, tell has been heard by now
abbrev pub IsHeardFrom : Network → MachineState → Station → ℕ → Type 0
IsHeardFrom n w s d = (u : ℕ) → Adjacent n.graph s.clock u → IsDistance n.graph u d → u < s.clock
    → since n (suc d) ≤ w.time

-- what the steps of the machine keep, where what is held is sound: the stage of each link
pub record Invariant (says : Spelling) (n : Network) (w : MachineState) : Type 0 where
  pub sound : RunIsSound n w
  pub levels : (d : ℕ) → LevelSettles says n d w
