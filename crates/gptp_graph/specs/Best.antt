-- The best system of a component.
use Rattle.std.specs.Prelude.{◌≤◌, ℕ}
use Rattle.gptp_lists.specs.Members.{In}
use Rattle.gptp_graph.specs.Snapshot.{System, Snapshot}
use Rattle.gptp_graph.specs.Path.{Reaches}

-- of the systems that v reaches, the one of least systemIdentity: the grandmaster that the best master clock
-- algorithm (BMCA) selects for v, where its priority1 is below 255 (IEEE 802.1AS-2020, 10.3.2 and 10.3.5)
pub record IsBest (g : Snapshot) (v : ℕ) (best : System) : Type 0 where
  pub live : In best g.systems
  pub reached : Reaches g v best.clock
  pub least : (s : System) → In s g.systems → Reaches g v s.clock → best.identity ≤ s.identity
