-- A bridge with four end stations, and how many systems its paths have.
use Rattle.std.specs.Prelude.{◌≡◌, [], ◌∷◌}
use Rattle.gptp_graph.specs.Snapshot.{Snapshot, port_of}
use Rattle.gptp_graph.specs.PathBound.{path_bound}
use Rattle.gptp_graph.specs.Examples.{square_network}

-- clock 1 is the bridge, and each other has one port
abbrev pub star_network : Snapshot
star_network = record {
  systems =
      record { clock = 1; identity = 0xf6f8fe436af80000000000000001; ports = 4 }
      ∷ record { clock = 2; identity = 0xf6f8fe436af80000000000000002; ports = 1 }
      ∷ record { clock = 3; identity = 0xf6f8fe436af80000000000000003; ports = 1 }
      ∷ record { clock = 4; identity = 0xf6f8fe436af80000000000000004; ports = 1 }
      ∷ record { clock = 5; identity = 0xf6f8fe436af80000000000000005; ports = 1 }
      ∷ [];
  links =
      record { a = port_of 1 1; b = port_of 2 1 }
      ∷ record { a = port_of 3 1; b = port_of 1 2 }
      ∷ record { a = port_of 1 3; b = port_of 4 1 }
      ∷ record { a = port_of 5 1; b = port_of 1 4 }
      ∷ [];
}

-- three systems for the star, and no less than all four for the ring of four
pub record ExamplesAreBounded : Type 0 where
  pub star : path_bound star_network ≡ 3
  pub square : path_bound square_network ≡ 4
