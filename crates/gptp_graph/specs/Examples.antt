-- Four networks and their settled choices, clock by clock and port by port.
use Rattle.std.specs.Prelude.{false, List, [], ◌∷◌, Some, None}
use Rattle.gptp_graph.specs.Snapshot.{Snapshot, port_of, IsWellFormed}
use Rattle.gptp_graph.specs.SettledRole.{Disabled, Master, Slave, Passive}
use Rattle.gptp_graph.specs.Labelling.{SystemLine}
use Rattle.gptp_graph.specs.SettledChoice.{IsSettledChoice}

-- the snapshot is that of a network, and the lines are its settled choice
pub record SettlesAt (g : Snapshot) (lines : List SystemLine) : Type 0 where
  pub network : IsWellFormed g
  pub choice : IsSettledChoice g lines

-- Clocks 2, 3 and 4 in a ring. Port 1 of clock 2 led to a system that has failed. The systemIdentity of clock x is
-- f6f8fe436af8 before the 16 digits of x: priority1 246, clockClass 248, clockAccuracy 254, offsetScaledLogVariance
-- 436a, priority2 248.
abbrev pub ring_network : Snapshot
ring_network = record {
  systems =
      record { clock = 2; identity = 0xf6f8fe436af80000000000000002; ports = 3 }
      ∷ record { clock = 3; identity = 0xf6f8fe436af80000000000000003; ports = 2 }
      ∷ record { clock = 4; identity = 0xf6f8fe436af80000000000000004; ports = 2 }
      ∷ [];
  links =
      record { a = port_of 2 2; b = port_of 3 1 }
      ∷ record { a = port_of 2 3; b = port_of 4 1 }
      ∷ record { a = port_of 3 2; b = port_of 4 2 }
      ∷ [];
}

-- 3 and 4 follow 2
abbrev pub ring_lines : List SystemLine
ring_lines =
    record {
      clock = 2;
      root = 0xf6f8fe436af80000000000000002;
      steps = 0;
      far = false;
      parent = None;
      ports =
          record { number = 1; role = Disabled }
          ∷ record { number = 2; role = Master }
          ∷ record { number = 3; role = Master }
          ∷ [];
    }
    ∷ record {
      clock = 3;
      root = 0xf6f8fe436af80000000000000002;
      steps = 1;
      far = false;
      parent = Some (record { own_port = 1; clock = 2; port = 2 });
      ports =
          record { number = 1; role = Slave }
          ∷ record { number = 2; role = Master }
          ∷ [];
    }
    ∷ record {
      clock = 4;
      root = 0xf6f8fe436af80000000000000002;
      steps = 1;
      far = false;
      parent = Some (record { own_port = 1; clock = 2; port = 3 });
      ports =
          record { number = 1; role = Slave }
          ∷ record { number = 2; role = Passive }
          ∷ [];
    }
    ∷ []

-- Two links between clocks 1 and 2, crossed: the port number at the parent decides, before the own one.
abbrev pub parallel_network : Snapshot
parallel_network = record {
  systems =
      record { clock = 1; identity = 0xf6f8fe436af80000000000000001; ports = 2 }
      ∷ record { clock = 2; identity = 0xf6f8fe436af80000000000000002; ports = 2 }
      ∷ [];
  links =
      record { a = port_of 1 1; b = port_of 2 2 }
      ∷ record { a = port_of 1 2; b = port_of 2 1 }
      ∷ [];
}

-- 2 follows 1 by its port 2, which leads to port 1
abbrev pub parallel_lines : List SystemLine
parallel_lines =
    record {
      clock = 1;
      root = 0xf6f8fe436af80000000000000001;
      steps = 0;
      far = false;
      parent = None;
      ports =
          record { number = 1; role = Master }
          ∷ record { number = 2; role = Master }
          ∷ [];
    }
    ∷ record {
      clock = 2;
      root = 0xf6f8fe436af80000000000000001;
      steps = 1;
      far = false;
      parent = Some (record { own_port = 2; clock = 1; port = 1 });
      ports =
          record { number = 1; role = Passive }
          ∷ record { number = 2; role = Slave }
          ∷ [];
    }
    ∷ []

-- Clocks 1, 2 and 3, each linked with the others: across the far link the lower clock is master.
abbrev pub triangle_network : Snapshot
triangle_network = record {
  systems =
      record { clock = 1; identity = 0xf6f8fe436af80000000000000001; ports = 2 }
      ∷ record { clock = 2; identity = 0xf6f8fe436af80000000000000002; ports = 2 }
      ∷ record { clock = 3; identity = 0xf6f8fe436af80000000000000003; ports = 2 }
      ∷ [];
  links =
      record { a = port_of 1 1; b = port_of 2 1 }
      ∷ record { a = port_of 1 2; b = port_of 3 1 }
      ∷ record { a = port_of 2 2; b = port_of 3 2 }
      ∷ [];
}

-- 2 and 3 follow 1
abbrev pub triangle_lines : List SystemLine
triangle_lines =
    record {
      clock = 1;
      root = 0xf6f8fe436af80000000000000001;
      steps = 0;
      far = false;
      parent = None;
      ports =
          record { number = 1; role = Master }
          ∷ record { number = 2; role = Master }
          ∷ [];
    }
    ∷ record {
      clock = 2;
      root = 0xf6f8fe436af80000000000000001;
      steps = 1;
      far = false;
      parent = Some (record { own_port = 1; clock = 1; port = 1 });
      ports =
          record { number = 1; role = Slave }
          ∷ record { number = 2; role = Master }
          ∷ [];
    }
    ∷ record {
      clock = 3;
      root = 0xf6f8fe436af80000000000000001;
      steps = 1;
      far = false;
      parent = Some (record { own_port = 1; clock = 1; port = 2 });
      ports =
          record { number = 1; role = Slave }
          ∷ record { number = 2; role = Passive }
          ∷ [];
    }
    ∷ []

-- Clocks 1, 2, 4 and 3 in a ring, where clock 4 has the lower priority1, 16, and so is best. Clock 1 is two steps from
-- it over clock 2 and over clock 3: the clock decides, though port there and own port are lower over clock 3.
abbrev pub square_network : Snapshot
square_network = record {
  systems =
      record { clock = 1; identity = 0xf6f8fe436af80000000000000001; ports = 2 }
      ∷ record { clock = 2; identity = 0xf6f8fe436af80000000000000002; ports = 2 }
      ∷ record { clock = 3; identity = 0xf6f8fe436af80000000000000003; ports = 2 }
      ∷ record { clock = 4; identity = 0x10f8fe436af80000000000000004; ports = 2 }
      ∷ [];
  links =
      record { a = port_of 1 1; b = port_of 3 1 }
      ∷ record { a = port_of 1 2; b = port_of 2 2 }
      ∷ record { a = port_of 2 1; b = port_of 4 1 }
      ∷ record { a = port_of 3 2; b = port_of 4 2 }
      ∷ [];
}

-- all follow 4
abbrev pub square_lines : List SystemLine
square_lines =
    record {
      clock = 1;
      root = 0x10f8fe436af80000000000000004;
      steps = 2;
      far = false;
      parent = Some (record { own_port = 2; clock = 2; port = 2 });
      ports =
          record { number = 1; role = Passive }
          ∷ record { number = 2; role = Slave }
          ∷ [];
    }
    ∷ record {
      clock = 2;
      root = 0x10f8fe436af80000000000000004;
      steps = 1;
      far = false;
      parent = Some (record { own_port = 1; clock = 4; port = 1 });
      ports =
          record { number = 1; role = Slave }
          ∷ record { number = 2; role = Master }
          ∷ [];
    }
    ∷ record {
      clock = 3;
      root = 0x10f8fe436af80000000000000004;
      steps = 1;
      far = false;
      parent = Some (record { own_port = 2; clock = 4; port = 2 });
      ports =
          record { number = 1; role = Master }
          ∷ record { number = 2; role = Slave }
          ∷ [];
    }
    ∷ record {
      clock = 4;
      root = 0x10f8fe436af80000000000000004;
      steps = 0;
      far = false;
      parent = None;
      ports =
          record { number = 1; role = Master }
          ∷ record { number = 2; role = Master }
          ∷ [];
    }
    ∷ []
