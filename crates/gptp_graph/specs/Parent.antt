-- The parent of a system: the port, one step nearer to the best, that it follows.
use Rattle.std.specs.Prelude.{◌≡◌, ℕ, zero, suc, List, [], ◌∷◌}
use Rattle.gptp_graph.specs.Order.{IsLower}
use Rattle.gptp_graph.specs.Snapshot.{Snapshot, port_of, Joins}
use Rattle.gptp_graph.specs.Distance.{IsDistance}

-- a link as seen from one of its ends: the own port, and the port at the other end by its clock and number (the
-- parentPortIdentity of IEEE 1588-2019, 8.2.3.2)
pub record ParentLink : Type 0 where
  pub own_port : ℕ
  pub clock : ℕ
  pub port : ℕ

-- clock there, port there, own port: the parts by which two vectors of one root and one number of steps differ
-- (IEEE 802.1AS-2020, 10.3.4)
abbrev pub key : ParentLink → List ℕ
key l = l.clock ∷ l.port ∷ l.own_port ∷ []

-- the link is one of v's
abbrev pub JoinsAt : Snapshot → ℕ → ParentLink → Type 0
JoinsAt g v l = Joins g (port_of v l.own_port) (port_of l.clock l.port)

-- the link leads from v to a system whose distance is one less
pub record LeadsNearer (g : Snapshot) (v : ℕ) (l : ParentLink) : Type 0 where
  pub joins : JoinsAt g v l
  pub distance : ℕ
  pub there : IsDistance g l.clock distance
  pub here : IsDistance g v (suc distance)

-- the parent of v: among its links to systems whose distance is one less, the one of least clock there, port there,
-- own port
pub record IsParent (g : Snapshot) (v : ℕ) (l : ParentLink) : Type 0 where
  pub nearer : LeadsNearer g v l
  pub least : (other : ParentLink) → LeadsNearer g v other → IsLower (key other) (key l) → ⊥

-- from v, following parents n times leads to w
abbrev pub Climbs : Snapshot → ℕ → ℕ → ℕ → Type 0
Climbs g v w zero = v ≡ w
Climbs g v w (suc n) = (l : ParentLink) × IsParent g v l × Climbs g l.clock w n
