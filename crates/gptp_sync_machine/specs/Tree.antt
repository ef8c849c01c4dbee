-- The ways of a settled network: each system gets time over the way of its parent, and the link to that.
use Rattle.std.specs.Prelude.{◌≡◌, ℕ, zero, suc, ℤ, [], Option}
use Rattle.gptp_graph.specs.Distance.{IsDistance}
use Rattle.gptp_graph.specs.Parent.{ParentLink, IsParent}
use Rattle.gptp_graph.specs.Snapshot.{PortIdentity, Snapshot, port_of}
use Rattle.gptp_error_laws.specs.TimeError.{WayLink, Way}
use Rattle.gptp_error_laws.specs.WayLaws.{longer}
use Rattle.gptp_sync_machine.specs.Follower.{FollowerSetting}

-- What ways are made of: the drift of the system with a clock, and its phase, in ns; the least and the greatest delay
-- of the link at a port, in ns; and for all how exactly they stamp time, the interval between two requests, the
-- turnaround and the residence.
pub record Parts : Type 0 where
  pub drift : ℕ → ℤ
  pub phase : ℕ → ℕ
  pub least : PortIdentity → ℕ
  pub most : PortIdentity → ℕ
  pub blur : ℕ
  pub behind : ℕ
  pub interval : ℕ
  pub turnaround : ℕ
  pub residence : ℕ

-- the way to a root: no link
abbrev pub tree_root_way : Parts → ℕ → Way
tree_root_way x clock = record {
  drift = x.drift clock;
  links = [];
  blur = x.blur;
  behind = x.behind;
  interval = x.interval;
  turnaround = x.turnaround;
  residence = x.residence;
}

-- the last link of the way to a system: it is at the own port by which the system follows its parent
abbrev pub last_link : Parts → ℕ → ParentLink → WayLink
last_link x clock parent = record {
  least = x.least (port_of clock parent.own_port);
  most = x.most (port_of clock parent.own_port);
  drift = x.drift clock;
}

-- The way to a system so many steps from the best of its component, and the phases of the clocks on it: no link at the
-- best itself; else the way to the parent, and the link to that.
abbrev pub IsWayTo : Parts → Snapshot → ℕ → ℕ → Way → (ℕ → ℕ) → Type 0
IsWayTo x g zero clock w phase = IsDistance g clock 0 × (w ≡ tree_root_way x clock) × (phase 0 ≡ x.phase clock)
IsWayTo x g (suc steps) clock w phase =
    (parent : ParentLink) × (above : Way) × IsParent g clock parent × IsWayTo x g steps parent.clock above phase
    × (w ≡ longer above (last_link x clock parent)) × (phase (suc steps) ≡ x.phase clock)

-- a system after the last link of a way from a root with this base, which takes these time stamps of its clock, and to
-- which the parent's port sends on
abbrev pub follower_of : Way → (ℕ → ℕ) → Option ℤ → ℕ → (ℕ → ℤ) → PortIdentity → ℕ → ℕ → FollowerSetting
follower_of w phase base place stamps parent settled longest = record {
  way = w;
  phase = phase;
  base = base;
  place = place;
  stamps = stamps;
  parent = parent;
  settled = settled;
  longest = longest;
}
