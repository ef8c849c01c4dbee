-- The way to a system: the links over which it gets time, from the best of its component down.
use Rattle.std.specs.Prelude.{◌≡◌, ℕ, zero, suc, ℤ, List, []}
use Rattle.gptp_lists.specs.Members.{In}
use Rattle.gptp_graph.specs.Distance.{IsDistance}
use Rattle.gptp_graph.specs.Parent.{ParentLink, IsParent}
use Rattle.gptp_graph.specs.Snapshot.{Snapshot}
use Rattle.gptp_roles.specs.Selection.{clock_of}
use Rattle.gptp_setup.specs.Stamping.{behind_of, blur_of, rate_interval}
use Rattle.gptp_setup.specs.declared.setup.Params.{Params}
use Rattle.gptp_scenario.specs.Change.{link_after}
use Rattle.gptp_scenario.specs.Network.{NetworkState, IsEnd}
use Rattle.gptp_scenario.specs.declared.change.Timed.{Timed}
use Rattle.gptp_scenario.specs.declared.network.SystemSpec.{SystemSpec}
use Rattle.gptp_scenario.specs.declared.network.LinkSpec.{LinkSpec}
use Rattle.gptp_error_laws.specs.TimeError.{WayLink, Way}
use Rattle.gptp_error_laws.specs.WayLaws.{longer}

-- the system with this clock has this drift
pub record HasDrift (n : NetworkState) (clock : ℕ) (drift : ℤ) : Type 0 where
  pub system : SystemSpec
  pub there : In system n.systems
  pub is : clock_of system.identity ≡ clock
  pub drift_is : drift ≡ system.drift

-- these are the delays of the link at a port, as they are in force after the events
pub record HasDelays (n : NetworkState) (events : List Timed) (clock port least most : ℕ) : Type 0 where
  pub wire : LinkSpec
  pub there : In wire n.links
  pub end : IsEnd (record { clock = clock; port = port }) wire
  pub least_is : least ≡ (link_after events wire).bounds.min
  pub most_is : most ≡ (link_after events wire).bounds.max

-- the last link of the way to a system: it is at the own port by which the system follows its parent
pub record IsLinkTo (n : NetworkState) (events : List Timed) (clock : ℕ) (parent : ParentLink)
    (l : WayLink) : Type 0 where
  pub delays : HasDelays n events clock parent.own_port l.least l.most
  pub drift : HasDrift n clock l.drift

-- the way to a root whose clock has this drift: no link; time stamps, the window, turnaround and residence are those of
-- the network
abbrev pub root_way : Params → ℤ → Way
root_way p drift = record {
  drift = drift;
  links = [];
  blur = blur_of p;
  behind = behind_of p;
  interval = rate_interval p;
  turnaround = p.turnaround;
  residence = p.residence;
}

-- The way to a system so many steps from the best of its component, after these events, in whose snapshot systems
-- follow their parents: no link at the best itself; else the way to the parent, and the link to that.
abbrev pub IsWay : NetworkState → List Timed → Snapshot → ℕ → ℕ → Way → Type 0
IsWay n events g zero clock w =
    IsDistance g clock 0 × ((drift : ℤ) × HasDrift n clock drift × (w ≡ root_way n.params drift))
IsWay n events g (suc steps) clock w =
    (parent : ParentLink) × (above : Way) × (l : WayLink) × IsParent g clock parent
    × IsWay n events g steps parent.clock above × IsLinkTo n events clock parent l × (w ≡ longer above l)
