-- When a network comes to rest after its last change (profile).
use Rattle.std.specs.Prelude.{◌≡◌, ◌⊎◌, ◌+◌, ◌<◌, ℕ, true, List, [], ◌∷◌, Some, slice_get}
use Rattle.std.specs.List.{All}
use Rattle.gptp_roles.specs.Selection.{clock_of}
use Rattle.gptp_pdelay.specs.GoodLink.{IsGoodLink}
use Rattle.gptp_setup.specs.declared.setup.Params.{Params}
use Rattle.gptp_setup.specs.SettlingParams.{lapse_span}
use Rattle.gptp_setup.specs.Stamping.{blur_of}
use Rattle.gptp_scenario.specs.Change.{system_after, link_after}
use Rattle.gptp_scenario.specs.Network.{NetworkState}
use Rattle.gptp_scenario.specs.SyncWait.{sync_paths, sync_wait}
use Rattle.gptp_scenario.specs.declared.change.Timed.{Timed}
use Rattle.gptp_scenario.specs.declared.network.SystemSpec.{SystemSpec}
use Rattle.gptp_scenario.specs.declared.network.LinkSpec.{LinkSpec}
use Rattle.gptp_scenario.specs.declared.sync_wait.SyncPaths.{SyncPaths}

-- the time of the last of these, or 0
abbrev pub last_change : List Timed → ℕ
last_change [] = 0
last_change (t ∷ []) = t.at
last_change (t ∷ (u ∷ us)) = last_change (u ∷ us)

-- the system with this clock lives after the events
pub record IsLive (systems : List SystemSpec) (events : List Timed) (name : ℕ) : Type 0 where
  pub place : ℕ
  pub system : SystemSpec
  pub there : slice_get systems place ≡ Some system
  pub clock : clock_of system.identity ≡ name
  pub live : (system_after events system).live ≡ true

-- the link is up and joins two live systems
pub record IsUsed (systems : List SystemSpec) (events : List Timed) (w : LinkSpec) : Type 0 where
  pub up : w.up ≡ true
  pub a : IsLive systems events w.a.clock
  pub b : IsLive systems events w.b.clock

-- the link loses nothing, and is short enough for the threshold, also where time stamps are off
pub record IsQuiet (p : Params) (w : LinkSpec) : Type 0 where
  pub lossless : w.bounds.loss ≡ 0
  pub good : IsGoodLink (w.bounds.max + blur_of p) p.turnaround p.threshold

-- where a link is up between two live systems after the events, it is quiet
abbrev pub Rests : Params → List SystemSpec → List Timed → LinkSpec → Type 0
Rests p systems events w =
    IsUsed systems events (link_after events w) → IsQuiet p (link_after events w)

abbrev pub AllRest : Params → List SystemSpec → List LinkSpec → List Timed → Type 0
AllRest p systems links events = All (Rests p systems events) links

-- No Slave port ages what it holds for want of Sync: syncReceiptTimeout (IEEE 802.1AS-2020, 10.7.3.1) is 0, which is
-- off (profile).
abbrev pub NothingLapses : Params → Type 0
NothingLapses p = p.sync_timeout ≡ 0

-- nothing lapses in a network that has settled: the timeout is off, or each Sync comes before it
abbrev pub SyncsComeInTime : Params → SyncPaths → Type 0
SyncsComeInTime p paths = NothingLapses p ⊎ (sync_wait p paths < lapse_span p)

-- A network is calm after these events where each link that then is up between two live systems is quiet, and Syncs
-- come before anything lapses for want of them.
pub record IsCalm (n : NetworkState) (events : List Timed) : Type 0 where
  pub links : AllRest n.params n.systems n.links events
  pub lapses : SyncsComeInTime n.params (sync_paths n events)
