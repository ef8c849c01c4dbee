-- The section `[network]` (profile).
use Rattle.std.specs.Prelude.{pos, neg_ℤ, codes, Some, Result, Ok}
use Rattle.toml.specs.Data.{Members}
use Rattle.gptp_setup.specs.declared.setup.Params.{Params}
use Rattle.gptp_scenario.specs.Network.{NetworkState, without_members}
use Rattle.gptp_scenario.specs.Params.{params_fault}
use Rattle.gptp_network.specs.Faults.{◌>>=◌, tested}
use Rattle.gptp_network.specs.Values.{natural, whole, table_at}
use Rattle.gptp_network.specs.declared.fault.DocumentFault.{DocumentFault}

-- its keys, in their order, with their ranges and defaults
unfoldable pub params_of : Members → Result Params DocumentFault
params_of t = do
  announce ← whole (codes "announce") (neg_ℤ (pos 4)) (pos 4) (Some (pos 0)) t
  sync ← whole (codes "sync") (neg_ℤ (pos 4)) (pos 4) (Some (neg_ℤ (pos 3))) t
  pdelay ← whole (codes "pdelay") (neg_ℤ (pos 4)) (pos 4) (Some (pos 0)) t
  timeout ← natural (codes "timeout") 3 10 (Some 3) t
  lost ← natural (codes "lost") 1 255 (Some 9) t
  threshold ← natural (codes "threshold") 1 1000000000 (Some 800) t
  turnaround ← natural (codes "turnaround") 1 1000000000 (Some 1000) t
  residence ← natural (codes "residence") 1 1000000000 (Some 1000) t
  sync_timeout ← natural (codes "sync_timeout") 0 10 (Some 0) t
  granularity ← natural (codes "granularity") 0 1000 (Some 0) t
  noise ← natural (codes "noise") 0 1000 (Some 0) t
  window ← natural (codes "window") 1 16 (Some 1) t
  Ok (record {
    announce = announce;
    sync = sync;
    pdelay = pdelay;
    timeout = timeout;
    lost = lost;
    threshold = threshold;
    turnaround = turnaround;
    residence = residence;
    sync_timeout = sync_timeout;
    granularity = granularity;
    noise = noise;
    window = window;
  })

-- the network that it describes, with no member yet
unfoldable pub network_of_section : Members → Result NetworkState DocumentFault
network_of_section t = do
  params ← params_of t
  tested (params_fault params) (without_members params)

unfoldable pub network_of : Members → Result NetworkState DocumentFault
network_of t = do
  section ← table_at (codes "network") t
  network_of_section section
