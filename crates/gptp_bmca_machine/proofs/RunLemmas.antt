-- A run keeps the invariant, and so ends settled.
use Rattle.std.proofs.Common.{◌<◌, ◌≤◌, List, [], ◌∷◌, arith}
use Rattle.gptp_bmca_machine.specs.Frame.{Spelling}
use Rattle.gptp_bmca_machine.specs.Station.{MachineState}
use Rattle.gptp_bmca_machine.specs.CleanInvariant.{TracesAreClean}
use Rattle.gptp_bmca_machine.specs.Network.{Network, IsSettlingNetwork, BecomesClean, network_setting, settled_from}
use Rattle.gptp_bmca_machine.specs.EarlyPorts.{ClaimsWhenReady}
use Rattle.gptp_bmca_machine.specs.Facts.{SendersLive}
use Rattle.gptp_bmca_machine.specs.Calm.{Calm}
use Rattle.gptp_bmca_machine.specs.Levels.{Invariant}
use Rattle.gptp_bmca_machine.specs.Run.{IsRun, last_state, NearHaveSettled}
use Rattle.gptp_bmca_machine.proofs.CleanLemmas.{clean_begins, clean_kept}
use Rattle.gptp_bmca_machine.proofs.LevelLemmas.{no_early_ports, clean_sound, invariant_kept, invariant_begins}
use Rattle.gptp_bmca_machine.proofs.SettledLemmas.{network_settles}

module _ (says : Spelling) (n : Network) (net : IsSettlingNetwork n) (cleans : BecomesClean n)
    (ready : ClaimsWhenReady n) where
  -- the first state of a run is calm
  first_calm : (w : MachineState) (ws : List MachineState) → IsRun says n w ws → Calm n w
  first_calm w [] run = run
  first_calm w (w' ∷ ws) run = run.0

  -- the last state is calm and keeps the invariant, where the first keeps it
  pub run_keeps : (w : MachineState) (ws : List MachineState) → IsRun says n w ws
      → TracesAreClean says (network_setting n) w
      → Invariant says n w → Calm n (last_state w ws) × Invariant says n (last_state w ws)
  run_keeps w [] run traces invariant = (run, invariant)
  run_keeps w (w' ∷ ws) (calm, nothing, step, rest) traces invariant =
      let calm' = first_calm w' ws rest in
      let traces' = clean_kept says (network_setting n) cleans.begins w w' calm.facts calm'.facts step traces in
      run_keeps w' ws rest traces'
      (invariant_kept says n net w w' calm calm' nothing (no_early_ports says n w w' ready) step
      (clean_sound says n net w' calm' traces' cleans.late) invariant)

  -- so it is settled, where the run begins early and ends late enough
  pub run_settles : (w : MachineState) (ws : List MachineState) → IsRun says n w ws → SendersLive (network_setting n) w
      → w.time < n.start
      → settled_from n ≤ (last_state w ws).time → NearHaveSettled n (last_state w ws)
  run_settles w ws run live_senders early by i s at live near =
      let first = first_calm w ws run in
      let after : n.start ≤ n.sound = cleans.after in
      let (calm, invariant) =
      run_keeps w ws run (clean_begins says (network_setting n) w first.facts live_senders early)
      (invariant_begins says n net w (omega arith)) in
      network_settles says n (last_state w ws) i s net calm invariant at live near by
