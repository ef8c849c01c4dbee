-- A run in which Syncs are told keeps what is expected of them, so that nothing lapses and it ends settled.
use Rattle.std.proofs.Common.{◌<◌, ◌≤◌, ◌+◌, ◌*◌, ℕ, zero, suc, pred, List, [], ◌∷◌, arith}
use native.Mathlib.Nat.{mul-le-mul_right}
use Rattle.gptp_graph.specs.Snapshot.{PortIdentity}
use Rattle.gptp_bmca_machine.specs.Frame.{Spelling, SaysSync}
use Rattle.gptp_bmca_machine.specs.Station.{MachineState}
use Rattle.gptp_bmca_machine.specs.Network.{Network, IsSettlingNetwork, BecomesClean, since, network_setting, settled_from}
use Rattle.gptp_bmca_machine.specs.EarlyPorts.{ClaimsWhenReady}
use Rattle.gptp_bmca_machine.specs.Facts.{SendersLive}
use Rattle.gptp_bmca_machine.specs.Calm.{Calm}
use Rattle.gptp_bmca_machine.specs.CleanInvariant.{TracesAreClean}
use Rattle.gptp_bmca_machine.specs.Lapsing.{NothingNearLapses}
use Rattle.gptp_bmca_machine.specs.Levels.{Invariant}
use Rattle.gptp_bmca_machine.specs.Run.{last_state, NearHaveSettled}
use Rattle.gptp_bmca_machine.specs.Syncs.{HaveSyncTimers, wait, IsPrompt, SyncsAreExpected}
use Rattle.gptp_bmca_machine.specs.SyncLaws.{IsSyncRun}
use Rattle.gptp_bmca_machine.proofs.CleanLemmas.{clean_begins, clean_kept}
use Rattle.gptp_bmca_machine.proofs.LevelLemmas.{no_early_ports, chooses, clean_sound, invariant_begins, invariant_kept}
use Rattle.gptp_bmca_machine.proofs.SettledLemmas.{network_settles}
use Rattle.gptp_bmca_machine.proofs.SyncLemmas.{expected_begins, nothing_lapses}
use Rattle.gptp_bmca_machine.proofs.SyncActLemmas.{step_of, expected_kept}

-- the wait is longest at the end of the longest path
pub prompt : (n : Network) → n.syncs.interval + pred n.reach * (n.syncs.residence + n.most) ≤ n.sync_wait
    → n.sync_wait < n.syncs.span → n.bare ≤ since n 0
    → ((d : ℕ) (p : PortIdentity) → since n d + n.sync_wait ≤ n.claimed d p)
    → IsPrompt n
prompt n within short bare waits = record { covers = covers; short = short; bare = bare; waits = waits }
  where
    covers : (d : ℕ) → suc d < n.reach → wait n d ≤ n.sync_wait
    covers d near =
        let fewer : suc d ≤ pred n.reach = le_pred (suc d) n.reach near in
        let more : suc d * (n.syncs.residence + n.most) ≤ pred n.reach * (n.syncs.residence + n.most) =
        mul-le-mul_right (n.syncs.residence + n.most) fewer in
        omega arith
      where
        le_pred : (a b : ℕ) → a < b → a ≤ pred b
        le_pred a zero h = absurd (omega arith)
        le_pred a (suc b) h = omega arith

-- nothing lapses, where Syncs are expected
pub in_time : (says : Spelling) (says_sync : SaysSync) (n : Network) → IsSettlingNetwork n → (w : MachineState)
    → Calm n w
    → Invariant says n w → HaveSyncTimers n w → IsPrompt n → SyncsAreExpected says_sync n w → NothingNearLapses n w
in_time says says_sync n net w calm invariant facts =
    nothing_lapses says_sync n net w calm invariant.sound facts
    (λ d near late. chooses says n net w calm invariant.sound d (λ e less. invariant.levels e) near late)

module _ (says : Spelling) (says_sync : SaysSync) (n : Network) (net : IsSettlingNetwork n) (is_prompt : IsPrompt n)
    (cleans : BecomesClean n) (ready : ClaimsWhenReady n) where
  -- the first state of a run is calm, and Syncs are told in it
  first_calm : (w : MachineState) (ws : List MachineState) → IsSyncRun says says_sync n w ws
      → Calm n w × HaveSyncTimers n w
  first_calm w [] (calm, facts) = (calm, facts)
  first_calm w (w' ∷ ws) (calm, facts, step, rest) = (calm, facts)

  -- the last state is calm and keeps the invariant, where the first does and Syncs are expected in it
  run_keeps : (w : MachineState) (ws : List MachineState) → IsSyncRun says says_sync n w ws
      → TracesAreClean says (network_setting n) w
      → Invariant says n w → SyncsAreExpected says_sync n w
      → Calm n (last_state w ws) × Invariant says n (last_state w ws)
  run_keeps w [] (calm, facts) traces invariant expected = (calm, invariant)
  run_keeps w (w' ∷ ws) (calm, facts, step, rest) traces invariant expected =
      let (calm', facts') = first_calm w' ws rest in
      let nothing = in_time says says_sync n net w calm invariant facts is_prompt expected in
      let acts = step_of says says_sync n w w' step in
      let traces' = clean_kept says (network_setting n) cleans.begins w w' calm.facts calm'.facts acts traces in
      let invariant' =
      invariant_kept says n net w w' calm calm' nothing (no_early_ports says n w w' ready) acts
      (clean_sound says n net w' calm' traces' cleans.late) invariant in
      run_keeps w' ws rest traces' invariant'
      (expected_kept says says_sync n net is_prompt.bare w w' calm calm' facts facts' step invariant invariant'
      expected)

  -- so it ends settled, where it begins early and ends late enough
  pub sync_run_settles : (w : MachineState) (ws : List MachineState) → IsSyncRun says says_sync n w ws
      → SendersLive (network_setting n) w
      → w.time < n.start
      → settled_from n ≤ (last_state w ws).time → NearHaveSettled n (last_state w ws)
  sync_run_settles w ws run live_senders early by i s at live near =
      let (first, facts) = first_calm w ws run in
      let after : n.start ≤ n.sound = cleans.after in
      let before : w.time < n.sound = omega arith in
      let (calm, invariant) =
      run_keeps w ws run (clean_begins says (network_setting n) w first.facts live_senders early)
      (invariant_begins says n net w before)
      (expected_begins says_sync n w before) in
      network_settles says n (last_state w ws) i s net calm invariant at live near by
