-- A run after news keeps what is held sound, and so ends settled.
use Rattle.std.proofs.Common.{◌≡◌, ◌<◌, ◌≤◌, ◌+◌, ℕ, suc, true, List, [], ◌∷◌, Some, slice_get, sym, ◌∙◌, arith}
use Rattle.gptp_graph.specs.Snapshot.{Snapshot, Joins, port_of}
use Rattle.gptp_graph.proofs.LinkLemmas.{Joins-clock}
use Rattle.gptp_graph.proofs.LinkDecisions.{IsLinked-dec}
use Rattle.gptp_bmca_machine.specs.Sound.{ReceivedFits}
use Rattle.gptp_bmca_machine.proofs.EndsLemmas.{is_station}
use Rattle.gptp_bmca_machine.specs.Frame.{Spelling}
use Rattle.gptp_bmca_machine.specs.Station.{Reception, Disabled, Received, Port, Station, MachineState}
use Rattle.gptp_bmca_machine.specs.Network.{Network, IsSettlingNetwork, settled_from}
use Rattle.gptp_bmca_machine.specs.Calm.{Calm}
use Rattle.gptp_bmca_machine.specs.Levels.{LevelSettles, Invariant}
use Rattle.gptp_bmca_machine.specs.Run.{last_state, NearHaveSettled}
use Rattle.gptp_bmca_machine.specs.SoundLaws.{IsSoundOnLinks, NothingIsHeldAtStart, HasNews, AllIsWhole, AllAreNear, FlightNamesBest, IsNewsRun}
use Rattle.gptp_bmca_machine.proofs.LevelLemmas.{invariant_kept, invariant_begins}
use Rattle.gptp_bmca_machine.proofs.SettledLemmas.{network_settles}
use Rattle.gptp_bmca_machine.proofs.SoundLemmas.{received_fits, sound_kept, news_all_sound}
use Rattle.gptp_bmca_machine.proofs.FlightLemmas.{flight_begins, flight_kept, settled_is_whole}

module _ (says : Spelling) (n : Network) (net : IsSettlingNetwork n) where
  pub first_calm : (w : MachineState) (ws : List MachineState) → IsNewsRun says n w ws → Calm n w
  first_calm w [] run = run
  first_calm w (w' ∷ ws) run = run.0

  run_keeps : (w : MachineState) (ws : List MachineState) → IsNewsRun says n w ws → IsSoundOnLinks says n.graph w
      → Invariant says n w
      → Calm n (last_state w ws) × Invariant says n (last_state w ws)
  run_keeps w [] run all invariant = (run, invariant)
  run_keeps w (w' ∷ ws) (calm, off, nothing, waking, step, rest) all invariant =
      let calm' = first_calm w' ws rest in
      let all' = sound_kept says n net w w' calm calm' off step all in
      run_keeps w' ws rest all'
      (invariant_kept says n net w w' calm calm' nothing waking step
      (λ late. received_fits says n.graph w' net.graph all')
      invariant)

  pub news_settle : (g : Snapshot) (w : MachineState) (ws : List MachineState) → HasNews g n.graph
      → AllIsWhole says g (Joins n.graph) w → IsNewsRun says n w ws → w.time < n.sound
      → settled_from n ≤ (last_state w ws).time → NearHaveSettled n (last_state w ws)
  news_settle g w ws news all run early by i s at live near =
      let (calm, invariant) =
      run_keeps w ws run (news_all_sound g n.graph news says w net.graph all) (invariant_begins says n net w early) in
      network_settles says n (last_state w ws) i s net calm invariant at live near by

  -- from rest
  pub rest_settles : (w : MachineState) (ws : List MachineState) → IsSoundOnLinks says n.graph w
      → ((d : ℕ) → LevelSettles says n d w)
      → IsNewsRun says n w ws → settled_from n ≤ (last_state w ws).time → NearHaveSettled n (last_state w ws)
  rest_settles w ws all levels run by i s at live near =
      let (calm, invariant) =
      run_keeps w ws run all (record { sound = λ late. received_fits says n.graph w net.graph all; levels = levels }) in
      network_settles says n (last_state w ws) i s net calm invariant at live near by

  -- from a start: no port is on, and so none holds anything and none is ready to tell
  pub start_settles : (w : MachineState) (ws : List MachineState) → NothingIsHeldAtStart says n w
      → IsNewsRun says n w ws
      → settled_from n ≤ (last_state w ws).time → NearHaveSettled n (last_state w ws)
  start_settles w ws starts run =
      rest_settles w ws (record {
        lanes = λ j l f a at flies said joins. absurd (starts.silent j l f a at flies said joins);
        stations = λ i s place r at live (q, port, holds). absurd (holds_nothing i s place q r at live port holds);
      }) levels run
    where
      calm : Calm n w
      calm = first_calm w ws run

      off : (i : ℕ) (s : Station) (place : ℕ) (q : Port) → slice_get w.stations i ≡ Some s → s.live ≡ true
          → slice_get s.ports place ≡ Some q → q.held ≡ Disabled
      off i s place q at live port = elim (IsLinked-dec n.graph (port_of s.clock (suc place))) [
        | yes linked ↦ starts.off i s place q at live port linked
        | no unlinked ↦ starts.unlinked i s place q at live port unlinked
      ]

      holds_nothing : (i : ℕ) (s : Station) (place : ℕ) (q : Port) (r : Reception) → slice_get w.stations i ≡ Some s
          → s.live ≡ true → slice_get s.ports place ≡ Some q → q.held ≡ Received r → ⊥
      holds_nothing i s place q r at live port holds =
          absurd (let x : Disabled ≡ Received r = sym (off i s place q at live port) ∙ holds in cc)

      levels : (d : ℕ) → LevelSettles says n d w
      levels d best v p u q near leads late pv pu l stand ready =
          let known = Joins-clock n.graph (port_of v (suc p)) (port_of u (suc q)) net.graph leads.joins in
          let (live, clock) = is_station n net w calm (λ by. sound) v stand.v known stand.teller in
          absurd (ready.1 (off (n.place v) stand.v p pv stand.teller live stand.teller_port))
        where
          sound : ReceivedFits n.graph w
          sound i s place r at alive (q', port, holds) = absurd (holds_nothing i s place q' r at alive port holds)

  module _ (near : AllAreNear n.graph) where
    -- the end of a run is whole, where it is late enough
    run_whole : (w : MachineState) (ws : List MachineState) → IsNewsRun says n w ws → IsSoundOnLinks says n.graph w
        → Invariant says n w
        → FlightNamesBest says n w → settled_from n + n.most ≤ (last_state w ws).time → n.off ≤ (last_state w ws).time
        → AllIsWhole says n.graph (Joins n.graph) (last_state w ws)
    run_whole w [] calm all invariant flight late off =
        settled_is_whole says n net near w calm invariant all flight late off
    run_whole w (w' ∷ ws) (calm, off, nothing, waking, step, rest) all invariant flight late disabled =
        let calm' = first_calm w' ws rest in
        let all' = sound_kept says n net w w' calm calm' off step all in
        let invariant' = invariant_kept says n net w w' calm calm' nothing waking step
        (λ by. received_fits says n.graph w' net.graph all') invariant in
        run_whole w' ws rest all' invariant'
        (flight_kept says n net near w w' calm' invariant' step flight) late disabled

    pub news_become_whole : (g : Snapshot) (w : MachineState) (ws : List MachineState) → HasNews g n.graph
        → AllIsWhole says g (Joins n.graph) w → IsNewsRun says n w ws → w.time < n.sound
        → settled_from n + n.most ≤ (last_state w ws).time → n.off ≤ (last_state w ws).time
        → AllIsWhole says n.graph (Joins n.graph) (last_state w ws)
    news_become_whole g w ws news all run early =
        run_whole w ws run (news_all_sound g n.graph news says w net.graph all) (invariant_begins says n net w early)
        (flight_begins says n net w (first_calm w ws run) (omega arith))

    -- from rest a run ends at rest
    pub rest_goes_on : (w : MachineState) (ws : List MachineState) → IsSoundOnLinks says n.graph w
        → ((d : ℕ) → LevelSettles says n d w)
        → IsNewsRun says n w ws → w.time < settled_from n → settled_from n + n.most ≤ (last_state w ws).time
        → n.off ≤ (last_state w ws).time → Calm n (last_state w ws) × Invariant says n (last_state w ws)
        × AllIsWhole says n.graph (Joins n.graph) (last_state w ws)
    rest_goes_on w ws all levels run early late off =
        let invariant : Invariant says n w =
        record { sound = λ by. received_fits says n.graph w net.graph all; levels = levels } in
        let (calm', invariant') = run_keeps w ws run all invariant in (
          calm',
          invariant',
          run_whole w ws run all invariant (flight_begins says n net w (first_calm w ws run) early) late off,
        )
