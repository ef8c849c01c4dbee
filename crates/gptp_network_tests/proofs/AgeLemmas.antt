-- How old what the second of two systems knows is, where its network has a syncReceiptTimeout, by the law on ages.
use Rattle.std.proofs.Common.{◌≡◌, ◌<◌, ◌≤◌, ◌+◌, ◌-◌, ◌*◌, ℕ, zero, suc, [], List, Option, Some, refl, sym, ap, subst, ◌∙◌, inr, arith}
use Rattle.gptp_graph.specs.Distance.{IsNear}
use Rattle.gptp_graph.specs.PathBound.{path_bound}
use Rattle.gptp_invariants.specs.ChoiceCalm.{IsQuietWorld, sync_paths_of}
use Rattle.gptp_invariants.specs.WorldSettlingInvariant.{SettlingInvariant}
use Rattle.gptp_invariants.specs.WorldStanding.{snapshot_of}
use Rattle.gptp_links.specs.declared.bounds.Bounds.{Bounds}
use Rattle.gptp_lists.proofs.SystemSpecLemmas.{slice_get-In}
use Rattle.gptp_model.specs.Advancing.{Advanced, Told}
use Rattle.gptp_model.specs.Prompt.{HavePace}
use Rattle.gptp_model.specs.Sound.{IsSound}
use Rattle.gptp_model.specs.Views.{ShowsLive}
use Rattle.gptp_model.specs.World.{WorldState}
use Rattle.gptp_reading.specs.Age.{WorldsAreRecent}
use Rattle.gptp_scenario.specs.Calm.{AllRest, IsCalm}
use Rattle.gptp_scenario.specs.Network.{pace_of}
use Rattle.gptp_scenario.specs.SyncWait.{step_more, sync_paths, sync_wait}
use Rattle.gptp_setup.specs.SettlingParams.{lapse_span}
use Rattle.gptp_system.specs.State.{SystemState}
use Rattle.gptp_theorem.specs.Headline.{HasPassed, WorldIsCalm}
use Rattle.gptp_theorem.proofs.CalmLemmas.{quiet_stands, set_stands}
use Rattle.gptp_theorem.proofs.SyncPathLemmas.{paths_stand}
use Rattle.gptp_network_tests.specs.Ages.{IsLapsingPair, lapsing_network, lapsing_pace, lapsing_params}
use Rattle.gptp_network_tests.specs.Pair.{HasBegunWith, pair_paths, pair_snapshot}
use Rattle.gptp_network_tests.proofs.PairLemmas.{goes_to, near, pace_is, paths_are, snapshot_is}

-- ---- the network

links_rest : AllRest lapsing_params lapsing_network.systems lapsing_network.links []
links_rest zero x early = λ used. record { lossless = refl; good = omega arith }
links_rest (suc i) x early = absurd (omega (arith, early))

short : sync_wait lapsing_params (sync_paths lapsing_network []) < lapse_span lapsing_params
short = subst (λ paths. sync_wait lapsing_params paths < lapse_span lapsing_params) (sym (paths_are lapsing_params))
    (omega arith)

calm : IsCalm lapsing_network []
calm = record { links = links_rest; lapses = inr short }

-- ---- its world

-- what it comes to
pub comes_to : {F : Type 0} (answers : Bounds → ℕ → F → Option ℕ → F → Type 0) (fate fate_after : F)
    (told : List Told) (start w : WorldState) → HasBegunWith lapsing_params answers fate start
    → Advanced answers 27000000000 told fate fate_after start w → IsLapsingPair w
comes_to answers fate fate_after told start w k advanced =
    let reached = goes_to lapsing_params answers fate fate_after told 27000000000 start w k advanced in
    record { network = k.network; stands = reached.stands; now = reached.now }

module _ (w : WorldState) (k : IsLapsingPair w) (sound : IsSound w) (claimed : SettlingInvariant w) where
  same_paths : sync_paths_of w ≡ pair_paths
  same_paths = sym (paths_stand lapsing_network [] w k.network k.stands sound) ∙ paths_are lapsing_params

  snapshot : snapshot_of w ≡ pair_snapshot
  snapshot = snapshot_is lapsing_params w k.stands sound

  quiet : IsQuietWorld lapsing_params w
  quiet = quiet_stands lapsing_network [] w k.network k.stands sound calm

  have_pace : HavePace (pace_of lapsing_network) w
  have_pace place station here = (set_stands lapsing_network [] w k.stands claimed place station here).starts

  world_calm : WorldIsCalm lapsing_pace w
  world_calm = record {
    of = subst (λ p. HavePace p w) (pace_is lapsing_params) have_pace;
    links = λ link member used.
        let (place, there) = slice_get-In link w.net.channels member in
        let is = quiet.links place link there used in (is.lossless, is.good);
    lapses = quiet.lapses;
  }

  passed : HasPassed lapsing_pace (path_bound (snapshot_of w)) w
  passed =
      let now = k.now in
      let quick : step_more lapsing_pace pair_paths ≡ 0 = refl in
      subst (λ m. HasPassed lapsing_pace m w) (sym (ap path_bound snapshot))
      (subst (λ paths. w.last_change + (26000000000 + 2 * step_more lapsing_pace paths) ≤ w.time) (sym same_paths)
      (subst (λ change. change + (26000000000 + 2 * step_more lapsing_pace pair_paths) ≤ w.time) (sym k.stands.last)
      (omega (arith, now, quick))))

  lately : WorldsAreRecent → (s : SystemState) (port due : ℕ) → ShowsLive 2 w s → s.slave ≡ Some port
      → s.lapse ≡ Some due → w.time + 375000000 ≤ due + 125001500
  lately law s port due shows slave lapse =
      subst (λ paths. w.time + lapse_span lapsing_params ≤ due + sync_wait lapsing_params paths) same_paths
      (law w claimed lapsing_pace 2 port due s world_calm passed (subst (λ g. IsNear g 2) (sym snapshot) near) shows
      slave lapse)

pub age_within : (w : WorldState) (s : SystemState) (port due : ℕ) → WorldsAreRecent → IsLapsingPair w → IsSound w
    → SettlingInvariant w → ShowsLive 2 w s → s.slave ≡ Some port → s.lapse ≡ Some due
    → 27375000000 - due ≤ 125001500
age_within w s port due law k sound claimed shows slave lapse =
    let is = lately w k sound claimed law s port due shows slave lapse in
    let now = k.now in
    omega (arith, is, now)
