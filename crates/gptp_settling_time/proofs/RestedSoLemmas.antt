-- What had settled has rested, as an event comes.
use Rattle.std.proofs.Common.{List, arith, inr, pred, subst, ℕ, ◌*◌, ◌+◌, ◌≡◌, ◌≤◌}
use Rattle.gptp_graph.specs.PathBound.{path_bound}
use Rattle.gptp_setup.specs.SettlingParams.{SettlingParams, largest_interval}
use Rattle.gptp_scenario.specs.Calm.{last_change}
use Rattle.gptp_scenario.specs.Network.{NetworkState, pace_of}
use Rattle.gptp_scenario.specs.SettlingAtOnce.{settling_span_at_once}
use Rattle.gptp_scenario.specs.SettlingTime.{capability_span}
use Rattle.gptp_scenario.specs.SyncWait.{sync_paths}
use Rattle.gptp_scenario.specs.declared.change.Timed.{Timed}
use Rattle.gptp_scenario.specs.declared.sync_wait.SyncPaths.{SyncPaths}
use Rattle.gptp_model.specs.World.{WorldState}
use Rattle.gptp_network.specs.Document.{DocumentState}
use Rattle.gptp_invariants.specs.ChoiceCalm.{delay_in, sync_paths_of}
use Rattle.gptp_invariants.specs.WorldStanding.{snapshot_of}
use Rattle.gptp_theorem.specs.PlayedLaws.{IsPlayable}
use Rattle.gptp_theorem.proofs.SyncPathLemmas.{paths_stand}
use Rattle.gptp_settling_time.specs.EventKinds.{HasSettledAnyhow, HasSettledHeard, HasSettledSince}
use Rattle.gptp_settling_time.proofs.AlwaysClaimedLemmas.{IsClaimedAlways}
use Rattle.gptp_settling_time.proofs.BegunLemmas.{rested_sound}
use Rattle.gptp_settling_time.proofs.KeptToLemmas.{KeepsTo}
use Rattle.gptp_settling_time.proofs.MadeLemmas.{anyway_ready}
use Rattle.gptp_settling_time.proofs.NewsClaimedLemmas.{news_settled}
use Rattle.gptp_settling_time.proofs.NewsSoonLemmas.{IsNewsFrom, news_now}
use Rattle.gptp_settling_time.proofs.RestClaimedLemmas.{rest_settled}
use Rattle.gptp_settling_time.proofs.SettledSeenLemmas.{always_settled}
use Rattle.gptp_settling_time.proofs.LossMadeLemmas.{HasRestedSo}

module _ (d : DocumentState) (playable : IsPlayable d) (made : List Timed) (event : Timed) (then : WorldState)
    (at_time : then.time ≡ event.at) (keeps : KeepsTo d made then) where
  abbrev p : SettlingParams
  p = pace_of d.network

  abbrev n : NetworkState
  n = d.network

  paths_then : sync_paths n made ≡ sync_paths_of then
  paths_then = paths_stand n made then playable.network keeps.stands keeps.claim.world.sound

  pub rested_any : HasSettledAnyhow n made event.at → HasRestedSo p (last_change made + capability_span p) event.at then
  rested_any settled =
      let passed = settled.passed in
      let last_then = keeps.stands.last in
      let capable : ℕ = last_change made + capability_span p in
      let sound = rested_sound d made event.at then playable
      (record { calm = settled.calm; passed = omega (arith, passed) }) (omega (arith, at_time)) keeps in
      let late : then.last_change + settling_span_at_once p (sync_paths_of then) ≤ then.time =
      subst (λ paths. then.last_change + settling_span_at_once p paths ≤ then.time) paths_then
      (omega (arith, last_then, passed, at_time)) in
      let (ready, silent) = anyway_ready d made capable then keeps (inr (omega arith)) in
      record {
        sound = sound;
        ready = ready;
        silent = silent;
        settled = rest_settled p then keeps.claim sound late;
        over = subst (λ (x : SyncPaths). capable + pred x.systems * x.delay ≤ event.at) paths_then
            (omega (arith, passed));
      }

  pub rested_gained : (start : ℕ) → HasSettledSince n made start event.at → IsNewsFrom p start then
      → HasRestedSo p start event.at then
  rested_gained start settled from =
      let late : start + largest_interval p + pred (path_bound (snapshot_of then)) * delay_in then ≤ then.time =
      subst (λ (x : SyncPaths). start + largest_interval p + pred x.systems * x.delay ≤ then.time) paths_then
      (omega (arith, settled, at_time)) in
      let news = news_now p start then (omega (arith, late)) from in
      record {
        sound = news.sound;
        ready = news.ready;
        silent = news.silent;
        settled = news_settled p start then news late;
        over = omega (arith, late, at_time);
      }

  pub rested_heard : (start : ℕ) → HasSettledHeard n made start event.at → IsClaimedAlways p start then
      → HasRestedSo p start event.at then
  rested_heard start settled claim =
      let late : start + pred (path_bound (snapshot_of then)) * delay_in then ≤ then.time =
      subst (λ (x : SyncPaths). start + pred x.systems * x.delay ≤ then.time) paths_then
      (omega (arith, settled, at_time)) in
      record {
        sound = claim.news.sound;
        ready = claim.news.ready;
        silent = claim.news.silent;
        settled = always_settled p start then claim late;
        over = omega (arith, late, at_time);
      }
