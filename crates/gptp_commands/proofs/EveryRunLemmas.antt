-- Each input has a text of its run.
use Rattle.std.proofs.Common.{◌≤◌, ℕ, Bool, true, false, cond, List, [], ◌∷◌, ◌++◌, length, Option, Some, None, IfSome, refl, arith}
use Rattle.std.specs.Prelude.{unwrap_or}
use Rattle.gptp_setup.specs.Intervals.{IsMoment}
use Rattle.gptp_scenario.specs.Change.{system_after}
use Rattle.gptp_scenario.specs.InUse.{count_live}
use Rattle.gptp_scenario.specs.Network.{IsNetwork, pace_of}
use Rattle.gptp_scenario.specs.SettlingTime.{settles}
use Rattle.gptp_scenario.specs.SyncWait.{sync_paths}
use Rattle.gptp_scenario.specs.declared.change.Timed.{Timed}
use Rattle.gptp_scenario.specs.declared.network.SystemSpec.{SystemSpec}
use Rattle.gptp_scenario.proofs.InUseLemmas.{short_delay}
use Rattle.gptp_scenario.proofs.LogLemmas.{largest_log, smallest_log}
use Rattle.gptp_scenario.proofs.SyncWaitLemmas.{short_time}
use Rattle.gptp_model.specs.World.{WorldState}
use Rattle.gptp_network.specs.Document.{DocumentState, Means}
use Rattle.gptp_network.specs.Events.{AreEvents}
use Rattle.gptp_network.proofs.EventLemmas.{early_from, events_allowed}
use Rattle.gptp_network.proofs.MeantLemmas.{meant_document}
use Rattle.gptp_network.proofs.PassLemmas.{count_more}
use Rattle.gptp_invariants.specs.WorldSettlingInvariant.{SettlingInvariant}
use Rattle.gptp_certificate_text.specs.CertificateText.{certificate_lines}
use Rattle.gptp_theorem.proofs.SettlingInvariantLemmas.{played_claimed}
use Rattle.gptp_theorem.proofs.OctetLemmas.{documents_playable, seeded_playable}
use Rattle.gptp_determinism.proofs.LineExistLemmas.{documents_lead}
use Rattle.gptp_determinism.proofs.StatedExistLemmas.{states_exist}
use Rattle.gptp_commands.specs.declared.failure.Status.TheVariants.{Done}
use Rattle.gptp_commands.specs.declared.run.RunOptions.{RunOptions}
use Rattle.gptp_commands.specs.Every.{HasText, HaveText}
use Rattle.gptp_commands.specs.RunText.{document_run, draws, generator, until_of, CertifiesIf, PlaysDocument, RunsDocument, RunText}
use Rattle.gptp_commands.proofs.DrawLemmas.{draws_answer_all}
use Rattle.gptp_commands.proofs.EveryQuestionLemmas.{each_has_text}
use Rattle.gptp_commands.proofs.InjectLemmas.{meant_injects}
use Rattle.gptp_commands.proofs.RunLemmas.{runs_settle}

-- ---- a run ends in time

live_few : (events : List Timed) (members : List SystemSpec) → count_live members events ≤ length members
live_few events [] = omega arith
live_few events (m ∷ members) =
    let more = count_more (λ (x : SystemSpec). (system_after events x).live) m members in
    let rest = live_few events members in
    let one : cond (system_after events m).live 1 0 ≤ 1 = by (system_after events m).live in
    omega (arith, more, rest, one)
  where
    by : (live : Bool) → cond live 1 0 ≤ 1
    by true = omega arith
    by false = omega arith

settled_in_time : (d : DocumentState) → IsNetwork d.network → AreEvents d.network d.events
    → IsMoment (settles d.network d.events)
settled_in_time d network events =
    let n = d.network in
    let allowed = events_allowed n d.events (smallest_log n network) events in
    let early = early_from n d.events events in
    let few = live_few d.events n.systems in
    let most = network.few_systems in
    let live : count_live n.systems d.events ≤ 512 = omega (arith, few, most) in
    let span = short_time (pace_of n) (sync_paths n d.events) (count_live n.systems d.events) network.params
    (largest_log n network) live (short_delay n d.events network allowed) in
    omega (arith, early, span)

ends_in_time : (asked : Option ℕ) (settled : ℕ) → IfSome asked (λ until. IsMoment until)
    → IsMoment settled → IsMoment (unwrap_or asked settled)
ends_in_time None settled moment in_time = in_time
ends_in_time (Some until) settled moment in_time = moment

-- ---- a run

certificate_exists : (asked : Bool) (w : WorldState) → SettlingInvariant w
    → (lines : List (List ℕ)) × CertifiesIf asked w lines
certificate_exists true w claimed =
    let (stated, states) = states_exist w claimed in (certificate_lines 2 stated, (stated, states, refl))
certificate_exists false w claimed = ([], refl)

module _ (options : RunOptions)
    (asked : IfSome options.until (λ until. IsMoment until)) (input : List ℕ) where
  run_exists : (d : DocumentState) → Means input d → HaveText (RunsDocument options d)
  run_exists d means =
      let (network, events) = meant_document input d means in
      let whole = document_run options d in
      let playable = seeded_playable d options.seed (documents_playable input d means network events) in
      let until = until_of options whole in
      let fate = generator options.seed in
      let moment = ends_in_time options.until (settles whole.network whole.events) asked
      (settled_in_time whole playable.network playable.events) in
      let (w, frames, leads, (report, reports)) =
      documents_lead draws draws_answer_all whole until options.frames fate playable (meant_injects input d means)
      moment in
      let claimed = played_claimed draws whole until fate leads.told w playable leads.plays in
      let (certificate, certifies) = certificate_exists options.certificate w claimed in
      let output : List (List ℕ) = (frames ++ report) ++ certificate in
      let plays : PlaysDocument whole options output Done = record {
        world = w;
        report = frames ++ report;
        reports = record { frames = frames; leads = leads; report = report; reports = reports; are = refl };
        certificate = certificate;
        certifies = certifies;
        lines = refl;
        status_is = refl;
      } in
      (output, Done, (plays, runs_settle whole options output Done playable plays))

  pub each_has_run : HasText (RunText options) input
  each_has_run = each_has_text (RunsDocument options) input run_exists
