-- Each input has a text of its faults, where a fault stays for some time.
use Rattle.std.proofs.Common.{◌≤◌, ◌+◌, ℕ, Bool, false, List, [], ◌∷◌, ◌++◌, None, IfSome, refl, inl, inr}
use Rattle.rand_pcg.specs.Lcg.{Lcg}
use Rattle.gptp_setup.specs.Intervals.{IsMoment}
use Rattle.gptp_model.specs.Views.{rising_clocks}
use Rattle.gptp_network.specs.Adding.{with_event}
use Rattle.gptp_network.specs.Document.{DocumentState, Means, seeded_document}
use Rattle.gptp_network.proofs.MeantLemmas.{meant_document}
use Rattle.gptp_scenario.specs.declared.change.Act.TheVariants as acts
use Rattle.gptp_scenario.specs.declared.change.Timed.{Timed}
use Rattle.gptp_theorem.specs.PlayedLaws.{IsPlayable}
use Rattle.gptp_theorem.proofs.OctetLemmas.{documents_playable, seeded_playable}
use Rattle.gptp_timeline.specs.Aside.{AsideState}
use Rattle.gptp_timeline.specs.LastStretches.{aside_if, first_aside, last_behind, none_last}
use Rattle.gptp_faults.specs.CaseEvents.{change_of, EventsState, with_changes}
use Rattle.gptp_faults.specs.EveryLaws.{HasEnds, HasFaults, RunsEnd}
use Rattle.gptp_faults.specs.Runs.{draws}
use Rattle.gptp_faults.specs.Stays.{back_at, failed_document, with_case}
use Rattle.gptp_faults.specs.Times.{AreOptions}
use Rattle.gptp_faults.specs.declared.case_events.CaseChange.{CaseChange}
use Rattle.gptp_faults.specs.declared.case_events.CaseChange.TheVariants.{Fail, LinkDown, LinkSet, LinkUp, Recover}
use Rattle.gptp_faults.specs.declared.options.FaultsOptions.{FaultsOptions}
use Rattle.gptp_faults.proofs.EveryLemmas as faults
use Rattle.gptp_determinism.specs.ExistenceLaws.{AllInject}
use Rattle.gptp_determinism.proofs.DocumentExistLemmas.{documents_unfold}
use Rattle.gptp_determinism.specs.GoingOn.{InjectsOctets}
use Rattle.gptp_commands.specs.Every.{HasText, HaveText}
use Rattle.gptp_commands.specs.Failure.{status_by}
use Rattle.gptp_commands.specs.FaultsText.{FaultsText, TellsFaults}
use Rattle.gptp_commands.proofs.DrawLemmas.{draws_answer_all}
use Rattle.gptp_commands.proofs.EveryPassLemmas.{document_passes}
use Rattle.gptp_commands.proofs.EveryQuestionLemmas.{each_has_text, refused_so}
use Rattle.gptp_commands.proofs.InjectLemmas.{meant_injects}

-- ---- events that inject nothing

injects_no_octets : (c : CaseChange) → InjectsOctets (acts.Change (change_of c))
injects_no_octets (LinkDown p) = tt
injects_no_octets (LinkUp p) = tt
injects_no_octets (LinkSet p b) = tt
injects_no_octets (Fail clock) = tt
injects_no_octets (Recover clock) = tt

one_more_injects : (events : List Timed) (timed : Timed) → AllInject events → InjectsOctets timed.act
    → AllInject (events ++ timed ∷ [])
one_more_injects [] timed all one = (one, tt)
one_more_injects (e ∷ es) timed all one = (all.0, one_more_injects es timed all.1 one)

changes_inject : (at : ℕ) (cs : List CaseChange) (d : DocumentState) → AllInject d.events
    → AllInject (with_changes at cs d).events
changes_inject at [] d all = all
changes_inject at (c ∷ cs) d all =
    changes_inject at cs (with_event at (change_of c) d)
    (one_more_injects d.events (record { at = at; act = acts.Change (change_of c) }) all (injects_no_octets c))

case_injects : (at hold : ℕ) (e : EventsState) (d : DocumentState) → AllInject d.events
    → AllInject (with_case at hold e d).events
case_injects at hold e d all =
    changes_inject (back_at at e hold) e.back (failed_document at e d)
    (changes_inject (at + e.delay) e.seen (with_changes at e.at d) (changes_inject at e.at d all))

-- ---- runs

has_ends : (asked : Bool) (aside : AsideState) (d : DocumentState) (until : ℕ) (fate : Lcg) → IsPlayable d
    → AllInject d.events → IsMoment until → HasEnds asked aside d until fate
has_ends asked aside d until fate playable injects early =
    let (start, ts, w, run, goes_on) =
    documents_unfold draws draws_answer_all d until fate playable injects early in
    let k = document_passes draws false d until (λ at to. (None, refl))
    playable.events ts run.started run.drawn start w run.courses in
    let names = rising_clocks start in (
      last_behind names (first_aside asked (aside_if asked aside) names) (k.first ∷ k.others) none_last,
      record {
        started = run.started;
        start = start;
        begun = run.begun;
        passages = k.first ∷ k.others;
        fate_after = run.drawn;
        after = w;
        pass = k.pass;
        are = refl;
      },
    )

runs_end : (d : DocumentState) → AllInject d.events → RunsEnd d
runs_end d injects asked aside e at hold seed until fate can early =
    has_ends asked aside (seeded_document seed (with_case at hold e d)) until fate
    (seeded_playable (with_case at hold e d) seed can) (case_injects at hold e d injects) early

-- ---- a document

module _ (options : FaultsOptions) (asked : AreOptions options)
    (least : IfSome options.hold (λ hold. 1 ≤ hold)) where
  told_of : (d : DocumentState) → HasFaults d options → HaveText (TellsFaults d options)
  told_of d (inl (lines, exceeded, table, settled)) =
      (lines, status_by exceeded, inl (exceeded, table, settled, refl))
  told_of d (inr (fault, refuses)) =
      let (output, status, shown) = refused_so fault in (output, status, inr (fault, refuses, shown))

  faults_told : (input : List ℕ) (d : DocumentState) → Means input d → HaveText (TellsFaults d options)
  faults_told input d means =
      let (network, events) = meant_document input d means in
      let playable = documents_playable input d means network events in
      told_of d (faults.each_has_faults d options playable (runs_end d (meant_injects input d means)) asked least)

  pub each_has_faults : (input : List ℕ) → HasText (FaultsText options) input
  each_has_faults input = each_has_text (λ d. TellsFaults d options) input (faults_told input)
