-- Each input has a text of its timeline.
use Rattle.std.proofs.Common.{◌≡◌, ◌≤◌, ℕ, Bool, true, List, [], ◌∷◌, ◌++◌, Option, Some, None, IfSome, refl, sym, subst, ◌∙◌, arith}
use Rattle.std.proofs.lemmas.Option.{none-some, same_Some}
use native.Mathlib.Decide.{dec_le}
use Rattle.gptp_setup.specs.Intervals.{IsMoment}
use Rattle.gptp_model.specs.Views.{rising_clocks}
use Rattle.gptp_network.specs.Document.{DocumentState, Means, seeded_document}
use Rattle.gptp_network.specs.Snapshot.{IsSnapshot}
use Rattle.gptp_network.proofs.ExistenceLemmas.{snapshot_exists}
use Rattle.gptp_network.specs.Events.{AreEvents}
use Rattle.gptp_network.proofs.MeantLemmas.{meant_document, meant_well}
use Rattle.gptp_scenario.specs.Network.{IsNetwork}
use Rattle.gptp_theorem.specs.PlayedLaws.{IsPlayable}
use Rattle.gptp_theorem.proofs.OctetLemmas.{documents_playable, seeded_playable}
use Rattle.gptp_how_soon.specs.Times.{settling_times}
use Rattle.gptp_how_soon.proofs.ShortLemmas.{watched_shortly}
use Rattle.gptp_accuracy.specs.TimeErrors.{AreTimeErrors}
use Rattle.gptp_accuracy.specs.declared.errors.TimeErrors.{TimeErrors}
use Rattle.gptp_accuracy.proofs.EveryLemmas.{errors_exist}
use Rattle.gptp_accuracy.proofs.OneLemmas.{errors_once}
use Rattle.gptp_accuracy.proofs.WayLemmas.{one_each}
use Rattle.gptp_timeline.specs.End.{default_end}
use Rattle.gptp_timeline.specs.Limits.{is_exceeded, verdict_lines}
use Rattle.gptp_timeline.specs.Timeline.{AreErrorsBy, HoldsBy, Carried, StretchTrace, TimelineOf, all_exceeded, all_lines, none_carried, start_lines, tracks}
use Rattle.gptp_timeline.specs.declared.limits.Limit.{Limit}
use Rattle.gptp_timeline.specs.declared.timeline.TimelineOptions.{TimelineOptions}
use Rattle.gptp_timeline.proofs.DefaultEndLemmas.{end_in_time}
use Rattle.gptp_timeline.proofs.RightLemmas.{timelines_are_right}
use Rattle.gptp_timeline_laws.proofs.RightLemmas.{timelines_read_right}
use Rattle.gptp_determinism.specs.ExistenceLaws.{AllInject}
use Rattle.gptp_determinism.proofs.DocumentExistLemmas.{documents_unfold}
use Rattle.gptp_commands.specs.declared.timeline.TimelineOrder.{TimelineOrder}
use Rattle.gptp_commands.specs.Every.{HasText, HaveText}
use Rattle.gptp_commands.specs.Failure.{status_by}
use Rattle.gptp_commands.specs.RunText.{draws, generator}
use Rattle.gptp_commands.specs.TimelineText.{EndsAt, TellsTimeline, TimelineText}
use Rattle.gptp_commands.proofs.DrawLemmas.{draws_answer_all}
use Rattle.gptp_commands.proofs.EveryPassLemmas.{document_passes}
use Rattle.gptp_commands.proofs.EveryQuestionLemmas.{each_has_text}
use Rattle.gptp_commands.proofs.InjectLemmas.{meant_injects}

-- ---- time errors

-- whether they hold by a time can be decided
module _ (to : ℕ) (t : TimeErrors) where
  holds_from : (exact : ℕ) → t.from ≡ Some exact → Dec (exact ≤ to) → Dec (HoldsBy to t)
  holds_from exact is (yes early) = yes (exact, is, early)
  holds_from exact is (no late) =
      no (λ holds. late (subst (λ n. n ≤ to) (same_Some holds.0 exact (sym holds.1 ∙ is)) holds.2))

  by_from : (from : Option ℕ) → t.from ≡ from → Dec (HoldsBy to t)
  by_from None is = no (λ holds. none-some holds.0 (sym is ∙ holds.1))
  by_from (Some exact) is = holds_from exact is (dec_le exact to)

  holds_dec : Dec (HoldsBy to t)
  holds_dec = by_from t.from refl

-- so a document has those that hold, or none
module _ (d : DocumentState) (network : IsNetwork d.network) (at to : ℕ) where
  errors_by : (t : TimeErrors) → AreTimeErrors d at t → Dec (HoldsBy to t)
      → (errors : Option TimeErrors) × AreErrorsBy d at to errors
  errors_by t are (yes holds) = (Some t, (are, holds))
  errors_by t are (no never) = (
    None,
    λ u other holds.
        let same = errors_once d at t u (one_each d.network network) are other in
        never (holds.0, same.from ∙ holds.1, holds.2),
  )

-- ---- the end

-- the one that is asked for, or that by default, which is in time
end_exists : (d : DocumentState) (asked : Option ℕ) → IsNetwork d.network → AreEvents d.network d.events
    → IfSome asked (λ until. IsMoment until)
    → (until : ℕ) × EndsAt asked d until × IsMoment until
end_exists d (Some asked) network events early = (asked, refl, early)
end_exists d None network events early =
    (default_end d, refl, end_in_time (settling_times d) (watched_shortly d network events))

-- ---- a timeline

-- of what an input means, with this seed
module _ (input : List ℕ) (meant : DocumentState) (means : Means input meant) (seed : ℕ) where
  abbrev d : DocumentState
  d = seeded_document seed meant

  playable : IsPlayable d
  playable =
      let (network, events) = meant_document input meant means in
      seeded_playable meant seed (documents_playable input meant means network events)

  network : IsNetwork d.network
  network = playable.network

  events : AreEvents d.network d.events
  events = playable.events

  injects : AllInject d.events
  injects = meant_injects input meant means

  errors_at : (at to : ℕ) → (errors : Option TimeErrors) × AreErrorsBy d at to errors
  errors_at at to =
      let (g, stands) = snapshot_exists d at network in
      let stood : IsSnapshot meant at g =
      record { systems = stands.systems; rising = stands.rising; links = stands.links } in
      let (t, are) = errors_exist d at g network stands (meant_well input meant at g means stood) in
      errors_by d network at to t are (holds_dec to t)

  timeline_exists : (until : ℕ) (options : TimelineOptions) → IsMoment until
      → (lines : List (List ℕ)) × (exceeded : Bool) × TimelineOf draws d until options (generator seed) lines exceeded
  timeline_exists until options early =
      let (start, ts, w, run, goes_on) =
      documents_unfold draws draws_answer_all d until (generator seed) playable injects early in
      let k = document_passes draws true d until errors_at events ts run.started run.drawn
      start w run.courses in
      let passages : List StretchTrace = k.first ∷ k.others in
      let names : List ℕ = rising_clocks start in
      let carried : Carried = none_carried (tracks options) names in
      let verdict : Option Limit = all_exceeded options.limits names carried passages None in
      let lines : List (List ℕ) =
      start_lines options names start
      ++ all_lines options names carried passages [] ++ verdict_lines options.limits verdict in (
        lines,
        is_exceeded options.limits verdict,
        record {
          started = run.started;
          start = start;
          begun = run.begun;
          passages = passages;
          fate_after = run.drawn;
          after = w;
          pass = k.pass;
          verdict = verdict;
          verdict_is = refl;
          exceeded_is = refl;
          are = refl {a = lines};
        },
      )

timeline_told : (input : List ℕ) (meant : DocumentState) → Means input meant → (order : TimelineOrder)
    → IfSome order.until (λ until. IsMoment until) → HaveText (TellsTimeline order meant)
timeline_told input meant means order asked =
    let whole = seeded_document order.seed meant in
    let plays = playable input meant means order.seed in
    let (until, ends, early) = end_exists whole order.until plays.network plays.events asked in
    let (lines, exceeded, timeline) = timeline_exists input meant means order.seed until order.options early in (
      lines,
      status_by exceeded,
      record {
        until = until;
        ends = ends;
        exceeded = exceeded;
        timeline = timeline;
        right = timelines_are_right draws whole until order.options (generator order.seed) lines exceeded timeline
            plays (omega (arith, early));
        reads = timelines_read_right draws whole until order.options (generator order.seed) lines exceeded timeline
            plays (omega (arith, early));
        status_is = refl;
      },
    )

pub each_has_timeline : (order : TimelineOrder) (input : List ℕ)
    → IfSome order.until (λ until. IsMoment until) → HasText (TimelineText order) input
each_has_timeline order input asked =
    each_has_text (TellsTimeline order) input (λ d means. timeline_told input d means order asked)
