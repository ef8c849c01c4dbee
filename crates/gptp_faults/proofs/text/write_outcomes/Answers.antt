use Rattle.std.proofs.Common.{◌≡◌, ◌+◌, ◌∷◌, List, drop, ap, sym, subst, ◌∙◌}
use Rattle.std.specs.List.{flat_map}
use Rattle.std.specs.Prelude.{string_bytes}
use Rattle.std.proofs.lemmas.List.{drop_more}
use Rattle.gptp_timeline.proofs.LineLemmas.{written_more, WrittenSoFar}
use Rattle.gptp_faults.specs.FaultsText.{outcome_lines}
use Rattle.gptp_faults.specs.Outcomes.{OutcomeState}
use Rattle.gptp_faults.proofs.text.write_outcomes.Goals as goal

pub loop-outcome-preserved : goal.loop-outcome-preserved
loop-outcome-preserved c =
    let all = c.args.outcomes.now in let i = c.loop-outcome.outcome-index in let item = c.outcome-item.result in
    let before = string_bytes c.args.text.now in let text = string_bytes c.loop-outcome.text in
    let lines = outcome_lines c.args.asked in
    let here : drop i all ≡ item ∷ drop (i + 1) all =
    drop_more all i item c.loop-outcome-test.true
    ∙ ap (λ (o : OutcomeState). o ∷ drop (i + 1) all) (sym c.outcome-item.is) in
    written_more (flat_map lines all) (lines item) (flat_map lines (drop (i + 1) all)) before text
    (string_bytes c.write_outcome.new.text)
    (subst (λ (os : List OutcomeState). WrittenSoFar (flat_map lines all) (flat_map lines os) before text) here c.loop-outcome.invariant) c.in_ok-write_outcome.ensures
