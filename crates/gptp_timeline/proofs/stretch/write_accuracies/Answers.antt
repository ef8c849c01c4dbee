use Rattle.std.proofs.Common.{◌≡◌, ◌+◌, ◌∷◌, List, drop, ap, sym, subst, ◌∙◌}
use Rattle.std.specs.List.{flat_map}
use Rattle.std.specs.Prelude.{string_bytes}
use Rattle.std.proofs.lemmas.List.{drop_more}
use Rattle.gptp_accuracy.specs.declared.errors.SystemError.{SystemError}
use Rattle.gptp_timeline.specs.StretchText.{error_among, system_accuracy}
use Rattle.gptp_timeline.specs.Timeline.{reads_kept}
use Rattle.gptp_timeline.proofs.LineLemmas.{written_more, WrittenSoFar}
use Rattle.gptp_timeline.proofs.stretch.write_accuracies.Goals as goal

pub loop-error-preserved : goal.loop-error-preserved
loop-error-preserved g c =
    let errors = c.args.errors.now in let i = c.loop-error.error-index in let item = c.error-item.result in
    let one = system_accuracy c.args.from (error_among c.args.systems.now)
    (reads_kept c.args.to c.args.world.now.world_core c.args.times.now) in
    let before = string_bytes c.args.text.now in let text = string_bytes c.loop-error.text in
    let here : drop i errors ≡ item ∷ drop (i + 1) errors =
    drop_more errors i item c.loop-error-test.true
    ∙ ap (λ (s : SystemError). s ∷ drop (i + 1) errors) (sym c.error-item.is) in
    written_more (flat_map one errors) (one item) (flat_map one (drop (i + 1) errors)) before text
    (string_bytes c.write_exact_if.new.text)
    (subst (λ (ss : List SystemError). WrittenSoFar (flat_map one errors) (flat_map one ss) before text) here
    c.loop-error.invariant) c.in_ok-write_exact_if.ensures
