use Rattle.std.proofs.Common.{◌≡◌, ◌+◌, ◌∷◌, ◌++◌, [], List, drop, map, ap, sym, subst, ◌∙◌}
use Rattle.std.specs.Prelude.{string_bytes}
use Rattle.std.proofs.lemmas.List.{drop_more}
use Rattle.gptp_timeline.proofs.LineLemmas.{line_text, written_more, WrittenSoFar}
use Rattle.gptp_faults.specs.FaultsText.{follow_line}
use Rattle.gptp_faults.specs.declared.follows.Follow.{Follow}
use Rattle.gptp_faults.proofs.text.write_follows.Goals as goal

pub loop-follow-preserved : goal.loop-follow-preserved
loop-follow-preserved c =
    let follows = c.args.follows.now in let i = c.loop-follow.follow-index in let item = c.follow-item.result in
    let before = string_bytes c.args.text.now in let text = string_bytes c.loop-follow.text in
    let here : drop i follows ≡ item ∷ drop (i + 1) follows =
    drop_more follows i item c.loop-follow-test.true
    ∙ ap (λ (f : Follow). f ∷ drop (i + 1) follows) (sym c.follow-item.is) in
    written_more (map follow_line follows) (follow_line item ∷ []) (map follow_line (drop (i + 1) follows)) before text
    (string_bytes c.write_follow.new.text)
    (subst (λ (fs : List Follow). WrittenSoFar (map follow_line follows) (map follow_line fs) before text) here
    c.loop-follow.invariant)
    (c.in_ok-write_follow.ensures ∙ ap (λ t. text ++ t) (line_text (follow_line item)))
