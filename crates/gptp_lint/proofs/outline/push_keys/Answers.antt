-- One key more.
use Rattle.std.proofs.Common.{◌≡◌, ◌++◌, ◌∷◌, ◌∙◌, [], Some, ap, map, slice_get, sym, take}
use Rattle.std.proofs.lemmas.Option.{slice_get-get_or}
use Rattle.toml_parser.specs.Reading.{key_view}
use Rattle.gptp_lint.specs.Outline.{entries_view, first_part, keys_at}
use Rattle.gptp_lint.proofs.OutlineLemmas.{keys_more, two_pieces}
use Rattle.gptp_lint.proofs.outline.push_keys.Goals as goal

pub loop-key-preserved : goal.loop-key-preserved
loop-key-preserved c =
    let place = c.args.place in
    let xs = c.args.keys.now in
    let i = c.loop-key.key-index in
    let key = c.key-item.result in
    let there : slice_get xs i ≡ Some key =
    slice_get-get_or xs i key c.loop-key-test.true ∙ ap Some (sym c.key-item.is) in
    let pushed = c.in_ok-push_key.ensures
    ∙ ap (λ part. entries_view c.loop-key.entries ++ (place, part) ∷ []) c.first_part.ensures in
    two_pieces (entries_view c.args.entries.now) (entries_view c.loop-key.entries)
    (entries_view c.push_key.new.entries) (keys_at place (map key_view (take i xs)))
    ((place, first_part (key_view key)) ∷ []) c.loop-key.invariant pushed
    ∙ ap (λ more. entries_view c.args.entries.now ++ more) (sym (keys_more place xs i key there))
