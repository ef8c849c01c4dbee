-- The first part of a header, and then its second.
use Rattle.std.proofs.Common.{◌++◌, ◌∷◌, ◌∙◌, [], ap, option_to_list}
use Rattle.std.proofs.lemmas.Result.{on_ok_weaker}
use Rattle.toml_parser.specs.Reading.{key_view}
use Rattle.gptp_lint.specs.Outline.{at_place, entries_view, first_part, second_part}
use Rattle.gptp_lint.specs.declared.place.Place.TheVariants.{Top}
use Rattle.gptp_lint.proofs.OutlineLemmas.{two_pieces}
use Rattle.gptp_lint.proofs.outline.push_header.Goals as goal

pub returns : goal.returns
returns c =
    let key = key_view c.args.key.now in
    let first = c.in_ok-push_key.ensures
    ∙ ap (λ part. entries_view c.args.entries.now ++ (Top, part) ∷ []) c.first_part.ensures in
    on_ok_weaker c.push_if.result
    (two_pieces (entries_view c.args.entries.now) (entries_view c.push_key.new.entries)
    (entries_view c.push_if.new.entries) ((Top, first_part key) ∷ [])
    (at_place c.args.place (option_to_list (second_part key))) first)
    (rw c.second_part.ensures at c.push_if.ensures)
