-- The key is put after the others.
use Rattle.std.proofs.Common.{◌++◌, ◌∷◌, ◌∙◌, [], ap, map}
use Rattle.std.proofs.lemmas.List.{map-append}
use Rattle.gptp_lint.specs.Outline.{entry_view}
use Rattle.gptp_lint.specs.declared.outline.Entry.{Entry}
use Rattle.gptp_lint.proofs.outline.push_key.Goals as goal

pub returns : goal.returns
returns c =
    let old = c.args.entries.now.items in
    let entry : Entry = record { place = c.args.place; key = c.in_ok-octets.octets } in
    ap (map entry_view) c.in_ok-push.ensures.items ∙ map-append entry_view old (entry ∷ [])
    ∙ ap (λ key. map entry_view old ++ (c.args.place, key) ∷ [])
    (c.in_ok-octets.ensures.items ∙ c.as_bytes.ensures.value)
