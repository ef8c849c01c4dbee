-- The first part of a key stands at the front of its parts.
use Rattle.std.proofs.Common.{◌≡◌, ◌∙◌, None, Some, ap, option_map, slice_get, string_bytes, sym, unwrap_or}
use Rattle.std.proofs.lemmas.Option.{slice_get-map}
use Rattle.gptp_lint.proofs.outline.first_part.Goals as goal

pub returns-in-Some : goal.returns-in-Some
returns-in-Some c =
    let key = c.args.key.now in
    let there : slice_get key.path.items 0 ≡ Some c.in-Some.part.now =
    rw c.deref.ensures.value at (sym c.in-Some.ensures.value) in
    c.as_str.ensures.value
    ∙ sym (ap (λ o. unwrap_or o (string_bytes key.last))
    (slice_get-map string_bytes key.path.items 0 ∙ ap (option_map string_bytes) there))

pub returns-in-None : goal.returns-in-None
returns-in-None c =
    let key = c.args.key.now in
    let none : slice_get key.path.items 0 ≡ None = rw c.deref.ensures.value at (sym c.in-None.ensures.value) in
    c.as_str-in-None.ensures.value
    ∙ sym (ap (λ o. unwrap_or o (string_bytes key.last))
    (slice_get-map string_bytes key.path.items 0 ∙ ap (option_map string_bytes) none))
