-- One entry more.
use Rattle.std.proofs.Common.{◌≡◌, ◌++◌, ◌∙◌, ◌∷◌, ℕ, List, [], Some, ap, filter, map, slice_get, sym, take}
use Rattle.std.proofs.lemmas.List.{map-append}
use Rattle.std.proofs.lemmas.Option.{slice_get-get_or}
use Rattle.gptp_network.specs.Keys.{name_text}
use Rattle.gptp_lint.specs.Outline.{PlacedKey, entry_view}
use Rattle.gptp_lint.specs.Refusal.{is_unread_at, unread_at}
use Rattle.gptp_lint.proofs.KeyLemmas.{passed_more}
use Rattle.gptp_lint.proofs.refusal.unread_at.Goals as goal

pub loop-entry-preserved : goal.loop-entry-preserved
loop-entry-preserved c =
    let read : List (List ℕ) = map name_text c.args.read.now in
    let place = c.args.place in
    let xs = c.args.entries.now in
    let i = c.loop-entry.entry-index in
    let entry = c.entry-item.result in
    let unread = is_unread_at read place in
    let key : PlacedKey → List ℕ = λ k. k.1 in
    let there : slice_get xs i ≡ Some entry =
    slice_get-get_or xs i entry c.loop-entry-test.true ∙ ap Some (sym c.entry-item.is) in
    c.in_ok-push_unread_at.ensures
    ∙ ap (λ keys. keys ++ unread_at read place (entry_view entry ∷ [])) c.loop-entry.invariant
    ∙ sym (map-append key (filter unread (map entry_view (take i xs))) (filter unread (entry_view entry ∷ [])))
    ∙ sym (ap (map key) (passed_more entry_view unread xs i entry there))
