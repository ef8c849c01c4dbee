-- One member more.
use Rattle.std.proofs.Common.{◌≡◌, ◌++◌, ◌+◌, ◌∷◌, ◌∙◌, [], Some, ap, arith, length, map, slice_get, sym, take}
use Rattle.std.proofs.lemmas.List.{length-map, length-take, map-append}
use Rattle.std.proofs.lemmas.Option.{slice_get-get_or}
use Rattle.gptp_lists.proofs.MappedLemmas.{taken}
use Rattle.gptp_outline.specs.Inline.{keys_view}
use Rattle.gptp_lint.specs.Outline.{entries_view, keys_at, numbered}
use Rattle.gptp_lint.specs.declared.place.Place.TheVariants.{Member}
use Rattle.gptp_lint.proofs.OutlineLemmas.{numbered_more, two_pieces}
use Rattle.gptp_lint.proofs.outline.push_members.Goals as goal

pub loop-keys-preserved : goal.loop-keys-preserved
loop-keys-preserved c =
    let section = c.args.section in
    let xs = c.args.members.now in
    let i = c.loop-keys.keys-index in
    let keys = c.keys-item.result in
    let below = c.loop-keys-test.true in
    let there : slice_get xs i ≡ Some keys = slice_get-get_or xs i keys below ∙ ap Some (sym c.keys-item.is) in
    let front = map keys_view (take i xs) in
    let count : 0 + length front ≡ c.loop-keys.number =
    omega (arith, length-map (take i xs) keys_view, length-take i xs, c.loop-keys.invariant.0) in
    let pushed = rw c.deref.ensures.value at c.in_ok-push_keys.ensures in (
      omega (arith, c.loop-keys.invariant.0),
      two_pieces (entries_view c.args.entries.now) (entries_view c.loop-keys.entries)
          (entries_view c.push_keys.new.entries) (numbered section 0 front)
          (keys_at (Member section c.loop-keys.number) (keys_view keys)) c.loop-keys.invariant.1 pushed
          ∙ ap (λ more. entries_view c.args.entries.now ++ more)
          (ap (λ m. numbered section 0 front ++ keys_at (Member section m) (keys_view keys)) (sym count)
          ∙ sym (numbered_more section 0 front (keys_view keys))
          ∙ ap (numbered section 0)
          (sym (ap (map keys_view) (taken xs i keys there) ∙ map-append keys_view (take i xs) (keys ∷ [])))),
    )
