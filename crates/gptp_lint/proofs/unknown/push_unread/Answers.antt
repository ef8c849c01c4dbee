-- A key that is read, one that is there already, and a new one.
use Rattle.std.proofs.Common.{◌≡◌, ◌++◌, ◌∷◌, [], ◌∙◌, true, false, cond, ap, ap₂, arith, refl, subst, sym}
use Rattle.std.specs.BTreeSet.{contains}
use Rattle.std.specs.Borrow.{Bor}
use Rattle.std.specs.List.{list_any}
use Rattle.std.specs.Ordering.{is_eq}
use Rattle.std.proofs.lemmas.Grind.{common_steps}
use Rattle.std.proofs.lemmas.List.{map-append}
use Rattle.toml.specs.View.{table_view}
use Rattle.gptp_lint.specs.Keys.{is_known}
use Rattle.gptp_lint.specs.Outline.{PlacedKey, entry_view}
use Rattle.gptp_lint.specs.UnreadKeys.{HaveSeen, SeenKey, as_numbers, compare_keys, found_view, is_same, seen_cmp}
use Rattle.gptp_lint.specs.declared.outline.Entry.{Entry}
use Rattle.gptp_lint.proofs.UnreadLemmas.{again_stays, known_stays, new_goes, seen_more}
use Rattle.gptp_lint.proofs.unknown.push_unread.Goals as goal

pub returns-then-is_known-clause-pushed : goal.returns-then-is_known-clause-pushed
returns-then-is_known-clause-pushed c =
    let known = sym (c.is_known.ensures ∙ ap₂ is_known c.keys_at.ensures c.deref.ensures.value)
    ∙ c.if-is_known.true in
    known_stays (table_view c.args.document.now) (found_view c.args.unread.now.items) (entry_view c.args.entry.now)
    known

pub returns-then-not-added-clause-pushed : goal.returns-then-not-added-clause-pushed
returns-then-not-added-clause-pushed c =
    let t = table_view c.args.document.now in
    let found = found_view c.args.unread.now.items in
    let k : PlacedKey = entry_view c.args.entry.now in
    let x : SeenKey = ((c.part_of.result, c.number_of.result), c.as_slice.result) in
    let x_is : (x.0, x.1.now) ≡ as_numbers k =
    rw (c.part_of.ensures, c.number_of.ensures, c.as_slice.ensures.value) refl in
    let member : contains seen_cmp c.args.seen.now x ≡ list_any (λ old. is_same old k) found =
    c.requires.seen x ∙ ap (λ q. list_any (λ old. is_eq (compare_keys (as_numbers old) q)) found) x_is in
    let unknown = sym (c.is_known.ensures ∙ ap₂ is_known c.keys_at.ensures c.deref.ensures.value)
    ∙ c.if-is_known.false in
    let there : contains seen_cmp c.args.seen.now x ≡ true = grind (arith, common_steps, c.in_ok-added.ensures.added) in
    again_stays t found k unknown (sym member ∙ there)

pub returns-clause-pushed : goal.returns-clause-pushed
returns-clause-pushed c =
    let t = table_view c.args.document.now in
    let found = found_view c.args.unread.now.items in
    let k : PlacedKey = entry_view c.args.entry.now in
    let x : SeenKey = ((c.part_of.result, c.number_of.result), c.as_slice.result) in
    let x_is : (x.0, x.1.now) ≡ as_numbers k =
    rw (c.part_of.ensures, c.number_of.ensures, c.as_slice.ensures.value) refl in
    let member : contains seen_cmp c.args.seen.now x ≡ list_any (λ old. is_same old k) found =
    c.requires.seen x ∙ ap (λ q. list_any (λ old. is_eq (compare_keys (as_numbers old) q)) found) x_is in
    let unknown = sym (c.is_known.ensures ∙ ap₂ is_known c.keys_at.ensures c.deref.ensures.value)
    ∙ c.if-is_known.false in
    let absent : contains seen_cmp c.args.seen.now x ≡ false =
    grind (arith, common_steps, c.in_ok-added.ensures.added) in
    ap found_view c.in_ok-push.ensures.items
    ∙ map-append (λ (e : Bor Entry). entry_view e.now) c.args.unread.now.items (c.args.entry ∷ [])
    ∙ new_goes t found k unknown (sym member ∙ absent)

pub returns-clause-seen : goal.returns-clause-seen
returns-clause-seen c =
    let found = found_view c.args.unread.now.items in
    let k : PlacedKey = entry_view c.args.entry.now in
    let x : SeenKey = ((c.part_of.result, c.number_of.result), c.as_slice.result) in
    let x_is : (x.0, x.1.now) ≡ as_numbers k =
    rw (c.part_of.ensures, c.number_of.ensures, c.as_slice.ensures.value) refl in
    let pushed : found_view c.push.new.self.items ≡ found ++ k ∷ [] = ap found_view c.in_ok-push.ensures.items
    ∙ map-append (λ (e : Bor Entry). entry_view e.now) c.args.unread.now.items (c.args.entry ∷ []) in
    subst (HaveSeen c.insert.new.self) (sym pushed)
    (λ q.
    seen_more (λ old. is_eq (compare_keys (as_numbers old) (q.0, q.1.now))) found k
    (contains seen_cmp c.args.seen.now q) (contains seen_cmp c.insert.new.self q) (c.requires.seen q)
    (c.in_ok-added.ensures.updates.0 q
    ∙ ap (λ y. cond (is_eq (compare_keys y (q.0, q.1.now))) true (contains seen_cmp c.args.seen.now q)) x_is))
