-- Keys that aren't read, and their lines, one after another.
use Rattle.std.proofs.Common.{◌≡◌, ◌++◌, ◌+◌, ◌∷◌, ◌||◌, ℕ, Bool, true, false, cond, List, [], Option, Some, if◌then◌else◌, map, slice_get, take, refl, sym, ap, ◌∙◌}
use Rattle.std.specs.Borrow.{Bor}
use Rattle.std.specs.List.{list_any}
use Rattle.std.proofs.lemmas.List.{map-append}
use Rattle.std.proofs.lemmas.List.Folds.{list_any-append}
use Rattle.std.proofs.lemmas.List.Sums.{fold_push}
use Rattle.toml.specs.Data.{Members}
use Rattle.gptp_outline.specs.Rows.{table_of}
use Rattle.gptp_lists.proofs.MappedLemmas.{taken}
use Rattle.gptp_words.specs.Lines.{text_of}
use Rattle.gptp_lint.specs.Keys.{is_known, keys_read}
use Rattle.gptp_lint.specs.Outline.{OutlineState, PlacedKey, entry_view, outline_of_text}
use Rattle.gptp_lint.specs.UnreadKeys.{AppendsUnread, first_unread, found_view, in_part, is_same, of_part, unread_keys, unread_line, unread_of, with_key}
use Rattle.gptp_lint.specs.declared.outline.Entry.{Entry}
use Rattle.gptp_lint.proofs.KeyLemmas.{passed_more}
use Rattle.gptp_lint.proofs.TextLemmas.{joined}

-- ---- which keys

pub known_stays : (t : Members) (found : List PlacedKey) (k : PlacedKey) → is_known (keys_read t k.0) k.1 ≡ true
    → found ≡ with_key t found k
unfolding with_key
known_stays t found k known = rw known refl

pub again_stays : (t : Members) (found : List PlacedKey) (k : PlacedKey) → is_known (keys_read t k.0) k.1 ≡ false
    → list_any (λ old. is_same old k) found ≡ true → found ≡ with_key t found k
unfolding with_key
again_stays t found k unknown there = rw (unknown, there) refl

pub new_goes : (t : Members) (found : List PlacedKey) (k : PlacedKey) → is_known (keys_read t k.0) k.1 ≡ false
    → list_any (λ old. is_same old k) found ≡ false → found ++ k ∷ [] ≡ with_key t found k
unfolding with_key
new_goes t found k unknown new = rw (unknown, new) refl

-- what one key more adds to a set
pub seen_more : (p : PlacedKey → Bool) (found : List PlacedKey) (k : PlacedKey) (before after : Bool)
    → before ≡ list_any p found → after ≡ cond (p k) true before → after ≡ list_any p (found ++ k ∷ [])
seen_more p found k before after was is =
    is ∙ ap (cond (p k) true) was ∙ either (p k) (list_any p found) ∙ sym (list_any-append p found (k ∷ []))
  where
    either : (passes there : Bool) → cond passes true there ≡ (there || (passes || false))
    either true true = refl
    either true false = refl
    either false true = refl
    either false false = refl

-- one entry more
pub entry_more : (t : Members) (xs : List Entry) (i : ℕ) (x : Entry) → slice_get xs i ≡ Some x
    → first_unread t (map entry_view (take (i + 1) xs))
    ≡ with_key t (first_unread t (map entry_view (take i xs))) (entry_view x)
entry_more t xs i x there =
    ap (λ ys. first_unread t (map entry_view ys)) (taken xs i x there)
    ∙ ap (first_unread t) (map-append entry_view (take i xs) (x ∷ []))
    ∙ fold_push (with_key t) [] (map entry_view (take i xs)) (entry_view x)

-- one key more of a part, or none
pub part_more : (part : ℕ) (xs : List (Bor Entry)) (i : ℕ) (x : Bor Entry) → slice_get xs i ≡ Some x
    → of_part part (found_view (take (i + 1) xs))
    ≡ of_part part (found_view (take i xs))
    ++ (if in_part part (entry_view x.now) then entry_view x.now ∷ [] else [])
part_more part xs i x there =
    passed_more (λ (e : Bor Entry). entry_view e.now) (in_part part) xs i x there

-- ---- their lines

-- lines of keys, and of more keys
pub more_unread : (t : Option Members) (o : OutlineState) (xs ys : List PlacedKey) (old mid new : List ℕ)
    → AppendsUnread t o xs old mid → AppendsUnread t o ys mid new → AppendsUnread t o (xs ++ ys) old new
more_unread t o xs ys old mid new first second =
    joined old mid new (map (unread_line t o) xs) (map (unread_line t o) ys) first second
    ∙ ap (λ lines. old ++ text_of lines) (sym (map-append (unread_line t o) xs ys))

-- the keys of a text that aren't read
pub unread_is : (input : List ℕ) → unread_of (table_of input) (outline_of_text input) ≡ unread_keys input
unfolding unread_keys
unread_is input = refl
