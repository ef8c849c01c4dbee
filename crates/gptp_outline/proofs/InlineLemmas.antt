-- The keys of inline tables, an element at a time.
use Rattle.std.proofs.Common.{◌≡◌, ℕ, zero, suc, ◌-◌, ◌<◌, true, false, ◌==◌, ◌||◌, List, [], ◌∷◌, Some, arith, drop, length, option_map, unwrap_or, refl, ap, sym, ◌∙◌}
use Rattle.std.proofs.lemmas.Bool.Decides.{nat_tests}
use Rattle.std.proofs.lemmas.Option.{same_Some}
use Rattle.toml_parser.specs.Lexical.{Read, first, skip_blank}
use Rattle.toml_parser.specs.Strings.{Key, recursion_limit}
use Rattle.toml.specs.Data.{Data, Items, Members, array, no_items, table}
use Rattle.toml.specs.Parse.{after_element, items, key_equals, keyval, members, val}
use Rattle.toml.specs.Tables.{no_nodes}
use Rattle.toml.proofs.Turns.{val_deep, val_open_array, val_open_table}
use Rattle.gptp_outline.specs.Inline.{item_keys, items_from, keys_from, value_keys}
use Rattle.gptp_outline.proofs.ValueLemmas.{mapped, not_read}

-- ---- one table

pub keys_end : (depth m : ℕ) (text : List ℕ) → 0 < m → (first (skip_blank text) == 125) ≡ true
    → keys_from depth m text ≡ Some []
unfolding keys_from
keys_end depth zero text some closing = absurd (omega arith)
keys_end depth (suc m) text some closing = rw closing refl

pub keys_more : (depth m : ℕ) (text : List ℕ) (key : Key) (d : Data) (after next : List ℕ) → 0 < m
    → (first (skip_blank text) == 125) ≡ false → keyval (val depth) (skip_blank text) ≡ Some ((key, d), after)
    → after_element 125 after ≡ Some next
    → keys_from depth m text ≡ option_map (λ keys. key ∷ keys) (keys_from depth (m - 1) next)
unfolding keys_from
keys_more depth zero text key d after next some other read element = absurd (omega arith)
keys_more depth (suc m) text key d after next some other read element =
    let less : suc m - 1 ≡ m = omega arith in
    rw (other, read, element, less) refl

-- a bracket that is read opens a table
pub open_table : (depth : ℕ) (text : List ℕ) (d : Data) (left : List ℕ) → (first text == 123) ≡ true
    → val depth text ≡ Some (d, left)
    → (x : Members) × (members (val (depth - 1)) (length text) no_nodes (drop 1 text) ≡ Some (x, left))
open_table zero text d left brace is =
    let bracket : ((first text == 91) || (first text == 123)) ≡ true = grind (arith, nat_tests) in
    absurd (not_read _ (d, left) (val_deep text bracket) is)
open_table (suc depth) text d left brace is =
    let other : (first text == 91) ≡ false = grind (arith, nat_tests) in
    mapped table _ d left (sym (val_open_table (suc depth) text (omega arith) other brace) ∙ is)

pub keys_open : (depth : ℕ) (text : List ℕ) (keys : List Key) → (first text == 123) ≡ true
    → keys_from (depth - 1) (length text) (drop 1 text) ≡ Some keys → value_keys depth text ≡ keys
unfolding value_keys
keys_open depth text keys brace is = rw (brace, is) refl

pub keys_none : (depth : ℕ) (text : List ℕ) → (first text == 123) ≡ false → value_keys depth text ≡ []
unfolding value_keys
keys_none depth text other = rw other refl

-- ---- an array of tables

pub item_keys_end : (depth m : ℕ) (text : List ℕ) → 0 < m → (first (skip_blank text) == 93) ≡ true
    → items_from depth m text ≡ Some []
unfolding items_from
item_keys_end depth zero text some closing = absurd (omega arith)
item_keys_end depth (suc m) text some closing = rw closing refl

pub item_keys_more : (depth m : ℕ) (text : List ℕ) (d : Data) (after next : List ℕ) → 0 < m
    → (first (skip_blank text) == 93) ≡ false → val depth (skip_blank text) ≡ Some (d, after)
    → after_element 93 after ≡ Some next
    → items_from depth m text
    ≡ option_map (λ items. value_keys depth (skip_blank text) ∷ items) (items_from depth (m - 1) next)
unfolding items_from
item_keys_more depth zero text d after next some other read element = absurd (omega arith)
item_keys_more depth (suc m) text d after next some other read element =
    let less : suc m - 1 ≡ m = omega arith in
    rw (other, read, element, less) refl

pub open_array : (depth : ℕ) (text : List ℕ) (d : Data) (left : List ℕ) → (first text == 91) ≡ true
    → val depth text ≡ Some (d, left)
    → (x : Items) × (items (val (depth - 1)) (length text) no_items (drop 1 text) ≡ Some (x, left))
open_array zero text d left bracket is =
    let opens : ((first text == 91) || (first text == 123)) ≡ true = grind (arith, nat_tests) in
    absurd (not_read _ (d, left) (val_deep text opens) is)
open_array (suc depth) text d left bracket is =
    mapped array _ d left (sym (val_open_array (suc depth) text (omega arith) bracket) ∙ is)

pub item_keys_open : (depth : ℕ) (text : List ℕ) (keys : List (List Key)) → (first text == 91) ≡ true
    → items_from (depth - 1) (length text) (drop 1 text) ≡ Some keys → item_keys depth text ≡ keys
unfolding item_keys
item_keys_open depth text keys bracket is = rw (bracket, is) refl

pub item_keys_none : (depth : ℕ) (text : List ℕ) → (first text == 91) ≡ false → item_keys depth text ≡ []
unfolding item_keys
item_keys_none depth text other = rw other refl

-- ---- the value of a pair

-- the value that is read after a key is that of the row
pub value_there : (start at_value : List ℕ) (k key : Key) (text : List ℕ) (d : Data) (left : List ℕ)
    → key_equals start ≡ Some (k, at_value) → key_equals start ≡ Some (key, text)
    → val recursion_limit text ≡ Some (d, left)
    → (at_value ≡ unwrap_or (option_map (λ r. r.1) (key_equals start)) [])
    × (val recursion_limit at_value ≡ Some (d, left))
value_there start at_value k key text d left read equals value =
    let same : at_value ≡ text = ap (λ r. r.1) (same_Some _ _ (sym read ∙ equals)) in (
      sym (ap (λ (r : Read Key). unwrap_or (option_map (λ p. p.1) r) []) read),
      ap (val recursion_limit) same ∙ value,
    )
