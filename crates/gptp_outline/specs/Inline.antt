-- The keys of inline tables in a document, in the order of the text.
use Rattle.std.specs.Prelude.{◌≡◌, ◌==◌, ◌-◌, ℕ, zero, suc, Option, Some, None, List, [], ◌∷◌, Vec, if◌then◌else◌, drop, length, map, option_and_then, option_map, unwrap_or}
use Rattle.std.specs.declared.alloc.Global.{Global}
use Rattle.toml_parser.specs.Lexical.{first, left_brace, left_bracket, right_brace, right_bracket, skip_blank}
use Rattle.toml_parser.specs.Reading.{key_view}
use Rattle.toml_parser.specs.Strings.{Key, recursion_limit}
use Rattle.toml_parser.specs.declared.key.Key.{Key as CodeKey}
use Rattle.toml.specs.Data.{Data}
use Rattle.toml.specs.Parse.{after_element, key_equals, keyval, val}
use Rattle.gptp_outline.specs.Rows.{RowState}
use Rattle.gptp_outline.specs.declared.row.RowKind.TheVariants.{Pair}

-- the keys of an inline table after its bracket, fewer than n, whose values are at most so deep
unfoldable pub keys_from : ℕ → ℕ → List ℕ → Option (List Key)
keys_from depth zero text = None
keys_from depth (suc n) text =
    let start = skip_blank text in
    if first start == right_brace then Some []
    else option_and_then
    (λ pair. option_and_then (λ next. option_map (λ keys. pair.0.0 ∷ keys) (keys_from depth n next))
    (after_element right_brace pair.1))
    (keyval (val depth) start)

-- those of a value that is an inline table; any other has none
unfoldable pub value_keys : ℕ → List ℕ → List Key
value_keys depth text =
    if first text == left_brace then unwrap_or (keys_from (depth - 1) (length text) (drop 1 text)) [] else []

-- those of each item of an array after its bracket
unfoldable pub items_from : ℕ → ℕ → List ℕ → Option (List (List Key))
items_from depth zero text = None
items_from depth (suc n) text =
    let start = skip_blank text in
    if first start == right_bracket then Some []
    else option_and_then
    (λ read. option_and_then
    (λ next. option_map (λ items. value_keys depth start ∷ items) (items_from depth n next))
    (after_element right_bracket read.1))
    (val depth start)

-- those of each item of a value that is an array; any other has none
unfoldable pub item_keys : ℕ → List ℕ → List (List Key)
item_keys depth text =
    if first text == left_bracket then unwrap_or (items_from (depth - 1) (length text) (drop 1 text)) [] else []

-- what is left of the text at the value of a pair
abbrev pub value_text : RowState → List ℕ
value_text row = unwrap_or (option_map (λ k. k.1) (key_equals row.start)) []

-- the keys of the inline table that a row gives its key, and of the items of the array
abbrev pub table_keys : RowState → List Key
table_keys row = value_keys recursion_limit (value_text row)

abbrev pub array_keys : RowState → List (List Key)
array_keys row = item_keys recursion_limit (value_text row)

-- ---- what the code keeps

-- a pair has a key and a value
abbrev pub HasValue : RowState → Type 0
HasValue row =
    row.kind ≡ Pair → (key : Key) × (text : List ℕ) × (d : Data) × (left : List ℕ)
    × (key_equals row.start ≡ Some (key, text)) × (val recursion_limit text ≡ Some (d, left))

abbrev pub keys_view : Vec CodeKey Global → List Key
keys_view keys = map key_view keys.items
