-- What a row is, by how it begins.
use Rattle.std.proofs.Common.{◌≡◌, ℕ, Bool, true, false, ◌==◌, List, Some, None, drop, slice_index, refl, sym, ap, ◌∙◌}
use Rattle.std.proofs.lemmas.Option.{none-some, same_Some}
use Rattle.toml_parser.specs.Lexical.{Read, first, skip_ws}
use Rattle.toml_parser.specs.Strings.{Key, recursion_limit}
use Rattle.toml.specs.Data.{Data}
use Rattle.toml.specs.Parse.{ends_line, expression, header_key, key_equals, keyval, line, read_map, val}
use Rattle.toml.specs.Tables.{Expression, array_table, key_value, std_table}
use Rattle.toml.proofs.Turns.{keyval_no_value, keyval_ok}
use Rattle.gptp_outline.specs.Inline.{HasValue}
use Rattle.gptp_outline.specs.Rows.{kind_of, row_of}
use Rattle.gptp_outline.specs.declared.row.RowKind.TheVariants.{ArrayTable, Pair, Table}

-- a line is an expression that has it to itself
pub line_expression : (text : List ℕ) (e : Expression) (left : List ℕ) → line text ≡ Some (e, left)
    → expression text ≡ Some (e, left)
unfolding line
line_expression text e left is = by (expression text) refl
  where
    alone : (f : Expression × List ℕ) (ends : Bool) → ends_line (skip_ws f.1) ≡ ends
        → expression text ≡ Some f → expression text ≡ Some (e, left)
    alone f true ends read =
        let same : Some f ≡ Some (e, left) = rw (read, ends) at is in
        read ∙ same
    alone f false ends read =
        let none : ◌≡◌ {A = Read Expression} None (Some (e, left)) = rw (read, ends) at is in
        absurd (none-some _ none)

    by : (r : Read Expression) → expression text ≡ r → expression text ≡ Some (e, left)
    by None read =
        let none : ◌≡◌ {A = Read Expression} None (Some (e, left)) = rw read at is in
        absurd (none-some _ none)
    by (Some f) read = alone f (ends_line (skip_ws f.1)) refl read

-- a pair, where its key is known
pub expression_pair : (text at_value : List ℕ) (k : Key) (e : Expression) (left : List ℕ)
    → (first text == 91) ≡ false → key_equals text ≡ Some (k, at_value) → expression text ≡ Some (e, left)
    → (d : Data) × (val recursion_limit at_value ≡ Some (d, left)) × (e ≡ (k, key_value d))
unfolding expression
expression_pair text at_value k e left other is read = by (val recursion_limit at_value) refl
  where
    pair : expression text ≡ read_map (λ p. (p.0, key_value p.1)) (keyval (val recursion_limit) text)
    pair = rw other refl

    by : (v : Read Data) → val recursion_limit at_value ≡ v
        → (d : Data) × (val recursion_limit at_value ≡ Some (d, left)) × (e ≡ (k, key_value d))
    by None v =
        let none = keyval_no_value (val recursion_limit) text at_value k is v in
        absurd (none-some _ (sym (pair ∙ ap (read_map (λ p. (p.0, key_value p.1))) none) ∙ read))
    by (Some (d, rest)) v =
        let some = keyval_ok (val recursion_limit) text at_value rest k d is v in
        let same = same_Some _ _ (sym (pair ∙ ap (read_map (λ p. (p.0, key_value p.1))) some) ∙ read) in
        (d, v ∙ ap (λ (p : Expression × List ℕ). Some (d, p.1)) same, sym (ap (λ p. p.0) same))

-- rows that aren't
pub no_member : (s : List ℕ) → (first s == 91) ≡ true → (slice_index s 1 == 91) ≡ true → header_key (drop 2 s) ≡ None
    → expression s ≡ None
unfolding expression
no_member s a b none = rw (a, b, none) refl

pub open_member : (s : List ℕ) (k : Key) (rest : List ℕ) → (first s == 91) ≡ true → (slice_index s 1 == 91) ≡ true
    → header_key (drop 2 s) ≡ Some (k, rest) → (first rest == 93) ≡ false → expression s ≡ None
unfolding expression
open_member s k rest a b some unclosed = rw (a, b, some, unclosed) refl

pub no_table : (s : List ℕ) → (first s == 91) ≡ true → (slice_index s 1 == 91) ≡ false → header_key (drop 1 s) ≡ None
    → expression s ≡ None
unfolding expression
no_table s a b none = rw (a, b, none) refl

pub no_pair : (s : List ℕ) → (first s == 91) ≡ false → key_equals s ≡ None → expression s ≡ None
unfolding expression
no_pair s a none = rw (a, none) refl

-- ---- pairs have values

closed_member : (s : List ℕ) (k : Key) (rest : List ℕ) → (first s == 91) ≡ true → (slice_index s 1 == 91) ≡ true
    → header_key (drop 2 s) ≡ Some (k, rest) → (first rest == 93) ≡ true
    → expression s ≡ Some ((k, array_table), drop 1 rest)
unfolding expression
closed_member s k rest a b some closed = rw (a, b, some, closed) refl

closed_table : (s : List ℕ) (k : Key) (rest : List ℕ) → (first s == 91) ≡ true → (slice_index s 1 == 91) ≡ false
    → header_key (drop 1 s) ≡ Some (k, rest) → expression s ≡ Some ((k, std_table), rest)
unfolding expression
closed_table s k rest a b some = rw (a, b, some) refl

-- a header is no pair
no_header : (s : List ℕ) (e : Expression) (left : List ℕ) → (first s == 91) ≡ true → expression s ≡ Some (e, left)
    → kind_of e.1 ≡ Pair → ⊥
no_header s e left bracket is pair = by (slice_index s 1 == 91) refl
  where
    member : (k : Key) (rest : List ℕ) (closes : Bool) → (first rest == 93) ≡ closes → (slice_index s 1 == 91) ≡ true
        → header_key (drop 2 s) ≡ Some (k, rest) → ⊥
    member k rest true closed second read =
        let same = same_Some _ _ (sym (closed_member s k rest bracket second read closed) ∙ is) in
        let kind : ArrayTable ≡ Pair = ap (λ (p : Expression × List ℕ). kind_of p.0.1) same ∙ pair in
        absurd cc
    member k rest false unclosed second read =
        none-some _ (sym (open_member s k rest bracket second read unclosed) ∙ is)

    members : (r : Read Key) → header_key (drop 2 s) ≡ r → (slice_index s 1 == 91) ≡ true → ⊥
    members None read second = none-some _ (sym (no_member s bracket second read) ∙ is)
    members (Some (k, rest)) read second = member k rest (first rest == 93) refl second read

    tables : (r : Read Key) → header_key (drop 1 s) ≡ r → (slice_index s 1 == 91) ≡ false → ⊥
    tables None read second = none-some _ (sym (no_table s bracket second read) ∙ is)
    tables (Some (k, rest)) read second =
        let same = same_Some _ _ (sym (closed_table s k rest bracket second read) ∙ is) in
        let kind : Table ≡ Pair = ap (λ (p : Expression × List ℕ). kind_of p.0.1) same ∙ pair in
        absurd cc

    by : (two : Bool) → (slice_index s 1 == 91) ≡ two → ⊥
    by true second = members (header_key (drop 2 s)) refl second
    by false second = tables (header_key (drop 1 s)) refl second

pub has_value : (text s : List ℕ) (e : Expression) (left : List ℕ) → expression s ≡ Some (e, left)
    → HasValue (row_of text e s)
has_value text s e left is = by (first s == 91) refl
  where
    read : (r : Read Key) → key_equals s ≡ r → (first s == 91) ≡ false
        → (key : Key) × (at_value : List ℕ) × (d : Data) × (rest : List ℕ) × (key_equals s ≡ Some (key, at_value))
        × (val recursion_limit at_value ≡ Some (d, rest))
    read None none other = absurd (none-some _ (sym (no_pair s other none) ∙ is))
    read (Some (key, at_value)) some other =
        let (d, value, same) = expression_pair s at_value key e left other some is in
        (key, at_value, d, left, some, value)

    by : (bracket : Bool) → (first s == 91) ≡ bracket → HasValue (row_of text e s)
    by true bracket = λ pair. absurd (no_header s e left bracket is pair)
    by false other = λ pair. read (key_equals s) refl other
