-- The rows of a document in TOML, by the grammar that reads it: its lines that aren't blank.
use Rattle.std.specs.Prelude.{◌≡◌, ◌==◌, ℕ, zero, suc, Option, Some, None, List, [], ◌∷◌, Result, IfErr, IfOk, if◌then◌else◌, length, option_and_then, option_map, unwrap_or}
use Rattle.std.specs.Borrow.{Bor}
use Rattle.std.specs.Str.{is_utf8}
use Rattle.toml_parser.specs.Lexical.{Read, skip_blank}
use Rattle.toml_parser.specs.Reading.{key_view}
use Rattle.toml_parser.specs.Strings.{Key}
use Rattle.toml_parser.specs.declared.key.Key.{Key as CodeKey}
use Rattle.toml_parser.specs.declared.error.ParseError.{ParseError}
use Rattle.toml_parser.specs.declared.error.ParseError.TheVariants.{OutOfMemory}
use Rattle.toml.specs.Data.{Members}
use Rattle.toml.specs.Parse.{line, parse_document, skip_bom}
use Rattle.toml.specs.Tables.{Definition, Expression, array_table, key_value, std_table}
use Rattle.gptp_outline.specs.Lines.{line_number}
use Rattle.gptp_outline.specs.declared.row.Row.{Row}
use Rattle.gptp_outline.specs.declared.row.RowKind.{RowKind}
use Rattle.gptp_outline.specs.declared.row.RowKind.TheVariants.{ArrayTable, Pair, Table}

-- a row: its key, what it says of it, what is left of the text where it begins, and the number of its line
pub record RowState : Type 0 where
  pub key : Key
  pub kind : RowKind
  pub start : List ℕ
  pub line : ℕ

abbrev pub shown : Row → RowState
shown row = record { key = key_view row.key; kind = row.kind; start = row.start.now; line = row.line }

abbrev pub kind_of : Definition → RowKind
kind_of (key_value d) = Pair
kind_of std_table = Table
kind_of array_table = ArrayTable

-- that of a text at which this is left of it
abbrev pub row_of : List ℕ → Expression → List ℕ → RowState
row_of text e start = record { key = e.0; kind = kind_of e.1; start = start; line = line_number text start }

-- the rows of a text from where this is left of it, fewer than n, each where the blanks before it end
unfoldable pub rows_from : List ℕ → ℕ → List ℕ → Option (List RowState)
rows_from text zero rest = None
rows_from text (suc n) rest =
    let start = skip_blank rest in
    if length start == 0 then Some []
    else option_and_then (λ e. option_map (λ rows. row_of text e.0 start ∷ rows) (rows_from text n e.1)) (line start)

-- the table that a text is, where it is TOML
unfoldable pub table_of : List ℕ → Option Members
table_of text = if is_utf8 text then parse_document text else None

-- its rows, after its byte order mark; a text that is no TOML has none
unfoldable pub rows : List ℕ → List RowState
rows text =
    unwrap_or (option_and_then (λ t. rows_from text (suc (length text)) (skip_bom text)) (table_of text)) []

-- ---- what the code keeps

-- the text is a document in TOML
abbrev pub IsDocument : List ℕ → Type 0
IsDocument text = (t : Members) × (parse_document text ≡ Some t)

-- what is left after what is read, where it is read
abbrev pub Skips : {A : Type 0} → Result (Bor (List ℕ)) ParseError → Read A → Type 0
Skips {A} result expected =
    IfOk result (λ rest. (x : A) (left : List ℕ) → expected ≡ Some (x, left) → rest.now ≡ left)

-- an error says that memory ran out, or that nothing is read
abbrev pub Refuses : {A T : Type 0} → Result T ParseError → Read A → Type 0
Refuses {A} result expected =
    IfErr result (λ e. (e ≡ OutOfMemory → ⊥) → (x : A) (left : List ℕ) → expected ≡ Some (x, left) → ⊥)

-- a row's key and what it says of it, and what is left after it, where it is one
abbrev pub ReadsRow : Result ((CodeKey × RowKind) × Bor (List ℕ)) ParseError → Read Expression → Type 0
ReadsRow result expected =
    IfOk result (λ p. (e : Expression) (left : List ℕ) → expected ≡ Some (e, left)
    → (p.1.now ≡ left) × (key_view p.0.0 ≡ e.0) × (p.0.1 ≡ kind_of e.1))
