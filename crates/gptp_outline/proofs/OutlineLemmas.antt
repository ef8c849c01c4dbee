-- The rows of a document, a row at a time.
use Rattle.std.proofs.Common.{◌≡◌, ℕ, zero, suc, ◌-◌, ◌<◌, Bool, true, false, ◌==◌, List, [], ◌∷◌, ◌++◌, Option, Some, None, Result, Ok, Err, IfErr, append_assoc, arith, if◌then◌else◌, IsUtf8, length, option_and_then, option_map, unwrap_or, refl, subst, sym, ap, ◌∙◌}
use Rattle.std.proofs.lemmas.Bool.Decides.{nat_tests}
use Rattle.std.proofs.lemmas.Option.{none-some, same_Some}
use Rattle.std.proofs.lemmas.Str.{IsUtf8-from_is_utf8, is_utf8-from_IsUtf8}
use Rattle.std.specs.List.{AllByRecursion}
use Rattle.std.specs.Result.{IsErrAnd}
use Rattle.std.specs.Str.{is_utf8}
use Rattle.toml_parser.specs.Lexical.{Read, skip_blank}
use Rattle.toml_parser.specs.declared.error.ParseError.{ParseError}
use Rattle.toml_parser.specs.declared.error.ParseError.TheVariants.{OutOfMemory}
use Rattle.toml.specs.Data.{Members}
use Rattle.toml.specs.Parse.{line, lines, parse_document, skip_bom}
use Rattle.toml.specs.Tables.{Document, Expression, define, no_nodes}
use Rattle.toml.proofs.Turns.{lines_bad, lines_more, lines_refused}
use Rattle.gptp_outline.specs.Inline.{HasValue}
use Rattle.gptp_outline.specs.Rows.{RowState, row_of, rows, rows_from, table_of}
use Rattle.gptp_outline.proofs.RowLemmas.{has_value, line_expression}

pub lines_step : (m : ℕ) (doc : Document) (text : List ℕ) (all : Document) → 0 < m
    → (length (skip_blank text) == 0) ≡ false → lines m doc text ≡ Some all
    → (e : Expression) × (after : List ℕ) × (next : Document) × (line (skip_blank text) ≡ Some (e, after))
    × (lines (m - 1) next after ≡ Some all)
lines_step m doc text all some other read = by (line (skip_blank text)) refl
  where
    defines : (e : Expression) (after : List ℕ) → line (skip_blank text) ≡ Some (e, after) → (o : Option Document)
        → define doc e ≡ o
        → (e : Expression) × (after : List ℕ) × (next : Document) × (line (skip_blank text) ≡ Some (e, after))
        × (lines (m - 1) next after ≡ Some all)
    defines e after l None d = absurd (none-some _ (sym (lines_refused m doc text e after some other l d) ∙ read))
    defines e after l (Some next) d =
        (e, after, next, l, sym (lines_more m doc next text e after some other l d) ∙ read)

    by : (r : Read Expression) → line (skip_blank text) ≡ r
        → (e : Expression) × (after : List ℕ) × (next : Document) × (line (skip_blank text) ≡ Some (e, after))
        × (lines (m - 1) next after ≡ Some all)
    by None l = absurd (none-some _ (sym (lines_bad m doc text some other l) ∙ read))
    by (Some (e, after)) l = defines e after l (define doc e) refl

pub rows_end : (whole : List ℕ) (m : ℕ) (text : List ℕ) → 0 < m → length (skip_blank text) ≡ 0
    → rows_from whole m text ≡ Some []
unfolding rows_from
rows_end whole zero text some none = absurd (omega arith)
rows_end whole (suc m) text some none = rw none refl

rows_turn : (whole : List ℕ) (m : ℕ) (text : List ℕ) (e : Expression) (after : List ℕ)
    → (length (skip_blank text) == 0) ≡ false → line (skip_blank text) ≡ Some (e, after)
    → rows_from whole (suc m) text
    ≡ option_map (λ rows. row_of whole e (skip_blank text) ∷ rows) (rows_from whole m after)
unfolding rows_from
rows_turn whole m text e after other read = rw (other, read) refl

pub rows_more : (whole : List ℕ) (m : ℕ) (text : List ℕ) (e : Expression) (after : List ℕ) → 0 < m
    → (length (skip_blank text) == 0) ≡ false → line (skip_blank text) ≡ Some (e, after)
    → rows_from whole m text
    ≡ option_map (λ rows. row_of whole e (skip_blank text) ∷ rows) (rows_from whole (m - 1) after)
rows_more whole zero text e after some other read = absurd (omega arith)
rows_more whole (suc m) text e after some other read =
    let less : suc m - 1 ≡ m = omega arith in
    rw less (rows_turn whole m text e after other read)

rows_bad : (whole : List ℕ) (m : ℕ) (text : List ℕ) → (length (skip_blank text) == 0) ≡ false
    → line (skip_blank text) ≡ None → rows_from whole (suc m) text ≡ None
unfolding rows_from
rows_bad whole m text other none = rw (other, none) refl

-- the rows so far, and those to come
pub joined : {X : Type 0} (xs : List X) (y : X) (o : Option (List X))
    → option_map (λ more. xs ++ more) (option_map (λ more. y ∷ more) o) ≡ option_map (λ more. (xs ++ y ∷ []) ++ more) o
joined xs y None = refl
joined xs y (Some more) = ap Some (sym (append_assoc xs (y ∷ []) more))

-- the lines of a document are read
pub document_lines : (text : List ℕ) (t : Members) → parse_document text ≡ Some t
    → (all : Document) × (lines (suc (length text)) (no_nodes, []) (skip_bom text) ≡ Some all)
unfolding parse_document
document_lines text t is = by (lines (suc (length text)) (no_nodes, []) (skip_bom text)) refl
  where
    by : (r : Option Document) → lines (suc (length text)) (no_nodes, []) (skip_bom text) ≡ r
        → (all : Document) × (lines (suc (length text)) (no_nodes, []) (skip_bom text) ≡ Some all)
    by None r =
        let none : ◌≡◌ {A = Option Members} None (Some t) = rw r at is in
        absurd (none-some _ none)
    by (Some all) r = (all, r)

pub nothing_before : {X : Type 0} (o : Option (List X)) → o ≡ option_map (λ more. [] ++ more) o
nothing_before None = refl
nothing_before (Some more) = refl

-- the table of a text in UTF-8
pub table_is : (text : List ℕ) (t : Members) → IsUtf8 text → parse_document text ≡ Some t → table_of text ≡ Some t
unfolding table_of
table_is text t utf8 is = rw (is_utf8-from_IsUtf8 text utf8, is) refl

pub is_table : (text : List ℕ) (t : Members) → table_of text ≡ Some t → parse_document text ≡ Some t
unfolding table_of
is_table text t is = by (is_utf8 text) is
  where
    by : (utf8 : Bool) → (if utf8 then parse_document text else None) ≡ Some t → parse_document text ≡ Some t
    by true read = read
    by false read = absurd (none-some _ read)

-- a text that is no TOML has no table, and no rows
pub no_table : (text : List ℕ) → (IsUtf8 text → parse_document text ≡ None) → table_of text ≡ None
unfolding table_of
no_table text none = by (is_utf8 text) refl
  where
    by : (utf8 : Bool) → is_utf8 text ≡ utf8
        → ◌≡◌ {A = Option Members} (if utf8 then parse_document text else None) None
    by true is = none (IsUtf8-from_is_utf8 text is)
    by false is = refl

pub no_rows : (text : List ℕ) → table_of text ≡ None → rows text ≡ []
unfolding rows
no_rows text none = rw none refl

-- the rows of a document are those that were found
pub rows_are : (text : List ℕ) (t : Members) (found : List RowState) → table_of text ≡ Some t
    → rows_from text (suc (length text)) (skip_bom text) ≡ Some found → rows text ≡ found
unfolding rows
rows_are text t found is read = rw (is, read) refl

-- ---- errors

-- an error that a `?` passes on says that memory ran out, or that something doesn't hold
pub refuses_all : {T : Type 0} (X : Type 0) (r : Result T ParseError) (e : ParseError) (Q : ParseError → Type 0)
    → IsErrAnd r Q → ((y : ParseError) → Q y → y ≡ e) → ((e ≡ OutOfMemory → ⊥) → X → ⊥)
    → IfErr r (λ y. (y ≡ OutOfMemory → ⊥) → X → ⊥)
refuses_all X (Ok a) e Q h same refused = absurd h
refuses_all X (Err y) e Q h same refused = λ other. refused (λ m. other (same y h ∙ m))

-- ---- pairs have values

values_step : (whole : List ℕ) (n : ℕ) (text : List ℕ) (found : List RowState)
    → ((after : List ℕ) (rest : List RowState) → rows_from whole n after ≡ Some rest → AllByRecursion HasValue rest)
    → rows_from whole (suc n) text ≡ Some found → AllByRecursion HasValue found
values_step whole n text found less is = by (length (skip_blank text) == 0) refl
  where
    more : (e : Expression) (after : List ℕ) → (length (skip_blank text) == 0) ≡ false
        → line (skip_blank text) ≡ Some (e, after) → (o : Option (List RowState)) → rows_from whole n after ≡ o
        → AllByRecursion HasValue found
    more e after other read None none =
        let turn = rows_turn whole n text e after other read
        ∙ ap (option_map (λ (rows : List RowState). row_of whole e (skip_blank text) ∷ rows)) none in
        absurd (none-some _ (sym turn ∙ is))
    more e after other read (Some rest) some =
        let turn = rows_turn whole n text e after other read
        ∙ ap (option_map (λ (rows : List RowState). row_of whole e (skip_blank text) ∷ rows)) some in
        subst (AllByRecursion HasValue) (same_Some _ _ (sym turn ∙ is)) (
          has_value whole (skip_blank text) e after (line_expression (skip_blank text) e after read),
          less after rest some,
        )

    rows_of_line : (r : Read Expression) → line (skip_blank text) ≡ r → (length (skip_blank text) == 0) ≡ false
        → AllByRecursion HasValue found
    rows_of_line None none other = absurd (none-some _ (sym (rows_bad whole n text other none) ∙ is))
    rows_of_line (Some (e, after)) read other = more e after other read (rows_from whole n after) refl

    by : (over : Bool) → (length (skip_blank text) == 0) ≡ over → AllByRecursion HasValue found
    by true over =
        let none : length (skip_blank text) ≡ 0 = grind (arith, nat_tests) in
        subst (AllByRecursion HasValue) (same_Some _ _ (sym (rows_end whole (suc n) text (omega arith) none) ∙ is)) tt
    by false other = rows_of_line (line (skip_blank text)) refl other

rows_values : (whole : List ℕ) (n : ℕ) (text : List ℕ) (found : List RowState) → rows_from whole n text ≡ Some found
    → AllByRecursion HasValue found
unfolding rows_from
rows_values whole zero text found is = absurd (none-some _ is)
rows_values whole (suc n) text found is =
    values_step whole n text found (λ after rest some. rows_values whole n after rest some) is

pub each_has_value : (text : List ℕ) → AllByRecursion HasValue (rows text)
unfolding rows
each_has_value text =
    by (table_of text) (rows_from text (suc (length text)) (skip_bom text))
    (λ found is. rows_values text (suc (length text)) (skip_bom text) found is)
  where
    by : (o : Option Members) (r : Option (List RowState))
        → ((found : List RowState) → r ≡ Some found → AllByRecursion HasValue found)
        → AllByRecursion HasValue (unwrap_or (option_and_then (λ t. r) o) [])
    by None r each = tt
    by (Some t) None each = tt
    by (Some t) (Some found) each = each found refl
