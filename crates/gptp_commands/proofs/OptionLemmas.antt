-- What the parser's getters read, and that a number is in its range.
use Rattle.std.proofs.Common.{◌≡◌, ◌≢◌, ◌∙◌, ◌^◌, ◌≤◌, ℕ, Bool, true, false, List, [], Option, Some, None, Result, Ok, Err, ap, ap₂, arith, bytes_eq, codes, nat_lt, refl, sym}
use Rattle.std.proofs.lemmas.Slice.Eq.{bytes_eq-Decides}
use Rattle.std.specs.Box.{box_value}
use Rattle.std.specs.Option.{option_map_or}
use Rattle.std.specs.Prelude.{Box, IfSome, option_and_then, option_map, unwrap_or}
use Rattle.std.specs.Str.Parse.{ParsesBool, ParsesUnsigned, digits_value, without_leading_plus}
use Rattle.clap.specs.Words.{ReadsOne, Row, Text, one_of, subcommand_name_of, subcommand_rows, subcommand_rows_of}
use Rattle.clap.specs.ValueTests.{is_numeral, is_unsigned_in}
use Rattle.clap.specs.declared.builder.value_parser.ValueParser.TheVariants.{Unsigned}
use Rattle.clap.specs.declared.parser.matches.ArgMatches.{ArgMatches}
use Rattle.clap.specs.declared.parser.matches.ArgMatches.TheViews.{out-ArgMatches, out-SubCommand}
use Rattle.clap.specs.declared.parser.matches.SubCommand.{SubCommand}
use Rattle.clap.proofs.ValueTestLemmas.{Accepts-accepts, accepts-Accepts}
use Rattle.clap.proofs.WalkLemmas.{both}
use Rattle.gptp_commands.specs.Options.{is_set, decimal_in_range, option_number, within}
use Rattle.gptp_commands.specs.declared.table.Form.TheVariants.{Number}

-- ---- numbers

-- a text that isn't read as one has none in a range
unread : {E : Type 0} (least most : ℕ) (text : Text) (e : E) (is : Bool) → is_unsigned_in least most text ≡ is
    → ParsesUnsigned 64 10 text (Err e) → None ≡ decimal_in_range (Number least most) text
unread least most text e true is fails =
    let accepted = accepts-Accepts false (Unsigned least most) text is in
    absurd (fails (accepted.0, accepted.1))
unread least most text e false is fails = rw is refl

-- what is read is the number of the text, where it is in its range
pub number_read : {E : Type 0} (reads : Text → Result ℕ E → Type 0) (least most : ℕ) (found : Option Text)
    (read : Option ℕ)
    → ((text : Text) (r : Result ℕ E) → reads text r → ParsesUnsigned 64 10 text r)
    → (found ≡ None → read ≡ None) → ((text : Text) → found ≡ Some text → ReadsOne reads text read)
    → option_and_then (within least most) read ≡ option_and_then (decimal_in_range (Number least most)) found
number_read reads least most None read parses none some = rw (none refl) refl
number_read reads least most (Some text) (Some number) parses none some =
    let parsed = parses text (Ok number) (some text refl) in
    let n = digits_value 10 (without_leading_plus text) in
    let all : is_unsigned_in 0 n text ≡ true =
    Accepts-accepts false (Unsigned 0 n) text (parsed.0.0, parsed.0.1, omega arith, omega arith) in
    let parts = both _ _ all in
    let numeral : is_numeral (without_leading_plus text) ≡ true = parts.0 in
    let below : nat_lt n (2 ^ 64) ≡ true = (both _ _ parts.1).0 in
    rw (parsed.1, numeral, below) refl
number_read reads least most (Some text) None parses none some =
    let fails = some text refl in
    unread least most text fails.0 (is_unsigned_in least most text) refl (parses text (Err fails.0) fails.1)

-- ---- flags

-- a text that isn't `true` sets none
unset : (text : Text) (is : Bool) → bytes_eq text (codes "true") ≡ is → text ≢ codes "true"
    → false ≡ bytes_eq text (codes "true")
unset text true is other = absurd (other ((bytes_eq-Decides text (codes "true")).0 is))
unset text false is other = sym is

-- what is read is whether the text sets it
pub flag_read : (E : Type 0) (found : Option Text) (read : Option Bool) → (found ≡ None → read ≡ None)
    → ((text : Text) → found ≡ Some text → ReadsOne {T = Bool} {E = E} ParsesBool text read)
    → unwrap_or read false ≡ is_set found
flag_read E None read none some = rw (none refl) refl
flag_read E (Some text) (Some true) none some =
    let is : text ≡ codes "true" = some text refl in
    rw is refl
flag_read E (Some text) (Some false) none some =
    let is : text ≡ codes "false" = some text refl in
    rw is refl
flag_read E (Some text) None none some =
    let fails : (e : E) × ((text ≢ codes "true") × (text ≢ codes "false")) = some text refl in
    unset text (bytes_eq text (codes "true")) refl fails.1.0

-- ---- the subcommand that was entered

by_parts : {Z : Type 0} (found : Option (Box SubCommand Z)) (own : Text) (rows : List Row)
    → Some own ≡ option_map (λ b. (out-SubCommand (box_value b)).name.now) found
    → Some rows ≡ option_map (λ p. p.1) (subcommand_rows found) → subcommand_rows found ≡ Some (own, rows)
by_parts None own rows named at =
    let count : ◌≡◌ {A = ℕ} 1 0 = ap (λ o. option_map_or (λ x. 1) o 0) named in
    absurd (omega arith)
by_parts (Some sub) own rows named at =
    ap₂ (λ (n : Text) (r : List Row). Some (n, r)) (ap (λ o. option_map_or (λ x. x) o []) (sym named))
    (ap (λ o. option_map_or (λ x. x) o []) (sym at))

-- by its name and what was found for it
pub entered_rows : (m : ArgMatches) (name own : Text) (rows : List Row) → own ≡ name
    → Some own ≡ subcommand_name_of m → Some rows ≡ option_map (λ p. p.1) (subcommand_rows_of m)
    → subcommand_rows_of m ≡ Some (name, rows)
entered_rows m name own rows same named at =
    by_parts (out-ArgMatches m).subcommand own rows named at ∙ ap (λ (n : Text). Some (n, rows)) same

-- ---- ranges

-- the number of a text is in its range, and so is one that is found
text_within : (least most : ℕ) (text : Text) (is : Bool) → is_unsigned_in least most text ≡ is
    → IfSome (decimal_in_range (Number least most) text) (λ n. (least ≤ n) × (n ≤ most))
text_within least most text true is =
    let accepted = accepts-Accepts false (Unsigned least most) text is in
    rw is (accepted.2, accepted.3)
text_within least most text false is = rw is tt

found_within : (least most : ℕ) (found : Option Text)
    → IfSome (option_and_then (decimal_in_range (Number least most)) found) (λ n. (least ≤ n) × (n ≤ most))
found_within least most None = tt
found_within least most (Some text) = text_within least most text (is_unsigned_in least most text) refl

-- a number of the table is in its range
pub number_within : (name : Text) (defaults : List Text) (least most : ℕ) (rows : List Row)
    → IfSome (option_number (name, Number least most, defaults) rows) (λ n. (least ≤ n) × (n ≤ most))
number_within name defaults least most rows = found_within least most (one_of name rows)

-- a number is within its range also where a default takes its place
pub default_within : (found : Option ℕ) (least most default : ℕ) → least ≤ default → default ≤ most
    → IfSome found (λ n. (least ≤ n) × (n ≤ most))
    → (least ≤ unwrap_or found default) × (unwrap_or found default ≤ most)
default_within None least most default low high within = (low, high)
default_within (Some n) least most default low high within = within
