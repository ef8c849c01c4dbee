-- What was found for an argument, by its row.
use Rattle.std.specs.Prelude.{◌&&◌, ℕ, Bool, false, List, [], Option, Some, None, codes, bytes_eq, if◌then◌else◌, nat_le, option_and_then, unwrap_or}
use Rattle.std.specs.Str.Parse.{digits_value, without_leading_plus}
use Rattle.clap.specs.Words.{Row, Text, first_of, one_of}
use Rattle.clap.specs.ValueTests.{is_unsigned_in}
use Rattle.gptp_commands.specs.declared.table.Form.{Form}
use Rattle.gptp_commands.specs.declared.table.Form.TheVariants as form
use Rattle.gptp_commands.specs.Table.{Argument}

-- a number, where it is in its range
abbrev pub within : ℕ → ℕ → ℕ → Option ℕ
within least most number = if nat_le least number && nat_le number most then Some number else None

-- the number that a text is in decimal digits, where it is in its range; a plus may stand first
abbrev pub decimal_in_range : Form → Text → Option ℕ
decimal_in_range (form.Number least most) text =
    if is_unsigned_in least most text then Some (digits_value 10 (without_leading_plus text)) else None
decimal_in_range _ text = None

abbrev pub option_number : Argument → List Row → Option ℕ
option_number argument rows = option_and_then (decimal_in_range argument.1) (one_of argument.0 rows)

-- whether a flag is given
abbrev pub is_set : Option Text → Bool
is_set None = false
is_set (Some text) = bytes_eq text (codes "true")

abbrev pub flag_of : Argument → List Row → Bool
flag_of argument rows = is_set (one_of argument.0 rows)

-- a word
abbrev pub word_of : Argument → List Row → Option Text
word_of argument rows = first_of argument.0 rows

-- one that has to be given
abbrev pub place_value : Argument → List Row → Text
place_value argument rows = unwrap_or (word_of argument rows) []
