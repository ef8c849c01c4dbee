-- What the keys of a table hold, or why they don't hold what they should (profile).
use Rattle.std.specs.Prelude.{ℕ, ℤ, pos, negsuc, Bool, ◌&&◌, if◌then◌else◌, int_le, List, length, Option, Some, None, Result, Ok, Err}
use Rattle.byteorder.specs.Endian.{big_number}
use Rattle.hex.specs.Hex.{decode_of, decode_sized}
use Rattle.hex.specs.declared.error.FromHexError.{FromHexError}
use Rattle.toml.specs.Data.{Data, Items, no_items, Members, no_members, get_member, as_integer, as_str, as_bool, as_array, as_table}
use Rattle.gptp_scenario.specs.Params.{is_between}
use Rattle.gptp_network.specs.Faults.{◌>>=◌}
use Rattle.gptp_network.specs.Keys.{name_text}
use Rattle.gptp_network.specs.Why.{front_of, shape_of}
use Rattle.gptp_network.specs.declared.keys.Name.{Name}
use Rattle.gptp_network.specs.declared.why.Why.{Why}
use Rattle.gptp_network.specs.declared.why.Why.TheVariants as whys

-- a number from 0, and one that may be below 0: the name of its key, its range, and its default
abbrev pub NaturalKey : Type 0
NaturalKey = Name × ℕ × ℕ × Option ℕ

abbrev pub WholeKey : Type 0
WholeKey = Name × ℤ × ℤ × ℤ

-- what stands where a key is absent: its default, where it has one
abbrev pub absent_at : {X : Type 0} → Name → Option X → Result X Why
absent_at key None = Err (whys.Missing key)
absent_at key (Some x) = Ok x

-- a value, where it is of the kind that is asked for
abbrev pub kind_at : {X : Type 0} → Name → Data → Option X → Result X Why
kind_at key d None = Err (whys.Kind key (shape_of d))
kind_at key d (Some x) = Ok x

-- a key of this kind, whose values mean this
abbrev pub value_in : {X Y : Type 0} → Name → (Data → Option X) → (X → Result Y Why) → Option Y → Option Data
    → Result Y Why
value_in key kind meaning default None = absent_at key default
value_in key kind meaning default (Some d) = do
  x ← kind_at key d (kind d)
  meaning x

abbrev pub natural_in : NaturalKey → ℤ → Result ℕ Why
natural_in key (pos n) =
    if is_between key.1 key.2 n then Ok n else Err (whys.Natural key.0 (pos n) key.1 key.2)
natural_in key (negsuc n) = Err (whys.Natural key.0 (negsuc n) key.1 key.2)

abbrev pub whole_in : WholeKey → ℤ → Result ℤ Why
whole_in key z = if int_le key.1 z && int_le z key.2 then Ok z else Err (whys.Whole key.0 z key.1 key.2)

-- sixteen hexadecimal digits, of either case
abbrev pub clock_of_digits : Name → List ℕ → Result (List ℕ) FromHexError → Result ℕ Why
clock_of_digits key text (Ok octets) = Ok (big_number 8 octets)
clock_of_digits key text (Err e) = Err (whys.Text key (front_of text))

abbrev pub clock_in : Name → List ℕ → Result ℕ Why
clock_in key text = clock_of_digits key text (decode_sized text 8)

-- two hexadecimal digits for each octet, of either case: for one octet at least, and for as many at most as a frame has
abbrev pub octets_of_digits : Name → List ℕ → Result (List ℕ) FromHexError → Result (List ℕ) Why
octets_of_digits key text (Ok octets) = Ok octets
octets_of_digits key text (Err e) = Err (whys.Text key (front_of text))

abbrev pub octets_in : Name → List ℕ → Result (List ℕ) Why
octets_in key text =
    if is_between 1 4232 (length text) then octets_of_digits key text (decode_of text)
    else Err (whys.Text key (front_of text))

-- a whole number in a range of numbers from 0, and in one that goes below 0
unfoldable pub natural_at : NaturalKey → Members → Result ℕ Why
natural_at key t = value_in key.0 as_integer (natural_in key) key.3 (get_member (name_text key.0) t)

unfoldable pub whole_at : WholeKey → Members → Result ℤ Why
whole_at key t = value_in key.0 as_integer (whole_in key) (Some key.3) (get_member (name_text key.0) t)

-- true or false
unfoldable pub flag_at : Name → Bool → Members → Result Bool Why
flag_at key default t = value_in key as_bool (λ b. Ok b) (Some default) (get_member (name_text key) t)

-- a text
unfoldable pub text_at : Name → Members → Result (List ℕ) Why
text_at key t = value_in key as_str (λ s. Ok s) None (get_member (name_text key) t)

-- a clock
unfoldable pub clock_at : Name → Members → Result ℕ Why
clock_at key t = value_in key as_str (clock_in key) None (get_member (name_text key) t)

-- the octets of a frame
unfoldable pub octets_at : Name → Members → Result (List ℕ) Why
octets_at key t = value_in key as_str (octets_in key) None (get_member (name_text key) t)

-- a section that is a table, empty where it is absent, and one that is an array
unfoldable pub table_in : Name → Members → Result Members Why
table_in key t = value_in key as_table (λ ms. Ok ms) (Some no_members) (get_member (name_text key) t)

unfoldable pub array_in : Name → Members → Result Items Why
array_in key t = value_in key as_array (λ ds. Ok ds) (Some no_items) (get_member (name_text key) t)
