-- What the keys of a table hold: first MissingKey, then WrongKind, then OutOfRange (profile).
use Rattle.std.specs.Prelude.{ℕ, ℤ, pos, negsuc, Bool, ◌&&◌, if◌then◌else◌, int_le, List, length, Option, Some, None, Result, Ok, Err}
use Rattle.byteorder.specs.Endian.{big_number}
use Rattle.hex.specs.Hex.{decode_of, decode_sized}
use Rattle.hex.specs.declared.error.FromHexError.{FromHexError}
use Rattle.toml.specs.Data.{Data, Items, no_items, Members, no_members, get_member, as_integer, as_str, as_bool, as_array, as_table}
use Rattle.gptp_scenario.specs.Params.{is_between}
use Rattle.gptp_network.specs.Faults.{◌>>=◌}
use Rattle.gptp_network.specs.declared.fault.DocumentFault.{DocumentFault}
use Rattle.gptp_network.specs.declared.fault.DocumentFault.TheVariants.{MissingKey, WrongKind, OutOfRange}

-- what stands where a key is absent: its default, where it has one
abbrev pub absent : {X : Type 0} → Option X → Result X DocumentFault
absent None = Err MissingKey
absent (Some x) = Ok x

-- a value, where it is of the kind that is asked for
abbrev pub kind_of : {X : Type 0} → Option X → Result X DocumentFault
kind_of None = Err WrongKind
kind_of (Some x) = Ok x

-- a key of this kind, whose values mean this
abbrev pub key_in : {X Y : Type 0} → (Data → Option X) → (X → Result Y DocumentFault) → Option Y → Option Data
    → Result Y DocumentFault
key_in kind meaning default None = absent default
key_in kind meaning default (Some d) = do
  x ← kind_of (kind d)
  meaning x

abbrev pub natural_of : ℕ → ℕ → ℤ → Result ℕ DocumentFault
natural_of least greatest (pos n) = if is_between least greatest n then Ok n else Err OutOfRange
natural_of least greatest (negsuc n) = Err OutOfRange

abbrev pub whole_of : ℤ → ℤ → ℤ → Result ℤ DocumentFault
whole_of least greatest z = if int_le least z && int_le z greatest then Ok z else Err OutOfRange

-- sixteen hexadecimal digits, of either case
abbrev pub clock_of_octets : Result (List ℕ) FromHexError → Result ℕ DocumentFault
clock_of_octets (Ok octets) = Ok (big_number 8 octets)
clock_of_octets (Err e) = Err OutOfRange

abbrev pub clock_of_text : List ℕ → Result ℕ DocumentFault
clock_of_text text = clock_of_octets (decode_sized text 8)

-- two hexadecimal digits for each octet, of either case: for one octet at least, and for as many at most as a frame has
abbrev pub spelled_octets : Result (List ℕ) FromHexError → Result (List ℕ) DocumentFault
spelled_octets (Ok octets) = Ok octets
spelled_octets (Err e) = Err OutOfRange

abbrev pub octets_of_text : List ℕ → Result (List ℕ) DocumentFault
octets_of_text text = if is_between 1 4232 (length text) then spelled_octets (decode_of text) else Err OutOfRange

-- a whole number in a range of numbers from 0, and in one that goes below 0
unfoldable pub natural : List ℕ → ℕ → ℕ → Option ℕ → Members → Result ℕ DocumentFault
natural key least greatest default t = key_in as_integer (natural_of least greatest) default (get_member key t)

unfoldable pub whole : List ℕ → ℤ → ℤ → Option ℤ → Members → Result ℤ DocumentFault
whole key least greatest default t = key_in as_integer (whole_of least greatest) default (get_member key t)

-- true or false
unfoldable pub flag : List ℕ → Bool → Members → Result Bool DocumentFault
flag key default t = key_in as_bool (λ b. Ok b) (Some default) (get_member key t)

-- a text
unfoldable pub text : List ℕ → Members → Result (List ℕ) DocumentFault
text key t = key_in as_str (λ s. Ok s) None (get_member key t)

-- a clock
unfoldable pub clock : List ℕ → Members → Result ℕ DocumentFault
clock key t = key_in as_str clock_of_text None (get_member key t)

-- the octets of a frame
unfoldable pub octets : List ℕ → Members → Result (List ℕ) DocumentFault
octets key t = key_in as_str octets_of_text None (get_member key t)

-- a section that is a table, empty where it is absent, and one that is an array
unfoldable pub table_at : List ℕ → Members → Result Members DocumentFault
table_at key t = key_in as_table (λ ms. Ok ms) (Some no_members) (get_member key t)

unfoldable pub array_at : List ℕ → Members → Result Items DocumentFault
array_at key t = key_in as_array (λ ds. Ok ds) (Some no_items) (get_member key t)
