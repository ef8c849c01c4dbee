-- Which keys stand where in a document, in the order of its text, and at which lines members begin (profile).
use Rattle.std.specs.Prelude.{◌==◌, ◌-◌, ◌++◌, ℕ, suc, Bool, List, [], ◌∷◌, Option, Some, None, Vec, bytes_eq, codes, if◌then◌else◌, length, map, option_and_then, option_to_list, slice_get, unwrap_or}
use Rattle.std.specs.List.{fold}
use Rattle.std.specs.declared.alloc.Global.{Global}
use Rattle.toml_parser.specs.Strings.{Key}
use Rattle.gptp_outline.specs.Inline.{array_keys, table_keys}
use Rattle.gptp_outline.specs.Rows.{RowState, rows}
use Rattle.gptp_outline.specs.declared.row.RowKind.{RowKind}
use Rattle.gptp_outline.specs.declared.row.RowKind.TheVariants.{ArrayTable, Pair, Table}
use Rattle.gptp_lint.specs.declared.outline.Entry.{Entry}
use Rattle.gptp_lint.specs.declared.outline.Outline.{Outline}
use Rattle.gptp_lint.specs.declared.place.Place.{Place}
use Rattle.gptp_lint.specs.declared.place.Place.TheVariants.{Member, Network, Top}
use Rattle.gptp_lint.specs.declared.place.Section.{Section}
use Rattle.gptp_lint.specs.declared.place.Section.TheVariants.{Event, Link, System}

-- a key at a place
abbrev pub PlacedKey : Type 0
PlacedKey = Place × List ℕ

-- What is known of a text after some of its rows: where the keys of pairs stand, if they count; the keys so far, in the
-- order of the text; and the lines of the headers of systems, links and events.
pub record OutlineState : Type 0 where
  pub context : Option Place
  pub entries : List PlacedKey
  pub systems : List ℕ
  pub links : List ℕ
  pub events : List ℕ

abbrev pub before_rows : OutlineState
before_rows = record { context = Some Top; entries = []; systems = []; links = []; events = [] }

abbrev pub lines_of : Section → OutlineState → List ℕ
lines_of System o = o.systems
lines_of Link o = o.links
lines_of Event o = o.events

-- ---- keys and their parts

-- a dotted key is known by its first part; a second says which key the table there has
abbrev pub first_part : Key → List ℕ
first_part key = unwrap_or (slice_get key.0 0) key.1

abbrev pub second_part : Key → Option (List ℕ)
second_part key = if length key.0 == 0 then None else Some (unwrap_or (slice_get key.0 1) key.1)

abbrev pub is_network : List ℕ → Bool
is_network name = bytes_eq name (codes "network")

abbrev pub section_of : List ℕ → Option Section
section_of name =
    if bytes_eq name (codes "system") then Some System
    else if bytes_eq name (codes "link") then Some Link
    else if bytes_eq name (codes "event") then Some Event
    else None

-- the section that a key of one part names
abbrev pub section_without : Option (List ℕ) → List ℕ → Option Section
section_without (Some part) name = None
section_without None name = section_of name

abbrev pub array_section : Key → Option Section
array_section key = section_without (second_part key) (first_part key)

-- keys at a place, where it counts, and keys by their first parts
abbrev pub at_place : Option Place → List (List ℕ) → List PlacedKey
at_place None keys = []
at_place (Some place) keys = map (λ key. (place, key)) keys

abbrev pub keys_at : Place → List Key → List PlacedKey
keys_at place keys = map (λ key. (place, first_part key)) keys

-- ---- a pair

-- the keys of `network.key = ..`, and of `network = {..}`
abbrev pub network_entries : Option (List ℕ) → RowState → List PlacedKey
network_entries (Some part) row = (Network, part) ∷ []
network_entries None row = keys_at Network (table_keys row)

-- the keys of the members of an array, from this number on
abbrev pub numbered : Section → ℕ → List (List Key) → List PlacedKey
numbered section n [] = []
numbered section n (keys ∷ more) = keys_at (Member section n) keys ++ numbered section (suc n) more

abbrev pub section_entries : Option Section → RowState → List PlacedKey
section_entries (Some section) row = numbered section 0 (array_keys row)
section_entries None row = []

-- the keys in the value of a pair at the top
abbrev pub value_entries : RowState → List PlacedKey
value_entries row =
    if is_network (first_part row.key) then network_entries (second_part row.key) row
    else section_entries (array_section row.key) row

abbrev pub inner_entries : Place → RowState → List PlacedKey
inner_entries Top row = value_entries row
inner_entries Network row = []
inner_entries (Member section number) row = []

-- a pair has its key where the last header says, and at the top what its value has
abbrev pub placed_entries : Place → RowState → List PlacedKey
placed_entries place row = ((place, first_part row.key) ∷ []) ++ inner_entries place row

abbrev pub pair_entries : Option Place → RowState → List PlacedKey
pair_entries None row = []
pair_entries (Some place) row = placed_entries place row

abbrev pub after_pair : OutlineState → RowState → OutlineState
after_pair o row = record o { entries = o.entries ++ pair_entries o.context row }

-- ---- a header

-- the member whose header came last
abbrev pub last_member : Section → OutlineState → Option Place
last_member section o =
    if length (lines_of section o) == 0 then None else Some (Member section (length (lines_of section o) - 1))

-- where the second part of a header stands
abbrev pub place_inside : List ℕ → OutlineState → Option Place
place_inside name o =
    if is_network name then Some Network
    else option_and_then (λ section. last_member section o) (section_of name)

abbrev pub header_entries : Option Place → Key → List PlacedKey
header_entries place key = ((Top, first_part key) ∷ []) ++ at_place place (option_to_list (second_part key))

abbrev pub with_header : OutlineState → Key → Option Place → OutlineState
with_header o key context =
    record o { context = context; entries = o.entries ++ header_entries (place_inside (first_part key) o) key }

-- after `[network]` come its keys; those of any other table count nowhere
abbrev pub network_context : List ℕ → Option Place
network_context name = if is_network name then Some Network else None

abbrev pub context_without : Option (List ℕ) → List ℕ → Option Place
context_without (Some part) name = None
context_without None name = network_context name

abbrev pub table_context : Key → Option Place
table_context key = context_without (second_part key) (first_part key)

abbrev pub after_table : OutlineState → RowState → OutlineState
after_table o row = with_header o row.key (table_context row.key)

-- `[[system]]` begins a member in its line
abbrev pub opened : Section → ℕ → OutlineState → OutlineState
opened System line o = record o {
  context = Some (Member System (length o.systems));
  systems = o.systems ++ line ∷ [];
}
opened Link line o = record o { context = Some (Member Link (length o.links)); links = o.links ++ line ∷ [] }
opened Event line o = record o { context = Some (Member Event (length o.events)); events = o.events ++ line ∷ [] }

abbrev pub opened_if : Option Section → ℕ → OutlineState → OutlineState
opened_if (Some section) line o = opened section line o
opened_if None line o = o

abbrev pub after_array : OutlineState → RowState → OutlineState
after_array o row = opened_if (array_section row.key) row.line (with_header o row.key None)

-- ---- a document

abbrev pub after_kind : RowKind → OutlineState → RowState → OutlineState
after_kind Pair o row = after_pair o row
after_kind Table o row = after_table o row
after_kind ArrayTable o row = after_array o row

abbrev pub after : OutlineState → RowState → OutlineState
after o row = after_kind row.kind o row

-- after all rows of a document
unfoldable pub outline_of_text : List ℕ → OutlineState
outline_of_text input = fold after before_rows (rows input)

-- the line of the header of a place, where it has one
abbrev pub line_in : OutlineState → Place → Option ℕ
line_in o Top = None
line_in o Network = None
line_in o (Member section number) = slice_get (lines_of section o) number

abbrev pub header_line : List ℕ → Place → Option ℕ
header_line input place = line_in (outline_of_text input) place

-- ---- what the code keeps

abbrev pub entry_view : Entry → PlacedKey
entry_view e = (e.place, e.key.items)

abbrev pub entries_view : Vec Entry Global → List PlacedKey
entries_view entries = map entry_view entries.items

abbrev pub outline_state : Outline → OutlineState
outline_state o = record {
  context = o.context;
  entries = entries_view o.entries;
  systems = o.systems.items;
  links = o.links.items;
  events = o.events.items;
}
