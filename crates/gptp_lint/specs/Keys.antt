-- Which keys are read where (profile).
use Rattle.std.specs.Prelude.{◌||◌, ℕ, ℤ, pos, negsuc, ◌==◌, Bool, false, List, [], Option, Some, None, bytes_eq, codes, filter, if◌then◌else◌, is_none, map}
use Rattle.std.specs.List.{list_any}
use Rattle.toml.specs.Data.{Data, Items, Members, as_array, as_integer, as_str, as_table, get_item, get_member, no_items}
use Rattle.gptp_network.specs.Keys.{name_text}
use Rattle.gptp_network.specs.declared.keys.Name.{Name}
use Rattle.gptp_network.specs.declared.keys.TheConstants.{EVENT_KEYS, INJECT_KEYS, LINK_EVENT_KEYS, LINK_KEYS, LINK_SET_KEYS, NETWORK_KEYS, PRIORITY1_KEYS, SYSTEM_EVENT_KEYS, SYSTEM_KEYS_1, SYSTEM_KEYS_2, TOP_KEYS}
use Rattle.gptp_lint.specs.Unread.{section_name}
use Rattle.gptp_lint.specs.declared.place.Place.{Place}
use Rattle.gptp_lint.specs.declared.place.Place.TheVariants.{Member, Network, Top}
use Rattle.gptp_lint.specs.declared.place.Section.{Section}
use Rattle.gptp_lint.specs.declared.place.Section.TheVariants.{Event, Link, System}

-- a document is of version 2
abbrev pub is_two : ℤ → Bool
is_two (pos n) = n == 2
is_two (negsuc n) = false

abbrev pub holds_two : Option ℤ → Bool
holds_two (Some z) = is_two z
holds_two None = false

abbrev pub integer_in : Option Data → Option ℤ
integer_in (Some d) = as_integer d
integer_in None = None

abbrev pub is_version_2 : Members → Bool
is_version_2 t = holds_two (integer_in (get_member (codes "version") t))

-- in a system, by the version of its document
abbrev pub system_keys : Members → List Name
system_keys t = if is_version_2 t then SYSTEM_KEYS_2.now else SYSTEM_KEYS_1.now

-- in an event, by its kind
unfoldable pub event_keys : List ℕ → List Name
event_keys kind =
    if bytes_eq kind (codes "link_down") then LINK_EVENT_KEYS.now
    else if bytes_eq kind (codes "link_up") then LINK_EVENT_KEYS.now
    else if bytes_eq kind (codes "link_set") then LINK_SET_KEYS.now
    else if bytes_eq kind (codes "fail") then SYSTEM_EVENT_KEYS.now
    else if bytes_eq kind (codes "recover") then SYSTEM_EVENT_KEYS.now
    else if bytes_eq kind (codes "priority1") then PRIORITY1_KEYS.now
    else if bytes_eq kind (codes "inject") then INJECT_KEYS.now
    else EVENT_KEYS.now

-- ---- places of a document

-- the table of a value, and the members of a section
abbrev pub table_in : Option Data → Option Members
table_in (Some d) = as_table d
table_in None = None

abbrev pub items_in : Option Items → Items
items_in (Some items) = items
items_in None = no_items

abbrev pub array_in : Option Data → Items
array_in (Some d) = items_in (as_array d)
array_in None = no_items

abbrev pub members_of : Members → Section → Items
members_of t section = array_in (get_member (section_name section) t)

abbrev pub member_at : Items → ℕ → Option Members
member_at items number = table_in (get_item number items)

-- the table at a place, if there is one
abbrev pub table_at : Members → Place → Option Members
table_at t Top = Some t
table_at t Network = table_in (get_member (codes "network") t)
table_at t (Member section number) = member_at (members_of t section) number

-- the kind of an event, empty where it has none
abbrev pub text_in : Option (List ℕ) → List ℕ
text_in (Some text) = text
text_in None = []

abbrev pub text_of_value : Option Data → List ℕ
text_of_value (Some d) = text_in (as_str d)
text_of_value None = []

abbrev pub kind_text : Option Members → List ℕ
kind_text (Some event) = text_of_value (get_member (codes "kind") event)
kind_text None = []

-- the keys that are read at a place
abbrev pub names_read : Members → Place → List Name
names_read t Top = TOP_KEYS.now
names_read t Network = NETWORK_KEYS.now
names_read t (Member System number) = system_keys t
names_read t (Member Link number) = LINK_KEYS.now
names_read t (Member Event number) = event_keys (kind_text (table_at t (Member Event number)))

abbrev pub keys_read : Members → Place → List (List ℕ)
keys_read t place = map name_text (names_read t place)

-- a key is one of these, or a name, which is read nowhere and may stand everywhere
abbrev pub is_known : List (List ℕ) → List ℕ → Bool
is_known keys key = bytes_eq key (codes "name") || list_any (λ known. bytes_eq known key) keys

-- the keys that are read at a place and absent there, in the order of the formats; none where there is no table
abbrev pub is_absent : Members → List ℕ → Bool
is_absent table key = is_none (get_member key table)

abbrev pub absent_in : Option Members → List (List ℕ) → List (List ℕ)
absent_in (Some table) keys = filter (is_absent table) keys
absent_in None keys = []

abbrev pub absent_at : Members → Place → List (List ℕ)
absent_at t place = absent_in (table_at t place) (keys_read t place)
