-- Which keys of a document aren't read, and their lines (profile).
use Rattle.std.specs.Prelude.{◌≡◌, ◌==◌, ◌&&◌, ◌++◌, ℕ, Bool, List, [], ◌∷◌, Option, Some, None, codes, filter, if◌then◌else◌, map}
use Rattle.std.specs.BTreeSet.{BTreeSet, contains}
use Rattle.std.specs.Borrow.{Bor}
use Rattle.std.specs.Cmp.Lexicographic.{slice_cmp}
use Rattle.std.specs.List.{fold, list_any}
use Rattle.std.specs.Ordering.{is_eq, nat_cmp, ordering_then}
use Rattle.std.specs.declared.cmp.Ordering.{Ordering}
use Rattle.toml.specs.Data.{Members}
use Rattle.gptp_outline.specs.Rows.{table_of}
use Rattle.gptp_words.specs.Lines.{text_of}
use Rattle.gptp_lint.specs.Keys.{absent_at, is_known, keys_read}
use Rattle.gptp_lint.specs.Nearest.{nearest}
use Rattle.gptp_lint.specs.Outline.{OutlineState, PlacedKey, entry_view, line_in, outline_of_text}
use Rattle.gptp_lint.specs.Unread.{escaped, near_words, place_words}
use Rattle.gptp_lint.specs.declared.outline.Entry.{Entry}
use Rattle.gptp_lint.specs.declared.place.Place.{Place}
use Rattle.gptp_lint.specs.declared.place.Place.TheVariants.{Member, Network, Top}
use Rattle.gptp_lint.specs.declared.place.Section.{Section}
use Rattle.gptp_lint.specs.declared.place.Section.TheVariants.{Event, Link, System}

-- the part of a document in which a place is, by its order there, and which member of that it is
abbrev pub part_of_section : Section → ℕ
part_of_section System = 2
part_of_section Link = 3
part_of_section Event = 4

abbrev pub part_of : Place → ℕ
part_of Top = 0
part_of Network = 1
part_of (Member section number) = part_of_section section

abbrev pub number_of : Place → ℕ
number_of Top = 0
number_of Network = 0
number_of (Member section number) = number

-- two places are one
abbrev pub is_at : Place → Place → Bool
is_at a b = (part_of a == part_of b) && (number_of a == number_of b)

-- the order of two keys with their places: by the part of the document, the member there, and the key; equal for the
-- same key at the same place
abbrev pub compare_keys : (ℕ × ℕ) × List ℕ → (ℕ × ℕ) × List ℕ → Ordering
compare_keys a b =
    ordering_then (ordering_then (nat_cmp a.0.0 b.0.0) (nat_cmp a.0.1 b.0.1)) (slice_cmp nat_cmp a.1 b.1)

abbrev pub as_numbers : PlacedKey → (ℕ × ℕ) × List ℕ
as_numbers k = ((part_of k.0, number_of k.0), k.1)

abbrev pub is_same : PlacedKey → PlacedKey → Bool
is_same a b = is_eq (compare_keys (as_numbers a) (as_numbers b))

-- a key after those that aren't read, if it isn't read either and isn't there yet
unfoldable pub with_key : Members → List PlacedKey → PlacedKey → List PlacedKey
with_key t found k =
    if is_known (keys_read t k.0) k.1 then found
    else if list_any (λ old. is_same old k) found then found
    else found ++ k ∷ []

-- which of some keys aren't read, each where it comes first
abbrev pub first_unread : Members → List PlacedKey → List PlacedKey
first_unread t keys = fold (with_key t) [] keys

-- keys part by part; in each they stay in their order
abbrev pub in_part : ℕ → PlacedKey → Bool
in_part part k = part_of k.0 == part

abbrev pub of_part : ℕ → List PlacedKey → List PlacedKey
of_part part keys = filter (in_part part) keys

abbrev pub by_part : List PlacedKey → List PlacedKey
by_part keys =
    (of_part 0 keys ++ of_part 1 keys) ++ (of_part 2 keys ++ (of_part 3 keys ++ of_part 4 keys))

-- the keys of a document that aren't read; a text that is no TOML has none
abbrev pub unread_of : Option Members → OutlineState → List PlacedKey
unread_of (Some t) o = by_part (first_unread t o.entries)
unread_of None o = []

unfoldable pub unread_keys : List ℕ → List PlacedKey
unread_keys input = unread_of (table_of input) (outline_of_text input)

-- the key that was meant by one that isn't read: the nearest of those that are read at its place and absent there
abbrev pub meant_in : Option Members → PlacedKey → Option (List ℕ)
meant_in (Some t) k = nearest k.1 (absent_at t k.0)
meant_in None k = None

-- the line of a key that isn't read, with that of the header of its place
abbrev pub unread_line : Option Members → OutlineState → PlacedKey → List ℕ
unread_line t o k =
    codes "unknown " ++ place_words k.0 (line_in o k.0) ++ codes " key " ++ escaped k.1 ++ near_words (meant_in t k)

abbrev pub unread_lines : List ℕ → List (List ℕ)
unread_lines input = map (unread_line (table_of input) (outline_of_text input)) (unread_keys input)

-- ---- what the code keeps

-- lines of these keys
abbrev pub AppendsUnread : Option Members → OutlineState → List PlacedKey → List ℕ → List ℕ → Type 0
AppendsUnread t o keys old new = new ≡ old ++ text_of (map (unread_line t o) keys)

abbrev pub found_view : List (Bor Entry) → List PlacedKey
found_view found = map (λ e. entry_view e.now) found

-- a set has these keys
abbrev pub SeenKey : Type 0
SeenKey = (ℕ × ℕ) × Bor (List ℕ)

abbrev pub seen_cmp : SeenKey → SeenKey → Ordering
seen_cmp a b =
    ordering_then (ordering_then (nat_cmp a.0.0 b.0.0) (nat_cmp a.0.1 b.0.1)) (slice_cmp nat_cmp a.1.now b.1.now)

abbrev pub HaveSeen : BTreeSet SeenKey → List PlacedKey → Type 0
HaveSeen seen found =
    (q : SeenKey) → contains seen_cmp seen q
    ≡ list_any (λ old. is_eq (compare_keys (as_numbers old) (q.0, q.1.now))) found
