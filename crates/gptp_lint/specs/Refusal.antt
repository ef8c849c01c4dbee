-- Where a document is refused, and why (profile).
use Rattle.std.specs.Prelude.{◌≡◌, ◌≤◌, ◌⊎◌, ◌==◌, ◌&&◌, ◌++◌, ℕ, Bool, true, not, codes, List, [], Option, None, Result, Ok, Err, filter, length, map, take}
use Rattle.std.specs.Fmt.{decimal}
use Rattle.std.specs.List.{list_all}
use Rattle.toml.specs.Data.{Members}
use Rattle.gptp_network.specs.Document.{DocumentState, IsNoToml, Parses}
use Rattle.gptp_network.specs.Keys.{name_text}
use Rattle.gptp_network.specs.ReadDocument.{read_document}
use Rattle.gptp_network.specs.declared.place.Place.{Place as DocumentPlace}
use Rattle.gptp_network.specs.declared.place.Place.TheVariants as places
use Rattle.gptp_network.specs.declared.place.Section.{Section as DocumentSection}
use Rattle.gptp_network.specs.declared.place.Section.TheVariants as sections
use Rattle.gptp_network.specs.declared.why.Refusal.{Refusal}
use Rattle.gptp_network.specs.declared.why.Why.{Why}
use Rattle.gptp_network.specs.declared.why.Why.TheVariants as whys
use Rattle.gptp_lint.specs.declared.place.Place.{Place}
use Rattle.gptp_lint.specs.declared.place.Place.TheVariants.{Member, Network, Top}
use Rattle.gptp_lint.specs.declared.place.Section.{Section}
use Rattle.gptp_lint.specs.declared.place.Section.TheVariants.{Event, Link, System}
use Rattle.gptp_lint.specs.Ending.{column_at_end, line_at_end}
use Rattle.gptp_lint.specs.Keys.{is_known, keys_read}
use Rattle.gptp_lint.specs.Nearest.{nearest}
use Rattle.gptp_lint.specs.Outline.{OutlineState, PlacedKey, header_line, outline_of_text}
use Rattle.gptp_lint.specs.Unread.{near_words, place_words}
use Rattle.gptp_lint.specs.UnreadKeys.{is_at}
use Rattle.gptp_lint.specs.Why.{why_words}

-- a place of a document that is refused
abbrev pub section_of : DocumentSection → Section
section_of sections.System = System
section_of sections.Link = Link
section_of sections.Event = Event

abbrev pub place_of : DocumentPlace → Place
place_of places.Top = Top
place_of places.Network = Network
place_of (places.Member section number) = Member (section_of section) number

-- the keys of a text at a place that aren't among those that are read there, in the order of the text
abbrev pub is_unread_at : List (List ℕ) → Place → PlacedKey → Bool
is_unread_at read place k = is_at k.0 place && not (is_known read k.1)

abbrev pub unread_at : List (List ℕ) → Place → List PlacedKey → List (List ℕ)
unread_at read place entries = map (λ k. k.1) (filter (is_unread_at read place) entries)

-- the key that was meant where one is missing: the nearest of those
abbrev pub meant_at : Members → OutlineState → Place → Why → Option (List ℕ)
meant_at t o place (whys.Missing key) = nearest (name_text key) (unread_at (keys_read t place) place o.entries)
meant_at t o place why = None

-- the place, with the line of its header, why the document is refused there, and the key that was meant, maybe
abbrev pub refusal_words : Refusal → Option ℕ → Option (List ℕ) → List ℕ
refusal_words refusal line near =
    codes " " ++ place_words (place_of refusal.place) line ++ codes " " ++ why_words refusal.why ++ near_words near

-- what follows the fault of the table that a text spells, where it is refused; nothing where it is a document
abbrev pub refusal_tail : List ℕ → Members → Result DocumentState Refusal → List ℕ
refusal_tail input t (Ok d) = []
refusal_tail input t (Err refusal) =
    let place = place_of refusal.place in
    refusal_words refusal (header_line input place) (meant_at t (outline_of_text input) place refusal.why)

-- what follows the fault of a text that is no TOML: the line and the column in which a front of it ends
abbrev pub no_toml_words : List ℕ → List ℕ
no_toml_words front =
    codes " text line " ++ decimal (line_at_end front) ++ codes " column " ++ decimal (column_at_end front)

-- What follows the fault of a text. How long the front is after which it is no TOML is left open: the parser promises
-- only that its place is in the text.
abbrev pub TellsPlace : List ℕ → List ℕ → Type 0
TellsPlace text tail =
    (IsNoToml text × ((n : ℕ) × (n ≤ length text) × (tail ≡ no_toml_words (take n text))))
    ⊎ ((t : Members) × Parses text t × (tail ≡ refusal_tail text t (read_document t)))

-- a text that is part of one line
abbrev pub HasNoFeed : List ℕ → Type 0
HasNoFeed text = list_all (λ octet. not (octet == 10)) text ≡ true
