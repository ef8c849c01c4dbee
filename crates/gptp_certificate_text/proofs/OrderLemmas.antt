-- The order of lines: it is that of the last line with the next, and makes clocks and port numbers rise.
use Rattle.std.proofs.lemmas.Bool.Decides.{nat_tests}
use Rattle.std.proofs.Common.{◌≡◌, ℕ, zero, suc, ◌<◌, ◌-◌, nat_eq, nat_lt, true, length, take, get_or, set, List, [], ◌∷◌, ◌++◌, map, inl, inr, refl, sym, ap, subst, ◌∙◌, append_assoc, append-nil, arith}
use Rattle.std.specs.Prelude.{◌⊎◌, Bool, false, Option, None, Result, Ok, Err, IfErr, OnOk}
use Rattle.std.specs.List.{AllByRecursion}
use Rattle.std.proofs.lemmas.List.{map-append}
use Rattle.std.proofs.lemmas.Grind.{flat_map-append}
use Rattle.gptp_graph.specs.Labelling.{PortLine, SystemLine, line_clocks, port_numbers}
use Rattle.gptp_lists.specs.Members.{In}
use Rattle.gptp_graph.specs.Order.{IsRising}
use Rattle.gptp_graph.specs.Parent.{ParentLink}
use Rattle.gptp_roles.specs.declared.role.Role.{Role}
use Rattle.gptp_certificate_text.specs.declared.certificate.SystemLine as declared
use Rattle.gptp_certificate_text.specs.Certificate.{LinesAreInOrder, IsCertificate, IsVersion, line_of, lines_of, port_line_of}
use Rattle.gptp_certificate_text.specs.Entries.{LineKey, SystemEntry, PortEntry, FollowEach, CanFollow, IsReadable, IsReadableChoice, IsReadableEntry, StandInOrder, entry_clock, ends_far, entries_of, entries_of_line, is_far, entry_number, system_entry}
use Rattle.gptp_certificate_text.specs.Lines.{Appends, last_entry, last_of}

each_then : (first : LineKey) (rest : List LineKey) (entry : LineKey) → FollowEach first rest
    → CanFollow (last_of first rest) entry
    → FollowEach first (rest ++ entry ∷ [])
each_then first [] entry each follows = (follows, tt)
each_then first (next ∷ rest) entry each follows = (each.0, each_then next rest entry each.1 follows)

each_last : (first : LineKey) (rest : List LineKey) (entry : LineKey) → FollowEach first (rest ++ entry ∷ [])
    → CanFollow (last_of first rest) entry
each_last first [] entry each = each.0
each_last first (next ∷ rest) entry each = each_last next rest entry each.1

last_of-append : (first : LineKey) (xs ys : List LineKey) → last_of first (xs ++ ys) ≡ last_of (last_of first xs) ys
last_of-append first [] ys = refl
last_of-append first (x ∷ xs) ys = last_of-append x xs ys

last_in : (front : List SystemLine) (line : SystemLine) (first : LineKey)
    → last_of first (entries_of (front ++ line ∷ [])) ≡ last_entry line
last_in [] line first = ap (last_of (system_entry line)) (append-nil (map (PortEntry line.clock) line.ports))
last_in (x ∷ front) line first =
    last_of-append (system_entry x) (map (PortEntry x.clock) x.ports) (entries_of (front ++ line ∷ []))
    ∙ last_in front line (last_entry x)

-- what follows the last line stands after all
pub stands_then : (front : List SystemLine) (line : SystemLine) (entry : LineKey)
    → StandInOrder (entries_of (front ++ line ∷ []))
    → CanFollow (last_entry line) entry → StandInOrder (entries_of (front ++ line ∷ []) ++ entry ∷ [])
stands_then [] line entry stand follows =
    each_then (system_entry line) (map (PortEntry line.clock) line.ports ++ []) entry stand
    (subst (λ last. CanFollow last entry) (sym (last_in [] line (system_entry line))) follows)
stands_then (x ∷ front) line entry stand follows =
    each_then (system_entry x) (map (PortEntry x.clock) x.ports ++ entries_of (front ++ line ∷ [])) entry stand
    (subst (λ last. CanFollow last entry) (sym (last_in (x ∷ front) line (system_entry x))) follows)

pub stands_last : (front : List SystemLine) (line : SystemLine) (entry : LineKey)
    → StandInOrder (entries_of (front ++ line ∷ []) ++ entry ∷ []) → CanFollow (last_entry line) entry
stands_last [] line entry stand =
    subst (λ last. CanFollow last entry) (last_in [] line (system_entry line))
    (each_last (system_entry line) (map (PortEntry line.clock) line.ports ++ []) entry stand)
stands_last (x ∷ front) line entry stand =
    subst (λ last. CanFollow last entry) (last_in (x ∷ front) line (system_entry x))
    (each_last (system_entry x) (map (PortEntry x.clock) x.ports ++ entries_of (front ++ line ∷ [])) entry stand)

lines_split : (lines front : List declared.SystemLine) (last : declared.SystemLine) → lines ≡ front ++ last ∷ []
    → lines_of lines ≡ lines_of front ++ line_of last ∷ []
lines_split lines front last split = ap lines_of split ∙ map-append line_of front (last ∷ [])

pub line_stands : (lines front : List declared.SystemLine) (last : declared.SystemLine) (entry : LineKey)
    → lines ≡ front ++ last ∷ []
    → StandInOrder (entries_of (lines_of lines)) → CanFollow (last_entry (line_of last)) entry
    → StandInOrder (entries_of (lines_of lines) ++ entry ∷ [])
line_stands lines front last entry split stand follows =
    let e = lines_split lines front last split in
    subst (λ ls. StandInOrder (entries_of ls ++ entry ∷ [])) (sym e)
    (stands_then (lines_of front) (line_of last) entry (subst (λ ls. StandInOrder (entries_of ls)) e stand) follows)

pub line_follows : (lines front : List declared.SystemLine) (last : declared.SystemLine) (entry : LineKey)
    → lines ≡ front ++ last ∷ []
    → StandInOrder (entries_of (lines_of lines) ++ entry ∷ []) → CanFollow (last_entry (line_of last)) entry
line_follows lines front last entry split stand =
    stands_last (lines_of front) (line_of last) entry
    (subst (λ ls. StandInOrder (entries_of ls ++ entry ∷ [])) (lines_split lines front last split) stand)

entries_split : (front : List SystemLine) (last : SystemLine)
    → entries_of (front ++ last ∷ []) ≡ entries_of front ++ entries_of_line last
entries_split front last =
    flat_map-append entries_of_line front (last ∷ [])
    ∙ ap (λ t. entries_of front ++ t) (append-nil (entries_of_line last))

-- a port more in the last line is a line more
pub port_appended : (lines after front : List declared.SystemLine) (last more : declared.SystemLine) (entry : LineKey)
    → lines ≡ front ++ last ∷ [] → after ≡ front ++ more ∷ [] → StandInOrder (entries_of (lines_of lines))
    → entries_of_line (line_of more) ≡ entries_of_line (line_of last) ++ entry ∷ []
    → CanFollow (last_entry (line_of last)) entry
    → Appends (entries_of (lines_of lines)) entry (entries_of (lines_of after))
port_appended lines after front last more entry split then_split stand is follows =
    let before = entries_of (lines_of front) in
    let d = ap entries_of (lines_split lines front last split) ∙ entries_split (lines_of front) (line_of last) in
    let e = ap entries_of (lines_split after front more then_split) ∙ entries_split (lines_of front) (line_of more) in
    let grown : entries_of (lines_of after) ≡ entries_of (lines_of lines) ++ entry ∷ [] =
    e ∙ ap (λ t. before ++ t) is ∙ sym (append_assoc before (entries_of_line (line_of last)) (entry ∷ []))
    ∙ ap (λ t. t ++ entry ∷ []) (sym d) in
    record {
      is = grown;
      order = subst StandInOrder (sym grown) (line_stands lines front last entry split stand follows);
    }

clock_last : (first : LineKey) (clock : ℕ) (ports : List PortLine) → entry_clock first ≡ clock
    → entry_clock (last_of first (map (PortEntry clock) ports)) ≡ clock
clock_last first clock [] is = is
clock_last first clock (port ∷ ports) is = clock_last (PortEntry clock port) clock ports refl

pub last_clock : (line : SystemLine) → entry_clock (last_entry line) ≡ line.clock
last_clock line = clock_last (system_entry line) line.clock line.ports refl

number_last : (first : LineKey) (clock : ℕ) (front : List (ℕ × Role)) (port : ℕ × Role)
    → entry_number (last_of first (map (PortEntry clock) (map port_line_of (front ++ port ∷ [])))) ≡ port.0
number_last first clock [] port = refl
number_last first clock (x ∷ front) port = number_last (PortEntry clock (port_line_of x)) clock front port

pub last_port : (line : declared.SystemLine) (front : List (ℕ × Role)) (port : ℕ × Role)
    → line.ports.items ≡ front ++ port ∷ []
    → port.0 ≡ entry_number (last_entry (line_of line))
last_port line front port split =
    sym (ap (λ ports.
    entry_number (last_of (system_entry (line_of line)) (map (PortEntry line.clock) (map port_line_of ports)))) split
    ∙ number_last (system_entry (line_of line)) line.clock front port)

-- a far line has no ports
abbrev IsBareIfFar : SystemLine → Type 0
IsBareIfFar line = line.far ≡ true → line.ports ≡ []

abbrev AreBare : List SystemLine → Type 0
AreBare lines = (line : SystemLine) → In line lines → IsBareIfFar line

-- the part of a list that is after another
pub all_behind : (version : ℕ) (xs ys : List LineKey) → AllByRecursion (IsReadableEntry version) (xs ++ ys)
    → AllByRecursion (IsReadableEntry version) ys
all_behind version [] ys all = all
all_behind version (x ∷ xs) ys all = all_behind version xs ys all.1

-- what holds of the first and of the others
of_each : {X : Type 0} (P : X → Type 0) (x : X) (xs : List X) → P x → ((y : X) → In y xs → P y) → (y : X)
    → In y (x ∷ xs) → P y
of_each P x xs here there y (inl e) = subst P (sym e) here
of_each P x xs here there y (inr i) = there y i

-- after a far system's line stands no port line
ports_bare : (first : LineKey) (clock : ℕ) (ports : List PortLine) (more : List LineKey)
    → FollowEach first (map (PortEntry clock) ports ++ more) → is_far first ≡ true → ports ≡ []
ports_bare first clock [] more each far = refl
ports_bare first clock (port ∷ ports) more each far = absurd (let near = each.0.2 in cc)

-- ports in order rise, and what follows them follows the last
ports_rise : (first : LineKey) (clock : ℕ) (ports : List PortLine) (more : List LineKey)
    → FollowEach first (map (PortEntry clock) ports ++ more)
    → IsRising (map (λ (port : PortLine). port.number) ports)
    × ((number : ℕ) → In number (map (λ (port : PortLine). port.number) ports) → entry_number first < number)
    × FollowEach (last_of first (map (PortEntry clock) ports)) more
ports_rise first clock [] more each = (tt, (λ number i. absurd i), each)
ports_rise first clock (port ∷ ports) more each =
    let rest = ports_rise (PortEntry clock port) clock ports more each.1 in
    let above = each.0.1 in (
      (rest.1, rest.0),
      of_each (λ number. entry_number first < number) port.number (map (λ (p : PortLine). p.number) ports) above
          (λ number i. let h = rest.1 number i in omega arith),
      rest.2,
    )

rises_from : (line : SystemLine) (lines : List SystemLine)
    → FollowEach (system_entry line) (map (PortEntry line.clock) line.ports ++ entries_of lines)
    → LinesAreInOrder (line ∷ lines) × ((clock : ℕ) → In clock (line_clocks lines) → line.clock < clock)
    × AreBare (line ∷ lines)
rises_from line [] each =
    let ports = ports_rise (system_entry line) line.clock line.ports [] each in (
      record {
        clocks = ((λ y i. absurd i), tt);
        ports = of_each (λ l. IsRising (port_numbers l)) line [] ports.0 (λ l i. absurd i);
      },
      λ clock i. absurd i,
      of_each IsBareIfFar line [] (ports_bare (system_entry line) line.clock line.ports [] each) (λ l i. absurd i),
    )
rises_from line (next ∷ lines) each =
    let ports = ports_rise (system_entry line) line.clock line.ports (entries_of (next ∷ lines)) each in
    let rest = rises_from next lines ports.2.1 in
    let first : line.clock < next.clock = rw (last_clock line) at ports.2.0 in
    let above = of_each (λ clock. line.clock < clock) next.clock (line_clocks lines) first
    (λ clock i. let h = rest.1 clock i in omega arith) in (
      record {
        clocks = (above, rest.0.clocks);
        ports = of_each (λ l. IsRising (port_numbers l)) line (next ∷ lines) ports.0 rest.0.ports;
      },
      above,
      of_each IsBareIfFar line (next ∷ lines)
          (ports_bare (system_entry line) line.clock line.ports (entries_of (next ∷ lines)) each) rest.2,
    )

-- lines in order are a certificate's
pub in_order : (lines : List SystemLine) → StandInOrder (entries_of lines) → LinesAreInOrder lines
in_order [] stand = record { clocks = tt; ports = λ line i. absurd i }
in_order (line ∷ lines) stand = (rises_from line lines stand).0

bare_in_order : (lines : List SystemLine) → StandInOrder (entries_of lines) → AreBare lines
bare_in_order [] stand = λ line i. absurd i
bare_in_order (line ∷ lines) stand = (rises_from line lines stand).2

-- each line's own entry is readable where all are
readable_line : (version : ℕ) (lines : List SystemLine) (line : SystemLine) → IsReadable version lines
    → In line lines → IsReadableEntry version (system_entry line)
readable_line version (first ∷ lines) line all (inl e) =
    subst (λ l. IsReadableEntry version (system_entry l)) (sym e) all.0
readable_line version (first ∷ lines) line all (inr i) =
    readable_line version lines line
    (all_behind version (map (PortEntry first.clock) first.ports) (entries_of lines) all.1) i
readable_line version [] line all i = absurd i

-- a far line's parent and version
far_choice : (version : ℕ) (far : Bool) (parent : Option ParentLink) → IsReadableChoice version far parent
    → far ≡ true → (parent ≡ None) × (version ≡ 2)
far_choice version true parent choice far = choice
far_choice version false parent choice far = absurd cc

-- lines that are read are a certificate's
pub is_certificate : (version : ℕ) (lines : List SystemLine) → IsVersion version → IsReadable version lines
    → StandInOrder (entries_of lines) → IsCertificate version lines
is_certificate version lines is readable stand = record {
  is_version = is;
  order = in_order lines stand;
  bare = λ line member far. record {
    parent = (choice line member far).0;
    ports = bare_in_order lines stand line member far;
  };
  second = λ line member far. (choice line member far).1;
}
  where
    choice : (line : SystemLine) → In line lines → line.far ≡ true → (line.parent ≡ None) × (version ≡ 2)
    choice line member far =
        far_choice version line.far line.parent (readable_line version lines line readable member).3 far

-- the entries of a line with a port more
pub port_added : (clock root steps : ℕ) (far : Bool) (parent : Option ParentLink)
    (ports after : List (ℕ × Role)) (port : ℕ × Role)
    (other : ℕ)
    → after ≡ ports ++ port ∷ [] → clock ≡ other
    → SystemEntry clock root steps far parent ∷ map (PortEntry clock) (map port_line_of after)
    ≡ (SystemEntry clock root steps far parent ∷ map (PortEntry clock) (map port_line_of ports))
    ++ PortEntry other (port_line_of port) ∷ []
port_added clock root steps far parent ports after port other split same =
    let first = SystemEntry clock root steps far parent in
    ap (λ items. first ∷ map (PortEntry clock) (map port_line_of items)) split
    ∙ ap (λ lines. first ∷ map (PortEntry clock) lines) (map-append port_line_of ports (port ∷ []))
    ∙ ap (λ entries. first ∷ entries) (map-append (PortEntry clock) (map port_line_of ports) (port_line_of port ∷ []))
    ∙ ap (λ c. first ∷ (map (PortEntry clock) (map port_line_of ports) ++ PortEntry c (port_line_of port) ∷ [])) same

-- a list by its last element
pub last_parts : {X : Type 0} (xs : List X) (i : ℕ) (d y : X) → length xs ≡ suc i
    → (xs ≡ take i xs ++ get_or xs i d ∷ []) × (set xs i y ≡ take i xs ++ y ∷ [])
last_parts [] i d y size = absurd (omega arith)
last_parts (x ∷ []) zero d y size = (refl, refl)
last_parts (x ∷ z ∷ xs) zero d y size = absurd (omega arith)
last_parts (x ∷ xs) (suc i) d y size =
    let rest = last_parts xs i d y (omega arith) in
    (ap (λ t. x ∷ t) rest.0, ap (λ t. x ∷ t) rest.1)

pub both_ok : {X E : Type 0} (A B C : Type 0) (r : Result X E) → (A → B → C) → OnOk r A → OnOk r B → OnOk r C
both_ok A B C (Ok x) f a b = f a b
both_ok A B C (Err e) f a b = a

pub weaker_err : {X E : Type 0} (P Q : E → Type 0) (r : Result X E) → ((e : E) → P e → Q e) → IfErr r P → IfErr r Q
weaker_err P Q (Ok x) f p = p
weaker_err P Q (Err e) f p = f e p

last_split : (lines : List declared.SystemLine) (last more : declared.SystemLine) → true ≡ nat_lt 0 (length lines)
    → last ≡ get_or lines (length lines - 1) last
    → (lines ≡ take (length lines - 1) lines ++ last ∷ [])
    × (set lines (length lines - 1) more ≡ take (length lines - 1) lines ++ more ∷ [])
last_split lines last more some is =
    let size : length lines ≡ suc (length lines - 1) = grind (arith, nat_tests) in
    let parts = last_parts lines (length lines - 1) last more size in
    (parts.0 ∙ ap (λ l. take (length lines - 1) lines ++ l ∷ []) (sym is), parts.1)

-- the last line, with a port more
pub port_put : (lines : List declared.SystemLine) (last more : declared.SystemLine) (entry : LineKey)
    → true ≡ nat_lt 0 (length lines)
    → last ≡ get_or lines (length lines - 1) last → StandInOrder (entries_of (lines_of lines))
    → entries_of_line (line_of more) ≡ entries_of_line (line_of last) ++ entry ∷ []
    → CanFollow (last_entry (line_of last)) entry
    → Appends (entries_of (lines_of lines)) entry (entries_of (lines_of (set lines (length lines - 1) more)))
port_put lines last more entry some is stand grown follows =
    let parts = last_split lines last more some is in
    port_appended lines (set lines (length lines - 1) more) (take (length lines - 1) lines) last more entry parts.0
    parts.1 stand grown
    follows

pub port_follows : (lines : List declared.SystemLine) (last : declared.SystemLine) (entry : LineKey)
    → true ≡ nat_lt 0 (length lines)
    → last ≡ get_or lines (length lines - 1) last → StandInOrder (entries_of (lines_of lines) ++ entry ∷ [])
    → CanFollow (last_entry (line_of last)) entry
port_follows lines last entry some is stand =
    line_follows lines (take (length lines - 1) lines) last entry (last_split lines last last some is).0 stand

pub not_after : (A B F S : Type 0) → A ⊎ (B × (F → ⊥)) → (S → F) → A ⊎ (B × (S → ⊥))
not_after A B F S (inl a) f = inl a
not_after A B F S (inr (b, no_f)) f = inr (b, λ s. no_f (f s))

-- the last of all lines is that of the last system
ends_of : (front : List LineKey) (first : LineKey) (rest : List LineKey)
    → ends_far (front ++ first ∷ rest) ≡ is_far (last_of first rest)
ends_of [] first [] = refl
ends_of [] first (next ∷ rest) = ends_of [] next rest
ends_of (x ∷ []) first rest = ends_of [] first rest
ends_of (x ∷ (y ∷ front)) first rest = ends_of (y ∷ front) first rest

pub ends_last : (front : List SystemLine) (last : SystemLine)
    → ends_far (entries_of (front ++ last ∷ [])) ≡ is_far (last_entry last)
ends_last front last =
    ap ends_far (entries_split front last)
    ∙ ends_of (entries_of front) (system_entry last) (map (PortEntry last.clock) last.ports)

-- a line with ports doesn't end with a far system's
pub not_far_behind : (first : LineKey) (clock : ℕ) (port : PortLine) (ports : List PortLine)
    → is_far (last_of first (map (PortEntry clock) (port ∷ ports))) ≡ false
not_far_behind first clock port [] = refl
not_far_behind first clock port (next ∷ ports) = not_far_behind (PortEntry clock port) clock next ports

pub lines_end : (lines front : List declared.SystemLine) (last : declared.SystemLine) → lines ≡ front ++ last ∷ []
    → ends_far (entries_of (lines_of lines)) ≡ is_far (last_entry (line_of last))
lines_end lines front last split =
    ap (λ ls. ends_far (entries_of ls)) (lines_split lines front last split) ∙ ends_last (lines_of front) (line_of last)

pub near_last : (lines : List declared.SystemLine) (last : declared.SystemLine) → true ≡ nat_lt 0 (length lines)
    → last ≡ get_or lines (length lines - 1) last → ends_far (entries_of (lines_of lines)) ≡ false
    → is_far (last_entry (line_of last)) ≡ false
near_last lines last some is near =
    sym (lines_end lines (take (length lines - 1) lines) last (last_split lines last last some is).0) ∙ near

-- whether a system's last line is a far system's
pub ends_near : (first : LineKey) (clock : ℕ) (items : List (ℕ × Role)) → is_far first ≡ false
    → is_far (last_of first (map (PortEntry clock) (map port_line_of items))) ≡ false
ends_near first clock [] near = near
ends_near first clock (item ∷ items) near = not_far_behind first clock (port_line_of item) (map port_line_of items)

pub ends_with : (first : LineKey) (clock : ℕ) (items : List (ℕ × Role)) → is_far first ≡ true
    → nat_eq (length items) 0 ≡ is_far (last_of first (map (PortEntry clock) (map port_line_of items)))
ends_with first clock [] far = sym far
ends_with first clock (item ∷ items) far =
    let none : nat_eq (length (item ∷ items)) 0 ≡ false = grind (arith, nat_tests) in
    none ∙ sym (not_far_behind first clock (port_line_of item) (map port_line_of items))
