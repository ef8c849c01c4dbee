-- What a text means is a network with events of it.
use Rattle.std.proofs.Common.{◌≡◌, ◌<◌, ◌≤◌, ◌*◌, ◌^◌, ◌/◌, ◌==◌, ℕ, zero, suc, ℤ, Bool, true, false, codes, nat_le, List, [], ◌∷◌, ◌++◌, length, Option, Some, None, Result, Ok, Err, refl, subst, inl, inr, arith}
use Rattle.std.specs.Prelude.{⊤, bytes_eq, if◌then◌else◌, nat_lt, slice_index}
use Rattle.std.specs.Int.{byte_at, bytes_high_first, int_max, int_min}
use Rattle.std.specs.List.{AllByRecursion, reduce}
use Rattle.std.proofs.lemmas.Bool.{and_parts, leb-true}
use Rattle.std.proofs.lemmas.Bool.Decides.{nat_tests}
use Rattle.std.proofs.lemmas.Nat.{mod_below}
use Rattle.byteorder.specs.Numbers.{big_from-lt}
use Rattle.hex.specs.Hex.{decode_of}
use Rattle.hex.specs.declared.error.FromHexError.{FromHexError}
use Rattle.hex.proofs.HexLemmas.{decode_of-ok}
use Rattle.toml.specs.Data.{item, no_items, Data, Items, Members, as_str, as_table, get_member}
use Rattle.gptp_lists.specs.Members.{In}
use Rattle.gptp_lists.proofs.SystemSpecLemmas.{slice_get-In}
use Rattle.gptp_graph.specs.Snapshot.{IsWellFormed, Snapshot, System as LiveSystem}
use Rattle.gptp_roles.specs.Selection.{clock_of}
use Rattle.gptp_setup.specs.declared.limits.TheConstants.{MOST_PORTS}
use Rattle.gptp_scenario.specs.Calm.{last_change}
use Rattle.gptp_scenario.specs.Change.{standing, system_acted, system_stands, with_live, with_priority1}
use Rattle.gptp_scenario.specs.Network.{link_fault, logs_of, system_fault, with_link, with_system, without_members, IsKeptNetwork, IsNetwork, NetworkState}
use Rattle.gptp_scenario.specs.Params.{is_between, params_fault}
use Rattle.gptp_scenario.specs.declared.change.Act.{Act}
use Rattle.gptp_scenario.specs.declared.change.Act.TheVariants as acts
use Rattle.gptp_scenario.specs.declared.change.Change.{Change}
use Rattle.gptp_scenario.specs.declared.change.Change.TheVariants as changes
use Rattle.gptp_scenario.specs.declared.change.Timed.{Timed}
use Rattle.gptp_scenario.proofs.NetworkLemmas.{link_added, none_yet, system_added}
use Rattle.gptp_scenario.proofs.OctetLemmas.{each_below}
use Rattle.gptp_network.specs.declared.keys.TheConstants.{LATEST_EVENT}
use Rattle.gptp_network.specs.Document.{document_of, whole_network_of, DocumentState, Means}
use Rattle.gptp_network.specs.Events.{change_fault, change_of, event_of, events_of, fail_of, inject_of, link_down_of, link_set_of, link_up_of, not_before, priority1_of, recover_of, timed, with_event_of, AreEvents, IsInRange}
use Rattle.gptp_network.specs.Intervals.{intervals}
use Rattle.gptp_network.specs.Links.{link_of, wire_of, with_link_of, with_links}
use Rattle.gptp_network.specs.Members.{each_of, limited, needed}
use Rattle.gptp_network.specs.Params.{network_of, network_of_section, params_of}
use Rattle.gptp_network.specs.Snapshot.{events_by, IsSnapshot}
use Rattle.gptp_network.specs.Systems.{identity_of, member_of, system_of, with_system_of, with_systems}
use Rattle.gptp_network.specs.Values.{array_at, clock, flag, key_in, kind_of, natural, octets, octets_of_text, spelled_octets, table_at, text, whole}
use Rattle.gptp_network.specs.declared.events.Event.{Event}
use Rattle.gptp_network.specs.declared.fault.DocumentFault.{DocumentFault}
use Rattle.gptp_network.specs.declared.fault.DocumentFault.TheVariants.{EventOrder, MissingKey, OutOfRange}
use Rattle.gptp_network.specs.declared.systems.System.{System}
use Rattle.gptp_network.proofs.EventLemmas.{event_added}
use Rattle.gptp_network.proofs.FitLemmas.{change_fits, link_fits, params_fit, system_fits}
use Rattle.gptp_network.proofs.SnapshotLemmas.{from_filter, member_there, stands_well}
use Rattle.gptp_network.proofs.TakingLemmas.{in_all}
use Rattle.gptp_network.proofs.GivenLemmas.{either, given, next, refused, unless_faulty, value_within, Gives}

-- ---- octets

-- a frame that can be injected: each octet of it is one, and there are at most 2,116
abbrev pub IsFrame : List ℕ → Type 0
IsFrame frame = ((octet : ℕ) → In octet frame → octet < 256) × (length frame ≤ 2116)

-- so many digits spell a frame
spelled_read : (digits : List ℕ) → length digits ≤ 4232 → Gives IsFrame (spelled_octets (decode_of digits))
spelled_read digits few = by (decode_of digits) refl
  where
    by : (r : Result (List ℕ) FromHexError) → decode_of digits ≡ r → Gives IsFrame (spelled_octets r)
    by (Ok frame) is =
        let read = decode_of-ok digits frame is in
        let twice : length digits ≡ 2 * length frame = read.2 in
        given IsFrame frame (each_below frame read.3, omega (arith, few, twice))
    by (Err e) is = refused IsFrame OutOfRange

text_read : (digits : List ℕ) → Gives IsFrame (octets_of_text digits)
text_read digits = by (is_between 1 4232 (length digits)) refl
  where
    by : (test : Bool) → is_between 1 4232 (length digits) ≡ test
        → Gives IsFrame (if test then spelled_octets (decode_of digits) else Err OutOfRange)
    by true is =
        spelled_read digits
        (leb-true (length digits) 4232 (and_parts (nat_le 1 (length digits)) (nat_le (length digits) 4232) is).1)
    by false is = refused IsFrame OutOfRange

octets_read : (key : List ℕ) (t : Members) → Gives IsFrame (octets key t)
unfolding octets
octets_read key t = by (get_member key t)
  where
    by : (o : Option Data) → Gives IsFrame (key_in as_str octets_of_text None o)
    by None = refused IsFrame MissingKey
    by (Some d) = next IsFrame (kind_of (as_str d)) octets_of_text (λ digits is. text_read digits)

-- ---- identities

abbrev AreOctets : List ℕ → Type 0
AreOctets = AllByRecursion (λ n. n < 256)

byte_below : (i n : ℕ) → byte_at i n < 256
byte_below zero n = mod_below n 256 (omega arith)
byte_below (suc i) n = mod_below (n / 256 ^ suc i) 256 (omega arith)

bytes_below : (k n : ℕ) → AreOctets (bytes_high_first k n)
bytes_below zero n = tt
bytes_below (suc k) n = (byte_below k n, bytes_below k n)

octets_behind : (xs ys : List ℕ) → AreOctets xs → AreOctets ys → AreOctets (xs ++ ys)
octets_behind [] ys first rest = rest
octets_behind (x ∷ xs) ys first rest = (first.0, octets_behind xs ys first.1 rest)

octet_at : (xs : List ℕ) → AreOctets xs → (k : ℕ) → slice_index xs k < 256
octet_at [] are k = omega arith
octet_at (x ∷ xs) are zero = are.0
octet_at (x ∷ xs) are (suc k) = octet_at xs are.1 k

identity_below : (priority1 class accuracy variance priority2 name : ℕ) → priority1 ≤ 255 → class ≤ 255
    → accuracy ≤ 255 → priority2 ≤ 255
    → identity_of priority1 class accuracy variance priority2 name < 2 ^ 112
identity_below priority1 class accuracy variance priority2 name first second third last =
    let parts : List ℕ = priority1 ∷ class ∷ accuracy ∷ bytes_high_first 2 variance
    ++ priority2 ∷ bytes_high_first 8 name in
    let are : AreOctets parts = (
      omega (arith, first),
      (
        omega (arith, second),
        (
          omega (arith, third),
          octets_behind (bytes_high_first 2 variance) (priority2 ∷ bytes_high_first 8 name) (bytes_below 2 variance)
              (omega (arith, last), bytes_below 8 name),
        ),
      ),
    ) in
    let below = big_from-lt 0 14 parts (octet_at parts are) in omega (arith, below)

-- an identity has fourteen octets
abbrev HasIdentity : System → Type 0
HasIdentity s = s.identity < 2 ^ 112

octet_read : (key : List ℕ) (default : ℕ) (t : Members) → default ≤ 255
    → Gives (λ n. n ≤ 255) (natural key 0 255 (Some default) t)
octet_read key default t below n is = (value_within key 0 255 (Some default) t (omega arith, below) n is).1

system_read : (version : ℕ) (announce : ℤ) (t : Members) → Gives HasIdentity (system_of version announce t)
unfolding system_of
system_read version announce t =
    next HasIdentity (clock (codes "clock") t) _ (λ name of_name.
    next HasIdentity (natural (codes "priority1") 0 255 (Some 246) t) _ (λ priority1 of_priority1.
    next HasIdentity (natural (codes "class") 0 255 (Some 248) t) _ (λ class of_class.
    next HasIdentity (natural (codes "accuracy") 0 255 (Some 254) t) _ (λ accuracy of_accuracy.
    next HasIdentity (natural (codes "variance") 0 65535 (Some 17258) t) _ (λ variance of_variance.
    next HasIdentity (natural (codes "priority2") 0 255 (Some 248) t) _ (λ priority2 of_priority2.
    next HasIdentity (natural (codes "phase") 0 1000000000000000000 (Some 0) t) _ (λ phase of_phase.
    next HasIdentity (whole (codes "drift") _ _ _ t) _ (λ drift of_drift.
    next HasIdentity (flag (codes "continues") false t) _ (λ continues of_continues.
    next HasIdentity (natural (codes "ports") 0 MOST_PORTS (Some 1) t) _ (λ ports of_ports.
    next HasIdentity (intervals version ports announce t) _ (λ logs of_logs.
    given HasIdentity _ (identity_below priority1 class accuracy variance priority2 name
    (octet_read (codes "priority1") 246 t (omega arith) priority1 of_priority1)
    (octet_read (codes "class") 248 t (omega arith) class of_class)
    (octet_read (codes "accuracy") 254 t (omega arith) accuracy of_accuracy)
    (octet_read (codes "priority2") 248 t (omega arith) priority2 of_priority2)))))))))))))

-- ---- the network

as_kept : (n : NetworkState) → IsNetwork n → IsKeptNetwork n (reduce int_min (logs_of n)) (reduce int_max (logs_of n))
as_kept n is = record { network = is; smallest = refl; largest = refl }

with_system_read : (version : ℕ) (d : Data) (n : NetworkState) → IsNetwork n
    → Gives IsNetwork (with_system_of version d n)
unfolding with_system_of
with_system_read version d n is =
    next IsNetwork (kind_of (as_table d)) _ (λ t of_table.
    next IsNetwork (system_of version n.params.announce t) _ (λ s read.
    unless_faulty IsNetwork (system_fault n (member_of s)) (with_system (member_of s) n) (λ none.
    (system_added n (member_of s) _ _ (as_kept n is) (system_fits n (member_of s) none)
    (system_read version n.params.announce t s read)).network)))

with_link_read : (d : Data) (n : NetworkState) → IsNetwork n → Gives IsNetwork (with_link_of d n)
unfolding with_link_of
with_link_read d n is =
    next IsNetwork (kind_of (as_table d)) _ (λ t of_table.
    next IsNetwork (link_of t) _ (λ l read.
    let w = wire_of (length n.links) l in
    unless_faulty IsNetwork (link_fault n w) (with_link w n) (λ none.
    (link_added n w _ _ (as_kept n is) (link_fits n w refl none)).network)))

each_read : {X : Type 0} (P : X → Type 0) (one : Data → X → Result X DocumentFault)
    → ((d : Data) (x : X) → P x → Gives P (one d x)) → (ds : Items) (x : X) → P x → Gives P (each_of one ds x)
each_read P one keeps no_items x is = given P x is
each_read P one keeps (item d ds) x is =
    next P (one d x) (each_of one ds) (λ y made. each_read P one keeps ds y (keeps d x is y made))

section_read : (t : Members) → Gives IsNetwork (network_of t)
unfolding network_of network_of_section
section_read t =
    next IsNetwork (table_at (codes "network") t) _ (λ section of_section.
    next IsNetwork (params_of section) _ (λ p read.
    unless_faulty IsNetwork (params_fault p) (without_members p) (λ none. (none_yet p (params_fit p none)).network)))

systems_read : (version : ℕ) (t : Members) (n : NetworkState) → IsNetwork n → Gives IsNetwork (with_systems version t n)
unfolding with_systems
systems_read version t n is =
    next IsNetwork (array_at (codes "system") t) _ (λ ds of_ds.
    next IsNetwork (needed ds) _ (λ some of_some.
    next IsNetwork (limited 512 some) _ (λ few of_few.
    each_read IsNetwork (with_system_of version) (with_system_read version) few n is)))

links_read : (t : Members) (n : NetworkState) → IsNetwork n → Gives IsNetwork (with_links t n)
unfolding with_links
links_read t n is =
    next IsNetwork (array_at (codes "link") t) _ (λ ds of_ds.
    next IsNetwork (limited 2048 ds) _ (λ few of_few. each_read IsNetwork with_link_of with_link_read few n is))

network_read : (version : ℕ) (t : Members) → Gives IsNetwork (whole_network_of version t)
unfolding whole_network_of
network_read version t =
    next IsNetwork (network_of t) _ (λ values of_values.
    next IsNetwork (with_systems version t values) _ (λ systems of_systems.
    links_read t systems (systems_read version t values (section_read t values of_values) systems of_systems)))

-- ---- events

-- a priority1 that is set is an octet, and what is injected is a frame
abbrev pub SetsOctets : Act → Type 0
SetsOctets (acts.Change (changes.Priority1 name value)) = value < 256
SetsOctets (acts.Change (changes.Inject name port frame)) = IsFrame frame
SetsOctets act = ⊤

-- what is read of a change
record IsReadChange (change : Change) : Type 0 where
  range : IsInRange change
  octets : SetsOctets (acts.Change change)

link_down_read : (t : Members) → Gives IsReadChange (link_down_of t)
unfolding link_down_of
link_down_read t =
    next IsReadChange (clock (codes "clock") t) _ (λ name of_name.
    next IsReadChange (natural (codes "port") 1 MOST_PORTS None t) _ (λ port of_port.
    given IsReadChange (changes.LinkDown name port) (record { range = tt; octets = tt })))

link_up_read : (t : Members) → Gives IsReadChange (link_up_of t)
unfolding link_up_of
link_up_read t =
    next IsReadChange (clock (codes "clock") t) _ (λ name of_name.
    next IsReadChange (natural (codes "port") 1 MOST_PORTS None t) _ (λ port of_port.
    given IsReadChange (changes.LinkUp name port) (record { range = tt; octets = tt })))

link_set_read : (t : Members) → Gives IsReadChange (link_set_of t)
unfolding link_set_of
link_set_read t =
    next IsReadChange (clock (codes "clock") t) _ (λ name of_name.
    next IsReadChange (natural (codes "port") 1 MOST_PORTS None t) _ (λ port of_port.
    next IsReadChange (natural (codes "min") 1 16000000000 None t) _ (λ least of_least.
    next IsReadChange (natural (codes "max") 1 16000000000 None t) _ (λ greatest of_greatest.
    next IsReadChange (natural (codes "loss") 0 1000 None t) _ (λ loss of_loss.
    given IsReadChange (changes.LinkSet name port least greatest loss) (record {
      range = (
        (value_within (codes "min") 1 16000000000 None t tt least of_least).0,
        (value_within (codes "loss") 0 1000 None t tt loss of_loss).1,
      );
      octets = tt;
    }))))))

fail_read : (t : Members) → Gives IsReadChange (fail_of t)
unfolding fail_of
fail_read t =
    next IsReadChange (clock (codes "clock") t) _ (λ name of_name.
    given IsReadChange (changes.Fail name) (record { range = tt; octets = tt }))

recover_read : (t : Members) → Gives IsReadChange (recover_of t)
unfolding recover_of
recover_read t =
    next IsReadChange (clock (codes "clock") t) _ (λ name of_name.
    given IsReadChange (changes.Recover name) (record { range = tt; octets = tt }))

priority1_read : (t : Members) → Gives IsReadChange (priority1_of t)
unfolding priority1_of
priority1_read t =
    next IsReadChange (clock (codes "clock") t) _ (λ name of_name.
    next IsReadChange (natural (codes "value") 0 255 None t) _ (λ value of_value.
    let most = (value_within (codes "value") 0 255 None t tt value of_value).1 in
    given IsReadChange (changes.Priority1 name value) (record { range = tt; octets = omega (arith, most) })))

inject_read : (t : Members) → Gives IsReadChange (inject_of t)
unfolding inject_of
inject_read t =
    next IsReadChange (clock (codes "clock") t) _ (λ name of_name.
    next IsReadChange (natural (codes "port") 1 MOST_PORTS None t) _ (λ port of_port.
    next IsReadChange (octets (codes "octets") t) _ (λ frame of_frame.
    given IsReadChange (changes.Inject name port frame)
    (record { range = tt; octets = octets_read (codes "octets") t frame of_frame }))))

change_read : (kind : List ℕ) (t : Members) → Gives IsReadChange (change_of kind t)
unfolding change_of
change_read kind t =
    either IsReadChange (bytes_eq kind (codes "link_down")) _ _ (link_down_read t)
    (either IsReadChange (bytes_eq kind (codes "link_up")) _ _ (link_up_read t)
    (either IsReadChange (bytes_eq kind (codes "link_set")) _ _ (link_set_read t)
    (either IsReadChange (bytes_eq kind (codes "fail")) _ _ (fail_read t)
    (either IsReadChange (bytes_eq kind (codes "recover")) _ _ (recover_read t)
    (either IsReadChange (bytes_eq kind (codes "priority1")) _ _ (priority1_read t)
    (either IsReadChange (bytes_eq kind (codes "inject")) _ _ (inject_read t) (refused IsReadChange OutOfRange)))))))

-- what is read of an event
record IsRead (e : Event) : Type 0 where
  early : e.at ≤ LATEST_EVENT
  change : IsReadChange e.change

event_read : (t : Members) → Gives IsRead (event_of t)
unfolding event_of
event_read t =
    next IsRead (natural (codes "at") 0 LATEST_EVENT None t) _ (λ at of_at.
    next IsRead (text (codes "kind") t) _ (λ kind of_kind.
    next IsRead (change_of kind t) _ (λ change of_change.
    given IsRead (record { at = at; change = change }) (record {
      early = (value_within (codes "at") 0 LATEST_EVENT None t tt at of_at).1;
      change = change_read kind t change of_change;
    }))))

-- no earlier than the one before
record IsLater (last : ℕ) (e : Event) : Type 0 where
  read : IsRead e
  later : last ≤ e.at

in_order : (last : ℕ) (e : Event) → IsRead e → Gives (IsLater last) (not_before last e)
in_order last e read = by (nat_lt e.at last) refl
  where
    by : (test : Bool) → nat_lt e.at last ≡ test → Gives (IsLater last) (if test then Err EventOrder else Ok e)
    by true is = refused (IsLater last) EventOrder
    by false is = given (IsLater last) e (record { read = read; later = grind (arith, nat_tests) })

-- the events of a document, each of which sets octets
record AreRead (n : NetworkState) (es : List Timed) : Type 0 where
  events : AreEvents n es
  octets : AllByRecursion (λ (t : Timed). SetsOctets t.act) es

octets_behind_all : (es : List Timed) (t : Timed) → AllByRecursion (λ (u : Timed). SetsOctets u.act) es
    → SetsOctets t.act → AllByRecursion (λ (u : Timed). SetsOctets u.act) (es ++ t ∷ [])
octets_behind_all [] t all one = (one, tt)
octets_behind_all (e ∷ es) t all one = (all.0, octets_behind_all es t all.1 one)

with_event_read : (n : NetworkState) (d : Data) (es : List Timed) → AreRead n es
    → Gives (AreRead n) (with_event_of n d es)
unfolding with_event_of
with_event_read n d es are =
    next (AreRead n) (kind_of (as_table d)) _ (λ t of_table.
    next (AreRead n) (event_of t) _ (λ e of_event.
    next (AreRead n) (not_before (last_change es) e) _ (λ later of_later.
    let is = in_order (last_change es) e (event_read t e of_event) later of_later in
    unless_faulty (AreRead n) (change_fault n later.change) (es ++ timed later ∷ []) (λ none. record {
      events = event_added n es later are.events is.later is.read.early
          (change_fits n later.change none is.read.change.range);
      octets = octets_behind_all es (timed later) are.octets is.read.change.octets;
    }))))

events_read : (t : Members) (n : NetworkState) → Gives (AreRead n) (events_of t n)
unfolding events_of
events_read t n =
    next (AreRead n) (array_at (codes "event") t) _ (λ ds of_ds.
    next (AreRead n) (limited 4096 ds) _ (λ few of_few.
    each_read (AreRead n) (with_event_of n) (with_event_read n) few []
    (record { events = record { in_order = tt; each = tt }; octets = tt })))

-- ---- documents

-- what is read of a document
record IsReadDocument (d : DocumentState) : Type 0 where
  network : IsNetwork d.network
  events : AreRead d.network d.events

document_read : (t : Members) → Gives IsReadDocument (document_of t)
unfolding document_of
document_read t =
    next IsReadDocument (natural (codes "version") 1 2 None t) _ (λ version of_version.
    next IsReadDocument (whole_network_of version t) _ (λ network of_network.
    next IsReadDocument (events_of t network) _ (λ events of_events.
    given IsReadDocument (record { network = network; events = events }) (record {
      network = network_read version t network of_network;
      events = events_read t network events of_events;
    }))))

pub meant_document : (octets : List ℕ) (d : DocumentState) → Means octets d
    → IsNetwork d.network × AreEvents d.network d.events
meant_document octets d means =
    let is = document_read means.table d means.is in (is.network, is.events.events)

pub meant_octets : (octets : List ℕ) (d : DocumentState) → Means octets d
    → AllByRecursion (λ (t : Timed). SetsOctets t.act) d.events
meant_octets octets d means = (document_read means.table d means.is).events.octets

-- ---- snapshots

-- an identity is of fourteen octets after events too
acted_below : (act : Act) (own : ℕ) (s : _) → SetsOctets act
    → (with_live true s).identity < 2 ^ 112
    → (system_acted act own s).identity < 2 ^ 112
acted_below (acts.Deliver link direction) own s sets below = below
acted_below (acts.Expire name timer) own s sets below = below
acted_below (acts.Change (changes.LinkDown name port)) own s sets below = below
acted_below (acts.Change (changes.LinkUp name port)) own s sets below = below
acted_below (acts.Change (changes.LinkSet name port least greatest loss)) own s sets below = below
acted_below (acts.Change (changes.Fail name)) own s sets below = by (name == own)
  where
    by : (test : Bool) → (if test then with_live false s else s).identity < 2 ^ 112
    by true = below
    by false = below
acted_below (acts.Change (changes.Recover name)) own s sets below = by (name == own)
  where
    by : (test : Bool) → (if test then with_live true s else s).identity < 2 ^ 112
    by true = below
    by false = below
acted_below (acts.Change (changes.Priority1 name value)) own s sets below = by (name == own)
  where
    by : (test : Bool) → (if test then with_priority1 value s else s).identity < 2 ^ 112
    by true = let rest = mod_below s.identity (2 ^ 104) (omega arith) in omega (arith, rest, sets)
    by false = below
acted_below (acts.Change (changes.Inject name port frame)) own s sets below = below

pub stands_below : (es : List Timed) → ((t : Timed) → In t es → SetsOctets t.act) → (own : ℕ) (s : _)
    → (with_live true s).identity < 2 ^ 112 → (system_stands es own s).identity < 2 ^ 112
stands_below [] sets own s below = below
stands_below (t ∷ es) sets own s below =
    stands_below es (λ u member. sets u (inr member)) own (system_acted t.act own s)
    (acted_below t.act own s (sets t (inl refl)) below)

pub meant_well : (octets : List ℕ) (d : DocumentState) (time : ℕ) (g : Snapshot) → Means octets d → IsSnapshot d time g
    → IsWellFormed g
meant_well octets d time g means stands =
    let network = (meant_document octets d means).0 in
    let sets : (t : Timed) → In t d.events → SetsOctets t.act =
    λ t member. in_all (λ (u : Timed). SetsOctets u.act) t d.events (meant_octets octets d means) member in
    stands_well d.network network (events_by time d.events) g stands (λ s live.
    let (m, at, is) = member_there d.network network (events_by time d.events) g stands s live in
    let (place, there) = slice_get-In m d.network.systems at in
    subst (λ (t : LiveSystem). t.identity < 2 ^ 112) is
    (stands_below (events_by time d.events)
    (λ t member. sets t (from_filter (λ (u : Timed). nat_le u.at time) t d.events member).0)
    (clock_of m.identity) (standing m) (network.identities place m there)))
