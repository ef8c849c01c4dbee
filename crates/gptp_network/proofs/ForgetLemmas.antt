-- What is read is what is meant, where it is forgotten why and where it is refused.
use Rattle.std.proofs.Common.{◌≡◌, ◌&&◌, ◌==◌, ℕ, suc, ℤ, pos, negsuc, neg_ℤ, Bool, true, false, codes, List, [], ◌∷◌, ◌++◌, length, replicate, Option, Some, None, Result, Ok, Err, refl, sym, ap, subst, ◌∙◌}
use Rattle.std.specs.Prelude.{bytes_eq, if◌then◌else◌, int_le, nat_lt}
use Rattle.hex.specs.Hex.{decode_of, decode_sized}
use Rattle.hex.specs.declared.error.FromHexError.{FromHexError}
use Rattle.toml.specs.Data.{Data, Items, Members, item, no_items, as_array, as_bool, as_integer, as_str, as_table, get_member, no_members}
use Rattle.gptp_roles.specs.Selection.{clock_of}
use Rattle.gptp_setup.specs.declared.limits.TheConstants.{MOST_PORTS}
use Rattle.gptp_scenario.specs.Calm.{last_change}
use Rattle.gptp_scenario.specs.Network.{NetworkState, link_fault, system_fault, with_link, with_system, without_members}
use Rattle.gptp_scenario.specs.Params.{is_between, params_fault}
use Rattle.gptp_scenario.specs.declared.change.Timed.{Timed}
use Rattle.gptp_network.specs.Document.{DocumentState, document_of, whole_network_of}
use Rattle.gptp_network.specs.Events.{change_fault, change_of, event_of, events_of, fail_of, inject_of, link_down_of, link_set_of, link_up_of, not_before, priority1_of, recover_of, timed, with_event_of}
use Rattle.gptp_network.specs.Faults.{◌>>=◌, tested}
use Rattle.gptp_network.specs.Intervals.{intervals, intervals_in}
use Rattle.gptp_network.specs.Keys.{name_text}
use Rattle.gptp_network.specs.Links.{link_of, wire_of, with_link_of, with_links}
use Rattle.gptp_network.specs.Members.{count, each_of, limited, needed}
use Rattle.gptp_network.specs.Params.{network_of, network_of_section, params_of}
use Rattle.gptp_network.specs.Place.{section_limit, section_name}
use Rattle.gptp_network.specs.ReadDocument.{read_document, read_version, read_whole_network}
use Rattle.gptp_network.specs.ReadEvents.{change_why, no_earlier, read_change, read_event, read_events, read_fail, read_inject, read_link_down, read_link_set, read_link_up, read_priority1, read_recover, read_with_event}
use Rattle.gptp_network.specs.ReadIntervals.{read_array, read_intervals}
use Rattle.gptp_network.specs.ReadLinks.{link_why, read_link, read_with_link, read_with_links}
use Rattle.gptp_network.specs.ReadMembers.{limited_in, needed_in, read_each, section_in}
use Rattle.gptp_network.specs.ReadParams.{params_why, read_network, read_params, read_section}
use Rattle.gptp_network.specs.ReadSystems.{first_shorter, put_system, read_system, read_with_system, read_with_systems, system_why}
use Rattle.gptp_network.specs.Reading.{NaturalKey, WholeKey, array_in, clock_at, clock_in, clock_of_digits, flag_at, kind_at, natural_at, natural_in, octets_at, octets_in, octets_of_digits, table_in, text_at, value_in, whole_at, whole_in}
use Rattle.gptp_network.specs.Systems.{member_of, system_of, with_system_of, with_systems}
use Rattle.gptp_network.specs.Values.{array_at, clock, clock_of_octets, clock_of_text, flag, key_in, kind_of, natural, natural_of, octets, octets_of_text, spelled_octets, table_at, text, whole, whole_of}
use Rattle.gptp_network.specs.Why.{at_place, fault_of, forget, forget_place, front_of}
use Rattle.gptp_network.specs.declared.events.Event.{Event}
use Rattle.gptp_network.specs.declared.fault.DocumentFault.{DocumentFault}
use Rattle.gptp_network.specs.declared.fault.DocumentFault.TheVariants as faults
use Rattle.gptp_network.specs.declared.keys.Name.{Name}
use Rattle.gptp_network.specs.declared.keys.Name.TheVariants as names
use Rattle.gptp_network.specs.declared.keys.TheConstants.{ACCURACY, ANNOUNCE, AT, A_PORT, B_PORT, CLASS, DRIFT, GRANULARITY, LOSS, LOST, MAX, MIN, NOISE, PDELAY, PHASE, PORT, PORTS, PRIORITY1, PRIORITY2, RESIDENCE, SET_LOSS, SYNC, SYNC_TIMEOUT, THRESHOLD, TIMEOUT, TURNAROUND, VALUE, VARIANCE, VERSION, WINDOW, LATEST_EVENT}
use Rattle.gptp_network.specs.declared.place.Place.{Place}
use Rattle.gptp_network.specs.declared.place.Place.TheVariants as places
use Rattle.gptp_network.specs.declared.place.Section.{Section}
use Rattle.gptp_network.specs.declared.place.Section.TheVariants as sections
use Rattle.gptp_network.specs.declared.systems.System.{System}
use Rattle.gptp_network.specs.declared.why.Refusal.{Refusal}
use Rattle.gptp_network.specs.declared.why.Why.{Why}
use Rattle.gptp_network.specs.declared.why.Why.TheVariants as whys
use Rattle.gptp_network.proofs.WhyLemmas.{array_agrees, change_faults, link_faults, params_faults, system_faults, told_is}

-- ---- steps

-- a step is forgotten with what is made of its answer
step : {A B : Type 0} (m : Result A Why) (n : Result A DocumentFault) (f : A → Result B Why)
    (g : A → Result B DocumentFault) → forget m ≡ n → ((a : A) → forget (f a) ≡ g a)
    → forget (m >>= f) ≡ (n >>= g)
step {A} (Ok a) n f g same more =
    subst (λ (r : Result A DocumentFault). forget (f a) ≡ (r >>= g)) same (more a)
step {A} (Err why) n f g same more =
    subst (λ (r : Result A DocumentFault). Err (fault_of why) ≡ (r >>= g)) same refl

step_at : {A B : Type 0} (m : Result A Refusal) (n : Result A DocumentFault) (f : A → Result B Refusal)
    (g : A → Result B DocumentFault) → forget_place m ≡ n → ((a : A) → forget_place (f a) ≡ g a)
    → forget_place (m >>= f) ≡ (n >>= g)
step_at {A} (Ok a) n f g same more =
    subst (λ (r : Result A DocumentFault). forget_place (f a) ≡ (r >>= g)) same (more a)
step_at {A} (Err refusal) n f g same more =
    subst (λ (r : Result A DocumentFault). Err (fault_of refusal.why) ≡ (r >>= g)) same refl

forget_at : {X : Type 0} (place : Place) (m : Result X Why) → forget_place (at_place place m) ≡ forget m
forget_at place (Ok x) = refl
forget_at place (Err why) = refl

either : {X : Type 0} (test : Bool) (a b : Result X Why) (c d : Result X DocumentFault) → forget a ≡ c
    → forget b ≡ d → forget (if test then a else b) ≡ (if test then c else d)
either true a b c d first second = first
either false a b c d first second = second

-- ---- values

kind_is : {X : Type 0} (key : Name) (d : Data) (o : Option X) → forget (kind_at key d o) ≡ kind_of o
kind_is key d None = refl
kind_is key d (Some x) = refl

value_is : {X Y : Type 0} (key : Name) (kind : Data → Option X) (meaning : X → Result Y Why)
    (plain : X → Result Y DocumentFault) → ((x : X) → forget (meaning x) ≡ plain x)
    → (default : Option Y) (value : Option Data)
    → forget (value_in key kind meaning default value) ≡ key_in kind plain default value
value_is key kind meaning plain same None None = refl
value_is key kind meaning plain same (Some y) None = refl
value_is key kind meaning plain same default (Some d) =
    step (kind_at key d (kind d)) (kind_of (kind d)) meaning plain (kind_is key d (kind d)) same

natural_same : (key : NaturalKey) (z : ℤ) → forget (natural_in key z) ≡ natural_of key.1 key.2 z
natural_same key (pos n) =
    either (is_between key.1 key.2 n) (Ok n) (Err (whys.Natural key.0 (pos n) key.1 key.2)) (Ok n)
    (Err faults.OutOfRange) refl refl
natural_same key (negsuc n) = refl

natural_is : (key : NaturalKey) (t : Members)
    → forget (natural_at key t) ≡ natural (name_text key.0) key.1 key.2 key.3 t
unfolding natural_at natural
natural_is key t =
    value_is key.0 as_integer (natural_in key) (natural_of key.1 key.2) (natural_same key) key.3
    (get_member (name_text key.0) t)

whole_same : (key : WholeKey) (z : ℤ) → forget (whole_in key z) ≡ whole_of key.1 key.2 z
whole_same key z =
    either (int_le key.1 z && int_le z key.2) (Ok z) (Err (whys.Whole key.0 z key.1 key.2)) (Ok z)
    (Err faults.OutOfRange) refl refl

whole_is : (key : WholeKey) (t : Members)
    → forget (whole_at key t) ≡ whole (name_text key.0) key.1 key.2 (Some key.3) t
unfolding whole_at whole
whole_is key t =
    value_is key.0 as_integer (whole_in key) (whole_of key.1 key.2) (whole_same key) (Some key.3)
    (get_member (name_text key.0) t)

flag_is : (key : Name) (default : Bool) (t : Members) → forget (flag_at key default t) ≡ flag (name_text key) default t
unfolding flag_at flag
flag_is key default t =
    value_is key as_bool (λ b. Ok b) (λ b. Ok b) (λ b. refl) (Some default) (get_member (name_text key) t)

text_is : (key : Name) (t : Members) → forget (text_at key t) ≡ text (name_text key) t
unfolding text_at text
text_is key t = value_is key as_str (λ s. Ok s) (λ s. Ok s) (λ s. refl) None (get_member (name_text key) t)

clock_same : (key : Name) (digits : List ℕ) → forget (clock_in key digits) ≡ clock_of_text digits
clock_same key digits = by (decode_sized digits 8)
  where
    by : (r : Result (List ℕ) FromHexError)
        → forget (clock_of_digits key digits r) ≡ clock_of_octets r
    by (Ok octets) = refl
    by (Err e) = refl

clock_is : (key : Name) (t : Members) → forget (clock_at key t) ≡ clock (name_text key) t
unfolding clock_at clock
clock_is key t = value_is key as_str (clock_in key) clock_of_text (clock_same key) None (get_member (name_text key) t)

digits_same : (key : Name) (digits : List ℕ) (r : Result (List ℕ) FromHexError)
    → forget (octets_of_digits key digits r) ≡ spelled_octets r
digits_same key digits (Ok frame) = refl
digits_same key digits (Err e) = refl

octets_same : (key : Name) (digits : List ℕ) → forget (octets_in key digits) ≡ octets_of_text digits
octets_same key digits =
    either (is_between 1 4232 (length digits)) (octets_of_digits key digits (decode_of digits))
    (Err (whys.Text key (front_of digits))) (spelled_octets (decode_of digits)) (Err faults.OutOfRange)
    (digits_same key digits (decode_of digits)) refl

octets_is : (key : Name) (t : Members) → forget (octets_at key t) ≡ octets (name_text key) t
unfolding octets_at octets
octets_is key t =
    value_is key as_str (octets_in key) octets_of_text (octets_same key) None (get_member (name_text key) t)

table_is : (key : Name) (t : Members) → forget (table_in key t) ≡ table_at (name_text key) t
unfolding table_in table_at
table_is key t =
    value_is key as_table (λ ms. Ok ms) (λ ms. Ok ms) (λ ms. refl) (Some no_members) (get_member (name_text key) t)

array_is : (key : Name) (t : Members) → forget (array_in key t) ≡ array_at (name_text key) t
unfolding array_in array_at
array_is key t =
    value_is key as_array (λ ds. Ok ds) (λ ds. Ok ds) (λ ds. refl) (Some no_items) (get_member (name_text key) t)

-- ---- members

section_is : (section : Section) (t : Members)
    → forget_place (section_in section t) ≡ array_at (name_text (section_name section)) t
section_is section t =
    forget_at places.Top (array_in (section_name section) t) ∙ array_is (section_name section) t

either_at : {X : Type 0} (test : Bool) (a b : Result X Refusal) (c d : Result X DocumentFault) → forget_place a ≡ c
    → forget_place b ≡ d → forget_place (if test then a else b) ≡ (if test then c else d)
either_at true a b c d first second = first
either_at false a b c d first second = second

needed_is : (ds : Items) → forget_place (needed_in ds) ≡ needed ds
unfolding needed_in needed
needed_is ds = either_at (count ds == 0) _ (Ok ds) (Err faults.MissingKey) (Ok ds) refl refl

limited_is : (section : Section) (ds : Items)
    → forget_place (limited_in section ds) ≡ limited (section_limit section) ds
unfolding limited_in limited
limited_is section ds =
    either_at (nat_lt (section_limit section) (count ds)) _ (Ok ds) (Err faults.TooMany) (Ok ds) refl refl

each_is : {X : Type 0} (section : Section) (one : Data → X → Result X Why) (plain : Data → X → Result X DocumentFault)
    → ((d : Data) (x : X) → forget (one d x) ≡ plain d x) → (number : ℕ) (ds : Items) (x : X)
    → forget_place (read_each section one number ds x) ≡ each_of plain ds x
each_is section one plain same number no_items x = refl
each_is section one plain same number (item d ds) x =
    step_at (at_place (places.Member section number) (one d x)) (plain d x) (read_each section one (suc number) ds)
    (each_of plain ds) (forget_at (places.Member section number) (one d x) ∙ same d x)
    (λ y. each_is section one plain same (suc number) ds y)

-- ---- `[network]`

params_is : (t : Members) → forget (read_params t) ≡ params_of t
unfolding read_params params_of
params_is t =
    step (whole_at ANNOUNCE t) (whole (codes "announce") (neg_ℤ (pos 4)) (pos 4) (Some (pos 0)) t) _ _
    (whole_is ANNOUNCE t) (λ announce.
    step (whole_at SYNC t) (whole (codes "sync") (neg_ℤ (pos 4)) (pos 4) (Some (neg_ℤ (pos 3))) t) _ _
    (whole_is SYNC t) (λ sync.
    step (whole_at PDELAY t) (whole (codes "pdelay") (neg_ℤ (pos 4)) (pos 4) (Some (pos 0)) t) _ _
    (whole_is PDELAY t) (λ pdelay.
    step (natural_at TIMEOUT t) (natural (codes "timeout") 3 10 (Some 3) t) _ _ (natural_is TIMEOUT t) (λ timeout.
    step (natural_at LOST t) (natural (codes "lost") 1 255 (Some 9) t) _ _ (natural_is LOST t) (λ lost.
    step (natural_at THRESHOLD t) (natural (codes "threshold") 1 1000000000 (Some 800) t) _ _
    (natural_is THRESHOLD t) (λ threshold.
    step (natural_at TURNAROUND t) (natural (codes "turnaround") 1 1000000000 (Some 1000) t) _ _
    (natural_is TURNAROUND t) (λ turnaround.
    step (natural_at RESIDENCE t) (natural (codes "residence") 1 1000000000 (Some 1000) t) _ _
    (natural_is RESIDENCE t) (λ residence.
    step (natural_at SYNC_TIMEOUT t) (natural (codes "sync_timeout") 0 10 (Some 0) t) _ _
    (natural_is SYNC_TIMEOUT t) (λ sync_timeout.
    step (natural_at GRANULARITY t) (natural (codes "granularity") 0 1000 (Some 0) t) _ _ (natural_is GRANULARITY t)
    (λ granularity.
    step (natural_at NOISE t) (natural (codes "noise") 0 1000 (Some 0) t) _ _ (natural_is NOISE t) (λ noise.
    step (natural_at WINDOW t) (natural (codes "window") 1 16 (Some 1) t) _ _ (natural_is WINDOW t) (λ window.
    refl))))))))))))

network_in_is : (t : Members) → forget (read_section t) ≡ network_of_section t
unfolding read_section network_of_section
network_in_is t =
    step (read_params t) (params_of t) _ _ (params_is t) (λ params.
    told_is (params_why params) (params_fault params) (without_members params) (params_faults params))

network_is : (t : Members) → forget_place (read_network t) ≡ network_of t
unfolding read_network network_of
network_is t =
    step_at (at_place places.Top (table_in names.Network t)) (table_at (codes "network") t) _ _
    (forget_at places.Top (table_in names.Network t) ∙ table_is names.Network t) (λ section.
    forget_at places.Network (read_section section) ∙ network_in_is section)

-- ---- `[[system]]`

intervals_are : (version ports : ℕ) (default : ℤ) (t : Members)
    → forget (read_intervals version ports default t) ≡ intervals version ports default t
unfolding read_intervals intervals
intervals_are version ports default t =
    let alike : List ℤ = replicate ports default in
    let value = get_member (codes "announce") t in
    either (version == 2) (value_in names.Announce as_array (read_array ports) (Some alike) value) (Ok alike)
    (key_in as_array (intervals_in ports) (Some alike) value) (Ok alike)
    (value_is names.Announce as_array (read_array ports) (intervals_in ports) (array_agrees ports) (Some alike) value)
    refl

system_is : (version : ℕ) (announce : ℤ) (t : Members)
    → forget (read_system version announce t) ≡ system_of version announce t
unfolding read_system system_of
system_is version announce t =
    step (clock_at names.Clock t) (clock (codes "clock") t) _ _ (clock_is names.Clock t) (λ name.
    step (natural_at PRIORITY1 t) (natural (codes "priority1") 0 255 (Some 246) t) _ _
    (natural_is PRIORITY1 t) (λ priority1.
    step (natural_at CLASS t) (natural (codes "class") 0 255 (Some 248) t) _ _ (natural_is CLASS t) (λ class.
    step (natural_at ACCURACY t) (natural (codes "accuracy") 0 255 (Some 254) t) _ _
    (natural_is ACCURACY t) (λ accuracy.
    step (natural_at VARIANCE t) (natural (codes "variance") 0 65535 (Some 17258) t) _ _
    (natural_is VARIANCE t) (λ variance.
    step (natural_at PRIORITY2 t) (natural (codes "priority2") 0 255 (Some 248) t) _ _
    (natural_is PRIORITY2 t) (λ priority2.
    step (natural_at PHASE t) (natural (codes "phase") 0 1000000000000000000 (Some 0) t) _ _
    (natural_is PHASE t) (λ phase.
    step (whole_at DRIFT t) (whole (codes "drift") (neg_ℤ (pos 219902325)) (pos 219902325) (Some (pos 0)) t) _ _
    (whole_is DRIFT t) (λ drift.
    step (flag_at names.Continues false t) (flag (codes "continues") false t) _ _
    (flag_is names.Continues false t) (λ continues.
    step (natural_at PORTS t) (natural (codes "ports") 0 MOST_PORTS (Some 1) t) _ _ (natural_is PORTS t) (λ ports.
    step (read_intervals version ports announce t) (intervals version ports announce t) _ _
    (intervals_are version ports announce t) (λ logs. refl)))))))))))

put_system_is : (s : System) (n : NetworkState)
    → forget (put_system s n) ≡ tested (system_fault n (member_of s)) (with_system (member_of s) n)
put_system_is s n =
    let log = first_shorter n.params.pdelay s.intervals.items n.params.announce in
    told_is (system_why n (clock_of s.identity) log) (system_fault n (member_of s)) (with_system (member_of s) n)
    (system_faults n (clock_of s.identity) log)

with_system_is : (version : ℕ) (d : Data) (n : NetworkState)
    → forget (read_with_system version d n) ≡ with_system_of version d n
unfolding read_with_system with_system_of
with_system_is version d n =
    step (kind_at names.System d (as_table d)) (kind_of (as_table d)) _ _ (kind_is names.System d (as_table d)) (λ t.
    step (read_system version n.params.announce t) (system_of version n.params.announce t) _ _
    (system_is version n.params.announce t) (λ s. put_system_is s n))

with_systems_is : (version : ℕ) (t : Members) (n : NetworkState)
    → forget_place (read_with_systems version t n) ≡ with_systems version t n
unfolding read_with_systems with_systems
with_systems_is version t n =
    step_at (section_in sections.System t) (array_at (codes "system") t) _ _ (section_is sections.System t) (λ ds.
    step_at (needed_in ds) (needed ds) _ _ (needed_is ds) (λ some.
    step_at (limited_in sections.System some) (limited 512 some) _ _ (limited_is sections.System some) (λ few.
    each_is sections.System (read_with_system version) (with_system_of version) (with_system_is version) 0 few n)))

-- ---- `[[link]]`

link_is : (t : Members) → forget (read_link t) ≡ link_of t
unfolding read_link link_of
link_is t =
    step (clock_at names.A t) (clock (codes "a") t) _ _ (clock_is names.A t) (λ a.
    step (natural_at A_PORT t) (natural (codes "a_port") 1 MOST_PORTS None t) _ _ (natural_is A_PORT t) (λ a_port.
    step (clock_at names.B t) (clock (codes "b") t) _ _ (clock_is names.B t) (λ b.
    step (natural_at B_PORT t) (natural (codes "b_port") 1 MOST_PORTS None t) _ _ (natural_is B_PORT t) (λ b_port.
    step (natural_at MIN t) (natural (codes "min") 1 16000000000 None t) _ _ (natural_is MIN t) (λ least.
    step (natural_at MAX t) (natural (codes "max") 1 16000000000 None t) _ _ (natural_is MAX t) (λ greatest.
    step (natural_at LOSS t) (natural (codes "loss") 0 1000 (Some 0) t) _ _ (natural_is LOSS t) (λ loss.
    step (flag_at names.Up true t) (flag (codes "up") true t) _ _ (flag_is names.Up true t) (λ up. refl))))))))

with_link_is : (d : Data) (n : NetworkState) → forget (read_with_link d n) ≡ with_link_of d n
unfolding read_with_link with_link_of
with_link_is d n =
    step (kind_at names.Link d (as_table d)) (kind_of (as_table d)) _ _ (kind_is names.Link d (as_table d)) (λ t.
    step (read_link t) (link_of t) _ _ (link_is t) (λ l.
    told_is (link_why n l) (link_fault n (wire_of (length n.links) l)) (with_link (wire_of (length n.links) l) n)
    (link_faults n l)))

with_links_is : (t : Members) (n : NetworkState) → forget_place (read_with_links t n) ≡ with_links t n
unfolding read_with_links with_links
with_links_is t n =
    step_at (section_in sections.Link t) (array_at (codes "link") t) _ _ (section_is sections.Link t) (λ ds.
    step_at (limited_in sections.Link ds) (limited 2048 ds) _ _ (limited_is sections.Link ds) (λ few.
    each_is sections.Link read_with_link with_link_of with_link_is 0 few n))

-- ---- `[[event]]`

link_down_is : (t : Members) → forget (read_link_down t) ≡ link_down_of t
unfolding read_link_down link_down_of
link_down_is t =
    step (clock_at names.Clock t) (clock (codes "clock") t) _ _ (clock_is names.Clock t) (λ name.
    step (natural_at PORT t) (natural (codes "port") 1 MOST_PORTS None t) _ _ (natural_is PORT t) (λ port. refl))

link_up_is : (t : Members) → forget (read_link_up t) ≡ link_up_of t
unfolding read_link_up link_up_of
link_up_is t =
    step (clock_at names.Clock t) (clock (codes "clock") t) _ _ (clock_is names.Clock t) (λ name.
    step (natural_at PORT t) (natural (codes "port") 1 MOST_PORTS None t) _ _ (natural_is PORT t) (λ port. refl))

link_set_is : (t : Members) → forget (read_link_set t) ≡ link_set_of t
unfolding read_link_set link_set_of
link_set_is t =
    step (clock_at names.Clock t) (clock (codes "clock") t) _ _ (clock_is names.Clock t) (λ name.
    step (natural_at PORT t) (natural (codes "port") 1 MOST_PORTS None t) _ _ (natural_is PORT t) (λ port.
    step (natural_at MIN t) (natural (codes "min") 1 16000000000 None t) _ _ (natural_is MIN t) (λ least.
    step (natural_at MAX t) (natural (codes "max") 1 16000000000 None t) _ _ (natural_is MAX t) (λ greatest.
    step (natural_at SET_LOSS t) (natural (codes "loss") 0 1000 None t) _ _ (natural_is SET_LOSS t) (λ loss. refl)))))

fail_is : (t : Members) → forget (read_fail t) ≡ fail_of t
unfolding read_fail fail_of
fail_is t = step (clock_at names.Clock t) (clock (codes "clock") t) _ _ (clock_is names.Clock t) (λ name. refl)

recover_is : (t : Members) → forget (read_recover t) ≡ recover_of t
unfolding read_recover recover_of
recover_is t = step (clock_at names.Clock t) (clock (codes "clock") t) _ _ (clock_is names.Clock t) (λ name. refl)

priority1_is : (t : Members) → forget (read_priority1 t) ≡ priority1_of t
unfolding read_priority1 priority1_of
priority1_is t =
    step (clock_at names.Clock t) (clock (codes "clock") t) _ _ (clock_is names.Clock t) (λ name.
    step (natural_at VALUE t) (natural (codes "value") 0 255 None t) _ _ (natural_is VALUE t) (λ value. refl))

inject_is : (t : Members) → forget (read_inject t) ≡ inject_of t
unfolding read_inject inject_of
inject_is t =
    step (clock_at names.Clock t) (clock (codes "clock") t) _ _ (clock_is names.Clock t) (λ name.
    step (natural_at PORT t) (natural (codes "port") 1 MOST_PORTS None t) _ _ (natural_is PORT t) (λ port.
    step (octets_at names.Octets t) (octets (codes "octets") t) _ _ (octets_is names.Octets t) (λ frame. refl)))

change_is : (kind : List ℕ) (t : Members) → forget (read_change kind t) ≡ change_of kind t
unfolding read_change change_of
change_is kind t =
    either (bytes_eq kind (codes "link_down")) _ _ _ _ (link_down_is t)
    (either (bytes_eq kind (codes "link_up")) _ _ _ _ (link_up_is t)
    (either (bytes_eq kind (codes "link_set")) _ _ _ _ (link_set_is t)
    (either (bytes_eq kind (codes "fail")) _ _ _ _ (fail_is t)
    (either (bytes_eq kind (codes "recover")) _ _ _ _ (recover_is t)
    (either (bytes_eq kind (codes "priority1")) _ _ _ _ (priority1_is t)
    (either (bytes_eq kind (codes "inject")) _ _ _ _ (inject_is t) refl))))))

event_is : (t : Members) → forget (read_event t) ≡ event_of t
unfolding read_event event_of
event_is t =
    step (natural_at AT t) (natural (codes "at") 0 LATEST_EVENT None t) _ _ (natural_is AT t) (λ at.
    step (text_at names.Kind t) (text (codes "kind") t) _ _ (text_is names.Kind t) (λ kind.
    step (read_change kind t) (change_of kind t) _ _ (change_is kind t) (λ change. refl)))

order_is : (last : ℕ) (e : Event) → forget (no_earlier last e) ≡ not_before last e
order_is last e =
    either (nat_lt e.at last) (Err (whys.Before e.at last)) (Ok e) (Err faults.EventOrder) (Ok e) refl refl

with_event_is : (n : NetworkState) (d : Data) (es : List Timed)
    → forget (read_with_event n d es) ≡ with_event_of n d es
unfolding read_with_event with_event_of
with_event_is n d es =
    step (kind_at names.Event d (as_table d)) (kind_of (as_table d)) _ _ (kind_is names.Event d (as_table d)) (λ t.
    step (read_event t) (event_of t) _ _ (event_is t) (λ e.
    step (no_earlier (last_change es) e) (not_before (last_change es) e) _ _ (order_is (last_change es) e) (λ later.
    told_is (change_why n later.change) (change_fault n later.change) (es ++ timed later ∷ [])
    (change_faults n later.change))))

events_are : (t : Members) (n : NetworkState) → forget_place (read_events t n) ≡ events_of t n
unfolding read_events events_of
events_are t n =
    step_at (section_in sections.Event t) (array_at (codes "event") t) _ _ (section_is sections.Event t) (λ ds.
    step_at (limited_in sections.Event ds) (limited 4096 ds) _ _ (limited_is sections.Event ds) (λ few.
    each_is sections.Event (read_with_event n) (with_event_of n) (with_event_is n) 0 few []))

-- ---- documents

whole_network_is : (version : ℕ) (t : Members)
    → forget_place (read_whole_network version t) ≡ whole_network_of version t
unfolding read_whole_network whole_network_of
whole_network_is version t =
    step_at (read_network t) (network_of t) _ _ (network_is t) (λ values.
    step_at (read_with_systems version t values) (with_systems version t values) _ _
    (with_systems_is version t values) (λ systems. with_links_is t systems))

-- what a table means as a document, or the fault for which it is refused
pub document_is : (t : Members) → forget_place (read_document t) ≡ document_of t
unfolding read_document document_of
document_is t =
    step_at (read_version t) (natural (codes "version") 1 2 None t) _ _
    (forget_at places.Top (natural_at VERSION t) ∙ natural_is VERSION t) (λ version.
    step_at (read_whole_network version t) (whole_network_of version t) _ _ (whole_network_is version t) (λ network.
    step_at (read_events t network) (events_of t network) _ _ (events_are t network) (λ events. refl)))

pub read_is : (t : Members) (d : DocumentState) → read_document t ≡ Ok d → document_of t ≡ Ok d
read_is t d is = sym (document_is t) ∙ ap forget_place is

pub refused_is : (t : Members) (refusal : Refusal) → read_document t ≡ Err refusal
    → document_of t ≡ Err (fault_of refusal.why)
refused_is t refusal is = sym (document_is t) ∙ ap forget_place is
