-- A document can be played whose members and events pass each test with which they are added.
use Rattle.std.proofs.Common.{◌≡◌, ◌<◌, ◌≤◌, ◌^◌, ◌&&◌, ◌==◌, ℕ, Bool, true, false, nat_le, List, [], ◌∷◌, length, Option, None, Some, refl, subst, arith, eqb-true}
use Rattle.std.specs.Prelude.{nat_lt, not}
use Rattle.std.specs.Int.{int_max, int_min}
use Rattle.std.specs.List.{AllByRecursion, reduce}
use Rattle.std.specs.Option.{is_some}
use Rattle.std.proofs.lemmas.Bool.{and_parts}
use Rattle.std.proofs.lemmas.Bool.Decides.{nat_tests}
use Rattle.gptp_scenario.specs.Network.{IsKeptNetwork, IsNetwork, NetworkState, link_fault, logs_of, system_fault, with_link, with_system, without_members}
use Rattle.gptp_scenario.specs.Params.{params_fault}
use Rattle.gptp_scenario.specs.declared.change.Act.{Act}
use Rattle.gptp_scenario.specs.declared.change.Act.TheVariants as acts
use Rattle.gptp_scenario.specs.declared.change.Change.{Change}
use Rattle.gptp_scenario.specs.declared.change.Change.TheVariants as changes
use Rattle.gptp_scenario.specs.declared.change.Timed.{Timed}
use Rattle.gptp_scenario.specs.declared.network.LinkSpec.{LinkSpec}
use Rattle.gptp_scenario.specs.declared.network.SystemSpec.{SystemSpec}
use Rattle.gptp_scenario.proofs.NetworkLemmas.{link_added, none_yet, system_added}
use Rattle.gptp_network.specs.Document.{DocumentState}
use Rattle.gptp_network.specs.Events.{AreInOrder, IsEvent, IsInRange, change_fault}
use Rattle.gptp_network.specs.declared.keys.TheConstants.{LATEST_EVENT}
use Rattle.gptp_network.proofs.FitLemmas.{change_fits, link_fits, params_fit, system_fits}
use Rattle.gptp_invariants.specs.WorldEncodableLaws.{SetsAnOctet}
use Rattle.gptp_theorem.specs.PlayedLaws.{IsPlayable}
use Rattle.gptp_theorem.proofs.SettlingInvariantLemmas.{each_there}

passed : {X : Type 0} (fault : Option X) → not (is_some fault) ≡ true → fault ≡ None
passed None is = refl
passed (Some x) is = absurd cc

below : (a b : ℕ) → nat_lt a b ≡ true → a < b
below a b is = grind (arith, nat_tests)

no_more : (a b : ℕ) → nat_le a b ≡ true → a ≤ b
no_more a b is = grind (arith, nat_tests)

-- ---- networks

-- each system passes, behind those before it
abbrev with_systems : NetworkState → List SystemSpec → NetworkState
with_systems n [] = n
with_systems n (m ∷ ms) = with_systems (with_system m n) ms

abbrev systems_pass : NetworkState → List SystemSpec → Bool
systems_pass n [] = true
systems_pass n (m ∷ ms) =
    not (is_some (system_fault n m)) && (nat_lt m.identity (2 ^ 112) && systems_pass (with_system m n) ms)

kept : (n : NetworkState) → IsNetwork n
    → IsKeptNetwork n (reduce int_min (logs_of n)) (reduce int_max (logs_of n))
kept n h = record { network = h; smallest = refl; largest = refl }

systems_added : (ms : List SystemSpec) (n : NetworkState) → IsNetwork n → systems_pass n ms ≡ true
    → IsNetwork (with_systems n ms)
systems_added [] n h is = h
systems_added (m ∷ ms) n h is =
    let first = and_parts (not (is_some (system_fault n m))) _ is in
    let octets = and_parts (nat_lt m.identity (2 ^ 112)) (systems_pass (with_system m n) ms) first.1 in
    systems_added ms (with_system m n)
    (system_added n m _ _ (kept n h) (system_fits n m (passed (system_fault n m) first.0))
    (below m.identity (2 ^ 112) octets.0)).network octets.1

-- so does each link, which has the number of its place
abbrev with_links : NetworkState → List LinkSpec → NetworkState
with_links n [] = n
with_links n (w ∷ ws) = with_links (with_link w n) ws

abbrev links_pass : NetworkState → List LinkSpec → Bool
links_pass n [] = true
links_pass n (w ∷ ws) =
    not (is_some (link_fault n w)) && ((w.bounds.link == length n.links) && links_pass (with_link w n) ws)

links_added : (ws : List LinkSpec) (n : NetworkState) → IsNetwork n → links_pass n ws ≡ true
    → IsNetwork (with_links n ws)
links_added [] n h is = h
links_added (w ∷ ws) n h is =
    let first = and_parts (not (is_some (link_fault n w))) _ is in
    let number = and_parts (w.bounds.link == length n.links) (links_pass (with_link w n) ws) first.1 in
    links_added ws (with_link w n)
    (link_added n w _ _ (kept n h)
    (link_fits n w (eqb-true w.bounds.link (length n.links) number.0) (passed (link_fault n w) first.0))).network
    number.1

-- a network from its members
abbrev systems_of : NetworkState → NetworkState
systems_of n = with_systems (without_members n.params) n.systems

abbrev pub built : NetworkState → NetworkState
built n = with_links (systems_of n) n.links

abbrev network_passes : NetworkState → Bool
network_passes n =
    not (is_some (params_fault n.params))
    && (systems_pass (without_members n.params) n.systems && links_pass (systems_of n) n.links)

pub is_network : (n : NetworkState) → network_passes n ≡ true → built n ≡ n → IsNetwork n
is_network n is same =
    let fit = and_parts (not (is_some (params_fault n.params))) _ is in
    let members =
    and_parts (systems_pass (without_members n.params) n.systems) (links_pass (systems_of n) n.links) fit.1 in
    let none = none_yet n.params (params_fit n.params (passed (params_fault n.params) fit.0)) in
    subst IsNetwork same
    (links_added n.links (systems_of n)
    (systems_added n.systems (without_members n.params) none.network members.0) members.1)

-- ---- events

-- a change passes; it puts no octets onto a link
abbrev change_passes : NetworkState → Change → Bool
change_passes n (changes.LinkSet name port least greatest loss) =
    not (is_some (change_fault n (changes.LinkSet name port least greatest loss)))
    && (nat_le 1 least && nat_le loss 1000)
change_passes n (changes.Priority1 name value) =
    not (is_some (change_fault n (changes.Priority1 name value))) && nat_lt value 256
change_passes n (changes.Inject name port octets) = false
change_passes n (changes.LinkDown name port) = not (is_some (change_fault n (changes.LinkDown name port)))
change_passes n (changes.LinkUp name port) = not (is_some (change_fault n (changes.LinkUp name port)))
change_passes n (changes.Fail name) = not (is_some (change_fault n (changes.Fail name)))
change_passes n (changes.Recover name) = not (is_some (change_fault n (changes.Recover name)))

abbrev act_passes : NetworkState → Act → Bool
act_passes n (acts.Change change) = change_passes n change
act_passes n (acts.Deliver link direction) = false
act_passes n (acts.Expire clock timer) = false

-- it can be made, and sets an octet
abbrev IsMadeAt : NetworkState → Timed → Type 0
IsMadeAt n t = IsEvent n t × SetsAnOctet t.act

made_by : (n : NetworkState) (at : ℕ) (change : Change) → at ≤ LATEST_EVENT → change_fault n change ≡ None
    → IsInRange change → IsEvent n (record { at = at; act = acts.Change change })
made_by n at change early none range =
    record { early = early; change = change; act = refl; fits = change_fits n change none range }

made : (n : NetworkState) (at : ℕ) (act : Act) → at ≤ LATEST_EVENT → act_passes n act ≡ true
    → IsMadeAt n (record { at = at; act = act })
made n at (acts.Change (changes.LinkSet name port least greatest loss)) early is =
    let change = changes.LinkSet name port least greatest loss in
    let whole = and_parts (not (is_some (change_fault n change))) _ is in
    let range = and_parts (nat_le 1 least) (nat_le loss 1000) whole.1 in
    (made_by n at change early (passed _ whole.0) (no_more 1 least range.0, no_more loss 1000 range.1), tt)
made n at (acts.Change (changes.Priority1 name value)) early is =
    let change = changes.Priority1 name value in
    let whole = and_parts (not (is_some (change_fault n change))) (nat_lt value 256) is in
    (made_by n at change early (passed _ whole.0) tt, below value 256 whole.1)
made n at (acts.Change (changes.Inject name port octets)) early is = absurd cc
made n at (acts.Change (changes.LinkDown name port)) early is =
    (made_by n at (changes.LinkDown name port) early (passed _ is) tt, tt)
made n at (acts.Change (changes.LinkUp name port)) early is =
    (made_by n at (changes.LinkUp name port) early (passed _ is) tt, tt)
made n at (acts.Change (changes.Fail name)) early is =
    (made_by n at (changes.Fail name) early (passed _ is) tt, tt)
made n at (acts.Change (changes.Recover name)) early is =
    (made_by n at (changes.Recover name) early (passed _ is) tt, tt)
made n at (acts.Deliver link direction) early is = absurd cc
made n at (acts.Expire clock timer) early is = absurd cc

-- each event passes, and is no earlier than the one before it
abbrev events_pass : NetworkState → ℕ → List Timed → Bool
events_pass n last [] = true
events_pass n last (t ∷ ts) =
    nat_le last t.at && (nat_le t.at LATEST_EVENT && (act_passes n t.act && events_pass n t.at ts))

record Pass (n : NetworkState) (last : ℕ) (t : Timed) (ts : List Timed) : Type 0 where
  later : last ≤ t.at
  made : IsMadeAt n t
  others : events_pass n t.at ts ≡ true

pass : (n : NetworkState) (last : ℕ) (t : Timed) (ts : List Timed) → events_pass n last (t ∷ ts) ≡ true
    → Pass n last t ts
pass n last t ts is =
    let first = and_parts (nat_le last t.at) _ is in
    let early = and_parts (nat_le t.at LATEST_EVENT) _ first.1 in
    let act = and_parts (act_passes n t.act) (events_pass n t.at ts) early.1 in
    record {
      later = no_more last t.at first.0;
      made = made n t.at t.act (no_more t.at LATEST_EVENT early.0) act.0;
      others = act.1;
    }

in_order : (n : NetworkState) (last : ℕ) (ts : List Timed) → events_pass n last ts ≡ true → AreInOrder ts
in_order n last [] is = tt
in_order n last (t ∷ []) is = tt
in_order n last (t ∷ (u ∷ us)) is =
    let first = pass n last t (u ∷ us) is in
    ((pass n t.at u us first.others).later, in_order n t.at (u ∷ us) first.others)

are_made : (n : NetworkState) (last : ℕ) (ts : List Timed) → events_pass n last ts ≡ true
    → AllByRecursion (IsEvent n) ts × AllByRecursion (λ (t : Timed). SetsAnOctet t.act) ts
are_made n last [] is = (tt, tt)
are_made n last (t ∷ ts) is =
    let first = pass n last t ts is in
    let others = are_made n t.at ts first.others in
    ((first.made.0, others.0), (first.made.1, others.1))

-- ---- documents

abbrev pub document_passes : DocumentState → Bool
document_passes d = network_passes d.network && events_pass d.network 0 d.events

pub playable : (d : DocumentState) → document_passes d ≡ true → built d.network ≡ d.network → IsPlayable d
playable d is same =
    let parts = and_parts (network_passes d.network) (events_pass d.network 0 d.events) is in
    let made = are_made d.network 0 d.events parts.1 in
    record {
      network = is_network d.network parts.0 same;
      events = record { in_order = in_order d.network 0 d.events parts.1; each = made.0 };
      octets = each_there (λ (t : Timed). SetsAnOctet t.act) d.events made.1;
    }
