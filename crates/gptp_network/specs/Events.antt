-- The sections `[[event]]` (profile).
use Rattle.std.specs.Prelude.{◌≡◌, ◌≤◌, ⊤, true, ℕ, codes, not, nat_lt, if◌then◌else◌, bytes_eq, List, [], ◌∷◌, ◌++◌, Option, None, Result, Ok, Err}
use Rattle.std.specs.List.{AllByRecursion}
use Rattle.toml.specs.Data.{Data, Members, as_table}
use Rattle.gptp_setup.specs.declared.limits.TheConstants.{MOST_PORTS}
use Rattle.gptp_setup.specs.Intervals.{interval_of}
use Rattle.gptp_scenario.specs.Calm.{last_change}
use Rattle.gptp_scenario.specs.Faults.{first_fault}
use Rattle.gptp_scenario.specs.Network.{NetworkState, members_have_clock, is_taken, smallest_of}
use Rattle.gptp_scenario.specs.declared.change.Act.TheVariants as acts
use Rattle.gptp_scenario.specs.declared.change.Change.{Change}
use Rattle.gptp_scenario.specs.declared.change.Change.TheVariants as changes
use Rattle.gptp_scenario.specs.declared.change.Timed.{Timed}
use Rattle.gptp_scenario.specs.declared.fault.NetworkFault.{NetworkFault}
use Rattle.gptp_scenario.specs.declared.fault.NetworkFault.TheVariants as networks
use Rattle.gptp_network.specs.declared.keys.TheConstants.{LATEST_EVENT}
use Rattle.gptp_network.specs.Faults.{◌>>=◌, tested}
use Rattle.gptp_network.specs.Links.{port_numbered}
use Rattle.gptp_network.specs.Members.{limited, each_of}
use Rattle.gptp_network.specs.Values.{clock, natural, octets, text, kind_of, array_at}
use Rattle.gptp_network.specs.declared.events.Event.{Event}
use Rattle.gptp_network.specs.declared.fault.DocumentFault.{DocumentFault}
use Rattle.gptp_network.specs.declared.fault.DocumentFault.TheVariants.{OutOfRange, EventOrder}

-- the keys of each kind, in their order, with their ranges
unfoldable pub link_down_of : Members → Result Change DocumentFault
link_down_of t = do
  name ← clock (codes "clock") t
  port ← natural (codes "port") 1 MOST_PORTS None t
  Ok (changes.LinkDown name port)

unfoldable pub link_up_of : Members → Result Change DocumentFault
link_up_of t = do
  name ← clock (codes "clock") t
  port ← natural (codes "port") 1 MOST_PORTS None t
  Ok (changes.LinkUp name port)

unfoldable pub link_set_of : Members → Result Change DocumentFault
link_set_of t = do
  name ← clock (codes "clock") t
  port ← natural (codes "port") 1 MOST_PORTS None t
  least ← natural (codes "min") 1 16000000000 None t
  greatest ← natural (codes "max") 1 16000000000 None t
  loss ← natural (codes "loss") 0 1000 None t
  Ok (changes.LinkSet name port least greatest loss)

unfoldable pub fail_of : Members → Result Change DocumentFault
fail_of t = do
  name ← clock (codes "clock") t
  Ok (changes.Fail name)

unfoldable pub recover_of : Members → Result Change DocumentFault
recover_of t = do
  name ← clock (codes "clock") t
  Ok (changes.Recover name)

unfoldable pub priority1_of : Members → Result Change DocumentFault
priority1_of t = do
  name ← clock (codes "clock") t
  value ← natural (codes "value") 0 255 None t
  Ok (changes.Priority1 name value)

unfoldable pub inject_of : Members → Result Change DocumentFault
inject_of t = do
  name ← clock (codes "clock") t
  port ← natural (codes "port") 1 MOST_PORTS None t
  frame ← octets (codes "octets") t
  Ok (changes.Inject name port frame)

-- an event of this kind
unfoldable pub change_of : List ℕ → Members → Result Change DocumentFault
change_of kind t =
    if bytes_eq kind (codes "link_down") then link_down_of t
    else if bytes_eq kind (codes "link_up") then link_up_of t
    else if bytes_eq kind (codes "link_set") then link_set_of t
    else if bytes_eq kind (codes "fail") then fail_of t
    else if bytes_eq kind (codes "recover") then recover_of t
    else if bytes_eq kind (codes "priority1") then priority1_of t
    else if bytes_eq kind (codes "inject") then inject_of t
    else Err OutOfRange

-- the keys of an event: its time, its kind, and those of its kind
unfoldable pub event_of : Members → Result Event DocumentFault
event_of t = do
  at ← natural (codes "at") 0 LATEST_EVENT None t
  kind ← text (codes "kind") t
  change ← change_of kind t
  Ok (record { at = at; change = change })

-- the tests of each kind, in their order
abbrev pub link_fault_at : NetworkState → ℕ → ℕ → Option NetworkFault
link_fault_at n name port = first_fault ((not (is_taken n.links (port_numbered name port)), networks.NoSuchPort) ∷ [])

abbrev pub system_fault_at : NetworkState → ℕ → Option NetworkFault
system_fault_at n name = first_fault ((not (members_have_clock n.systems name), networks.NoSuchPort) ∷ [])

abbrev pub change_fault : NetworkState → Change → Option NetworkFault
change_fault n (changes.LinkDown name port) = link_fault_at n name port
change_fault n (changes.LinkUp name port) = link_fault_at n name port
change_fault n (changes.LinkSet name port least greatest loss) = first_fault (
    (nat_lt greatest least, networks.OutOfRange)
    ∷ (not (is_taken n.links (port_numbered name port)), networks.NoSuchPort)
    ∷ (nat_lt (interval_of (smallest_of n)) greatest, networks.DelayTooLong)
    ∷ [])
change_fault n (changes.Fail name) = system_fault_at n name
change_fault n (changes.Recover name) = system_fault_at n name
change_fault n (changes.Priority1 name value) = system_fault_at n name
change_fault n (changes.Inject name port frame) = link_fault_at n name port

-- an event is no earlier than the one before
abbrev pub not_before : ℕ → Event → Result Event DocumentFault
not_before last e = if nat_lt e.at last then Err EventOrder else Ok e

abbrev pub timed : Event → Timed
timed e = record { at = e.at; act = acts.Change e.change }

-- the events with one more
unfoldable pub with_event_of : NetworkState → Data → List Timed → Result (List Timed) DocumentFault
with_event_of n d es = do
  t ← kind_of (as_table d)
  e ← event_of t
  later ← not_before (last_change es) e
  tested (change_fault n later.change) (es ++ timed later ∷ [])

-- the events of a document, 4,096 at most
unfoldable pub events_of : Members → NetworkState → Result (List Timed) DocumentFault
events_of t n = do
  ds ← array_at (codes "event") t
  few ← limited 4096 ds
  each_of (with_event_of n) few []

-- bounds that a link of the network can have
pub record AreBounds (n : NetworkState) (least greatest loss : ℕ) : Type 0 where
  pub positive : 1 ≤ least
  pub ordered : least ≤ greatest
  pub prompt : greatest ≤ interval_of (smallest_of n)
  pub share : loss ≤ 1000

-- the ranges of a change's bounds
abbrev pub IsInRange : Change → Type 0
IsInRange (changes.LinkSet name port least greatest loss) = (1 ≤ least) × (loss ≤ 1000)
IsInRange _ = ⊤

-- a change that can be made in the network: what it names is there, and the bounds that it sets can be those of a link
abbrev pub IsPossibleChange : NetworkState → Change → Type 0
IsPossibleChange n (changes.LinkDown name port) = is_taken n.links (port_numbered name port) ≡ true
IsPossibleChange n (changes.LinkUp name port) = is_taken n.links (port_numbered name port) ≡ true
IsPossibleChange n (changes.LinkSet name port least greatest loss) =
    (is_taken n.links (port_numbered name port) ≡ true) × AreBounds n least greatest loss
IsPossibleChange n (changes.Fail name) = members_have_clock n.systems name ≡ true
IsPossibleChange n (changes.Recover name) = members_have_clock n.systems name ≡ true
IsPossibleChange n (changes.Priority1 name value) = members_have_clock n.systems name ≡ true
IsPossibleChange n (changes.Inject name port frame) = is_taken n.links (port_numbered name port) ≡ true

-- an event of the network
pub record IsEvent (n : NetworkState) (t : Timed) : Type 0 where
  pub early : t.at ≤ LATEST_EVENT
  pub change : Change
  pub act : t.act ≡ acts.Change change
  pub fits : IsPossibleChange n change

-- no event is earlier than one before it
abbrev pub AreInOrder : List Timed → Type 0
AreInOrder [] = ⊤
AreInOrder (t ∷ []) = ⊤
AreInOrder (t ∷ (u ∷ us)) = (t.at ≤ u.at) × AreInOrder (u ∷ us)

-- What holds of the events of every document.
pub record AreEvents (n : NetworkState) (events : List Timed) : Type 0 where
  pub in_order : AreInOrder events
  pub each : AllByRecursion (IsEvent n) events
