-- Why a test fails names the fault that the test is.
use Rattle.std.proofs.Common.{◌≡◌, ◌⊎◌, ◌&&◌, ◌==◌, ℕ, ℤ, Bool, true, false, List, [], ◌∷◌, length, Option, Some, None, Result, Ok, Err, refl, sym, ap, ◌∙◌, inl, inr}
use Rattle.std.specs.Prelude.{if◌then◌else◌, int_le}
use Rattle.std.specs.List.{list_all}
use Rattle.std.specs.Option.{unwrap_or}
use Rattle.toml.specs.Data.{Data, Items, as_integer, item, no_items}
use Rattle.gptp_setup.specs.declared.setup.Params.{Params}
use Rattle.gptp_vector.specs.declared.port.PortId.{PortId}
use Rattle.gptp_scenario.specs.Faults.{IsRefusal}
use Rattle.gptp_scenario.specs.Network.{NetworkState}
use Rattle.gptp_scenario.specs.Params.{is_log}
use Rattle.gptp_scenario.specs.declared.change.Change.{Change}
use Rattle.gptp_scenario.specs.declared.change.Change.TheVariants as changes
use Rattle.gptp_scenario.specs.declared.fault.NetworkFault.{NetworkFault}
use Rattle.gptp_scenario.specs.declared.fault.NetworkFault.TheVariants as networks
use Rattle.gptp_network.specs.Faults.{◌>>=◌, document_fault, tested}
use Rattle.gptp_network.specs.Found.{link_from, system_from}
use Rattle.gptp_network.specs.Intervals.{intervals_in, one_for_each, whole_numbers}
use Rattle.gptp_network.specs.Links.{port_numbered}
use Rattle.gptp_network.specs.Members.{count}
use Rattle.gptp_network.specs.ReadEvents.{bounds_why, change_why, clock_why, port_why, unlinked}
use Rattle.gptp_network.specs.ReadIntervals.{because, far_member, first_why, intervals_why, kind_why, other_member, range_why, read_array}
use Rattle.gptp_network.specs.ReadLinks.{first_taken, first_without, is_there, link_why, no_port, taken}
use Rattle.gptp_network.specs.ReadParams.{params_why}
use Rattle.gptp_network.specs.ReadSystems.{duplicate, system_why}
use Rattle.gptp_network.specs.Values.{kind_of}
use Rattle.gptp_network.specs.Why.{fault_of, forget, shape_of, told}
use Rattle.gptp_network.specs.declared.fault.DocumentFault.{DocumentFault}
use Rattle.gptp_network.specs.declared.fault.DocumentFault.TheVariants as faults
use Rattle.gptp_network.specs.declared.keys.Name.TheVariants as names
use Rattle.gptp_network.specs.declared.keys.TheConstants.{ANNOUNCE}
use Rattle.gptp_network.specs.declared.links.Link.{Link}
use Rattle.gptp_network.specs.declared.why.Why.{Why}
use Rattle.gptp_network.specs.declared.why.Why.TheVariants as whys

pub told_is : {X : Type 0} (why : NetworkFault → Why) (fault : Option NetworkFault) (x : X)
    → ((f : NetworkFault) → fault_of (why f) ≡ document_fault f) → forget (told why fault x) ≡ tested fault x
told_is why None x same = refl
told_is why (Some f) x same = ap Err (same f)

-- where a call of the network is refused, why is what is told of its tests
pub refusal_told : {X : Type 0} (why : NetworkFault → Why) (found : Option NetworkFault) (x : X) (e : NetworkFault)
    → why networks.OutOfMemory ≡ whys.Memory → IsRefusal found e
    → (why e ≡ whys.Memory) ⊎ (told why found x ≡ Err (why e))
refusal_told why found x e memory (inl is) = inr (ap (λ f. told why f x) is)
refusal_told why found x e memory (inr (none, is)) = inl (ap why is ∙ memory)

-- ---- tests of the network

pub params_faults : (p : Params) (f : NetworkFault) → fault_of (params_why p f) ≡ document_fault f
params_faults p networks.OutOfRange = refl
params_faults p networks.DuplicateClock = refl
params_faults p networks.SelfLink = refl
params_faults p networks.PortTaken = refl
params_faults p networks.NoSuchPort = refl
params_faults p networks.DelayTooLong = refl
params_faults p networks.TooMany = refl
params_faults p networks.Timing = refl
params_faults p networks.OutOfMemory = refl

duplicate_fault : (clock : ℕ) (found : Option (ℕ × ℕ)) → fault_of (duplicate clock found) ≡ faults.DuplicateClock
duplicate_fault clock None = refl
duplicate_fault clock (Some found) = refl

pub system_faults : (n : NetworkState) (clock : ℕ) (log : ℤ) (f : NetworkFault)
    → fault_of (system_why n clock log f) ≡ document_fault f
system_faults n clock log networks.OutOfRange = refl
system_faults n clock log networks.DuplicateClock = duplicate_fault clock (system_from 0 n.systems clock)
system_faults n clock log networks.SelfLink = refl
system_faults n clock log networks.PortTaken = refl
system_faults n clock log networks.NoSuchPort = refl
system_faults n clock log networks.DelayTooLong = refl
system_faults n clock log networks.TooMany = refl
system_faults n clock log networks.Timing = refl
system_faults n clock log networks.OutOfMemory = refl

no_port_fault : (port : PortId) (found : Option (ℕ × ℕ)) → fault_of (no_port port found) ≡ faults.NoSuchPort
no_port_fault port None = refl
no_port_fault port (Some found) = refl

taken_fault : (port : PortId) (link : Option ℕ) → fault_of (taken port link) ≡ faults.PortTaken
taken_fault port None = refl
taken_fault port (Some link) = refl

pub link_faults : (n : NetworkState) (l : Link) (f : NetworkFault) → fault_of (link_why n l f) ≡ document_fault f
link_faults n l networks.OutOfRange = refl
link_faults n l networks.DuplicateClock = refl
link_faults n l networks.SelfLink = refl
link_faults n l networks.PortTaken =
    taken_fault (first_taken n.links l) (link_from 0 n.links (first_taken n.links l))
link_faults n l networks.NoSuchPort =
    no_port_fault (first_without n.systems l) (system_from 0 n.systems (first_without n.systems l).clock)
link_faults n l networks.DelayTooLong = refl
link_faults n l networks.TooMany = refl
link_faults n l networks.Timing = refl
link_faults n l networks.OutOfMemory = refl

unlinked_fault : (n : NetworkState) (port : PortId) → fault_of (unlinked n port) ≡ faults.NoSuchPort
unlinked_fault n port = by (is_there port (system_from 0 n.systems port.clock))
  where
    by : (test : Bool)
        → fault_of (if test then whys.Unlinked port else no_port port (system_from 0 n.systems port.clock))
        ≡ faults.NoSuchPort
    by true = refl
    by false = no_port_fault port (system_from 0 n.systems port.clock)

port_faults : (n : NetworkState) (port : PortId) (f : NetworkFault) → fault_of (port_why n port f) ≡ document_fault f
port_faults n port networks.OutOfRange = refl
port_faults n port networks.DuplicateClock = refl
port_faults n port networks.SelfLink = refl
port_faults n port networks.PortTaken = refl
port_faults n port networks.NoSuchPort = unlinked_fault n port
port_faults n port networks.DelayTooLong = refl
port_faults n port networks.TooMany = refl
port_faults n port networks.Timing = refl
port_faults n port networks.OutOfMemory = refl

clock_faults : (clock : ℕ) (f : NetworkFault) → fault_of (clock_why clock f) ≡ document_fault f
clock_faults clock networks.OutOfRange = refl
clock_faults clock networks.DuplicateClock = refl
clock_faults clock networks.SelfLink = refl
clock_faults clock networks.PortTaken = refl
clock_faults clock networks.NoSuchPort = refl
clock_faults clock networks.DelayTooLong = refl
clock_faults clock networks.TooMany = refl
clock_faults clock networks.Timing = refl
clock_faults clock networks.OutOfMemory = refl

bounds_faults : (n : NetworkState) (port : PortId) (least greatest : ℕ) (f : NetworkFault)
    → fault_of (bounds_why n port least greatest f) ≡ document_fault f
bounds_faults n port least greatest networks.OutOfRange = refl
bounds_faults n port least greatest networks.DuplicateClock = refl
bounds_faults n port least greatest networks.SelfLink = refl
bounds_faults n port least greatest networks.PortTaken = refl
bounds_faults n port least greatest networks.NoSuchPort = unlinked_fault n port
bounds_faults n port least greatest networks.DelayTooLong = refl
bounds_faults n port least greatest networks.TooMany = refl
bounds_faults n port least greatest networks.Timing = refl
bounds_faults n port least greatest networks.OutOfMemory = refl

pub change_faults : (n : NetworkState) (change : Change) (f : NetworkFault)
    → fault_of (change_why n change f) ≡ document_fault f
change_faults n (changes.LinkDown name port) f = port_faults n (port_numbered name port) f
change_faults n (changes.LinkUp name port) f = port_faults n (port_numbered name port) f
change_faults n (changes.LinkSet name port least greatest loss) f =
    bounds_faults n (port_numbered name port) least greatest f
change_faults n (changes.Fail name) f = clock_faults name f
change_faults n (changes.Recover name) f = clock_faults name f
change_faults n (changes.Priority1 name value) f = clock_faults name f
change_faults n (changes.Inject name port frame) f = port_faults n (port_numbered name port) f

-- ---- intervals

-- all members are whole numbers, or the first that isn't is of another kind
abbrev Agree : Result (List ℤ) DocumentFault → Option Why → Type 0
Agree numbers other =
    ((zs : List ℤ) × (numbers ≡ Ok zs) × (other ≡ None))
    ⊎ ((why : Why) × (numbers ≡ Err faults.WrongKind) × (other ≡ Some why) × (fault_of why ≡ faults.WrongKind))

agree_more : (d : Data) (o : Option ℤ) (numbers : Result (List ℤ) DocumentFault) (other : Option Why)
    → Agree numbers other
    → Agree (kind_of o >>= λ z. numbers >>= λ more. Ok (z ∷ more)) (first_why (kind_why d o) other)
agree_more d None numbers other rest = inr (whys.Kind names.Announce (shape_of d), refl, refl, refl)
agree_more d (Some z) numbers other (inl (zs, read, none)) =
    inl (z ∷ zs, ap (λ (r : Result (List ℤ) DocumentFault). r >>= λ more. Ok (z ∷ more)) read, none)
agree_more d (Some z) numbers other (inr (why, read, some, is)) =
    inr (why, ap (λ (r : Result (List ℤ) DocumentFault). r >>= λ more. Ok (z ∷ more)) read, some, is)

agree : (ds : Items) → Agree (whole_numbers ds) (other_member ds)
agree no_items = inl ([], refl, refl)
agree (item d ds) = agree_more d (as_integer d) (whole_numbers ds) (other_member ds) (agree ds)

-- no member but one out of its range, or too many or too few of them: that is a range
range_fault : (z : ℤ) (test : Bool) (rest : Option Why) (last : Why)
    → fault_of (unwrap_or rest last) ≡ faults.OutOfRange
    → fault_of (unwrap_or (first_why (if test then None else Some (whys.Whole ANNOUNCE.0 z ANNOUNCE.1 ANNOUNCE.2)) rest)
    last)
    ≡ faults.OutOfRange
range_fault z true rest last is = is
range_fault z false rest last is = refl

far_more : (o : Option ℤ) (rest : Option Why) (last : Why) → fault_of (unwrap_or rest last) ≡ faults.OutOfRange
    → fault_of (unwrap_or (first_why (range_why o) rest) last) ≡ faults.OutOfRange
far_more None rest last is = is
far_more (Some z) rest last is = range_fault z (int_le ANNOUNCE.1 z && int_le z ANNOUNCE.2) rest last is

far_fault : (ds : Items) (last : Why) → fault_of last ≡ faults.OutOfRange
    → fault_of (unwrap_or (far_member ds) last) ≡ faults.OutOfRange
far_fault no_items last is = is
far_fault (item d ds) last is = far_more (as_integer d) (far_member ds) last (far_fault ds last is)

-- an array is read as it is meant
pub array_agrees : (ports : ℕ) (ds : Items) → forget (read_array ports ds) ≡ intervals_in ports ds
unfolding intervals_in
array_agrees ports ds = by (agree ds)
  where
    by_test : (zs : List ℤ) (test : Bool) → fault_of (intervals_why ports ds) ≡ faults.OutOfRange
        → forget (because (intervals_why ports ds) (if test then Ok zs else Err faults.OutOfRange))
        ≡ (if test then Ok zs else Err faults.OutOfRange)
    by_test zs true is = refl
    by_test zs false is = ap Err is

    by : Agree (whole_numbers ds) (other_member ds)
        → forget (because (intervals_why ports ds) (whole_numbers ds >>= one_for_each ports))
        ≡ (whole_numbers ds >>= one_for_each ports)
    by (inl (zs, read, none)) =
        let far : fault_of (intervals_why ports ds) ≡ faults.OutOfRange =
        ap (λ (o : Option Why). fault_of (unwrap_or o (unwrap_or (far_member ds) (whys.Intervals
        (count ds) ports)))) none
        ∙ far_fault ds (whys.Intervals (count ds) ports) refl in
        ap (λ (r : Result (List ℤ) DocumentFault). forget (because (intervals_why ports ds)
        (r >>= one_for_each ports))) read
        ∙ by_test zs ((length zs == ports) && list_all is_log zs) far
        ∙ sym (ap (λ (r : Result (List ℤ) DocumentFault). r >>= one_for_each ports) read)
    by (inr (why, read, some, is)) =
        let other : fault_of (intervals_why ports ds) ≡ faults.WrongKind =
        ap (λ (o : Option Why). fault_of (unwrap_or o (unwrap_or (far_member ds) (whys.Intervals
        (count ds) ports)))) some ∙ is in
        ap (λ (r : Result (List ℤ) DocumentFault). forget (because (intervals_why ports ds)
        (r >>= one_for_each ports))) read ∙ ap Err other
        ∙ sym (ap (λ (r : Result (List ℤ) DocumentFault). r >>= one_for_each ports) read)
