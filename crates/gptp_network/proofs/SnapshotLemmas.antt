-- What stands after events is a snapshot: clocks differ, and each link joins ports of two of the systems, at which no
-- other link is.
use Rattle.std.proofs.Common.{◌≡◌, ◌≢◌, ◌<◌, ◌≤◌, ◌⊎◌, ◌^◌, ◌%◌, ℕ, Bool, true, false, ◌==◌, cond, if◌then◌else◌, List, [], ◌∷◌, filter, map, Some, None, Option, slice_get, eqb-true, refl, sym, ap, subst, ◌∙◌, inl, inr, arith}
use Rattle.std.specs.List.{filter_map, cons_option}
use Rattle.std.specs.List.Sorted.{IsPermutation}
use Rattle.std.proofs.lemmas.List.{length-map}
use Rattle.std.proofs.lemmas.List.Folds.{Any-from_list_any}
use Rattle.std.proofs.lemmas.List.Sorted.{Contains-permutation, IsPermutation-sym}
use Rattle.std.proofs.lemmas.Option.{cond_some, same_Some, slice_get-get_or}
use Rattle.gptp_lists.specs.Members.{In}
use Rattle.gptp_graph.specs.Snapshot.{System, PortIdentity, Link, Snapshot, IsPortOf, IsWellFormed, Joins, clocks}
use Rattle.gptp_lists.proofs.SystemSpecLemmas.{In-map, In-slice_get, slice_get-In, from_map, pigeonhole}
use Rattle.gptp_graph.proofs.RisingLemmas.{Different-rising}
use Rattle.gptp_graph.proofs.Sure.{and_true}
use Rattle.gptp_roles.specs.Selection.{clock_of}
use Rattle.gptp_vector.specs.declared.port.PortId.{PortId}
use Rattle.gptp_setup.specs.declared.limits.TheConstants.{MOST_PORTS}
use Rattle.gptp_scenario.specs.Change.{joined_after, live_after, link_after, standing, system_acted, system_after, system_changed, system_stands, with_live, with_priority1}
use Rattle.gptp_scenario.specs.Network.{NetworkState, IsEnd, IsNetwork, IsPort}
use Rattle.gptp_scenario.specs.declared.change.Act.{Act}
use Rattle.gptp_scenario.specs.declared.change.Act.TheVariants as acts
use Rattle.gptp_scenario.specs.declared.change.Change.{Change}
use Rattle.gptp_scenario.specs.declared.change.Change.TheVariants as changes
use Rattle.gptp_scenario.specs.declared.change.Timed.{Timed}
use Rattle.gptp_scenario.specs.declared.network.SystemSpec.{SystemSpec}
use Rattle.gptp_scenario.specs.declared.network.LinkSpec.{LinkSpec}
use Rattle.gptp_lists.proofs.MappedLemmas.{contains_there, there_contains}
use Rattle.gptp_network.specs.Snapshot.{IsWithinLimits, StandsAfter, has_clock, joins_two, link_of, live_systems, port_identity, system_of}

-- ---- members of lists

-- a member of a list is one of its permutation
pub In-permutation : {X : Type 0} (x : X) (xs ys : List X) → IsPermutation xs ys → In x xs → In x ys
In-permutation x xs ys moved member =
    let (place, at) = slice_get-In x xs member in
    let (other, there) = there_contains ys x (Contains-permutation xs ys x moved (contains_there xs place x at)) in
    In-slice_get x ys other there

filtered_one : {X : Type 0} (p : X → Bool) (x y : X) (xs : List X) (t : Bool) → p y ≡ t
    → In x (cond t (y ∷ filter p xs) (filter p xs)) → (In x (filter p xs) → In x xs × (p x ≡ true))
    → In x (y ∷ xs) × (p x ≡ true)
filtered_one p x y xs true e (inl same) rest = (inl same, ap p same ∙ e)
filtered_one p x y xs true e (inr member) rest = let h = rest member in (inr h.0, h.1)
filtered_one p x y xs false e member rest = let h = rest member in (inr h.0, h.1)

-- what is kept is a member, and passes
pub from_filter : {X : Type 0} (p : X → Bool) (x : X) (xs : List X) → In x (filter p xs) → In x xs × (p x ≡ true)
from_filter p x [] member = absurd member
from_filter p x (y ∷ xs) member = filtered_one p x y xs (p y) refl member (from_filter p x xs)

given_one : {X Y : Type 0} (f : X → Option Y) (y : Y) (x : X) (xs : List X) (o : Option Y) → f x ≡ o
    → In y (cons_option o (filter_map f xs))
    → (In y (filter_map f xs) → (z : X) × In z xs × (f z ≡ Some y))
    → (z : X) × In z (x ∷ xs) × (f z ≡ Some y)
given_one f y x xs None e member rest = let (z, at, is) = rest member in (z, inr at, is)
given_one f y x xs (Some z) e (inl same) rest = (x, inl refl, e ∙ ap Some (sym same))
given_one f y x xs (Some z) e (inr member) rest = let (z, at, is) = rest member in (z, inr at, is)

-- what is given is given of a member
pub from_filter_map : {X Y : Type 0} (f : X → Option Y) (y : Y) (xs : List X) → In y (filter_map f xs)
    → (x : X) × In x xs × (f x ≡ Some y)
from_filter_map f y [] member = absurd member
from_filter_map f y (x ∷ xs) member = given_one f y x xs (f x) refl member (from_filter_map f y xs)

-- ---- systems keep their clocks

with_priority1_clock : (test : Bool) (value : ℕ) (s : _)
    → clock_of (if test then with_priority1 value s else s).identity ≡ clock_of s.identity
with_priority1_clock true value s = omega arith
with_priority1_clock false value s = refl

with_live_clock : (test live : Bool) (s : _)
    → clock_of (if test then with_live live s else s).identity ≡ clock_of s.identity
with_live_clock true live s = refl
with_live_clock false live s = refl

changed_clock : (change : Change) (own : ℕ) (s : _)
    → clock_of (system_changed change own s).identity ≡ clock_of s.identity
changed_clock (changes.LinkDown clock port) own s = refl
changed_clock (changes.LinkUp clock port) own s = refl
changed_clock (changes.LinkSet clock port least greatest loss) own s = refl
changed_clock (changes.Fail clock) own s = with_live_clock (clock == own) false s
changed_clock (changes.Recover clock) own s = with_live_clock (clock == own) true s
changed_clock (changes.Priority1 clock value) own s = with_priority1_clock (clock == own) value s
changed_clock (changes.Inject clock port frame) own s = refl

acted_clock : (act : Act) (own : ℕ) (s : _) → clock_of (system_acted act own s).identity ≡ clock_of s.identity
acted_clock (acts.Deliver link direction) own s = refl
acted_clock (acts.Expire clock timer) own s = refl
acted_clock (acts.Change change) own s = changed_clock change own s

stands_clock : (events : List Timed) (own : ℕ) (s : _)
    → clock_of (system_stands events own s).identity ≡ clock_of s.identity
stands_clock [] own s = refl
stands_clock (t ∷ ts) own s = stands_clock ts own (system_acted t.act own s) ∙ acted_clock t.act own s

-- a system keeps the clock that it was given
pub clock_after : (events : List Timed) (m : SystemSpec)
    → clock_of (system_after events m).identity ≡ clock_of m.identity
clock_after events m = stands_clock events (clock_of m.identity) (standing m)

-- ---- what stands is a snapshot

-- the system that has the clock
pub with_clock : (systems : List System) (clock : ℕ) → has_clock systems clock ≡ true
    → (s : System) × In s systems × (s.clock ≡ clock)
with_clock systems clock has =
    let (place, s, within, at, is) = Any-from_list_any (λ (s : System). s.clock == clock) systems has in
    (s, In-slice_get s systems place (slice_get-get_or systems place s within ∙ ap Some at), eqb-true s.clock clock is)

-- the port of a link of the network
abbrev pub port_id_of : PortIdentity → PortId
port_id_of p = record { clock = p.clock; port = p.port }

module _ (n : NetworkState) (network : IsNetwork n) (events : List Timed) (g : Snapshot)
    (stands : StandsAfter n events g) where
  -- a system of the network after these events
  after : SystemSpec → System
  after m = system_of ((system_after events m).identity, m.ports)

  -- each system that stands is one of the network
  member_of : (s : System) → In s g.systems → (m : SystemSpec) × In m n.systems × (after m ≡ s)
  unfolding after
  member_of s live =
      let moved = IsPermutation-sym (live_systems n.systems events) g.systems stands.systems in
      let kept = In-permutation s g.systems (live_systems n.systems events) moved live in
      let (pair, given, seen) = from_map system_of s (filter_map (live_after events) n.systems) kept in
      let (m, at, lives) = from_filter_map (live_after events) pair n.systems given in
      let is = (cond_some (system_after events m).live ((system_after events m).identity, m.ports) pair lives).1 in
      (m, at, ap system_of is ∙ seen)

  pub member_there : (s : System) → In s g.systems → (m : SystemSpec) × In m n.systems
      × (system_of ((system_after events m).identity, m.ports) ≡ s)
  unfolding after
  member_there = member_of

  -- two systems of the network with one clock are one
  one_member : (l m : SystemSpec) → In l n.systems → In m n.systems → clock_of l.identity ≡ clock_of m.identity → l ≡ m
  one_member l m first second same =
      let (i, at) = slice_get-In l n.systems first in
      let (j, there) = slice_get-In m n.systems second in
      same_Some l m (sym at ∙ ap (slice_get n.systems) (network.clocks i j l m at there same) ∙ there)

  -- a link that stands is one of the network, and both its ends stand
  record IsUsed (l : Link) : Type 0 where
    wire : LinkSpec
    place : ℕ
    there : slice_get n.links place ≡ Some wire
    is : link_of (wire.a, wire.b) ≡ l
    from : has_clock g.systems l.a.clock ≡ true
    to : has_clock g.systems l.b.clock ≡ true

  used : (l : Link) → In l g.links → IsUsed l
  used l member =
      let (kept, both) =
      from_filter (joins_two g.systems) l (map link_of (filter_map (joined_after events) n.links))
      (subst (In l) stands.links member) in
      let (pair, given, seen) = from_map link_of l (filter_map (joined_after events) n.links) kept in
      let (w, at, up) = from_filter_map (joined_after events) pair n.links given in
      let (place, there) = slice_get-In w n.links at in
      let live = and_true (has_clock g.systems l.a.clock) (has_clock g.systems l.b.clock) both in
      record {
        wire = w;
        place = place;
        there = there;
        is = ap link_of (cond_some (link_after events w).up (w.a, w.b) pair up).1 ∙ seen;
        from = live.0;
        to = live.1;
      }

  -- the system of an end stands, and has its port
  end_at : (port : PortId) → IsPort n.systems port → has_clock g.systems port.clock ≡ true
      → (s : System) × In s g.systems × IsPortOf s (port_identity port)
  unfolding after
  end_at port is_port has =
      let (s, live, clock) = with_clock g.systems port.clock has in
      let (m, at, is) = member_of s live in
      let other = In-slice_get is_port.system n.systems is_port.place is_port.there in
      let clocks : clock_of m.identity ≡ clock_of is_port.system.identity =
      sym (clock_after events m) ∙ ap (λ (t : System). t.clock) is ∙ clock ∙ sym is_port.clock in
      let same = one_member m is_port.system at other clocks in
      let ports : is_port.system.ports ≡ s.ports =
      ap (λ (l : SystemSpec). l.ports) (sym same) ∙ ap (λ (t : System). t.ports) is in
      (s, live, record { clock = clock; first = is_port.first; last = subst (λ k. port.port ≤ k) ports is_port.last })

  HasEnd : PortIdentity → Type 0
  HasEnd p = (s : System) × In s g.systems × IsPortOf s p

  -- both ends of a link that stands
  ends_of : (l : Link) → In l g.links → HasEnd l.a × HasEnd l.b
  unfolding HasEnd
  ends_of l member =
      let u = used l member in
      let wire = network.links u.place u.wire u.there in
      let a : port_identity u.wire.a ≡ l.a = ap (λ (k : Link). k.a) u.is in
      let b : port_identity u.wire.b ≡ l.b = ap (λ (k : Link). k.b) u.is in (
        subst HasEnd a (end_at u.wire.a wire.a (ap (λ (p : PortIdentity). has_clock g.systems p.clock) a ∙ u.from)),
        subst HasEnd b (end_at u.wire.b wire.b (ap (λ (p : PortIdentity). has_clock g.systems p.clock) b ∙ u.to)),
      )

  apart_of : (l : Link) → In l g.links → l.a.clock ≢ l.b.clock
  apart_of l member same =
      let u = used l member in
      let wire = network.links u.place u.wire u.there in
      wire.apart (ap (λ (k : Link). k.a.clock) u.is ∙ same ∙ sym (ap (λ (k : Link). k.b.clock) u.is))

  -- a link of the network that joins the two ports
  record Runs (p q : PortIdentity) : Type 0 where
    wire : LinkSpec
    place : ℕ
    there : slice_get n.links place ≡ Some wire
    ends : ((wire.a ≡ port_id_of p) × (wire.b ≡ port_id_of q)) ⊎ ((wire.b ≡ port_id_of p) × (wire.a ≡ port_id_of q))

  runs : (p q : PortIdentity) → Joins g p q → Runs p q
  runs p q (inl member) =
      let u = used (record { a = p; b = q }) member in record {
        wire = u.wire;
        place = u.place;
        there = u.there;
        ends = inl (ap (λ (k : Link). port_id_of k.a) u.is, ap (λ (k : Link). port_id_of k.b) u.is);
      }
  runs p q (inr member) =
      let u = used (record { a = q; b = p }) member in record {
        wire = u.wire;
        place = u.place;
        there = u.there;
        ends = inr (ap (λ (k : Link). port_id_of k.b) u.is, ap (λ (k : Link). port_id_of k.a) u.is);
      }

  is_end : (p q : PortIdentity) (r : Runs p q) → IsEnd (port_id_of p) r.wire
  is_end p q r = elim r.ends [ inl e ↦ inl e.0 | inr e ↦ inr e.0 ]

  other_ends : (p q r : PortIdentity) (w : LinkSpec) → (w.a.clock ≢ w.b.clock)
      → ((w.a ≡ port_id_of p) × (w.b ≡ port_id_of q)) ⊎ ((w.b ≡ port_id_of p) × (w.a ≡ port_id_of q))
      → ((w.a ≡ port_id_of p) × (w.b ≡ port_id_of r)) ⊎ ((w.b ≡ port_id_of p) × (w.a ≡ port_id_of r)) → q ≡ r
  other_ends p q r w apart (inl h) (inl k) = ap port_identity (sym h.1 ∙ k.1)
  other_ends p q r w apart (inl h) (inr k) = absurd (apart (ap (λ (o : PortId). o.clock) (h.0 ∙ sym k.0)))
  other_ends p q r w apart (inr h) (inl k) = absurd (apart (ap (λ (o : PortId). o.clock) (k.0 ∙ sym h.0)))
  other_ends p q r w apart (inr h) (inr k) = ap port_identity (sym h.1 ∙ k.1)

  one_link : (p q r : PortIdentity) → Joins g p q → Joins g p r → q ≡ r
  one_link p q r first second =
      let h = runs p q first in
      let k = runs p r second in
      let place =
      network.one_link h.place k.place h.wire k.wire (port_id_of p) h.there k.there (is_end p q h) (is_end p r k) in
      let same : k.wire ≡ h.wire =
      same_Some k.wire h.wire (sym k.there ∙ ap (slice_get n.links) (sym place) ∙ h.there) in
      let Ends : LinkSpec → Type 0 =
      λ (w : LinkSpec). ((w.a ≡ port_id_of p) × (w.b ≡ port_id_of r)) ⊎ ((w.b ≡ port_id_of p) × (w.a ≡ port_id_of r)) in
      other_ends p q r h.wire (network.links h.place h.wire h.there).apart h.ends (subst Ends same k.ends)

  -- a network that stands is a snapshot, where each identity is of fourteen octets
  pub stands_well : ((s : System) → In s g.systems → s.identity < 2 ^ 112) → IsWellFormed g
  unfolding HasEnd after
  stands_well octets = record {
    different = Different-rising (clocks g) stands.rising;
    identified = λ s live. (let (m, at, is) = member_of s live in record {
      octets = octets s live;
      clock = subst (λ (t : System). t.identity % 2 ^ 64 ≡ t.clock) is refl;
    });
    ends = λ p q joins. elim joins [
      | inl member ↦ (ends_of (record { a = p; b = q }) member).0
      | inr member ↦ (ends_of (record { a = q; b = p }) member).1
    ];
    one_link = one_link;
    apart = λ p q joins same. elim joins [
      | inl member ↦ apart_of (record { a = p; b = q }) member same
      | inr member ↦ apart_of (record { a = q; b = p }) member (sym same)
    ];
  }

  -- each clock that stands is one of the network
  clock_known : (v : ℕ) → In v (clocks g) → In v (map (λ (m : SystemSpec). clock_of m.identity) n.systems)
  unfolding after
  clock_known v member =
      let (s, live, same) = from_map (λ (s : System). s.clock) v g.systems member in
      let (m, at, is) = member_of s live in
      subst (λ u. In u (map (λ (m : SystemSpec). clock_of m.identity) n.systems))
      (sym (clock_after events m) ∙ ap (λ (t : System). t.clock) is ∙ same)
      (In-map (λ (m : SystemSpec). clock_of m.identity) m n.systems at)

  -- and it keeps to the limits of the network
  pub stands_within : IsWithinLimits g
  unfolding after
  stands_within = record {
    systems =
        let fits = pigeonhole (clocks g) (map (λ (m : SystemSpec). clock_of m.identity) n.systems)
        (Different-rising (clocks g) stands.rising) clock_known in
        let some = length-map g.systems (λ (s : System). s.clock) in
        let all = length-map n.systems (λ (m : SystemSpec). clock_of m.identity) in
        let limit = network.few_systems in
        omega (arith, fits, some, all, limit);
    ports = λ s live.
        let (m, at, is) = member_of s live in
        let (i, there) = slice_get-In m n.systems at in
        subst (λ k. k ≤ MOST_PORTS) (ap (λ (t : System). t.ports) is) (network.systems i m there).ports;
  }
