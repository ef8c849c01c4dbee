-- How a snapshot is taken: system by system, link by link, and both ends of each link.
use Rattle.std.proofs.Common.{◌≡◌, ◌⊎◌, ◌<◌, ◌≤◌, ◌+◌, ◌^◌, ℕ, zero, suc, Bool, true, false, List, [], ◌∷◌, ◌++◌, length, map, filter, take, get_or, Some, None, Option, IfSome, slice_get, refl, sym, ap, ap₂, subst, ◌∙◌, inl, inr, arith, eqb}
use Rattle.std.specs.List.{AllByRecursion, IsDistinct, cons_option, filter_map, flat_map}
use Rattle.std.specs.List.Sorted.{IsNonDecreasingBy, IsPartitionPoint, IsPermutation, IsSortedByKey}
use Rattle.std.specs.Option.{is_some, option_and_then}
use Rattle.std.specs.Ordering.{nat_cmp}
use Rattle.std.proofs.lemmas.Bool.Decides.{nat_tests}
use Rattle.std.proofs.lemmas.List.{append-nil, length-map, map-append, take_more}
use Rattle.std.proofs.lemmas.List.Elements.{filter-append, filter_map-append}
use Rattle.std.proofs.lemmas.List.Sorted.{IsNonDecreasingBy-from_sort, IsPermutation-map, IsPermutation-sym, length_permutation}
use Rattle.std.proofs.lemmas.Map.Keys.{IsDistinct-IsPermutation}
use Rattle.std.proofs.lemmas.Option.{cond_some, get_or_from_slice_get, none-some, same_Some, slice_get-get_or, slice_get_within}
use Rattle.gptp_lists.specs.Members.{In, Different}
use Rattle.gptp_graph.specs.Order.{IsRising}
use Rattle.gptp_graph.specs.Snapshot.{System, PortIdentity, Link}
use Rattle.gptp_lists.proofs.SystemSpecLemmas.{slice_get-In, from_map}
use Rattle.gptp_roles.specs.Selection.{clock_of}
use Rattle.gptp_vector.specs.declared.port.PortId.{PortId}
use Rattle.gptp_scenario.specs.Change.{joined_after, live_after, system_after}
use Rattle.gptp_scenario.specs.Network.{NetworkState, IsNetwork}
use Rattle.gptp_scenario.specs.declared.change.Timed.{Timed}
use Rattle.gptp_scenario.specs.declared.network.SystemSpec.{SystemSpec}
use Rattle.gptp_scenario.specs.declared.network.LinkSpec.{LinkSpec}
use Rattle.gptp_network.specs.Events.{AreInOrder}
use Rattle.gptp_network.specs.Snapshot.{StandsAfter, has_clock, joins_two, link_of, live_systems, system_of, used_links}
use Rattle.gptp_network.specs.SnapshotTables.{AreEnds, AreLive, AreSystems, AreTables, HasClock, HaveOctets, RisesByPort, both_ends, seen, seen_links, seen_systems}
use Rattle.gptp_network.specs.declared.snapshot.LinkEnd.{LinkEnd}
use Rattle.gptp_network.specs.declared.snapshot.LiveSystem.{LiveSystem}
use Rattle.gptp_network.specs.declared.snapshot.UsedLink.{UsedLink}
use Rattle.gptp_network.proofs.SearchLemmas.{clock_of_live, same_clocks}
use Rattle.gptp_network.proofs.SnapshotLemmas.{In-permutation, clock_after, from_filter_map, port_id_of, stands_well, with_clock}

-- ---- the events up to a time are the first of events in order

-- times of events in order don't fall
pub in_time : (es : List Timed) → AreInOrder es → IsNonDecreasingBy (λ (t : Timed). t.at) es
in_time [] h i j d le lt = absurd (omega arith)
in_time (x ∷ es) h zero zero d le lt = omega arith
in_time (x ∷ []) h zero (suc j) d le lt = absurd (omega arith)
in_time (x ∷ y ∷ es) h zero (suc j) d le lt =
    let next : x.at ≤ y.at = h.0 in
    let later = in_time (y ∷ es) h.1 zero j d (omega arith) (omega arith) in
    omega arith
in_time (x ∷ es) h (suc i) zero d le lt = absurd (omega arith)
in_time (x ∷ []) h (suc i) (suc j) d le lt = absurd (omega arith)
in_time (x ∷ y ∷ es) h (suc i) (suc j) d le lt = in_time (y ∷ es) h.1 i j d (omega arith) (omega arith)

-- what passes is the front where all that follow fail
pub front : {X : Type 0} (p : X → Bool) (xs : List X) (count : ℕ) → count ≤ length xs
    → IsPartitionPoint (λ y. p y ≡ true) (λ y. p y ≡ false) xs count → take count xs ≡ filter p xs
front p [] zero within (pass, fail) = refl
front p [] (suc count) within (pass, fail) = refl
front p (x ∷ xs) zero within (pass, fail) =
    let fails : p x ≡ false = fail zero x (omega arith) (omega arith) in
    let rest =
    front p xs zero (omega arith)
    (λ k d le lt. absurd (omega arith), λ k d le lt. fail (suc k) d (omega arith) (omega arith)) in
    rw fails rest
front p (x ∷ xs) (suc count) within (pass, fail) =
    let passes : p x ≡ true = pass zero x (omega arith) (omega arith) in
    let rest =
    front p xs count (omega arith) (
      λ k d le lt. pass (suc k) d (omega arith) (omega arith),
      λ k d le lt. fail (suc k) d (omega arith) (omega arith),
    ) in
    rw passes (ap (λ ys. x ∷ ys) rest)

-- ---- whether a clock is there

holds_at : (systems : List System) (clock place : ℕ) (s : System) → slice_get systems place ≡ Some s → s.clock ≡ clock
    → has_clock systems clock ≡ true
holds_at [] clock place s at is = absurd cc
holds_at (t ∷ systems) clock zero s at is =
    let same : t.clock ≡ clock = ap (λ (u : System). u.clock) (same_Some t s at) ∙ is in grind (arith, nat_tests)
holds_at (t ∷ systems) clock (suc place) s at is =
    let rest = holds_at systems clock place s at is in grind (arith, nat_tests)

-- a look-up tells whether one of the systems has the clock
pub looked_up : (systems : List System) (clock : ℕ) (o : Option ℕ) → IfSome o (HasClock systems clock)
    → ((place : ℕ) → HasClock systems clock place → o ≡ Some place) → is_some o ≡ has_clock systems clock
looked_up systems clock (Some place) some only = sym (holds_at systems clock place some.system some.there some.is)
looked_up systems clock None some only = none (has_clock systems clock) refl
  where
    none : (t : Bool) → has_clock systems clock ≡ t → false ≡ has_clock systems clock
    none false e = sym e
    none true e =
        let (s, member, is) = with_clock systems clock e in
        let (place, there) = slice_get-In s systems member in
        absurd (none-some place (only place (record { system = s; there = there; is = is })))

-- ---- one member more

taken : {X : Type 0} (xs : List X) (place : ℕ) → place < length xs
    → (x : X) × (slice_get xs place ≡ Some x) × (take (place + 1) xs ≡ take place xs ++ x ∷ [])
taken [] place within = absurd (omega arith)
taken (x ∷ xs) place within =
    (get_or (x ∷ xs) place x, slice_get-get_or (x ∷ xs) place x within, take_more (x ∷ xs) place x within)

live_append : (ms ns : List SystemSpec) (events : List Timed)
    → live_systems (ms ++ ns) events ≡ live_systems ms events ++ live_systems ns events
live_append ms ns events =
    ap (map system_of) (filter_map-append (live_after events) ms ns)
    ∙ map-append system_of (filter_map (live_after events) ms) (filter_map (live_after events) ns)

module _ (members : List SystemSpec) (events : List Timed) (systems : List LiveSystem) (place : ℕ)
    (within : place < length members) (before : AreLive (take place members) events systems) where
  -- the system at the place has failed
  pub live_kept : None ≡ option_and_then (live_after events) (slice_get members place)
      → AreLive (take (place + 1) members) events systems
  live_kept none =
      let (m, at, more) = taken members place within in
      let failed : live_after events m ≡ None = sym (none ∙ ap (option_and_then (live_after events)) at) in
      let rest : live_systems (m ∷ []) events ≡ [] =
      ap (λ (o : Option (ℕ × ℕ)). map system_of (cons_option o [])) failed in
      record {
        are = before.are ∙ sym (append-nil (live_systems (take place members) events))
            ∙ ap (λ l. live_systems (take place members) events ++ l) (sym rest)
            ∙ sym (ap (λ l. live_systems l events) more ∙ live_append (take place members) (m ∷ []) events);
        octets = before.octets;
      }

  -- the system at the place lives
  pub live_added : (live : ℕ × ℕ) → live.0 < 2 ^ 112
      → Some live ≡ option_and_then (live_after events) (slice_get members place)
      → (after : List LiveSystem) → after ≡ systems ++ record { identity = live.0; ports = live.1 } ∷ []
      → AreLive (take (place + 1) members) events after
  live_added live octets some after is =
      let (m, at, more) = taken members place within in
      let lives : live_after events m ≡ Some live = sym (some ∙ ap (option_and_then (live_after events)) at) in
      let rest : live_systems (m ∷ []) events ≡ system_of live ∷ [] =
      ap (λ (o : Option (ℕ × ℕ)). map system_of (cons_option o [])) lives in
      record {
        are = ap seen_systems is ∙ map-append _ systems (record { identity = live.0; ports = live.1 } ∷ [])
            ∙ ap₂ (λ k l. k ++ l) before.are (sym rest)
            ∙ sym (ap (λ l. live_systems l events) more ∙ live_append (take place members) (m ∷ []) events);
        octets = subst HaveOctets (sym is) (octets_behind systems before.octets);
      }
    where
      octets_behind : (ss : List LiveSystem) → HaveOctets ss
          → HaveOctets (ss ++ record { identity = live.0; ports = live.1 } ∷ [])
      octets_behind [] h s (inl e) = subst (λ (t : LiveSystem). t.identity < 2 ^ 112) (sym e) octets
      octets_behind [] h s (inr none) = absurd none
      octets_behind (t ∷ ss) h s (inl e) = h s (inl e)
      octets_behind (t ∷ ss) h s (inr member) = octets_behind ss (λ u k. h u (inr k)) s member

-- no more live than there are
live_within : (ms : List SystemSpec) (events : List Timed) → length (live_systems ms events) ≤ length ms
live_within [] events = omega arith
live_within (m ∷ ms) events = by (live_within ms events) (live_after events m) refl
  where
    by : length (live_systems ms events) ≤ length ms → (o : Option (ℕ × ℕ)) → live_after events m ≡ o
        → length (live_systems (m ∷ ms) events) ≤ length (m ∷ ms)
    by rest None none = rw none (omega arith)
    by rest (Some pair) some = rw some (omega arith)

-- ---- systems by rising clock

-- the clock of a system that lives is that of its member
clock_lives : (events : List Timed) (m : SystemSpec) (pair : ℕ × ℕ) → live_after events m ≡ Some pair
    → clock_of pair.0 ≡ clock_of m.identity
clock_lives events m pair lives =
    let is = (cond_some (system_after events m).live ((system_after events m).identity, m.ports) pair lives).1 in
    ap (λ (p : ℕ × ℕ). clock_of p.0) (sym is) ∙ clock_after events m

-- where no two members have one clock
abbrev OneClockEach : List SystemSpec → Type 0
OneClockEach ms = (i j : ℕ) (l m : SystemSpec) → slice_get ms i ≡ Some l → slice_get ms j ≡ Some m
    → clock_of l.identity ≡ clock_of m.identity → i ≡ j

-- a system that lives has no clock of one after it
other_clock : (m : SystemSpec) (ms : List SystemSpec) (events : List Timed) → OneClockEach (m ∷ ms) → (pair : ℕ × ℕ)
    → live_after events m ≡ Some pair
    → In (clock_of pair.0) (map (λ (s : System). s.clock) (live_systems ms events)) → ⊥
other_clock m ms events once pair lives member =
    let (s, seen, clock) = from_map (λ (t : System). t.clock) (clock_of pair.0) (live_systems ms events) member in
    let (given, at, is) = from_map system_of s (filter_map (live_after events) ms) seen in
    let (l, there, lives_too) = from_filter_map (live_after events) given ms at in
    let (place, here) = slice_get-In l ms there in
    let same : clock_of m.identity ≡ clock_of l.identity =
    sym (clock_lives events m pair lives) ∙ sym clock ∙ ap (λ (t : System). t.clock) (sym is)
    ∙ clock_lives events l given lives_too in
    let none : zero ≡ suc place = once zero (suc place) m l refl here same in
    absurd (omega arith)

live_once_more : (m : SystemSpec) (ms : List SystemSpec) (events : List Timed) → OneClockEach (m ∷ ms)
    → (o : Option (ℕ × ℕ))
    → live_after events m ≡ o → Different (map (λ (s : System). s.clock) (live_systems ms events))
    → Different (map (λ (s : System). s.clock) (live_systems (m ∷ ms) events))
live_once_more m ms events once None e rest = rw e rest
live_once_more m ms events once (Some pair) e rest = rw e (other_clock m ms events once pair e, rest)

-- clocks of what lives differ
pub live_once : (ms : List SystemSpec) (events : List Timed) → OneClockEach ms
    → Different (map (λ (s : System). s.clock) (live_systems ms events))
live_once [] events once = tt
live_once (m ∷ ms) events once =
    let behind : OneClockEach ms =
    λ i j l k at there same. let e : suc i ≡ suc j = once (suc i) (suc j) l k at there same in omega arith in
    live_once_more m ms events once (live_after events m) refl (live_once ms events behind)

pub all_in : {X : Type 0} (P : X → Type 0) (xs : List X) → ((x : X) → In x xs → P x) → AllByRecursion P xs
all_in P [] h = tt
all_in P (x ∷ xs) h = (h x (inl refl), all_in P xs (λ y member. h y (inr member)))

pub in_all : {X : Type 0} (P : X → Type 0) (x : X) (xs : List X) → AllByRecursion P xs → In x xs → P x
in_all P x [] h member = absurd member
in_all P x (y ∷ xs) h (inl e) = subst P (sym e) h.0
in_all P x (y ∷ xs) h (inr member) = in_all P x xs h.1 member

differ : (a b : ℕ) → (a ≡ b → ⊥) → eqb a b ≡ false
differ a b h = grind (arith, nat_tests)

apart : (a b : ℕ) → eqb a b ≡ false → a ≡ b → ⊥
apart a b h e = grind (arith, nat_tests)

pub flips : (a b : ℕ) → eqb a b ≡ eqb b a
flips a b = grind (arith, nat_tests)

pub distinct : (ns : List ℕ) → Different ns → IsDistinct eqb ns
unfolding IsDistinct
distinct [] h = tt
distinct (n ∷ ns) h = (
  all_in (λ m. eqb n m ≡ false) ns (λ m member. differ n m (λ e. h.0 (subst (λ k. In k ns) (sym e) member))),
  distinct ns h.1,
)

-- keys that don't fall and differ rise
pub rising_distinct : {X : Type 0} (key : X → ℕ) (xs : List X) → IsNonDecreasingBy key xs → IsDistinct eqb (map key xs)
    → IsRising (map key xs)
unfolding IsDistinct
rising_distinct key [] up d = tt
rising_distinct key (x ∷ xs) up d =
    (above, rising_distinct key xs (λ i j e le lt. up (suc i) (suc j) e (omega arith) (omega arith)) d.1)
  where
    above : (n : ℕ) → In n (map key xs) → key x < n
    above n member =
        let (y, at, is) = from_map key n xs member in
        let (place, there) = slice_get-In y xs at in
        let within = slice_get_within xs place y there in
        let read : key (get_or xs place x) ≡ n = ap key (get_or_from_slice_get xs place y x there) ∙ is in
        let low = up zero (suc place) x (omega arith) (omega arith) in
        let other = apart (key x) n (in_all (λ m. eqb (key x) m ≡ false) n (map key xs) d.0 member) in
        omega arith

-- the systems that live, sorted by clock
pub sorted_systems : (n : NetworkState) (events : List Timed) (before after : List LiveSystem) → IsNetwork n
    → AreLive n.systems events before → IsPermutation before after → IsSortedByKey clock_of_live nat_cmp after
    → AreSystems n.systems events after
sorted_systems n events before after network live moved sorted = record {
  are = subst (λ l. IsPermutation l (seen_systems after)) live.are (IsPermutation-map _ before after moved);
  rising =
      subst IsRising (sym (same_clocks after))
      (rising_distinct clock_of_live after (IsNonDecreasingBy-from_sort clock_of_live after sorted) once);
  octets = λ s member. live.octets s (In-permutation s after before (IsPermutation-sym before after moved) member);
}
  where
    once_before : IsDistinct eqb (map clock_of_live before)
    once_before =
        subst (IsDistinct eqb) (ap (map (λ (s : System). s.clock)) (sym live.are) ∙ same_clocks before)
        (distinct _ (live_once n.systems events network.clocks))

    once : IsDistinct eqb (map clock_of_live after)
    once =
        IsDistinct-IsPermutation eqb flips (map clock_of_live before) (map clock_of_live after)
        (IsPermutation-map clock_of_live before after moved) once_before

-- ---- one link more

used_append : (ws vs : List LinkSpec) (events : List Timed) (systems : List System)
    → used_links (ws ++ vs) events systems ≡ used_links ws events systems ++ used_links vs events systems
used_append ws vs events systems =
    ap (λ l. filter (joins_two systems) (map link_of l)) (filter_map-append (joined_after events) ws vs)
    ∙ ap (filter (joins_two systems))
    (map-append link_of (filter_map (joined_after events) ws) (filter_map (joined_after events) vs))
    ∙ filter-append (joins_two systems) (map link_of (filter_map (joined_after events) ws))
    (map link_of (filter_map (joined_after events) vs))

module _ (wires : List LinkSpec) (events : List Timed) (systems : List System) (place : ℕ)
    (within : place < length wires) where
  -- the link at the place is down
  pub used_kept : None ≡ option_and_then (joined_after events) (slice_get wires place)
      → used_links (take (place + 1) wires) events systems ≡ used_links (take place wires) events systems
  used_kept none =
      let (w, at, more) = taken wires place within in
      let down : joined_after events w ≡ None = sym (none ∙ ap (option_and_then (joined_after events)) at) in
      let rest : used_links (w ∷ []) events systems ≡ [] =
      ap (λ (o : Option (PortId × PortId)). filter (joins_two systems) (map link_of (cons_option o []))) down in
      ap (λ l. used_links l events systems) more ∙ used_append (take place wires) (w ∷ []) events systems
      ∙ ap (λ l. used_links (take place wires) events systems ++ l) rest
      ∙ append-nil (used_links (take place wires) events systems)

  -- the link at the place is up
  pub used_added : (a b : PortId) → Some (a, b) ≡ option_and_then (joined_after events) (slice_get wires place)
      → (before after : List Link) → before ≡ used_links (take place wires) events systems
      → after ≡ before ++ filter (joins_two systems) (link_of (a, b) ∷ [])
      → after ≡ used_links (take (place + 1) wires) events systems
  used_added a b some before after are is =
      let (w, at, more) = taken wires place within in
      let up : joined_after events w ≡ Some (a, b) = sym (some ∙ ap (option_and_then (joined_after events)) at) in
      let rest : used_links (w ∷ []) events systems ≡ filter (joins_two systems) (link_of (a, b) ∷ []) =
      ap (λ (o : Option (PortId × PortId)). filter (joins_two systems) (map link_of (cons_option o []))) up in
      is ∙ ap₂ (λ (k l : List Link). k ++ l) are (sym rest)
      ∙ sym (used_append (take place wires) (w ∷ []) events systems) ∙ sym (ap (λ l. used_links l events systems) more)

-- ---- both ends of each link

-- an end of a link, from its first port or from its second
end_of : PortIdentity → PortIdentity → LinkEnd
end_of here there = record { here = port_id_of here; there = port_id_of there }

-- where a link joins two ports, so does one of its ends
end_is : (ls : List UsedLink) (here there : PortId)
    → In (link_of (here, there)) (seen_links ls) ⊎ In (link_of (there, here)) (seen_links ls)
    → In (record { here = here; there = there }) (flat_map both_ends ls)
unfolding end_of
end_is [] here there (inl h) = absurd h
end_is [] here there (inr h) = absurd h
end_is (l ∷ ls) here there (inl (inl e)) = inl (ap (λ (k : Link). end_of k.a k.b) e)
end_is (l ∷ ls) here there (inl (inr h)) = inr (inr (end_is ls here there (inl h)))
end_is (l ∷ ls) here there (inr (inl e)) = inr (inl (ap (λ (k : Link). end_of k.b k.a) e))
end_is (l ∷ ls) here there (inr (inr h)) = inr (inr (end_is ls here there (inr h)))

-- each end is of a link that joins it
link_is : (ls : List UsedLink) (here there : PortId)
    → In (record { here = here; there = there }) (flat_map both_ends ls)
    → In (link_of (here, there)) (seen_links ls) ⊎ In (link_of (there, here)) (seen_links ls)
link_is [] here there member = absurd member
link_is (l ∷ ls) here there (inl e) = inl (inl (ap (λ (x : LinkEnd). link_of (x.here, x.there)) e))
link_is (l ∷ ls) here there (inr (inl e)) = inr (inl (ap (λ (x : LinkEnd). link_of (x.there, x.here)) e))
link_is (l ∷ ls) here there (inr (inr member)) =
    elim (link_is ls here there member) [ inl h ↦ inl (inr h) | inr h ↦ inr (inr h) ]

-- the ends, sorted by port
pub sorted_ends : (links : List UsedLink) (before after : List LinkEnd) → before ≡ flat_map both_ends links
    → IsPermutation before after → RisesByPort after → AreEnds (seen_links links) after
sorted_ends links before after is moved rises = record {
  order = rises;
  all = λ here there. let end : LinkEnd = record { here = here; there = there } in (
    (λ h. In-permutation end before after moved (subst (In end) (sym is) (end_is links here there h))),
    (λ h. let member = In-permutation end after before (IsPermutation-sym before after moved) h in
        link_is links here there (subst (In end) is member)),
  );
}

-- ---- the whole snapshot

module _ (n : NetworkState) (events : List Timed) (systems : List LiveSystem) (links : List UsedLink)
    (are : AreSystems n.systems events systems)
    (used : seen_links links ≡ used_links n.links events (seen_systems systems)) where
  -- what is kept stands after the events
  pub stands : StandsAfter n events (seen systems links)
  stands = record { systems = are.are; rising = are.rising; links = used }

  -- and is a snapshot
  pub tables : (ends : List LinkEnd) → IsNetwork n → AreEnds (seen_links links) ends → AreTables systems links ends
  tables ends network of_links = record {
    network = stands_well n network events (seen systems links) stands octets;
    few = let all = network.few_systems in let some = live_within n.systems events in
        let moved = length_permutation (live_systems n.systems events) (seen_systems systems) are.are in
        omega (arith, length-map systems (λ (s : LiveSystem). system_of (s.identity, s.ports)));
    rising = are.rising;
    ends_are = of_links;
  }
    where
      octets : (s : System) → In s (seen_systems systems) → s.identity < 2 ^ 112
      octets s member =
          let (kept, at, is) = from_map _ s systems member in
          subst (λ (t : System). t.identity < 2 ^ 112) is (are.octets kept at)
