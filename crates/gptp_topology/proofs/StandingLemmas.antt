-- The tables of a network stand as its events leave its systems and links: an act meets the links at the system that it
-- names, and no other.
use Rattle.std.proofs.Common.{◌≡◌, ◌≢◌, ◌≤◌, ◌+◌, ◌⊎◌, ℕ, zero, suc, Bool, true, false, ◌==◌, cond, List, [], ◌∷◌, ◌++◌, length, map, Some, slice_get, slice_set, append_assoc, refl, sym, ap, ap₂, subst, ◌∙◌, inl, inr, arith}
use Rattle.std.proofs.lemmas.Bool.{eqb-true, eqb-false, ne_eqb}
use Rattle.std.proofs.lemmas.List.{length-map}
use Rattle.std.proofs.lemmas.Option.{same_Some}
use Rattle.gptp_lists.specs.Members.{In}
use Rattle.gptp_lists.proofs.SystemSpecLemmas.{In-map, In-slice_get, slice_get-In}
use Rattle.gptp_vector.specs.declared.port.PortId.{PortId}
use Rattle.gptp_roles.specs.Selection.{clock_of}
use Rattle.gptp_scenario.specs.Change.{standing, system_acted, system_stands}
use Rattle.gptp_scenario.specs.InUse.{lives}
use Rattle.gptp_scenario.specs.Network.{IsNetwork, IsPort, NetworkState}
use Rattle.gptp_scenario.specs.declared.change.Act.{Act}
use Rattle.gptp_scenario.specs.declared.change.Timed.{Timed}
use Rattle.gptp_scenario.specs.declared.network.SystemSpec.{SystemSpec}
use Rattle.gptp_scenario.specs.declared.network.LinkSpec.{LinkSpec}
use Rattle.gptp_topology.specs.After.{Stand, node_after, standing_then, standings_after, system_then, systems_after}
use Rattle.gptp_topology.specs.Course.{acted, cable_of, cable_wire, first, named}
use Rattle.gptp_topology.specs.Tables.{NodeState, TablesActed, acted_along, acted_at, acted_system, cables_of, clocks_of, led, neighbours_at, neighbours_of, node_acted, systems_in, tables_seen}
use Rattle.gptp_topology.specs.declared.course.Cable.{Cable}
use Rattle.gptp_topology.specs.declared.course.Standing.{Standing}
use Rattle.gptp_topology.specs.declared.nodes.Node.{Node}
use Rattle.gptp_topology.specs.declared.nodes.System.{System}
use Rattle.gptp_topology.specs.declared.tables.Tables.{Tables}
use Rattle.gptp_topology.proofs.CourseLemmas.{a_after, after, b_after, cable_after, one_more, same_a, same_b}
use Rattle.gptp_topology.proofs.LivesLemmas.{lives_is}
use Rattle.gptp_topology.proofs.NamedLemmas.{untouched}

-- ---- an act meets the links at a system

-- the links stand at their places from here on
abbrev AreNumbered : ℕ → List LinkSpec → Type 0
AreNumbered k [] = Unit {0}
AreNumbered k (w ∷ ws) = (w.bounds.link ≡ k) × AreNumbered (suc k) ws

numbered_from : (ws : List LinkSpec) (k : ℕ) → ((i : ℕ) (w : LinkSpec) → slice_get ws i ≡ Some w
    → w.bounds.link ≡ k + i)
    → AreNumbered k ws
numbered_from [] k at = tt
numbered_from (w ∷ ws) k at = (
  (let here = at zero w refl in omega (arith, here)),
  numbered_from ws (suc k) (λ i v there. let one = at (suc i) v there in omega (arith, one)),
)

at_front : (act : Act) (front : List Standing) (s : Standing) (ss : List Standing) (place : ℕ) → length front ≡ place
    → acted_at act place (front ++ s ∷ ss) ≡ front ++ acted act s ∷ ss
at_front act [] s ss zero is = refl
at_front act [] s ss (suc place) is = absurd (omega (arith, is))
at_front act (r ∷ front) s ss zero is = absurd (omega (arith, is))
at_front act (r ∷ front) s ss (suc place) is = ap (λ rs. r ∷ rs) (at_front act front s ss place (omega (arith, is)))

one_longer : (front : List Standing) (s : Standing) → length (front ++ s ∷ []) ≡ length front + 1
one_longer [] s = refl
one_longer (r ∷ front) s = let rest = one_longer front s in omega (arith, rest)

module _ (act : Act) (f : LinkSpec → Standing)
    (a : (w : LinkSpec) → (f w).cable.a ≡ w.a) (b : (w : LinkSpec) → (f w).cable.b ≡ w.b) where
  -- so those that it meets and those that it doesn't stand as it leaves them
  abbrev All : List LinkSpec → Type 0
  All ws = (front : List Standing) (k : ℕ) → length front ≡ k → AreNumbered k ws
      → acted_along act (neighbours_of (named act) (map cable_of ws)) (front ++ map f ws)
      ≡ front ++ map (λ w. acted act (f w)) ws

  met : (w : LinkSpec) (ws : List LinkSpec) → All ws → (front : List Standing) (k : ℕ) → length front ≡ k
      → (w.bounds.link ≡ k) → AreNumbered (suc k) ws
      → acted_along act (neighbours_of (named act) (map cable_of ws))
      (acted_at act w.bounds.link (front ++ f w ∷ map f ws))
      ≡ front ++ acted act (f w) ∷ map (λ w. acted act (f w)) ws
  met w ws rest front k is here numbered =
      let others = neighbours_of (named act) (map cable_of ws) in
      let longer : length (front ++ acted act (f w) ∷ []) ≡ suc k =
      omega (arith, is, one_longer front (acted act (f w))) in
      ap (acted_along act others) (at_front act front (f w) (map f ws) w.bounds.link (is ∙ sym here))
      ∙ ap (acted_along act others) (sym (append_assoc front (acted act (f w) ∷ []) (map f ws)))
      ∙ rest (front ++ acted act (f w) ∷ []) (suc k) longer numbered
      ∙ append_assoc front (acted act (f w) ∷ []) (map (λ w. acted act (f w)) ws)

  passed : (w : LinkSpec) (ws : List LinkSpec) → All ws → (front : List Standing) (k : ℕ) → length front ≡ k
      → AreNumbered (suc k) ws → (named act ≢ w.a.clock) → (named act ≢ w.b.clock)
      → acted_along act (neighbours_of (named act) (map cable_of ws)) (front ++ f w ∷ map f ws)
      ≡ front ++ acted act (f w) ∷ map (λ w. acted act (f w)) ws
  passed w ws rest front k is numbered not_a not_b =
      let others = neighbours_of (named act) (map cable_of ws) in
      let same : acted act (f w) ≡ f w =
      untouched act (f w) (λ same. not_a (same ∙ ap (λ (p : PortId). p.clock) (a w)))
      (λ same. not_b (same ∙ ap (λ (p : PortId). p.clock) (b w))) in
      let longer : length (front ++ f w ∷ []) ≡ suc k = omega (arith, is, one_longer front (f w)) in
      ap (acted_along act others) (sym (append_assoc front (f w ∷ []) (map f ws)))
      ∙ rest (front ++ f w ∷ []) (suc k) longer numbered
      ∙ append_assoc front (f w ∷ []) (map (λ w. acted act (f w)) ws)
      ∙ ap (λ s. front ++ s ∷ map (λ w. acted act (f w)) ws) (sym same)

  all : (ws : List LinkSpec) → All ws
  all [] front k is numbered = refl
  all (w ∷ ws) front k is (here, numbered) =
      by (all ws) (w.a.clock == named act) refl (w.b.clock == named act) refl
    where
      by : All ws → (first : Bool) → (w.a.clock == named act) ≡ first
          → (second : Bool) → (w.b.clock == named act) ≡ second
          → acted_along act (led (named act) (cable_of w) ++ neighbours_of (named act) (map cable_of ws))
          (front ++ f w ∷ map f ws)
          ≡ front ++ acted act (f w) ∷ map (λ w. acted act (f w)) ws
      by rest true one second two = rw one (met w ws rest front k is here numbered)
      by rest false one true two = rw (one, two) (met w ws rest front k is here numbered)
      by rest false one false two =
          rw (one, two) (passed w ws rest front k is numbered
          (λ same. eqb-false w.a.clock (named act) one (sym same))
          (λ same. eqb-false w.b.clock (named act) two (sym same)))

-- ---- one link is met

-- the link at the place is replaced by what the act makes of it
pub set_is : (act : Act) (ss : List Standing) (place : ℕ) (s now : Standing) → slice_get ss place ≡ Some s
    → now ≡ acted act s → slice_set ss place now ≡ acted_at act place ss
set_is act [] place s now there is = absurd cc
set_is act (r ∷ ss) zero s now there is =
    ap (λ v. v ∷ ss) (is ∙ ap (acted act) (sym (same_Some r s there)))
set_is act (r ∷ ss) (suc place) s now there is = ap (λ rs. r ∷ rs) (set_is act ss place s now there is)

pub beyond : (act : Act) (ss : List Standing) (place : ℕ) → length ss ≤ place → acted_at act place ss ≡ ss
beyond act [] place past = refl
beyond act (s ∷ ss) zero past = absurd (omega (arith, past))
beyond act (s ∷ ss) (suc place) past = ap (λ rs. s ∷ rs) (beyond act ss place (omega (arith, past)))

-- ---- how the tables stand

pub maps_twice : {X Y Z : Type 0} (f : Y → Z) (g : X → Y) (h : X → Z) (xs : List X) → ((x : X) → f (g x) ≡ h x)
    → map f (map g xs) ≡ map h xs
maps_twice f g h [] same = refl
maps_twice f g h (x ∷ xs) same = ap₂ (λ y ys. y ∷ ys) (same x) (maps_twice f g h xs same)

maps_in : {X Y : Type 0} (f g : X → Y) (xs : List X) → ((x : X) → In x xs → f x ≡ g x) → map f xs ≡ map g xs
maps_in f g [] same = refl
maps_in f g (x ∷ xs) same =
    ap₂ (λ y ys. y ∷ ys) (same x (inl refl)) (maps_in f g xs (λ y member. same y (inr member)))

-- a link, as it stands at first, after events
abbrev pub after_first : List Timed → LinkSpec → Standing
after_first events w = after events (first w)

at_after : (ts : List Timed) (s : Standing) → (after ts s).at ≡ s.at
at_after [] s = refl
at_after (t ∷ ts) s = at_after ts (acted t.act s)

module _ (n : NetworkState) (network : IsNetwork n) (events : List Timed) where
  pub standing_is : (w : LinkSpec) → In w n.links → after events (first w) ≡ standing_then n events w
  standing_is w member =
      let (place, there) = slice_get-In w n.links member in
      let wire = network.links place w there in
      let a : (after events (first w)).a_lives ≡ lives n.systems events w.a.clock =
      a_after events (first w) ∙ lives_is n.systems events w.a wire.a in
      let b : (after events (first w)).b_lives ≡ lives n.systems events w.b.clock =
      b_after events (first w) ∙ lives_is n.systems events w.b wire.b in
      λ i. record {
        at = at_after events (first w) i;
        cable = cable_after events (first w) i;
        a_lives = a i;
        b_lives = b i;
      }

  pub standings_are : map (after_first events) n.links ≡ standings_after n events
  standings_are = maps_in (after_first events) (standing_then n events) n.links standing_is

-- the tables of a network have its systems
pub systems_are : (n : NetworkState) (events : List Timed) (t : Tables) → Stand n events t
    → systems_in t.nodes.items ≡ systems_after n events
systems_are n events t stand =
    sym (maps_twice (λ (s : NodeState). s.system) tables_seen (λ (o : Node). o.system) t.nodes.items (λ o. refl))
    ∙ ap (map (λ (s : NodeState). s.system)) stand.nodes
    ∙ maps_twice (λ (s : NodeState). s.system) (node_after (cables_of n) events) (system_then events) n.systems
    (λ m. refl)

pub starts : (ws : List LinkSpec) → map (λ c. first (cable_wire c)) (map cable_of ws) ≡ map first ws
starts ws = maps_twice (λ c. first (cable_wire c)) cable_of first ws (λ w. refl)

-- ---- the links at the system with a clock

same_heads : {X : Type 0} (x y : X) (xs ys : List X) → x ∷ xs ≡ y ∷ ys → x ≡ y
same_heads x y xs ys e = cc

same_tails : {X : Type 0} (x y : X) (xs ys : List X) → x ∷ xs ≡ y ∷ ys → xs ≡ ys
same_tails x y xs ys e = cc

abbrev clock_in : SystemSpec → ℕ
clock_in m = clock_of m.identity

module _ (events : List Timed) (cables : List Cable) (clock : ℕ) where
  -- the neighbours are those of the first system with the clock, or there is none
  abbrev Looked : List Node → List SystemSpec → Type 0
  Looked os ms =
      (neighbours_at clock os ≡ neighbours_of clock cables)
      ⊎ ((neighbours_at clock os ≡ []) × (In clock (map clock_in ms) → ⊥))

  looked : (os : List Node) (ms : List SystemSpec) → map tables_seen os ≡ map (node_after cables events) ms
      → Looked os ms
  looked [] [] are = inr (refl, λ none. absurd none)
  looked [] (m ∷ ms) are = absurd cc
  looked (o ∷ os) [] are = absurd cc
  looked (o ∷ os) (m ∷ ms) are =
      by (o.system.clock == clock) refl
      (looked os ms (same_tails (tables_seen o) (node_after cables events m) (map tables_seen os)
      (map (node_after cables events) ms) are))
    where
      head : tables_seen o ≡ node_after cables events m
      head =
          same_heads (tables_seen o) (node_after cables events m) (map tables_seen os)
          (map (node_after cables events) ms) are

      own : o.system.clock ≡ clock_of m.identity
      own = ap (λ (s : NodeState). s.system.clock) head

      by : (test : Bool) → (o.system.clock == clock) ≡ test → Looked os ms
          → (cond test o.neighbours.items (neighbours_at clock os) ≡ neighbours_of clock cables)
          ⊎ ((cond test o.neighbours.items (neighbours_at clock os) ≡ []) × (In clock (map clock_in (m ∷ ms)) → ⊥))
      by true is rest =
          inl (ap (λ (s : NodeState). s.neighbours) head
          ∙ ap (λ c. neighbours_of c cables) (sym own ∙ eqb-true o.system.clock clock is))
      by false is (inl same) = inl same
      by false is (inr (none, nowhere)) = inr (
        none,
        λ member. elim member [
          | inl here ↦ eqb-false o.system.clock clock is (own ∙ sym here)
          | inr there ↦ nowhere there
        ],
      )

-- where no system has the clock no link is at it
no_link : (clock : ℕ) (owns : List ℕ) (ws : List LinkSpec) → (In clock owns → ⊥)
    → ((w : LinkSpec) → In w ws → In w.a.clock owns × In w.b.clock owns) → neighbours_of clock (map cable_of ws) ≡ []
no_link clock owns [] nowhere ends = refl
no_link clock owns (w ∷ ws) nowhere ends =
    let (a, b) = ends w (inl refl) in
    let not_a : (w.a.clock == clock) ≡ false =
    ne_eqb w.a.clock clock (λ same. nowhere (subst (λ c. In c owns) same a)) in
    let not_b : (w.b.clock == clock) ≡ false =
    ne_eqb w.b.clock clock (λ same. nowhere (subst (λ c. In c owns) same b)) in
    rw (not_a, not_b) (no_link clock owns ws nowhere (λ v member. ends v (inr member)))

module _ (n : NetworkState) (network : IsNetwork n) where
  end_known : (p : PortId) → IsPort n.systems p → In p.clock (clocks_of n)
  end_known p port =
      subst (λ c. In c (clocks_of n)) port.clock
      (In-map (λ (m : SystemSpec). clock_of m.identity) port.system n.systems
      (In-slice_get port.system n.systems port.place port.there))

  ends_known : (w : LinkSpec) → In w n.links → In w.a.clock (clocks_of n) × In w.b.clock (clocks_of n)
  ends_known w member =
      let (place, there) = slice_get-In w n.links member in
      let wire = network.links place w there in
      (end_known w.a wire.a, end_known w.b wire.b)

  pub neighbours_are : (events : List Timed) (t : Tables) (clock : ℕ) → Stand n events t
      → neighbours_at clock t.nodes.items ≡ neighbours_of clock (cables_of n)
  neighbours_are events t clock stand =
      by (looked events (cables_of n) clock t.nodes.items n.systems stand.nodes)
    where
      by : Looked events (cables_of n) clock t.nodes.items n.systems
          → neighbours_at clock t.nodes.items ≡ neighbours_of clock (cables_of n)
      by (inl same) = same
      by (inr (none, nowhere)) = none ∙ sym (no_link clock (clocks_of n) n.links nowhere ends_known)

-- ---- one event more

stands_more : (done : List Timed) (t : Timed) (own : ℕ) (s : _)
    → system_acted t.act own (system_stands done own s) ≡ system_stands (done ++ t ∷ []) own s
stands_more [] t own s = refl
stands_more (u ∷ done) t own s = stands_more done t own (system_acted u.act own s)

system_more : (done : List Timed) (t : Timed) (m : SystemSpec)
    → acted_system t.act (system_then done m) ≡ system_then (done ++ t ∷ []) m
system_more done t m =
    let more = stands_more done t (clock_of m.identity) (standing m) in
    λ i. record { clock = clock_of m.identity; identity = (more i).identity; lives = (more i).live }

-- what an act makes of a system with the links at it
abbrev seen_acted : Act → NodeState → NodeState
seen_acted act s = record { system = acted_system act s.system; neighbours = s.neighbours }

nodes_more : (done : List Timed) (t : Timed) (cables : List Cable) (os : List Node) (ms : List SystemSpec)
    → map tables_seen os ≡ map (node_after cables done) ms
    → map tables_seen (map (node_acted t.act) os) ≡ map (node_after cables (done ++ t ∷ [])) ms
nodes_more done t cables os ms are =
    maps_twice tables_seen (node_acted t.act) (λ (o : Node). seen_acted t.act (tables_seen o)) os (λ o. refl)
    ∙ sym (maps_twice (seen_acted t.act) tables_seen (λ (o : Node). seen_acted t.act (tables_seen o)) os (λ o. refl))
    ∙ ap (map (seen_acted t.act)) are
    ∙ maps_twice (seen_acted t.act) (node_after cables done) (node_after cables (done ++ t ∷ [])) ms
    (λ m. ap (λ (s : System). record { system = s; neighbours = neighbours_of (clock_of m.identity) cables })
    (system_more done t m))

pub stand_more : (n : NetworkState) → IsNetwork n → (done : List Timed) (t : Timed) (old new : Tables)
    → Stand n done old → TablesActed t.act old new → Stand n (done ++ t ∷ []) new
stand_more n network done t old new stand acts = record {
  params = acts.params ∙ stand.params;
  nodes =
      ap (map tables_seen) acts.nodes
      ∙ nodes_more done t (cables_of n) old.nodes.items n.systems stand.nodes;
  standings =
      acts.standings
      ∙ ap₂ (acted_along t.act) (neighbours_are n network done old (named t.act) stand)
      (stand.standings ∙ sym (standings_are n network done))
      ∙ all t.act (after_first done) (ends_a done) (ends_b done) n.links [] 0 refl
      (numbered_from n.links 0 (λ i w there. let is = (network.links i w there).number in omega (arith, is)))
      ∙ maps_in (λ w. acted t.act (after_first done w)) (after_first (done ++ t ∷ [])) n.links
      (λ w member. one_more done t (first w))
      ∙ standings_are n network (done ++ t ∷ []);
  marks = acts.marks;
}
  where
    ends_a : (events : List Timed) (w : LinkSpec) → (after_first events w).cable.a ≡ w.a
    ends_a events w = ap (λ (c : Cable). c.a) (cable_after events (first w)) ∙ same_a events w

    ends_b : (events : List Timed) (w : LinkSpec) → (after_first events w).cable.b ≡ w.b
    ends_b events w = ap (λ (c : Cable). c.b) (cable_after events (first w)) ∙ same_b events w

pub few_nodes : (n : NetworkState) → IsNetwork n → (events : List Timed) (t : Tables) → Stand n events t
    → length t.nodes.items ≤ 512
few_nodes n network events t stand =
    let limit = network.few_systems in
    let nodes = length-map t.nodes.items tables_seen in
    let systems = length-map n.systems (node_after (cables_of n) events) in
    let same = ap length stand.nodes in
    omega (arith, limit, nodes, systems, same)
