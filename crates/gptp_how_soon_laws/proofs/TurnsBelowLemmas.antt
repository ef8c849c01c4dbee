-- The systems that turn below a top are a tree with one way out, from one snapshot to the other.
use Rattle.std.proofs.Common.{◌≡◌, ◌<◌, ◌⊎◌, inl, inr, ◌-◌, ◌+◌, ℕ, suc, Bool, true, false, List, [], Option, Some, None, length, slice_get, refl, sym, ap, subst, ◌∙◌, arith, filter}
use Rattle.std.specs.Prelude.{◌&&◌, nat_le, not, if◌then◌else◌, ◌==◌, nat_lt}
use Rattle.std.specs.List.{count_by, range_with_len}
use Rattle.std.proofs.lemmas.Bool.{and_parts, and_from, eqb-true, or_cases, or_left, or_right, not-true}
use Rattle.gptp_lists.specs.Members.{In}
use Rattle.gptp_lists.proofs.SystemSpecLemmas.{In-map, from_map}
use Rattle.gptp_bmca_machine.specs.FailureTrees.{Turning}
use Rattle.gptp_graph.specs.Best.{IsBest}
use Rattle.gptp_graph.specs.Distance.{IsDistance}
use Rattle.gptp_graph.specs.Snapshot.{Adjacent, IsWellFormed, Joins, PortIdentity, Snapshot, System, clocks, port_of}
use Rattle.gptp_graph.proofs.DistanceLemmas.{IsDistance-unique}
use Rattle.gptp_graph.proofs.LinkLemmas.{Adjacent-clock, Adjacent-sym}
use Rattle.gptp_network.specs.Snapshot.{StandsAfter, link_of}
use Rattle.gptp_network.proofs.PassLemmas.{kept}
use Rattle.gptp_network.proofs.SnapshotLemmas.{from_filter}
use Rattle.gptp_scenario.specs.Network.{IsNetwork, NetworkState}
use Rattle.gptp_scenario.specs.declared.change.Timed.{Timed}
use Rattle.gptp_scenario.specs.declared.network.LinkSpec.{LinkSpec}
use Rattle.gptp_topology.specs.After.{systems_after}
use Rattle.gptp_topology.specs.declared.nodes.System as ours
use Rattle.gptp_how_soon.specs.Chosen.{chosen_after, ends_of, is_moved_at, is_used_then, place_of, used_ends}
use Rattle.gptp_how_soon.specs.Tree.{has_no_more_steps, has_same_root, is_one_apart}
use Rattle.gptp_how_soon.specs.Turned.{goes_farther, leads_nearer}
use Rattle.gptp_how_soon.specs.TurnedTree.{is_in_part, leads_nearer_within, leads_one_on_within, leads_out, stays_or_turns, turns_below}
use Rattle.gptp_how_soon.specs.declared.chosen.Chosen.{Chosen}
use Rattle.gptp_how_soon.specs.declared.chosen.Ends.{Ends}
use Rattle.gptp_how_soon.proofs.ChosenLemmas.{IsAt, link_stands, one_clock, place_is}
use Rattle.gptp_how_soon_laws.proofs.FailedLemmas.{each_is}
use Rattle.gptp_how_soon_laws.proofs.TreeTestLemmas.{apart_so, fewer_back, nearer_at_first, nearer_at_second, no_more_so, one_same, same_so}
use Rattle.gptp_how_soon_laws.proofs.UnmovedLemmas.{asked_of}
use Rattle.gptp_how_soon_laws.proofs.WorseningLemmas.{same_system}
use Rattle.gptp_how_soon_laws.proofs.LivesOnLemmas.{LivesOn, on_at, on_of}
use Rattle.gptp_how_soon_laws.proofs.LostLinkLemmas.{IsJoinedBy, joined_by, same_port, used_links}
use Rattle.gptp_how_soon_laws.proofs.OneLostLemmas.{AreEnds, ends_at_places}
use Rattle.gptp_how_soon_laws.proofs.TurnedTreeTestLemmas.{TurnsAt, least_so, less_so, one_there, part_turns}

-- What is so of such a tree, whatever becomes of others and of links of before. Who turns is known by places.
pub record HasTurned (n : NetworkState) (turned : ℕ → Bool) (g h : Snapshot) (best : System) (t : Turning)
    : Type 0 where
  pub in_top : In t.top t.tree
  pub lives : (v : ℕ) → In v t.tree → In v (clocks h)
  pub member : (i v : ℕ) → IsAt n i v → In v (clocks h) → turned i ≡ true → In v t.tree
  pub turned_of : (i v : ℕ) → IsAt n i v → In v t.tree → turned i ≡ true
  pub was_best : (v : ℕ) → In v t.tree → IsBest g v best
  pub is_best : (v : ℕ) → In v t.tree → IsBest h v best
  pub was : (v : ℕ) → In v t.tree → IsDistance g v (t.base + t.depth v)
  pub farther : (v far : ℕ) → In v t.tree → IsDistance h v far → t.base + t.depth v < far
  pub first : t.depth t.top ≡ 0
  pub steps : (v u : ℕ) → In v t.tree → In u t.tree → Adjacent h v u
      → (t.depth u ≡ suc (t.depth v)) ⊎ (t.depth v ≡ suc (t.depth u))
  pub single : (v p q : ℕ) (a b : PortIdentity) → In v t.tree → In a.clock t.tree → In b.clock t.tree
      → Joins h (port_of v p) a → Joins h (port_of v q) b
      → t.depth v ≡ suc (t.depth a.clock) → t.depth v ≡ suc (t.depth b.clock)
      → p ≡ q
  pub leaves : (v u : ℕ) → In v t.tree → Adjacent h v u → In u t.tree ⊎ ((v ≡ t.last) × (u ≡ t.out))
  pub in_last : In t.last t.tree
  pub outside : In t.out t.tree → ⊥
  pub joined : Adjacent h t.last t.out
  pub one_way : (p q k m : ℕ) → Joins h (port_of t.last p) (port_of t.out k)
      → Joins h (port_of t.last q) (port_of t.out m)
      → p ≡ q

abbrev steps_of : Option Chosen → ℕ
steps_of None = 0
steps_of (Some c) = c.steps

module _ (n : NetworkState) (network : IsNetwork n) (made events : List Timed) where
  abbrev before : List Chosen
  before = chosen_after n made

  abbrev now : List Chosen
  now = chosen_after n events

  abbrev systems : List ours.System
  systems = systems_after n events

  abbrev links : List Ends
  links = used_ends n events

  -- ---- between two snapshots

  module _ (names : List Chosen) (top top_clock : ℕ) (t : TurnsAt n network made events names top) (g h : Snapshot)
      (stands : StandsAfter n made g) (stands' : StandsAfter n events h) (well : IsWellFormed g)
      (well' : IsWellFormed h) (lived : (v : ℕ) → In v (clocks h) → In v (clocks g))
      (top_is : LivesOn n network made events g h stands stands' well well' lived top top_clock) where
    -- who is of the part
    abbrev pub turned : ℕ → Bool
    turned = is_in_part systems before now names top

    abbrev On : ℕ → ℕ → Type 0
    On = LivesOn n network made events g h stands stands' well well' lived

    on : (v : ℕ) → In v (clocks h) → (i : ℕ) × On i v
    on = on_of n network made events g h stands stands' well well' lived

    on_there : (i v : ℕ) → IsAt n i v → In v (clocks h) → On i v
    on_there = on_at n network made events g h stands stands' well well' lived

    abbrev pub best : System
    best = top_is.chose.best

    abbrev pub base : ℕ
    base = top_is.was.steps

    -- ---- who is of the tree

    abbrev pub inside : ℕ → Bool
    inside v = turned (place_of (systems_after n []) v)

    abbrev pub tree : List ℕ
    tree = filter inside (clocks h)

    place_so : (i v : ℕ) → IsAt n i v → inside v ≡ turned i
    place_so i v at = ap turned (place_is n network made g stands well [] i v at)

    member : (i v : ℕ) → On i v → turned i ≡ true → In v tree
    member i v s is = kept inside v (clocks h) s.known (place_so i v s.at ∙ is)

    known_of : (v : ℕ) → In v tree → In v (clocks h)
    known_of v listed = (from_filter inside v (clocks h) listed).0

    turned_of : (i v : ℕ) → IsAt n i v → In v tree → turned i ≡ true
    turned_of i v at listed = sym (place_so i v at) ∙ (from_filter inside v (clocks h) listed).1

    record Below (i : ℕ) : Type 0 where
      root : has_same_root (slice_get before top) (slice_get before i) ≡ true
      steps : has_no_more_steps (slice_get before top) (slice_get before i) ≡ true
      single : nat_le (count_by (leads_nearer_within turned before i) links) 1 ≡ true

    below : (i v : ℕ) → IsAt n i v → turned i ≡ true → Below i
    below i v at is =
        elim (or_cases (not (turned i)) (turns_below turned links before top i)
        (each_is (stays_or_turns turned links before top) (range_with_len 0 (length systems)) i t.each
        (asked_of n events i at.system at.there))) [
          | inl apart ↦ let no : false ≡ true = ap not (sym is) ∙ apart in absurd cc
          | inr so ↦
              let root_test : Bool = has_same_root (slice_get before top) (slice_get before i) in
              let steps_test : Bool = has_no_more_steps (slice_get before top) (slice_get before i) in
              let single_test : Bool = nat_le (count_by (leads_nearer_within turned before i) links) 1 in
              let (two, single) = and_parts (root_test && steps_test) single_test so in
              let (root, steps) = and_parts root_test steps_test two in
              record { root = root; steps = steps; single = single }
        ]

    -- ---- what such a system chose, and chooses

    -- it had the best of the top
    had : (i v : ℕ) (s : On i v) → turned i ≡ true → s.chose.best ≡ best
    had i v s is =
        let root =
        same_so before top i top_is.was s.was top_is.was_there s.was_there (below i v s.at is).root in
        same_system n network made made g g stands stands s.chose.best best s.chose.is_best.live
        top_is.chose.is_best.live (sym s.chose.root ∙ sym root ∙ top_is.chose.root)

    goes : (i v : ℕ) (s : On i v) → turned i ≡ true → (s.was.root ≡ s.is.root) × (s.was.steps < s.is.steps)
    goes i v s is =
        let b = s.was in
        let c = s.is in
        let told : goes_farther (Some b) (Some c) ≡ true =
        (λ k. goes_farther (sym s.was_there k) (sym s.is_there k))
        ∙ (and_parts (is_moved_at systems before now i) (goes_farther (slice_get before i) (slice_get now i))
        (part_turns n network made events names top i is)).1 in
        let (root, steps) = and_parts (b.root == c.root) (nat_lt b.steps c.steps) told in
        (eqb-true b.root c.root root, less_so b.steps c.steps steps)

    -- and has it still
    has_still : (i v : ℕ) (s : On i v) → turned i ≡ true → s.chose.best ≡ s.chooses.best
    has_still i v s is =
        same_system n network made events g h stands stands' s.chose.best s.chooses.best s.chose.is_best.live
        s.chooses.is_best.live (sym s.chose.root ∙ (goes i v s is).0 ∙ s.chooses.root)

    abbrev depth_at : ℕ → ℕ
    depth_at i = if turned i then steps_of (slice_get before i) - base else 0

    pub depth : ℕ → ℕ
    depth v = depth_at (place_of (systems_after n []) v)

    depth_there : (i v : ℕ) → IsAt n i v → depth v ≡ depth_at i
    unfolding depth
    depth_there i v at = ap depth_at (place_is n network made g stands well [] i v at)

    depth_is : (i v : ℕ) (s : On i v) → turned i ≡ true → base + depth v ≡ s.was.steps
    depth_is i v s is =
        let least =
        no_more_so before top i top_is.was s.was top_is.was_there s.was_there (below i v s.at is).steps in
        let here : depth v ≡ s.was.steps - base =
        depth_there i v s.at ∙ ap (λ b. if b then steps_of (slice_get before i) - base else 0) is
        ∙ ap (λ o. steps_of o - base) s.was_there in
        omega (arith, least, here)

    -- ---- facts of the tree

    in_tree : (v : ℕ) → In v tree → (i : ℕ) × (s : On i v) × (turned i ≡ true)
    in_tree v listed = let (i, s) = on v (known_of v listed) in (i, s, turned_of i v s.at listed)

    was_best : (v : ℕ) → In v tree → IsBest g v best
    was_best v listed =
        let (i, s, is) = in_tree v listed in subst (IsBest g v) (had i v s is) s.chose.is_best

    is_best : (v : ℕ) → In v tree → IsBest h v best
    is_best v listed =
        let (i, s, is) = in_tree v listed in
        subst (IsBest h v) (sym (has_still i v s is) ∙ had i v s is) s.chooses.is_best

    was_far : (v : ℕ) → In v tree → IsDistance g v (base + depth v)
    was_far v listed =
        let (i, s, is) = in_tree v listed in subst (IsDistance g v) (sym (depth_is i v s is)) s.chose.far

    farther : (v far : ℕ) → In v tree → IsDistance h v far → base + depth v < far
    farther v far listed far_is =
        let (i, s, is) = in_tree v listed in
        let now_is = IsDistance-unique h v far s.is.steps well' far_is s.chooses.far in
        let was_is = depth_is i v s is in
        let more = (goes i v s is).1 in
        omega (arith, now_is, was_is, more)

    first : depth top_clock ≡ 0
    first =
        let is = depth_is top top_clock top_is t.turns in
        let same : base ≡ top_is.was.steps = refl in
        omega (arith, is, same)

    in_top : In top_clock tree
    in_top = member top top_clock top_is t.turns

    -- ---- links within the tree

    abbrev Joined : ℕ → ℕ → PortIdentity → PortIdentity → Type 0
    Joined = IsJoinedBy n network made g stands well events h stands' well'

    joined : (i j : ℕ) (p q : PortIdentity) → IsAt n i p.clock → IsAt n j q.clock → Joins h p q → Joined i j p q
    joined = joined_by n network made g stands well events h stands' well'

    used : (i j : ℕ) (p q : PortIdentity) (x : Joined i j p q) → In (ends_of n x.wire) links
    used i j p q x = In-map (ends_of n) x.wire (used_links n events) x.among

    -- the systems at these places are one step apart
    one_apart : (a b : ℕ) (e : Ends) → In e links → e ≡ record { a = a; b = b } → turned a ≡ true → turned b ≡ true
        → is_one_apart (slice_get before a) (slice_get before b) ≡ true
    one_apart a b e listed same is is' =
        let told : leads_one_on_within turned before (record { a = a; b = b }) ≡ true =
        subst (λ d. leads_one_on_within turned before d ≡ true) same
        (each_is (leads_one_on_within turned before) links e t.on listed) in
        elim (or_cases (not (turned a && turned b)) (is_one_apart (slice_get before a) (slice_get before b)) told) [
          | inl apart ↦
              let both = and_from (turned a) (turned b) is is' in
              let no : false ≡ true = ap not (sym both) ∙ apart in
              absurd cc
          | inr one ↦ one
        ]

    steps : (v u : ℕ) → In v tree → In u tree → Adjacent h v u
        → (depth u ≡ suc (depth v)) ⊎ (depth v ≡ suc (depth u))
    steps v u listed listed' (p, q, joins) =
        let (i, s, is) = in_tree v listed in
        let (j, r, is') = in_tree u listed' in
        let x = joined i j (port_of v p) (port_of u q) s.at r.at joins in
        let v_is = depth_is i v s is in
        let u_is = depth_is j u r is' in
        let apart : (s.was.steps ≡ suc r.was.steps) ⊎ (r.was.steps ≡ suc s.was.steps) = elim x.by [
          | inl (ends, link) ↦
              apart_so before i j s.was r.was s.was_there r.was_there
              (one_apart i j (ends_of n x.wire) (used i j (port_of v p) (port_of u q) x) ends is is')
          | inr (ends, link) ↦
              elim (apart_so before j i r.was s.was r.was_there s.was_there
              (one_apart j i (ends_of n x.wire) (used i j (port_of v p) (port_of u q) x) ends is' is)) [
                | inl more ↦ inr more
                | inr more ↦ inl more
              ]
        ] in
        elim apart [
          | inl more ↦ inr (omega (arith, v_is, u_is, more))
          | inr more ↦ inl (omega (arith, v_is, u_is, more))
        ]

    -- one of the links of a system that lead less deep
    record Leads (i v port : ℕ) (c : PortIdentity) : Type 0 where
      wire : LinkSpec
      among : In wire (used_links n events)
      nearer_within : leads_nearer_within turned before i (ends_of n wire) ≡ true
      link : (link_of (wire.a, wire.b) ≡ record { a = port_of v port; b = c })
          ⊎ (link_of (wire.a, wire.b) ≡ record { a = c; b = port_of v port })

    leads : (i v port : ℕ) (c : PortIdentity) (s : On i v) → turned i ≡ true → In c.clock tree
        → Joins h (port_of v port) c → depth v ≡ suc (depth c.clock) → Leads i v port c
    leads i v port c s is listed joins less =
        let (j, r, is') = in_tree c.clock listed in
        let x = joined i j (port_of v port) c s.at r.at joins in
        let v_is = depth_is i v s is in
        let c_is = depth_is j c.clock r is' in
        let fewer =
        fewer_back before j i r.was s.was r.was_there s.was_there (omega (arith, v_is, c_is, less)) in
        record {
          wire = x.wire;
          among = x.among;
          nearer_within = elim x.by [
            | inl (ends, link) ↦
                ap (leads_nearer_within turned before i) ends
                ∙ and_from (turned i && turned j) (leads_nearer before i (record { a = i; b = j }))
                (and_from (turned i) (turned j) is is') (nearer_at_first before i j fewer)
            | inr (ends, link) ↦
                ap (leads_nearer_within turned before i) ends
                ∙ and_from (turned j && turned i) (leads_nearer before i (record { a = j; b = i }))
                (and_from (turned j) (turned i) is' is) (nearer_at_second before i j fewer)
          ];
          link = elim x.by [ inl (ends, link) ↦ inl link | inr (ends, link) ↦ inr link ];
        }

    no_loop : (v : ℕ) (c : PortIdentity) → depth v ≡ suc (depth c.clock) → c.clock ≡ v → ⊥
    no_loop v c less same = let k : depth c.clock ≡ depth v = ap depth same in absurd (omega (arith, less, k))

    single : (v p q : ℕ) (a b : PortIdentity) → In v tree → In a.clock tree → In b.clock tree
        → Joins h (port_of v p) a → Joins h (port_of v q) b → depth v ≡ suc (depth a.clock)
        → depth v ≡ suc (depth b.clock) → p ≡ q
    single v p q a b listed listed_a listed_b first_joins second_joins near near' =
        let (i, s, is) = in_tree v listed in
        let x = leads i v p a s is listed_a first_joins near in
        let y = leads i v q b s is listed_b second_joins near' in
        let one : x.wire ≡ y.wire =
        one_same (leads_nearer_within turned before i) (ends_of n) (used_links n events) x.wire y.wire
        (least_so (count_by (leads_nearer_within turned before i) links) 1 (below i v s.at is).single) x.among y.among
        x.nearer_within y.nearer_within in
        same_port v p q a b (no_loop v a near) (no_loop v b near') x.link y.link
        (ap (λ (w : LinkSpec). link_of (w.a, w.b)) one)

    -- ---- the way out

    pub record WayOut : Type 0 where
      pub wire : LinkSpec
      pub among : In wire (used_links n events)
      pub out_by : leads_out turned (ends_of n wire) ≡ true
      pub last : ℕ
      pub out : ℕ
      pub last_clock : ℕ
      pub out_clock : ℕ
      pub ends : AreEnds n network made events wire last out last_clock out_clock
      pub turns_last : turned last ≡ true
      pub stays_out : not (turned out) ≡ true

    pub way : WayOut
    way =
        let one = eqb-true (count_by (leads_out turned) links) 1 t.way in
        let (e, listed, is) = one_there (leads_out turned) links one in
        let (w, among, of) = from_map (ends_of n) e (used_links n events) listed in
        let here : leads_out turned (ends_of n w) ≡ true = ap (leads_out turned) of ∙ is in
        let a : ℕ = (ends_of n w).a in
        let b : ℕ = (ends_of n w).b in
        elim (or_cases (turned a && not (turned b)) (turned b && not (turned a)) here) [
          | inl both ↦
              let (first_is, second_is) = and_parts (turned a) (not (turned b)) both in
              record {
                wire = w;
                among = among;
                out_by = here;
                last = a;
                out = b;
                last_clock = w.a.clock;
                out_clock = w.b.clock;
                ends = inl (refl, refl, refl, refl);
                turns_last = first_is;
                stays_out = second_is;
              }
          | inr both ↦
              let (first_is, second_is) = and_parts (turned b) (not (turned a)) both in
              record {
                wire = w;
                among = among;
                out_by = here;
                last = b;
                out = a;
                last_clock = w.b.clock;
                out_clock = w.a.clock;
                ends = inr (refl, refl, refl, refl);
                turns_last = first_is;
                stays_out = second_is;
              }
        ]

    wire_known : In way.wire n.links
    wire_known = (from_filter (is_used_then n events) way.wire n.links way.among).0

    ends_there : IsAt n way.last way.last_clock × IsAt n way.out way.out_clock
    ends_there =
        ends_at_places n network made events g stands well way.wire way.last way.out way.last_clock way.out_clock
        wire_known way.ends

    leads_to_out : Adjacent h way.last_clock way.out_clock
    leads_to_out =
        let stood = link_stands n network events h stands' well' way.wire wire_known
        (from_filter (is_used_then n events) way.wire n.links way.among).1 in
        elim way.ends [
          | inl (a, b, x, y) ↦
              subst (λ u. Adjacent h way.last_clock u) b
              (subst (λ v. Adjacent h v way.wire.b.clock) a (way.wire.a.port, way.wire.b.port, inl stood))
          | inr (a, b, x, y) ↦
              subst (λ u. Adjacent h way.last_clock u) b
              (subst (λ v. Adjacent h v way.wire.a.clock) a (way.wire.b.port, way.wire.a.port, inr stood))
        ]

    in_last : In way.last_clock tree
    in_last =
        member way.last way.last_clock
        (on_there way.last way.last_clock ends_there.0
        (Adjacent-clock h way.out_clock way.last_clock well'
        (Adjacent-sym h way.last_clock way.out_clock leads_to_out))) way.turns_last

    outside : In way.out_clock tree → ⊥
    outside listed =
        let is = turned_of way.out way.out_clock ends_there.1 listed in
        let no : false ≡ true = ap not (sym is) ∙ way.stays_out in
        absurd cc

    -- a link has its ends
    abbrev Pair : LinkSpec → Type 0
    Pair v =
        (((ends_of n v).a ≡ way.last) × ((ends_of n v).b ≡ way.out))
        ⊎ (((ends_of n v).b ≡ way.last) × ((ends_of n v).a ≡ way.out))

    -- a link that joins a system of the tree to one that isn't in it is that one
    record IsWay (i j : ℕ) (w : LinkSpec) : Type 0 where
      same : w ≡ way.wire
      first_is : i ≡ way.last
      second_is : j ≡ way.out

    is_way : (i j : ℕ) (w : LinkSpec) → In w (used_links n events)
        → (ends_of n w ≡ record { a = i; b = j }) ⊎ (ends_of n w ≡ record { a = j; b = i })
        → turned i ≡ true → turned j ≡ false → IsWay i j w
    is_way i j w among which is none =
        let here : leads_out turned (ends_of n w) ≡ true = elim which [
          | inl ends ↦
              ap (leads_out turned) ends
              ∙ or_left (turned i && not (turned j)) (turned j && not (turned i))
              (and_from (turned i) (not (turned j)) is (ap not none))
          | inr ends ↦
              ap (leads_out turned) ends
              ∙ or_right (turned j && not (turned i)) (turned i && not (turned j))
              (and_from (turned i) (not (turned j)) is (ap not none))
        ] in
        let count = eqb-true (count_by (leads_out turned) links) 1 t.way in
        let same : w ≡ way.wire =
        one_same (leads_out turned) (ends_of n) (used_links n events) w way.wire (omega (arith, count)) among way.among
        here way.out_by in
        let (first_is, second_is) = by which (pair same) in
        record { same = same; first_is = first_is; second_is = second_is }
      where
        apart : (k : ℕ) {A : Type 0} → turned k ≡ true → turned k ≡ false → A
        apart k is_so none_so = let both : true ≡ false = sym is_so ∙ none_so in absurd cc

        stays_so : turned way.out ≡ false
        stays_so = not-true (turned way.out) way.stays_out

        pair : w ≡ way.wire → Pair w
        pair same = subst Pair (sym same) (elim way.ends [
          | inl (a, b, x, y) ↦ inl (x, y)
          | inr (a, b, x, y) ↦ inr (x, y)
        ])

        by : (ends_of n w ≡ record { a = i; b = j }) ⊎ (ends_of n w ≡ record { a = j; b = i }) → Pair w
            → (i ≡ way.last) × (j ≡ way.out)
        by (inl ends) (inl (x, y)) =
            (sym (ap (λ (e : Ends). e.a) ends) ∙ x, sym (ap (λ (e : Ends). e.b) ends) ∙ y)
        by (inl ends) (inr (x, y)) =
            apart way.last way.turns_last (ap turned (sym x ∙ ap (λ (e : Ends). e.b) ends) ∙ none)
        by (inr ends) (inl (x, y)) =
            apart way.last way.turns_last (ap turned (sym x ∙ ap (λ (e : Ends). e.a) ends) ∙ none)
        by (inr ends) (inr (x, y)) =
            (sym (ap (λ (e : Ends). e.b) ends) ∙ x, sym (ap (λ (e : Ends). e.a) ends) ∙ y)

    ends_by : (i j : ℕ) (p q : PortIdentity) (x : Joined i j p q)
        → (ends_of n x.wire ≡ record { a = i; b = j }) ⊎ (ends_of n x.wire ≡ record { a = j; b = i })
    ends_by i j p q x = elim x.by [ inl (ends, link) ↦ inl ends | inr (ends, link) ↦ inr ends ]

    leaves : (v u : ℕ) → In v tree → Adjacent h v u → In u tree ⊎ ((v ≡ way.last_clock) × (u ≡ way.out_clock))
    leaves v u listed (p, q, joins) =
        let (i, s, is) = in_tree v listed in
        let (j, r) = on u (Adjacent-clock h v u well' (p, q, joins)) in
        by i s is j r (turned j) refl
      where
        by : (i : ℕ) (s : On i v) → turned i ≡ true → (j : ℕ) (r : On j u) (test : Bool) → turned j ≡ test
            → In u tree ⊎ ((v ≡ way.last_clock) × (u ≡ way.out_clock))
        by i s is j r true is' = inl (member j u r is')
        by i s is j r false none =
            let x = joined i j (port_of v p) (port_of u q) s.at r.at joins in
            let y = is_way i j x.wire x.among (ends_by i j (port_of v p) (port_of u q) x) is none in
            inr (
              one_clock n network made g stands well way.last v way.last_clock
                  (subst (λ k. IsAt n k v) y.first_is s.at) ends_there.0,
              one_clock n network made g stands well way.out u way.out_clock
                  (subst (λ k. IsAt n k u) y.second_is r.at) ends_there.1,
            )

    one_way : (p q k m : ℕ) → Joins h (port_of way.last_clock p) (port_of way.out_clock k)
        → Joins h (port_of way.last_clock q) (port_of way.out_clock m) → p ≡ q
    one_way p q k m first_joins second_joins =
        let x = joined way.last way.out (port_of way.last_clock p) (port_of way.out_clock k) ends_there.0 ends_there.1
        first_joins in
        let y = joined way.last way.out (port_of way.last_clock q) (port_of way.out_clock m) ends_there.0 ends_there.1
        second_joins in
        let none : turned way.out ≡ false = not-true (turned way.out) way.stays_out in
        let a = is_way way.last way.out x.wire x.among
        (ends_by way.last way.out (port_of way.last_clock p) (port_of way.out_clock k) x) way.turns_last none in
        let b = is_way way.last way.out y.wire y.among
        (ends_by way.last way.out (port_of way.last_clock q) (port_of way.out_clock m) y) way.turns_last none in
        let apart : way.out_clock ≡ way.last_clock → ⊥ = λ same. outside (subst (λ c. In c tree) (sym same) in_last) in
        same_port way.last_clock p q (port_of way.out_clock k) (port_of way.out_clock m) apart apart
        (elim x.by [ inl (ends, link) ↦ inl link | inr (ends, link) ↦ inr link ])
        (elim y.by [ inl (ends, link) ↦ inl link | inr (ends, link) ↦ inr link ])
        (ap (λ (w : LinkSpec). link_of (w.a, w.b)) (a.same ∙ sym b.same))

    -- ---- the tree

    abbrev pub turning : Turning
    turning = record {
      tree = tree;
      top = top_clock;
      last = way.last_clock;
      out = way.out_clock;
      base = base;
      depth = depth;
    }

    pub has_turned : HasTurned n turned g h best turning
    has_turned = record {
      in_top = in_top;
      lives = known_of;
      member = λ i v at known is. member i v (on_there i v at known) is;
      turned_of = turned_of;
      was_best = was_best;
      is_best = is_best;
      was = was_far;
      farther = farther;
      first = first;
      steps = steps;
      single = single;
      leaves = leaves;
      in_last = in_last;
      outside = outside;
      joined = leads_to_out;
      one_way = one_way;
    }
