-- A link that goes down by the one event of a time, and moves one system alone that turns, does so as its event is
-- told.
use Rattle.std.proofs.Common.{◌≡◌, ◌≢◌, ◌<◌, ◌≤◌, ◌⊎◌, inl, inr, ◌-◌, ◌+◌, ℕ, suc, Bool, true, false, cond, List, [], ◌∷◌, ◌++◌, map, filter, Option, Some, None, length, slice_get, refl, sym, ap, subst, ◌∙◌, append-nil, arith}
use Rattle.std.specs.Prelude.{◌==◌, ◌&&◌, ◌||◌, nat_lt, if◌then◌else◌}
use Rattle.std.specs.List.{count_by, list_all, range_with_len}
use Rattle.std.proofs.lemmas.Bool.{and_from, and_parts, eq-eqb, eqb-true, or_cases, or_left, or_right}
use Rattle.std.proofs.lemmas.Bool.Decides.{nat_tests}
use Rattle.std.proofs.lemmas.List.Sums.{sum_by-cons}
use Rattle.gptp_lists.specs.Members.{In}
use Rattle.gptp_lists.proofs.MappedLemmas.{mapped, same_there}
use Rattle.gptp_lists.proofs.SystemSpecLemmas.{In-map, In-slice_get}
use Rattle.gptp_graph.specs.Best.{IsBest}
use Rattle.gptp_graph.specs.Distance.{IsDistance}
use Rattle.gptp_graph.specs.Snapshot.{Adjacent, IsWellFormed, Joins, Link, Snapshot, clocks, port_of}
use Rattle.gptp_graph.proofs.DistanceLemmas.{IsDistance-unique}
use Rattle.gptp_graph.proofs.LinkLemmas.{Adjacent-clock}
use Rattle.gptp_graph.proofs.SystemLemmas.{In-clocks}
use Rattle.gptp_network.specs.Snapshot.{StandsAfter, link_of}
use Rattle.gptp_network.proofs.ExistenceLemmas.{stands_after}
use Rattle.gptp_network.proofs.InUseLemmas.{live_there}
use Rattle.gptp_network.proofs.PassLemmas.{kept, passes_at}
use Rattle.gptp_network.proofs.SnapshotLemmas.{from_filter, with_clock}
use Rattle.gptp_roles.specs.Selection.{clock_of}
use Rattle.gptp_scenario.specs.Change.{link_after, system_after}
use Rattle.gptp_scenario.specs.InUse.{lives}
use Rattle.gptp_scenario.specs.Network.{IsEnd, IsNetwork, NetworkState}
use Rattle.gptp_scenario.specs.SyncWait.{sync_paths}
use Rattle.gptp_scenario.specs.declared.change.Timed.{Timed}
use Rattle.gptp_scenario.specs.declared.network.LinkSpec.{LinkSpec}
use Rattle.gptp_scenario.specs.declared.network.SystemSpec.{SystemSpec}
use Rattle.gptp_scenario.proofs.AfterLemmas.{after_keeps}
use Rattle.gptp_model.specs.World.{port_id}
use Rattle.gptp_topology.specs.After.{system_then, systems_after}
use Rattle.gptp_topology.specs.declared.nodes.System as ours
use Rattle.gptp_how_soon.specs.Chosen.{chosen_after, differs, ends_at, ends_of, is_moved, is_moved_at, is_used_then, lost_ends, used_ends}
use Rattle.gptp_how_soon.specs.Far.{is_far_end}
use Rattle.gptp_how_soon.specs.Kinds.{is_lowering}
use Rattle.gptp_how_soon.specs.Times.{told_at}
use Rattle.gptp_how_soon.specs.Turned.{are_different, are_far_ends, goes_farther, goes_one_farther, has_fewer_steps, is_of_one, is_once, leads_nearer, moved_places, neighbour_places, other_end, turns_at, turns_one_after}
use Rattle.gptp_how_soon.specs.declared.chosen.Chosen.{Chosen}
use Rattle.gptp_how_soon.specs.declared.chosen.Ends.{Ends}
use Rattle.gptp_how_soon.proofs.ChosenLemmas.{IsAt, IsSettledChoice, at_clock, at_port, chosen_there, one_clock, settled_choice}
use Rattle.gptp_how_soon.proofs.RoundsLemmas.{Has}
use Rattle.gptp_settling_time.specs.Losses.{IsFarEnd, IsTurned, IsUnmoved, TurnsLink, TurnsSystem}
use Rattle.gptp_how_soon_laws.proofs.FailedLemmas.{each_is, far_at}
use Rattle.gptp_how_soon_laws.proofs.ToldLemmas.{loss_lowers}
use Rattle.gptp_how_soon_laws.proofs.LoweredLemmas.{TakesDown, is_lost_there, lives_still, takes_down}
use Rattle.gptp_how_soon_laws.proofs.LostLinkLemmas as lost_links
use Rattle.gptp_how_soon_laws.proofs.UnmovedLemmas.{AreWell, asked_of, unmoved_at}
use Rattle.gptp_how_soon_laws.proofs.WorseningLemmas.{clock_over, same_system}

-- ---- one of a list

record IsOfOne (is : ℕ → Bool) (places : List ℕ) : Type 0 where
  place : ℕ
  only : places ≡ place ∷ []
  so : is place ≡ true

of_one : (is : ℕ → Bool) (places : List ℕ) → is_of_one is places ≡ true → IsOfOne is places
of_one is [] test = absurd cc
of_one is (place ∷ []) test = record { place = place; only = refl; so = test }
of_one is (place ∷ other ∷ places) test = absurd cc

-- what leads to a place that is there once is one
module _ {X : Type 0} (ends : X → Ends) (place : ℕ) (other : ℕ) where
  abbrev places : List X → List ℕ
  places xs = neighbour_places (map ends xs) place

  abbrev times : List X → ℕ
  times xs = count_by (λ p. p == other) (places xs)

  counted : (p : ℕ) (ps : List ℕ)
      → count_by (λ q. q == other) (p ∷ ps) ≡ cond (p == other) 1 0 + count_by (λ q. q == other) ps
  counted p ps = sum_by-cons (λ q. cond (q == other) 1 0) p ps

  abbrev with_first : X → List X → Bool → ℕ
  with_first x xs test =
      count_by (λ q. q == other) (map (other_end place)
      (cond test (ends x ∷ filter (ends_at place) (map ends xs)) (filter (ends_at place) (map ends xs))))

  times_here : (x : X) (xs : List X) → ends_at place (ends x) ≡ true → other_end place (ends x) ≡ other
      → times (x ∷ xs) ≡ suc (times xs)
  times_here x xs at is =
      let one : cond (other_end place (ends x) == other) 1 0 ≡ 1 =
      ap (λ b. cond b 1 0) (eq-eqb (other_end place (ends x)) other is) in
      let more : with_first x xs true ≡ cond (other_end place (ends x) == other) 1 0 + times xs =
      counted (other_end place (ends x)) (places xs) in
      ap (with_first x xs) at ∙ more ∙ ap (λ k. k + times xs) one ∙ omega arith

  times_more : (x : X) (xs : List X) → times xs ≤ times (x ∷ xs)
  times_more x xs = by (ends_at place (ends x))
    where
      by : (test : Bool) → times xs ≤ with_first x xs test
      by true =
          let more : with_first x xs true ≡ cond (other_end place (ends x) == other) 1 0 + times xs =
          counted (other_end place (ends x)) (places xs) in
          subst (λ k. times xs ≤ k) (sym more) (omega arith)
      by false = omega arith

  times_some : (x : X) (xs : List X) → In x xs → ends_at place (ends x) ≡ true → other_end place (ends x) ≡ other
      → 1 ≤ times xs
  times_some x [] member at is = absurd member
  times_some x (y ∷ xs) (inl same) at is =
      let here = times_here x xs at is in
      subst (λ z. 1 ≤ times (z ∷ xs)) same (omega (arith, here))
  times_some x (y ∷ xs) (inr member) at is =
      let some = times_some x xs member at is in let more = times_more y xs in omega (arith, some, more)

  pub once_same : (xs : List X) (x y : X) → times xs ≡ 1 → In x xs → In y xs
      → ends_at place (ends x) ≡ true → other_end place (ends x) ≡ other
      → ends_at place (ends y) ≡ true → other_end place (ends y) ≡ other → x ≡ y
  once_same [] x y once a b x_at x_is y_at y_is = absurd a
  once_same (z ∷ xs) x y once (inl a) (inl b) x_at x_is y_at y_is = a ∙ sym b
  once_same (z ∷ xs) x y once (inl a) (inr b) x_at x_is y_at y_is =
      let here = times_here x xs x_at x_is in
      let all : times (x ∷ xs) ≡ 1 = ap (λ v. times (v ∷ xs)) a ∙ once in
      let some = times_some y xs b y_at y_is in
      absurd (omega (arith, here, all, some))
  once_same (z ∷ xs) x y once (inr a) (inl b) x_at x_is y_at y_is =
      let here = times_here y xs y_at y_is in
      let all : times (y ∷ xs) ≡ 1 = ap (λ v. times (v ∷ xs)) b ∙ once in
      let some = times_some x xs a x_at x_is in
      absurd (omega (arith, here, all, some))
  once_same (z ∷ xs) x y once (inr a) (inr b) x_at x_is y_at y_is =
      let some = times_some x xs a x_at x_is in
      let more = times_more z xs in
      let same : times xs ≡ 1 = omega (arith, once, some, more) in
      once_same xs x y same a b x_at x_is y_at y_is

-- ---- the ends of a link

-- a link that leads from a place to another ends there, and the other end is that
at_first : (place other : ℕ) → ends_at place (record { a = place; b = other }) ≡ true
at_first place other = or_left (place == place) (other == place) (eq-eqb place place refl)

at_second : (place other : ℕ) → ends_at place (record { a = other; b = place }) ≡ true
at_second place other = or_right (other == place) (place == place) (eq-eqb place place refl)

other_first : (place other : ℕ) → other_end place (record { a = place; b = other }) ≡ other
other_first place other = ap (λ b. if b then other else place) (eq-eqb place place refl)

other_second : (place other : ℕ) → other_end place (record { a = other; b = place }) ≡ other
other_second place other = by (other == place) refl
  where
    by : (test : Bool) → (other == place) ≡ test → (if test then place else other) ≡ other
    by true is = sym (eqb-true other place is)
    by false is = refl

-- the one that has fewer steps is nearer
fewer_so : (e c : Chosen) → has_fewer_steps (Some e) (Some c) ≡ true → e.steps < c.steps
fewer_so e c is = below e.steps c.steps is
  where
    below : (x y : ℕ) → nat_lt x y ≡ true → x < y
    below x y test = grind (arith, nat_tests)

module _ (cs : List Chosen) (place : ℕ) (c : Chosen) (there : slice_get cs place ≡ Some c) where
  fewer_at : (i : ℕ) (e : Chosen) → slice_get cs i ≡ Some e
      → has_fewer_steps (slice_get cs i) (slice_get cs place) ≡ true → e.steps < c.steps
  fewer_at i e e_there is =
      fewer_so e c ((λ k. has_fewer_steps (sym e_there k) (sym there k)) ∙ is)

  never_fewer : has_fewer_steps (slice_get cs place) (slice_get cs place) ≡ true → ⊥
  never_fewer is = let less = fewer_at place c there is in omega (arith, less)

  nearer_first : (i : ℕ) (e : Chosen) → slice_get cs i ≡ Some e
      → leads_nearer cs place (record { a = place; b = i }) ≡ true → e.steps < c.steps
  nearer_first i e e_there is =
      let first : Bool = has_fewer_steps (slice_get cs i) (slice_get cs place) in
      let second : Bool = has_fewer_steps (slice_get cs place) (slice_get cs place) in
      elim (or_cases ((place == place) && first) ((i == place) && second) is) [
        | inl here ↦ fewer_at i e e_there (and_parts (place == place) first here).1
        | inr other ↦ absurd (never_fewer (and_parts (i == place) second other).1)
      ]

  nearer_second : (i : ℕ) (e : Chosen) → slice_get cs i ≡ Some e
      → leads_nearer cs place (record { a = i; b = place }) ≡ true → e.steps < c.steps
  nearer_second i e e_there is =
      let first : Bool = has_fewer_steps (slice_get cs place) (slice_get cs place) in
      let second : Bool = has_fewer_steps (slice_get cs i) (slice_get cs place) in
      elim (or_cases ((i == place) && first) ((place == place) && second) is) [
        | inl other ↦ absurd (never_fewer (and_parts (i == place) first other).1)
        | inr here ↦ fewer_at i e e_there (and_parts (place == place) second here).1
      ]

-- such a link ends at the place
leads_from : (cs : List Chosen) (place : ℕ) (e : Ends) → leads_nearer cs place e ≡ true
    → (e.a ≡ place) ⊎ (e.b ≡ place)
leads_from cs place e is =
    let first : Bool = has_fewer_steps (slice_get cs e.b) (slice_get cs place) in
    let second : Bool = has_fewer_steps (slice_get cs e.a) (slice_get cs place) in
    elim (or_cases ((e.a == place) && first) ((e.b == place) && second) is) [
      | inl a ↦ inl (eqb-true e.a place (and_parts (e.a == place) first a).0)
      | inr b ↦ inr (eqb-true e.b place (and_parts (e.b == place) second b).0)
    ]

-- ---- what is told

module _ (n : NetworkState) (network : IsNetwork n) (made events : List Timed) where
  abbrev before : List Chosen
  before = chosen_after n made

  abbrev now : List Chosen
  now = chosen_after n events

  abbrev systems : List ours.System
  systems = systems_after n events

  -- of the one place that is moved
  pub record Turns : Type 0 where
    pub place : ℕ
    pub system : SystemSpec
    pub there : slice_get n.systems place ≡ Some system
    pub live : (system_after events system).live ≡ true
    pub only : moved_places systems before now ≡ place ∷ []
    pub farther : goes_farther (slice_get before place) (slice_get now place) ≡ true
    pub lost : list_all (leads_nearer before place) (lost_ends n made events) ≡ true
    pub far : is_far_end systems now (used_ends n events) place ≡ true
    pub single : are_different (neighbour_places (used_ends n events) place) ≡ true
    pub tells : (goes_one_farther (slice_get before place) (slice_get now place)
        || are_far_ends systems before (used_ends n made) (neighbour_places (used_ends n events) place))
        ≡ true

  lives_there : (o : Option ours.System) (b c : Option Chosen) → is_moved o b c ≡ true
      → (s : ours.System) × (o ≡ Some s) × (s.lives ≡ true)
  lives_there None b c is = absurd cc
  lives_there (Some s) None c is = absurd cc
  lives_there (Some s) (Some b) None is = absurd cc
  lives_there (Some s) (Some b) (Some c) is = (s, refl, (and_parts s.lives (differs b c) is).0)

  pub turns : turns_one_after n made events ≡ true → Turns
  turns is =
      let one = of_one (turns_at systems (lost_ends n made events) (used_ends n made) (used_ends n events) before now)
      (moved_places systems before now) is in
      let place = one.place in
      let moved = (from_filter (is_moved_at systems before now) place (range_with_len 0 (length systems))
      (subst (In place) (sym one.only) (inl refl))).1 in
      let (s, there, live) =
      lives_there (slice_get systems place) (slice_get before place) (slice_get now place) moved in
      let (m, m_there, m_is) = mapped (system_then events) n.systems place s there in
      let farther_test : Bool = goes_farther (slice_get before place) (slice_get now place) in
      let lost_test : Bool = list_all (leads_nearer before place) (lost_ends n made events) in
      let far_test : Bool = is_far_end systems now (used_ends n events) place in
      let single_test : Bool = are_different (neighbour_places (used_ends n events) place) in
      let tells_test : Bool = goes_one_farther (slice_get before place) (slice_get now place)
      || are_far_ends systems before (used_ends n made) (neighbour_places (used_ends n events) place) in
      let (four, tells) =
      and_parts (farther_test && lost_test && far_test && single_test) tells_test one.so in
      let (three, single) = and_parts (farther_test && lost_test && far_test) single_test four in
      let (two, far) = and_parts (farther_test && lost_test) far_test three in
      let (farther, lost) = and_parts farther_test lost_test two in
      record {
        place = place;
        system = m;
        there = m_there;
        live = ap (λ (o : ours.System). o.lives) m_is ∙ live;
        only = one.only;
        farther = farther;
        lost = lost;
        far = far;
        single = single;
        tells = tells;
      }

  -- ---- between two snapshots

  module _ (t : Turns) (g h : Snapshot) (stands : StandsAfter n made g) (stands' : StandsAfter n events h)
      (well : IsWellFormed g) (well' : IsWellFormed h)
      (lives_back : (m : SystemSpec) → In m n.systems
      → (system_after made m).live ≡ (system_after events m).live) where
    abbrev x : ℕ
    x = clock_of t.system.identity

    at_x : IsAt n t.place x
    at_x = record { system = t.system; there = t.there; clock = refl }

    known_before : (v : ℕ) → In v (clocks h) → In v (clocks g)
    known_before v known = clock_over n network events made lives_back h g stands' stands v known

    known_x : In x (clocks h)
    known_x =
        let lives_x : lives n.systems events x ≡ true =
        passes_at (λ (k : SystemSpec). (clock_of k.identity == x) && (system_after events k).live) n.systems t.system
        (In-slice_get t.system n.systems t.place t.there)
        (and_from (x == x) (system_after events t.system).live (eq-eqb x x refl) t.live) in
        let (s, here, same) = with_clock h.systems x (live_there n network events h stands' x lives_x) in
        subst (λ c. In c (clocks h)) same (In-clocks h s here)

    was : Has before t.place
    was = chosen_there n network made g stands well t.place x at_x

    is : Has now t.place
    is = chosen_there n network events h stands' well' t.place x at_x

    farther_so : (was.0.root ≡ is.0.root) × (was.0.steps < is.0.steps)
    farther_so =
        let b = was.0 in let c = is.0 in
        let told : goes_farther (Some b) (Some c) ≡ true =
        (λ k. goes_farther (sym was.1 k) (sym is.1 k)) ∙ t.farther in
        let (root, steps) = and_parts (b.root == c.root) (nat_lt b.steps c.steps) told in
        (eqb-true b.root c.root root, fewer_so b c steps)

    chose : IsSettledChoice n network made g stands well x was.0
    chose = settled_choice n network made g stands well t.place x at_x (known_before x known_x) was.0 was.1

    chooses : IsSettledChoice n network events h stands' well' x is.0
    chooses = settled_choice n network events h stands' well' t.place x at_x known_x is.0 is.1

    same_best : chose.best ≡ chooses.best
    same_best =
        same_system n network made events g h stands stands' chose.best chooses.best chose.is_best.live
        chooses.is_best.live (sym chose.root ∙ farther_so.0 ∙ chooses.root)

    others : (v : ℕ) → In v (clocks h) → v ≢ x → IsUnmoved g h v
    others v known apart =
        let (i, at) = at_clock n network events h stands' well' v known in
        by i at (is_moved_at systems before now i) refl
      where
        by : (i : ℕ) (at : IsAt n i v) (moved : Bool) → is_moved_at systems before now i ≡ moved → IsUnmoved g h v
        by i at true moved =
            let listed : In i (moved_places systems before now) =
            kept (is_moved_at systems before now) i (range_with_len 0 (length systems))
            (asked_of n events i at.system at.there) moved in
            elim (subst (In i) t.only listed) [
              | inl same ↦
                  let one : at.system ≡ t.system = same_there n.systems t.place at.system t.system
                  (subst (λ k. slice_get n.systems k ≡ Some at.system) same at.there) t.there in
                  absurd (apart (sym at.clock ∙ ap (λ (m : SystemSpec). clock_of m.identity) one))
              | inr none ↦ absurd none
            ]
        by i at false moved =
            unmoved_at n network made events g h stands stands' well well' v (known_before v known) known i at moved

    -- ---- links

    lost_so : (u far : ℕ) → Adjacent g x u → IsDistance g u far → Adjacent h x u ⊎ (far < was.0.steps)
    lost_so u far (p, q, joins) u_far =
        let known_u = Adjacent-clock g x u well (p, q, joins) in
        let (i, at) = at_clock n network made g stands well u known_u in
        let (e, e_there) = chosen_there n network made g stands well i u at in
        let chose_u = settled_choice n network made g stands well i u at known_u e e_there in
        let steps : far ≡ e.steps = IsDistance-unique g u far e.steps well u_far chose_u.far in
        elim (lost_links.joins_or_lost n network made g stands well events h stands' well' t.place i (port_of x p)
        (port_of u q) at_x at joins) [
          | inl still ↦ inl (p, q, still)
          | inr lost ↦
              let leads = each_is (leads_nearer before t.place) (lost_ends n made events)
              lost.ends t.lost lost.listed in
              let less : e.steps < was.0.steps = elim lost.between [
                | inl same ↦ nearer_first before t.place was.0 was.1 i e e_there
                    (subst (λ d. leads_nearer before t.place d ≡ true) same leads)
                | inr same ↦ nearer_second before t.place was.0 was.1 i e e_there
                    (subst (λ d. leads_nearer before t.place d ≡ true) same leads)
              ] in
              inr (omega (arith, less, steps))
        ]

    -- ---- neighbours

    abbrev used_links : List LinkSpec
    used_links = filter (is_used_then n events) n.links

    abbrev others_of : List ℕ
    others_of = neighbour_places (used_ends n events) t.place

    -- a link in use joins the system to the one at a place
    record IsJoinedBy (p q y i : ℕ) : Type 0 where
      wire : LinkSpec
      among : In wire used_links
      ends : ends_at t.place (ends_of n wire) ≡ true
      other : other_end t.place (ends_of n wire) ≡ i
      link : (link_of (wire.a, wire.b) ≡ record { a = port_of x p; b = port_of y q })
          ⊎ (link_of (wire.a, wire.b) ≡ record { a = port_of y q; b = port_of x p })

    joined_by : (p q y i : ℕ) → IsAt n i y → Joins h (port_of x p) (port_of y q) → IsJoinedBy p q y i
    joined_by p q y i at joins =
        let r = lost_links.joined_by n network made g stands well events h stands' well' t.place i (port_of x p)
        (port_of y q) at_x at joins in
        elim r.by [
          | inl (ends, is) ↦ record {
            wire = r.wire;
            among = r.among;
            ends = ap (ends_at t.place) ends ∙ at_first t.place i;
            other = ap (other_end t.place) ends ∙ other_first t.place i;
            link = inl is;
          }
          | inr (ends, is) ↦ record {
            wire = r.wire;
            among = r.among;
            ends = ap (ends_at t.place) ends ∙ at_second t.place i;
            other = ap (other_end t.place) ends ∙ other_second t.place i;
            link = inr is;
          }
        ]

    neighbour : (p q y i : ℕ) → IsJoinedBy p q y i → In i others_of
    neighbour p q y i j =
        subst (λ k. In k others_of) j.other
        (In-map (other_end t.place) (ends_of n j.wire) (filter (ends_at t.place) (used_ends n events))
        (kept (ends_at t.place) (ends_of n j.wire) (used_ends n events)
        (In-map (ends_of n) j.wire used_links j.among) j.ends))

    single_so : (p q p' q' y : ℕ) → Joins h (port_of x p) (port_of y q) → Joins h (port_of x p') (port_of y q')
        → q ≡ q'
    single_so p q p' q' y first second =
        let known = Adjacent-clock h x y well' (p, q, first) in
        let (i, at) = at_clock n network events h stands' well' y known in
        let a = joined_by p q y i at first in
        let b = joined_by p' q' y i at second in
        let test : is_once others_of i ≡ true =
        each_is (is_once others_of) others_of i t.single (neighbour p q y i a) in
        let once = eqb-true (count_by (λ other. other == i) others_of) 1 test in
        let same : a.wire ≡ b.wire =
        once_same (ends_of n) t.place i used_links a.wire b.wire once a.among b.among a.ends a.other b.ends b.other in
        let links : link_of (a.wire.a, a.wire.b) ≡ link_of (b.wire.a, b.wire.b) =
        ap (λ (w : LinkSpec). link_of (w.a, w.b)) same in
        by a.link b.link links
      where
        apart : x ≡ y → ⊥
        apart = well'.apart (port_of x p) (port_of y q) first

        by : {k l : Link}
            → (k ≡ record { a = port_of x p; b = port_of y q }) ⊎ (k ≡ record { a = port_of y q; b = port_of x p })
            → (l ≡ record { a = port_of x p'; b = port_of y q' }) ⊎ (l ≡ record { a = port_of y q'; b = port_of x p' })
            → k ≡ l → q ≡ q'
        by (inl e) (inl f) same = ap (λ (m : Link). m.b.port) (sym e ∙ same ∙ f)
        by (inl e) (inr f) same = absurd (apart (ap (λ (m : Link). m.a.clock) (sym e ∙ same ∙ f)))
        by (inr e) (inl f) same = absurd (apart (sym (ap (λ (m : Link). m.a.clock) (sym e ∙ same ∙ f))))
        by (inr e) (inr f) same = ap (λ (m : Link). m.a.port) (sym e ∙ same ∙ f)

    tells_so : (is.0.steps ≡ suc was.0.steps) ⊎ ((y : ℕ) → Adjacent h x y → IsFarEnd g y)
    tells_so =
        elim (or_cases (goes_one_farther (slice_get before t.place) (slice_get now t.place))
        (are_far_ends systems before (used_ends n made) others_of) t.tells) [
          | inl one ↦
              let told : goes_one_farther (Some was.0) (Some is.0) ≡ true =
              (λ k. goes_one_farther (sym was.1 k) (sym is.1 k)) ∙ one in
              let by_one = eqb-true (is.0.steps - was.0.steps) 1 told in
              let more = farther_so.1 in
              inl (omega (arith, by_one, more))
          | inr ends ↦ inr (λ y adjacent.
              let (i, at) = at_clock n network events h stands' well' y (Adjacent-clock h x y well' adjacent) in
              let (p, q, joins) = adjacent in
              far_at n network made events g stands well i y at
              (each_is (is_far_end systems before (used_ends n made)) others_of i ends
              (neighbour p q y i (joined_by p q y i at joins))))
        ]

    turned : IsTurned g h x was.0.steps is.0.steps chose.best
    turned = record {
      others = others;
      was_best = chose.is_best;
      is_best = subst (λ b. IsBest h x b) (sym same_best) chooses.is_best;
      was = chose.far;
      is = chooses.far;
      more = farther_so.1;
      lost = lost_so;
      far = far_at n network events events h stands' well' t.place x at_x t.far;
      single = single_so;
      tells = tells_so;
    }

-- ---- the event

module _ (n : NetworkState) (network : IsNetwork n) (made : List Timed) (event : Timed) where
  abbrev later : List Timed
  later = made ++ event ∷ []

  module _ (well : AreWell n later) (t : Turns n network made later) (d : TakesDown n network made event) where
    turns_system : TurnsSystem n made event (clock_of t.system.identity)
    turns_system g h stands stands' =
        let well_g = well made (event ∷ []) refl g stands in
        let well_h = well later [] (append-nil later) h stands' in
        let back : (m : SystemSpec) → In m n.systems → (system_after made m).live ≡ (system_after later m).live =
        λ m member. lives_still n network made event d m member in (
          _,
          _,
          _,
          turned n network made later t g h stands stands' well_g well_h back,
        )

    moved_end : (place : ℕ) (v : LinkSpec) → slice_get n.links place ≡ Some v
        → IsEnd (port_id d.clock d.port) (link_after made v)
        → ((link_after made v).a.clock ≡ clock_of t.system.identity)
        ⊎ ((link_after made v).b.clock ≡ clock_of t.system.identity)
    moved_end place v there end =
        let (g, stands) = stands_after n made network in
        let well_g = well made (event ∷ []) refl g stands in
        let wire = network.links place v there in
        let keeps = after_keeps made v in
        let leads = each_is (leads_nearer (chosen_after n made) t.place) (lost_ends n made later) (ends_of n v) t.lost
        (is_lost_there n network made event d place v there end) in
        let at_t : IsAt n t.place (clock_of t.system.identity) =
        record { system = t.system; there = t.there; clock = refl } in
        elim (leads_from (chosen_after n made) t.place (ends_of n v) leads) [
          | inl a ↦
              inl (ap (λ p. p.clock) keeps.a
              ∙ one_clock n network made g stands well_g t.place v.a.clock (clock_of t.system.identity)
              (subst (λ i. IsAt n i v.a.clock) a (at_port n network made g stands well_g v.a wire.a)) at_t)
          | inr b ↦
              inr (ap (λ p. p.clock) keeps.b
              ∙ one_clock n network made g stands well_g t.place v.b.clock (clock_of t.system.identity)
              (subst (λ i. IsAt n i v.b.clock) b (at_port n network made g stands well_g v.b wire.b)) at_t)
        ]

  module _ (well : AreWell n later) (turned_one : turns_one_after n made later ≡ true)
      (delay : (sync_paths n later).delay ≤ (sync_paths n made).delay)
      (paths : (sync_paths n later).systems ≤ (sync_paths n made).systems)
      (few : (sync_paths n made).systems ≤ 255) (is : is_lowering (told_at n made event.act) ≡ true) where
    pub turns_link : TurnsLink n made event
    turns_link =
        let d = takes_down n network made event is in
        let t = turns n network made later turned_one in
        record {
          clock = d.clock;
          port = d.port;
          act = d.act;
          used = loss_lowers n network made d.clock d.port d.loss;
          moved = clock_of t.system.identity;
          moved_end = moved_end well t d;
          turns = turns_system well t d;
          delay = delay;
          paths = paths;
          few = few;
        }
