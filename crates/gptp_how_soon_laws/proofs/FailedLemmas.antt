-- A system that fails by the first event of a time, and whose failure moves no system but such as are cut off, is so as
-- its event is told, and where it is the far end of each of its links; the others take down links of which an end has
-- failed.
use Rattle.std.proofs.Common.{◌≡◌, ◌<◌, ◌≤◌, ◌⊎◌, inl, inr, ℕ, Bool, true, false, cond, List, [], ◌∷◌, ◌++◌, map, filter, Option, Some, None, refl, sym, ap, subst, ◌∙◌, append_assoc, append-nil, arith}
use Rattle.std.specs.Prelude.{◌==◌, ◌&&◌, ◌||◌, length, nat_lt, not, if◌then◌else◌}
use Rattle.std.specs.List.{cons_option, filter_map, list_all, list_any, range_with_len}
use Rattle.std.specs.List.Sorted.{IsPermutation}
use Rattle.std.proofs.Math.Bool.{and-false}
use Rattle.std.proofs.lemmas.Bool.{and_parts, eq-eqb, eqb-true, or_cases, false_from_ne_true, or_parts, or_from}
use Rattle.std.proofs.lemmas.Bool.Decides.{nat_tests}
use Rattle.gptp_lists.specs.Members.{In}
use Rattle.gptp_lists.proofs.MappedLemmas.{mapped_there}
use Rattle.gptp_lists.proofs.SystemSpecLemmas.{In-map, In-slice_get, slice_get-In}
use Rattle.gptp_graph.specs.Snapshot.{IsWellFormed, Snapshot, clocks, Link}
use Rattle.gptp_graph.proofs.DistanceLemmas.{IsDistance-unique}
use Rattle.gptp_graph.proofs.LinkLemmas.{Adjacent-clock, Adjacent-sym}
use Rattle.gptp_roles.specs.Selection.{clock_of}
use Rattle.gptp_scenario.specs.Change.{standing, system_acted, system_after, with_live, is_at, joined_after, link_acted, link_after, live_after, with_up}
use Rattle.gptp_scenario.specs.Network.{IsNetwork, NetworkState}
use Rattle.gptp_scenario.specs.SyncWait.{sync_paths}
use Rattle.gptp_scenario.specs.declared.change.Act.TheVariants as acts
use Rattle.gptp_scenario.specs.declared.change.Change.TheVariants as changes
use Rattle.gptp_scenario.specs.declared.change.Timed.{Timed}
use Rattle.gptp_scenario.specs.declared.network.SystemSpec.{SystemSpec}
use Rattle.gptp_network.specs.Snapshot.{StandsAfter, has_clock, joins_two, link_of, system_of}
use Rattle.gptp_network.proofs.InUseLemmas.{there_live}
use Rattle.gptp_theorem.proofs.EventLemmas.{system_behind, link_behind}
use Rattle.gptp_topology.specs.After.{system_then, systems_after, standing_then, standings_after}
use Rattle.gptp_topology.specs.declared.nodes.System as ours
use Rattle.gptp_how_soon.specs.Chosen.{chosen_after, is_joined, is_moved_at, moves_joined, moves_some, place_of, used_ends}
use Rattle.gptp_how_soon.specs.Far.{are_far_after, has_lower_clock, is_far_end, is_far_over, is_nearer, is_nearer_at, is_down_or_used, is_far_named, up_is_used}
use Rattle.gptp_how_soon.specs.Kinds.{is_fail, is_failing, is_idle, is_loss, lowers_unused, makes_nothing}
use Rattle.gptp_how_soon.specs.Losses.{fails_beside_idle, fails_first, is_down_too, is_idle_beside, repeats}
use Rattle.gptp_how_soon.specs.Times.{told_at, told_of}
use Rattle.gptp_how_soon.specs.declared.chosen.Chosen.{Chosen}
use Rattle.gptp_how_soon.proofs.ChosenLemmas.{IsAt, at_clock, chosen_there, place_is, settled_choice, touched}
use Rattle.gptp_how_soon.proofs.RoundsLemmas.{Touches}
use Rattle.gptp_settling_time.specs.HowSoon.{EachEvent, FailsEndFirst, FailsHeardFirst, IsDownToo, IsIdleBeside, TurnsUnused}
use Rattle.gptp_settling_time.specs.Losses.{FailsFarEnd, FailsHeard, IsCutOff, IsFarEnd, IsUnmoved, IsUnmovedOrCutOff, LowersUnused, MovesNoneJoined, UpIsUsed}
use Rattle.gptp_vector.specs.declared.port.PortId.{PortId}
use Rattle.gptp_scenario.specs.Calm.{IsLive}
use Rattle.gptp_scenario.specs.declared.network.LinkSpec.{LinkSpec}
use Rattle.gptp_scenario.specs.declared.sync_wait.SyncPaths.{SyncPaths}
use Rattle.gptp_scenario.proofs.AfterLemmas.{after_keeps}
use Rattle.gptp_topology.specs.Course.{cable_is_used}
use Rattle.gptp_topology.proofs.RestLemmas.{cable_used}
use Rattle.gptp_how_soon.specs.declared.kinds.Kind.{Kind}
use Rattle.gptp_how_soon.specs.declared.kinds.Kind.TheVariants.{Gain, Idle, Loss, Other, Unused, Wider}
use Rattle.gptp_how_soon.specs.declared.kinds.Told.{Told}
use Rattle.gptp_how_soon.specs.declared.kinds.What.{What}
use Rattle.gptp_settling_time.proofs.SamePathsLemmas.{idle_paths, is_end, lives_not, map_same, turned_paths}
use Rattle.gptp_how_soon_laws.proofs.KindLemmas.{told}
use Rattle.gptp_how_soon_laws.proofs.ToldLemmas.{failure_is, idle_changes, loss_fails, unused_lowers}
use Rattle.gptp_how_soon_laws.proofs.IdleStandsLemmas.{stands_idle}
use Rattle.gptp_how_soon_laws.proofs.LivesOnLemmas.{clock_lived}
use Rattle.gptp_how_soon_laws.proofs.LoweredLemmas.{joined_by}
use Rattle.gptp_how_soon_laws.proofs.RepeatLemmas.{repeats_by}
use Rattle.gptp_how_soon_laws.proofs.UnmovedLemmas.{AreWell, none_joined_there, unmoved_at}

-- what is so of all is so of each
pub each_is : {X : Type 0} (p : X → Bool) (xs : List X) (x : X) → list_all p xs ≡ true → In x xs → p x ≡ true
each_is p [] x all member = absurd member
each_is p (y ∷ xs) x all (inl same) = ap p same ∙ (and_parts (p y) (list_all p xs) all).0
each_is p (y ∷ xs) x all (inr behind) = each_is p xs x (and_parts (p y) (list_all p xs) all).1 behind

-- ---- a far end

-- as systems stood at any time, whose clocks stay
module _ (n : NetworkState) (network : IsNetwork n) (made stood : List Timed) (g : Snapshot)
    (stands : StandsAfter n made g) (well : IsWellFormed g) where
  abbrev systems : List ours.System
  systems = systems_after n stood

  abbrev cs : List Chosen
  cs = chosen_after n made

  -- the test of one end
  at_end : (i k place : ℕ) → k ≡ place → (not (k == place) || is_nearer_at systems cs i place) ≡ true
      → is_nearer_at systems cs i place ≡ true
  at_end i k place same is = elim (or_cases (not (k == place)) (is_nearer_at systems cs i place) is) [
    | inl apart ↦
        let one = eq-eqb k place same in
        absurd (let both : not true ≡ true = ap not (sym one) ∙ apart in cc)
    | inr near ↦ near
  ]

  -- the other end of a link that touches the place is nearer
  over_link : (i place : ℕ) → is_far_end systems cs (used_ends n made) place ≡ true → Touches (used_ends n made) place i
      → is_nearer_at systems cs i place ≡ true
  over_link i place far (inl member) =
      let here = each_is (is_far_over systems cs place) (used_ends n made) (record { a = place; b = i }) far member in
      at_end i place place refl
      (and_parts (not (place == place) || is_nearer_at systems cs i place)
      (not (i == place) || is_nearer_at systems cs place place) here).0
  over_link i place far (inr member) =
      let here = each_is (is_far_over systems cs place) (used_ends n made) (record { a = i; b = place }) far member in
      at_end i place place refl
      (and_parts (not (i == place) || is_nearer_at systems cs place place)
      (not (place == place) || is_nearer_at systems cs i place) here).1

  -- what the test says of the numbers
  nearer_by : (e c : Chosen) (lower higher : ℕ)
      → (nat_lt e.steps c.steps || ((e.steps == c.steps) && nat_lt lower higher)) ≡ true
      → (e.steps < c.steps) ⊎ ((e.steps ≡ c.steps) × (lower < higher))
  nearer_by e c lower higher is =
      elim (or_cases (nat_lt e.steps c.steps) ((e.steps == c.steps) && nat_lt lower higher) is) [
        | inl less ↦ inl (grind (arith, nat_tests))
        | inr both ↦
            let (same, below) = and_parts (e.steps == c.steps) (nat_lt lower higher) both in
            inr (eqb-true e.steps c.steps same, grind (arith, nat_tests))
      ]

  pub far_at : (i v : ℕ) → IsAt n i v → is_far_end systems cs (used_ends n made) i ≡ true → IsFarEnd g v
  far_at i v at_v test u far near adjacent v_far u_near =
      let v_known = Adjacent-clock g u v well (Adjacent-sym g v u adjacent) in
      let u_known = Adjacent-clock g v u well adjacent in
      let (j, at_u) = at_clock n network made g stands well u u_known in
      let (c, c_there) = chosen_there n network made g stands well i v at_v in
      let (e, e_there) = chosen_there n network made g stands well j u at_u in
      let chose_v = settled_choice n network made g stands well i v at_v v_known c c_there in
      let chose_u = settled_choice n network made g stands well j u at_u u_known e e_there in
      let steps_v = IsDistance-unique g v far c.steps well v_far chose_v.far in
      let steps_u = IsDistance-unique g u near e.steps well u_near chose_u.far in
      let nearer : is_nearer_at systems cs j i ≡ true =
      over_link j i test (touched n network made g stands well v u i j adjacent at_v at_u) in
      let o_v = mapped_there (system_then stood) n.systems i at_v.system at_v.there in
      let o_u = mapped_there (system_then stood) n.systems j at_u.system at_u.there in
      let told : is_nearer (Some e) (Some c)
      (has_lower_clock (Some (system_then stood at_u.system)) (Some (system_then stood at_v.system))) ≡ true =
      (λ k. is_nearer (sym e_there k) (sym c_there k) (has_lower_clock (sym o_u k) (sym o_v k))) ∙ nearer in
      let clock_v = at_v.clock in
      let clock_u = at_u.clock in
      elim (nearer_by e c (clock_of at_u.system.identity) (clock_of at_v.system.identity) told) [
        | inl less ↦ inl (omega (arith, less, steps_v, steps_u))
        | inr (same, lower) ↦
            inr (omega (arith, same, steps_v, steps_u), omega (arith, lower, clock_v, clock_u))
      ]

  far_so : (v : ℕ) → is_far_end systems cs (used_ends n made) (place_of systems v) ≡ true → IsFarEnd g v
  far_so v test u far near adjacent v_far u_near =
      let v_known = Adjacent-clock g u v well (Adjacent-sym g v u adjacent) in
      let (i, at_v) = at_clock n network made g stands well v v_known in
      let place = place_is n network made g stands well stood i v at_v in
      let test_i : is_far_end systems cs (used_ends n made) i ≡ true =
      subst (λ k. is_far_end systems cs (used_ends n made) k ≡ true) place test in
      far_at i v at_v test_i u far near adjacent v_far u_near

-- ---- the event

module _ (n : NetworkState) (network : IsNetwork n) (made : List Timed) (event : Timed) where
  abbrev later : List Timed
  later = made ++ event ∷ []

  -- a live system fails by it
  pub record Fails : Type 0 where
    pub clock : ℕ
    pub act : event.act ≡ acts.Change (changes.Fail clock)
    pub loss : is_loss (told_at n made (acts.Change (changes.Fail clock))) ≡ true

  pub fails : is_failing (told_at n made event.act) ≡ true → Fails
  fails is =
      let (loss, failure) = and_parts (is_loss (told_at n made event.act)) (is_fail (told_at n made event.act)) is in
      let (clock, act) = failure_is n network made event.act failure in
      record { clock = clock; act = act; loss = subst (λ a. is_loss (told_at n made a) ≡ true) act loss }

  -- who lives then lived before
  module _ (x : Fails) where
    lived : (m : SystemSpec) → (system_after later m).live ≡ true → (system_after made m).live ≡ true
    lived m live =
        by (x.clock == clock_of m.identity) (sym (ap (λ s. s.live)
        (system_behind made event (clock_of m.identity) (standing m)
        ∙ ap (λ act. system_acted act (clock_of m.identity) (system_after made m)) x.act)) ∙ live)
      where
        by : (test : Bool)
            → (cond test (with_live false (system_after made m)) (system_after made m)).live ≡ true
            → (system_after made m).live ≡ true
        by true none = absurd cc
        by false is = is

    pub clock_before : (g h : Snapshot) → StandsAfter n made g → StandsAfter n later h → (v : ℕ) → In v (clocks h)
        → In v (clocks g)
    clock_before = clock_lived n network made later (λ m member. lived m)

  -- of it and of those behind it no system is moved, and what stands after it stands after all of them
  module _ (all : List Timed) (well : AreWell n all) (was : (g : Snapshot) → StandsAfter n made g → IsWellFormed g)
      (so : (h : Snapshot) → StandsAfter n later h → StandsAfter n all h)
      (unmoved : moves_joined n made all ≡ false) where
    module _ (x : Fails) (g h : Snapshot) (v : ℕ) (stands : StandsAfter n made g) (stands' : StandsAfter n later h)
        (known : In v (clocks h)) where
      stands_last : StandsAfter n all h
      stands_last = so h stands'

      well_h : IsWellFormed h
      well_h = well all [] (append-nil all) h stands_last

      at_v : (i : ℕ) × IsAt n i v
      at_v = at_clock n network all h stands_last well_h v known

      -- a link in use is at it
      stays : is_joined (used_ends n all) at_v.0 ≡ true → IsUnmoved g h v
      stays joined =
          let (i, at) = at_v in
          unmoved_at n network made all g h stands stands_last (was g stands) well_h v
          (clock_before x g h stands stands' v known) known i at
          (none_joined_there n made all unmoved i at.system at.there joined)

      -- or none is
      cut_off : is_joined (used_ends n all) at_v.0 ≡ false → IsCutOff h v
      cut_off none u adjacent =
          let (i, at) = at_v in
          let (j, at_u) = at_clock n network all h stands_last well_h u (Adjacent-clock h v u well_h adjacent) in
          let joined = joined_by n all i j
          (touched n network all h stands_last well_h v u i j adjacent at at_u) in
          let no : true ≡ false = sym joined ∙ none in
          cc

    moves_none : Fails → MovesNoneJoined n made event
    moves_none x g h v stands stands' known =
        by (is_joined (used_ends n all) (at_v x g h v stands stands' known).0) refl
      where
        by : (joined : Bool) → is_joined (used_ends n all) (at_v x g h v stands stands' known).0 ≡ joined
            → IsUnmovedOrCutOff g h v
        by true is = inl (stays x g h v stands stands' known is)
        by false is = inr (cut_off x g h v stands stands' known is)

    module _ (delay : (sync_paths n later).delay ≤ (sync_paths n made).delay)
        (paths : (sync_paths n later).systems ≤ (sync_paths n made).systems)
        (few : (sync_paths n made).systems ≤ 255) (is : is_failing (told_at n made event.act) ≡ true) where
      pub fails_heard : FailsHeard n made event
      fails_heard =
          let x = fails is in
          record {
            clock = x.clock;
            act = x.act;
            live = loss_fails n network made x.clock x.loss;
            moves = moves_none x;
            delay = delay;
            paths = paths;
            few = few;
          }

      pub fails_far_end : is_far_end (systems_after n made) (chosen_after n made) (used_ends n made)
          (place_of (systems_after n made) (told_at n made event.act).clock) ≡ true → FailsFarEnd n made event
      fails_far_end far =
          let x = fails is in
          record {
            clock = x.clock;
            act = x.act;
            live = loss_fails n network made x.clock x.loss;
            far = λ g stands.
                far_so n network made made g stands (was g stands) x.clock
                (subst (λ act. is_far_end (systems_after n made) (chosen_after n made) (used_ends n made)
                (place_of (systems_after n made) (told_at n made act).clock) ≡ true) x.act far);
            moves = moves_none x;
            delay = delay;
            paths = paths;
            few = few;
          }

-- ---- a link goes down of which an end has failed

module _ (n : NetworkState) (network : IsNetwork n) (made : List Timed) (event : Timed)
    (lowers : LowersUnused n made event) (h : Snapshot) (stands : StandsAfter n made h) where
  abbrev joins : Link → Bool
  joins = joins_two h.systems

  abbrev after : List Timed
  after = made ++ event ∷ []

  systems_stay : (m : SystemSpec) → live_after after m ≡ live_after made m
  systems_stay m =
      ap (λ s. if s.live then Some (s.identity, m.ports) else None)
      (system_behind made event (clock_of m.identity) (standing m)
      ∙ ap (λ act. system_acted act (clock_of m.identity) (system_after made m)) lowers.act)

  none_has : (clock : ℕ) → (IsLive n.systems made clock → ⊥) → has_clock h.systems clock ≡ false
  none_has clock none =
      false_from_ne_true (has_clock h.systems clock) (λ has.
      let both : true ≡ false = sym (there_live n network made h stands clock has) ∙ lives_not n made clock none in cc)

  -- it joined no two of the systems
  abbrev Stays : LinkSpec → Type 0
  Stays v = (joined_after after v ≡ joined_after made v)
      ⊎ ((joined_after after v ≡ None) × (joins (link_of (v.a, v.b)) ≡ false))

  link_stays : (v : LinkSpec) → In v n.links → Stays v
  link_stays v member = by (is_at lowers.clock lowers.port (link_after made v)) refl
    where
      now_is : link_after after v
          ≡ (if is_at lowers.clock lowers.port (link_after made v) then with_up false (link_after made v)
          else link_after made v)
      now_is = link_behind made event v ∙ ap (λ act. link_acted act (link_after made v)) lowers.act

      by : (test : Bool) → is_at lowers.clock lowers.port (link_after made v) ≡ test → Stays v
      by false is =
          inl (ap (λ (w : LinkSpec). if w.up then Some (v.a, v.b) else None)
          (now_is ∙ ap (λ b. if b then with_up false (link_after made v) else link_after made v) is))
      by true is =
          let (place, there) = slice_get-In v n.links member in
          let keeps = after_keeps made v in
          let none : joined_after after v ≡ None =
          ap (λ (w : LinkSpec). if w.up then Some (v.a, v.b) else None)
          (now_is ∙ ap (λ b. if b then with_up false (link_after made v) else link_after made v) is) in
          inr (
            none,
            elim (lowers.failed place v there (is_end lowers.clock lowers.port (link_after made v) is)) [
              | inl a ↦
                  let off = none_has v.a.clock
                  (subst (λ (p : PortId). IsLive n.systems made p.clock → ⊥) keeps.a a) in
                  ap (λ t. t && has_clock h.systems v.b.clock) off
              | inr b ↦
                  let off = none_has v.b.clock
                  (subst (λ (p : PortId). IsLive n.systems made p.clock → ⊥) keeps.b b) in
                  ap (λ t. has_clock h.systems v.a.clock && t) off ∙ and-false (has_clock h.systems v.a.clock)
            ],
          )

  more : (o : Option (PortId × PortId)) (xs ys : List (PortId × PortId))
      → filter joins (map link_of xs) ≡ filter joins (map link_of ys)
      → filter joins (map link_of (cons_option o xs)) ≡ filter joins (map link_of (cons_option o ys))
  more None xs ys same = same
  more (Some e) xs ys same = ap (λ rest. cond (joins (link_of e)) (link_of e ∷ rest) rest) same

  less : (o : Option (PortId × PortId)) (e : PortId × PortId) (xs : List (PortId × PortId))
      → (o ≡ None) ⊎ (o ≡ Some e) → joins (link_of e) ≡ false
      → filter joins (map link_of xs) ≡ filter joins (map link_of (cons_option o xs))
  less o e xs (inl none) not_joined = ap (λ p. filter joins (map link_of (cons_option p xs))) (sym none)
  less o e xs (inr some) not_joined =
      sym (ap (λ p. filter joins (map link_of (cons_option p xs))) some
      ∙ ap (λ b. cond b (link_of e ∷ filter joins (map link_of xs)) (filter joins (map link_of xs))) not_joined)

  joined_or_none : (v : LinkSpec) → (joined_after made v ≡ None) ⊎ (joined_after made v ≡ Some (v.a, v.b))
  joined_or_none v = by (link_after made v).up (v.a, v.b)
    where
      by : (up : Bool) (e : PortId × PortId) → (cond up (Some e) None ≡ None) ⊎ (cond up (Some e) None ≡ Some e)
      by true e = inr refl
      by false e = inl refl

  links_stay : (vs : List LinkSpec) → ((v : LinkSpec) → In v vs → Stays v)
      → filter joins (map link_of (filter_map (joined_after after) vs))
      ≡ filter joins (map link_of (filter_map (joined_after made) vs))
  links_stay [] stay = refl
  links_stay (v ∷ vs) stay =
      let rest = links_stay vs (λ w member. stay w (inr member)) in
      elim (stay v (inl refl)) [
        | inl same ↦
            ap (λ o. filter joins (map link_of (cons_option o (filter_map (joined_after after) vs)))) same
            ∙ more (joined_after made v) (filter_map (joined_after after) vs) (filter_map (joined_after made) vs) rest
        | inr (none, not_joined) ↦
            ap (λ o. filter joins (map link_of (cons_option o (filter_map (joined_after after) vs)))) none
            ∙ rest
            ∙ less (joined_after made v) (v.a, v.b) (filter_map (joined_after made) vs) (joined_or_none v) not_joined
      ]

  pub stands_less : StandsAfter n after h
  stands_less = record {
    systems = subst (λ pairs. IsPermutation (map system_of pairs) h.systems)
        (sym (map_same (live_after after) (live_after made) n.systems (λ m member. systems_stay m))) stands.systems;
    rising = stands.rising;
    links = stands.links ∙ sym (links_stay n.links link_stays);
  }

-- and several do, or change nothing
module _ (n : NetworkState) (network : IsNetwork n) where
  stands_too : (h : Snapshot) (made : List Timed) (event : Timed) → IsIdleBeside n made event → StandsAfter n made h
      → StandsAfter n (made ++ event ∷ []) h
  stands_too h made event (inl lowers) stands = stands_less n network made event lowers h stands
  stands_too h made event (inr nothing) stands = stands_idle n network made event nothing h stands

  stands_all : (h : Snapshot) (made now : List Timed) → EachEvent (IsIdleBeside n) made now → StandsAfter n made h
      → StandsAfter n (made ++ now) h
  stands_all h made [] each stands = subst (λ es. StandsAfter n es h) (sym (append-nil made)) stands
  stands_all h made (event ∷ now) (down, others) stands =
      subst (λ es. StandsAfter n es h) (append_assoc made (event ∷ []) now)
      (stands_all h (made ++ event ∷ []) now others (stands_too h made event down stands))

  paths_too : (made : List Timed) (event : Timed) → IsIdleBeside n made event
      → sync_paths n (made ++ event ∷ []) ≡ sync_paths n made
  paths_too made event (inl lowers) =
      turned_paths n made event (subst (TurnsUnused n made) (sym lowers.act) lowers.failed)
  paths_too made event (inr nothing) = idle_paths n network made event nothing

  paths_all : (made now : List Timed) → EachEvent (IsIdleBeside n) made now
      → sync_paths n (made ++ now) ≡ sync_paths n made
  paths_all made [] each = ap (sync_paths n) (append-nil made)
  paths_all made (event ∷ now) (down, others) =
      ap (sync_paths n) (sym (append_assoc made (event ∷ []) now))
      ∙ paths_all (made ++ event ∷ []) now others
      ∙ paths_too made event down

  beside_so : (made : List Timed) (event : Timed) → is_idle_beside (told_at n made event.act) ≡ true
      → IsIdleBeside n made event
  beside_so made event is =
      elim (or_cases (lowers_unused (told_at n made event.act)) (is_idle (told_at n made event.act)) is) [
        | inl lowers ↦ inl (unused_lowers n network made event lowers)
        | inr idle ↦ inr (idle_changes n network made event.act idle)
      ]

  beside_all : (made now : List Timed) → list_all is_idle_beside (told_of n made now) ≡ true
      → EachEvent (IsIdleBeside n) made now
  beside_all made [] all = tt
  beside_all made (event ∷ now) all =
      let (first, others) =
      and_parts (is_idle_beside (told_at n made event.act))
      (list_all is_idle_beside (told_of n (made ++ event ∷ []) now)) all in
      (beside_so made event first, beside_all (made ++ event ∷ []) now others)

  -- so it is told
  pub is_down_so : (made : List Timed) (event : Timed) → is_down_too (told_at n made event.act) ≡ true
      → IsDownToo n made event
  is_down_so made event is =
      elim (or_cases (lowers_unused (told_at n made event.act)) (repeats (told_at n made event.act)) is) [
        | inl lowers ↦ inl (unused_lowers n network made event lowers)
        | inr same ↦ inr (repeats_by n network made event same)
      ]

  down_each : (made now : List Timed) → list_all is_down_too (told_of n made now) ≡ true
      → EachEvent (IsDownToo n) made now
  down_each made [] all = tt
  down_each made (event ∷ now) all =
      let (first, others) =
      and_parts (is_down_too (told_at n made event.act))
      (list_all is_down_too (told_of n (made ++ event ∷ []) now)) all in
      (is_down_so made event first, down_each (made ++ event ∷ []) now others)

  -- so they change nothing
  beside_each : (made now : List Timed) → EachEvent (IsDownToo n) made now → EachEvent (IsIdleBeside n) made now
  beside_each made [] each = tt
  beside_each made (event ∷ now) (one, each) = (
    elim one [ inl lowers ↦ inl lowers | inr same ↦ inr same.0 ],
    beside_each (made ++ event ∷ []) now each,
  )

  -- each link that is up is in use where it is seen so
  pub used_up : (all : List Timed) → up_is_used (standings_after n all) ≡ true → UpIsUsed n all
  used_up all is place v there up =
      let seen = each_is is_down_or_used (standings_after n all) (standing_then n all v) is
      (In-map (standing_then n all) v n.links (In-slice_get v n.links place there)) in
      cable_used n all v (elim (or_cases (not (link_after all v).up) (cable_is_used (standing_then n all v)) seen) [
        | inl down ↦ absurd (let no : false ≡ true = ap not (sym up) ∙ down in cc)
        | inr used ↦ used
      ])

-- a loss makes something of what stands
loss_makes : (kind : Kind) (clock : ℕ) (what : What) → is_loss (told clock what kind) ≡ true
    → makes_nothing (told clock what kind) ≡ true → ⊥
loss_makes Idle clock what loss nothing = absurd cc
loss_makes Unused clock what loss nothing = absurd cc
loss_makes Loss clock what loss nothing = absurd cc
loss_makes Gain clock what loss nothing = absurd cc
loss_makes (Wider by) clock what loss nothing = absurd cc
loss_makes Other clock what loss nothing = absurd cc

-- what stands behind the first event of a time stands behind the others
module _ (n : NetworkState) (network : IsNetwork n) (made : List Timed) (event : Timed) (events : List Timed)
    (delay : (sync_paths n (made ++ event ∷ events)).delay ≤ (sync_paths n made).delay)
    (paths : (sync_paths n (made ++ event ∷ events)).systems ≤ (sync_paths n made).systems)
    (few : (sync_paths n made).systems ≤ 255) (failing : is_failing (told_at n made event.act) ≡ true)
    (beside : EachEvent (IsIdleBeside n) (made ++ event ∷ []) events) where
  abbrev first_behind : List Timed
  first_behind = made ++ event ∷ []

  abbrev t : Told
  t = told_at n made event.act

  whole : first_behind ++ events ≡ made ++ event ∷ events
  whole = append_assoc made (event ∷ []) events

  same : sync_paths n (made ++ event ∷ events) ≡ sync_paths n first_behind
  same = ap (sync_paths n) (sym whole) ∙ paths_all n network first_behind events beside

  delay_first : (sync_paths n first_behind).delay ≤ (sync_paths n made).delay
  delay_first = subst (λ (x : SyncPaths). x.delay ≤ (sync_paths n made).delay) same delay

  paths_first : (sync_paths n first_behind).systems ≤ (sync_paths n made).systems
  paths_first = subst (λ (x : SyncPaths). x.systems ≤ (sync_paths n made).systems) same paths

  stands_behind : (h : Snapshot) → StandsAfter n first_behind h → StandsAfter n (made ++ event ∷ events) h
  stands_behind h stands =
      subst (λ es. StandsAfter n es h) whole (stands_all n network h first_behind events beside stands)

  heard_so : AreWell n (made ++ event ∷ events) → moves_joined n made (made ++ event ∷ events) ≡ false
      → FailsHeard n made event
  heard_so well unmoved =
      fails_heard n network made event (made ++ event ∷ events) well
      (λ g stands. well made (event ∷ events) refl g stands) stands_behind unmoved delay_first paths_first few failing

  end_so : AreWell n (made ++ event ∷ events) → moves_joined n made (made ++ event ∷ events) ≡ false
      → are_far_after n made (told_of n made (event ∷ events)) ≡ true → FailsFarEnd n made event
  end_so well unmoved far =
      let far_test : Bool = is_far_end (systems_after n made) (chosen_after n made) (used_ends n made)
      (place_of (systems_after n made) t.clock) in
      let (first, more) = and_parts (makes_nothing t || far_test)
      (list_all (is_far_named (systems_after n made) (chosen_after n made) (used_ends n made))
      (told_of n first_behind events)) far in
      let far_end : far_test ≡ true = elim (or_cases (makes_nothing t) far_test first) [
        | inl nothing ↦ absurd (loss_makes t.kind t.clock t.what (and_parts (is_loss t) (is_fail t) failing).0 nothing)
        | inr is_far ↦ is_far
      ] in
      fails_far_end n network made event (made ++ event ∷ events) well
      (λ g stands. well made (event ∷ events) refl g stands) stands_behind unmoved delay_first paths_first few failing
      far_end

-- the events of a time
module _ (n : NetworkState) (network : IsNetwork n) (made : List Timed) (event : Timed) (events : List Timed)
    (delay : (sync_paths n (made ++ event ∷ events)).delay ≤ (sync_paths n made).delay)
    (paths : (sync_paths n (made ++ event ∷ events)).systems ≤ (sync_paths n made).systems)
    (few : (sync_paths n made).systems ≤ 255) (is : fails_first (told_of n made (event ∷ events)) ≡ true) where
  abbrev behind : List Timed
  behind = made ++ event ∷ []

  pub parts : (is_failing (told_at n made event.act) ≡ true)
      × (list_all is_down_too (told_of n behind events) ≡ true)
  parts = and_parts (is_failing (told_at n made event.act)) (list_all is_down_too (told_of n behind events)) is

  pub others : EachEvent (IsDownToo n) behind events
  others = down_each n network behind events parts.1

  beside : EachEvent (IsIdleBeside n) behind events
  beside = beside_each n network behind events others

  pub first_delay : (sync_paths n behind).delay ≤ (sync_paths n made).delay
  first_delay = delay_first n network made event events delay paths few parts.0 beside

  pub first_paths : (sync_paths n behind).systems ≤ (sync_paths n made).systems
  first_paths = paths_first n network made event events delay paths few parts.0 beside

  pub stands_on : (h : Snapshot) → StandsAfter n behind h → StandsAfter n (made ++ event ∷ events) h
  stands_on = stands_behind n network made event events delay paths few parts.0 beside

  pub heard_first : AreWell n (made ++ event ∷ events) → moves_joined n made (made ++ event ∷ events) ≡ false
      → FailsHeard n made event × EachEvent (IsDownToo n) behind events
  heard_first well unmoved =
      (heard_so n network made event events delay paths few parts.0 beside well unmoved, others)

  pub end_first : AreWell n (made ++ event ∷ events) → moves_joined n made (made ++ event ∷ events) ≡ false
      → are_far_after n made (told_of n made (event ∷ events)) ≡ true
      → FailsFarEnd n made event × EachEvent (IsIdleBeside n) behind events
  end_first well unmoved far =
      (end_so n network made event events delay paths few parts.0 beside well unmoved far, beside)

pub fails_heard_first : (n : NetworkState) (network : IsNetwork n) (made now : List Timed) → AreWell n (made ++ now)
    → moves_joined n made (made ++ now) ≡ false
    → (sync_paths n (made ++ now)).delay ≤ (sync_paths n made).delay
    → (sync_paths n (made ++ now)).systems ≤ (sync_paths n made).systems
    → (sync_paths n made).systems ≤ 255
    → fails_first (told_of n made now) ≡ true
    → FailsHeardFirst n made now
fails_heard_first n network made [] well unmoved delay paths few is = absurd cc
fails_heard_first n network made (event ∷ events) well unmoved delay paths few is =
    heard_first n network made event events delay paths few is well unmoved

pub fails_end_first : (n : NetworkState) (network : IsNetwork n) (made now : List Timed) → AreWell n (made ++ now)
    → moves_joined n made (made ++ now) ≡ false
    → (sync_paths n (made ++ now)).delay ≤ (sync_paths n made).delay
    → (sync_paths n (made ++ now)).systems ≤ (sync_paths n made).systems
    → (sync_paths n made).systems ≤ 255
    → fails_first (told_of n made now) ≡ true → are_far_after n made (told_of n made now) ≡ true
    → FailsEndFirst n made now
fails_end_first n network made [] well unmoved delay paths few is far = absurd cc
fails_end_first n network made (event ∷ events) well unmoved delay paths few is far =
    end_first n network made event events delay paths few is well unmoved far

-- none that a link in use is at is moved where none is
joined_none : (p q : ℕ → Bool) (xs : List ℕ) → list_any q xs ≡ false → list_any (λ x. p x && q x) xs ≡ false
joined_none p q [] none = refl
joined_none p q (x ∷ xs) none =
    let (one, rest) = or_parts (q x) (list_any q xs) none in
    or_from (p x && q x) (list_any (λ y. p y && q y) xs) (ap (λ test. p x && test) one ∙ and-false (p x))
    (joined_none p q xs rest)

pub moves_none_joined : (n : NetworkState) (made events : List Timed) → moves_some n made events ≡ false
    → moves_joined n made events ≡ false
moves_none_joined n made events none =
    joined_none (is_joined (used_ends n events))
    (is_moved_at (systems_after n events) (chosen_after n made) (chosen_after n events))
    (range_with_len 0 (length (systems_after n events))) none

-- so it is where the others change nothing, and none is moved
pub fails_beside_first : (n : NetworkState) (network : IsNetwork n) (made now : List Timed) → AreWell n (made ++ now)
    → moves_some n made (made ++ now) ≡ false
    → (sync_paths n (made ++ now)).delay ≤ (sync_paths n made).delay
    → (sync_paths n (made ++ now)).systems ≤ (sync_paths n made).systems
    → (sync_paths n made).systems ≤ 255
    → fails_beside_idle (told_of n made now) ≡ true → are_far_after n made (told_of n made now) ≡ true
    → FailsEndFirst n made now
fails_beside_first n network made [] well unmoved delay paths few is far = absurd cc
fails_beside_first n network made (event ∷ events) well unmoved delay paths few is far =
    let (failing, idle) =
    and_parts (is_failing (told_at n made event.act))
    (list_all is_idle_beside (told_of n (made ++ event ∷ []) events)) is in
    let beside = beside_all n network (made ++ event ∷ []) events idle in (
      end_so n network made event events delay paths few failing beside well
          (moves_none_joined n made (made ++ event ∷ events) unmoved) far,
      beside,
    )
