-- What the tests of a tree that turns say.
use Rattle.std.proofs.Common.{◌≡◌, ◌<◌, ◌≤◌, inl, inr, ◌+◌, ℕ, Bool, true, false, List, [], ◌∷◌, length, slice_get, refl, ap, arith, cond}
use Rattle.std.specs.Prelude.{◌&&◌, nat_le, not, ◌==◌, nat_lt}
use Rattle.std.specs.List.{count_by, list_all, range_with_len}
use Rattle.std.proofs.lemmas.Bool.{and_parts}
use Rattle.std.proofs.lemmas.Bool.Decides.{nat_tests}
use Rattle.gptp_lists.specs.Members.{In}
use Rattle.gptp_scenario.specs.Network.{IsNetwork, NetworkState}
use Rattle.gptp_scenario.specs.declared.change.Timed.{Timed}
use Rattle.gptp_topology.specs.After.{systems_after}
use Rattle.gptp_topology.specs.declared.nodes.System as ours
use Rattle.gptp_how_soon.specs.Chosen.{chosen_after, is_moved_at, lost_ends, used_ends}
use Rattle.gptp_how_soon.specs.declared.chosen.Chosen.{Chosen}
use Rattle.gptp_how_soon.specs.declared.chosen.Ends.{Ends}
use Rattle.gptp_how_soon_laws.proofs.OneLostLemmas.{OneLost, OneLostBy, one_lost}
use Rattle.std.proofs.lemmas.List.Sums.{sum_by-cons}
use Rattle.gptp_how_soon.specs.Tree.{has_same_root}
use Rattle.gptp_how_soon.specs.Turned.{goes_farther, has_fewer_steps}
use Rattle.gptp_how_soon.specs.TurnedTree.{is_in_part, is_turned_at, leads_one_on_within, leads_out, stays_or_is_in_part, stays_or_turns, tree_turns_at, turns_from, turns_tree, turns_tree_after}

-- one of a list passes, where one is counted
pub one_there : (p : Ends → Bool) (es : List Ends) → count_by p es ≡ 1 → (e : Ends) × In e es × (p e ≡ true)
one_there p [] none = let empty : count_by p [] ≡ 0 = refl in absurd (omega (arith, empty, none))
one_there p (e ∷ es) is = by (p e) refl (one_there p es)
  where
    by : (test : Bool) → p e ≡ test → (count_by p es ≡ 1 → (f : Ends) × In f es × (p f ≡ true))
        → (f : Ends) × In f (e ∷ es) × (p f ≡ true)
    by true passes rest = (e, inl refl, passes)
    by false fails rest =
        let here : ℕ = cond (p e) 1 0 in
        let more : count_by p (e ∷ es) ≡ here + count_by p es = sum_by-cons (λ f. cond (p f) 1 0) e es in
        let none : here ≡ 0 = ap (λ b. cond b 1 0) fails in
        let (f, member, is_so) = rest (omega (arith, more, none, is)) in (f, inr member, is_so)

pub less_so : (a b : ℕ) → nat_lt a b ≡ true → a < b
less_so a b test = grind (arith, nat_tests)

pub least_so : (a b : ℕ) → nat_le a b ≡ true → a ≤ b
least_so a b test = grind (arith, nat_tests)

module _ (n : NetworkState) (network : IsNetwork n) (made events : List Timed) where
  abbrev pub before : List Chosen
  before = chosen_after n made

  abbrev pub now : List Chosen
  now = chosen_after n events

  abbrev pub systems : List ours.System
  systems = systems_after n events

  abbrev pub links : List Ends
  links = used_ends n events

  abbrev pub moved : ℕ → Bool
  moved = is_moved_at systems before now

  abbrev pub turned : ℕ → Bool
  turned = is_turned_at systems before now

  -- who turns is moved
  pub turned_moves : (i : ℕ) → turned i ≡ true → moved i ≡ true
  turned_moves i is = (and_parts (moved i) (goes_farther (slice_get before i) (slice_get now i)) is).0

  -- who is of the part of a top, by names
  abbrev pub part : List Chosen → ℕ → ℕ → Bool
  part = is_in_part systems before now

  pub part_turns : (names : List Chosen) (top i : ℕ) → part names top i ≡ true → turned i ≡ true
  part_turns names top i is =
      (and_parts (turned i) (has_same_root (slice_get names top) (slice_get names i)) is).0

  -- a tree turns below this top
  pub record TurnsAt (names : List Chosen) (top : ℕ) : Type 0 where
    pub turns : part names top top ≡ true
    pub each : list_all (stays_or_turns (part names top) links before top) (range_with_len 0 (length systems)) ≡ true
    pub on : list_all (leads_one_on_within (part names top) before) links ≡ true
    pub way : (count_by (leads_out (part names top)) links == 1) ≡ true

  pub turns_at : (names : List Chosen) (top : ℕ) → tree_turns_at systems links before now names top ≡ true
      → TurnsAt names top
  turns_at names top is =
      let top_test : Bool = part names top top in
      let each_test : Bool =
      list_all (stays_or_turns (part names top) links before top) (range_with_len 0 (length systems)) in
      let on_test : Bool = list_all (leads_one_on_within (part names top) before) links in
      let way_test : Bool = count_by (leads_out (part names top)) links == 1 in
      let (three, way) = and_parts (top_test && each_test && on_test) way_test is in
      let (two, on) = and_parts (top_test && each_test) on_test three in
      let (turns, each) = and_parts top_test each_test two in
      record { turns = turns; each = each; on = on; way = way }

  -- a link is lost from the top of such a tree, and no other system is moved
  pub record Turns : Type 0 where
    pub one : OneLost n network made events
    pub stays : not (moved one.other) ≡ true
    pub nearer : has_fewer_steps (slice_get before one.other) (slice_get before one.top) ≡ true
    pub all : list_all (stays_or_is_in_part systems before now now one.top) (range_with_len 0 (length systems)) ≡ true
    pub tree : TurnsAt now one.top

  pub turns : turns_tree_after n made events ≡ true → Turns
  turns is = by (lost_ends n made events) refl is
    where
      of_one : OneLostBy n network made events (turns_from systems links before now) → Turns
      of_one x =
          let top : ℕ = x.one.top in
          let stays_test : Bool = not (moved x.one.other) in
          let nearer_test : Bool = has_fewer_steps (slice_get before x.one.other) (slice_get before top) in
          let all_test : Bool =
          list_all (stays_or_is_in_part systems before now now top) (range_with_len 0 (length systems)) in
          let tree_test : Bool = tree_turns_at systems links before now now top in
          let (three, tree) = and_parts (stays_test && nearer_test && all_test) tree_test x.so in
          let (two, all) = and_parts (stays_test && nearer_test) all_test three in
          let (stays, nearer) = and_parts stays_test nearer_test two in
          record {
            one = x.one;
            stays = stays;
            nearer = nearer;
            all = all;
            tree = turns_at now top tree;
          }

      by : (es : List Ends) → lost_ends n made events ≡ es → turns_tree systems es links before now ≡ true → Turns
      by [] same is = absurd cc
      by (e ∷ []) same is = of_one (one_lost n network made events (turns_from systems links before now) e same is)
      by (e ∷ f ∷ es) same is = absurd cc
