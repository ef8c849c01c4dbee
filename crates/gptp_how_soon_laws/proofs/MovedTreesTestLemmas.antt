-- What the tests of trees that are moved as a system fails say.
use Rattle.std.proofs.Common.{◌≡◌, ◌⊎◌, inl, inr, ℕ, Bool, true, false, List, [], ◌∷◌, Option, Some, None, length, slice_get, refl, sym, ap, subst, ◌∙◌}
use Rattle.std.specs.Prelude.{◌==◌, ◌&&◌, ◌||◌, not, if◌then◌else◌}
use Rattle.std.specs.List.{list_all, list_any, range_with_len}
use Rattle.std.proofs.lemmas.Bool.{and_from, and_parts, eq-eqb, eqb-true, or_cases, or_left, or_right}
use Rattle.gptp_lists.specs.Members.{In}
use Rattle.gptp_network.proofs.PassLemmas.{kept, passes, passes_at}
use Rattle.gptp_network.proofs.SnapshotLemmas.{from_filter}
use Rattle.gptp_scenario.specs.Network.{IsNetwork, NetworkState}
use Rattle.gptp_scenario.specs.declared.change.Timed.{Timed}
use Rattle.gptp_topology.specs.After.{systems_after}
use Rattle.gptp_topology.specs.declared.nodes.System as ours
use Rattle.gptp_how_soon.specs.Chosen.{chosen_after, ends_at, is_joined, is_moved, is_moved_at, lost_ends, used_ends}
use Rattle.gptp_how_soon.specs.MovedTrees.{agrees_with, are_tops, ends_are_tops, falls_below_tops, has_tops, is_below_or_apart, is_in_tree, is_top_at, is_top_with, keeps_part, moves_trees, moves_trees_after, part_names, parts_turn, stays_or_has_end, stays_or_tree_turns, tops_with, trees_turn_at, turns_with, turns_with_end}
use Rattle.gptp_how_soon.specs.Tree.{chose_itself, has_better_root, has_same_root, is_below}
use Rattle.gptp_how_soon.specs.TurnedTree.{falls_at, is_in_part, is_turned_at, tree_turns_at}
use Rattle.gptp_how_soon.specs.TwoTops.{chosen_from, is_both_or_apart}
use Rattle.gptp_how_soon.specs.declared.chosen.Chosen.{Chosen}
use Rattle.gptp_how_soon.specs.declared.chosen.Ends.{Ends}
use Rattle.gptp_how_soon.proofs.ChosenLemmas.{IsAt}
use Rattle.gptp_how_soon_laws.proofs.FailedLemmas.{each_is}
use Rattle.gptp_how_soon_laws.proofs.UnmovedLemmas.{asked_of}

-- having one root leads on, and back
pub same_on : (a b c : Option Chosen) → has_same_root a b ≡ true → has_same_root b c ≡ true → has_same_root a c ≡ true
same_on None b c same other = absurd cc
same_on (Some x) None c same other = absurd cc
same_on (Some x) (Some y) None same other = absurd cc
same_on (Some x) (Some y) (Some z) same other =
    eq-eqb x.root z.root (eqb-true x.root y.root same ∙ eqb-true y.root z.root other)

pub same_turned : (a b : Option Chosen) → has_same_root a b ≡ true → has_same_root b a ≡ true
same_turned None b same = absurd cc
same_turned (Some x) None same = absurd cc
same_turned (Some x) (Some y) same = eq-eqb y.root x.root (sym (eqb-true x.root y.root same))

-- who is moved has a choice, so that it has its own root
itself_moved : (o : Option ours.System) (b c : Option Chosen) → is_moved o b c ≡ true → has_same_root c c ≡ true
itself_moved None b c is = absurd cc
itself_moved (Some o) None c is = absurd cc
itself_moved (Some o) (Some b) None is = absurd cc
itself_moved (Some o) (Some b) (Some c) is = eq-eqb c.root c.root refl

-- one of the ends of a link has what the test asks for
pub end_of : (p : ℕ → Bool) (es : List Ends) → list_any (λ (e : Ends). p e.a || p e.b) es ≡ true
    → (e : Ends) × In e es × (i : ℕ) × ((e.a ≡ i) ⊎ (e.b ≡ i)) × (p i ≡ true)
end_of p es is =
    let (e, listed, either) = passes (λ (e : Ends). p e.a || p e.b) es is in
    elim (or_cases (p e.a) (p e.b) either) [
      | inl a ↦ (e, listed, e.a, inl refl, a)
      | inr b ↦ (e, listed, e.b, inr refl, b)
    ]

module _ (n : NetworkState) (network : IsNetwork n) (made events : List Timed) where
  abbrev pub before : List Chosen
  before = chosen_after n made

  abbrev pub now : List Chosen
  now = chosen_after n events

  abbrev pub systems : List ours.System
  systems = systems_after n events

  abbrev pub links : List Ends
  links = used_ends n events

  abbrev pub lost : List Ends
  lost = lost_ends n made events

  abbrev pub is_moved_there : ℕ → Bool
  is_moved_there = is_moved_at systems before now

  abbrev pub turns_there : ℕ → Bool
  turns_there = is_turned_at systems before now

  abbrev pub falls_there : ℕ → Bool
  falls_there = falls_at systems before now

  -- names of parts that turn
  abbrev pub names : List Chosen
  names = part_names systems links before now

  -- who is of the part of a top
  abbrev pub part_there : ℕ → ℕ → Bool
  part_there = is_in_part systems before now names

  -- who falls is moved
  pub falls_moves : (i : ℕ) → falls_there i ≡ true → is_moved_there i ≡ true
  falls_moves i falls = (and_parts (is_moved_there i) (not (turns_there i)) falls).0

  -- it is at an end of a link that is lost
  pub record IsLostEnd (i : ℕ) : Type 0 where
    pub ends : Ends
    pub listed : In ends lost
    pub end : (ends.a ≡ i) ⊎ (ends.b ≡ i)

  pub lost_end : (i : ℕ) → is_joined lost i ≡ true → IsLostEnd i
  lost_end i is =
      let (e, listed, either) = passes (ends_at i) lost is in
      record {
        ends = e;
        listed = listed;
        end = elim (or_cases (e.a == i) (e.b == i) either) [
          | inl a ↦ inl (eqb-true e.a i a)
          | inr b ↦ inr (eqb-true e.b i b)
        ];
      }

  joined_at : (i : ℕ) → IsLostEnd i → is_joined lost i ≡ true
  joined_at i x =
      let e : Ends = x.ends in
      passes_at (ends_at i) lost e x.listed (elim x.end [
        | inl a ↦ or_left (e.a == i) (e.b == i) (eq-eqb e.a i a)
        | inr b ↦ or_right (e.a == i) (e.b == i) (eq-eqb e.b i b)
      ])

  -- ---- tops of trees that are cut off

  abbrev pub is_top_there : ℕ → Bool
  is_top_there = is_top_at systems lost before now

  abbrev pub tops_there : ℕ → List ℕ
  tops_there = tops_with systems lost before now

  abbrev from_top : ℕ → List Chosen
  from_top = chosen_from systems links

  pub top_parts : (top : ℕ) → is_top_there top ≡ true → IsLostEnd top × (falls_there top ≡ true)
  top_parts top is =
      let (joined, falls) = and_parts (is_joined lost top) (falls_there top) is in (lost_end top joined, falls)

  -- each that is listed is one, with that root
  pub of_tops : (place top : ℕ) → In top (tops_there place)
      → (is_top_there top ≡ true) × (has_same_root (slice_get now place) (slice_get now top) ≡ true)
  of_tops place top member =
      and_parts (is_top_there top) (has_same_root (slice_get now place) (slice_get now top))
      (from_filter (is_top_with systems lost before now place) top (range_with_len 0 (length systems)) member).1

  -- and who falls where a link is lost, and has the root of one that is listed, is listed
  pub in_tops : (place top i v : ℕ) → In top (tops_there place) → IsAt n i v → falls_there i ≡ true → IsLostEnd i
      → has_same_root (slice_get now top) (slice_get now i) ≡ true → In i (tops_there place)
  in_tops place top i v member at falls x same =
      let with_top = (of_tops place top member).1 in
      let is_top = and_from (is_joined lost i) (falls_there i) (joined_at i x) falls in
      let with_i = same_on (slice_get now place) (slice_get now top) (slice_get now i) with_top same in
      kept (is_top_with systems lost before now place) i (range_with_len 0 (length systems))
      (asked_of n events i at.system at.there)
      (and_from (is_top_there i) (has_same_root (slice_get now place) (slice_get now i)) is_top with_i)

  -- a tree with the root of the system at a place: it has one top
  pub record OneTop (place : ℕ) : Type 0 where
    pub top : ℕ
    pub tops : tops_there place ≡ top ∷ []
    pub worse : has_better_root (slice_get before top) (slice_get now top) ≡ true
    pub all : list_all (is_below_or_apart systems links before now top) (range_with_len 0 (length systems)) ≡ true

  -- or two
  pub record TwoTops (place : ℕ) : Type 0 where
    pub first : ℕ
    pub second : ℕ
    pub tops : tops_there place ≡ first ∷ second ∷ []
    pub worse : has_better_root (slice_get before first) (slice_get now first) ≡ true
    pub first_itself : chose_itself (slice_get (from_top first) first) ≡ true
    pub second_itself : chose_itself (slice_get (from_top second) second) ≡ true
    pub all : list_all (is_both_or_apart systems links before now (from_top first) (from_top second) first second)
        (range_with_len 0 (length systems)) ≡ true

  tops_so : (place : ℕ) (tops : List ℕ) → tops_there place ≡ tops
      → falls_below_tops systems links before now tops ≡ true → OneTop place ⊎ TwoTops place
  tops_so place [] same falls = absurd cc
  tops_so place (top ∷ []) same falls =
      let (worse, all) = and_parts (has_better_root (slice_get before top) (slice_get now top))
      (list_all (is_below_or_apart systems links before now top) (range_with_len 0 (length systems))) falls in
      inl (record { top = top; tops = same; worse = worse; all = all })
  tops_so place (first ∷ second ∷ []) same falls =
      let worse_test : Bool = has_better_root (slice_get before first) (slice_get now first) in
      let first_test : Bool = chose_itself (slice_get (from_top first) first) in
      let second_test : Bool = chose_itself (slice_get (from_top second) second) in
      let all_test : Bool =
      list_all (is_both_or_apart systems links before now (from_top first) (from_top second) first second)
      (range_with_len 0 (length systems)) in
      let (three, all) = and_parts (worse_test && first_test && second_test) all_test falls in
      let (two, second_is) = and_parts (worse_test && first_test) second_test three in
      let (worse, first_is) = and_parts worse_test first_test two in
      inr (record {
        first = first;
        second = second;
        tops = same;
        worse = worse;
        first_itself = first_is;
        second_itself = second_is;
        all = all;
      })
  tops_so place (first ∷ second ∷ third ∷ others) same falls = absurd cc

  -- whoever has the root of the one top falls, below it
  pub below_one : (place : ℕ) (o : OneTop place) (i v : ℕ) → IsAt n i v
      → has_same_root (slice_get now o.top) (slice_get now i) ≡ true
      → (falls_there i ≡ true) × (is_below links before now o.top i ≡ true)
  below_one place o i v at same =
      let same_test : Bool = has_same_root (slice_get now o.top) (slice_get now i) in
      let below_test : Bool = is_below links before now o.top i in
      elim (or_cases (not same_test) (falls_there i && below_test)
      (each_is (is_below_or_apart systems links before now o.top) (range_with_len 0 (length systems)) i o.all
      (asked_of n events i at.system at.there))) [
        | inl apart ↦ let no : false ≡ true = ap not (sym same) ∙ apart in absurd cc
        | inr both ↦ and_parts (falls_there i) below_test both
      ]

  listed_one : (place : ℕ) (o : OneTop place) → In o.top (tops_there place)
  listed_one place o = subst (In o.top) (sym o.tops) (inl refl)

  -- a link is lost at it alone
  pub only_one : (place : ℕ) (o : OneTop place) (i v : ℕ) → IsAt n i v
      → has_same_root (slice_get now o.top) (slice_get now i) ≡ true → IsLostEnd i → i ≡ o.top
  only_one place o i v at same x =
      let falls = (below_one place o i v at same).0 in
      elim (subst (In i) o.tops (in_tops place o.top i v (listed_one place o) at falls x same)) [
        | inl is ↦ is
        | inr none ↦ absurd none
      ]

  -- one of the tops, which got a worse root
  pub record MainTop (place : ℕ) : Type 0 where
    pub top : ℕ
    pub is_top : is_top_there top ≡ true
    pub same : has_same_root (slice_get now place) (slice_get now top) ≡ true
    pub worse : has_better_root (slice_get before top) (slice_get now top) ≡ true

  pub main_top : (place : ℕ) → OneTop place ⊎ TwoTops place → MainTop place
  main_top place (inl o) =
      let (is_top, same) = of_tops place o.top (listed_one place o) in
      record { top = o.top; is_top = is_top; same = same; worse = o.worse }
  main_top place (inr t) =
      let (is_top, same) = of_tops place t.first (subst (In t.first) (sym t.tops) (inl refl)) in
      record { top = t.first; is_top = is_top; same = same; worse = t.worse }

  module _ (splits : moves_trees_after n made events ≡ true) where
    abbrev agree_test : Bool
    agree_test = list_all (agrees_with systems lost before now names) lost

    abbrev trees_test : Bool
    trees_test = list_all (is_in_tree systems lost links before now) (range_with_len 0 (length systems))

    two_parts : ((agree_test && trees_test) ≡ true) × (parts_turn systems lost links before now names ≡ true)
    unfolding moves_trees
    two_parts = and_parts (agree_test && trees_test) (parts_turn systems lost links before now names) splits

    agree : agree_test ≡ true
    agree = (and_parts agree_test trees_test two_parts.0).0

    -- two ends of such links agree
    tops_agree : (i j : ℕ) → IsLostEnd i → IsLostEnd j → are_tops systems before now names i j ≡ true
    tops_agree i j x y = by x.end y.end
      where
        e : Ends
        e = x.ends

        f : Ends
        f = y.ends

        each : ends_are_tops systems before now names e f ≡ true
        each =
            each_is (ends_are_tops systems before now names e) lost f
            (each_is (agrees_with systems lost before now names) lost e agree x.listed) y.listed

        three : ((are_tops systems before now names e.a f.a && are_tops systems before now names e.a f.b
            && are_tops systems before now names e.b f.a) ≡ true) × (are_tops systems before now names e.b f.b ≡ true)
        three =
            and_parts
            (are_tops systems before now names e.a f.a && are_tops systems before now names e.a f.b
            && are_tops systems before now names e.b f.a)
            (are_tops systems before now names e.b f.b) each

        two : ((are_tops systems before now names e.a f.a && are_tops systems before now names e.a f.b) ≡ true)
            × (are_tops systems before now names e.b f.a ≡ true)
        two =
            and_parts (are_tops systems before now names e.a f.a && are_tops systems before now names e.a f.b)
            (are_tops systems before now names e.b f.a) three.0

        one : (are_tops systems before now names e.a f.a ≡ true) × (are_tops systems before now names e.a f.b ≡ true)
        one = and_parts (are_tops systems before now names e.a f.a) (are_tops systems before now names e.a f.b) two.0

        by : (e.a ≡ i) ⊎ (e.b ≡ i) → (f.a ≡ j) ⊎ (f.b ≡ j) → are_tops systems before now names i j ≡ true
        by (inl a) (inl b) = (λ k. are_tops systems before now names (sym a k) (sym b k)) ∙ one.0
        by (inl a) (inr b) = (λ k. are_tops systems before now names (sym a k) (sym b k)) ∙ one.1
        by (inr a) (inl b) = (λ k. are_tops systems before now names (sym a k) (sym b k)) ∙ two.1
        by (inr a) (inr b) = (λ k. are_tops systems before now names (sym a k) (sym b k)) ∙ three.1

    -- where both are moved they had one root, and are one system if both turn and are of one part
    pub record Agree (i j : ℕ) : Type 0 where
      pub root : has_same_root (slice_get before i) (slice_get before j) ≡ true
      pub one : turns_there i ≡ true → part_there i j ≡ true → i ≡ j

    pub moved_agree : (i j : ℕ) → IsLostEnd i → IsLostEnd j → is_moved_there i ≡ true → is_moved_there j ≡ true
        → Agree i j
    moved_agree i j x y moved moved' =
        elim (or_cases (not (is_moved_there i && is_moved_there j)) (root_test && (not turn_test || (i == j)))
        (tops_agree i j x y)) [
          | inl apart ↦
              let both = and_from (is_moved_there i) (is_moved_there j) moved moved' in
              let no : false ≡ true = ap not (sym both) ∙ apart in
              absurd cc
          | inr is ↦
              let (root, single) = and_parts root_test (not turn_test || (i == j)) is in
              record {
                root = root;
                one = λ turns inside. elim (or_cases (not turn_test) (i == j) single) [
                  | inl apart ↦
                      let both = and_from (turns_there i) (part_there i j) turns inside in
                      let no : false ≡ true = ap not (sym both) ∙ apart in
                      absurd cc
                  | inr equal ↦ eqb-true i j equal
                ];
              }
        ]
      where
        root_test : Bool
        root_test = has_same_root (slice_get before i) (slice_get before j)

        turn_test : Bool
        turn_test = turns_there i && part_there i j

    -- ---- who is in a tree

    told : (i v : ℕ) → IsAt n i v → is_in_tree systems lost links before now i ≡ true
    told i v at =
        each_is (is_in_tree systems lost links before now) (range_with_len 0 (length systems)) i
        (and_parts agree_test trees_test two_parts.0).1 (asked_of n events i at.system at.there)

    told_by : (i v : ℕ) → IsAt n i v → (is_top : Bool) → is_top_there i ≡ is_top
        → (if is_top then falls_below_tops systems links before now (tops_there i)
        else not (falls_there i) || has_tops (tops_there i)) ≡ true
    told_by i v at is_top is =
        ap (λ b. if b then falls_below_tops systems links before now (tops_there i)
        else not (falls_there i) || has_tops (tops_there i)) (sym is) ∙ told i v at

    -- the tree of a top
    pub tree_at : (top v : ℕ) → IsAt n top v → is_top_there top ≡ true → OneTop top ⊎ TwoTops top
    tree_at top v at is = tops_so top (tops_there top) refl (told_by top v at true is)

    -- a system that falls has the root of a top
    pub record Under (i : ℕ) : Type 0 where
      pub top : ℕ
      pub is_top : is_top_there top ≡ true
      pub same : has_same_root (slice_get now i) (slice_get now top) ≡ true

    pub under : (i v : ℕ) → IsAt n i v → falls_there i ≡ true → Under i
    under i v at falls = by (is_top_there i) refl
      where
        some : (tops : List ℕ) → has_tops tops ≡ true → (top : ℕ) × In top tops
        some [] is = absurd cc
        some (top ∷ others) is = (top, inl refl)

        by : (is_top : Bool) → is_top_there i ≡ is_top → Under i
        by true is = record {
          top = i;
          is_top = is;
          same =
              itself_moved (slice_get systems i) (slice_get before i) (slice_get now i) (falls_moves i falls);
        }
        by false is = elim (or_cases (not (falls_there i)) (has_tops (tops_there i)) (told_by i v at false is)) [
          | inl stays ↦ let no : false ≡ true = ap not (sym falls) ∙ stays in absurd cc
          | inr has ↦
              let (top, member) = some (tops_there i) has in
              let (is_top, same) = of_tops i top member in
              record { top = top; is_top = is_top; same = same }
        ]

    -- ---- who turns

    abbrev keep_test : Bool
    keep_test = list_all (keeps_part systems before now names) links

    abbrev tree_test : Bool
    tree_test = list_all (trees_turn_at systems links before now names) lost

    part_tests : ((keep_test && tree_test) ≡ true)
        × (list_all (stays_or_has_end systems lost before now names) (range_with_len 0 (length systems)) ≡ true)
    part_tests =
        and_parts (keep_test && tree_test)
        (list_all (stays_or_has_end systems lost before now names) (range_with_len 0 (length systems))) two_parts.1

    -- a link between two that turn leads to no other part
    pub same_part : (e : Ends) → In e links → turns_there e.a ≡ true → turns_there e.b ≡ true
        → has_same_root (slice_get names e.a) (slice_get names e.b) ≡ true
    same_part e listed turns turns' =
        elim (or_cases (not (turns_there e.a && turns_there e.b))
        (has_same_root (slice_get names e.a) (slice_get names e.b))
        (each_is (keeps_part systems before now names) links e (and_parts keep_test tree_test part_tests.0).0 listed)) [
          | inl apart ↦
              let both = and_from (turns_there e.a) (turns_there e.b) turns turns' in
              let no : false ≡ true = ap not (sym both) ∙ apart in
              absurd cc
          | inr same ↦ same
        ]

    abbrev end_test : ℕ → Bool
    end_test = stays_or_tree_turns systems links before now names

    -- at an end of a link that is lost a tree turns, if that end does
    pub tree_below : (top : ℕ) → IsLostEnd top → turns_there top ≡ true
        → tree_turns_at systems links before now names top ≡ true
    tree_below top x turns =
        let e : Ends = x.ends in
        let (first, second) = and_parts (end_test e.a) (end_test e.b)
        (each_is (trees_turn_at systems links before now names) lost e (and_parts keep_test tree_test part_tests.0).1
        x.listed) in
        by (elim x.end [
          | inl same ↦ subst (λ i. end_test i ≡ true) same first
          | inr same ↦ subst (λ i. end_test i ≡ true) same second
        ])
      where
        by : end_test top ≡ true → tree_turns_at systems links before now names top ≡ true
        by is =
            elim (or_cases (not (turns_there top)) (tree_turns_at systems links before now names top) is) [
              | inl stays ↦ let no : false ≡ true = ap not (sym turns) ∙ stays in absurd cc
              | inr tree ↦ tree
            ]

    -- who turns is of the part of such an end
    pub record TurnsWith (i : ℕ) : Type 0 where
      pub top : ℕ
      pub lost_end : IsLostEnd top
      pub turns : turns_there top ≡ true
      pub inside : part_there top i ≡ true

    pub has_end : (i v : ℕ) → IsAt n i v → turns_there i ≡ true → TurnsWith i
    has_end i v at turns =
        elim (or_cases (not (turns_there i)) (list_any (turns_with_end systems before now names i) lost)
        (each_is (stays_or_has_end systems lost before now names) (range_with_len 0 (length systems)) i part_tests.1
        (asked_of n events i at.system at.there))) [
          | inl stays ↦ let no : false ≡ true = ap not (sym turns) ∙ stays in absurd cc
          | inr some ↦
              let (e, listed, top, end, is) = end_of (turns_with systems before now names i) lost some in
              let (top_turns, inside) = and_parts (turns_there top) (part_there top i) is in
              record {
                top = top;
                lost_end = record { ends = e; listed = listed; end = end };
                turns = top_turns;
                inside = inside;
              }
        ]
