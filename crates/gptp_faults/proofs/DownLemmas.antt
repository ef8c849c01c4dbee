-- The last stretch but one of a run begins where it is seen that a case failed and ends where the case comes back.
use Rattle.std.proofs.Common.{◌≡◌, ◌≢◌, ◌≤◌, ◌<◌, ℕ, Bool, true, false, nat_lt, List, [], ◌∷◌, ◌++◌, Option, Some, refl, sym, ap, subst, ◌∙◌, inl, inr, arith}
use Rattle.std.proofs.lemmas.Bool.Decides.{nat_tests}
use Rattle.std.proofs.lemmas.List.Elements.{filter-append}
use Rattle.std.proofs.lemmas.Option.{same_Some}
use Rattle.gptp_model.specs.World.{WorldState}
use Rattle.gptp_links.specs.declared.bounds.Bounds.{Bounds}
use Rattle.gptp_lists.specs.Members.{In}
use Rattle.gptp_network.specs.Document.{DocumentState}
use Rattle.gptp_scenario.specs.declared.change.Timed.{Timed}
use Rattle.gptp_timeline.specs.Ends.{EndState}
use Rattle.gptp_timeline.specs.LastStretches.{carry_over, CarriedAside, end_in, last_behind, with_end}
use Rattle.gptp_timeline.specs.Timeline.{AllPass, end_before, later_than, StretchTrace}
use Rattle.gptp_timeline.specs.declared.ends.LastStretches.{LastStretches}
use Rattle.gptp_timeline.proofs.PastLemmas.{PastBy}

-- ---- events later than a time

later_parts : (time : ℕ) (es fs : List Timed) → later_than time (es ++ fs) ≡ later_than time es ++ later_than time fs
later_parts time es fs = filter-append (λ (e : Timed). nat_lt time e.at) es fs

-- none of those that are past is
none_later : (time : ℕ) (es : List Timed) → PastBy time es → later_than time es ≡ []
none_later time [] past = refl
none_later time (e ∷ es) past =
    let first = past.0 in
    let early : nat_lt time e.at ≡ false = grind (arith, nat_tests) in rw early (none_later time es past.1)

-- and those that are stay past a later time
later_past : (time by_then : ℕ) (es : List Timed) → PastBy by_then es → PastBy by_then (later_than time es)
later_past time by_then [] past = tt
later_past time by_then (e ∷ es) past = by (nat_lt time e.at) refl (later_past time by_then es past.1)
  where
    by : (t : Bool) → nat_lt time e.at ≡ t → PastBy by_then (later_than time es)
        → PastBy by_then (later_than time (e ∷ es))
    by true is rest = rw is (past.0, rest)
    by false is rest = rw is rest

-- an event that is later is left
some_left : (time : ℕ) (es : List Timed) (e : Timed) (rest : List Timed) → time < e.at
    → later_than time (es ++ e ∷ rest) ≢ []
some_left time [] e rest late none =
    let later : nat_lt time e.at ≡ true = grind (arith, nat_tests) in
    let one : e ∷ later_than time rest ≡ [] = rw later at none in absurd cc
some_left time (x ∷ xs) e rest late none = by (nat_lt time x.at) refl (some_left time xs e rest late)
  where
    by : (t : Bool) → nat_lt time x.at ≡ t → later_than time (xs ++ e ∷ rest) ≢ [] → ⊥
    by true is some = let one : x ∷ later_than time (xs ++ e ∷ rest) ≡ [] = rw is at none in absurd cc
    by false is some = some (rw is at none)

-- ---- what is left before a case comes back

-- Where others come first that are past by then, one is when it is seen that the case failed, and the last are at its
-- return.
pub record AreLast (down up : ℕ) (from : ℕ) (left : List Timed) : Type 0 where
  pub others : List Timed
  pub first : Timed
  pub more : List Timed
  pub second : Timed
  pub rest : List Timed
  pub are : left ≡ others ++ first ∷ (more ++ second ∷ rest)
  pub past : PastBy down others
  pub more_past : PastBy down more
  pub rest_past : PastBy up rest
  pub first_at : first.at ≡ down
  pub second_at : second.at ≡ up
  pub order : down < up
  pub early : from ≤ down

-- those later than a time, where both of these are
parts_left : (time : ℕ) (others : List Timed) (first : Timed) (more : List Timed) (second : Timed) (rest : List Timed)
    → time < first.at → time < second.at
    → later_than time (others ++ first ∷ (more ++ second ∷ rest))
    ≡ later_than time others ++ first ∷ (later_than time more ++ second ∷ later_than time rest)
parts_left time others first more second rest one_late two_late =
    let one : nat_lt time first.at ≡ true = grind (arith, nat_tests) in
    let two : nat_lt time second.at ≡ true = grind (arith, nat_tests) in
    later_parts time others (first ∷ (more ++ second ∷ rest))
    ∙ ap (λ xs. later_than time others ++ xs)
    (rw one (ap (λ xs. first ∷ xs) (later_parts time more (second ∷ rest)
    ∙ ap (λ xs. later_than time more ++ xs) (rw two refl))))

-- before the first of them both are left
still_last : (down up from until : ℕ) (left : List Timed) (k : AreLast down up from left) → from < down
    → AreLast down up (end_before until (later_than from left)) (later_than from left)
still_last down up from until left k before = record {
  others = others;
  first = k.first;
  more = more;
  second = k.second;
  rest = later_than from k.rest;
  are = are;
  past = past;
  more_past = later_past from down k.more k.more_past;
  rest_past = later_past from up k.rest k.rest_past;
  first_at = k.first_at;
  second_at = k.second_at;
  order = k.order;
  early = subst (λ xs. end_before until xs ≤ down) (sym are) (begins others past);
}
  where
    others : List Timed
    others = later_than from k.others

    more : List Timed
    more = later_than from k.more

    past : PastBy down others
    past = later_past from down k.others k.past

    are : later_than from left ≡ others ++ k.first ∷ (more ++ k.second ∷ later_than from k.rest)
    are =
        let at_first = k.first_at in let at_second = k.second_at in let order = k.order in
        ap (later_than from) k.are
        ∙ parts_left from k.others k.first k.more k.second k.rest (omega (arith, before, at_first))
        (omega (arith, before, at_second, order))

    begins : (xs : List Timed) → PastBy down xs
        → end_before until (xs ++ k.first ∷ (more ++ k.second ∷ later_than from k.rest)) ≤ down
    begins [] all = let at_first = k.first_at in omega (arith, at_first)
    begins (x ∷ xs) all = all.0

-- from the first of them on those at the return alone are
second_left : (down up from : ℕ) (left : List Timed) (k : AreLast down up from left) → from ≡ down
    → later_than from left ≡ k.second ∷ later_than from k.rest
second_left down up from left k is =
    let at_first = k.first_at in let at_second = k.second_at in let order = k.order in
    let one : nat_lt from k.first.at ≡ false = grind (arith, nat_tests) in
    let two : nat_lt from k.second.at ≡ true = grind (arith, nat_tests) in
    let past : PastBy from k.others = subst (λ t. PastBy t k.others) (sym is) k.past in
    let more_past : PastBy from k.more = subst (λ t. PastBy t k.more) (sym is) k.more_past in
    ap (later_than from) k.are ∙ later_parts from k.others (k.first ∷ (k.more ++ k.second ∷ k.rest))
    ∙ ap (λ xs. xs ++ later_than from (k.first ∷ (k.more ++ k.second ∷ k.rest))) (none_later from k.others past)
    ∙ rw one (later_parts from k.more (k.second ∷ k.rest)
    ∙ ap (λ xs. xs ++ later_than from (k.second ∷ k.rest)) (none_later from k.more more_past) ∙ rw two refl)

-- so as long as others pass the second is left
second_late : (down up from time : ℕ) (left : List Timed) (k : AreLast down up from left) → time < up
    → later_than time left ≢ []
second_late down up from time left k late =
    let at_second = k.second_at in
    subst (λ xs. later_than time xs ≢ [])
    (sym (k.are ∙ sym (in_front k.others)))
    (some_left time (k.others ++ k.first ∷ k.more) k.second k.rest (omega (arith, late, at_second)))
  where
    in_front : (xs : List Timed) → (xs ++ k.first ∷ k.more) ++ k.second ∷ k.rest
        ≡ xs ++ k.first ∷ (k.more ++ k.second ∷ k.rest)
    in_front [] = refl
    in_front (x ∷ xs) = ap (λ ys. x ∷ ys) (in_front xs)

-- those at the return aren't later than it
none_behind : (up time : ℕ) (second : Timed) (rest : List Timed) → second.at ≡ up → PastBy up rest → time ≡ up
    → later_than time (second ∷ rest) ≡ []
none_behind up time second rest at past is =
    let late : nat_lt time second.at ≡ false = grind (arith, nat_tests) in
    rw late (none_later time rest (subst (λ t. PastBy t rest) (sym is) past))

-- ---- the last stretches

-- two of several, and three
pub record HasTwo (last : LastStretches) : Type 0 where
  pub first : EndState
  pub second : EndState
  pub before_is : last.before ≡ Some first
  pub last_is : last.last ≡ Some second

pub record HasThree (last : LastStretches) : Type 0 where
  pub first : EndState
  pub earlier_is : last.earlier ≡ Some first
  pub two : HasTwo last

pub two_behind : (names : List ℕ) (c : CarriedAside) (p q : StretchTrace) (ps : List StretchTrace)
    (ends : LastStretches) → HasTwo (last_behind names c (p ∷ (q ∷ ps)) ends)
two_behind names c p q [] ends = record {
  first = end_in names c p;
  second = end_in names (carry_over p c) q;
  before_is = refl;
  last_is = refl;
}
two_behind names c p q (r ∷ rs) ends = two_behind names (carry_over p c) q r rs (with_end ends (end_in names c p))

pub three_behind : (names : List ℕ) (c : CarriedAside) (p q r : StretchTrace) (ps : List StretchTrace)
    (ends : LastStretches) → HasThree (last_behind names c (p ∷ (q ∷ (r ∷ ps))) ends)
three_behind names c p q r [] ends =
    record { first = end_in names c p; earlier_is = refl; two = two_behind names c p q (r ∷ []) ends }
three_behind names c p q r (s ∷ ps) ends =
    three_behind names (carry_over p c) q r s ps (with_end ends (end_in names c p))

module _ {F : Type 0} (answers : Bounds → ℕ → F → Option ℕ → F → Type 0) (d : DocumentState) (until : ℕ)
    (names : List ℕ) where
  -- a run in which a case comes back has two stretches; three, where it is seen later than the run begins
  pub has_two : (passages : List StretchTrace) (down up from : ℕ) (left : List Timed) (c : CarriedAside)
      (ends : LastStretches) (fate fate_after : F) (w w' : WorldState) → AreLast down up from left
      → AllPass answers false d until from left fate fate_after w w' passages
      → HasTwo (last_behind names c passages ends)
  has_two [] down up from left c ends fate fate_after w w' k pass = absurd pass
  has_two (p ∷ []) down up from left c ends fate fate_after w w' k (passage, none, over) =
      let order = k.order in let early = k.early in
      absurd (second_late down up from from left k (omega (arith, order, early)) none)
  has_two (p ∷ (q ∷ ps)) down up from left c ends fate fate_after w w' k pass = two_behind names c p q ps ends

  pub has_three : (passages : List StretchTrace) (down up from : ℕ) (left : List Timed) (c : CarriedAside)
      (ends : LastStretches) (fate fate_after : F) (w w' : WorldState) → AreLast down up from left → from < down
      → AllPass answers false d until from left fate fate_after w w' passages
      → HasThree (last_behind names c passages ends)
  has_three [] down up from left c ends fate fate_after w w' k before pass = absurd pass
  has_three (p ∷ []) down up from left c ends fate fate_after w w' k before (passage, none, over) =
      let order = k.order in let early = k.early in
      absurd (second_late down up from from left k (omega (arith, order, early)) none)
  has_three (p ∷ (q ∷ [])) down up from left c ends fate fate_after w w' k before
      (drawn, passage, some, (passage_q, none, over)) =
      let next = still_last down up from until left k before in
      let to = passage.to_is in let early = next.early in let order = k.order in
      absurd (second_late down up (end_before until (later_than from left)) p.to (later_than from left) next
      (omega (arith, to, early, order)) none)
  has_three (p ∷ (q ∷ (r ∷ rs))) down up from left c ends fate fate_after w w' k before pass =
      three_behind names c p q r rs ends

  -- ---- the last but one

  -- A stretch among several that begins and ends with these events, and ended so.
  pub record IsBetween (down up : ℕ) (passages : List StretchTrace) (e : EndState) : Type 0 where
    pub passage : StretchTrace
    pub member : In passage passages
    pub from_is : passage.from ≡ down
    pub to_is : passage.to ≡ up
    pub carried : CarriedAside
    pub ended : e ≡ end_in names carried passage

  -- it is so of these
  abbrev FindsIt : List StretchTrace → Type 0
  FindsIt passages = (down up from : ℕ) (left : List Timed) (c : CarriedAside) (ends : LastStretches)
      (fate fate_after : F) (w w' : WorldState) (a : EndState) → AreLast down up from left
      → AllPass answers false d until from left fate fate_after w w' passages
      → (last_behind names c passages ends).before ≡ Some a → IsBetween down up passages a

  pub last_but_one : (passages : List StretchTrace) (down up from : ℕ) (left : List Timed) (c : CarriedAside)
      (ends : LastStretches) (fate fate_after : F) (w w' : WorldState) (a : EndState) → AreLast down up from left
      → AllPass answers false d until from left fate fate_after w w' passages
      → (last_behind names c passages ends).before ≡ Some a → IsBetween down up passages a
  last_but_one [] down up from left c ends fate fate_after w w' a k pass is = absurd pass
  last_but_one (p ∷ []) down up from left c ends fate fate_after w w' a k (passage, none, over) is =
      let order = k.order in let early = k.early in
      absurd (second_late down up from from left k (omega (arith, order, early)) none)
  last_but_one (p ∷ (q ∷ [])) down up from left c ends fate fate_after w w' a k
      (drawn, passage, some, (passage_q, none, over)) is =
      by (nat_lt from down) refl
    where
      by : (t : Bool) → nat_lt from down ≡ t → IsBetween down up (p ∷ (q ∷ [])) a
      by true sooner =
          let before : from < down = grind (arith, nat_tests) in
          let next = still_last down up from until left k before in
          let to = passage.to_is in let early = next.early in let order = k.order in
          absurd (second_late down up (end_before until (later_than from left)) p.to (later_than from left) next
          (omega (arith, to, early, order)) none)
      by false now =
          let early = k.early in
          let at : from ≡ down = grind (arith, nat_tests) in
          let left_is = second_left down up from left k at in record {
            passage = p;
            member = inl refl;
            from_is = passage.from_is ∙ at;
            to_is = passage.to_is ∙ ap (end_before until) left_is ∙ k.second_at;
            carried = c;
            ended = sym (same_Some (end_in names c p) a is);
          }
  last_but_one (p ∷ (q ∷ (r ∷ rs))) down up from left c ends fate fate_after w w' a k
      (drawn, passage, some, (drawn_next, passage_q, more, rest)) is =
      by (nat_lt from down) refl (last_but_one (q ∷ (r ∷ rs)))
    where
      by : (t : Bool) → nat_lt from down ≡ t → FindsIt (q ∷ (r ∷ rs)) → IsBetween down up (p ∷ (q ∷ (r ∷ rs))) a
      by true sooner others =
          let before : from < down = grind (arith, nat_tests) in
          let next = subst (λ t. AreLast down up t (later_than from left)) (sym passage.to_is)
          (still_last down up from until left k before) in
          let found = others down up p.to (later_than from left) (carry_over p c) (with_end ends (end_in names c p))
          drawn fate_after p.after w' a next (drawn_next, passage_q, more, rest) is in record {
            passage = found.passage;
            member = inr found.member;
            from_is = found.from_is;
            to_is = found.to_is;
            carried = found.carried;
            ended = found.ended;
          }
      by false now others =
          let early = k.early in
          let at : from ≡ down = grind (arith, nat_tests) in
          let left_is = second_left down up from left k at in
          let to : p.to ≡ up = passage.to_is ∙ ap (end_before until) left_is ∙ k.second_at in
          absurd (more (ap (later_than p.to) left_is
          ∙ none_behind up p.to k.second (later_than from k.rest) k.second_at (later_past from up k.rest k.rest_past)
          to))
