-- The worst of runs, and cases in their order, one after another.
use Rattle.std.proofs.Common.{◌≡◌, ◌+◌, ◌++◌, ◌∷◌, [], ℕ, zero, suc, true, false, List, filter, map, refl, sym, ap, subst, ◌∙◌, append-nil, arith}
use Rattle.std.specs.List.{range_with_len}
use Rattle.std.proofs.lemmas.List.{map-append}
use Rattle.std.proofs.lemmas.List.Elements.{filter-append}
use Rattle.gptp_network.specs.Document.{DocumentState}
use Rattle.gptp_timeline.specs.Each.{Each}
use Rattle.gptp_faults.specs.CaseEvents.{events_of, EventsState}
use Rattle.gptp_faults.specs.Extremes.{greatest_behind, greatest_of_two}
use Rattle.gptp_faults.specs.Follows.{AreFollows}
use Rattle.gptp_faults.specs.Parts.{AreCaseParts}
use Rattle.gptp_faults.specs.Refusals.{case_events}
use Rattle.gptp_faults.specs.Whole.{IsWhole, WholeState}
use Rattle.gptp_faults.specs.Outcomes.{aside_of, back_in, down_in, is_of_part, IsCasePlan, IsOutcome, IsOutcomeAt, case_numbers, OutcomeState}
use Rattle.gptp_faults.specs.Runs.{CaseRunEnds, runs_of}
use Rattle.gptp_faults.specs.declared.extremes.Extremes.{Extremes}
use Rattle.gptp_faults.specs.declared.follows.Follow.{Follow}
use Rattle.gptp_faults.specs.declared.cases.Case.{Case}
use Rattle.gptp_faults.specs.declared.options.FaultsOptions.{FaultsOptions}
use Rattle.gptp_faults.specs.declared.outcome.CasePlan.{CasePlan}
use Rattle.gptp_faults.specs.declared.runs.RunEnds.{RunEnds}
use Rattle.gptp_faults.specs.declared.times.Times.{Times}
use Rattle.gptp_faults.proofs.EachLemmas.{each_more}

-- a range, with one number more
pub range_more : (from count : ℕ) → range_with_len from (count + 1) ≡ range_with_len from count ++ (from + count) ∷ []
range_more from zero = let e : from + 0 ≡ from = omega arith in rw e refl
range_more from (suc count) =
    let e : suc count + 1 ≡ suc (count + 1) = omega arith in
    let f : from + 1 + count ≡ from + suc count = omega arith in
    rw e (ap (λ ns. from ∷ ns) (range_more (from + 1) count ∙ ap (λ n. range_with_len (from + 1) count ++ n ∷ []) f))

range_with_one : (count : ℕ) → range_with_len 0 (count + 1) ≡ range_with_len 0 count ++ count ∷ []
range_with_one count =
    let e : 0 + count ≡ count = omega arith in
    range_more 0 count ∙ ap (λ n. range_with_len 0 count ++ n ∷ []) e

-- ---- the runs of a case

-- with one more
greatest_more : (e : Extremes) (fs : List Extremes) (f : Extremes)
    → greatest_behind e (fs ++ f ∷ []) ≡ greatest_of_two (greatest_behind e fs) f
greatest_more e [] f = refl
greatest_more e (x ∷ xs) f = greatest_more (greatest_of_two e x) xs f

-- Some runs of a case were made; so great is the worst of them, and so many systems follow which roots in the first.
pub record AreTried (options : FaultsOptions) (d : DocumentState) (t : Times) (e : EventsState) (names : List ℕ)
    (downs backs : RunEnds → Extremes) (count : ℕ) (down back : Extremes) (follow : List Follow) : Type 0 where
  pub first : RunEnds
  pub others : List RunEnds
  pub runs : Each (CaseRunEnds options d t e names) (range_with_len 0 count) (first ∷ others)
  pub down_is : down ≡ greatest_behind (downs first) (map downs others)
  pub back_is : back ≡ greatest_behind (backs first) (map backs others)
  pub follow_is : AreFollows first.down.roots follow

module _ (options : FaultsOptions) (d : DocumentState) (t : Times) (e : EventsState) (names : List ℕ)
    (downs backs : RunEnds → Extremes) where
  abbrev Tried : ℕ → Extremes → Extremes → List Follow → Type 0
  Tried = AreTried options d t e names downs backs

  pub one_tried : (first : RunEnds) (down back : Extremes) (follow : List Follow)
      → CaseRunEnds options d t e names 0 first
      → down ≡ downs first → back ≡ backs first → AreFollows first.down.roots follow → Tried 1 down back follow
  one_tried first down back follow run down_is back_is follow_is = record {
    first = first;
    others = [];
    runs = (run, tt);
    down_is = down_is;
    back_is = back_is;
    follow_is = follow_is;
  }

  -- the greatest with one run more
  with_run : (of : RunEnds → Extremes) (first : RunEnds) (others : List RunEnds) (ends : RunEnds)
      (before after : Extremes) → before ≡ greatest_behind (of first) (map of others)
      → after ≡ greatest_of_two before (of ends) → after ≡ greatest_behind (of first) (map of (others ++ ends ∷ []))
  with_run of first others ends before after so_far is =
      is ∙ ap (λ x. greatest_of_two x (of ends)) so_far
      ∙ sym (greatest_more (of first) (map of others) (of ends))
      ∙ ap (greatest_behind (of first)) (sym (map-append of others (ends ∷ [])))

  pub more_tried : (count : ℕ) (down back down_after back_after : Extremes) (follow : List Follow)
      → Tried count down back follow → (ends : RunEnds) → CaseRunEnds options d t e names count ends
      → down_after ≡ greatest_of_two down (downs ends) → back_after ≡ greatest_of_two back (backs ends)
      → Tried (count + 1) down_after back_after follow
  more_tried count down back down_after back_after follow tried ends run down_is back_is = record {
    first = tried.first;
    others = tried.others ++ ends ∷ [];
    runs = subst (λ ns. Each (CaseRunEnds options d t e names) ns (tried.first ∷ tried.others ++ ends ∷ []))
        (sym (range_with_one count))
        (each_more (CaseRunEnds options d t e names) (range_with_len 0 count) (tried.first ∷ tried.others) count ends
        tried.runs run);
    down_is = with_run downs tried.first tried.others ends down down_after tried.down_is down_is;
    back_is = with_run backs tried.first tried.others ends back back_after tried.back_is back_is;
    follow_is = tried.follow_is;
  }

-- all of them
module _ (options : FaultsOptions) (d : DocumentState) (t : Times) (c : Case) (whole : WholeState)
    (is_whole : IsWhole d whole) (p : CasePlan)
    (planned : IsCasePlan d whole options.detect t.from c p) where
  events_are : p.events ≡ case_events d options c
  events_are = planned.events ∙ ap (λ cables. events_of cables options.detect c) is_whole.cables

  pub all_tried : (number count : ℕ) (down back : Extremes) (follow : List Follow) (o : OutcomeState)
      → AreTried options d t p.events p.aside.items (down_in p.parts.cut.items p.parts.main.items)
      (back_in whole.parts) count down back follow
      → count ≡ runs_of t
      → o ≡ record { number = number; failing = c; down = down; back = back; follow = follow }
      → IsOutcome options d t number c o
  all_tried number count down back follow o tried all is = record {
    whole = whole;
    is_whole = is_whole;
    cut = p.parts.cut.items;
    main = p.parts.main.items;
    parts = subst (λ e. AreCaseParts d whole.snapshot e t.from p.parts.cut.items p.parts.main.items) events_are
        planned.parts;
    first = tried.first;
    others = tried.others;
    runs = subst (λ e. Each (CaseRunEnds options d t e (aside_of c p.parts.cut.items)) (range_with_len 0 (runs_of t))
        (tried.first ∷ tried.others)) events_are
        (subst (λ names. Each (CaseRunEnds options d t p.events names) (range_with_len 0 (runs_of t))
        (tried.first ∷ tried.others)) planned.aside
        (subst (λ n. Each (CaseRunEnds options d t p.events p.aside.items) (range_with_len 0 n)
        (tried.first ∷ tried.others)) all tried.runs));
    number_is = ap (λ (x : OutcomeState). x.number) is;
    failing = ap (λ (x : OutcomeState). x.failing) is;
    down = ap (λ (x : OutcomeState). x.down) is ∙ tried.down_is;
    back = ap (λ (x : OutcomeState). x.back) is ∙ tried.back_is;
    follow = subst (AreFollows tried.first.down.roots) (sym (ap (λ (x : OutcomeState). x.follow) is)) tried.follow_is;
  }

-- ---- the cases of a part

module _ (parts part count : ℕ) where
  numbers_more : case_numbers parts part (count + 1)
      ≡ case_numbers parts part count ++ filter (is_of_part parts part) (count ∷ [])
  numbers_more =
      ap (filter (is_of_part parts part)) (range_with_one count)
      ∙ filter-append (is_of_part parts part) (range_with_len 0 count) (count ∷ [])

  pub one_number : is_of_part parts part count ≡ true
      → case_numbers parts part (count + 1) ≡ case_numbers parts part count ++ count ∷ []
  one_number is = numbers_more ∙ ap (λ ns. case_numbers parts part count ++ ns) (rw is refl)

  pub no_number : is_of_part parts part count ≡ false
      → case_numbers parts part (count + 1) ≡ case_numbers parts part count
  no_number is =
      numbers_more ∙ ap (λ ns. case_numbers parts part count ++ ns) (rw is refl)
      ∙ append-nil (case_numbers parts part count)

module _ (options : FaultsOptions) (d : DocumentState) (t : Times) (cases : List Case) (parts part count : ℕ)
    (tried : List OutcomeState)
    (so_far : Each (IsOutcomeAt options d t cases) (case_numbers parts part count) tried) where
  -- a case more that belongs to the part was tried
  pub case_tried : is_of_part parts part count ≡ true → (o : OutcomeState) → IsOutcomeAt options d t cases count o
      → Each (IsOutcomeAt options d t cases) (case_numbers parts part (count + 1)) (tried ++ o ∷ [])
  case_tried is o outcome =
      subst (λ ns. Each (IsOutcomeAt options d t cases) ns (tried ++ o ∷ [])) (sym (one_number parts part count is))
      (each_more (IsOutcomeAt options d t cases) (case_numbers parts part count) tried count o so_far outcome)

  -- it doesn't belong to it
  pub case_passed : is_of_part parts part count ≡ false
      → Each (IsOutcomeAt options d t cases) (case_numbers parts part (count + 1)) tried
  case_passed is =
      subst (λ ns. Each (IsOutcomeAt options d t cases) ns tried) (sym (no_number parts part count is)) so_far
