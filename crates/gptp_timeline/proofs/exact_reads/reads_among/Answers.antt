-- The closure gives a system's clock.
use Rattle.std.proofs.Common.{◌≡◌, ℕ, List, [], ◌∷◌, length, if◌then◌else◌, ◌==◌, Result, rules, refl, ◌∙◌, ap, sym, subst}
use Rattle.std.specs.List.Sorted.{IsBinarySearchResult, IsSearchInRange}
use Rattle.std.specs.Ordering.{nat_cmp}
use Rattle.std.proofs.lemmas.List.Sorted.{answers_always}
use Rattle.gptp_lists.proofs.PlaceLemmas.{read}
use Rattle.gptp_timeline.specs.ExactReads.{reads_among}
use Rattle.gptp_timeline.specs.declared.exact_reads.SystemReads.{SystemReads}
use Rattle.gptp_timeline.proofs.PutLemmas.{among, among_at, none_among, stands_at, stands_nowhere}
use Rattle.gptp_timeline.proofs.exact_reads.reads_among.Goals as goal

-- the same by one recursion and another
same : (name : ℕ) (xs : List SystemReads)
    → reads_among xs name ≡ among (λ (x : SystemReads). x.clock) name (λ (x : SystemReads). x.reads) xs
same name [] = refl
same name (x ∷ xs) = ap (λ rest. if x.clock == name then x.reads else rest) (same name xs)

pub returns-in-Ok : goal.returns-in-Ok
returns-in-Ok c =
    let xs = c.args.systems.now in let name = c.args.clock in let place = c.in-Ok.place in
    let facts = c.binary_search_by_key.ensures in
    let by_clock = facts.position (λ (x : SystemReads). x.clock)
    (answers_always _ _ _ (λ f a r g called. search rules)) in
    let s = stands_at (λ (x : SystemReads). x.clock) name xs c.requires place
    (subst (λ (r : Result ℕ ℕ). IsSearchInRange r (length xs)) c.in-Ok.is facts.bound)
    (subst (λ (r : Result ℕ ℕ). IsBinarySearchResult (λ (x : SystemReads). nat_cmp x.clock name) xs r) c.in-Ok.is
    by_clock) in
    ap (λ (x : SystemReads). x.reads) (read xs place s.one c.index-systems-place.result s.there)
    ∙ sym (same name xs ∙ among_at (λ (x : SystemReads). x.clock) name (λ (x : SystemReads). x.reads) xs place s)

pub returns-in-Err : goal.returns-in-Err
returns-in-Err c =
    let xs = c.args.systems.now in let name = c.args.clock in
    let facts = c.binary_search_by_key.ensures in
    let by_clock = facts.position (λ (x : SystemReads). x.clock)
    (answers_always _ _ _ (λ f a r g called. search rules)) in
    let s = stands_nowhere (λ (x : SystemReads). x.clock) name xs c.requires c.in-Err.field-0
    (subst (λ (r : Result ℕ ℕ). IsSearchInRange r (length xs)) c.in-Err.is facts.bound)
    (subst (λ (r : Result ℕ ℕ). IsBinarySearchResult (λ (x : SystemReads). nat_cmp x.clock name) xs r) c.in-Err.is
    by_clock) in
    sym (same name xs ∙ none_among (λ (x : SystemReads). x.clock) name (λ (x : SystemReads). x.reads) xs s)
