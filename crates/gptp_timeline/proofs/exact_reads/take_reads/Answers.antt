-- The closure gives a system's clock.
use Rattle.std.proofs.Common.{◌≡◌, ℕ, Ok, length, map, option_map, Option, Result, slice_set, unsigned_abs, rules, ◌∙◌, ap, sym, subst}
use Rattle.std.specs.List.Sorted.{IsBinarySearchResult, IsSearchInRange}
use Rattle.std.specs.Ordering.{nat_cmp}
use Rattle.std.proofs.lemmas.List.Sorted.{answers_always}
use Rattle.gptp_graph.specs.Order.{IsRising}
use Rattle.gptp_timeline.specs.ExactReads.{counts_new, reads_next}
use Rattle.gptp_timeline.specs.declared.exact_reads.ExactReads.{ExactReads}
use Rattle.gptp_timeline.specs.declared.exact_reads.SystemReads.{SystemReads}
use Rattle.gptp_timeline.proofs.PutLemmas.{changed_at, none_changed, read_at_place, StandsAt, stands_at, StandsNowhere, stands_nowhere}
use Rattle.gptp_timeline.proofs.exact_reads.take_reads.Goals as goal

abbrev clock_of : SystemReads → ℕ
clock_of x = x.clock

pub returns-in-Ok : goal.returns-in-Ok
returns-in-Ok c =
    let items = c.args.systems.now.items in let u = c.args.new.now in let name = u.clock in let place = c.in-Ok.place in
    let j = c.args.jump.now in let at = c.args.at in let from = c.args.from in
    let xs = c.deref.result.now in let kept = c.deref.ensures.value in
    let facts = c.binary_search_by_key.ensures in
    let by_clock = facts.position clock_of (answers_always _ _ _ (λ f a r g called. search rules)) in
    let within : IsSearchInRange (Ok place) (length xs) =
    subst (λ (r : Result ℕ ℕ). IsSearchInRange r (length xs)) c.in-Ok.is facts.bound in
    let lent = stands_at clock_of name xs (subst (λ ys. IsRising (map clock_of ys)) (sym kept) c.requires) place
    within
    (subst (λ (r : Result ℕ ℕ). IsBinarySearchResult (λ (x : SystemReads). nat_cmp x.clock name) xs r) c.in-Ok.is
    by_clock) in
    let s = subst (λ ys. StandsAt clock_of name ys place) kept lent in
    let inside = subst (λ ys. IsSearchInRange (Ok place) (length ys)) kept within in
    let x = c.index_mut.result.now in let z = c.index.result.now in
    let is : x ≡ s.one = read_at_place items place x s.one inside c.index_mut.ensures.value s.there in
    let was : z ≡ s.one = read_at_place items place z s.one inside c.index.ensures s.there in
    let next : Option ExactReads → Option ExactReads =
    reads_next (counts_new from at u) at (option_map unsigned_abs j.before)
    (option_map unsigned_abs j.after) in
    ap (λ (r : Option ExactReads). slice_set items place (record { clock = x.clock; reads = r })) c.reads_after.ensures
    ∙ ap (λ (y : SystemReads). slice_set items place (record { clock = x.clock; reads = next y.reads })) was
    ∙ ap (λ (y : SystemReads). slice_set items place (record { clock = y.clock; reads = next s.one.reads })) is
    ∙ sym (changed_at clock_of name (λ (y : SystemReads). record y { reads = next y.reads }) items place s)

pub returns-in-Err : goal.returns-in-Err
returns-in-Err c =
    let items = c.args.systems.now.items in let u = c.args.new.now in let name = u.clock in
    let j = c.args.jump.now in let at = c.args.at in let from = c.args.from in
    let xs = c.deref.result.now in let kept = c.deref.ensures.value in
    let facts = c.binary_search_by_key.ensures in
    let by_clock = facts.position clock_of (answers_always _ _ _ (λ f a r g called. search rules)) in
    let lent = stands_nowhere clock_of name xs (subst (λ ys. IsRising (map clock_of ys)) (sym kept) c.requires)
    c.in-Err.field-0
    (subst (λ (r : Result ℕ ℕ). IsSearchInRange r (length xs)) c.in-Err.is facts.bound)
    (subst (λ (r : Result ℕ ℕ). IsBinarySearchResult (λ (x : SystemReads). nat_cmp x.clock name) xs r) c.in-Err.is
    by_clock) in
    let s = subst (StandsNowhere clock_of name) kept lent in
    sym (none_changed clock_of name (λ (y : SystemReads). record y {
      reads = reads_next (counts_new from at u) at (option_map unsigned_abs j.before)
          (option_map unsigned_abs j.after) y.reads;
    }) items s)
