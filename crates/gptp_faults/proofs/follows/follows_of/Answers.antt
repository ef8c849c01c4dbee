use Rattle.std.proofs.Common.{subst, sym}
use Rattle.std.specs.List.Sorted.{IsNonDecreasing, IsPermutation}
use Rattle.std.proofs.lemmas.List.Sorted.{IsNonDecreasingBy-from_sort}
use Rattle.std.proofs.lemmas.Result.{IfOk-weaker}
use Rattle.gptp_faults.specs.Follows.{AreFollows}
use Rattle.gptp_faults.proofs.RootLemmas.{told_in_order}
use Rattle.gptp_faults.proofs.follows.follows_of.Goals as goal

pub follows_in_order-requires : goal.follows_in_order-requires
follows_in_order-requires c =
    subst IsNonDecreasing (sym c.deref.ensures.value)
    (IsNonDecreasingBy-from_sort (λ x. x) c.sort_unstable.new.self.items c.sort_unstable.ensures.sorted)

-- in whatever order the roots stand
pub returns : goal.returns
returns c =
    let rising = c.sort_unstable.new.self.items in
    let moved = subst (λ roots. IsPermutation roots rising) c.in_ok-rising.ensures.items
    c.sort_unstable.ensures.permutation in
    IfOk-weaker c.follows_in_order.result _ _
    (λ v told. told_in_order c.args.roots.now rising v.items moved
    (subst (λ roots. AreFollows roots v.items) c.deref.ensures.value told)) c.follows_in_order.ensures
