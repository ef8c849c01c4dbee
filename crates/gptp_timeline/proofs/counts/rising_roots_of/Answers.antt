-- They are the roots, sorted.
use Rattle.std.proofs.Common.{subst}
use Rattle.std.specs.List.Sorted.{IsPermutation}
use Rattle.std.proofs.lemmas.List.Sorted.{IsNonDecreasingBy-from_sort}
use Rattle.gptp_timeline.proofs.counts.rising_roots_of.Goals as goal

pub returns-clause-roots : goal.returns-clause-roots
returns-clause-roots c =
    subst (λ roots. IsPermutation roots c.sort_unstable.new.self.items) c.in_ok-roots.ensures
    c.sort_unstable.ensures.permutation

pub returns-clause-rise : goal.returns-clause-rise
returns-clause-rise c =
    IsNonDecreasingBy-from_sort (λ x. x) c.sort_unstable.new.self.items c.sort_unstable.ensures.sorted
