use Rattle.std.proofs.Common.{sym}
use Rattle.std.proofs.lemmas.List.Sorted.{IsNonDecreasingBy-from_sort}
use Rattle.gptp_world.proofs.directory.sorted.Goals as goal

pub returns : goal.returns
returns c = record {
  all = rw (sym c.in_ok-rising.ensures.items) c.sort_unstable.ensures.permutation;
  order = IsNonDecreasingBy-from_sort (λ x. x) _ c.sort_unstable.ensures.sorted;
}
