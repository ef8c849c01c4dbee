-- The bests are those of the labels.
use Rattle.std.proofs.Common.{refl, subst, ◌∙◌}
use Rattle.std.specs.List.Sorted.{IsPermutation}
use Rattle.gptp_lint.specs.Labels.{bests_in}
use Rattle.gptp_lint.proofs.components.moment_of.Goals as goal

pub returns : goal.returns
returns c = record {
  at_is = refl;
  bests = record {
    all = subst (λ ls. IsPermutation (bests_in ls) c.in_ok-bests.bests.items)
        (c.deref.ensures.value ∙ c.in_ok-labels.ensures.are) c.in_ok-bests.ensures.all;
    sorted = c.in_ok-bests.ensures.sorted;
    octets = c.in_ok-labels.ensures.octets;
  };
}
