-- They are those of the labels and their bests.
use Rattle.std.proofs.Common.{subst, ap₂, ◌∙◌}
use Rattle.std.specs.List.{flat_map}
use Rattle.std.specs.List.Sorted.{IsPermutation}
use Rattle.std.proofs.lemmas.Result.{IfOk-weaker}
use Rattle.gptp_lint.specs.Labels.{bests_in}
use Rattle.gptp_lint.specs.Moments.{chance_at}
use Rattle.gptp_lint.proofs.components.chances_of.Goals as goal

pub returns : goal.returns
returns c =
    IfOk-weaker c.chances_in.result _ _
    (λ chance is. record {
      bests = c.in_ok-bests.bests.items;
      are = record {
        all = subst (λ ls. IsPermutation (bests_in ls) c.in_ok-bests.bests.items)
            (c.deref.ensures.value ∙ c.in_ok-labels.ensures.are) c.in_ok-bests.ensures.all;
        sorted = c.in_ok-bests.ensures.sorted;
        octets = c.in_ok-labels.ensures.octets;
      };
      pairs_are = is
          ∙ ap₂ (λ ls bests. flat_map (chance_at ls) bests)
          (c.deref-2.ensures.value ∙ c.in_ok-labels.ensures.are) c.deref-3.ensures.value;
    })
    c.chances_in.ensures
