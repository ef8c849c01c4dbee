-- The closure gives what an outcome is compared by.
use Rattle.std.proofs.Common.{ℕ, List, rules}
use Rattle.std.specs.declared.cmp.Reverse.{Reverse}
use Rattle.std.proofs.lemmas.List.Sorted.{answers_always}
use Rattle.std.proofs.lemmas.Result.{on_ok_weaker}
use Rattle.gptp_faults.specs.Outcomes.{OutcomeState}
use Rattle.gptp_faults.specs.Ranking.{weight, worst_of}
use Rattle.gptp_faults.proofs.ranking.rank.Goals as goal

pub returns : goal.returns
returns c =
    let facts = c.sort_by_key.ensures in
    let key : OutcomeState → Reverse (List ℕ) = λ o. record { 0 = weight (worst_of o) } in
    let computes = answers_always _ _ _ (λ f a r g called. search rules) in
    on_ok_weaker c.sort_by_key.result
    (λ sorted. record {
      same = facts.permutation;
      worst_first = sorted key computes;
      equals = facts.stable key computes;
    })
    facts.sorted
