use Rattle.std.proofs.Common.{replicate, ap, refl, ◌∙◌}
use Rattle.gptp_chain.proofs.QueuesLemmas.{all_empty, none_chained}
use Rattle.gptp_chain.proofs.queues.Queues.new.Goals as goal

pub invariant_of-result : goal.invariant_of-result
invariant_of-result g c =
    let items = c.in_ok-chains.ensures.items_if_clones_equal (λ y is. cc) ∙ ap (replicate c.args.count) c.new.ensures in
    rw items (none_chained c.new-2.result c.args.count (rw c.new-2.ensures.empty refl))

pub returns-clause-none : goal.returns-clause-none
returns-clause-none g c =
    all_empty c.new-2.result c.in_ok-chains.chains.items (invariant_of-result g c) (rw c.new-2.ensures.empty refl)
