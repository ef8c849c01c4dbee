-- The closure gives a system's clock.
use Rattle.std.proofs.Common.{rules}
use Rattle.std.proofs.lemmas.List.Sorted.{answers_always}
use Rattle.gptp_network.proofs.SearchLemmas.{clock_of_live}
use Rattle.gptp_network.proofs.TakingLemmas.{sorted_systems}
use Rattle.gptp_network.proofs.taking.systems_by_clock.Goals as goal

pub returns : goal.returns
returns c =
    let facts = c.sort_unstable_by_key.ensures in
    let sorted = facts.sorted clock_of_live (answers_always _ _ _ (λ f a r g called. search rules)) in
    sorted_systems c.args.network.now c.args.events.now c.in_ok-systems.systems.items
    c.sort_unstable_by_key.new.self.items c.well_formed-2.ensures c.in_ok-systems.ensures facts.permutation sorted
