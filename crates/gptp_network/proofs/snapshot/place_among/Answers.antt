-- The closure gives a system's clock.
use Rattle.std.proofs.Common.{rules}
use Rattle.std.proofs.lemmas.List.Sorted.{answers_always}
use Rattle.gptp_network.proofs.SearchLemmas.{clock_found, clock_of_live, clock_once}
use Rattle.gptp_network.proofs.snapshot.place_among.Goals as goal

pub returns-clause-some : goal.returns-clause-some
returns-clause-some c =
    let facts = c.binary_search_by_key.ensures in
    let by_clock = facts.position clock_of_live (answers_always _ _ _ (λ f a r g called. search rules)) in
    rw c.ok.ensures.value (clock_found c.args.systems.now c.args.clock c.requires _ facts.bound by_clock)

pub returns-clause-only : goal.returns-clause-only
returns-clause-only c =
    let facts = c.binary_search_by_key.ensures in
    let by_clock = facts.position clock_of_live (answers_always _ _ _ (λ f a r g called. search rules)) in
    rw c.ok.ensures.value (clock_once c.args.systems.now c.args.clock c.requires _ facts.bound by_clock)
