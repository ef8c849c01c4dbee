-- The closure gives the port of an end.
use Rattle.std.proofs.Common.{rules}
use Rattle.std.proofs.lemmas.List.Sorted.{answers_always}
use Rattle.gptp_network.specs.declared.snapshot.LinkEnd.{LinkEnd}
use Rattle.gptp_network.proofs.TakingLemmas.{sorted_ends}
use Rattle.gptp_network.proofs.taking.ends_by_port.Goals as goal

pub returns : goal.returns
returns c =
    let facts = c.sort_unstable_by_key.ensures in
    let sorted = facts.sorted (λ (e : LinkEnd). e.here) (answers_always _ _ _ (λ f a r g called. search rules)) in
    sorted_ends c.args.links.now c.in_ok-ends.ends.items c.sort_unstable_by_key.new.self.items c.in_ok-ends.ensures
    facts.permutation sorted
