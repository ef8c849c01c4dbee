-- The closure gives the port of an end.
use Rattle.std.proofs.Common.{rules}
use Rattle.std.proofs.lemmas.List.Sorted.{answers_always}
use Rattle.gptp_network.specs.declared.snapshot.LinkEnd.{LinkEnd}
use Rattle.gptp_network.proofs.SearchLemmas.{end_found, end_missing}
use Rattle.gptp_network.proofs.snapshot.end_among.Goals as goal

pub returns-in-Ok-clause-some : goal.returns-in-Ok-clause-some
returns-in-Ok-clause-some c =
    let facts = c.in-Ok.ensures in
    let by_port = facts.position (λ (e : LinkEnd). e.here) (answers_always _ _ _ (λ f a r g called. search rules)) in
    end_found c.args.ends.now c.args.port c.in-Ok.place c.index-ends-place.result facts.bound by_port

pub returns-in-Err-clause-none : goal.returns-in-Err-clause-none
returns-in-Err-clause-none c =
    let facts = c.in-Err.ensures in
    let by_port = facts.position (λ (e : LinkEnd). e.here) (answers_always _ _ _ (λ f a r g called. search rules)) in
    end_missing c.args.ends.now c.args.port c.requires c.in-Err.field-0 by_port
