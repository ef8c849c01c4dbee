use Rattle.std.proofs.Common.{subst, sym}
use Rattle.gptp_components.specs.Search.{IsFound}
use Rattle.gptp_components.proofs.FoundLemmas.{put_before}
use Rattle.gptp_components.proofs.search.put.Goals as goal

pub put_new-requires-clause-unfound : goal.put_new-requires-clause-unfound
put_new-requires-clause-unfound c = λ d is.
    c.in-None.ensures.none d
    (subst (λ t. IsFound c.args.snapshot.now t c.args.clock d) (sym c.deref.ensures.value) is)

pub returns-in-Some : goal.returns-in-Some
returns-in-Some c =
    put_before c.args.snapshot.now c.args.distance.now c.args.clock c.args.found.now.items c.args.waiting.now.items
    c.in-Some.field-0
    (subst (λ t. IsFound c.args.snapshot.now t c.args.clock c.in-Some.field-0) c.deref.ensures.value
    c.in-Some.ensures.some)
