use Rattle.std.proofs.Common.{◌≡◌, ◌+◌, ℕ, suc, arith, subst}
use Rattle.std.proofs.lemmas.Result.{on_ok_weaker}
use Rattle.gptp_graph.specs.Snapshot.{IsLinked, Joins, port_of}
use Rattle.gptp_graph.proofs.LinkLemmas.{Joins-clock, Joins-sym}
use Rattle.gptp_network.specs.Snapshot.{port_identity}
use Rattle.gptp_components.specs.Search.{IsSpread}
use Rattle.gptp_components.proofs.SpreadLemmas.{spread_over, spread_unlinked}
use Rattle.gptp_components.proofs.search.put_over.Goals as goal

next : (n k : ℕ) → n ≡ k + 1 → n ≡ suc k
next n k e = omega arith

more : (k : ℕ) → suc k ≡ k + 1
more k = omega arith

pub put-requires-clause-live : goal.put-requires-clause-live
put-requires-clause-live c =
    let g = c.args.snapshot.now in let p = port_identity c.args.port in let q = port_identity c.in-Some.there in
    Joins-clock g q p c.well_formed-2.ensures.network (Joins-sym g p q c.in-Some.ensures.some)

pub returns-in-Some-clause-as_many : goal.returns-in-Some-clause-as_many
returns-in-Some-clause-as_many c = on_ok_weaker c.put.result (λ put. put.as_many) c.put.ensures

pub returns-in-Some-clause-spread : goal.returns-in-Some-clause-spread
returns-in-Some-clause-spread c =
    let g = c.args.snapshot.now in let q = port_identity c.in-Some.there in let v = c.args.port.clock in
    on_ok_weaker c.put.result
    (λ put us k before port spread.
    subst (λ n. IsSpread g c.args.distance.now us v n before c.put.new.found.items c.put.new.waiting.items) (more k)
    (spread_over g c.args.distance.now c.well_formed-2.ensures.network us v k q before c.args.found.now.items
    c.put.new.found.items c.args.waiting.now.items c.put.new.waiting.items c.requires.edge
    (subst (λ n. Joins g (port_of v n) q) (next c.args.port.port k port) c.in-Some.ensures.some) put spread))
    c.put.ensures

pub returns-in-None-clause-spread : goal.returns-in-None-clause-spread
returns-in-None-clause-spread c = λ us k before port spread.
    let g = c.args.snapshot.now in let v = c.args.port.clock in
    subst (λ n. IsSpread g c.args.distance.now us v n before c.args.found.now.items c.args.waiting.now.items) (more k)
    (spread_unlinked g c.args.distance.now us v k before c.args.found.now.items c.args.waiting.now.items
    (subst (λ n. IsLinked g (port_of v n) → ⊥) (next c.args.port.port k port) c.in-None.ensures.none) spread)
