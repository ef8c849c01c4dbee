use Rattle.std.proofs.Common.{◌≡◌, ◌+◌, arith, option_map, subst, suc}
use Rattle.gptp_certificate_text.specs.Certificate.{parent_of}
use Rattle.gptp_choice.specs.Lines.{IsFirstWay}
use Rattle.gptp_choice.proofs.ParentLemmas.{no_way, parent_found}
use Rattle.gptp_choice.proofs.parent.parent_of.Goals as goal

pub loop-index-init : goal.loop-index-init
loop-index-init c = no_way c.args.snapshot.now c.well_formed-2.ensures.network c.args.clock

pub loop-index-preserved : goal.loop-index-preserved
loop-index-preserved c =
    let index = c.loop-index.index in let port_is = c.from-port.ensures in
    let more : suc index ≡ index + 1 = omega arith in
    subst (λ n. IsFirstWay c.args.snapshot.now c.args.clock n (option_map parent_of c.first_up_to-best.result)) more
    (c.first_up_to-best.ensures index (omega (arith, port_is)) c.loop-index.invariant)

pub returns : goal.returns
returns c =
    let end = c.loop-index.auto.index-end in let past = c.loop-index-test.false in
    parent_found c.args.snapshot.now c.well_formed-2.ensures.network c.args.clock c.loop-index.index
    (option_map parent_of c.loop-index.best)
    (λ s live is. let ports = c.requires.ports s live is in omega (arith, end, past, ports)) c.loop-index.invariant
