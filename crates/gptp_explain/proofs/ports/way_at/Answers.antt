use Rattle.gptp_graph.proofs.LinkLemmas.{Adjacent-clock}
use Rattle.gptp_explain.proofs.SettledLemmas.{steps_there}
use Rattle.gptp_explain.proofs.ports.way_at.Goals as goal

-- the system at the other end has a line
pub returns-in_err-steps_of-clause-none : goal.returns-in_err-steps_of-clause-none
returns-in_err-steps_of-clause-none c =
    let g = c.args.snapshot.now in let there = c.in_ok-there.there in
    let wf = c.well_formed-2.ensures.network in
    let live = Adjacent-clock g c.args.port.clock there.clock wf
    (c.args.port.port, there.port, c.in_ok-there.ensures.some) in
    let (steps, stated) = steps_there g c.args.choice.now.lines wf c.requires there.clock live in
    let is = c.in_err-steps_of.ensures.only steps stated in
    absurd cc
