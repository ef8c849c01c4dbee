use Rattle.std.proofs.Common.{arith}
use Rattle.gptp_certificate_text.specs.Certificate.{parent_of}
use Rattle.gptp_network.specs.Snapshot.{port_identity}
use Rattle.gptp_choice.proofs.ParentLemmas.{leads_nearer, no_link, no_nearer, no_system}
use Rattle.gptp_choice.proofs.parent.nearer_end.Goals as goal

pub returns-in_err-there-clause-none : goal.returns-in_err-there-clause-none
returns-in_err-there-clause-none c =
    let own = c.args.own in
    rw c.from_residual.ensures (no_link c.args.snapshot.now c.well_formed-2.ensures.network own.clock own.port
    c.args.steps c.requires.steps c.in_err-there.ensures.none)

pub returns-in_err-beyond-clause-none : goal.returns-in_err-beyond-clause-none
returns-in_err-beyond-clause-none c =
    let own = c.args.own in
    rw c.from_residual-in_err-beyond.ensures (no_system c.args.snapshot.now c.well_formed-2.ensures.network own.clock
    own.port c.args.steps c.requires.steps (port_identity c.in_ok-there.there) c.in_ok-there.ensures.some
    c.in_err-beyond.ensures.none)

pub returns-then-from-clause-none : goal.returns-then-from-clause-none
returns-then-from-clause-none c =
    let own = c.args.own in
    no_nearer c.args.snapshot.now c.well_formed-2.ensures.network own.clock own.port c.args.steps c.requires.steps
    (port_identity c.in_ok-there.there) c.in_ok-beyond.beyond.steps c.in_ok-there.ensures.some
    c.in_ok-beyond.ensures.some.steps (λ e. c.if-from.true (omega arith))

pub returns-clause-some : goal.returns-clause-some
returns-clause-some c =
    let own = c.args.own in
    leads_nearer c.args.snapshot.now c.well_formed-2.ensures.network own.clock own.port c.args.steps c.requires.steps
    (parent_of (own.port, c.in_ok-there.there)) c.in_ok-beyond.beyond.steps c.in_ok-there.ensures.some
    c.in_ok-beyond.ensures.some.steps (omega arith)
