use Rattle.std.proofs.Common.{◌≡◌, refl, Some, None}
use Rattle.gptp_certificate_text.specs.Certificate.{line_of, parent_of}
use Rattle.gptp_explain.proofs.SettledLemmas.{line_of_distance, parent_stated}
use Rattle.gptp_explain.proofs.path.parent_of.Goals as goal

-- a system with a distance has a line
pub returns-in_err-line_of-clause-none : goal.returns-in_err-line_of-clause-none
returns-in_err-line_of-clause-none c =
    let there = line_of_distance c.args.snapshot.now c.args.choice.now.lines c.well_formed-2.ensures.network
    c.requires.settled c.args.clock c.args.steps c.requires.distance in
    absurd (c.in_err-line_of.ensures.none there.0 there.1)

pub returns-in_err-there-clause-none : goal.returns-in_err-there-clause-none
returns-in_err-there-clause-none c =
    let line = c.in_ok-line_of.field-0.now in
    let none : line.parent ≡ None = c.in_err-there.was in
    let parent =
    parent_stated c.args.snapshot.now c.args.choice.now.lines c.well_formed-2.ensures.network c.requires.settled
    c.args.clock c.args.steps (line_of line) c.in_ok-line_of.ensures.some c.requires.distance c.requires.near in
    rw c.from_residual-in_err-there.ensures (rw none at parent)

pub returns-clause-some : goal.returns-clause-some
returns-clause-some c =
    let line = c.in_ok-line_of.field-0.now in
    let some : line.parent ≡ Some (c.in_ok-there.field-0-0, c.in_ok-there.there) = c.in_ok-there.was in
    let parent =
    parent_stated c.args.snapshot.now c.args.choice.now.lines c.well_formed-2.ensures.network c.requires.settled
    c.args.clock c.args.steps (line_of line) c.in_ok-line_of.ensures.some c.requires.distance c.requires.near in
    (parent_of (c.in_ok-there.field-0-0, c.in_ok-there.there), rw some at parent, refl)
