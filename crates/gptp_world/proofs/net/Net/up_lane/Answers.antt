use Rattle.std.proofs.Common.{sym, ◌∙◌}
use Rattle.std.proofs.lemmas.Option.{none-some, same_Some, slice_get-get_or, slice_get_within}
use Rattle.gptp_model.specs.World.{port_id}
use Rattle.gptp_world.proofs.NetLemmas.{known_channel, unlinked_none, unlinked_down}
use Rattle.gptp_world.proofs.net.Net.up_lane.Goals as goal

pub returns-in_err-lane-clause-none : goal.returns-in_err-lane-clause-none
returns-in_err-lane-clause-none c = λ clock here.
    let unlinked = unlinked_none c.args.self.now (port_id clock c.args.port) c.requires.net
    (λ lane begins. absurd (none-some lane (c.in_err-lane.ensures.only clock lane here begins))) in
    rw c.from_residual.ensures unlinked

pub is_up-requires : goal.is_up-requires
is_up-requires c =
    let here = slice_get-get_or c.args.self.now.directory.clocks c.args.place 0 c.requires.place in
    let begins = c.in_ok-lane.ensures.some _ here in
    let known = known_channel c.args.self.now _ c.in_ok-lane.lane c.requires.net begins in
    slice_get_within c.args.self.now.traffic.net.channels c.in_ok-lane.lane.link known.0 known.1

pub returns-in-true-clause-some : goal.returns-in-true-clause-some
returns-in-true-clause-some c = λ clock here.
    let begins = c.in_ok-lane.ensures.some clock here in
    let known = known_channel c.args.self.now _ c.in_ok-lane.lane c.requires.net begins in
    record {
      begins = begins;
      channel = known.0;
      here = known.1;
      up = sym (c.is_up.ensures known.0 known.1) ∙ c.in-true.is;
    }

pub returns-in-false-clause-none : goal.returns-in-false-clause-none
returns-in-false-clause-none c = λ clock here.
    let begins = c.in_ok-lane.ensures.some clock here in
    let known = known_channel c.args.self.now _ c.in_ok-lane.lane c.requires.net begins in
    unlinked_down c.args.self.now (port_id clock c.args.port) c.in_ok-lane.lane known.0 c.requires.net
    (λ other starts. same_Some c.in_ok-lane.lane other (c.in_ok-lane.ensures.only clock other here starts))
    known.1 (sym (c.is_up.ensures known.0 known.1) ∙ c.in-false.is)
