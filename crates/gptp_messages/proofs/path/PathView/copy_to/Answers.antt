use Rattle.std.proofs.Common.{◌≤◌, length, ◌∙◌, sym, refl, arith}
use Rattle.gptp_vector.specs.Trace.{clocks}
use Rattle.gptp_messages.proofs.PathLemmas.{length-clocks, ends_before}
use Rattle.gptp_messages.proofs.path.PathView.copy_to.Goals as goal

pub read_clocks-requires : goal.read_clocks-requires
read_clocks-requires c =
    let octets = c.self.inside.octets.now in
    let room : length (clocks octets)
    ≤ 256 = ends_before (clocks octets) 256 (sym c.clock_of.ensures ∙ c.in_default.is) in
    omega (arith, length-clocks octets)

pub returns-clause-room : goal.returns-clause-room
returns-clause-room c =
    let octets = c.self.inside.octets.now in
    let room : length (clocks octets)
    ≤ 256 = ends_before (clocks octets) 256 (sym c.clock_of.ensures ∙ c.in_default.is) in
    (λ _. rw (← c.self.view_is) room, λ _. refl)
