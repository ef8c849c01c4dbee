use Rattle.std.proofs.Common.{◌≡◌, map, IfOk, subst, sym}
use Rattle.std.specs.List.{All}
use Rattle.gptp_invariants.specs.WorldStanding.{snapshot_of}
use Rattle.gptp_invariants.proofs.WorldStandsLemmas.{stands_well}
use Rattle.gptp_certificate.specs.Marking.{AreAmong, clocks_in, port_clocks}
use Rattle.gptp_certificate.proofs.MarkingLemmas.{ends_among, ends_are, rises}
use Rattle.gptp_certificate.proofs.marking.list_pairs.Goals as goal

pub pairs_of-requires-clause-rising : goal.pairs_of-requires-clause-rising
pairs_of-requires-clause-rising g c = rises c.args.clocks.now c.requires.rising

pub pairs_of-requires-clause-among : goal.pairs_of-requires-clause-among
pairs_of-requires-clause-among g c =
    let w = c.args.world.now.world_core in let world = c.well_formed-2.ensures.claimed.is.world in
    subst (All (AreAmong c.args.clocks.now)) (sym c.deref.ensures.value)
    (ends_among (snapshot_of w) (stands_well w world.sound world.between world.encodable) c.in_ok-links.links.items
    c.in_ok-links.ensures c.args.clocks.now c.requires.all)

pub returns : goal.returns
returns g c =
    let w = c.args.world.now.world_core in let world = c.well_formed-2.ensures.claimed.is.world in
    let wf = stands_well w world.sound world.between world.encodable in
    subst (λ ends. IfOk c.pairs_of.result (λ pairs. map (clocks_in c.args.clocks.now) pairs.items ≡ ends))
    (ends_are (snapshot_of w) wf c.in_ok-links.links.items c.in_ok-links.ensures)
    (subst (λ links. IfOk c.pairs_of.result
    (λ pairs. map (clocks_in c.args.clocks.now) pairs.items ≡ map port_clocks links)) c.deref.ensures.value
    c.pairs_of.ensures)
