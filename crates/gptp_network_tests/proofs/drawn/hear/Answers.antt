use Rattle.std.proofs.Common.{◌≡◌, ◌∙◌}
use Rattle.gptp_model.specs.World.{port_id}
use Rattle.gptp_messages.specs.declared.announce.AnnounceView.{AnnounceView}
use Rattle.gptp_network_tests.specs.Pair.{HearsAnnounce, params}
use Rattle.gptp_network_tests.proofs.ExactLemmas.{goes_on}
use Rattle.gptp_network_tests.proofs.HeardLemmas.{for_some, second_hears}
use Rattle.gptp_network_tests.proofs.drawn.hear.Goals as goal

pub returns-in-Ok-clause-since : goal.returns-in-Ok-clause-since
returns-in-Ok-clause-since g c =
    let w = c.args.world.now.world_core in
    goes_on params g.F.Fate.answers 15000000000 c.in-Some.timed c.args.world.now.fate c.act.new.self.fate w
    c.act.new.self.world_core c.in-Ok.done c.requires c.well_formed-2.ensures.sound c.in-Some.ensures.next
    c.in-Ok.ensures.done

pub returns-in-Ok-clause-clean : goal.returns-in-Ok-clause-clean
returns-in-Ok-clause-clean g c =
    let w = c.args.world.now.world_core in
    let done = c.in-Ok.ensures.done in
    let formed = c.well_formed-2.ensures in
    for_some (λ source. (m : AnnounceView) × HearsAnnounce 2 m c.in-Ok.done × (source ≡ m.head.source))
    (λ source. source ≡ port_id 1 1) c.second_hears.result
    (λ source (m, heard, same). same
    ∙ second_hears w c.in-Some.timed.at c.in-Ok.done m c.requires formed.sound formed.claimed done.ready.timely.now
    c.in-Ok.ensures.clean heard)
    c.second_hears.ensures
