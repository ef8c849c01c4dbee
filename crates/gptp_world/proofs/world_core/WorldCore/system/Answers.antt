use Rattle.std.proofs.lemmas.Option.{IfSome_then}
use Rattle.gptp_invariants.proofs.WorldShownLemmas.{capable_shown}
use Rattle.gptp_invariants.proofs.ChoiceTraceLemmas.{held_becomes_clean, held_becomes_whole, held_becomes_whole_sooner, traces_become_clean}
use Rattle.gptp_world.proofs.world_core.WorldCore.system.Goals as goal

pub returns-clause-capable : goal.returns-clause-capable
returns-clause-capable c =
    IfSome_then c.live_system.result c.live_system.ensures.some
    (λ system shows. capable_shown c.args.clock c.args.self.now system.now c.well_formed-2.ensures.claimed shows)

pub returns-clause-clean : goal.returns-clause-clean
returns-clause-clean c =
    IfSome_then c.live_system.result c.live_system.ensures.some
    (λ system shows. traces_become_clean c.args.clock c.args.self.now system.now c.well_formed-2.ensures.claimed shows)

pub returns-clause-held : goal.returns-clause-held
returns-clause-held c =
    IfSome_then c.live_system.result c.live_system.ensures.some
    (λ system shows. held_becomes_clean c.args.clock c.args.self.now system.now c.well_formed-2.ensures.claimed shows)

pub returns-clause-whole : goal.returns-clause-whole
returns-clause-whole c =
    IfSome_then c.live_system.result c.live_system.ensures.some
    (λ system shows. held_becomes_whole c.args.clock c.args.self.now system.now c.well_formed-2.ensures.claimed shows)

pub returns-clause-sooner : goal.returns-clause-sooner
returns-clause-sooner c =
    IfSome_then c.live_system.result c.live_system.ensures.some
    (λ system shows. held_becomes_whole_sooner c.args.clock c.args.self.now system.now
    c.well_formed-2.ensures.claimed shows)
