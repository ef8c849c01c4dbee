use Rattle.std.proofs.lemmas.Result.{IfOk-weaker}
use Rattle.gptp_setup.specs.Intervals.{interval_of}
use Rattle.gptp_scenario.specs.Network.{smallest_of}
use Rattle.gptp_model.proofs.PromptLemmas.{all_prompt, begun_none_faster}
use Rattle.gptp_world.proofs.InitialLemmas.{initial_sound}
use Rattle.gptp_report.proofs.run.begin.Goals as goal

pub returns-clause-prompt : goal.returns-clause-prompt
returns-clause-prompt g c = IfOk-weaker c.new.result _ _ (λ world made.
    let n = c.args.document.now.network in
    let begun = rw c.network-network.ensures at made in
    let sound = initial_sound n (rw c.network-network.ensures at c.well_formed-3.ensures) in
    all_prompt (interval_of (smallest_of n)) c.args.document.now.events world.world_core
    (begun_none_faster g.F.Fate.answers n c.args.fate world.fate world.world_core sound.wired.setups begun)
    c.well_formed-2.ensures.prompt) c.new.ensures
