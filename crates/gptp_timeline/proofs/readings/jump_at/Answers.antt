use Rattle.std.proofs.Common.{◌≡◌, ◌-ℤ◌, ap, option_map, of_z, to_z, ◌∙◌}
use Rattle.std.proofs.lemmas.Int.{to_z-of_z}
use Rattle.gptp_timeline.proofs.JumpLemmas.{jump_is}
use Rattle.gptp_timeline.proofs.readings.jump_at.Goals as goal
use mir.Syntax.{w128}

pub returns-in-Some-clause-is : goal.returns-in-Some-clause-is
returns-in-Some-clause-is g c =
    let read : to_z w128 (of_z w128 c.read_by-read.result) ≡ c.read_by-read.result =
    to_z-of_z w128 c.read_by-read.result (record { sfits = c.read_by-read.type_inv }) in
    let old : to_z w128 (of_z w128 c.read_by-old.result) ≡ c.read_by-old.result =
    to_z-of_z w128 c.read_by-old.result (record { sfits = c.read_by-old.type_inv }) in
    let step : to_z w128 (of_z w128 c.more_by.result) ≡ c.more_by.result =
    to_z-of_z w128 c.more_by.result (record { sfits = c.more_by.type_inv }) in
    jump_is c.args.at c.args.world.now.world_core c.args.new.now c.in-Some.kept c.args.shown c.in-Some.is
    c.requires.shows c.read_by-read.result c.read_by-old.result (to_z w128 (of_z w128 c.more_by.result)) c.source_time-time.result
    c.off-after.result c.time_beside.result c.off.result c.read_by-read.ensures.is c.read_by-old.ensures.is
    c.source_time-time.ensures.is
    (c.off-after.ensures.is ∙ ap (λ r. option_map (λ time. r -ℤ time) c.source_time-time.result) read)
    c.time_beside.ensures.is
    (c.off.ensures.is ∙ ap (λ r. option_map (λ time. r -ℤ time) c.time_beside.result) old)
    (step ∙ c.more_by.ensures ∙ (λ i. read i -ℤ old i))
