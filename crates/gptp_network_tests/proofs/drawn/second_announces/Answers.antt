use Rattle.std.proofs.Common.{Some, ap, subst, ◌∙◌}
use Rattle.gptp_model.specs.Acts.{AtSystem}
use Rattle.gptp_model.specs.Views.{FollowsRoot, ShowsLive}
use Rattle.gptp_invariants.specs.WorldShown.{FollowsInTime}
use Rattle.gptp_network_tests.proofs.PairLemmas.{lives, second_announces}
use Rattle.gptp_network_tests.proofs.drawn.second_announces.Goals as goal

pub returns-in_err-_followed : goal.returns-in_err-_followed
returns-in_err-_followed g c =
    let none = c.in_err-_followed.ensures.none in
    absurd (none (lives 26000000000 c.args.world.now.world_core c.from.result c.from.ensures c.requires))

pub returns : goal.returns
returns g c =
    let w = c.args.world.now.world_core in let s = c.in_ok-system.system.now in
    let followed = c.in_ok-_followed._followed in let shown = c.in_ok-_followed.ensures in
    let found =
    subst (λ clock. AtSystem clock w (FollowsRoot followed.0 followed.1 followed.2)) c.from.ensures shown.some in
    let settled =
    subst (λ clock. FollowsInTime clock w followed.0 followed.1 followed.2) c.from.ensures shown.settled in
    let shows = subst (λ clock. ShowsLive clock w s) c.from-2.ensures c.in_ok-system.ensures.some in
    let announced =
    second_announces w s followed.0 followed.1 followed.2 c.requires c.well_formed-2.ensures.sound found settled shows
    c.in_ok-system.ensures.clean in
    ap Some (c.trace.ensures ∙ announced)
