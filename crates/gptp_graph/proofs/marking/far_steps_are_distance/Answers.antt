use Rattle.std.proofs.Common.{◌≡◌, ◌+◌, ◌-◌, subst, arith}
use Rattle.gptp_graph.specs.Distance.{IsDistance}
use Rattle.gptp_graph.specs.Marking.{AreFarSteps}
use Rattle.gptp_graph.proofs.MarkingLemmas.{far_steps, are_far_steps}
use Rattle.gptp_graph.proofs.marking.far_steps_are_distance.Goals as goal

pub returns : goal.returns
returns c = λ g all one d n wf h stated here above.
    let e : d ≡ d - 254 + 254 = omega arith in
    let at : IsDistance g one.clock (d - 254 + 254) = subst (IsDistance g one.clock) e here in (
      λ steps. (let is = far_steps g wf all h one (d - 254) n stated at steps in omega arith),
      λ is. (let same : d - 254 + 254 ≡ n = omega arith in
          subst (AreFarSteps g all one) same (are_far_steps g wf all h one (d - 254) stated at)),
    )
