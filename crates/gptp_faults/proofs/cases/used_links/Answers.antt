use Rattle.std.proofs.Common.{◌≤◌, length, map, ap, ◌∙◌, arith}
use Rattle.std.proofs.lemmas.List.{take_all}
use Rattle.gptp_faults.specs.Cases.{link_case}
use Rattle.gptp_faults.proofs.cases.used_links.Goals as goal

pub returns : goal.returns
returns c =
    let links = c.args.snapshot.now.links in
    let total = c.links-place-end.ensures in let past = c.loop-place-test.false in
    let all : length links ≤ c.loop-place.place = omega (arith, total, past) in
    c.loop-place.invariant ∙ ap (map link_case) (take_all c.loop-place.place links all)
