use Rattle.std.proofs.Common.{◌≡◌, ◌≤◌, length, ap, subst, ◌∙◌, arith}
use Rattle.std.proofs.lemmas.List.{length-map, take_all}
use Rattle.gptp_graph.specs.Snapshot.{clocks, Snapshot, System}
use Rattle.gptp_timeline.specs.Each.{Each}
use Rattle.gptp_faults.specs.Parts.{ArePlaced, IsPlaced}
use Rattle.gptp_faults.proofs.PlacedLemmas.{placed_few}
use Rattle.gptp_faults.proofs.parts.placed_all.Goals as goal

pub returns-clause-few : goal.returns-clause-few
returns-clause-few c =
    let g = c.args.before.now in let h = c.args.after.now in
    let total : c.systems-place-end.result ≡ length h.systems =
    c.systems-place-end.ensures ∙ ap (λ (s : Snapshot). length s.systems) c.snapshot-2.ensures in
    let many = length-map h.systems (λ (s : System). s.clock) in
    let past = c.loop-place-test.false in
    let all : length (clocks h) ≤ c.loop-place.place = omega (arith, total, many, past) in
    let are : ArePlaced g h c.loop-place.all.items =
    subst (λ names. Each (IsPlaced g h) names c.loop-place.all.items) (take_all c.loop-place.place (clocks h) all)
    c.loop-place.invariant in
    placed_few g h c.loop-place.all.items are
    (subst (λ (s : Snapshot). length s.systems ≤ 512) c.snapshot.ensures c.well_formed-2.ensures.few)
