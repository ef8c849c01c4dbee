-- An event that names another system doesn't count.
use Rattle.std.proofs.Common.{◌≡◌, ◌<◌, ◌+◌, ◌++◌, ◌∷◌, false, cond, drop, length, slice_get, ap, sym, ◌∙◌, arith}
use Rattle.std.proofs.lemmas.List.{drop_more, length-map}
use Rattle.std.proofs.lemmas.Option.{get_or_from_slice_get}
use Rattle.gptp_lists.proofs.MappedLemmas.{mapped_there}
use Rattle.gptp_lists.proofs.PlaceLemmas.{member_there}
use Rattle.gptp_scenario.specs.declared.change.Timed.{Timed}
use Rattle.gptp_topology.specs.Course.{course_from, is_cable_end, named, naming}
use Rattle.gptp_topology.proofs.course.pass_at.Goals as goal

pub returns-then-not-is_end : goal.returns-then-not-is_end
returns-then-not-is_end c =
    let events = c.args.events.now in
    let place = c.args.place in
    let many = ap length c.requires.names ∙ length-map events (λ (t : Timed). named t.act) in
    let below = c.requires.place in
    let within : place < length events = omega (arith, many, below) in
    let (t, there) = member_there events place within in
    let left : drop place events ≡ t ∷ drop (place + 1) events =
    drop_more events place t within
    ∙ ap (λ u. u ∷ drop (place + 1) events) (get_or_from_slice_get events place t t there) in
    let name =
    c.index-names-place.is
    ∙ get_or_from_slice_get c.args.names.now place (named t.act) c.index-names-place.result
    (ap (λ ns. slice_get ns place) c.requires.names ∙ mapped_there (λ (u : Timed). named u.act) events place t there) in
    let other : is_cable_end c.args.cable.now (named t.act) ≡ false =
    ap (is_cable_end c.args.cable.now) (sym name) ∙ sym c.is_end.ensures ∙ c.if-not-is_end.true in
    ap (λ test. c.args.course.now.items ++ course_from c.args.standing.now
    (cond test (t ∷ naming c.args.cable.now (drop (place + 1) events))
    (naming c.args.cable.now (drop (place + 1) events))))
    (sym other)
    ∙ ap (λ ts. c.args.course.now.items ++ course_from c.args.standing.now (naming c.args.cable.now ts)) (sym left)
