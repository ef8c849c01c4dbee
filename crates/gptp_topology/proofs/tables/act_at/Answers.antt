-- The link at the place is met, if there is one, and what is kept of it agrees.
use Rattle.std.proofs.Common.{◌<◌, get_or, length, slice_set, ap, ap₂, sym, ◌∙◌, arith}
use Rattle.std.proofs.lemmas.List.{length-map}
use Rattle.std.proofs.lemmas.Option.{slice_get-get_or}
use Rattle.gptp_lists.proofs.PlaceLemmas.{map-set}
use Rattle.gptp_topology.specs.Course.{acted}
use Rattle.gptp_topology.specs.Tables.{mark_of}
use Rattle.gptp_topology.proofs.StandingLemmas.{beyond, set_is}
use Rattle.gptp_topology.proofs.tables.act_at.Goals as goal
use Rattle.gptp_topology.proofs.tables.act_at.Goals.{else-link-len-via-then-link-len+else-link-len-2, else-link-len-via-else-link-len}

pub returns-then-link-len-2-clause-standings : goal.returns-then-link-len-2-clause-standings
returns-then-link-len-2-clause-standings c =
    let ss = c.args.standings.now.items in
    let d = c.index.result.now in
    let len = c.len.ensures in
    let below = c.if-link-len.true in
    let within : c.args.link < length ss = omega (arith, len, below) in
    set_is c.args.done.now ss c.args.link (get_or ss c.args.link d) c.act.new.standing
    (slice_get-get_or ss c.args.link d within)
    (c.act.ensures ∙ ap (acted c.args.done.now) c.index.ensures)

pub returns-then-link-len-2-clause-marks : goal.returns-then-link-len-2-clause-marks
returns-then-link-len-2-clause-marks c =
    ap₂ (λ ms m. slice_set ms c.args.link m) c.requires c.mark_of.ensures
    ∙ sym (map-set (mark_of c.args.params.now) c.args.standings.now.items c.args.link c.act.new.standing)

pub returns-else-link-len-clause-standings : goal.returns-else-link-len-clause-standings
returns-else-link-len-clause-standings c =
    let ss = c.args.standings.now.items in
    let len = c.len.ensures in
    let alike = ap length c.requires ∙ length-map ss (mark_of c.args.params.now) in
    elim c.else-link-len.branch [
      | else-link-len-via-then-link-len+else-link-len-2 w ↦
          (let marks = w.len-then-link-len.ensures in let past = w.if-link-len-2.false in
          sym (beyond c.args.done.now ss c.args.link (omega (arith, alike, marks, past))))
      | else-link-len-via-else-link-len w ↦
          (let past = w.if-link-len.false in sym (beyond c.args.done.now ss c.args.link (omega (arith, len, past))))
    ]
