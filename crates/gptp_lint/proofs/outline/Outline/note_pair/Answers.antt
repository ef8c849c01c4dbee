-- The keys alone change.
use Rattle.std.proofs.Common.{List, ap}
use Rattle.std.proofs.lemmas.Result.{on_ok_weaker}
use Rattle.gptp_lint.specs.Outline.{OutlineState, PlacedKey, outline_state}
use Rattle.gptp_lint.proofs.outline.Outline.note_pair.Goals as goal

pub returns : goal.returns
returns c =
    let old = outline_state c.args.self.now in
    let put : List PlacedKey → OutlineState = λ entries. record old { entries = entries } in
    on_ok_weaker c.push_pair.result (λ more has pair. ap put (more has pair)) c.push_pair.ensures
