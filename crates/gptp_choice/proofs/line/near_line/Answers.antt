use Rattle.std.proofs.Common.{refl}
use Rattle.gptp_choice.proofs.LineLemmas.{near_settled}
use Rattle.gptp_choice.proofs.line.near_line.Goals as goal

pub returns : goal.returns
returns c =
    near_settled c.args.snapshot.now c.args.clock c.args.count c.args.own.now _ c.requires.own c.requires.near refl refl
    refl refl c.parent_of-parent.ensures c.in_ok-ports.ensures
