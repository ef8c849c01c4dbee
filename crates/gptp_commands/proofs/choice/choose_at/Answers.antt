use Rattle.std.proofs.lemmas.Result.{IfOk-weaker}
use Rattle.gptp_commands.proofs.choice.choose_at.Goals as goal

pub returns-clause-chooses : goal.returns-clause-chooses
returns-clause-chooses c =
    IfOk-weaker c.choose.result _ _ (λ o chosen. (
      chosen.0,
      (
        c.in_ok-snapshot.snapshot,
        rw c.moment_of-at.ensures at c.in_ok-snapshot.ensures,
        c.well_formed-2.ensures.network,
        chosen.1,
      ),
      chosen.2,
    ))
    c.choose.ensures.chooses
