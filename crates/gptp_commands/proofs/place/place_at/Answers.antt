use Rattle.std.proofs.lemmas.Result.{IfOk-weaker}
use Rattle.gptp_commands.proofs.place.place_at.Goals as goal

pub returns-clause-locates : goal.returns-clause-locates
returns-clause-locates c =
    IfOk-weaker c.place_in.result _ _ (λ text located. (
      located.0,
      (c.in_ok-snapshot.snapshot, rw c.moment_of-at.ensures at c.in_ok-snapshot.ensures, located.1),
      located.2,
    ))
    c.place_in.ensures.locates
