use Rattle.std.proofs.Common.{◌∙◌, ap, sym, ◌++◌, ◌∷◌, []}
use Rattle.gptp_world.specs.Directory.{joins_of}
use Rattle.gptp_lists.proofs.MappedLemmas.{taken}
use Rattle.gptp_world.proofs.directory.list_joins.Goals as goal

pub loop-place-preserved : goal.loop-place-preserved
loop-place-preserved c =
    c.in_ok-push.ensures.items ∙ ap (λ xs. xs ++ c.join_in.result ∷ []) c.loop-place.invariant
    ∙ sym (taken (joins_of c.args.network.now.links) c.loop-place.place c.join_in.result c.join_in.ensures)
