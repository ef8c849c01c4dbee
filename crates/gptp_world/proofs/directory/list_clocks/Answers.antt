use Rattle.std.proofs.Common.{◌∙◌, ap, sym, ◌++◌, ◌∷◌, []}
use Rattle.gptp_world.specs.Directory.{directory_clocks}
use Rattle.gptp_lists.proofs.MappedLemmas.{taken}
use Rattle.gptp_world.proofs.directory.list_clocks.Goals as goal

pub loop-place-preserved : goal.loop-place-preserved
loop-place-preserved c =
    c.in_ok-push.ensures.items ∙ ap (λ xs. xs ++ c.clock_in.result ∷ []) c.loop-place.invariant
    ∙ sym (taken (directory_clocks c.args.network.now.systems) c.loop-place.place c.clock_in.result c.clock_in.ensures)
