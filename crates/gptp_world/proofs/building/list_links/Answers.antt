use Rattle.std.proofs.Common.{◌∙◌, ap, sym, map, ◌++◌, ◌∷◌, []}
use Rattle.std.proofs.lemmas.List.{map-append}
use Rattle.gptp_traffic.specs.Traffic.{idle_channel}
use Rattle.gptp_model.specs.Initial.{channels_of}
use Rattle.gptp_lists.proofs.MappedLemmas.{taken}
use Rattle.gptp_world.proofs.building.list_links.Goals as goal

pub loop-place-preserved : goal.loop-place-preserved
loop-place-preserved c =
    ap (map idle_channel) c.in_ok-push.ensures.items
    ∙ map-append idle_channel c.loop-place.links.items (c.link_in.result ∷ [])
    ∙ ap (λ xs. xs ++ idle_channel c.link_in.result ∷ []) c.loop-place.invariant
    ∙ sym (taken (channels_of c.args.network.now) c.loop-place.place (idle_channel c.link_in.result) c.link_in.ensures)
