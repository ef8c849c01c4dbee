use Rattle.std.proofs.Common.{◌++◌, ◌∷◌, [], List, map, take, sym, ap, ◌∙◌}
use Rattle.std.proofs.lemmas.List.{map-append}
use Rattle.gptp_model.specs.Views.{rising_clocks}
use Rattle.gptp_lists.proofs.MappedLemmas.{taken}
use Rattle.gptp_timeline.specs.Watch.{unseen}
use Rattle.gptp_timeline.specs.declared.watched.Watched.{Watched}
use Rattle.gptp_timeline.proofs.PutLemmas.{none_more}
use Rattle.gptp_timeline.proofs.watch.push_unseen.Goals as goal

pub returns-in_ok-push : goal.returns-in_ok-push
returns-in_ok-push g c =
    let names = rising_clocks c.args.world.now.world_core in let place = c.args.place in let clock = c.in-Some.clock in
    c.in_ok-push.ensures.items
    ∙ ap (λ (xs : List Watched). xs ++ c.unseen.result ∷ []) c.requires
    ∙ ap (λ (x : Watched). map unseen (take place names) ++ x ∷ []) c.unseen.ensures
    ∙ sym (ap (map unseen) (taken names place clock (sym c.in-Some.ensures))
    ∙ map-append unseen (take place names) (clock ∷ []))

pub returns-in_default : goal.returns-in_default
returns-in_default g c =
    let names = rising_clocks c.args.world.now.world_core in
    c.requires ∙ ap (map unseen) (none_more names c.args.place (sym c.clock_at.ensures ∙ c.in_default.is))
