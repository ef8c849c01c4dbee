use Rattle.std.proofs.Common.{◌≡◌, ◌+◌, ◌++◌, ◌∷◌, List, drop, ap, sym, ◌∙◌, append-nil}
use Rattle.std.proofs.lemmas.List.{drop_all, drop_more}
use Rattle.gptp_timeline.specs.Keepers.{keepers_among}
use Rattle.gptp_timeline.specs.declared.keepers.Keeper.{Keeper}
use Rattle.gptp_timeline.specs.declared.watched.Watched.{Watched}
use Rattle.gptp_timeline.proofs.KeeperLemmas.{keeper_more}
use Rattle.gptp_timeline.proofs.keepers.keepers_of.Goals as goal

pub loop-system-preserved : goal.loop-system-preserved
loop-system-preserved c =
    let all = c.args.systems.now in let i = c.loop-system.system-index in let x = c.system-item.result in
    let ks = c.loop-system.keepers.items in let rest = drop (i + 1) all in
    let here : drop i all ≡ x ∷ rest =
    drop_more all i x c.loop-system-test.true ∙ ap (λ (y : Watched). y ∷ rest) (sym c.system-item.is) in
    ap (λ (xs : List Keeper). xs ++ keepers_among rest) c.in_ok-push_keeper.ensures
    ∙ keeper_more x rest ks
    ∙ ap (λ xs. ks ++ keepers_among xs) (sym here)
    ∙ c.loop-system.invariant

pub returns : goal.returns
returns c =
    sym (append-nil c.loop-system.keepers.items)
    ∙ ap (λ xs. c.loop-system.keepers.items ++ keepers_among xs)
    (sym (drop_all c.loop-system.system-index c.args.systems.now c.loop-system-test.false))
    ∙ c.loop-system.invariant
