-- Who keeps time, with one system more.
use Rattle.std.proofs.Common.{◌≡◌, ◌++◌, List, ◌∷◌, [], Option, Some, None, append_assoc, refl}
use Rattle.gptp_timeline.specs.Keepers.{keeper_of, keepers_among, with_keeper}
use Rattle.gptp_timeline.specs.declared.keepers.Keeper.{Keeper}
use Rattle.gptp_timeline.specs.declared.watched.Watched.{Watched}

pub keeper_more : (x : Watched) (rest : List Watched) (ks : List Keeper)
    → with_keeper x ks ++ keepers_among rest ≡ ks ++ keepers_among (x ∷ rest)
keeper_more x rest ks = by (keeper_of x.clock x.shown) refl
  where
    by : (o : Option Keeper) → keeper_of x.clock x.shown ≡ o
        → with_keeper x ks ++ keepers_among rest ≡ ks ++ keepers_among (x ∷ rest)
    by None is = rw is refl
    by (Some k) is = rw is (append_assoc ks (k ∷ []) (keepers_among rest))
