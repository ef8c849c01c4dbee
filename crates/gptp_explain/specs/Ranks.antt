-- The systems of a component in the order of their identities: who would be grandmaster next (profile).
use Rattle.std.specs.Prelude.{◌≡◌, ◌<◌, ◌+◌, ◌/◌, ◌^◌, ◌==◌, ◌||◌, nat_eq, nat_lt, slice_get, ℕ, if◌then◌else◌, List, [], ◌∷◌, ◌++◌, Option, Some, None, codes}
use Rattle.std.specs.Fmt.{decimal}
use Rattle.std.specs.List.{IsDistinct}
use Rattle.gptp_lists.specs.Members.{In}
use Rattle.gptp_graph.specs.Order.{IsRising}
use Rattle.gptp_graph.specs.Path.{Reaches}
use Rattle.gptp_graph.specs.SettledChoice.{IsBestIdentity}
use Rattle.gptp_graph.specs.Snapshot.{Snapshot, System}
use Rattle.gptp_words.specs.Digits.{identity_text}
use Rattle.gptp_explain.specs.Compared.{compared_text, difference}

-- the identities of the live systems of v's component, by rising identity
pub record AreRanked (g : Snapshot) (v : ℕ) (ids : List ℕ) : Type 0 where
  pub rising : IsRising ids
  pub all : (s : System) → In s g.systems → Reaches g v s.clock → In s.identity ids
  pub no_other : (id : ℕ) → In id ids → (s : System) × In s g.systems × Reaches g v s.clock × (s.identity ≡ id)

-- the root is the best of the system's component
abbrev pub FollowsRoot : Snapshot → ℕ → System → Type 0
FollowsRoot g root s = IsBestIdentity g s.clock root

-- of the systems at the first places those that follow the root, by their identities, which differ
pub record FollowersAreFound (g : Snapshot) (root place : ℕ) (ids : List ℕ) : Type 0 where
  pub distinct : IsDistinct nat_eq ids
  pub all : (i : ℕ) (s : System) → i < place → slice_get g.systems i ≡ Some s → FollowsRoot g root s
      → In s.identity ids
  pub only : (id : ℕ) → In id ids
      → (i : ℕ) × (s : System) × (i < place) × (slice_get g.systems i ≡ Some s) × FollowsRoot g root s
      × (s.identity ≡ id)

-- by what the one before it is better, if there is one
abbrev pub better_words : Option ℕ → ℕ → List ℕ
better_words None id = []
better_words (Some before) id = codes " by " ++ compared_text (difference before id)

-- a system with priority1 255 never is grandmaster (IEEE 802.1AS-2020, 8.6.2.1)
abbrev pub never_words : ℕ → List ℕ
never_words id = if nat_lt (id / 2 ^ 104) 255 then [] else codes " never"

-- the line of a system, whose rank counts from 0
abbrev pub rank_line : ℕ → Option ℕ → ℕ → List ℕ
rank_line rank before id =
    codes "rank " ++ decimal (rank + 1) ++ codes " " ++ identity_text id ++ better_words before id ++ never_words id

-- it is shown where it is one of the first eight, or the own one
abbrev pub shown_line : ℕ → ℕ → Option ℕ → ℕ → List (List ℕ)
shown_line own rank before id = if nat_lt rank 8 || id == own then rank_line rank before id ∷ [] else []

-- the lines of these, from this rank on
abbrev pub rank_lines : ℕ → ℕ → Option ℕ → List ℕ → List (List ℕ)
rank_lines own rank before [] = []
rank_lines own rank before (id ∷ ids) =
    shown_line own rank before id ++ rank_lines own (rank + 1) (Some id) ids
