-- What is told of one live system of a network as it stands at a time, at its settled choice (profile).
use Rattle.std.specs.Prelude.{◌≡◌, ◌⊎◌, ◌<◌, ◌≤◌, ◌==◌, nat_lt, ℕ, if◌then◌else◌, List, [], ◌∷◌, ◌++◌, None, codes, reverse}
use Rattle.std.specs.Fmt.{decimal}
use Rattle.std.specs.List.{flat_map, range_with_len}
use Rattle.gptp_lists.specs.Members.{In}
use Rattle.gptp_graph.specs.Best.{IsBest}
use Rattle.gptp_graph.specs.Distance.{IsDistance}
use Rattle.gptp_graph.specs.Parent.{IsParent, ParentLink}
use Rattle.gptp_graph.specs.Snapshot.{Snapshot, System, clocks}
use Rattle.gptp_network.specs.Document.{DocumentState}
use Rattle.gptp_network.specs.Snapshot.{IsSnapshot}
use Rattle.gptp_words.specs.Digits.{clock_text, identity_text}
use Rattle.gptp_explain.specs.Compared.{compared_text, difference}
use Rattle.gptp_explain.specs.Ports.{ArePortLines}
use Rattle.gptp_explain.specs.Ranks.{AreRanked, rank_lines}

-- how far it is from its root: with 255 links or more it is too far to follow it
abbrev pub distance_word : ℕ → List ℕ
distance_word distance = if nat_lt distance 255 then codes "steps" else codes "far"

-- by what its root is better, unless it is the root
abbrev pub by_words : ℕ → ℕ → List ℕ
by_words root own = if root == own then [] else codes " by " ++ compared_text (difference root own)

abbrev pub explained_system_line : ℕ → ℕ → ℕ → ℕ → List ℕ
explained_system_line clock own root distance =
    codes "system " ++ clock_text clock ++ codes " own " ++ identity_text own
    ++ codes " root " ++ identity_text root
    ++ codes " " ++ distance_word distance ++ codes " " ++ decimal distance ++ by_words root own

-- From v up: each of these is the parent of the one before it, and the last has none.
abbrev pub LeadsUp : Snapshot → ℕ → List ℕ → Type 0
LeadsUp g v [] = (l : ParentLink) → IsParent g v l → ⊥
LeadsUp g v (w ∷ ws) = ((l : ParentLink) × IsParent g v l × (l.clock ≡ w)) × LeadsUp g w ws

-- the clocks from the root to v
abbrev pub path_line : ℕ → List ℕ → List ℕ
path_line v above = codes "path" ++ flat_map (λ clock. codes " " ++ clock_text clock) (reverse (v ∷ above))

-- the path to a system that isn't far, and its ports
pub record ShowsNear (d : DocumentState) (at : ℕ) (g : Snapshot) (s : System) (lines : List (List ℕ)) : Type 0 where
  pub above : List ℕ
  pub leads : LeadsUp g s.clock above
  pub ports : List (List ℕ)
  pub are_ports : ArePortLines d at g s.clock (range_with_len 1 s.ports) ports
  pub are : lines ≡ path_line s.clock above ∷ ports

-- the path and the ports, which a far system hasn't
abbrev pub ShowsWay : DocumentState → ℕ → Snapshot → System → ℕ → List (List ℕ) → Type 0
ShowsWay d at g s distance lines =
    ((distance < 255) × ShowsNear d at g s lines) ⊎ ((255 ≤ distance) × (lines ≡ []))

-- the system with its root and distance, its way, and the order of its component
pub record ExplainsSystem (d : DocumentState) (at : ℕ) (g : Snapshot) (s : System) (lines : List (List ℕ)) : Type
    0 where
  pub best : System
  pub is_best : IsBest g s.clock best
  pub distance : ℕ
  pub is_distance : IsDistance g s.clock distance
  pub way : List (List ℕ)
  pub shows_way : ShowsWay d at g s distance way
  pub ranked : List ℕ
  pub are_ranked : AreRanked g s.clock ranked
  pub are : lines ≡ explained_system_line s.clock s.identity best.identity distance
      ∷ way ++ rank_lines s.identity 0 None ranked

-- of the live system with this clock, as the network of the document stands at the time
pub record Explains (d : DocumentState) (at clock : ℕ) (lines : List (List ℕ)) : Type 0 where
  pub snapshot : Snapshot
  pub is_snapshot : IsSnapshot d at snapshot
  pub system : System
  pub live : In system snapshot.systems
  pub has : system.clock ≡ clock
  pub explains : ExplainsSystem d at snapshot system lines

-- no live system has this clock then
pub record IsAbsent (d : DocumentState) (at clock : ℕ) : Type 0 where
  pub snapshot : Snapshot
  pub is_snapshot : IsSnapshot d at snapshot
  pub absent : In clock (clocks snapshot) → ⊥
