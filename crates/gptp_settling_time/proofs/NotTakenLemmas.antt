-- A system that has settled takes no Announce from one that is farther from the best, or as far with the higher clock.
use Rattle.std.proofs.Common.{◌≡◌, ◌⊎◌, ◌<◌, ◌≤◌, ℕ, suc, true, [], ◌∷◌, Some, slice_get, refl, subst, ◌∙◌, inl, inr, arith}
use Rattle.gptp_lists.specs.Members.{In}
use Rattle.gptp_graph.specs.Best.{IsBest}
use Rattle.gptp_graph.specs.Distance.{IsDistance}
use Rattle.gptp_graph.specs.Order.{IsLower}
use Rattle.gptp_graph.specs.Snapshot.{IsWellFormed, Snapshot, System, clocks}
use Rattle.gptp_graph.proofs.SystemLemmas.{In-clocks}
use Rattle.gptp_bmca_machine.specs.AtRest.{StationIsAtRest}
use Rattle.gptp_bmca_machine.specs.Calm.{Calm}
use Rattle.gptp_bmca_machine.specs.Facts.{station_system}
use Rattle.gptp_bmca_machine.specs.Frame.{Announce, Spelling}
use Rattle.gptp_bmca_machine.specs.Levels.{Invariant}
use Rattle.gptp_bmca_machine.specs.Network.{IsSettlingNetwork, Network, settled_from}
use Rattle.gptp_bmca_machine.specs.SoundLaws.{AllAreNear}
use Rattle.gptp_bmca_machine.specs.Station.{Aged, Disabled, Held, MachineState, Mine, Port, Received, Reception, Station}
use Rattle.gptp_bmca_machine.specs.Touch.{Replaces}
use Rattle.gptp_bmca_machine.specs.Vectors.{master, message}
use Rattle.gptp_bmca_machine.proofs.SettledLemmas.{network_settles}
use Rattle.gptp_settling_time.specs.Losses.{IsUnmoved}
use Rattle.gptp_settling_time.proofs.FitsLemmas.{IsLeftUnmoved, best_before}

-- The system is unmoved since the snapshot before. The Announce has the root of its best then, or a worse one. Where it
-- has that root, its steps are no fewer than the distance of who sends it.
module _ (says : Spelling) (g : Snapshot) (n : Network) (well : IsWellFormed g) (net : IsSettlingNetwork n)
    (left : IsLeftUnmoved g n.graph) (near : AllAreNear n.graph) (w : MachineState) (calm : Calm n w)
    (invariant : Invariant says n w) (late : settled_from n ≤ w.time) (i : ℕ) (s : Station)
    (here : slice_get w.stations i ≡ Some s) (live : s.live ≡ true) (stays : IsUnmoved g n.graph s.clock)
    (place : ℕ) (q : Port) (there : slice_get s.ports place ≡ Some q) (from far : ℕ) (a : Announce)
    (source : a.source.clock ≡ from)
    (farther : (d : ℕ) → IsDistance n.graph s.clock d → (d < far) ⊎ ((d ≡ far) × (s.clock < from)))
    (sender : (best : System) → IsBest g s.clock best → a.root ≡ best.identity → far ≤ a.steps)
    (above : (best : System) → IsBest g s.clock best → best.identity ≤ a.root) where
  known : In s.clock (clocks n.graph)
  known = In-clocks n.graph (station_system s) (calm.facts.stations i s here live).known

  not_lower : IsLower (message a (suc place)) (master s.root s.steps s.clock (suc place)) → ⊥
  not_lower lower =
      let (has, follows, roles) = network_settles says n w i s net calm invariant here live (near s.clock known) late in
      by has.root has.steps lower
    where
      by : ((best : System) × IsBest n.graph s.clock best × (s.root ≡ best.identity))
          → IsDistance n.graph s.clock s.steps
          → IsLower (message a (suc place)) (master s.root s.steps s.clock (suc place)) → ⊥
      by (best, is_best, root) steps (inl less) =
          let least = above best (best_before g n.graph well net.graph left s.clock best stays is_best) in
          omega (arith, least, root, less)
      by (best, is_best, root) steps (inr (same_root, rest)) = go rest
        where
          was : IsBest g s.clock best
          was = best_before g n.graph well net.graph left s.clock best stays is_best

          reaches : far ≤ a.steps
          reaches = sender best was (same_root ∙ root)

          beyond : (s.steps < far) ⊎ ((s.steps ≡ far) × (s.clock < from))
          beyond = farther s.steps steps

          go : (a.steps < s.steps) ⊎ ((a.steps ≡ s.steps)
              × ((a.source.clock < s.clock) ⊎ ((a.source.clock ≡ s.clock)
              × IsLower (a.source.port ∷ suc place ∷ []) (suc place ∷ suc place ∷ [])))) → ⊥
          go (inl fewer) = elim beyond [
            | inl less ↦ omega (arith, reaches, fewer, less)
            | inr (same, lower) ↦ omega (arith, reaches, fewer, same)
          ]
          go (inr (same_steps, rest)) = elim beyond [
            | inl less ↦ omega (arith, reaches, same_steps, less)
            | inr (same, lower) ↦ elim rest [
              | inl below ↦ omega (arith, below, lower, source)
              | inr (equal, ports) ↦ omega (arith, equal, lower, source)
            ]
          ]

  -- nor does it replace what the port received, as it received nothing
  pub farther_not_taken : ((r : Reception) → q.held ≡ Received r → ⊥) → Replaces s.clock (suc place) a q.held → ⊥
  farther_not_taken none = by q.held refl
    where
      rest : StationIsAtRest s
      rest = (calm.stations i s here live).at_rest

      by : (held : Held) → q.held ≡ held → Replaces s.clock (suc place) a held → ⊥
      by Disabled is taken = taken
      by Aged is taken = rest.fresh place q there is
      by (Mine root steps) is taken =
          let (own_root, own_steps) = rest.mine place q root steps there is in
          not_lower
          (subst (λ t. IsLower (message a (suc place)) (master s.root t s.clock (suc place))) own_steps
          (subst (λ r. IsLower (message a (suc place)) (master r steps s.clock (suc place))) own_root taken))
      by (Received r) is taken = none r is
