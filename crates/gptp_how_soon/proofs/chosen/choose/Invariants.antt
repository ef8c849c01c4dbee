-- The rounds that are left make of what is chosen what all made at first; no more steps are counted than rounds.
use Rattle.std.proofs.Common.{◌≡◌, ◌≤◌, ◌-◌, length}
use Rattle.std.specs.List.{AllByRecursion}
use Rattle.gptp_how_soon.specs.Chosen.{chosen_over, rounds}
use Rattle.gptp_how_soon.specs.declared.chosen.Chosen.{Chosen}
use Rattle.gptp_how_soon.proofs.chosen.choose.Given as goal

abbrev pub invariant-loop-turn : goal.invariant-loop-turn
invariant-loop-turn l =
    (rounds l.links (length l.systems - l.turn) l.chosen.items ≡ chosen_over l.systems l.links)
    × AllByRecursion (λ (c : Chosen). c.steps ≤ l.turn) l.chosen.items
