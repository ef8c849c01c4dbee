-- How a world begins, and an act that is done in it, each with what its fate draws (profile).
use Rattle.std.specs.Prelude.{ℕ, List, length, Option}
use Rattle.std.specs.List.{range_with_len}
use Rattle.gptp_links.specs.declared.bounds.Bounds.{Bounds}
use Rattle.gptp_links.specs.Fate.{Draw, Draws}
use Rattle.gptp_scenario.specs.declared.change.Timed.{Timed}
use Rattle.gptp_model.specs.declared.done.Done.{Done}
use Rattle.gptp_model.specs.Acts.{at, Acts, IsReadyAct}
use Rattle.gptp_model.specs.Changing.{StartsAll}
use Rattle.gptp_model.specs.Initial.{initial}
use Rattle.gptp_scenario.specs.Network.{NetworkState}
use Rattle.gptp_model.specs.World.{WorldState}

-- The world of a network begins: all its systems start at time 0, in their order.
pub record Begun {F : Type 0} (answers : Bounds → ℕ → F → Option ℕ → F → Type 0) (n : NetworkState)
    (fate fate_after : F)
    (w : WorldState) : Type 0 where
  pub draws : List Draw
  pub drawn : Draws answers fate draws fate_after
  pub starts : StartsAll (range_with_len 0 (length n.systems)) (initial n) draws w

-- An act was ready at its time, and was done then; this is told of it.
pub record WasDone {F : Type 0} (answers : Bounds → ℕ → F → Option ℕ → F → Type 0) (timed : Timed) (fate fate_after : F)
    (w w' : WorldState) (done : Done) : Type 0 where
  pub ready : IsReadyAct timed.act timed.at w
  pub draws : List Draw
  pub drawn : Draws answers fate draws fate_after
  pub acts : Acts timed.act (at timed.at w) draws done w'
