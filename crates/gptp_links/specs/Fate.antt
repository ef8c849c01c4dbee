-- What fates draw, one after another.
use Rattle.std.specs.Prelude.{◌≡◌, ℕ, List, [], ◌∷◌, Option}
use Rattle.gptp_links.specs.declared.bounds.Bounds.{Bounds}

-- one draw: the bounds, the time at which the frame is sent, and the answer
pub record Draw : Type 0 where
  pub bounds : Bounds
  pub sent : ℕ
  pub answer : Option ℕ

-- these draws, one after another, lead a fate from one state to another
abbrev pub Draws : {F : Type 0} → (Bounds → ℕ → F → Option ℕ → F → Type 0) → F → List Draw → F → Type 0
Draws answers before [] after = after ≡ before
Draws {F} answers before (d ∷ ds) after =
    (between : F) × answers d.bounds d.sent before d.answer between × Draws answers between ds after
