-- Laws on the bounds.
use Rattle.std.specs.Prelude.{ℕ, List}
use Rattle.gptp_pdelay_machine.specs.Messages.{Request, Reply}
use Rattle.gptp_pdelay_machine.specs.Setting.{Setting}
use Rattle.gptp_pdelay_machine.specs.Pair.{Pair}
use Rattle.gptp_pdelay_machine.specs.Acts.{PortActs}
use Rattle.gptp_pdelay_machine.specs.Facts.{Facts}
use Rattle.gptp_pdelay_machine.specs.Bounds.{Bounds}

-- every act keeps the bounds
abbrev pub BoundsAreKept : (List ℕ → Request → Type 0) → (List ℕ → Reply → Type 0) → Type 0
BoundsAreKept asks replies = (k : Setting) (gone : ℕ) (p p' : Pair)
    → Facts k gone p → Facts k gone p' → PortActs k asks replies p p' → Bounds k asks replies gone p
    → Bounds k asks replies gone p'
