-- Runs of the machine.
use Rattle.std.specs.Prelude.{◌⊎◌, ℕ, List, [], ◌∷◌}
use Rattle.gptp_pdelay_machine.specs.Messages.{Request, Reply}
use Rattle.gptp_pdelay_machine.specs.Setting.{Setting}
use Rattle.gptp_pdelay_machine.specs.Pair.{Pair, TimeOnlyPasses}
use Rattle.gptp_pdelay_machine.specs.Acts.{PortActs}
use Rattle.gptp_pdelay_machine.specs.Facts.{Facts, IsSentLate}
use Rattle.gptp_pdelay_machine.specs.Meter.{Meter, MeterActs, MeterPasses}

-- time passes, or one act happens
abbrev pub IsStep : Setting → (List ℕ → Request → Type 0) → (List ℕ → Reply → Type 0) → Pair → Pair → Type 0
IsStep k asks replies p p' = TimeOnlyPasses p p' ⊎ PortActs k asks replies p p'

-- from p the states of the list come in turn, each by one step, and of all of them the facts are known
abbrev pub IsPortRun : Setting → (List ℕ → Request → Type 0) → (List ℕ → Reply → Type 0) → ℕ → Pair → List Pair → Type 0
IsPortRun k asks replies gone p [] = Facts k gone p
IsPortRun k asks replies gone p (q ∷ rest) = Facts k gone p × IsStep k asks replies p q
    × IsPortRun k asks replies gone q rest

-- time passes, or one act happens whose new frames take the least delay or more, with what becomes of the measurement
abbrev pub IsMeterStep : Setting → ℕ → (List ℕ → Request → Type 0) → (List ℕ → Reply → Type 0) → Meter → Meter → Type 0
IsMeterStep k least asks replies m m' = MeterPasses m m'
    ⊎ (MeterActs k asks replies m m' × IsSentLate least m.pair.time m.pair.out m'.pair.out
    × IsSentLate least m.pair.time m.pair.back m'.pair.back)

-- from m the states of the list come in turn, each by one step, and of all of them the facts are known
abbrev pub IsMeterRun : Setting → ℕ → (List ℕ → Request → Type 0) → (List ℕ → Reply → Type 0) → ℕ → Meter → List Meter
    → Type 0
IsMeterRun k least asks replies gone m [] = Facts k gone m.pair
IsMeterRun k least asks replies gone m (n ∷ rest) =
    Facts k gone m.pair × IsMeterStep k least asks replies m n × IsMeterRun k least asks replies gone n rest
