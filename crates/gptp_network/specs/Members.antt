-- The members of a section that is an array (profile).
use Rattle.std.specs.Prelude.{ℕ, suc, ◌==◌, nat_lt, if◌then◌else◌, Result, Ok, Err}
use Rattle.toml.specs.Data.{Data, Items, no_items, item}
use Rattle.gptp_network.specs.Faults.{◌>>=◌}
use Rattle.gptp_network.specs.declared.fault.DocumentFault.{DocumentFault}
use Rattle.gptp_network.specs.declared.fault.DocumentFault.TheVariants.{MissingKey, TooMany}

-- how many there are
abbrev pub count : Items → ℕ
count no_items = 0
count (item d ds) = suc (count ds)

-- a section that must be there, and one that has so many members at most
unfoldable pub needed : Items → Result Items DocumentFault
needed ds = if count ds == 0 then Err MissingKey else Ok ds

unfoldable pub limited : ℕ → Items → Result Items DocumentFault
limited most ds = if nat_lt most (count ds) then Err TooMany else Ok ds

-- what each of them makes, one after another, of what those before it made
abbrev pub each_of : {X : Type 0} → (Data → X → Result X DocumentFault) → Items → X → Result X DocumentFault
each_of one no_items x = Ok x
each_of one (item d ds) x = do
  y ← one d x
  each_of one ds y
