-- When the run of a document ends by default (profile).
use Rattle.std.specs.Prelude.{ℕ, ◌+◌, List, [], ◌∷◌}
use Rattle.gptp_network.specs.Document.{DocumentState}
use Rattle.gptp_how_soon.specs.Times.{settling_times}
use Rattle.gptp_how_soon.specs.declared.bounds.SettlingTime.{SettlingTime}

-- As much later than the last of these times as is watched then; a document has one at least.
abbrev pub end_behind : List SettlingTime → ℕ
end_behind [] = 0
end_behind (t ∷ []) = t.at + t.watch
end_behind (t ∷ (u ∷ us)) = end_behind (u ∷ us)

abbrev pub default_end : DocumentState → ℕ
default_end d = end_behind (settling_times d)
