-- What findings promise beyond single calls.
use Rattle.std.specs.Prelude.{ℕ, List}
use Rattle.gptp_network.specs.Document.{DocumentState, Means}
use Rattle.gptp_lint.specs.Findings.{AreFound}
use Rattle.gptp_lint.specs.declared.findings.Findings.{Findings}

-- each document that a text means has findings
abbrev pub EachIsFound : Type 0
EachIsFound = (text : List ℕ) (d : DocumentState) → Means text d → (f : Findings) × AreFound d f
