-- The first of the ways over the first ports.
use Rattle.std.proofs.Common.{option_map}
use Rattle.gptp_certificate_text.specs.Certificate.{parent_of}
use Rattle.gptp_choice.specs.Lines.{IsFirstWay}
use Rattle.gptp_choice.proofs.parent.parent_of.Given as goal

abbrev pub invariant-loop-index : goal.invariant-loop-index
invariant-loop-index l = IsFirstWay l.snapshot l.clock l.index (option_map parent_of l.best)
