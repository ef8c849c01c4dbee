-- The words of the first octets are written.
use Rattle.std.proofs.Common.{take}
use Rattle.std.specs.Fmt.{HasWritten, IsPlainFormatter}
use Rattle.std.specs.List.{flat_map}
use Rattle.gptp_lint.specs.Unread.{escaped_octet}
use Rattle.gptp_lint.proofs.escaped.EscapedDisplay.fmt.Given as goal

abbrev pub invariant-loop-octet : goal.invariant-loop-octet
invariant-loop-octet g l =
    IsPlainFormatter l.initial.f → HasWritten g.W.Write.write_str_gives l.initial.f
    (flat_map escaped_octet (take l.octet-index l.front)) l.f
