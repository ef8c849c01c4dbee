use Rattle.std.proofs.Common.{map, string_bytes}
use Rattle.std.proofs.lemmas.Result.{IfOk-weaker}
use Rattle.gptp_commands.proofs.CommandLemmas.{asked_in_range}
use Rattle.gptp_commands.proofs.command.read_command_line.Goals as goal

pub returns : goal.returns
returns g c =
    IfOk-weaker c.read_order.result _ _ (asked_in_range (map string_bytes c.as_slice.result.now))
    c.read_order.ensures.asks
