use Rattle.gptp_commands.proofs.PlainLemmas.{plain_taken}
use Rattle.gptp_commands.proofs.laws.a_plain_command_line_is_taken.Goals as goal

pub returns : goal.returns
returns c = plain_taken
