-- How a command ends, and the process with it (profile).
use Rattle.std.specs.Prelude.{ℕ, Bool, true, false, Result, Ok, Err}
use Rattle.gptp_sink.specs.declared.cut.Cut.{Cut}
use Rattle.gptp_sink.specs.declared.cut.Cut.TheVariants as cuts
use Rattle.gptp_commands.specs.declared.failure.SimError.{SimError}
use Rattle.gptp_commands.specs.declared.failure.SimError.TheVariants as errors
use Rattle.gptp_commands.specs.declared.failure.Status.{Status}
use Rattle.gptp_commands.specs.declared.failure.Status.TheVariants.{Done, Refused}

-- the status where something was refused, or nothing
abbrev pub status_by : Bool → Status
status_by true = Refused
status_by false = Done

-- the exit status of the process
abbrev pub exit_status : Result Status SimError → ℕ
exit_status (Ok Done) = 0
exit_status (Ok Refused) = 1
exit_status (Err error) = 3

-- why a command stops, where a text ended before its end
abbrev pub stop_error : Cut → SimError
stop_error cuts.Memory = errors.Memory
stop_error cuts.Write = errors.Write
