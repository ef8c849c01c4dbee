use Rattle.gptp_bmca_machine.proofs.ExampleRun.{example_settles}
use Rattle.gptp_bmca_machine.proofs.runs.example_run.Goals as goal

pub returns : goal.returns
returns c = example_settles
