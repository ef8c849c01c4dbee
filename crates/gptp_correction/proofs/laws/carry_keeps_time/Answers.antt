use Rattle.gptp_correction.proofs.CarryLawProofs as law
use Rattle.gptp_correction.proofs.laws.carry_keeps_time.Goals as goal

pub returns : goal.returns
returns c = law.carry_keeps_time
