use Rattle.gptp_determinism.proofs.ReadLemmas.{frames_are_judged}
use Rattle.gptp_determinism.proofs.laws.every_frame_is_judged.Goals as goal

pub returns : goal.returns
returns c = frames_are_judged
