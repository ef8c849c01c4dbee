use Rattle.gptp_bmca_machine.proofs.FlightLemmas.{flight_begins, flight_kept, settled_is_whole}
use Rattle.gptp_bmca_machine.proofs.sound.settled_is_whole.Goals as goal

pub returns-clause-begins : goal.returns-clause-begins
returns-clause-begins g c = λ n w net. flight_begins g.C.Coding.says n net w

pub returns-clause-kept : goal.returns-clause-kept
returns-clause-kept g c = λ n w w' net near. flight_kept g.C.Coding.says n net near w w'

pub returns-clause-whole : goal.returns-clause-whole
returns-clause-whole g c = λ n w net near. settled_is_whole g.C.Coding.says n net near w
