use Rattle.gptp_world.proofs.checking.change_sets_an_octet.Goals as goal

pub returns-in-Inject : goal.returns-in-Inject
returns-in-Inject c = rw c.in-Inject.is c.well_formed-in-Inject.ensures.octets
