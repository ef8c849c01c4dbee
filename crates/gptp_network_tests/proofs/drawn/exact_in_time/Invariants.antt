-- Time stamps are exact.
use Rattle.gptp_network_tests.proofs.drawn.exact_in_time.Given as goal

abbrev pub ghost-receive : goal.ghost-receive
ghost-receive g a = 19
