-- Two time stamps of a clock are off by 16 ns together.
use Rattle.gptp_network_tests.proofs.stamps.stamped_in_time.Given as goal

abbrev pub ghost-receive : goal.ghost-receive
ghost-receive g a = 2097811
