use Rattle.std.proofs.Common.{◌≡◌, ◌++◌, take, drop}
use Rattle.gptp_roles.specs.Role.{each_port, held_after_selection, is_fresh, chosen_role}
use Rattle.gptp_roles.proofs.selection.select.Given as goal

abbrev pub invariant-loop-one : goal.invariant-loop-one
invariant-loop-one l = record {
  port : l.port ≡ l.one-index;
  roles : l.roles.items ≡ each_port (chosen_role l.chosen l.clock) (take l.one-index l.initial.held);
  fresh : l.fresh.items ≡ each_port (is_fresh l.chosen l.clock) (take l.one-index l.initial.held);
  held : l.held
      ≡ each_port (held_after_selection l.chosen l.clock)
      (take l.one-index l.initial.held) ++ drop l.one-index l.initial.held;
}
