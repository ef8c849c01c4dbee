-- What a system has chosen, and what its ports hold then.
use Rattle.std.specs.Prelude.{◌≡◌, ◌≢◌, ℕ, ◌%◌, ◌^◌, false, List, count_by, None, IsSome}
use Rattle.std.specs.List.{AllByRecursion}
use Rattle.gptp_vector.specs.declared.vector.Vector.{Vector}
use Rattle.gptp_receipt.specs.declared.held.Held.{Held}
use Rattle.gptp_roles.specs.declared.role.Role.{Role}
use Rattle.gptp_roles.specs.declared.selection.Selected.{Selected}
use Rattle.gptp_roles.specs.Choice.{ArePlaced, IsChosen, slave_port}
use Rattle.gptp_roles.specs.Role.{each_port, held_after_selection, is_fresh, is_slave, chosen_role}

-- the clock of an identity: its low eight octets
abbrev pub clock_of : ℕ → ℕ
clock_of identity = identity % 2 ^ 64

-- the system with this identity, whose ports held `before`, chose this, and its ports hold `after`
pub record IsSelection (identity : ℕ) (before : List Held) (s : Selected) (after : List Held) : Type 0 where
  pub chosen : Vector
  pub is_chosen : IsChosen identity before chosen
  pub root : s.root ≡ chosen.root
  pub steps : s.steps ≡ chosen.steps
  pub slave : s.slave ≡ slave_port chosen
  pub roles : s.roles.items ≡ each_port (chosen_role chosen (clock_of identity)) before
  pub fresh : s.fresh.items ≡ each_port (is_fresh chosen (clock_of identity)) before
  pub held : after ≡ each_port (held_after_selection chosen (clock_of identity)) before

-- Selecting again from what the ports hold after a selection by this vector changes nothing: the vector is
-- chosen again, each port keeps its role and what it holds, and none is fresh.
pub record SelectionIsAtRest (identity : ℕ) (before : List Held) (chosen : Vector) : Type 0 where
  pub placed : ArePlaced 1 (each_port (held_after_selection chosen (clock_of identity)) before)
  pub is_chosen : IsChosen identity (each_port (held_after_selection chosen (clock_of identity)) before) chosen
  pub roles : each_port (chosen_role chosen (clock_of identity))
      (each_port (held_after_selection chosen (clock_of identity)) before)
      ≡ each_port (chosen_role chosen (clock_of identity)) before
  pub held : each_port (held_after_selection chosen (clock_of identity))
      (each_port (held_after_selection chosen (clock_of identity)) before)
      ≡ each_port (held_after_selection chosen (clock_of identity)) before
  pub fresh : AllByRecursion (λ b. b ≡ false)
      (each_port (is_fresh chosen (clock_of identity))
      (each_port (held_after_selection chosen (clock_of identity)) before))

-- how many ports are Slave
abbrev pub slaves : List Role → ℕ
slaves roles = count_by is_slave roles

-- One port is Slave where the chosen root is another system's, and none where it is the own; the chosen
-- vector names that port.
pub record HasOneSlave (identity : ℕ) (before : List Held) (chosen : Vector) : Type 0 where
  pub own_root : chosen.root ≡ identity → (slave_port chosen ≡ None)
      × (slaves (each_port (chosen_role chosen (clock_of identity)) before) ≡ 0)
  pub other_root : (chosen.root ≢ identity) → IsSome (slave_port chosen)
      × (slaves (each_port (chosen_role chosen (clock_of identity)) before) ≡ 1)
