-- The role of a port, in one word (profile).
use Rattle.std.specs.Prelude.{ℕ, List, codes}
use Rattle.gptp_roles.specs.declared.role.Role.{Role}
use Rattle.gptp_roles.specs.declared.role.Role.TheVariants.{Disabled, Master, Slave, Passive}

abbrev pub role_text : Role → List ℕ
role_text Disabled = codes "disabled"
role_text Master = codes "master"
role_text Slave = codes "slave"
role_text Passive = codes "passive"
