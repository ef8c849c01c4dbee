-- The map of a table finds what its data has at the key.
use Rattle.toml.proofs.Views.{table_get}
use Rattle.gptp_network.proofs.values.value_at.Goals as goal

pub returns : goal.returns
returns c =
    rw (← c.text.ensures) (table_get c.get.result c.text.result.now c.args.table.now.entries c.get.ensures.value)
