-- The keys so far are those of the first that are absent.
use Rattle.std.proofs.Common.{◌≡◌, filter, map, take}
use Rattle.toml.specs.View.{table_view}
use Rattle.gptp_network.specs.Keys.{name_text}
use Rattle.gptp_lint.specs.Keys.{is_absent}
use Rattle.gptp_lint.proofs.keys.absent_in.Given as goal

abbrev pub invariant-loop-known : goal.invariant-loop-known
invariant-loop-known l =
    map (λ key. key.now) l.absent.items
    ≡ filter (is_absent (table_view l.table)) (map name_text (take l.known-index l.keys))
