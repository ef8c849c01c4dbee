-- The keys so far are put after the others.
use Rattle.std.proofs.Common.{◌≡◌, ◌++◌, map, take}
use Rattle.toml_parser.specs.Reading.{key_view}
use Rattle.gptp_lint.specs.Outline.{entries_view, keys_at}
use Rattle.gptp_lint.proofs.outline.push_keys.Given as goal

abbrev pub invariant-loop-key : goal.invariant-loop-key
invariant-loop-key l =
    entries_view l.entries
    ≡ entries_view l.initial.entries ++ keys_at l.place (map key_view (take l.key-index l.keys))
