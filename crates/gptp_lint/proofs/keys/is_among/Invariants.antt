-- None of the keys so far is that key.
use Rattle.std.proofs.Common.{◌≡◌, bytes_eq, false, map, take}
use Rattle.std.specs.List.{list_any}
use Rattle.gptp_network.specs.Keys.{name_text}
use Rattle.gptp_lint.proofs.keys.is_among.Given as goal

abbrev pub invariant-loop-known : goal.invariant-loop-known
invariant-loop-known l =
    list_any (λ known. bytes_eq known l.key) (map name_text (take l.known-index l.keys)) ≡ false
