-- The keys so far are those of the first entries.
use Rattle.std.proofs.Common.{◌≡◌, map, take}
use Rattle.gptp_network.specs.Keys.{name_text}
use Rattle.gptp_lint.specs.Outline.{entry_view}
use Rattle.gptp_lint.specs.Refusal.{unread_at}
use Rattle.gptp_lint.proofs.refusal.unread_at.Given as goal

abbrev pub invariant-loop-entry : goal.invariant-loop-entry
invariant-loop-entry l =
    map (λ key. key.now) l.unread.items
    ≡ unread_at (map name_text l.read) l.place (map entry_view (take l.entry-index l.entries))
