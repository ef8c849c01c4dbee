-- Those of the first places so far, then those of the places that are left.
use Rattle.std.proofs.Common.{◌≡◌, ◌++◌, ◌-◌, filter, length}
use Rattle.std.specs.List.{range_with_len}
use Rattle.gptp_how_soon.specs.Chosen.{is_moved_at}
use Rattle.gptp_how_soon.specs.Turned.{moved_places}
use Rattle.gptp_how_soon.proofs.turned.moved_places.Given as goal

abbrev pub invariant-loop-place : goal.invariant-loop-place
invariant-loop-place l =
    l.places.items
    ++ filter (is_moved_at l.systems l.before l.now) (range_with_len l.place (length l.systems - l.place))
    ≡ moved_places l.systems l.before l.now
