-- Nothing so far.
use Rattle.std.proofs.Common.{◌≡◌, length}
use Rattle.gptp_components.specs.Search.{NothingFound}
use Rattle.gptp_components.proofs.search.nothing_found.Given as goal

abbrev pub invariant-loop-place : goal.invariant-loop-place
invariant-loop-place l = record {
  as_many : length l.found.items ≡ l._place;
  nothing : NothingFound l.found.items;
}
