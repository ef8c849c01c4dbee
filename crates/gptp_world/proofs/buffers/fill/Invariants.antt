use Rattle.std.proofs.Common.{◌≡◌, ◌≤◌, vec_len, vec_capacity}
use Rattle.std.specs.List.{AllByRecursion}
use Rattle.gptp_world.specs.Buffers.{IsBuffer}
use Rattle.gptp_world.proofs.buffers.fill.Given as goal

abbrev pub invariant-loop-i : goal.invariant-loop-i
invariant-loop-i l = record {
  len : vec_len l.list ≡ l._i;
  places : l.count ≤ vec_capacity l.list;
  capacity : vec_capacity l.fn.list ≤ vec_capacity l.list;
  buffers : AllByRecursion IsBuffer l.list.items;
}
