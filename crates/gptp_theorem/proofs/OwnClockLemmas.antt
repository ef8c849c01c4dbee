-- A system that doesn't go on with the time that it read tells what its clock shows.
use Rattle.std.proofs.Common.{◌≡◌, ℤ, ◌+ℤ◌, pos, slice_get, sym, ap, ◌∙◌, arith}
use Rattle.std.proofs.lemmas.Int.{ints}
use Rattle.gptp_system.specs.State.{local_time}
use Rattle.gptp_lists.proofs.MappedLemmas.{mapped_there, some_same}
use Rattle.gptp_theorem.specs.Reached.{Shape, shape, shape_after}
use Rattle.gptp_theorem.specs.StandingLaws.{StandsTelling}

without_base : (x base : ℤ) → base ≡ pos 0 → (x +ℤ base) ≡ x
without_base x base none = omega (arith, ints, none)

pub own_told : StandsTelling
own_told n events w place m station time so all there here off =
    let after = shape_after n events in
    let same = some_same (shape station) (after m)
    (sym (mapped_there shape w.stations place station here) ∙ ap (λ shapes. slice_get shapes place) so.systems
    ∙ mapped_there after n.systems place m there) in
    without_base (local_time station.system time) station.system.base
    ((all.own place station here).own (ap (λ (x : Shape). x.setup.continues) same ∙ off))
