use Rattle.std.proofs.Common.{◌≡◌, ◌+◌, length, ap, ◌∙◌, sym, arith}
use Rattle.std.proofs.lemmas.List.FromFn.{map-range_with_len_more}
use Rattle.gptp_receipt.specs.declared.held.Held.TheVariants as helds
use Rattle.gptp_system.proofs.StartLemmas.{length-all_disabled}
use Rattle.gptp_system.proofs.start.all_disabled.Goals as goal

pub push-requires : goal.push-requires
push-requires c =
    let size = ap length c.loop.invariant ∙ length-all_disabled c.loop.counter in
    (omega arith, omega (arith, size, c.loop-test.true, c.requires))

pub loop-preserved : goal.loop-preserved
loop-preserved c =
    let count = c.loop.counter in
    let next : 1 + count ≡ count + 1 = omega arith in
    rw (c.push.ensures.items, c.loop.invariant)
    (sym (map-range_with_len_more (λ p. helds.Disabled) 1 count (count + 1) next))
