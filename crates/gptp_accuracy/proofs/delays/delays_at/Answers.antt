use Rattle.std.proofs.Common.{◌≡◌, Some, length, slice_get, refl, sym, ap, subst, ◌∙◌, arith}
use native.Mathlib.Decide.{dec_lt}
use Rattle.std.proofs.lemmas.List.{length-map}
use Rattle.std.proofs.lemmas.Option.{slice_get_read, slice_get_within}
use Rattle.gptp_lists.proofs.SystemSpecLemmas.{slice_get-In}
use Rattle.gptp_topology.specs.After.{standing_then}
use Rattle.gptp_accuracy.proofs.DelayLemmas.{delays_found, not_there}
use Rattle.gptp_accuracy.proofs.delays.delays_at.Goals as goal

pub returns-then-is_at : goal.returns-then-is_at
returns-then-is_at c = λ w member end.
    let ss = c.args.standings.now in
    let i = c.loop-standing.standing-index in
    let s = c.standing-item.result in
    delays_found c.args.network.now c.args.events.now i s
    (ap (λ ts. slice_get ts i) (sym c.requires)
    ∙ slice_get_read ss (length ss) i s refl c.loop-standing-test.true c.standing-item.is)
    c.args.clock c.args.port (c.is_at.ensures.0 c.if-is_at.true)

pub loop-standing-preserved : goal.loop-standing-preserved
loop-standing-preserved c = λ k w less here end.
    let n = c.args.network.now in
    let ss = c.args.standings.now in
    let i = c.loop-standing.standing-index in
    let s = c.standing-item.result in
    elim (dec_lt k i) [
      | yes before ↦ c.loop-standing.invariant k w before here end
      | no over ↦ (
          let same : k ≡ i = omega arith in
          not_there n c.args.events.now i s
          (ap (λ ts. slice_get ts i) (sym c.requires)
          ∙ slice_get_read ss (length ss) i s refl c.loop-standing-test.true c.standing-item.is)
          (record { clock = c.args.clock; port = c.args.port })
          (λ at. let is = c.is_at.ensures.1 at in let no = c.if-is_at.false in absurd cc)
          w (subst (λ j. slice_get n.links j ≡ Some w) same here) end
          )
    ]

pub returns : goal.returns
returns c = λ w member end.
    let n = c.args.network.now in
    let (place, there) = slice_get-In w n.links member in
    let within = slice_get_within n.links place w there in
    let count = ap length c.requires ∙ length-map n.links (standing_then n c.args.events.now) in
    let past = c.loop-standing-test.false in
    absurd (c.loop-standing.invariant place w (omega (arith, within, count, past)) there end)
