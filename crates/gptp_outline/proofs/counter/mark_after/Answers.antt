-- The lines up to the place are those before the mark and those after it.
use Rattle.std.proofs.Common.{◌≡◌, ◌==◌, ◌-◌, arith, count_by, drop, rules, take}
use Rattle.gptp_outline.proofs.CounterLemmas.{counted_more, line_small}
use Rattle.gptp_outline.proofs.counter.mark_after.Goals as goal

pub overflow_add-line : goal.overflow_add-line
overflow_add-line c =
    let text = c.args.text.now in
    let from = c.args.mark.place in
    let to = c.args.place in
    let more : c.feeds-more.result
    ≡ count_by (λ octet. octet == 10) (take (to - from) (drop from text)) = search rules in
    omega (arith, counted_more text from to c.requires.before, line_small text to, c.requires.counted.counted)

pub returns-clause-counted : goal.returns-clause-counted
returns-clause-counted c =
    let text = c.args.text.now in
    let from = c.args.mark.place in
    let to = c.args.place in
    let more : c.feeds-more.result
    ≡ count_by (λ octet. octet == 10) (take (to - from) (drop from text)) = search rules in
    record {
      within = c.requires.within;
      counted = omega (arith, counted_more text from to c.requires.before, c.requires.counted.counted);
    }
