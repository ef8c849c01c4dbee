use Rattle.std.proofs.Common.{◌≡◌, ◌+◌, ◌-◌, ℕ, true, false, nat_lt, length, map, Option, Some, None, sym, ap, ◌<◌, ◌∙◌, arith}
use Rattle.std.specs.List.{range_with_len}
use Rattle.std.specs.Option.{is_some}
use Rattle.std.proofs.lemmas.Bool.Decides.{nat_tests}
use Rattle.gptp_network.specs.Document.{DocumentState}
use Rattle.gptp_network.specs.declared.fault.DocumentFault.{DocumentFault}
use Rattle.gptp_faults.specs.CaseEvents.{count_events}
use Rattle.gptp_faults.specs.Refusals.{first_some, refusal_at}
use Rattle.gptp_faults.specs.Times.{moment}
use Rattle.gptp_faults.proofs.RefusalLemmas.{number_here, number_later}
use Rattle.gptp_faults.proofs.refusals.refusal_of.Goals as goal

-- the first of the moments that are left refuses
some_first : (refuses : ℕ → Option DocumentFault) (number count : ℕ) (o : Option DocumentFault) → is_some o ≡ true
    → number < count → refuses number ≡ o
    → first_some (map refuses (range_with_len number (count - number))) ≡ o
some_first refuses number count None some below is = absurd cc
some_first refuses number count (Some fault) some below is = number_here refuses number count fault below is

none_first : (refuses : ℕ → Option DocumentFault) (number count : ℕ) (o : Option DocumentFault) → is_some o ≡ false
    → number < count → refuses number ≡ o
    → first_some (map refuses (range_with_len number (count - number)))
    ≡ first_some (map refuses (range_with_len (number + 1) (count - (number + 1))))
none_first refuses number count None none below is = number_later refuses number count below is
none_first refuses number count (Some fault) none below is = absurd cc

pub returns-then-is_some-clause-refusal : goal.returns-then-is_some-clause-refusal
returns-then-is_some-clause-refusal c =
    let d = c.args.document.now in let asked = c.args.asked in let t = c.args.times.now in
    let e = c.args.events.now in let number = c.loop-number.number in let so_far = c.loop-number.invariant in
    let here : c.in_ok-refusal.refusal ≡ refusal_at d asked e (moment t number) =
    c.in_ok-refusal.ensures.refusal
    ∙ ap (λ (x : DocumentState). refusal_at x asked e c.moment.result) so_far.same
    ∙ ap (refusal_at d asked e) c.moment.ensures.is in
    let first = some_first (λ (n : ℕ). refusal_at d asked e (moment t n)) number t.moments c.in_ok-refusal.refusal
    (sym c.is_some.ensures ∙ c.if-is_some.true) c.loop-number-test.true (sym here) in
    let count = c.count.ensures.is in let events = ap length c.events.ensures in
    let past = c.if-events-count-gt-MOST_EVENTS.false in
    let few : nat_lt 4096 (length d.events + count_events e) ≡ false = grind (arith, nat_tests) in
    rw few (sym first ∙ so_far.first)

pub loop-number-preserved : goal.loop-number-preserved
loop-number-preserved c =
    let d = c.args.document.now in let asked = c.args.asked in let t = c.args.times.now in
    let e = c.args.events.now in let number = c.loop-number.number in let so_far = c.loop-number.invariant in
    let below = c.loop-number-test.true in
    let here : c.in_ok-refusal.refusal ≡ refusal_at d asked e (moment t number) =
    c.in_ok-refusal.ensures.refusal
    ∙ ap (λ (x : DocumentState). refusal_at x asked e c.moment.result) so_far.same
    ∙ ap (refusal_at d asked e) c.moment.ensures.is in
    let next = none_first (λ (n : ℕ). refusal_at d asked e (moment t n)) number t.moments c.in_ok-refusal.refusal
    (sym c.is_some.ensures ∙ c.if-is_some.false) below (sym here) in
    record {
      first = sym next ∙ so_far.first;
      most = omega (arith, below);
      same = c.in_ok-refusal.ensures.same ∙ so_far.same;
    }
