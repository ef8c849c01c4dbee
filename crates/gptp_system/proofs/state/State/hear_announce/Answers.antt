use Rattle.std.proofs.Common.{◌≡◌, rules, true, ◌&&◌, length, ap, ◌∙◌, sym, inr, arith}
use Rattle.arrayvec.specs.ArrayVec.{array_vec_len}
use Rattle.arrayvec.proofs.ArrayVecLemmas.{items-with_items}
use Rattle.gptp_receipt.specs.declared.held.Held.{Held}
use Rattle.gptp_receipt.specs.Held.{comparison, held_after, reception}
use Rattle.gptp_receipt.specs.Qualification.{Qualified}
use Rattle.gptp_system.specs.State.{own, change, clock, held_at}
use Rattle.gptp_system.specs.Ready.{state_of}
use Rattle.std.specs.Prelude.{not}
use Rattle.gptp_system.specs.Announcing.{answer_to_heard, compared, replaces_held}
use Rattle.gptp_system.specs.Selection.{SelectsIf}
use Rattle.gptp_system.proofs.AgainLemmas.{again_becomes, selects_again_or_not}
use Rattle.gptp_system.proofs.ChangedLemmas.{change-length}
use Rattle.gptp_system.proofs.ReadyLemmas.{held_ready, hearing_keeps}
use Rattle.gptp_system.proofs.state.State.hear_announce.Goals as goal

pub select_if-requires-clause-ready : goal.select_if-requires-clause-ready
select_if-requires-clause-ready c =
    let s = c.args.self.now in
    let me = own (state_of s) c.args.port in
    let a = c.args.announce.now in
    let hear = λ (h : Held). held_after (comparison h me a) h (reception a me c.args.now) in
    let is : c.hear_at-heard.new.held ≡ change hear c.args.port s.held.items =
    rw (c.own-own.ensures, c.as_mut_slice.ensures.value) at c.hear_at-heard.ensures.held in
    let kept : length c.hear_at-heard.new.held
    ≡ array_vec_len s.held = omega (arith, ap length is, change-length hear c.args.port s.held.items) in
    let qualified : Qualified a c.own-own.result.clock = search rules in
    let qualified-here : Qualified a (clock (state_of s)) = rw c.own-own.ensures at qualified in
    rw (items-with_items s.held c.hear_at-heard.new.held kept)
    (held_ready (state_of s) c.args.port hear c.hear_at-heard.new.held c.requires.ready
    (hearing_keeps me a c.args.now qualified-here c.requires.moment) is)

pub returns-clause-step : goal.returns-clause-step
returns-clause-step c =
    let s = c.args.self.now in
    let me = own (state_of s) c.args.port in
    let a = c.args.announce.now in
    let hear = λ (h : Held). held_after (comparison h me a) h (reception a me c.args.now) in
    let is : c.hear_at-heard.new.held ≡ change hear c.args.port s.held.items =
    rw (c.own-own.ensures, c.as_mut_slice.ensures.value) at c.hear_at-heard.ensures.held in
    let kept : length c.hear_at-heard.new.held
    ≡ array_vec_len s.held = omega (arith, ap length is, change-length hear c.args.port s.held.items) in
    let heard : c.hear_at-heard.result ≡ comparison (held_at (state_of s) c.args.port) me a =
    rw (c.own-own.ensures, c.as_mut_slice.ensures.value) at c.hear_at-heard.ensures.heard in
    let again = c.hears_again-again.result in
    let moves = c.can_change.ensures ∙ ap (λ heard. replaces_held heard && not again) heard in
    let items = items-with_items s.held c.hear_at-heard.new.held kept ∙ is in
    let capable : c.is_capable.result ≡ true = search rules in
    let qualified : Qualified a c.own-own.result.clock = search rules in
    inr (inr (record {
      on = sym c.is_capable.ensures ∙ capable;
      qualified = rw c.own-own.ensures at qualified;
      selects = selects_again_or_not c.args.port a c.args.now (state_of s) _ _ again c.hears_again-again.ensures.0
          (rw c.own-own.ensures at qualified) c.requires.held
          c.requires.rest (rw (← moves, ← items) c.select_if.ensures.selects);
      answer_is = c.answer_to_heard.ensures ∙ ap answer_to_heard heard;
    }))

pub returns-clause-again : goal.returns-clause-again
returns-clause-again c =
    let s = c.args.self.now in
    let me = own (state_of s) c.args.port in
    let a = c.args.announce.now in
    let hear = λ (h : Held). held_after (comparison h me a) h (reception a me c.args.now) in
    let is : c.hear_at-heard.new.held ≡ change hear c.args.port s.held.items =
    rw (c.own-own.ensures, c.as_mut_slice.ensures.value) at c.hear_at-heard.ensures.held in
    let kept : length c.hear_at-heard.new.held
    ≡ array_vec_len s.held = omega (arith, ap length is, change-length hear c.args.port s.held.items) in
    let heard : c.hear_at-heard.result ≡ comparison (held_at (state_of s) c.args.port) me a =
    rw (c.own-own.ensures, c.as_mut_slice.ensures.value) at c.hear_at-heard.ensures.heard in
    let again = c.hears_again-again.result in
    let moves = c.can_change.ensures ∙ ap (λ heard. replaces_held heard && not again) heard in
    let items = items-with_items s.held c.hear_at-heard.new.held kept ∙ is in
    let selects : SelectsIf (replaces_held (comparison (held_at (state_of s) c.args.port) me a) && not again) c.args.now
    (compared c.args.port a c.args.now (state_of s)) (state_of c.select_if.new.self) c.select_if.new.outbox.items =
    rw (← moves, ← items) c.select_if.ensures.selects in
    λ true_again. record {
      says = c.hears_again-again.ensures.0 true_again;
      state =
          (again_becomes c.args.port a c.args.now (state_of s) (state_of c.select_if.new.self)
          c.select_if.new.outbox.items again true_again selects).state;
    }
