use Rattle.std.proofs.Common.{◌-◌, ℕ, Option, None, sym, ap, ◌∙◌, subst}
use Rattle.std.specs.Option.{option_map_or}
use Rattle.gptp_pdelay.specs.declared.answer.Answer.{Answer}
use Rattle.gptp_system.specs.declared.port.Port.{Port}
use Rattle.gptp_system.specs.Measuring.{answering_done, Responds, RespondsIf}
use Rattle.gptp_system.specs.Ready.{state_of}
use Rattle.gptp_system.proofs.WrittenLemmas.{number_at, port_written}
use Rattle.gptp_system.proofs.state.State.on_respond_timer.Goals as goal

pub returns-in-Some-clause-step : goal.returns-in-Some-clause-step
returns-in-Some-clause-step c =
    let s = c.args.self.now in
    let place = ap (λ (n : ℕ). n - 1) c.from.ensures in
    let at = number_at s.ports.items c.args.port _ _ c.index-deref_mut-from.result c.requires.least c.requires.most
    c.deref_mut.ensures.value place in
    let owes = ap (λ (o : Option Port). option_map_or (λ (q : Port). q.peer.waiting) o None) at ∙ sym
    c.take_owed.ensures.owed ∙ c.in-Some.is in
    let responds : Responds c.args.port c.args.now (state_of s) c.in-Some.owed c.respond.new.outbox.items =
    record {
      came = c.respond.ensures.came;
      came-rest = c.respond.ensures.came-rest;
      went = c.respond.ensures.went;
      went-rest = c.respond.ensures.went-rest;
      came_is = c.respond.ensures.came_is;
      went_is = c.respond.ensures.went_is;
      sends_are = c.respond.ensures.sends_are;
    } in
    record {
      state = port_written s answering_done c.args.port _ _ _ _ c.requires.least c.requires.most
          c.deref_mut.ensures.value place c.take_owed.ensures.port;
      responds = subst
          (λ (o : Option Answer). RespondsIf o c.args.port c.args.now (state_of s) c.respond.new.outbox.items)
          (sym owes) responds;
    }

pub returns-in-None-clause-step : goal.returns-in-None-clause-step
returns-in-None-clause-step c =
    let s = c.args.self.now in
    let place = ap (λ (n : ℕ). n - 1) c.from.ensures in
    let at = number_at s.ports.items c.args.port _ _ c.index-deref_mut-from.result c.requires.least c.requires.most
    c.deref_mut.ensures.value place in
    let owes = ap (λ (o : Option Port). option_map_or (λ (q : Port). q.peer.waiting) o None) at ∙ sym
    c.take_owed.ensures.owed ∙ c.in-None.is in
    record {
      state = port_written s answering_done c.args.port _ _ _ _ c.requires.least c.requires.most
          c.deref_mut.ensures.value place c.take_owed.ensures.port;
      responds = subst
          (λ (o : Option Answer). RespondsIf o c.args.port c.args.now (state_of s) c.args.outbox.now.items) (sym owes)
          c.requires.empty;
    }
