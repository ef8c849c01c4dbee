use Rattle.std.proofs.Common.{rules, ◌≡◌, ◌∙◌, true, Some, sym}
use Rattle.gptp_system.specs.Ready.{state_of}
use Rattle.gptp_system.specs.Syncing.{delay_at, root_rate_at, said_on}
use Rattle.gptp_system.proofs.SyncLemmas.{follows}
use Rattle.gptp_system.proofs.state.State.hear_follow_up.Goals as goal

pub returns-clause-step : goal.returns-clause-step
returns-clause-step c =
    let s = state_of c.args.self.now in
    let p = c.args.port in
    let m = c.args.follow_up.now in
    let yes : c.is_capable.result ≡ true = search rules in
    let capable = sym c.is_capable.ensures ∙ yes in
    let told : said_on p m s ≡ Some c.in-Some.info = sym (rw c.is_slave-is_slave.ensures at c.in-Some.ensures.said) in
    let delay : c.delay_at-delay.result ≡ delay_at s p = rw c.as_slice.ensures.value at c.delay_at-delay.ensures in
    let rate : c.rate_at-rate.result ≡ root_rate_at s p = rw c.as_slice-2.ensures.value at c.rate_at-rate.ensures in
    follows p m c.args.now s _ _ c.in-Some.info capable told
    (rw (c.said_on.ensures.unchanged, delay, rate) at c.take.ensures.step)
