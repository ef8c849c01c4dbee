-- One exchange over a good link is good.
use Rattle.std.proofs.Common.{◌≤◌, ◌+◌, ℤ, arith}
use Rattle.gptp_pdelay.specs.GoodLink.{ExchangeIsTimely}
use Rattle.gptp_pdelay.proofs.GoodLinkLemmas.{good_link, good_link_shows_neighbor}
use Rattle.gptp_pdelay_machine.specs.Setting.{Setting, IsExchange}
use Rattle.gptp_pdelay_machine.specs.ExchangeLaws.{ExchangesAreGood, ExchangesShowNeighbor}

-- its times are those of the law of good links
timely : (k : Setting) (t1 t2 t3 t4 : ℤ) → IsExchange k t1 t2 t3 t4
    → ExchangeIsTimely k.most k.turnaround k.asking_clock k.answering_clock t1 t2 t3 t4
timely k t1 t2 t3 t4 exchange =
    let came : exchange.came ≤ exchange.sent + k.most = exchange.there.1 in
    let since : exchange.sent ≤ exchange.came = exchange.there.0 in
    let back : exchange.back ≤ exchange.came + k.turnaround + k.most = exchange.home.1 in
    let after : exchange.came + k.turnaround ≤ exchange.back = exchange.home.0 in
    record {
      x = exchange.sent;
      y = exchange.came;
      z = exchange.back;
      sent = exchange.is_t1;
      received = exchange.is_t4;
      heard = exchange.is_t2;
      answered = exchange.is_t3;
      order = omega arith;
      soon = omega arith;
    }

-- so its delay is at most the threshold
pub exchanges_are_good : ExchangesAreGood
exchanges_are_good w k threshold rate t1 t2 t3 t4 link clocks near exchange =
    good_link w clocks.behind k.most k.turnaround threshold clocks.asking_phase clocks.answering_phase
    clocks.asking_drift clocks.answering_drift k.asking_clock k.answering_clock rate t1 t2 t3 t4 link near
    clocks.asking_limit clocks.answering_limit clocks.asking clocks.answering (timely k t1 t2 t3 t4 exchange)

-- and it shows the neighbour
pub exchanges_show_neighbor : ExchangesShowNeighbor
exchanges_show_neighbor w k threshold since again request response t3 link clocks exchange =
    good_link_shows_neighbor w clocks.behind k.most k.turnaround threshold clocks.asking_phase clocks.answering_phase
    clocks.asking_drift clocks.answering_drift k.asking_clock k.answering_clock since again request response t3
    link clocks.asking_limit clocks.answering_limit clocks.asking clocks.answering
    (timely k request.t1 response.t2 t3 response.t4 exchange)
