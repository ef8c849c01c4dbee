-- Laws on what one exchange measures.
use Rattle.std.specs.Prelude.{◌≡◌, ◌+◌, ℕ, ℤ, ◌-ℤ◌, Bool, Option}
use Rattle.gptp_scaled.specs.Rate.{IsNeighborRate}
use Rattle.gptp_pdelay.specs.Clock.{IsDrift, IsStampClock}
use Rattle.gptp_pdelay.specs.declared.exchange.Times.{Times}
use Rattle.gptp_pdelay.specs.declared.progress.Request.{Request}
use Rattle.gptp_pdelay.specs.declared.progress.Response.{Response}
use Rattle.gptp_pdelay.specs.Exchange.{mean_delay, measurement_of, shows_neighbor}
use Rattle.gptp_pdelay.specs.GoodLink.{IsGoodLink, IsWithinThreshold}
use Rattle.gptp_pdelay_machine.specs.Setting.{Setting, IsExchange}

-- The two systems read clocks within their limits: what two readings are off together is at most w ns.
pub record ReadsClocks (w : ℕ) (k : Setting) : Type 0 where
  pub behind : ℕ
  pub asking_phase : ℕ
  pub asking_drift : ℤ
  pub answering_phase : ℕ
  pub answering_drift : ℤ
  pub asking_limit : IsDrift asking_drift
  pub answering_limit : IsDrift answering_drift
  pub asking : IsStampClock w behind asking_phase asking_drift k.asking_clock
  pub answering : IsStampClock w behind answering_phase answering_drift k.answering_clock

-- The four times of one exchange over a link that is good with w more give a delay of at most the threshold, by
-- whatever neighbour rate within its limit. So it may be said of an exchange that it is good.
abbrev pub ExchangesAreGood : Type 0
ExchangesAreGood = (w : ℕ) (k : Setting) (threshold : ℕ) (rate t1 t2 t3 t4 : ℤ)
    → IsGoodLink (k.most + w) k.turnaround threshold → ReadsClocks w k → IsNeighborRate rate → IsExchange k t1 t2 t3 t4
    → IsWithinThreshold threshold (mean_delay rate (t4 -ℤ t1) (t3 -ℤ t2))

-- The measurement of such an exchange shows the neighbour, unless it is the first since the reset.
abbrev pub ExchangesShowNeighbor : Type 0
ExchangesShowNeighbor = (w : ℕ) (k : Setting) (threshold : ℕ) (since : Option Times) (again : Bool)
    (request : Request) (response : Response) (t3 : ℤ)
    → IsGoodLink (k.most + w) k.turnaround threshold → ReadsClocks w k
    → IsExchange k request.t1 response.t2 t3 response.t4
    → shows_neighbor threshold (measurement_of since again request response t3) ≡ again
