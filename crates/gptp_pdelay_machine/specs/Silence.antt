-- A port on a link whose other end has failed: after the old frames nothing comes, and each request is lost.
use Rattle.std.specs.Prelude.{◌≡◌, ◌≢◌, ◌⊎◌, ℕ, ◌+◌, ◌*◌, ◌≤◌, ℤ, true, List, [], ◌∷◌}
use Rattle.gptp_pdelay_machine.specs.Asker.{Asker, Closed, asker_after_interval, asks_now}
use Rattle.gptp_pdelay_machine.specs.Setting.{Setting}

-- The time, and the port that asks. Loss doesn't matter, nor do delays up to the largest announce interval. Seen of
-- worlds by ports_are_seen of gptp_invariants.
pub record Unanswered : Type 0 where
  pub time : ℕ
  pub asker : Asker

-- The last request isn't in the future, and the request timer isn't late. Shown of worlds by timers_are_known.
pub record TimerFacts (k : Setting) (s : Unanswered) : Type 0 where
  pub asked : s.asker.asked ≤ s.time
  pub request_timer : s.time ≤ s.asker.asked + k.period

-- The request timer expires: an open request is given up, and the next one is sent. Shown of worlds by own_timer_asks.
pub record AsksInVain (k : Setting) (s s' : Unanswered) : Type 0 where
  pub time : s'.time ≡ s.time
  pub now : s.asker.asked + k.period ≡ s.time
  pub sequence : ℕ
  pub t1 : ℤ
  pub asker : s'.asker ≡ asks_now s.time sequence t1 (asker_after_interval k.allowed s.asker.progress s.asker)

-- An old frame is heard, whatever it does to the exchange: it sends no request, and loses none. No act sends on a lane
-- whose sender has failed, so what is delivered was in flight at the last change, and is due by an announce interval
-- after it. Shown of worlds by old_frames_are_heard.
pub record HearsOld (gone : ℕ) (s s' : Unanswered) : Type 0 where
  pub time : s'.time ≡ s.time
  pub old : s.time ≤ gone
  pub asked : s'.asker.asked ≡ s.asker.asked
  pub lost : s'.asker.lost ≤ s.asker.lost

-- one act; any other leaves the port as it is
abbrev pub ActsInVain : Setting → ℕ → Unanswered → Unanswered → Type 0
ActsInVain k gone s s' = AsksInVain k s s' ⊎ HearsOld gone s s' ⊎ (s' ≡ s)

-- No more requests are lost than allowed; and where the port is capable, the last request is old, or it is open and the
-- lost ones account for the time since `gone`.
pub record InvUnanswered (k : Setting) (gone : ℕ) (s : Unanswered) : Type 0 where
  pub lost : s.asker.lost ≤ k.allowed
  pub counts : s.asker.capable ≡ true → (s.asker.asked ≤ gone)
      ⊎ ((s.asker.progress ≢ Closed) × (s.asker.asked ≤ gone + k.period + s.asker.lost * k.period))

-- time passes and nothing else happens
abbrev pub PassesInVain : Unanswered → Unanswered → Type 0
PassesInVain s s' = (time : ℕ) × (s.time ≤ time) × (s' ≡ record s { time = time })

-- from s the states of the list come in turn, each by time that passes or by one act, and of all of them the facts are
-- known
abbrev pub IsRunInVain : Setting → ℕ → Unanswered → List Unanswered → Type 0
IsRunInVain k gone s [] = TimerFacts k s
IsRunInVain k gone s (t ∷ rest) =
    TimerFacts k s × (PassesInVain s t ⊎ ActsInVain k gone s t) × IsRunInVain k gone t rest
