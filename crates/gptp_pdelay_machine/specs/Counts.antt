-- What has been measured, by the time of the last request.
use Rattle.std.specs.Prelude.{◌≡◌, ◌⊎◌, ℕ, ◌+◌, ◌*◌, ◌≤◌, true}
use Rattle.gptp_pdelay_machine.specs.Setting.{Setting}
use Rattle.gptp_pdelay_machine.specs.Asker.{Asker, Closed}

-- The first request from `calm` on begins an exchange that finds nothing old. One period later, or once that request is
-- closed, the port has measured; and another period later, or once the request after it is closed, it is capable.
pub record RequestsMeasure (k : Setting) (calm : ℕ) (a : Asker) : Type 0 where
  pub one : (calm + k.period ≤ a.asked) ⊎ (a.progress ≡ Closed) → a.measured ≡ true
  pub two : (calm + 2 * k.period ≤ a.asked) ⊎ ((calm + k.period ≤ a.asked) × (a.progress ≡ Closed))
      → a.capable ≡ true
