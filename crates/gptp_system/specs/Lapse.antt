-- What a system makes of time that doesn't come (IEEE 802.1AS-2020, 10.3.12 and 10.7.3.1).
use Rattle.std.specs.Prelude.{ℕ, List, None}
use Rattle.std.specs.Option.{option_map_or}
use Rattle.gptp_receipt.specs.declared.held.Held.{Held}
use Rattle.gptp_receipt.specs.declared.held.Held.TheVariants as helds
use Rattle.gptp_receipt.specs.declared.held.Reception.{Reception}
use Rattle.gptp_receipt.specs.Held.{received}
use Rattle.gptp_system.specs.declared.sending.Sending.{Sending}
use Rattle.gptp_system.specs.Selection.{Selects}
use Rattle.gptp_system.specs.State.{SystemState, change}

-- what a port received is dropped, and nothing else changes
abbrev pub dropped : Held → Held
dropped h = option_map_or (λ (r : Reception). helds.Aged) (received h) h

-- what the Slave port received, where there is one, is dropped; and the Lapse timer no longer runs
abbrev pub lapsed : SystemState → SystemState
lapsed s = record s {
  held = option_map_or (λ p. change dropped p s.held) s.slave s.held;
  lapse = None;
}

-- The Lapse timer runs out: no time came for syncReceiptTimeout sync intervals. What the Slave port received is too
-- old, and selection follows.
abbrev pub LapseExpires : ℕ → SystemState → SystemState → List Sending → Type 0
LapseExpires now s s' sends = Selects now (lapsed s) s' sends
