-- How long what a port received stays there (IEEE 802.1AS-2020, 10.7.3.2).
use Rattle.std.specs.Prelude.{ℕ, ℤ, Option}
use Rattle.std.specs.Option.{option_map}
use Rattle.gptp_setup.specs.SettlingParams.{span_by}
use Rattle.gptp_receipt.specs.declared.held.Held.{Held}
use Rattle.gptp_receipt.specs.declared.held.Reception.{Reception}
use Rattle.gptp_receipt.specs.Held.{received}

-- announceReceiptTimeout times the interval that was heard, in ns; none where nothing was received
abbrev pub span_of : Held → ℕ → ℤ → Option ℕ
span_of held timeout largest =
    option_map (λ (r : Reception). span_by timeout largest r.interval) (received held)
