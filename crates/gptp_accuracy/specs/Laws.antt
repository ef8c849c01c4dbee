-- What time errors promise beyond single calls.
use Rattle.std.specs.Prelude.{◌≡◌, ℕ, Bool, List, length}
use Rattle.gptp_graph.specs.Snapshot.{IsWellFormed, Snapshot}
use Rattle.gptp_scenario.specs.Network.{IsNetwork, NetworkState}
use Rattle.gptp_scenario.specs.declared.change.Timed.{Timed}
use Rattle.gptp_network.specs.Document.{DocumentState, Means}
use Rattle.gptp_error_laws.specs.TimeError.{Way, reading_error}
use Rattle.gptp_error_laws.specs.WayLaws.{IsDocumented}
use Rattle.gptp_accuracy.specs.AccuracyText.{AccuracyText, reading_at}
use Rattle.gptp_accuracy.specs.TimeErrors.{HasByWay, IsExact}
use Rattle.gptp_accuracy.specs.Ways.{IsWay}
use Rattle.gptp_accuracy.specs.declared.errors.SystemError.{SystemError}
use Rattle.gptp_accuracy.specs.declared.options.AccuracyOptions.{AccuracyOptions}

-- two ways of a system are one, and have as many links as the system has steps
abbrev pub OneWay : Type 0
OneWay = (n : NetworkState) (events : List Timed) (g : Snapshot) (clock h k : ℕ) (v w : Way) → IsNetwork n
    → IsWellFormed g → IsWay n events g h clock v → IsWay n events g k clock w
    → (v ≡ w) × (length v.links ≡ h) × (h ≡ k)

-- the numbers of a way are those of a document
abbrev pub WaysAreDocumented : Type 0
WaysAreDocumented = (n : NetworkState) (events : List Timed) (g : Snapshot) (clock h : ℕ) (w : Way) → IsNetwork n
    → IsWay n events g h clock w → IsDocumented w

-- the error of what a system reads so long after a receipt is that of its way
abbrev pub ReadingErrorsAreOfWays : Type 0
ReadingErrorsAreOfWays = (n : NetworkState) (events : List Timed) (g : Snapshot) (s : SystemError) (later : ℕ)
    → IsExact n events g s → HasByWay n events g s (λ w. reading_error w later) (reading_at s later)

-- two texts of a document at a time are one
abbrev pub OneAccuracy : Type 0
OneAccuracy = (d : DocumentState) (until : ℕ) (options : AccuracyOptions) (lines others : List (List ℕ))
    (one other : Bool) → IsNetwork d.network → AccuracyText d until options lines one
    → AccuracyText d until options others other → (lines ≡ others) × (one ≡ other)

-- each document has a text at each time
abbrev pub EachIsExact : Type 0
EachIsExact = (text : List ℕ) (d : DocumentState) (until : ℕ) (options : AccuracyOptions) → Means text d
    → (lines : List (List ℕ)) × (exceeded : Bool) × AccuracyText d until options lines exceeded
