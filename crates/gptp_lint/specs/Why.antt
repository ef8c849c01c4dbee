-- The words for why a document is refused (profile).
use Rattle.std.specs.Prelude.{ℕ, ℤ, if◌then◌else◌, codes, List, ◌++◌}
use Rattle.std.specs.Fmt.{decimal, signed_decimal}
use Rattle.gptp_vector.specs.declared.port.PortId.{PortId}
use Rattle.gptp_setup.specs.Intervals.{interval_of}
use Rattle.gptp_setup.specs.declared.setup.Params.{Params}
use Rattle.gptp_scenario.specs.Params.{is_log}
use Rattle.gptp_scenario.specs.Faults as plans
use Rattle.gptp_network.specs.Keys.{name_text}
use Rattle.gptp_network.specs.declared.why.Shape.{Shape}
use Rattle.gptp_network.specs.declared.why.Shape.TheVariants as shapes
use Rattle.gptp_network.specs.declared.why.Why.{Why}
use Rattle.gptp_network.specs.declared.why.Why.TheVariants as whys
use Rattle.gptp_words.specs.Digits.{clock_text}
use Rattle.gptp_lint.specs.Unread.{escaped}

abbrev pub shape_word : Shape → List ℕ
shape_word shapes.Text = codes "text"
shape_word shapes.Whole = codes "whole"
shape_word shapes.Float = codes "float"
shape_word shapes.Flag = codes "true_or_false"
shape_word shapes.Date = codes "date"
shape_word shapes.Array = codes "array"
shape_word shapes.Table = codes "table"

-- a port, as its clock and its number
abbrev pub port_words : PortId → List ℕ
port_words port = clock_text port.clock ++ codes " " ++ decimal port.port

-- an interval by its logarithm, in ns; 0 where it is none of a port
abbrev pub nanoseconds : ℤ → ℕ
nanoseconds log = if is_log log then interval_of log else 0

-- the intervals that don't go together, where those of announcements are at this interval
abbrev pub timing_words : Params → ℤ → List ℕ
timing_words p announce =
    codes "threshold " ++ (decimal p.threshold ++ (codes " turnaround " ++ (decimal p.turnaround
    ++ (codes " pdelay " ++ (decimal (nanoseconds p.pdelay) ++ (codes " announce " ++ (decimal (nanoseconds announce)
    ++ (codes " residence " ++ (decimal p.residence ++ (codes " sync " ++ decimal (nanoseconds p.sync)))))))))))

abbrev pub why_words : Why → List ℕ
why_words (whys.Missing key) = codes "key " ++ name_text key ++ codes " missing"
why_words (whys.Kind key shape) = codes "key " ++ name_text key ++ codes " kind " ++ shape_word shape
why_words (whys.Natural key value least most) =
    codes "key " ++ name_text key ++ codes " value " ++ signed_decimal value ++ codes " least " ++ decimal least
    ++ codes " most " ++ decimal most
why_words (whys.Whole key value least most) =
    codes "key " ++ name_text key ++ codes " value " ++ signed_decimal value ++ codes " least " ++ signed_decimal least
    ++ codes " most " ++ signed_decimal most
why_words (whys.Intervals count ports) = codes "key announce count " ++ decimal count ++ codes " of " ++ decimal ports
why_words (whys.Text key front) =
    codes "key " ++ name_text key ++ codes " value " ++ escaped front.octets.items ++ codes " length "
    ++ decimal front.count
why_words (whys.Above least greatest) = codes "key min value " ++ decimal least ++ codes " above " ++ decimal greatest
why_words (whys.TooMany count most) = codes "count " ++ decimal count ++ codes " most " ++ decimal most
why_words (whys.Duplicate clock system) =
    codes "clock " ++ (clock_text clock ++ (codes " as system " ++ decimal system))
why_words (whys.BothEnds clock) = codes "clock " ++ (clock_text clock ++ codes " at both ends")
why_words (whys.UnknownClock clock) = codes "clock " ++ clock_text clock ++ codes " unknown"
why_words (whys.Beyond port ports) = codes "port " ++ port_words port ++ codes " of " ++ decimal ports
why_words (whys.Unlinked port) = codes "port " ++ port_words port ++ codes " unlinked"
why_words (whys.Taken port link) = codes "port " ++ (port_words port ++ (codes " as link " ++ decimal link))
why_words (whys.TooLong greatest most) = codes "key max value " ++ decimal greatest ++ codes " most " ++ decimal most
why_words (whys.Before at before) = codes "at " ++ decimal at ++ codes " before " ++ decimal before
why_words (whys.Timing params announce) = timing_words params announce
why_words (whys.Other fault) = codes "fault " ++ plans.network_fault_text fault
why_words whys.Memory = codes "memory"
