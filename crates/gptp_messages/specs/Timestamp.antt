-- The timestamp after the header of a Follow_Up and of both responses: preciseOriginTimestamp,
-- requestReceiptTimestamp, responseOriginTimestamp (IEEE 1588-2019, 5.3.3).
use Rattle.std.specs.Prelude.{ℕ, ◌<◌, List, ◌++◌}
use Rattle.byteorder.specs.Endian.{big_bytes}
use Rattle.gptp_scaled.specs.Stamp.{Timestamp}
use Rattle.gptp_messages.specs.Frame.{field}

-- six octets of seconds, four of nanoseconds
abbrev pub stamp_of : List ℕ → Timestamp
stamp_of f = record { seconds = field 6 34 f; nanos = field 4 40 f }

-- the nanoseconds make no second
abbrev pub HasStamp : List ℕ → Type 0
HasStamp f = field 4 40 f < 1000000000

abbrev pub written_stamp : Timestamp → List ℕ
written_stamp t = big_bytes 6 t.seconds ++ big_bytes 4 t.nanos
