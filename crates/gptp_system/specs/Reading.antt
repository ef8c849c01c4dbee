-- What a system reads of time between two Follow_Ups (IEEE 802.1AS-2020, 10.2.13, clockSlaveTime). Times of clocks are
-- in units of 2^-16 ns, and rates in units of 2^-41.
use Rattle.std.specs.Prelude.{ℤ, ◌+ℤ◌, ◌-ℤ◌}
use Rattle.gptp_scaled.specs.Rate.{scaled_by}
use Rattle.gptp_correction.specs.Correction.{nearest_rate}
use Rattle.gptp_correction.specs.declared.sync_in.SyncInfo.{SyncInfo}
use Rattle.gptp_system.specs.declared.reading.Reading.{Reading}
use Rattle.gptp_system.specs.declared.reading.TimeRead.{TimeRead}
use Rattle.gptp_system.specs.declared.reading.TimeRead.TheVariants as reads

-- What a Follow_Up leaves whose numbers fit, where the neighbour has this rate. The rate is the sum of the one received
-- and the neighbour's, held at the limits of Integer32.
abbrev pub reading_of : SyncInfo → ℤ → ℤ → Reading
reading_of known offset neighbour = record {
  ingress = known.ingress;
  offset = offset;
  rate = nearest_rate (known.rate +ℤ neighbour);
}

-- What is read where the own clock shows this: the root's time as the Sync came, and what has passed since then at that
-- rate.
abbrev pub read_at : Reading → ℤ → ℤ
read_at r shown = (r.ingress -ℤ r.offset) +ℤ scaled_by r.rate (shown -ℤ r.ingress)

-- what is read by a Follow_Up, or by the own clock with this base
abbrev pub read_by : TimeRead → ℤ → ℤ → ℤ
read_by (reads.Received r) base shown = read_at r shown
read_by reads.Own base shown = shown +ℤ base
