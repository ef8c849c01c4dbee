-- What systems read from their first receipts on that count by themselves (profile).
use Rattle.std.specs.Prelude.{ℕ, ◌-◌, ◌==◌, ◌&&◌, nat_le, nat_lt, Bool, true, false, if◌then◌else◌, List, [], ◌∷◌, map, Option, Some, None, unsigned_abs}
use Rattle.std.specs.Option.{option_and_then, option_map, option_map_or}
use Rattle.gptp_model.specs.World.{WorldState}
use Rattle.gptp_world.specs.Transitions.{ActTrace}
use Rattle.gptp_timeline.specs.Jumps.{jump_of}
use Rattle.gptp_timeline.specs.Readings.{new_in, read_after, reading_among, reading_error}
use Rattle.gptp_timeline.specs.Stretch.{at_of}
use Rattle.gptp_timeline.specs.declared.exact_reads.ExactReads.{ExactReads}
use Rattle.gptp_timeline.specs.declared.exact_reads.SystemReads.{SystemReads}
use Rattle.gptp_timeline.specs.declared.readings.Jump.{Jump}
use Rattle.gptp_timeline.specs.declared.readings.NewReading.{NewReading}
use Rattle.gptp_timeline.specs.declared.readings.SystemReading.{SystemReading}

-- the greater of two amounts that may be absent
abbrev pub greater_of : Option ℕ → Option ℕ → Option ℕ
greater_of a None = a
greater_of None (Some b) = Some b
greater_of (Some a) (Some b) = if nat_lt a b then Some b else Some a

abbrev pub later_of : ℕ → ℕ → ℕ
later_of a b = if nat_lt a b then b else a

-- From its first receipt on that counts: when the last was, the longest time from one to the next, and the greatest
-- absolute error that was looked at, at the first by the new reading alone.
abbrev pub reads_next : Bool → ℕ → Option ℕ → Option ℕ → Option ExactReads → Option ExactReads
reads_next true at before after None = Some (record { last = at; longest = 0; worst = after })
reads_next false at before after None = None
reads_next true at before after (Some r) = Some (record {
  last = at;
  longest = later_of r.longest (at - r.last);
  worst = greater_of (greater_of r.worst before) after;
})
reads_next false at before after (Some r) =
    Some (record r { worst = greater_of (greater_of r.worst before) after })

-- a receipt at this time counts where it is at another or later
abbrev pub counts_new : Option ℕ → ℕ → NewReading → Bool
counts_new from at u = u.received && option_map_or (λ time. nat_le time at) from false

abbrev pub reads_jump : Option ℕ → ℕ → NewReading → Jump → SystemReads → SystemReads
reads_jump from at u j x = if x.clock == u.clock then record x {
  reads = reads_next (counts_new from at u) at (option_map unsigned_abs j.before) (option_map unsigned_abs j.after)
      x.reads;
} else x

abbrev pub reads_with : Option ℕ → ℕ → WorldState → NewReading → SystemReads → SystemReads
reads_with from at w u = reads_jump from at u (jump_of at w u)

abbrev pub reads_by : Option ℕ → ℕ → WorldState → Option NewReading → List SystemReads → List SystemReads
reads_by from at w None xs = xs
reads_by from at w (Some u) xs = map (reads_with from at w u) xs

-- after several acts
abbrev pub reads_over : Option ℕ → List SystemReading → List SystemReads → List ActTrace → List SystemReads
reads_over from rs xs [] = xs
reads_over from rs xs (t ∷ ts) =
    reads_over from (read_after t rs) (reads_by from (at_of t) t.after (new_in t rs) xs) ts

abbrev pub unread : ℕ → SystemReads
unread name = record { clock = name; reads = None }

abbrev pub without_reads : SystemReads → SystemReads
without_reads x = record x { reads = None }

abbrev pub reads_among : List SystemReads → ℕ → Option ExactReads
reads_among [] name = None
reads_among (x ∷ xs) name = if x.clock == name then x.reads else reads_among xs name

-- where the stretch ends the system is looked at, and the time since its last receipt counts
abbrev pub reads_ended : ℕ → Option ℕ → ExactReads → ExactReads
reads_ended to error r = record {
  last = r.last;
  longest = later_of r.longest (to - r.last);
  worst = greater_of r.worst error;
}

abbrev pub ended_reads : ℕ → WorldState → List SystemReading → List SystemReads → ℕ → Option ExactReads
ended_reads to w rs xs name =
    option_map (reads_ended to
    (option_map unsigned_abs (option_and_then (reading_error to w name) (reading_among rs name))))
    (reads_among xs name)
