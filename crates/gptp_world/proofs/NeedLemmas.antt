-- What is needed of the room, and what is left of it.
use Rattle.std.proofs.Common.{◌≡◌, ℕ, zero, suc, ◌*◌, ◌≤◌, List, ◌++◌, refl, ◌∙◌, arith}
use Rattle.std.proofs.lemmas.List.{length-append}
use Rattle.std.proofs.Math.Nat.{suc-mul}
use Rattle.gptp_system.specs.declared.sending.Sending.{Sending}
use Rattle.gptp_world.specs.declared.net.Net.{Net as Between}
use Rattle.gptp_world.specs.Net.{OnlyEntries}
use Rattle.gptp_world.specs.Room.{both, for_sends, for_timers, no_room, repeated, WorldHasRoom, Need, Uses}

-- ---- more and less

-- one needs no more than the other
pub record Covers (large small : Need) : Type 0 where
  pub entries : small.entries ≤ large.entries
  pub buffers : small.buffers ≤ large.buffers

pub covered : (large small : Need) (net : Between) → Covers large small → WorldHasRoom large net
    → WorldHasRoom small net
covered large small net covers has = record {
  entries = omega (arith, covers.entries, has.entries);
  buffers = omega (arith, covers.buffers, has.buffers);
}

-- what uses no more than that uses no more than a larger need
pub uses_less : (large small : Need) (net net' : Between) → Covers large small → Uses small net net'
    → Uses large net net'
uses_less large small net net' covers uses = record {
  directory = uses.directory;
  systems = uses.systems;
  entries = omega (arith, covers.entries, uses.entries);
  buffers = omega (arith, covers.buffers, uses.buffers);
}

-- one after another
pub uses_both : (first second : Need) (net between net' : Between) → Uses first net between → Uses second between net'
    → Uses (both first second) net net'
uses_both first second net between net' a b = record {
  directory = b.directory ∙ a.directory;
  systems = b.systems ∙ a.systems;
  entries = omega (arith, a.entries, b.entries);
  buffers = omega (arith, a.buffers, b.buffers);
}

-- what is left once the first of two was used
pub left_of : (first second : Need) (net net' : Between) → Uses first net net' → WorldHasRoom (both first second) net
    → WorldHasRoom second net'
left_of first second net net' uses has = record {
  entries = omega (arith, uses.entries, has.entries);
  buffers = omega (arith, uses.buffers, has.buffers);
}

-- where nothing is used there still is room
pub still_room : (need : Need) (net net' : Between) → Uses no_room net net' → WorldHasRoom need net
    → WorldHasRoom need net'
still_room need net net' uses has = record {
  entries = omega (arith, uses.entries, has.entries);
  buffers = omega (arith, uses.buffers, has.buffers);
}

-- what changes nothing uses no room
pub unsent : (need : Need) (net : Between) → Uses need net net
unsent need net = record { directory = refl; systems = refl; entries = omega arith; buffers = omega arith }

-- ---- timers and sends

pub uses_timers : (used : ℕ) (net net' : Between) → OnlyEntries used net net' → Uses (for_timers used) net net'
uses_timers used net net' only =
    let buffers = only.buffers in record {
      directory = only.directory;
      systems = only.systems;
      entries = only.room;
      buffers = rw buffers (omega arith);
    }

-- sends one after another need what they need together
pub sends_covered : (xs ys : List Sending) → Covers (for_sends (xs ++ ys)) (both (for_sends xs) (for_sends ys))
sends_covered xs ys =
    let same = length-append xs ys in record { entries = omega (arith, same); buffers = omega (arith, same) }

-- ---- several calls

-- so many times as much
pub repeated-covered : (count : ℕ) (need large : Need) → count * need.entries ≤ large.entries
    → count * need.buffers ≤ large.buffers → Covers large (repeated count need)
repeated-covered count need large entries buffers =
    record { entries = rw (entries_of count) entries; buffers = rw (buffers_of count) buffers }
  where
    entries_of : (k : ℕ) → (repeated k need).entries ≡ k * need.entries
    entries_of zero = omega arith
    entries_of (suc k) = let ih = entries_of k in let more = suc-mul k need.entries in omega (arith, ih, more)

    buffers_of : (k : ℕ) → (repeated k need).buffers ≡ k * need.buffers
    buffers_of zero = omega arith
    buffers_of (suc k) = let ih = buffers_of k in let more = suc-mul k need.buffers in omega (arith, ih, more)
