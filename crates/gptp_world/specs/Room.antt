-- Room for what calls of systems leave. It is made before them.
use Rattle.std.specs.Prelude.{◌≡◌, ◌≤◌, ◌+◌, ◌*◌, ℕ, zero, suc, List, length}
use Rattle.gptp_system.specs.declared.sending.Sending.{Sending}
use Rattle.gptp_system.specs.State.{SystemState}
use Rattle.gptp_world.specs.declared.net.Net.{Net as Between}
use Rattle.gptp_world.specs.Net.{between}

-- ---- what is needed

-- entries of what is pending, and buffers
pub record Need : Type 0 where
  pub entries : ℕ
  pub buffers : ℕ

abbrev pub no_room : Need
no_room = record { entries = 0; buffers = 0 }

abbrev pub both : Need → Need → Need
both first second = record {
  entries = first.entries + second.entries;
  buffers = first.buffers + second.buffers;
}

abbrev pub repeated : ℕ → Need → Need
repeated zero need = no_room
repeated (suc count) need = both need (repeated count need)

-- the room that it takes to set this many timers
abbrev pub for_timers : ℕ → Need
for_timers count = record { entries = count; buffers = 0 }

-- these sends go
abbrev pub for_sends : List Sending → Need
for_sends xs = record { entries = length xs; buffers = length xs }

-- a call of a system: each of its timers, and two sends at each port
abbrev pub for_call : SystemState → Need
for_call s = record { entries = 6 * length s.ports + 3; buffers = 2 * length s.ports }

-- ---- room

pub record WorldHasRoom (need : Need) (net : Between) : Type 0 where
  pub entries : need.entries ≤ net.traffic.room
  pub buffers : need.buffers ≤ net.buffers.ready

-- who is where stays, and no more room is used than this
pub record Uses (need : Need) (net net' : Between) : Type 0 where
  pub directory : net'.directory ≡ net.directory
  pub systems : net'.traffic.systems ≡ net.traffic.systems
  pub entries : net.traffic.room ≤ net'.traffic.room + need.entries
  pub buffers : net.buffers.ready ≤ net'.buffers.ready + need.buffers

-- a frame that is injected
abbrev pub for_frame : Need
for_frame = record { entries = 1; buffers = 1 }

-- nothing changes but the room that there is, and there is no less of it
pub record OnlyRoom (net net' : Between) : Type 0 where
  pub same : between net' ≡ between net
  pub directory : net'.directory ≡ net.directory
  pub systems : net'.traffic.systems ≡ net.traffic.systems
  pub entries : net.traffic.room ≤ net'.traffic.room
  pub buffers : net.buffers.ready ≤ net'.buffers.ready
