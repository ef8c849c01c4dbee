-- What can be pending, and when two such things are the same.
use Rattle.std.specs.Prelude.{ℕ, ◌==◌, ◌&&◌, Bool}
use Rattle.gptp_links.specs.declared.link.Direction.TheVariants.{FromA, FromB}
use Rattle.gptp_setup.specs.declared.timer.Timer.{Timer}
use Rattle.gptp_setup.specs.declared.timer.Timer.TheVariants as timers
use Rattle.gptp_model.specs.declared.item.Item.{Item}
use Rattle.gptp_model.specs.declared.item.Item.TheVariants.{Expiry, Arrival}

-- the kind of a timer, and the number of its port; 0 where it belongs to the system
abbrev pub timer_kind : Timer → ℕ
timer_kind (timers.Pdelay p) = 0
timer_kind (timers.Respond p) = 1
timer_kind (timers.Announce p) = 2
timer_kind (timers.Age p) = 3
timer_kind timers.Sync = 4
timer_kind timers.Relay = 5
timer_kind timers.Lapse = 6

abbrev pub timer_port : Timer → ℕ
timer_port (timers.Pdelay p) = p
timer_port (timers.Respond p) = p
timer_port (timers.Announce p) = p
timer_port (timers.Age p) = p
timer_port timers.Sync = 0
timer_port timers.Relay = 0
timer_port timers.Lapse = 0

-- what tells an item from all others: the place of its system or link, its kind and its port
abbrev pub item_key : Item → ℕ
item_key (Expiry place timer) = place
item_key (Arrival link direction) = link

abbrev pub item_kind : Item → ℕ
item_kind (Expiry place timer) = timer_kind timer
item_kind (Arrival link FromA) = 7
item_kind (Arrival link FromB) = 8

abbrev pub item_port : Item → ℕ
item_port (Expiry place timer) = timer_port timer
item_port (Arrival link direction) = 0

abbrev pub same_item : Item → Item → Bool
same_item a b = item_key a == item_key b && (item_kind a == item_kind b && item_port a == item_port b)
