-- Whether a loss leaves each system alone, which was at one link at most (profile).
use Rattle.std.specs.Prelude.{ℕ, ◌==◌, ◌&&◌, ◌||◌, nat_le, not, Bool, List, length, slice_get}
use Rattle.std.specs.List.{count_by, list_all, range_with_len}
use Rattle.gptp_scenario.specs.Network.{NetworkState}
use Rattle.gptp_scenario.specs.declared.change.Timed.{Timed}
use Rattle.gptp_topology.specs.After.{systems_after}
use Rattle.gptp_topology.specs.declared.nodes.System.{System}
use Rattle.gptp_how_soon.specs.Chosen.{ends_at, used_ends}
use Rattle.gptp_how_soon.specs.Silent.{is_live}
use Rattle.gptp_how_soon.specs.declared.chosen.Ends.{Ends}

-- the system at a place doesn't live, or at most one of these links ends there
abbrev pub has_one_at_most : List System → List Ends → ℕ → Bool
has_one_at_most systems links place =
    not (is_live (slice_get systems place)) || nat_le (count_by (ends_at place) links) 1

-- no link is left, and each system that lives was at one at most of those of before
abbrev pub leaves_alone : List System → List Ends → List Ends → Bool
leaves_alone systems before now =
    (length now == 0) && list_all (has_one_at_most systems before) (range_with_len 0 (length systems))

-- between these events and more of them
abbrev pub leaves_alone_after : NetworkState → List Timed → List Timed → Bool
leaves_alone_after n made events = leaves_alone (systems_after n events) (used_ends n made) (used_ends n events)
