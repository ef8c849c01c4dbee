-- What one act does to what is measured of a system (profile).
use Rattle.std.specs.Prelude.{ℕ, ◌-◌, ◌&&◌, ◌||◌, nat_lt, not, Bool, if◌then◌else◌, List, [], ◌∷◌, Option, Some, None}
use Rattle.gptp_timeline.specs.declared.measures.Greatest.{Greatest}

-- ---- the greatest of several

-- of equals the first stays
abbrev pub better : Option Greatest → Greatest → Option Greatest
better None one = Some one
better (Some best) one = if nat_lt best.amount one.amount then Some one else Some best

abbrev pub better_if : Option Greatest → Option Greatest → Option Greatest
better_if best None = best
better_if best (Some one) = better best one

-- the greatest of one that is there, and of those after it
abbrev pub greatest_from : Option Greatest → List Greatest → Option Greatest
greatest_from best [] = best
greatest_from best (one ∷ others) = greatest_from (better best one) others

abbrev pub greatest : List Greatest → Option Greatest
greatest = greatest_from None

abbrev pub one_at : ℕ → ℕ → Greatest
one_at clock amount = record { amount = amount; clock = clock }

-- ---- waits

-- When the wait under way of a system began, after an act at a time. There is one while the system expects time. It
-- begins with the act by which it begins to, and anew with each receipt.
abbrev pub since_after : ℕ → Bool → Bool → Bool → Option ℕ → Option ℕ
since_after at received before after since =
    if after then (if before && not received then since else Some at) else None

-- How long the wait was that an act ended: one by which time was received, or by which the system ceased to expect it.
-- What an event ends counts nowhere.
abbrev pub ended_by : ℕ → Bool → Bool → Bool → Option ℕ → Option ℕ
ended_by at by_event received after None = None
ended_by at by_event received after (Some since) =
    if not by_event && (received || not after) then Some (at - since) else None

-- ---- the last act that left something another

abbrev pub last_if : Bool → ℕ → Option ℕ → Option ℕ
last_if same at last = if same then last else Some at
