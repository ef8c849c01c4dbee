-- What became of a stretch, over its acts: how long the choice took to stand, how long systems waited for time, how far
-- it was off, and who was left without (profile).
use Rattle.std.specs.Prelude.{ℕ, ◌+◌, ◌-◌, ◌==◌, ◌&&◌, ◌||◌, nat_le, nat_lt, not, Bool, true, false, if◌then◌else◌, List, [], ◌∷◌, ◌++◌, drop, get_or, map, Option, Some, None, is_some, ℤ, unsigned_abs}
use Rattle.std.specs.List.{count_by, filter, filter_map, list_any}
use Rattle.std.specs.Option.{option_and_then, option_map, option_map_or, option_or}
use Rattle.gptp_scenario.specs.declared.change.Act.{Act}
use Rattle.gptp_scenario.specs.declared.change.Act.TheVariants.{Change as Changing, Deliver, Expire}
use Rattle.gptp_world.specs.Transitions.{ActTrace}
use Rattle.gptp_timeline.specs.Measures.{ended_by, greatest, one_at, since_after}
use Rattle.gptp_timeline.specs.Ports.{same_bool}
use Rattle.gptp_timeline.specs.Receipts.{offset_error, received_by}
use Rattle.gptp_timeline.specs.Shown.{is_expecting, is_known, live_system, same_choice, same_roles, shown}
use Rattle.gptp_timeline.specs.declared.counts.Counts.{Counts}
use Rattle.gptp_timeline.specs.declared.measures.Greatest.{Greatest}
use Rattle.gptp_timeline.specs.declared.measures.Measures.{Measures}
use Rattle.gptp_timeline.specs.declared.shown.Shown.{Shown}
use Rattle.gptp_timeline.specs.declared.watched.Watched.{Watched}
use Rattle.gptp_accuracy.specs.TimeErrors.{root_is_capable}

-- ---- an act

abbrev pub at_of : ActTrace → ℕ
at_of t = t.told.timed.at

abbrev pub is_change : Act → Bool
is_change (Deliver link direction) = false
is_change (Expire clock timer) = false
is_change (Changing change) = true

-- it is an event
abbrev pub is_event : ActTrace → Bool
is_event t = is_change t.told.timed.act

-- a system receives time by it
abbrev pub receives : ℕ → ActTrace → Bool
receives name t = option_map_or (λ clock. clock == name) (received_by t.told.done) false

-- ---- the last act that left some system another

-- something of a system isn't as before
abbrev pub leaves_another : (Option Shown → Option Shown → Bool) → List ℕ → ActTrace → Bool
leaves_another same names t = list_any (λ name. not (same (shown name t.before) (shown name t.after))) names

-- when the last of these acts was that passes a test
abbrev pub last_at : (ActTrace → Bool) → List ActTrace → Option ℕ
last_at test [] = None
last_at test (t ∷ ts) = option_or (last_at test ts) (if test t then Some (at_of t) else None)

abbrev pub same_known : Option Shown → Option Shown → Bool
same_known before after = same_bool (is_known before) (is_known after)

-- ---- waits

-- Since when each system has been waiting, after an act.
abbrev pub waits_after : ActTrace → (ℕ → Option ℕ) → ℕ → Option ℕ
waits_after t since name = since_after (at_of t) (receives name t) (is_expecting (shown name t.before))
    (is_expecting (shown name t.after)) (since name)

-- after several acts, one after another
abbrev pub waits : List ActTrace → (ℕ → Option ℕ) → ℕ → Option ℕ
waits [] since = since
waits (t ∷ ts) since = waits ts (waits_after t since)

-- the waits that an act ended, by rising clock
abbrev pub ended_in : List ℕ → (ℕ → Option ℕ) → ActTrace → List Greatest
ended_in names since t = filter_map (λ name. option_map (one_at name) (ended_by (at_of t) (is_event t)
    (receives name t) (is_expecting (shown name t.after)) (since name))) names

-- those that several acts ended, in their order
abbrev pub ended : List ℕ → (ℕ → Option ℕ) → List ActTrace → List Greatest
ended names since [] = []
ended names since (t ∷ ts) = ended_in names since t ++ ended names (waits_after t since) ts

-- those that are under way at a time, by rising clock
abbrev pub under_way : List ℕ → (ℕ → Option ℕ) → ℕ → List Greatest
under_way names since time = filter_map (λ name. option_map (λ begun. one_at name (time - begun)) (since name)) names

-- The longest wait of a stretch that ends at a time: of those that its acts ended, and of those that are under way
-- where it ends. Of equals it is that whose ending act came first.
abbrev pub holdover : List ℕ → (ℕ → Option ℕ) → ℕ → List ActTrace → Option Greatest
holdover names since time ts = greatest (ended names since ts ++ under_way names (waits ts since) time)

-- ---- errors

-- the error of the receipt of a system by an act
abbrev pub error_at : ℕ → ActTrace → Option ℤ
error_at name t = option_and_then (λ s. offset_error (at_of t) s t.after) (live_system name t.after)

-- without its sign, with the system that received
abbrev pub error_in : ActTrace → Option Greatest
error_in t = option_and_then (λ name.
    option_map (λ error. one_at name (unsigned_abs error)) (error_at name t)) (received_by t.told.done)

-- the greatest of all receipts; of equals the first
abbrev pub worst_error : List ActTrace → Option Greatest
worst_error ts = greatest (filter_map error_in ts)

-- a receipt of this system, at a time or later
abbrev pub counts_for : ℕ → Option ℕ → ActTrace → Bool
counts_for name from t = option_map_or (λ time. nat_le time (at_of t)) from false && receives name t

-- the greatest of the receipts of one system from a time on
abbrev pub error_from : ℕ → Option ℕ → List ActTrace → Option ℕ
error_from name from ts =
    option_map (λ (g : Greatest). g.amount) (greatest (filter_map error_in (filter (counts_for name from) ts)))

-- ---- what is measured of a stretch that ends at a time: of its acts, and since when each system waited before

abbrev pub measured : List ℕ → (ℕ → Option ℕ) → ℕ → List ActTrace → Measures
measured names since time ts = record {
  choice = last_at (leaves_another same_choice names) ts;
  roles = last_at (leaves_another same_roles names) ts;
  offsets = last_at (leaves_another same_known names) ts;
  holdover = holdover names since time ts;
  error = worst_error ts;
}

-- ---- where it ends

-- a live system has no time: its root can't be a grandmaster, or it has a Slave port and no offset
abbrev pub goes_without : Shown → Bool
goes_without s = not (root_is_capable s.root) || (is_some s.slave && not s.known)

abbrev pub is_without : Option Shown → Bool
is_without shown = option_map_or goes_without shown false

-- the roots that live systems follow
abbrev pub roots_of : List (Option Shown) → List ℕ
roots_of = filter_map (option_map (λ (s : Shown). s.root))

abbrev pub times : List ℕ → ℕ → ℕ
times roots root = count_by (λ other. other == root) roots

-- each once
abbrev pub distinct : List ℕ → List ℕ
distinct [] = []
distinct (root ∷ roots) = if nat_lt 0 (times roots root) then distinct roots else root ∷ distinct roots

-- the root at a place is there twice or more, and for the last time there
abbrev pub last_of_several : List ℕ → ℕ → Bool
last_of_several roots place =
    times (drop (place + 1) roots) (get_or roots place 0) == 0 && nat_lt 1 (times roots (get_or roots place 0))

abbrev pub shown_of_all : List Watched → List (Option Shown)
shown_of_all = map (λ (x : Watched). x.shown)

-- a root after others, where there is one
abbrev pub with_root : Option Shown → List ℕ → List ℕ
with_root None roots = roots
with_root (Some s) roots = roots ++ s.root ∷ []

-- How many live systems have no time, how many different roots two or more systems follow, and how many systems follow
-- a root that no other does: where so many have no time, and these are the roots that live systems follow.
abbrev pub counted_roots : ℕ → List ℕ → Counts
counted_roots without roots = record {
  without = without;
  roots = count_by (λ root. nat_lt 1 (times roots root)) (distinct roots);
  alone = count_by (λ root. times roots root == 1) roots;
}

abbrev pub counted : List (Option Shown) → Counts
counted all = counted_roots (count_by is_without all) (roots_of all)
