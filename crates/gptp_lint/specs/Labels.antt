-- How the bests of components are found: links join systems one after another (profile).
use Rattle.std.specs.Prelude.{ℕ, ◌==◌, ◌&&◌, not, nat_lt, if◌then◌else◌, List, [], ◌∷◌, map, Option, Some, None, slice_get}
use Rattle.std.specs.List.{flat_map}
use Rattle.gptp_topology.specs.declared.nodes.System.{System}
use Rattle.gptp_lint.specs.Graph.{GraphState}
use Rattle.gptp_lint.specs.declared.graph.Edge.{Edge}
use Rattle.gptp_lint.specs.declared.labels.Label.{Label}

-- a system that isn't joined to another
abbrev pub lone_label : System → Label
lone_label o = record { identity = o.identity; lives = o.lives; best = o.identity }

-- another best for one
abbrev pub relabelled : ℕ → ℕ → Label → Label
relabelled old new l =
    if l.best == old then record { identity = l.identity; lives = l.lives; best = new } else l

-- those that have these bests have the better one
abbrev pub united : ℕ → ℕ → List Label → List Label
united one other ls =
    if nat_lt one other then map (relabelled other one) ls
    else if nat_lt other one then map (relabelled one other) ls else ls

abbrev pub united_if : Option ℕ → Option ℕ → List Label → List Label
united_if None other ls = ls
united_if (Some one) None ls = ls
united_if (Some one) (Some other) ls = united one other ls

-- the best that the system at a place has, if it lives
abbrev pub best_if_live : Option Label → Option ℕ
best_if_live None = None
best_if_live (Some l) = if l.lives then Some l.best else None

abbrev pub live_best : List Label → ℕ → Option ℕ
live_best ls place = best_if_live (slice_get ls place)

-- the systems at the ends of a link are joined, where that is up and both live
abbrev pub joined : Edge → List Label → List Label
joined e ls = if e.up then united_if (live_best ls e.from) (live_best ls e.to) ls else ls

abbrev pub joined_all : List Edge → List Label → List Label
joined_all [] ls = ls
joined_all (e ∷ es) ls = joined_all es (joined e ls)

-- the systems, each with the best of its component
abbrev pub labels_in : GraphState → List Label
labels_in g = joined_all g.edges (map lone_label g.systems)

-- the identity of a system that is the best of its component
abbrev pub best_at : Label → List ℕ
best_at l = if l.lives && (l.best == l.identity) then l.identity ∷ [] else []

abbrev pub bests_in : List Label → List ℕ
bests_in = flat_map best_at

-- the better one
abbrev pub better_label : ℕ → Option ℕ → ℕ
better_label id None = id
better_label id (Some other) = if nat_lt id other then id else other

-- the best of the others of the component with this best: this so far, and with one system more
abbrev pub with_other : ℕ → Label → Option ℕ → Option ℕ
with_other best l second =
    if l.lives && ((l.best == best) && not (l.identity == best)) then Some (better_label l.identity second) else second

abbrev pub second_in : ℕ → Option ℕ → List Label → Option ℕ
second_in best second [] = second
second_in best second (l ∷ ls) = second_in best (with_other best l second) ls
