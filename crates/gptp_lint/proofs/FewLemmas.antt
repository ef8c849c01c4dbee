-- How many there are of what is found, at most.
use Rattle.std.proofs.Common.{◌≡◌, ◌==◌, ◌&&◌, ◌+◌, ◌*◌, ◌≤◌, ◌++◌, ℕ, suc, Bool, true, false, cond, not, nat_lt, List, [], ◌∷◌, length, map, filter, flat_map, Option, Some, None, option_to_list, Result, Ok, Err, codes, refl, ◌∙◌, inl, inr, arith, ltb-false}
use Rattle.std.specs.Prelude.{if◌then◌else◌}
use Rattle.std.specs.List.{AllByRecursion}
use Rattle.std.proofs.lemmas.List.{length-append, length-map}
use Rattle.toml.specs.Data.{item, no_items, Data, Items, Members, as_table}
use Rattle.gptp_lists.specs.Members.{In}
use Rattle.gptp_scenario.specs.Calm.{last_change}
use Rattle.gptp_scenario.specs.Network.{NetworkState}
use Rattle.gptp_scenario.specs.declared.change.Timed.{Timed}
use Rattle.gptp_scenario.specs.declared.network.LinkSpec.{LinkSpec}
use Rattle.gptp_network.specs.Document.{document_of, whole_network_of, DocumentState, Means}
use Rattle.gptp_network.specs.Events.{change_fault, event_of, events_of, not_before, timed, with_event_of}
use Rattle.gptp_network.specs.Members.{count, each_of, limited}
use Rattle.gptp_network.specs.Values.{array_at, kind_of, natural}
use Rattle.gptp_network.specs.declared.fault.DocumentFault.{DocumentFault}
use Rattle.gptp_network.specs.declared.fault.DocumentFault.TheVariants.{TooMany}
use Rattle.gptp_network.proofs.GivenLemmas.{given, next, refused, unless_faulty, Gives}
use Rattle.gptp_topology.specs.Course.{acted, course_at_time, course_from, course_of, first, past}
use Rattle.gptp_topology.specs.Times.{times_from}
use Rattle.gptp_topology.specs.Trouble.{loss_in_use}
use Rattle.gptp_topology.specs.declared.course.Standing.{Standing}
use Rattle.gptp_lint.specs.Components.{apart_at, apart_from, decides_by_clock, is_told, nobody_at, nobody_from, nobody_if}
use Rattle.gptp_lint.specs.Graph.{GraphState}
use Rattle.gptp_lint.specs.Labels.{lone_label, best_at, bests_in, joined, joined_all, labels_in, live_best, relabelled, second_in, united, united_if}
use Rattle.gptp_lint.specs.Moments.{chance_at, chance_if}
use Rattle.gptp_lint.specs.Trouble.{long_of, longs_of, lossies_of, next_other, lossy_stretch, stretches}
use Rattle.gptp_lint.specs.declared.components.Apart.{Apart}
use Rattle.gptp_lint.specs.declared.components.Moment.{Moment}
use Rattle.gptp_lint.specs.declared.components.Nobody.{Nobody}
use Rattle.gptp_lint.specs.declared.graph.Edge.{Edge}
use Rattle.gptp_lint.specs.declared.labels.Label.{Label}
use Rattle.gptp_lint.specs.declared.trouble.Lossy.{Lossy}

-- ---- lists

one_or_none : {X : Type 0} (test : Bool) (x : X) → length (cond test (x ∷ []) []) ≤ 1
one_or_none true x = omega arith
one_or_none false x = omega arith

none_or_few : {X : Type 0} (test : Bool) (xs : List X) → length xs ≤ 1 → length (cond test [] xs) ≤ 1
none_or_few true xs few = omega arith
none_or_few false xs few = few

at_most_one : {X : Type 0} (o : Option X) → length (option_to_list o) ≤ 1
at_most_one None = omega arith
at_most_one (Some x) = omega arith

-- one more at most, and so many after it
few_more : {X : Type 0} (xs ys : List X) (n : ℕ) → length xs ≤ 1 → length ys ≤ n → length (xs ++ ys) ≤ suc n
few_more xs ys n one few = let both = length-append xs ys in omega arith

pub few_kept : {X : Type 0} (p : X → Bool) (xs : List X) → length (filter p xs) ≤ length xs
few_kept p [] = omega arith
few_kept p (x ∷ xs) = by (p x) (few_kept p xs)
  where
    by : (test : Bool) → length (filter p xs) ≤ length xs
        → length (cond test (x ∷ filter p xs) (filter p xs)) ≤ suc (length xs)
    by true rest = omega arith
    by false rest = omega arith

-- so many of each
pub few_flat : {X Y : Type 0} (f : X → List Y) (most : ℕ) (xs : List X)
    → ((x : X) → In x xs → length (f x) ≤ most) → length (flat_map f xs) ≤ length xs * most
few_flat f most [] each = omega arith
few_flat f most (x ∷ xs) each =
    let here = each x (inl refl) in
    let rest = few_flat f most xs (λ y member. each y (inr member)) in
    let both = length-append (f x) (flat_map f xs) in
    let step : suc (length xs) * most ≡ length xs * most + most = omega arith in
    omega arith

-- ---- links and times

few_past : (at : ℕ) (s : Standing) → length (past at s []) ≤ 1
few_past at s = none_or_few (s.at == at) (s ∷ []) (omega arith)

few_stand : (s : Standing) (ts : List Timed) → length (course_from s ts) ≤ suc (length ts)
few_stand s [] = omega arith
few_stand s (t ∷ ts) =
    few_more (past t.at s []) (course_from (acted t.act (course_at_time t.at s)) ts) (suc (length ts)) (few_past t.at s)
    (few_stand (acted t.act (course_at_time t.at s)) ts)

few_begun : (link loss from : ℕ) (to : Option ℕ) → length (lossy_stretch link loss from to) ≤ 1
few_begun link loss from to =
    let l : Lossy = record { link = link; loss = loss; from = from; to = to } in
    none_or_few (loss == 0) (l ∷ []) (omega arith)

few_stretches : (link before : ℕ) (ss : List Standing) → length (stretches link before ss) ≤ length ss
few_stretches link before [] = omega arith
few_stretches link before (s ∷ ss) =
    few_more
    (cond (loss_in_use s == before) [] (lossy_stretch link (loss_in_use s) s.at (next_other (loss_in_use s) ss)))
    (stretches link (loss_in_use s) ss) (length ss)
    (none_or_few (loss_in_use s == before) (lossy_stretch link (loss_in_use s) s.at (next_other (loss_in_use s) ss))
    (few_begun link (loss_in_use s) s.at (next_other (loss_in_use s) ss)))
    (few_stretches link (loss_in_use s) ss)

-- of each link one that is too long, and a stretch for each time
pub few_longs : (d : DocumentState) (ws : List LinkSpec) → length (longs_of d ws) ≤ length ws * 1
few_longs d ws =
    few_flat (λ (w : LinkSpec). option_to_list (long_of d.network.params (course_of d.events w))) 1 ws
    (λ w member. at_most_one (long_of d.network.params (course_of d.events w)))

few_of_link : (d : DocumentState) (w : LinkSpec) → length d.events ≤ 4096
    → length (stretches w.bounds.link 0 (course_of d.events w)) ≤ 4097
few_of_link d w few =
    let begun = few_stretches w.bounds.link 0 (course_of d.events w) in
    let stand : length (course_of d.events w) ≤ suc (length d.events) = few_stand (first w) d.events in
    omega arith

pub few_lossies : (d : DocumentState) (ws : List LinkSpec) → length d.events ≤ 4096
    → length (lossies_of d ws) ≤ length ws * 4097
few_lossies d ws few =
    few_flat (λ (w : LinkSpec). stretches w.bounds.link 0 (course_of d.events w)) 4097 ws
    (λ w member. few_of_link d w few)

pub few_times : (at : ℕ) (ts : List Timed) → length (times_from at ts) ≤ suc (length ts)
few_times at [] = omega arith
few_times at (t ∷ ts) = by (t.at == at) (few_times at ts) (few_times t.at ts)
  where
    by : (test : Bool) → length (times_from at ts) ≤ suc (length ts)
        → length (times_from t.at ts) ≤ suc (length ts)
        → length (cond test (times_from at ts) (at ∷ times_from t.at ts)) ≤ suc (suc (length ts))
    by true same other = omega arith
    by false same other = omega arith

-- ---- components

same_united : (one other : ℕ) (ls : List Label) → length (united one other ls) ≡ length ls
same_united one other ls = by (nat_lt one other) (nat_lt other one)
  where
    by : (first second : Bool)
        → length (cond first (map (relabelled other one) ls) (cond second (map (relabelled one other) ls) ls))
        ≡ length ls
    by true second = length-map ls (relabelled other one)
    by false true = length-map ls (relabelled one other)
    by false false = refl

same_united_if : (one other : Option ℕ) (ls : List Label) → length (united_if one other ls) ≡ length ls
same_united_if None other ls = refl
same_united_if (Some one) None ls = refl
same_united_if (Some one) (Some other) ls = same_united one other ls

same_joined : (e : Edge) (ls : List Label) → length (joined e ls) ≡ length ls
same_joined e ls = by e.up
  where
    by : (up : Bool) → length (cond up (united_if (live_best ls e.from) (live_best ls e.to) ls) ls) ≡ length ls
    by true = same_united_if (live_best ls e.from) (live_best ls e.to) ls
    by false = refl

same_joined_all : (es : List Edge) (ls : List Label) → length (joined_all es ls) ≡ length ls
same_joined_all [] ls = refl
same_joined_all (e ∷ es) ls = same_joined_all es (joined e ls) ∙ same_joined e ls

-- no more bests than systems
pub few_bests : (g : GraphState) → length (bests_in (labels_in g)) ≤ length g.systems
few_bests g =
    let bests : length (bests_in (labels_in g)) ≤ length (labels_in g) * 1 =
    few_flat best_at 1 (labels_in g) (λ l member. one_or_none (l.lives && (l.best == l.identity)) l.identity) in
    let same : length (labels_in g) ≡ length g.systems =
    same_joined_all g.edges (map lone_label g.systems) ∙ length-map g.systems lone_label in
    omega arith

few_chance : (best : ℕ) (second : Option ℕ) → length (chance_if best second) ≤ 1
few_chance best None = omega arith
few_chance best (Some second) = by (decides_by_clock best second)
  where
    by : (test : Bool) → length (cond {A = List (ℕ × ℕ)} test ((best, second) ∷ []) []) ≤ 1
    by true = omega arith
    by false = omega arith

pub few_chances : (ls : List Label) (bests : List ℕ) → length (flat_map (chance_at ls) bests) ≤ length bests * 1
few_chances ls bests = few_flat (chance_at ls) 1 bests (λ best member. few_chance best (second_in best None ls))

pub few_apart : (before : ℕ) (ms : List Moment) → length (apart_from before ms) ≤ length ms
few_apart before [] = omega arith
few_apart before (m ∷ ms) =
    let a : Apart = record { at = m.at; components = length m.bests.items } in
    few_more (apart_at before m) (apart_from (length m.bests.items) ms) (length ms)
    (one_or_none (nat_lt 1 (length m.bests.items) && not (length m.bests.items == before)) a)
    (few_apart (length m.bests.items) ms)

few_nobody_at : (before : List ℕ) (m : Moment) → length (nobody_at before m) ≤ length m.bests.items * 1
few_nobody_at before m =
    few_flat (nobody_if before m.at) 1 m.bests.items (λ best member.
    let nobody : Nobody = record { at = m.at; best = best } in one_or_none (is_told before best) nobody)

pub few_nobody : (before : List ℕ) (ms : List Moment)
    → AllByRecursion (λ (m : Moment). length m.bests.items ≤ 512) ms → length (nobody_from before ms) ≤ length ms * 512
few_nobody before [] few = omega arith
few_nobody before (m ∷ ms) few =
    let bests : length m.bests.items ≤ 512 = few.0 in
    let here = few_nobody_at before m in
    let rest = few_nobody m.bests.items ms few.1 in
    let both = length-append (nobody_at before m) (nobody_from m.bests.items ms) in
    omega arith

-- ---- events

abbrev HasMost : ℕ → List Timed → Type 0
HasMost most es = length es ≤ most

-- each member that is read adds one event at most
each_adds : (one : Data → List Timed → Result (List Timed) DocumentFault)
    → ((d : Data) (es : List Timed) → Gives (HasMost (suc (length es))) (one d es)) → (ds : Items) (es : List Timed)
    → Gives (HasMost (count ds + length es)) (each_of one ds es)
each_adds one adds no_items es = given (HasMost (0 + length es)) es (omega arith)
each_adds one adds (item d ds) es =
    next (HasMost (suc (count ds) + length es)) (one d es) (each_of one ds) (λ fs made ts is.
    let here : length fs ≤ suc (length es) = adds d es fs made in
    let rest : length ts ≤ count ds + length fs = each_adds one adds ds fs ts is in
    omega arith)

one_added : (n : NetworkState) (d : Data) (es : List Timed) → Gives (HasMost (suc (length es))) (with_event_of n d es)
unfolding with_event_of
one_added n d es =
    next (HasMost (suc (length es))) (kind_of (as_table d)) _ (λ t of_table.
    next (HasMost (suc (length es))) (event_of t) _ (λ e of_event.
    next (HasMost (suc (length es))) (not_before (last_change es) e) _ (λ later of_later.
    unless_faulty (HasMost (suc (length es))) (change_fault n later.change) (es ++ timed later ∷ []) (λ none.
    let both = length-append es (timed later ∷ []) in omega arith))))

few_members : (most : ℕ) (ds : Items) → Gives (λ (few : Items). count few ≤ most) (limited most ds)
unfolding limited
few_members most ds = by (nat_lt most (count ds)) refl
  where
    by : (test : Bool) → nat_lt most (count ds) ≡ test
        → Gives (λ (few : Items). count few ≤ most) (if test then Err TooMany else Ok ds)
    by true is = refused (λ (few : Items). count few ≤ most) TooMany
    by false is = given (λ (few : Items). count few ≤ most) ds (ltb-false most (count ds) is)

few_events : (t : Members) (n : NetworkState) → Gives (HasMost 4096) (events_of t n)
unfolding events_of
few_events t n =
    next (HasMost 4096) (array_at (codes "event") t) _ (λ ds of_ds.
    next (HasMost 4096) (limited 4096 ds) _ (λ few of_few es is.
    let members : count few ≤ 4096 = few_members 4096 ds few of_few in
    let all : length es ≤ count few + 0 = each_adds (with_event_of n) (one_added n) few [] es is in
    omega arith))

abbrev HasFewEvents : DocumentState → Type 0
HasFewEvents d = length d.events ≤ 4096

few_in_document : (t : Members) → Gives HasFewEvents (document_of t)
unfolding document_of
few_in_document t =
    next HasFewEvents (natural (codes "version") 1 2 None t) _ (λ version of_version.
    next HasFewEvents (whole_network_of version t) _ (λ network of_network.
    next HasFewEvents (events_of t network) _ (λ events of_events.
    given HasFewEvents (record { network = network; events = events }) (few_events t network events of_events))))

-- no document has more than 4,096 events
pub few_meant : (text : List ℕ) (d : DocumentState) → Means text d → length d.events ≤ 4096
few_meant text d means = few_in_document means.table d means.is
