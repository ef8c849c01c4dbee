-- A link stands at each time of a document as the events up to then leave it.
use Rattle.std.proofs.Common.{◌≡◌, ◌≤◌, ◌<◌, ℕ, Bool, true, false, ◌==◌, nat_le, cond, List, [], ◌∷◌, ◌++◌, map, append_assoc, eqb-true, refl, sym, ap, ◌∙◌, arith}
use Rattle.std.specs.List.{AllByRecursion}
use Rattle.std.proofs.lemmas.Bool.Decides.{nat_tests}
use Rattle.gptp_vector.specs.declared.port.PortId.{PortId}
use Rattle.gptp_scenario.specs.Change.{link_after}
use Rattle.gptp_scenario.specs.declared.change.Timed.{Timed}
use Rattle.gptp_scenario.specs.declared.network.LinkSpec.{LinkSpec}
use Rattle.gptp_scenario.proofs.AfterLemmas.{acted_keeps, after_keeps}
use Rattle.gptp_network.specs.Events.{AreInOrder}
use Rattle.gptp_network.specs.Snapshot.{events_by}
use Rattle.gptp_topology.specs.Course.{acted, course_at_time, cable_of, course_from, course_of, first, lives_acted, cable_wire}
use Rattle.gptp_topology.specs.Times.{times_from, times_of}
use Rattle.gptp_topology.specs.declared.course.Standing.{Standing}
use Rattle.gptp_topology.proofs.LivesLemmas.{lives_after}

-- ---- a link keeps its ends

pub same_a : (events : List Timed) (w : LinkSpec) → (link_after events w).a ≡ w.a
same_a events w = (after_keeps events w).a

pub same_b : (events : List Timed) (w : LinkSpec) → (link_after events w).b ≡ w.b
same_b events w = (after_keeps events w).b

-- ---- what events make of a link and of the systems at its ends

abbrev pub after : List Timed → Standing → Standing
after [] s = s
after (t ∷ ts) s = after ts (acted t.act s)

pub cable_after : (events : List Timed) (s : Standing)
    → (after events s).cable ≡ cable_of (link_after events (cable_wire s.cable))
cable_after [] s = refl
cable_after (t ∷ ts) s = cable_after ts (acted t.act s)

pub a_after : (events : List Timed) (s : Standing)
    → (after events s).a_lives ≡ lives_after events s.cable.a.clock s.a_lives
a_after [] s = refl
a_after (t ∷ ts) s =
    a_after ts (acted t.act s)
    ∙ ap (λ (p : PortId). lives_after ts p.clock (lives_acted t.act s.cable.a.clock s.a_lives))
    (acted_keeps t.act (cable_wire s.cable)).a

pub b_after : (events : List Timed) (s : Standing)
    → (after events s).b_lives ≡ lives_after events s.cable.b.clock s.b_lives
b_after [] s = refl
b_after (t ∷ ts) s =
    b_after ts (acted t.act s)
    ∙ ap (λ (p : PortId). lives_after ts p.clock (lives_acted t.act s.cable.b.clock s.b_lives))
    (acted_keeps t.act (cable_wire s.cable)).b

pub one_more : (done : List Timed) (t : Timed) (s : Standing) → acted t.act (after done s) ≡ after (done ++ t ∷ []) s
one_more [] t s = refl
one_more (u ∷ done) t s = one_more done t (acted u.act s)

-- ---- events up to a time

abbrev pub past_by : ℕ → List Timed → Type 0
past_by at = AllByRecursion (λ (t : Timed). t.at ≤ at)

abbrev pub not_before : ℕ → List Timed → Type 0
not_before at = AllByRecursion (λ (t : Timed). at ≤ t.at)

pub still_past : (at later : ℕ) (done : List Timed) → at ≤ later → past_by at done → past_by later done
still_past at later [] more past = tt
still_past at later (t ∷ done) more past =
    let here = past.0 in (omega (arith, here, more), still_past at later done more past.1)

pub past_more : (at : ℕ) (done : List Timed) (t : Timed) → past_by at done → t.at ≤ at → past_by at (done ++ t ∷ [])
past_more at [] t past here = (here, tt)
past_more at (u ∷ done) t past here = (past.0, past_more at done t past.1 here)

still_later : (at later : ℕ) (ts : List Timed) → at ≤ later → not_before later ts → not_before at ts
still_later at later [] more come = tt
still_later at later (t ∷ ts) more come =
    let here = come.0 in (omega (arith, here, more), still_later at later ts more come.1)

pub order_behind : (t : Timed) (ts : List Timed) → AreInOrder (t ∷ ts) → AreInOrder ts
order_behind t [] order = tt
order_behind t (u ∷ ts) order = order.1

pub behind : (t : Timed) (ts : List Timed) → AreInOrder (t ∷ ts) → not_before t.at ts
behind t [] order = tt
behind t (u ∷ ts) order = (order.0, still_later t.at u.at ts order.0 (behind u ts order.1))

none_left : (at : ℕ) (ts : List Timed) → AllByRecursion (λ (t : Timed). at < t.at) ts → events_by at ts ≡ []
none_left at [] later = refl
none_left at (t ∷ ts) later =
    let here = later.0 in
    let no : nat_le t.at at ≡ false = grind (arith, nat_tests) in
    ap (λ test. cond test (t ∷ events_by at ts) (events_by at ts)) no ∙ none_left at ts later.1

pub only_past : (at : ℕ) (done ts : List Timed) → past_by at done → AllByRecursion (λ (t : Timed). at < t.at) ts
    → events_by at (done ++ ts) ≡ done
only_past at [] ts past later = none_left at ts later
only_past at (t ∷ done) ts past later =
    let here = past.0 in
    let yes : nat_le t.at at ≡ true = grind (arith, nat_tests) in
    ap (λ test. cond test (t ∷ events_by at (done ++ ts)) (events_by at (done ++ ts))) yes
    ∙ ap (λ us. t ∷ us) (only_past at done ts past.1 later)

all_later : (at : ℕ) (t : Timed) (ts : List Timed) → at < t.at → not_before t.at ts
    → AllByRecursion (λ (u : Timed). at < u.at) ts
all_later at t [] here come = tt
all_later at t (u ∷ ts) here come =
    let next = come.0 in (omega (arith, here, next), all_later at t ts here come.1)

-- all that are done are those up to now, where the next is later
pub until_now : (at : ℕ) (done : List Timed) (t : Timed) (ts : List Timed) → past_by at done → at < t.at
    → AreInOrder (t ∷ ts) → events_by at (done ++ t ∷ ts) ≡ done
until_now at done t ts past later order =
    only_past at done (t ∷ ts) past (later, all_later at t ts later (behind t ts order))

-- ---- the course of a link

-- how it stands at a time
abbrev pub stood : List Timed → Standing → ℕ → Standing
stood events s at = course_at_time at (after (events_by at events) s)

-- how it comes after these events, at a time and at those of the events after them
abbrev StandsSo : Standing → List Timed → Type 0
StandsSo s ts = (done : List Timed) (at : ℕ) → past_by at done → not_before at ts → AreInOrder ts
    → course_from (course_at_time at (after done s)) ts ≡ map (stood (done ++ ts) s) (times_from at ts)

course_step : (s : Standing) (t : Timed) (ts : List Timed) → StandsSo s ts → (done : List Timed) (at : ℕ) (same : Bool)
    → (at == t.at) ≡ same → past_by at done → not_before at (t ∷ ts) → AreInOrder (t ∷ ts)
    → (cond same [] (course_at_time at (after done s) ∷ [])) ++ course_from
    (acted t.act (course_at_time t.at (after done s))) ts
    ≡ map (stood (done ++ t ∷ ts) s) (times_from at (t ∷ ts))
course_step s t ts behind_it done at true is past come order =
    let same : at ≡ t.at = eqb-true at t.at is in
    let here : t.at ≤ at = omega (arith, same) in
    let joined : (done ++ t ∷ []) ++ ts ≡ done ++ t ∷ ts = append_assoc done (t ∷ []) ts in
    let other : (t.at == at) ≡ true = grind (arith, nat_tests) in
    ap (λ u. course_from (acted t.act (course_at_time u (after done s))) ts) (sym same)
    ∙ ap (λ r. course_from (course_at_time at r) ts) (one_more done t s)
    ∙ behind_it (done ++ t ∷ []) at (past_more at done t past here) come.1 (order_behind t ts order)
    ∙ ap (λ es. map (stood es s) (times_from at ts)) joined
    ∙ ap (λ test. map (stood (done ++ t ∷ ts) s) (cond test (times_from at ts) (at ∷ times_from t.at ts))) (sym other)
course_step s t ts behind_it done at false is past come order =
    let least = come.0 in
    let here : at < t.at = grind (arith, nat_tests) in
    let earlier : at ≤ t.at = omega (arith, here) in
    let other : (t.at == at) ≡ false = grind (arith, nat_tests) in
    let rest = behind t ts order in
    let now : events_by at (done ++ t ∷ ts) ≡ done = until_now at done t ts past here order in
    let joined : (done ++ t ∷ []) ++ ts ≡ done ++ t ∷ ts = append_assoc done (t ∷ []) ts in
    let self : t.at ≤ t.at = omega arith in
    let later =
    ap (λ r. course_from (course_at_time t.at r) ts) (one_more done t s)
    ∙ behind_it (done ++ t ∷ []) t.at (past_more t.at done t (still_past at t.at done earlier past) self) rest
    (order_behind t ts order)
    ∙ ap (λ es. map (stood es s) (times_from t.at ts)) joined in
    ap (λ r. r ∷ course_from (acted t.act (course_at_time t.at (after done s))) ts)
    (ap (λ es. course_at_time at (after es s)) (sym now))
    ∙ ap (λ rs. stood (done ++ t ∷ ts) s at ∷ rs) later
    ∙ ap (λ test. map (stood (done ++ t ∷ ts) s) (cond test (times_from at ts) (at ∷ times_from t.at ts))) (sym other)

stands_so : (s : Standing) (ts : List Timed) → StandsSo s ts
stands_so s [] done at past come order =
    ap (λ es. course_at_time at (after es s) ∷ []) (sym (only_past at done [] past tt))
stands_so s (t ∷ ts) done at past come order =
    course_step s t ts (stands_so s ts) done at (at == t.at) refl past come order

pub all_from_0 : (ts : List Timed) → not_before 0 ts
all_from_0 [] = tt
all_from_0 (t ∷ ts) = (omega arith, all_from_0 ts)

-- it stands at each time as the events up to then leave it
pub course_is : (events : List Timed) (w : LinkSpec) → AreInOrder events
    → course_of events w ≡ map (stood events (first w)) (times_of events)
course_is events w order = stands_so (first w) events [] 0 tt (all_from_0 events) order
