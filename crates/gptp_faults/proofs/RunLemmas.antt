-- A document gets the events of a case and gives them back; runs by their numbers.
use Rattle.std.proofs.Common.{◌≡◌, ◌≤◌, ◌<◌, ◌+◌, ◌*◌, ◌/◌, ◌++◌, ◌∷◌, [], ℕ, List, length, map, take, refl, sym, ap, ◌∙◌, append-nil, append_assoc, arith}
use Rattle.std.proofs.lemmas.Nat.{div_below}
use Rattle.gptp_network.specs.Adding.{with_event, with_first}
use Rattle.gptp_network.specs.Document.{DocumentState}
use Rattle.gptp_scenario.specs.declared.change.Act.TheVariants as acts
use Rattle.gptp_scenario.specs.declared.change.Timed.{Timed}
use Rattle.gptp_faults.specs.CaseEvents.{change_of, EventsState, with_changes}
use Rattle.gptp_faults.specs.Stays.{back_at, failed_document, with_case}
use Rattle.gptp_faults.specs.declared.case_events.CaseChange.{CaseChange}

front_alone : {X : Type 0} (xs ys : List X) → take (length xs) (xs ++ ys) ≡ xs
front_alone [] [] = refl
front_alone [] (y ∷ ys) = refl
front_alone (x ∷ xs) ys = ap (λ zs. x ∷ zs) (front_alone xs ys)

abbrev pub with_events : DocumentState → List Timed → DocumentState
with_events d events = record d { events = events }

-- a change at a time
abbrev pub timed_at : ℕ → CaseChange → Timed
timed_at at c = record { at = at; act = acts.Change (change_of c) }

abbrev pub all_at : ℕ → List CaseChange → List Timed
all_at at cs = map (timed_at at) cs

-- changes are events behind those of a document
pub changes_are : (at : ℕ) (cs : List CaseChange) (d : DocumentState)
    → with_changes at cs d ≡ with_events d (d.events ++ all_at at cs)
changes_are at [] d = ap (with_events d) (sym (append-nil d.events))
changes_are at (c ∷ cs) d =
    changes_are at cs (with_event at (change_of c) d)
    ∙ ap (with_events d) (append_assoc d.events (timed_at at c ∷ []) (all_at at cs))

-- those of a case that failed, and of one that came back
abbrev pub failing_events : ℕ → EventsState → List Timed
failing_events at e = all_at at e.at ++ all_at (at + e.delay) e.seen

pub failed_are : (at : ℕ) (e : EventsState) (d : DocumentState)
    → failed_document at e d ≡ with_events d (d.events ++ failing_events at e)
failed_are at e d =
    ap (with_changes (at + e.delay) e.seen) (changes_are at e.at d)
    ∙ changes_are (at + e.delay) e.seen (with_events d (d.events ++ all_at at e.at))
    ∙ ap (with_events d) (append_assoc d.events (all_at at e.at) (all_at (at + e.delay) e.seen))

pub case_are : (at hold : ℕ) (e : EventsState) (d : DocumentState)
    → with_case at hold e d
    ≡ with_events d ((d.events ++ failing_events at e) ++ all_at (back_at at e hold) e.back)
case_are at hold e d =
    ap (with_changes (back_at at e hold) e.back) (failed_are at e d)
    ∙ changes_are (back_at at e hold) e.back (with_events d (d.events ++ failing_events at e))

-- without them the document is as it was
pub failed_back : (d : DocumentState) (at : ℕ) (e : EventsState)
    → with_first (length d.events) (failed_document at e d) ≡ d
failed_back d at e =
    ap (with_first (length d.events)) (failed_are at e d)
    ∙ ap (with_events d) (front_alone d.events (failing_events at e))

pub case_back : (d : DocumentState) (at hold : ℕ) (e : EventsState)
    → with_first (length d.events) (with_case at hold e d) ≡ d
case_back d at hold e =
    ap (with_first (length d.events)) (case_are at hold e d
    ∙ ap (with_events d) (append_assoc d.events (failing_events at e) (all_at (back_at at e hold) e.back)))
    ∙ ap (with_events d) (front_alone d.events (failing_events at e ++ all_at (back_at at e hold) e.back))

-- the number of a moment is below how many there are
pub moment_below : (run moments seeds : ℕ) → 1 ≤ seeds → run < moments * seeds → run / seeds < moments
moment_below run moments seeds some below = div_below run seeds moments (omega (arith, some)) below
