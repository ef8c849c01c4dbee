-- The acts of a stretch are done one after another.
use Rattle.std.proofs.Common.{◌≡◌, ◌≤◌, ℕ, List, [], ◌∷◌, ◌++◌, ◌⊎◌, Option, Some, if◌then◌else◌, true, false, Bool, refl, sym, ap, subst, inl, inr, arith}
use Rattle.std.specs.List.{AllByRecursion}
use Rattle.std.specs.Prelude.{⊤}
use Rattle.std.proofs.lemmas.Option.{same_Some}
use Rattle.gptp_invariants.proofs.WorldOutlineLemmas.{acts_time}
use Rattle.gptp_links.specs.declared.bounds.Bounds.{Bounds}
use Rattle.gptp_lists.specs.Members.{In}
use Rattle.gptp_model.specs.Acts.{at}
use Rattle.gptp_model.specs.World.{WorldState}
use Rattle.gptp_report.specs.Transitions.{Courses, Makes}
use Rattle.gptp_scenario.specs.declared.change.Timed.{Timed}
use Rattle.gptp_timeline.specs.Stretch.{at_of, receives}
use Rattle.gptp_timeline_laws.specs.Exact.{last_receipt}
use Rattle.gptp_timeline_laws.specs.Moments.{last_time, next_time}
use Rattle.gptp_timeline_laws.proofs.CourseLemmas.{last_on}
use Rattle.gptp_timeline_laws.proofs.PartLemmas.{last_less as last_sooner}
use Rattle.gptp_world.specs.Transitions.{ActTrace, Passes, PassesTo, transition}

-- none of these is done before a time, or before the one that it follows
abbrev pub AreInTurn : ℕ → List ActTrace → Type 0
AreInTurn now [] = ⊤
AreInTurn now (t ∷ ts) = (now ≤ at_of t) × AreInTurn (at_of t) ts

pub turn_later : (soon late : ℕ) (ts : List ActTrace) → soon ≤ late → AreInTurn late ts → AreInTurn soon ts
turn_later soon late [] less turn = tt
turn_later soon late (t ∷ ts) less turn = (let first = turn.0 in omega (arith, first, less), turn.1)

turn_both : (now late : ℕ) (us vs : List ActTrace) → AreInTurn now us → last_time now us ≤ late → AreInTurn late vs
    → AreInTurn now (us ++ vs)
turn_both now late [] vs first less rest = turn_later now late vs less rest
turn_both now late (t ∷ us) vs first less rest = (first.0, turn_both (at_of t) late us vs first.1 less rest)

-- some of them, and those after them
pub turn_parts : (now : ℕ) (us vs : List ActTrace) → AreInTurn now (us ++ vs)
    → AreInTurn now us × AreInTurn (last_time now us) vs
turn_parts now [] vs turn = (tt, turn)
turn_parts now (t ∷ us) vs turn =
    let rest = turn_parts (at_of t) us vs turn.1 in ((turn.0, rest.0), rest.1)

-- each is done by the last
pub turn_on : (now : ℕ) (ts : List ActTrace) → AreInTurn now ts → now ≤ last_time now ts
turn_on now [] turn = omega arith
turn_on now (t ∷ ts) turn =
    let first = turn.0 in let rest = turn_on (at_of t) ts turn.1 in omega (arith, first, rest)

pub turn_each : (now : ℕ) (ts : List ActTrace) → AreInTurn now ts → (a : ActTrace) → In a ts
    → (now ≤ at_of a) × (at_of a ≤ last_time now ts)
turn_each now [] turn a member = absurd member
turn_each now (t ∷ ts) turn a (inl same) =
    subst (λ (x : ActTrace). (now ≤ at_of x) × (at_of x ≤ last_time (at_of t) ts)) (sym same)
    (turn.0, turn_on (at_of t) ts turn.1)
turn_each now (t ∷ ts) turn a (inr later) =
    let (since, by) = turn_each (at_of t) ts turn.1 a later in
    let first = turn.0 in (omega (arith, first, since), by)

-- the last receipt is no sooner than any
last_some : (name now last : ℕ) (ts : List ActTrace) → AreInTurn now ts → last ≤ now
    → (late : ℕ) × (last_receipt name (Some last) ts ≡ Some late) × (last ≤ late)
last_some name now last [] turn soon = (last, refl, omega arith)
last_some name now last (t ∷ ts) turn soon =
    let first = turn.0 in
    by (receives name t) (last_some name (at_of t) (at_of t) ts turn.1 (omega arith))
    (last_some name (at_of t) last ts turn.1 (omega (arith, first, soon)))
  where
    by : (own : Bool)
        → (late : ℕ) × (last_receipt name (Some (at_of t)) ts ≡ Some late) × (at_of t ≤ late)
        → (late : ℕ) × (last_receipt name (Some last) ts ≡ Some late) × (last ≤ late)
        → (late : ℕ) × (last_receipt name (if own then Some (at_of t) else Some last) ts ≡ Some late) × (last ≤ late)
    by true (late, is, since) other = let first = turn.0 in (late, is, omega (arith, first, since, soon))
    by false one other = other

pub last_of : (name now : ℕ) (l : Option ℕ) (ts : List ActTrace) → AreInTurn now ts → (a : ActTrace) → In a ts
    → receives name a ≡ true → (late : ℕ) × (last_receipt name l ts ≡ Some late) × (at_of a ≤ late)
last_of name now l [] turn a member own = absurd member
last_of name now l (t ∷ ts) turn a (inl same) own =
    subst (λ b. (late : ℕ) × (last_receipt name (if b then Some (at_of t) else l) ts ≡ Some late) × (at_of a ≤ late))
    (sym (subst (λ x. receives name x ≡ true) same own))
    (subst (λ (x : ActTrace). (late : ℕ) × (last_receipt name (Some (at_of t)) ts ≡ Some late) × (at_of x ≤ late))
    (sym same) (last_some name (at_of t) (at_of t) ts turn.1 (omega arith)))
last_of name now l (t ∷ ts) turn a (inr later) own =
    last_of name (at_of t) (if receives name t then Some (at_of t) else l) ts turn.1 a later own

-- some end no sooner than the next begins
pub next_of : (now until : ℕ) (ts : List ActTrace) → AreInTurn now ts → last_time now ts ≤ until
    → now ≤ next_time until ts
next_of now until [] turn by = by
next_of now until (t ∷ ts) turn by = turn.0

-- ---- the act of the last receipt

abbrev pub ReceivesNone : ℕ → List ActTrace → Type 0
ReceivesNone name ts = AllByRecursion (λ (t : ActTrace). receives name t ≡ false) ts

-- By this act a system received time, at this time, and by none of those behind it.
pub record IsLastReceipt (name last : ℕ) (ts : List ActTrace) : Type 0 where
  pub before : List ActTrace
  pub act : ActTrace
  pub behind : List ActTrace
  pub are : ts ≡ before ++ act ∷ behind
  pub at_is : at_of act ≡ last
  pub own : receives name act ≡ true
  pub none : ReceivesNone name behind

-- it is one of several acts, or none of them is a receipt
pub last_receipt_is : (name : ℕ) (l : Option ℕ) (ts : List ActTrace) (last : ℕ) → last_receipt name l ts ≡ Some last
    → ((l ≡ Some last) × ReceivesNone name ts) ⊎ IsLastReceipt name last ts
last_receipt_is name l [] last is = inl (is, tt)
last_receipt_is name l (t ∷ ts) last is =
    by (receives name t) refl (last_receipt_is name (if receives name t then Some (at_of t) else l) ts last is)
  where
    later : IsLastReceipt name last ts → IsLastReceipt name last (t ∷ ts)
    later r = record {
      before = t ∷ r.before;
      act = r.act;
      behind = r.behind;
      are = ap (λ us. t ∷ us) r.are;
      at_is = r.at_is;
      own = r.own;
      none = r.none;
    }

    by : (test : Bool) → receives name t ≡ test
        → (((if test then Some (at_of t) else l) ≡ Some last) × ReceivesNone name ts) ⊎ IsLastReceipt name last ts
        → ((l ≡ Some last) × ReceivesNone name (t ∷ ts)) ⊎ IsLastReceipt name last (t ∷ ts)
    by true own (inl (same, none)) =
        inr (record {
          before = [];
          act = t;
          behind = ts;
          are = refl;
          at_is = same_Some (at_of t) last same;
          own = own;
          none = none;
        })
    by false own (inl (same, none)) = inl (same, (own, none))
    by true own (inr r) = inr (later r)
    by false own (inr r) = inr (later r)

-- ---- of a stretch

module _ {F : Type 0} (answers : Bounds → ℕ → F → Option ℕ → F → Type 0) where
  abbrev InTurnBy : ℕ → List ActTrace → ℕ → Type 0
  InTurnBy now ts until = AreInTurn now ts × (last_time now ts ≤ until)

  passes_turn : (until : ℕ) (ts : List ActTrace) (fate fate_after : F) (w w' : WorldState) → w.time ≤ until
      → Passes answers until ts fate fate_after w w' → InTurnBy w.time ts until
  passes_turn until [] fate fate_after w w' by k = (tt, by)
  passes_turn until (t ∷ ts) fate fate_after w w' by (drawn, before, happens, rest) =
      let was = happens.was_done in
      let moment : t.after.time ≡ at_of t =
      acts_time t.told.timed.act (at (at_of t) w) was.draws t.told.done t.after was.acts in
      let soon = happens.early in
      let on = passes_turn until ts drawn fate_after t.after w' (omega (arith, moment, soon)) rest in
      let more = subst (λ now. InTurnBy now ts until) moment on in
      ((was.ready.timely.now, more.0), more.1)

  passes_to_turn : (until : ℕ) (ts : List ActTrace) (fate fate_after : F) (w w' : WorldState)
      → PassesTo answers until ts fate fate_after w w' → InTurnBy w.time ts until
  passes_to_turn until ts fate fate_after w w' k = passes_turn until ts fate fate_after w k.between k.ahead k.passes

  makes_turn : (event : Timed) (ts : List ActTrace) (fate fate_after : F) (w w' : WorldState)
      → Makes answers event ts fate fate_after w w' → InTurnBy w.time ts w'.time
  makes_turn event ts fate fate_after w w' k =
      let one = transition event k.done k.between w' in
      let moment : w'.time ≡ event.at =
      acts_time event.act (at event.at k.between) k.made.draws k.done w' k.made.acts in
      let first = passes_to_turn event.at k.first fate k.drawn w k.between k.passes in
      let itself : event.at ≤ event.at = omega arith in
      subst (λ us. InTurnBy w.time us w'.time) (sym k.are) (
        turn_both w.time event.at k.first (one ∷ []) first.0 first.1 (itself, tt),
        subst (λ last. last ≤ w'.time) (sym (last_on w.time k.first (one ∷ []))) (omega (arith, moment)),
      )

  pub courses_turn : (until : ℕ) (events : List Timed) (ts : List ActTrace) (fate fate_after : F) (w w' : WorldState)
      → Courses answers until events ts fate fate_after w w'
      → AreInTurn w.time ts × (last_time w.time ts ≤ until)
  courses_turn until [] ts fate fate_after w w' k = passes_to_turn until ts fate fate_after w w' k
  courses_turn until (event ∷ events) ts fate fate_after w w' (first, rest, drawn, between, makes, k, are) =
      let head = makes_turn event first fate drawn w between makes in
      let tail = courses_turn until events rest drawn fate_after between w' k in
      let more = last_sooner (last_time w.time first) between.time rest head.1 in
      let by = tail.1 in
      subst (λ us. InTurnBy w.time us until) (sym are) (
        turn_both w.time between.time first rest head.0 head.1 tail.0,
        subst (λ last. last ≤ until) (sym (last_on w.time first rest)) (omega (arith, more, by)),
      )
