-- The acts of a stretch, parted after its last event.
use Rattle.std.proofs.Common.{◌≡◌, ◌≤◌, ℕ, suc, ℤ, true, false, List, [], ◌∷◌, ◌++◌, length, Option, refl, sym, ap, subst, ◌∙◌, append_assoc, append-nil, arith}
use Rattle.std.specs.List.{AllByRecursion}
use Rattle.gptp_invariants.proofs.WorldOutlineLemmas.{acts_time}
use Rattle.gptp_links.specs.declared.bounds.Bounds.{Bounds}
use Rattle.gptp_model.specs.Acts.{at}
use Rattle.gptp_model.specs.World.{WorldState}
use Rattle.gptp_model.specs.declared.done.Done.{Done}
use Rattle.gptp_network.specs.Document.{DocumentState}
use Rattle.gptp_report.specs.Transitions.{Courses, Makes}
use Rattle.gptp_scenario.specs.declared.change.Act.TheVariants.{Change as Changing}
use Rattle.gptp_scenario.specs.declared.change.Change.{Change}
use Rattle.gptp_scenario.specs.declared.change.Timed.{Timed}
use Rattle.gptp_theorem.specs.PlayedLaws.{IsPlayable}
use Rattle.gptp_timeline.specs.Looks.{events_left, looked_all, looked_by, looked_in, looked_over}
use Rattle.gptp_timeline.specs.Readings.{new_reading, read_after, readings_after, readings_by}
use Rattle.gptp_timeline.specs.Stretch.{at_of, is_change}
use Rattle.gptp_timeline.specs.declared.readings.SystemReading.{SystemReading}
use Rattle.gptp_timeline.proofs.BehindLemmas.{all_both}
use Rattle.gptp_timeline.proofs.PastLemmas.{PastBy}
use Rattle.gptp_timeline.proofs.EventLemmas.{Each}
use Rattle.gptp_timeline.proofs.SettlingLemmas.{early_makes, IsFitEvent, Keeps, keeps_made}
use Rattle.gptp_timeline_laws.specs.Moments.{last_time, world_after}
use Rattle.gptp_timeline_laws.proofs.BoundLemmas.{readings_both}
use Rattle.gptp_timeline_laws.proofs.SeenLemmas.{good_after, good_first, GoodLooks}
use Rattle.gptp_timeline_laws.proofs.StepLemmas.{quiet_next}
use Rattle.gptp_world.specs.Transitions.{ActTrace, Passes, PassesTo, transition}

-- ---- acts with so many events among them

-- the last of these acts is the last of so many events
abbrev pub EndsEvents : ℕ → List ActTrace → Type 0
EndsEvents left [] = left ≡ 0
EndsEvents left (t ∷ ts) = (1 ≤ left) × EndsEvents (events_left (t ∷ []) left) ts

-- What is done, where no event is left, begins with them.
pub record BeginsSo (head tail done ahead : List ActTrace) : Type 0 where
  pub more : List ActTrace
  pub done_is : done ≡ head ++ more
  pub tail_is : tail ≡ more ++ ahead

pub parted : (left : ℕ) (head tail done ahead : List ActTrace) → EndsEvents left head
    → head ++ tail ≡ done ++ ahead → events_left done left ≡ 0 → BeginsSo head tail done ahead
parted left [] tail done ahead ends are none = record { more = done; done_is = refl; tail_is = are }
parted left (h ∷ hs) tail [] ahead ends are none =
    absurd (let some = ends.0 in omega (arith, some, none))
parted left (h ∷ hs) tail (t ∷ ts) ahead ends are none =
    let same : h ≡ t = cc in
    let rest : hs ++ tail ≡ ts ++ ahead = cc in
    let ends' = subst (λ u. EndsEvents (events_left (u ∷ []) left) hs) same ends.1 in
    let b = parted (events_left (t ∷ []) left) hs tail ts ahead ends' rest none in record {
      more = b.more;
      done_is = (λ i. sym same i ∷ b.done_is i);
      tail_is = b.tail_is;
    }

abbrev pub IsQuiet : ActTrace → Type 0
IsQuiet t = is_change t.told.timed.act ≡ false

quiet_leaves : (left : ℕ) (t : ActTrace) → IsQuiet t → events_left (t ∷ []) left ≡ left
quiet_leaves left t quiet = rw quiet refl

ends_after_quiet : (left : ℕ) (us vs : List ActTrace) → AllByRecursion IsQuiet us → 1 ≤ left → EndsEvents left vs
    → EndsEvents left (us ++ vs)
ends_after_quiet left [] vs quiet some ends = ends
ends_after_quiet left (t ∷ us) vs quiet some ends = (
  some,
  subst (λ n. EndsEvents n (us ++ vs)) (sym (quiet_leaves left t quiet.0))
      (ends_after_quiet left us vs quiet.1 some ends),
)

quiet_leave : (left : ℕ) (us : List ActTrace) → AllByRecursion IsQuiet us → events_left us left ≡ left
quiet_leave left [] quiet = refl
quiet_leave left (t ∷ us) quiet =
    ap (events_left us) (quiet_leaves left t quiet.0) ∙ quiet_leave left us quiet.1

pub left_both : (left : ℕ) (us vs : List ActTrace) → events_left (us ++ vs) left ≡ events_left vs (events_left us left)
left_both left [] vs = refl
left_both left (t ∷ us) vs = left_both (events_left (t ∷ []) left) us vs

last_both : (from : ℕ) (us : List ActTrace) (t : ActTrace) → last_time from (us ++ t ∷ []) ≡ at_of t
last_both from [] t = refl
last_both from (u ∷ us) t = last_both (at_of u) us t

pub last_on : (from : ℕ) (us vs : List ActTrace) → last_time from (us ++ vs) ≡ last_time (last_time from us) vs
last_on from [] vs = refl
last_on from (u ∷ us) vs = last_on (at_of u) us vs

world_both : (us : List ActTrace) (t : ActTrace) (w : WorldState) → world_after (us ++ t ∷ []) w ≡ t.after
world_both [] t w = refl
world_both (u ∷ us) t w = world_both us t u.after

pub world_on : (us vs : List ActTrace) (w : WorldState) → world_after (us ++ vs) w ≡ world_after vs (world_after us w)
world_on [] vs w = refl
world_on (u ∷ us) vs w = world_on us vs u.after

module _ {F : Type 0} (answers : Bounds → ℕ → F → Option ℕ → F → Type 0) (d : DocumentState)
    (playable : IsPlayable d) (names : List ℕ) where
  pub passes_quiet : (until : ℕ) (ts : List ActTrace) (fate fate_after : F) (w w' : WorldState)
      → Passes answers until ts fate fate_after w w' → AllByRecursion IsQuiet ts
  passes_quiet until [] fate fate_after w w' k = tt
  passes_quiet until (t ∷ ts) fate fate_after w w' (drawn, before, happens, rest) = (
    quiet_next happens.next.item t.told.timed.act w happens.next.act,
    passes_quiet until ts drawn fate_after t.after w' rest,
  )

  -- where the last event is looked at all are
  event_looks : (low high : ℤ) (most : ℕ) (rs : List SystemReading) (event : Timed) (change : Change) (done : Done)
      (v v' : WorldState) (vs : List ActTrace) → event.act ≡ Changing change
      → GoodLooks low high most (looked_over rs 1 (transition event done v v' ∷ vs))
      → GoodLooks low high most (looked_all event.at v' (read_after (transition event done v v') rs))
  event_looks low high most rs event change done v v' vs is good =
      subst (λ l. GoodLooks low high most l) looked
      (good_first low high most (looked_in rs 1 t) (looked_over (read_after t rs) (events_left (t ∷ []) 1) vs) good)
    where
      t : ActTrace
      t = transition event done v v'

      looked : looked_in rs 1 t ≡ looked_all event.at v' (read_after t rs)
      looked =
          ap (λ act. looked_by event.at v' act 1 (new_reading act done v' rs) rs
          (readings_by act (new_reading act done v' rs) rs)) is
          ∙ ap (λ act. looked_all event.at v' (readings_by act (new_reading act done v' rs) rs)) (sym is)

  -- The acts of a stretch that begins with events: those up to the last event, and those after it.
  pub record Parts (before es : List Timed) (rs : List SystemReading) (until : ℕ) (ts : List ActTrace)
      (fate_after : F) (w' : WorldState) : Type 0 where
    pub head : List ActTrace
    pub tail : List ActTrace
    pub are : ts ≡ head ++ tail
    pub middle : WorldState
    pub drawn : F
    pub passes : PassesTo answers until tail drawn fate_after middle w'
    pub keeps : Keeps answers d playable names (before ++ es) middle
    pub ends : EndsEvents (length es) head
    pub leads : (v : WorldState) → world_after head v ≡ middle
    pub last : (from : ℕ) → last_time from head ≡ middle.time
    pub soon : (last : ℕ) → PastBy last es → AllByRecursion (λ (t : ActTrace). at_of t ≤ last) head
    pub looks : (low high : ℤ) (most : ℕ) (vs : List ActTrace)
        → GoodLooks low high most (looked_over rs (length es) (head ++ vs))
        → GoodLooks low high most (looked_all middle.time middle (readings_after head rs))

  event_leaves : (left : ℕ) (event : Timed) (change : Change) (done : Done) (v v' : WorldState)
      → event.act ≡ Changing change → events_left (transition event done v v' ∷ []) (suc left) ≡ left
  event_leaves left event change done v v' is =
      let test : is_change event.act ≡ true = ap is_change is in rw test (omega arith)

  module _ (event : Timed) (first : List ActTrace) (fate drawn : F) (w between : WorldState)
      (fit : IsFitEvent answers d playable names event) (k : Makes answers event first fate drawn w between) where
    one : ActTrace
    one = transition event k.done k.between between

    quiet : AllByRecursion IsQuiet k.first
    quiet = passes_quiet event.at k.first fate k.drawn w k.passes.between k.passes.passes

    time_is : between.time ≡ event.at
    time_is =
        acts_time event.act (at event.at k.between) k.made.draws k.done between k.made.acts

    along : (vs : List ActTrace) → first ++ vs ≡ k.first ++ (transition event k.done k.between between ∷ vs)
    along vs = ap (λ us. us ++ vs) k.are ∙ append_assoc k.first (_ ∷ []) vs

    -- one event less is left
    first_leaves : (left : ℕ) → events_left first (suc left) ≡ left
    first_leaves left =
        ap (λ us. events_left us (suc left)) k.are
        ∙ left_both (suc left) k.first (transition event k.done k.between between ∷ [])
        ∙ ap (events_left (transition event k.done k.between between ∷ [])) (quiet_leave (suc left) k.first quiet)
        ∙ event_leaves left event fit.change k.done k.between between fit.act

    first_ends : (left : ℕ) (vs : List ActTrace) → EndsEvents left vs → EndsEvents (suc left) (first ++ vs)
    first_ends left vs ends =
        subst (EndsEvents (suc left)) (sym (along vs))
        (ends_after_quiet (suc left) k.first (transition event k.done k.between between ∷ vs) quiet (omega arith) (
          omega arith,
          subst (λ n. EndsEvents n vs)
              (sym (event_leaves left event fit.change k.done k.between between fit.act)) ends,
        ))

    first_leads : (v : WorldState) → world_after first v ≡ between
    first_leads v =
        ap (λ us. world_after us v) k.are
        ∙ world_both k.first (transition event k.done k.between between) v

    first_last : (from : ℕ) → last_time from first ≡ between.time
    first_last from =
        ap (last_time from) k.are ∙ last_both from k.first (transition event k.done k.between between) ∙ sym time_is

    first_soon : (last : ℕ) → event.at ≤ last → AllByRecursion (λ (t : ActTrace). at_of t ≤ last) first
    first_soon last past =
        early_makes answers d playable names (λ (t : ActTrace). at_of t ≤ last) event first fate drawn w between
        (λ t by_then. omega (arith, past, by_then)) k

    -- where it is the last
    first_looks : (rs : List SystemReading) (low high : ℤ) (most : ℕ) (vs : List ActTrace)
        → GoodLooks low high most (looked_over rs 1 (first ++ vs))
        → GoodLooks low high most (looked_all between.time between (readings_after first rs))
    first_looks rs low high most vs good =
        let t : ActTrace = transition event k.done k.between between in
        let after = good_after low high most rs 1 k.first (t ∷ vs)
        (subst (λ us. GoodLooks low high most (looked_over rs 1 us)) (along vs) good) in
        let looks = event_looks low high most (readings_after k.first rs) event fit.change k.done k.between between vs
        fit.act
        (subst (λ n. GoodLooks low high most (looked_over (readings_after k.first rs) n (t ∷ vs)))
        (quiet_leave 1 k.first quiet) after) in
        let reads : read_after t (readings_after k.first rs) ≡ readings_after first rs =
        sym (ap (λ us. readings_after us rs) k.are ∙ readings_both k.first (t ∷ []) rs) in
        subst (λ n. GoodLooks low high most (looked_all n between (readings_after first rs))) (sym time_is)
        (subst (λ xs. GoodLooks low high most (looked_all event.at between xs)) reads looks)

  pub parts : (before : List Timed) (event : Timed) (es : List Timed) (rs : List SystemReading) (until : ℕ)
      (ts : List ActTrace) (fate fate_after : F) (w w' : WorldState)
      → Each (IsFitEvent answers d playable names) (event ∷ es) → Keeps answers d playable names before w
      → Courses answers until (event ∷ es) ts fate fate_after w w' → Parts before (event ∷ es) rs until ts fate_after w'
  parts before event [] rs until ts fate fate_after w w' fit keeps (first, rest, drawn, between, k, on, are) =
      let fits = fit 0 event refl in record {
        head = first;
        tail = rest;
        are = are;
        middle = between;
        drawn = drawn;
        passes = on;
        keeps = keeps_made answers d playable names before event first fate drawn w between fits k keeps;
        ends = subst (EndsEvents 1) (append-nil first) (first_ends event first fate drawn w between fits k 0 [] refl);
        leads = first_leads event first fate drawn w between fits k;
        last = first_last event first fate drawn w between fits k;
        soon = λ last past. first_soon event first fate drawn w between fits k last past.0;
        looks = first_looks event first fate drawn w between fits k rs;
      }
  parts before event (e ∷ es) rs until ts fate fate_after w w' fit keeps (first, rest, drawn, between, k, on, are) =
      let fits = fit 0 event refl in
      let kept = keeps_made answers d playable names before event first fate drawn w between fits k keeps in
      let more = parts (before ++ event ∷ []) e es (readings_after first rs) until rest drawn fate_after between w'
      (λ place. fit (suc place)) kept on in record {
        head = first ++ more.head;
        tail = more.tail;
        are = are ∙ ap (λ us. first ++ us) more.are ∙ sym (append_assoc first more.head more.tail);
        middle = more.middle;
        drawn = more.drawn;
        passes = more.passes;
        keeps = subst (λ fs. Keeps answers d playable names fs more.middle) (append_assoc before (event ∷ []) (e ∷ es))
            more.keeps;
        ends = first_ends event first fate drawn w between fits k (length (e ∷ es)) more.head more.ends;
        leads = λ v. world_on first more.head v ∙ more.leads (world_after first v);
        last = λ from. last_on from first more.head ∙ more.last (last_time from first);
        soon = λ last past. all_both (λ (t : ActTrace). at_of t ≤ last) first more.head
            (first_soon event first fate drawn w between fits k last past.0) (more.soon last past.1);
        looks = λ low high most vs good.
            (let over = good_after low high most rs (suc (length (e ∷ es))) first (more.head ++ vs)
            (subst (λ us. GoodLooks low high most (looked_over rs (suc (length (e ∷ es))) us))
            (append_assoc first more.head vs) good) in
            subst (λ xs. GoodLooks low high most (looked_all more.middle.time more.middle xs))
            (sym (readings_both first more.head rs))
            (more.looks low high most vs
            (subst (λ n. GoodLooks low high most (looked_over (readings_after first rs) n (more.head ++ vs)))
            (first_leaves event first fate drawn w between fits k (length (e ∷ es))) over)));
      }
