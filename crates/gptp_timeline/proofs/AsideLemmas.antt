-- Acts of systems that are set aside, one act more, and where nobody is.
use Rattle.std.proofs.Common.{◌≡◌, ◌<◌, ◌==◌, ◌&&◌, ◌++◌, ℕ, Bool, true, false, if◌then◌else◌, List, [], ◌∷◌, Option, Some, None, refl, ap, ◌∙◌, arith}
use Rattle.std.proofs.lemmas.Bool.Decides.{nat_tests}
use Rattle.gptp_model.specs.declared.done.Done.{Done}
use Rattle.gptp_scenario.specs.declared.change.Act.{Act}
use Rattle.gptp_scenario.specs.declared.change.Act.TheVariants.{Change as Changing, Deliver, Expire}
use Rattle.gptp_world.specs.Transitions.{ActTrace}
use Rattle.gptp_timeline.specs.Aside.{aside_after, aside_behind, aside_over, AsideState, is_aside, is_out, is_returned, is_set_aside, left_out, looked_acts, readings_begun, received_in, without_clock, without_readings}
use Rattle.gptp_timeline.specs.Receipts.{received_by}
use Rattle.gptp_timeline.specs.declared.readings.SystemReading.{SystemReading}

-- ---- one act more

abbrev also_if : Bool → List ActTrace → ActTrace → List ActTrace
also_if out ts t = if out then ts else ts ++ t ∷ []

behind_first : (out : Bool) (u t : ActTrace) (ts : List ActTrace) → u ∷ also_if out ts t ≡ also_if out (u ∷ ts) t
behind_first true u t ts = refl
behind_first false u t ts = refl

pub looked_more : (ts : List ActTrace) (t : ActTrace) (a : AsideState)
    → looked_acts a (ts ++ t ∷ [])
    ≡ (if is_out (aside_over ts a) t then looked_acts a ts else looked_acts a ts ++ t ∷ [])
looked_more [] t a = refl
looked_more (u ∷ us) t a = by (is_out a u) (looked_more us t (aside_behind u a))
  where
    next : AsideState
    next = aside_behind u a

    by : (out : Bool)
        → looked_acts next (us ++ t ∷ []) ≡ also_if (is_out (aside_over us next) t) (looked_acts next us) t
        → (if out then looked_acts next (us ++ t ∷ []) else u ∷ looked_acts next (us ++ t ∷ []))
        ≡ also_if (is_out (aside_over us next) t)
        (if out then looked_acts next us else u ∷ looked_acts next us) t
    by true rest = rest
    by false rest =
        ap (λ vs. u ∷ vs) rest ∙ behind_first (is_out (aside_over us next) t) u t (looked_acts next us)

pub over_more : (ts : List ActTrace) (t : ActTrace) (a : AsideState)
    → aside_over (ts ++ t ∷ []) a ≡ aside_behind t (aside_over ts a)
over_more [] t a = refl
over_more (u ∷ us) t a = over_more us t (aside_behind u a)

-- an act by which nobody receives time changes nothing of who is set aside
pub aside_stays : (act : Act) (done : Done) (a : AsideState) → received_by done ≡ None → aside_after act done a ≡ a
aside_stays act done a nobody = by (is_set_aside a && is_returned a) (none act)
  where
    none : (act : Act) → received_in act done ≡ None
    none (Deliver link direction) = nobody
    none (Expire name timer) = refl
    none (Changing change) = refl

    by : (ends : Bool) → received_in act done ≡ None
        → (if ends then record a { clocks = without_clock (received_in act done) a.clocks } else a) ≡ a
    by true is = ap (λ name. record a { clocks = without_clock name a.clocks }) is
    by false is = refl

-- ---- where nobody is set aside

none_aside_by : (name : Option ℕ) → is_aside [] name ≡ false
none_aside_by None = refl
none_aside_by (Some name) = refl

none_left_out : (returned : Bool) (act : Act) (done : Done) → left_out [] returned act done ≡ false
none_left_out true (Deliver link direction) done = refl
none_left_out false (Deliver link direction) done = none_aside_by (received_by done)
none_left_out returned (Expire name timer) done = refl
none_left_out returned (Changing change) done = refl

and_false : (b : Bool) → b && false ≡ false
and_false true = refl
and_false false = refl

none_dropped : (name : Option ℕ) → without_clock name [] ≡ []
none_dropped None = refl
none_dropped (Some name) = refl

pub nobody_out : (a : AsideState) → a.clocks ≡ [] → (t : ActTrace) → is_out a t ≡ false
nobody_out a nobody t =
    ap (λ clocks. is_set_aside a && left_out clocks (is_returned a) t.told.timed.act t.told.done) nobody
    ∙ ap (λ b. is_set_aside a && b) (none_left_out (is_returned a) t.told.timed.act t.told.done)
    ∙ and_false (is_set_aside a)

pub nobody_behind : (a : AsideState) → a.clocks ≡ [] → (t : ActTrace) → (aside_behind t a).clocks ≡ []
nobody_behind a nobody t = by (is_set_aside a && is_returned a)
  where
    name : Option ℕ
    name = received_in t.told.timed.act t.told.done

    by : (ends : Bool) → (if ends then record a { clocks = without_clock name a.clocks } else a).clocks ≡ []
    by true = ap (without_clock name) nobody ∙ none_dropped name
    by false = nobody

pub nobody_acts : (ts : List ActTrace) (a : AsideState) → a.clocks ≡ [] → looked_acts a ts ≡ ts
nobody_acts [] a nobody = refl
nobody_acts (t ∷ ts) a nobody =
    let rest = looked_acts (aside_behind t a) ts in
    ap (λ out. if out then rest else t ∷ rest) (nobody_out a nobody t)
    ∙ ap (λ us. t ∷ us) (nobody_acts ts (aside_behind t a) (nobody_behind a nobody t))

pub nobody_over : (ts : List ActTrace) (a : AsideState) → a.clocks ≡ [] → (aside_over ts a).clocks ≡ []
nobody_over [] a nobody = nobody
nobody_over (t ∷ ts) a nobody = nobody_over ts (aside_behind t a) (nobody_behind a nobody t)

pub nobody_begins : (a : AsideState) → a.clocks ≡ [] → (rs : List SystemReading) → readings_begun a rs ≡ rs
nobody_begins a nobody rs =
    ap (λ clocks. if a.begun == a.from then without_readings clocks rs else rs) nobody ∙ by (a.begun == a.from)
  where
    by : (begins : Bool) → (if begins then rs else rs) ≡ rs
    by true = refl
    by false = refl

-- ---- where systems are set aside later than the stretch that passes begins

not_yet : (a : AsideState) → a.begun < a.from → is_set_aside a ≡ false
not_yet a later = grind (arith, nat_tests)

later_out : (a : AsideState) → a.begun < a.from → (t : ActTrace) → is_out a t ≡ false
later_out a later t =
    ap (λ aside. aside && left_out a.clocks (is_returned a) t.told.timed.act t.told.done) (not_yet a later)

later_behind : (a : AsideState) → a.begun < a.from → (t : ActTrace) → aside_behind t a ≡ a
later_behind a later t =
    ap (λ aside. if aside && is_returned a
    then record a { clocks = without_clock (received_in t.told.timed.act t.told.done) a.clocks } else a)
    (not_yet a later)

pub later_acts : (ts : List ActTrace) (a : AsideState) → a.begun < a.from → looked_acts a ts ≡ ts
later_acts [] a later = refl
later_acts (t ∷ ts) a later =
    ap (λ out. if out then looked_acts (aside_behind t a) ts else t ∷ looked_acts (aside_behind t a) ts)
    (later_out a later t)
    ∙ ap (λ b. t ∷ looked_acts b ts) (later_behind a later t)
    ∙ ap (λ us. t ∷ us) (later_acts ts a later)

pub later_over : (ts : List ActTrace) (a : AsideState) → a.begun < a.from → aside_over ts a ≡ a
later_over [] a later = refl
later_over (t ∷ ts) a later = ap (aside_over ts) (later_behind a later t) ∙ later_over ts a later

pub later_begins : (a : AsideState) → a.begun < a.from → (rs : List SystemReading) → readings_begun a rs ≡ rs
later_begins a later rs =
    let other : a.begun == a.from ≡ false = grind (arith, nat_tests) in
    ap (λ begins. if begins then without_readings a.clocks rs else rs) other
