-- What a course tells of what is new at a link, the events that name a system at one of its ends tell too.
use Rattle.std.proofs.Common.{◌≡◌, ◌≤◌, ◌<◌, ℕ, Bool, true, false, ◌==◌, cond, List, [], ◌∷◌, ◌++◌, Option, Some, refl, sym, ap, ap₂, ◌∙◌, arith}
use Rattle.std.proofs.lemmas.Bool.{eqb-true, eqb-false, eq-eqb, ne_eqb, or_parts}
use Rattle.gptp_setup.specs.declared.setup.Params.{Params}
use Rattle.gptp_vector.specs.declared.port.PortId.{PortId}
use Rattle.gptp_scenario.specs.declared.change.Timed.{Timed}
use Rattle.gptp_scenario.specs.declared.network.LinkSpec.{LinkSpec}
use Rattle.gptp_network.specs.Document.{DocumentState}
use Rattle.gptp_network.specs.Events.{AreInOrder}
use Rattle.gptp_scenario.proofs.AfterLemmas.{acted_keeps}
use Rattle.gptp_topology.specs.Course.{acted, course_at_time, cable_of, course_from, course_of, first, is_cable_end, named, naming, past, cable_wire}
use Rattle.gptp_topology.specs.Trouble.{is_long, loss_in_use}
use Rattle.gptp_topology.specs.declared.course.Cable.{Cable}
use Rattle.gptp_topology.specs.declared.course.Standing.{Standing}
use Rattle.gptp_topology.proofs.CourseLemmas.{all_from_0, behind, not_before, order_behind}
use Rattle.gptp_topology.proofs.NamedLemmas.{untouched}
use Rattle.gptp_lint.specs.Trouble.{long_at, long_of, next_other, lossy_stretch, stretches}
use Rattle.gptp_lint.specs.declared.trouble.Lossy.{Lossy}

-- the link's ends are at these systems
record IsOf (c : Cable) (s : Standing) : Type 0 where
  a : s.cable.a.clock ≡ c.a.clock
  b : s.cable.b.clock ≡ c.b.clock

still_of : (c : Cable) (t : Timed) (s : Standing) → IsOf c s → IsOf c (acted t.act s)
still_of c t s of_it =
    let keeps = acted_keeps t.act (cable_wire s.cable) in record {
      a = ap (λ (p : PortId). p.clock) keeps.a ∙ of_it.a;
      b = ap (λ (p : PortId). p.clock) keeps.b ∙ of_it.b;
    }

-- an event that names another system leaves it as it stands
passed_over : (c : Cable) (t : Timed) (s : Standing) → IsOf c s → is_cable_end c (named t.act) ≡ false
    → acted t.act s ≡ s
passed_over c t s of_it other =
    let (a, b) = or_parts (named t.act == c.a.clock) (named t.act == c.b.clock) other in
    untouched t.act s (λ same. eqb-false (named t.act) c.a.clock a (same ∙ of_it.a))
    (λ same. eqb-false (named t.act) c.b.clock b (same ∙ of_it.b))

-- those that name one of them are no earlier
kept_before : (c : Cable) (at : ℕ) (ts : List Timed) → not_before at ts → not_before at (naming c ts)
kept_before c at [] come = tt
kept_before c at (t ∷ ts) come = by (kept_before c at ts come.1) (is_cable_end c (named t.act))
  where
    by : not_before at (naming c ts) → (test : Bool) → not_before at (cond test (t ∷ naming c ts) (naming c ts))
    by rest true = (come.0, rest)
    by rest false = rest

module _ {X : Type 0} (Told : ℕ → List Standing → X)
    (repeats : (loss at : ℕ) (s : Standing) (ss : List Standing)
    → Told loss (s ∷ course_at_time at s ∷ ss) ≡ Told loss (s ∷ ss))
    (goes_on : (s : Standing) (ss rs : List Standing) → ((loss : ℕ) → Told loss ss ≡ Told loss rs)
    → (loss : ℕ) → Told loss (s ∷ ss) ≡ Told loss (s ∷ rs))
    (c : Cable) where
  -- all that is told is told by the events that name one of these systems
  abbrev Same : Standing → List Timed → Type 0
  Same s ts = (loss : ℕ) → Told loss (course_from s ts) ≡ Told loss (course_from s (naming c ts))

  -- an event that counts
  with_it : (s : Standing) (t : Timed) (ts : List Timed) → Same (acted t.act (course_at_time t.at s)) ts → (same : Bool)
      → (loss : ℕ)
      → Told loss (cond same [] (s ∷ []) ++ course_from (acted t.act (course_at_time t.at s)) ts)
      ≡ Told loss (cond same [] (s ∷ []) ++ course_from (acted t.act (course_at_time t.at s)) (naming c ts))
  with_it s t ts rest true loss = rest loss
  with_it s t ts rest false loss =
      goes_on s (course_from (acted t.act (course_at_time t.at s)) ts)
      (course_from (acted t.act (course_at_time t.at s)) (naming c ts)) rest loss

  -- A standing that is there again at a later time, before events that come no earlier
  again : (s : Standing) (at : ℕ) (us : List Timed) → s.at < at → not_before at us → (loss : ℕ)
      → Told loss (s ∷ course_from (course_at_time at s) us) ≡ Told loss (course_from s us)
  again s at [] later come loss = repeats loss at s []
  again s at (u ∷ us) later come loss =
      let here = come.0 in
      let apart : (s.at == u.at) ≡ false = ne_eqb s.at u.at (λ same. absurd (omega (arith, same, here, later))) in
      let then = course_from (acted u.act (course_at_time u.at s)) us in
      by (at == u.at) ∙ ap (λ test. Told loss (cond test [] (s ∷ []) ++ then)) (sym apart)
    where
      by : (same : Bool)
          → Told loss (s ∷ (cond same [] (course_at_time at s ∷ []) ++ course_from
          (acted u.act (course_at_time u.at s)) us))
          ≡ Told loss (s ∷ course_from (acted u.act (course_at_time u.at s)) us)
      by true = refl
      by false = repeats loss at s (course_from (acted u.act (course_at_time u.at s)) us)

  -- an event that doesn't count
  without_it : (s : Standing) (t : Timed) (ts : List Timed) → Same (course_at_time t.at s) ts → s.at ≤ t.at
      → not_before t.at ts → (same : Bool) → (s.at == t.at) ≡ same → (loss : ℕ)
      → Told loss (cond same [] (s ∷ []) ++ course_from (course_at_time t.at s) ts)
      ≡ Told loss (course_from s (naming c ts))
  without_it s t ts rest earlier come true is loss =
      let now : course_at_time t.at s ≡ s = ap (λ at. course_at_time at s) (sym (eqb-true s.at t.at is)) in
      rest loss ∙ ap (λ r. Told loss (course_from r (naming c ts))) now
  without_it s t ts rest earlier come false is loss =
      let apart = eqb-false s.at t.at is in
      let later : s.at < t.at = omega (arith, earlier, apart) in
      goes_on s (course_from (course_at_time t.at s) ts) (course_from (course_at_time t.at s) (naming c ts)) rest loss
      ∙ again s t.at (naming c ts) later (kept_before c t.at ts come) loss

  thin : (s : Standing) (ts : List Timed) → IsOf c s → not_before s.at ts → AreInOrder ts → Same s ts
  thin s [] of_it come order loss = refl
  thin s (t ∷ ts) of_it come order loss =
      let at_it : IsOf c (course_at_time t.at s) = record { a = of_it.a; b = of_it.b } in
      let later = behind t ts order in
      let in_order = order_behind t ts order in
      by at_it (thin (acted t.act (course_at_time t.at s)) ts
      (still_of c t (course_at_time t.at s) at_it) later in_order)
      (thin (course_at_time t.at s) ts at_it later in_order) (is_cable_end c (named t.act)) refl
    where
      by : IsOf c (course_at_time t.at s) → Same (acted t.act (course_at_time t.at s)) ts
          → Same (course_at_time t.at s) ts
          → (test : Bool) → is_cable_end c (named t.act) ≡ test
          → Told loss (course_from s (t ∷ ts))
          ≡ Told loss (course_from s (cond test (t ∷ naming c ts) (naming c ts)))
      by at_it counts passes true is = with_it s t ts counts (s.at == t.at) loss
      by at_it counts passes false is =
          ap (λ r. Told loss (past t.at s [] ++ course_from r ts)) (passed_over c t (course_at_time t.at s) at_it is)
          ∙ without_it s t ts passes come.0 (behind t ts order) (s.at == t.at) refl loss

-- ---- the first time at which it isn't good

long_again : (p : Params) (at : ℕ) (s : Standing) (ss : List Standing) (long : Bool)
    → is_long p s ≡ long → cond long (Some (long_at p s)) (long_of p (course_at_time at s ∷ ss))
    ≡ cond long (Some (long_at p s)) (long_of p ss)
long_again p at s ss true is = refl
long_again p at s ss false is =
    ap (λ test. cond test (Some (long_at p (course_at_time at s))) (long_of p ss)) is

pub long_is : (d : DocumentState) (w : LinkSpec) → AreInOrder d.events
    → long_of d.network.params (course_from (first w) (naming (cable_of w) d.events))
    ≡ long_of d.network.params (course_of d.events w)
long_is d w order =
    let p : Params = d.network.params in
    sym (thin (λ loss. long_of p) (λ loss at s ss. long_again p at s ss (is_long p s) refl)
    (λ s ss rs rest loss. ap (λ o. cond (is_long p s) (Some (long_at p s)) o) (rest loss))
    (cable_of w) (first w) d.events (record { a = refl; b = refl }) (all_from_0 d.events) order 0)

-- ---- the stretches at which it loses frames

-- until when a loss lasts, and the stretches after a time with it
abbrev Stretches : Type 0
Stretches = Option ℕ × List Lossy

abbrev lasts : ℕ → ℕ → List Standing → Stretches
lasts link loss ss = (next_other loss ss, stretches link loss ss)

module _ (link loss at : ℕ) (s : Standing) (ss : List Standing) where
  abbrev now : ℕ
  now = loss_in_use s

  lasts_as_long : (same : Bool) → (now == loss) ≡ same
      → cond same (cond (now == loss) (next_other loss ss) (Some at)) (Some s.at)
      ≡ cond same (next_other loss ss) (Some s.at)
  lasts_as_long true is = ap (λ test. cond test (next_other loss ss) (Some at)) is
  lasts_as_long false is = refl

  none_begins : stretches link loss (s ∷ course_at_time at s ∷ ss) ≡ stretches link loss (s ∷ ss)
  none_begins =
      ap (λ same. cond (now == loss) [] (lossy_stretch link now s.at (cond same (next_other now ss) (Some at)))
      ++ (cond same [] (lossy_stretch link now at (next_other now ss)) ++ stretches link now ss))
      (eq-eqb now now refl)

  lossy_again : lasts link loss (s ∷ course_at_time at s ∷ ss) ≡ lasts link loss (s ∷ ss)
  lossy_again = ap₂ (λ (to : Option ℕ) (ls : List Lossy). (to, ls)) (lasts_as_long (now == loss) refl) none_begins

lossy_goes_on : (link : ℕ) (s : Standing) (ss rs : List Standing)
    → ((loss : ℕ) → lasts link loss ss ≡ lasts link loss rs)
    → (loss : ℕ) → lasts link loss (s ∷ ss) ≡ lasts link loss (s ∷ rs)
lossy_goes_on link s ss rs rest loss =
    let now = loss_in_use s in
    ap₂ (λ (a b : Stretches). (
      cond (now == loss) a.0 (Some s.at),
      cond (now == loss) [] (lossy_stretch link now s.at b.0) ++ b.1,
    )) (rest loss) (rest now)

pub lossy_is : (d : DocumentState) (w : LinkSpec) → AreInOrder d.events
    → stretches w.bounds.link 0 (course_from (first w) (naming (cable_of w) d.events))
    ≡ stretches w.bounds.link 0 (course_of d.events w)
lossy_is d w order =
    let link : ℕ = w.bounds.link in
    sym (ap (λ (l : Stretches). l.1)
    (thin (lasts link) (lossy_again link) (lossy_goes_on link) (cable_of w) (first w) d.events
    (record { a = refl; b = refl }) (all_from_0 d.events) order 0))
