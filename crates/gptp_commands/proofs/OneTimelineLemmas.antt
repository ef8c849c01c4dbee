-- A document and what is asked of its timeline have one text, and one status.
use Rattle.std.proofs.Common.{◌≡◌, ℕ, Bool, true, false, List, [], ◌∷◌, ◌++◌, length, map, Option, Some, None, option_map, refl, sym, ap, ap₂, subst, ◌∙◌}
use Rattle.std.specs.Bool.{⊤}
use Rattle.std.specs.List.{flat_map}
use Rattle.gptp_links.specs.declared.bounds.Bounds.{Bounds}
use Rattle.gptp_model.specs.Initial.{initial}
use Rattle.gptp_model.specs.Views.{rising_clocks}
use Rattle.gptp_model.specs.World.{WorldState}
use Rattle.gptp_network.specs.Document.{DocumentState, seeded_document}
use Rattle.gptp_network.specs.Snapshot.{events_by}
use Rattle.gptp_scenario.specs.declared.change.Timed.{Timed}
use Rattle.gptp_report.specs.Transitions.{Courses, ActTrace}
use Rattle.gptp_determinism.specs.Named.{AnswersOnce, IsNamed}
use Rattle.gptp_determinism.specs.ActTraceLaws.{SameTransitions}
use Rattle.gptp_determinism.proofs.CourseLemmas.{begins_once}
use Rattle.gptp_determinism.proofs.MeantLemmas.{seeded_named, seeded_names}
use Rattle.gptp_determinism.proofs.NameLemmas.{begun_named, NamesOne}
use Rattle.gptp_determinism.proofs.ActTraceLemmas.{courses_named, courses_once}
use Rattle.gptp_accuracy.specs.declared.errors.SystemError.{SystemError}
use Rattle.gptp_accuracy.specs.declared.errors.TimeErrors.{TimeErrors}
use Rattle.gptp_accuracy.proofs.OneLemmas.{errors_once}
use Rattle.gptp_accuracy.proofs.WayLemmas.{HasOneEach}
use Rattle.gptp_timeline.specs.Limits.{exceeded_after, is_exceeded, verdict_lines}
use Rattle.gptp_timeline.specs.Shown.{shown}
use Rattle.gptp_timeline.specs.Stretch.{counted, measured}
use Rattle.gptp_timeline.specs.StretchText.{after_line, system_accuracy}
use Rattle.gptp_timeline.specs.ExactReads.{ended_reads, reads_over, unread}
use Rattle.gptp_timeline.specs.Looks.{measured_times}
use Rattle.gptp_timeline.specs.Readings.{readings_after}
use Rattle.gptp_timeline.specs.TimeLines.{reads_words}
use Rattle.gptp_timeline.specs.Timeline.{AllPass, AreErrorsBy, AreErrorsIf, Carried, IsPassage, StretchTrace, TimelineOf, accuracy_at, all_exceeded, all_lines, carry, exact_time, is_begun, later_than, line_of_times, none_carried, passage_lines, reads_if, start_lines, stretch_of, timeline_accuracy_lines, tracks}
use Rattle.gptp_timeline.specs.declared.limits.Limits.{Limits}
use Rattle.gptp_timeline.specs.declared.timeline.TimelineOptions.{TimelineOptions}
use Rattle.gptp_commands.specs.declared.failure.Status.{Status}
use Rattle.gptp_commands.specs.declared.timeline.TimelineOrder.{TimelineOrder}
use Rattle.gptp_commands.specs.Failure.{status_by}
use Rattle.gptp_commands.specs.RunText.{draws, generator}
use Rattle.gptp_commands.specs.TimelineText.{EndsAt, PlaysTimeline, TellsTimeline, TimelineText}
use Rattle.gptp_commands.proofs.OneRunLemmas.{draws_once}
use Rattle.gptp_commands.proofs.SameActLemmas.{same_acts, same_carry, same_ended_reads, same_errors_from, same_measures, same_times}
use Rattle.gptp_commands.proofs.OneAnswerLemmas.{one_answer}
use Rattle.gptp_commands.proofs.VerdictLemmas.{AreSame}

-- ---- what is known of a stretch by the document

-- as far as they are told, errors are the same, or there are none
abbrev pub SameErrors : Option TimeErrors → Option TimeErrors → Type 0
SameErrors None None = ⊤
SameErrors None (Some u) = ⊥
SameErrors (Some t) None = ⊥
SameErrors (Some t) (Some u) = (t.from ≡ u.from) × (t.systems.items ≡ u.systems.items)

one_errors : (d : DocumentState) (at to : ℕ) (a b : Option TimeErrors) → HasOneEach d.network
    → AreErrorsBy d at to a → AreErrorsBy d at to b → SameErrors a b
one_errors d at to None None names x y = tt
one_errors d at to None (Some u) names x y = absurd (x u y.0 y.1)
one_errors d at to (Some t) None names x y = absurd (y t x.0 x.1)
one_errors d at to (Some t) (Some u) names x y =
    let same = errors_once d at t u names x.0 y.0 in (same.from, same.systems)

-- where they aren't asked, there are none
one_errors_if : (exact : Bool) (d : DocumentState) (at to : ℕ) (a b : Option TimeErrors) → HasOneEach d.network
    → AreErrorsIf exact d at to a → AreErrorsIf exact d at to b → SameErrors a b
one_errors_if true d at to a b names x y = one_errors d at to a b names x y
one_errors_if false d at to a b names x y =
    subst (λ (e : Option TimeErrors). SameErrors e b) (sym x)
    (subst (λ (e : Option TimeErrors). SameErrors None e) (sym y) tt)

-- ---- one stretch

-- two stretches are one: when they are, what happens in them, and what is known of them
pub record IsSamePassage (p q : StretchTrace) : Type 0 where
  pub from : p.from ≡ q.from
  pub to : p.to ≡ q.to
  pub events : p.events ≡ q.events
  pub acts : SameTransitions p.acts q.acts
  pub after : p.after ≡ q.after
  pub settling : p.settling ≡ q.settling
  pub errors : SameErrors p.errors q.errors

module _ {F : Type 0} (answers : Bounds → ℕ → F → Option ℕ → F → Type 0) (once : AnswersOnce answers)
    (exact : Bool) (d : DocumentState) (names : HasOneEach d.network) (until : ℕ) where
  one_passage : (from : ℕ) (events : List Timed) (fate f g : F) (w : WorldState) (p q : StretchTrace) → IsNamed w
      → IsPassage answers exact d until from events fate f w p → IsPassage answers exact d until from events fate g w q
      → IsSamePassage p q × (f ≡ g)
  one_passage from events fate f g w p q is k l =
      let to : p.to ≡ q.to = k.to_is ∙ sym l.to_is in
      let made : p.events ≡ q.events = k.events_are ∙ sym l.events_are in
      let way = courses_once answers once q.to q.events p.acts q.acts fate f g w p.after q.after is
      (subst (λ (es : List Timed). Courses answers q.to es p.acts fate f w p.after) made
      (subst (λ (time : ℕ). Courses answers time p.events p.acts fate f w p.after) to k.courses)) l.courses in
      let errors : AreErrorsIf exact d from q.to p.errors =
      subst (λ (time : ℕ). AreErrorsIf exact d from time p.errors) to k.errors_are in (
        record {
          from = k.from_is ∙ sym l.from_is;
          to = to;
          events = made;
          acts = way.acts;
          after = way.world;
          settling = k.settling_is ∙ sym l.settling_is;
          errors = one_errors_if exact d from q.to p.errors q.errors names errors l.errors_are;
        },
        way.fate_is,
      )

  passage_named : (from : ℕ) (events : List Timed) (fate f : F) (w : WorldState) (p : StretchTrace) → IsNamed w
      → IsPassage answers exact d until from events fate f w p → IsNamed p.after
  passage_named from events fate f w p is k =
      courses_named answers p.to p.events p.acts fate f w p.after is k.courses

-- ---- all stretches

abbrev pub SamePassages : List StretchTrace → List StretchTrace → Type 0
SamePassages [] [] = ⊤
SamePassages [] (q ∷ qs) = ⊥
SamePassages (p ∷ ps) [] = ⊥
SamePassages (p ∷ ps) (q ∷ qs) = IsSamePassage p q × SamePassages ps qs

module _ {F : Type 0} (answers : Bounds → ℕ → F → Option ℕ → F → Type 0) (once : AnswersOnce answers)
    (exact : Bool) (d : DocumentState) (names : HasOneEach d.network) (until : ℕ) where
  pub all_pass_once : (from : ℕ) (events : List Timed) (fate f g : F) (w v u : WorldState) (ps qs : List StretchTrace)
      → IsNamed w → AllPass answers exact d until from events fate f w v ps
      → AllPass answers exact d until from events fate g w u qs → SamePassages ps qs
  all_pass_once from events fate f g w v u [] qs is k l = absurd k
  all_pass_once from events fate f g w v u (p ∷ []) [] is k l = absurd l
  all_pass_once from events fate f g w v u (p ∷ []) (q ∷ []) is (k, _, _) (l, _, _) =
      ((one_passage answers once exact d names until from events fate f g w p q is k l).0, tt)
  all_pass_once from events fate f g w v u (p ∷ []) (q ∷ (q2 ∷ qs)) is (_, last, _) (_, _, more, _) =
      absurd (more last)
  all_pass_once from events fate f g w v u (p ∷ (p2 ∷ ps)) [] is k l = absurd l
  all_pass_once from events fate f g w v u (p ∷ (p2 ∷ ps)) (q ∷ []) is (_, _, more, _) (_, last, _) =
      absurd (more last)
  all_pass_once from events fate f g w v u (p ∷ (p2 ∷ ps)) (q ∷ (q2 ∷ qs)) is (x, k, _, ks) (y, l, _, ls) =
      let (first, fates) = one_passage answers once exact d names until from events fate x y w p q is k l in
      let left = later_than from events in
      let On : ℕ → F → WorldState → Type 0 =
      λ time drawn a. AllPass answers exact d until time left drawn f a v (p2 ∷ ps) in
      let on : On q.to y q.after =
      subst (λ (a : WorldState). On q.to y a) first.after
      (subst (λ (drawn : F). On q.to drawn p.after) fates
      (subst (λ (time : ℕ). On time x p.after) first.to ks)) in (
        first,
        all_pass_once q.to left y f g q.after v u (p2 ∷ ps) (q2 ∷ qs)
            (passage_named answers once exact d names until from events fate y w q is l) on ls,
      )

-- ---- their lines

same_accuracy_at : (reads : SystemError → List ℕ) (from : Option ℕ) (ts us : List ActTrace)
    (systems : List SystemError) → SameTransitions ts us
    → accuracy_at reads from ts systems ≡ accuracy_at reads from us systems
same_accuracy_at reads None ts us systems k = refl
same_accuracy_at reads (Some from) ts us systems k =
    λ i. flat_map (system_accuracy from (λ name. same_errors_from name (Some from) ts us k i) reads) systems

same_accuracy : (reads : SystemError → List ℕ) (ts us : List ActTrace) (a b : Option TimeErrors)
    → SameTransitions ts us → SameErrors a b
    → timeline_accuracy_lines reads ts a ≡ timeline_accuracy_lines reads us b
same_accuracy reads ts us None None k same = refl
same_accuracy reads ts us None (Some u) k same = absurd same
same_accuracy reads ts us (Some t) None k same = absurd same
same_accuracy reads ts us (Some t) (Some u) k (from, systems) =
    ap₂ (λ (time : Option ℕ) (errors : List SystemError). accuracy_at reads time ts errors) from systems
    ∙ same_accuracy_at reads u.from ts us u.systems.items k

-- from the same time on they hold
same_exact : (a b : Option TimeErrors) → SameErrors a b → exact_time a ≡ exact_time b
same_exact None None same = refl
same_exact None (Some u) same = absurd same
same_exact (Some t) None same = absurd same
same_exact (Some t) (Some u) (from, systems) = from

-- what systems read
same_stretch_reads : (asked : Bool) (names : List ℕ) (readings : Option _) (p q : StretchTrace)
    → IsSamePassage p q → (s : SystemError) → reads_if asked names readings p s ≡ reads_if asked names readings q s
same_stretch_reads false names readings p q k s = refl
same_stretch_reads true names None p q k s = refl
same_stretch_reads true names (Some rs) p q k s =
    let exact = same_exact p.errors q.errors k.errors in
    let ended = same_ended_reads (exact_time p.errors) rs (map unread names) p.acts q.acts p.to p.after s.clock
    k.acts in
    ap (reads_words s) (ended
    ∙ (λ i. ended_reads (k.to i) (k.after i) (readings_after q.acts rs)
    (reads_over (exact i) rs (map unread names) q.acts) s.clock))

same_times_if : (readings : Option _) (p q : StretchTrace) → IsSamePassage p q
    → option_map (λ rs. measured_times rs (length p.events) p.acts p.to p.after) readings
    ≡ option_map (λ rs. measured_times rs (length q.events) q.acts q.to q.after) readings
same_times_if None p q k = refl
same_times_if (Some rs) p q k =
    ap Some (same_times rs (length p.events) p.acts q.acts p.to p.after k.acts
    ∙ (λ i. measured_times rs (length (k.events i)) q.acts (k.to i) (k.after i)))

pub same_stretch : (names : List ℕ) (carried : Carried) (p q : StretchTrace) → IsSamePassage p q
    → stretch_of names carried p ≡ stretch_of names carried q
same_stretch names carried p q k =
    let measures = same_measures names carried.since p.to p.acts q.acts k.acts
    ∙ ap (λ (to : ℕ). measured names carried.since to q.acts) k.to in
    let times = same_times_if carried.readings p q k in
    λ i. record {
      from = k.from i;
      to = k.to i;
      begins_with_event = is_begun (k.events i);
      settling = k.settling i;
      measures = measures i;
      counts = counted (map (λ name. shown name (k.after i)) names);
      times = times i;
    }

same_passage : (options : TimelineOptions) (names : List ℕ) (carried : Carried) (p q : StretchTrace)
    → IsSamePassage p q
    → passage_lines options names carried p ≡ passage_lines options names carried q
same_passage options names carried p q k =
    let acts = same_acts options names carried.readings p.acts q.acts k.acts in
    let stretch = same_stretch names carried p q k in
    let asked = options.times in
    let reads : ◌≡◌ {A = SystemError → List ℕ} (reads_if asked names carried.readings p)
    (reads_if asked names carried.readings q) = λ i s. same_stretch_reads asked names carried.readings p q k s i in
    let accuracy = ap (λ (r : SystemError → List ℕ). timeline_accuracy_lines r p.acts p.errors) reads
    ∙ same_accuracy (reads_if asked names carried.readings q) p.acts q.acts p.errors q.errors k.acts k.errors in
    λ i. acts i
    ++ after_line (stretch i) ∷ (line_of_times options.times (stretch i) (stretch i).times ++ accuracy i)

same_lines : (options : TimelineOptions) (names : List ℕ) (carried : Carried) (ps qs : List StretchTrace)
    → SamePassages ps qs → all_lines options names carried ps [] ≡ all_lines options names carried qs []
same_lines options names carried [] [] k = refl
same_lines options names carried [] (q ∷ qs) k = absurd k
same_lines options names carried (p ∷ ps) [] k = absurd k
same_lines options names carried (p ∷ ps) (q ∷ qs) (first, rest) =
    let later = ap (λ (begun : Carried). all_lines options names begun ps [])
    (same_carry p.acts q.acts carried first.acts)
    ∙ same_lines options names (carry q.acts carried) ps qs rest in
    λ i. same_passage options names carried p q first i ++ later i

same_exceeded : (limits : Limits) (names : List ℕ) (carried begun : Carried) (ps qs : List StretchTrace)
    → carried ≡ begun → SamePassages ps qs
    → all_exceeded limits names carried ps ≡ all_exceeded limits names begun qs
same_exceeded limits names carried begun [] [] e k = refl
same_exceeded limits names carried begun [] (q ∷ qs) e k = absurd k
same_exceeded limits names carried begun (p ∷ ps) [] e k = absurd k
same_exceeded limits names carried begun (p ∷ ps) (q ∷ qs) e (first, rest) =
    let later : carry p.acts carried ≡ carry q.acts begun =
    ap (λ (c : Carried). carry p.acts c) e ∙ same_carry p.acts q.acts begun first.acts in
    let stretch : stretch_of names carried p ≡ stretch_of names begun q =
    ap (λ (c : Carried). stretch_of names c p) e ∙ same_stretch names begun p q first in
    λ i before. same_exceeded limits names (carry p.acts carried) (carry q.acts begun) ps qs later rest i
    (exceeded_after limits (stretch i) before)

-- ---- the whole text

-- a document has one timeline to a time, and it exceeds limits or doesn't
one_timeline_of : {F : Type 0} (answers : Bounds → ℕ → F → Option ℕ → F → Type 0) → AnswersOnce answers
    → (d : DocumentState) (until : ℕ) (options : TimelineOptions) (fate : F) (xs ys : List (List ℕ)) (a b : Bool)
    → HasOneEach d.network → IsNamed (initial d.network) → TimelineOf answers d until options fate xs a
    → TimelineOf answers d until options fate ys b → (xs ≡ ys) × (a ≡ b)
one_timeline_of {F} answers once d until options fate xs ys a b names is k l =
    let (fates, starts) =
    begins_once answers once d.network fate k.started l.started k.start l.start is k.begun l.begun in
    let events = events_by until d.events in
    let pass : AllPass answers true d until 0 events l.started k.fate_after l.start k.after k.passages =
    subst (λ (w : WorldState). AllPass answers true d until 0 events l.started k.fate_after w k.after k.passages) starts
    (subst (λ (f : F). AllPass answers true d until 0 events f k.fate_after k.start k.after k.passages) fates k.pass) in
    let same = all_pass_once answers once true d names until 0 events l.started k.fate_after l.fate_after l.start
    k.after l.after k.passages l.passages (begun_named answers d.network fate l.started l.start is l.begun) pass
    l.pass in
    let clocks = rising_clocks l.start in
    let none : List ℕ → Carried = none_carried (tracks options) in
    let carried = none clocks in
    let counted : all_exceeded options.limits clocks carried k.passages None
    ≡ all_exceeded options.limits clocks carried l.passages None = λ i.
    same_exceeded options.limits clocks carried carried k.passages l.passages refl same i None in
    let verdicts : k.verdict ≡ l.verdict =
    k.verdict_is
    ∙ ap (λ (w : WorldState).
    all_exceeded options.limits (rising_clocks w) (none (rising_clocks w)) k.passages None) starts
    ∙ counted ∙ sym l.verdict_is in
    let told = same_lines options clocks carried k.passages l.passages same in
    let parts : start_lines options clocks l.start ++ all_lines options clocks carried k.passages []
    ++ verdict_lines options.limits k.verdict
    ≡ start_lines options clocks l.start ++ all_lines options clocks carried l.passages []
    ++ verdict_lines options.limits l.verdict = λ i.
    start_lines options clocks l.start ++ told i ++ verdict_lines options.limits (verdicts i) in (
      k.are
          ∙ ap (λ (w : WorldState).
          start_lines options (rising_clocks w) w
          ++ all_lines options (rising_clocks w) (none (rising_clocks w)) k.passages []
          ++ verdict_lines options.limits k.verdict) starts
          ∙ parts ∙ sym l.are,
      k.exceeded_is ∙ ap (is_exceeded options.limits) verdicts ∙ sym l.exceeded_is,
    )

-- it ends at one time
one_end : (asked : Option ℕ) (d : DocumentState) (m n : ℕ) → EndsAt asked d m → EndsAt asked d n → m ≡ n
one_end (Some asked) d m n x y = x ∙ sym y
one_end None d m n x y = x ∙ sym y

-- ways are determined where names mean one thing
pub each_named : (d : DocumentState) → NamesOne d.network → HasOneEach d.network
each_named d names = record { clocks = names.clocks; one_link = names.one_link }

plays_timeline_once : (d : DocumentState) (order : TimelineOrder) (a b : List (List ℕ)) (s t : Status)
    → HasOneEach d.network → IsNamed (initial d.network) → PlaysTimeline d order a s → PlaysTimeline d order b t
    → AreSame a s b t
plays_timeline_once d order a b s t names is k l =
    let ends = one_end order.until d k.until l.until k.ends l.ends in
    let (texts, exceeded) = one_timeline_of draws draws_once d l.until order.options (generator order.seed) a b
    k.exceeded l.exceeded names is
    (subst (λ (until : ℕ). TimelineOf draws d until order.options (generator order.seed) a k.exceeded) ends k.timeline)
    l.timeline in
    (texts, k.status_is ∙ ap status_by exceeded ∙ sym l.status_is)

pub one_timeline : (order : TimelineOrder) (input : List ℕ) (a b : List (List ℕ)) (s t : Status)
    → TimelineText order input a s → TimelineText order input b t → AreSame a s b t
one_timeline order input a b s t k l =
    one_answer (TellsTimeline order) input (λ d x y u v means one other.
    plays_timeline_once (seeded_document order.seed d) order x y u v
    (each_named (seeded_document order.seed d) (seeded_names input d order.seed means))
    (seeded_named input d order.seed means) one other) a b s t k l
