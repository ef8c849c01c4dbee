-- A document and what is asked of its faults have one text, and one status.
use Rattle.std.proofs.Common.{◌⊎◌, ◌≡◌, ℕ, Bool, false, List, [], ◌∷◌, length, map, Option, Some, None, refl, sym, ap, subst, ◌∙◌, inl, inr}
use Rattle.std.specs.Option.{option_map}
use Rattle.gptp_model.specs.Initial.{initial}
use Rattle.gptp_model.specs.Views.{rising_clocks}
use Rattle.gptp_model.specs.World.{WorldState}
use Rattle.gptp_links.specs.declared.bounds.Bounds.{Bounds}
use Rattle.gptp_network.specs.Document.{DocumentState}
use Rattle.gptp_network.specs.Snapshot.{events_by}
use Rattle.gptp_network.specs.declared.fault.DocumentFault.{DocumentFault}
use Rattle.gptp_scenario.specs.Network.{NetworkState, seeded}
use Rattle.gptp_determinism.specs.Named.{AnswersOnce, IsNamed}
use Rattle.gptp_determinism.proofs.CourseLemmas.{begins_once}
use Rattle.gptp_determinism.proofs.MeantLemmas.{meant_names, seeded_named}
use Rattle.gptp_determinism.proofs.NameLemmas.{begun_named}
use Rattle.gptp_accuracy.proofs.WayLemmas.{HasOneEach}
use Rattle.gptp_timeline.specs.Aside.{AsideState, looked_acts}
use Rattle.gptp_timeline.specs.Keepers.{keepers_in}
use Rattle.gptp_timeline.specs.LastStretches.{aside_if, carry_begun, carry_ended, carry_over, CarriedAside, end_begun, end_in, EndsOf, first_aside, last_behind, none_last, with_end}
use Rattle.gptp_timeline.specs.Looks.{measured_times}
use Rattle.gptp_timeline.specs.Shown.{shown}
use Rattle.gptp_timeline.specs.Stretch.{roots_of}
use Rattle.gptp_timeline.specs.Timeline.{AllPass, StretchTrace}
use Rattle.gptp_timeline.specs.declared.ends.LastStretches.{LastStretches}
use Rattle.gptp_faults.specs.Faults.{FaultsOf}
use Rattle.gptp_faults.specs.Laws.{RunsEndOnce}
use Rattle.gptp_faults.specs.Refusals.{RefusesFaults}
use Rattle.gptp_faults.specs.declared.options.FaultsOptions.{FaultsOptions}
use Rattle.gptp_faults.proofs.OneLemmas.{never_refused, one_refusal, table_once}
use Rattle.gptp_commands.specs.declared.failure.Status.{Status}
use Rattle.gptp_commands.specs.Documents.{RefusesFault}
use Rattle.gptp_commands.specs.Failure.{status_by}
use Rattle.gptp_commands.specs.FaultsText.{FaultsText, TellsFaults}
use Rattle.gptp_commands.specs.RunText.{draws}
use Rattle.gptp_commands.proofs.OneRunLemmas.{draws_once}
use Rattle.gptp_commands.proofs.OneTimelineLemmas.{IsSamePassage, SamePassages, all_pass_once, each_named, same_stretch}
use Rattle.gptp_commands.proofs.SameActLemmas.{same_carry_ended, same_looked_acts, same_times}
use Rattle.gptp_commands.proofs.OneAnswerLemmas.{one_answer}
use Rattle.gptp_commands.proofs.VerdictLemmas.{AreSame, same_refusal}

-- ---- a run

module _ (names : List ℕ) where
  same_times_aside : (c : CarriedAside) (readings : Option _) (p q : StretchTrace) → IsSamePassage p q
      → option_map (λ rs. measured_times rs (length p.events) (looked_acts c.aside p.acts) p.to p.after) readings
      ≡ option_map (λ rs. measured_times rs (length q.events) (looked_acts c.aside q.acts) q.to q.after) readings
  same_times_aside c None p q k = refl
  same_times_aside c (Some rs) p q k =
      let acts = same_looked_acts c.aside p.acts q.acts k.acts in
      ap Some (same_times rs (length p.events) (looked_acts c.aside p.acts) (looked_acts c.aside q.acts) p.to p.after
      acts ∙ (λ i. measured_times rs (length (k.events i)) (looked_acts c.aside q.acts) (k.to i) (k.after i)))

  same_end_begun : (c : CarriedAside) (p q : StretchTrace) → IsSamePassage p q
      → end_begun names c p ≡ end_begun names c q
  same_end_begun c p q k =
      let stretch = same_stretch names c.carried p q k in
      let times = same_times_aside c c.carried.readings p q k in
      λ i. record {
        stretch = record (stretch i) { times = times i };
        roots = roots_of (map (λ name. shown name (k.after i)) names);
        keepers = keepers_in names (k.after i);
      }

  same_end : (c : CarriedAside) (p q : StretchTrace) → IsSamePassage p q → end_in names c p ≡ end_in names c q
  same_end c p q k =
      (λ i. end_begun names (carry_begun (k.from i) c) p) ∙ same_end_begun (carry_begun q.from c) p q k

  same_over : (c : CarriedAside) (p q : StretchTrace) → IsSamePassage p q → carry_over p c ≡ carry_over q c
  same_over c p q k =
      (λ i. carry_ended p.acts (carry_begun (k.from i) c))
      ∙ same_carry_ended p.acts q.acts (carry_begun q.from c) k.acts

  same_last : (c : CarriedAside) (ends : LastStretches) (ps qs : List StretchTrace) → SamePassages ps qs
      → last_behind names c ps ends ≡ last_behind names c qs ends
  same_last c ends [] [] k = refl
  same_last c ends [] (q ∷ qs) k = absurd k
  same_last c ends (p ∷ ps) [] k = absurd k
  same_last c ends (p ∷ ps) (q ∷ qs) (first, rest) =
      let end = same_end c p q first in
      let over = same_over c p q first in
      (λ i. last_behind names (over i) ps (with_end ends (end i)))
      ∙ same_last (carry_over q c) (with_end ends (end_in names c q)) ps qs rest

-- the last stretches of a run end in one way
ends_once : {F : Type 0} (answers : Bounds → ℕ → F → Option ℕ → F → Type 0) → AnswersOnce answers
    → (asked : Bool) (aside : AsideState) (d : DocumentState) (until : ℕ) (fate : F) (last other : LastStretches)
    → HasOneEach d.network → IsNamed (initial d.network) → EndsOf answers asked aside d until fate last
    → EndsOf answers asked aside d until fate other → last ≡ other
ends_once {F} answers once asked aside d until fate last other names is k l =
    let (fates, starts) =
    begins_once answers once d.network fate k.started l.started k.start l.start is k.begun l.begun in
    let events = events_by until d.events in
    let pass : AllPass answers false d until 0 events l.started k.fate_after l.start k.after k.passages =
    subst (λ (w : WorldState). AllPass answers false d until 0 events l.started k.fate_after w k.after k.passages)
    starts
    (subst (λ (f : F). AllPass answers false d until 0 events f k.fate_after k.start k.after k.passages) fates
    k.pass) in
    let same = all_pass_once answers once false d names until 0 events l.started k.fate_after l.fate_after l.start
    k.after l.after k.passages l.passages (begun_named answers d.network fate l.started l.start is l.begun) pass
    l.pass in
    let started : List ℕ → CarriedAside = first_aside asked (aside_if asked aside) in
    k.are
    ∙ ap (λ (w : WorldState). last_behind (rising_clocks w) (started (rising_clocks w)) k.passages none_last) starts
    ∙ same_last (rising_clocks l.start) (started (rising_clocks l.start)) none_last k.passages l.passages same
    ∙ sym l.are

-- ---- a table, or a refusal

module _ (d : DocumentState) (options : FaultsOptions) where
  -- the table of a text, and the status by it
  record IsTabled (output : List (List ℕ)) (status : Status) : Type 0 where
    exceeded : Bool
    table : FaultsOf d options output exceeded
    status_is : status ≡ status_by exceeded

  abbrev IsRefused : List (List ℕ) → Status → Type 0
  IsRefused output status = (fault : DocumentFault) × RefusesFaults d options fault × RefusesFault fault output status

  tabled : (output : List (List ℕ)) (status : Status) → TellsFaults d options output status
      → IsTabled output status ⊎ IsRefused output status
  tabled output status (inl (exceeded, table, _, is)) =
      inl (record { exceeded = exceeded; table = table; status_is = is })
  tabled output status (inr refused) = inr refused

  module _ (names : HasOneEach d.network) (is : (seed : ℕ) → IsNamed (initial (seeded seed d.network))) where
    seeded_names : (seed : ℕ) → HasOneEach (seeded seed d.network)
    seeded_names seed = record { clocks = names.clocks; one_link = names.one_link }

    runs_end_once : RunsEndOnce d
    runs_end_once asked aside e seed until fate last other same k l =
        ends_once draws draws_once asked aside e until fate last other
        (subst (λ (n : NetworkState). HasOneEach n) (sym same) (seeded_names seed))
        (subst (λ (n : NetworkState). IsNamed (initial n)) (sym same) (is seed)) k l

    tabled_once : (a b : List (List ℕ)) (s t : Status) → IsTabled a s ⊎ IsRefused a s → IsTabled b t ⊎ IsRefused b t
        → AreSame a s b t
    tabled_once a b s t (inl k) (inl l) =
        let (lines, same) = table_once d options a b k.exceeded l.exceeded runs_end_once k.table l.table in
        (lines, k.status_is ∙ ap status_by same ∙ sym l.status_is)
    tabled_once a b s t (inl k) (inr (fault, refuses, _)) =
        absurd (never_refused d options a k.exceeded fault k.table refuses)
    tabled_once a b s t (inr (fault, refuses, _)) (inl l) =
        absurd (never_refused d options b l.exceeded fault l.table refuses)
    tabled_once a b s t (inr (f, f-refuses, k)) (inr (g, g-refuses, l)) =
        same_refusal f g a b s t (one_refusal d options f g f-refuses g-refuses) k l

    tells_once : (a b : List (List ℕ)) (s t : Status) → TellsFaults d options a s → TellsFaults d options b t
        → AreSame a s b t
    tells_once a b s t k l = tabled_once a b s t (tabled a s k) (tabled b t l)

-- ---- the whole text

pub one_faults : (options : FaultsOptions) (input : List ℕ) (a b : List (List ℕ)) (s t : Status)
    → FaultsText options input a s → FaultsText options input b t → AreSame a s b t
one_faults options input a b s t k l =
    one_answer (λ d. TellsFaults d options) input (λ d x y u v means one other.
    tells_once d options (each_named d (meant_names input d means)) (λ seed. seeded_named input d seed means) x y u v
    one other) a b s t k l
