-- The text of a timeline: its start, its stretches and its verdict.
use Rattle.std.proofs.Common.{◌≡◌, ◌≢◌, ℕ, Bool, List, [], ◌++◌, Option, None, Result, Ok, Err, inl, inr, refl, sym, ap, subst, ◌∙◌, append-nil, append_assoc, true}
use Rattle.std.specs.Io.KnownBytes.{Appends}
use Rattle.gptp_model.specs.Course.{Begun}
use Rattle.gptp_model.specs.Views.{rising_clocks}
use Rattle.gptp_model.specs.World.{WorldState}
use Rattle.gptp_links.specs.declared.bounds.Bounds.{Bounds}
use Rattle.gptp_network.specs.Document.{DocumentState}
use Rattle.gptp_network.specs.Snapshot.{events_by}
use Rattle.gptp_sink.specs.Sink.{AppendsSome}
use Rattle.gptp_sink.specs.declared.cut.Cut.{Cut}
use Rattle.gptp_sink.specs.declared.cut.Cut.TheVariants.{Write}
use Rattle.gptp_world.specs.Transitions.{ActTrace}
use Rattle.gptp_world.proofs.FollowLemmas.{text_append}
use Rattle.gptp_sink.proofs.SinkLemmas.{appends_both, none_of, some_behind}
use Rattle.gptp_words.specs.Lines.{text_of}
use Rattle.gptp_timeline.specs.Limits.{is_exceeded, verdict_lines}
use Rattle.gptp_timeline.specs.Timeline.{all_exceeded, all_lines, AllPass, BeginsTimeline, Carried, none_carried, StretchTrace, SomePass, start_lines, TimelineOf, tracks}
use Rattle.gptp_timeline.specs.declared.limits.Limit.{Limit}
use Rattle.gptp_timeline.specs.declared.timeline.TimelineOptions.{TimelineOptions}
use Rattle.gptp_timeline.proofs.PassLemmas.{none_done}

-- a call that gave a value failed by no write
pub no_failed_write : {A : Type 0} (a : A) → ◌≢◌ {A = Result A Cut} (Ok a) (Err Write)
no_failed_write a same = absurd cc

-- nothing is written yet
pub nothing_begun : {F : Type 0} (answers : Bounds → ℕ → F → Option ℕ → F → Type 0) (d : DocumentState) (until : ℕ)
    (options : TimelineOptions) (fate : F) (known : Option (List ℕ))
    → (lines : List (List ℕ)) × BeginsTimeline answers d until options fate lines
    × AppendsSome known known (text_of lines)
nothing_begun answers d until options fate known = ([], inl refl, none_of known [])

-- ---- texts in three parts

module _ (old first new : Option (List ℕ)) (a b c : List (List ℕ)) (written : Appends old first (text_of a)) where
  three : text_of ((a ++ b) ++ c) ≡ text_of a ++ text_of (b ++ c)
  three = ap text_of (append_assoc a b c) ∙ text_append a (b ++ c)

  -- some of the last two after the first
  some_of_two : AppendsSome first new (text_of (b ++ c)) → AppendsSome old new (text_of ((a ++ b) ++ c))
  some_of_two some =
      subst (AppendsSome old new) (sym three) (some_behind old first new (text_of a) (text_of (b ++ c)) written some)

  -- some of the last, or all of it, after the first two
  some_of_three : (second : Option (List ℕ)) → Appends first second (text_of b) → AppendsSome second new (text_of c)
      → AppendsSome old new (text_of ((a ++ b) ++ c))
  some_of_three second passed some =
      some_of_two (subst (AppendsSome first new) (sym (text_append b c))
      (some_behind first second new (text_of b) (text_of c) passed some))

  all_of_three : (second : Option (List ℕ)) → Appends first second (text_of b) → Appends second new (text_of c)
      → Appends old new (text_of ((a ++ b) ++ c))
  all_of_three second passed last =
      subst (Appends old new) (sym three)
      (appends_both old first new (text_of a) (text_of (b ++ c)) written
      (subst (Appends first new) (sym (text_append b c))
      (appends_both first second new (text_of b) (text_of c) passed last)))

-- ---- a timeline

module _ {F : Type 0} (answers : Bounds → ℕ → F → Option ℕ → F → Type 0) (d : DocumentState) (until : ℕ)
    (options : TimelineOptions) (fate started : F) (start : WorldState)
    (begun : Begun answers d.network fate started start) (old first second new : Option (List ℕ)) where
  abbrev pub carried : Carried
  carried = none_carried (tracks options) (rising_clocks start)

  -- the start is written, or a front of it
  pub start_begun : AppendsSome old new (text_of (start_lines options (rising_clocks start) start))
      → (lines : List (List ℕ)) × BeginsTimeline answers d until options fate lines
      × AppendsSome old new (text_of lines)
  start_begun some =
      let a = start_lines options (rising_clocks start) start in (
        a ++ [],
        inr (inl (record {
          started = started;
          start = start;
          begun = begun;
          passages = [];
          acts = [];
          pass = none_done answers _ _ started start;
          are = refl;
        })),
        subst (λ xs. AppendsSome old new (text_of xs)) (sym (append-nil a)) some,
      )

  module _ (written : Appends old first (text_of (start_lines options (rising_clocks start) start))) where
    -- stretches pass, and then it breaks off
    pub stretches_begun : (passages : List StretchTrace) × (acts : List ActTrace)
        × SomePass answers true d until 0 (events_by until d.events) started start passages acts
        × AppendsSome first new (text_of (all_lines options (rising_clocks start) carried passages acts))
        → (lines : List (List ℕ)) × BeginsTimeline answers d until options fate lines
        × AppendsSome old new (text_of lines)
    stretches_begun (passages, acts, pass, some) =
        let a = start_lines options (rising_clocks start) start in
        let b = all_lines options (rising_clocks start) carried passages acts in (
          a ++ b,
          inr (inl (record {
            started = started;
            start = start;
            begun = begun;
            passages = passages;
            acts = acts;
            pass = pass;
            are = refl;
          })),
          subst (AppendsSome old new) (sym (text_append a b))
              (some_behind old first new (text_of a) (text_of b) written some),
        )

    -- all do
    module _ (fate_after : F) (after : WorldState) (verdict : Option Limit) (passages : List StretchTrace)
        (pass : AllPass answers true d until 0 (events_by until d.events) started fate_after start after passages)
        (verdict_is : verdict ≡ all_exceeded options.limits (rising_clocks start) carried passages None)
        (passed : Appends first second (text_of (all_lines options (rising_clocks start) carried passages []))) where
      timeline : (lines : List (List ℕ)) (exceeded : Bool)
          → lines ≡ (start_lines options (rising_clocks start) start
          ++ all_lines options (rising_clocks start) carried passages []) ++ verdict_lines options.limits verdict
          → exceeded ≡ is_exceeded options.limits verdict → TimelineOf answers d until options fate lines exceeded
      timeline lines exceeded are is = record {
        started = started;
        start = start;
        begun = begun;
        passages = passages;
        fate_after = fate_after;
        after = after;
        pass = pass;
        verdict = verdict;
        verdict_is = verdict_is;
        exceeded_is = is;
        are = are;
      }

      -- and the verdict, or a front of it
      pub verdict_begun : AppendsSome second new (text_of (verdict_lines options.limits verdict))
          → (lines : List (List ℕ)) × BeginsTimeline answers d until options fate lines
          × AppendsSome old new (text_of lines)
      verdict_begun some =
          let a = start_lines options (rising_clocks start) start in
          let b = all_lines options (rising_clocks start) carried passages [] in
          let c = verdict_lines options.limits verdict in let is = is_exceeded options.limits verdict in (
            (a ++ b) ++ c,
            inr (inr (is, timeline ((a ++ b) ++ c) is refl refl)),
            some_of_three old first new a b c written second passed some,
          )

      pub all_written : (exceeded : Bool) → exceeded ≡ is_exceeded options.limits verdict
          → Appends second new (text_of (verdict_lines options.limits verdict))
          → (lines : List (List ℕ)) × TimelineOf answers d until options fate lines exceeded
          × Appends old new (text_of lines)
      all_written exceeded is last =
          let a = start_lines options (rising_clocks start) start in
          let b = all_lines options (rising_clocks start) carried passages [] in
          let c = verdict_lines options.limits verdict in (
            (a ++ b) ++ c,
            timeline ((a ++ b) ++ c) exceeded refl is,
            all_of_three old first new a b c written second passed last,
          )
