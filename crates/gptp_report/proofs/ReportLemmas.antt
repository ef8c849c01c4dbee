-- The lines of systems, one system after another.
use Rattle.std.proofs.Common.{◌≡◌, ◌<◌, ◌+◌, ℕ, Bool, true, false, List, [], ◌∷◌, ◌++◌, length, drop, get_or, slice_get, Some, refl, ap, sym, subst, ◌∙◌, append_assoc, append-nil}
use Rattle.std.proofs.lemmas.List.{drop_more}
use Rattle.std.proofs.lemmas.Option.{same_Some, slice_get-get_or, slice_get_within}
use Rattle.gptp_model.specs.Views.{rising_clocks}
use Rattle.gptp_model.proofs.RisingLemmas.{rising_clocks-count}
use Rattle.gptp_system.specs.State.{clock}
use Rattle.gptp_model.specs.declared.station.Station.{Station}
use Rattle.gptp_model.specs.World.{WorldState}
use Rattle.gptp_words.specs.Lines.{text_of}
use Rattle.gptp_report.specs.Report.{ShowsSystems, WritesSystem}
use Rattle.gptp_report.specs.SystemLines.{failed_line, system_lines}
use Rattle.gptp_report.proofs.LineLemmas.{written_more}

-- ---- one system that has failed

failed_by : (station : Station) (live : Bool) → station.live ≡ live → (station.live ≡ true → ⊥)
    → system_lines station ≡ failed_line (clock station.system) ∷ []
failed_by station true is not_live = absurd (not_live is)
failed_by station false is not_live = rw is refl

pub failed_lines : (station : Station) (name : ℕ) → clock station.system ≡ name → (station.live ≡ true → ⊥)
    → system_lines station ≡ failed_line name ∷ []
failed_lines station name named not_live =
    failed_by station station.live refl not_live ∙ ap (λ n. failed_line n ∷ []) named

-- ---- one system after another

-- The lines of some systems are written, and those of the systems that are left make them those of all.
pub record ShownSoFar (names left : List ℕ) (w : WorldState) (before text : List ℕ) : Type 0 where
  pub lines : List (List ℕ)
  pub more : (rest : List (List ℕ)) → ShowsSystems left w rest → ShowsSystems names w (lines ++ rest)
  pub is : text ≡ before ++ text_of lines

pub shown_more : (names : List ℕ) (name : ℕ) (left : List ℕ) (w : WorldState) (before text after : List ℕ)
    → ShownSoFar names (name ∷ left) w before text → WritesSystem name w text after
    → ShownSoFar names left w before after
shown_more names name left w before text after so_far one = record {
  lines = so_far.lines ++ system_lines one.station;
  more = λ rest shows. rw append_assoc (so_far.more (system_lines one.station ++ rest)
      (rest, record { place = one.place; station = one.station; is = one.is; so = refl }, shows));
  is = written_more so_far.lines (system_lines one.station) before text after so_far.is one.so;
}

-- where none is left, all are shown
pub shown_all : (names : List ℕ) (w : WorldState) (before text : List ℕ) → ShownSoFar names [] w before text
    → (lines : List (List ℕ)) × ShowsSystems names w lines × (text ≡ before ++ text_of lines)
shown_all names w before text all =
    (all.lines, subst (ShowsSystems names w) (append-nil all.lines) (all.more [] refl), all.is)

-- ---- a list from some place on

pub drop_here : {X : Type 0} (xs : List X) (place : ℕ) (x : X) → slice_get xs place ≡ Some x
    → drop place xs ≡ x ∷ drop (place + 1) xs
drop_here xs place x here =
    let within = slice_get_within xs place x here in
    let is : get_or xs place x
    ≡ x = same_Some (get_or xs place x) x (sym (slice_get-get_or xs place x within) ∙ here) in
    drop_more xs place x within ∙ ap (λ y. y ∷ drop (place + 1) xs) is

-- the system at a place by rising clock is the next
pub shown_next : (w : WorldState) (place : ℕ) (before text after : List ℕ) → place < length w.stations
    → ShownSoFar (rising_clocks w) (drop place (rising_clocks w)) w before text
    → ((name : ℕ) → slice_get (rising_clocks w) place ≡ Some name → WritesSystem name w text after)
    → ShownSoFar (rising_clocks w) (drop (place + 1) (rising_clocks w)) w before after
shown_next w place before text after below so_far writes =
    let names = rising_clocks w in
    let name = get_or names place 0 in
    let here : slice_get names place ≡ Some name = slice_get-get_or names place 0 (rw (rising_clocks-count w) below) in
    shown_more names name (drop (place + 1) names) w before text after
    (subst (λ left. ShownSoFar names left w before text) (drop_here names place name here) so_far) (writes name here)

-- ---- the report

-- a line, another, and the lines of the systems
pub report_text : (before one two after line change : List ℕ) (systems : List (List ℕ))
    → one ≡ before ++ (line ++ 10 ∷ []) → two ≡ one ++ (change ++ 10 ∷ []) → after ≡ two ++ text_of systems
    → after ≡ before ++ text_of (line ∷ change ∷ systems)
report_text before one two after line change systems first second third =
    third ∙ ap (λ t. t ++ text_of systems) (second ∙ ap (λ t. t ++ (change ++ 10 ∷ [])) first
    ∙ append_assoc before (line ++ 10 ∷ []) (change ++ 10 ∷ []))
    ∙ append_assoc before ((line ++ 10 ∷ []) ++ (change ++ 10 ∷ [])) (text_of systems)
    ∙ ap (λ t. before ++ t) (append_assoc (line ++ 10 ∷ []) (change ++ 10 ∷ []) (text_of systems))
