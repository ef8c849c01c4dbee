-- Texts of several lines.
use Rattle.std.proofs.Common.{◌≡◌, ℕ, Bool, Option, List, [], ◌∷◌, ◌++◌, append_assoc, codes, length, map, sym, ap, ◌∙◌}
use Rattle.std.specs.List.{flat_map}
use Rattle.gptp_words.specs.Lines.{text_of}
use Rattle.gptp_timeline.proofs.LineLemmas.{line_on, lines_on, words_on}
use Rattle.gptp_timeline.specs.Limits.{amount_of, verdict_line}
use Rattle.gptp_timeline.specs.declared.limits.Limit.{Limit}
use Rattle.gptp_faults.specs.FaultsText.{case_line, counts_words, exceeded_by, extremes_lines, follow_line, head_line, outcome_lines, table_lines, worst_line, worst_lines, worst_of_all, worst_words}
use Rattle.gptp_faults.specs.Ranking.{amount_or_0}
use Rattle.gptp_faults.specs.Outcomes.{OutcomeState}
use Rattle.gptp_faults.specs.declared.cases.Case.{Case}
use Rattle.gptp_faults.specs.declared.extremes.Extremes.{Extremes}
use Rattle.gptp_faults.specs.declared.follows.Follow.{Follow}
use Rattle.gptp_faults.specs.declared.options.FaultsOptions.{FaultsOptions}
use Rattle.gptp_faults.specs.declared.times.Times.{Times}

-- the lines of a case: its own, those of down, of the roots that are followed, and of back
pub case_text : (before a b c d first : List ℕ) (down follows back : List (List ℕ))
    → a ≡ before ++ (first ++ 10 ∷ []) → b ≡ a ++ text_of down → c ≡ b ++ text_of follows → d ≡ c ++ text_of back
    → d ≡ before ++ text_of (first ∷ down ++ (follows ++ back))
case_text before a b c d first down follows back one two three four =
    line_on before a d first (down ++ (follows ++ back)) one
    (lines_on a b d down (follows ++ back) two (lines_on b c d follows back three four))

-- the lines of a table: its head, those of cases, of the worst of all, and the verdict
pub table_text : (before a b c d head verdict : List ℕ) (cases worst : List (List ℕ))
    → a ≡ before ++ (head ++ 10 ∷ []) → b ≡ a ++ text_of cases → c ≡ b ++ text_of worst
    → d ≡ c ++ text_of (verdict ∷ []) → d ≡ before ++ text_of (head ∷ cases ++ (worst ++ verdict ∷ []))
table_text before a b c d head verdict cases worst one two three four =
    line_on before a d head (cases ++ (worst ++ verdict ∷ [])) one
    (lines_on a b d cases (worst ++ verdict ∷ []) two (lines_on b c d worst (verdict ∷ []) three four))

abbrev lines_by : Bool → ℕ → Case → Extremes → List Follow → Extremes → List (List ℕ)
lines_by asked number failing down follow back =
    case_line number failing ∷ extremes_lines asked (codes "down") down
    ++ (map follow_line follow ++ extremes_lines asked (codes "back") back)

-- the lines of a case, by its parts
pub outcome_text : (asked : Bool) (o : OutcomeState) (number : ℕ) (failing : Case) (down back : Extremes)
    (follow : List Follow) (before a b c d : List ℕ) → number ≡ o.number → failing ≡ o.failing → down ≡ o.down
    → follow ≡ o.follow → back ≡ o.back → a ≡ before ++ (case_line number failing ++ 10 ∷ [])
    → b ≡ a ++ text_of (extremes_lines asked (codes "down") down) → c ≡ b ++ text_of (map follow_line follow)
    → d ≡ c ++ text_of (extremes_lines asked (codes "back") back) → d ≡ before ++ text_of (outcome_lines asked o)
outcome_text asked o number failing down back follow before a b c d number_is failing_is down_is follow_is back_is one
    two three four =
    case_text before a b c d (case_line number failing) (extremes_lines asked (codes "down") down)
    (map follow_line follow) (extremes_lines asked (codes "back") back) one two three four
    ∙ ap (λ n. before ++ text_of (lines_by asked n failing down follow back)) number_is
    ∙ ap (λ f. before ++ text_of (lines_by asked o.number f down follow back)) failing_is
    ∙ ap (λ e. before ++ text_of (lines_by asked o.number o.failing e follow back)) down_is
    ∙ ap (λ fs. before ++ text_of (lines_by asked o.number o.failing o.down fs back)) follow_is
    ∙ ap (λ e. before ++ text_of (lines_by asked o.number o.failing o.down o.follow e)) back_is

-- the lines of all cases, by the worst of them
pub all_text : (options : FaultsOptions) (t : Times) (os : List OutcomeState) (worst : Extremes)
    (exceeded : Option Limit) (before a b c d : List ℕ) → worst ≡ worst_of_all os
    → exceeded ≡ exceeded_by options.limits worst → a ≡ before ++ (head_line (length os) t ++ 10 ∷ [])
    → b ≡ a ++ text_of (flat_map (outcome_lines options.times) os) → c ≡ b ++ text_of (worst_lines options.times worst)
    → d ≡ c ++ text_of (verdict_line exceeded ∷ []) → d ≡ before ++ text_of (table_lines options t os)
all_text options t os worst exceeded before a b c d worst_is exceeded_is one two three four =
    table_text before a b c d (head_line (length os) t) (verdict_line (exceeded_by options.limits (worst_of_all os)))
    (flat_map (outcome_lines options.times) os) (worst_lines options.times (worst_of_all os)) one two
    (three ∙ ap (λ w. b ++ text_of (worst_lines options.times w)) worst_is)
    (four ∙ ap (λ e. c ++ text_of (verdict_line e ∷ []))
    (exceeded_is ∙ ap (exceeded_by options.limits) worst_is))

-- the line of the worst of all, by its amounts
pub worst_text : (e : Extremes) (holdover error : ℕ) (before mid after : List ℕ)
    → holdover ≡ amount_or_0 (amount_of e.holdover) → error ≡ amount_or_0 (amount_of e.error)
    → mid ≡ before ++ worst_words e.choice holdover error
    → after ≡ mid ++ (counts_words e ++ 10 ∷ [])
    → after ≡ before ++ (worst_line e ++ 10 ∷ [])
worst_text e holdover error before mid after holdover_is error_is one two =
    words_on before mid after (worst_words e.choice holdover error) (rest ++ 10 ∷ []) one two
    ∙ ap (λ t. before ++ t) (sym (append_assoc (worst_words e.choice holdover error) rest (10 ∷ [])))
    ∙ ap (λ h. before ++ ((worst_words e.choice h error ++ rest) ++ 10 ∷ [])) holdover_is
    ∙ ap (λ x. before ++ ((worst_words e.choice (amount_or_0 (amount_of e.holdover)) x ++ rest) ++ 10 ∷ [])) error_is
  where
    rest : List ℕ
    rest = counts_words e
