-- How many cases belong to a part, and what is told of them as they begin.
use Rattle.std.proofs.Common.{◌≡◌, ◌+◌, ◌++◌, ◌∷◌, [], ℕ, suc, Bool, true, false, cond, List, Option, length, refl, sym, ap, subst, ◌∙◌, arith}
use Rattle.std.specs.Io.KnownBytes.{Appends}
use Rattle.std.proofs.lemmas.List.{length-append}
use Rattle.std.proofs.lemmas.List.Concat.{flat_map-append}
use Rattle.gptp_network.specs.Document.{DocumentState}
use Rattle.gptp_sink.proofs.SinkLemmas.{appends_both}
use Rattle.gptp_words.specs.Lines.{text_of}
use Rattle.gptp_timeline.specs.Each.{Each}
use Rattle.gptp_faults.specs.Cases.{AreCases}
use Rattle.gptp_faults.specs.Faults.{IsTable}
use Rattle.gptp_faults.specs.Outcomes.{is_of_part, case_numbers}
use Rattle.gptp_faults.specs.Progress.{all_begun, begun, part_begun, part_count, TellsCases}
use Rattle.gptp_faults.specs.declared.cases.Case.{Case}
use Rattle.gptp_faults.specs.declared.faults.Answer.{Answer}
use Rattle.gptp_faults.specs.declared.faults.Answer.TheVariants.{Refused, Table}
use Rattle.gptp_faults.specs.declared.options.FaultsOptions.{FaultsOptions}
use Rattle.gptp_faults.specs.declared.times.Times.{Times}
use Rattle.gptp_faults.proofs.OutcomeLemmas.{no_number, one_number}

-- ---- how many there are

-- one number more, which belongs to the part or doesn't
pub part_more : (parts part number : ℕ) (test : Bool) → is_of_part parts part number ≡ test
    → length (case_numbers parts part (number + 1)) ≡ length (case_numbers parts part number) + cond test 1 0
part_more parts part number true is =
    ap length (one_number parts part number is) ∙ length-append (case_numbers parts part number) (number ∷ [])
part_more parts part number false is =
    let none : length (case_numbers parts part number) ≡ length (case_numbers parts part number) + 0 = omega arith in
    ap length (no_number parts part number is) ∙ none

-- as many as of the other list
pub each_length : {X Y : Type 0} (P : X → Y → Type 0) (xs : List X) (ys : List Y) → Each P xs ys
    → length xs ≡ length ys
each_length P [] [] each = refl
each_length P [] (y ∷ ys) each = absurd each
each_length P (x ∷ xs) [] each = absurd each
each_length P (x ∷ xs) (y ∷ ys) each = ap suc (each_length P xs ys each.1)

-- ---- what is told

-- of one case more
pub told_more : (asked : Bool) (count before after : ℕ) (old mid new : Option (List ℕ)) → after ≡ before + 1
    → Appends old mid (text_of (all_begun asked count before))
    → Appends mid new (text_of (begun asked count (before + 1)))
    → Appends old new (text_of (all_begun asked count after))
told_more asked count before after old mid new is so_far one =
    let next : before + 1 ≡ suc before = omega arith in
    let lines : all_begun asked count after ≡ all_begun asked count before ++ begun asked count (before + 1) =
    ap (all_begun asked count) (is ∙ next)
    ∙ ap (λ place. all_begun asked count before ++ begun asked count place) (sym next) in
    let text = ap text_of lines
    ∙ flat_map-append (λ (line : List ℕ). line ++ 10 ∷ []) (all_begun asked count before)
    (begun asked count (before + 1)) in
    subst (Appends old new) (sym text)
    (appends_both old mid new (text_of (all_begun asked count before)) (text_of (begun asked count (before + 1)))
    so_far one)

-- of none more
pub told_still : (asked : Bool) (count before after : ℕ) (old new : Option (List ℕ)) → after ≡ before
    → Appends old new (text_of (all_begun asked count before))
    → Appends old new (text_of (all_begun asked count after))
told_still asked count before after old new same so =
    subst (λ n. Appends old new (text_of (all_begun asked count n))) (sym same) so

-- of all
pub told_all : (options : FaultsOptions) (cases count told : ℕ) (old new : Option (List ℕ))
    → count ≡ part_count options cases → told ≡ part_count options cases
    → Appends old new (text_of (all_begun options.progress count told))
    → Appends old new (text_of (part_begun options cases))
told_all options cases count told old new count_is told_is so =
    let lines : all_begun options.progress count told ≡ part_begun options cases =
    ap (λ n. all_begun options.progress n told) count_is
    ∙ ap (all_begun options.progress (part_count options cases)) told_is in
    subst (λ ls. Appends old new (text_of ls)) lines so

pub tells : (d : DocumentState) (options : FaultsOptions) (t : Times) (cases : List Case) (old new : Option (List ℕ))
    → AreCases d options.only options.power cases → (answer : Answer) → IsTable d options t cases answer
    → Appends old new (text_of (part_begun options (length cases))) → TellsCases d options old new answer
tells d options t cases old new are (Refused fault) none told = absurd none
tells d options t cases old new are (Table text exceeded) table told = (cases, are, told)
