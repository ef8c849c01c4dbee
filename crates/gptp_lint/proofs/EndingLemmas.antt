-- Line and column, octet by octet.
use Rattle.std.proofs.Common.{◌≡◌, ◌≤◌, ◌<◌, ◌+◌, ◌++◌, ◌∷◌, ℕ, Bool, true, false, List, [], get_or, if◌then◌else◌, length, take, arith, refl, sym, ap, ◌∙◌}
use Rattle.std.specs.List.{count_by}
use Rattle.std.proofs.lemmas.List.{length-take-le}
use Rattle.std.proofs.lemmas.List.Sums.{count_by_more_no, count_by_more_yes, fold_more, sum_by_push}
use Rattle.gptp_lint.specs.Ending.{begins_character, column_at_end, is_feed, last_line, line_at_end, with_octet}

-- line and column after some octets; each is at most one more than the octets
pub record EndsAt (text : List ℕ) (line column : ℕ) : Type 0 where
  pub line_is : line ≡ line_at_end text
  pub column_is : column ≡ column_at_end text
  pub line_fits : line ≤ length text + 1
  pub column_fits : column ≤ length text + 1

pub at_start : EndsAt [] 1 1
unfolding line_at_end column_at_end
at_start = record { line_is = refl; column_is = refl; line_fits = omega arith; column_fits = omega arith }

module _ (text : List ℕ) (i octet : ℕ) (below : i < length text) (is : octet ≡ get_or text i 0) where
  length_more : length (take (i + 1) text) ≡ length (take i text) + 1
  length_more =
      length-take-le (i + 1) text (omega arith) ∙ ap (λ n. n + 1) (sym (length-take-le i text (omega arith)))

  feeds_more : (test : Bool) → is_feed octet ≡ test
      → line_at_end (take (i + 1) text) ≡ line_at_end (take i text) + (if test then 1 else 0)
  unfolding line_at_end
  feeds_more true feed = ap (λ n. n + 1) (count_by_more_yes is_feed text i 0 below (ap is_feed (sym is) ∙ feed))
  feeds_more false none =
      ap (λ n. n + 1) (count_by_more_no is_feed text i 0 below (ap is_feed (sym is) ∙ none)) ∙ omega arith

  line_more : (test : Bool) → is_feed octet ≡ test
      → last_line (take (i + 1) text) ≡ (if test then [] else last_line (take i text) ++ octet ∷ [])
  line_more test feed =
      fold_more with_octet [] text i 0 below ∙ ap (with_octet (last_line (take i text))) (sym is)
      ∙ ap (λ (b : Bool). if b then [] else last_line (take i text) ++ octet ∷ []) feed

  column_more : (test : Bool) → is_feed octet ≡ false → begins_character octet ≡ test
      → column_at_end (take (i + 1) text) ≡ column_at_end (take i text) + (if test then 1 else 0)
  unfolding column_at_end
  column_more test none begins =
      let last = last_line (take i text) in
      ap (λ line. count_by begins_character line + 1) (line_more false none)
      ∙ ap (λ n. n + 1)
      (sum_by_push (λ o. if begins_character o then 1 else 0) last octet
      ∙ ap (λ (b : Bool). count_by begins_character last + (if b then 1 else 0)) begins)
      ∙ omega arith

  column_begins : is_feed octet ≡ true → column_at_end (take (i + 1) text) ≡ 1
  unfolding column_at_end
  column_begins feed = ap (λ line. count_by begins_character line + 1) (line_more true feed)

  pub after_feed : (line column : ℕ) → is_feed octet ≡ true → EndsAt (take i text) line column
      → EndsAt (take (i + 1) text) (line + 1) 1
  after_feed line column feed before =
      let more = length_more in
      let fits = before.line_fits in
      record {
        line_is = ap (λ n. n + 1) before.line_is ∙ sym (feeds_more true feed);
        column_is = sym (column_begins feed);
        line_fits = omega arith;
        column_fits = omega arith;
      }

  pub after_octet : (line column next : ℕ) (test : Bool) → is_feed octet ≡ false → begins_character octet ≡ test
      → next ≡ column + (if test then 1 else 0) → EndsAt (take i text) line column
      → EndsAt (take (i + 1) text) line next
  after_octet line column next test none begins is_next before =
      let more = length_more in
      let line_fits = before.line_fits in
      record {
        line_is = before.line_is ∙ omega (arith, feeds_more false none);
        column_is = is_next
            ∙ ap (λ n. n + (if test then 1 else 0)) before.column_is
            ∙ sym (column_more test none begins);
        line_fits = omega arith;
        column_fits = by test is_next;
      }
    where
      by : (test : Bool) → next ≡ column + (if test then 1 else 0) → next ≤ length (take (i + 1) text) + 1
      by true is = let more = length_more in let fits = before.column_fits in omega arith
      by false is = let more = length_more in let fits = before.column_fits in omega arith
