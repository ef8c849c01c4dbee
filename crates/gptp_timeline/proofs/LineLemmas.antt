-- Texts that grow by lines.
use Rattle.std.proofs.Common.{◌≡◌, ℕ, List, [], ◌∷◌, ◌++◌, append_assoc, append-nil, refl, sym, ap, ◌∙◌}
use Rattle.std.proofs.lemmas.Grind.{flat_map-append}
use Rattle.gptp_words.specs.Lines.{text_of}

-- one line
pub line_text : (line : List ℕ) → line ++ 10 ∷ [] ≡ text_of (line ∷ [])
line_text line = sym (append-nil (line ++ 10 ∷ []))

-- lines, and after them others
pub lines_on : (before mid after : List ℕ) (xs ys : List (List ℕ)) → mid ≡ before ++ text_of xs
    → after ≡ mid ++ text_of ys → after ≡ before ++ text_of (xs ++ ys)
lines_on before mid after xs ys first second =
    second ∙ ap (λ t. t ++ text_of ys) first ∙ append_assoc before (text_of xs) (text_of ys)
    ∙ ap (λ t. before ++ t) (sym (flat_map-append (λ (line : List ℕ). line ++ 10 ∷ []) xs ys))

-- a line, and after it others
pub line_on : (before mid after line : List ℕ) (ys : List (List ℕ)) → mid ≡ before ++ (line ++ 10 ∷ [])
    → after ≡ mid ++ text_of ys → after ≡ before ++ text_of (line ∷ ys)
line_on before mid after line ys first second =
    lines_on before mid after (line ∷ []) ys (first ∙ ap (λ t. before ++ t) (line_text line)) second

-- words, and after them others
pub words_on : (before mid after xs ys : List ℕ) → mid ≡ before ++ xs → after ≡ mid ++ ys → after ≡ before ++ (xs ++ ys)
words_on before mid after xs ys first second = second ∙ ap (λ t. t ++ ys) first ∙ append_assoc before xs ys

-- Some of all lines come after a text; those that are left make them all.
pub record WrittenSoFar (all rest : List (List ℕ)) (before text : List ℕ) : Type 0 where
  pub lines : List (List ℕ)
  pub whole : all ≡ lines ++ rest
  pub is : text ≡ before ++ text_of lines

pub written_none : (all : List (List ℕ)) (before : List ℕ) → WrittenSoFar all all before before
written_none all before = record { lines = []; whole = refl; is = sym (append-nil before) }

pub written_more : (all one rest : List (List ℕ)) (before text after : List ℕ) → WrittenSoFar all (one ++ rest) before
    text
    → after ≡ text ++ text_of one → WrittenSoFar all rest before after
written_more all one rest before text after so_far more = record {
  lines = so_far.lines ++ one;
  whole = so_far.whole ∙ sym (append_assoc so_far.lines one rest);
  is = lines_on before text after so_far.lines one so_far.is more;
}

pub written_all : (all : List (List ℕ)) (before text : List ℕ) → WrittenSoFar all [] before text
    → text ≡ before ++ text_of all
written_all all before text so_far =
    so_far.is ∙ ap (λ lines. before ++ text_of lines) (sym (so_far.whole ∙ append-nil so_far.lines))
