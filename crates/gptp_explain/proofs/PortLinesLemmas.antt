-- The lines of ports, one after another.
use Rattle.std.proofs.Common.{◌≡◌, ℕ, List, [], ◌∷◌, ◌++◌, append_assoc, append-nil, refl, sym, subst}
use Rattle.gptp_graph.specs.Snapshot.{Snapshot}
use Rattle.gptp_network.specs.Document.{DocumentState}
use Rattle.gptp_words.specs.Lines.{text_of}
use Rattle.gptp_explain.specs.Ports.{ArePortLines, IsPortLine}
use Rattle.gptp_explain.specs.Writing.{AppendsLine, AppendsLines}
use Rattle.gptp_explain.proofs.TextLemmas.{line_behind}

-- Some lines are appended; with those of the ports that are left they are the lines of all.
pub record HaveBegun (d : DocumentState) (at : ℕ) (g : Snapshot) (v : ℕ) (all left before text : List ℕ) : Type 0 where
  pub lines : List (List ℕ)
  pub is : text ≡ before ++ text_of lines
  pub more : (later : List (List ℕ)) → ArePortLines d at g v left later → ArePortLines d at g v all (lines ++ later)

module _ (d : DocumentState) (at : ℕ) (g : Snapshot) (v : ℕ) (all : List ℕ) (before : List ℕ) where
  -- none at first
  pub begun : HaveBegun d at g v all all before before
  begun = record { lines = []; is = sym (append-nil before); more = λ later are. are }

  -- one more
  pub one_line_more : (n : ℕ) (left text after : List ℕ) → HaveBegun d at g v all (n ∷ left) before text
      → AppendsLine (IsPortLine d at g (record { clock = v; port = n })) text after
      → HaveBegun d at g v all left before after
  one_line_more n left text after h (line, is_line, appended) = record {
    lines = h.lines ++ line ∷ [];
    is = line_behind before text after h.lines line h.is appended;
    more = λ later are. subst (ArePortLines d at g v all) (sym (append_assoc h.lines (line ∷ []) later))
        (h.more (line ∷ later) (line, later, refl, is_line, are));
  }

  -- none is left
  pub all_lines : (text : List ℕ) → HaveBegun d at g v all [] before text
      → AppendsLines (ArePortLines d at g v all) before text
  all_lines text h =
      (h.lines, subst (ArePortLines d at g v all) (append-nil h.lines) (h.more [] refl), h.is)
