-- One octet more: a line feed, one that begins a character, and one that goes on with one.
use Rattle.std.proofs.Common.{◌≡◌, ◌+◌, ℕ, true, false, get_or, arith, refl, sym}
use Rattle.std.proofs.lemmas.Bool.Decides.{nat_tests}
use Rattle.gptp_lint.specs.Ending.{is_feed}
use Rattle.gptp_lint.proofs.EndingLemmas.{after_feed, after_octet, at_start}
use Rattle.gptp_lint.proofs.ending.end_of.Goals as goal
use Rattle.gptp_lint.proofs.ending.end_of.Goals.{then-octet-eq10, else-octet-eq10+then-begins_character, else-octet-eq10+else-begins_character}

no_feed : (octet : ℕ) → (octet ≡ 10 → ⊥) → is_feed octet ≡ false
no_feed octet other = grind (arith, nat_tests)

pub loop-octet-init : goal.loop-octet-init
loop-octet-init c = at_start

pub loop-octet-preserved : goal.loop-octet-preserved
loop-octet-preserved c =
    let text = c.args.text.now in
    let i = c.loop-octet.octet-index in
    let octet = get_or text i 0 in
    let line = c.loop-octet.line in
    let column = c.loop-octet.column in
    let before = c.loop-octet.invariant in
    let below = c.loop-octet-test.true in
    elim c.if-octet-eq10.branch [
      | then-octet-eq10 w ↦
          rw (w.line-is, w.column-is)
          (after_feed text i octet below refl line column (rw w.if-octet-eq10.true refl) before)
      | else-octet-eq10+then-begins_character w ↦
          rw (w.line-is, w.column-is)
          (after_octet text i octet below refl line column (column + 1) true (no_feed octet w.if-octet-eq10.false)
          (sym w.if-begins_character.ensures) refl before)
      | else-octet-eq10+else-begins_character w ↦
          rw (w.line-is, w.column-is)
          (after_octet text i octet below refl line column column false (no_feed octet w.if-octet-eq10.false)
          (sym w.if-begins_character.ensures) (omega arith) before)
    ]
