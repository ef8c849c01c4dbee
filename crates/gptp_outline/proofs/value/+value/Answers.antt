use Rattle.std.proofs.Common.{◌≡◌, ◌||◌, ◌==◌, ◌-◌, ◌<◌, true, false, ◌∙◌, ap, arith, length, rules, sym, drop}
use Rattle.std.proofs.lemmas.Grind.{common_steps}
use Rattle.std.proofs.lemmas.Option.{same_Some}
use Rattle.std.proofs.lemmas.Result.{IfErr-weaker, IfOk-weaker}
use Rattle.toml_parser.specs.Lexical.{first, skip_blank}
use Rattle.toml.specs.Data.{array, table}
use Rattle.toml.specs.Parse.{after_element, items, key_equals, members, val}
use Rattle.toml.proofs.Turns.{items_end, keyval_no_key, members_end, val_atom, val_deep, val_open_array, val_open_table}
use Rattle.gptp_outline.proofs.ValueLemmas.{items_step, mapped, members_step, not_read, pair_step, refuses_err, same_left}
use Rattle.gptp_outline.proofs.value.+value.Goals as goal

pub array_end-returns-then-first-eq93-clause-value : goal.array_end-returns-then-first-eq93-clause-value
array_end-returns-then-first-eq93-clause-value t c n h x left is =
    let l = c.items in let start_is = c.skip_blank-start.ensures.rest in
    let (m, found, room, loop) = l.invariant.2 n h x left is in
    let closing : (first (skip_blank l.rest.now) == 93) ≡ true = grind (arith, common_steps) in
    c.skip.ensures.rest ∙ ap (drop 1) start_is
    ∙ same_left _ _ x _ left (items_end (val c.args.depth) m found l.rest.now (omega arith) closing) loop

pub array_end-items-preserved : goal.array_end-items-preserved
array_end-items-preserved t c =
    let l = c.items in let start_is = c.skip_blank-start.ensures.rest in
    let other : (first (skip_blank l.rest.now) == 93) ≡ false = grind (arith, common_steps) in
    let shorter = c.in_ok-after.ensures.shorter in
    let within = c.in_ok-rest.ensures.within in
    let before = c.skip_blank-start.ensures.within in (
      search rules,
      omega (arith, l.invariant.1),
      λ n h x left is.
          let (m, found, room, loop) = l.invariant.2 n h x left is in
          let (d, after, next, read, element, more) =
          items_step (val c.args.depth) m found l.rest.now x left (omega arith) other loop in
          let after_is : c.in_ok-after.after.now ≡ after =
          c.in_ok-after.ensures.value d after (ap (val c.args.depth) start_is ∙ read) in
          let next_is : next ≡ c.in_ok-rest.rest.now =
          same_Some _ _ (sym element ∙ ap (after_element 93) (sym after_is) ∙ c.in_ok-rest.ensures.value) in
          (m - 1, _, omega arith, ap (items (val c.args.depth) (m - 1) _) (sym next_is) ∙ more),
    )

pub table_end-returns-then-first-eq125-clause-value : goal.table_end-returns-then-first-eq125-clause-value
table_end-returns-then-first-eq125-clause-value t c n h x left is =
    let l = c.members in let start_is = c.skip_blank-start.ensures.rest in
    let (m, found, room, loop) = l.invariant.2 n h x left is in
    let closing : (first (skip_blank l.rest.now) == 125) ≡ true = grind (arith, common_steps) in
    c.skip.ensures.rest ∙ ap (drop 1) start_is
    ∙ same_left _ _ x _ left (members_end (val c.args.depth) m found l.rest.now (omega arith) closing) loop

pub table_end-members-preserved : goal.table_end-members-preserved
table_end-members-preserved t c =
    let l = c.members in let start_is = c.skip_blank-start.ensures.rest in
    let other : (first (skip_blank l.rest.now) == 125) ≡ false = grind (arith, common_steps) in
    let shorter = c.in_ok-at_value.ensures.shorter in
    let shorter_again = c.in_ok-after.ensures.shorter in
    let within = c.in_ok-rest.ensures.within in
    let before = c.skip_blank-start.ensures.within in (
      search rules,
      omega (arith, l.invariant.1),
      λ n h x left is.
          let (m, found, room, loop) = l.invariant.2 n h x left is in
          let (key, d, after, nodes, next, pair, element, more) =
          members_step (val c.args.depth) m found l.rest.now x left (omega arith) other loop in
          let read = pair_step (val c.args.depth) (skip_blank l.rest.now) c.in_ok-at_value.at_value.now _ key d after
          (ap key_equals (sym start_is) ∙ c.in_ok-at_value.ensures.value) pair in
          let after_is : c.in_ok-after.after.now ≡ after = c.in_ok-after.ensures.value d after read in
          let next_is : next ≡ c.in_ok-rest.rest.now =
          same_Some _ _ (sym element ∙ ap (after_element 125) (sym after_is) ∙ c.in_ok-rest.ensures.value) in
          (m - 1, _, omega arith, ap (members (val c.args.depth) (m - 1) _) (sym next_is) ∙ more),
    )

pub value_end-returns-then-byte-ne123-clause-value : goal.value_end-returns-then-byte-ne123-clause-value
value_end-returns-then-byte-ne123-clause-value t c =
    let s = c.args.s.now in
    let a : (first s == 91) ≡ false = grind (arith, common_steps) in
    let b : (first s == 123) ≡ false = grind (arith, common_steps) in
    rw (val_atom c.args.depth s a b) c.atom_end.ensures.value

pub value_end-returns-then-byte-eq91-clause-value : goal.value_end-returns-then-byte-eq91-clause-value
value_end-returns-then-byte-eq91-clause-value t c =
    let s = c.args.s.now in
    let some : 0 < c.args.depth = omega arith in
    let a : (first s == 91) ≡ true = grind (arith, common_steps) in
    IfOk-weaker c.array_end.result _ _
    (λ rest skips d left is.
    let inner = mapped array _ d left (sym (val_open_array c.args.depth s some a) ∙ is) in
    skips inner.0 left (ap (items (val (c.args.depth - 1)) (length s) _) c.skip.ensures.rest ∙ inner.1))
    (c.array_end.ensures.value (length s) c.skip.ensures.shorter)

pub value_end-returns-else-byte-eq91-clause-value : goal.value_end-returns-else-byte-eq91-clause-value
value_end-returns-else-byte-eq91-clause-value t c =
    let s = c.args.s.now in
    let some : 0 < c.args.depth = omega arith in
    let a : (first s == 91) ≡ false = grind (arith, common_steps) in
    let b : (first s == 123) ≡ true = grind (arith, common_steps) in
    IfOk-weaker c.table_end.result _ _
    (λ rest skips d left is.
    let inner = mapped table _ d left (sym (val_open_table c.args.depth s some a b) ∙ is) in
    skips inner.0 left
    (ap (members (val (c.args.depth - 1)) (length s) _) c.skip-else-byte-eq91.ensures.rest ∙ inner.1))
    (c.table_end.ensures.value (length s) c.skip-else-byte-eq91.ensures.shorter)

pub array_end-returns-in_err-after-clause-refused : goal.array_end-returns-in_err-after-clause-refused
array_end-returns-in_err-after-clause-refused t c n h =
    let l = c.items in let start_is = c.skip_blank-start.ensures.rest in
    let unclosed : (first (skip_blank l.rest.now) == 93) ≡ false = grind (arith, common_steps) in
    refuses_err c.from_residual.result _ c.in_err-after.field-0.0 _ c.from_residual.ensures.1 (λ y p. p)
    (λ other x left is.
    let (m, found, room, loop) = l.invariant.2 n h x left is in
    let (d, after, next, read, element, more) =
    items_step (val c.args.depth) m found l.rest.now x left (omega arith) unclosed loop in
    c.in_err-after.ensures.refused other d after (ap (val c.args.depth) start_is ∙ read))

pub array_end-returns-in_err-rest-clause-refused : goal.array_end-returns-in_err-rest-clause-refused
array_end-returns-in_err-rest-clause-refused t c n h =
    let l = c.items in let start_is = c.skip_blank-start.ensures.rest in
    let unclosed : (first (skip_blank l.rest.now) == 93) ≡ false = grind (arith, common_steps) in
    refuses_err c.from_residual-in_err-rest.result _ c.in_err-rest.field-0.0 _ c.from_residual-in_err-rest.ensures.1
    (λ y p. p)
    (λ other x left is.
    let (m, found, room, loop) = l.invariant.2 n h x left is in
    let (d, after, next, read, element, more) =
    items_step (val c.args.depth) m found l.rest.now x left (omega arith) unclosed loop in
    let after_is = c.in_ok-after.ensures.value d after (ap (val c.args.depth) start_is ∙ read) in
    not_read _ next (c.in_err-rest.ensures.value other) (ap (after_element 93) after_is ∙ element))

pub table_end-returns-in_err-at_value-clause-refused : goal.table_end-returns-in_err-at_value-clause-refused
table_end-returns-in_err-at_value-clause-refused t c n h =
    let l = c.members in let start_is = c.skip_blank-start.ensures.rest in
    let unclosed : (first (skip_blank l.rest.now) == 125) ≡ false = grind (arith, common_steps) in
    refuses_err c.from_residual.result _ c.in_err-at_value.field-0.0 _ c.from_residual.ensures.1 (λ y p. p)
    (λ other x left is.
    let (m, found, room, loop) = l.invariant.2 n h x left is in
    let (key, d, after, nodes, next, pair, element, more) =
    members_step (val c.args.depth) m found l.rest.now x left (omega arith) unclosed loop in
    let none = keyval_no_key (val c.args.depth) (skip_blank l.rest.now)
    (ap key_equals (sym start_is) ∙ c.in_err-at_value.ensures.value other) in
    not_read _ ((key, d), after) none pair)

pub table_end-returns-in_err-after-clause-refused : goal.table_end-returns-in_err-after-clause-refused
table_end-returns-in_err-after-clause-refused t c n h =
    let l = c.members in let start_is = c.skip_blank-start.ensures.rest in
    let unclosed : (first (skip_blank l.rest.now) == 125) ≡ false = grind (arith, common_steps) in
    refuses_err c.from_residual-in_err-after.result _ c.in_err-after.field-0.0 _
    c.from_residual-in_err-after.ensures.1 (λ y p. p)
    (λ other x left is.
    let (m, found, room, loop) = l.invariant.2 n h x left is in
    let (key, d, after, nodes, next, pair, element, more) =
    members_step (val c.args.depth) m found l.rest.now x left (omega arith) unclosed loop in
    let read = pair_step (val c.args.depth) (skip_blank l.rest.now) c.in_ok-at_value.at_value.now _ key d after
    (ap key_equals (sym start_is) ∙ c.in_ok-at_value.ensures.value) pair in
    c.in_err-after.ensures.refused other d after read)

pub table_end-returns-in_err-rest-clause-refused : goal.table_end-returns-in_err-rest-clause-refused
table_end-returns-in_err-rest-clause-refused t c n h =
    let l = c.members in let start_is = c.skip_blank-start.ensures.rest in
    let unclosed : (first (skip_blank l.rest.now) == 125) ≡ false = grind (arith, common_steps) in
    refuses_err c.from_residual-in_err-rest.result _ c.in_err-rest.field-0.0 _ c.from_residual-in_err-rest.ensures.1
    (λ y p. p)
    (λ other x left is.
    let (m, found, room, loop) = l.invariant.2 n h x left is in
    let (key, d, after, nodes, next, pair, element, more) =
    members_step (val c.args.depth) m found l.rest.now x left (omega arith) unclosed loop in
    let read = pair_step (val c.args.depth) (skip_blank l.rest.now) c.in_ok-at_value.at_value.now _ key d after
    (ap key_equals (sym start_is) ∙ c.in_ok-at_value.ensures.value) pair in
    let after_is = c.in_ok-after.ensures.value d after read in
    not_read _ next (c.in_err-rest.ensures.value other) (ap (after_element 125) after_is ∙ element))

pub value_end-returns-then-byte-ne123-clause-refused : goal.value_end-returns-then-byte-ne123-clause-refused
value_end-returns-then-byte-ne123-clause-refused t c =
    let s = c.args.s.now in
    let a : (first s == 91) ≡ false = grind (arith, common_steps) in
    let b : (first s == 123) ≡ false = grind (arith, common_steps) in
    rw (val_atom c.args.depth s a b) c.atom_end.ensures.refused

pub value_end-returns-then-depth-eq0-clause-refused : goal.value_end-returns-then-depth-eq0-clause-refused
value_end-returns-then-depth-eq0-clause-refused t c other x left is =
    let s = c.args.s.now in
    let bracket : ((first s == 91) || (first s == 123)) ≡ true = grind (arith, common_steps) in
    let zero : c.args.depth ≡ 0 = omega arith in
    not_read _ (x, left) (ap (λ depth. val depth s) zero ∙ val_deep s bracket) is

pub value_end-returns-then-byte-eq91-clause-refused : goal.value_end-returns-then-byte-eq91-clause-refused
value_end-returns-then-byte-eq91-clause-refused t c =
    let s = c.args.s.now in
    let some : 0 < c.args.depth = omega arith in
    let a : (first s == 91) ≡ true = grind (arith, common_steps) in
    IfErr-weaker c.array_end.result _ _
    (λ e refuses other d left is.
    let inner = mapped array _ d left (sym (val_open_array c.args.depth s some a) ∙ is) in
    refuses other inner.0 left (ap (items (val (c.args.depth - 1)) (length s) _) c.skip.ensures.rest ∙ inner.1))
    (c.array_end.ensures.refused (length s) c.skip.ensures.shorter)

pub value_end-returns-else-byte-eq91-clause-refused : goal.value_end-returns-else-byte-eq91-clause-refused
value_end-returns-else-byte-eq91-clause-refused t c =
    let s = c.args.s.now in
    let some : 0 < c.args.depth = omega arith in
    let a : (first s == 91) ≡ false = grind (arith, common_steps) in
    let b : (first s == 123) ≡ true = grind (arith, common_steps) in
    IfErr-weaker c.table_end.result _ _
    (λ e refuses other d left is.
    let inner = mapped table _ d left (sym (val_open_table c.args.depth s some a b) ∙ is) in
    refuses other inner.0 left
    (ap (members (val (c.args.depth - 1)) (length s) _) c.skip-else-byte-eq91.ensures.rest ∙ inner.1))
    (c.table_end.ensures.refused (length s) c.skip-else-byte-eq91.ensures.shorter)
