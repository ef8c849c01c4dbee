use Rattle.std.proofs.Common.{◌≡◌, ◌==◌, ◌-◌, ◌∙◌, ◌++◌, ◌∷◌, [], Some, true, false, ap, ap₂, append-nil, arith, map, option_map, rules, sym}
use Rattle.std.proofs.lemmas.Grind.{common_steps}
use Rattle.std.proofs.lemmas.List.{map-append}
use Rattle.std.proofs.lemmas.Option.{same_Some}
use Rattle.toml_parser.specs.Lexical.{first, skip_blank}
use Rattle.toml.specs.Data.{no_items, push_item}
use Rattle.toml.specs.Parse.{after_element, items, val}
use Rattle.gptp_outline.specs.Inline.{items_from, keys_view, value_keys}
use Rattle.gptp_outline.proofs.InlineLemmas.{item_keys_end, item_keys_more}
use Rattle.gptp_outline.proofs.OutlineLemmas.{joined, nothing_before}
use Rattle.gptp_outline.proofs.ValueLemmas.{items_step}
use Rattle.gptp_outline.proofs.inline.items_after.Goals as goal

pub items-init : goal.items-init
items-init c = (
  search rules,
  omega arith,
  λ n x left room read. (
    n,
    no_items,
    room,
    read,
    rw c.new-found.ensures.items (nothing_before (items_from c.args.depth n c.args.s.now)),
  ),
)

pub returns-then-first-eq93 : goal.returns-then-first-eq93
returns-then-first-eq93 c n x left h is =
    let l = c.items in let start_is = c.skip_blank-start.ensures.rest in
    let (m, found, room, loop, so_far) = l.invariant.2 n x left h is in
    let closing : (first (skip_blank l.rest.now) == 93) ≡ true = grind (arith, common_steps) in
    so_far
    ∙ ap (option_map (λ more. map keys_view l.found.items ++ more))
    (item_keys_end c.args.depth m l.rest.now (omega arith) closing)
    ∙ ap Some (append-nil (map keys_view l.found.items))

pub items-preserved : goal.items-preserved
items-preserved c =
    let l = c.items in let start_is = c.skip_blank-start.ensures.rest in
    let depth = c.args.depth in
    let other : (first (skip_blank l.rest.now) == 93) ≡ false = grind (arith, common_steps) in
    let shorter = c.in_ok-after.ensures.shorter in
    let within = c.in_ok-rest.ensures.within in
    let before = c.skip_blank-start.ensures.within in (
      search rules,
      omega (arith, l.invariant.1),
      λ n x left h is.
          let (m, found, room, loop, so_far) = l.invariant.2 n x left h is in
          let (d, after, next, read, element, more) =
          items_step (val depth) m found l.rest.now x left (omega arith) other loop in
          let value = ap (val depth) start_is ∙ read in
          let after_is : c.in_ok-after.after.now ≡ after = c.in_ok-after.ensures.value d after value in
          let next_is : next ≡ c.in_ok-rest.rest.now =
          same_Some _ _ (sym element ∙ ap (after_element 93) (sym after_is) ∙ c.in_ok-rest.ensures.value) in
          let keys_are : keys_view c.in_ok-keys.keys ≡ value_keys depth (skip_blank l.rest.now) =
          c.in_ok-keys.ensures d after value ∙ ap (value_keys depth) start_is in
          let pushed = c.in_ok-push.ensures.items in (
            m - 1,
            push_item found d,
            omega arith,
            ap (items (val depth) (m - 1) (push_item found d)) (sym next_is) ∙ more,
            so_far
                ∙ ap (option_map (λ items. map keys_view l.found.items ++ items))
                (item_keys_more depth m l.rest.now d after next (omega arith) other read element)
                ∙ joined (map keys_view l.found.items) (value_keys depth (skip_blank l.rest.now))
                (items_from depth (m - 1) next)
                ∙ ap₂ (λ keys rest. option_map (λ others. keys ++ others) (items_from depth (m - 1) rest))
                (sym (ap (map keys_view) pushed ∙ map-append keys_view l.found.items (c.in_ok-keys.keys ∷ [])
                ∙ ap (λ k. map keys_view l.found.items ++ k ∷ []) keys_are)) next_is,
          ),
    )
