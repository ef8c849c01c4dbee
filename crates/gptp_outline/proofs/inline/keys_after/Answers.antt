use Rattle.std.proofs.Common.{◌≡◌, ◌==◌, ◌-◌, ◌∙◌, ◌++◌, ◌∷◌, [], Some, true, false, ap, ap₂, append-nil, arith, map, option_map, rules, sym}
use Rattle.std.proofs.lemmas.Grind.{common_steps}
use Rattle.std.proofs.lemmas.List.{map-append}
use Rattle.std.proofs.lemmas.Option.{same_Some}
use Rattle.toml_parser.specs.Lexical.{first, skip_blank}
use Rattle.toml_parser.specs.Reading.{key_view}
use Rattle.toml.specs.Parse.{after_element, key_equals, members, val}
use Rattle.toml.specs.Tables.{no_nodes}
use Rattle.gptp_outline.specs.Inline.{keys_from}
use Rattle.gptp_outline.proofs.InlineLemmas.{keys_end, keys_more}
use Rattle.gptp_outline.proofs.OutlineLemmas.{joined, nothing_before}
use Rattle.gptp_outline.proofs.ValueLemmas.{members_step, pair_key, pair_step}
use Rattle.gptp_outline.proofs.inline.keys_after.Goals as goal

pub members-init : goal.members-init
members-init c = (
  search rules,
  omega arith,
  λ n x left room read. (
    n,
    no_nodes,
    room,
    read,
    rw c.new-keys.ensures.items (nothing_before (keys_from c.args.depth n c.args.s.now)),
  ),
)

pub returns-then-first-eq125 : goal.returns-then-first-eq125
returns-then-first-eq125 c n x left h is =
    let l = c.members in let start_is = c.skip_blank-start.ensures.rest in
    let (m, found, room, loop, so_far) = l.invariant.2 n x left h is in
    let closing : (first (skip_blank l.rest.now) == 125) ≡ true = grind (arith, common_steps) in
    so_far
    ∙ ap (option_map (λ more. map key_view l.keys.items ++ more))
    (keys_end c.args.depth m l.rest.now (omega arith) closing)
    ∙ ap Some (append-nil (map key_view l.keys.items))

pub members-preserved : goal.members-preserved
members-preserved c =
    let l = c.members in let start_is = c.skip_blank-start.ensures.rest in
    let depth = c.args.depth in
    let other : (first (skip_blank l.rest.now) == 125) ≡ false = grind (arith, common_steps) in
    let shorter = c.in_ok-key.ensures.shorter in
    let shorter_again = c.in_ok-after.ensures.shorter in
    let within = c.in_ok-rest.ensures.within in
    let before = c.skip_blank-start.ensures.within in (
      search rules,
      omega (arith, l.invariant.1),
      λ n x left h is.
          let (m, found, room, loop, so_far) = l.invariant.2 n x left h is in
          let (key, d, after, more, next, pair, element, others) =
          members_step (val depth) m found l.rest.now x left (omega arith) other loop in
          let equals = ap key_equals (sym start_is) ∙ c.in_ok-key.ensures.value in
          let read = pair_step (val depth) (skip_blank l.rest.now) c.in_ok-key.at_value.now _ key d after equals pair in
          let key_is : key_view c.in_ok-key.key ≡ key =
          pair_key (val depth) (skip_blank l.rest.now) c.in_ok-key.at_value.now _ key d after equals pair in
          let after_is : c.in_ok-after.after.now ≡ after = c.in_ok-after.ensures.value d after read in
          let next_is : next ≡ c.in_ok-rest.rest.now =
          same_Some _ _ (sym element ∙ ap (after_element 125) (sym after_is) ∙ c.in_ok-rest.ensures.value) in
          let items = c.in_ok-push.ensures.items in (
            m - 1,
            more,
            omega arith,
            ap (members (val depth) (m - 1) more) (sym next_is) ∙ others,
            so_far
                ∙ ap (option_map (λ keys. map key_view l.keys.items ++ keys))
                (keys_more depth m l.rest.now key d after next (omega arith) other pair element)
                ∙ joined (map key_view l.keys.items) key (keys_from depth (m - 1) next)
                ∙ ap₂ (λ keys rest. option_map (λ others. keys ++ others) (keys_from depth (m - 1) rest))
                (sym (ap (map key_view) items ∙ map-append key_view l.keys.items (c.in_ok-key.key ∷ [])
                ∙ ap (λ k. map key_view l.keys.items ++ k ∷ []) key_is)) next_is,
          ),
    )
