-- A key that is equal is among the keys.
use Rattle.std.proofs.Common.{◌≡◌, ◌∙◌, Some, ap, bytes_eq, get_or, map, slice_get, sym, true}
use Rattle.std.proofs.lemmas.Option.{slice_get-get_or}
use Rattle.gptp_lists.proofs.MappedLemmas.{mapped_there}
use Rattle.gptp_network.specs.Keys.{name_text}
use Rattle.gptp_network.specs.declared.keys.Name.TheVariants.{Version}
use Rattle.gptp_lint.proofs.KeyLemmas.{any_there}
use Rattle.gptp_lint.proofs.keys.is_among.Goals as goal

pub returns-then-eq : goal.returns-then-eq
returns-then-eq c =
    let names = c.args.keys.now in
    let i = c.loop-known.known-index in
    let key = c.args.key.now in
    let known = get_or names i Version in
    let there : slice_get names i ≡ Some known = slice_get-get_or names i Version c.loop-known-test.true in
    let passes : bytes_eq (name_text known) key ≡ true =
    ap (λ octets. bytes_eq octets key) (sym (c.as_bytes.ensures.value ∙ c.text.ensures)) ∙ sym c.eq.ensures
    ∙ c.if-eq.true in
    sym
    (any_there (λ octets. bytes_eq octets key) (map name_text names) i (name_text known)
    (mapped_there name_text names i known there) passes)
