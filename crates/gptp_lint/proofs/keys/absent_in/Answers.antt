-- One key more.
use Rattle.std.proofs.Common.{◌≡◌, ◌++◌, ◌∙◌, ◌∷◌, [], Some, ap, filter, get_or, slice_get, sym}
use Rattle.std.proofs.lemmas.Option.{slice_get-get_or}
use Rattle.toml.specs.View.{table_view}
use Rattle.gptp_network.specs.Keys.{name_text}
use Rattle.gptp_network.specs.declared.keys.Name.TheVariants.{Version}
use Rattle.gptp_lint.specs.Keys.{is_absent}
use Rattle.gptp_lint.proofs.KeyLemmas.{passed_more}
use Rattle.gptp_lint.proofs.keys.absent_in.Goals as goal

pub loop-known-preserved : goal.loop-known-preserved
loop-known-preserved c =
    let absent = is_absent (table_view c.args.table.now) in
    let names = c.args.keys.now in
    let i = c.loop-known.known-index in
    let known = get_or names i Version in
    let there : slice_get names i ≡ Some known = slice_get-get_or names i Version c.loop-known-test.true in
    c.in_ok-push_absent.ensures ∙ ap (λ keys. keys ++ filter absent (name_text known ∷ [])) c.loop-known.invariant
    ∙ sym (passed_more name_text absent names i known there)
