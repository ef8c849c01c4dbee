-- One line more.
use Rattle.std.proofs.Common.{◌≡◌, ◌++◌, ◌∷◌, [], List, ℕ, None, slice_get, get_or, rules}
use Rattle.std.specs.Prelude.{string_bytes}
use Rattle.std.proofs.lemmas.Option.{slice_get-get_or}
use Rattle.gptp_lint.specs.LintText.{lossy_line}
use Rattle.gptp_lint.specs.declared.trouble.Lossy.{Lossy}
use Rattle.gptp_lint.proofs.TextLemmas.{mapped_more}
use Rattle.gptp_lint.proofs.text.write_stretches.Goals as goal

pub loop-lossy-preserved : goal.loop-lossy-preserved
loop-lossy-preserved c =
    let xs = c.args.stretches.now in
    let i = c.loop-lossy.lossy-index in
    let any : Lossy = record { link = 0; loss = 0; from = 0; to = None } in
    let line : Lossy → List ℕ = λ l. lossy_line (slice_get c.args.outline.now.links.items l.link) l in
    let told : string_bytes c.write_stretch.new.text
    ≡ string_bytes c.loop-lossy.text ++ (line (get_or xs i any) ++ 10 ∷ []) = search rules in
    mapped_more line xs i (get_or xs i any) (string_bytes c.args.text.now) (string_bytes c.loop-lossy.text)
    (string_bytes c.write_stretch.new.text) (slice_get-get_or xs i any c.loop-lossy-test.true)
    c.loop-lossy.invariant told
