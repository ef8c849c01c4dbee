use Rattle.std.proofs.Common.{◌≡◌, false, rules, true}
use Rattle.toml_parser.specs.Strings.{starts_string}
use Rattle.gptp_outline.proofs.ValueLemmas.{atom_no_scalar, atom_no_text, atom_scalar, atom_text, not_read, refuses_err, same_left}
use Rattle.gptp_outline.proofs.value.atom_end.Goals as goal

pub returns-in_ok-rest-clause-value : goal.returns-in_ok-rest-clause-value
returns-in_ok-rest-clause-value c x left is =
    let s = c.args.s.now in
    let begins : starts_string s ≡ true = search rules in
    same_left _ _ x _ left (atom_text s _ c.in_ok-rest.rest.now begins c.in_ok-rest.ensures.value) is

pub returns-in_ok-rest-2-clause-value : goal.returns-in_ok-rest-2-clause-value
returns-in_ok-rest-2-clause-value c x left is =
    let s = c.args.s.now in
    let begins : starts_string s ≡ false = search rules in
    same_left _ _ x _ left (atom_scalar s _ c.in_ok-rest-2.rest.now begins c.in_ok-rest-2.ensures.value) is

pub returns-in_err-rest-clause-refused : goal.returns-in_err-rest-clause-refused
returns-in_err-rest-clause-refused c =
    let s = c.args.s.now in
    let begins : starts_string s ≡ true = search rules in
    refuses_err c.from_residual.result _ c.in_err-rest.field-0.0 _ c.from_residual.ensures.1 (λ y p. p)
    (λ other x left is. not_read _ (x, left) (atom_no_text s begins (c.in_err-rest.ensures.value other)) is)

pub returns-in_err-rest-2-clause-refused : goal.returns-in_err-rest-2-clause-refused
returns-in_err-rest-2-clause-refused c =
    let s = c.args.s.now in
    let begins : starts_string s ≡ false = search rules in
    refuses_err c.from_residual-in_err-rest-2.result _ c.in_err-rest-2.field-0.0 _
    c.from_residual-in_err-rest-2.ensures.1 (λ y p. p)
    (λ other x left is. not_read _ (x, left) (atom_no_scalar s begins (c.in_err-rest-2.ensures.value other)) is)
