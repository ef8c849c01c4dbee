use Rattle.std.proofs.Common.{option_map, refl, subst, sym}
use Rattle.gptp_certificate_text.specs.Certificate.{parent_of}
use Rattle.gptp_choice.specs.Lines.{IsFirstOf}
use Rattle.gptp_choice.proofs.ParentLemmas.{first_alone, first_is_best, first_is_way}
use Rattle.gptp_choice.proofs.parent.first_of.Goals as goal

pub returns-then-is_lower : goal.returns-then-is_lower
returns-then-is_lower c =
    let way = parent_of (c.args.own_port, c.args.there) in
    let before = parent_of (c.in-Some.first_port, c.in-Some.first) in
    subst (λ best. IsFirstOf (option_map parent_of best) way way) (sym c.in-Some.is)
    (first_is_way before way (c.if-is_lower.ensures.0 refl))

pub returns-else-is_lower : goal.returns-else-is_lower
returns-else-is_lower c =
    let way = parent_of (c.args.own_port, c.args.there) in
    let before = parent_of (c.in-Some.first_port, c.in-Some.first) in
    subst (λ best. IsFirstOf (option_map parent_of best) way before) (sym c.in-Some.is)
    (first_is_best before way (λ lower. let t = c.if-is_lower.ensures.1 lower in absurd cc))

pub returns-in-None : goal.returns-in-None
returns-in-None c =
    let way = parent_of (c.args.own_port, c.args.there) in
    subst (λ best. IsFirstOf (option_map parent_of best) way way) (sym c.in-None.is) (first_alone way)
