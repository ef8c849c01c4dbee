use Rattle.std.proofs.Common.{◌≡◌, ◌+◌, ◌++◌, ◌∷◌, [], None, ap, arith, length, length-append, sym, subst}
use Rattle.gptp_components.specs.Search.{NothingFound}
use Rattle.gptp_components.proofs.FoundLemmas.{nothing_more}
use Rattle.gptp_components.proofs.search.nothing_found.Goals as goal

pub loop-place-preserved : goal.loop-place-preserved
loop-place-preserved c =
    let old = c.loop-place.found.items in let items = c.in_ok-push.ensures.items in
    let longer : length c.push.new.self.items ≡ length (old ++ None ∷ []) = ap length items in
    let sum = length-append old (None ∷ []) in let many = c.loop-place.invariant.as_many in
    record {
      as_many = omega (arith, longer, sum, many);
      nothing = subst NothingFound (sym items) (nothing_more old c.loop-place.invariant.nothing);
    }
