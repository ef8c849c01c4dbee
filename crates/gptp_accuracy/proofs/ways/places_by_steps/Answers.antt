-- The closure gives the steps of a place.
use Rattle.std.proofs.Common.{ℕ, rules}
use Rattle.std.proofs.lemmas.List.Sorted.{answers_always}
use Rattle.gptp_accuracy.proofs.PassLemmas.{places_sorted}
use Rattle.gptp_accuracy.proofs.ways.places_by_steps.Goals as goal

pub returns : goal.returns
returns c =
    let facts = c.sort_unstable_by_key.ensures in
    let sorted = facts.sorted (λ (p : ℕ × ℕ). p.0) (answers_always _ _ _ (λ f a r g called. search rules)) in
    places_sorted c.args.certificate.now.lines c.in_ok-places.places.items c.sort_unstable_by_key.new.self.items
    c.in_ok-places.ensures facts.permutation sorted
