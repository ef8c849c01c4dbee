-- Octets, place by place and each.
use Rattle.std.proofs.Common.{◌<◌, ℕ, suc, List, [], ◌∷◌, sym, subst, inl, inr}
use Rattle.std.specs.Prelude.{slice_index}
use Rattle.gptp_lists.specs.Members.{In}

-- where the number at each place is below 256, each number is
pub each_below : (octets : List ℕ) → ((place : ℕ) → slice_index octets place < 256)
    → (octet : ℕ) → In octet octets → octet < 256
each_below [] below octet member = absurd member
each_below (x ∷ xs) below octet (inl same) = subst (λ n. n < 256) (sym same) (below 0)
each_below (x ∷ xs) below octet (inr later) = each_below xs (λ place. below (suc place)) octet later
