-- Sends one after another.
use Rattle.std.proofs.Common.{ℕ, List, [], ◌∷◌, ◌++◌, Option, refl, subst, sym, inl, inr}
use Rattle.gptp_links.specs.declared.bounds.Bounds.{Bounds}
use Rattle.gptp_links.specs.Fate.{Draw, Draws}
use Rattle.gptp_links.proofs.DrawLemmas as draws
use Rattle.gptp_system.specs.declared.sending.Sending.{Sending}
use Rattle.gptp_system.specs.State.{SystemState, own}
use Rattle.gptp_world.specs.Net.{SentAll}
use Rattle.gptp_world.specs.Net.{SentNext}
use Rattle.gptp_model.specs.Sends.{IsUnlinkedPort, SendsOne, SendsAll, written}
use Rattle.gptp_model.specs.World.{Net}

-- one more send after others, which goes onto a link
sends_more : (now : ℕ) (s : SystemState) (xs : List Sending) (x : Sending) (ds : List Draw) (d : Draw)
    (net between after : Net)
    → SendsAll now s xs ds net between → SendsOne now (own s x.port) (written s x) d between after
    → SendsAll now s (xs ++ x ∷ []) (ds ++ d ∷ []) net after
sends_more now s [] x ds d net between after sends one =
    let e = sends.0 in let n = sends.1 in
    rw e (inl (
      d,
      [],
      after,
      refl,
      subst (λ m. SendsOne now (own s x.port) (written s x) d m after) n one,
      (refl, refl),
    ))
sends_more now s (y ∷ ys) x ds d net between after (inl (first, rest, middle, is, sent, sends)) one =
    let ih = sends_more now s ys x rest d middle between after sends one in
    rw is (inl (first, rest ++ d ∷ [], middle, refl, sent, ih))
sends_more now s (y ∷ ys) x ds d net between after (inr (none, sends)) one =
    inr (none, sends_more now s ys x ds d net between after sends one)

-- one more that goes nowhere
sends_none : (now : ℕ) (s : SystemState) (xs : List Sending) (x : Sending) (ds : List Draw) (net after : Net)
    → SendsAll now s xs ds net after → IsUnlinkedPort after (own s x.port) → SendsAll now s (xs ++ x ∷ []) ds net after
sends_none now s [] x ds net after sends none =
    let n = sends.1 in inr (subst (λ m. IsUnlinkedPort m (own s x.port)) n none, sends)
sends_none now s (y ∷ ys) x ds net after (inl (first, rest, middle, is, sent, sends)) none =
    inl (first, rest, middle, is, sent, sends_none now s ys x rest middle after sends none)
sends_none now s (y ∷ ys) x ds net after (inr (off, sends)) none =
    inr (off, sends_none now s ys x ds net after sends none)

pub sent_none : {F : Type 0} (answers : Bounds → ℕ → F → Option ℕ → F → Type 0) (now : ℕ) (s : SystemState) (fate : F)
    (net : Net)
    → SentAll answers now s [] fate fate net net
sent_none answers now s fate net = record { draws = []; drawn = refl; sends_all = (refl, refl) }

pub sent_next : {F : Type 0} (answers : Bounds → ℕ → F → Option ℕ → F → Type 0) (now : ℕ) (s : SystemState)
    (xs : List Sending) (x : Sending)
    (first second third : F) (net between after : Net) → SentAll answers now s xs first second net between
    → SentNext answers now (own s x.port) (written s x) second third between after
    → SentAll answers now s (xs ++ x ∷ []) first third net after
sent_next answers now s xs x first second third net between after sent (inl one) = record {
  draws = sent.draws ++ one.draw ∷ [];
  drawn = draws.draws-append answers first second third sent.draws (one.draw ∷ []) sent.drawn (third, one.drawn, refl);
  sends_all = sends_more now s xs x sent.draws one.draw net between after sent.sends_all one.sends;
}
sent_next answers now s xs x first second third net between after sent (inr none) = record {
  draws = sent.draws;
  drawn = subst (λ f. Draws answers first sent.draws f) (sym none.fate_is) sent.drawn;
  sends_all = sends_none now s xs x sent.draws net after
      (subst (λ n. SendsAll now s xs sent.draws net n) (sym none.net_is) sent.sends_all)
      (subst (λ n. IsUnlinkedPort n (own s x.port)) (sym none.net_is) none.unlinked);
}
