use Rattle.std.proofs.Common.{◌≡◌, ◌+◌, [], ◌∷◌, ◌++◌, take, drop, ap, sym, ◌∙◌, arith}
use Rattle.std.proofs.lemmas.List.{drop_more, take_more, take-append-drop}
use Rattle.gptp_world.specs.Net.{between}
use Rattle.gptp_world.specs.Room.{both, for_sends, WorldHasRoom}
use Rattle.gptp_world.proofs.NeedLemmas.{covered, left_of, sends_covered, unsent, uses_both, uses_less}
use Rattle.gptp_world.proofs.SendsLemmas.{sent_next, sent_none}
use Rattle.gptp_world.proofs.net.Net.send_all.Goals as goal

pub loop-send-init : goal.loop-send-init
loop-send-init g c = record {
  net = c.requires.net;
  uses = unsent (for_sends []) c.args.self.now;
  sent = sent_none g.F.Fate.answers c.args.now c.args.system.now c.args.fate.now (between c.args.self.now);
}

pub send_next-requires-clause-room : goal.send_next-requires-clause-room
send_next-requires-clause-room g c =
    let i = c.loop-send.send-index in let xs = c.args.sends.now in let x = c.send-item.result in
    let net = c.args.self.now in
    let d = drop_more xs i x c.loop-send-test.true in
    let here : drop i xs ≡ x ∷ drop (i + 1) xs = d ∙ ap (λ y. y ∷ drop (i + 1) xs) (sym c.send-item.is) in
    let all : xs ≡ take i xs ++ (x ∷ drop (i + 1) xs) = sym (take-append-drop i xs) ∙ ap (λ ys. take i xs ++ ys) here in
    let has : WorldHasRoom (for_sends (take i xs ++ (x ∷ drop (i + 1) xs))) net = rw (← all) c.requires.room in
    let left : WorldHasRoom (for_sends (x ∷ drop (i + 1) xs)) c.loop-send.self =
    left_of (for_sends (take i xs)) (for_sends (x ∷ drop (i + 1) xs)) net c.loop-send.self
    c.loop-send.invariant.uses
    (covered _ _ net (sends_covered (take i xs) (x ∷ drop (i + 1) xs)) has) in
    let first : WorldHasRoom (both (for_sends (x ∷ [])) (for_sends (drop (i + 1) xs))) c.loop-send.self =
    covered _ _ c.loop-send.self (sends_covered (x ∷ []) (drop (i + 1) xs)) left in
    covered _ (for_sends (x ∷ [])) c.loop-send.self
    (record { entries = omega arith; buffers = omega arith }) first

pub loop-send-preserved : goal.loop-send-preserved
loop-send-preserved g c =
    let i = c.loop-send.send-index in let xs = c.args.sends.now in let x = c.send-item.result in
    let t = take_more xs i x c.loop-send-test.true in
    let front : take (i + 1) xs ≡ take i xs ++ x ∷ [] = t ∙ ap (λ y. take i xs ++ y ∷ []) (sym c.send-item.is) in
    let e = c.send_next.ensures in let so_far = c.loop-send.invariant in
    let used = uses_both (for_sends (take i xs)) (for_sends (x ∷ [])) c.args.self.now c.loop-send.self
    c.send_next.new.self
    so_far.uses e.uses in
    record {
      net = e.net;
      uses = rw front
          (uses_less _ _ c.args.self.now c.send_next.new.self (sends_covered (take i xs) (x ∷ [])) used);
      sent = rw front
          (sent_next g.F.Fate.answers c.args.now c.args.system.now (take i xs) x c.args.fate.now c.loop-send.fate
          c.send_next.new.fate (between c.args.self.now) (between c.loop-send.self) (between c.send_next.new.self)
          so_far.sent e.sent);
    }
