use Rattle.std.proofs.Common.{◌≡◌, ◌<◌, ◌+◌, ◌-◌, ◌++◌, ◌∷◌, [], ℕ, List, Some, length, length-append, sym, ap, ◌∙◌, subst, arith}
use Rattle.rendezvous_world.specs.Datagrams.{nth}
use Rattle.rendezvous_world.specs.Inside.{sent_of}
use Rattle.rendezvous_world.specs.Sent.{sent_in}
use Rattle.rendezvous_world.specs.Keyed.{AreKeys}
use Rattle.rendezvous_world.proofs.Keying.{one_more_key, more_left}
use Rattle.rendezvous_world.proofs.forgery.note_keys.Goals as goal

pub loop-letter-preserved : goal.loop-letter-preserved
loop-letter-preserved c =
    let sent = sent_in c.args.lines.now in
    let keys = c.loop-letter.keyed in
    let there : nth sent (length keys + 1) ≡ Some (sent_of c.in-Some.letter) = ap (λ (n : ℕ). nth sent (n + 1)) (sym c.len.ensures) ∙ sym c.in-Some.ensures.letter in
    subst (λ (ks : List ℕ). AreKeys ks sent) (sym c.in-Ok.ensures.ok)
    (subst (λ (k : ℕ). AreKeys (keys ++ k ∷ []) sent) (sym c.key_of.ensures) (one_more_key keys sent (sent_of c.in-Some.letter) c.loop-letter.invariant there))

pub loop-letter-smaller : goal.loop-letter-smaller
loop-letter-smaller c =
    let sent = sent_in c.args.lines.now in
    let keys = c.loop-letter.keyed in
    let there : nth sent (length keys + 1) ≡ Some (sent_of c.in-Some.letter) = ap (λ (n : ℕ). nth sent (n + 1)) (sym c.len.ensures) ∙ sym c.in-Some.ensures.letter in
    let less : length keys < length sent = more_left keys sent (sent_of c.in-Some.letter) c.loop-letter.invariant there in
    let now = c.push.new.self in
    let longer : length now ≡ length keys + 1 = ap (λ (ks : List ℕ). length ks) c.in-Ok.ensures.ok ∙ length-append keys (c.key_of.result ∷ []) in
    let fewer : length sent - length now < length sent - length keys = omega (arith, less, longer) in
    fewer
