use Rattle.std.proofs.Common.{◌≡◌, ℕ, List, ◌++◌, ◌<◌, length, sym, ap, subst, arith}
use Rattle.std.specs.Prelude.{OnOk}
use Rattle.crypto_profile.specs.Keys.{keys_of}
use Rattle.rtmfp_report.specs.SentText.{kinds_text}
use Rattle.rtmfp_report.proofs.Deciphered.{no_kinds}
use Rattle.rtmfp_report.proofs.sent.push_kinds_under.Goals as goal

pub returns-then-datagram : goal.returns-then-datagram
returns-then-datagram c =
    let short : length c.args.datagram.now < 36 = omega arith in
    let P : List ℕ → Type 0 = λ xs. OnOk c.push.result (c.push.new.self ≡ c.args.text.now ++ xs) in
    subst P (sym (ap kinds_text (no_kinds (keys_of c.args.group.now.secret c.args.context.now) c.args.datagram.now short))) c.push.ensures
