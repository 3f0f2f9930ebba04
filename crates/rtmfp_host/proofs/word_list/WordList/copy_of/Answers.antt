use Rattle.std.proofs.Common.{◌≡◌, [], ◌∷◌, ◌++◌, string_bytes, ap, ◌∙◌, arith}
use Rattle.std.proofs.lemmas.Grind.{common_steps}
use Rattle.rtmfp_host.proofs.Copied.{copied}
use Rattle.rtmfp_host.proofs.word_list.WordList.copy_of.Goals as goal

pub loop-word-preserved : goal.loop-word-preserved
loop-word-preserved c =
    let pushed : c.push.new.self.items ≡ c.loop-word.copy.items ++ c.in_ok-word.word ∷ [] = grind (arith, common_steps) in
    rw pushed (copied string_bytes c.args.words.now c.loop-word.copy.items c.loop-word.word-index c.word-item.result c.in_ok-word.word c.loop-word-test.true c.loop-word.invariant (c.in_ok-word.ensures.ok ∙ c.as_str.ensures.value ∙ ap string_bytes c.word-item.is))
