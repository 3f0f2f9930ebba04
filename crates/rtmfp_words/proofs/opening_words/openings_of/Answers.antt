use Rattle.std.proofs.Common.{◌≡◌, [], ◌∷◌, ◌++◌, Some, arith}
use Rattle.std.proofs.lemmas.Grind.{common_steps}
use Rattle.rtmfp_words.specs.declared.opening_words.OpeningWords.{OpeningWords}
use Rattle.rtmfp_words.proofs.Openings.{next_opening, bad_opening, no_opening}
use Rattle.rtmfp_words.proofs.opening_words.openings_of.Goals as goal

pub returns-in_default-opening_of : goal.returns-in_default-opening_of
returns-in_default-opening_of c = λ _. bad_opening c.loop-word.openings.items c.loop-word.rest.now c.in-Some.after.now c.args.words.now c.in-Some.word.now c.bytes.result.now c.opening_of.result c.loop-word.invariant c.in-Some.ensures.cases.0 c.bytes.ensures c.opening_of.ensures c.in_default-opening_of.is

pub loop-word-preserved : goal.loop-word-preserved
loop-word-preserved c =
    let opening : OpeningWords = record { whom = c.in-Some-opening_of.whom; at = c.in-Some-opening_of.at } in
    let opened : c.opening_of.result ≡ Some opening = grind (arith, common_steps) in
    let pushed : c.push.new.self.items ≡ c.loop-word.openings.items ++ opening ∷ [] = grind (arith, common_steps) in
    next_opening c.loop-word.openings.items c.push.new.self.items c.loop-word.rest.now c.in-Some.after.now c.args.words.now c.in-Some.word.now c.bytes.result.now opening c.opening_of.result c.loop-word.invariant c.in-Some.ensures.cases.0 c.bytes.ensures c.opening_of.ensures opened pushed

pub returns : goal.returns
returns c = no_opening c.loop-word.openings.items c.loop-word.rest.now c.args.words.now c.loop-word.invariant c.in_default.ensures.cases
