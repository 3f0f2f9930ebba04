use Rattle.std.proofs.Common.{codes}
use Rattle.rtmfp_words.proofs.Commanding.{begins_so, faulty_none, faulty_only, faulty_other, is_other, is_word}
use Rattle.rtmfp_words.proofs.Commanding.{meet_only, meet_refused, meet_refused_only, serve_only, serve_refused, serve_refused_only}
use Rattle.rtmfp_words.proofs.command_line.read_node.Goals as goal

pub returns-in_default-clause-says : goal.returns-in_default-clause-says
returns-in_default-clause-says c = faulty_none c.args.words.now c.requires c.in_default.ensures

pub returns-in_default-clause-only : goal.returns-in_default-clause-only
returns-in_default-clause-only c = faulty_only c.args.words.now _ (faulty_none c.args.words.now c.requires c.in_default.ensures)

pub returns-in-Ok-clause-only : goal.returns-in-Ok-clause-only
returns-in-Ok-clause-only c =
    let same = is_word c.in-Some.word.now (codes "meet") c.as_slice.result.now c.eq.result c.as_slice.ensures c.eq.ensures c.if-eq.true in
    let begins = begins_so c.args.words.now c.in-Some.word.now (codes "meet") _ c.in-Some.ensures same in
    meet_only c.args.words.now c.read_meet_words.result c.in-Ok.meet c.in-Ok.is c.requires begins c.read_meet_words.ensures.only

pub returns-in-Err-clause-says : goal.returns-in-Err-clause-says
returns-in-Err-clause-says c =
    let same = is_word c.in-Some.word.now (codes "meet") c.as_slice.result.now c.eq.result c.as_slice.ensures c.eq.ensures c.if-eq.true in
    let begins = begins_so c.args.words.now c.in-Some.word.now (codes "meet") _ c.in-Some.ensures same in
    meet_refused c.args.words.now c.read_meet_words.result c.in-Err.fault c.in-Err.is c.requires begins c.read_meet_words.ensures.only

pub returns-in-Err-clause-only : goal.returns-in-Err-clause-only
returns-in-Err-clause-only c =
    let same = is_word c.in-Some.word.now (codes "meet") c.as_slice.result.now c.eq.result c.as_slice.ensures c.eq.ensures c.if-eq.true in
    let begins = begins_so c.args.words.now c.in-Some.word.now (codes "meet") _ c.in-Some.ensures same in
    meet_refused_only c.args.words.now c.read_meet_words.result c.in-Err.fault c.in-Err.is c.requires begins c.read_meet_words.ensures.only

pub returns-in-Ok-read_serve_words-clause-only : goal.returns-in-Ok-read_serve_words-clause-only
returns-in-Ok-read_serve_words-clause-only c =
    let same = is_word c.in-Some.word.now (codes "serve") c.as_slice-2.result.now c.eq-2.result c.as_slice-2.ensures c.eq-2.ensures c.if-eq-2.true in
    let begins = begins_so c.args.words.now c.in-Some.word.now (codes "serve") _ c.in-Some.ensures same in
    serve_only c.args.words.now c.read_serve_words.result c.in-Ok-read_serve_words.serve c.in-Ok-read_serve_words.is c.requires begins c.read_serve_words.ensures.only

pub returns-in-Err-read_serve_words-clause-says : goal.returns-in-Err-read_serve_words-clause-says
returns-in-Err-read_serve_words-clause-says c =
    let same = is_word c.in-Some.word.now (codes "serve") c.as_slice-2.result.now c.eq-2.result c.as_slice-2.ensures c.eq-2.ensures c.if-eq-2.true in
    let begins = begins_so c.args.words.now c.in-Some.word.now (codes "serve") _ c.in-Some.ensures same in
    serve_refused c.args.words.now c.read_serve_words.result c.in-Err-read_serve_words.fault c.in-Err-read_serve_words.is c.requires begins c.read_serve_words.ensures.only

pub returns-in-Err-read_serve_words-clause-only : goal.returns-in-Err-read_serve_words-clause-only
returns-in-Err-read_serve_words-clause-only c =
    let same = is_word c.in-Some.word.now (codes "serve") c.as_slice-2.result.now c.eq-2.result c.as_slice-2.ensures c.eq-2.ensures c.if-eq-2.true in
    let begins = begins_so c.args.words.now c.in-Some.word.now (codes "serve") _ c.in-Some.ensures same in
    serve_refused_only c.args.words.now c.read_serve_words.result c.in-Err-read_serve_words.fault c.in-Err-read_serve_words.is c.requires begins c.read_serve_words.ensures.only

pub returns-clause-says : goal.returns-clause-says
returns-clause-says c =
    faulty_other c.args.words.now c.in-Some.word.now _ c.requires c.in-Some.ensures
    (is_other c.in-Some.word.now (codes "meet") c.as_slice.result.now c.eq.result c.as_slice.ensures c.eq.ensures c.if-eq.false)
    (is_other c.in-Some.word.now (codes "serve") c.as_slice-2.result.now c.eq-2.result c.as_slice-2.ensures c.eq-2.ensures c.if-eq-2.false)

pub returns-clause-only : goal.returns-clause-only
returns-clause-only c =
    faulty_only c.args.words.now _
    (faulty_other c.args.words.now c.in-Some.word.now _ c.requires c.in-Some.ensures
    (is_other c.in-Some.word.now (codes "meet") c.as_slice.result.now c.eq.result c.as_slice.ensures c.eq.ensures c.if-eq.false)
    (is_other c.in-Some.word.now (codes "serve") c.as_slice-2.result.now c.eq-2.result c.as_slice-2.ensures c.eq-2.ensures c.if-eq-2.false))
