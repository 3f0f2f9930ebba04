use Rattle.std.proofs.Common.{ℕ, ◌≡◌, ◌+◌, ◌-◌, IfSome, List, length, Ok, Vec, Global, sym, ap, ◌∙◌, subst, arith}
use Rattle.std.specs.FinMap.{get}
use Rattle.std.proofs.lemmas.List.Elements.{All-pop}
use Rattle.rtmfp_fragments.specs.Answers.{split_into}
use Rattle.rtmfp_fragments.specs.Pieces.{PieceParts, piece_parts, pieces_of}
use Rattle.endpoint_model.specs.Sending.{limit_of, piece_body}
use Rattle.end_state.proofs.InPieces.{AreSmall, all_sent, none_sent, one_at_most, one_sent, small_pieces, spare, spare_next}
use Rattle.end_state.proofs.LongSent.{sent_long, split_ok, unsent_long}
use Rattle.end_state.proofs.end_state.EndState.send_long.Goals as goal

-- the pieces are those of the packet, in the size that the limit gives
pieces_are : (limit most : ℕ) (packet bytes : List ℕ) → limit ≡ most → bytes ≡ packet → pieces_of bytes (limit - 32) ≡ pieces_of packet (most - 32)
pieces_are limit most packet bytes limited same = ap (λ (n : ℕ). pieces_of bytes (n - 32)) limited ∙ ap (λ (xs : List ℕ). pieces_of xs (most - 32)) same

-- and so are those that the iterator over them gives
split_are : (limit most : ℕ) (packet bytes : List ℕ) (pieces all : List PieceParts) → limit ≡ most → bytes ≡ packet → Ok pieces ≡ split_into bytes (limit - 32) → all ≡ pieces → all ≡ pieces_of packet (most - 32)
split_are limit most packet bytes pieces all limited same split all_are = all_are ∙ split_ok bytes (limit - 32) pieces split ∙ pieces_are limit most packet bytes limited same

pub returns-in_default-take_id : goal.returns-in_default-take_id
returns-in_default-take_id c =
    let i = c.self.inside in
    let count_is = c.piece_count-count.ensures ∙ ap length (pieces_are c.limit.result (limit_of c.args.self.now) c.args.packet.now c.bytes-bytes.result.now c.limit.ensures.value c.bytes-bytes.ensures.bytes) in
    unsent_long i.settings i.moment i.sealed i.limit i.groups i.startup i.sessions.rows c.take_id.new.self.rows c.args.self.now c.args.near c.piece_count-count.result c.args.to.now c.args.packet.now c.args.out.now
    c.self.view_is count_is c.in_default-take_id.ensures.answer c.in_default-take_id.ensures.rows

pub loop-piece-init : goal.loop-piece-init
loop-piece-init c =
    let all_are =
    split_are c.limit.result (limit_of c.args.self.now) c.args.packet.now c.bytes-bytes.result.now c.in-Ok.pieces c.into_iter-piece-iterator.result c.limit.ensures.value c.bytes-bytes.ensures.bytes
    c.in-Ok.ensures c.into_iter-piece-iterator.ensures.into_iter_gives in
    record {
      sent = none_sent _ c.args.near c.args.to.now c.in-Some.id c.into_iter-piece-iterator.result c.args.out.now;
      small = subst AreSmall (sym all_are) (small_pieces c.args.packet.now (limit_of c.args.self.now - 32) (omega (arith, c.limit.ensures.value, c.limit.ensures.most)));
      blank = c.requires.first;
      blanks = c.requires.blanks;
      enough = omega (arith, ap length all_are, c.requires.enough);
      room = omega (arith, ap length all_are, c.requires.enough, c.requires.room);
    }

pub returns-in_default-next : goal.returns-in_default-next
returns-in_default-next c =
    let none : spare c.loop-piece.next c.loop-piece.more.items ≡ 0 = ap (λ next. spare next c.loop-piece.more.items) c.in_default-next.is in
    absurd (omega (arith, none, c.loop-piece.invariant.enough, ap length c.in-Some-piece.ensures.steps))

pub send_piece-requires-clause-blank : goal.send_piece-requires-clause-blank
send_piece-requires-clause-blank c = subst (λ next. IfSome next (λ (blank : Vec ℕ Global). length blank.items ≡ 1200)) c.in-Some-next.is c.loop-piece.invariant.blank

pub send_piece-requires-clause-short : goal.send_piece-requires-clause-short
send_piece-requires-clause-short c = (subst AreSmall c.in-Some-piece.ensures.steps c.loop-piece.invariant.small).0

pub send_piece-requires-clause-room : goal.send_piece-requires-clause-room
send_piece-requires-clause-room c = omega (arith, c.loop-piece.invariant.room, ap length c.in-Some-piece.ensures.steps)

pub loop-piece-preserved : goal.loop-piece-preserved
loop-piece-preserved c =
    let full = λ (blank : Vec ℕ Global). length blank.items ≡ 1200 in
    let popped = All-pop full c.loop-piece.more.items c.pop-next.new.self.items c.pop-next.result c.pop-next.ensures.items c.loop-piece.invariant.blanks in
    let spared = spare_next c.pop-next.result c.loop-piece.more.items c.pop-next.new.self.items c.pop-next.ensures.items (λ is. let none = rw is at c.pop-next.ensures.cases in sym c.loop-piece.more.ok.0 ∙ none.0) in
    let taken : spare c.loop-piece.next c.loop-piece.more.items ≡ 1 + length c.loop-piece.more.items = ap (λ next. spare next c.loop-piece.more.items) c.in-Some-next.is in
    let less = ap length c.in-Some-piece.ensures.steps in
    let one = one_at_most c.loop-piece.self c.args.near c.args.to.now (piece_body c.in-Some.id (piece_parts c.in-Some-piece.piece)) (get c.loop-piece.self.sessions c.args.near) in
    record {
      sent =
          one_sent _ c.loop-piece.self c.send_piece.new.self c.args.near c.args.to.now c.in-Some.id c.into_iter-piece-iterator.result c.args.out.now c.loop-piece.out c.send_piece.new.out
          c.loop-piece.piece-iterator (piece_parts c.in-Some-piece.piece) c.next.new.self c.in-Some-piece.ensures.steps c.loop-piece.invariant.sent c.send_piece.ensures;
      small = (subst AreSmall c.in-Some-piece.ensures.steps c.loop-piece.invariant.small).1;
      blank = popped.1;
      blanks = popped.0;
      enough = omega (arith, c.loop-piece.invariant.enough, spared, taken, less);
      room = omega (arith, c.loop-piece.invariant.room, less, c.send_piece.ensures.free, one);
    }

pub returns : goal.returns
returns c =
    let i = c.self.inside in
    let all_are =
    split_are c.limit.result (limit_of c.args.self.now) c.args.packet.now c.bytes-bytes.result.now c.in-Ok.pieces c.into_iter-piece-iterator.result c.limit.ensures.value c.bytes-bytes.ensures.bytes
    c.in-Ok.ensures c.into_iter-piece-iterator.ensures.into_iter_gives in
    let count_is = c.piece_count-count.ensures ∙ ap length (pieces_are c.limit.result (limit_of c.args.self.now) c.args.packet.now c.bytes-bytes.result.now c.limit.ensures.value c.bytes-bytes.ensures.bytes) in
    sent_long i.settings i.moment i.sealed i.limit i.groups i.startup i.sessions.rows c.take_id.new.self.rows c.args.self.now c.loop-piece.self c.args.near c.piece_count-count.result c.in-Some.id c.args.to.now c.args.packet.now
    c.into_iter-piece-iterator.result c.args.out.now c.loop-piece.out c.self.view_is all_are count_is c.in-Some.ensures.answer c.in-Some.ensures.rows
    (all_sent _ c.loop-piece.self c.args.near c.args.to.now c.in-Some.id c.into_iter-piece-iterator.result c.args.out.now c.loop-piece.out c.loop-piece.piece-iterator c.in-None.ensures.steps.0 c.loop-piece.invariant.sent)
