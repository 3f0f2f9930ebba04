use Rattle.std.proofs.Common.{◌≡◌, ℕ, ◌+◌, ◌-◌, ◌*◌, min, List, [], ◌∷◌, ◌++◌, length, take, drop, ap, sym, ◌∙◌, arith}
use Rattle.std.proofs.lemmas.List.{drop_min, drop-drop, take_min}
use Rattle.rtmfp_data_chunks.specs.declared.user_data.Part.{Part}
use Rattle.rtmfp_data_chunks.specs.Fragments.{Message, part_of, fragments_of_length, piece}
use Rattle.flow_send.specs.Rows.{Row}
use Rattle.flow_send.specs.Sender.{rows_of, new_row, fresh_row}
use Rattle.flow_send.proofs.Queuings.{rows_push}
use Rattle.flow_send.proofs.Steadies.{some_fragments}
use Rattle.flow_send.proofs.fragments.cut.Goals as goal

pub loop-at-init : goal.loop-at-init
loop-at-init c =
    let message = c.args.message.now in
    let most : c.min.result ≡ min 1000 (length message) = omega (arith, c.min.ensures) in
    (c.split_at.ensures.back ∙ (ap (λ k. drop k message) most ∙ drop_min 1000 message), λ n. ap (λ (rs : List Row). new_row (record { number = n; bytes = message }) n ∷ rs) c.in_ok-more.ensures.items)

pub returns : goal.returns
returns c = record {
  rows = λ n.
      let message = c.args.message.now in
      let m : Message = record { number = n; bytes = message } in
      let most : c.min.result ≡ min 1000 (length message) = omega (arith, c.min.ensures) in
      let first : c.split_at.result.0.now ≡ take 1000 message = c.split_at.ensures.front ∙ (ap (λ k. take k message) most ∙ take_min 1000 message) in
      let count : c.args.count ≡ fragments_of_length (length message) = c.requires.count in
      let e : 0 ≡ n - n = omega arith in
      let all : c.loop-at.at ≡ c.args.count = omega (arith, some_fragments (length message), count, c.loop-at-test.false, c.loop-at.auto.at-end) in
      let same : fresh_row (part_of c.args.count 0) (piece message 0) ≡ new_row m n = ap (λ k. fresh_row (part_of k 0) (piece message 0)) count ∙ ap (λ k. fresh_row (part_of (fragments_of_length (length message)) k) (piece message k)) e in
      ap (λ (r : Row). r ∷ c.loop-at.more.items) (c.in_ok-first.ensures ∙ (ap (λ (p : Part). fresh_row p c.split_at.result.0.now) c.part_of.ensures ∙ ap (fresh_row (part_of c.args.count 0)) first) ∙ same) ∙ (c.loop-at.invariant.1 n ∙ ap (λ (k : ℕ). rows_of m n k) all);
}

pub loop-at-preserved : goal.loop-at-preserved
loop-at-preserved c =
    let at = c.loop-at.at in
    let message = c.args.message.now in
    let now = c.loop-at.rest.now in
    let rest : now ≡ drop (1000 * at) message = c.loop-at.invariant.0 in
    let n : 1000 * at + 1000 ≡ 1000 * (at + 1) = omega arith in
    let least : min (length now) 1000 ≡ min 1000 (length now) = omega arith in
    let most : c.min-in-loop-at.result ≡ min 1000 (length now) = c.min-in-loop-at.ensures ∙ least in
    let next : c.split_at-in-loop-at.result.1.now ≡ drop 1000 now = c.split_at-in-loop-at.ensures.back ∙ (ap (λ k. drop k now) most ∙ drop_min 1000 now) in
    let first : c.split_at-in-loop-at.result.0.now ≡ piece message at = c.split_at-in-loop-at.ensures.front ∙ (ap (λ k. take k now) most ∙ (take_min 1000 now ∙ ap (λ (bs : List ℕ). take 1000 bs) rest)) in
    let row : c.in_ok-fragment.field-0 ≡ fresh_row (part_of c.args.count at) (piece message at) = c.in_ok-fragment.ensures ∙ (ap (λ (p : Part). fresh_row p c.split_at-in-loop-at.result.0.now) c.part_of-in-loop-at.ensures ∙ ap (fresh_row (part_of c.args.count at)) first) in
    let count : c.args.count ≡ fragments_of_length (length message) = c.requires.count in (
      next ∙ (ap (λ (bs : List ℕ). drop 1000 bs) rest ∙ (drop-drop 1000 (1000 * at) message ∙ ap (λ k. drop k message) n)),
      λ n.
          let m : Message = record { number = n; bytes = message } in
          let e : at ≡ n + at - n = omega arith in
          let same : fresh_row (part_of c.args.count at) (piece message at) ≡ new_row m (n + at) = ap (λ k. fresh_row (part_of k at) (piece message at)) count ∙ ap (λ k. fresh_row (part_of (fragments_of_length (length message)) k) (piece message k)) e in
          ap (λ (rs : List Row). new_row m n ∷ rs) c.in_ok-push_back.ensures.items ∙ (ap (λ (rs : List Row). rs ++ c.in_ok-fragment.field-0 ∷ []) (c.loop-at.invariant.1 n) ∙ (ap (λ (r : Row). rows_of m n at ++ r ∷ []) (row ∙ same) ∙ sym (rows_push m n at))),
    )
