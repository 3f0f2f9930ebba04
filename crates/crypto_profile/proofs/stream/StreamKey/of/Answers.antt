use Rattle.std.proofs.Common.{◌≡◌, List, ℕ, map, bit_xor, ap, sym, subst, ◌∙◌, arith}
use Rattle.sha2.specs.Sha256.{compress, initial_hash_256}
use Rattle.crypto_profile.specs.Hmac.{inner_block, outer_block}
use Rattle.crypto_profile.specs.Streaming.{IsHashed}
use Rattle.crypto_profile.proofs.stream.StreamKey.of.Goals as goal

pub invariant_of-result : goal.invariant_of-result
invariant_of-result c =
    let of_inner : c.block_with.result ≡ inner_block c.args.key.now =
    c.block_with.ensures ∙ ap (λ (block : List ℕ). map (λ (byte : ℕ). bit_xor byte 0x36) block) c.key_block-block.ensures in
    let of_outer : c.block_with-2.result ≡ outer_block c.args.key.now =
    c.block_with-2.ensures ∙ ap (λ (block : List ℕ). map (λ (byte : ℕ). bit_xor byte 0x5c) block) c.key_block-block.ensures in
    let hashed : IsHashed c.args.key.now c.value_of.result c.value_of-2.result = record {
      long = c.told-key;
      inner =
          c.value_of.ensures ∙ c.compress-after.ensures c.block_with.result 0 (omega arith) c.words_of_two-words.ensures.first
          ∙ ap (λ s. compress s c.block_with.result) (c.initial.ensures 0 (omega arith)) ∙ ap (compress initial_hash_256) of_inner;
      outer =
          c.value_of-2.ensures ∙ c.compress-after.ensures c.block_with-2.result 1 (omega arith) c.words_of_two-words.ensures.second
          ∙ ap (λ s. compress s c.block_with-2.result) (c.initial.ensures 1 (omega arith)) ∙ ap (compress initial_hash_256) of_outer;
    } in
    subst (λ (key : List ℕ). IsHashed key c.value_of.result c.value_of-2.result) (sym c.of.ensures) hashed
